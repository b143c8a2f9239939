-- What queues that keep to the limits on one queue and to their quotas say of their arrays.
use mathlib.Core.List.{List, []}
use mathlib.Core.Path.{◌≡◌, sym, ap, subst, ◌∙◌}
use Prim.Native.Nat.{ℕ, ◌+◌, ◌≤◌, ◌<◌}
use native.Mathlib.Omega.{arith}
use lib.ListN.{length, get_or, take}
use Rattle.std.proofs.lemmas.List.{length-take-le}
use borrow.Author.Tests.{leb-true}
use Rattle.model.specs.declared.Bench.{Bench}
use Rattle.model.specs.declared.Plot.{Plot}
use Rattle.model.specs.declared.Yard.{Yard}
use Rattle.model.specs.Stores.{words_taken}
use Rattle.model.specs.Calls.{lent}
use Rattle.model.specs.Yard.{no_plot, plot_at, bench_at, quota_at}
use Rattle.model.proofs.Tests.{and_left, and_right}
use Rattle.limits.specs.Parts.{Laid}
use Rattle.limits.proofs.Waits.{laid}
use Rattle.plots.specs.Places.{keeps_at, Kept}
use Rattle.plots.proofs.Every.{each, taken_at}

-- the plots that are made, read from a slice of them
module _ (Y : Yard) (xs : List Plot) (n : ℕ) (is : xs ≡ take n Y.plots) (inside : n ≤ length Y.plots) where
  pub long : length xs ≡ n
  long = ap length is ∙ length-take-le n Y.plots inside

  pub read_at : (i : ℕ) (d : Plot) → i < length xs → get_or xs i d ≡ plot_at Y i
  read_at i d h = let n = long in ap (λ (l : List Plot). get_or l i d) is ∙ taken_at Y.plots _ i d no_plot inside (omega (arith, n))

module _ (Y : Yard) (kept : Kept Y) (q : ℕ) (h : q < Y.made) where
  pub laid_at : {b : Bench} → b ≡ bench_at Y q → Laid b.queue
  laid_at e =
      subst (λ (b : Bench). Laid b.queue) (sym e)
      (laid (lent (bench_at Y q) [] []) (and_left _ _ (each (keeps_at Y) Y.made q kept.1 h)))

  pub within_quota : {b : Bench} → b ≡ bench_at Y q → words_taken b.queue + b.aside ≤ quota_at Y q
  within_quota e =
      subst (λ (b : Bench). words_taken b.queue + b.aside ≤ quota_at Y q) (sym e)
      (leb-true _ _ (and_right _ _ (each (keeps_at Y) Y.made q kept.1 h)))
