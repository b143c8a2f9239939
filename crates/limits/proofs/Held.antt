-- Links are looked at one after the other.
use mathlib.Core.Bool.{Bool, true, false, not}
use mathlib.Core.List.{List}
use mathlib.Core.Path.{◌≡◌, refl, ◌∙◌}
use Prim.Native.Nat.{ℕ, suc, ◌≤◌}
use Rattle.model.specs.declared.Kind.{Kind}
use Rattle.model.specs.declared.Queue.{Queue}
use Rattle.model.specs.declared.Worker.{Worker}
use Rattle.model.specs.Tests.{◌or◌}
use Rattle.model.specs.Lines.{holds_link}
use Rattle.model.specs.World.{line_at}
use Rattle.model.specs.Limits.{link_ok, links_ok}
use Rattle.model.proofs.Tests.{holds}
use Rattle.limits.proofs.Scan.{fails_by_lem}

module _ (κ : Kind) (q : Queue) (l : List Worker) where
  -- worker k's: not held, or held as it may be
  pub next_unheld : (k : ℕ) → links_ok κ q l k ≡ true → holds_link q k ≡ false → links_ok κ q l (suc k) ≡ true
  unfolding ◌or◌
  next_unheld k e h = holds e ∙ rw h

  pub next_link : (k : ℕ) (x : Bool) → links_ok κ q l k ≡ true → holds_link q k ≡ true → link_ok κ q (line_at l k) ≡ x → links_ok κ q l (suc k) ≡ x
  unfolding ◌or◌
  next_link k x e h f = holds e ∙ rw (h, f)

  pub no_links : (k n : ℕ) → k ≤ n → links_ok κ q l k ≡ false → links_ok κ q l n ≡ false
  no_links k n h e = fails_by_lem (links_ok κ q l) (λ k. not (holds_link q k) or link_ok κ q (line_at l k)) (λ k. refl) k n h e
