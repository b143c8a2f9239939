-- The oldest waiting store: it has a place, and what it leaves.
use mathlib.Core.Bool.{true}
use mathlib.Core.List.{List, [], ◌∷◌}
use mathlib.Core.Path.{◌≡◌, sym, ap, subst, ◌∙◌}
use Prim.Native.Nat.{ℕ, ◌≤◌, ◌<◌}
use native.Mathlib.Omega.{arith}
use lib.ListN.{length}
use Rattle.model.specs.declared.Queue.{Queue}
use Rattle.model.specs.declared.Store.{Store}
use Rattle.model.specs.declared.Waiting.{Waiting}
use Rattle.model.specs.Stores.{shared, landed, oldest, one_less, taken}
use Rattle.model.specs.World.{World, remembered, memory, owners_view}
use Rattle.model.specs.Limits.{bench_ok}
use Rattle.model.specs.Calls.{drained}
use Rattle.waiting.specs.Places.{notes_ok, Placed}
use Rattle.waiting.proofs.Line.{one_note, placed_at}
use Rattle.waiting.proofs.Line as line
use Rattle.limits.proofs.Waits.{waits_noted, waits_placed}

module _ (W : World) (v : bench_ok W.bench W.bench.queue (owners_view W).queue ≡ true) (fits : taken W.bench.queue ≤ length W.store) (some : 0 < W.bench.waiting.count) (eight : length W.bench.waiting.stores ≡ 8) where
  pub oldest_placed : {s : Store} → s ≡ oldest W.bench.waiting → Placed W.bench.words W.bench.queue (length W.store) s
  oldest_placed e =
      subst (Placed W.bench.words W.bench.queue (length W.store)) (sym e)
      (placed_at W.bench.words W.bench.queue (length W.store) W.bench.waiting.stores 0 W.bench.waiting.count some
      (omega (arith, eight)) (waits_placed W v fits))

  pub oldest_noted : {s : Store} → s ≡ oldest W.bench.waiting → notes_ok (s ∷ []) ≡ true
  oldest_noted e =
      subst (λ (x : Store). notes_ok (x ∷ []) ≡ true) (sym e)
      (one_note (oldest W.bench.waiting)
      (line.oldest_noted W.bench.waiting.stores W.bench.waiting.count some (omega (arith, eight)) (waits_noted W v)))

same_world : (W : World) {q r : Queue} {m n : List ℕ} {k l : Waiting} → q ≡ r → m ≡ n → k ≡ l
    → remembered W (shared q m) k W.bench.aside ≡ remembered W (shared r n) l W.bench.aside
same_world W e f g = rw (e, f, g)

-- the store s has landed, and left the line
pub drains : (W : World) {s : Store} {q : Queue} {m : List ℕ} {l : Waiting} → s ≡ oldest W.bench.waiting
    → ((v : ℕ) (n : List ℕ) → q ≡ (landed v (shared W.bench.queue n) s).queue) → m ≡ (landed W.bench.words (memory W) s).store
    → l ≡ one_less W.bench.waiting → remembered W (shared q m) l W.bench.aside ≡ drained W
drains W e f g h =
    same_world W
    (f W.bench.words W.store ∙ ap (λ (x : Store). (landed W.bench.words (memory W) x).queue) e)
    (g ∙ ap (λ (x : Store). (landed W.bench.words (memory W) x).store) e)
    h
