use mathlib.Core.Path.{◌≡◌}
use Prim.Native.Nat.{ℕ}
use mathlib.Core.List.{List}
use Rattle.model.specs.Stores.{shared, landed_all, in_line}
use Rattle.waiting.specs.Places.{first_in}
use Rattle.waiting.proofs.seen.Given as goal

abbrev pub invariant-loop-landing : goal.invariant-loop-landing
invariant-loop-landing l = (v : ℕ) (m : List ℕ) → l.next ≡ (landed_all v (shared l.initial.next m) (first_in (in_line l.fn.waiting) l.landing-index)).queue
