use Rattle.std.proofs.Common.{◌≡◌, ℕ, Bool}
use Rattle.model.specs.Counts.{some_below}
use Rattle.handouts.proofs.scan.Given as goal

abbrev pub invariant-loop-j : goal.invariant-loop-j
invariant-loop-j g l = (p : ℕ → Bool) → ((k : ℕ) (r : Bool) → goal.F-post g l.test k r → r ≡ p k) → some_below p l.n ≡ some_below p l.j
