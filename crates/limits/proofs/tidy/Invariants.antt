use mathlib.Core.Bool.{true}
use mathlib.Core.Path.{◌≡◌}
use Prim.Native.Nat.{suc}
use lib.ListN.{get_or}
use Rattle.model.specs.Memory.{nowhere}
use Rattle.model.specs.Limits.{tidy}
use Rattle.limits.proofs.tidy.Given as goal

abbrev pub invariant-loop-last : goal.invariant-loop-last
invariant-loop-last l = (l.before ≡ get_or l.arrays l.last nowhere) × (tidy l.words l.arrays (suc l.last) ≡ true)
