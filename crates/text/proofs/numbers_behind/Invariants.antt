use Rattle.std.proofs.Common.{◌≤◌, length, take}
use Rattle.text.proofs.Fields.{Read}
use Rattle.text.proofs.numbers_behind.Given as goal

abbrev pub invariant-loop-n : goal.invariant-loop-n
invariant-loop-n l = (l.at ≤ length l.line) × Read l.line l.at (take l.n l.v)
