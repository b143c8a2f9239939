use Rattle.std.proofs.Common.{◌≡◌, ◌≤◌, drop}
use Rattle.text.specs.Numbers.{value_of}
use Rattle.text.proofs.Digits.{read_on}
use Rattle.text.proofs.number.Given as goal

abbrev pub invariant-loop-b : goal.invariant-loop-b
invariant-loop-b l = (l.v ≤ 4294967295) × (read_on l.v (drop l.b-index l.word) ≡ value_of l.word)
