use Rattle.std.proofs.Common.{◌≤◌}
use Rattle.hunt.proofs.read_wish.Given as goal

abbrev pub invariant-loop : goal.invariant-loop
invariant-loop l = l.have ≤ 72
