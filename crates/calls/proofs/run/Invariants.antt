use Rattle.std.proofs.Common.{◌≤◌}
use Rattle.calls.proofs.run.Given as goal

abbrev pub invariant-loop : goal.invariant-loop
invariant-loop l = l.have ≤ 75
