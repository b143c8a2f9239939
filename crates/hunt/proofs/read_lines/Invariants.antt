use Rattle.std.proofs.Common.{◌≤◌}
use Rattle.hunt.proofs.read_lines.Given as goal

abbrev pub invariant-loop-at : goal.invariant-loop-at
invariant-loop-at l = l.used ≤ l.at
