use Rattle.std.proofs.Common.{◌-◌, ◌≤◌, length}
use Rattle.calls.proofs.play_lines.Given as goal

abbrev pub invariant-loop-end : goal.invariant-loop-end
invariant-loop-end l = l.used ≤ length l.buf

abbrev pub decreases-loop-end : goal.decreases-loop-end
decreases-loop-end l = length l.buf - l.used
