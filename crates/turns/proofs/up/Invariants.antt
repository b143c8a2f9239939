use Rattle.std.proofs.Common.{◌-◌, ◌≡◌}
use Rattle.turns.specs.Turns.{from, first_busy}
use Rattle.turns.proofs.up.Given as goal

abbrev pub invariant-loop-i : goal.invariant-loop-i
invariant-loop-i l = first_busy l.todo (from l.fn.first (8 - l.fn.first)) ≡ first_busy l.todo (from l.i (8 - l.i))
