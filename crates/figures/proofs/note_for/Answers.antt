use native.Mathlib.Omega.{arith}
use Rattle.figures.specs.Bounds.{Ordered}
use Rattle.figures.proofs.note_for.Goals as goal

pub overflow_sub-anchor : goal.overflow_sub-anchor
unfolding Ordered
overflow_sub-anchor c = omega (arith, rw c.in-Fifo.is at c.requires)
