use Rattle.std.proofs.Common.{take}
use Rattle.text.specs.Numbers.{Placed, spaced_of}
use Rattle.text.proofs.print.Given as goal

abbrev pub invariant-loop-value : goal.invariant-loop-value
invariant-loop-value l = Placed l.initial.out l.initial.end (spaced_of (take l.value-index l.values)) l.end l.out
