use Rattle.std.proofs.Common.{◌≡◌, ◌*◌, ◌≤◌}
use Rattle.model.specs.Calls.{restarts_of}
use Rattle.model.specs.Counts.{sum_below}
use Rattle.counts.proofs.restarts_of.Given as goal

abbrev pub invariant-loop-n : goal.invariant-loop-n
invariant-loop-n l = (l.sum ≤ l.n-index * 4294967295) × (l.sum ≡ sum_below (restarts_of l.fn.each) l.n-index)
