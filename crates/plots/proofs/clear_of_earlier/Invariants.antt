use Rattle.std.proofs.Common.{◌≡◌, true}
use Rattle.model.specs.Yard.{all_below, no_overlap, queue_at}
use Rattle.plots.proofs.clear_of_earlier.Given as goal

abbrev pub invariant-loop-plot : goal.invariant-loop-plot
invariant-loop-plot l = all_below (λ r. no_overlap l.queue (queue_at l.yard r)) l.plot-index ≡ true
