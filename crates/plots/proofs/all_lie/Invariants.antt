use Rattle.std.proofs.Common.{◌≡◌, true}
use Rattle.model.specs.Yard.{all_below}
use Rattle.plots.specs.Places.{lies_at}
use Rattle.plots.proofs.all_lie.Given as goal

abbrev pub invariant-loop-place : goal.invariant-loop-place
invariant-loop-place l = all_below (lies_at l.yard) l.place ≡ true
