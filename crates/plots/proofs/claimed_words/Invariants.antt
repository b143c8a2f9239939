use Rattle.std.proofs.Common.{◌≡◌, ◌≤◌, ◌*◌}
use Rattle.model.specs.Yard.{total_of, claimed_by}
use Rattle.plots.proofs.claimed_words.Given as goal

abbrev pub invariant-loop-plot : goal.invariant-loop-plot
invariant-loop-plot l = (l.sum ≡ total_of claimed_by l.yard.plots l.plot-index) × (l.sum ≤ l.plot-index * 4294967295)
