use mathlib.Core.Path.{◌≡◌}
use Rattle.model.specs.Calls.{lent}
use Rattle.model.specs.Counts.{count_below, is_lost}
use Rattle.counts.proofs.Window.lost.Given as goal

abbrev pub invariant-loop-j : goal.invariant-loop-j
invariant-loop-j l = l.count ≡ count_below (is_lost (lent l.self.bench.now l.self.store.now l.outs.log.memory.now) l.outs.entries) l.j
