use Rattle.model.specs.Counts.{is_kind, count_below}
use mathlib.Core.Path.{◌≡◌}
use Rattle.handouts.proofs.Log.entries_of.Given as goal

abbrev pub invariant-loop-j : goal.invariant-loop-j
invariant-loop-j l = l.count ≡ count_below (is_kind l.self.words l.self.memory.now l.kind) l.j
