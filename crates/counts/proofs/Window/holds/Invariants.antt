use mathlib.Core.Path.{◌≡◌}
use Rattle.model.specs.Counts.{some_below}
use Rattle.counts.specs.Places.{stands}
use Rattle.counts.proofs.Window.holds.Given as goal

abbrev pub invariant-loop-j : goal.invariant-loop-j
invariant-loop-j l = some_below (stands l.self.bench.now.kind l.self.bench.now.words l.self.bench.now.queue.anchor l.self.array l.self.store.now l.task) l.j ≡ some_below (stands l.self.bench.now.kind l.self.bench.now.words l.self.bench.now.queue.anchor l.self.array l.self.store.now l.task) l.start

abbrev pub invariant-loop-j-2 : goal.invariant-loop-j-2
invariant-loop-j-2 l = some_below (stands l.self.bench.now.kind l.self.bench.now.words l.self.bench.now.queue.anchor l.self.array l.self.store.now l.task) l.size ≡ some_below (stands l.self.bench.now.kind l.self.bench.now.words l.self.bench.now.queue.anchor l.self.array l.self.store.now l.task) l.j
