use mathlib.Core.Bool.{true}
use mathlib.Core.Path.{◌≡◌}
use Rattle.model.specs.declared.Queue.{Queue}
use Rattle.model.specs.Limits.{links_ok}
use Rattle.limits.specs.Parts.{workers_ok, Reached}
use Rattle.limits.proofs.workers_ok.Given as goal

abbrev pub invariant-loop-worker : goal.invariant-loop-worker
invariant-loop-worker l = (links_ok l.bench.kind l.bench.queue l.bench.workers l.worker ≡ true)
    × ((p : Queue) → Reached l.scope.owner l.scope.words l.scope.first p
    → workers_ok l.bench.kind l.bits l.bench.words l.bench.queue p l.bench.crew l.bench.workers l.worker ≡ true)
