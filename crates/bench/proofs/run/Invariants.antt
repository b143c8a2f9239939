use Rattle.std.proofs.Common.{◌≤◌}
use Rattle.replies.specs.Sessions.{program_of}
use Rattle.listing.specs.Consuming.{Reachable}
use Rattle.bench.proofs.run.Given as goal

abbrev pub invariant-loop : goal.invariant-loop
invariant-loop l = (l.have ≤ 72) × Reachable (program_of l.session l.store l.log)
