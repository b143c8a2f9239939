use Rattle.std.proofs.Common.{◌≡◌, ◌≤◌, length}
use Rattle.replies.specs.Sessions.{program_of}
use Rattle.listing.specs.Consuming.{Reachable}
use Rattle.bench.proofs.play_some.Given as goal

abbrev pub invariant-loop : goal.invariant-loop
invariant-loop l = (l.from ≤ l.n) × (length l.buf ≡ length l.fn.buf) × Reachable (program_of l.session l.store l.log)
