use mathlib.Core.Path.{◌≡◌}
use mathlib.Core.Bool.{false}
use Prim.Native.Nat.{◌-◌}
use lib.ListN.{length, take}
use Rattle.model.specs.Calls.{lent}
use Rattle.model.specs.Listing.{steps_of}
use Rattle.listing.specs.Consuming.{Live}
use Rattle.replies.specs.Sessions.{world_of, program_of}
use Rattle.listing.proofs.Stepping.{Stepping}
use Rattle.listing.proofs.Standing.{session_of, Standing}
use Rattle.listing.proofs.consume.Given as goal

abbrev pub invariant-loop-left : goal.invariant-loop-left
invariant-loop-left l = Stepping (steps_of (world_of (session_of l.live l.long l.initial.bench) l.initial.store l.initial.log) l.worker l.times) (session_of l.live l.long l.bench) l.store l.log l.worker l.left l.initial.out l.initial.wrote l.wrote l.out
    × Live (lent l.bench (take l.long l.store) l.log) × (length l.store ≡ length l.initial.store) × (length l.log ≡ length l.initial.log) × (length l.out ≡ length l.initial.out)

abbrev pub decreases-loop-left : goal.decreases-loop-left
decreases-loop-left l = l.left

abbrev pub invariant-lines : goal.invariant-lines
invariant-lines l = Standing (program_of (session_of l.initial.live l.initial.long l.initial.bench) l.initial.store l.initial.log) l.buf (session_of l.live l.long l.bench) l.store l.log l.out l.used l.wrote
    × (length l.store ≡ length l.initial.store) × (length l.log ≡ length l.initial.log) × (length l.out ≡ length l.initial.out) × (l.stops ≡ false)

abbrev pub decreases-lines : goal.decreases-lines
decreases-lines l = length l.buf - l.used
