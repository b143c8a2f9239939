use native.Mathlib.Omega.{arith}
use lib.ListN.{length}
use Rattle.model.proofs.Alone.{least_right}
use Rattle.slots.proofs.Room.{last_ends, room_is}
use Rattle.slots.proofs.room_alone.Goals as goal

pub overflow_add-next : goal.overflow_add-next
overflow_add-next c = let e = last_ends c.args.queue c.region_at-last.ensures in
    omega (arith, e, c.requires.queue_bound, least_right (length c.args.store.now) 10235)

pub overflow_sub-left : goal.overflow_sub-left
overflow_sub-left c = let e = last_ends c.args.queue c.region_at-last.ensures in
    omega (arith, e, c.requires.queue_bound, c.usable-n.ensures)

pub returns : goal.returns
returns c = room_is c.args.queue c.args.store.now c.requires.queue_value c.requires.queue_bound (last_ends c.args.queue c.region_at-last.ensures)
    c.usable-n.ensures
