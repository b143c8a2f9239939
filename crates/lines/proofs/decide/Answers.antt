use mathlib.Core.Path.{refl, ap, subst}
use Prim.Native.Nat.{ℕ, ◌+◌, ◌-◌, ◌*◌}
use native.Mathlib.Omega.{arith}
use lib.ListN.{length}
use Rattle.model.specs.Memory.{offset_at}
use Rattle.model.specs.Lines.{line_step}
use Rattle.slots.specs.Bounds.{Power, Sized}
use Rattle.slots.proofs.Places.{slot_is, slot_few, read_in}
use Rattle.lines.specs.Actions.{Ready, claims_by, PlacedIn, stores_by, answer_by, fails_by, Lands, Doable}
use Rattle.lines.proofs.Copies.{copies_are}
use Rattle.lines.proofs.LastLines.{put_concludes, take_concludes}
use Rattle.lines.proofs.decide.Goals as goal

pub put_slot-slot-requires : goal.put_slot-slot-requires
unfolding Ready
put_slot-slot-requires c = let h = rw c.in-PutWord.is at c.requires.ready in record { at_bound = h.1.0; head_bound = h.0; at_bound_2 = omega (arith, h.1.1.0); power = subst Power h.1.1.0.0 h.1.1.1 }

pub word_in-value-requires : goal.word_in-value-requires
unfolding Ready
word_in-value-requires c = let h = rw c.in-PutWord.is at c.requires.ready in
    omega (arith, h.2, c.requires.the_ground.wide)

pub put_store-left-requires : goal.put_store-left-requires
unfolding Ready
put_store-left-requires c = let h = rw c.in-PutFinish.is at c.requires.ready in
    omega (arith, h)

pub claim-requires : goal.claim-requires
unfolding Ready
claim-requires c = let h = rw c.in-Claim.is at c.requires.ready in record { published_nonzero = (c.requires.the_ground.some, c.requires.the_ground.listed); published_bound = omega (arith, c.requires.the_ground.doubled, c.requires.the_ground.small); small = c.requires.the_ground.brief; claimed_value = h.0 }

pub overflow_add-index : goal.overflow_add-index
unfolding Ready
overflow_add-index c = let h = rw c.in-Copy.is at c.requires.ready in
    omega (arith, h)

pub read_task-task-requires : goal.read_task-task-requires
unfolding Ready
read_task-task-requires c = let h = rw c.in-Copy.is at c.requires.ready in record { wide = c.requires.the_ground.wide; at_bound = h.2.0; slotted = h.2.1; inside = h.2.2 }

pub slot_at-slot-requires : goal.slot_at-slot-requires
unfolding Ready
slot_at-slot-requires c = let h = rw c.in-Copy.is at c.requires.ready in record { at_bound = h.3.0; at_bound_2 = omega (arith, h.3.1.0); power = subst Power h.3.1.0.0 h.3.1.1 }

pub take_store-left-requires : goal.take_store-left-requires
unfolding Ready
take_store-left-requires c = let h = rw c.in-TakeFinish.is at c.requires.ready in record { head_bound = h.0.0; read_value = h.1 }

pub compare-requires : goal.compare-requires
unfolding Ready
compare-requires c = let it = rw c.in-StealCompare.is at c.requires.ready in record { range = it.0; read_value = it.1 }

pub returns-in-Idle : goal.returns-in-Idle
unfolding line_step claims_by PlacedIn stores_by answer_by fails_by Doable
returns-in-Idle c = let e = c.in-Idle.is in record { does = record { claims = simp e; place = tt; stores = simp e; answer = simp e }; doable = tt; result_value = simp e }

pub returns-in-PutRead : goal.returns-in-PutRead
unfolding line_step claims_by PlacedIn stores_by answer_by fails_by Doable
returns-in-PutRead c = let e = c.in-PutRead.is in record { does = record { claims = simp e; place = tt; stores = simp e; answer = simp e }; doable = tt; result_value = simp e }

pub returns-in-PutTail : goal.returns-in-PutTail
unfolding line_step claims_by PlacedIn stores_by answer_by fails_by Doable
returns-in-PutTail c = let e = c.in-PutTail.is in record { does = record { claims = simp e; place = tt; stores = simp e; answer = simp e }; doable = tt; result_value = simp e }

pub returns-in-PutTest : goal.returns-in-PutTest
unfolding line_step claims_by PlacedIn stores_by answer_by fails_by Doable
returns-in-PutTest c = let e = c.in-PutTest.is in record { does = record { claims = simp e; place = tt; stores = simp e; answer = simp e }; doable = tt; result_value = simp e }

pub returns-in-PutWord : goal.returns-in-PutWord
unfolding line_step claims_by PlacedIn stores_by answer_by fails_by Doable Lands Ready
returns-in-PutWord c = let a = c.args in
    let e = c.in-PutWord.is in
    let h = rw e at c.requires.ready in
    let slot = slot_is a.kind a.words a.queue _ _ h.1.1 c.put_slot-slot.ensures in
    let few = slot_few a.kind a.words a.queue _ _ h.1.1 c.put_slot-slot.ensures in
    let place = offset_at a.queue.arrays (a.queue.published - 1) in
    let inside = read_in a.kind a.words a.queue (length a.store.now) _ _ _ h.1.1 h.1.2 h.2 in record { does = record { claims = simp e; place = tt; stores = simp (e, slot, c.word_in-value.ensures); answer = simp e }; doable = (h.1.0, few, h.2, omega (arith, ap (λ (x : ℕ). place + (a.words + 1) * x) slot, inside)); result_value = simp e }

pub returns-in-PutFinish : goal.returns-in-PutFinish
unfolding line_step claims_by PlacedIn stores_by answer_by fails_by Doable
returns-in-PutFinish c = let a = c.args in
    let e = c.in-PutFinish.is in
    let left = c.put_store-left.ensures in record { does = record { claims = simp e; place = tt; stores = simp (e, left); answer = simp e }; doable = (put_concludes a.queue _ a.kind a.width left, refl); result_value = simp e }

pub returns-in-Claim : goal.returns-in-Claim
unfolding line_step claims_by PlacedIn stores_by answer_by fails_by Doable Ready
returns-in-Claim c = let e = c.in-Claim.is in
    let free = rw e at c.requires.ready in
    let a = c.args in
    let S : Sized a.words a.queue (a.queue.published - 1) = (c.requires.the_ground.doubled, c.requires.the_ground.small) in
    let does = c.claim.ensures.by_index a.words S in record { does = record { claims = simp e does.claims; place = does.place; stores = simp e does.stores; answer = simp e does.answer }; doable = c.claim.ensures.by_index_2 a.words _ S free c.requires.left_in_bounds; result_value = simp (e, c.claim.ensures.result_value) }

pub returns-in-Note : goal.returns-in-Note
unfolding line_step claims_by PlacedIn stores_by answer_by fails_by Doable
returns-in-Note c = let e = c.in-Note.is in record { does = record { claims = simp e; place = tt; stores = simp e; answer = simp e }; doable = tt; result_value = simp e }

pub returns-in-Copy : goal.returns-in-Copy
unfolding line_step claims_by PlacedIn stores_by answer_by fails_by Doable Lands Ready
returns-in-Copy c = let a = c.args in
    let e = c.in-Copy.is in
    let h = rw e at c.requires.ready in
    let wide = c.requires.the_ground.wide.1 in
    let slot = slot_is a.kind a.words a.queue _ _ h.3.1 c.slot_at-slot.ensures in
    let few = slot_few a.kind a.words a.queue _ _ h.3.1 c.slot_at-slot.ensures in
    let place = offset_at a.queue.arrays a.queue.published in
    let inside = read_in a.kind a.words a.queue (length a.store.now) _ _ a.words h.3.1 h.3.2 (omega arith) in
    let copies = copies_are a.kind a.words a.queue a.store.now _ wide slot c.read_task-task.ensures in record { does = record { claims = simp e; place = tt; stores = simp e copies; answer = simp e }; doable = (h.3.0, few, omega (arith, ap (λ (x : ℕ). place + (a.words + 1) * x) slot, inside)); result_value = simp e }

pub returns-in-Publish : goal.returns-in-Publish
unfolding line_step claims_by PlacedIn stores_by answer_by fails_by Doable
returns-in-Publish c = let e = c.in-Publish.is in
    let does = c.publish.ensures.does c.args.room c.args.words in record { does = record { claims = simp e does.claims; place = does.place; stores = simp e does.stores; answer = simp e does.answer }; doable = c.publish.ensures.by_index _ _; result_value = simp (e, c.publish.ensures.result_value) }

pub returns-in-TakeRead : goal.returns-in-TakeRead
unfolding line_step claims_by PlacedIn stores_by answer_by fails_by Doable
returns-in-TakeRead c = let e = c.in-TakeRead.is in record { does = record { claims = simp e; place = tt; stores = simp e; answer = simp e }; doable = tt; result_value = simp e }

pub returns-in-TakeTail : goal.returns-in-TakeTail
unfolding line_step claims_by PlacedIn stores_by answer_by fails_by Doable
returns-in-TakeTail c = let e = c.in-TakeTail.is in record { does = record { claims = simp e; place = tt; stores = simp e; answer = simp e }; doable = tt; result_value = simp e }

pub returns-in-TakeTest : goal.returns-in-TakeTest
unfolding line_step claims_by PlacedIn stores_by answer_by fails_by Doable
returns-in-TakeTest c = let e = c.in-TakeTest.is in
    let does = c.stop_empty.ensures.does c.args.room c.args.words _ in record { does = record { claims = simp e does.claims; place = does.place; stores = simp e does.stores; answer = simp e does.answer }; doable = c.stop_empty.ensures.by_index _ _ _; result_value = simp (e, c.stop_empty.ensures.result_value) }

pub returns-in-TakeWord : goal.returns-in-TakeWord
unfolding line_step claims_by PlacedIn stores_by answer_by fails_by Doable
returns-in-TakeWord c = let e = c.in-TakeWord.is in record { does = record { claims = simp e; place = tt; stores = simp e; answer = simp e }; doable = tt; result_value = simp e }

pub returns-in-TakeFinish : goal.returns-in-TakeFinish
unfolding line_step claims_by PlacedIn stores_by answer_by fails_by Doable
returns-in-TakeFinish c = let a = c.args in
    let e = c.in-TakeFinish.is in
    let left = c.take_store-left.ensures in record { does = record { claims = simp e; place = tt; stores = simp (e, left); answer = simp e }; doable = (take_concludes a.queue _ a.kind left, refl); result_value = simp e }

pub returns-in-StealRead : goal.returns-in-StealRead
unfolding line_step claims_by PlacedIn stores_by answer_by fails_by Doable
returns-in-StealRead c = let e = c.in-StealRead.is in record { does = record { claims = simp e; place = tt; stores = simp e; answer = simp e }; doable = tt; result_value = simp e }

pub returns-in-StealTail : goal.returns-in-StealTail
unfolding line_step claims_by PlacedIn stores_by answer_by fails_by Doable
returns-in-StealTail c = let e = c.in-StealTail.is in record { does = record { claims = simp e; place = tt; stores = simp e; answer = simp e }; doable = tt; result_value = simp e }

pub returns-in-StealTest : goal.returns-in-StealTest
unfolding line_step claims_by PlacedIn stores_by answer_by fails_by Doable
returns-in-StealTest c = let e = c.in-StealTest.is in
    let does = c.stop_empty-in-StealTest.ensures.does c.args.room c.args.words _ in record { does = record { claims = simp e does.claims; place = does.place; stores = simp e does.stores; answer = simp e does.answer }; doable = c.stop_empty-in-StealTest.ensures.by_index _ _ _; result_value = simp (e, c.stop_empty-in-StealTest.ensures.result_value) }

pub returns-in-StealNote : goal.returns-in-StealNote
unfolding line_step claims_by PlacedIn stores_by answer_by fails_by Doable
returns-in-StealNote c = let e = c.in-StealNote.is in record { does = record { claims = simp e; place = tt; stores = simp e; answer = simp e }; doable = tt; result_value = simp e }

pub returns-in-StealWord : goal.returns-in-StealWord
unfolding line_step claims_by PlacedIn stores_by answer_by fails_by Doable
returns-in-StealWord c = let e = c.in-StealWord.is in record { does = record { claims = simp e; place = tt; stores = simp e; answer = simp e }; doable = tt; result_value = simp e }

pub returns-in-StealNext : goal.returns-in-StealNext
unfolding line_step claims_by PlacedIn stores_by answer_by fails_by Doable
returns-in-StealNext c = let e = c.in-StealNext.is in record { does = record { claims = simp e; place = tt; stores = simp e; answer = simp e }; doable = tt; result_value = simp e }

pub returns-in-StealCompare : goal.returns-in-StealCompare
unfolding line_step claims_by PlacedIn stores_by answer_by fails_by Doable
returns-in-StealCompare c = let e = c.in-StealCompare.is in
    let does = c.compare.ensures.does c.args.room c.args.words in record { does = record { claims = simp e does.claims; place = does.place; stores = simp e does.stores; answer = simp e does.answer }; doable = c.compare.ensures.by_index _ _; result_value = simp (e, c.compare.ensures.result_value) }
