use Rattle.lines.specs.Actions.{Ready}
use Rattle.model.specs.Lines.{line_step}
use native.Mathlib.Omega.{arith}
use mathlib.Core.Path.{sym, ◌∙◌}
use Rattle.lines.proofs.next_line.Goals as goal

pub put_test-requires : goal.put_test-requires
unfolding Ready
put_test-requires c = let h = rw c.in-PutTest.is at c.requires.ready in
    (h.0, omega (arith, c.size_at-size.ensures, c.requires.the_ground.small))

pub put_on-requires : goal.put_on-requires
unfolding Ready
put_on-requires c = let h = rw c.in-PutWord.is at c.requires.ready in
    omega (arith, h.2, c.requires.the_ground.wide)

pub past_claim-requires : goal.past_claim-requires
unfolding Ready
past_claim-requires c = let G = c.requires.the_ground in
    let h = rw c.in-Claim.is at c.requires.ready in record { published_nonzero = (G.some, G.listed); published_bound = omega (arith, G.doubled, G.small); small = G.brief; claimed_value = h.0 }

pub note_for-requires : goal.note_for-requires
unfolding Ready
note_for-requires c = rw c.in-Note.is at c.requires.ready

pub copy_on-requires : goal.copy_on-requires
unfolding Ready
copy_on-requires c = let h = rw c.in-Copy.is at c.requires.ready in
    h.1

pub taken_word-value-requires : goal.taken_word-value-requires
unfolding Ready
taken_word-value-requires c = let h = rw c.in-TakeWord.is at c.requires.ready in record { wide = c.requires.the_ground.wide; at_bound = h.2.0; head_bound = h.0; read_value = h.1; slotted = h.2.1; inside = h.2.2; word_le_words = h.3 }

pub with_word-known-requires : goal.with_word-known-requires
unfolding Ready
with_word-known-requires c = let h = rw c.in-TakeWord.is at c.requires.ready in
    omega (arith, h.3, c.requires.the_ground.wide)

pub take_on-requires : goal.take_on-requires
unfolding Ready
take_on-requires c = let h = rw c.in-TakeWord.is at c.requires.ready in
    omega (arith, h.3, c.requires.the_ground.wide)

pub stolen_word-value-requires : goal.stolen_word-value-requires
unfolding Ready
stolen_word-value-requires c = let h = rw c.in-StealWord.is at c.requires.ready in record { wide = c.requires.the_ground.wide; at_bound = h.2.0; read_value = h.1; slotted = h.2.1; inside = h.2.2; word_le_words = h.3 }

pub with_word-known-requires-in-StealWord : goal.with_word-known-requires-in-StealWord
unfolding Ready
with_word-known-requires-in-StealWord c = let h = rw c.in-StealWord.is at c.requires.ready in
    omega (arith, h.3, c.requires.the_ground.wide)

pub steal_on-requires : goal.steal_on-requires
unfolding Ready
steal_on-requires c = let h = rw c.in-StealWord.is at c.requires.ready in
    omega (arith, h.3, c.requires.the_ground.wide)

pub next_head-h2-requires : goal.next_head-h2-requires
unfolding Ready
next_head-h2-requires c = let h = rw c.in-StealNext.is at c.requires.ready in
    omega (arith, h)

pub returns-in-Idle : goal.returns-in-Idle
unfolding line_step
returns-in-Idle c = λ w. simp c.in-Idle.is

pub returns-in-PutRead : goal.returns-in-PutRead
unfolding line_step
returns-in-PutRead c = λ w. simp (c.in-PutRead.is, c.put_read.ensures)

pub returns-in-PutTail : goal.returns-in-PutTail
unfolding line_step
returns-in-PutTail c = λ w. simp (c.in-PutTail.is, c.with_tail-read.ensures)

pub returns-in-PutTest : goal.returns-in-PutTest
unfolding line_step
returns-in-PutTest c = let size = c.size_at-size.ensures ∙ sym c.requires.the_ground.doubled in
    λ w. simp (c.in-PutTest.is, size, c.put_test.ensures)

pub returns-in-PutWord : goal.returns-in-PutWord
unfolding line_step
returns-in-PutWord c = λ w. simp (c.in-PutWord.is, c.put_on.ensures)

pub returns-in-PutFinish : goal.returns-in-PutFinish
unfolding line_step
returns-in-PutFinish c = λ w. simp c.in-PutFinish.is

pub returns-in-Claim : goal.returns-in-Claim
unfolding line_step
returns-in-Claim c = let G = c.requires.the_ground in
    λ w. simp c.in-Claim.is (c.past_claim.ensures c.args.words c.args.worker (G.doubled, G.small))

pub returns-in-Note : goal.returns-in-Note
unfolding line_step
returns-in-Note c = let size = c.size_at-size-in-Note.ensures ∙ sym c.requires.the_ground.doubled in
    λ w. simp (c.in-Note.is, size, c.note_for.ensures)

pub returns-in-Copy : goal.returns-in-Copy
unfolding line_step
returns-in-Copy c = λ w. simp (c.in-Copy.is, c.copy_on.ensures)

pub returns-in-Publish : goal.returns-in-Publish
unfolding line_step
returns-in-Publish c = λ w. simp c.in-Publish.is (c.past_publish.ensures _ _)

pub returns-in-TakeRead : goal.returns-in-TakeRead
unfolding line_step
returns-in-TakeRead c = λ w. simp (c.in-TakeRead.is, c.take_read.ensures)

pub returns-in-TakeTail : goal.returns-in-TakeTail
unfolding line_step
returns-in-TakeTail c = λ w. simp (c.in-TakeTail.is, c.with_tail-read-in-TakeTail.ensures)

pub returns-in-TakeTest : goal.returns-in-TakeTest
unfolding line_step
returns-in-TakeTest c = let a = c.args in
    λ w. simp c.in-TakeTest.is (rw c.take_first.ensures at (c.past_empty.ensures a.worker))

pub returns-in-TakeWord : goal.returns-in-TakeWord
unfolding line_step
returns-in-TakeWord c = λ w. simp (c.in-TakeWord.is, c.taken_word-value.ensures, c.with_word-known.ensures, c.take_on.ensures)

pub returns-in-TakeFinish : goal.returns-in-TakeFinish
unfolding line_step
returns-in-TakeFinish c = λ w. simp c.in-TakeFinish.is

pub returns-in-StealRead : goal.returns-in-StealRead
unfolding line_step
returns-in-StealRead c = λ w. simp (c.in-StealRead.is, c.steal_read.ensures)

pub returns-in-StealTail : goal.returns-in-StealTail
unfolding line_step
returns-in-StealTail c = λ w. simp (c.in-StealTail.is, c.with_tail-read-in-StealTail.ensures)

pub returns-in-StealTest : goal.returns-in-StealTest
unfolding line_step
returns-in-StealTest c = λ w. simp c.in-StealTest.is (c.past_empty-in-StealTest.ensures _)

pub returns-in-StealNote : goal.returns-in-StealNote
unfolding line_step
returns-in-StealNote c = λ w. simp (c.in-StealNote.is, c.steal_first.ensures)

pub returns-in-StealWord : goal.returns-in-StealWord
unfolding line_step
returns-in-StealWord c = λ w. simp (c.in-StealWord.is, c.stolen_word-value.ensures, c.with_word-known-in-StealWord.ensures, c.steal_on.ensures)

pub returns-in-StealNext : goal.returns-in-StealNext
unfolding line_step
returns-in-StealNext c = λ w. simp (c.in-StealNext.is, c.next_head-h2.ensures)

pub returns-in-StealCompare : goal.returns-in-StealCompare
unfolding line_step
returns-in-StealCompare c = λ w. simp c.in-StealCompare.is (c.past_compare.ensures _ _)
