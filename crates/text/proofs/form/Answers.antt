use Rattle.std.proofs.Common.{sym}
use borrow.Author.Tests.{eq-eqb, ne_eqb, le-leb, lt-leb}
use Rattle.model.specs.Tests.{when◌then◌else◌, ◌and◌}
use Rattle.text.specs.Commands.{formed}
use Rattle.text.proofs.form.Goals as goal

pub returns-in-Queue : goal.returns-in-Queue
unfolding formed ◌and◌ when◌then◌else◌
returns-in-Queue c = sym (rw (c.in-Queue.is, le-leb _ _ c.if-n-ge5.true, le-leb _ _ c.if-n-le6.true, le-leb _ _ c.if-v-le-STORE.true, c.value_at.ensures))

pub returns-in-Put : goal.returns-in-Put
unfolding formed ◌and◌ when◌then◌else◌
returns-in-Put c = sym (rw (c.in-Put.is, le-leb _ _ c.if-n-ge1.true, le-leb _ _ c.if-n-le4.true, c.value_at-in-Put.ensures, c.value_at-in-Put-2.ensures, c.value_at-in-Put-3.ensures, c.value_at-in-Put-4.ensures))

pub returns-in-Take : goal.returns-in-Take
unfolding formed when◌then◌else◌
returns-in-Take c = sym (rw (c.in-Take.is, eq-eqb _ _ c.if-n-eq0.true))

pub returns-in-Steal : goal.returns-in-Steal
unfolding formed when◌then◌else◌
returns-in-Steal c = sym (rw (c.in-Steal.is, eq-eqb _ _ c.if-n-eq1.true))

pub returns-in-Step : goal.returns-in-Step
unfolding formed ◌and◌ when◌then◌else◌
returns-in-Step c = sym (rw (c.in-Step.is, eq-eqb _ _ c.if-n-eq2.true, le-leb _ _ c.if-v-le-STEPS.true))

pub returns-in-Who : goal.returns-in-Who
unfolding formed when◌then◌else◌
returns-in-Who c = sym (rw (c.in-Who.is, eq-eqb _ _ c.if-n-eq1-2.true))

pub returns-in-End : goal.returns-in-End
unfolding formed when◌then◌else◌
returns-in-End c = sym (rw (c.in-End.is, eq-eqb _ _ c.if-n-eq0-2.true))

pub returns-in_default : goal.returns-in_default
unfolding formed ◌and◌ when◌then◌else◌
returns-in_default c = sym (rw (c.in-Queue.is, le-leb _ _ c.if-n-ge5.true, le-leb _ _ c.if-n-le6.true, lt-leb _ _ c.if-v-le-STORE.false))

pub returns-in_default-2 : goal.returns-in_default-2
unfolding formed ◌and◌ when◌then◌else◌
returns-in_default-2 c = sym (rw (c.in-Queue.is, le-leb _ _ c.if-n-ge5.true, lt-leb _ _ c.if-n-le6.false))

pub returns-in_default-3 : goal.returns-in_default-3
unfolding formed ◌and◌ when◌then◌else◌
returns-in_default-3 c = sym (rw (c.in-Queue.is, lt-leb _ _ c.if-n-ge5.false))

pub returns-in_default-4 : goal.returns-in_default-4
unfolding formed ◌and◌ when◌then◌else◌
returns-in_default-4 c = sym (rw (c.in-Put.is, le-leb _ _ c.if-n-ge1.true, lt-leb _ _ c.if-n-le4.false))

pub returns-in_default-5 : goal.returns-in_default-5
unfolding formed ◌and◌ when◌then◌else◌
returns-in_default-5 c = sym (rw (c.in-Put.is, lt-leb _ _ c.if-n-ge1.false))

pub returns-in_default-6 : goal.returns-in_default-6
unfolding formed when◌then◌else◌
returns-in_default-6 c = sym (rw (c.in-Take.is, ne_eqb _ _ c.if-n-eq0.false))

pub returns-in_default-7 : goal.returns-in_default-7
unfolding formed when◌then◌else◌
returns-in_default-7 c = sym (rw (c.in-Steal.is, ne_eqb _ _ c.if-n-eq1.false))

pub returns-in_default-8 : goal.returns-in_default-8
unfolding formed ◌and◌ when◌then◌else◌
returns-in_default-8 c = sym (rw (c.in-Step.is, eq-eqb _ _ c.if-n-eq2.true, lt-leb _ _ c.if-v-le-STEPS.false))

pub returns-in_default-9 : goal.returns-in_default-9
unfolding formed ◌and◌ when◌then◌else◌
returns-in_default-9 c = sym (rw (c.in-Step.is, ne_eqb _ _ c.if-n-eq2.false))

pub returns-in_default-10 : goal.returns-in_default-10
unfolding formed when◌then◌else◌
returns-in_default-10 c = sym (rw (c.in-Who.is, ne_eqb _ _ c.if-n-eq1-2.false))

pub returns-in_default-11 : goal.returns-in_default-11
unfolding formed when◌then◌else◌
returns-in_default-11 c = sym (rw (c.in-End.is, ne_eqb _ _ c.if-n-eq0-2.false))

pub returns-in_default-12 : goal.returns-in_default-12
unfolding formed
returns-in_default-12 c = sym (rw c.in_default.is)
