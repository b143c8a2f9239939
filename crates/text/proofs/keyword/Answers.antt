use Rattle.std.proofs.Common.{sym}
use Rattle.model.specs.Tests.{when◌then◌else◌}
use Rattle.text.specs.Commands.{key_of}
use Rattle.text.proofs.Lists.{said}
use Rattle.text.proofs.keyword.Goals as goal

pub returns-then-eq : goal.returns-then-eq
unfolding key_of when◌then◌else◌
returns-then-eq c = sym (rw (said _ _ _ c.eq.ensures c.as_slice.ensures c.if-eq.true))

pub returns-then-eq-2 : goal.returns-then-eq-2
unfolding key_of when◌then◌else◌
returns-then-eq-2 c = sym (rw (
  said _ _ _ c.eq.ensures c.as_slice.ensures c.if-eq.false,
  said _ _ _ c.eq-else-eq.ensures c.as_slice-else-eq.ensures c.if-eq-2.true,
))

pub returns-then-eq-3 : goal.returns-then-eq-3
unfolding key_of when◌then◌else◌
returns-then-eq-3 c = sym (rw (
  said _ _ _ c.eq.ensures c.as_slice.ensures c.if-eq.false,
  said _ _ _ c.eq-else-eq.ensures c.as_slice-else-eq.ensures c.if-eq-2.false,
  said _ _ _ c.eq-else-eq-2.ensures c.as_slice-else-eq-2.ensures c.if-eq-3.true,
))

pub returns-then-eq-4 : goal.returns-then-eq-4
unfolding key_of when◌then◌else◌
returns-then-eq-4 c = sym (rw (
  said _ _ _ c.eq.ensures c.as_slice.ensures c.if-eq.false,
  said _ _ _ c.eq-else-eq.ensures c.as_slice-else-eq.ensures c.if-eq-2.false,
  said _ _ _ c.eq-else-eq-2.ensures c.as_slice-else-eq-2.ensures c.if-eq-3.false,
  said _ _ _ c.eq-else-eq-3.ensures c.as_slice-else-eq-3.ensures c.if-eq-4.true,
))

pub returns-then-eq-5 : goal.returns-then-eq-5
unfolding key_of when◌then◌else◌
returns-then-eq-5 c = sym (rw (
  said _ _ _ c.eq.ensures c.as_slice.ensures c.if-eq.false,
  said _ _ _ c.eq-else-eq.ensures c.as_slice-else-eq.ensures c.if-eq-2.false,
  said _ _ _ c.eq-else-eq-2.ensures c.as_slice-else-eq-2.ensures c.if-eq-3.false,
  said _ _ _ c.eq-else-eq-3.ensures c.as_slice-else-eq-3.ensures c.if-eq-4.false,
  said _ _ _ c.eq-else-eq-4.ensures c.as_slice-else-eq-4.ensures c.if-eq-5.true,
))

pub returns-then-eq-6 : goal.returns-then-eq-6
unfolding key_of when◌then◌else◌
returns-then-eq-6 c = sym (rw (
  said _ _ _ c.eq.ensures c.as_slice.ensures c.if-eq.false,
  said _ _ _ c.eq-else-eq.ensures c.as_slice-else-eq.ensures c.if-eq-2.false,
  said _ _ _ c.eq-else-eq-2.ensures c.as_slice-else-eq-2.ensures c.if-eq-3.false,
  said _ _ _ c.eq-else-eq-3.ensures c.as_slice-else-eq-3.ensures c.if-eq-4.false,
  said _ _ _ c.eq-else-eq-4.ensures c.as_slice-else-eq-4.ensures c.if-eq-5.false,
  said _ _ _ c.eq-else-eq-5.ensures c.as_slice-else-eq-5.ensures c.if-eq-6.true,
))

pub returns-then-eq-7 : goal.returns-then-eq-7
unfolding key_of when◌then◌else◌
returns-then-eq-7 c = sym (rw (
  said _ _ _ c.eq.ensures c.as_slice.ensures c.if-eq.false,
  said _ _ _ c.eq-else-eq.ensures c.as_slice-else-eq.ensures c.if-eq-2.false,
  said _ _ _ c.eq-else-eq-2.ensures c.as_slice-else-eq-2.ensures c.if-eq-3.false,
  said _ _ _ c.eq-else-eq-3.ensures c.as_slice-else-eq-3.ensures c.if-eq-4.false,
  said _ _ _ c.eq-else-eq-4.ensures c.as_slice-else-eq-4.ensures c.if-eq-5.false,
  said _ _ _ c.eq-else-eq-5.ensures c.as_slice-else-eq-5.ensures c.if-eq-6.false,
  said _ _ _ c.eq-else-eq-6.ensures c.as_slice-else-eq-6.ensures c.if-eq-7.true,
))

pub returns-else-eq-7 : goal.returns-else-eq-7
unfolding key_of when◌then◌else◌
returns-else-eq-7 c = sym (rw (
  said _ _ _ c.eq.ensures c.as_slice.ensures c.if-eq.false,
  said _ _ _ c.eq-else-eq.ensures c.as_slice-else-eq.ensures c.if-eq-2.false,
  said _ _ _ c.eq-else-eq-2.ensures c.as_slice-else-eq-2.ensures c.if-eq-3.false,
  said _ _ _ c.eq-else-eq-3.ensures c.as_slice-else-eq-3.ensures c.if-eq-4.false,
  said _ _ _ c.eq-else-eq-4.ensures c.as_slice-else-eq-4.ensures c.if-eq-5.false,
  said _ _ _ c.eq-else-eq-5.ensures c.as_slice-else-eq-5.ensures c.if-eq-6.false,
  said _ _ _ c.eq-else-eq-6.ensures c.as_slice-else-eq-6.ensures c.if-eq-7.false,
))
