use Rattle.std.proofs.Common.{arith, sym, ap, ◌∙◌}
use Rattle.model.specs.Tests.{when◌then◌else◌}
use Rattle.model.specs.Calls.{call_of}
use Rattle.plays.proofs.Said.{says_step}
use Rattle.plays.proofs.call.Goals as goal

pub returns-in-1 : goal.returns-in-1
unfolding when◌then◌else◌
returns-in-1 c = rw c.in-1.is c.begin.ensures

pub returns-in-2 : goal.returns-in-2
unfolding when◌then◌else◌
returns-in-2 c = rw c.in-2.is c.begin-in-2.ensures

pub returns-in-3 : goal.returns-in-3
unfolding when◌then◌else◌
returns-in-3 c = rw c.in-3.is c.begin-in-3.ensures

pub returns-in-4 : goal.returns-in-4
unfolding when◌then◌else◌
returns-in-4 c = rw c.in-4.is c.drop_link.ensures

pub returns-in-5 : goal.returns-in-5
unfolding when◌then◌else◌
returns-in-5 c = rw c.in-5.is c.drain.ensures

pub returns-in-6 : goal.returns-in-6
unfolding when◌then◌else◌
returns-in-6 c = rw c.in-6.is c.begin-in-6.ensures

pub returns-in-7 : goal.returns-in-7
unfolding when◌then◌else◌
returns-in-7 c = rw c.in-7.is c.ask.ensures

pub returns-in-8 : goal.returns-in-8
unfolding when◌then◌else◌
returns-in-8 c = rw c.in-8.is c.drop_ask.ensures

pub returns-in_default : goal.returns-in_default
returns-in_default c =
    c.step.ensures ∙ sym (ap (call_of _) (says_step _ _ _ (λ e. omega arith) (λ e. omega arith) (λ e. omega arith) (λ e. omega arith) (λ e. omega arith) (λ e. omega arith) (λ e. omega arith) (λ e. omega arith)))
