use native.Mathlib.Omega.{arith}
use Rattle.model.specs.Calls.{lent, drain_of}
use Rattle.model.proofs.Alone.{within_alone}
use mathlib.Core.Path.{refl, sym, ◌∙◌}
use Rattle.model.proofs.Tests.{if_true, if_false}
use Rattle.state.proofs.Replies.{same_returned}
use Rattle.events.proofs.drain.Goals as goal

pub returns-then-not-valid : goal.returns-then-not-valid
unfolding drain_of
returns-then-not-valid c = same_returned c.refused.ensures refl refl ∙ sym (if_false _ (sym c.valid.ensures ∙ c.if-not-valid.true))

pub drain_in-requires : goal.drain_in-requires
drain_in-requires c = let a = c.args in
    let W = lent a.bench a.store.now a.log.now in
    let I = within_alone W (sym c.valid.ensures ∙ c.if-not-valid.false) in record { store_value = I.limits; queue_in_bounds = omega (arith, I.behind, I.inside) }

pub returns : goal.returns
unfolding drain_of
returns c = let a = c.args in
    c.drain_in.ensures a.log.now ∙ sym (if_true _ (sym c.valid.ensures ∙ c.if-not-valid.false))
