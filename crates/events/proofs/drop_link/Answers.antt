use Rattle.model.specs.Calls.{lent, drop_link_of}
use Rattle.model.proofs.Alone.{within_alone}
use Rattle.limits.proofs.Bounds.{bounds_of}
use mathlib.Core.Path.{refl, sym, ◌∙◌}
use Rattle.model.proofs.Tests.{if_true, if_false}
use Rattle.state.proofs.Replies.{same_returned}
use Rattle.events.proofs.drop_link.Goals as goal

pub returns-then-not-valid : goal.returns-then-not-valid
unfolding drop_link_of
returns-then-not-valid c = same_returned c.refused.ensures refl refl ∙ sym (if_false _ (sym c.valid.ensures ∙ c.if-not-valid.true))

pub drop_link_in-requires : goal.drop_link_in-requires
drop_link_in-requires c = let a = c.args in
    let W = lent a.bench a.store.now a.log.now in
    (bounds_of W (within_alone W (sym c.valid.ensures ∙ c.if-not-valid.false)).limits).crew

pub returns : goal.returns
unfolding drop_link_of
returns c = c.drop_link_in.ensures _ _ ∙ sym (if_true _ (sym c.valid.ensures ∙ c.if-not-valid.false))
