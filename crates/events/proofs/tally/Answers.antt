use mathlib.Core.Path.{sym, ◌∙◌}
use Rattle.model.specs.Calls.{lent, who_of}
use Rattle.model.proofs.Tests.{if_true, if_false}
use Rattle.model.proofs.Alone.{within_alone}
use Rattle.limits.proofs.Bounds.{bounds_of}
use Rattle.events.proofs.tally.Goals as goal

pub returns-then-not-valid : goal.returns-then-not-valid
unfolding who_of
returns-then-not-valid c = sym (if_false _ (sym c.valid.ensures ∙ c.if-not-valid.true))

pub tally_in-requires : goal.tally_in-requires
tally_in-requires c = let a = c.args in
    let W = lent a.bench a.store.now a.log.now in
    (bounds_of W (within_alone W (sym c.valid.ensures ∙ c.if-not-valid.false)).limits).crew

pub returns : goal.returns
unfolding who_of
returns c = let a = c.args in
    c.tally_in.ensures a.store.now a.log.now ∙ sym (if_true _ (sym c.valid.ensures ∙ c.if-not-valid.false))
