use Rattle.model.specs.Calls.{drop_ask_of}
use mathlib.Core.Path.{refl, sym, ◌∙◌}
use Rattle.model.proofs.Tests.{if_true, if_false}
use Rattle.state.proofs.Replies.{same_returned}
use Rattle.events.proofs.drop_ask.Goals as goal

pub returns-then-not-valid : goal.returns-then-not-valid
unfolding drop_ask_of
returns-then-not-valid c = same_returned c.refused.ensures refl refl ∙ sym (if_false _ (sym c.valid.ensures ∙ c.if-not-valid.true))

pub returns : goal.returns
unfolding drop_ask_of
returns c = c.drop_ask_in.ensures _ _ ∙ sym (if_true _ (sym c.valid.ensures ∙ c.if-not-valid.false))
