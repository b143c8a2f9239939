use Rattle.std.proofs.lemmas.Bool.{not_from_true, not_from_false}
use mathlib.Core.Path.{sym, ◌∙◌}
use borrow.Author.Tests.{leb-true}
use Rattle.model.proofs.Tests.{holds, fails, passed, refused, and_right}
use Rattle.limits.proofs.frame_ok.Goals as goal

pub returns-then-not-kind_ok : goal.returns-then-not-kind_ok
returns-then-not-kind_ok c = sym
    (fails _ (refused c.kind_ok.ensures (not_from_false _ c.if-not-kind_ok.true)))

pub returns-then-not-width_ok : goal.returns-then-not-width_ok
returns-then-not-width_ok c = sym
    (holds (passed c.kind_ok.ensures (not_from_true _ c.if-not-kind_ok.false))
    ∙ fails _ (refused c.width_ok.ensures (not_from_false _ c.if-not-width_ok.true)))

pub returns-then-not-words_ok : goal.returns-then-not-words_ok
returns-then-not-words_ok c = sym
    (holds (passed c.kind_ok.ensures (not_from_true _ c.if-not-kind_ok.false))
    ∙ holds (passed c.width_ok.ensures (not_from_true _ c.if-not-width_ok.false))
    ∙ fails _ (refused c.words_ok.ensures (not_from_false _ c.if-not-words_ok.true)))

pub returns-then-not-crew_ok : goal.returns-then-not-crew_ok
returns-then-not-crew_ok c = sym
    (holds (passed c.kind_ok.ensures (not_from_true _ c.if-not-kind_ok.false))
    ∙ holds (passed c.width_ok.ensures (not_from_true _ c.if-not-width_ok.false))
    ∙ holds (passed c.words_ok.ensures (not_from_true _ c.if-not-words_ok.false))
    ∙ fails _ (refused c.crew_ok.ensures (not_from_false _ c.if-not-crew_ok.true)))

pub directory_ok-requires : goal.directory_ok-requires
directory_ok-requires c = leb-true _ _ (and_right _ _ (passed c.words_ok.ensures (not_from_true _ c.if-not-words_ok.false)))

pub returns : goal.returns
returns c = c.directory_ok.ensures
    ∙ sym
    (holds (passed c.kind_ok.ensures (not_from_true _ c.if-not-kind_ok.false))
    ∙ holds (passed c.width_ok.ensures (not_from_true _ c.if-not-width_ok.false))
    ∙ holds (passed c.words_ok.ensures (not_from_true _ c.if-not-words_ok.false))
    ∙ holds (passed c.crew_ok.ensures (not_from_true _ c.if-not-crew_ok.false)))
