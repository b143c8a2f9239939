use Rattle.limits.proofs.Lengths.{half_of_all}
use Rattle.model.proofs.Tests.{holds, fails}
use borrow.Author.Tests.{eq-eqb, ne_eqb, le-leb, lt-leb}
use mathlib.Core.Path.{sym, ◌∙◌}
use Rattle.limits.proofs.follows.Goals as goal

pub returns-then-next-end : goal.returns-then-next-end
returns-then-next-end c = sym (fails _ (lt-leb _ _ c.if-next-end.true))

pub returns-then-next-long : goal.returns-then-next-long
returns-then-next-long c = sym (holds (le-leb _ _ c.if-next-end.false) ∙ fails _ (ne_eqb _ _ c.if-next-long.true))

pub returns : goal.returns
returns c = let a = c.args in
    sym (holds (le-leb _ _ c.if-next-end.false) ∙ holds (eq-eqb _ _ c.if-next-long.false) ∙ half_of_all a.words a.before.length)
