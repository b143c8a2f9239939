use mathlib.Core.Path.{refl, sym, subst, ◌∙◌}
use native.Mathlib.Omega.{arith}
use borrow.Author.Tests.{lt-ltb, le-ltb}
use Rattle.model.specs.Calls.{lent}
use Rattle.model.proofs.Tests.{if_true, if_false}
use Rattle.state.proofs.Replies.{same_returned}
use Rattle.events.specs.Idling.{OwnerStops}
use Rattle.events.proofs.drop_ask_in.Goals as goal

pub returns-then-words-eq0 : goal.returns-then-words-eq0
returns-then-words-eq0 c = λ m l.
    let a = c.args in
    let goes = (subst (OwnerStops (lent a.bench m l) a.worker) c.in_default.is (c.owner_stop-stop.ensures m l)).1 in
    same_returned c.refused-then-words-eq0.ensures refl refl
    ∙ sym (goes _ ∙ if_false _ (le-ltb 0 a.bench.aside (omega (arith, c.if-words-eq0.true))))

pub returns : goal.returns
returns c = λ m l.
    let a = c.args in
    let goes = (subst (OwnerStops (lent a.bench m l) a.worker) c.in_default.is (c.owner_stop-stop.ensures m l)).1 in
    c.set_aside.ensures m l ∙ sym (goes _ ∙ if_true _ (lt-ltb 0 a.bench.aside (omega (arith, c.if-words-eq0.false))))
