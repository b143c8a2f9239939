use mathlib.Core.Path.{refl, sym, ap, ◌∙◌}
use borrow.Author.Tests.{lt-ltb, le-ltb}
use Rattle.model.specs.declared.Queue.{Queue}
use Rattle.model.specs.declared.Answer.TheVariants.{Accepted}
use Rattle.model.specs.Stores.{shared}
use Rattle.model.specs.World.{remembered}
use Rattle.model.specs.Calls.{lent}
use Rattle.model.proofs.Tests.{if_true, if_false}
use Rattle.state.proofs.Replies.{same_returned}
use Rattle.events.proofs.drop_link_in.Goals as goal

pub returns-then-bench-worker : goal.returns-then-bench-worker
returns-then-bench-worker c = λ m l. same_returned c.refused.ensures refl refl ∙ sym (if_false _ (le-ltb _ _ c.if-bench-worker.true))

pub returns-then-not-queue-i : goal.returns-then-not-queue-i
returns-then-not-queue-i c = λ m l.
    same_returned c.refused-then-not-queue-i.ensures refl refl
    ∙ sym (if_true _ (lt-ltb _ _ c.if-bench-worker.false) ∙ if_false _ (c.if-not-queue-i.true))

pub returns : goal.returns
returns c = λ m l.
    let a = c.args in
    ap (λ (q : Queue). record { world = remembered (lent a.bench m l) (shared q m) a.bench.waiting a.bench.aside; answer = Accepted }) c.with_link-next.ensures
    ∙ sym (if_true _ (lt-ltb _ _ c.if-bench-worker.false) ∙ if_true _ (c.if-not-queue-i.false))
