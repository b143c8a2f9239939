use mathlib.Core.Path.{refl, ap, ◌∙◌}
use Rattle.model.specs.Calls.{lent}
use Rattle.model.specs.Listing.{playing, respond}
use Rattle.replies.proofs.Replies.{begin_at_once, who_at_once, put_right, put_wrong}
use Rattle.replies.proofs.refused_at_once.Goals as goal

pub returns-then-words-bench : goal.returns-then-words-bench
unfolding respond
returns-then-words-bench c = let a = c.args in
    λ m l v. (c.if-not-live.false, ap (respond (playing (lent a.bench m l))) c.in-BeginPut.is ∙ put_wrong (lent a.bench m l) _ _ c.if-words-bench.true)

pub returns-then-bench-worker : goal.returns-then-bench-worker
returns-then-bench-worker c = λ m l v. let h = c.if-not-live.false in (h, who_at_once (lent c.args.bench m l) _ _ (v h) c.if-bench-worker.true c.in-Who.is)

pub returns-in-Open : goal.returns-in-Open
unfolding respond
returns-in-Open c = λ m l v. (c.if-not-live.false, rw c.in-Open.is refl)

pub returns-else-words-bench : goal.returns-else-words-bench
unfolding respond
returns-else-words-bench c = let a = c.args in
    λ m l v. let h = c.if-not-live.false in begin_at_once _ _ _ _ a.command c.begin_stop.result h (v h) (c.begin_stop.ensures m l) (ap (respond (playing (lent a.bench m l))) c.in-BeginPut.is ∙ put_right (lent a.bench m l) _ _ c.if-words-bench.false)

pub returns-in-BeginTake : goal.returns-in-BeginTake
unfolding respond
returns-in-BeginTake c = λ m l v. let h = c.if-not-live.false in begin_at_once _ _ _ _ c.args.command c.begin_stop-in-BeginTake.result h (v h) (c.begin_stop-in-BeginTake.ensures m l) (ap (respond (playing (lent c.args.bench m l))) c.in-BeginTake.is)

pub returns-in-BeginSteal : goal.returns-in-BeginSteal
unfolding respond
returns-in-BeginSteal c = λ m l v. let h = c.if-not-live.false in begin_at_once _ _ _ _ c.args.command c.begin_stop-in-BeginSteal.result h (v h) (c.begin_stop-in-BeginSteal.ensures m l) (ap (respond (playing (lent c.args.bench m l))) c.in-BeginSteal.is)

pub returns-in-Bad : goal.returns-in-Bad
unfolding respond
returns-in-Bad c = λ m l v. (c.if-not-live.false, rw c.in-Bad.is refl)
