use mathlib.Core.Path.{ap, ◌∙◌}
use Prim.Native.Nat.{◌-◌}
use Rattle.model.specs.Tasks.{same_task}
use Rattle.model.specs.declared.Task.{Task}
use native.Mathlib.Omega.{arith}
use Rattle.model.proofs.Below.{some_at, some_hit, some_miss, some_none, up_miss}
use Rattle.handouts.proofs.Bools.{tasks_equal}
use Rattle.counts.proofs.Places.{stands_is}
use Rattle.counts.proofs.Window.holds.Goals as goal

pub returns-then-eq : goal.returns-then-eq
returns-then-eq c = let l = c.loop-j in let W = c.args.self.now in
    some_at _ _ l.j c.loop-j-test.true (c.eq.ensures ∙ tasks_equal _ _ ∙ ap (λ (t : Task). same_task t c.args.task) c.task.ensures) c.if-eq.true
    ∙ stands_is W.bench.now W.store.now c.args.task _ _ W.settled W.current c.size-size.ensures

pub loop-j-preserved : goal.loop-j-preserved
loop-j-preserved c = let l = c.loop-j in
    up_miss _ _ l.j l.invariant (c.eq.ensures ∙ tasks_equal _ _ ∙ ap (λ (t : Task). same_task t c.args.task) c.task.ensures) c.if-eq.false

pub returns-then-eq-2 : goal.returns-then-eq-2
returns-then-eq-2 c = let l = c.loop-j-2 in let W = c.args.self.now in let t = c.loop-j-2-test.true in
    some_hit _ _ l.j (l.j - 1) l.invariant (omega (arith, t)) (c.eq-in-loop-j-2.ensures ∙ tasks_equal _ _ ∙ ap (λ (t : Task). same_task t c.args.task) c.task-in-loop-j-2.ensures) c.if-eq-2.true
    ∙ stands_is W.bench.now W.store.now c.args.task _ _ W.settled W.current c.size-size.ensures

pub loop-j-2-preserved : goal.loop-j-2-preserved
loop-j-2-preserved c = let l = c.loop-j-2 in let t = c.loop-j-2-test.true in
    some_miss _ _ l.j (l.j - 1) l.invariant (omega (arith, t)) (c.eq-in-loop-j-2.ensures ∙ tasks_equal _ _ ∙ ap (λ (t : Task). same_task t c.args.task) c.task-in-loop-j-2.ensures) c.if-eq-2.false

pub returns : goal.returns
returns c = let l = c.loop-j-2 in let W = c.args.self.now in let z = c.loop-j-2-test.false in
    some_none _ _ l.j l.invariant (omega (arith, z))
    ∙ stands_is W.bench.now W.store.now c.args.task _ _ W.settled W.current c.size-size.ensures
