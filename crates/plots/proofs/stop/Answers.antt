use Rattle.std.proofs.lemmas.Bool.{not_from_true, not_from_false}
use mathlib.Core.Path.{sym, ap, ◌∙◌}
use Prim.Native.Nat.{◌<◌, ◌≤◌}
use native.Mathlib.Omega.{arith}
use lib.ListN.{length}
use borrow.Author.Tests.{lt-ltb, le-ltb, le-leb, lt-leb}
use Rattle.model.specs.declared.Bench.{Bench}
use Rattle.model.specs.Yard.{bench_at}
use Rattle.model.proofs.Tests.{passed, refused, holds, fails, if_true, if_false}
use Rattle.plots.proofs.Rooms.{kept}
use Rattle.plots.proofs.stop.Goals as goal

pub returns-then-not-sound : goal.returns-then-not-sound
returns-then-not-sound c = sym (if_false _ (fails _ (refused c.sound.ensures (not_from_false _ c.if-not-sound.true))))

pub returns-then-yard-queue : goal.returns-then-yard-queue
returns-then-yard-queue c = let none = le-ltb _ _ c.if-yard-queue.true in
    sym (if_true _ (holds (passed c.sound.ensures (not_from_true _ c.if-not-sound.false)) ∙ if_false _ none) ∙ if_false _ none)

pub bench_at-bench-requires : goal.bench_at-bench-requires
bench_at-bench-requires c = let a = c.args in omega (arith, c.if-yard-queue.false, (kept a.yard a.store.now (passed c.sound.ensures (not_from_true _ c.if-not-sound.false))).0)

pub returns-then-log-written : goal.returns-then-log-written
returns-then-log-written c = let a = c.args in
    let e = ap (λ (b : Bench). b.written) c.bench_at-bench.ensures in
    let h : length a.log.now < (bench_at a.yard a.queue).written = omega (arith, c.if-log-written.true, e) in
    sym (if_false _ (holds (passed c.sound.ensures (not_from_true _ c.if-not-sound.false)) ∙ if_true _ (lt-ltb _ _ c.if-yard-queue.false) ∙ lt-leb _ _ h))

pub returns : goal.returns
returns c = let a = c.args in
    let e = ap (λ (b : Bench). b.written) c.bench_at-bench.ensures in
    let h : (bench_at a.yard a.queue).written ≤ length a.log.now = omega (arith, c.if-log-written.false, e) in
    let some = lt-ltb _ _ c.if-yard-queue.false in
    sym (if_true _ (holds (passed c.sound.ensures (not_from_true _ c.if-not-sound.false)) ∙ if_true _ some ∙ le-leb _ _ h) ∙ if_true _ some)
