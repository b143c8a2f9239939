use borrow.Author.Rules.{rules}
use native.Mathlib.Omega.{arith}
use mathlib.Core.Path.{refl, ◌∙◌}
use Prim.Native.Nat.{◌<◌}
use lib.ListN.{set}
use Rattle.model.specs.Calls.{lent}
use Rattle.limits.proofs.Alone.{room_alone_lem}
use Rattle.rounds.proofs.Opening.{owner_left, can_step, once, own_line}
use Rattle.rounds.proofs.Playing.{playing_start, good, valid_here, wide_here, next, below, may, opens, played_out_lem, cut_off, on_settled, on_replaced}
use Rattle.rounds.proofs.play.Goals as goal

pub loop-n-init : goal.loop-n-init
loop-n-init c = (playing_start _ _ _ _ _ _ _ _ _ _ refl c.requires.fits (0, refl) (search rules) c.requires.order_len c.requires.others_len, refl, refl)

pub returns-then-n-most : goal.returns-then-n-most
returns-then-n-most c = let k = c.loop-n in
    let P = k.invariant.0 in
    let G = c.requires.good in
    let C = c.requires.complete in
    let w = c.chosen-worker.result in
    let N = next P G C c.loop-n-test.true c.args.given w c.requires.given_bound refl c.requires.order_len c.chosen-worker.ensures.0 c.chosen-worker.ensures.1 in
    let g = N.goes c.if-worker-eq8.false in
    cut_off P G C c.if-n-most.true g.0

pub overflow_add-worker : goal.overflow_add-worker
overflow_add-worker c = let k = c.loop-n in
    let P = k.invariant.0 in
    let G = c.requires.good in
    let C = c.requires.complete in
    let w = c.chosen-worker.result in
    let N = next P G C c.loop-n-test.true c.args.given w c.requires.given_bound refl c.requires.order_len c.chosen-worker.ensures.0 c.chosen-worker.ensures.1 in
    let g = N.goes c.if-worker-eq8.false in
    omega (arith, below P G C w g.0 g.1)

pub bounds-todo-i : goal.bounds-todo-i
bounds-todo-i c = let k = c.loop-n in
    let P = k.invariant.0 in
    let G = c.requires.good in
    let C = c.requires.complete in
    let w = c.chosen-worker.result in
    let N = next P G C c.loop-n-test.true c.args.given w c.requires.given_bound refl c.requires.order_len c.chosen-worker.ensures.0 c.chosen-worker.ensures.1 in
    let g = N.goes c.if-worker-eq8.false in
    omega (arith, below P G C w g.0 g.1)

pub bounds-bench-i : goal.bounds-bench-i
bounds-bench-i c = let k = c.loop-n in
    let P = k.invariant.0 in
    let G = c.requires.good in
    let C = c.requires.complete in
    let w = c.chosen-worker.result in
    let N = next P G C c.loop-n-test.true c.args.given w c.requires.given_bound refl c.requires.order_len c.chosen-worker.ensures.0 c.chosen-worker.ensures.1 in
    let g = N.goes c.if-worker-eq8.false in
    omega (arith, below P G C w g.0 g.1)

pub opened-begun-requires : goal.opened-begun-requires
opened-begun-requires c = let k = c.loop-n in
    let P = k.invariant.0 in
    let G = c.requires.good in
    let C = c.requires.complete in
    let w = c.chosen-worker.result in
    let N = next P G C c.loop-n-test.true c.args.given w c.requires.given_bound refl c.requires.order_len c.chosen-worker.ensures.0 c.chosen-worker.ensures.1 in
    let g = N.goes c.if-worker-eq8.false in
    let b = k.bench in record { words_nonzero = wide_here P G C; used_bound = omega (arith, (good P G C).numbers); left_nonzero = λ e z. owner_left b k.store k.log _ k.todo c.args.puts.now w (good P G C) (may P G C w g.0 g.1) (below P G C w g.0 g.1) P.fits P.eight P.owners e z }

pub room_alone-room-requires : goal.room_alone-room-requires
room_alone-room-requires c = let k = c.loop-n in let it = room_alone_lem (lent k.bench k.store k.log) (valid_here k.invariant.0 c.requires.good c.requires.complete) in record { claimed_nonzero = it.0; queue_value = it.1.0; queue_bound = it.1.1 }

pub step_in-moved-requires : goal.step_in-moved-requires
step_in-moved-requires c = let k = c.loop-n in
    let P = k.invariant.0 in
    let G = c.requires.good in
    let C = c.requires.complete in
    let w = c.chosen-worker.result in
    let N = next P G C c.loop-n-test.true c.args.given w c.requires.given_bound refl c.requires.order_len c.chosen-worker.ensures.0 c.chosen-worker.ensures.1 in
    let g = N.goes c.if-worker-eq8.false in
    let b = k.bench in
    let r = c.opened-begun.result in
    let O = opens P G C w g.0 g.1 r c.opened-begun.ensures.value c.opened-begun.ensures.value_2 in
    can_step b k.store k.log _ k.todo c.args.puts.now w r.line r.used (good P G C) (below P G C w g.0 g.1) O c.room_alone-room.result c.room_alone-room.ensures

pub bounds-todo-i-in-loop-n : goal.bounds-todo-i-in-loop-n
bounds-todo-i-in-loop-n c = let k = c.loop-n in
    let P = k.invariant.0 in
    let G = c.requires.good in
    let C = c.requires.complete in
    let w = c.chosen-worker.result in
    let N = next P G C c.loop-n-test.true c.args.given w c.requires.given_bound refl c.requires.order_len c.chosen-worker.ensures.0 c.chosen-worker.ensures.1 in
    let g = N.goes c.if-worker-eq8.false in
    omega (arith, below P G C w g.0 g.1)

pub settled-done-requires : goal.settled-done-requires
settled-done-requires c = let k = c.loop-n in
    let P = k.invariant.0 in
    let G = c.requires.good in
    let C = c.requires.complete in
    let w = c.chosen-worker.result in
    let N = next P G C c.loop-n-test.true c.args.given w c.requires.given_bound refl c.requires.order_len c.chosen-worker.ensures.0 c.chosen-worker.ensures.1 in
    let g = N.goes c.if-worker-eq8.false in record { place_bound = below P G C w g.0 g.1; fits = c.step_in-moved.ensures.fits }

pub loop-n-preserved-in_default : goal.loop-n-preserved-in_default
loop-n-preserved-in_default c = let k = c.loop-n in
    let P = k.invariant.0 in
    let G = c.requires.good in
    let C = c.requires.complete in
    let w = c.chosen-worker.result in
    let N = next P G C c.loop-n-test.true c.args.given w c.requires.given_bound refl c.requires.order_len c.chosen-worker.ensures.0 c.chosen-worker.ensures.1 in
    let g = N.goes c.if-worker-eq8.false in
    let b = k.bench in
    let r = c.opened-begun.result in
    let O = opens P G C w g.0 g.1 r c.opened-begun.ensures.value c.opened-begun.ensures.value_2 in
    let spare : k.n < c.args.most = omega (arith, P.paid, c.if-n-most.false) in
    let by =
    c.step_in-moved.ensures.log_after refl b.delayed b.waiting b.aside r.used w b.restarts (set b.workers w (record { line = r.line }))
    (once b k.store k.log _ k.todo c.args.puts.now w r.line r.used (good P G C) (below P G C w g.0 g.1) O) (λ h. refl)
    (own_line b k.store k.log _ k.todo c.args.puts.now w r.line r.used (good P G C) (below P G C w g.0 g.1) O) in (
      on_settled P G C w g.0 g.1 spare c.loop-n-test.true r O c.room_alone-room.result c.room_alone-room.ensures c.step_in-moved.result.line c.step_in-moved.result.made _ _ by c.up-higher.result _ c.up-higher.ensures c.still.ensures c.settled-done.result c.settled-done.ensures,
      c.step_in-moved.auto.store ∙ k.invariant.1,
      c.step_in-moved.auto.log ∙ k.invariant.2,
    )

pub bounds-bench-i-in-loop-n : goal.bounds-bench-i-in-loop-n
bounds-bench-i-in-loop-n c = let k = c.loop-n in
    let P = k.invariant.0 in
    let G = c.requires.good in
    let C = c.requires.complete in
    let w = c.chosen-worker.result in
    let N = next P G C c.loop-n-test.true c.args.given w c.requires.given_bound refl c.requires.order_len c.chosen-worker.ensures.0 c.chosen-worker.ensures.1 in
    let g = N.goes c.if-worker-eq8.false in
    omega (arith, below P G C w g.0 g.1)

pub loop-n-preserved : goal.loop-n-preserved
loop-n-preserved c = let k = c.loop-n in
    let P = k.invariant.0 in
    let G = c.requires.good in
    let C = c.requires.complete in
    let w = c.chosen-worker.result in
    let N = next P G C c.loop-n-test.true c.args.given w c.requires.given_bound refl c.requires.order_len c.chosen-worker.ensures.0 c.chosen-worker.ensures.1 in
    let g = N.goes c.if-worker-eq8.false in
    let b = k.bench in
    let r = c.opened-begun.result in
    let O = opens P G C w g.0 g.1 r c.opened-begun.ensures.value c.opened-begun.ensures.value_2 in
    let spare : k.n < c.args.most = omega (arith, P.paid, c.if-n-most.false) in
    let by =
    c.step_in-moved.ensures.log_after refl b.delayed b.waiting b.aside r.used w b.restarts (set b.workers w (record { line = r.line }))
    (once b k.store k.log _ k.todo c.args.puts.now w r.line r.used (good P G C) (below P G C w g.0 g.1) O) (λ h. refl)
    (own_line b k.store k.log _ k.todo c.args.puts.now w r.line r.used (good P G C) (below P G C w g.0 g.1) O) in (
      on_replaced P G C w g.0 g.1 spare c.loop-n-test.true r O c.room_alone-room.result c.room_alone-room.ensures c.step_in-moved.result.line c.step_in-moved.result.made _ _ by c.up-higher.result _ c.up-higher.ensures c.still.ensures c.in-Nothing.is,
      c.step_in-moved.auto.store ∙ k.invariant.1,
      c.step_in-moved.auto.log ∙ k.invariant.2,
    )

pub returns : goal.returns
returns c = let k = c.loop-n in
    let P = k.invariant.0 in
    let C = c.requires.complete in
    played_out_lem P c.requires.good C 256 (omega arith) (omega (arith, P.within, c.requires.complete.short))

pub returns-then-worker-eq8 : goal.returns-then-worker-eq8
returns-then-worker-eq8 c = let k = c.loop-n in
    let P = k.invariant.0 in
    let G = c.requires.good in
    let C = c.requires.complete in
    let w = c.chosen-worker.result in
    let N = next P G C c.loop-n-test.true c.args.given w c.requires.given_bound refl c.requires.order_len c.chosen-worker.ensures.0 c.chosen-worker.ensures.1 in
    played_out_lem P G C k.n refl (N.over c.if-worker-eq8.true)
