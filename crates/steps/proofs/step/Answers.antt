use mathlib.Core.Bool.{true≢false}
use mathlib.Core.Path.{refl, sym, subst, ◌∙◌}
use native.Mathlib.Omega.{arith}
use Rattle.model.specs.Calls.{lent}
use Rattle.limits.proofs.Waits.{waits_few, waits_noted, waits_placed}
use Rattle.machine.proofs.Stepping.{settles}
use Rattle.waiting.specs.Places.{KeptBy}
use Rattle.owner.proofs.Places.{lifts}
use Rattle.steps.proofs.Looks.{Looks, steps, lands, can_finish, finishes}
use Rattle.steps.proofs.step.Goals as goal
use Rattle.steps.proofs.step.Goals.{then-joins, else-joins}

pub seen-queue-requires : goal.seen-queue-requires
seen-queue-requires c = let a = c.args in
    let b = a.bench in
    let W = lent b a.store.now a.log.now in record { count_bound = waits_few W c.requires.limits; waiting_value = waits_noted W c.requires.limits }

pub put_down-kept-requires : goal.put_down-kept-requires
put_down-kept-requires c = let a = c.args in
    let b = a.bench in
    let W = lent b a.store.now a.log.now in
    let valid = c.requires in record { wide = (lifts W valid refl).wide; count_bound = waits_few W c.requires.limits; all_placed = waits_placed W c.requires.limits (omega (arith, c.requires.behind, c.requires.inside)) }

pub step_in-moved-requires : goal.step_in-moved-requires
step_in-moved-requires c = let a = c.args in
    let b = a.bench in
    let W = lent b a.store.now a.log.now in
    let valid = c.requires in
    let is = c.delays-joins.ensures in
    let k = c.place_of-i.result in
    let at = c.place_of-i.ensures.1 in
    let L : Looks W c.delays-joins.result c.if-joins.queue c.if-joins.store c.if-joins.kept =
    elim c.if-joins.branch [
      | then-joins w ↦ record {
        past = λ e. absurd (true≢false (sym w.if-joins.true ∙ e));
        own = λ e. (
          w.queue-is ∙ w.seen-queue.ensures b.words a.store.now,
          w.store-is ∙ w.put_down-kept.ensures.store_after,
          subst (KeptBy b.words b.queue a.store.now b.waiting) (sym w.kept-is) w.put_down-kept.ensures.kept_by,
        );
      }
      | else-joins w ↦ record {
        past = λ e. (w.queue-is, w.store-is);
        own = λ e. absurd (true≢false (sym e ∙ w.if-joins.false));
      }
    ] in
    steps W a.worker k valid at is L

pub finish-requires : goal.finish-requires
finish-requires c = let a = c.args in
    let b = a.bench in
    let W = lent b a.store.now a.log.now in
    let valid = c.requires in
    let is = c.delays-joins.ensures in
    let k = c.place_of-i.result in
    let at = c.place_of-i.ensures.1 in
    let L : Looks W c.delays-joins.result c.if-joins.queue c.if-joins.store c.if-joins.kept =
    elim c.if-joins.branch [
      | then-joins w ↦ record {
        past = λ e. absurd (true≢false (sym w.if-joins.true ∙ e));
        own = λ e. (
          w.queue-is ∙ w.seen-queue.ensures b.words a.store.now,
          w.store-is ∙ w.put_down-kept.ensures.store_after,
          subst (KeptBy b.words b.queue a.store.now b.waiting) (sym w.kept-is) w.put_down-kept.ensures.kept_by,
        );
      }
      | else-joins w ↦ record {
        past = λ e. (w.queue-is, w.store-is);
        own = λ e. absurd (true≢false (sym e ∙ w.if-joins.false));
      }
    ] in
    let (d, l, f) = can_finish W a.worker k valid at is L c.step_in-moved.ensures.planned_by c.step_in-moved.ensures.store_unchanged c.if-joins-2.true in record { delayed_value = d; lifts = l; finishable = f }

pub returns-then-joins-2 : goal.returns-then-joins-2
returns-then-joins-2 c = let a = c.args in
    let b = a.bench in
    let W = lent b a.store.now a.log.now in
    let valid = c.requires in
    let is = c.delays-joins.ensures in
    let k = c.place_of-i.result in
    let at = c.place_of-i.ensures.1 in
    let L : Looks W c.delays-joins.result c.if-joins.queue c.if-joins.store c.if-joins.kept =
    elim c.if-joins.branch [
      | then-joins w ↦ record {
        past = λ e. absurd (true≢false (sym w.if-joins.true ∙ e));
        own = λ e. (
          w.queue-is ∙ w.seen-queue.ensures b.words a.store.now,
          w.store-is ∙ w.put_down-kept.ensures.store_after,
          subst (KeptBy b.words b.queue a.store.now b.waiting) (sym w.kept-is) w.put_down-kept.ensures.kept_by,
        );
      }
      | else-joins w ↦ record {
        past = λ e. (w.queue-is, w.store-is);
        own = λ e. absurd (true≢false (sym e ∙ w.if-joins.false));
      }
    ] in
    (finishes W a.worker k valid at is L c.step_in-moved.ensures.planned_by c.step_in-moved.ensures.store_unchanged c.if-joins-2.true c.finish.ensures)

pub returns : goal.returns
returns c = let a = c.args in
    let b = a.bench in
    let W = lent b a.store.now a.log.now in
    let valid = c.requires in
    let is = c.delays-joins.ensures in
    let k = c.place_of-i.result in
    let at = c.place_of-i.ensures.1 in
    let L : Looks W c.delays-joins.result c.if-joins.queue c.if-joins.store c.if-joins.kept =
    elim c.if-joins.branch [
      | then-joins w ↦ record {
        past = λ e. absurd (true≢false (sym w.if-joins.true ∙ e));
        own = λ e. (
          w.queue-is ∙ w.seen-queue.ensures b.words a.store.now,
          w.store-is ∙ w.put_down-kept.ensures.store_after,
          subst (KeptBy b.words b.queue a.store.now b.waiting) (sym w.kept-is) w.put_down-kept.ensures.kept_by,
        );
      }
      | else-joins w ↦ record {
        past = λ e. (w.queue-is, w.store-is);
        own = λ e. absurd (true≢false (sym e ∙ w.if-joins.false));
      }
    ] in
    let step = lands W a.worker k valid at is L c.step_in-moved.result.line c.step_in-moved.result.made c.step_in-moved.ensures.log_after c.if-joins-2.false in
    (settles b k c.step_in-moved.result.line c.step_in-moved.result.made step c.settled.ensures)
