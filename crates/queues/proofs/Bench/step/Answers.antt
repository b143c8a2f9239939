use Rattle.std.proofs.lemmas.Bool.{not_from_true, not_from_false}
use mathlib.Core.Bool.{true≢false}
use mathlib.Core.Path.{refl, sym, ap, subst, ◌∙◌}
use native.Mathlib.Omega.{arith}
use lib.ListN.{set}
use Rattle.model.specs.declared.Room.{Room}
use Rattle.model.specs.Limits.{Within}
use Rattle.model.specs.Calls.{lent, step_in, step_of}
use Rattle.model.proofs.Tests.{if_true, if_false, passed, refused}
use Rattle.rooms.proofs.Handed.{within, same_step}
use Rattle.limits.proofs.Alone.{room_alone_lem}
use Rattle.limits.proofs.Waits.{waits_few, waits_noted, waits_placed}
use Rattle.machine.proofs.Stepping.{settles, restarts, replaces}
use Rattle.waiting.specs.Places.{KeptBy}
use Rattle.owner.proofs.Places.{lifts}
use Rattle.queues.specs.declared.Reply.{Reply}
use Rattle.queues.specs.Left.{left}
use Rattle.queues.proofs.Faces.{reply_left}
use Rattle.steps.proofs.Looks.{Looks, steps, lands, past_nothing, past_fails, can_finish, finishes}
use Rattle.queues.proofs.Bench.step.Goals as goal
use Rattle.queues.proofs.Bench.step.Goals.{then-joins, else-joins}

pub returns-then-not-valid : goal.returns-then-not-valid
unfolding step_of
returns-then-not-valid c = let a = c.args in
    ap (λ (r : Reply). left r a.store.now a.log.now) c.refused.ensures
    ∙ sym (if_false _ (refused c.valid.ensures (not_from_false _ c.if-not-valid.true)))

pub room_at-room-requires : goal.room_at-room-requires
room_at-room-requires c = let a = c.args in let it = room_alone_lem (lent a.self.state a.store.now a.log.now) (passed c.valid.ensures (not_from_true _ c.if-not-valid.false)) in record { claimed_nonzero = it.0; queue_value = it.1.0; queue_bound = it.1.1 }

pub seen-queue-requires : goal.seen-queue-requires
seen-queue-requires c = let a = c.args in
    let b = a.self.state in
    let W = lent b a.store.now a.log.now in
    let tested = passed c.valid.ensures (not_from_true _ c.if-not-valid.false) in
    let fits = (room_alone_lem W tested).1.1 in
    let valid = subst (λ (ρ : Room). Within ρ W) (sym c.room_at-room.ensures) (within W tested fits _) in record { count_bound = waits_few W valid.limits; waiting_value = waits_noted W valid.limits }

pub put_down-kept-requires : goal.put_down-kept-requires
put_down-kept-requires c = let a = c.args in
    let b = a.self.state in
    let W = lent b a.store.now a.log.now in
    let tested = passed c.valid.ensures (not_from_true _ c.if-not-valid.false) in
    let fits = (room_alone_lem W tested).1.1 in
    let valid = subst (λ (ρ : Room). Within ρ W) (sym c.room_at-room.ensures) (within W tested fits _) in record { wide = (lifts W valid refl).wide; count_bound = waits_few W valid.limits; all_placed = waits_placed W valid.limits (omega (arith, valid.behind, valid.inside)) }

pub step_in-moved-requires : goal.step_in-moved-requires
step_in-moved-requires c = let a = c.args in
    let b = a.self.state in
    let W = lent b a.store.now a.log.now in
    let tested = passed c.valid.ensures (not_from_true _ c.if-not-valid.false) in
    let fits = (room_alone_lem W tested).1.1 in
    let valid = subst (λ (ρ : Room). Within ρ W) (sym c.room_at-room.ensures) (within W tested fits _) in
    let is = c.delays-joins.ensures in
    let k = c.place_of-i.result in
    let at = c.place_of-i.ensures.1 in
    let L : Looks W c.delays-joins.result c.if-joins.queue c.if-joins.store c.if-joins.kept =
    elim c.if-joins.branch [
      | then-joins w ↦ record {
        past = λ e. absurd (true≢false (sym w.if-joins.true ∙ e));
        own = λ e. (
          w.queue-is ∙ w.seen-queue.ensures b.words a.store.now,
          w.store-is ∙ w.put_down-kept.ensures.store_after,
          subst (KeptBy b.words b.queue a.store.now b.waiting) (sym w.kept-is) w.put_down-kept.ensures.kept_by,
        );
      }
      | else-joins w ↦ record {
        past = λ e. (w.queue-is, w.store-is);
        own = λ e. absurd (true≢false (sym e ∙ w.if-joins.false));
      }
    ] in
    steps W a.worker k valid at is L

pub returns-in-Fails : goal.returns-in-Fails
unfolding step_of
returns-in-Fails c = let a = c.args in
    let b = a.self.state in
    let W = lent b a.store.now a.log.now in
    let tested = passed c.valid.ensures (not_from_true _ c.if-not-valid.false) in
    let fits = (room_alone_lem W tested).1.1 in
    let valid = subst (λ (ρ : Room). Within ρ W) (sym c.room_at-room.ensures) (within W tested fits _) in
    let is = c.delays-joins.ensures in
    let k = c.place_of-i.result in
    let at = c.place_of-i.ensures.1 in
    let L : Looks W c.delays-joins.result c.if-joins.queue c.if-joins.store c.if-joins.kept =
    elim c.if-joins.branch [
      | then-joins w ↦ record {
        past = λ e. absurd (true≢false (sym w.if-joins.true ∙ e));
        own = λ e. (
          w.queue-is ∙ w.seen-queue.ensures b.words a.store.now,
          w.store-is ∙ w.put_down-kept.ensures.store_after,
          subst (KeptBy b.words b.queue a.store.now b.waiting) (sym w.kept-is) w.put_down-kept.ensures.kept_by,
        );
      }
      | else-joins w ↦ record {
        past = λ e. (w.queue-is, w.store-is);
        own = λ e. absurd (true≢false (sym e ∙ w.if-joins.false));
      }
    ] in
    let made = c.in-Fails.is in
    let step = lands W a.worker k valid at is L c.step_in-moved.result.line c.step_in-moved.result.made c.step_in-moved.ensures.log_after (past_fails W a.worker k valid at is L c.step_in-moved.ensures.planned_by made) in
    restarts b k c.step_in-moved.result.line c.step_in-moved.result.made step made (ap (set b.restarts k) c.one_more-count.ensures)
    ∙ ap (λ (ρ : Room). step_in ρ W a.worker) c.room_at-room.ensures ∙ same_step W tested fits a.worker k at ∙ sym (if_true _ tested)

pub finish-done-requires : goal.finish-done-requires
finish-done-requires c = let a = c.args in
    let b = a.self.state in
    let W = lent b a.store.now a.log.now in
    let tested = passed c.valid.ensures (not_from_true _ c.if-not-valid.false) in
    let fits = (room_alone_lem W tested).1.1 in
    let valid = subst (λ (ρ : Room). Within ρ W) (sym c.room_at-room.ensures) (within W tested fits _) in
    let is = c.delays-joins.ensures in
    let k = c.place_of-i.result in
    let at = c.place_of-i.ensures.1 in
    let L : Looks W c.delays-joins.result c.if-joins.queue c.if-joins.store c.if-joins.kept =
    elim c.if-joins.branch [
      | then-joins w ↦ record {
        past = λ e. absurd (true≢false (sym w.if-joins.true ∙ e));
        own = λ e. (
          w.queue-is ∙ w.seen-queue.ensures b.words a.store.now,
          w.store-is ∙ w.put_down-kept.ensures.store_after,
          subst (KeptBy b.words b.queue a.store.now b.waiting) (sym w.kept-is) w.put_down-kept.ensures.kept_by,
        );
      }
      | else-joins w ↦ record {
        past = λ e. (w.queue-is, w.store-is);
        own = λ e. absurd (true≢false (sym e ∙ w.if-joins.false));
      }
    ] in
    let (d, l, f) = can_finish W a.worker k valid at is L c.step_in-moved.ensures.planned_by c.step_in-moved.ensures.store_unchanged c.if-joins-2.true in record { delayed_value = d; lifts = l; finishable = f }

pub returns-then-joins-2 : goal.returns-then-joins-2
unfolding step_of
returns-then-joins-2 c = let a = c.args in
    let b = a.self.state in
    let W = lent b a.store.now a.log.now in
    let tested = passed c.valid.ensures (not_from_true _ c.if-not-valid.false) in
    let fits = (room_alone_lem W tested).1.1 in
    let valid = subst (λ (ρ : Room). Within ρ W) (sym c.room_at-room.ensures) (within W tested fits _) in
    let is = c.delays-joins.ensures in
    let k = c.place_of-i.result in
    let at = c.place_of-i.ensures.1 in
    let L : Looks W c.delays-joins.result c.if-joins.queue c.if-joins.store c.if-joins.kept =
    elim c.if-joins.branch [
      | then-joins w ↦ record {
        past = λ e. absurd (true≢false (sym w.if-joins.true ∙ e));
        own = λ e. (
          w.queue-is ∙ w.seen-queue.ensures b.words a.store.now,
          w.store-is ∙ w.put_down-kept.ensures.store_after,
          subst (KeptBy b.words b.queue a.store.now b.waiting) (sym w.kept-is) w.put_down-kept.ensures.kept_by,
        );
      }
      | else-joins w ↦ record {
        past = λ e. (w.queue-is, w.store-is);
        own = λ e. absurd (true≢false (sym e ∙ w.if-joins.false));
      }
    ] in
    reply_left {d = c.finish-done.result} refl (finishes W a.worker k valid at is L c.step_in-moved.ensures.planned_by c.step_in-moved.ensures.store_unchanged c.if-joins-2.true c.finish-done.ensures)
    ∙ ap (λ (ρ : Room). step_in ρ W a.worker) c.room_at-room.ensures ∙ same_step W tested fits a.worker k at ∙ sym (if_true _ tested)

pub returns-else-joins-2 : goal.returns-else-joins-2
unfolding step_of
returns-else-joins-2 c = let a = c.args in
    let b = a.self.state in
    let W = lent b a.store.now a.log.now in
    let tested = passed c.valid.ensures (not_from_true _ c.if-not-valid.false) in
    let fits = (room_alone_lem W tested).1.1 in
    let valid = subst (λ (ρ : Room). Within ρ W) (sym c.room_at-room.ensures) (within W tested fits _) in
    let is = c.delays-joins.ensures in
    let k = c.place_of-i.result in
    let at = c.place_of-i.ensures.1 in
    let L : Looks W c.delays-joins.result c.if-joins.queue c.if-joins.store c.if-joins.kept =
    elim c.if-joins.branch [
      | then-joins w ↦ record {
        past = λ e. absurd (true≢false (sym w.if-joins.true ∙ e));
        own = λ e. (
          w.queue-is ∙ w.seen-queue.ensures b.words a.store.now,
          w.store-is ∙ w.put_down-kept.ensures.store_after,
          subst (KeptBy b.words b.queue a.store.now b.waiting) (sym w.kept-is) w.put_down-kept.ensures.kept_by,
        );
      }
      | else-joins w ↦ record {
        past = λ e. (w.queue-is, w.store-is);
        own = λ e. absurd (true≢false (sym e ∙ w.if-joins.false));
      }
    ] in
    let step = lands W a.worker k valid at is L c.step_in-moved.result.line c.step_in-moved.result.made c.step_in-moved.ensures.log_after c.if-joins-2.false in
    reply_left {d = c.settled-done.result} refl (settles b k c.step_in-moved.result.line c.step_in-moved.result.made step c.settled-done.ensures)
    ∙ ap (λ (ρ : Room). step_in ρ W a.worker) c.room_at-room.ensures ∙ same_step W tested fits a.worker k at ∙ sym (if_true _ tested)

pub returns : goal.returns
unfolding step_of
returns c = let a = c.args in
    let b = a.self.state in
    let W = lent b a.store.now a.log.now in
    let tested = passed c.valid.ensures (not_from_true _ c.if-not-valid.false) in
    let fits = (room_alone_lem W tested).1.1 in
    let valid = subst (λ (ρ : Room). Within ρ W) (sym c.room_at-room.ensures) (within W tested fits _) in
    let is = c.delays-joins.ensures in
    let k = c.place_of-i.result in
    let at = c.place_of-i.ensures.1 in
    let L : Looks W c.delays-joins.result c.if-joins.queue c.if-joins.store c.if-joins.kept =
    elim c.if-joins.branch [
      | then-joins w ↦ record {
        past = λ e. absurd (true≢false (sym w.if-joins.true ∙ e));
        own = λ e. (
          w.queue-is ∙ w.seen-queue.ensures b.words a.store.now,
          w.store-is ∙ w.put_down-kept.ensures.store_after,
          subst (KeptBy b.words b.queue a.store.now b.waiting) (sym w.kept-is) w.put_down-kept.ensures.kept_by,
        );
      }
      | else-joins w ↦ record {
        past = λ e. (w.queue-is, w.store-is);
        own = λ e. absurd (true≢false (sym e ∙ w.if-joins.false));
      }
    ] in
    let made = c.in-Nothing.is in
    let step = lands W a.worker k valid at is L c.step_in-moved.result.line c.step_in-moved.result.made c.step_in-moved.ensures.log_after (past_nothing W a.worker k valid at is L c.step_in-moved.ensures.planned_by made) in
    replaces b k c.step_in-moved.result.line c.step_in-moved.result.made step made
    ∙ ap (λ (ρ : Room). step_in ρ W a.worker) c.room_at-room.ensures ∙ same_step W tested fits a.worker k at ∙ sym (if_true _ tested)
