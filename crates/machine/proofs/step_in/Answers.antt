use mathlib.Core.Bool.{true≢false}
use mathlib.Core.Path.{refl, sym, ap, subst, ◌∙◌}
use Prim.Native.Nat.{ℕ}
use native.Mathlib.Omega.{arith}
use lib.ListN.{length}
use borrow.Author.Tests.{le-ltb}
use Rattle.model.specs.Lines.{line_step}
use Rattle.model.specs.Stores.{shared}
use Rattle.model.specs.World.{line_at}
use Rattle.model.proofs.Tests.{if_false}
use Rattle.lines.specs.Actions.{Does}
use Rattle.machine.specs.declared.Made.TheVariants as made
use Rattle.machine.specs.Steps.{bench_of, bench_after, answer_after, moved_by, left_by, acted_by, log_after, Fits}
use Rattle.machine.proofs.Moves.{fits}
use Rattle.machine.proofs.Stepping.{same_moved, idle_worker, line_done, line_links, plans_outside, plans_rest, plans_no_link, plans_action}
use Rattle.machine.proofs.step_in.Goals as goal

pub returns-then-crew-worker : goal.returns-then-crew-worker
unfolding bench_after answer_after Fits
returns-then-crew-worker c = record { fits = tt; log_after = λ now d s o u k n ws once at e. sym (if_false _ (le-ltb _ _ c.if-crew-worker.true)); planned_by = λ joins. plans_outside c.if-crew-worker.true refl; store_unchanged = λ joins. (refl, refl) }

pub returns-then-is_idle : goal.returns-then-is_idle
unfolding bench_after answer_after Fits
returns-then-is_idle c = let a = c.args in
    let h = c.if-crew-worker.false in record {
      fits = tt;
      log_after = λ now d s o u k n ws once at e.
          idle_worker a.room (bench_of a.kind a.width a.words a.crew a.queue a.written d s o u n ws) a.worker a.line _ _
          (ap (line_at ws) (sym (at (omega (arith, h, c.requires.crew)))) ∙ e) h (sym c.is_idle.ensures ∙ c.if-is_idle.true);
      planned_by = λ joins. plans_rest h (sym c.is_idle.ensures ∙ c.if-is_idle.true) refl;
      store_unchanged = λ joins. (refl, refl);
    }

pub returns-then-links : goal.returns-then-links
unfolding Fits
returns-then-links c = let a = c.args in
    let m = a.store.now in
    let l = a.log.now in
    let x = c.next_line-to.result in
    let h = c.if-crew-worker.false in record {
      fits = tt;
      log_after = λ now d s o u k n ws once at e.
          let b = bench_of a.kind a.width a.words a.crew a.queue a.written d s o u n ws in
          let is = at (omega (arith, h, c.requires.crew)) in
          ap (λ (j : ℕ). moved_by b j x made.Links m l) is
          ∙ line_links a.room b a.worker a.line m l (ap (line_at ws) (sym is) ∙ e) h once (c.requires.held h) x c.next_line-to.ensures
          (sym c.links.ensures ∙ c.if-links.true);
      planned_by = λ joins. plans_no_link h (sym c.is_idle.ensures ∙ c.if-is_idle.false) (sym c.links.ensures ∙ c.if-links.true);
      store_unchanged = λ joins. (refl, refl);
    }

pub returns-then-joins : goal.returns-then-joins
unfolding Fits
returns-then-joins c = let a = c.args in
    let m = a.store.now in record {
      fits = tt;
      log_after = λ now. absurd (true≢false (sym c.if-joins.true ∙ now));
      planned_by = λ joins.
          plans_action c.if-crew-worker.false (sym c.is_idle.ensures ∙ c.if-is_idle.false) _ refl (c.next_line-to.ensures _)
          (subst (λ (w : ℕ). Does a.room a.words (line_step a.room a.kind w a.words a.queue m a.worker a.line) c.decide-action.result) c.tag_bits-bits.ensures c.decide-action.ensures.does)
          c.decide-action.ensures.doable;
      store_unchanged = λ joins. (refl, refl);
    }

pub returns : goal.returns
returns c = let a = c.args in
    let m = a.store.now in
    let l = a.log.now in
    let x = c.next_line-to.result in
    let act = c.decide-action.result in
    let safe = c.decide-action.ensures.doable in
    let h = c.if-crew-worker.false in
    let made = c.act-made.ensures.value in record {
      fits = subst (Fits a.words a.queue a.written) (sym made) (fits a.words a.queue a.written (length m) l act c.requires.the_ground.listed safe);
      log_after = λ now d s o u k n ws once at e.
          let b = bench_of a.kind a.width a.words a.crew a.queue a.written d s o u n ws in
          let is = at (omega (arith, h, c.requires.crew)) in
          same_moved b k x made (c.act-made.ensures.store_after a.room c.decide-action.ensures.does.place) c.act-made.ensures.log_after
          ∙ ap (λ (j : ℕ). moved_by b j x (acted_by a.words a.written l a.queue act) (left_by a.room a.words (shared a.queue m) act).store (log_after a.words a.written l act)) is
          ∙ line_done a.room b a.worker a.line m l (ap (line_at ws) (sym is) ∙ e) h once (c.requires.held h) x c.next_line-to.ensures act
          (sym c.is_idle.ensures ∙ c.if-is_idle.false) (sym c.links.ensures ∙ c.if-links.false) safe
          (subst (λ (w : ℕ). Does a.room a.words (line_step a.room a.kind w a.words a.queue m a.worker a.line) act) c.tag_bits-bits.ensures c.decide-action.ensures.does)
          c.decide-action.ensures.result_value;
      planned_by = λ joins. absurd (true≢false (sym joins ∙ c.if-joins.false));
      store_unchanged = λ joins. absurd (true≢false (sym joins ∙ c.if-joins.false));
    }
