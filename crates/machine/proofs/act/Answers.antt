use mathlib.Core.Path.{sym, ap, ◌∙◌}
use native.Mathlib.Omega.{arith}
use lib.ListN.{length}
use Rattle.model.specs.Stores.{Shared, landed_all}
use Rattle.lines.specs.Actions.{claims_by, PlacedIn, stores_by, Doable}
use Rattle.machine.specs.Steps.{acted_by, log_after}
use Rattle.machine.proofs.Landing.{copies_land, claims_land, ends_leave}
use Rattle.machine.proofs.Logged.{stops, stops_full, ends, ends_full}
use Rattle.machine.proofs.act.Goals as goal

pub land-requires : goal.land-requires
unfolding Doable
land-requires c = record { wide = c.requires.wide; lands = rw c.in-Stores.is at c.requires.doable }

pub address-at-requires : goal.address-at-requires
unfolding Doable
address-at-requires c = let h = rw c.in-Copies.is at c.requires.doable in record { wide = c.requires.wide; at_bound = h.0; slot_bound = h.1; word_le_words = omega arith }

pub write_task-requires : goal.write_task-requires
unfolding Doable
write_task-requires c = let h = rw c.in-Copies.is at c.requires.doable in record { words_nonzero = c.requires.wide; words_in_bounds = omega (arith, h.2, c.address-at.ensures) }

pub zero-requires : goal.zero-requires
unfolding Doable
zero-requires c = let h = rw c.in-Claims.is at c.requires.doable in
    h.inside

pub returns-in-Nothing : goal.returns-in-Nothing
unfolding acted_by log_after claims_by stores_by landed_all
returns-in-Nothing c = let e = c.in-Nothing.is in record { value = simp e; store_after = λ ρ p. simp e; log_after = simp e }

pub returns-in-Fails : goal.returns-in-Fails
unfolding acted_by log_after claims_by stores_by landed_all
returns-in-Fails c = let e = c.in-Fails.is in record { value = simp e; store_after = λ ρ p. simp e; log_after = simp e }

pub returns-in-Stores : goal.returns-in-Stores
unfolding acted_by log_after claims_by stores_by landed_all
returns-in-Stores c = let e = c.in-Stores.is in record { value = c.land.ensures.value ∙ sym (simp e); store_after = λ ρ p. c.land.ensures.store_after ∙ sym (simp e); log_after = simp e }

pub returns-in-Copies : goal.returns-in-Copies
unfolding acted_by log_after claims_by stores_by landed_all
returns-in-Copies c = let a = c.args in
    let e = c.in-Copies.is in
    let copied = copies_land a.words a.queue a.store.now _ _ _ c.requires.wide.1 c.address-at.ensures in record { value = simp e; store_after = λ ρ p. c.write_task.ensures ∙ copied ∙ sym (simp e); log_after = simp e }

pub returns-in-Claims : goal.returns-in-Claims
unfolding acted_by log_after claims_by PlacedIn stores_by landed_all Doable
returns-in-Claims c = let a = c.args in
    let e = c.in-Claims.is in
    let h = rw e at c.requires.doable in record {
      value = simp e;
      store_after = λ ρ p.
          let claimed = claims_land ρ a.queue a.store.now (length a.store.now) _ _ (rw e at p) h in
          c.zero.ensures ∙ sym (ap (λ (S : Shared). S.store) claimed) ∙ sym (simp e);
      log_after = simp e;
    }

pub returns-then-log_answer : goal.returns-then-log_answer
unfolding log_after claims_by stores_by landed_all
returns-then-log_answer c = let a = c.args in
    let e = c.in-Stops.is in record { value = stops a.words a.written a.log.now a.queue c.log_answer.ensures.value e c.if-log_answer.true; store_after = λ ρ p. simp e; log_after = c.log_answer.ensures.log_after ∙ sym (simp e) }

pub returns-else-log_answer : goal.returns-else-log_answer
unfolding log_after claims_by stores_by landed_all
returns-else-log_answer c = let a = c.args in
    let e = c.in-Stops.is in record { value = stops_full a.words a.written a.log.now a.queue c.log_answer.ensures.value e c.if-log_answer.false; store_after = λ ρ p. simp e; log_after = c.log_answer.ensures.log_after ∙ sym (simp e) }

pub returns-then-log_answer-2 : goal.returns-then-log_answer-2
unfolding log_after
returns-then-log_answer-2 c = let a = c.args in
    let e = c.in-Ends.is in record { value = ends a.words a.written a.log.now a.queue c.log_answer-in-Ends.ensures.value e c.concluded-ended.ensures c.if-log_answer-2.true; store_after = λ ρ p. ends_leave ρ a.words a.queue a.store.now (length a.store.now) e c.requires.doable; log_after = c.log_answer-in-Ends.ensures.log_after ∙ sym (simp e) }

pub returns-else-log_answer-2 : goal.returns-else-log_answer-2
unfolding log_after
returns-else-log_answer-2 c = let a = c.args in
    let e = c.in-Ends.is in record { value = ends_full a.words a.written a.log.now a.queue c.log_answer-in-Ends.ensures.value e c.if-log_answer-2.false; store_after = λ ρ p. ends_leave ρ a.words a.queue a.store.now (length a.store.now) e c.requires.doable; log_after = c.log_answer-in-Ends.ensures.log_after ∙ sym (simp e) }
