use Rattle.std.proofs.lemmas.Bool.{not_from_true, not_from_false}
use mathlib.Core.Path.{◌≡◌, refl, sym, ap, ◌∙◌}
use mathlib.Core.Bool.{Bool, true, false, not, true≢false}
use native.Mathlib.Omega.{arith}
use Rattle.lines.specs.Actions.{Doable}
use Rattle.machine.proofs.Moves.{room_counts}
use Rattle.model.proofs.Tests.{if_true}
use Rattle.owner.proofs.Joining.{few_stores}
use Rattle.owner.proofs.Stepping.{planned, idles, refuses, crowded, log_refused, goes_on_lem, claims, stops}
use Rattle.owner.proofs.finish.Goals as goal

-- the log had room for the entry, or not
has_room : (x t : Bool) → x ≡ not t → not x ≡ false → t ≡ false
has_room x true e h = absurd (true≢false (sym (ap not e) ∙ h))
has_room x false e h = refl

is_full_lem : (x t : Bool) → x ≡ not t → not x ≡ true → t ≡ true
is_full_lem x true e h = refl
is_full_lem x false e h = absurd (true≢false (sym h ∙ ap not e))

pub returns-in_default : goal.returns-in_default
returns-in_default c = let a = c.args in
    λ ρ m valid view kept plan.
    let back = c.lift.ensures m view kept in
    refuses a.bench m a.log.now valid c.refused.ensures back refl (idles a.bench m a.log.now valid view plan c.in_default.not-Waits)

pub overflow_add-waiting : goal.overflow_add-waiting
overflow_add-waiting c = omega (arith, c.requires.lifts.few, c.stores_in-more.ensures, few_stores c.args.bench.words c.in-Waits.action c.requires.lifts.wide.1)

pub returns-then-waiting-more-gt8 : goal.returns-then-waiting-more-gt8
returns-then-waiting-more-gt8 c = let a = c.args in
    λ ρ m valid view kept plan.
    let back = c.lift.ensures m view kept in
    let P = planned a.bench m a.log.now valid view plan _ c.in-Waits.is in
    refuses a.bench m a.log.now valid c.refused-then-waiting-more-gt8.ensures back refl (crowded a.bench m a.log.now valid c.requires.delayed_value P c.stores_in-more.ensures c.if-waiting-more-gt8.true)

pub zero-requires : goal.zero-requires
unfolding Doable
zero-requires c = let h = c.requires.finishable _ c.in-Waits.is in
    let e = sym c.at_once.ensures ∙ c.in-Claims.is in
    let g = rw e at h in
    let room = g.inside in
    let long = c.lift.auto.store in
    omega (arith, room, long)

pub bounds-grown-at : goal.bounds-grown-at
unfolding Doable
bounds-grown-at c = let h = c.requires.finishable _ c.in-Waits.is in
    let e = sym c.at_once.ensures ∙ c.in-Claims.is in
    let g = rw e at h in g.listed

pub overflow_add-grown : goal.overflow_add-grown
unfolding Doable
overflow_add-grown c = let h = c.requires.finishable _ c.in-Waits.is in
    let e = sym c.at_once.ensures ∙ c.in-Claims.is in
    let g = rw e at h in let few = g.listed in omega (arith, few)

pub returns-then-not-log_answer : goal.returns-then-not-log_answer
returns-then-not-log_answer c = let a = c.args in
    λ ρ m valid view kept plan.
    let back = c.lift.ensures m view kept in
    let P = planned a.bench m a.log.now valid view plan _ c.in-Waits.is in
    let full = is_full_lem _ _ c.log_answer.ensures.value (not_from_false _ c.if-not-log_answer.true) in
    refuses a.bench m a.log.now valid c.refused-then-not-log_answer.ensures back (c.log_answer.ensures.log_after ∙ if_true _ full)
    (log_refused a.bench m a.log.now valid c.requires.delayed_value P c.stores_in-more.ensures c.if-waiting-more-gt8.false (sym c.at_once.ensures ∙ c.in-Stops.is) full)

pub overflow_add-next-in-Stops : goal.overflow_add-next-in-Stops
overflow_add-next-in-Stops c = let a = c.args in
    let few = room_counts a.bench.words a.bench.written a.log.now (has_room _ _ c.log_answer.ensures.value (not_from_true _ c.if-not-log_answer.false)) in
    omega (arith, few)

pub returns-in-Claims : goal.returns-in-Claims
returns-in-Claims c = let a = c.args in
    λ ρ m valid view kept plan.
    let back = c.lift.ensures m view kept in
    let P = planned a.bench m a.log.now valid view plan _ c.in-Waits.is in
    let e = sym c.at_once.ensures ∙ c.in-Claims.is in
    claims a.bench m a.log.now valid c.requires.delayed_value P c.stores_in-more.ensures c.if-waiting-more-gt8.false c.join_all-next.ensures e back c.zero.ensures

pub returns-else-not-log_answer : goal.returns-else-not-log_answer
returns-else-not-log_answer c = let a = c.args in
    λ ρ m valid view kept plan.
    let back = c.lift.ensures m view kept in
    let P = planned a.bench m a.log.now valid view plan _ c.in-Waits.is in
    let e = sym c.at_once.ensures ∙ c.in-Stops.is in
    stops a.bench m a.log.now valid c.requires.delayed_value P c.stores_in-more.ensures c.if-waiting-more-gt8.false c.join_all-next.ensures e
    (has_room _ _ c.log_answer.ensures.value (not_from_true _ c.if-not-log_answer.false)) back c.log_answer.ensures.log_after

pub returns-in_default-at_once : goal.returns-in_default-at_once
returns-in_default-at_once c = let a = c.args in
    λ ρ m valid view kept plan.
    let back = c.lift.ensures m view kept in
    let P = planned a.bench m a.log.now valid view plan _ c.in-Waits.is in
    goes_on_lem a.bench m a.log.now valid c.requires.delayed_value P c.stores_in-more.ensures c.if-waiting-more-gt8.false c.join_all-next.ensures
    (λ a z e. c.in_default-at_once.not-Claims a z (c.at_once.ensures ∙ e)) (λ t e. c.in_default-at_once.not-Stops t (c.at_once.ensures ∙ e)) back
