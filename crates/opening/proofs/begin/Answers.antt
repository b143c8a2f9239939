use Rattle.std.proofs.lemmas.Bool.{not_from_true, not_from_false}
use mathlib.Core.Path.{refl, sym, subst, ◌∙◌}
use native.Mathlib.Omega.{arith}
use Rattle.model.specs.Calls.{lent, begin_of}
use Rattle.model.proofs.Tests.{if_true, if_false, passed, refused}
use Rattle.model.proofs.Alone.{within_alone}
use Rattle.limits.proofs.Bounds.{bounds_of}
use Rattle.state.proofs.Replies.{same_returned}
use Rattle.opening.specs.Begins.{BeginStops}
use Rattle.opening.proofs.begin.Goals as goal

pub returns-then-not-valid : goal.returns-then-not-valid
unfolding begin_of
returns-then-not-valid c = same_returned c.refused.ensures refl refl ∙ sym (if_false _ (refused c.valid.ensures (not_from_false _ c.if-not-valid.true)))

pub begin_stop-stop-requires : goal.begin_stop-stop-requires
begin_stop-stop-requires c = let a = c.args in
    let W = lent a.bench a.store.now a.log.now in
    (bounds_of W (within_alone W (passed c.valid.ensures (not_from_true _ c.if-not-valid.false))).limits).crew

pub returns-in-Err : goal.returns-in-Err
unfolding begin_of
returns-in-Err c = let a = c.args in
    let W = lent a.bench a.store.now a.log.now in
    same_returned c.refused-in-Err.ensures refl refl
    ∙ sym (subst (BeginStops W a.worker a.operation) c.in-Err.is (c.begin_stop-stop.ensures _ _))
    ∙ sym (if_true _ (passed c.valid.ensures (not_from_true _ c.if-not-valid.false)))

pub accept-requires : goal.accept-requires
accept-requires c = let a = c.args in
    let W = lent a.bench a.store.now a.log.now in
    let b = bounds_of W (within_alone W (passed c.valid.ensures (not_from_true _ c.if-not-valid.false))).limits in
    let s = subst (BeginStops W a.worker a.operation) c.in_default.is (c.begin_stop-stop.ensures _ _) in record { worker_bound = omega (arith, s.0, b.crew); used_bound = b.used; words_nonzero = b.wide }

pub returns : goal.returns
unfolding begin_of
returns c = let a = c.args in
    let W = lent a.bench a.store.now a.log.now in
    c.accept.ensures _ _
    ∙ sym (subst (BeginStops W a.worker a.operation) c.in_default.is (c.begin_stop-stop.ensures _ _)).1
    ∙ sym (if_true _ (passed c.valid.ensures (not_from_true _ c.if-not-valid.false)))
