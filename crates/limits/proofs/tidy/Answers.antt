use Rattle.std.proofs.lemmas.Bool.{not_from_true, not_from_false}
use mathlib.Core.Bool.{true, false}
use mathlib.Core.Path.{◌≡◌, refl, sym, ap, ◌∙◌, subst}
use Prim.Native.Nat.{ℕ, suc, ◌+◌}
use native.Mathlib.Numerals.{add-one}
use native.Mathlib.Omega.{arith}
use lib.ListN.{get_or}
use Rattle.model.specs.declared.Region.{Region}
use Rattle.model.specs.Memory.{nowhere}
use Rattle.model.specs.Limits.{tidy}
use Rattle.limits.specs.Parts.{follows_ok}
use Rattle.model.proofs.Tests.{holds, fails, passed, refused, and_left, and_right}
use Rattle.limits.proofs.Directory.{starts_tidy, next_tidy, never_starts, never_tidy, kept}
use Rattle.limits.proofs.tidy.Goals as goal

pub returns-then-not-starts : goal.returns-then-not-starts
returns-then-not-starts c = let a = c.args in
    sym (never_starts a.words a.queue.arrays a.queue.initial a.queue.claimed (omega arith) (refused c.starts.ensures (not_from_false _ c.if-not-starts.true)))

pub returns-then-claimed-eq1 : goal.returns-then-claimed-eq1
returns-then-claimed-eq1 c = let a = c.args in
    let first = passed c.starts.ensures (not_from_true _ c.if-not-starts.false) in
    let e : 1 ≡ a.queue.claimed = omega arith in
    sym
    (holds
    (subst (λ (n : ℕ). tidy a.words a.queue.arrays n ≡ true) e
    (starts_tidy a.words a.queue.arrays true (and_left _ _ first)))
    ∙ kept a.words a.queue (and_right _ _ first))

pub loop-last-init : goal.loop-last-init
loop-last-init c = let a = c.args in
    (refl, starts_tidy a.words a.queue.arrays true (and_left _ _ (passed c.starts.ensures (not_from_true _ c.if-not-starts.false))))

pub returns-then-not-follows : goal.returns-then-not-follows
returns-then-not-follows c = let q = c.args.queue in let v = c.args.words in
    let k = c.loop-last.last in
    let link = c.follows.ensures ∙ ap (λ (p : Region). follows_ok v p (get_or q.arrays (k + 1) nowhere)) c.loop-last.invariant.0 in
    sym
    (fails _
    (never_tidy v q.arrays (suc k) q.claimed (omega arith)
    (next_tidy v q.arrays false k c.loop-last.invariant.1 (rw add-one at (refused link (not_from_false _ c.if-not-follows.true))))))

pub loop-last-preserved : goal.loop-last-preserved
loop-last-preserved c = let q = c.args.queue in let v = c.args.words in
    let k = c.loop-last.last in
    let link = c.follows.ensures ∙ ap (λ (p : Region). follows_ok v p (get_or q.arrays (k + 1) nowhere)) c.loop-last.invariant.0 in
    (refl, rw add-one (next_tidy v q.arrays true k c.loop-last.invariant.1 (rw add-one at (passed link (not_from_true _ c.if-not-follows.false)))))

pub returns : goal.returns
returns c = let a = c.args in
    let e : suc c.loop-last.last ≡ a.queue.claimed = omega arith in
    sym
    (holds (subst (λ (n : ℕ). tidy a.words a.queue.arrays n ≡ true) e c.loop-last.invariant.1)
    ∙ kept a.words a.queue (and_right _ _ (passed c.starts.ensures (not_from_true _ c.if-not-starts.false))))
