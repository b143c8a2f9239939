use borrow.Author.Rules.{rules}
use mathlib.Core.Path.{refl, sym, ◌∙◌, ap, subst}
use mathlib.Core.Logic.{inl, inr}
use Prim.Native.Nat.{ℕ, ◌-◌}
use native.Mathlib.Omega.{arith}
use lib.ListN.{length, take}
use Rattle.orders.specs.Next.{first_of}
use Rattle.orders.proofs.NoneRefused.{Good}
use Rattle.hunter.specs.Hunter.{start_of}
use Rattle.hunter.proofs.Hunting.{hunting_start, complete, hunted_cut, hunted_all, hunting_on}
use Rattle.hunter.proofs.Rounding.{same_start, same_round, same_complete, turned_long, kept_by}
use Rattle.hunter.proofs.walk.Goals as goal
use Rattle.hunter.proofs.walk.Goals.{then-better, else-better}

pub loop-r-init : goal.loop-r-init
loop-r-init c = (hunting_start _ _ _ c.requires.all_value, refl, refl, search rules, search rules, search rules)

pub play_round-played-requires : goal.play_round-played-requires
play_round-played-requires c = let A = c.args in
    let L = c.loop-r in
    let H = L.invariant.0 in
    let start = c.requires.all_value in
    let same = same_start A.fresh _ _ _ _ A.puts.now A.all L.invariant.1 L.invariant.2 in record { good = subst Good (sym same) c.requires.good; fits = c.requires.fits; complete = same_complete _ _ _ (sym same) (complete H start); given_bound = H.few; order_len = L.invariant.3; others_len = L.invariant.4; seen_len = L.invariant.5 }

pub returns-in_default : goal.returns-in_default
returns-in_default c = let A = c.args in
    let L = c.loop-r in
    let H = L.invariant.0 in
    let start = c.requires.all_value in
    let same = same_start A.fresh _ _ _ _ A.puts.now A.all L.invariant.1 L.invariant.2 in
    hunted_cut H start _ ((same_round same c.play_round-played.ensures).off c.in_default.is)
    (c.saturating_sub-far.ensures ∙ ap (λ (k : ℕ). k - L.repeats) (c.saturating_sub.ensures ∙ ap (λ (k : ℕ). k - 1) c.requires.hands_value))

pub returns-then-given-eq0 : goal.returns-then-given-eq0
returns-then-given-eq0 c = let A = c.args in
    let L = c.loop-r in
    let H = L.invariant.0 in
    let start = c.requires.all_value in
    let same = same_start A.fresh _ _ _ _ A.puts.now A.all L.invariant.1 L.invariant.2 in
    let R = c.in-Some.r in
    let B = same_round same c.play_round-played.ensures in
    let T = B.out R c.in-Some.is in
    let S = start_of A.fresh (length A.store.now) (length A.log.now) A.puts.now A.all in
    let o = first_of 256 S (take L.given L.order) in
    let order = c.play_round-played.new.order in
    let K =
    kept_by S L.given L.best c.if-better.best order L.length c.if-better.length R.steps L.repeats c.if-better.repeats R.repeats o c.better.result T.made H.repeats T.repeats c.better.ensures
    (elim c.if-better.branch [ then-better w ↦ inl (w.if-better.true, w.best-is, w.length-is, w.repeats-is) | else-better w ↦ inr (w.if-better.false, w.best-is, w.length-is, w.repeats-is) ]) in
    let long' = turned_long c.turn-given.ensures ∙ B.long in
    hunted_all H start _ _ K R.steps T.steps T.paid order _ _ _ T.made B.long long' T.higher c.turn-given.ensures c.if-given-eq0.true

pub loop-r-preserved : goal.loop-r-preserved
loop-r-preserved c = let A = c.args in
    let L = c.loop-r in
    let H = L.invariant.0 in
    let start = c.requires.all_value in
    let same = same_start A.fresh _ _ _ _ A.puts.now A.all L.invariant.1 L.invariant.2 in
    let R = c.in-Some.r in
    let B = same_round same c.play_round-played.ensures in
    let T = B.out R c.in-Some.is in
    let S = start_of A.fresh (length A.store.now) (length A.log.now) A.puts.now A.all in
    let o = first_of 256 S (take L.given L.order) in
    let order = c.play_round-played.new.order in
    let K =
    kept_by S L.given L.best c.if-better.best order L.length c.if-better.length R.steps L.repeats c.if-better.repeats R.repeats o c.better.result T.made H.repeats T.repeats c.better.ensures
    (elim c.if-better.branch [ then-better w ↦ inl (w.if-better.true, w.best-is, w.length-is, w.repeats-is) | else-better w ↦ inr (w.if-better.false, w.best-is, w.length-is, w.repeats-is) ]) in
    let long' = turned_long c.turn-given.ensures ∙ B.long in (
      hunting_on H start _ _ K R.steps T.steps T.paid order _ _ _ T.made B.long long' T.higher c.turn-given.ensures c.if-given-eq0.false,
      c.play_round-played.auto.store ∙ L.invariant.1,
      c.play_round-played.auto.log ∙ L.invariant.2,
      long',
      B.wide,
      B.table,
    )

pub overflow_sub-left : goal.overflow_sub-left
overflow_sub-left c = let T = c.play_round-played.ensures.out c.in-Some.r c.in-Some.is in
    omega (arith, T.paid)

pub turn-given-requires-clause-steps_bound : goal.turn-given-requires-clause-steps_bound
turn-given-requires-clause-steps_bound c = let A = c.args in
    let L = c.loop-r in
    let H = L.invariant.0 in
    let same = same_start A.fresh _ _ _ _ A.puts.now A.all L.invariant.1 L.invariant.2 in
    let T = (same_round same c.play_round-played.ensures).out c.in-Some.r c.in-Some.is in
    omega (arith, T.steps, (complete H c.requires.all_value).short)

pub loop-r-smaller : goal.loop-r-smaller
loop-r-smaller c = let T = c.play_round-played.ensures.out c.in-Some.r c.in-Some.is in
    omega (arith, T.paid, c.turn-given.ensures.within, c.if-given-eq0.false)
