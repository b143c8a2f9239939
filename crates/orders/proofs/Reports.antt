-- The claims of the report.
use mathlib.Core.Path.{◌≡◌, refl, sym, ◌∙◌, ap, subst}
use mathlib.Core.Bool.{Bool, true, false, true≢false}
use mathlib.Core.Logic.{◌⊎◌, inl, inr, ⊎_elim}
use mathlib.Core.List.{List, [], ◌∷◌, ◌++◌}
use Prim.Native.Nat.{ℕ, ◌+◌, ◌-◌, ◌≤◌}
use native.Mathlib.Omega.{arith}
use lib.Dec.{eqb, leb, ltb}
use lib.ListN.{drop}
use borrow.Author.Tests.{leb-true, le-leb}
use Rattle.model.specs.declared.Setup.{Setup}
use Rattle.model.specs.declared.Operation.{Operation}
use Rattle.model.specs.declared.Refusal.{Refusal}
use Rattle.model.specs.declared.Refusal.TheVariants.{UnknownQueue, TagWidth, ArraySize, Crew, ShortStore, NoSuchWorker, PayloadWords}
use Rattle.model.specs.declared.Answer.{Answer}
use Rattle.model.specs.declared.Answer.TheVariants.{Accepted, Refused}
use Rattle.model.specs.Tests.{when◌then◌else◌, ◌and◌}
use Rattle.model.specs.World.{World, Outcome}
use Rattle.model.specs.Memory.{usable}
use Rattle.model.specs.Limits.{width_ok, is_size, crew_ok, words_ok}
use Rattle.model.specs.Calls.{fresh_of, setup, first_length, Call, begin, step, call_of}
use Rattle.model.specs.Run.{after}
use Rattle.model.proofs.Tests.{if_true}
use Rattle.theorems.proofs.Cases.{pick}
use Rattle.orders.specs.declared.Verdict.{Verdict}
use Rattle.orders.specs.declared.Verdict.TheVariants.{Hunted, Barred, ManyOperations, LargeBudget}
use Rattle.orders.specs.Orders.{Play, Order, left_of, idle, begin_next, move, after_order, orders_of}
use Rattle.orders.specs.Hunt.{
  Report,
  repeats_in,
  repeats_of,
  played_out,
  all_out,
  best,
  takes_and_steals,
  distance_of,
  report_of,
  refusal,
  plan,
  operations,
  own_store,
  own_log,
  opening,
  start_of,
  unless_refused,
  hunt_plan,
  hunt_of,
}
use Rattle.orders.specs.Claims.{Complete, Has, Reported, ReportIsRight, NeverFewer}
use Rattle.orders.proofs.AllOrders.{In, has_in, in_has, whole, orders_rise}
use Rattle.orders.proofs.HandOuts.{Fair, order_fair, fair_repeats, fresh_fair}
use Rattle.orders.proofs.Best.{out_rises, all_out_lem, more_out, best_most, best_in, best_earliest}

-- AN ORDER AS A LIST OF CALLS
begin_calls : (S : Play) (i : ℕ) (l : List Operation) → (cs : List Call) × (after S.world cs ≡ (begin_next S i l).world)
unfolding after
begin_calls S i [] = ([], refl)
begin_calls S i (op ∷ ops) = (begin i op ∷ step i ∷ [], refl)

abbrev Called : Play → Play → Type 0
Called S T = (cs : List Call) × (after S.world cs ≡ T.world)

either_called : (S T U : Play) (x : Bool) → Called S T → Called S U → Called S (when x then T else U)
unfolding when◌then◌else◌
either_called S T U true a b = a
either_called S T U false a b = b

move_calls : (S : Play) (i : ℕ) → Called S (move S i)
unfolding move after
move_calls S i = either_called S _ _ (idle S i) (begin_calls S i (left_of S i)) (step i ∷ [], refl)

after_both : (W : World) (cs ds : List Call) → after W (cs ++ ds) ≡ after (after W cs) ds
unfolding after
after_both W [] ds = refl
after_both W (c ∷ cs) ds = after_both (call_of W c).world cs ds

order_calls : (o : Order) (S : Play) → Called S (after_order S o)
unfolding after_order after
order_calls [] S = ([], refl)
order_calls (i ∷ o) S =
    let (cs, e) = move_calls S i in
    let (ds, f) = order_calls o (move S i) in
    (cs ++ ds, after_both S.world cs ds ∙ ap (λ (W : World). after W ds) e ∙ f)

-- A REPORT of a play in which hand-outs are bounded and none is repeated yet
abbrev found : Play → ℕ → Order
found S b = best S (played_out b (orders_of 256 S))

module _ (S : Play) (F : Fair S.world (takes_and_steals S.left) (takes_and_steals S.left)) (z : repeats_of S [] ≡ 0) (b : ℕ) where
  few : (o : Order) → repeats_of S o ≤ takes_and_steals S.left - 1
  few o = fair_repeats (after_order S o).world _ _ (order_fair o S _ F)

  far_enough : (x : Bool) → all_out b (orders_of 256 S) ≡ x → (o : Order) → Complete 256 S o
      → repeats_of S o ≤ repeats_of S (found S b) + distance_of x (takes_and_steals S.left) (repeats_of S (found S b))
  unfolding when◌then◌else◌
  far_enough true e o c =
      let m : In (played_out b (orders_of 256 S)) o = subst (λ (os : List Order). In os o) (sym (all_out_lem b (orders_of 256 S) e)) (whole 256 S o c) in
      omega (arith, best_most S (played_out b (orders_of 256 S)) o m)
  far_enough false e o c = omega (arith, few o, few (found S b))

  not_below : (x : Bool) → x ≡ false
      → repeats_of S (found S b) + distance_of x (takes_and_steals S.left) (repeats_of S (found S b)) ≡ takes_and_steals S.left - 1
  unfolding when◌then◌else◌
  not_below true e = absurd (true≢false e)
  not_below false e = omega (arith, few (found S b))

  one_of_them : Has (played_out b (orders_of 256 S)) (found S b)
      ⊎ ((played_out b (orders_of 256 S) ≡ []) × (found S b ≡ []) × (repeats_of S (found S b) ≡ 0))
  one_of_them =
      ⊎_elim (λ (e, f). inr (e, f, ap (repeats_of S) f ∙ z)) (λ m. inl (in_has (played_out b (orders_of 256 S)) (found S b) m))
      (best_in S z (played_out b (orders_of 256 S)))

  reported : Reported S b (report_of S b (orders_of 256 S))
  reported =
      record {
        played = refl;
        calls = order_calls (found S b) S;
        out = one_of_them;
        most = λ o h. best_most S (played_out b (orders_of 256 S)) o (has_in (played_out b (orders_of 256 S)) o h);
        earliest =
            λ o h. best_earliest S (played_out b (orders_of 256 S)) (out_rises b (orders_of 256 S) (orders_rise 256 S)) o
            (has_in (played_out b (orders_of 256 S)) o h);
        bound = far_enough (all_out b (orders_of 256 S)) refl;
        whole = not_below (all_out b (orders_of 256 S));
      }

  fewer : (b' : ℕ) → b ≤ b' → repeats_of S (found S b) ≤ repeats_of S (found S b')
  fewer b' h =
      ⊎_elim (λ (e, f). omega (arith, ap (repeats_of S) f, z))
      (λ m. best_most S (played_out b' (orders_of 256 S)) (found S b) (more_out b b' (orders_of 256 S) (found S b) h m))
      (best_in S z (played_out b (orders_of 256 S)))

-- WHAT A HUNT PASSED that was made
fresh_answer : (u : Setup) (m l : List ℕ) → ((fresh_of u m l).answer ≡ Accepted) ⊎ ((r : Refusal) × ((fresh_of u m l).answer ≡ Refused r))
unfolding fresh_of
fresh_answer u m l =
    pick P (ltb 0 u.kind and leb u.kind 5) _ _
    (λ a. pick P (width_ok u.width) _ _
    (λ a. pick P (is_size 10 u.size) _ _
    (λ a. pick P (crew_ok u.crew) _ _
    (λ a. pick P (words_ok u.words) _ _
    (λ a. pick P (leb (first_length u) (usable m)) _ _ (λ a. inl refl) (λ a. inr (ShortStore, refl)))
    (λ a. inr (PayloadWords, refl)))
    (λ a. inr (Crew, refl)))
    (λ a. inr (ArraySize, refl)))
    (λ a. inr (TagWidth, refl)))
    (λ a. inr (UnknownQueue, refl))
  where
    P : Outcome → Type 0
    P D = (D.answer ≡ Accepted) ⊎ ((r : Refusal) × (D.answer ≡ Refused r))

pub record Passed (u : Setup) (s : ℕ) (l : List (List Operation)) (b : ℕ) : Type 0 where
  pub accepted : (opening u s).answer ≡ Accepted
  pub crew : eqb (operations (drop u.crew l)) 0 ≡ true
  pub some : leb (operations l) 64 ≡ true
  pub budget : leb b 1000000 ≡ true

made : (x : Bool) (v : Verdict) (R : Report) → (v ≡ Hunted → ⊥) → (when x then R else refusal v).verdict ≡ Hunted → (x ≡ true) × (R.verdict ≡ Hunted)
unfolding when◌then◌else◌
made true v R f e = (refl, e)
made false v R f e = absurd (f e)

barred : (r : Refusal) → Barred r ≡ Hunted → ⊥
barred r e = let z : ◌≡◌ {A = ℕ} 0 1 = cc in omega arith

many : ManyOperations ≡ Hunted → ⊥
many e = let z : ◌≡◌ {A = ℕ} 0 1 = cc in omega arith

large : LargeBudget ≡ Hunted → ⊥
large e = let z : ◌≡◌ {A = ℕ} 0 1 = cc in omega arith

pub passed : (u : Setup) (s : ℕ) (l : List (List Operation)) (b : ℕ) → (hunt_plan u s l b).verdict ≡ Hunted → Passed u s l b
passed u s l b e =
    ⊎_elim (λ a. go a (subst (λ (x : Answer). (unless_refused x rest).verdict ≡ Hunted) a e))
    (λ (r, a). absurd (barred r (subst (λ (x : Answer). (unless_refused x rest).verdict ≡ Hunted) a e)))
    (fresh_answer u (own_store s) own_log)
  where
    S : Play
    S = start_of u s l

    last : Report
    last = when leb b 1000000 then report_of S b (orders_of 256 S) else refusal LargeBudget

    third : Report
    third = when leb (operations l) 64 then last else refusal ManyOperations

    rest : Report
    rest = when eqb (operations (drop u.crew l)) 0 then third else refusal (Barred NoSuchWorker)

    go : (opening u s).answer ≡ Accepted → rest.verdict ≡ Hunted → Passed u s l b
    go a e =
        let p = made (eqb (operations (drop u.crew l)) 0) (Barred NoSuchWorker) third (barred NoSuchWorker) e in
        let q = made (leb (operations l) 64) ManyOperations last many p.1 in
        let r = made (leb b 1000000) LargeBudget (report_of S b (orders_of 256 S)) large q.1 in
        record { accepted = a; crew = p.0; some = q.0; budget = r.0 }

hunt_is : (u : Setup) (s : ℕ) (l : List (List Operation)) (b : ℕ) → Passed u s l b
    → hunt_plan u s l b ≡ report_of (start_of u s l) b (orders_of 256 (start_of u s l))
hunt_is u s l b P =
    ap (λ (x : Answer). unless_refused x (when eqb (operations (drop u.crew l)) 0 then third else refusal (Barred NoSuchWorker))) P.accepted
    ∙ if_true (refusal (Barred NoSuchWorker)) P.crew ∙ if_true (refusal ManyOperations) P.some ∙ if_true (refusal LargeBudget) P.budget
  where
    third : Report
    third =
        when leb (operations l) 64
        then (when leb b 1000000 then report_of (start_of u s l) b (orders_of 256 (start_of u s l)) else refusal LargeBudget)
        else refusal ManyOperations

module _ (u : Setup) (s : ℕ) (l : List (List Operation)) (b : ℕ) (P : Passed u s l b) where
  start_fair : Fair (opening u s).world (takes_and_steals l) (takes_and_steals l)
  start_fair = fresh_fair u (own_store s) own_log (takes_and_steals l) P.accepted

  start_none : repeats_in (opening u s).world ≡ 0
  start_none =
      let h = fair_repeats (opening u s).world 0 0 (fresh_fair u (own_store s) own_log 0 P.accepted) in omega (arith, h)

pub report_is_right : ReportIsRight
unfolding hunt_of after_order
report_is_right k w c n v s puts steals b e =
    let u = setup k w c n v in
    let l = plan puts steals in
    let P = passed u s l b e in
    subst (Reported (start_of u s l) b) (sym (hunt_is u s l b P))
    (reported (start_of u s l) (start_fair u s l b P) (start_none u s l b P) b)

pub never_fewer : NeverFewer
unfolding hunt_of after_order
never_fewer k w c n v s puts steals b b' h e =
    let u = setup k w c n v in
    let l = plan puts steals in
    let P = passed u s l b' e in
    let Q : Passed u s l b =
    record { accepted = P.accepted; crew = P.crew; some = P.some; budget = le-leb b 1000000 (omega (arith, leb-true b' 1000000 P.budget)) } in
    omega (
      arith,
      fewer (start_of u s l) (start_fair u s l b' P) (start_none u s l b' P) b b' h,
      ap (λ (R : Report). R.repeats) (hunt_is u s l b Q),
      ap (λ (R : Report). R.repeats) (hunt_is u s l b' P),
    )
