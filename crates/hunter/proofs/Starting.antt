-- A hunt's first world, and its refusals.
use Rattle.std.specs.Prelude.{Result, Ok, Err, ⊤}
use mathlib.Core.Path.{◌≡◌, refl, sym, ◌∙◌, ap, subst}
use mathlib.Core.Bool.{Bool, true, false}
use mathlib.Core.List.{List, [], ◌∷◌, ◌++◌, map}
use Prim.Native.Nat.{ℕ, zero, suc, ◌+◌, ◌-◌, ◌≤◌, ◌<◌}
use native.Mathlib.Omega.{arith}
use lib.Dec.{eqb, ltb, leb}
use borrow.Author.Tests.{eq-eqb, ne_eqb, le-leb, lt-leb, ltb-true, ltb-false}
use lib.ListN.{length, take, drop, replicate, length-replicate, drop_of_length-le, replicate-append-replicate}
use Rattle.model.specs.declared.Setup.{Setup}
use Rattle.model.specs.declared.Bench.{Bench}
use Rattle.model.specs.declared.Operation.{Operation}
use Rattle.model.specs.declared.Refusal.{Refusal}
use Rattle.model.specs.declared.Refusal.TheVariants.{NoSuchWorker}
use Rattle.model.specs.declared.Answer.{Answer}
use Rattle.model.specs.declared.Answer.TheVariants.{Accepted, Refused}
use Rattle.model.specs.Tests.{when◌then◌else◌, unless◌then◌else◌, least}
use Rattle.model.specs.Memory.{zeros, usable}
use Rattle.model.specs.World.{World, Outcome, refuse, resting, line_at, is_idle}
use Rattle.model.specs.Calls.{lent, setup, fresh_of, first_length, new_bench, no_bench, admitted}
use Rattle.model.proofs.Alone.{at_most_usable}
use Rattle.opening.proofs.Admits.{outcome_of, admitted_in}
use Rattle.orders.proofs.HandOuts.{fair_repeats, fresh_fair}
use Rattle.model.proofs.Tests.{if_true, if_false}
use Rattle.theorems.proofs.Fresh.{fresh_is, Admitted}
use Rattle.orders.specs.declared.Verdict.TheVariants.{Barred, ManyOperations, LargeBudget}
use Rattle.orders.specs.Orders.{Play, play, orders_of}
use Rattle.orders.specs.Hunt.{repeats_in, hands_in, takes_and_steals, owners_next, operations, plan, opening, start_of, own_store, own_log, Report, report_of, refusal, unless_refused, hunt_plan, hunt_of}
use Rattle.orders.proofs.Spends.{idle_is}
use Rattle.orders.proofs.Reports.{Passed}
use Rattle.orders.proofs.NoneRefused.{Good, start_good}
use Rattle.turns.proofs.Fits.{Fits}
use Rattle.hunter.specs.Hunter.{steals}
use Rattle.hunter.proofs.Sums.{plan_length, plan_outside, plan_operations, plan_hands}

-- words that are all 0 stay so
drop_replicate : (k n : ℕ) → ◌≡◌ {A = List ℕ} (drop k (replicate n 0)) (replicate (n - k) 0)
drop_replicate zero n = ap (λ (j : ℕ). replicate {A = ℕ} j 0) (let e : n ≡ n - 0 = omega arith in e)
drop_replicate (suc k) zero = ap (λ (j : ℕ). replicate {A = ℕ} j 0) (let e : 0 ≡ 0 - suc k = omega arith in e)
drop_replicate (suc k) (suc n) = drop_replicate k n ∙ ap (λ (j : ℕ). replicate {A = ℕ} j 0) (let e : n - k ≡ suc n - suc k = omega arith in e)

pub zeros_same : (n k : ℕ) → k ≤ n → zeros (replicate n 0) 0 k ≡ replicate n 0
unfolding zeros
zeros_same n k h =
    ap (λ (j : ℕ). replicate {A = ℕ} k 0 ++ drop j (replicate n 0)) (let e : 0 + k ≡ k = omega arith in e)
    ∙ ap (λ (l : List ℕ). replicate k 0 ++ l) (drop_replicate k n) ∙ replicate-append-replicate k (n - k) 0
    ∙ ap (λ (j : ℕ). replicate {A = ℕ} j 0) (let e : k + (n - k) ≡ n = omega arith in e)

pub zeros_all : (m : List ℕ) (n : ℕ) → n ≡ length m → zeros m 0 n ≡ replicate (length m) 0
unfolding zeros
zeros_all m n e =
    ap (λ (l : List ℕ). replicate {A = ℕ} n 0 ++ l) (drop_of_length-le m (let z : length m ≤ 0 + n = omega (arith, e) in z))
    ∙ nothing (replicate n 0) ∙ ap (λ (j : ℕ). replicate {A = ℕ} j 0) e
  where
    nothing : (l : List ℕ) → l ++ [] ≡ l
    nothing [] = refl
    nothing (x ∷ l) = ap (λ (k : List ℕ). x ∷ k) (nothing l)

take_replicate : (n k : ℕ) → n ≤ k → ◌≡◌ {A = List ℕ} (take n (replicate k 0)) (replicate n 0)
take_replicate zero k h = refl
take_replicate (suc n) zero h = absurd (omega arith)
take_replicate (suc n) (suc k) h = ap (λ (l : List ℕ). 0 ∷ l) (take_replicate n k (omega arith))

pub front_own : (n s k : ℕ) → n ≡ least s 10235 → n ≤ k → take n (replicate k 0) ≡ own_store s
front_own n s k e h = take_replicate n k h ∙ ap (λ (j : ℕ). replicate {A = ℕ} j 0) e

rests : (i : ℕ) → is_idle (line_at (replicate 8 resting) i) ≡ true
rests zero = refl
rests (suc zero) = refl
rests (suc (suc zero)) = refl
rests (suc (suc (suc zero))) = refl
rests (suc (suc (suc (suc zero)))) = refl
rests (suc (suc (suc (suc (suc zero))))) = refl
rests (suc (suc (suc (suc (suc (suc zero)))))) = refl
rests (suc (suc (suc (suc (suc (suc (suc zero))))))) = refl
rests (suc (suc (suc (suc (suc (suc (suc (suc i)))))))) = refl

-- whether the hunt is admitted, from where the code asks it
module _ (u : Setup) (s n : ℕ) (t : Result ⊤ Refusal) (left : n ≡ usable (own_store s)) (by : t ≡ admitted u n (λ w. Err w) (Ok tt)) where
  pub admits : t ≡ Ok tt → (opening u s).answer ≡ Accepted
  unfolding fresh_of
  admits e =
      ap (λ (D : Outcome). D.answer)
      (outcome_of (λ (r : Refusal). refuse (lent no_bench (own_store s) own_log) r) (record { world = lent (new_bench 0 u) (zeros (own_store s) 0 (first_length u)) own_log; answer = Accepted }) u (Ok tt) by left e)

  pub bars : (r : Refusal) → t ≡ Err r → (opening u s).answer ≡ Refused r
  unfolding fresh_of
  bars r e =
      ap (λ (D : Outcome). D.answer)
      (outcome_of (λ (r : Refusal). refuse (lent no_bench (own_store s) own_log) r) (record { world = lent (new_bench 0 u) (zeros (own_store s) 0 (first_length u)) own_log; answer = Accepted }) u (Err r) by left e)

-- an accepted fresh: nobody has begun, nothing is logged, and the store is all 0
module _ (u : Setup) (s : ℕ) (a : (opening u s).answer ≡ Accepted) where
  F : ((fresh_of u (own_store s) own_log).world ≡ lent (new_bench 0 u) (zeros (own_store s) 0 (first_length u)) own_log) × Admitted u (usable (own_store s))
  F = fresh_is u (own_store s) own_log a

  pub start_crew : (0 < u.crew) × (u.crew ≤ 8)
  start_crew = F.1.crew

  pub start_none : repeats_in (opening u s).world ≡ 0
  start_none =
      let h = fair_repeats (opening u s).world 0 0 (fresh_fair u (own_store s) own_log 0 a) in omega (arith, h)

  own_words : length (own_store s) ≡ least s 10235
  own_words = length-replicate {A = ℕ} (least s 10235) 0

  start_world : (m l : List ℕ) → m ≡ own_store s → l ≡ own_log → lent (new_bench 0 u) (replicate (length m) 0) (replicate (length l) 0) ≡ (opening u s).world
  start_world m l e f =
      let same : own_store s ≡ zeros (own_store s) 0 (first_length u) = sym (zeros_same (least s 10235) (first_length u) (omega (arith, F.1.room, at_most_usable (own_store s), own_words))) in
      ap (λ (k : ℕ). lent (new_bench 0 u) (replicate k 0) (replicate (length l) 0)) (ap length e ∙ own_words)
      ∙ ap (λ (k : ℕ). lent (new_bench 0 u) (own_store s) (replicate k 0)) (ap length f ∙ length-replicate {A = ℕ} 448 0)
      ∙ ap (λ (x : List ℕ). lent (new_bench 0 u) x own_log) same ∙ sym F.0

  pub start_same : (b : Bench) (m l : List ℕ) (puts : List Bool) (t each : List ℕ) → b ≡ new_bench 0 u → m ≡ own_store s → l ≡ own_log → t ≡ length puts ∷ each
      → play (lent b (replicate (length m) 0) (replicate (length l) 0)) (plan puts (drop 1 t)) ≡ start_of u s (plan puts each)
  start_same b m l puts t each d e f g =
      ap (λ (x : Bench). play (lent x (replicate (length m) 0) (replicate (length l) 0)) (plan puts (drop 1 t))) d
      ∙ ap (λ (x : List ℕ). play (lent (new_bench 0 u) (replicate (length m) 0) (replicate (length l) 0)) (plan puts (drop 1 x))) g
      ∙ ap (λ (W : World). play W (plan puts each)) (start_world m l e f)

  pub start_fits : (b : Bench) (puts : List Bool) (t each : List ℕ) → b ≡ new_bench 0 u → t ≡ length puts ∷ each → Fits b.workers (plan puts (drop 1 t)) t
  start_fits b puts t each d g =
      subst (λ (x : Bench). Fits x.workers (plan puts (drop 1 t)) t) (sym d)
      (subst (λ (x : List ℕ). Fits (replicate 8 resting) (plan puts (drop 1 x)) x) (sym g)
      (λ i. omega (arith, plan_length puts each i, idle_is (line_at (replicate 8 resting) i) (rests i))))

-- THE REPORT, refused or made
module _ (u : Setup) (s : ℕ) (l : List (List Operation)) (b : ℕ) where
  abbrev last : Report
  last = when leb b 1000000 then report_of (start_of u s l) b (orders_of 256 (start_of u s l)) else refusal LargeBudget

  abbrev third : Report
  third = when leb (operations l) 64 then last else refusal ManyOperations

  abbrev second : Report
  second = when eqb (operations (drop u.crew l)) 0 then third else refusal (Barred NoSuchWorker)

  pub plan_barred : (r : Refusal) → (opening u s).answer ≡ Refused r → refusal (Barred r) ≡ hunt_plan u s l b
  plan_barred r e = sym (ap (λ (x : Answer). unless_refused x second) e)

  module _ (a : (opening u s).answer ≡ Accepted) where
    pub plan_strangers : eqb (operations (drop u.crew l)) 0 ≡ false → refusal (Barred NoSuchWorker) ≡ hunt_plan u s l b
    plan_strangers e = sym (ap (λ (x : Answer). unless_refused x second) a ∙ if_false third e)

    module _ (c : eqb (operations (drop u.crew l)) 0 ≡ true) where
      pub plan_many : leb (operations l) 64 ≡ false → refusal ManyOperations ≡ hunt_plan u s l b
      plan_many e = sym (ap (λ (x : Answer). unless_refused x second) a ∙ if_true (refusal (Barred NoSuchWorker)) c ∙ if_false last e)

      module _ (m : leb (operations l) 64 ≡ true) where
        pub plan_large : leb b 1000000 ≡ false → refusal LargeBudget ≡ hunt_plan u s l b
        plan_large e =
            sym
            (ap (λ (x : Answer). unless_refused x second) a ∙ if_true (refusal (Barred NoSuchWorker)) c ∙ if_true (refusal ManyOperations) m
            ∙ if_false (report_of (start_of u s l) b (orders_of 256 (start_of u s l))) e)

        pub plan_made : leb b 1000000 ≡ true → report_of (start_of u s l) b (orders_of 256 (start_of u s l)) ≡ hunt_plan u s l b
        plan_made e =
            sym
            (ap (λ (x : Answer). unless_refused x second) a ∙ if_true (refusal (Barred NoSuchWorker)) c ∙ if_true (refusal ManyOperations) m
            ∙ if_true (refusal LargeBudget) e)

        pub plan_passed : leb b 1000000 ≡ true → Passed u s l b
        plan_passed e = record { accepted = a; crew = c; some = m; budget = e }

-- THE CHECKS as the code makes them, one after the other
module _ (k w c n v s : ℕ) (puts : List Bool) (each : List ℕ) (b : ℕ) (m l : List ℕ) (m_is : m ≡ own_store s) (l_is : l ≡ own_log) (left : ℕ) (left_is : left ≡ usable m)
    (t : Result ⊤ Refusal) (by : t ≡ admitted (setup k w c n v) left (λ w. Err w) (Ok tt)) where
  abbrev u : Setup
  u = setup k w c n v

  all_left : left ≡ usable (own_store s)
  all_left = left_is ∙ ap usable m_is

  pub barred_is : (r : Refusal) → t ≡ Err r → refusal (Barred r) ≡ hunt_of k w c n v s puts each b
  unfolding hunt_of
  barred_is r e = plan_barred u s (plan puts each) b r (bars u s left t all_left by r e)

  module _ (no : t ≡ Ok tt) where
    accepted : (opening u s).answer ≡ Accepted
    accepted = admits u s left t all_left by no

    pub behind_few : n - 1 ≤ 7
    behind_few = let h = start_crew u s accepted in omega (arith, h.1)

    pub sized : (c ≤ 1024) × (v ≤ 4)
    sized = let A = admitted_in u left (sym by ∙ no) in (A.size, A.words)

    module _ (x : ℕ) (x_is : x ≡ operations (drop (n - 1) (steals each))) where
      outside : operations (drop n (plan puts each)) ≡ x
      outside = ap operations (plan_outside puts each n (start_crew u s accepted).0) ∙ sym x_is

      pub strangers_is : (x ≡ 0 → ⊥) → refusal (Barred NoSuchWorker) ≡ hunt_of k w c n v s puts each b
      unfolding hunt_of
      strangers_is e =
          plan_strangers u s (plan puts each) b accepted (ne_eqb (operations (drop n (plan puts each))) 0 (λ f. e (sym outside ∙ f)))

      module _ (none : x ≡ 0) (y : ℕ) (y_is : y ≡ operations (drop 0 (steals each))) (z : Bool) (z_is : z ≡ ltb 64 (length puts + y)) where
        crewed : eqb (operations (drop n (plan puts each))) 0 ≡ true
        crewed = eq-eqb (operations (drop n (plan puts each))) 0 (outside ∙ none)

        total : operations (plan puts each) ≡ length puts + y
        total = plan_operations puts each ∙ ap (λ (j : ℕ). length puts + j) (sym y_is)

        pub many_is : z ≡ true → refusal ManyOperations ≡ hunt_of k w c n v s puts each b
        unfolding hunt_of
        many_is e =
            plan_many u s (plan puts each) b accepted crewed
            (lt-leb (operations (plan puts each)) 64 (let h = ltb-true 64 (length puts + y) (sym z_is ∙ e) in omega (arith, h, total)))

        module _ (few : z ≡ false) where
          pub at_most : length puts + y ≤ 64
          at_most = ltb-false 64 (length puts + y) (sym z_is ∙ few)

          some : leb (operations (plan puts each)) 64 ≡ true
          some = le-leb (operations (plan puts each)) 64 (omega (arith, at_most, total))

          pub large_is : 1000000 < b → refusal LargeBudget ≡ hunt_of k w c n v s puts each b
          unfolding hunt_of
          large_is h = plan_large u s (plan puts each) b accepted crewed some (lt-leb b 1000000 h)

          module _ (paid : b ≤ 1000000) (bench : Bench) (bench_is : bench ≡ new_bench 0 u) (all : List ℕ) (all_is : all ≡ length puts ∷ each) where
            abbrev S : Play
            S = play (lent bench (replicate (length m) 0) (replicate (length l) 0)) (plan puts (drop 1 all))

            same : S ≡ start_of u s (plan puts each)
            same = start_same u s accepted bench m l puts all each bench_is m_is l_is all_is

            pub good_start : Good S
            good_start =
                subst Good (sym same) (start_good k w c n v s puts each b (plan_passed u s (plan puts each) b accepted crewed some (le-leb b 1000000 paid)))

            pub fits_start : Fits bench.workers (plan puts (drop 1 all)) all
            fits_start = start_fits u s accepted bench puts all each bench_is all_is

            pub none_start : repeats_in S.world ≡ 0
            none_start = subst (λ (X : Play). repeats_in X.world ≡ 0) (sym same) (start_none u s accepted)

            pub hands_start : (a : ℕ) → a ≡ hands_in (map owners_next puts) → a + y ≡ takes_and_steals (plan puts (drop 1 all))
            hands_start a e =
                ap (λ (j : ℕ). j + y) e ∙ ap (λ (j : ℕ). hands_in (map owners_next puts) + j) y_is ∙ sym (plan_hands puts each)
                ∙ ap (λ (X : Play). takes_and_steals X.left) (sym same)

            pub made_is : report_of S b (orders_of 256 S) ≡ hunt_of k w c n v s puts each b
            unfolding hunt_of
            made_is =
                ap (λ (X : Play). report_of X b (orders_of 256 X)) same
                ∙ plan_made u s (plan puts each) b accepted crewed some (le-leb b 1000000 paid)
