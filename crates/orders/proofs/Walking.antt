-- The hunt order by order: what a loop keeps that has the best so far, the budget left and the orders still to be played.
use mathlib.Core.Path.{◌≡◌, refl, ◌∙◌, ap}
use mathlib.Core.Bool.{Bool, true, false}
use mathlib.Core.List.{List, [], ◌∷◌, ◌++◌}
use Prim.Native.Nat.{ℕ, ◌+◌, ◌-◌, ◌≤◌, ◌<◌}
use native.Mathlib.Omega.{arith}
use lib.Dec.{ltb, leb}
use lib.ListN.{length}
use borrow.Author.Tests.{ltb-true, ltb-false, lt-ltb, le-ltb, le-leb, lt-leb}
use Rattle.model.specs.Tests.{when◌then◌else◌}
use Rattle.model.proofs.Tests.{if_true, if_false}
use Rattle.orders.specs.Orders.{Play, Order}
use Rattle.orders.specs.Hunt.{repeats_of, played_out, steps_made, all_out, best}

module _ (S : Play) where
  -- of two orders one after the other
  abbrev pub better_of : Order → Order → Order
  better_of a o = when ltb (repeats_of S a) (repeats_of S o) then o else a

  -- the best so far, none before the first order, with one order more
  abbrev pub kept : List Order → Order → List Order
  kept [] o = o ∷ []
  kept (a ∷ l) o = better_of a o ∷ l

  merge_cases : (a o l : Order) (x y : Bool) → ltb (repeats_of S o) (repeats_of S l) ≡ x → ltb (repeats_of S a) (repeats_of S o) ≡ y
      → better_of a (when x then l else o) ≡ better_of (when y then o else a) l
  unfolding when◌then◌else◌
  merge_cases a o l true true e f =
      rw (e, lt-ltb (repeats_of S a) (repeats_of S l) (omega (arith, ltb-true (repeats_of S o) (repeats_of S l) e, ltb-true (repeats_of S a) (repeats_of S o) f)))
  merge_cases a o l true false e f = refl
  merge_cases a o l false true e f = rw (e, f)
  merge_cases a o l false false e f =
      rw (f, le-ltb (repeats_of S a) (repeats_of S l) (omega (arith, ltb-false (repeats_of S o) (repeats_of S l) e, ltb-false (repeats_of S a) (repeats_of S o) f)))

  best_merge : (a o : Order) (os : List Order) → best S (a ∷ o ∷ os) ≡ best S (better_of a o ∷ os)
  unfolding best
  best_merge a o os =
      merge_cases a o (best S os) (ltb (repeats_of S o) (repeats_of S (best S os))) (ltb (repeats_of S a) (repeats_of S o)) refl refl

  pub record Walking (B : ℕ) (all : List Order) (so_far : List Order) (b : ℕ) (os : List Order) : Type 0 where
    pub within : b ≤ B
    pub found : best S (played_out B all) ≡ best S (so_far ++ played_out b os)
    pub made : steps_made B all ≡ B - b + steps_made b os
    pub done : all_out B all ≡ all_out b os

  pub walking_start : (B : ℕ) (all : List Order) → Walking B all [] B all
  walking_start B all = record { within = omega arith; found = refl; made = omega arith; done = refl }

  kept_best : (l : List Order) (o : Order) (os : List Order) → length l ≤ 1 → best S (l ++ o ∷ os) ≡ best S (kept l o ++ os)
  kept_best [] o os h = refl
  kept_best (a ∷ []) o os h = best_merge a o os
  kept_best (a ∷ c ∷ l) o os h = absurd (omega arith)

  -- an order played out
  pub walking_on : (B : ℕ) (all l : List Order) (b : ℕ) (o : Order) (os : List Order) → length l ≤ 1 → length o ≤ b → Walking B all l b (o ∷ os)
      → Walking B all (kept l o) (b - length o) os
  unfolding played_out steps_made all_out
  walking_on B all l b o os h g w =
      let t = le-leb (length o) b g in
      let m : (when leb (length o) b then length o + steps_made (b - length o) os else b) ≡ length o + steps_made (b - length o) os = if_true b t in
      record {
        within = omega (arith, w.within);
        found = w.found ∙ ap (λ (x : List Order). best S (l ++ x)) (if_true [] t) ∙ kept_best l o (played_out (b - length o) os) h;
        made = omega (arith, w.made, w.within, m);
        done = w.done ∙ if_true false t;
      }

  -- all played out; one cut off
  pub record Over (B : ℕ) (all : List Order) (so_far : List Order) (steps : ℕ) (out : Bool) : Type 0 where
    pub found : best S (played_out B all) ≡ best S so_far
    pub made : steps_made B all ≡ steps
    pub done : all_out B all ≡ out

  append_none : (l : List Order) → l ++ [] ≡ l
  append_none [] = refl
  append_none (o ∷ l) = ap (λ (x : List Order). o ∷ x) (append_none l)

  pub walking_over : (B : ℕ) (all l : List Order) (b : ℕ) → Walking B all l b [] → Over B all l (B - b) true
  unfolding played_out steps_made all_out
  walking_over B all l b w = record { found = w.found ∙ ap (best S) (append_none l); made = omega (arith, w.made); done = w.done }

  pub walking_cut : (B : ℕ) (all l : List Order) (b : ℕ) (o : Order) (os : List Order) → b < length o → Walking B all l b (o ∷ os) → Over B all l B false
  unfolding played_out steps_made all_out
  walking_cut B all l b o os g w =
      let f = lt-leb (length o) b g in
      let m : (when leb (length o) b then length o + steps_made (b - length o) os else b) ≡ b = if_false _ f in
      record {
        found = w.found ∙ ap (λ (x : List Order). best S (l ++ x)) (if_false _ f) ∙ ap (best S) (append_none l);
        made = omega (arith, w.made, w.within, m);
        done = w.done ∙ if_false _ f;
      }
