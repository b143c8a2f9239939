-- The orders played out with a budget, and the best of them.
use mathlib.Core.Path.{◌≡◌, refl, sym, ap, subst}
use mathlib.Core.Bool.{Bool, true, false, true≢false}
use mathlib.Core.Logic.{◌⊎◌, inl, inr, ⊎_elim}
use mathlib.Core.List.{List, [], ◌∷◌}
use Prim.Native.Nat.{ℕ, zero, suc, ◌+◌, ◌-◌, ◌≤◌, ◌<◌}
use native.Mathlib.Omega.{arith}
use lib.Dec.{leb, ltb}
use lib.ListN.{length, take}
use borrow.Author.Tests.{ltb-true, ltb-false, leb-true, leb-false, le-leb}
use Rattle.model.specs.Tests.{when◌then◌else◌}
use Rattle.orders.specs.Orders.{Play, Order}
use Rattle.orders.specs.Hunt.{repeats_of, played_out, steps_made, all_out, best}
use Rattle.orders.specs.Claims.{Before, Cut, CutIsRight}
use Rattle.orders.proofs.AllOrders.{In, Rises}

-- THE CUT
cut_on : (b : ℕ) (o : Order) (os : List Order) → length o ≤ b → Cut (b - length o) os (played_out (b - length o) os) (steps_made (b - length o) os) (all_out (b - length o) os)
    → Cut b (o ∷ os) (o ∷ played_out (b - length o) os) (length o + steps_made (b - length o) os) (all_out (b - length o) os)
cut_on b o os h c =
    record {
      many = suc c.many;
      front = ap (λ (l : List Order). o ∷ l) c.front;
      paid = omega arith;
      told =
          ⊎_elim (λ (e, a, m). inl (ap suc e, a, ap (λ (n : ℕ). length o + n) m))
          (λ (l, a, d, m). inr (omega (arith, l), a, omega (arith, d), omega (arith, m, h))) c.told;
    }

cut_off : (b : ℕ) (o : Order) (os : List Order) → b < length o → Cut b (o ∷ os) [] b false
cut_off b o os h = record { many = 0; front = refl; paid = omega arith; told = inr (omega arith, refl, omega arith, refl) }

cut_next : (b : ℕ) (o : Order) (os : List Order) (x : Bool) → leb (length o) b ≡ x
    → Cut (b - length o) os (played_out (b - length o) os) (steps_made (b - length o) os) (all_out (b - length o) os)
    → Cut b (o ∷ os) (when x then o ∷ played_out (b - length o) os else []) (when x then length o + steps_made (b - length o) os else b)
    (when x then all_out (b - length o) os else false)
unfolding when◌then◌else◌
cut_next b o os true e c = cut_on b o os (leb-true (length o) b e) c
cut_next b o os false e c = cut_off b o os (leb-false (length o) b e)

pub cut_is_right : CutIsRight
unfolding played_out steps_made all_out
cut_is_right b [] = record { many = 0; front = refl; paid = omega arith; told = inl (refl, refl, refl) }
cut_is_right b (o ∷ os) = cut_next b o os (leb (length o) b) refl (cut_is_right (b - length o) os)

-- THE FRONT of a list
in_take : (n : ℕ) (os : List Order) (o : Order) → In (take n os) o → In os o
in_take zero os o m = absurd m
in_take (suc n) [] o m = absurd m
in_take (suc n) (p ∷ os) o (inl e) = inl e
in_take (suc n) (p ∷ os) o (inr m) = inr (in_take n os o m)

rises_take : (n : ℕ) (os : List Order) → Rises os → Rises (take n os)
rises_take zero os r = tt
rises_take (suc n) [] r = tt
rises_take (suc n) (p ∷ os) r = (λ q m. r.0 q (in_take n os q m), rises_take n os r.1)

pub out_rises : (b : ℕ) (os : List Order) → Rises os → Rises (played_out b os)
out_rises b os r = let c = cut_is_right b os in subst Rises (sym c.front) (rises_take c.many os r)

pub all_out_lem : (b : ℕ) (os : List Order) → all_out b os ≡ true → played_out b os ≡ os
unfolding played_out all_out when◌then◌else◌
all_out_lem b [] e = refl
all_out_lem b (o ∷ os) e = go (leb (length o) b) (all_out_lem (b - length o) os) e
  where
    go : (x : Bool) → (all_out (b - length o) os ≡ true → played_out (b - length o) os ≡ os) → (when x then all_out (b - length o) os else false) ≡ true
        → (when x then o ∷ played_out (b - length o) os else []) ≡ o ∷ os
    go true f e = ap (λ (l : List Order). o ∷ l) (f e)
    go false f e = absurd (true≢false (sym e))

-- a larger budget plays out all that a smaller one does
more_next : (b b' : ℕ) (o p : Order) (os : List Order) (x : Bool) → leb (length o) b ≡ x → b ≤ b'
    → (In (played_out (b - length o) os) p → In (played_out (b' - length o) os) p)
    → In (when x then o ∷ played_out (b - length o) os else []) p
    → In (when leb (length o) b' then o ∷ played_out (b' - length o) os else []) p
unfolding when◌then◌else◌
more_next b b' o p os true e h f m =
    rw (le-leb (length o) b' (omega (arith, leb-true (length o) b e))) (⊎_elim (λ q. inl q) (λ q. inr (f q)) m)
more_next b b' o p os false e h f m = absurd m

pub more_out : (b b' : ℕ) (os : List Order) (p : Order) → b ≤ b' → In (played_out b os) p → In (played_out b' os) p
unfolding played_out
more_out b b' [] p h m = m
more_out b b' (o ∷ os) p h m =
    more_next b b' o p os (leb (length o) b) refl h (more_out (b - length o) (b' - length o) os p (omega arith)) m

-- THE BEST
before_once : (o p : Order) → Before o p → Before p o → ⊥
before_once [] p x y = x
before_once (i ∷ o) [] x y = x
before_once (i ∷ o) (j ∷ p) (inl x) (inl y) = omega arith
before_once (i ∷ o) (j ∷ p) (inl x) (inr y) = omega (arith, y.0)
before_once (i ∷ o) (j ∷ p) (inr x) (inl y) = omega (arith, x.0)
before_once (i ∷ o) (j ∷ p) (inr x) (inr y) = before_once o p x.1 y.1

module _ (S : Play) where
  abbrev better : Order → Order → Bool → Order
  better o later x = when x then later else o

  most_next : (o later p : Order) (x : Bool) → ltb (repeats_of S o) (repeats_of S later) ≡ x → (o ≡ p) ⊎ (repeats_of S p ≤ repeats_of S later)
      → repeats_of S p ≤ repeats_of S (better o later x)
  unfolding when◌then◌else◌
  most_next o later p true e (inl q) = omega (arith, ltb-true (repeats_of S o) (repeats_of S later) e, ap (repeats_of S) q)
  most_next o later p true e (inr h) = h
  most_next o later p false e (inl q) = omega (arith, ap (repeats_of S) q)
  most_next o later p false e (inr h) = omega (arith, ltb-false (repeats_of S o) (repeats_of S later) e, h)

  pub best_most : (os : List Order) (p : Order) → In os p → repeats_of S p ≤ repeats_of S (best S os)
  unfolding best
  best_most [] p m = absurd m
  best_most (o ∷ os) p (inl e) = most_next o (best S os) p (ltb (repeats_of S o) (repeats_of S (best S os))) refl (inl e)
  best_most (o ∷ os) p (inr m) = most_next o (best S os) p (ltb (repeats_of S o) (repeats_of S (best S os))) refl (inr (best_most os p m))

  -- it is one of them; of none it is the empty one. Nothing is repeated before the first step
  in_next : (o later : Order) (os : List Order) (x : Bool) → ltb (repeats_of S o) (repeats_of S later) ≡ x → repeats_of S [] ≡ 0
      → ((os ≡ []) × (later ≡ [])) ⊎ In os later → In (o ∷ os) (better o later x)
  unfolding when◌then◌else◌
  in_next o later os true e z (inl (a, b)) = absurd (omega (arith, z, ltb-true (repeats_of S o) (repeats_of S later) e, ap (repeats_of S) b))
  in_next o later os true e z (inr m) = inr m
  in_next o later os false e z m = inl refl

  pub best_in : repeats_of S [] ≡ 0 → (os : List Order) → ((os ≡ []) × (best S os ≡ [])) ⊎ In os (best S os)
  unfolding best
  best_in z [] = inl (refl, refl)
  best_in z (o ∷ os) = inr (in_next o (best S os) os (ltb (repeats_of S o) (repeats_of S (best S os))) refl z (best_in z os))

  -- the earliest
  earliest_next : (o later p : Order) (x : Bool) → ltb (repeats_of S o) (repeats_of S later) ≡ x
      → (o ≡ p) ⊎ (Before o p × (Before p later → repeats_of S p < repeats_of S later))
      → Before p (better o later x) → repeats_of S p < repeats_of S (better o later x)
  unfolding when◌then◌else◌
  earliest_next o later p true e (inl q) b = omega (arith, ltb-true (repeats_of S o) (repeats_of S later) e, ap (repeats_of S) q)
  earliest_next o later p true e (inr (a, f)) b = f b
  earliest_next o later p false e (inl q) b = absurd (let d = subst (λ (r : Order). Before r o) (sym q) b in before_once o o d d)
  earliest_next o later p false e (inr (a, f)) b = absurd (before_once o p a b)

  pub best_earliest : (os : List Order) → Rises os → (p : Order) → In os p → Before p (best S os) → repeats_of S p < repeats_of S (best S os)
  unfolding best
  best_earliest [] r p m b = absurd m
  best_earliest (o ∷ os) r p (inl e) b = earliest_next o (best S os) p (ltb (repeats_of S o) (repeats_of S (best S os))) refl (inl e) b
  best_earliest (o ∷ os) r p (inr m) b =
      earliest_next o (best S os) p (ltb (repeats_of S o) (repeats_of S (best S os))) refl (inr (r.0 p m, best_earliest os r.1 p m)) b
