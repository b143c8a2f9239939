-- The orders walked are the complete ones, rising.
use mathlib.Core.Path.{◌≡◌, refl, sym, ◌∙◌, ap, subst}
use mathlib.Core.Bool.{Bool, true, false}
use mathlib.Core.Logic.{◌⊎◌, inl, inr, ⊎_elim}
use mathlib.Core.List.{List, [], ◌∷◌, ◌++◌, map}
use Prim.Native.Nat.{ℕ, zero, suc, ◌+◌, ◌≤◌, ◌<◌}
use native.Mathlib.Omega.{arith}
use lib.ListN.{length, take, get_or}
use Rattle.model.specs.Tests.{when◌then◌else◌, ◌or◌}
use Rattle.model.proofs.Tests.{or_either, or_false, if_true, if_false}
use Rattle.orders.specs.Orders.{Play, Order, may_step, move, after_order, everyone, some_may, starting_with, orders_of}
use Rattle.orders.specs.Claims.{Complete, Has, Before, WalkIsWhole}

-- ORDERS IN A LIST, by its parts and not by places
abbrev pub In : List Order → Order → Type 0
In [] o = ⊥
In (p ∷ os) o = (p ≡ o) ⊎ In os o

pub has_in : (os : List Order) (o : Order) → Has os o → In os o
has_in [] o (j, h, e) = absurd (omega arith)
has_in (p ∷ os) o (zero, h, e) = inl e
has_in (p ∷ os) o (suc j, h, e) = inr (has_in os o (j, omega arith, e))

pub in_has : (os : List Order) (o : Order) → In os o → Has os o
in_has [] o m = absurd m
in_has (p ∷ os) o (inl e) = (0, omega arith, e)
in_has (p ∷ os) o (inr m) = let (j, h, e) = in_has os o m in (suc j, omega arith, e)

in_left : (os ps : List Order) (o : Order) → In os o → In (os ++ ps) o
in_left [] ps o m = absurd m
in_left (p ∷ os) ps o (inl e) = inl e
in_left (p ∷ os) ps o (inr m) = inr (in_left os ps o m)

in_right : (os ps : List Order) (o : Order) → In ps o → In (os ++ ps) o
in_right [] ps o m = m
in_right (p ∷ os) ps o m = inr (in_right os ps o m)

in_either : (os ps : List Order) (o : Order) → In (os ++ ps) o → In os o ⊎ In ps o
in_either [] ps o m = inr m
in_either (p ∷ os) ps o (inl e) = inl (inl e)
in_either (p ∷ os) ps o (inr m) = ⊎_elim (λ x. inl (inr x)) (λ y. inr y) (in_either os ps o m)

abbrev behind : ℕ → List Order → List Order
behind i os = map (λ o. i ∷ o) os

in_behind : (i : ℕ) (os : List Order) (o : Order) → In os o → In (behind i os) (i ∷ o)
in_behind i [] o m = absurd m
in_behind i (p ∷ os) o (inl e) = inl (ap (λ (r : Order). i ∷ r) e)
in_behind i (p ∷ os) o (inr m) = inr (in_behind i os o m)

behind_in : (i : ℕ) (os : List Order) (o : Order) → In (behind i os) o → (p : Order) × (i ∷ p ≡ o) × In os p
behind_in i [] o m = absurd m
behind_in i (p ∷ os) o (inl e) = (p, e, inl refl)
behind_in i (p ∷ os) o (inr m) = let (q, e, x) = behind_in i os o m in (q, e, inr x)

-- THE WORKERS
abbrev pub Among : ℕ → List ℕ → Type 0
Among i [] = ⊥
Among i (j ∷ is) = (i ≡ j) ⊎ Among i is

abbrev pub Above : ℕ → List ℕ → Type 0
Above i is = (j : ℕ) → Among j is → i < j

abbrev pub Sorted : List ℕ → Type 0
Sorted [] = Unit {0}
Sorted (i ∷ is) = Above i is × Sorted is

among_everyone : (i : ℕ) → i < 8 → Among i everyone
among_everyone zero h = inl refl
among_everyone (suc zero) h = inr (inl refl)
among_everyone (suc (suc zero)) h = inr (inr (inl refl))
among_everyone (suc (suc (suc zero))) h = inr (inr (inr (inl refl)))
among_everyone (suc (suc (suc (suc zero)))) h = inr (inr (inr (inr (inl refl))))
among_everyone (suc (suc (suc (suc (suc zero))))) h = inr (inr (inr (inr (inr (inl refl)))))
among_everyone (suc (suc (suc (suc (suc (suc zero)))))) h = inr (inr (inr (inr (inr (inr (inl refl))))))
among_everyone (suc (suc (suc (suc (suc (suc (suc zero))))))) h = inr (inr (inr (inr (inr (inr (inr (inl refl)))))))
among_everyone (suc (suc (suc (suc (suc (suc (suc (suc i)))))))) h = absurd (omega arith)

-- the numbers from m on, n of them
abbrev from : ℕ → ℕ → List ℕ
from m zero = []
from m (suc n) = m ∷ from (suc m) n

from_within : (m n i : ℕ) → Among i (from m n) → (m ≤ i) × (i < m + n)
from_within m zero i a = absurd a
from_within m (suc n) i (inl e) = (omega arith, omega arith)
from_within m (suc n) i (inr a) = let r = from_within (suc m) n i a in (omega arith, omega arith)

from_sorted : (m n : ℕ) → Sorted (from m n)
from_sorted m zero = tt
from_sorted m (suc n) = (λ j a. let r = from_within (suc m) n j a in omega arith, from_sorted (suc m) n)

pub everyone_below : (i : ℕ) → Among i everyone → i < 8
everyone_below i a = let r = from_within 0 8 i a in omega arith

pub everyone_sorted : Sorted everyone
everyone_sorted = from_sorted 0 8

some_among : (S : Play) (is : List ℕ) (i : ℕ) → Among i is → may_step S i ≡ true → some_may S is ≡ true
unfolding some_may
some_among S [] i a m = absurd a
some_among S (j ∷ is) i (inl e) m = or_either _ _ (inl (ap (may_step S) (sym e) ∙ m))
some_among S (j ∷ is) i (inr a) m = or_either _ _ (inr (some_among S is i a m))

none_among : (S : Play) (is : List ℕ) (i : ℕ) → Among i is → some_may S is ≡ false → may_step S i ≡ false
unfolding some_may
none_among S [] i a m = absurd a
none_among S (j ∷ is) i (inl e) m = ap (may_step S) e ∙ (or_false _ _ m).0
none_among S (j ∷ is) i (inr a) m = none_among S is i a (or_false (may_step S j) (some_may S is) m).1

-- one worker's share of the orders
abbrev share : (Play → List Order) → Play → ℕ → Bool → List Order
share on S i x = when x then behind i (on (move S i)) else []

pub record Starts (on : Play → List Order) (S : Play) (is : List ℕ) (o : Order) : Type 0 where
  pub first : ℕ
  pub rest : Order
  pub is_so : first ∷ rest ≡ o
  pub among : Among first is
  pub may : may_step S first ≡ true
  pub goes_on_lem : In (on (move S first)) rest

share_in : (on : Play → List Order) (S : Play) (i : ℕ) (o : Order) (x : Bool) → In (share on S i x) o
    → (x ≡ true) × ((p : Order) × (i ∷ p ≡ o) × In (on (move S i)) p)
unfolding when◌then◌else◌
share_in on S i o true m = (refl, behind_in i (on (move S i)) o m)
share_in on S i o false m = absurd m

module _ (on : Play → List Order) (S : Play) (i : ℕ) (is : List ℕ) (o : Order) where
  starts_here : In (share on S i (may_step S i)) o → Starts on S (i ∷ is) o
  starts_here x =
      let (t, (p, e, q)) = share_in on S i o (may_step S i) x in
      record { first = i; rest = p; is_so = e; among = inl refl; may = t; goes_on_lem = q }

  starts_later : Starts on S is o → Starts on S (i ∷ is) o
  starts_later r =
      record { first = r.first; rest = r.rest; is_so = r.is_so; among = inr r.among; may = r.may; goes_on_lem = r.goes_on_lem }

starts : (on : Play → List Order) (S : Play) (is : List ℕ) (o : Order) → In (starting_with on S is) o → Starts on S is o
unfolding starting_with
starts on S [] o m = absurd m
starts on S (i ∷ is) o m =
    ⊎_elim (starts_here on S i is o) (λ x. starts_later on S i is o (starts on S is o x))
    (in_either (share on S i (may_step S i)) (starting_with on S is) o m)

started : (on : Play → List Order) (S : Play) (is : List ℕ) (i : ℕ) (p : Order) → Among i is → may_step S i ≡ true → In (on (move S i)) p
    → In (starting_with on S is) (i ∷ p)
unfolding starting_with
started on S [] i p a m g = absurd a
started on S (j ∷ is) i p (inl e) m g =
    in_left (share on S j (may_step S j)) (starting_with on S is) (i ∷ p)
    (subst (λ (k : ℕ). In (share on S k (may_step S k)) (i ∷ p)) e
    (subst (λ (os : List Order). In os (i ∷ p)) (sym (if_true [] m)) (in_behind i (on (move S i)) p g)))
started on S (j ∷ is) i p (inr a) m g =
    in_right (share on S j (may_step S j)) (starting_with on S is) (i ∷ p) (started on S is i p a m g)

-- THE COMPLETE ONES
stop_complete : (n : ℕ) (S : Play) → (0 ≡ n) ⊎ ((i : ℕ) → i < 8 → may_step S i ≡ false) → Complete n S []
unfolding after_order
stop_complete n S x =
    record { workers = λ j h. absurd (omega (arith, h)); may = λ j h. absurd (omega (arith, h)); short = omega arith; over = x }

step_complete : (n : ℕ) (S : Play) (i : ℕ) (p : Order) → i < 8 → may_step S i ≡ true → Complete n (move S i) p → Complete (suc n) S (i ∷ p)
unfolding after_order
step_complete n S i p h m c =
    record {
      workers = worker;
      may = steps;
      short = omega arith;
      over = ⊎_elim (λ e. inl (ap suc e)) (λ f. inr f) c.over;
    }
  where
    worker : (j : ℕ) → j < suc (length p) → get_or (i ∷ p) j 0 < 8
    worker zero l = h
    worker (suc j) l = c.workers j (omega arith)

    steps : (j : ℕ) → j < suc (length p) → may_step (after_order S (take j (i ∷ p))) (get_or (i ∷ p) j 0) ≡ true
    steps zero l = m
    steps (suc j) l = c.may j (omega arith)

-- the orders behind one that is not at its last step
abbrev further : ℕ → Play → Bool → List Order
further n S x = when x then starting_with (λ T. orders_of n T) S everyone else [] ∷ []

sound_next : (n : ℕ) (S : Play) (o : Order) → ((T : Play) (p : Order) → In (orders_of n T) p → Complete n T p)
    → (x : Bool) → some_may S everyone ≡ x → In (further n S x) o → Complete (suc n) S o
unfolding when◌then◌else◌
sound_next n S o f true q m =
    let r = starts (λ T. orders_of n T) S everyone o m in
    subst (Complete (suc n) S) r.is_so
    (step_complete n S r.first r.rest (everyone_below r.first r.among) r.may (f (move S r.first) r.rest r.goes_on_lem))
sound_next n S o f false q (inl e) =
    subst (Complete (suc n) S) e (stop_complete (suc n) S (inr (λ i h. none_among S everyone i (among_everyone i h) q)))
sound_next n S o f false q (inr m) = absurd m

pub sound : (n : ℕ) (S : Play) (o : Order) → In (orders_of n S) o → Complete n S o
unfolding orders_of
sound zero S o (inl e) = subst (Complete 0 S) e (stop_complete 0 S (inl refl))
sound zero S o (inr m) = absurd m
sound (suc n) S o m = sound_next n S o (sound n) (some_may S everyone) refl m

-- and all of them
none_may : (S : Play) (is : List ℕ) → ((i : ℕ) → Among i is → may_step S i ≡ false) → some_may S is ≡ false
unfolding some_may ◌or◌
none_may S [] f = refl
none_may S (i ∷ is) f = rw (f i (inl refl)) (none_may S is (λ j a. f j (inr a)))

pub rest_complete : (n : ℕ) (S : Play) (i : ℕ) (p : Order) → Complete (suc n) S (i ∷ p) → Complete n (move S i) p
unfolding after_order
rest_complete n S i p c =
    record {
      workers = λ j h. c.workers (suc j) (omega (arith, h));
      may = λ j h. c.may (suc j) (omega (arith, h));
      short = omega arith;
      over = ⊎_elim (λ (e : suc (length p) ≡ suc n). inl (let z : length p ≡ n = omega arith in z)) (λ f. inr f) c.over;
    }

pub whole : (n : ℕ) (S : Play) (o : Order) → Complete n S o → In (orders_of n S) o
unfolding orders_of after_order
whole zero S [] c = inl refl
whole zero S (i ∷ p) c = absurd (let z : suc (length p) ≤ 0 = c.short in omega arith)
whole (suc n) S [] c = subst (λ (os : List Order). In os []) (sym (if_false _ (none_may S everyone (λ i a. none c.over i (everyone_below i a))))) (inl refl)
  where
    none : (0 ≡ suc n) ⊎ ((i : ℕ) → i < 8 → may_step S i ≡ false) → (i : ℕ) → i < 8 → may_step S i ≡ false
    none (inl e) i h = absurd (omega arith)
    none (inr f) i h = f i h
whole (suc n) S (i ∷ p) c =
    let a = among_everyone i (c.workers 0 (omega arith)) in
    let m : may_step S i ≡ true = c.may 0 (omega arith) in
    subst (λ (os : List Order). In os (i ∷ p)) (sym (if_true _ (some_among S everyone i a m)))
    (started (λ T. orders_of n T) S everyone i p a m (whole n (move S i) p (rest_complete n S i p c)))

-- RISING
abbrev pub Rises : List Order → Type 0
Rises [] = Unit {0}
Rises (o ∷ os) = ((p : Order) → In os p → Before o p) × Rises os

rises_both : (os ps : List Order) → Rises os → Rises ps → ((o p : Order) → In os o → In ps p → Before o p) → Rises (os ++ ps)
rises_both [] ps r q f = q
rises_both (o ∷ os) ps r q f =
    (λ p m. ⊎_elim (λ x. r.0 p x) (λ y. f o p (inl refl) y) (in_either os ps p m), rises_both os ps r.1 q (λ a b x y. f a b (inr x) y))

rises_behind : (i : ℕ) (os : List Order) → Rises os → Rises (behind i os)
rises_behind i [] r = tt
rises_behind i (o ∷ os) r =
    (λ p m. let (q, e, x) = behind_in i os p m in subst (Before (i ∷ o)) e (inr (refl, r.0 q x)), rises_behind i os r.1)

rises_share : (on : Play → List Order) (S : Play) (i : ℕ) (x : Bool) → ((T : Play) → Rises (on T)) → Rises (share on S i x)
unfolding when◌then◌else◌
rises_share on S i true f = rises_behind i (on (move S i)) (f (move S i))
rises_share on S i false f = tt

rises_starting : (on : Play → List Order) (S : Play) (is : List ℕ) → Sorted is → ((T : Play) → Rises (on T)) → Rises (starting_with on S is)
unfolding starting_with
rises_starting on S [] t f = tt
rises_starting on S (i ∷ is) t f =
    rises_both (share on S i (may_step S i)) (starting_with on S is) (rises_share on S i (may_step S i) f) (rises_starting on S is t.1 f) ordered
  where
    ordered : (o p : Order) → In (share on S i (may_step S i)) o → In (starting_with on S is) p → Before o p
    ordered o p x y =
        let (e, (q, g, z)) = share_in on S i o (may_step S i) x in
        let r = starts on S is p y in
        subst (λ (a : Order). Before a p) g (subst (Before (i ∷ q)) r.is_so (inl (t.0 r.first r.among)))

further_rises : (n : ℕ) (S : Play) (x : Bool) → ((T : Play) → Rises (orders_of n T)) → Rises (further n S x)
unfolding when◌then◌else◌
further_rises n S true f = rises_starting (λ T. orders_of n T) S everyone everyone_sorted f
further_rises n S false f = (λ p m. absurd m, tt)

pub orders_rise : (n : ℕ) (S : Play) → Rises (orders_of n S)
unfolding orders_of
orders_rise zero S = (λ p m. absurd m, tt)
orders_rise (suc n) S = further_rises n S (some_may S everyone) (λ T. orders_rise n T)

rises_at : (os : List Order) → Rises os → (j k : ℕ) → j < k → k < length os → Before (get_or os j []) (get_or os k [])
rises_at [] r j k h l = absurd (omega arith)
rises_at (o ∷ os) r zero zero h l = absurd (omega arith)
rises_at (o ∷ os) r zero (suc k) h l = r.0 (get_or os k []) (has_in os (get_or os k []) (k, omega arith, refl))
rises_at (o ∷ os) r (suc j) zero h l = absurd (omega arith)
rises_at (o ∷ os) r (suc j) (suc k) h l = rises_at os r.1 j k (omega arith) (omega arith)

pub walk_is_whole : WalkIsWhole
walk_is_whole n S =
    record {
      complete = λ o h. sound n S o (has_in (orders_of n S) o h);
      every = λ o c. in_has (orders_of n S) o (whole n S o c);
      rising = rises_at (orders_of n S) (orders_rise n S);
    }
