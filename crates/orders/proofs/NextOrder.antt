-- The walk by next orders goes through all orders, in their order.
use mathlib.Core.Path.{◌≡◌, refl, sym, ◌∙◌, ap}
use mathlib.Core.Bool.{Bool, true, false, true≢false}
use mathlib.Core.Logic.{inl, inr}
use mathlib.Core.List.{List, [], ◌∷◌, ◌++◌, map}
use Prim.Native.Nat.{ℕ, zero, suc}
use native.Mathlib.Omega.{arith}
use lib.Dec.{eqb}
use borrow.Author.Tests.{eq-eqb, ne_eqb}
use Rattle.model.specs.Tests.{when◌then◌else◌, ◌or◌}
use Rattle.model.proofs.Tests.{if_false}
use Rattle.orders.specs.Orders.{Play, Order, may_step, move, everyone, some_may, starting_with, orders_of}
use Rattle.orders.specs.Next.{lowest, above, first_of, turned, next_of, behind_of, given}
use Rattle.orders.proofs.AllOrders.{Among, Sorted, everyone_sorted}

abbrev behind : ℕ → List Order → List Order
behind i os = map (λ o. i ∷ o) os

-- THE LOWEST of some workers, if one may step
abbrev pub IsLowest : Play → List ℕ → ℕ → Type 0
IsLowest S is j = Among j is × (may_step S j ≡ true)

lowest_next : (S : Play) (i : ℕ) (is : List ℕ) (x : Bool) → may_step S i ≡ x → (some_may S is ≡ true → IsLowest S is (lowest S is))
    → (x or some_may S is) ≡ true → IsLowest S (i ∷ is) (when x then i else lowest S is)
unfolding when◌then◌else◌ ◌or◌
lowest_next S i is true q f e = (inl refl, q)
lowest_next S i is false q f e = let r = f e in (inr r.0, r.1)

pub lowest_is : (S : Play) (is : List ℕ) → some_may S is ≡ true → IsLowest S is (lowest S is)
unfolding some_may lowest
lowest_is S [] e = absurd (true≢false (sym e))
lowest_is S (i ∷ is) e = lowest_next S i is (may_step S i) refl (lowest_is S is) e

-- the orders start with its own
module _ (on : Play → List Order) (S : Play) where
  none_starts : (is : List ℕ) → some_may S is ≡ false → starting_with on S is ≡ []
  unfolding some_may starting_with when◌then◌else◌ ◌or◌
  none_starts [] e = refl
  none_starts (i ∷ is) e = none_next (may_step S i) (none_starts is) e
    where
      none_next : (x : Bool) → (some_may S is ≡ false → starting_with on S is ≡ []) → (x or some_may S is) ≡ false
          → (when x then behind i (on (move S i)) else []) ++ starting_with on S is ≡ []
      none_next true f e = absurd (true≢false e)
      none_next false f e = f e

  abbrev Starts : List ℕ → ℕ → Type 0
  Starts is j = starting_with on S is ≡ behind j (on (move S j)) ++ starting_with on S (above j is)

  starts_next : (i : ℕ) (is : List ℕ) (x : Bool) → may_step S i ≡ x → (some_may S is ≡ true → Starts is (lowest S is)) → (x or some_may S is) ≡ true
      → (let j = when x then i else lowest S is in
      (when x then behind i (on (move S i)) else []) ++ starting_with on S is ≡ behind j (on (move S j)) ++ starting_with on S (when eqb j i then is else above j is))
  unfolding when◌then◌else◌ ◌or◌
  starts_next i is true q f e = rw (eq-eqb i i refl)
  starts_next i is false q f e =
      let differs : eqb (lowest S is) i ≡ false =
      ne_eqb (lowest S is) i (λ d. true≢false (sym (lowest_is S is e).1 ∙ ap (may_step S) d ∙ q)) in
      rw differs (f e)

  starts_lowest : (is : List ℕ) → some_may S is ≡ true → Starts is (lowest S is)
  unfolding some_may starting_with lowest above
  starts_lowest [] e = absurd (true≢false (sym e))
  starts_lowest (i ∷ is) e = starts_next i is (may_step S i) refl (starts_lowest is) e

-- those above one that is above i
pub above_in : (i j : ℕ) (is : List ℕ) → Among j (above i is) → Among j is
unfolding above when◌then◌else◌
above_in i j [] a = a
above_in i j (k ∷ is) a = inr (go (eqb i k) (above_in i j is) a)
  where
    go : (x : Bool) → (Among j (above i is) → Among j is) → Among j (when x then is else above i is) → Among j is
    go true f a = a
    go false f a = f a

above_above : (i j : ℕ) (is : List ℕ) → Sorted is → Among j (above i is) → above j (above i is) ≡ above j is
unfolding above when◌then◌else◌
above_above i j [] s a = absurd a
above_above i j (k ∷ is) s a = go (eqb i k) (above_above i j is s.1) a
  where
    past : Among j is → above j is ≡ above j (k ∷ is)
    past b = sym (if_false is (ne_eqb j k (λ d. omega (arith, s.0 j b, d))))

    go : (x : Bool) → (Among j (above i is) → above j (above i is) ≡ above j is) → Among j (when x then is else above i is)
        → above j (when x then is else above i is) ≡ above j (k ∷ is)
    go true f a = past a
    go false f a = f a ∙ past (above_in i j is a)

-- THE FIRST ORDER, and those behind it
pub orders_first : (n : ℕ) (S : Play) → orders_of n S ≡ first_of n S [] ∷ behind_of n S (first_of n S [])
unfolding orders_of first_of behind_of when◌then◌else◌
orders_first zero S = refl
orders_first (suc n) S = go (some_may S everyone) refl (λ T. orders_first n T)
  where
    j : ℕ
    j = lowest S everyone

    go : (x : Bool) → some_may S everyone ≡ x → ((T : Play) → orders_of n T ≡ first_of n T [] ∷ behind_of n T (first_of n T []))
        → (when x then starting_with (λ T. orders_of n T) S everyone else [] ∷ [])
        ≡ (when x then j ∷ first_of n (move S j) [] else []) ∷ behind_of (suc n) S (when x then j ∷ first_of n (move S j) [] else [])
    go true q f =
        starts_lowest (λ T. orders_of n T) S everyone q
        ∙ ap (λ (os : List Order). behind j os ++ starting_with (λ T. orders_of n T) S (above j everyone)) (f (move S j))
    go false q f = refl

-- EVERY NEXT ONE
given_turned : (n : ℕ) (S : Play) (i : ℕ) (q : Order) → behind i (given n (move S i) q) ++ starting_with (λ T. orders_of n T) S (above i everyone)
    ≡ given (suc n) S (turned S i q)
unfolding first_of behind_of when◌then◌else◌
given_turned n S i (j ∷ p) = refl
given_turned n S i [] = go (some_may S (above i everyone)) refl
  where
    k : ℕ
    k = lowest S (above i everyone)

    go : (x : Bool) → some_may S (above i everyone) ≡ x
        → starting_with (λ T. orders_of n T) S (above i everyone) ≡ given (suc n) S (when x then k ∷ [] else [])
    go true q =
        starts_lowest (λ T. orders_of n T) S (above i everyone) q
        ∙ ap (λ (os : List Order). behind k os ++ starting_with (λ T. orders_of n T) S (above k (above i everyone))) (orders_first n (move S k))
        ∙ ap (λ (is : List ℕ). (k ∷ first_of n (move S k) []) ∷ (behind k (behind_of n (move S k) (first_of n (move S k) [])) ++ starting_with (λ T. orders_of n T) S is))
        (above_above i k everyone everyone_sorted (lowest_is S (above i everyone) q).0)
    go false q = none_starts (λ T. orders_of n T) S (above i everyone) q

pub orders_next : (n : ℕ) (S : Play) (o : Order) → behind_of n S o ≡ given n S (next_of n S o)
unfolding behind_of next_of
orders_next zero S o = refl
orders_next (suc n) S [] = refl
orders_next (suc n) S (i ∷ o) =
    ap (λ (os : List Order). behind i os ++ starting_with (λ T. orders_of n T) S (above i everyone)) (orders_next n (move S i) o)
    ∙ given_turned n S i (next_of n (move S i) o)
