-- The next order, from the next higher worker that may make each step: of the last step that has one, that one makes it.
use mathlib.Core.Path.{◌≡◌, refl, sym, ◌∙◌, ap}
use mathlib.Core.Bool.{Bool, true, false, true≢false}
use mathlib.Core.List.{List, [], ◌∷◌}
use Prim.Native.Nat.{ℕ, zero, suc, ◌≤◌, ◌<◌}
use native.Mathlib.Omega.{arith}
use lib.ListN.{length, take, set, get_or, length-take, length-set}
use Rattle.model.specs.Tests.{when◌then◌else◌, ◌or◌}
use Rattle.model.proofs.Tests.{if_true, if_false}
use Rattle.orders.specs.Orders.{Play, Order, may_step, move, after_order, everyone, some_may}
use Rattle.orders.specs.Next.{lowest, above, turned, next_of}
use Rattle.orders.proofs.AllOrders.{everyone_below}
use Rattle.orders.proofs.NextOrder.{lowest_is, above_in}

-- the steps given: r of the order's, the last of them made by another worker
abbrev pub given_by : Order → (ℕ → ℕ) → ℕ → Order
given_by o h zero = []
given_by o h (suc m) = take (suc m) (set o m (h m))

-- 8 stands for none
lowest_none : (S : Play) (is : List ℕ) → some_may S is ≡ false → lowest S is ≡ 8
unfolding some_may lowest when◌then◌else◌ ◌or◌
lowest_none S [] e = refl
lowest_none S (i ∷ is) e = go (may_step S i) (lowest_none S is) e
  where
    go : (x : Bool) → (some_may S is ≡ false → lowest S is ≡ 8) → (x or some_may S is) ≡ false → (when x then i else lowest S is) ≡ 8
    go true f e = absurd (true≢false e)
    go false f e = f e

some_higher : (S : Play) (i : ℕ) (x : Bool) → some_may S (above i everyone) ≡ x → lowest S (above i everyone) < 8 → x ≡ true
some_higher S i true e h = refl
some_higher S i false e h = absurd (omega (arith, h, lowest_none S (above i everyone) e))

none_higher : (S : Play) (i : ℕ) (x : Bool) → some_may S (above i everyone) ≡ x → 8 ≤ lowest S (above i everyone) → x ≡ false
none_higher S i true e h =
    absurd (omega (arith, h, everyone_below (lowest S (above i everyone)) (above_in i (lowest S (above i everyone)) everyone (lowest_is S (above i everyone) e).0)))
none_higher S i false e h = refl

turned_some : (S : Play) (i : ℕ) (q : Order) → 0 < length q → turned S i q ≡ i ∷ q
turned_some S i [] h = absurd (omega arith)
turned_some S i (j ∷ p) h = refl

-- the higher workers, from step k of the order on
abbrev pub Higher : Play → Order → (ℕ → ℕ) → Type 0
Higher S o h = (k : ℕ) → k < length o → h k ≡ lowest (after_order S (take k o)) (above (get_or o k 0) everyone)

abbrev pub LastOf : Order → (ℕ → ℕ) → ℕ → Type 0
LastOf o h r = (k : ℕ) → r ≤ k → k < length o → 8 ≤ h k

abbrev pub HigherAt : (ℕ → ℕ) → ℕ → Type 0
HigherAt h zero = Unit {0}
HigherAt h (suc m) = h m < 8

pub next_by : (n : ℕ) (S : Play) (o : Order) (h : ℕ → ℕ) (r : ℕ) → length o ≤ n → Higher S o h → r ≤ length o → LastOf o h r → HigherAt h r
    → next_of n S o ≡ given_by o h r
unfolding next_of after_order
next_by zero S [] h zero l H w t u = refl
next_by zero S [] h (suc m) l H w t u = absurd (omega arith)
next_by zero S (i ∷ o) h r l H w t u = absurd (omega arith)
next_by (suc n) S [] h zero l H w t u = refl
next_by (suc n) S [] h (suc m) l H w t u = absurd (omega arith)
next_by (suc n) S (i ∷ o) h zero l H w t u =
    ap (turned S i) (next_by n (move S i) o (λ k. h (suc k)) 0 (omega arith) (λ k g. H (suc k) (omega (arith, g))) (omega arith) (λ k a g. t (suc k) (omega arith) (omega (arith, g))) tt)
    ∙ if_false _ (none_higher S i (some_may S (above i everyone)) refl (let e : h 0 ≡ lowest S (above i everyone) = H 0 (omega arith) in omega (arith, e, t 0 (omega arith) (omega arith))))
next_by (suc n) S (i ∷ o) h (suc zero) l H w t u =
    let e : h 0 ≡ lowest S (above i everyone) = H 0 (omega arith) in
    ap (turned S i) (next_by n (move S i) o (λ k. h (suc k)) 0 (omega arith) (λ k g. H (suc k) (omega (arith, g))) (omega arith) (λ k a g. t (suc k) (omega arith) (omega (arith, g))) tt)
    ∙ if_true [] (some_higher S i (some_may S (above i everyone)) refl (omega (arith, e, u))) ∙ ap (λ (j : ℕ). j ∷ []) (sym e)
next_by (suc n) S (i ∷ o) h (suc (suc m)) l H w t u =
    ap (turned S i) (next_by n (move S i) o (λ k. h (suc k)) (suc m) (omega arith) (λ k g. H (suc k) (omega (arith, g))) (omega arith) (λ k a g. t (suc k) (omega (arith, a)) (omega (arith, g))) u)
    ∙ turned_some S i (take (suc m) (set o m (h (suc m)))) (omega (arith, length-take (suc m) (set o m (h (suc m))), length-set o m (h (suc m))))
