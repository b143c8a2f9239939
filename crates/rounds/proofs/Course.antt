-- Where an order stands after its first steps: what is left of it, and who makes the next step.
use mathlib.Core.Path.{◌≡◌, refl, sym, ◌∙◌, ap}
use mathlib.Core.Bool.{Bool, true, false, true≢false}
use mathlib.Core.List.{List, [], ◌∷◌}
use Prim.Native.Nat.{ℕ, zero, suc, ◌-◌, ◌≤◌, ◌<◌}
use native.Mathlib.Omega.{arith}
use lib.ListN.{length, take, drop, get_or, length-drop, drop_of_length-le}
use lib.Seq.{drop-cons, drop-nil}
use Rattle.model.specs.Tests.{when◌then◌else◌, ◌or◌}
use Rattle.model.proofs.Tests.{if_true, if_false}
use Rattle.orders.specs.Orders.{Play, Order, may_step, move, after_order, everyone, some_may}
use Rattle.orders.specs.Next.{lowest, first_of}
use Rattle.orders.specs.Claims.{Complete}
use Rattle.orders.proofs.AllOrders.{everyone_below, rest_complete}
use Rattle.orders.proofs.NextOrder.{lowest_is}
use Rattle.orders.proofs.NoneRefused.{Good, move_good}

-- one step more
pub after_next : (S : Play) (o : Order) (n : ℕ) → n < length o → after_order S (take (suc n) o) ≡ move (after_order S (take n o)) (get_or o n 0)
unfolding after_order
after_next S [] n h = absurd (omega arith)
after_next S (i ∷ o) zero h = refl
after_next S (i ∷ o) (suc n) h = after_next (move S i) o n (omega arith)

-- every step of a complete order leaves a good play
pub good_after : (m : ℕ) (S : Play) (o : Order) (n : ℕ) → Good S → Complete m S o → Good (after_order S (take n o))
unfolding after_order
good_after m S o zero G c = G
good_after m S [] (suc n) G c = G
good_after zero S (i ∷ o) (suc n) G c = absurd (let z : suc (length o) ≤ 0 = c.short in omega arith)
good_after (suc m) S (i ∷ o) (suc n) G c =
    good_after m (move S i) o n (move_good S i G (c.may 0 (omega arith))).1 (rest_complete m S i o c)

-- THE ORDER that starts with the given steps p: the given steps come first
pub first_given : (m : ℕ) (S : Play) (p : Order) (n : ℕ) → n < length p → n < m → (n < length (first_of m S p)) × (get_or (first_of m S p) n 0 ≡ get_or p n 0)
unfolding first_of
first_given zero S p n h g = absurd (omega arith)
first_given (suc m) S [] n h g = absurd (omega arith)
first_given (suc m) S (i ∷ p) zero h g = (omega arith, refl)
first_given (suc m) S (i ∷ p) (suc n) h g =
    let r = first_given m (move S i) p n (omega arith) (omega arith) in (omega (arith, r.0), r.1)

-- behind them it goes on from where it stands
pub first_rest : (m : ℕ) (S : Play) (p : Order) (n : ℕ) → n ≤ length (first_of m S p)
    → drop n (first_of m S p) ≡ first_of (m - n) (after_order S (take n (first_of m S p))) (drop n p)
unfolding first_of after_order when◌then◌else◌
first_rest m S p zero h = ap (λ (k : ℕ). first_of k S p) (let e : m ≡ m - 0 = omega arith in e)
first_rest zero S p (suc n) h = absurd (omega arith)
first_rest (suc m) S (i ∷ p) (suc n) h =
    first_rest m (move S i) p n (omega arith) ∙ ap (λ (k : ℕ). first_of k (after_order (move S i) (take n (first_of m (move S i) p))) (drop n p)) (let e : m - n ≡ suc m - suc n = omega arith in e)
first_rest (suc m) S [] (suc n) h = go (some_may S everyone) h (first_rest m (move S (lowest S everyone)) [] n)
  where
    i : ℕ
    i = lowest S everyone

    go : (x : Bool) → suc n ≤ length (when x then i ∷ first_of m (move S i) [] else [])
        → (n ≤ length (first_of m (move S i) []) → drop n (first_of m (move S i) []) ≡ first_of (m - n) (after_order (move S i) (take n (first_of m (move S i) []))) (drop n []))
        → drop (suc n) (when x then i ∷ first_of m (move S i) [] else [])
        ≡ first_of (suc m - suc n) (after_order S (take (suc n) (when x then i ∷ first_of m (move S i) [] else []))) (drop (suc n) [])
    go true g f =
        f (omega arith) ∙ ap (λ (p : Order). first_of (m - n) (after_order (move S i) (take n (first_of m (move S i) []))) p) (drop-nil n)
        ∙ ap (λ (k : ℕ). first_of k (after_order (move S i) (take n (first_of m (move S i) []))) []) (let e : m - n ≡ suc m - suc n = omega arith in e)
    go false g f = absurd (omega arith)

-- where nothing is given, the lowest that may step makes the next step; nobody, if none may
none_lowest : (S : Play) (is : List ℕ) → some_may S is ≡ false → lowest S is ≡ 8
unfolding some_may lowest when◌then◌else◌ ◌or◌
none_lowest S [] e = refl
none_lowest S (i ∷ is) e = go (may_step S i) (none_lowest S is) e
  where
    go : (x : Bool) → (some_may S is ≡ false → lowest S is ≡ 8) → (x or some_may S is) ≡ false → (when x then i else lowest S is) ≡ 8
    go true f e = absurd (true≢false e)
    go false f e = f e

lowest_next : (k : ℕ) (T : Play) (w : ℕ) → w ≡ lowest T everyone
    → (w ≡ 8 → first_of (suc k) T [] ≡ []) × ((w ≡ 8 → ⊥) → (o : Order) × (first_of (suc k) T [] ≡ w ∷ o))
unfolding first_of
lowest_next k T w e = go (some_may T everyone) refl
  where
    go : (x : Bool) → some_may T everyone ≡ x
        → (w ≡ 8 → (when some_may T everyone then lowest T everyone ∷ first_of k (move T (lowest T everyone)) [] else []) ≡ [])
        × ((w ≡ 8 → ⊥) → (o : Order) × ((when some_may T everyone then lowest T everyone ∷ first_of k (move T (lowest T everyone)) [] else []) ≡ w ∷ o))
    go true f = (
      λ g. absurd (omega (arith, e, g, everyone_below (lowest T everyone) (lowest_is T everyone f).0)),
      λ g. (first_of k (move T (lowest T everyone)) [], if_true [] f ∙ ap (λ (i : ℕ). i ∷ first_of k (move T (lowest T everyone)) []) (sym e)),
    )
    go false f = (λ g. if_false _ f, λ g. absurd (g (e ∙ none_lowest T everyone f)))

-- THE NEXT STEP of the order, after n of at most 256: w makes it, or it is over and w is 8
module _ (S : Play) (p : Order) (n w : ℕ) (c : Complete 256 S (first_of 256 S p)) (within : n ≤ length (first_of 256 S p)) (more : n < 256) where
  abbrev order : Order
  order = first_of 256 S p

  abbrev here : Play
  here = after_order S (take n order)

  pub record Next : Type 0 where
    pub over : w ≡ 8 → length order ≡ n
    pub goes : (w ≡ 8 → ⊥) → (n < length order) × (w ≡ get_or order n 0)

  pub next_given : n < length p → w ≡ get_or p n 0 → Next
  next_given h e =
      let r = first_given 256 S p n h more in
      record {
        over = λ g. absurd (omega (arith, c.workers n r.0, r.1, e, g));
        goes = λ g. (r.0, e ∙ sym r.1);
      }

  rest_first : length p ≤ n → drop n order ≡ first_of (suc (255 - n)) here []
  rest_first h =
      first_rest 256 S p n within ∙ ap (λ (q : Order). first_of (256 - n) here q) (drop_of_length-le p h)
      ∙ ap (λ (k : ℕ). first_of k here []) (let e : 256 - n ≡ suc (255 - n) = omega arith in e)

  pub next_lowest : length p ≤ n → w ≡ lowest here everyone → Next
  next_lowest h e =
      let r = lowest_next (255 - n) here w e in
      record {
        over = λ g. let z : length (drop n order) ≡ 0 = ap length (rest_first h ∙ r.0 g) in omega (arith, z, length-drop n order, within);
        goes = λ g.
            let (o, f) = r.1 g in
            let q : drop n order ≡ w ∷ o = rest_first h ∙ f in
            let z : length (drop n order) ≡ suc (length o) = ap length q in
            let some : n < length order = omega (arith, z, length-drop n order) in
            (some, ap (λ (l : Order). get_or l 0 0) (sym q ∙ drop-cons order n 0 some));
      }
