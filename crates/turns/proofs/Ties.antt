-- What the two functions answer, said of a play: the lowest worker that may step, and the steps given for the next order.
use mathlib.Core.Path.{◌≡◌, refl, sym, ◌∙◌, ap}
use mathlib.Core.List.{List, [], ◌∷◌}
use Prim.Native.Nat.{ℕ, zero, suc, ◌+◌, ◌-◌, ◌≤◌, ◌<◌}
use native.Mathlib.Omega.{arith}
use lib.Dec.{ltb}
use lib.ListN.{length, take, set, get_or}
use lib.Seq.{take-set-lt, take-take, length-take-le}
use Rattle.model.specs.Tests.{when◌then◌else◌}
use Rattle.orders.specs.Orders.{Play, may_step, everyone}
use Rattle.orders.specs.Next.{lowest, above, next_of}
use Rattle.orders.proofs.Turning.{given_by, Higher, HigherAt, next_by}
use Rattle.turns.specs.Turns.{from, first_busy, Turned}

-- what each worker has open or left
abbrev pub Counts : Play → List ℕ → Type 0
Counts S t = (i : ℕ) → may_step S i ≡ ltb 0 (get_or t i 0)

pub lowest_busy : (S : Play) (t : List ℕ) → Counts S t → (is : List ℕ) → lowest S is ≡ first_busy t is
unfolding lowest first_busy
lowest_busy S t c [] = refl
lowest_busy S t c (i ∷ is) = rw (c i, lowest_busy S t c is)

everyone_from : everyone ≡ from 0 (8 - 0)
unfolding from
everyone_from = refl

above_from : (i : ℕ) → i < 8 → above i everyone ≡ from (i + 1) (8 - (i + 1))
unfolding above from when◌then◌else◌
above_from zero h = refl
above_from (suc zero) h = refl
above_from (suc (suc zero)) h = refl
above_from (suc (suc (suc zero))) h = refl
above_from (suc (suc (suc (suc zero)))) h = refl
above_from (suc (suc (suc (suc (suc zero))))) h = refl
above_from (suc (suc (suc (suc (suc (suc zero)))))) h = refl
above_from (suc (suc (suc (suc (suc (suc (suc zero))))))) h = refl
above_from (suc (suc (suc (suc (suc (suc (suc (suc i)))))))) h = absurd (omega arith)

-- `up` from 0 on; and above a worker
pub up_lowest : (S : Play) (t : List ℕ) (r : ℕ) → Counts S t → r ≡ first_busy t (from 0 (8 - 0)) → r ≡ lowest S everyone
up_lowest S t r c e = e ∙ ap (first_busy t) (sym everyone_from) ∙ sym (lowest_busy S t c everyone)

pub up_above : (S : Play) (t : List ℕ) (i r : ℕ) → Counts S t → i < 8 → r ≡ first_busy t (from (i + 1) (8 - (i + 1))) → r ≡ lowest S (above i everyone)
up_above S t i r c h e = e ∙ ap (first_busy t) (sym (above_from i h)) ∙ sym (lowest_busy S t c (above i everyone))

-- `turn`: of an order of n steps in the first places of `order`
higher_at : (others : List ℕ) (r : ℕ) → (0 < r → get_or others (r - 1) 0 < 8) → HigherAt (λ k. get_or others k 0) r
higher_at others zero h = tt
higher_at others (suc m) h =
    let g = h (omega arith) in
    let e : suc m - 1 ≡ m = omega arith in
    omega (arith, g, ap (λ (k : ℕ). get_or others k 0) e)

given_by_lem : (order others to : List ℕ) (n r : ℕ) → n ≤ length order → Turned order others n r to → take r to ≡ given_by (take n order) (λ k. get_or others k 0) r
given_by_lem order others to n zero h t = refl
given_by_lem order others to n (suc m) h t =
    let e : suc m - 1 ≡ m = omega arith in
    ap (take (suc m)) (t.changed (omega arith) ∙ ap (λ (k : ℕ). set order k (get_or others k 0)) e)
    ∙ sym (ap (take (suc m)) (sym (take-set-lt n order m (get_or others m 0) (omega (arith, t.within)))) ∙ take-take (suc m) n (set order m (get_or others m 0)) t.within)

pub turn_next : (S : Play) (m n r : ℕ) (order others to : List ℕ) → n ≤ m → n ≤ length order → Higher S (take n order) (λ k. get_or others k 0)
    → Turned order others n r to → next_of m S (take n order) ≡ take r to
turn_next S m n r order others to l h H t =
    let e = length-take-le n order h in
    next_by m S (take n order) (λ k. get_or others k 0) r (omega (arith, e)) H (omega (arith, e, t.within)) (λ k a g. t.last k a (omega (arith, g, e)))
    (higher_at others r t.higher)
    ∙ sym (given_by_lem order others to n r h t)
