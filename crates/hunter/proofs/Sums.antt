-- The sums that the checks and the distance need.
use mathlib.Core.Path.{◌≡◌, refl, sym, ◌∙◌, ap}
use mathlib.Core.Bool.{Bool, true, false}
use mathlib.Core.List.{List, [], ◌∷◌, map}
use Prim.Native.Nat.{ℕ, zero, suc, ◌+◌, ◌-◌, ◌/◌, ◌≤◌, ◌<◌}
use native.Mathlib.Omega.{arith}
use lib.Dec.{leb}
use lib.ListN.{length, get_or, drop, replicate, length-replicate, length-map}
use Rattle.std.proofs.Common.{min}
use native.Mathlib.Nat.{min-eq_left, min-eq_right}
use borrow.Author.Tests.{leb-true, leb-false}
use Rattle.model.specs.declared.Operation.TheVariants.{Steal}
use Rattle.model.specs.Tests.{least}
use Rattle.model.specs.World.{World}
use Rattle.model.proofs.Tests.{if_true, if_false}
use Rattle.model.specs.Counts.{counts_of, count_below, is_kind, out_first}
use Rattle.orders.specs.Hunt.{repeats_in, hands_in, takes_and_steals, operations, owners_next, plan}
use Rattle.model.specs.Answers.{entry_length}
use Rattle.hunter.specs.Hunter.{steals}

pub seven : (x : ℕ) (l : List ℕ) → length l ≡ 7
    → x ∷ get_or l 0 0 ∷ get_or l 1 0 ∷ get_or l 2 0 ∷ get_or l 3 0 ∷ get_or l 4 0 ∷ get_or l 5 0 ∷ get_or l 6 0 ∷ [] ≡ x ∷ l
seven x (a ∷ b ∷ c ∷ d ∷ e ∷ f ∷ g ∷ []) h = refl
seven x [] h = absurd (omega arith)
seven x (a ∷ []) h = absurd (omega arith)
seven x (a ∷ b ∷ []) h = absurd (omega arith)
seven x (a ∷ b ∷ c ∷ []) h = absurd (omega arith)
seven x (a ∷ b ∷ c ∷ d ∷ []) h = absurd (omega arith)
seven x (a ∷ b ∷ c ∷ d ∷ e ∷ []) h = absurd (omega arith)
seven x (a ∷ b ∷ c ∷ d ∷ e ∷ f ∷ []) h = absurd (omega arith)
seven x (a ∷ b ∷ c ∷ d ∷ e ∷ f ∷ g ∷ i ∷ l) h = absurd (omega arith)

pub min_least : (a b : ℕ) → min a b ≡ least a b
min_least a b = go (leb a b) refl
  where
    go : (x : Bool) → leb a b ≡ x → min a b ≡ least a b
    go true e = min-eq_left (leb-true a b e) ∙ sym (if_true b e)
    go false e = let h : b < a = leb-false a b e in min-eq_right (let g : b ≤ a = omega arith in g) ∙ sym (if_false a e)

-- STEALS
pub steals_next : (l : List ℕ) (k : ℕ) → k < length l → operations (drop k (steals l)) ≡ get_or l k 0 + operations (drop (suc k) (steals l))
steals_next [] k h = absurd (omega arith)
steals_next (x ∷ l) zero h = omega (arith, length-replicate x Steal)
steals_next (x ∷ l) (suc k) h = steals_next l k (omega arith)

hands_of_steals : (m : ℕ) → hands_in (replicate m Steal) ≡ m
hands_of_steals zero = refl
hands_of_steals (suc m) = omega (arith, hands_of_steals m)

pub steals_hand_out : (l : List ℕ) → takes_and_steals (steals l) ≡ operations (steals l)
steals_hand_out [] = refl
steals_hand_out (m ∷ l) = omega (arith, steals_hand_out l, hands_of_steals m, length-replicate m Steal)

pub plan_hands : (puts : List Bool) (l : List ℕ) → takes_and_steals (plan puts l) ≡ hands_in (map owners_next puts) + operations (drop 0 (steals l))
plan_hands puts l = omega (arith, steals_hand_out l)

pub plan_operations : (puts : List Bool) (l : List ℕ) → operations (plan puts l) ≡ length puts + operations (drop 0 (steals l))
plan_operations puts l = omega (arith, length-map puts owners_next)

pub plan_outside : (puts : List Bool) (l : List ℕ) (n : ℕ) → 0 < n → drop n (plan puts l) ≡ drop (n - 1) (steals l)
plan_outside puts l zero h = absurd (omega arith)
plan_outside puts l (suc n) h = ap (λ (k : ℕ). drop k (steals l)) (let e : n ≡ suc n - 1 = omega arith in e)

-- each worker's operations
pub plan_length : (puts : List Bool) (l : List ℕ) (i : ℕ) → length (get_or (plan puts l) i []) ≡ get_or (length puts ∷ l) i 0
plan_length puts l zero = length-map puts owners_next
plan_length puts l (suc i) = go l i
  where
    go : (l : List ℕ) (i : ℕ) → length (get_or (steals l) i []) ≡ get_or l i 0
    go [] i = refl
    go (m ∷ l) zero = length-replicate m Steal
    go (m ∷ l) (suc i) = go l i

-- REPEATS, from the log
pub repeats_from : (W : World) (v w : ℕ) (l : List ℕ) (n a b r : ℕ) → W.bench.words ≡ v → W.bench.written ≡ w → W.log ≡ l → n ≡ w / entry_length v
    → a ≡ count_below (is_kind v l 2) n → b ≡ count_below (out_first v l) n → r ≡ a - b → r ≡ repeats_in W
unfolding counts_of
repeats_from W v w l n a b r e f g h i j k = k ∙ rw (i, j, h, sym e, sym f, sym g)
