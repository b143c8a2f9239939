-- The first busy worker from some worker on.
use mathlib.Core.Path.{◌≡◌, sym, ◌∙◌, ap}
use mathlib.Core.List.{List}
use Prim.Native.Nat.{ℕ, suc, ◌+◌, ◌-◌, ◌≤◌, ◌<◌}
use native.Mathlib.Omega.{arith}
use native.Mathlib.Numerals.{add-one}
use lib.ListN.{get_or}
use borrow.Author.Tests.{lt-ltb, le-ltb}
use Rattle.model.proofs.Tests.{if_true, if_false}
use Rattle.turns.specs.Turns.{from, first_busy}

from_next : (i : ℕ) → i < 8 → (t : List ℕ) → first_busy t (from i (8 - i)) ≡ first_busy t (from i (suc (8 - suc i)))
from_next i h t = ap (λ (n : ℕ). first_busy t (from i n)) (let e : 8 - i ≡ suc (8 - suc i) = omega arith in e)

pub busy_hit : (t : List ℕ) (i : ℕ) → i < 8 → 0 < get_or t i 0 → first_busy t (from i (8 - i)) ≡ i
unfolding first_busy from
busy_hit t i h g = from_next i h t ∙ if_true (first_busy t (from (suc i) (8 - suc i))) (lt-ltb 0 (get_or t i 0) g)

pub busy_miss : (t : List ℕ) (i : ℕ) → i < 8 → get_or t i 0 ≤ 0 → first_busy t (from i (8 - i)) ≡ first_busy t (from (i + 1) (8 - (i + 1)))
unfolding first_busy from
busy_miss t i h g =
    from_next i h t ∙ if_false i (le-ltb 0 (get_or t i 0) g) ∙ ap (λ (k : ℕ). first_busy t (from k (8 - k))) (sym (add-one i))

pub busy_none : (t : List ℕ) (i : ℕ) → 8 ≤ i → first_busy t (from i (8 - i)) ≡ 8
unfolding first_busy from
busy_none t i h = ap (λ (n : ℕ). first_busy t (from i n)) (let e : 8 - i ≡ 0 = omega arith in e)
