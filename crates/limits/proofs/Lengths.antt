-- An array's length and its size.
use mathlib.Core.Bool.{Bool, true, false}
use mathlib.Core.Path.{◌≡◌, refl, sym, ap, ◌∙◌}
use Prim.Native.Nat.{ℕ, ◌+◌, ◌*◌, ◌/◌, ◌≤◌, ◌<◌}
use native.Mathlib.Nat.{mul-div_cancel_left, div-lt_iff_lt-mul, le-div_iff_mul-le}
use native.Mathlib.Omega.{arith}
use lib.Dec.{eqb, ltb, leb}
use borrow.Author.Tests.{eqb-true, eq-eqb, ltb-true, ltb-false, le-leb, lt-leb}
use Rattle.model.specs.Tests.{◌and◌}
use Rattle.model.specs.Limits.{is_size}
use Rattle.model.proofs.Tests.{holds, last_holds, and_left, and_right}

pub never : (b : Bool) → (b ≡ true → ⊥) → b ≡ false
never true h = absurd (h refl)
never false h = refl

-- a length that is that of r tasks, and one that is not
pub whole : (v l r : ℕ) → l ≡ (v + 1) * r
    → ((eqb l ((v + 1) * (l / (v + 1))) and is_size 10 (l / (v + 1))) and eqb r (l / (v + 1))) ≡ is_size 10 r
whole v l r e =
    let d : l / (v + 1) ≡ r = ap (λ (x : ℕ). x / (v + 1)) e ∙ mul-div_cancel_left r (omega arith) in
    last_holds _ _ (eq-eqb _ _ (sym d)) ∙ holds (eq-eqb _ _ (e ∙ ap (λ (x : ℕ). (v + 1) * x) (sym d))) ∙ ap (is_size 10) d

pub broken : (v l r : ℕ) → (l ≡ (v + 1) * r → ⊥)
    → ((eqb l ((v + 1) * (l / (v + 1))) and is_size 10 (l / (v + 1))) and eqb r (l / (v + 1))) ≡ false
broken v l r n =
    never _ (λ t.
    let e : l ≡ (v + 1) * (l / (v + 1)) = eqb-true _ _ (and_left _ _ (and_left _ _ t)) in
    let z : r ≡ l / (v + 1) = eqb-true _ _ (and_right _ _ t) in
    n (e ∙ ap (λ (x : ℕ). (v + 1) * x) (sym z)))

-- at most 512 tasks
pub half_of_all : (v l : ℕ) → leb (2 * (l / (v + 1))) 1024 ≡ ltb l (513 * (v + 1))
half_of_all v l = by (ltb l (513 * (v + 1))) refl
  where
    by : (b : Bool) → ltb l (513 * (v + 1)) ≡ b → leb (2 * (l / (v + 1))) 1024 ≡ b
    by true e =
        let h : l / (v + 1) < 513 = (div-lt_iff_lt-mul {k = v + 1} {x = l} {y = 513} (omega arith)).1 (ltb-true _ _ e) in
        le-leb (2 * (l / (v + 1))) 1024 (omega (arith, h))
    by false e =
        let h : 513 * (v + 1) ≤ l = ltb-false _ _ e in
        let m : 513 ≤ l / (v + 1) = (le-div_iff_mul-le {k = v + 1} {x = 513} {y = l} (omega arith)).1 h in
        lt-leb (2 * (l / (v + 1))) 1024 (omega (arith, m))
