-- Laws of `all_below` and `some_below`: from the whole to a place, and back.
use mathlib.Core.Path.{◌≡◌, refl, sym, ap, ◌∙◌, subst}
use mathlib.Core.Bool.{Bool, true, false}
use mathlib.Core.Logic.{⊎_elim}
use Prim.Native.Nat.{ℕ, zero, suc, ◌+◌, ◌≤◌, ◌<◌}
use native.Mathlib.Omega.{arith}
use native.Mathlib.Nat.{eq-or-lt_of_le}
use Rattle.model.specs.Tests.{◌and◌, ◌or◌}
use Rattle.model.specs.Counts.{some_below}
use Rattle.model.proofs.Tests.{fails, and_left, and_right, and_both, and_false}
use Rattle.judgement.specs.Judgement.{all_below}

module _ (p : ℕ → Bool) where
  pub all_none : all_below p 0 ≡ true
  unfolding all_below
  all_none = refl

  pub all_fails : (n j : ℕ) → j < n → p j ≡ false → all_below p n ≡ false
  unfolding all_below
  all_fails zero j h e = absurd (omega (arith, h))
  all_fails (suc n) j h e =
      ⊎_elim (λ q. fails (all_below p n) (ap p (sym q) ∙ e)) (λ q. ap (λ (y : Bool). p n and y) (all_fails n j q e) ∙ and_false (p n))
      (eq-or-lt_of_le (let le : j ≤ n = omega (arith, h) in le))

  pub all_at : (n j : ℕ) → all_below p n ≡ true → j < n → p j ≡ true
  unfolding all_below
  all_at zero j e h = absurd (omega (arith, h))
  all_at (suc n) j e h =
      ⊎_elim (λ q. ap p q ∙ and_left _ _ e) (λ q. all_at n j (and_right _ _ e) q) (eq-or-lt_of_le (let le : j ≤ n = omega (arith, h) in le))

  pub all_true : (n : ℕ) → ((j : ℕ) → j < n → p j ≡ true) → all_below p n ≡ true
  unfolding all_below
  all_true zero h = refl
  all_true (suc n) h = and_both _ _ (h n (omega arith)) (all_true n (λ j g. h j (omega (arith, g))))

  -- one place more
  pub all_next : (n : ℕ) → all_below p n ≡ true → p n ≡ true → all_below p (n + 1) ≡ true
  unfolding all_below
  all_next n e h = subst (λ (m : ℕ). all_below p m ≡ true) {x = suc n} {y = n + 1} (omega arith) (and_both _ _ h e)

  found_at : (n : ℕ) (y : Bool) → p n ≡ y → (p n or some_below p n) ≡ true → (some_below p n ≡ true → (i : ℕ) × (i < n) × (p i ≡ true)) → (i : ℕ) × (i < suc n) × (p i ≡ true)
  unfolding ◌or◌
  found_at n true e h f = (n, omega arith, e)
  found_at n false e h f = let g = f (sym (ap (λ (y : Bool). y or some_below p n) e) ∙ h) in (g.0, (let z = g.1 in omega (arith, z)), g.2)

  pub some_found : (n : ℕ) → some_below p n ≡ true → (i : ℕ) × (i < n) × (p i ≡ true)
  unfolding some_below
  some_found zero e = absurd (let z : ◌≡◌ {A = ℕ} 0 1 = cc in omega (arith, z))
  some_found (suc n) e = found_at n (p n) refl e (some_found n)
