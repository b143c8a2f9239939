-- A scan from the front: a part of it that fails makes the whole fail.
use mathlib.Core.Bool.{Bool, false}
use mathlib.Core.Path.{◌≡◌, ◌∙◌, subst}
use Prim.Native.Nat.{ℕ, zero, suc, ◌+◌, ◌-◌, ◌≤◌}
use native.Mathlib.Omega.{arith}
use Rattle.model.specs.Tests.{◌and◌}
use Rattle.model.proofs.Tests.{fails}

module _ (f g : ℕ → Bool) (turn : (k : ℕ) → f (suc k) ≡ (f k and g k)) where
  fails_later : (n k : ℕ) → f k ≡ false → f (n + k) ≡ false
  fails_later zero k e = subst (λ (x : ℕ). f x ≡ false) {x = k} {y = 0 + k} (omega arith) e
  fails_later (suc n) k e =
      subst (λ (x : ℕ). f x ≡ false) {x = suc (n + k)} {y = suc n + k} (omega arith)
      (turn (n + k) ∙ fails (g (n + k)) (fails_later n k e))

  pub fails_by_lem : (k n : ℕ) → k ≤ n → f k ≡ false → f n ≡ false
  fails_by_lem k n h e = subst (λ (x : ℕ). f x ≡ false) {x = n - k + k} {y = n} (omega arith) (fails_later (n - k) k e)
