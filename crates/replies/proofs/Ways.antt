-- The two ways of a test.
use mathlib.Core.Path.{◌≡◌, subst}
use mathlib.Core.Bool.{Bool, true, false}
use lib.Dec.{T}
use Rattle.model.specs.Tests.{when◌then◌else◌}

-- a fact of both ways holds of a conditional
pub either : {A : Type 0} (P : A → Type 0) (b : Bool) (x y : A) → P x → P y → P (when b then x else y)
unfolding when◌then◌else◌
either P true x y h k = h
either P false x y h k = k

-- a test has one outcome
pub never : {C : Type 0} → true ≡ false → C
never e = absurd (let z : ⊥ = subst T e tt in z)
