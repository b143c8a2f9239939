-- The values of a hand-out's line are the first of six.
use mathlib.Core.Path.{◌≡◌, refl}
use mathlib.Core.List.{List, [], ◌∷◌}
use Prim.Native.Nat.{ℕ, zero, suc, ◌+◌}
use native.Mathlib.Omega.{arith}
use lib.ListN.{take}
use Rattle.model.specs.declared.Task.{Task}
use Rattle.std.specs.Prelude.{min}
use Rattle.text.specs.Outs.{out_values}

abbrev pub six : ℕ → Task → List ℕ
six i t = i ∷ t.number ∷ t.payload.first ∷ t.payload.second ∷ t.payload.third ∷ t.payload.fourth ∷ []

pub first_values : (v i : ℕ) (t : Task) → take (2 + min v 4) (six i t) ≡ out_values v i t
first_values zero i t = refl
first_values (suc zero) i t = refl
first_values (suc (suc zero)) i t = refl
first_values (suc (suc (suc zero))) i t = refl
first_values (suc (suc (suc (suc v)))) i t = let e : min (suc (suc (suc (suc v)))) 4 ≡ 4 = omega arith in rw e (whole v)
  where
    whole : (k : ℕ) → take 6 (six i t) ≡ out_values (suc (suc (suc (suc k)))) i t
    whole zero = refl
    whole (suc k) = refl
