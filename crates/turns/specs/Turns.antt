-- Choosing the next worker, and the next order, on numbers: how many operations each worker has open or left.
use Rattle.std.specs.Prelude.{◌≡◌, List, [], ◌∷◌, ℕ, zero, suc, ◌-◌, ◌≤◌, ◌<◌, ltb, get_or, set}
use Rattle.model.specs.Tests.{when◌then◌else◌}

-- the workers from m on, n of them; those up to 7
unfoldable pub from : ℕ → ℕ → List ℕ
from m zero = []
from m (suc n) = m ∷ from (suc m) n

-- the first of these that has something open or left; 8 if none has
unfoldable pub first_busy : List ℕ → List ℕ → ℕ
first_busy t [] = 8
first_busy t (i ∷ is) = when ltb 0 (get_or t i 0) then i else first_busy t is

-- an order of n steps, with the next higher worker that might have made each step (8: none), becomes the start of the next order:
-- r steps, the last of which is another one; 0 if there is none
pub record Turned (order others : List ℕ) (n r : ℕ) (to : List ℕ) : Type 0 where
  pub within : r ≤ n
  pub last : (k : ℕ) → r ≤ k → k < n → 8 ≤ get_or others k 0
  pub none : r ≡ 0 → to ≡ order
  pub higher : 0 < r → get_or others (r - 1) 0 < 8
  pub changed : 0 < r → to ≡ set order (r - 1) (get_or others (r - 1) 0)
