-- The walk by next orders, as the code makes it: an order is the steps given for it, and from there on the lowest worker that may
-- step; the next one is given by the last step at which a higher worker may step instead.
use Rattle.std.specs.Prelude.{List, [], ◌∷◌, ◌++◌, map, ℕ, zero, suc, eqb}
use Rattle.model.specs.Tests.{when◌then◌else◌}
use Rattle.orders.specs.Orders.{Play, Order, may_step, move, everyone, some_may, starting_with, orders_of}

-- the first of these workers that may step; 8 if none may
unfoldable pub lowest : Play → List ℕ → ℕ
lowest S [] = 8
lowest S (i ∷ is) = when may_step S i then i else lowest S is

-- those behind worker i
unfoldable pub above : ℕ → List ℕ → List ℕ
above i [] = []
above i (j ∷ is) = when eqb i j then is else above i is

-- the order that starts with the given steps
unfoldable pub first_of : ℕ → Play → Order → Order
first_of zero S p = []
first_of (suc n) S [] = let i = lowest S everyone in when some_may S everyone then i ∷ first_of n (move S i) [] else []
first_of (suc n) S (i ∷ p) = i ∷ first_of n (move S i) p

-- the steps given for the order after this one; none if it is the last
abbrev pub turned : Play → ℕ → Order → Order
turned S i [] = when some_may S (above i everyone) then lowest S (above i everyone) ∷ [] else []
turned S i (j ∷ p) = i ∷ j ∷ p

unfoldable pub next_of : ℕ → Play → Order → Order
next_of zero S o = []
next_of (suc n) S [] = []
next_of (suc n) S (i ∷ o) = turned S i (next_of n (move S i) o)

-- the orders behind this one
unfoldable pub behind_of : ℕ → Play → Order → List Order
behind_of zero S o = []
behind_of (suc n) S [] = []
behind_of (suc n) S (i ∷ o) =
    map (λ p. i ∷ p) (behind_of n (move S i) o) ++ starting_with (λ T. orders_of n T) S (above i everyone)

-- those from the one that is given on; none if none is given
abbrev pub given : ℕ → Play → Order → List Order
given n S [] = []
given n S (i ∷ p) = first_of n S (i ∷ p) ∷ behind_of n S (first_of n S (i ∷ p))
