-- What is claimed of the hunt.
use Rattle.std.specs.Prelude.{◌≡◌, Bool, true, false, ◌⊎◌, List, [], ◌∷◌, ℕ, suc, ◌+◌, ◌-◌, ◌≤◌, ◌<◌, length, take, get_or}
use Rattle.model.specs.declared.Operation.{Operation}
use Rattle.model.specs.World.{World, room_alone}
use Rattle.model.specs.Calls.{setup, begun, begin_of, stepped, next_effect, step_of, Call}
use Rattle.model.specs.Run.{after}
use Rattle.orders.specs.declared.Verdict.TheVariants.{Hunted}
use Rattle.orders.specs.Orders.{Play, Order, left_of, idle, may_step, after_order, orders_of}
use Rattle.orders.specs.Hunt.{Report, repeats_of, played_out, steps_made, all_out, takes_and_steals, plan, start_of, hunt_of}

-- A COMPLETE ORDER from S, of at most n steps: each step is of a worker that may step then; behind it nobody may, or it has n
-- steps
pub record Complete (n : ℕ) (S : Play) (o : Order) : Type 0 where
  pub workers : (j : ℕ) → j < length o → get_or o j 0 < 8
  pub may : (j : ℕ) → j < length o → may_step (after_order S (take j o)) (get_or o j 0) ≡ true
  pub short : length o ≤ n
  pub over : (length o ≡ n) ⊎ ((i : ℕ) → i < 8 → may_step (after_order S o) i ≡ false)

-- a list of orders has an order at some place
abbrev pub Has : List Order → Order → Type 0
Has os o = (j : ℕ) × (j < length os) × (get_or os j [] ≡ o)

-- the first order comes before the second: by the earliest step in which they differ
abbrev pub Before : Order → Order → Type 0
Before [] p = ⊥
Before (i ∷ o) [] = ⊥
Before (i ∷ o) (j ∷ p) = (i < j) ⊎ ((i ≡ j) × Before o p)

-- THE WALK IS THE WHOLE SET: the orders walked are the complete ones, rising, so that none comes twice
pub record AllOrders (n : ℕ) (S : Play) : Type 0 where
  pub complete : (o : Order) → Has (orders_of n S) o → Complete n S o
  pub every : (o : Order) → Complete n S o → Has (orders_of n S) o
  pub rising : (j k : ℕ) → j < k → k < length (orders_of n S) → Before (get_or (orders_of n S) j []) (get_or (orders_of n S) k [])

abbrev pub WalkIsWhole : Type 0
WalkIsWhole = (n : ℕ) (S : Play) → AllOrders n S

-- THE CUT. With a budget of b steps the first m orders are played out: their steps are at most b, and those of one more are
-- more than b, or there is none more. The steps made are those of all orders, or the whole budget
abbrev pub steps : List Order → ℕ
steps [] = 0
steps (o ∷ os) = length o + steps os

pub record Cut (b : ℕ) (os : List Order) (out : List Order) (made : ℕ) (all : Bool) : Type 0 where
  pub many : ℕ
  pub front : out ≡ take many os
  pub paid : steps out ≤ b
  pub told : ((many ≡ length os) × (all ≡ true) × (made ≡ steps os))
      ⊎ ((many < length os) × (all ≡ false) × (b < steps (take (suc many) os)) × (made ≡ b))

abbrev pub CutIsRight : Type 0
CutIsRight = (b : ℕ) (os : List Order) → Cut b os (played_out b os) (steps_made b os) (all_out b os)

-- OF A REPORT R, of a hunt from S with a budget of b steps
pub record Reported (S : Play) (b : ℕ) (R : Report) : Type 0 where
  -- the order reported has those repeats, played from fresh; and that is a list of calls
  pub played : repeats_of S R.order ≡ R.repeats
  pub calls : (cs : List Call) × (after S.world cs ≡ (after_order S R.order).world)
  -- it is an order played out, or none was and it is empty
  pub out : Has (played_out b (orders_of 256 S)) R.order ⊎ ((played_out b (orders_of 256 S) ≡ []) × (R.order ≡ []) × (R.repeats ≡ 0))
  -- the earliest with the most: no order played out has more, and none before it has as many
  pub most : (o : Order) → Has (played_out b (orders_of 256 S)) o → repeats_of S o ≤ R.repeats
  pub earliest : (o : Order) → Has (played_out b (orders_of 256 S)) o → Before o R.order → repeats_of S o < R.repeats
  -- the distance is a true bound: no order of the full set has more than the repeats found and the distance
  pub bound : (o : Order) → Complete 256 S o → repeats_of S o ≤ R.repeats + R.distance
  -- and never negative: what it is taken from is not less
  pub whole : all_out b (orders_of 256 S) ≡ false → R.repeats + R.distance ≡ takes_and_steals S.left - 1

abbrev pub ReportIsRight : Type 0
ReportIsRight =
    (k w c n v s : ℕ) (puts : List Bool) (steals : List ℕ) (b : ℕ) → (hunt_of k w c n v s puts steals b).verdict ≡ Hunted
    → Reported (start_of (setup k w c n v) s (plan puts steals)) b (hunt_of k w c n v s puts steals b)

-- a larger budget never reports fewer repeats
abbrev pub NeverFewer : Type 0
NeverFewer =
    (k w c n v s : ℕ) (puts : List Bool) (steals : List ℕ) (b b' : ℕ) → b ≤ b' → (hunt_of k w c n v s puts steals b').verdict ≡ Hunted
    → (hunt_of k w c n v s puts steals b).repeats ≤ (hunt_of k w c n v s puts steals b').repeats

-- EVERY STEP IS MADE. The hunt's log is long enough and no put number is spent: no call of an order is refused
abbrev pub Stepped : World → ℕ → Type 0
Stepped W i = step_of W i ≡ stepped (room_alone W) W i (next_effect (room_alone W) W i)

pub record Made (S : Play) (i : ℕ) : Type 0 where
  pub starts : (op : Operation) (ops : List Operation) → idle S i ≡ true → left_of S i ≡ op ∷ ops
      → (begin_of S.world i op ≡ begun S.world i op) × Stepped (begun S.world i op).world i
  pub goes_on : idle S i ≡ false → Stepped S.world i

abbrev pub NoneRefused : Type 0
NoneRefused =
    (k w c n v s : ℕ) (puts : List Bool) (steals : List ℕ) (b : ℕ) → (hunt_of k w c n v s puts steals b).verdict ≡ Hunted
    → let S = start_of (setup k w c n v) s (plan puts steals) in
    (m : ℕ) (o : Order) → Complete m S o → (j : ℕ) → j < length o → Made (after_order S (take j o)) (get_or o j 0)
