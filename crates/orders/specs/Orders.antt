-- Orders of steps for a fixed list of operations of each worker.
use Rattle.std.specs.Prelude.{Bool, true, false, not, List, [], ◌∷◌, ◌++◌, map, ℕ, zero, suc, get_or, set}
use Rattle.model.specs.declared.Operation.{Operation}
use Rattle.model.specs.Tests.{when◌then◌else◌, ◌or◌}
use Rattle.model.specs.World.{World, line_at, is_idle}
use Rattle.model.specs.Calls.{begin_of, step_of}

-- a bench being played, and for each worker the operations that it has still to begin
pub record Play : Type 0 where
  pub world : World
  pub left : List (List Operation)

abbrev pub play : World → List (List Operation) → Play
play W l = record { world = W; left = l }

abbrev pub left_of : Play → ℕ → List Operation
left_of S i = get_or S.left i []

abbrev pub has_some : List Operation → Bool
has_some [] = false
has_some (op ∷ ops) = true

abbrev pub idle : Play → ℕ → Bool
idle S i = is_idle (line_at S.world.bench.workers i)

-- a worker may step that has an operation open or left
abbrev pub may_step : Play → ℕ → Bool
may_step S i = not (idle S i) or has_some (left_of S i)

-- worker i begins the first of these operations, and does its first line
abbrev pub begin_next : Play → ℕ → List Operation → Play
begin_next S i [] = S
begin_next S i (op ∷ ops) = play (step_of (begin_of S.world i op).world i).world (set S.left i ops)

-- ONE STEP: worker i does its next line; one whose operation has ended begins its next one with it
unfoldable pub move : Play → ℕ → Play
move S i = when idle S i then begin_next S i (left_of S i) else play (step_of S.world i).world S.left

-- an order: the workers that step, one after the other. What playing it leaves
abbrev pub Order : Type 0
Order = List ℕ

unfoldable pub after_order : Play → Order → Play
after_order S [] = S
after_order S (i ∷ o) = after_order (move S i) o

-- ALL ORDERS, rising. The workers are 0 to 7; those outside the crew have nothing to do
abbrev pub everyone : List ℕ
everyone = 0 ∷ 1 ∷ 2 ∷ 3 ∷ 4 ∷ 5 ∷ 6 ∷ 7 ∷ []

unfoldable pub some_may : Play → List ℕ → Bool
some_may S [] = false
some_may S (i ∷ is) = may_step S i or some_may S is

-- those that start with a step of one of these workers, in their order; `on` are the orders behind such a step
unfoldable pub starting_with : (Play → List Order) → Play → List ℕ → List Order
starting_with on S [] = []
starting_with on S (i ∷ is) = (when may_step S i then map (λ o. i ∷ o) (on (move S i)) else []) ++ starting_with on S is

-- with at most n steps: an order ends when nobody has anything left, or after n steps
unfoldable pub orders_of : ℕ → Play → List Order
orders_of zero S = [] ∷ []
orders_of (suc n) S = when some_may S everyone then starting_with (λ T. orders_of n T) S everyone else [] ∷ []
