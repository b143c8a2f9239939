-- One order played by the code.
use Rattle.std.specs.Prelude.{◌≡◌, Bool, false, Option, Some, None, List, ℕ, zero, suc, ◌-◌, ◌≤◌, ◌<◌, length, get_or, take, drop}
use Rattle.model.specs.declared.Bench.{Bench}
use Rattle.model.specs.declared.Operation.{Operation}
use Rattle.model.specs.declared.Operation.TheVariants.{Steal}
use Rattle.model.specs.Calls.{lent}
use Rattle.orders.specs.Orders.{Play, play, Order, after_order}
use Rattle.orders.specs.Next.{first_of}
use Rattle.orders.specs.Hunt.{owners_next, plan}
use Rattle.orders.proofs.Turning.{Higher}
use Rattle.rounds.specs.declared.Played.{Played}

-- what worker i begins next: of the owner's list the last n are left, and thieves steal
abbrev pub next_operation : ℕ → List Bool → ℕ → Operation
next_operation zero puts n = owners_next (get_or puts (length puts - n) false)
next_operation (suc i) puts n = Steal

-- all that is to be done, and a bench before the first step of it; t counts the operations of each worker
abbrev pub plan_of : List Bool → List ℕ → List (List Operation)
plan_of puts t = plan puts (drop 1 t)

abbrev pub play_of : Bench → List ℕ → List ℕ → List Bool → List ℕ → Play
play_of b m l puts t = play (lent b m l) (plan_of puts t)

-- the order o, played out from S
pub record Out (S : Play) (o : Order) (most : ℕ) (r : Played) (order others log : List ℕ) : Type 0 where
  pub made : take r.steps order ≡ o
  pub steps : r.steps ≡ length o
  pub paid : r.steps ≤ most
  pub higher : Higher S o (λ k. get_or others k 0)
  pub logged : (after_order S o).world.log ≡ log
  pub words : (after_order S o).world.bench.words ≡ r.words
  pub written : (after_order S o).world.bench.written ≡ r.written

-- the order that starts with the given steps p was played out, or has too many steps
pub record PlayedBy (S : Play) (p : Order) (most : ℕ) (r : Option Played) (order others log : List ℕ) : Type 0 where
  pub out : (d : Played) → r ≡ Some d → Out S (first_of 256 S p) most d order others log
  pub off : r ≡ None → most < length (first_of 256 S p)
  pub long : length order ≡ 256
  pub wide : length others ≡ 256
