-- The hunt's code.
use Rattle.std.specs.Prelude.{◌≡◌, Bool, Option, Some, None, List, map, ℕ, ◌≤◌, ◌<◌, length, take, get_or, replicate}
use Rattle.model.specs.declared.Bench.{Bench}
use Rattle.model.specs.declared.Operation.{Operation}
use Rattle.model.specs.declared.Operation.TheVariants.{Steal}
use Rattle.orders.specs.Orders.{Play, Order}
use Rattle.orders.specs.Next.{first_of}
use Rattle.orders.specs.Hunt.{Report, repeats_of}
use Rattle.orders.proofs.Turning.{Higher}
use Rattle.rounds.specs.Rounds.{play_of}
use Rattle.hunter.specs.declared.Found.{Found}
use Rattle.hunter.specs.declared.Round.{Round}

-- what the thieves are to do
abbrev pub steals : List ℕ → List (List Operation)
steals l = map (λ m. replicate m Steal) l

-- a bench before the first step, on a store of n words and a log of k, all 0; t counts the operations of each worker
abbrev pub start_of : Bench → ℕ → ℕ → List Bool → List ℕ → Play
start_of b n k puts t = play_of b (replicate n 0) (replicate k 0) puts t

-- the order o played out from S, with its repeats
pub record Through (S : Play) (o : Order) (most : ℕ) (r : Round) (order others : List ℕ) : Type 0 where
  pub made : take r.steps order ≡ o
  pub steps : r.steps ≡ length o
  pub paid : r.steps ≤ most
  pub higher : Higher S o (λ k. get_or others k 0)
  pub repeats : r.repeats ≡ repeats_of S o

-- the order that starts with the given steps p was played out, or has too many steps
pub record RoundBy (S : Play) (p : Order) (most : ℕ) (r : Option Round) (order others seen : List ℕ) : Type 0 where
  pub out : (d : Round) → r ≡ Some d → Through S (first_of 256 S p) most d order others
  pub off : r ≡ None → most < length (first_of 256 S p)
  pub long : length order ≡ 256
  pub wide : length others ≡ 256
  pub table : length seen ≡ 4096

-- the report that the code hands back
abbrev pub reported : Found → Report
reported r =
    record {
      verdict = r.verdict;
      order = take r.length r.order;
      repeats = r.repeats;
      steps = r.steps;
      distance = r.distance;
    }
