-- The hunt: the orders played one after the other, each from a fresh bench, until done or until the budget is spent.
use Rattle.std.specs.Prelude.{Bool, true, false, List, [], ◌∷◌, map, ℕ, ◌+◌, ◌-◌, eqb, ltb, leb, length, drop, replicate}
use Rattle.model.specs.declared.Setup.{Setup}
use Rattle.model.specs.declared.Operation.{Operation}
use Rattle.model.specs.declared.Operation.TheVariants.{Put, Take, Steal, Commit}
use Rattle.model.specs.declared.Refusal.TheVariants.{NoSuchWorker}
use Rattle.model.specs.declared.Answer.{Answer}
use Rattle.model.specs.declared.Answer.TheVariants.{Accepted, Numbered, GoesOn, Finished, HandedOut, Empty, Full, Grown, Refused}
use Rattle.model.specs.Tests.{when◌then◌else◌, unless◌then◌else◌, least}
use Rattle.model.specs.Tasks.{payload}
use Rattle.model.specs.World.{World, Outcome}
use Rattle.model.specs.Answers.{number_of as refusal_number}
use Rattle.model.specs.Calls.{fresh_of, setup_in}
use Rattle.model.specs.Counts.{counts_of}
use Rattle.orders.specs.declared.Verdict.{Verdict}
use Rattle.orders.specs.declared.Verdict.TheVariants.{Hunted, Barred, ManyOperations, LargeBudget}
use Rattle.orders.specs.Orders.{Play, play, Order, after_order, orders_of}

-- hand-outs less different put numbers
abbrev pub repeats_in : World → ℕ
repeats_in W = (counts_of W).handouts - (counts_of W).different

-- of the order o, played from S
abbrev pub repeats_of : Play → Order → ℕ
repeats_of S o = repeats_in (after_order S o).world

-- THE WALK, with a budget of b steps. The orders that are played out: one that the budget cuts off isn't, and none after it
unfoldable pub played_out : ℕ → List Order → List Order
played_out b [] = []
played_out b (o ∷ os) = when leb (length o) b then o ∷ played_out (b - length o) os else []

-- the steps made, those of an order that the budget cuts off included
unfoldable pub steps_made : ℕ → List Order → ℕ
steps_made b [] = 0
steps_made b (o ∷ os) = when leb (length o) b then length o + steps_made (b - length o) os else b

-- whether all are played out
unfoldable pub all_out : ℕ → List Order → Bool
all_out b [] = true
all_out b (o ∷ os) = when leb (length o) b then all_out (b - length o) os else false

-- the earliest with the most repeats; of none, the empty order
unfoldable pub best : Play → List Order → Order
best S [] = []
best S (o ∷ os) = let later = best S os in when ltb (repeats_of S o) (repeats_of S later) then later else o

-- TAKES AND STEALS: the operations that can hand out
abbrev pub can_hand_out : Operation → ℕ
can_hand_out (Put p) = 0
can_hand_out Take = 1
can_hand_out Steal = 1
can_hand_out Commit = 0

abbrev pub hands_in : List Operation → ℕ
hands_in [] = 0
hands_in (op ∷ ops) = can_hand_out op + hands_in ops

abbrev pub takes_and_steals : List (List Operation) → ℕ
takes_and_steals [] = 0
takes_and_steals (ops ∷ l) = hands_in ops + takes_and_steals l

-- THE REPORT. How far it can be from the best: 0 if all orders were played out
pub record Report : Type 0 where
  pub verdict : Verdict
  pub order : Order
  pub repeats : ℕ
  pub steps : ℕ
  pub distance : ℕ

abbrev pub distance_of : Bool → ℕ → ℕ → ℕ
distance_of all h r = when all then 0 else h - 1 - r

abbrev pub report_of : Play → ℕ → List Order → Report
report_of S b os =
    let o = best S (played_out b os) in
    record {
      verdict = Hunted;
      order = o;
      repeats = repeats_of S o;
      steps = steps_made b os;
      distance = distance_of (all_out b os) (takes_and_steals S.left) (repeats_of S o);
    }

abbrev pub refusal : Verdict → Report
refusal v = record { verdict = v; order = []; repeats = 0; steps = 0; distance = 0 }

-- WHAT IS HUNTED. The owner's list says of each operation whether it is a put or a take, so that nothing else can be asked of it. A
-- put's payload is 0: repeats are counted by put numbers, so that no payload makes a difference
abbrev pub owners_next : Bool → Operation
owners_next true = Put (payload 0 0 0 0)
owners_next false = Take

-- the owner's puts and takes, and the number of steals of thief 1, thief 2 ..
abbrev pub plan : List Bool → List ℕ → List (List Operation)
plan puts steals = map owners_next puts ∷ map (λ m. replicate m Steal) steals

abbrev pub operations : List (List Operation) → ℕ
operations [] = 0
operations (ops ∷ l) = length ops + operations l

-- the hunt's own store of s words, of which more than 10,235 are never used, and its log: 64 operations write 64 entries of at most
-- 7 words
abbrev pub own_store : ℕ → List ℕ
own_store s = replicate (least s 10235) 0

abbrev pub own_log : List ℕ
own_log = replicate 448 0

abbrev pub opening : Setup → ℕ → Outcome
opening u s = fresh_of u (own_store s) own_log

abbrev pub start_of : Setup → ℕ → List (List Operation) → Play
start_of u s l = play (opening u s).world l

-- fresh's own refusals, or what follows them
abbrev pub unless_refused : Answer → Report → Report
unless_refused Accepted R = R
unless_refused (Numbered n) R = R
unless_refused GoesOn R = R
unless_refused (Finished i t) R = R
unless_refused (HandedOut i t) R = R
unless_refused (Empty i) R = R
unless_refused (Full i t) R = R
unless_refused (Grown i) R = R
unless_refused (Refused r) R = refusal (Barred r)

-- fresh's refusals, 6, 25, 26; then the hunt with a budget of b steps
abbrev pub hunt_plan : Setup → ℕ → List (List Operation) → ℕ → Report
hunt_plan u s l b =
    unless_refused (opening u s).answer
    (unless eqb (operations (drop u.crew l)) 0 then refusal (Barred NoSuchWorker)
    else unless leb (operations l) 64 then refusal ManyOperations
    else unless leb b 1000000 then refusal LargeBudget
    else report_of (start_of u s l) b (orders_of 256 (start_of u s l)))

-- kind k, tag width w, first size c, n workers, v payload words, without delayed stores; s words of store
unfoldable pub hunt_of : ℕ → ℕ → ℕ → ℕ → ℕ → ℕ → List Bool → List ℕ → ℕ → Report
hunt_of k w c n v s puts steals b = hunt_plan (setup_in k w c n v false) s (plan puts steals) b

-- the number of a refusal; 0 if there is none
abbrev pub number_of : Verdict → ℕ
number_of Hunted = 0
number_of (Barred r) = refusal_number r
number_of ManyOperations = 25
number_of LargeBudget = 26
