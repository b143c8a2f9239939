-- A listing plays one list of calls: which calls its lines make, and that it shows what they answer.
use Rattle.std.specs.Prelude.{◌≡◌, true, ◌⊎◌, List, [], ◌∷◌, ◌++◌, ℕ, zero, suc, eqb, take}
use Rattle.model.specs.declared.Operation.TheVariants.{Put, Take, Steal}
use Rattle.model.specs.declared.Refusal.TheVariants.{BadLine}
use Rattle.model.specs.declared.Answer.TheVariants.{Accepted}
use Rattle.model.specs.declared.Command.{Command}
use Rattle.model.specs.declared.Command.TheVariants.{Open, BeginPut, BeginTake, BeginSteal, Steps, Who, End, Bad}
use Rattle.model.specs.Tests.{when◌then◌else◌}
use Rattle.model.specs.Answers.{number_of}
use Rattle.model.specs.World.{World, Outcome, refuse}
use Rattle.model.specs.Calls.{no_bench, lent, fresh_of, setup, step_of, who_of, Call, begin, step, call_of}
use Rattle.model.specs.Run.{after}
use Rattle.model.specs.Counts.{counts_of}
use Rattle.model.specs.Listing.{
  Print,
  D,
  H,
  E,
  F,
  R,
  Wi,
  T,
  printed_by,
  printed_tally,
  is_refused,
  totals,
  playing,
  listing_from,
  program_store,
  program_log,
  listing,
}
use Rattle.theorems.specs.Demand3.{FewPuts}

-- WHILE A BENCH IS PLAYED. What lines come to: calls, `who`, lines refused 13, and `end`
pub data Item : Type 0 where
  plays : Call → Item
  tells : ℕ → Item
  bad_line : Item
  end_line : Item

-- `step I M`: M steps, up to the first that is refused
unfoldable pub step_items : World → ℕ → ℕ → List Item
step_items W i zero = []
step_items W i (suc m) =
    plays (step i) ∷ (when is_refused (step_of W i).answer then [] else step_items (step_of W i).world i m)

-- a `put` with another count of words than the queue's is a bad line; no line drops a link, asks or commits
abbrev pub line_items : World → Command → List Item
line_items W (Open k w c n s v) = bad_line ∷ []
line_items W (BeginPut v p) = when eqb v W.bench.words then plays (begin 0 (Put p)) ∷ [] else bad_line ∷ []
line_items W BeginTake = plays (begin 0 Take) ∷ []
line_items W (BeginSteal i) = plays (begin i Steal) ∷ []
line_items W (Steps i m) = step_items W i m
line_items W (Who i) = tells i ∷ []
line_items W End = end_line ∷ []
line_items W Bad = bad_line ∷ []

-- THE LIST OF CALLS among them, up to `end`; `who` changes nothing and is none
unfoldable pub calls_in : List Item → List Call
calls_in [] = []
calls_in (plays c ∷ is) = c ∷ calls_in is
calls_in (tells i ∷ is) = calls_in is
calls_in (bad_line ∷ is) = calls_in is
calls_in (end_line ∷ is) = []

-- each line comes after the calls of the lines before it
unfoldable pub items_of : World → List Command → List Item
items_of W [] = []
items_of W (c ∷ cs) = line_items W c ++ items_of (after W (calls_in (line_items W c))) cs

-- WHAT THEY PRINT: the answer of each call of the list, what `who` answers there, a 13 for each bad line, and at `end` the counts of what the last call
-- left, and no more
unfoldable pub shows : World → List Item → List Print
shows W [] = []
shows W (plays c ∷ is) = printed_by (call_of W c) ++ shows (call_of W c).world is
shows W (tells i ∷ is) = printed_tally i (who_of W i) ++ shows W is
shows W (bad_line ∷ is) = R (number_of BadLine) ∷ shows W is
shows W (end_line ∷ is) = totals (counts_of W) ∷ []

-- THE CLAIM, for any lines while W is played, with an `end` or without
abbrev pub ListingPlays : Type 0
ListingPlays = (W : World) (cs : List Command) → listing_from (playing W) cs ≡ shows W (items_of W cs)

-- THE PROGRAM, from its start. What a line comes to before a `queue` is accepted: a `queue` is a fresh on the program's store and
-- log, and any other line is refused 13
abbrev pub out_of_place : Outcome
out_of_place = refuse (lent no_bench program_store program_log) BadLine

abbrev pub before_queue : Command → Outcome
before_queue (Open k w c n s v) = fresh_of (setup k w c n v) (take s program_store) program_log
before_queue (BeginPut v p) = out_of_place
before_queue BeginTake = out_of_place
before_queue (BeginSteal i) = out_of_place
before_queue (Steps i m) = out_of_place
before_queue (Who i) = out_of_place
before_queue End = out_of_place
before_queue Bad = out_of_place

-- each of these lines is refused; what they print
abbrev pub AllRefused : List Command → Type 0
AllRefused [] = Unit {0}
AllRefused (c ∷ cs) = (is_refused (before_queue c).answer ≡ true) × AllRefused cs

abbrev pub refusals : List Command → List Print
refusals [] = []
refusals (c ∷ cs) = printed_by (before_queue c) ++ refusals cs

-- an input with refused lines, a `queue` that is accepted, and the rest
pub record Opened (input : List Command) : Type 0 where
  pub before : List Command
  pub queue : Command
  pub rest : List Command
  pub parts : input ≡ before ++ queue ∷ rest
  pub refused : AllRefused before
  pub accepted : (before_queue queue).answer ≡ Accepted

-- every input is such a one, or all its lines are refused
abbrev pub InputSplits : Type 0
InputSplits = (input : List Command) → Opened input ⊎ (AllRefused input × (listing input ≡ refusals input))

-- the bench that its `queue` makes, and what the rest comes to
abbrev pub opened_bench : {input : List Command} → Opened input → World
opened_bench o = (before_queue o.queue).world

abbrev pub rest_items : {input : List Command} → Opened input → List Item
rest_items o = items_of (opened_bench o) o.rest

-- the listing is the refusals, and then what the rest shows
abbrev pub ProgramPlays : Type 0
ProgramPlays =
    (input : List Command) (o : Opened input) → listing input ≡ refusals o.before ++ shows (opened_bench o) (rest_items o)

-- the last number of a `T`; of other lines it is 0
abbrev pub lost_in : Print → ℕ
lost_in (D n) = 0
lost_in (H i n p) = 0
lost_in (E i) = 0
lost_in (F n) = 0
lost_in (R r) = 0
lost_in (Wi i n) = 0
lost_in (T f h d r t l) = l

abbrev pub NoneLostIn : List Print → Type 0
NoneLostIn [] = Unit {0}
NoneLostIn (p ∷ ps) = (lost_in p ≡ 0) × NoneLostIn ps

-- where the input's calls keep demand 3's premise, a `T` of its listing ends in 0
abbrev pub ProgramLosesNone : Type 0
ProgramLosesNone =
    (input : List Command) (o : Opened input) → FewPuts (opened_bench o) (calls_in (rest_items o)) → NoneLostIn (listing input)
