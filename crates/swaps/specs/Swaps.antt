-- When two steps may be swapped: quiet steps of different workers, and a quiet step with a row of others' quiet steps.
use Rattle.std.specs.Prelude.{◌≡◌, false, ◌≢◌, List, [], ◌∷◌, map, ℕ}
use Rattle.model.specs.declared.Answer.{Answer}
use Rattle.model.specs.Answers.{ends}
use Rattle.model.specs.World.{World, Outcome, room_alone}
use Rattle.model.specs.Calls.{landing, next_effect, step_of, Call, step}
use Rattle.model.specs.Run.{Played, played, after}
use Rattle.model.specs.Listing.{is_refused}
use Rattle.theorems.specs.Reached.{Reached}

-- Worker i's next step is quiet in W: accepted, it ends no operation and writes no shared word. It claims no array (directory) and
-- none of its stores lands (words, current-array note, anchor, head, tail). To write an equal value is to write; to join the
-- waiting line is not
pub record Quiet (W : World) (i : ℕ) : Type 0 where
  pub accepted : is_refused (step_of W i).answer ≡ false
  pub ends_none : ends (step_of W i).answer ≡ false
  pub claims_none : (next_effect (room_alone W) W i).claims ≡ false
  pub lands_none : landing W.bench.delayed i (next_effect (room_alone W) W i).stores ≡ []

-- TWO STEPS in either order: equal states, stores and logs, and each answers what it would answer first
pub record SwappedBy (S : World → ℕ → Outcome) (W : World) (i j : ℕ) : Type 0 where
  pub worlds : (S (S W j).world i).world ≡ (S (S W i).world j).world
  pub first : (S (S W j).world i).answer ≡ (S W i).answer
  pub second : (S (S W i).world j).answer ≡ (S W j).answer

abbrev pub Swapped : World → ℕ → ℕ → Type 0
Swapped W i j = SwappedBy step_of W i j

abbrev pub SwapQuiet : Type 0
SwapQuiet = (W : World) → Reached W → (i j : ℕ) → i ≢ j → Quiet W i → Quiet W j → Swapped W i j

-- another worker's quiet step makes no step quiet, and none loud
abbrev pub QuietStays : Type 0
QuietStays =
    (W : World) → Reached W → (i j : ℕ) → i ≢ j → Quiet W j
    → (Quiet W i → Quiet (step_of W j).world i) × (Quiet (step_of W j).world i → Quiet W i)

-- A ROW of steps of the workers js, played from W on: each is another's than i, and quiet where it is played
unfoldable pub QuietRow : ℕ → World → List ℕ → Type 0
QuietRow i W [] = Unit {0}
QuietRow i W (j ∷ js) = (i ≢ j) × Quiet W j × QuietRow i (step_of W j).world js

abbrev pub row_of : List ℕ → List Call
row_of js = map step js

abbrev pub answers_of : List Played → List Answer
answers_of T = map (λ s. s.answer) T

-- worker i's step before the row, and behind it: equal states, stores and logs, its answer, the row's answers
pub record MovedPast (W : World) (i : ℕ) (js : List ℕ) : Type 0 where
  pub worlds : after (step_of W i).world (row_of js) ≡ (step_of (after W (row_of js)) i).world
  pub answer : (step_of (after W (row_of js)) i).answer ≡ (step_of W i).answer
  pub answers : answers_of (played (step_of W i).world (row_of js)) ≡ answers_of (played W (row_of js))
  pub quiet : Quiet (after W (row_of js)) i

abbrev pub MovePastRow : Type 0
MovePastRow = (W : World) → Reached W → (i : ℕ) (js : List ℕ) → Quiet W i → QuietRow i W js → MovedPast W i js

-- and it is enough that all are quiet as they are played: the step before the row, or behind it
abbrev pub QuietAsPlayed : Type 0
QuietAsPlayed =
    (W : World) → Reached W → (i : ℕ) (js : List ℕ)
    → (Quiet W i → QuietRow i (step_of W i).world js → QuietRow i W js) × (QuietRow i W js → Quiet (after W (row_of js)) i → Quiet W i)
