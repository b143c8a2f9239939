-- The bench program, from commands to what it prints.
use Rattle.std.specs.Prelude.{Bool, true, false, List, [], ◌∷◌, ◌++◌, ℕ, zero, suc, eqb, replicate, take, drop, Result, Ok, Err}
use Rattle.model.specs.declared.Refusal.{Refusal}
use Rattle.model.specs.declared.Payload.{Payload}
use Rattle.model.specs.declared.Operation.TheVariants.{Put, Take, Steal}
use Rattle.model.specs.declared.Refusal.TheVariants.{BadLine}
use Rattle.model.specs.declared.Answer.{Answer}
use Rattle.model.specs.declared.Answer.TheVariants.{
  Accepted,
  Numbered,
  GoesOn,
  Finished,
  HandedOut,
  Empty,
  Full,
  Grown,
  Refused,
}
use Rattle.model.specs.declared.Counts.{Counts}
use Rattle.model.specs.declared.Command.{Command}
use Rattle.model.specs.declared.Command.TheVariants.{Open, BeginPut, BeginTake, BeginSteal, Steps, Who, End, Bad}
use Rattle.model.specs.Tests.{when◌then◌else◌}
use Rattle.model.specs.Tasks.{words_in}
use Rattle.model.specs.Answers.{number_of}
use Rattle.model.specs.World.{World, Outcome}
use Rattle.model.specs.Calls.{fresh_of, setup, begin_of, step_of, who_of}
use Rattle.model.specs.Counts.{counts_of}

-- a line of output; `Wi` is the line `W`, whose letter is a world's name here
pub data Print : Type 0 where
  D : ℕ → Print
  H : ℕ → ℕ → List ℕ → Print
  E : ℕ → Print
  F : ℕ → Print
  R : ℕ → Print
  Wi : ℕ → ℕ → Print
  T : ℕ → ℕ → ℕ → ℕ → ℕ → ℕ → Print

-- what an answer prints, with v payload words: an accepted begin and a step that goes on, nothing; it never commits
abbrev pub printed : ℕ → Answer → List Print
printed v Accepted = []
printed v (Numbered n) = []
printed v GoesOn = []
printed v (Finished i t) = D t.number ∷ []
printed v (HandedOut i t) = H i t.number (take v (drop 1 (words_in t))) ∷ []
printed v (Empty i) = E i ∷ []
printed v (Full i t) = F t.number ∷ []
printed v (Grown i) = []
printed v (Refused r) = R (number_of r) ∷ []

-- what a call prints: as many payload words as its bench has
abbrev pub printed_by : Outcome → List Print
printed_by d = printed d.world.bench.words d.answer

-- what asking for worker i's restarts prints
abbrev pub printed_tally : ℕ → Result ℕ Refusal → List Print
printed_tally i (Ok n) = Wi i n ∷ []
printed_tally i (Err r) = R (number_of r) ∷ []

abbrev pub is_refused : Answer → Bool
is_refused Accepted = false
is_refused (Numbered n) = false
is_refused GoesOn = false
is_refused (Finished i t) = false
is_refused (HandedOut i t) = false
is_refused (Empty i) = false
is_refused (Full i t) = false
is_refused (Grown i) = false
is_refused (Refused r) = true

abbrev pub totals : Counts → Print
totals c = T c.finished c.handouts c.different c.restarts c.window c.lost

-- where the program stands: no queue accepted yet, with its store and log; a bench being played; `end` done
pub data Program : Type 0 where
  waiting : List ℕ → List ℕ → Program
  playing : World → Program
  ended : Program

-- what a line leaves and prints
pub record Response : Type 0 where
  pub program : Program
  pub output : List Print

abbrev pub response : Program → List Print → Response
response s o = record { program = s; output = o }

-- `queue`: a bench on the first s words of the store m and on the log l; refused, it leaves the program waiting
abbrev pub opened : Program → Outcome → Response
opened P d = response (when is_refused d.answer then P else playing d.world) (printed_by d)

abbrev pub showing : Outcome → Response
showing d = response (playing d.world) (printed_by d)

-- `step I M`: M steps, stopping at the first refusal
unfoldable pub steps_of : World → ℕ → ℕ → Response
steps_of W i zero = response (playing W) []
steps_of W i (suc m) =
    let d = step_of W i in
    let rest = steps_of d.world i m in
    when is_refused d.answer then showing d else response rest.program (printed_by d ++ rest.output)

abbrev pub bad : Program → Response
bad s = response s (R (number_of BadLine) ∷ [])

-- `put` with as many words as a payload has; with another count it is no line of the form
abbrev pub putting : World → ℕ → Payload → Response
putting W v p = when eqb v W.bench.words then showing (begin_of W 0 (Put p)) else bad (playing W)

unfoldable pub respond : Program → Command → Response
respond (waiting m l) (Open k w c n s v) = opened (waiting m l) (fresh_of (setup k w c n v) (take s m) l)
respond (waiting m l) (BeginPut v p) = bad (waiting m l)
respond (waiting m l) BeginTake = bad (waiting m l)
respond (waiting m l) (BeginSteal i) = bad (waiting m l)
respond (waiting m l) (Steps i n) = bad (waiting m l)
respond (waiting m l) (Who i) = bad (waiting m l)
respond (waiting m l) End = bad (waiting m l)
respond (waiting m l) Bad = bad (waiting m l)
respond (playing W) (Open k w c n s v) = bad (playing W)
respond (playing W) (BeginPut v p) = putting W v p
respond (playing W) BeginTake = showing (begin_of W 0 Take)
respond (playing W) (BeginSteal i) = showing (begin_of W i Steal)
respond (playing W) (Steps i m) = steps_of W i m
respond (playing W) (Who i) = response (playing W) (printed_tally i (who_of W i))
respond (playing W) End = response ended (totals (counts_of W) ∷ [])
respond (playing W) Bad = bad (playing W)
respond ended (Open k w c n s v) = response ended []
respond ended (BeginPut v p) = response ended []
respond ended BeginTake = response ended []
respond ended (BeginSteal i) = response ended []
respond ended (Steps i m) = response ended []
respond ended (Who i) = response ended []
respond ended End = response ended []
respond ended Bad = response ended []

-- the listing of a list of commands
unfoldable pub listing_from : Program → List Command → List Print
listing_from s [] = []
listing_from s (c ∷ cs) = let r = respond s c in r.output ++ listing_from r.program cs

-- the program's store of 10,235 words, all zero at the start, and its log of 16,384 words
abbrev pub program_store : List ℕ
program_store = replicate 10235 0

abbrev pub program_log : List ℕ
program_log = replicate 16384 0

abbrev pub listing : List Command → List Print
listing cs = listing_from (waiting program_store program_log) cs
