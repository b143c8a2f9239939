-- Document 01's number of each refusal, and the log entry of each answer.
use Rattle.std.specs.Prelude.{Bool, List, ◌∷◌, ℕ, ◌+◌, ltb, take}
use Rattle.model.specs.declared.Task.{Task}
use Rattle.model.specs.declared.Refusal.{Refusal}
use Rattle.model.specs.declared.Refusal.TheVariants.{
  UnknownQueue,
  TagWidth,
  ArraySize,
  Crew,
  ShortStore,
  NoSuchWorker,
  BusyWorker,
  IdleWorker,
  WrongHand,
  NumbersSpent,
  LogFull,
  ForeignState,
  BadLine,
  PayloadWords,
  NoLink,
  WaitingFull,
  NoneWaiting,
  NoSpace,
  AskStands,
  NoAsk,
  ShortQuota,
  NoSuchQueue,
}
use Rattle.model.specs.declared.Answer.{Answer}
use Rattle.model.specs.declared.Answer.TheVariants.{
  Accepted,
  Numbered,
  GoesOn,
  Finished,
  HandedOut,
  Empty,
  Full,
  Grown,
  Refused,
}
use Rattle.model.specs.Tests.{when◌then◌else◌}
use Rattle.model.specs.Tasks.{words_in, no_task}
use Rattle.model.specs.Memory.{set_all}

-- the table of refusals
abbrev pub number_of : Refusal → ℕ
number_of UnknownQueue = 1
number_of TagWidth = 2
number_of ArraySize = 3
number_of Crew = 4
number_of ShortStore = 5
number_of NoSuchWorker = 6
number_of BusyWorker = 7
number_of IdleWorker = 8
number_of WrongHand = 9
number_of NumbersSpent = 10
number_of LogFull = 11
number_of ForeignState = 12
number_of BadLine = 13
number_of PayloadWords = 16
number_of NoLink = 17
number_of WaitingFull = 18
number_of NoneWaiting = 19
number_of NoSpace = 20
number_of AskStands = 21
number_of NoAsk = 22
number_of ShortQuota = 23
number_of NoSuchQueue = 24

-- an entry of the log
pub record Entry : Type 0 where
  pub kind : ℕ
  pub worker : ℕ
  pub task : Task

abbrev pub entry : ℕ → ℕ → Task → Entry
entry k i t = record { kind = k; worker = i; task = t }

-- the entry of an answer that ends an operation; the others have none, and kind 0 here
abbrev pub entry_of : Answer → Entry
entry_of Accepted = entry 0 0 no_task
entry_of (Numbered n) = entry 0 0 no_task
entry_of GoesOn = entry 0 0 no_task
entry_of (Finished i t) = entry 1 i t
entry_of (HandedOut i t) = entry 2 i t
entry_of (Empty i) = entry 3 i no_task
entry_of (Full i t) = entry 4 i t
entry_of (Grown i) = entry 5 i no_task
entry_of (Refused r) = entry 0 0 no_task

-- the answer ends an operation
abbrev pub ends : Answer → Bool
ends a = ltb 0 (entry_of a).kind

-- its words: 3 and the payload, of v words
abbrev pub entry_length : ℕ → ℕ
entry_length v = 3 + v

abbrev pub entry_words : ℕ → Entry → List ℕ
entry_words v e = e.kind ∷ e.worker ∷ take (v + 1) (words_in e.task)

-- written from word `at` of the log on
abbrev pub logged : ℕ → List ℕ → ℕ → Answer → List ℕ
logged v l at a = when ends a then set_all l at (entry_words v (entry_of a)) else l
