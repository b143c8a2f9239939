-- FIFO in order: the put numbers of first hand-outs rise along the log. Stated of the calls' answers by their places in the
-- list, and of the entries in the log's written front.
use Rattle.std.specs.Prelude.{◌≡◌, true, List, [], ◌∷◌, ◌++◌, ℕ, ◌<◌}
use Rattle.model.specs.declared.Setup.{Setup}
use Rattle.model.specs.declared.Task.{Task}
use Rattle.model.specs.declared.Answer.TheVariants.{Accepted, HandedOut}
use Rattle.model.specs.Tests.{when◌then◌else◌}
use Rattle.model.specs.Answers.{entry_of, entry_words, ends}
use Rattle.model.specs.World.{World}
use Rattle.model.specs.Calls.{fresh_of, front_of, Call}
use Rattle.model.specs.Run.{Played, played, after}
use Rattle.model.specs.Counts.{entry_at, out_first}
use Rattle.theorems.specs.Demand3.{At, FromFresh}

-- the call hands out put number n
abbrev pub Gives : ℕ → Played → Type 0
Gives n s = (i : ℕ) × (t : Task) × (s.answer ≡ HandedOut i t) × (t.number ≡ n)

-- the call at place j does, and none before it does
pub record First (T : List Played) (j n : ℕ) : Type 0 where
  pub here : At T j (Gives n)
  pub none_before : (k : ℕ) → k < j → At T k (Gives n) → ⊥

-- of two hand-outs, each the first of its put number, the later one has the larger number
abbrev pub InOrder : List Played → Type 0
InOrder T = (j k m n : ℕ) → First T j m → First T k n → j < k → m < n

-- from any accepted fresh of kind 2, whatever the store and the log held before
abbrev pub FromFifo : (World → Type 0) → Type 0
FromFifo P =
    (s : Setup) (store log : List ℕ) → s.kind ≡ 2 → (fresh_of s store log).answer ≡ Accepted
    → P (fresh_of s store log).world

-- THE CLAIM, of the answers
abbrev pub FifoInOrder : Type 0
FifoInOrder = FromFifo (λ W. (cs : List Call) → InOrder (played W cs))

-- THE LOG. Its written front; the words of the entries that the answers of a list wrote, of v payload words, in order
abbrev pub log_front : World → List ℕ
log_front W = front_of W.bench W.log

abbrev pub entries : ℕ → List Played → List ℕ
entries v [] = []
entries v (s ∷ T) = (when ends s.answer then entry_words v (entry_of s.answer) else []) ++ entries v T

-- the log's written front is the entries that the steps answered, in order: of every kind
abbrev pub LogIsAnswers : Type 0
LogIsAnswers = FromFresh (λ W. (cs : List Call) → log_front (after W cs) ≡ entries W.bench.words (played W cs))

-- of two entries of the log l, each the first hand-out of its put number, the later one has the larger number; past a log's
-- end there is no hand-out
abbrev pub LogInOrder : ℕ → List ℕ → Type 0
LogInOrder v l =
    (j k : ℕ) → j < k → out_first v l j ≡ true → out_first v l k ≡ true → (entry_at v l j).task.number < (entry_at v l k).task.number

-- THE CLAIM, of the log
abbrev pub FifoLogInOrder : Type 0
FifoLogInOrder = FromFifo (λ W. (cs : List Call) → LogInOrder W.bench.words (log_front (after W cs)))
