-- One line: the next one of figures 1, 2 and 3, for the worker that is at it; q and m are the queue and the store as it reads them.
use Rattle.std.specs.Prelude.{Bool, true, false, not, List, [], ◌∷◌, ◌++◌, ℕ, zero, suc, ◌+◌, ◌-◌, ◌*◌, ◌%◌, eqb, leb, get_or}
use Rattle.model.specs.declared.Kind.{Kind}
use Rattle.model.specs.declared.Task.{Task}
use Rattle.model.specs.declared.Anchor.{Anchor}
use Rattle.model.specs.declared.Store.{Store}
use Rattle.model.specs.declared.Store.TheVariants.{StoreWord, StoreNote}
use Rattle.model.specs.declared.Growth.{Growth}
use Rattle.model.specs.declared.Growth.TheVariants.{ForPut, ForCommit}
use Rattle.model.specs.declared.Line.{Line}
use Rattle.model.specs.declared.Line.TheVariants.{
  Idle,
  PutRead,
  PutTail,
  PutTest,
  PutWord,
  PutFinish,
  Claim,
  Note,
  Copy,
  Publish,
  TakeRead,
  TakeTail,
  TakeTest,
  TakeWord,
  TakeFinish,
  StealRead,
  StealTail,
  StealTest,
  StealNote,
  StealWord,
  StealNext,
  StealCompare,
}
use Rattle.model.specs.declared.Queue.{Queue}
use Rattle.model.specs.declared.Room.{Room}
use Rattle.model.specs.declared.Answer.{Answer}
use Rattle.model.specs.declared.Answer.TheVariants.{GoesOn, Finished, HandedOut, Empty, Full, Grown}
use Rattle.model.specs.Tests.{when◌then◌else◌, ◌and◌}
use Rattle.model.specs.Tasks.{no_task, word_in, with_word}
use Rattle.model.specs.Memory.{word_at, offset_at, size_at}
use Rattle.model.specs.Figures.{
  anchor,
  slot,
  put_index,
  take_index,
  steal_index,
  is_full,
  is_empty,
  put_store,
  take_store,
  steal_store,
  is_same,
  put_read,
  take_read,
  steal_read,
  note,
  steal_last,
}
use Rattle.model.specs.Stores.{Shared, landed_all, next_length, claimed_by}

-- what a line does: whether it claims an array, its stores, the worker's next line; and what its step answers
pub record Effect : Type 0 where
  pub claims : Bool
  pub stores : List Store
  pub line : Line
  pub answer : Answer

abbrev pub eff : List Store → Line → Answer → Effect
eff s l a = record { claims = false; stores = s; line = l; answer = a }

-- a line that stores nothing and ends nothing
abbrev pub goes : Line → Effect
goes l = eff [] l GoesOn

-- what it leaves of the shared words, once its stores have landed
abbrev pub left_of : Room → ℕ → Shared → Effect → Shared
left_of ρ v S E = landed_all v (claimed_by ρ E.claims S) E.stores

-- the current array is the last published one: its size in tasks
abbrev pub size : ℕ → Queue → ℕ
size v q = size_at v q.arrays (q.published - 1)

-- word j of index i of the array at place k of the directory
abbrev pub word_of : Kind → ℕ → Queue → List ℕ → ℕ → ℕ → ℕ → ℕ
word_of κ v q m k i j = word_at m v (offset_at q.arrays k) (slot κ (size_at v q.arrays k) i) j

-- and the store that writes it
abbrev pub write_word : Kind → ℕ → Queue → ℕ → ℕ → ℕ → ℕ → Store
write_word κ v q k i j x = StoreWord k (slot κ (size_at v q.arrays k) i) j x

-- after word j of v payload words the next one, and after the last what follows
abbrev pub put_on : ℕ → Task → Anchor → ℕ → Line
put_on v t r j = when eqb j v then PutFinish t r else PutWord t r (j + 1)

abbrev pub take_on : ℕ → Anchor → Task → ℕ → Line
take_on v r t j = when eqb j v then TakeFinish r t else TakeWord r t (j + 1)

abbrev pub steal_on : Kind → ℕ → Anchor → ℕ → Task → ℕ → Line
steal_on κ v r k t j = when eqb j v then steal_last κ r t else StealWord r k t (j + 1)

-- X1: an array of twice the current size is claimed, where that is at most 1,024 and the words left are enough; else FULL
abbrev pub fits : Room → ℕ → Queue → Bool
fits ρ v q = leb (2 * size v q) 1024 and leb (next_length q) ρ.left

-- FULL ends a put; a commit comes to X1 only with words set aside, and then it fits
abbrev pub task_for : Growth → Task
task_for (ForPut t) = t
task_for ForCommit = no_task

abbrev pub grows : Room → ℕ → Queue → ℕ → Growth → Effect
grows ρ v q i g =
    when fits ρ v q
    then record { claims = true; stores = []; line = Note g; answer = GoesOn }
    else eff [] Idle (Full i (task_for g))

-- X3: the stores that copy the first n words of index i's task from the current array into the claimed one
abbrev pub copy_words : Kind → ℕ → Queue → List ℕ → ℕ → ℕ → List Store
copy_words κ v q m i zero = []
copy_words κ v q m i (suc j) =
    copy_words κ v q m i j ++ write_word κ v q q.published i j (word_of κ v q m (q.published - 1) i j) ∷ []

abbrev pub copy_on : Growth → ℕ → ℕ → ℕ → Line
copy_on g h n k = when eqb (k + 1) n then Publish g else Copy g h n (k + 1)

-- X4, with its store s: back to line 1 of put, or the commit ends
abbrev pub publishes : List Store → ℕ → Growth → Effect
publishes s i (ForPut t) = eff s (PutRead t) GoesOn
publishes s i ForCommit = eff s Idle (Grown i)

-- the test for EMPTY, at worker i; the line l follows it
abbrev pub unless_empty : Kind → ℕ → Anchor → Line → Effect
unless_empty κ i r l = when is_empty κ r then eff [] Idle (Empty i) else goes l

-- worker i holds a link
abbrev pub holds_link : Queue → ℕ → Bool
holds_link q i = get_or q.links i false

-- worker i's compare finds the anchor as it was read; of a linked kind it is a store that succeeds exactly if its link is held
abbrev pub succeeds : Kind → Queue → ℕ → Anchor → Bool
succeeds κ q i r = when q.linked then holds_link q i else is_same κ q.anchor r

-- the compare: the task is handed out, or back to line 1
abbrev pub compares : Kind → Queue → ℕ → Anchor → ℕ → Task → Effect
compares κ q i r e t =
    when succeeds κ q i r then eff (steal_store κ r e ∷ []) Idle (HandedOut i t) else goes StealRead

-- worker i does the line l of a queue of kind κ with a tag of w bits (a linked one has none) and v payload words; X1 finds the room ρ
unfoldable pub line_step : Room → Kind → ℕ → ℕ → Queue → List ℕ → ℕ → Line → Effect
-- no line: a step of an idle worker is refused before it comes here
line_step ρ κ w v q m i Idle = goes Idle
-- put: figure 1 and 3's lines 1, 2, 3 word by word, 4; figure 2's 1, 2, 3, 4 word by word, 5
line_step ρ κ w v q m i (PutRead t) = goes (put_read κ q.anchor t)
line_step ρ κ w v q m i (PutTail t h) = goes (PutTest t (anchor h q.anchor.count q.anchor.tag))
line_step ρ κ w v q m i (PutTest t r) = goes (when is_full κ (size v q) r then Claim (ForPut t) else PutWord t r 0)
line_step ρ κ w v q m i (PutWord t r j) =
    eff (write_word κ v q (q.published - 1) (put_index κ r) j (word_in t j) ∷ []) (put_on v t r j) GoesOn
line_step ρ κ w v q m i (PutFinish t r) = eff (put_store κ w r ∷ []) Idle (Finished i t)
-- X1 to X4
line_step ρ κ w v q m i (Claim g) = grows ρ v q i g
line_step ρ κ w v q m i (Note g) = goes (note κ (size v q) q.anchor g)
line_step ρ κ w v q m i (Copy g h n k) = eff (copy_words κ v q m (h + k) (v + 1)) (copy_on g h n k) GoesOn
line_step ρ κ w v q m i (Publish g) = publishes (StoreNote q.published ∷ []) i g
-- take: lines 1, 2, 3 word by word, 4; figure 2's 1, 2, 3, 4 word by word, 5
line_step ρ κ w v q m i TakeRead = goes (take_read κ q.anchor)
line_step ρ κ w v q m i (TakeTail h) = goes (TakeTest (anchor h q.anchor.count q.anchor.tag))
line_step ρ κ w v q m i (TakeTest r) = unless_empty κ i r (TakeWord r no_task 0)
line_step ρ κ w v q m i (TakeWord r t j) =
    goes (take_on v r (with_word t j (word_of κ v q m (q.published - 1) (take_index κ r) j)) j)
line_step ρ κ w v q m i (TakeFinish r t) = eff (take_store κ r ∷ []) Idle (HandedOut i t)
-- steal: lines 1, 2, 3, 4 word by word, 5; figure 2's 1, 2, 3, 4, 5 word by word, 6; figure 3's 1, 2, 3, 4 word by word, 5, 6
line_step ρ κ w v q m i StealRead = goes (steal_read κ q.anchor)
line_step ρ κ w v q m i (StealTail h) = goes (StealTest (anchor h q.anchor.count q.anchor.tag))
line_step ρ κ w v q m i (StealTest r) = unless_empty κ i r (StealNote r)
line_step ρ κ w v q m i (StealNote r) = goes (StealWord r (q.published - 1) no_task 0)
line_step ρ κ w v q m i (StealWord r k t j) =
    goes (steal_on κ v r k (with_word t j (word_of κ v q m k (steal_index κ r) j)) j)
line_step ρ κ w v q m i (StealNext r t) = goes (StealCompare r ((r.head + 1) % 2048) t)
line_step ρ κ w v q m i (StealCompare r e t) = compares κ q i r e t

-- a restart: worker i at line l compares, and in vain
abbrev pub fails_compare : Kind → Queue → ℕ → Line → Bool
fails_compare κ q i Idle = false
fails_compare κ q i (PutRead t) = false
fails_compare κ q i (PutTail t h) = false
fails_compare κ q i (PutTest t r) = false
fails_compare κ q i (PutWord t r j) = false
fails_compare κ q i (PutFinish t r) = false
fails_compare κ q i (Claim t) = false
fails_compare κ q i (Note t) = false
fails_compare κ q i (Copy t h n k) = false
fails_compare κ q i (Publish t) = false
fails_compare κ q i TakeRead = false
fails_compare κ q i (TakeTail h) = false
fails_compare κ q i (TakeTest r) = false
fails_compare κ q i (TakeWord r t j) = false
fails_compare κ q i (TakeFinish r t) = false
fails_compare κ q i StealRead = false
fails_compare κ q i (StealTail h) = false
fails_compare κ q i (StealTest r) = false
fails_compare κ q i (StealNote r) = false
fails_compare κ q i (StealWord r k t j) = false
fails_compare κ q i (StealNext r t) = false
fails_compare κ q i (StealCompare r e t) = not (succeeds κ q i r)
