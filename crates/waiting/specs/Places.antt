-- The places that waiting stores name, and the words that they will cover.
use Rattle.std.specs.Prelude.{Bool, true, List, [], ◌∷◌, ◌≡◌, ℕ, ◌+◌, ◌*◌, ◌≤◌, ◌<◌, leb, get_or, take}
use Rattle.model.specs.declared.Queue.{Queue}
use Rattle.model.specs.declared.Store.{Store}
use Rattle.model.specs.declared.Store.TheVariants.{StoreWord, StoreNote, StorePut, StoreOut, StoreHead, StoreTail}
use Rattle.model.specs.declared.Waiting.{Waiting}
use Rattle.model.specs.Tests.{◌and◌}
use Rattle.model.specs.Memory.{word_at, offset_at}
use Rattle.model.specs.Stores.{shared, landed_all, none_pending}

-- a note names a place of the directory
abbrev pub note_ok : Store → Bool
note_ok (StoreWord k t j x) = true
note_ok (StoreNote k) = leb k 10
note_ok (StorePut a) = true
note_ok (StoreOut a) = true
note_ok (StoreHead h) = true
note_ok (StoreTail t) = true

unfoldable pub notes_ok : List Store → Bool
notes_ok [] = true
notes_ok (s ∷ l) = note_ok s and notes_ok l

-- the first n stores of a line
abbrev pub first_in : List Store → ℕ → List Store
first_in l n = take n l

-- a task's word has a place in the queue's directory and in a store of n words
abbrev pub Placed : ℕ → Queue → ℕ → Store → Type 0
Placed v q n (StoreWord k t j x) = (k < 11) × (t ≤ 1024) × (j ≤ v) × (offset_at q.arrays k + (v + 1) * t + j < n)
Placed v q n (StoreNote k) = Unit {0}
Placed v q n (StorePut a) = Unit {0}
Placed v q n (StoreOut a) = Unit {0}
Placed v q n (StoreHead h) = Unit {0}
Placed v q n (StoreTail t) = Unit {0}

abbrev pub AllPlaced : ℕ → Queue → ℕ → List Store → Type 0
AllPlaced v q n [] = Unit {0}
AllPlaced v q n (s ∷ l) = Placed v q n s × AllPlaced v q n l

-- the word that a store covers, 0 where it is none of a task
abbrev pub covered_by : ℕ → Queue → List ℕ → Store → ℕ
covered_by v q m (StoreWord k t j x) = word_at m v (offset_at q.arrays k) t j
covered_by v q m (StoreNote k) = 0
covered_by v q m (StorePut a) = 0
covered_by v q m (StoreOut a) = 0
covered_by v q m (StoreHead h) = 0
covered_by v q m (StoreTail t) = 0

-- a task's word with another value
abbrev pub valued : Store → ℕ → Store
valued (StoreWord k t j x) y = StoreWord k t j y
valued (StoreNote k) y = StoreNote k
valued (StorePut a) y = StorePut a
valued (StoreOut a) y = StoreOut a
valued (StoreHead h) y = StoreHead h
valued (StoreTail t) y = StoreTail t

-- the words of m that the waiting stores cover, one after another, are those of ws
unfoldable pub KeptBy : ℕ → Queue → List ℕ → Waiting → List ℕ → Type 0
KeptBy v q m l ws =
    (i : ℕ) → i < l.count
    → get_or ws i 0 ≡ covered_by v q (landed_all v (shared q m) (first_in l.stores i)).store (get_or l.stores i none_pending)
