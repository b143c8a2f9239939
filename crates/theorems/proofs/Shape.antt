-- The shape of a state: what its limits need, with or without the premise.
use mathlib.Core.Path.{◌≡◌, refl}
use mathlib.Core.Bool.{false}
use mathlib.Core.List.{List, [], ◌∷◌}
use Prim.Native.Nat.{ℕ, ◌+◌, ◌-◌, ◌%◌, ◌^◌, ◌≤◌, ◌<◌}
use native.Mathlib.Omega.{arith}
use Rattle.model.specs.declared.Growth.{Growth}
use Rattle.model.specs.declared.Growth.TheVariants.{ForPut, ForCommit}
use Rattle.model.specs.declared.Kind.{Kind}
use Rattle.model.specs.declared.Kind.TheVariants.{Lifo, Fifo, Deque}
use Rattle.model.specs.declared.Line.{Line}
use Rattle.model.specs.declared.Line.TheVariants.{Idle, PutRead, PutTail, PutTest, PutWord, PutFinish, Claim, Note, Copy, Publish, TakeRead, TakeTail, TakeTest, TakeWord, TakeFinish, StealRead, StealTail, StealTest, StealNote, StealWord, StealNext, StealCompare}
use Rattle.model.specs.declared.Queue.{Queue}
use Rattle.model.specs.declared.Region.{Region}
use Rattle.model.specs.declared.Store.{Store}
use Rattle.model.specs.declared.Store.TheVariants.{StoreWord, StoreNote, StorePut, StoreOut, StoreHead, StoreTail}
use Rattle.model.specs.declared.Anchor.{Anchor}
use Rattle.model.specs.declared.Task.{Task}
use Rattle.model.specs.Tasks.{no_task, word_in, first_words, with_word}
use Rattle.model.proofs.Tasks.{no_words, known_next, number_next}
use Rattle.model.specs.Tests.{when◌then◌else◌}
use Rattle.model.specs.Memory.{size_at}
use Rattle.model.specs.Lines.{size}
use Rattle.model.specs.World.{is_expanding}
use Rattle.theorems.proofs.Folds.{places_of, places}
use Rattle.theorems.proofs.Directory.{Arrays}

-- FIFO's tail
abbrev pub tail : Kind → Anchor → ℕ
tail Lifo a = 0
tail Fifo a = a.count
tail Deque a = 0

-- the anchor. low: the last head that a FIFO's owner read or wrote
abbrev pub Bounded : Kind → ℕ → ℕ → ℕ → Anchor → Type 0
Bounded Lifo w z low r = (r.head ≡ 0) × (r.count ≤ z) × (r.tag < 2 ^ w)
Bounded Fifo w z low r = (low ≤ r.head) × (r.head ≤ r.count) × (r.count ≤ low + z) × (r.tag ≡ 0)
Bounded Deque w z low r = (r.head < 2048) × (r.count ≤ z) × (r.tag < 2 ^ w)

-- what the owner has read. t: FIFO's tail
abbrev pub Head : Kind → ℕ → ℕ → Type 0
Head Lifo h low = ⊥
Head Fifo h low = h ≡ low
Head Deque h low = ⊥

abbrev pub OwnRead : Kind → ℕ → ℕ → ℕ → ℕ → Anchor → Type 0
OwnRead Lifo w z low τ r = (r.head ≡ 0) × (r.count ≤ z) × (r.tag < 2 ^ w)
OwnRead Fifo w z low τ r = (r.head ≡ low) × (r.count ≡ τ) × (r.tag ≡ 0)
OwnRead Deque w z low τ r = (r.head < 2048) × (r.count ≤ z) × (r.tag < 2 ^ w)

abbrev pub Spare : Kind → ℕ → ℕ → ℕ → Type 0
Spare Lifo z low c = c < z
Spare Fifo z low c = c < low + z
Spare Deque z low c = c < z

abbrev pub Some : Kind → Anchor → Type 0
Some Lifo r = 0 < r.count
Some Fifo r = r.head < r.count
Some Deque r = 0 < r.count

-- X3's indices
abbrev pub Span : Kind → ℕ → ℕ → ℕ → Type 0
Span Lifo τ h q = h ≡ 0
Span Fifo τ h q = h + q ≤ τ
Span Deque τ h q = h < 2048

-- what a thief has read
abbrev pub Early : Kind → ℕ → ℕ → Type 0
Early Lifo τ h = ⊥
Early Fifo τ h = h ≤ τ
Early Deque τ h = ⊥

abbrev pub ThiefRead : Kind → ℕ → ℕ → ℕ → Anchor → Type 0
ThiefRead Lifo w z τ r = (r.head ≡ 0) × (r.count ≤ z) × (r.tag < 2 ^ w)
ThiefRead Fifo w z τ r = (r.head ≤ r.count) × (r.count ≤ τ) × (r.tag ≡ 0)
ThiefRead Deque w z τ r = (r.head < 2048) × (r.count ≤ z) × (r.tag < 2 ^ w)

abbrev pub Slot : Kind → ℕ → ℕ → Type 0
Slot Lifo z c = c ≤ z
Slot Fifo z c = Unit {0}
Slot Deque z c = Unit {0}

-- LIFO's slots are the indices themselves
abbrev pub InArray : Kind → ℕ → ℕ → Type 0
InArray Lifo i z = i < z
InArray Fifo i z = Unit {0}
InArray Deque i z = Unit {0}

abbrev pub Double : Kind → Type 0
Double Lifo = ⊥
Double Fifo = ⊥
Double Deque = Unit {0}

-- the head that a thief who read a would store
abbrev pub After : Kind → ℕ → ℕ → Type 0
After Lifo a e = e ≡ 0
After Fifo a e = e ≡ 0
After Deque a e = e ≡ (a + 1) % 2048

-- a task of which n words are known
abbrev pub Known : ℕ → Task → Type 0
Known n t = (t.number ≤ 65535) × (t ≡ first_words n t)

pub none_known : Known 0 no_task
none_known = (omega arith, no_words (word_in no_task))

pub known_more : (j : ℕ) (t : Task) (x : ℕ) → j < 5 → Known j t → (j ≡ 0 → x ≤ 65535) → Known (j + 1) (with_word t j x)
known_more j t x h (a, e) f = (number_next j t x a f, known_next j t x h e)

-- the array grows for a put, which is known and open, or for a commit
abbrev pub KnownFor : ℕ → Growth → Type 0
KnownFor ω (ForPut t) = Known (ω + 1) t
KnownFor ω ForCommit = Unit {0}

abbrev pub open_for : Growth → ℕ
open_for (ForPut t) = 1
open_for ForCommit = 0

-- X1 has claimed nothing
pub claim_expands : (g : Growth) → is_expanding (Claim g) ≡ false
claim_expands (ForPut t) = refl
claim_expands ForCommit = refl

-- a put is open
abbrev pub pending : Line → ℕ
pending Idle = 0
pending (PutRead t) = 1
pending (PutTail t h) = 1
pending (PutTest t r) = 1
pending (PutWord t r j) = 1
pending (PutFinish t r) = 1
pending (Claim g) = open_for g
pending (Note g) = open_for g
pending (Copy g h q k) = open_for g
pending (Publish g) = open_for g
pending TakeRead = 0
pending (TakeTail h) = 0
pending (TakeTest r) = 0
pending (TakeWord r t j) = 0
pending (TakeFinish r t) = 0
pending StealRead = 0
pending (StealTail h) = 0
pending (StealTest r) = 0
pending (StealNote r) = 0
pending (StealWord r k t j) = 0
pending (StealNext r t) = 0
pending (StealCompare r e t) = 0

-- FIFO: each place below the tail has taken a put number
abbrev pub Spent : Kind → ℕ → Line → ℕ → Type 0
Spent Lifo c o used = Unit {0}
Spent Fifo c o used = c + pending o ≤ used
Spent Deque c o used = Unit {0}

abbrev pub OwnShape : Kind → ℕ → ℕ → ℕ → ℕ → ℕ → Line → Type 0
OwnShape κ w ω z low τ Idle = Unit {0}
OwnShape κ w ω z low τ (PutRead t) = Known (ω + 1) t
OwnShape κ w ω z low τ (PutTail t h) = Known (ω + 1) t × Head κ h low
OwnShape κ w ω z low τ (PutTest t r) = Known (ω + 1) t × OwnRead κ w z low τ r
OwnShape κ w ω z low τ (PutWord t r j) = Known (ω + 1) t × OwnRead κ w z low τ r × Spare κ z low r.count × (j ≤ ω)
OwnShape κ w ω z low τ (PutFinish t r) = Known (ω + 1) t × OwnRead κ w z low τ r × Spare κ z low r.count
OwnShape κ w ω z low τ (Claim g) = KnownFor ω g
OwnShape κ w ω z low τ (Note g) = KnownFor ω g
OwnShape κ w ω z low τ (Copy g h q k) = KnownFor ω g × Span κ τ h q × (q ≤ z) × (k < q)
OwnShape κ w ω z low τ (Publish g) = KnownFor ω g
OwnShape κ w ω z low τ TakeRead = Unit {0}
OwnShape κ w ω z low τ (TakeTail h) = Head κ h low
OwnShape κ w ω z low τ (TakeTest r) = OwnRead κ w z low τ r
OwnShape κ w ω z low τ (TakeWord r t j) = OwnRead κ w z low τ r × Some κ r × Known j t × (j ≤ ω)
OwnShape κ w ω z low τ (TakeFinish r t) = OwnRead κ w z low τ r × Some κ r × Known (ω + 1) t
OwnShape κ w ω z low τ StealRead = ⊥
OwnShape κ w ω z low τ (StealTail h) = ⊥
OwnShape κ w ω z low τ (StealTest r) = ⊥
OwnShape κ w ω z low τ (StealNote r) = ⊥
OwnShape κ w ω z low τ (StealWord r k t j) = ⊥
OwnShape κ w ω z low τ (StealNext r t) = ⊥
OwnShape κ w ω z low τ (StealCompare r e t) = ⊥

abbrev pub ThiefShape : Kind → ℕ → ℕ → Queue → ℕ → Line → Type 0
ThiefShape κ w ω q τ Idle = Unit {0}
ThiefShape κ w ω q τ (PutRead t) = ⊥
ThiefShape κ w ω q τ (PutTail t h) = ⊥
ThiefShape κ w ω q τ (PutTest t r) = ⊥
ThiefShape κ w ω q τ (PutWord t r j) = ⊥
ThiefShape κ w ω q τ (PutFinish t r) = ⊥
ThiefShape κ w ω q τ (Claim t) = ⊥
ThiefShape κ w ω q τ (Note t) = ⊥
ThiefShape κ w ω q τ (Copy t h j k) = ⊥
ThiefShape κ w ω q τ (Publish t) = ⊥
ThiefShape κ w ω q τ TakeRead = ⊥
ThiefShape κ w ω q τ (TakeTail h) = ⊥
ThiefShape κ w ω q τ (TakeTest r) = ⊥
ThiefShape κ w ω q τ (TakeWord r t j) = ⊥
ThiefShape κ w ω q τ (TakeFinish r t) = ⊥
ThiefShape κ w ω q τ StealRead = Unit {0}
ThiefShape κ w ω q τ (StealTail h) = Early κ τ h
ThiefShape κ w ω q τ (StealTest r) = ThiefRead κ w (size ω q) τ r
ThiefShape κ w ω q τ (StealNote r) = ThiefRead κ w (size ω q) τ r × Some κ r
ThiefShape κ w ω q τ (StealWord r k t j) =
    ThiefRead κ w (size ω q) τ r × Some κ r × (k < q.published) × Slot κ (size_at ω q.arrays k) r.count × Known j t × (j ≤ ω)
ThiefShape κ w ω q τ (StealNext r t) = ThiefRead κ w (size ω q) τ r × Some κ r × Double κ × Known (ω + 1) t
ThiefShape κ w ω q τ (StealCompare r e t) = ThiefRead κ w (size ω q) τ r × Some κ r × After κ r.head e × Known (ω + 1) t

-- THE STORES THAT WAIT. FIFO's tail after them, and the last head that a FIFO's owner read or wrote
abbrev pub tail_of : Store → ℕ → ℕ
tail_of (StoreWord b s j x) τ = τ
tail_of (StoreNote k) τ = τ
tail_of (StorePut r) τ = τ
tail_of (StoreOut r) τ = τ
tail_of (StoreHead i) τ = τ
tail_of (StoreTail i) τ = i

abbrev pub low_of : Store → ℕ → ℕ
low_of (StoreWord b s j x) low = low
low_of (StoreNote k) low = low
low_of (StorePut r) low = low
low_of (StoreOut r) low = low
low_of (StoreHead i) low = i
low_of (StoreTail i) low = low

abbrev pub tails : List Store → ℕ → ℕ
tails [] τ = τ
tails (s ∷ ss) τ = tails ss (tail_of s τ)

abbrev pub lows : List Store → ℕ → ℕ
lows [] low = low
lows (s ∷ ss) low = lows ss (low_of s low)

abbrev pub FitAnchor : Kind → ℕ → ℕ → Anchor → Type 0
FitAnchor Lifo w z r = Bounded Lifo w z 0 r
FitAnchor Fifo w z r = ⊥
FitAnchor Deque w z r = Bounded Deque w z 0 r

abbrev pub FitHead : Kind → ℕ → ℕ → ℕ → Type 0
FitHead Lifo low τ i = ⊥
FitHead Fifo low τ i = (i ≡ low + 1) × (i ≤ τ)
FitHead Deque low τ i = ⊥

abbrev pub FitTail : Kind → ℕ → ℕ → ℕ → ℕ → Type 0
FitTail Lifo z low τ i = ⊥
FitTail Fifo z low τ i = (i ≡ τ + 1) × (i ≤ low + z)
FitTail Deque z low τ i = ⊥

-- a store that may be put down: l is the directory, of which c arrays are claimed and p published
abbrev pub Fit : Kind → ℕ → ℕ → List Region → ℕ → ℕ → ℕ → ℕ → Store → Type 0
Fit κ w ω l c low p τ (StoreWord b s j x) = (b < c) × (s < size_at ω l b) × (j ≤ ω) × (j ≡ 0 → x ≤ 65535)
Fit κ w ω l c low p τ (StoreNote k) = (k ≡ p) × (p < c)
Fit κ w ω l c low p τ (StorePut r) = FitAnchor κ w (size_at ω l (p - 1)) r
Fit κ w ω l c low p τ (StoreOut r) = FitAnchor κ w (size_at ω l (p - 1)) r
Fit κ w ω l c low p τ (StoreHead i) = FitHead κ low τ i
Fit κ w ω l c low p τ (StoreTail i) = FitTail κ (size_at ω l (p - 1)) low τ i

-- all of them, one after the other
abbrev pub Path : Kind → ℕ → ℕ → List Region → ℕ → ℕ → ℕ → ℕ → List Store → Type 0
Path κ w ω l c low p τ [] = Unit {0}
Path κ w ω l c low p τ (s ∷ ss) = Fit κ w ω l c low p τ s × Path κ w ω l c (low_of s low) (places_of s p) (tail_of s τ) ss

-- the owner, in the queue as it reads it
pub record OwnEnd (κ : Kind) (w ω used : ℕ) (l : List Region) (c low p τ : ℕ) (o : Line) : Type 0 where
  pub claims : c ≡ (when is_expanding o then p + 1 else p)
  pub spent : Spent κ τ o used
  pub shape : OwnShape κ w ω (size_at ω l (p - 1)) low τ o

-- low: the last head that a FIFO owner read or wrote, in memory; ss: the stores that wait; o: the owner's line; φ k: thief k + 1's
pub record Shape (κ : Kind) (w ω used low : ℕ) (q : Queue) (m : List ℕ) (ss : List Store) (o : Line) (φ : ℕ → Line) : Type 0 where
  pub anchor : Bounded κ w (size ω q) low q.anchor
  pub arrays : Arrays ω q m
  pub path : Path κ w ω q.arrays q.claimed low q.published (tail κ q.anchor) ss
  pub own : OwnEnd κ w ω used q.arrays q.claimed (lows ss low) (places ss q.published) (tails ss (tail κ q.anchor)) o
  pub th : (k : ℕ) → ThiefShape κ w ω q (tail κ q.anchor) (φ k)

-- a queue that thieves find larger
pub record Larger (κ : Kind) (ω : ℕ) (q q' : Queue) : Type 0 where
  pub sized : size ω q ≤ size ω q'
  pub later : tail κ q.anchor ≤ tail κ q'.anchor
  pub more : q.published ≤ q'.published
  pub same : (k : ℕ) → k < q.published → size_at ω q'.arrays k ≡ size_at ω q.arrays k

read_keep : (κ : Kind) (w z z' τ τ' : ℕ) (r : Anchor) → z ≤ z' → τ ≤ τ' → ThiefRead κ w z τ r → ThiefRead κ w z' τ' r
read_keep Lifo w z z' τ τ' r l u (a, b, d) = (a, omega arith, d)
read_keep Fifo w z z' τ τ' r l u (a, b, d) = (a, omega arith, d)
read_keep Deque w z z' τ τ' r l u (a, b, d) = (a, omega arith, d)

early_keep : (κ : Kind) (τ τ' h : ℕ) → τ ≤ τ' → Early κ τ h → Early κ τ' h
early_keep Lifo τ τ' h l e = e
early_keep Fifo τ τ' h l e = omega arith
early_keep Deque τ τ' h l e = e

pub thief_keep : (κ : Kind) (w ω : ℕ) (q q' : Queue) → Larger κ ω q q' → (θ : Line) → ThiefShape κ w ω q (tail κ q.anchor) θ → ThiefShape κ w ω q' (tail κ q'.anchor) θ
thief_keep κ w ω q q' M Idle s = tt
thief_keep κ w ω q q' M (PutRead t) s = absurd s
thief_keep κ w ω q q' M (PutTail t h) s = absurd s
thief_keep κ w ω q q' M (PutTest t r) s = absurd s
thief_keep κ w ω q q' M (PutWord t r j) s = absurd s
thief_keep κ w ω q q' M (PutFinish t r) s = absurd s
thief_keep κ w ω q q' M (Claim t) s = absurd s
thief_keep κ w ω q q' M (Note t) s = absurd s
thief_keep κ w ω q q' M (Copy t h j k) s = absurd s
thief_keep κ w ω q q' M (Publish t) s = absurd s
thief_keep κ w ω q q' M TakeRead s = absurd s
thief_keep κ w ω q q' M (TakeTail h) s = absurd s
thief_keep κ w ω q q' M (TakeTest r) s = absurd s
thief_keep κ w ω q q' M (TakeWord r t j) s = absurd s
thief_keep κ w ω q q' M (TakeFinish r t) s = absurd s
thief_keep κ w ω q q' M StealRead s = tt
thief_keep κ w ω q q' M (StealTail h) s = early_keep κ _ _ h M.later s
thief_keep κ w ω q q' M (StealTest r) s = read_keep κ w _ _ _ _ r M.sized M.later s
thief_keep κ w ω q q' M (StealNote r) (ρ, s) = (read_keep κ w _ _ _ _ r M.sized M.later ρ, s)
thief_keep κ w ω q q' M (StealWord r k t j) (ρ, s, p, z, u, i) = (read_keep κ w _ _ _ _ r M.sized M.later ρ, s, omega (arith, M.more), rw (M.same k p) z, u, i)
thief_keep κ w ω q q' M (StealNext r t) (ρ, s, d, u) = (read_keep κ w _ _ _ _ r M.sized M.later ρ, s, d, u)
thief_keep κ w ω q q' M (StealCompare r e t) (ρ, s, d, u) = (read_keep κ w _ _ _ _ r M.sized M.later ρ, s, d, u)
