-- The same queue at other places of another store: a line does the same, since its stores name a word by the array's place in the
-- directory, the slot and the word.
use mathlib.Core.Path.{◌≡◌, refl, ◌∙◌, ap}
use mathlib.Core.Bool.{Bool, true}
use mathlib.Core.List.{List, [], ◌∷◌, ◌++◌}
use Prim.Native.Nat.{ℕ, zero, suc, ◌+◌, ◌-◌, ◌*◌, ◌/◌, ◌≤◌, ◌<◌}
use native.Mathlib.Omega.{arith}
use lib.Dec.{leb}
use lib.ListN.{length}
use Rattle.model.specs.declared.Kind.{Kind}
use Rattle.model.specs.declared.Kind.TheVariants.{Lifo, Fifo, Deque}
use Rattle.model.specs.declared.Line.{Line}
use Rattle.model.specs.declared.Line.TheVariants.{Idle, PutRead, PutTail, PutTest, PutWord, PutFinish, Claim, Note, Copy, Publish, TakeRead, TakeTail, TakeTest, TakeWord, TakeFinish, StealRead, StealTail, StealTest, StealNote, StealWord, StealNext, StealCompare}
use Rattle.model.specs.declared.Queue.{Queue}
use Rattle.model.specs.declared.Room.{Room}
use Rattle.model.specs.declared.Growth.{Growth}
use Rattle.model.specs.declared.Growth.TheVariants.{ForPut, ForCommit}
use Rattle.model.specs.declared.Region.{Region}
use Rattle.model.specs.declared.Store.{Store}
use Rattle.model.specs.declared.Store.TheVariants.{StoreWord}
use Rattle.model.specs.declared.Answer.TheVariants.{GoesOn, Full}
use Rattle.model.specs.Tests.{when◌then◌else◌, ◌and◌}
use Rattle.model.specs.Tasks.{with_word, word_in}
use Rattle.model.specs.Memory.{word_at, offset_at, length_at, size_at}
use Rattle.model.specs.Figures.{slot, put_index, take_index, steal_index, is_full, note}
use Rattle.model.specs.Stores.{next_length}
use Rattle.model.specs.Lines.{eff, goes, fits, task_for, grows, size, word_of, write_word, put_on, take_on, steal_on, copy_words, copy_on, line_step}
use Rattle.model.proofs.Directory.{size_pos}
use Rattle.theorems.proofs.Directory.{Arrays, now, tidy_proper}
use Rattle.theorems.proofs.Shape.{tail, Span, InArray, ThiefShape, Shape}
use Rattle.theorems.proofs.ShapeOwner.{slot_in, take_slot}
use Rattle.theorems.proofs.ShapeThief.{steal_slot}

-- the queue with the directory d
abbrev pub redirect : Queue → List Region → Queue
redirect q d = record { linked = q.linked; anchor = q.anchor; arrays = d; published = q.published; claimed = q.claimed; initial = q.initial; links = q.links }

-- the same lengths, and the same words
pub record Like (ω : ℕ) (q : Queue) (m : List ℕ) (d : List Region) (m' : List ℕ) : Type 0 where
  pub long : length d ≡ length q.arrays
  pub lengths : (k : ℕ) → length_at d k ≡ length_at q.arrays k
  pub words : (k t j : ℕ) → k < q.claimed → t < size_at ω q.arrays k → j ≤ ω → word_at m' ω (offset_at d k) t j ≡ word_at m ω (offset_at q.arrays k) t j

module _ {ω : ℕ} {q : Queue} {m : List ℕ} {d : List Region} {m' : List ℕ} (L : Like ω q m d m') where
  pub sizes : (k : ℕ) → size_at ω d k ≡ size_at ω q.arrays k
  unfolding size_at
  sizes k = ap (λ (x : ℕ). x / (ω + 1)) (L.lengths k)

  -- a word is read
  read_both : (κ : Kind) (k i j : ℕ) → k < q.claimed → slot κ (size_at ω q.arrays k) i < size_at ω q.arrays k → j ≤ ω → word_of κ ω (redirect q d) m' k i j ≡ word_of κ ω q m k i j
  read_both κ k i j h g hj = ap (λ (z : ℕ). word_at m' ω (offset_at d k) (slot κ z i) j) (sizes k) ∙ L.words k (slot κ (size_at ω q.arrays k) i) j h g hj

  -- X3's stores
  copies_both : (κ : Kind) (i n : ℕ) → q.published - 1 < q.claimed → slot κ (size ω q) i < size ω q → n ≤ ω + 1 → copy_words κ ω (redirect q d) m' i n ≡ copy_words κ ω q m i n
  copies_both κ i zero h g l = refl
  copies_both κ i (suc n) h g l =
      ap (λ (ss : List Store). ss ++ write_word κ ω (redirect q d) q.published i n (word_of κ ω (redirect q d) m' (q.published - 1) i n) ∷ []) (copies_both κ i n h g (omega arith))
      ∙ ap (λ (z : ℕ). copy_words κ ω q m i n ++ StoreWord q.published (slot κ z i) n (word_of κ ω (redirect q d) m' (q.published - 1) i n) ∷ []) (sizes q.published)
      ∙ ap (λ (x : ℕ). copy_words κ ω q m i n ++ write_word κ ω q q.published i n x ∷ []) (read_both κ (q.published - 1) i n h g (omega arith))

  -- X1's answer
  pub fits_both : (ρ ρ' : Room) → ρ'.left ≡ ρ.left → fits ρ' ω (redirect q d) ≡ fits ρ ω q
  fits_both ρ ρ' e =
      ap (λ (z : ℕ). leb (2 * z) 1024 and leb (next_length (redirect q d)) ρ'.left) (sizes (q.published - 1))
      ∙ ap (λ (z : ℕ). leb (2 * size ω q) 1024 and leb (2 * z) ρ'.left) (L.lengths (q.claimed - 1))
      ∙ ap (λ (z : ℕ). leb (2 * size ω q) 1024 and leb (next_length q) z) e

  grows_both : (ρ ρ' : Room) (i : ℕ) (g : Growth) → ρ'.left ≡ ρ.left → grows ρ' ω (redirect q d) i g ≡ grows ρ ω q i g
  grows_both ρ ρ' i g e = ap (λ (x : Bool). when x then record { claims = true; stores = []; line = Note g; answer = GoesOn } else eff [] Idle (Full i (task_for g))) (fits_both ρ ρ' e)

  -- A THIEF'S LINE
  pub thief_same : (ρ ρ' : Room) (κ : Kind) (w i τ : ℕ) (l : Line) → Arrays ω q m → ThiefShape κ w ω q τ l → line_step ρ' κ w ω (redirect q d) m' i l ≡ line_step ρ κ w ω q m i l
  unfolding line_step
  thief_same ρ ρ' κ w i τ Idle A s = refl
  thief_same ρ ρ' κ w i τ StealRead A s = refl
  thief_same ρ ρ' κ w i τ (StealTail h) A s = refl
  thief_same ρ ρ' κ w i τ (StealTest r) A s = refl
  thief_same ρ ρ' κ w i τ (StealNote r) A s = refl
  thief_same ρ ρ' κ w i τ (StealWord r k t j) A (x, y, h, g, u, hj) =
      ap (λ (x : ℕ). goes (steal_on κ ω r k (with_word t j x) j))
      (read_both κ k (steal_index κ r) j (omega (arith, A.below)) (steal_slot κ _ r (size_pos (tidy_proper ω q.arrays q.claimed k A.tidied (omega (arith, A.below)))) y g) hj)
  thief_same ρ ρ' κ w i τ (StealNext r t) A s = refl
  thief_same ρ ρ' κ w i τ (StealCompare r e t) A s = refl
  thief_same ρ ρ' κ w i τ (PutRead t) A s = absurd s
  thief_same ρ ρ' κ w i τ (PutTail t h) A s = absurd s
  thief_same ρ ρ' κ w i τ (PutTest t r) A s = absurd s
  thief_same ρ ρ' κ w i τ (PutWord t r j) A s = absurd s
  thief_same ρ ρ' κ w i τ (PutFinish t r) A s = absurd s
  thief_same ρ ρ' κ w i τ (Claim g) A s = absurd s
  thief_same ρ ρ' κ w i τ (Note g) A s = absurd s
  thief_same ρ ρ' κ w i τ (Copy g h j k) A s = absurd s
  thief_same ρ ρ' κ w i τ (Publish g) A s = absurd s
  thief_same ρ ρ' κ w i τ TakeRead A s = absurd s
  thief_same ρ ρ' κ w i τ (TakeTail h) A s = absurd s
  thief_same ρ ρ' κ w i τ (TakeTest r) A s = absurd s
  thief_same ρ ρ' κ w i τ (TakeWord r t j) A s = absurd s
  thief_same ρ ρ' κ w i τ (TakeFinish r t) A s = absurd s

  index_in : (κ : Kind) (τ z h j k : ℕ) → Span κ τ h j → j ≤ z → k < j → InArray κ (h + k) z
  index_in Lifo τ z h j k s a b = omega arith
  index_in Fifo τ z h j k s a b = tt
  index_in Deque τ z h j k s a b = tt

  -- THE OWNER'S, on what it reads
  pub own_same : (ρ ρ' : Room) (κ : Kind) (w used low : ℕ) (φ : ℕ → Line) (o : Line) → ρ'.left ≡ ρ.left → Shape κ w ω used low q m [] o φ → line_step ρ' κ w ω (redirect q d) m' 0 o ≡ line_step ρ κ w ω q m 0 o
  unfolding line_step
  own_same ρ ρ' κ w used low φ Idle e S = refl
  own_same ρ ρ' κ w used low φ (PutRead t) e S = refl
  own_same ρ ρ' κ w used low φ (PutTail t h) e S = refl
  own_same ρ ρ' κ w used low φ (PutTest t r) e S = ap (λ (z : ℕ). goes (when is_full κ z r then Claim (ForPut t) else PutWord t r 0)) (sizes (q.published - 1))
  own_same ρ ρ' κ w used low φ (PutWord t r j) e S = ap (λ (z : ℕ). eff (StoreWord (q.published - 1) (slot κ z (put_index κ r)) j (word_in t j) ∷ []) (put_on ω t r j) GoesOn) (sizes (q.published - 1))
  own_same ρ ρ' κ w used low φ (PutFinish t r) e S = refl
  own_same ρ ρ' κ w used low φ (Claim g) e S = grows_both ρ ρ' 0 g e
  own_same ρ ρ' κ w used low φ (Note g) e S = ap (λ (z : ℕ). goes (note κ z q.anchor g)) (sizes (q.published - 1))
  own_same ρ ρ' κ w used low φ (Copy g h n k) e S =
      ap (λ (ss : List Store). eff ss (copy_on g h n k) GoesOn)
      (copies_both κ (h + k) (ω + 1) (omega (arith, S.arrays.some, S.arrays.below))
      (slot_in κ (size ω q) (h + k) (size_pos (now S.arrays)) (index_in κ (tail κ q.anchor) (size ω q) h n k S.own.shape.1 S.own.shape.2 S.own.shape.3)) (omega arith))
  own_same ρ ρ' κ w used low φ (Publish (ForPut t)) e S = refl
  own_same ρ ρ' κ w used low φ (Publish ForCommit) e S = refl
  own_same ρ ρ' κ w used low φ TakeRead e S = refl
  own_same ρ ρ' κ w used low φ (TakeTail h) e S = refl
  own_same ρ ρ' κ w used low φ (TakeTest r) e S = refl
  own_same ρ ρ' κ w used low φ (TakeWord r t j) e S =
      ap (λ (x : ℕ). goes (take_on ω r (with_word t j x) j))
      (read_both κ (q.published - 1) (take_index κ r) j (omega (arith, S.arrays.some, S.arrays.below))
      (slot_in κ (size ω q) _ (size_pos (now S.arrays)) (take_slot κ w (size ω q) low (tail κ q.anchor) r S.own.shape.0 S.own.shape.1)) S.own.shape.3)
  own_same ρ ρ' κ w used low φ (TakeFinish r t) e S = refl
  own_same ρ ρ' κ w used low φ StealRead e S = absurd S.own.shape
  own_same ρ ρ' κ w used low φ (StealTail h) e S = absurd S.own.shape
  own_same ρ ρ' κ w used low φ (StealTest r) e S = absurd S.own.shape
  own_same ρ ρ' κ w used low φ (StealNote r) e S = absurd S.own.shape
  own_same ρ ρ' κ w used low φ (StealWord r k t j) e S = absurd S.own.shape
  own_same ρ ρ' κ w used low φ (StealNext r t) e S = absurd S.own.shape
  own_same ρ ρ' κ w used low φ (StealCompare r f t) e S = absurd S.own.shape
