-- Each line of a thief keeps the shape.
use mathlib.Core.Path.{◌≡◌, refl, sym, subst}
use mathlib.Core.Bool.{Bool, true, false, not, true≢false}
use mathlib.Core.Logic.{◌≢◌, ◌⊎◌, inl, inr}
use mathlib.Core.List.{List, [], ◌∷◌}
use Prim.Native.Nat.{ℕ, suc, ◌+◌, ◌-◌, ◌%◌, ◌≤◌, ◌<◌}
use native.Mathlib.Omega.{arith}
use native.Mathlib.Nat.{mod-lt}
use lib.Dec.{eqb}
use borrow.Author.Tests.{eqb-true, eqb-false}
use Rattle.model.specs.declared.Room.{Room}
use Rattle.model.specs.declared.Kind.{Kind}
use Rattle.model.specs.declared.Kind.TheVariants.{Lifo, Fifo, Deque}
use Rattle.model.specs.declared.Line.{Line}
use Rattle.model.specs.declared.Line.TheVariants.{Idle, PutRead, PutTail, PutTest, PutWord, PutFinish, Claim, Note, Copy, Publish, TakeRead, TakeTail, TakeTest, TakeWord, TakeFinish, StealRead, StealTail, StealTest, StealNote, StealWord, StealNext, StealCompare}
use Rattle.model.specs.declared.Queue.{Queue}
use Rattle.model.specs.declared.Store.{Store}
use Rattle.model.specs.declared.Store.TheVariants.{StoreOut}
use Rattle.theorems.proofs.Folds.{places, laid, words}
use Rattle.model.specs.declared.Answer.TheVariants.{HandedOut, Empty}
use Rattle.model.specs.declared.Task.{Task}
use Rattle.model.specs.declared.Anchor.{Anchor}
use Rattle.model.specs.Limits.{kind_ok}
use Rattle.model.specs.Tests.{when◌then◌else◌}
use Rattle.model.specs.Lines.{Effect, eff, goes, size, succeeds, word_of, steal_on, line_step, holds_link}
use Rattle.model.specs.Tasks.{no_task, with_word}
use Rattle.model.specs.Figures.{is_same, slot, steal_index, is_empty, steal_store, steal_read, steal_last, anchor}
use Rattle.model.proofs.Directory.{size_pos}
use Rattle.theorems.proofs.Remainders.{le_or_lt}
use Rattle.theorems.proofs.Directory.{number, arrays_anchor, tidy_proper}
use Rattle.theorems.proofs.Shape.{tail, Bounded, Early, ThiefRead, Some, Slot, After, Double, Known, known_more, none_known, ThiefShape, tails, lows, Path, OwnEnd, Shape, Larger, thief_keep}
use Rattle.theorems.proofs.ShapeLay.{larger_refl}

-- thief k's line leaves E: the lines φ' are as φ but for k's
abbrev pub ShapeKeptT : Kind → ℕ → ℕ → ℕ → ℕ → Queue → List ℕ → List Store → Line → (ℕ → Line) → ℕ → Effect → Type 0
ShapeKeptT κ w ω used low q m ss o φ k E =
    (φ' : ℕ → Line) → φ' k ≡ E.line → ((i : ℕ) → i ≢ k → φ' i ≡ φ i) → Shape κ w ω used low (laid E.stores q) (words ω q.arrays E.stores m) ss o φ'

others : (κ : Kind) (w ω : ℕ) (q q' : Queue) (φ φ' : ℕ → Line) (k : ℕ) (θ : Line) → Larger κ ω q q' → φ' k ≡ θ → ((i : ℕ) → i ≢ k → φ' i ≡ φ i)
    → ((i : ℕ) → ThiefShape κ w ω q (tail κ q.anchor) (φ i)) → ThiefShape κ w ω q' (tail κ q'.anchor) θ → (i : ℕ) → ThiefShape κ w ω q' (tail κ q'.anchor) (φ' i)
others κ w ω q q' φ φ' k θ M is rest old new i = go (le_or_lt i k) (le_or_lt k i)
  where
    other : i ≢ k → ThiefShape κ w ω q' (tail κ q'.anchor) (φ' i)
    other ne = rw (rest i ne) (thief_keep κ w ω q q' M (φ i) (old i))

    go : (i ≤ k) ⊎ (k < i) → (k ≤ i) ⊎ (i < k) → ThiefShape κ w ω q' (tail κ q'.anchor) (φ' i)
    go (inr b) p = other (omega arith)
    go (inl b) (inr p) = other (omega arith)
    go (inl b) (inl p) = rw (is_k, is) new
      where
        is_k : i ≡ k
        is_k = omega arith

-- nothing but the thief's line changes
pub thief_stay : {κ : Kind} {w ω used low : ℕ} {q : Queue} {m : List ℕ} {ss : List Store} {o : Line} {φ : ℕ → Line} (S : Shape κ w ω used low q m ss o φ) (k : ℕ) (θ : Line)
    → ThiefShape κ w ω q (tail κ q.anchor) θ → (φ' : ℕ → Line) → φ' k ≡ θ → ((i : ℕ) → i ≢ k → φ' i ≡ φ i) → Shape κ w ω used low q m ss o φ'
thief_stay {κ} {w} {ω} {used} {low} {q} {m} {ss} {o} {φ} S k θ s φ' is rest =
    record {
      anchor = S.anchor;
      arrays = S.arrays;
      path = S.path;
      own = S.own;
      th = others κ w ω q q φ φ' k θ (larger_refl κ ω q) is rest S.th s;
    }

-- a steal moves the anchor
steal_to : {κ : Kind} {w ω used low : ℕ} {q : Queue} {m : List ℕ} {ss : List Store} {o : Line} {φ : ℕ → Line} (S : Shape κ w ω used low q m ss o φ) (k : ℕ) (r : Anchor)
    → Bounded κ w (size ω q) low r → tail κ r ≡ tail κ q.anchor
    → (φ' : ℕ → Line) → φ' k ≡ Idle → ((i : ℕ) → i ≢ k → φ' i ≡ φ i) → Shape κ w ω used low (laid (StoreOut r ∷ []) q) m ss o φ'
steal_to {κ} {w} {ω} {used} {low} {q} {m} {ss} {o} {φ} S k r a e φ' is rest =
    record {
      anchor = a;
      arrays = arrays_anchor _ _ S.arrays;
      path = subst (λ (τ : ℕ). Path κ w ω q.arrays q.claimed low q.published τ ss) (sym e) S.path;
      own = subst (λ (τ : ℕ). OwnEnd κ w ω used q.arrays q.claimed (lows ss low) (places ss q.published) (tails ss τ) o) (sym e) S.own;
      th = others κ w ω q (laid (StoreOut r ∷ []) q) φ φ' k Idle (record { sized = omega arith; later = omega arith; more = omega arith; same = λ j u. refl }) is rest S.th tt;
    }

-- a FIFO queue is not linked
fifo_same : (q : Queue) (i : ℕ) (r : Anchor) (x : Bool) → not x ≡ true → (when x then holds_link q i else is_same Fifo q.anchor r) ≡ true → q.anchor.head ≡ r.head
unfolding when◌then◌else◌
fifo_same q i r true n z = absurd (true≢false (sym n))
fifo_same q i r false n z = eqb-true q.anchor.head r.head z

win : (κ : Kind) (w ω used low : ℕ) (q : Queue) (m : List ℕ) (ss : List Store) (o : Line) (φ : ℕ → Line) (k : ℕ) (r : Anchor) (e : ℕ) (t : Task) → succeeds κ q (suc k) r ≡ true → kind_ok κ q.linked ≡ true → (S : Shape κ w ω used low q m ss o φ)
    → ThiefShape κ w ω q (tail κ q.anchor) (StealCompare r e t) → ShapeKeptT κ w ω used low q m ss o φ k (eff (steal_store κ r e ∷ []) Idle (HandedOut (suc k) t))
win Lifo w ω used low q m ss o φ k r e t z n S (R, s, a, u) =
    steal_to S k _ (R.0, omega (arith, R.1), R.2) refl
win Fifo w ω used low q m ss o φ k r e t z n S (R, s, a, u) =
    steal_to S k _
    (omega (arith, S.anchor.0, is), omega (arith, R.1, is), S.anchor.2, S.anchor.3) refl
  where
    is : q.anchor.head ≡ r.head
    is = fifo_same q (suc k) r q.linked n z
win Deque w ω used low q m ss o φ k r e t z n S (R, s, a, u) =
    steal_to S k _ (rw a (mod-lt (r.head + 1) (omega arith)), omega (arith, R.1), R.2) refl

compare : (κ : Kind) (w ω used low : ℕ) (q : Queue) (m : List ℕ) (ss : List Store) (o : Line) (φ : ℕ → Line) (k : ℕ) (r : Anchor) (e : ℕ) (t : Task) (z : Bool) → succeeds κ q (suc k) r ≡ z → kind_ok κ q.linked ≡ true → (S : Shape κ w ω used low q m ss o φ)
    → ThiefShape κ w ω q (tail κ q.anchor) (StealCompare r e t)
    → ShapeKeptT κ w ω used low q m ss o φ k (when z then eff (steal_store κ r e ∷ []) Idle (HandedOut (suc k) t) else goes StealRead)
unfolding when◌then◌else◌
compare κ w ω used low q m ss o φ k r e t true i n S s = win κ w ω used low q m ss o φ k r e t i n S s
compare κ w ω used low q m ss o φ k r e t false i n S s = thief_stay S k StealRead tt

thief_some : (κ : Kind) (w z τ : ℕ) (r : Anchor) → ThiefRead κ w z τ r → is_empty κ r ≡ false → Some κ r
thief_some Lifo w z τ r R e = omega (arith, eqb-false r.count 0 e)
thief_some Fifo w z τ r (r', s, u) e = omega (arith, eqb-false r.head r.count e)
thief_some Deque w z τ r R e = omega (arith, eqb-false r.count 0 e)

test_steal : (ρ : Room) (κ : Kind) (w ω used low : ℕ) (q : Queue) (m : List ℕ) (ss : List Store) (o : Line) (φ : ℕ → Line) (k : ℕ) (r : Anchor) (x : Bool) → is_empty κ r ≡ x → (S : Shape κ w ω used low q m ss o φ)
    → ThiefRead κ w (size ω q) (tail κ q.anchor) r → ShapeKeptT κ w ω used low q m ss o φ k (when x then eff [] Idle (Empty (suc k)) else goes (StealNote r))
unfolding when◌then◌else◌
test_steal ρ κ w ω used low q m ss o φ k r true e S R = thief_stay S k Idle tt
test_steal ρ κ w ω used low q m ss o φ k r false e S R = thief_stay S k (StealNote r) (R, thief_some κ w (size ω q) (tail κ q.anchor) r R e)

-- line 1
read_steal : (κ : Kind) (w ω used low : ℕ) (q : Queue) (m : List ℕ) (ss : List Store) (o : Line) (φ : ℕ → Line) → Shape κ w ω used low q m ss o φ → ThiefShape κ w ω q (tail κ q.anchor) (steal_read κ q.anchor)
read_steal Lifo w ω used low q m ss o φ S = S.anchor
read_steal Fifo w ω used low q m ss o φ S = S.anchor.1
read_steal Deque w ω used low q m ss o φ S = S.anchor

tail_steal : (κ : Kind) (w ω used low : ℕ) (q : Queue) (m : List ℕ) (ss : List Store) (o : Line) (φ : ℕ → Line) (h : ℕ) → Shape κ w ω used low q m ss o φ → Early κ (tail κ q.anchor) h
    → ThiefRead κ w (size ω q) (tail κ q.anchor) (anchor h q.anchor.count q.anchor.tag)
tail_steal Lifo w ω used low q m ss o φ h S e = absurd e
tail_steal Fifo w ω used low q m ss o φ h S e = (e, omega arith, S.anchor.3)
tail_steal Deque w ω used low q m ss o φ h S e = absurd e

slot_now : (κ : Kind) (w z τ : ℕ) (r : Anchor) → ThiefRead κ w z τ r → Slot κ z r.count
slot_now Lifo w z τ r R = R.1
slot_now Fifo w z τ r R = tt
slot_now Deque w z τ r R = tt

-- the slot about to be read
pub steal_slot : (κ : Kind) (z : ℕ) (r : Anchor) → 0 < z → Some κ r → Slot κ z r.count → slot κ z (steal_index κ r) < z
steal_slot Lifo z r p s l = omega arith
steal_slot Fifo z r p s l = mod-lt r.head p
steal_slot Deque z r p s l = mod-lt r.head p

last_steal : (κ : Kind) (w ω : ℕ) (q : Queue) (r : Anchor) (t : Task) → ThiefRead κ w (size ω q) (tail κ q.anchor) r → Some κ r → Known (ω + 1) t → ThiefShape κ w ω q (tail κ q.anchor) (steal_last κ r t)
last_steal Lifo w ω q r t R s u = (R, s, refl, u)
last_steal Fifo w ω q r t R s u = (R, s, refl, u)
last_steal Deque w ω q r t R s u = (R, s, tt, u)

-- a word is read
word_steal : (κ : Kind) (w ω used low : ℕ) (q : Queue) (m : List ℕ) (ss : List Store) (o : Line) (φ : ℕ → Line) (r : Anchor) (b : ℕ) (t : Task) (j : ℕ) (x : Bool) → eqb j ω ≡ x → ω ≤ 4 → Shape κ w ω used low q m ss o φ
    → ThiefShape κ w ω q (tail κ q.anchor) (StealWord r b t j)
    → let u : Task = with_word t j (word_of κ ω q m b (steal_index κ r) j) in
    ThiefShape κ w ω q (tail κ q.anchor) (when x then steal_last κ r u else StealWord r b u (j + 1))
unfolding when◌then◌else◌
word_steal κ w ω used low q m ss o φ r b t j x e wide S (R, s, p, l, κn, h) = go x e
  where
    u : Task
    u = with_word t j (word_of κ ω q m b (steal_index κ r) j)

    first : word_of κ ω q m b (steal_index κ r) 0 ≤ 65535
    first = number S.arrays b _ p (steal_slot κ _ r (size_pos (tidy_proper ω q.arrays q.claimed b S.arrays.tidied (omega (arith, S.arrays.below)))) s l)

    more : Known (j + 1) u
    more = known_more j t _ (omega arith) κn (λ z. rw z first)

    go : (x : Bool) → eqb j ω ≡ x → ThiefShape κ w ω q (tail κ q.anchor) (when x then steal_last κ r u else StealWord r b u (j + 1))
    go true e = last_steal κ w ω q r u R s (subst (λ (n : ℕ). Known (n + 1) u) (eqb-true j ω e) more)
    go false e = (R, s, p, l, more, omega (arith, eqb-false j ω e))

next_steal : (κ : Kind) (h : ℕ) → Double κ → After κ h ((h + 1) % 2048)
next_steal Lifo h d = absurd d
next_steal Fifo h d = absurd d
next_steal Deque h d = refl

pub thief_shaped : (ρ : Room) (κ : Kind) (w ω used low : ℕ) (q : Queue) (m : List ℕ) (ss : List Store) (o : Line) (φ : ℕ → Line) (k : ℕ) (θ : Line) → ω ≤ 4 → kind_ok κ q.linked ≡ true → (S : Shape κ w ω used low q m ss o φ) → ThiefShape κ w ω q (tail κ q.anchor) θ
    → ShapeKeptT κ w ω used low q m ss o φ k (line_step ρ κ w ω q m (suc k) θ)
unfolding line_step
thief_shaped ρ κ w ω used low q m ss o φ k Idle wide n S s = thief_stay S k Idle tt
thief_shaped ρ κ w ω used low q m ss o φ k StealRead wide n S s = thief_stay S k (steal_read κ q.anchor) (read_steal κ w ω used low q m ss o φ S)
thief_shaped ρ κ w ω used low q m ss o φ k (StealTail h) wide n S s = thief_stay S k (StealTest (anchor h q.anchor.count q.anchor.tag)) (tail_steal κ w ω used low q m ss o φ h S s)
thief_shaped ρ κ w ω used low q m ss o φ k (StealTest r) wide n S s = test_steal ρ κ w ω used low q m ss o φ k r (is_empty κ r) refl S s
thief_shaped ρ κ w ω used low q m ss o φ k (StealNote r) wide n S (R, s) =
    thief_stay S k (StealWord r (q.published - 1) no_task 0) (R, s, omega (arith, S.arrays.some), slot_now κ w (size ω q) (tail κ q.anchor) r R, none_known, omega arith)
thief_shaped ρ κ w ω used low q m ss o φ k (StealWord r b t j) wide n S s =
    thief_stay S k (steal_on κ ω r b (with_word t j (word_of κ ω q m b (steal_index κ r) j)) j) (word_steal κ w ω used low q m ss o φ r b t j (eqb j ω) refl wide S s)
thief_shaped ρ κ w ω used low q m ss o φ k (StealNext r t) wide n S (R, s, d, u) = thief_stay S k (StealCompare r ((r.head + 1) % 2048) t) (R, s, next_steal κ r.head d, u)
thief_shaped ρ κ w ω used low q m ss o φ k (StealCompare r e t) wide n S s = compare κ w ω used low q m ss o φ k r e t (succeeds κ q (suc k) r) refl n S s
thief_shaped ρ κ w ω used low q m ss o φ k (PutRead t) wide n S s = absurd s
thief_shaped ρ κ w ω used low q m ss o φ k (PutTail t h) wide n S s = absurd s
thief_shaped ρ κ w ω used low q m ss o φ k (PutTest t r) wide n S s = absurd s
thief_shaped ρ κ w ω used low q m ss o φ k (PutWord t r j) wide n S s = absurd s
thief_shaped ρ κ w ω used low q m ss o φ k (PutFinish t r) wide n S s = absurd s
thief_shaped ρ κ w ω used low q m ss o φ k (Claim t) wide n S s = absurd s
thief_shaped ρ κ w ω used low q m ss o φ k (Note t) wide n S s = absurd s
thief_shaped ρ κ w ω used low q m ss o φ k (Copy t h j i) wide n S s = absurd s
thief_shaped ρ κ w ω used low q m ss o φ k (Publish t) wide n S s = absurd s
thief_shaped ρ κ w ω used low q m ss o φ k TakeRead wide n S s = absurd s
thief_shaped ρ κ w ω used low q m ss o φ k (TakeTail h) wide n S s = absurd s
thief_shaped ρ κ w ω used low q m ss o φ k (TakeTest r) wide n S s = absurd s
thief_shaped ρ κ w ω used low q m ss o φ k (TakeWord r t j) wide n S s = absurd s
thief_shaped ρ κ w ω used low q m ss o φ k (TakeFinish r t) wide n S s = absurd s
