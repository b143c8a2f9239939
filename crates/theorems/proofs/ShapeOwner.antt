-- Each line of the owner, done on what the owner reads, leaves stores that fit and a next line of the right shape.
use mathlib.Core.Path.{◌≡◌, refl, sym, ◌∙◌, ap, subst}
use mathlib.Core.Bool.{Bool, true, false}
use mathlib.Core.List.{List, [], ◌∷◌}
use Prim.Native.Nat.{ℕ, zero, suc, ◌+◌, ◌-◌, ◌*◌, ◌≤◌, ◌<◌}
use native.Mathlib.Omega.{arith}
use native.Mathlib.Nat.{mod-lt}
use lib.Dec.{eqb}
use lib.Pow.{pow_pos}
use borrow.Author.Tests.{eqb-true, eqb-false}
use Rattle.model.specs.declared.Room.{Room}
use Rattle.model.specs.declared.Growth.{Growth}
use Rattle.model.specs.declared.Growth.TheVariants.{ForPut, ForCommit}
use Rattle.model.specs.declared.Kind.{Kind}
use Rattle.model.specs.declared.Kind.TheVariants.{Lifo, Fifo, Deque}
use Rattle.model.specs.declared.Line.{Line}
use Rattle.model.specs.declared.Line.TheVariants.{Idle, PutRead, PutTail, PutTest, PutWord, PutFinish, Claim, Note, Copy, Publish, TakeRead, TakeTail, TakeTest, TakeWord, TakeFinish, StealRead, StealTail, StealTest, StealNote, StealWord, StealNext, StealCompare}
use Rattle.model.specs.declared.Queue.{Queue}
use Rattle.model.specs.declared.Store.TheVariants.{StoreNote}
use Rattle.model.specs.declared.Answer.TheVariants.{GoesOn, Full, Empty}
use Rattle.model.specs.declared.Task.{Task}
use Rattle.model.specs.declared.Anchor.{Anchor}
use Rattle.theorems.proofs.Folds.{places, AllWords, copy_words_lem}
use Rattle.model.specs.Tests.{when◌then◌else◌}
use Rattle.model.specs.Memory.{word_at, size_at}
use Rattle.theorems.proofs.Words.{off}
use Rattle.model.specs.Lines.{Effect, eff, goes, size, word_of, write_word, fits, copy_words, line_step, publishes, task_for}
use Rattle.model.specs.Figures.{slot, put_index, take_index, is_full, is_empty, note_all, anchor}
use Rattle.model.specs.World.{is_expanding}
use Rattle.model.specs.Tasks.{no_task, word_in, with_word}
use Rattle.model.proofs.Tasks.{number_word}
use Rattle.model.proofs.Directory.{size_pos, tidy_front, tidy_twice}
use Rattle.theorems.proofs.Directory.{Arrays, now, number_now}
use Rattle.theorems.proofs.Shape.{tail, Bounded, OwnRead, Some, Span, Known, known_more, none_known, pending, Spent, OwnShape, InArray, tails, lows, Fit, Path, OwnEnd, Shape, claim_expands, open_for, KnownFor, Spare}
use Rattle.theorems.proofs.ShapeLay.{path_join, same_lows, same_places, same_tails}

-- what the owner's line leaves
abbrev pub Ends : Kind → ℕ → ℕ → ℕ → ℕ → Queue → Effect → Type 0
Ends κ w ω used low q E =
    Path κ w ω q.arrays q.claimed low q.published (tail κ q.anchor) E.stores
    × OwnEnd κ w ω used q.arrays q.claimed (lows E.stores low) (places E.stores q.published) (tails E.stores (tail κ q.anchor)) E.line

-- FIFO's owner reads the head: the head that it reads is then the last one that it read or wrote
abbrev pub Exact : Kind → ℕ → Anchor → Type 0
Exact Lifo low a = Unit {0}
Exact Fifo low a = a.head ≡ low
Exact Deque low a = Unit {0}

abbrev pub Reading : Line → Type 0
Reading Idle = ⊥
Reading (PutRead t) = Unit {0}
Reading (PutTail t h) = ⊥
Reading (PutTest t r) = ⊥
Reading (PutWord t r j) = ⊥
Reading (PutFinish t r) = ⊥
Reading (Claim t) = ⊥
Reading (Note t) = ⊥
Reading (Copy t h n k) = ⊥
Reading (Publish t) = ⊥
Reading TakeRead = Unit {0}
Reading (TakeTail h) = ⊥
Reading (TakeTest r) = ⊥
Reading (TakeWord r t j) = ⊥
Reading (TakeFinish r t) = ⊥
Reading StealRead = ⊥
Reading (StealTail h) = ⊥
Reading (StealTest r) = ⊥
Reading (StealNote r) = ⊥
Reading (StealWord r k t j) = ⊥
Reading (StealNext r t) = ⊥
Reading (StealCompare r e t) = ⊥

pub spent_done : (κ : Kind) (c used : ℕ) (o : Line) → Spent κ c o used → Spent κ c Idle used
spent_done Lifo c used o s = tt
spent_done Fifo c used o s = omega arith
spent_done Deque c used o s = tt

pub spent_put : (κ : Kind) (c used : ℕ) (o o' : Line) → pending o' ≡ pending o → Spent κ c o used → Spent κ c o' used
spent_put Lifo c used o o' e s = tt
spent_put Fifo c used o o' e s = omega arith
spent_put Deque c used o o' e s = tt

module _ {κ : Kind} {w ω used low : ℕ} {q : Queue} {m : List ℕ} {o : Line} {φ : ℕ → Line} (S : Shape κ w ω used low q m [] o φ) where
  -- the owner goes on to o'
  pub end_to : (o' : Line) → is_expanding o' ≡ is_expanding o → Spent κ (tail κ q.anchor) o' used → OwnShape κ w ω (size ω q) low (tail κ q.anchor) o'
      → OwnEnd κ w ω used q.arrays q.claimed low q.published (tail κ q.anchor) o'
  end_to o' e u k = record { claims = rw e S.own.claims; spent = u; shape = k }

  stay : (o' : Line) → is_expanding o' ≡ is_expanding o → pending o' ≡ pending o → OwnShape κ w ω (size ω q) low (tail κ q.anchor) o' → Ends κ w ω used low q (goes o')
  stay o' e u k = (tt, end_to o' e (spent_put κ _ _ o o' u S.own.spent) k)

room_now : (κ : Kind) (w z low τ : ℕ) (r : Anchor) → OwnRead κ w z low τ r → r.count ≤ low + z → is_full κ z r ≡ false → Spare κ z low r.count
room_now Lifo w z low τ r (a, b, d) l e = omega (arith, eqb-false r.count z e)
room_now Fifo w z low τ r (a, b, d) l e = omega (arith, eqb-false r.count (r.head + z) e)
room_now Deque w z low τ r (a, b, d) l e = omega (arith, eqb-false r.count z e)

top_now : (κ : Kind) (w z low : ℕ) (r a : Anchor) → Bounded κ w z low a → OwnRead κ w z low (tail κ a) r → r.count ≤ low + z
top_now Lifo w z low r a A (b, c, d) = omega arith
top_now Fifo w z low r a (k, l, u, v) (b, c, d) = omega arith
top_now Deque w z low r a A (b, c, d) = omega arith

-- a slot of the array
pub slot_in : (κ : Kind) (z i : ℕ) → 0 < z → (InArray κ i z) → slot κ z i < z
slot_in Lifo z i l u = u
slot_in Fifo z i l u = mod-lt i l
slot_in Deque z i l u = mod-lt i l

put_slot : (κ : Kind) (z low : ℕ) (r : Anchor) → Spare κ z low r.count → InArray κ (put_index κ r) z
put_slot Lifo z low r R = R
put_slot Fifo z low r R = tt
put_slot Deque z low r R = tt

pub take_slot : (κ : Kind) (w z low τ : ℕ) (r : Anchor) → OwnRead κ w z low τ r → Some κ r → InArray κ (take_index κ r) z
take_slot Lifo w z low τ r (a, b, d) s = omega arith
take_slot Fifo w z low τ r R s = tt
take_slot Deque w z low τ r R s = tt

own_some : (κ : Kind) (w z low : ℕ) (r a : Anchor) → Bounded κ w z low a → OwnRead κ w z low (tail κ a) r → is_empty κ r ≡ false → Some κ r
own_some Lifo w z low r q A R e = omega (arith, eqb-false r.count 0 e)
own_some Fifo w z low r q (a, b, d, i) (r', s, τ) e = omega (arith, eqb-false r.head r.count e)
own_some Deque w z low r q A R e = omega (arith, eqb-false r.count 0 e)

module _ (ρ : Room) (w ω used low : ℕ) (q : Queue) (m : List ℕ) (φ : ℕ → Line) where
  read_put : (κ : Kind) (t : Task) → Shape κ w ω used low q m [] (PutRead t) φ → Exact κ low q.anchor → Ends κ w ω used low q (line_step ρ κ w ω q m 0 (PutRead t))
  unfolding line_step
  read_put Lifo t S x = stay S (PutTest t q.anchor) refl refl (S.own.shape, S.anchor)
  read_put Fifo t S x = stay S (PutTail t q.anchor.head) refl refl (S.own.shape, x)
  read_put Deque t S x = stay S (PutTest t q.anchor) refl refl (S.own.shape, S.anchor)

  tail_put : (κ : Kind) (t : Task) (h : ℕ) → Shape κ w ω used low q m [] (PutTail t h) φ → Ends κ w ω used low q (goes (PutTest t (anchor h q.anchor.count q.anchor.tag)))
  tail_put Lifo t h S = absurd S.own.shape.1
  tail_put Fifo t h S = stay S (PutTest t (anchor h q.anchor.count q.anchor.tag)) refl refl (S.own.shape.0, (S.own.shape.1, refl, S.anchor.3))
  tail_put Deque t h S = absurd S.own.shape.1

  test_put : (κ : Kind) (t : Task) (r : Anchor) (x : Bool) → is_full κ (size ω q) r ≡ x → Shape κ w ω used low q m [] (PutTest t r) φ
      → Ends κ w ω used low q (goes (when x then Claim (ForPut t) else PutWord t r 0))
  unfolding when◌then◌else◌
  test_put κ t r true e S = stay S (Claim (ForPut t)) refl refl S.own.shape.0
  test_put κ t r false e S =
      stay S (PutWord t r 0) refl refl
      (S.own.shape.0, S.own.shape.1, room_now κ w (size ω q) low (tail κ q.anchor) r S.own.shape.1 (top_now κ w (size ω q) low r q.anchor S.anchor S.own.shape.1) e, omega arith)

  -- a word of the new task
  word_put : (κ : Kind) (t : Task) (r : Anchor) (j : ℕ) (x : Bool) → eqb j ω ≡ x → Shape κ w ω used low q m [] (PutWord t r j) φ
      → Ends κ w ω used low q (eff (write_word κ ω q (q.published - 1) (put_index κ r) j (word_in t j) ∷ []) (when x then PutFinish t r else PutWord t r (j + 1)) GoesOn)
  unfolding when◌then◌else◌
  word_put κ t r j x e S = ((fit, tt), go x e)
    where
      fit : Fit κ w ω q.arrays q.claimed low q.published (tail κ q.anchor) (write_word κ ω q (q.published - 1) (put_index κ r) j (word_in t j))
      fit = (
        omega (arith, S.arrays.some, S.arrays.below),
        slot_in κ (size ω q) _ (size_pos (now S.arrays)) (put_slot κ (size ω q) low r S.own.shape.2),
        S.own.shape.3,
        λ z. rw (z, number_word t) S.own.shape.0.0,
      )

      go : (x : Bool) → eqb j ω ≡ x → OwnEnd κ w ω used q.arrays q.claimed low q.published (tail κ q.anchor) (when x then PutFinish t r else PutWord t r (j + 1))
      go true e = end_to S (PutFinish t r) refl (spent_put κ _ _ (PutWord t r j) (PutFinish t r) refl S.own.spent) (S.own.shape.0, S.own.shape.1, S.own.shape.2)
      go false e =
          end_to S (PutWord t r (j + 1)) refl (spent_put κ _ _ (PutWord t r j) (PutWord t r (j + 1)) refl S.own.spent)
          (S.own.shape.0, S.own.shape.1, S.own.shape.2, omega (arith, S.own.shape.3, eqb-false j ω e))

  finish_put : (κ : Kind) (t : Task) (r : Anchor) (i : ℕ) → Shape κ w ω used low q m [] (PutFinish t r) φ → Ends κ w ω used low q (line_step ρ κ w ω q m i (PutFinish t r))
  unfolding line_step
  finish_put Lifo t r i S = (((S.own.shape.1.0, omega (arith, S.own.shape.2), mod-lt (r.tag + 1) (pow_pos w)), tt), record { claims = S.own.claims; spent = tt; shape = tt })
  finish_put Fifo t r i S =
      (((omega (arith, S.own.shape.1.1), omega (arith, S.own.shape.2)), tt), record { claims = S.own.claims; spent = omega (arith, S.own.spent, S.own.shape.1.1); shape = tt })
  finish_put Deque t r i S = (((S.own.shape.1.0, omega (arith, S.own.shape.2), mod-lt (r.tag + 1) (pow_pos w)), tt), record { claims = S.own.claims; spent = tt; shape = tt })

  -- X1 that answers FULL
  claim_full : (κ : Kind) (t : Growth) → Shape κ w ω used low q m [] (Claim t) φ → (x : Bool) → fits ρ ω q ≡ x
      → (when x then record { claims = true; stores = []; line = Note t; answer = GoesOn } else eff [] Idle (Full 0 (task_for t))).claims ≡ false
      → Ends κ w ω used low q (when x then record { claims = true; stores = []; line = Note t; answer = GoesOn } else eff [] Idle (Full 0 (task_for t)))
  unfolding when◌then◌else◌
  claim_full κ t S true e f = absurd (let z : ◌≡◌ {A = ℕ} 0 1 = cc in omega arith)
  claim_full κ t S false e f = (tt, end_to S Idle (sym (claim_expands t)) (spent_done κ _ _ (Claim t) S.own.spent) tt)

  -- X2
  note_all_lem : (κ : Kind) (z τ : ℕ) (t : Growth) (h k : ℕ) (x : Bool) → eqb k 0 ≡ x → KnownFor ω t → Span κ τ h k → k ≤ z → OwnShape κ w ω z low τ (when x then Publish t else Copy t h k 0)
  unfolding when◌then◌else◌
  note_all_lem κ z τ t h k true e l s u = l
  note_all_lem κ z τ t h k false e l s u = (l, s, u, omega (arith, eqb-false k 0 e))

  note_expands : (t : Growth) (h k : ℕ) (x : Bool) → (is_expanding (when x then Publish t else Copy t h k 0) ≡ true) × (pending (when x then Publish t else Copy t h k 0) ≡ open_for t)
  unfolding when◌then◌else◌
  note_expands t h k true = (refl, refl)
  note_expands t h k false = (refl, refl)

  note_to : (κ : Kind) (t : Growth) (h k : ℕ) → Shape κ w ω used low q m [] (Note t) φ → Span κ (tail κ q.anchor) h k → k ≤ size ω q → Ends κ w ω used low q (goes (note_all t h k))
  note_to κ t h k S s u =
      let E = note_expands t h k (eqb k 0) in
      stay S (note_all t h k) E.0 E.1 (note_all_lem κ (size ω q) (tail κ q.anchor) t h k (eqb k 0) refl S.own.shape s u)

  note_x2 : (κ : Kind) (t : Growth) → Shape κ w ω used low q m [] (Note t) φ → Ends κ w ω used low q (line_step ρ κ w ω q m 0 (Note t))
  unfolding line_step
  note_x2 Lifo t S = note_to Lifo t 0 (size ω q) S refl (omega arith)
  note_x2 Fifo t S = note_to Fifo t q.anchor.head (q.anchor.count - q.anchor.head) S (omega (arith, S.anchor.1)) (omega (arith, S.anchor.0, S.anchor.2))
  note_x2 Deque t S = note_to Deque t q.anchor.head q.anchor.count S S.anchor.0 S.anchor.1

  -- X3
  copy_x3 : (κ : Kind) (t : Growth) (h j k : ℕ) (x : Bool) → eqb (k + 1) j ≡ x → Shape κ w ω used low q m [] (Copy t h j k) φ
      → Ends κ w ω used low q (eff (copy_words κ ω q m (h + k) (ω + 1)) (when x then Publish t else Copy t h j (k + 1)) GoesOn)
  unfolding when◌then◌else◌
  copy_x3 κ t h j k x e S = (path (ω + 1) (omega arith), rw (same_lows _ low (some (ω + 1)), same_places _ q.published (some (ω + 1)), same_tails _ (tail κ q.anchor) (some (ω + 1))) (next x e))
    where
      A : Arrays ω q m
      A = S.arrays

      more : q.published + 1 ≡ q.claimed
      more = sym S.own.claims

      twice : size_at ω q.arrays q.published ≡ 2 * size ω q
      twice =
          ap (size_at ω q.arrays) {x = q.published} (omega (arith, A.some))
          ∙ tidy_twice ω q.arrays (q.published - 1) (tidy_front ω q.arrays q.claimed (suc (q.published - 1)) A.tidied (omega (arith, A.some, more)))

      index : (κ : Kind) (z : ℕ) → size ω q ≤ z → Span κ (tail κ q.anchor) h j → InArray κ (h + k) z
      index Lifo z l s = omega (arith, S.own.shape.2, S.own.shape.3)
      index Fifo z l s = tt
      index Deque z l s = tt

      pos : 0 < size ω q
      pos = size_pos (now A)

      there : slot κ (size_at ω q.arrays q.published) (h + k) < size_at ω q.arrays q.published
      there = slot_in κ (size_at ω q.arrays q.published) (h + k) (omega (arith, twice, pos)) (index κ _ (omega (arith, twice)) S.own.shape.1)

      value : word_at m ω (off q) (slot κ (size ω q) (h + k)) 0 ≤ 65535
      value = number_now A _ (slot_in κ (size ω q) (h + k) pos (index κ (size ω q) (omega arith) S.own.shape.1))

      some : (n : ℕ) → AllWords (copy_words κ ω q m (h + k) n)
      some = copy_words_lem κ ω q m (h + k)

      path : (n : ℕ) → n ≤ ω + 1 → Path κ w ω q.arrays q.claimed low q.published (tail κ q.anchor) (copy_words κ ω q m (h + k) n)
      path zero l = tt
      path (suc n) l =
          path_join κ w ω _ _ _ _ _ (copy_words κ ω q m (h + k) n) _ (path n (omega arith))
          ((omega (arith, more), there, omega arith, λ z. rw z value), tt)

      next : (x : Bool) → eqb (k + 1) j ≡ x → OwnEnd κ w ω used q.arrays q.claimed low q.published (tail κ q.anchor) (when x then Publish t else Copy t h j (k + 1))
      next true e = end_to S (Publish t) refl (spent_put κ _ _ (Copy t h j k) (Publish t) refl S.own.spent) S.own.shape.0
      next false e =
          end_to S (Copy t h j (k + 1)) refl (spent_put κ _ _ (Copy t h j k) (Copy t h j (k + 1)) refl S.own.spent)
          (S.own.shape.0, S.own.shape.1, S.own.shape.2, omega (arith, S.own.shape.3, eqb-false (k + 1) j e))

  -- X4
  publish : (κ : Kind) (t : Growth) → Shape κ w ω used low q m [] (Publish t) φ → Ends κ w ω used low q (publishes (StoreNote q.published ∷ []) 0 t)
  unfolding when◌then◌else◌
  publish κ (ForPut t) S =
      (((refl, omega (arith, S.own.claims)), tt), record { claims = S.own.claims; spent = spent_put κ _ _ (Publish (ForPut t)) (PutRead t) refl S.own.spent; shape = S.own.shape })
  publish κ ForCommit S =
      (((refl, omega (arith, S.own.claims)), tt), record { claims = S.own.claims; spent = spent_put κ _ _ (Publish ForCommit) Idle refl S.own.spent; shape = tt })

  -- take
  read_take : (κ : Kind) → Shape κ w ω used low q m [] TakeRead φ → Exact κ low q.anchor → Ends κ w ω used low q (line_step ρ κ w ω q m 0 TakeRead)
  unfolding line_step
  read_take Lifo S x = stay S (TakeTest q.anchor) refl refl S.anchor
  read_take Fifo S x = stay S (TakeTail q.anchor.head) refl refl x
  read_take Deque S x = stay S (TakeTest q.anchor) refl refl S.anchor

  tail_take : (κ : Kind) (h : ℕ) → Shape κ w ω used low q m [] (TakeTail h) φ → Ends κ w ω used low q (goes (TakeTest (anchor h q.anchor.count q.anchor.tag)))
  tail_take Lifo h S = absurd S.own.shape
  tail_take Fifo h S = stay S (TakeTest (anchor h q.anchor.count q.anchor.tag)) refl refl (S.own.shape, refl, S.anchor.3)
  tail_take Deque h S = absurd S.own.shape

  test_take : (κ : Kind) (r : Anchor) (x : Bool) → is_empty κ r ≡ x → Shape κ w ω used low q m [] (TakeTest r) φ
      → Ends κ w ω used low q (when x then eff [] Idle (Empty 0) else goes (TakeWord r no_task 0))
  unfolding when◌then◌else◌
  test_take κ r true e S = (tt, end_to S Idle refl (spent_done κ _ _ (TakeTest r) S.own.spent) tt)
  test_take κ r false e S =
      stay S (TakeWord r no_task 0) refl refl (S.own.shape, own_some κ w (size ω q) low r q.anchor S.anchor S.own.shape e, none_known, omega arith)

  -- a word is read
  word_take : (κ : Kind) (r : Anchor) (t : Task) (j : ℕ) (x : Bool) → eqb j ω ≡ x → ω ≤ 4 → Shape κ w ω used low q m [] (TakeWord r t j) φ
      → let u : Task = with_word t j (word_of κ ω q m (q.published - 1) (take_index κ r) j) in
      Ends κ w ω used low q (goes (when x then TakeFinish r u else TakeWord r u (j + 1)))
  unfolding when◌then◌else◌
  word_take κ r t j x e wide S = go x e
    where
      u : Task
      u = with_word t j (word_of κ ω q m (q.published - 1) (take_index κ r) j)

      number : word_of κ ω q m (q.published - 1) (take_index κ r) 0 ≤ 65535
      number = number_now S.arrays _ (slot_in κ (size ω q) _ (size_pos (now S.arrays)) (take_slot κ w (size ω q) low (tail κ q.anchor) r S.own.shape.0 S.own.shape.1))

      more : Known (j + 1) u
      more = known_more j t _ (omega (arith, S.own.shape.3)) S.own.shape.2 (λ z. rw z number)

      go : (x : Bool) → eqb j ω ≡ x → Ends κ w ω used low q (goes (when x then TakeFinish r u else TakeWord r u (j + 1)))
      go true e = stay S (TakeFinish r u) refl refl (S.own.shape.0, S.own.shape.1, subst (λ (n : ℕ). Known (n + 1) u) (eqb-true j ω e) more)
      go false e = stay S (TakeWord r u (j + 1)) refl refl (S.own.shape.0, S.own.shape.1, more, omega (arith, S.own.shape.3, eqb-false j ω e))

  finish_take : (κ : Kind) (r : Anchor) (t : Task) (i : ℕ) → Shape κ w ω used low q m [] (TakeFinish r t) φ → Ends κ w ω used low q (line_step ρ κ w ω q m i (TakeFinish r t))
  unfolding line_step
  finish_take Lifo r t i S = (((S.own.shape.0.0, omega (arith, S.own.shape.0.1), S.own.shape.0.2), tt), record { claims = S.own.claims; spent = tt; shape = tt })
  finish_take Fifo r t i S = (((omega (arith, S.own.shape.0.0), omega (arith, S.own.shape.0.1, S.own.shape.1)), tt), record { claims = S.own.claims; spent = S.own.spent; shape = tt })
  finish_take Deque r t i S = (((S.own.shape.0.0, omega (arith, S.own.shape.0.1), S.own.shape.0.2), tt), record { claims = S.own.claims; spent = tt; shape = tt })

  -- a line that is neither X1 nor of a steal
  pub own_ends : (κ : Kind) (o : Line) → ω ≤ 4 → Shape κ w ω used low q m [] o φ → (Reading o → Exact κ low q.anchor) → (x : Bool) → (line_step ρ κ w ω q m 0 o).claims ≡ x → x ≡ false
      → Ends κ w ω used low q (line_step ρ κ w ω q m 0 o)
  unfolding line_step
  own_ends κ Idle wide S X x ex f = stay S Idle refl refl tt
  own_ends κ (PutRead t) wide S X x ex f = read_put κ t S (X tt)
  own_ends κ (PutTail t h) wide S X x ex f = tail_put κ t h S
  own_ends κ (PutTest t r) wide S X x ex f = test_put κ t r (is_full κ (size ω q) r) refl S
  own_ends κ (PutWord t r j) wide S X x ex f = word_put κ t r j (eqb j ω) refl S
  own_ends κ (PutFinish t r) wide S X x ex f = finish_put κ t r 0 S
  own_ends κ (Claim t) wide S X x ex f = claim_full κ t S (fits ρ ω q) refl (ex ∙ f)
  own_ends κ (Note t) wide S X x ex f = note_x2 κ t S
  own_ends κ (Copy t h j k) wide S X x ex f = copy_x3 κ t h j k (eqb (k + 1) j) refl S
  own_ends κ (Publish t) wide S X x ex f = publish κ t S
  own_ends κ TakeRead wide S X x ex f = read_take κ S (X tt)
  own_ends κ (TakeTail h) wide S X x ex f = tail_take κ h S
  own_ends κ (TakeTest r) wide S X x ex f = test_take κ r (is_empty κ r) refl S
  own_ends κ (TakeWord r t j) wide S X x ex f = word_take κ r t j (eqb j ω) refl wide S
  own_ends κ (TakeFinish r t) wide S X x ex f = finish_take κ r t 0 S
  own_ends κ StealRead wide S X x ex f = absurd S.own.shape
  own_ends κ (StealTail h) wide S X x ex f = absurd S.own.shape
  own_ends κ (StealTest r) wide S X x ex f = absurd S.own.shape
  own_ends κ (StealNote r) wide S X x ex f = absurd S.own.shape
  own_ends κ (StealWord r k t j) wide S X x ex f = absurd S.own.shape
  own_ends κ (StealNext r t) wide S X x ex f = absurd S.own.shape
  own_ends κ (StealCompare r e t) wide S X x ex f = absurd S.own.shape
