-- Each line of the owner, done on what it reads: its stores fit behind those that wait, and it has read what it should.
use mathlib.Core.Path.{◌≡◌, refl, sym, ◌∙◌, ap, subst, subst₂}
use mathlib.Core.Bool.{Bool, true, false}
use mathlib.Core.Logic.{◌≢◌, ◌⊎◌, inl, inr}
use mathlib.Core.List.Memᴰ
use mathlib.Core.List.{List, [], ◌∷◌}
use Prim.Native.Nat.{ℕ, zero, suc, ◌+◌, ◌-◌, ◌*◌, ◌%◌, ◌^◌, ◌≤◌, ◌<◌}
use native.Mathlib.Omega.{arith}
use lib.Dec.{eqb}
use lib.ListN.{length, set}
use borrow.Author.Tests.{eqb-true, eqb-false}
use Rattle.model.specs.declared.Room.{Room}
use Rattle.model.specs.declared.Growth.{Growth}
use Rattle.model.specs.declared.Growth.TheVariants.{ForPut, ForCommit}
use Rattle.model.specs.declared.Kind.{Kind}
use Rattle.model.specs.declared.Kind.TheVariants.{Lifo, Fifo, Deque}
use Rattle.model.specs.declared.Line.{Line}
use Rattle.model.specs.declared.Line.TheVariants.{Idle, PutRead, PutTail, PutTest, PutWord, PutFinish, Claim, Note, Copy, Publish, TakeRead, TakeTail, TakeTest, TakeWord, TakeFinish, StealRead, StealTail, StealTest, StealNote, StealWord, StealNext, StealCompare}
use Rattle.model.specs.declared.Queue.{Queue}
use Rattle.model.specs.declared.Answer.TheVariants.{GoesOn, Full, Empty}
use Rattle.model.specs.declared.Task.{Task}
use Rattle.model.specs.declared.Anchor.{Anchor}
use Rattle.model.specs.declared.Store.{Store}
use Rattle.model.specs.declared.Store.TheVariants.{StoreWord}
use Rattle.model.specs.Tests.{when◌then◌else◌}
use Rattle.model.specs.Memory.{offset_at, size_at}
use Rattle.model.specs.Calls.{step}
use Rattle.theorems.proofs.Words.{off}
use Rattle.model.specs.Lines.{Effect, eff, goes, size, word_of, write_word, put_on, copy_words, fits, line_step, task_for}
use Rattle.model.specs.Figures.{slot, is_full, is_empty, put_store, anchor}
use Rattle.model.specs.Tasks.{no_task, word_in, with_word, gathered}
use Rattle.model.proofs.Tasks.{same_words, no_words, next_is}
use Rattle.model.proofs.Directory.{Size, size_pos, size_twice}
use Rattle.theorems.proofs.Events.{quiet, line_1, handed_out, waiting_put, event_of, History, Out, Told, Answered, Emptied, GoodEvent}
use Rattle.theorems.proofs.Words.{slots_apart, addr, addr_in, cell, put_word, put_same, put_twin, put_other, put_above, put_length, word_w}
use Rattle.theorems.proofs.Remainders.{slot_ne, le_or_lt}
use Rattle.theorems.proofs.Window.{View, word, task_at, later, begun_later}
use Rattle.theorems.proofs.Indices.{StandsFor, Start, taken_ix, put_ix, take_ix, start_ix, full_no, empty_yes, empty_no}
use Rattle.theorems.proofs.Owed.{view, Sorted, sight, tags, los, his, IsFifo, Claimed, Copied, Clear, Fits, Owed, owed_join, words_join}
use Rattle.theorems.proofs.Folds.{words, AllWords, words_keep, copy_words_lem}
use Rattle.theorems.proofs.ShapeLay.{same_places}
use Rattle.theorems.proofs.ShapeClaim.{words_length}
use Rattle.theorems.proofs.Invariant.{Written, Copying, OwnerOk, cut_now, emp_keep, growth_later, BegunFor}

-- what the owner knows of what it reads; g: the tag
pub record Facts (κ : Kind) (ω : ℕ) (Q : Queue) (μ : List ℕ) (lo hi g : ℕ) (h : History) : Type 0 where
  pub sized : Size (size ω Q)
  pub sorted : Sorted ω Q
  pub room : off Q + (ω + 1) * size ω Q ≤ length μ
  pub mid : lo ≤ hi
  pub fit : hi ≤ lo + size ω Q
  pub tagged : Q.anchor.tag ≡ g
  pub topped : IsFifo κ → hi ≡ Q.anchor.count
  pub whole : (i : ℕ) → lo ≤ i → i < hi → Told (task_at (view ω Q μ lo hi) i) h

-- a line that reads the anchor
abbrev pub Looks : Line → Type 0
Looks Idle = ⊥
Looks (PutRead t) = Unit {0}
Looks (PutTail t h) = ⊥
Looks (PutTest t r) = ⊥
Looks (PutWord t r j) = ⊥
Looks (PutFinish t r) = ⊥
Looks (Claim t) = ⊥
Looks (Note t) = Unit {0}
Looks (Copy t h n k) = ⊥
Looks (Publish t) = ⊥
Looks TakeRead = Unit {0}
Looks (TakeTail h) = ⊥
Looks (TakeTest r) = ⊥
Looks (TakeWord r t j) = ⊥
Looks (TakeFinish r t) = ⊥
Looks StealRead = ⊥
Looks (StealTail h) = ⊥
Looks (StealTest r) = ⊥
Looks (StealNote r) = ⊥
Looks (StealWord r k t j) = ⊥
Looks (StealNext r t) = ⊥
Looks (StealCompare r e t) = ⊥

-- what it has just read: the owner's window, and if that is empty, nothing is left
pub record Seen (κ : Kind) (Q : Queue) (lo hi : ℕ) (h : History) : Type 0 where
  pub exact : StandsFor κ Q.anchor lo hi
  pub empty : lo ≡ hi → (t : Task) → Told t h → Out t h

-- the stores of E join, and its line follows, with the history hr
abbrev pub Follows : Kind → ℕ → ℕ → Bool → Queue → List ℕ → ℕ → ℕ → ℕ → History → Effect → Type 0
Follows κ w ω δ Q μ lo hi g hr E =
    Owed κ w δ (view ω Q μ lo hi) g hr E.stores × OwnerOk κ (sight κ ω E.stores Q μ lo hi) (tags E.stores g) hr E.line

abbrev pub Next : Kind → ℕ → ℕ → Bool → ℕ → Queue → List ℕ → ℕ → ℕ → ℕ → History → Line → Effect → Type 0
Next κ w ω δ y Q μ lo hi g h o E =
    Follows κ w ω δ Q μ lo hi g (event_of ω δ y (step 0) o E.answer ∷ h) E × GoodEvent δ (event_of ω δ y (step 0) o E.answer) h

-- a word that a put writes at the top of the owner's window
put_store_lem : (κ : Kind) (w ω : ℕ) (δ : Bool) (Q : Queue) (μ : List ℕ) (lo hi g : ℕ) (hr : History) (s j x : ℕ) (o' : Line) → s ≡ hi % size ω Q → j < ω + 1 → hi < lo + size ω Q → Sorted ω Q
    → OwnerOk κ (view ω Q (put_word ω μ (off Q) (size ω Q) hi j x) lo hi) g hr o' → Follows κ w ω δ Q μ lo hi g hr (eff (StoreWord (Q.published - 1) s j x ∷ []) o' GoesOn)
unfolding put_word
put_store_lem κ w ω δ Q μ lo hi g hr s j x o' e hj l S k =
    (((λ b z y p q. omega (arith, S y.0 y.1, y.2, ap (λ (x : ℕ). (ω + 1) * x) y.3), apart), tt), subst (λ (b : ℕ). OwnerOk κ (view ω Q (set μ (off Q + (ω + 1) * b + j) x) lo hi) g hr o') (sym e) k)
  where
    apart : (i j' : ℕ) → lo ≤ i → i < hi → j' < ω + 1 → addr ω (off Q) (size ω Q) i j' ≢ off Q + (ω + 1) * s + j
    apart i j' p q r =
        subst (λ (b : ℕ). addr ω (off Q) (size ω Q) i j' ≢ off Q + (ω + 1) * b + j) (sym e)
        (omega (arith, slots_apart (ω + 1) (i % size ω Q) (hi % size ω Q) j' j (slot_ne i hi (size ω Q) q (omega arith)) r hj))

-- after word j, the next one or the last line
put_on_lem : (κ : Kind) (ω : ℕ) (Q : Queue) (μ : List ℕ) (lo hi g : ℕ) (h : History) (t : Task) (r : Anchor) (j : ℕ) (x : Bool) → eqb j ω ≡ x → Facts κ ω Q μ lo hi g h → OwnerOk κ (view ω Q μ lo hi) g h (PutWord t r j)
    → OwnerOk κ (view ω Q (put_word ω μ (off Q) (size ω Q) hi j (word_in t j)) lo hi) g (quiet ∷ h) (when x then PutFinish t r else PutWord t r (j + 1))
unfolding when◌then◌else◌
put_on_lem κ ω Q μ lo hi g h t r j x e F I = go x e
  where
    v' : View
    v' = view ω Q (put_word ω μ (off Q) (size ω Q) hi j (word_in t j)) lo hi

    written : Written v' (j + 1) t
    written k l = pick (le_or_lt j k)
      where
        pick : (j ≤ k) ⊎ (k < j) → word v' hi k ≡ word_in t k
        pick (inr b) = put_twin ω μ (off Q) (size ω Q) hi j k _ (omega arith) ∙ I.1.4 k b
        pick (inl b) = rw is (put_same ω μ (off Q) (size ω Q) hi j _ (size_pos F.sized) (omega (arith, I.1.3)) F.room)
          where
            is : k ≡ j
            is = omega arith

    go : (x : Bool) → eqb j ω ≡ x → OwnerOk κ v' g (quiet ∷ h) (when x then PutFinish t r else PutWord t r (j + 1))
    go true e = (
      begun_later quiet tt I.0,
      (
        I.1.0,
        I.1.1,
        I.1.2,
        same_words (ω + 1) _ _ (λ k l. written k (omega (arith, eqb-true j ω e))) ∙ I.0.cut,
      ),
    )
    go false e = (
      begun_later quiet tt I.0,
      (I.1.0, I.1.1, I.1.2, omega (arith, I.1.3, eqb-false j ω e), written),
    )

-- X2: the indices from lo up are noted, q of them
noted_x2 : (κ : Kind) (v : View) (g : ℕ) (h : History) (t : Growth) (a q lo : ℕ) (x : Bool) → eqb q 0 ≡ x → BegunFor v.words t h
    → Claimed v → Start κ a lo → lo ≤ v.own_lo → v.own_hi ≤ lo + q → q ≤ v.slots → OwnerOk κ v g h (when x then Publish t else Copy t a q 0)
unfolding when◌then◌else◌
noted_x2 κ v g h t a q lo true e B C S l u f = (B, C, λ i j b c d. absurd (omega (arith, eqb-true q 0 e)))
noted_x2 κ v g h t a q lo false e B C S l u f =
    (B, C, record { from = lo; start = S; low = l; high = u; few = f; more = omega (arith, eqb-false q 0 e); copied = λ i j b c d. absurd (omega arith) })

-- where the claimed array lies
abbrev nb : Queue → ℕ
nb Q = offset_at Q.arrays Q.published

-- X3: n words of a task are copied, into the array behind
copy_to : ℕ → Queue → List ℕ → ℕ → ℕ → List ℕ
copy_to ω Q μ k zero = μ
copy_to ω Q μ k (suc n) = put_word ω (copy_to ω Q μ k n) (nb Q) (2 * size ω Q) k n (cell ω μ (off Q) (size ω Q) k n)

copy_same : (ω : ℕ) (Q : Queue) (μ : List ℕ) (k n i j : ℕ) → 0 < size ω Q → off Q + (ω + 1) * size ω Q ≤ nb Q → j < ω + 1 → cell ω (copy_to ω Q μ k n) (off Q) (size ω Q) i j ≡ cell ω μ (off Q) (size ω Q) i j
unfolding copy_to
copy_same ω Q μ k zero i j hz hb hj = refl
copy_same ω Q μ k (suc n) i j hz hb hj = put_above ω _ (off Q) (size ω Q) i j _ _ k n _ hz hj hb ∙ copy_same ω Q μ k n i j hz hb hj

copy_length : (ω : ℕ) (Q : Queue) (μ : List ℕ) (k n : ℕ) → length (copy_to ω Q μ k n) ≡ length μ
unfolding copy_to
copy_length ω Q μ k zero = refl
copy_length ω Q μ k (suc n) = put_length ω _ _ _ _ _ _ ∙ copy_length ω Q μ k n

copy_here : (ω : ℕ) (Q : Queue) (μ : List ℕ) (k n j : ℕ) → 0 < size ω Q → n ≤ ω + 1 → j < n → nb Q + 2 * ((ω + 1) * size ω Q) ≤ length μ
    → cell ω (copy_to ω Q μ k n) (nb Q) (2 * size ω Q) k j ≡ cell ω μ (off Q) (size ω Q) k j
unfolding copy_to
copy_here ω Q μ k zero j hz hn hj l = absurd (omega arith)
copy_here ω Q μ k (suc n) j hz hn hj l = go (le_or_lt n j) (λ h. copy_here ω Q μ k n j hz (omega arith) h l)
  where
    go : (n ≤ j) ⊎ (j < n) → (j < n → cell ω (copy_to ω Q μ k n) (nb Q) (2 * size ω Q) k j ≡ cell ω μ (off Q) (size ω Q) k j)
        → cell ω (copy_to ω Q μ k (suc n)) (nb Q) (2 * size ω Q) k j ≡ cell ω μ (off Q) (size ω Q) k j
    go (inr h) f = put_twin ω _ _ _ k n j _ (omega arith) ∙ f h
    go (inl h) f = rw is (put_same ω _ _ (2 * size ω Q) k n _ (omega arith) (omega arith) (omega (arith, copy_length ω Q μ k n)))
      where
        is : j ≡ n
        is = omega arith

-- another slot
copy_other : (ω : ℕ) (Q : Queue) (μ : List ℕ) (k n i j : ℕ) → i % (2 * size ω Q) ≢ k % (2 * size ω Q) → n ≤ ω + 1 → j < ω + 1
    → cell ω (copy_to ω Q μ k n) (nb Q) (2 * size ω Q) i j ≡ cell ω μ (nb Q) (2 * size ω Q) i j
unfolding copy_to
copy_other ω Q μ k zero i j ne hn hj = refl
copy_other ω Q μ k (suc n) i j ne hn hj = put_other ω _ _ (2 * size ω Q) i j k n _ ne hj (omega arith) ∙ copy_other ω Q μ k n i j ne (omega arith) hj

-- the slots stand for the index
copy_is : (κ : Kind) (ω : ℕ) (Q : Queue) (μ : List ℕ) (i k n : ℕ) → size_at ω Q.arrays Q.published ≡ 2 * size ω Q → slot κ (size ω Q) i ≡ k % size ω Q → slot κ (2 * size ω Q) i ≡ k % (2 * size ω Q)
    → words ω Q.arrays (copy_words κ ω Q μ i n) μ ≡ copy_to ω Q μ k n
unfolding copy_to put_word
copy_is κ ω Q μ i k zero ez e e' = refl
copy_is κ ω Q μ i k (suc n) ez e e' =
    words_join ω Q.arrays (copy_words κ ω Q μ i n) _ μ ∙ rw (ez, copy_is κ ω Q μ i k n ez e e', word_w ω μ (off Q) (size ω Q) _ k n e, e')

-- the indices from lo up to hi, then one more
copy_more : (ω : ℕ) (Q : Queue) (μ : List ℕ) (own_lo own_hi lo hi : ℕ) → 0 < size ω Q → Claimed (view ω Q μ own_lo own_hi) → hi < lo + size ω Q → Copied (view ω Q μ own_lo own_hi) lo hi
    → Copied (view ω Q (copy_to ω Q μ hi (ω + 1)) own_lo own_hi) lo (suc hi)
copy_more ω Q μ own_lo own_hi lo hi hz R hk C i j p q hj = go (le_or_lt hi i) ∙ sym (copy_same ω Q μ hi (ω + 1) i j hz R.2 hj)
  where
    go : (hi ≤ i) ⊎ (i < hi) → cell ω (copy_to ω Q μ hi (ω + 1)) (nb Q) (2 * size ω Q) i j ≡ cell ω μ (off Q) (size ω Q) i j
    go (inr a) = copy_other ω Q μ hi (ω + 1) i j (slot_ne i hi (2 * size ω Q) a (omega arith)) (omega arith) hj ∙ C i j p a hj
    go (inl a) = rw same (copy_here ω Q μ hi (ω + 1) j hz (omega arith) hj R.0)
      where
        same : i ≡ hi
        same = omega arith

-- one task more is copied, from index f + k, and the current array keeps its words
pub record CopiedOne (κ : Kind) (ω : ℕ) (Q : Queue) (μ : List ℕ) (lo hi a k f : ℕ) : Type 0 where
  pub copied : Copied (view ω Q (words ω Q.arrays (copy_words κ ω Q μ (a + k) (ω + 1)) μ) lo hi) f (suc (f + k))
  pub same :
      (i j : ℕ) → j < ω + 1
      → cell ω (words ω Q.arrays (copy_words κ ω Q μ (a + k) (ω + 1)) μ) (off Q) (size ω Q) i j ≡ cell ω μ (off Q) (size ω Q) i j

pub copy_step : (κ : Kind) (ω : ℕ) (Q : Queue) (μ : List ℕ) (lo hi a q k : ℕ) → Size (size ω Q) → (R : Claimed (view ω Q μ lo hi)) → (C : Copying κ (view ω Q μ lo hi) a q k) → CopiedOne κ ω Q μ lo hi a k C.from
copy_step κ ω Q μ lo hi a q k Z R C =
    record {
      copied = subst (λ (m : List ℕ). Copied (view ω Q m lo hi) C.from (suc (C.from + k))) (sym at_k) (copy_more ω Q μ lo hi C.from (C.from + k) (size_pos Z) R (omega (arith, C.few, C.more)) C.copied);
      same = λ i j h. ap (λ (m : List ℕ). cell ω m (off Q) (size ω Q) i j) at_k ∙ copy_same ω Q μ (C.from + k) (ω + 1) i j (size_pos Z) R.2 h;
    }
  where
    at_k : words ω Q.arrays (copy_words κ ω Q μ (a + k) (ω + 1)) μ ≡ copy_to ω Q μ (C.from + k) (ω + 1)
    at_k =
        copy_is κ ω Q μ (a + k) (C.from + k) (ω + 1) R.3 (start_ix Z κ a C.from k (omega (arith, C.few, C.more)) C.start)
        (start_ix (size_twice Z R.1) κ a C.from k (omega (arith, C.few, C.more)) C.start)

-- words change nothing of what the owner reads but the store
sight_words : (κ : Kind) (ω : ℕ) (ss : List Store) (Q : Queue) (μ : List ℕ) (lo hi : ℕ) → AllWords ss → sight κ ω ss Q μ lo hi ≡ view ω Q (words ω Q.arrays ss μ) lo hi
sight_words κ ω ss Q μ lo hi a =
    rw (same_places ss Q.published a, words_keep (λ (l : List Store). los l lo) (λ b s j x l. refl) ss a, words_keep (λ (l : List Store). his κ l lo hi) (λ b s j x l. refl) ss a)

same_tags : (ss : List Store) (g : ℕ) → AllWords ss → tags ss g ≡ g
same_tags ss g a = words_keep (λ (l : List Store). tags l g) (λ b s j x l. refl) ss a

module _ (w ω : ℕ) (δ : Bool) (y : ℕ) (Q : Queue) (μ : List ℕ) (lo hi g : ℕ) (h : History) where
  v : View
  v = view ω Q μ lo hi

  put_read_lem : (ρ : Room) (κ : Kind) (t : Task) → Facts κ ω Q μ lo hi g h → Seen κ Q lo hi h → OwnerOk κ (view ω Q μ lo hi) g h (PutRead t) → Next κ w ω δ y Q μ lo hi g h (PutRead t) (line_step ρ κ w ω Q μ 0 (PutRead t))
  unfolding line_step
  put_read_lem ρ Lifo t F X k = ((tt, (begun_later quiet tt k, (X.exact, F.tagged))), tt)
  put_read_lem ρ Fifo t F X k = ((tt, (begun_later quiet tt k, (tt, X.exact.0))), tt)
  put_read_lem ρ Deque t F X k = ((tt, (begun_later quiet tt k, (X.exact, F.tagged))), tt)

  put_tail : (κ : Kind) (t : Task) (a : ℕ) → Facts κ ω Q μ lo hi g h → OwnerOk κ (view ω Q μ lo hi) g h (PutTail t a)
      → Next κ w ω δ y Q μ lo hi g h (PutTail t a) (goes (PutTest t (anchor a Q.anchor.count Q.anchor.tag)))
  put_tail Lifo t a F k = absurd k.1.0
  put_tail Fifo t a F k = ((tt, (begun_later quiet tt k.0, ((k.1.1, F.topped tt), F.tagged))), tt)
  put_tail Deque t a F k = absurd k.1.0

  put_test : (κ : Kind) (t : Task) (r : Anchor) (x : Bool) → is_full κ (size ω Q) r ≡ x → Facts κ ω Q μ lo hi g h → OwnerOk κ (view ω Q μ lo hi) g h (PutTest t r)
      → Next κ w ω δ y Q μ lo hi g h (PutTest t r) (goes (when x then Claim (ForPut t) else PutWord t r 0))
  unfolding when◌then◌else◌
  put_test κ t r true e F k = ((tt, begun_later quiet tt k.0), tt)
  put_test κ t r false e F k = ((tt, (begun_later quiet tt k.0, (k.1.0, k.1.1, full_no κ (size ω Q) r lo hi k.1.0 F.fit e, omega arith, λ j l. absurd (omega arith)))), tt)

  -- put: the last line
  pub put_fits : (κ : Kind) (t : Task) (r : Anchor) (hr : History) → OwnerOk κ (view ω Q μ lo hi) g h (PutFinish t r) → Answered δ (task_at (view ω Q μ lo hi) hi) hr
      → Fits κ w δ (view ω Q μ lo hi) g hr (put_store κ w r)
  put_fits Lifo t r hr k A = (tt, (k.1.0.0, k.1.0.1, omega (arith, k.1.0.2)), ap (λ (x : ℕ). (x + 1) % 2 ^ w) k.1.1, (k.1.2, A))
  put_fits Fifo t r hr k A = (tt, omega (arith, k.1.0.1), (k.1.2, A))
  put_fits Deque t r hr k A = (tt, (k.1.0.0, omega (arith, k.1.0.1)), ap (λ (x : ℕ). (x + 1) % 2 ^ w) k.1.1, (k.1.2, A))

  -- X2
  note_x2 : (ρ : Room) (κ : Kind) (t : Growth) → Facts κ ω Q μ lo hi g h → Seen κ Q lo hi h → OwnerOk κ (view ω Q μ lo hi) g h (Note t) → Next κ w ω δ y Q μ lo hi g h (Note t) (line_step ρ κ w ω Q μ 0 (Note t))
  unfolding line_step
  note_x2 ρ Lifo t F X k =
      ((tt, noted_x2 Lifo (view ω Q μ lo hi) g (quiet ∷ h) t 0 (size ω Q) 0 (eqb (size ω Q) 0) refl (growth_later ω h quiet tt t k.0) k.1 (refl, refl) (omega arith) (omega (arith, F.fit, X.exact.1)) (omega arith)), tt)
  note_x2 ρ Fifo t F X k = (
    (
      tt,
      noted_x2 Fifo (view ω Q μ lo hi) g (quiet ∷ h) t Q.anchor.head (Q.anchor.count - Q.anchor.head) lo (eqb (Q.anchor.count - Q.anchor.head) 0) refl (growth_later ω h quiet tt t k.0) k.1 (sym X.exact.0) (omega arith)
          (omega (arith, X.exact.0, X.exact.1, F.mid)) (omega (arith, X.exact.0, X.exact.1, F.fit, F.mid)),
    ),
    tt,
  )
  note_x2 ρ Deque t F X k = (
    (
      tt,
      noted_x2 Deque (view ω Q μ lo hi) g (quiet ∷ h) t Q.anchor.head Q.anchor.count lo (eqb Q.anchor.count 0) refl (growth_later ω h quiet tt t k.0) k.1 X.exact.0 (omega arith)
          (omega (arith, X.exact.1)) (omega (arith, X.exact.1, F.fit)),
    ),
    tt,
  )

  -- X3
  copy_x3 : (κ : Kind) (t : Growth) (a q k : ℕ) (x : Bool) → eqb (k + 1) q ≡ x → Facts κ ω Q μ lo hi g h → OwnerOk κ (view ω Q μ lo hi) g h (Copy t a q k)
      → Next κ w ω δ y Q μ lo hi g h (Copy t a q k) (eff (copy_words κ ω Q μ (a + k) (ω + 1)) (when x then Publish t else Copy t a q (k + 1)) GoesOn)
  unfolding when◌then◌else◌
  copy_x3 κ t a q k x e F (Bg, R, C) =
      ((owes (ω + 1) (omega arith), subst₂ (λ (u : View) (x' : ℕ). OwnerOk κ u x' (quiet ∷ h) (when x then Publish t else Copy t a q (k + 1))) (sym seen) (sym (same_tags (copy_words κ ω Q μ (a + k) (ω + 1)) g (some (ω + 1)))) (go x e)), tt)
    where
      f : ℕ
      f = C.from

      hz : 0 < size ω Q
      hz = size_pos F.sized

      some : (n : ℕ) → AllWords (copy_words κ ω Q μ (a + k) n)
      some = copy_words_lem κ ω Q μ (a + k)

      X : CopiedOne κ ω Q μ lo hi a k f
      X = copy_step κ ω Q μ lo hi a q k F.sized R C

      v' : View
      v' = view ω Q (words ω Q.arrays (copy_words κ ω Q μ (a + k) (ω + 1)) μ) lo hi

      seen : sight κ ω (copy_words κ ω Q μ (a + k) (ω + 1)) Q μ lo hi ≡ v'
      seen = sight_words κ ω (copy_words κ ω Q μ (a + k) (ω + 1)) Q μ lo hi (some (ω + 1))

      above : (s n : ℕ) → n < ω + 1 → Clear (view ω Q μ lo hi) (offset_at Q.arrays Q.published + (ω + 1) * s + n)
      above s n l = (λ b z y p q. omega (arith, R.2, F.sorted y.0 y.1, y.2, ap (λ (x : ℕ). (ω + 1) * x) y.3), λ i j p q r. omega (arith, R.2, addr_in ω (off Q) (size ω Q) i j hz r))

      owes : (n : ℕ) → n ≤ ω + 1 → Owed κ w δ (view ω Q μ lo hi) g (quiet ∷ h) (copy_words κ ω Q μ (a + k) n)
      owes zero l = tt
      owes (suc n) l =
          owed_join κ w ω δ Q μ lo hi g (quiet ∷ h) (copy_words κ ω Q μ (a + k) n) _ (owes n (omega arith))
          (subst (λ (u : View). Owed κ w δ u (tags (copy_words κ ω Q μ (a + k) n) g) (quiet ∷ h) (write_word κ ω Q Q.published (a + k) n (word_of κ ω Q μ (Q.published - 1) (a + k) n) ∷ []))
          (sym (sight_words κ ω (copy_words κ ω Q μ (a + k) n) Q μ lo hi (some n))) (above _ n (omega arith), tt))

      D : Copied v' f (suc (f + k))
      D = X.copied

      room : Claimed v'
      room = (omega (arith, words_length ω Q.arrays (copy_words κ ω Q μ (a + k) (ω + 1)) μ, R.0), R.1, R.2, R.3, R.4)

      go : (x : Bool) → eqb (k + 1) q ≡ x → OwnerOk κ v' g (quiet ∷ h) (when x then Publish t else Copy t a q (k + 1))
      go true e = (growth_later ω h quiet tt t Bg, room, λ i j b c hj. D i j (omega (arith, C.low)) (omega (arith, C.high, eqb-true (k + 1) q e)) hj)
      go false e = (
        growth_later ω h quiet tt t Bg,
        room,
        record {
          from = f;
          start = C.start;
          low = C.low;
          high = C.high;
          few = C.few;
          more = omega (arith, C.more, eqb-false (k + 1) q e);
          copied = λ i j b c hj. D i j b (omega arith) hj;
        },
      )

  -- take
  emptied : (lo ≡ hi → (t : Task) → Told t h → Out t h) → lo ≡ hi → Emptied 0 (line_1 0 ∷ h)
  emptied X e t d = later (line_1 0) (X e t (subst (Told t) (cut_now 0 h) d))

  take_read_lem : (ρ : Room) (κ : Kind) → Facts κ ω Q μ lo hi g h → Seen κ Q lo hi h → Next κ w ω δ y Q μ lo hi g h TakeRead (line_step ρ κ w ω Q μ 0 TakeRead)
  unfolding line_step
  take_read_lem ρ Lifo F X = ((tt, (X.exact, F.tagged, emptied X.empty, Memᴰ.head refl)), tt)
  take_read_lem ρ Fifo F X = ((tt, (tt, X.exact.0, emptied X.empty, Memᴰ.head refl)), tt)
  take_read_lem ρ Deque F X = ((tt, (X.exact, F.tagged, emptied X.empty, Memᴰ.head refl)), tt)

  take_tail : (κ : Kind) (a : ℕ) → Facts κ ω Q μ lo hi g h → OwnerOk κ (view ω Q μ lo hi) g h (TakeTail a) → Next κ w ω δ y Q μ lo hi g h (TakeTail a) (goes (TakeTest (anchor a Q.anchor.count Q.anchor.tag)))
  take_tail Lifo a F k = absurd k.0
  take_tail Fifo a F k = ((tt, ((k.1, F.topped tt), F.tagged, (λ e. emp_keep 0 h quiet tt (k.2 e)), Memᴰ.tail k.3)), tt)
  take_tail Deque a F k = absurd k.0

  take_test : (κ : Kind) (r : Anchor) (x : Bool) → is_empty κ r ≡ x → Facts κ ω Q μ lo hi g h → OwnerOk κ (view ω Q μ lo hi) g h (TakeTest r)
      → Next κ w ω δ y Q μ lo hi g h (TakeTest r) (when x then eff [] Idle (Empty 0) else goes (TakeWord r no_task 0))
  unfolding when◌then◌else◌
  take_test κ r true e F k = ((tt, tt), (k.3, k.2 (empty_yes κ r lo hi k.0 e)))
  take_test κ r false e F k = ((tt, (k.0, k.1, empty_no κ r lo hi k.0 F.mid e, omega arith, no_words _)), tt)

  take_finish : (ρ : Room) (κ : Kind) (r : Anchor) (t : Task) → Facts κ ω Q μ lo hi g h → OwnerOk κ (view ω Q μ lo hi) g h (TakeFinish r t) → Next κ w ω δ y Q μ lo hi g h (TakeFinish r t) (line_step ρ κ w ω Q μ 0 (TakeFinish r t))
  unfolding line_step
  take_finish ρ Lifo r t F k =
      ((((tt, (k.0.0, k.0.1, omega (arith, k.0.2)), k.1, k.2, (0, Memᴰ.head {x = handed_out 0 t} (rw k.3))), tt), tt), rw k.3 (F.whole (hi - 1) (omega (arith, k.2)) (omega (arith, k.2))))
  take_finish ρ Fifo r t F k =
      ((((tt, omega (arith, k.0.0), k.2, (0, Memᴰ.head {x = handed_out 0 t} (rw k.3))), tt), tt), rw k.3 (F.whole lo (omega arith) k.2))
  take_finish ρ Deque r t F k =
      ((((tt, (k.0.0, omega (arith, k.0.1, k.2)), k.1, k.2, (0, Memᴰ.head {x = handed_out 0 t} (rw k.3))), tt), tt), rw k.3 (F.whole (hi - 1) (omega (arith, k.2)) (omega (arith, k.2))))

-- take: word j is read
take_on_lem : (κ : Kind) (ω : ℕ) (v : View) (g : ℕ) (h : History) (r : Anchor) (t : Task) (x j : ℕ) (b : Bool) → eqb j ω ≡ b → ω ≤ 4 → v.words ≡ ω → OwnerOk κ v g h (TakeWord r t j)
    → x ≡ word v (taken_ix κ v.own_lo v.own_hi) j → OwnerOk κ v g (quiet ∷ h) (when b then TakeFinish r (with_word t j x) else TakeWord r (with_word t j x) (j + 1))
unfolding when◌then◌else◌
take_on_lem κ ω v g h r t x j true e wide q (R, G, l, u, T) is =
    (R, G, l, next_is j t x _ T is (omega arith) ∙ ap (λ (n : ℕ). gathered (n + 1) (word v (taken_ix κ v.own_lo v.own_hi))) (eqb-true j ω e ∙ sym q))
take_on_lem κ ω v g h r t x j false e wide q (R, G, l, u, T) is = (R, G, l, omega (arith, eqb-false j ω e), next_is j t x _ T is (omega arith))

-- X1 that answers FULL
claim_full : (κ : Kind) (w ω : ℕ) (δ : Bool) (y : ℕ) (Q : Queue) (μ : List ℕ) (lo hi g : ℕ) (h : History) (t : Growth) (x : Bool)
    → (when x then record { claims = true; stores = []; line = Note t; answer = GoesOn } else eff [] Idle (Full 0 (task_for t))).claims ≡ false
    → Next κ w ω δ y Q μ lo hi g h (Claim t) (when x then record { claims = true; stores = []; line = Note t; answer = GoesOn } else eff [] Idle (Full 0 (task_for t)))
unfolding when◌then◌else◌
claim_full κ w ω δ y Q μ lo hi g h t true f = absurd (let z : ◌≡◌ {A = ℕ} 0 1 = cc in omega arith)
claim_full κ w ω δ y Q μ lo hi g h t false f = ((tt, tt), tt)

finish_later : (ρ : Room) (κ : Kind) (w ω : ℕ) (δ : Bool) (y : ℕ) (Q : Queue) (μ : List ℕ) (lo hi g : ℕ) (h : History) (t : Task) (r : Anchor) → δ ≡ true → OwnerOk κ (view ω Q μ lo hi) g h (PutFinish t r)
    → Next κ w ω δ y Q μ lo hi g h (PutFinish t r) (line_step ρ κ w ω Q μ 0 (PutFinish t r))
unfolding line_step
finish_later ρ κ w ω true y Q μ lo hi g h t r e k =
    (((put_fits w ω true y Q μ lo hi g h κ t r (waiting_put t (y + 1) ∷ h) k (y + 1, Memᴰ.head {x = waiting_put t (y + 1)} (rw k.1.3)), tt), tt), k.0.begun)
finish_later ρ κ w ω false y Q μ lo hi g h t r e k = absurd (let z : ◌≡◌ {A = ℕ} 0 1 = cc in omega arith)

pub own_next : (ρ : Room) (κ : Kind) (w ω : ℕ) (δ : Bool) (y : ℕ) (Q : Queue) (μ : List ℕ) (lo hi g : ℕ) (h : History) (o : Line) → ω ≤ 4 → Facts κ ω Q μ lo hi g h → (Looks o → Seen κ Q lo hi h) → OwnerOk κ (view ω Q μ lo hi) g h o
    → (line_step ρ κ w ω Q μ 0 o).claims ≡ false → ((t : Task) (r : Anchor) → o ≡ PutFinish t r → δ ≡ true) → Next κ w ω δ y Q μ lo hi g h o (line_step ρ κ w ω Q μ 0 o)
unfolding line_step
own_next ρ κ w ω δ y Q μ lo hi g h Idle wide F X k f d = ((tt, tt), tt)
own_next ρ κ w ω δ y Q μ lo hi g h (PutRead t) wide F X k f d = put_read_lem w ω δ y Q μ lo hi g h ρ κ t F (X tt) k
own_next ρ κ w ω δ y Q μ lo hi g h (PutTail t a) wide F X k f d = put_tail w ω δ y Q μ lo hi g h κ t a F k
own_next ρ κ w ω δ y Q μ lo hi g h (PutTest t r) wide F X k f d = put_test w ω δ y Q μ lo hi g h κ t r (is_full κ (size ω Q) r) refl F k
own_next ρ κ w ω δ y Q μ lo hi g h (PutWord t r j) wide F X k f d =
    (put_store_lem κ w ω δ Q μ lo hi g (quiet ∷ h) _ j (word_in t j) (put_on ω t r j) (put_ix F.sized κ r lo hi k.1.2 k.1.0) (omega (arith, k.1.3)) k.1.2 F.sorted (put_on_lem κ ω Q μ lo hi g h t r j (eqb j ω) refl F k), tt)
own_next ρ κ w ω δ y Q μ lo hi g h (PutFinish t r) wide F X k f d = finish_later ρ κ w ω δ y Q μ lo hi g h t r (d t r refl) k
own_next ρ κ w ω δ y Q μ lo hi g h (Claim t) wide F X k f d = claim_full κ w ω δ y Q μ lo hi g h t (fits ρ ω Q) f
own_next ρ κ w ω δ y Q μ lo hi g h (Note t) wide F X k f d = note_x2 w ω δ y Q μ lo hi g h ρ κ t F (X tt) k
own_next ρ κ w ω δ y Q μ lo hi g h (Copy t a q i) wide F X k f d = copy_x3 w ω δ y Q μ lo hi g h κ t a q i (eqb (i + 1) q) refl F k
own_next ρ κ w ω δ y Q μ lo hi g h (Publish (ForPut t)) wide F X k f d = ((((refl, k.1, k.2), tt), begun_later quiet tt k.0), tt)
own_next ρ κ w ω δ y Q μ lo hi g h (Publish ForCommit) wide F X k f d = ((((refl, k.1, k.2), tt), tt), tt)
own_next ρ κ w ω δ y Q μ lo hi g h TakeRead wide F X k f d = take_read_lem w ω δ y Q μ lo hi g h ρ κ F (X tt)
own_next ρ κ w ω δ y Q μ lo hi g h (TakeTail a) wide F X k f d = take_tail w ω δ y Q μ lo hi g h κ a F k
own_next ρ κ w ω δ y Q μ lo hi g h (TakeTest r) wide F X k f d = take_test w ω δ y Q μ lo hi g h κ r (is_empty κ r) refl F k
own_next ρ κ w ω δ y Q μ lo hi g h (TakeWord r t j) wide F X k f d =
    ((tt, take_on_lem κ ω (view ω Q μ lo hi) g h r t _ j (eqb j ω) refl wide refl k (word_w ω μ (off Q) (size ω Q) _ _ j (take_ix F.sized κ r lo hi k.2 F.fit k.0))), tt)
own_next ρ κ w ω δ y Q μ lo hi g h (TakeFinish r t) wide F X k f d = take_finish w ω δ y Q μ lo hi g h ρ κ r t F k
own_next ρ κ w ω δ y Q μ lo hi g h StealRead wide F X k f d = absurd k
own_next ρ κ w ω δ y Q μ lo hi g h (StealTail a) wide F X k f d = absurd k
own_next ρ κ w ω δ y Q μ lo hi g h (StealTest r) wide F X k f d = absurd k
own_next ρ κ w ω δ y Q μ lo hi g h (StealNote r) wide F X k f d = absurd k
own_next ρ κ w ω δ y Q μ lo hi g h (StealWord r b t j) wide F X k f d = absurd k
own_next ρ κ w ω δ y Q μ lo hi g h (StealNext r t) wide F X k f d = absurd k
own_next ρ κ w ω δ y Q μ lo hi g h (StealCompare r e t) wide F X k f d = absurd k
