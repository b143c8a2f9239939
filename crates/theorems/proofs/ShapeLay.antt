-- Waiting stores put down one by one keep the shape; stores that join.
use mathlib.Core.Path.{◌≡◌, refl}
use mathlib.Core.List.{List, [], ◌∷◌, ◌++◌}
use Prim.Native.Nat.{ℕ, ◌+◌, ◌-◌, ◌*◌, ◌≤◌}
use native.Mathlib.Omega.{arith}
use lib.ListN.{length-set}
use Rattle.model.specs.declared.Kind.{Kind}
use Rattle.model.specs.declared.Kind.TheVariants.{Lifo, Fifo, Deque}
use Rattle.model.specs.declared.Line.{Line}
use Rattle.model.specs.declared.Queue.{Queue}
use Rattle.model.specs.declared.Region.{Region}
use Rattle.model.specs.declared.Anchor.{Anchor}
use Rattle.model.specs.declared.Store.{Store}
use Rattle.model.specs.declared.Store.TheVariants.{StoreWord, StoreNote, StorePut, StoreOut, StoreHead, StoreTail}
use Rattle.theorems.proofs.Folds.{AllWords, words_keep, places_of, places, anchor_after, laid, words_of, words}
use Rattle.model.specs.Memory.{set_word, size_at}
use Rattle.model.specs.Lines.{size}
use Rattle.model.specs.Figures.{anchor}
use Rattle.theorems.proofs.Directory.{Arrays, Numbers, numbers_word, arrays_anchor, arrays_store, arrays_note}
use Rattle.theorems.proofs.Shape.{tail, Bounded, tail_of, low_of, tails, lows, Path, OwnEnd, Shape, Larger, thief_keep}

-- JOINING
pub path_join : (κ : Kind) (w ω : ℕ) (l : List Region) (c low p τ : ℕ) (ss rr : List Store) → Path κ w ω l c low p τ ss
    → Path κ w ω l c (lows ss low) (places ss p) (tails ss τ) rr → Path κ w ω l c low p τ (ss ++ rr)
path_join κ w ω l c low p τ [] rr P R = R
path_join κ w ω l c low p τ (s ∷ ss) rr (f, P) R = (f, path_join κ w ω l c (low_of s low) (places_of s p) (tail_of s τ) ss rr P R)

pub lows_join : (ss rr : List Store) (x : ℕ) → lows (ss ++ rr) x ≡ lows rr (lows ss x)
lows_join [] rr x = refl
lows_join (s ∷ ss) rr x = lows_join ss rr (low_of s x)

pub places_join : (ss rr : List Store) (x : ℕ) → places (ss ++ rr) x ≡ places rr (places ss x)
places_join [] rr x = refl
places_join (s ∷ ss) rr x = places_join ss rr (places_of s x)

pub tails_join : (ss rr : List Store) (x : ℕ) → tails (ss ++ rr) x ≡ tails rr (tails ss x)
tails_join [] rr x = refl
tails_join (s ∷ ss) rr x = tails_join ss rr (tail_of s x)

-- words change none of these
pub same_lows : (ss : List Store) (x : ℕ) → AllWords ss → lows ss x ≡ x
same_lows ss x a = words_keep (λ (l : List Store). lows l x) (λ b s j y l. refl) ss a

pub same_places : (ss : List Store) (x : ℕ) → AllWords ss → places ss x ≡ x
same_places ss x a = words_keep (λ (l : List Store). places l x) (λ b s j y l. refl) ss a

pub same_tails : (ss : List Store) (x : ℕ) → AllWords ss → tails ss x ≡ x
same_tails ss x a = words_keep (λ (l : List Store). tails l x) (λ b s j y l. refl) ss a

pub shape_join : {κ : Kind} {w ω used low : ℕ} {q : Queue} {m : List ℕ} {ss : List Store} {o : Line} {φ : ℕ → Line} → Shape κ w ω used low q m ss o φ
    → (rr : List Store) (o' : Line)
    → Path κ w ω q.arrays q.claimed (lows ss low) (places ss q.published) (tails ss (tail κ q.anchor)) rr
    → OwnEnd κ w ω used q.arrays q.claimed (lows rr (lows ss low)) (places rr (places ss q.published)) (tails rr (tails ss (tail κ q.anchor))) o'
    → Shape κ w ω used low q m (ss ++ rr) o' φ
shape_join {κ} {w} {ω} {used} {low} {q} {m} {ss} {o} {φ} S rr o' P E =
    record {
      anchor = S.anchor;
      arrays = S.arrays;
      path = path_join κ w ω _ _ _ _ _ ss rr S.path P;
      own = rw (lows_join ss rr low, places_join ss rr q.published, tails_join ss rr (tail κ q.anchor)) E;
      th = S.th;
    }

-- PUTTING DOWN
pub larger_refl : (κ : Kind) (ω : ℕ) (q : Queue) → Larger κ ω q q
larger_refl κ ω q = record { sized = omega arith; later = omega arith; more = omega arith; same = λ k h. refl }

anchor_larger : (κ : Kind) (w z z' low : ℕ) (r : Anchor) → z ≤ z' → Bounded κ w z low r → Bounded κ w z' low r
anchor_larger Lifo w z z' low r l (a, b, d) = (a, omega arith, d)
anchor_larger Fifo w z z' low r l (a, b, d, e) = (a, b, omega arith, e)
anchor_larger Deque w z z' low r l (a, b, d) = (a, omega arith, d)

-- a word
lay_word : {κ : Kind} {w ω used low : ℕ} {q : Queue} {m : List ℕ} {ss : List Store} {o : Line} {φ : ℕ → Line} (b s j x : ℕ) → Shape κ w ω used low q m (StoreWord b s j x ∷ ss) o φ
    → Shape κ w ω used low (laid (StoreWord b s j x ∷ []) q) (words_of ω q.arrays (StoreWord b s j x) m) ss o φ
unfolding set_word
lay_word {κ} {w} {ω} {used} {low} {q} {m} {ss} {o} {φ} b s j x S =
    record {
      anchor = S.anchor;
      arrays = arrays_store (words_of ω q.arrays (StoreWord b s j x) m) S.arrays (length-set m _ x) numbers;
      path = S.path.1;
      own = S.own;
      th = S.th;
    }
  where
    numbers : Numbers ω (words_of ω q.arrays (StoreWord b s j x) m) q.arrays q.claimed
    numbers = numbers_word ω m q.arrays q.claimed b s j x S.arrays.tidied S.path.0.0 S.path.0.1 S.path.0.2 S.path.0.3 S.arrays.numbers

-- the current array
lay_note : {κ : Kind} {w ω used low : ℕ} {q : Queue} {m : List ℕ} {ss : List Store} {o : Line} {φ : ℕ → Line} (k : ℕ) → Shape κ w ω used low q m (StoreNote k ∷ ss) o φ
    → Shape κ w ω used low (laid (StoreNote k ∷ []) q) m ss o φ
lay_note {κ} {w} {ω} {used} {low} {q} {m} {ss} {o} {φ} k S =
    record {
      anchor = anchor_larger κ w (size ω q) _ low _ (omega (arith, P.1)) S.anchor;
      arrays = P.0;
      path = S.path.1;
      own = S.own;
      th = λ i. thief_keep κ w ω q (laid (StoreNote k ∷ []) q) (record { sized = omega (arith, P.1); later = omega arith; more = omega (arith, S.path.0.0); same = λ k h. refl }) (φ i) (S.th i);
    }
  where
    P : Arrays ω (laid (StoreNote k ∷ []) q) m × (size_at ω q.arrays (k + 1 - 1) ≡ 2 * size ω q)
    P = arrays_note k S.arrays S.path.0.0 S.path.0.1

-- the anchor, FIFO's head, FIFO's tail
lay_move : {κ : Kind} {w ω used low low' : ℕ} {q : Queue} {m : List ℕ} {rr ss : List Store} {o : Line} {φ : ℕ → Line} (r : Anchor) → Shape κ w ω used low q m rr o φ
    → Bounded κ w (size ω q) low' r → tail κ q.anchor ≤ tail κ r
    → Path κ w ω q.arrays q.claimed low' q.published (tail κ r) ss
    → OwnEnd κ w ω used q.arrays q.claimed (lows ss low') (places ss q.published) (tails ss (tail κ r)) o
    → Shape κ w ω used low' (laid (StoreOut r ∷ []) q) m ss o φ
lay_move {κ} {w} {ω} {used} {low} {low'} {q} {m} {rr} {ss} {o} {φ} r S b l P E =
    record {
      anchor = b;
      arrays = arrays_anchor _ _ S.arrays;
      path = P;
      own = E;
      th = λ i. thief_keep κ w ω q (laid (StoreOut r ∷ []) q) (record { sized = omega arith; later = l; more = omega arith; same = λ k h. refl }) (φ i) (S.th i);
    }

pub shape_lay : (κ : Kind) {w ω used low : ℕ} {q : Queue} {m : List ℕ} {ss : List Store} {o : Line} {φ : ℕ → Line} (s : Store) → Shape κ w ω used low q m (s ∷ ss) o φ
    → Shape κ w ω used (low_of s low) (laid (s ∷ []) q) (words_of ω q.arrays s m) ss o φ
shape_lay κ (StoreWord b s j x) S = lay_word b s j x S
shape_lay κ (StoreNote k) S = lay_note k S
shape_lay Lifo (StorePut r) S = lay_move r S S.path.0 (omega arith) S.path.1 S.own
shape_lay Lifo (StoreOut r) S = lay_move r S S.path.0 (omega arith) S.path.1 S.own
shape_lay Fifo (StorePut r) S = absurd S.path.0
shape_lay Fifo (StoreOut r) S = absurd S.path.0
shape_lay Deque (StorePut r) S = lay_move r S S.path.0 (omega arith) S.path.1 S.own
shape_lay Deque (StoreOut r) S = lay_move r S S.path.0 (omega arith) S.path.1 S.own
shape_lay Lifo (StoreHead i) S = absurd S.path.0
shape_lay Fifo {q = q} (StoreHead i) S =
    lay_move (anchor i q.anchor.count q.anchor.tag) S
    (omega arith, S.path.0.1, omega (arith, S.anchor.2, S.path.0.0), S.anchor.3) (omega arith) S.path.1 S.own
shape_lay Deque (StoreHead i) S = absurd S.path.0
shape_lay Lifo (StoreTail i) S = absurd S.path.0
shape_lay Fifo {q = q} (StoreTail i) S =
    lay_move (anchor q.anchor.head i q.anchor.tag) S
    (S.anchor.0, omega (arith, S.anchor.1, S.path.0.0), S.path.0.1, S.anchor.3) (omega (arith, S.path.0.0)) S.path.1 S.own
shape_lay Deque (StoreTail i) S = absurd S.path.0

-- all of them: what the owner reads has the shape of a queue with none waiting
pub shape_settle : (κ : Kind) {w ω used low : ℕ} {q : Queue} {m : List ℕ} {o : Line} {φ : ℕ → Line} (ss : List Store) → Shape κ w ω used low q m ss o φ
    → Shape κ w ω used (lows ss low) (laid ss q) (words ω q.arrays ss m) [] o φ
shape_settle κ [] S = S
shape_settle κ {ω = ω} {low = low} {q = q} {m = m} (s ∷ ss) S = shape_settle κ {ω = ω} {low = low_of s low} {q = laid (s ∷ []) q} {m = words_of ω q.arrays s m} ss (shape_lay κ s S)

-- FIFO's tail, read off the anchor
pub tails_is : (κ : Kind) (w ω : ℕ) (l : List Region) (c low p : ℕ) (ss : List Store) (a : Anchor) → Path κ w ω l c low p (tail κ a) ss → tails ss (tail κ a) ≡ tail κ (anchor_after ss a)
tails_is κ w ω l c low p [] a P = refl
tails_is κ w ω l c low p (StoreWord b s j x ∷ ss) a P = tails_is κ w ω l c low p ss a P.1
tails_is κ w ω l c low p (StoreNote k ∷ ss) a P = tails_is κ w ω l c low (k + 1) ss a P.1
tails_is Lifo w ω l c low p (StorePut r ∷ ss) a P = tails_is Lifo w ω l c low p ss r P.1
tails_is Lifo w ω l c low p (StoreOut r ∷ ss) a P = tails_is Lifo w ω l c low p ss r P.1
tails_is Fifo w ω l c low p (StorePut r ∷ ss) a P = absurd P.0
tails_is Fifo w ω l c low p (StoreOut r ∷ ss) a P = absurd P.0
tails_is Deque w ω l c low p (StorePut r ∷ ss) a P = tails_is Deque w ω l c low p ss r P.1
tails_is Deque w ω l c low p (StoreOut r ∷ ss) a P = tails_is Deque w ω l c low p ss r P.1
tails_is Lifo w ω l c low p (StoreHead i ∷ ss) a P = absurd P.0
tails_is Fifo w ω l c low p (StoreHead i ∷ ss) a P = tails_is Fifo w ω l c i p ss (anchor i a.count a.tag) P.1
tails_is Deque w ω l c low p (StoreHead i ∷ ss) a P = absurd P.0
tails_is Lifo w ω l c low p (StoreTail i ∷ ss) a P = absurd P.0
tails_is Fifo w ω l c low p (StoreTail i ∷ ss) a P = tails_is Fifo w ω l c low p ss (anchor a.head i a.tag) P.1
tails_is Deque w ω l c low p (StoreTail i ∷ ss) a P = absurd P.0
