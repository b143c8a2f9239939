-- The owner reads FIFO's head; the owner claims an array while stores wait.
use mathlib.Core.Path.{◌≡◌, refl, sym, ◌∙◌, ap, subst}
use mathlib.Core.Bool.{true}
use mathlib.Core.Logic.{◌⊎◌, inl, inr}
use mathlib.Core.List.{List, [], ◌∷◌}
use Prim.Native.Nat.{ℕ, ◌+◌, ◌-◌, ◌*◌, ◌≤◌, ◌<◌}
use native.Mathlib.Omega.{arith}
use lib.Dec.{leb}
use lib.ListN.{length, length-set}
use borrow.Author.Tests.{leb-true}
use Rattle.model.specs.declared.Room.{Room}
use Rattle.model.specs.declared.Growth.{Growth}
use Rattle.model.specs.declared.Kind.{Kind}
use Rattle.model.specs.declared.Kind.TheVariants.{Lifo, Fifo, Deque}
use Rattle.model.specs.declared.Line.{Line}
use Rattle.model.specs.declared.Line.TheVariants.{Idle, PutRead, PutTail, PutTest, PutWord, PutFinish, Claim, Note, Copy, Publish, TakeRead, TakeTail, TakeTest, TakeWord, TakeFinish, StealRead, StealTail, StealTest, StealNote, StealWord, StealNext, StealCompare}
use Rattle.model.specs.declared.Queue.{Queue}
use Rattle.model.specs.declared.Region.{Region}
use Rattle.model.specs.declared.Anchor.{Anchor}
use Rattle.model.specs.declared.Store.{Store}
use Rattle.model.specs.declared.Store.TheVariants.{StoreWord, StoreNote, StorePut, StoreOut, StoreHead, StoreTail}
use Rattle.theorems.proofs.Folds.{places, anchor_after, laid, words}
use Rattle.model.specs.Tests.{when◌then◌else◌}
use Rattle.model.specs.Memory.{zeros, size_at}
use Rattle.model.specs.Lines.{size, fits}
use Rattle.model.specs.Stores.{next_length, claiming}
use Rattle.model.specs.Figures.{anchor}
use Rattle.theorems.proofs.Words.{set_place}
use Rattle.theorems.proofs.Directory.{both, Arrays, roomy, arrays_claim, Free}
use Rattle.theorems.proofs.Shape.{OwnShape, lows, FitAnchor, FitTail, Path, Shape, thief_keep, claim_expands}
use Rattle.theorems.proofs.Asides.{at_rest}
use Rattle.theorems.proofs.ShapeLay.{shape_settle}
use Rattle.theorems.proofs.ShapeOwner.{Exact, Reading, spent_put}

-- FIFO: the youngest head that waits is the last that the owner wrote
head_last : (w ω : ℕ) (l : List Region) (c low p τ : ℕ) (ss : List Store) (a : Anchor) → a.head ≡ low → Path Fifo w ω l c low p τ ss → (anchor_after ss a).head ≡ lows ss low
head_last w ω l c low p τ [] a e P = e
head_last w ω l c low p τ (StoreWord b s j x ∷ ss) a e P = head_last w ω l c low p τ ss a e P.1
head_last w ω l c low p τ (StoreNote k ∷ ss) a e P = head_last w ω l c low (k + 1) τ ss a e P.1
head_last w ω l c low p τ (StorePut r ∷ ss) a e P = absurd P.0
head_last w ω l c low p τ (StoreOut r ∷ ss) a e P = absurd P.0
head_last w ω l c low p τ (StoreHead i ∷ ss) a e P = head_last w ω l c i p τ ss (anchor i a.count a.tag) refl P.1
head_last w ω l c low p τ (StoreTail i ∷ ss) a e P = head_last w ω l c low p i ss (anchor a.head i a.tag) e P.1

-- a head waits, and the youngest is read; or none does, and memory's may count as the last that the owner read
abbrev Refreshed : ℕ → ℕ → List Region → ℕ → ℕ → ℕ → ℕ → ℕ → List Store → Anchor → Type 0
Refreshed w ω l c low low' p τ ss a = (Path Fifo w ω l c low' p τ ss × ((anchor_after ss a).head ≡ lows ss low')) ⊎ ((anchor_after ss a).head ≡ lows ss low)

refresh : (w ω : ℕ) (l : List Region) (c low low' p τ : ℕ) (ss : List Store) (a : Anchor) → low ≤ low' → a.head ≡ low' → Path Fifo w ω l c low p τ ss → Refreshed w ω l c low low' p τ ss a
refresh w ω l c low low' p τ [] a h e P = inl (tt, e)
refresh w ω l c low low' p τ (StoreWord b s j x ∷ ss) a h e (f, P) = go (refresh w ω l c low low' p τ ss a h e P)
  where
    go : Refreshed w ω l c low low' p τ ss a → Refreshed w ω l c low low' p τ (StoreWord b s j x ∷ ss) a
    go (inl (R, x)) = inl ((f, R), x)
    go (inr x) = inr x
refresh w ω l c low low' p τ (StoreNote k ∷ ss) a h e (f, P) = go (refresh w ω l c low low' (k + 1) τ ss a h e P)
  where
    go : Refreshed w ω l c low low' (k + 1) τ ss a → Refreshed w ω l c low low' p τ (StoreNote k ∷ ss) a
    go (inl (R, x)) = inl ((f, R), x)
    go (inr x) = inr x
refresh w ω l c low low' p τ (StorePut r ∷ ss) a h e (f, P) = absurd f
refresh w ω l c low low' p τ (StoreOut r ∷ ss) a h e (f, P) = absurd f
refresh w ω l c low low' p τ (StoreHead i ∷ ss) a h e (f, P) = inr (head_last w ω l c i p τ ss (anchor i a.count a.tag) refl P)
refresh w ω l c low low' p τ (StoreTail i ∷ ss) a h e (f, P) = go (refresh w ω l c low low' p i ss (anchor a.head i a.tag) h e P)
  where
    go : Refreshed w ω l c low low' p i ss (anchor a.head i a.tag) → Refreshed w ω l c low low' p τ (StoreTail i ∷ ss) a
    go (inl (R, x)) = inl (((f.0, omega (arith, f.1)), R), x)
    go (inr x) = inr x

own_any : (κ : Kind) (w ω z low low' τ : ℕ) (o : Line) → Reading o → OwnShape κ w ω z low τ o → OwnShape κ w ω z low' τ o
own_any κ w ω z low low' τ Idle x s = absurd x
own_any κ w ω z low low' τ (PutRead t) x s = s
own_any κ w ω z low low' τ (PutTail t h) x s = absurd x
own_any κ w ω z low low' τ (PutTest t r) x s = absurd x
own_any κ w ω z low low' τ (PutWord t r j) x s = absurd x
own_any κ w ω z low low' τ (PutFinish t r) x s = absurd x
own_any κ w ω z low low' τ (Claim t) x s = absurd x
own_any κ w ω z low low' τ (Note t) x s = absurd x
own_any κ w ω z low low' τ (Copy t h n k) x s = absurd x
own_any κ w ω z low low' τ (Publish t) x s = absurd x
own_any κ w ω z low low' τ TakeRead x s = tt
own_any κ w ω z low low' τ (TakeTail h) x s = absurd x
own_any κ w ω z low low' τ (TakeTest r) x s = absurd x
own_any κ w ω z low low' τ (TakeWord r t j) x s = absurd x
own_any κ w ω z low low' τ (TakeFinish r t) x s = absurd x
own_any κ w ω z low low' τ StealRead x s = absurd x
own_any κ w ω z low low' τ (StealTail h) x s = absurd x
own_any κ w ω z low low' τ (StealTest r) x s = absurd x
own_any κ w ω z low low' τ (StealNote r) x s = absurd x
own_any κ w ω z low low' τ (StealWord r k t j) x s = absurd x
own_any κ w ω z low low' τ (StealNext r t) x s = absurd x
own_any κ w ω z low low' τ (StealCompare r e t) x s = absurd x

-- before its line 1 the owner's last head may be taken for the one that it is about to read
pub shape_refresh : (κ : Kind) (w ω used low : ℕ) (q : Queue) (m : List ℕ) (ss : List Store) (o : Line) (φ : ℕ → Line) → Reading o → Shape κ w ω used low q m ss o φ
    → (low' : ℕ) × Shape κ w ω used low' q m ss o φ × Exact κ (lows ss low') (anchor_after ss q.anchor)
shape_refresh Lifo w ω used low q m ss o φ x S = (low, S, tt)
shape_refresh Fifo w ω used low q m ss o φ x S = go (refresh w ω _ _ low q.anchor.head _ _ ss q.anchor S.anchor.0 refl S.path)
  where
    go : Refreshed w ω q.arrays q.claimed low q.anchor.head q.published q.anchor.count ss q.anchor
        → (low' : ℕ) × Shape Fifo w ω used low' q m ss o φ × Exact Fifo (lows ss low') (anchor_after ss q.anchor)
    go (inl (R, e)) = (
      q.anchor.head,
      record {
        anchor = (omega arith, S.anchor.1, omega (arith, S.anchor.0, S.anchor.2), S.anchor.3);
        arrays = S.arrays;
        path = R;
        own = record { claims = S.own.claims; spent = S.own.spent; shape = own_any Fifo w ω _ _ _ _ o x S.own.shape };
        th = S.th;
      },
      e,
    )
    go (inr e) = (low, S, e)
shape_refresh Deque w ω used low q m ss o φ x S = (low, S, tt)

-- X1
pub words_length : (ω : ℕ) (l : List Region) (ss : List Store) (m : List ℕ) → length (words ω l ss m) ≡ length m
words_length ω l [] m = refl
words_length ω l (StoreWord b s j x ∷ ss) m = words_length ω l ss _ ∙ length-set m _ x
words_length ω l (StoreNote k ∷ ss) m = words_length ω l ss m
words_length ω l (StorePut r ∷ ss) m = words_length ω l ss m
words_length ω l (StoreOut r ∷ ss) m = words_length ω l ss m
words_length ω l (StoreHead i ∷ ss) m = words_length ω l ss m
words_length ω l (StoreTail i ∷ ss) m = words_length ω l ss m

pub path_places : (κ : Kind) (w ω : ℕ) (l : List Region) (c low p τ : ℕ) (ss : List Store) → p ≤ c → Path κ w ω l c low p τ ss → (p ≤ places ss p) × (places ss p ≤ c)
path_places κ w ω l c low p τ [] h P = (omega arith, h)
path_places κ w ω l c low p τ (StoreWord b s j x ∷ ss) h P = path_places κ w ω l c low p τ ss h P.1
path_places κ w ω l c low p τ (StoreNote k ∷ ss) h P = let r = path_places κ w ω l c low (k + 1) τ ss (omega (arith, P.0.0, P.0.1)) P.1 in (omega (arith, P.0.0, r.0), r.1)
path_places κ w ω l c low p τ (StorePut r ∷ ss) h P = path_places κ w ω l c low p τ ss h P.1
path_places κ w ω l c low p τ (StoreOut r ∷ ss) h P = path_places κ w ω l c low p τ ss h P.1
path_places κ w ω l c low p τ (StoreHead i ∷ ss) h P = path_places κ w ω l c i p τ ss h P.1
path_places κ w ω l c low p τ (StoreTail i ∷ ss) h P = path_places κ w ω l c low p i ss h P.1

pub path_claim : (κ : Kind) (w ω : ℕ) (l l' : List Region) (c c' low p τ : ℕ) (ss : List Store) → ((k : ℕ) → k < c → size_at ω l' k ≡ size_at ω l k) → c ≤ c' → 0 < p → p ≤ c
    → Path κ w ω l c low p τ ss → Path κ w ω l' c' low p τ ss
path_claim κ w ω l l' c c' low p τ [] same hc pos h P = tt
path_claim κ w ω l l' c c' low p τ (StoreWord b s j x ∷ ss) same hc pos h (f, P) = ((omega (arith, f.0), subst (λ (z : ℕ). s < z) (sym (same b f.0)) f.1, f.2, f.3), path_claim κ w ω l l' c c' low p τ ss same hc pos h P)
path_claim κ w ω l l' c c' low p τ (StoreNote k ∷ ss) same hc pos h (f, P) =
    ((f.0, omega (arith, f.1)), path_claim κ w ω l l' c c' low (k + 1) τ ss same hc (omega (arith, f.0)) (omega (arith, f.0, f.1)) P)
path_claim κ w ω l l' c c' low p τ (StorePut r ∷ ss) same hc pos h (f, P) =
    (subst (λ (z : ℕ). FitAnchor κ w z r) (sym (same (p - 1) (omega arith))) f, path_claim κ w ω l l' c c' low p τ ss same hc pos h P)
path_claim κ w ω l l' c c' low p τ (StoreOut r ∷ ss) same hc pos h (f, P) =
    (subst (λ (z : ℕ). FitAnchor κ w z r) (sym (same (p - 1) (omega arith))) f, path_claim κ w ω l l' c c' low p τ ss same hc pos h P)
path_claim κ w ω l l' c c' low p τ (StoreHead i ∷ ss) same hc pos h (f, P) = (f, path_claim κ w ω l l' c c' i p τ ss same hc pos h P)
path_claim κ w ω l l' c c' low p τ (StoreTail i ∷ ss) same hc pos h (f, P) =
    (subst (λ (z : ℕ). FitTail κ z low τ i) (sym (same (p - 1) (omega arith))) f, path_claim κ w ω l l' c c' low p i ss same hc pos h P)

pub shape_claim : (ρ : Room) (κ : Kind) (w ω used low : ℕ) (q : Queue) (m : List ℕ) (ss : List Store) (t : Growth) (φ : ℕ → Line) → fits ρ ω (laid ss q) ≡ true → Free ρ q m
    → Shape κ w ω used low q m ss (Claim t) φ → Shape κ w ω used low (claiming ρ q) (zeros m ρ.next (next_length q)) ss (Note t) φ
unfolding when◌then◌else◌
shape_claim ρ κ w ω used low q m ss t φ e R S =
    record {
      anchor = rw ez S.anchor;
      arrays = arrays_claim ρ A n11 small R (leb-true _ _ two.1);
      path = path_claim κ w ω q.arrays (claiming ρ q).arrays q.claimed (q.claimed + 1) low q.published _ ss same (omega arith) A.some A.below S.path;
      own = record { claims = omega (arith, is); spent = spent_put κ _ _ (Claim t) (Note t) refl S.own.spent; shape = S.own.shape };
      th = λ i. thief_keep κ w ω q (claiming ρ q) (record { sized = omega (arith, ez); later = omega arith; more = omega arith; same = λ k h. same k (omega (arith, A.below)) }) (φ i) (S.th i);
    }
  where
    v : Queue
    v = laid ss q

    A : Arrays ω q m
    A = S.arrays

    is : q.claimed ≡ v.published
    is = sym (at_rest _ _ _ S.own.claims (claim_expands t))

    two : (leb (2 * size ω v) 1024 ≡ true) × (leb (next_length q) ρ.left ≡ true)
    two = both (leb (2 * size ω v) 1024) _ e

    small_v : 2 * size ω v ≤ 1024
    small_v = leb-true _ _ two.0

    n11 : q.claimed < 11
    n11 = omega (arith, roomy (shape_settle κ ss S).arrays small_v, is)

    small : 2 * size_at ω q.arrays (q.claimed - 1) ≤ 1024
    small = let z : size_at ω q.arrays (q.claimed - 1) ≡ size ω v = ap (λ (n : ℕ). size_at ω q.arrays (n - 1)) is in omega (arith, z, small_v)

    same : (k : ℕ) → k < q.claimed → size_at ω (claiming ρ q).arrays k ≡ size_at ω q.arrays k
    same k h = (set_place ω q.arrays q.claimed k ρ.next (next_length q) (omega arith)).2

    ez : size ω (claiming ρ q) ≡ size ω q
    ez = same (q.published - 1) (omega (arith, A.some, A.below))
