-- What the owner reads of the anchor: the youngest one that waits; or memory's, and then the owner's window may be taken for the
-- queue's.
use mathlib.Core.Path.{◌≡◌, refl, sym, ◌∙◌, subst, subst₂}
use mathlib.Core.Bool.{Bool}
use mathlib.Core.Logic.{◌⊎◌, inl, inr}
use mathlib.Core.List.{List, [], ◌∷◌}
use Prim.Native.Nat.{ℕ, zero, suc, ◌≤◌}
use native.Mathlib.Omega.{arith}
use Rattle.model.specs.declared.Kind.{Kind}
use Rattle.model.specs.declared.Kind.TheVariants.{Lifo, Fifo, Deque}
use Rattle.model.specs.declared.Line.{Line}
use Rattle.model.specs.declared.Queue.{Queue}
use Rattle.model.specs.declared.Task.{Task}
use Rattle.model.specs.declared.Anchor.{Anchor}
use Rattle.model.specs.declared.Store.{Store}
use Rattle.model.specs.declared.Store.TheVariants.{StoreWord, StoreNote, StorePut, StoreOut, StoreHead, StoreTail}
use Rattle.theorems.proofs.Folds.{anchor_after}
use Rattle.model.specs.Figures.{anchor}
use Rattle.theorems.proofs.Events.{History}
use Rattle.theorems.proofs.Window.{View, task_at, core_read}
use Rattle.theorems.proofs.Seen.{frame_same}
use Rattle.theorems.proofs.Indices.{StandsFor}
use Rattle.theorems.proofs.Owed.{view, lay_view, los, his, tags, NotFifo, Owed, IsPut, Label}
use Rattle.theorems.proofs.Order.{Order, rising_raised}
use Rattle.theorems.proofs.Invariant.{Base, move_none, thief_holds, tops_refl, grow_read}

pub tag_keep : (ss : List Store) (a : Anchor) (g : ℕ) → a.tag ≡ g → (anchor_after ss a).tag ≡ tags ss g
tag_keep [] a g e = e
tag_keep (StoreWord b s j x ∷ ss) a g e = tag_keep ss a g e
tag_keep (StoreNote k ∷ ss) a g e = tag_keep ss a g e
tag_keep (StorePut r ∷ ss) a g e = tag_keep ss r r.tag refl
tag_keep (StoreOut r ∷ ss) a g e = tag_keep ss r r.tag refl
tag_keep (StoreHead i ∷ ss) a g e = tag_keep ss (anchor i a.count a.tag) g e
tag_keep (StoreTail i ∷ ss) a g e = tag_keep ss (anchor a.head i a.tag) g e

-- an anchor that stands for the owner's window goes on to do so
pub exact_keep : (κ : Kind) (w : ℕ) (δ : Bool) (v : View) (g : ℕ) (h : History) (ss : List Store) (a : Anchor) → StandsFor κ a v.own_lo v.own_hi → Owed κ w δ v g h ss
    → StandsFor κ (anchor_after ss a) (los ss v.own_lo) (his κ ss v.own_lo v.own_hi)
exact_keep κ w δ v g h [] a S O = S
exact_keep κ w δ v g h (StoreWord b s j x ∷ ss) a S (f, O) = exact_keep κ w δ (lay_view κ (StoreWord b s j x) v) g h ss a S O
exact_keep κ w δ v g h (StoreNote k ∷ ss) a S (f, O) = exact_keep κ w δ (lay_view κ (StoreNote k) v) g h ss a S O
exact_keep Lifo w δ v g h (StorePut r ∷ ss) a S (f, O) = exact_keep Lifo w δ (lay_view Lifo (StorePut r) v) r.tag h ss r (f.1.0, f.1.1, refl) O
exact_keep Fifo w δ v g h (StorePut r ∷ ss) a S (f, O) = absurd f.0
exact_keep Deque w δ v g h (StorePut r ∷ ss) a S (f, O) = exact_keep Deque w δ (lay_view Deque (StorePut r) v) r.tag h ss r (f.1.0, refl) O
exact_keep Lifo w δ v g h (StoreOut r ∷ ss) a S (f, O) = exact_keep Lifo w δ (lay_view Lifo (StoreOut r) v) r.tag h ss r (f.1.0, f.1.1, refl) O
exact_keep Fifo w δ v g h (StoreOut r ∷ ss) a S (f, O) = absurd f.0
exact_keep Deque w δ v g h (StoreOut r ∷ ss) a S (f, O) = exact_keep Deque w δ (lay_view Deque (StoreOut r) v) r.tag h ss r (f.1.0, refl) O
exact_keep Lifo w δ v g h (StoreHead i ∷ ss) a S (f, O) = absurd f.0
exact_keep Fifo w δ v g h (StoreHead i ∷ ss) a S (f, O) = exact_keep Fifo w δ (lay_view Fifo (StoreHead i) v) g h ss (anchor i a.count a.tag) (refl, S.1) O
exact_keep Deque w δ v g h (StoreHead i ∷ ss) a S (f, O) = absurd f.0
exact_keep Lifo w δ v g h (StoreTail i ∷ ss) a S (f, O) = absurd f.0
exact_keep Fifo w δ v g h (StoreTail i ∷ ss) a S (f, O) = exact_keep Fifo w δ (lay_view Fifo (StoreTail i) v) g h ss (anchor a.head i a.tag) (S.0, refl) O
exact_keep Deque w δ v g h (StoreTail i ∷ ss) a S (f, O) = absurd f.0

-- FIFO's tail is the upper end of the owner's window
pub tail_keep : (w : ℕ) (δ : Bool) (v : View) (g : ℕ) (h : History) (ss : List Store) (a : Anchor) → v.own_hi ≡ a.count → Owed Fifo w δ v g h ss
    → his Fifo ss v.own_lo v.own_hi ≡ (anchor_after ss a).count
tail_keep w δ v g h [] a e O = e
tail_keep w δ v g h (StoreWord b s j x ∷ ss) a e (f, O) = tail_keep w δ (lay_view Fifo (StoreWord b s j x) v) g h ss a e O
tail_keep w δ v g h (StoreNote k ∷ ss) a e (f, O) = tail_keep w δ (lay_view Fifo (StoreNote k) v) g h ss a e O
tail_keep w δ v g h (StorePut r ∷ ss) a e (f, O) = absurd f.0
tail_keep w δ v g h (StoreOut r ∷ ss) a e (f, O) = absurd f.0
tail_keep w δ v g h (StoreHead i ∷ ss) a e (f, O) = tail_keep w δ (lay_view Fifo (StoreHead i) v) g h ss (anchor i a.count a.tag) e O
tail_keep w δ v g h (StoreTail i ∷ ss) a e (f, O) = tail_keep w δ (lay_view Fifo (StoreTail i) v) g h ss (anchor a.head i a.tag) refl O

-- the same view with a smaller window of the owner
abbrev within : View → ℕ → ℕ → View
within v lo hi = record { words = v.words; store = v.store; directory = v.directory; published = v.published; base = v.base; slots = v.slots; own_lo = lo; own_hi = hi }

abbrev Labels : Kind → View → View → List Store → Type 0
Labels κ v v' ss = (m : ℕ) (t : Task) → Label κ v ss m t → Label κ v' ss m t

-- either it may be taken for the owner's, or the youngest store that waits stands for the owner's
abbrev Smaller : Kind → ℕ → Bool → View → ℕ → History → List Store → Anchor → ℕ → ℕ → Type 0
Smaller κ w δ v g h ss a lo hi =
    (Owed κ w δ (within v lo hi) g h ss × StandsFor κ (anchor_after ss a) (los ss lo) (his κ ss lo hi) × Labels κ v (within v lo hi) ss)
    ⊎ StandsFor κ (anchor_after ss a) (los ss v.own_lo) (his κ ss v.own_lo v.own_hi)

label_next : (κ : Kind) (v v' : View) (s : Store) (ss : List Store) → (IsPut s → task_at v v.own_hi ≡ task_at v' v'.own_hi) → Labels κ (lay_view κ s v) (lay_view κ s v') ss → Labels κ v v' (s ∷ ss)
label_next κ v v' s ss e L zero t (p, q) = (p, sym (e p) ∙ q)
label_next κ v v' s ss e L (suc m) t l = L m t l

shrink : (κ : Kind) → NotFifo κ → (w : ℕ) (δ : Bool) (v : View) (g : ℕ) (h : History) (ss : List Store) (a : Anchor) (lo hi : ℕ) → v.own_lo ≤ lo → hi ≤ v.own_hi → StandsFor κ a lo hi
    → Owed κ w δ v g h ss → Smaller κ w δ v g h ss a lo hi
shrink κ n w δ v g h [] a lo hi l u S O = inl (tt, S, λ m t x. x)
shrink κ n w δ v g h (StoreWord b s j x ∷ ss) a lo hi l u S (f, O) = go (shrink κ n w δ (lay_view κ (StoreWord b s j x) v) g h ss a lo hi l u S O)
  where
    go : Smaller κ w δ (lay_view κ (StoreWord b s j x) v) g h ss a lo hi → Smaller κ w δ v g h (StoreWord b s j x ∷ ss) a lo hi
    go (inl (P, T, L)) = inl (((f.0, λ i j p q r. f.1 i j (omega arith) (omega arith) r), P), T, label_next κ v (within v lo hi) (StoreWord b s j x) ss (λ p. absurd p) L)
    go (inr T) = inr T
shrink κ n w δ v g h (StoreNote k ∷ ss) a lo hi l u S (f, O) = go (shrink κ n w δ (lay_view κ (StoreNote k) v) g h ss a lo hi l u S O)
  where
    go : Smaller κ w δ (lay_view κ (StoreNote k) v) g h ss a lo hi → Smaller κ w δ v g h (StoreNote k ∷ ss) a lo hi
    go (inl (P, T, L)) = inl (((f.0, f.1, λ i j p q r. f.2 i j (omega arith) (omega arith) r), P), T, label_next κ v (within v lo hi) (StoreNote k) ss (λ p. absurd p) L)
    go (inr T) = inr T
shrink Lifo n w δ v g h (StorePut r ∷ ss) a lo hi l u S (f, O) = inr (exact_keep Lifo w δ (lay_view Lifo (StorePut r) v) r.tag h ss r (f.1.0, f.1.1, refl) O)
shrink Fifo n w δ v g h (StorePut r ∷ ss) a lo hi l u S (f, O) = absurd n
shrink Deque n w δ v g h (StorePut r ∷ ss) a lo hi l u S (f, O) = inr (exact_keep Deque w δ (lay_view Deque (StorePut r) v) r.tag h ss r (f.1.0, refl) O)
shrink Lifo n w δ v g h (StoreOut r ∷ ss) a lo hi l u S (f, O) = inr (exact_keep Lifo w δ (lay_view Lifo (StoreOut r) v) r.tag h ss r (f.1.0, f.1.1, refl) O)
shrink Fifo n w δ v g h (StoreOut r ∷ ss) a lo hi l u S (f, O) = absurd n
shrink Deque n w δ v g h (StoreOut r ∷ ss) a lo hi l u S (f, O) = inr (exact_keep Deque w δ (lay_view Deque (StoreOut r) v) r.tag h ss r (f.1.0, refl) O)
shrink Lifo n w δ v g h (StoreHead i ∷ ss) a lo hi l u S (f, O) = absurd f.0
shrink Fifo n w δ v g h (StoreHead i ∷ ss) a lo hi l u S (f, O) = absurd n
shrink Deque n w δ v g h (StoreHead i ∷ ss) a lo hi l u S (f, O) = absurd f.0
shrink Lifo n w δ v g h (StoreTail i ∷ ss) a lo hi l u S (f, O) = absurd f.0
shrink Fifo n w δ v g h (StoreTail i ∷ ss) a lo hi l u S (f, O) = absurd n
shrink Deque n w δ v g h (StoreTail i ∷ ss) a lo hi l u S (f, O) = absurd f.0

-- FIFO: only the lower end
raise : (w : ℕ) (δ : Bool) (v : View) (g : ℕ) (h : History) (ss : List Store) (a : Anchor) (lo : ℕ) → v.own_lo ≤ lo → StandsFor Fifo a lo v.own_hi
    → Owed Fifo w δ v g h ss → Smaller Fifo w δ v g h ss a lo v.own_hi
raise w δ v g h [] a lo l S O = inl (tt, S, λ m t x. x)
raise w δ v g h (StoreWord b s j x ∷ ss) a lo l S (f, O) = go (raise w δ (lay_view Fifo (StoreWord b s j x) v) g h ss a lo l S O)
  where
    go : Smaller Fifo w δ (lay_view Fifo (StoreWord b s j x) v) g h ss a lo v.own_hi → Smaller Fifo w δ v g h (StoreWord b s j x ∷ ss) a lo v.own_hi
    go (inl (P, T, L)) = inl (((f.0, λ i j p q r. f.1 i j (omega arith) q r), P), T, label_next Fifo v (within v lo v.own_hi) (StoreWord b s j x) ss (λ p. absurd p) L)
    go (inr T) = inr T
raise w δ v g h (StoreNote k ∷ ss) a lo l S (f, O) = go (raise w δ (lay_view Fifo (StoreNote k) v) g h ss a lo l S O)
  where
    go : Smaller Fifo w δ (lay_view Fifo (StoreNote k) v) g h ss a lo v.own_hi → Smaller Fifo w δ v g h (StoreNote k ∷ ss) a lo v.own_hi
    go (inl (P, T, L)) = inl (((f.0, f.1, λ i j p q r. f.2 i j (omega arith) q r), P), T, label_next Fifo v (within v lo v.own_hi) (StoreNote k) ss (λ p. absurd p) L)
    go (inr T) = inr T
raise w δ v g h (StorePut r ∷ ss) a lo l S (f, O) = absurd f.0
raise w δ v g h (StoreOut r ∷ ss) a lo l S (f, O) = absurd f.0
raise w δ v g h (StoreHead i ∷ ss) a lo l S (f, O) = inr (exact_keep Fifo w δ (lay_view Fifo (StoreHead i) v) g h ss (anchor i a.count a.tag) (refl, S.1) O)
raise w δ v g h (StoreTail i ∷ ss) a lo l S (f, O) = go (raise w δ (lay_view Fifo (StoreTail i) v) g h ss (anchor a.head i a.tag) lo l (S.0, refl) O)
  where
    go : Smaller Fifo w δ (lay_view Fifo (StoreTail i) v) g h ss (anchor a.head i a.tag) lo i → Smaller Fifo w δ v g h (StoreTail i ∷ ss) a lo v.own_hi
    go (inl (P, T, L)) = inl (((tt, f.1, (omega (arith, f.2.0), f.2.1)), P), T, label_next Fifo v (within v lo v.own_hi) (StoreTail i) ss (λ p. refl) L)
    go (inr T) = inr T

-- the owner may be taken to have read memory's anchor, or has written the youngest that waits
pub record Refreshed (κ : Kind) (w ω : ℕ) (δ : Bool) (Q : Queue) (μ : List ℕ) (ol oh : ℕ) (ss : List Store) (φ : ℕ → Line) (h : History) : Type 0 where
  pub own_lo : ℕ
  pub own_hi : ℕ
  pub base : Base κ w ω δ Q μ own_lo own_hi ss φ h
  pub exact : StandsFor κ (anchor_after ss Q.anchor) (los ss own_lo) (his κ ss own_lo own_hi)
  pub labels : Labels κ (view ω Q μ ol oh) (view ω Q μ own_lo own_hi) ss
  pub order : Order κ (view ω Q μ ol oh) Q.anchor.head ss h → Order κ (view ω Q μ own_lo own_hi) Q.anchor.head ss h

order_window : (κ : Kind) (w ω : ℕ) (δ : Bool) (Q : Queue) (μ : List ℕ) (ol oh : ℕ) (ss : List Store) (φ : ℕ → Line) (h : History) (B : Base κ w ω δ Q μ ol oh ss φ h)
    → Order κ (view ω Q μ ol oh) Q.anchor.head ss h → Order κ (view ω Q μ B.lo B.hi) Q.anchor.head ss h
order_window Lifo w ω δ Q μ ol oh ss φ h B R = tt
order_window Fifo w ω δ Q μ ol oh ss φ h B R =
    subst₂ (λ (x y : ℕ). Order Fifo (view ω Q μ x y) Q.anchor.head ss h) (sym B.rep.0) (sym B.tops) (rising_raised (view ω Q μ ol oh) Q.anchor.head ss h (omega (arith, B.core.low, B.rep.0)) R)
order_window Deque w ω δ Q μ ol oh ss φ h B R = tt

module _ {κ : Kind} {w ω : ℕ} {δ : Bool} {Q : Queue} {μ : List ℕ} {ol oh : ℕ} {ss : List Store} {φ : ℕ → Line} {h : History} (B : Base κ w ω δ Q μ ol oh ss φ h) where
  to_window : Smaller κ w δ (view ω Q μ ol oh) Q.anchor.tag h ss Q.anchor B.lo B.hi → Refreshed κ w ω δ Q μ ol oh ss φ h
  to_window (inr S) = record { own_lo = ol; own_hi = oh; base = B; exact = S; labels = λ m t l. l; order = λ R. R }
  to_window (inl (O, S, L)) =
      record {
        own_lo = B.lo;
        own_hi = B.hi;
        base =
            record {
              lo = B.lo;
              hi = B.hi;
              rep = B.rep;
              tops = tops_refl κ B.hi;
              core = core_read B.core;
              sized = B.sized;
              sorted = B.sorted;
              room = B.room;
              tag = B.tag;
              owed = O;
              th = λ i.
                  thief_holds {w = w} {g = Q.anchor.tag} {h = h} {k = (suc i)}
                  (move_none (frame_same (view ω Q μ ol oh) B.lo B.hi B.core.low) (grow_read κ (view ω Q μ ol oh) (view ω Q μ B.lo B.hi) B.hi refl B.tops) B.core.high) (φ i) (B.th i);
            };
        exact = S;
        labels = L;
        order = order_window κ w ω δ Q μ ol oh ss φ h B;
      }

pub refresh : (κ : Kind) {w ω : ℕ} {δ : Bool} {Q : Queue} {μ : List ℕ} {ol oh : ℕ} {ss : List Store} {φ : ℕ → Line} {h : History} → Base κ w ω δ Q μ ol oh ss φ h → Refreshed κ w ω δ Q μ ol oh ss φ h
refresh Lifo {w} {ω} {δ} {Q} {μ} {ol} {oh} {ss} {φ} {h} B = to_window B (shrink Lifo tt w δ (view ω Q μ ol oh) Q.anchor.tag h ss Q.anchor B.lo B.hi B.core.low B.core.high B.rep B.owed)
refresh Fifo {w} {ω} {δ} {Q} {μ} {ol} {oh} {ss} {φ} {h} B =
    to_window B
    (subst (λ (x : ℕ). Smaller Fifo w δ (view ω Q μ ol oh) Q.anchor.tag h ss Q.anchor B.lo x) (sym B.tops)
    (raise w δ (view ω Q μ ol oh) Q.anchor.tag h ss Q.anchor B.lo B.core.low (B.rep.0, sym B.tops ∙ B.rep.1) B.owed))
refresh Deque {w} {ω} {δ} {Q} {μ} {ol} {oh} {ss} {φ} {h} B = to_window B (shrink Deque tt w δ (view ω Q μ ol oh) Q.anchor.tag h ss Q.anchor B.lo B.hi B.core.low B.core.high B.rep B.owed)
