-- A waiting store that is put down keeps the invariant; all of them put down.
use mathlib.Core.Path.{◌≡◌, refl, sym, ◌∙◌, ap, subst}
use mathlib.Core.Bool.{Bool}
use mathlib.Core.Logic.{◌⊎◌, inl, inr}
use mathlib.Core.List.{List, [], ◌∷◌}
use Prim.Native.Nat.{ℕ, suc, ◌+◌, ◌-◌, ◌*◌, ◌^◌, ◌≤◌, ◌<◌}
use native.Mathlib.Omega.{arith}
use native.Mathlib.Nat.{mod-lt}
use lib.Pow.{pow_pos}
use lib.ListN.{length, set, get_or, length-set}
use lib.Seq.{get_or-set_other}
use Rattle.model.specs.declared.Kind.{Kind}
use Rattle.model.specs.declared.Kind.TheVariants.{Lifo, Fifo, Deque}
use Rattle.model.specs.declared.Line.{Line}
use Rattle.model.specs.declared.Queue.{Queue}
use Rattle.model.specs.declared.Anchor.{Anchor}
use Rattle.model.specs.declared.Store.{Store}
use Rattle.model.specs.declared.Store.TheVariants.{StoreWord, StoreNote, StorePut, StoreOut, StoreHead, StoreTail}
use Rattle.theorems.proofs.Folds.{NotPut, laid, words_of}
use Rattle.model.specs.Memory.{offset_at, size_at}
use Rattle.theorems.proofs.Words.{off, len}
use Rattle.model.specs.Lines.{size}
use Rattle.model.specs.Figures.{anchor}
use Rattle.model.proofs.Directory.{size_twice}
use Rattle.theorems.proofs.Events.{Event, finished_put, History, Out, Answered}
use Rattle.theorems.proofs.Words.{cell}
use Rattle.theorems.proofs.Window.{View, task_at, NotDone, core_shrink, core_words, core_put, core_ev}
use Rattle.theorems.proofs.Seen.{frame_same, frame_store, frame_pub, Older}
use Rattle.theorems.proofs.Remainders.{le_or_lt}
use Rattle.theorems.proofs.Indices.{StandsFor}
use Rattle.theorems.proofs.Owed.{view, lo_of, hi_of, Clear, Claimed, Copied, Fits, Owed, IsPut, owed_later}
use Rattle.theorems.proofs.Invariant.{Tops, Base, Calm, Grow, move_calm, move_none, move_put, thief_holds, tops_refl, grow_same, tag_after}

module _ {κ : Kind} {w ω : ℕ} {δ : Bool} {Q : Queue} {μ : List ℕ} {ol oh : ℕ} {ss : List Store} {φ : ℕ → Line} {h : History} (B : Base κ w ω δ Q μ ol oh ss φ h) where
  v : View
  v = view ω Q μ ol oh

  -- an event that is no put's
  pub base_ev : (e : Event) → NotDone e → ((k : ℕ) → Calm (suc k) e) → Base κ w ω δ Q μ ol oh ss φ (e ∷ h)
  unfolding v
  base_ev e nd c =
      record {
        lo = B.lo;
        hi = B.hi;
        rep = B.rep;
        tops = B.tops;
        core = core_ev e nd B.core;
        sized = B.sized;
        sorted = B.sorted;
        room = B.room;
        tag = B.tag;
        owed = owed_later κ w δ v Q.anchor.tag h e ss B.owed;
        th = λ i. thief_holds (move_calm e (c i) (frame_same v ol oh (omega arith)) (grow_same κ v v refl) (omega arith)) (φ i) (B.th i);
      }

  -- other stores wait
  pub base_line : (rr : List Store) → Owed κ w δ (view ω Q μ ol oh) Q.anchor.tag h rr → Base κ w ω δ Q μ ol oh rr φ h
  base_line rr O =
      record { lo = B.lo; hi = B.hi; rep = B.rep; tops = B.tops; core = B.core; sized = B.sized; sorted = B.sorted; room = B.room; tag = B.tag; owed = O; th = B.th }

  -- words outside the owner's window
  pub base_store : (m : List ℕ) (rr : List Store) → length m ≡ length μ
      → ((i j : ℕ) → ol ≤ i → i < oh → j < ω + 1 → cell ω m (off Q) (size ω Q) i j ≡ cell ω μ (off Q) (size ω Q) i j)
      → ((b z a : ℕ) → Older (view ω Q μ ol oh) b z → b ≤ a → a < b + (ω + 1) * z → get_or m a 0 ≡ get_or μ a 0)
      → Owed κ w δ (view ω Q m ol oh) Q.anchor.tag h rr → Base κ w ω δ Q m ol oh rr φ h
  unfolding v
  base_store m rr len same low O =
      record {
        lo = B.lo;
        hi = B.hi;
        rep = B.rep;
        tops = B.tops;
        core = core_words m Q.arrays Q.published (off Q) (size ω Q) B.core B.core.fit same;
        sized = B.sized;
        sorted = B.sorted;
        room = omega (arith, B.room);
        tag = B.tag;
        owed = O;
        th = λ i. thief_holds {w = w} {g = Q.anchor.tag} {h = h} {k = (suc i)} (move_none (frame_store v m same low oh) (grow_same κ v _ refl) (omega arith)) (φ i) (B.th i);
      }

  base_word : (a x : ℕ) (rr : List Store) → Clear (view ω Q μ ol oh) a → Owed κ w δ (view ω Q (set μ a x) ol oh) Q.anchor.tag h rr → Base κ w ω δ Q (set μ a x) ol oh rr φ h
  unfolding cell
  base_word a x rr C O = base_store (set μ a x) rr (length-set μ a x) (λ i j p q r. get_or-set_other μ a _ x 0 (C.1 i j p q r)) (λ b z c y p q. get_or-set_other μ a c x 0 (λ e. C.0 b z y (omega arith) (omega arith))) O

  -- the next array becomes current
  base_note : (k : ℕ) (rr : List Store) → k ≡ Q.published → Claimed (view ω Q μ ol oh) → Copied (view ω Q μ ol oh) ol oh
      → Owed κ w δ (view ω (laid (StoreNote k ∷ []) Q) μ ol oh) Q.anchor.tag h rr → Base κ w ω δ (laid (StoreNote k ∷ []) Q) μ ol oh rr φ h
  unfolding v
  base_note k rr is R C O =
      record {
        lo = B.lo;
        hi = B.hi;
        rep = B.rep;
        tops = B.tops;
        core = rw (eb, ez) (core_words μ Q.arrays (k + 1) (offset_at Q.arrays Q.published) (2 * size ω Q) B.core (omega (arith, B.core.fit)) C);
        sized = rw ez (size_twice B.sized R.1);
        sorted = λ j l. omega (arith, eb, up j (le_or_lt (Q.published - 1) j) l);
        room = rw (eb, ez) (omega (arith, R.0));
        tag = B.tag;
        owed = O;
        th = λ i.
            thief_holds {w = w} {g = Q.anchor.tag} {g' = Q.anchor.tag} {h = h} {h' = h} {k = suc i}
            (rw (eb, ez) (move_none (frame_pub v (k + 1) (offset_at Q.arrays Q.published) (2 * size ω Q) (omega arith) (Q.published - 1, omega (arith, is, R.4), refl, refl) (omega arith) C oh) (grow_same κ v _ refl) (omega arith)))
            (φ i) (B.th i);
      }
    where
      pred : k + 1 - 1 ≡ Q.published
      pred = omega arith

      eb : offset_at Q.arrays (k + 1 - 1) ≡ offset_at Q.arrays Q.published
      eb = ap (offset_at Q.arrays) pred

      up : (j : ℕ) → (Q.published - 1 ≤ j) ⊎ (j < Q.published - 1) → suc j < k + 1 → offset_at Q.arrays j + (ω + 1) * size_at ω Q.arrays j ≤ offset_at Q.arrays Q.published
      up j (inl a) l = subst (λ (x : ℕ). offset_at Q.arrays x + (ω + 1) * size_at ω Q.arrays x ≤ offset_at Q.arrays Q.published) {x = Q.published - 1} {y = j} (omega arith) R.2
      up j (inr a) l = omega (arith, B.sorted j (omega arith), R.2)

      ez : size_at ω Q.arrays (k + 1 - 1) ≡ 2 * size ω Q
      ez = ap (size_at ω Q.arrays) pred ∙ R.3

  -- a hand-out's store: the window comes to be [a, c), the owner's [ol', oh')
  base_out : (r : Anchor) (ol' oh' a c : ℕ) (rr : List Store) → StandsFor κ r a c → r.tag ≡ Q.anchor.tag → ol ≤ ol' → ol' ≤ a → a ≤ c → c ≤ oh' → oh' ≤ oh → Tops κ c oh'
      → Grow κ (view ω Q μ ol oh) (view ω Q μ ol' oh')
      → ((i : ℕ) → B.lo ≤ i → i < B.hi → (i < a) ⊎ (c ≤ i) → Out (task_at (view ω Q μ ol oh) i) h)
      → Owed κ w δ (view ω Q μ ol' oh') r.tag h rr → Base κ w ω δ (laid (StoreOut r ∷ []) Q) μ ol' oh' rr φ h
  unfolding v
  base_out r ol' oh' a c rr R eg h1 h2 h3 h4 h5 T G leave O =
      record {
        lo = a;
        hi = c;
        rep = R;
        tops = T;
        core = core_shrink ol' oh' a c B.core h1 h2 h3 h4 h5 leave;
        sized = B.sized;
        sorted = B.sorted;
        room = B.room;
        tag = omega (arith, B.tag);
        owed = O;
        th = λ i. thief_holds {w = w} {g = Q.anchor.tag} {g' = r.tag} {h = h} {h' = h} {k = suc i} (rw eg (move_none (frame_same v ol' oh' h1) G h5)) (φ i) (B.th i);
      }

  -- a put's store: the window comes to be [a, oh')
  base_put : (r : Anchor) (oh' a : ℕ) (rr : List Store) → oh' ≡ oh + 1 → StandsFor κ r a oh' → r.tag ≡ tag_after κ w Q.anchor.tag → r.tag < 2 ^ w → ol ≤ a → a ≤ B.lo → oh < ol + size ω Q
      → Grow κ (view ω Q μ ol oh) (view ω Q μ ol (oh + 1))
      → Owed κ w δ (view ω Q μ ol oh') r.tag (finished_put (task_at (view ω Q μ ol oh) oh) ∷ h) rr
      → Base κ w ω δ (laid (StoreOut r ∷ []) Q) μ ol oh' rr φ (finished_put (task_at (view ω Q μ ol oh) oh) ∷ h)
  unfolding v
  base_put r oh' a rr is R eg lg l u f G O =
      record {
        lo = a;
        hi = oh';
        rep = R;
        tops = tops_refl κ oh';
        core = rw is (core_put (task_at v oh) a B.core f l u refl);
        sized = B.sized;
        sorted = B.sorted;
        room = B.room;
        tag = lg;
        owed = O;
        th = λ i. thief_holds {w = w} {g = Q.anchor.tag} {g' = r.tag} {h = h} {h' = finished_put (task_at v oh) ∷ h} {k = suc i} (rw (eg, is) (move_put (task_at v oh) (frame_same v ol (oh + 1) (omega arith)) G)) (φ i) (B.th i);
      }

-- a store that is no put's
abbrev pub Laid : Kind → ℕ → ℕ → Bool → Queue → List ℕ → ℕ → ℕ → Store → List Store → (ℕ → Line) → History → Type 0
Laid κ w ω δ Q μ ol oh s ss φ h = Base κ w ω δ (laid (s ∷ []) Q) (words_of ω Q.arrays s μ) (lo_of s ol) (hi_of κ s ol oh) ss φ h

-- an index that leaves at the top, at the bottom
top_leaves : (P : ℕ → Type 0) (ol oh c i : ℕ) → c + 1 ≡ oh → P (oh - 1) → ol ≤ i → i < oh → (i < ol) ⊎ (c ≤ i) → P i
top_leaves P ol oh c i e p l u (inl q) = absurd (omega arith)
top_leaves P ol oh c i e p l u (inr q) = subst P {x = oh - 1} {y = i} (omega arith) p

low_leaves : (P : ℕ → Type 0) (ol oh i : ℕ) → P ol → ol ≤ i → i < oh → (i < ol + 1) ⊎ (oh ≤ i) → P i
low_leaves P ol oh i p l u (inl q) = subst P {x = ol} {y = i} (omega arith) p
low_leaves P ol oh i p l u (inr q) = absurd (omega arith)

pub base_lay : (κ : Kind) (w ω : ℕ) (δ : Bool) (Q : Queue) (μ : List ℕ) (ol oh : ℕ) (s : Store) (ss : List Store) (φ : ℕ → Line) (h : History) → NotPut s
    → Base κ w ω δ Q μ ol oh (s ∷ ss) φ h → Laid κ w ω δ Q μ ol oh s ss φ h
base_lay κ w ω δ Q μ ol oh (StoreWord b s j x) ss φ h n B = base_word B (offset_at Q.arrays b + (ω + 1) * s + j) x ss B.owed.0 B.owed.1
base_lay κ w ω δ Q μ ol oh (StoreNote k) ss φ h p B = base_note B k ss B.owed.0.0 B.owed.0.1 B.owed.0.2 B.owed.1
base_lay κ w ω δ Q μ ol oh (StorePut r) ss φ h n B = absurd n
base_lay Lifo w ω δ Q μ ol oh (StoreOut r) ss φ h n B =
    base_out B r ol r.count ol r.count ss (F.1.0, F.1.1, refl) F.2 (omega arith) (omega arith) (omega (arith, F.1.2, F.3)) (omega arith) (omega (arith, F.1.2)) tt tt
    (λ i p q. top_leaves (λ (i : ℕ). Out (task_at (view ω Q μ ol oh) i) h) ol oh r.count i (omega (arith, F.1.2, F.3)) F.4 (omega (arith, B.core.low)) (omega (arith, B.core.high))) B.owed.1
  where
    F : Fits Lifo w δ (view ω Q μ ol oh) Q.anchor.tag h (StoreOut r)
    F = B.owed.0
base_lay Fifo w ω δ Q μ ol oh (StoreOut r) ss φ h n B = absurd B.owed.0.0
base_lay Deque w ω δ Q μ ol oh (StoreOut r) ss φ h n B =
    base_out B r ol (ol + r.count) ol (ol + r.count) ss (F.1.0, refl) F.2 (omega arith) (omega arith) (omega (arith, F.1.1, F.3)) (omega arith) (omega (arith, F.1.1)) refl tt
    (λ i p q. top_leaves (λ (i : ℕ). Out (task_at (view ω Q μ ol oh) i) h) ol oh (ol + r.count) i (omega (arith, F.1.1, F.3)) F.4 (omega (arith, B.core.low)) (omega (arith, B.core.high))) B.owed.1
  where
    F : Fits Deque w δ (view ω Q μ ol oh) Q.anchor.tag h (StoreOut r)
    F = B.owed.0
base_lay Lifo w ω δ Q μ ol oh (StoreHead i) ss φ h n B = absurd B.owed.0.0
base_lay Fifo w ω δ Q μ ol oh (StoreHead i) ss φ h n B =
    base_out B (anchor i Q.anchor.count Q.anchor.tag) i oh i oh ss (refl, sym B.tops ∙ B.rep.1) refl (omega (arith, F.1)) (omega arith) (omega (arith, F.1, F.2)) (omega arith) (omega arith) refl (omega arith)
    (λ j p q x. low_leaves (λ (i : ℕ). Out (task_at (view ω Q μ ol oh) i) h) ol oh j F.3 (omega (arith, B.core.low)) (omega (arith, B.core.high)) (subst (λ (y : ℕ). (j < y) ⊎ (oh ≤ j)) F.1 x)) B.owed.1
  where
    F : Fits Fifo w δ (view ω Q μ ol oh) Q.anchor.tag h (StoreHead i)
    F = B.owed.0
base_lay Deque w ω δ Q μ ol oh (StoreHead i) ss φ h n B = absurd B.owed.0.0
base_lay κ w ω δ Q μ ol oh (StoreTail i) ss φ h n B = absurd n

-- a put's store: from now on it is in memory
pub base_lay_put : (κ : Kind) (w ω : ℕ) (δ : Bool) (Q : Queue) (μ : List ℕ) (ol oh : ℕ) (s : Store) (ss : List Store) (φ : ℕ → Line) (h : History) → IsPut s
    → Base κ w ω δ Q μ ol oh (s ∷ ss) φ h → Laid κ w ω δ Q μ ol oh s ss φ (finished_put (task_at (view ω Q μ ol oh) oh) ∷ h) × Answered δ (task_at (view ω Q μ ol oh) oh) h
base_lay_put κ w ω δ Q μ ol oh (StoreWord b s j x) ss φ h p B = absurd p
base_lay_put κ w ω δ Q μ ol oh (StoreNote k) ss φ h p B = absurd p
base_lay_put Lifo w ω δ Q μ ol oh (StorePut r) ss φ h p B = (
  base_put B r r.count ol ss (sym F.1.2) (F.1.0, F.1.1, refl) F.2 (omega (arith, F.2, mod-lt (Q.anchor.tag + 1) (pow_pos w))) (omega arith) B.core.low F.3.0 tt
      (owed_later Lifo w δ _ _ h _ ss B.owed.1),
  F.3.1,
)
  where
    F : Fits Lifo w δ (view ω Q μ ol oh) Q.anchor.tag h (StorePut r)
    F = B.owed.0
base_lay_put Fifo w ω δ Q μ ol oh (StorePut r) ss φ h p B = absurd B.owed.0.0
base_lay_put Deque w ω δ Q μ ol oh (StorePut r) ss φ h p B = (
  base_put B r (ol + r.count) ol ss (sym F.1.1) (F.1.0, refl) F.2 (omega (arith, F.2, mod-lt (Q.anchor.tag + 1) (pow_pos w))) (omega arith) B.core.low F.3.0 tt
      (owed_later Deque w δ _ _ h _ ss B.owed.1),
  F.3.1,
)
  where
    F : Fits Deque w δ (view ω Q μ ol oh) Q.anchor.tag h (StorePut r)
    F = B.owed.0
base_lay_put κ w ω δ Q μ ol oh (StoreOut r) ss φ h p B = absurd p
base_lay_put κ w ω δ Q μ ol oh (StoreHead i) ss φ h p B = absurd p
base_lay_put Lifo w ω δ Q μ ol oh (StoreTail i) ss φ h p B = absurd B.owed.0.0
base_lay_put Fifo w ω δ Q μ ol oh (StoreTail i) ss φ h p B = (
  base_put B (anchor Q.anchor.head i Q.anchor.tag) i B.lo ss F.1 (B.rep.0, refl) refl B.tag B.core.low (omega arith) F.2.0 (omega arith)
      (owed_later Fifo w δ _ _ h _ ss B.owed.1),
  F.2.1,
)
  where
    F : Fits Fifo w δ (view ω Q μ ol oh) Q.anchor.tag h (StoreTail i)
    F = B.owed.0
base_lay_put Deque w ω δ Q μ ol oh (StoreTail i) ss φ h p B = absurd B.owed.0.0
