-- What the waiting stores will do to memory, one after the other: each is what a step of the owner did at once in a queue without
-- delayed stores, said of memory with the stores before it put down.
use mathlib.Core.Path.{◌≡◌, refl, sym, subst}
use mathlib.Core.Bool.{Bool, true, false}
use mathlib.Core.Logic.{◌≢◌}
use mathlib.Core.List.Memᴰ
use mathlib.Core.List.{List, [], ◌∷◌, ◌++◌}
use Prim.Native.Nat.{ℕ, zero, suc, ◌+◌, ◌-◌, ◌*◌, ◌%◌, ◌^◌, ◌≤◌, ◌<◌}
use lib.ListN.{length, set}
use Rattle.model.specs.declared.Kind.{Kind}
use Rattle.model.specs.declared.Kind.TheVariants.{Lifo, Fifo, Deque}
use Rattle.model.specs.declared.Queue.{Queue}
use Rattle.model.specs.declared.Region.{Region}
use Rattle.model.specs.declared.Task.{Task}
use Rattle.model.specs.declared.Anchor.{Anchor}
use Rattle.model.specs.declared.Store.{Store}
use Rattle.model.specs.declared.Store.TheVariants.{StoreWord, StoreNote, StorePut, StoreOut, StoreHead, StoreTail}
use Rattle.theorems.proofs.Folds.{anchor_of, anchor_after, laid, words_of, words}
use Rattle.model.specs.Memory.{offset_at, size_at}
use Rattle.theorems.proofs.Words.{off}
use Rattle.model.specs.Lines.{size}
use Rattle.theorems.proofs.Events.{Event, History, Out, Answered}
use Rattle.theorems.proofs.Words.{addr, cell}
use Rattle.theorems.proofs.Window.{View, word, task_at, later}
use Rattle.theorems.proofs.Indices.{StandsFor}
use Rattle.theorems.proofs.Seen.{Older}

abbrev pub view : ℕ → Queue → List ℕ → ℕ → ℕ → View
view ω Q μ own_lo own_hi = record { words = ω; store = μ; directory = Q.arrays; published = Q.published; base = off Q; slots = size ω Q; own_lo = own_lo; own_hi = own_hi }

-- an older array ends before the current one
abbrev pub Sorted : ℕ → Queue → Type 0
Sorted ω Q = (k : ℕ) → suc k < Q.published → offset_at Q.arrays k + (ω + 1) * size_at ω Q.arrays k ≤ off Q

-- the claimed array: where it lies
abbrev pub next_base : View → ℕ
next_base v = offset_at v.directory v.published

abbrev pub Claimed : View → Type 0
Claimed v =
    (next_base v + 2 * ((v.words + 1) * v.slots) ≤ length v.store) × (2 * v.slots ≤ 1024) × (v.base + (v.words + 1) * v.slots ≤ next_base v)
    × (size_at v.words v.directory v.published ≡ 2 * v.slots) × (0 < v.published)

-- the indices from lo up to hi are in the claimed array
abbrev pub Copied : View → ℕ → ℕ → Type 0
Copied v lo hi =
    (i j : ℕ) → lo ≤ i → i < hi → j < v.words + 1 → cell v.words v.store (next_base v) (2 * v.slots) i j ≡ word v i j

-- the owner's window after a store
abbrev pub top_of : Kind → ℕ → ℕ → Anchor → ℕ
top_of Lifo lo hi r = r.count
top_of Fifo lo hi r = hi
top_of Deque lo hi r = lo + r.count

abbrev pub lo_of : Store → ℕ → ℕ
lo_of (StoreWord b s j x) lo = lo
lo_of (StoreNote k) lo = lo
lo_of (StorePut r) lo = lo
lo_of (StoreOut r) lo = lo
lo_of (StoreHead i) lo = i
lo_of (StoreTail i) lo = lo

abbrev pub hi_of : Kind → Store → ℕ → ℕ → ℕ
hi_of κ (StoreWord b s j x) lo hi = hi
hi_of κ (StoreNote k) lo hi = hi
hi_of κ (StorePut r) lo hi = top_of κ lo hi r
hi_of κ (StoreOut r) lo hi = top_of κ lo hi r
hi_of κ (StoreHead i) lo hi = hi
hi_of κ (StoreTail i) lo hi = i

abbrev pub tag_of : Store → ℕ → ℕ
tag_of (StoreWord b s j x) g = g
tag_of (StoreNote k) g = g
tag_of (StorePut r) g = r.tag
tag_of (StoreOut r) g = r.tag
tag_of (StoreHead i) g = g
tag_of (StoreTail i) g = g

abbrev pub los : List Store → ℕ → ℕ
los [] lo = lo
los (s ∷ ss) lo = los ss (lo_of s lo)

abbrev pub his : Kind → List Store → ℕ → ℕ → ℕ
his κ [] lo hi = hi
his κ (s ∷ ss) lo hi = his κ ss (lo_of s lo) (hi_of κ s lo hi)

abbrev pub tags : List Store → ℕ → ℕ
tags [] g = g
tags (s ∷ ss) g = tags ss (tag_of s g)

-- memory with one store put down, and with all of them: what the owner reads
abbrev pub lay_view : Kind → Store → View → View
lay_view κ (StoreWord b s j x) v = record { words = v.words; store = set v.store (offset_at v.directory b + (v.words + 1) * s + j) x; directory = v.directory; published = v.published; base = v.base; slots = v.slots; own_lo = v.own_lo; own_hi = v.own_hi }
lay_view κ (StoreNote k) v = record { words = v.words; store = v.store; directory = v.directory; published = k + 1; base = offset_at v.directory (k + 1 - 1); slots = size_at v.words v.directory (k + 1 - 1); own_lo = v.own_lo; own_hi = v.own_hi }
lay_view κ (StorePut r) v = record { words = v.words; store = v.store; directory = v.directory; published = v.published; base = v.base; slots = v.slots; own_lo = v.own_lo; own_hi = top_of κ v.own_lo v.own_hi r }
lay_view κ (StoreOut r) v = record { words = v.words; store = v.store; directory = v.directory; published = v.published; base = v.base; slots = v.slots; own_lo = v.own_lo; own_hi = top_of κ v.own_lo v.own_hi r }
lay_view κ (StoreHead i) v = record { words = v.words; store = v.store; directory = v.directory; published = v.published; base = v.base; slots = v.slots; own_lo = i; own_hi = v.own_hi }
lay_view κ (StoreTail i) v = record { words = v.words; store = v.store; directory = v.directory; published = v.published; base = v.base; slots = v.slots; own_lo = v.own_lo; own_hi = i }

abbrev pub sight : Kind → ℕ → List Store → Queue → List ℕ → ℕ → ℕ → View
sight κ ω ss Q μ lo hi = view ω (laid ss Q) (words ω Q.arrays ss μ) (los ss lo) (his κ ss lo hi)

pub lay_is : (κ : Kind) (ω : ℕ) (s : Store) (Q : Queue) (μ : List ℕ) (lo hi : ℕ) → lay_view κ s (view ω Q μ lo hi) ≡ view ω (laid (s ∷ []) Q) (words_of ω Q.arrays s μ) (lo_of s lo) (hi_of κ s lo hi)
lay_is κ ω (StoreWord b s j x) Q μ lo hi = refl
lay_is κ ω (StoreNote k) Q μ lo hi = refl
lay_is κ ω (StorePut r) Q μ lo hi = refl
lay_is κ ω (StoreOut r) Q μ lo hi = refl
lay_is κ ω (StoreHead i) Q μ lo hi = refl
lay_is κ ω (StoreTail i) Q μ lo hi = refl

abbrev pub IsFifo : Kind → Type 0
IsFifo Lifo = ⊥
IsFifo Fifo = Unit {0}
IsFifo Deque = ⊥

abbrev pub NotFifo : Kind → Type 0
NotFifo Lifo = Unit {0}
NotFifo Fifo = ⊥
NotFifo Deque = Unit {0}

-- a word outside the owner's window, and not in an older array
abbrev pub Clear : View → ℕ → Type 0
Clear v a =
    ((b z : ℕ) → Older v b z → b ≤ a → a < b + (v.words + 1) * z → ⊥) × ((i j : ℕ) → v.own_lo ≤ i → i < v.own_hi → j < v.words + 1 → addr v.words v.base v.slots i j ≢ a)

-- a put's store: its task stands whole at the top of the owner's window; a hand-out's: its task was handed out
abbrev pub Puts : Bool → View → History → Type 0
Puts δ v h = (v.own_hi < v.own_lo + v.slots) × Answered δ (task_at v v.own_hi) h

abbrev pub Fits : Kind → ℕ → Bool → View → ℕ → History → Store → Type 0
Fits κ w δ v g h (StoreWord b s j x) = Clear v (offset_at v.directory b + (v.words + 1) * s + j)
Fits κ w δ v g h (StoreNote k) = (k ≡ v.published) × Claimed v × Copied v v.own_lo v.own_hi
Fits κ w δ v g h (StorePut r) = NotFifo κ × StandsFor κ r v.own_lo (v.own_hi + 1) × (r.tag ≡ (g + 1) % 2 ^ w) × Puts δ v h
Fits κ w δ v g h (StoreOut r) = NotFifo κ × StandsFor κ r v.own_lo (v.own_hi - 1) × (r.tag ≡ g) × (v.own_lo < v.own_hi) × Out (task_at v (v.own_hi - 1)) h
Fits κ w δ v g h (StoreHead i) = IsFifo κ × (i ≡ v.own_lo + 1) × (v.own_lo < v.own_hi) × Out (task_at v v.own_lo) h
Fits κ w δ v g h (StoreTail i) = IsFifo κ × (i ≡ v.own_hi + 1) × Puts δ v h

abbrev pub Owed : Kind → ℕ → Bool → View → ℕ → History → List Store → Type 0
Owed κ w δ v g h [] = Unit {0}
Owed κ w δ v g h (s ∷ ss) = Fits κ w δ v g h s × Owed κ w δ (lay_view κ s v) (tag_of s g) h ss

-- the store at place m of the line is the one of the put of t
abbrev pub IsPut : Store → Type 0
IsPut (StoreWord b s j x) = ⊥
IsPut (StoreNote k) = ⊥
IsPut (StorePut r) = Unit {0}
IsPut (StoreOut r) = ⊥
IsPut (StoreHead i) = ⊥
IsPut (StoreTail i) = Unit {0}

abbrev pub Label : Kind → View → List Store → ℕ → Task → Type 0
Label κ v [] m t = ⊥
Label κ v (s ∷ ss) zero t = IsPut s × (task_at v v.own_hi ≡ t)
Label κ v (s ∷ ss) (suc m) t = Label κ (lay_view κ s v) ss m t

-- A LATER HISTORY
pub answered_later : (δ : Bool) (t : Task) (h : History) (e : Event) → Answered δ t h → Answered δ t (e ∷ h)
answered_later true t h e (n, d) = (n, Memᴰ.tail d)
answered_later false t h e d = Memᴰ.tail d

fits_later : (κ : Kind) (w : ℕ) (δ : Bool) (v : View) (g : ℕ) (h : History) (e : Event) (s : Store) → Fits κ w δ v g h s → Fits κ w δ v g (e ∷ h) s
fits_later κ w δ v g h e (StoreWord b s j x) f = f
fits_later κ w δ v g h e (StoreNote k) f = f
fits_later κ w δ v g h e (StorePut r) (a, b, c, (d, f)) = (a, b, c, (d, answered_later δ _ h e f))
fits_later κ w δ v g h e (StoreOut r) (a, b, c, d, f) = (a, b, c, d, later e f)
fits_later κ w δ v g h e (StoreHead i) (a, b, c, f) = (a, b, c, later e f)
fits_later κ w δ v g h e (StoreTail i) (a, b, (c, f)) = (a, b, (c, answered_later δ _ h e f))

pub owed_later : (κ : Kind) (w : ℕ) (δ : Bool) (v : View) (g : ℕ) (h : History) (e : Event) (ss : List Store) → Owed κ w δ v g h ss → Owed κ w δ v g (e ∷ h) ss
owed_later κ w δ v g h e [] O = tt
owed_later κ w δ v g h e (s ∷ ss) (f, O) = (fits_later κ w δ v g h e s f, owed_later κ w δ (lay_view κ s v) (tag_of s g) h e ss O)

-- JOINING
pub owed_join : (κ : Kind) (w ω : ℕ) (δ : Bool) (Q : Queue) (μ : List ℕ) (lo hi g : ℕ) (h : History) (ss rr : List Store) → Owed κ w δ (view ω Q μ lo hi) g h ss
    → Owed κ w δ (sight κ ω ss Q μ lo hi) (tags ss g) h rr → Owed κ w δ (view ω Q μ lo hi) g h (ss ++ rr)
owed_join κ w ω δ Q μ lo hi g h [] rr O R = R
owed_join κ w ω δ Q μ lo hi g h (s ∷ ss) rr (f, O) R = (
  f,
  subst (λ (v : View). Owed κ w δ v (tag_of s g) h (ss ++ rr)) (sym (lay_is κ ω s Q μ lo hi))
      (owed_join κ w ω δ (laid (s ∷ []) Q) (words_of ω Q.arrays s μ) (lo_of s lo) (hi_of κ s lo hi) (tag_of s g) h ss rr
      (subst (λ (v : View). Owed κ w δ v (tag_of s g) h ss) (lay_is κ ω s Q μ lo hi) O) R),
)

pub label_join : (κ : Kind) (v : View) (ss rr : List Store) (m : ℕ) (t : Task) → Label κ v ss m t → Label κ v (ss ++ rr) m t
label_join κ v [] rr m t l = absurd l
label_join κ v (s ∷ ss) rr zero t l = l
label_join κ v (s ∷ ss) rr (suc m) t l = label_join κ (lay_view κ s v) ss rr m t l

-- the last one of those that join
pub label_last : (κ : Kind) (ω : ℕ) (Q : Queue) (μ : List ℕ) (lo hi : ℕ) (ss : List Store) (s : Store) (t : Task) → IsPut s → task_at (sight κ ω ss Q μ lo hi) (his κ ss lo hi) ≡ t → Label κ (view ω Q μ lo hi) (ss ++ (s ∷ [])) (length ss) t
label_last κ ω Q μ lo hi [] s t p e = (p, e)
label_last κ ω Q μ lo hi (r ∷ ss) s t p e =
    subst (λ (v : View). Label κ v (ss ++ (s ∷ [])) (length ss) t) (sym (lay_is κ ω r Q μ lo hi)) (label_last κ ω (laid (r ∷ []) Q) (words_of ω Q.arrays r μ) (lo_of r lo) (hi_of κ r lo hi) ss s t p e)

pub los_join : (ss rr : List Store) (x : ℕ) → los (ss ++ rr) x ≡ los rr (los ss x)
los_join [] rr x = refl
los_join (s ∷ ss) rr x = los_join ss rr (lo_of s x)

pub his_join : (κ : Kind) (ss rr : List Store) (x y : ℕ) → his κ (ss ++ rr) x y ≡ his κ rr (los ss x) (his κ ss x y)
his_join κ [] rr x y = refl
his_join κ (s ∷ ss) rr x y = his_join κ ss rr (lo_of s x) (hi_of κ s x y)

pub tags_join : (ss rr : List Store) (x : ℕ) → tags (ss ++ rr) x ≡ tags rr (tags ss x)
tags_join [] rr x = refl
tags_join (s ∷ ss) rr x = tags_join ss rr (tag_of s x)

pub words_join : (ω : ℕ) (l : List Region) (ss rr : List Store) (m : List ℕ) → words ω l (ss ++ rr) m ≡ words ω l rr (words ω l ss m)
words_join ω l [] rr m = refl
words_join ω l (s ∷ ss) rr m = words_join ω l ss rr (words_of ω l s m)

pub anchor_join : (ss rr : List Store) (a : Anchor) → anchor_after (ss ++ rr) a ≡ anchor_after rr (anchor_after ss a)
anchor_join [] rr a = refl
anchor_join (s ∷ ss) rr a = anchor_join ss rr (anchor_of s a)
