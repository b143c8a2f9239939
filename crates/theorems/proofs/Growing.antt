-- While the owner copies, the window lies in what X2 noted, and what is copied stands in both arrays; thieves only make the
-- window smaller. No premise is needed.
use mathlib.Core.Path.{◌≡◌, refl, sym, ◌∙◌, ap, subst}
use mathlib.Core.Bool.{Bool, true, false, true≢false}
use mathlib.Core.Logic.{◌⊎◌, inl, inr}
use mathlib.Core.List.{List, [], ◌∷◌, ◌++◌, map}
use Prim.Native.Nat.{ℕ, zero, suc, ◌+◌, ◌-◌, ◌%◌, ◌≤◌, ◌<◌}
use native.Mathlib.Omega.{arith}
use native.Mathlib.Nat.{mod-eq_of_lt, mod-add-mod}
use lib.Dec.{eqb}
use lib.ListN.{length, take}
use borrow.Author.Tests.{eqb-true, eqb-false}
use Rattle.model.specs.declared.Growth.{Growth}
use Rattle.model.specs.declared.Growth.TheVariants.{ForPut, ForCommit}
use Rattle.model.specs.declared.Kind.{Kind}
use Rattle.model.specs.declared.Kind.TheVariants.{Lifo, Fifo, Deque}
use Rattle.model.specs.declared.Line.{Line}
use Rattle.model.specs.declared.Line.TheVariants.{Idle, PutRead, PutTail, PutTest, PutWord, PutFinish, Claim, Note, Copy, Publish, TakeRead, TakeTail, TakeTest, TakeWord, TakeFinish, StealRead, StealTail, StealTest, StealNote, StealWord, StealNext, StealCompare}
use Rattle.model.specs.declared.Anchor.{Anchor}
use Rattle.model.specs.declared.Region.{Region}
use Rattle.model.specs.declared.Queue.{Queue}
use Rattle.model.specs.declared.Room.{Room}
use Rattle.model.specs.declared.Store.{Store}
use Rattle.model.specs.declared.Store.TheVariants.{StoreWord, StoreNote, StorePut, StoreOut, StoreHead, StoreTail}
use Rattle.model.specs.declared.Waiting.{Waiting}
use Rattle.model.specs.declared.Operation.{Operation}
use Rattle.model.specs.declared.Operation.TheVariants.{Put, Take, Steal, Commit}
use Rattle.model.specs.Tests.{when◌then◌else◌}
use Rattle.model.proofs.Tests.{and_left, and_right}
use Rattle.model.specs.Memory.{offset_at, length_at, size_at}
use Rattle.model.proofs.Directory.{Next, tidy_last, tidy_front, tidy_twice}
use Rattle.model.specs.Figures.{is_same, steal_store, note, anchor}
use Rattle.model.specs.Stores.{in_line, joined}
use Rattle.model.specs.Lines.{Effect, size, copy_words, fits, succeeds, holds_link, line_step}
use Rattle.model.specs.World.{World, Outcome, tag_bits, line_at, is_expanding}
use Rattle.model.specs.Limits.{tidy, link_ok}
use Rattle.model.specs.Calls.{right_hand, joining, landing, first_line, begun, Call, call_in}
use Rattle.theorems.proofs.Folds.{AllWords, words_keep, copy_words_lem, places, anchor_after, laid, words, arrays_after, store_after}
use Rattle.theorems.proofs.Directory.{Arrays, Others, now, long}
use Rattle.theorems.proofs.Indices.{StandsFor, Start}
use Rattle.theorems.proofs.Window.{View}
use Rattle.theorems.proofs.Owed.{Claimed, Copied, words_join, anchor_join}
use Rattle.theorems.proofs.Shape.{claim_expands, tail, Bounded, ThiefShape, lows, Path, Shape}
use Rattle.theorems.proofs.ShapeLay.{places_join, same_places, shape_settle}
use Rattle.theorems.proofs.ShapeStep.{claim_only}
use Rattle.theorems.proofs.Asides.{line_next}
use Rattle.theorems.proofs.Invariant.{Copying}
use Rattle.theorems.proofs.OwnerLines.{CopiedOne, copy_step}
use Rattle.theorems.proofs.Claiming.{copied_same}
use Rattle.theorems.proofs.InvOthers.{agrees_others, others_seen}
use Rattle.theorems.proofs.Held.{line_join, line_drain}
use Rattle.theorems.proofs.Links.{link_parts}
use Rattle.theorems.proofs.Cases.{effect_of, step_to, drain_to, MayBegin, MayStep, call_by}
use Rattle.theorems.proofs.Valid.{thieves, Whole}
use Rattle.theorems.proofs.WholeRun.{line_same, line_other, in_crew, in_line_lem, thief_calm, thief_lands, storing}

-- THE WINDOW AGAINST THE ARRAYS. What is under way: the copy of k of the n indices from a on, a copy that is done, or neither
pub data Work : Type 0 where
  neither : Work
  copying : ℕ → ℕ → ℕ → Work
  copied : Work

abbrev pub work_of : Line → Work
work_of Idle = neither
work_of (PutRead t) = neither
work_of (PutTail t h) = neither
work_of (PutTest t r) = neither
work_of (PutWord t r j) = neither
work_of (PutFinish t r) = neither
work_of (Claim g) = neither
work_of (Note g) = neither
work_of (Copy g a n k) = copying a n k
work_of (Publish g) = copied
work_of TakeRead = neither
work_of (TakeTail h) = neither
work_of (TakeTest r) = neither
work_of (TakeWord r t j) = neither
work_of (TakeFinish r t) = neither
work_of StealRead = neither
work_of (StealTail h) = neither
work_of (StealTest r) = neither
work_of (StealNote r) = neither
work_of (StealWord r k t j) = neither
work_of (StealNext r t) = neither
work_of (StealCompare r e t) = neither

no_work : (o : Line) → is_expanding o ≡ false → work_of o ≡ neither
no_work Idle e = refl
no_work (PutRead t) e = refl
no_work (PutTail t h) e = refl
no_work (PutTest t r) e = refl
no_work (PutWord t r j) e = refl
no_work (PutFinish t r) e = refl
no_work (Claim g) e = refl
no_work (Note g) e = refl
no_work (Copy g a n k) e = absurd (true≢false e)
no_work (Publish g) e = absurd (true≢false e)
no_work TakeRead e = refl
no_work (TakeTail h) e = refl
no_work (TakeTest r) e = refl
no_work (TakeWord r t j) e = refl
no_work (TakeFinish r t) e = refl
no_work StealRead e = refl
no_work (StealTail h) e = refl
no_work (StealTest r) e = refl
no_work (StealNote r) e = refl
no_work (StealWord r k t j) e = refl
no_work (StealNext r t) e = refl
no_work (StealCompare r e' t) e = refl

-- what the owner reads: the anchor a, of the directory l the first p arrays, the words m
abbrev pub seen : ℕ → List Region → ℕ → List ℕ → ℕ → ℕ → View
seen ω l p m lo hi = record { words = ω; store = m; directory = l; published = p; base = offset_at l (p - 1); slots = size_at ω l (p - 1); own_lo = lo; own_hi = hi }

-- the anchor's window [lo, hi)
abbrev pub InWindow : Kind → Anchor → (ℕ → ℕ → Type 0) → Type 0
InWindow κ a P = (lo : ℕ) × (hi : ℕ) × StandsFor κ a lo hi × (lo ≤ hi) × P lo hi

abbrev pub Works : Kind → ℕ → Anchor → List Region → ℕ → List ℕ → Work → Type 0
Works κ ω a l p m neither = Unit {0}
Works κ ω a l p m (copying b n k) = InWindow κ a (λ lo hi. Copying κ (seen ω l p m lo hi) b n k)
Works κ ω a l p m copied = InWindow κ a (λ lo hi. Copied (seen ω l p m lo hi) lo hi)

-- A SMALLER WINDOW, or the same anchor
abbrev Within : Kind → Anchor → Anchor → Type 0
Within Lifo a b = (b.head ≡ a.head) × (b.count ≤ a.count)
Within Fifo a b = (a.head ≤ b.head) × (b.head ≤ b.count) × (b.count ≡ a.count) × (b.tag ≡ a.tag)
Within Deque a b = (d : ℕ) × (b.head ≡ (a.head + d) % 2048) × (b.count + d ≡ a.count)

abbrev Smaller : Kind → Anchor → Anchor → Type 0
Smaller κ a b = Within κ a b ⊎ (b ≡ a)

-- the window of b lies in [lo, hi)
smaller_window : (κ : Kind) (a b : Anchor) (lo hi : ℕ) → Within κ a b → StandsFor κ a lo hi → lo ≤ hi
    → (x : ℕ) × (y : ℕ) × StandsFor κ b x y × (x ≤ y) × (lo ≤ x) × (y ≤ hi)
smaller_window Lifo a b lo hi s r l = (0, b.count, (s.0 ∙ r.0, refl, refl), omega arith, omega (arith, r.1), omega (arith, s.1, r.2))
smaller_window Fifo a b lo hi s r l = (b.head, b.count, (refl, refl), s.1, omega (arith, s.0, r.0), omega (arith, s.2, r.1))
smaller_window Deque a b lo hi (d, s, t) r l = (
  lo + d,
  lo + d + b.count,
  (s ∙ ap (λ (x : ℕ). (x + d) % 2048) r.0 ∙ mod-add-mod lo 2048 d, refl),
  omega arith,
  omega arith,
  omega (arith, t, r.1),
)

works_within : (κ : Kind) (ω : ℕ) (a b : Anchor) (l : List Region) (p : ℕ) (m : List ℕ) (u : Work) → Within κ a b → Works κ ω a l p m u → Works κ ω b l p m u
works_within κ ω a b l p m neither s u = tt
works_within κ ω a b l p m (copying c n k) s (lo, hi, r, le, C) =
    let (x, y, r', le', low, high) = smaller_window κ a b lo hi s r le in (
      x,
      y,
      r',
      le',
      record { from = C.from; start = C.start; low = omega (arith, C.low, low); high = omega (arith, C.high, high); few = C.few; more = C.more; copied = C.copied },
    )
works_within κ ω a b l p m copied s (lo, hi, r, le, C) =
    let (x, y, r', le', low, high) = smaller_window κ a b lo hi s r le in
    (x, y, r', le', λ i j g h t. C i j (omega (arith, low, g)) (omega (arith, high, h)) t)

works_smaller : (κ : Kind) (ω : ℕ) (a b : Anchor) (l : List Region) (p : ℕ) (m : List ℕ) (u : Work) → Smaller κ a b → Works κ ω a l p m u → Works κ ω b l p m u
works_smaller κ ω a b l p m u (inl s) x = works_within κ ω a b l p m u s x
works_smaller κ ω a b l p m u (inr e) x = subst (λ (c : Anchor). Works κ ω c l p m u) (sym e) x

-- also with the waiting stores put down
waiting_smaller : (κ : Kind) (w ω : ℕ) (l : List Region) (c low p : ℕ) (ss : List Store) (a b : Anchor) → Path κ w ω l c low p (tail κ a) ss → Within κ a b → Smaller κ (anchor_after ss a) (anchor_after ss b)
waiting_smaller κ w ω l c low p [] a b P s = inl s
waiting_smaller κ w ω l c low p (StoreWord n t j x ∷ ss) a b P s = waiting_smaller κ w ω l c low p ss a b P.1 s
waiting_smaller κ w ω l c low p (StoreNote k ∷ ss) a b P s = waiting_smaller κ w ω l c low (k + 1) ss a b P.1 s
waiting_smaller κ w ω l c low p (StorePut r ∷ ss) a b P s = inr refl
waiting_smaller κ w ω l c low p (StoreOut r ∷ ss) a b P s = inr refl
waiting_smaller Lifo w ω l c low p (StoreHead i ∷ ss) a b P s = absurd P.0
waiting_smaller Fifo w ω l c low p (StoreHead i ∷ ss) a b P s = inr (ap (anchor_after ss) (rw (s.2, s.3)))
waiting_smaller Deque w ω l c low p (StoreHead i ∷ ss) a b P s = absurd P.0
waiting_smaller Lifo w ω l c low p (StoreTail i ∷ ss) a b P s = absurd P.0
waiting_smaller Fifo w ω l c low p (StoreTail i ∷ ss) a b P s =
    waiting_smaller Fifo w ω l c low p ss (anchor a.head i a.tag) (anchor b.head i b.tag) P.1 (s.0, omega (arith, s.1, s.2, P.0.0), refl, s.3)
waiting_smaller Deque w ω l c low p (StoreTail i ∷ ss) a b P s = absurd P.0

-- A THIEF'S LINE makes the window smaller and leaves words and directory
pub record Steals (κ : Kind) (ω : ℕ) (q : Queue) (m : List ℕ) (rr : List Store) : Type 0 where
  pub less : Smaller κ q.anchor (anchor_after rr q.anchor)
  pub arrays : places rr q.published ≡ q.published
  pub words_same : words ω q.arrays rr m ≡ m

none_stolen : (κ : Kind) (ω : ℕ) (q : Queue) (m : List ℕ) → Steals κ ω q m []
none_stolen κ ω q m = record { less = inr refl; arrays = refl; words_same = refl }

either_stolen : (κ : Kind) (ω : ℕ) (q : Queue) (m : List ℕ) (x : Bool) (E E' : Effect) → (x ≡ true → Steals κ ω q m E.stores) → Steals κ ω q m E'.stores → Steals κ ω q m (when x then E else E').stores
unfolding when◌then◌else◌
either_stolen κ ω q m true E E' s t = s refl
either_stolen κ ω q m false E E' s t = t

stolen : (κ : Kind) (w ω : ℕ) (q : Queue) (m : List ℕ) (low : ℕ) (r : Anchor) (e : ℕ) (t : _) → Bounded κ w (size ω q) low q.anchor → is_same κ q.anchor r ≡ true
    → ThiefShape κ w ω q (tail κ q.anchor) (StealCompare r e t) → Steals κ ω q m (steal_store κ r e ∷ [])
stolen Lifo w ω q m low r e t b s (R, x, y, z) =
    record { less = inl (R.0 ∙ sym b.0, omega (arith, eqb-true q.anchor.count r.count (and_left _ _ s))); arrays = refl; words_same = refl }
stolen Fifo w ω q m low r e t b s (R, x, y, z) =
    record { less = inl (omega (arith, is), omega (arith, x, R.1), refl, refl); arrays = refl; words_same = refl }
  where
    is : q.anchor.head ≡ r.head
    is = eqb-true q.anchor.head r.head s
stolen Deque w ω q m low r e t b s (R, x, y, z) =
    record { less = inl (1, y ∙ ap (λ (h : ℕ). (h + 1) % 2048) (sym head), omega (arith, x, count)); arrays = refl; words_same = refl }
  where
    head : q.anchor.head ≡ r.head
    head = eqb-true q.anchor.head r.head (and_left _ _ s)

    count : q.anchor.count ≡ r.count
    count = eqb-true q.anchor.count r.count (and_left _ _ (and_right (eqb q.anchor.head r.head) _ s))

-- a compare that succeeds finds the anchor as it was read
finds : (κ : Kind) (q : Queue) (i : ℕ) (r : Anchor) (x : Bool) → (holds_link q i ≡ true → is_same κ q.anchor r ≡ true) → (when x then holds_link q i else is_same κ q.anchor r) ≡ true → is_same κ q.anchor r ≡ true
unfolding when◌then◌else◌
finds κ q i r true f e = f e
finds κ q i r false f e = e

thief_steals : (ρ : Room) (κ : Kind) (w ω : ℕ) (q : Queue) (m : List ℕ) (low i : ℕ) (θ : Line) → Bounded κ w (size ω q) low q.anchor → (holds_link q i ≡ true → link_ok κ q θ ≡ true)
    → ThiefShape κ w ω q (tail κ q.anchor) θ → Steals κ ω q m (line_step ρ κ w ω q m i θ).stores
unfolding line_step
thief_steals ρ κ w ω q m low i Idle b f s = none_stolen κ ω q m
thief_steals ρ κ w ω q m low i StealRead b f s = none_stolen κ ω q m
thief_steals ρ κ w ω q m low i (StealTail h) b f s = none_stolen κ ω q m
thief_steals ρ κ w ω q m low i (StealTest r) b f s = either_stolen κ ω q m _ _ _ (λ e. none_stolen κ ω q m) (none_stolen κ ω q m)
thief_steals ρ κ w ω q m low i (StealNote r) b f s = none_stolen κ ω q m
thief_steals ρ κ w ω q m low i (StealWord r k t j) b f s = none_stolen κ ω q m
thief_steals ρ κ w ω q m low i (StealNext r t) b f s = none_stolen κ ω q m
thief_steals ρ κ w ω q m low i (StealCompare r e t) b f s =
    either_stolen κ ω q m (succeeds κ q i r) _ _
    (λ x. stolen κ w ω q m low r e t b (finds κ q i r q.linked (λ h. (link_parts κ q (StealCompare r e t) (f h)).2) x) s) (none_stolen κ ω q m)
thief_steals ρ κ w ω q m low i (PutRead t) b f s = absurd s
thief_steals ρ κ w ω q m low i (PutTail t h) b f s = absurd s
thief_steals ρ κ w ω q m low i (PutTest t r) b f s = absurd s
thief_steals ρ κ w ω q m low i (PutWord t r j) b f s = absurd s
thief_steals ρ κ w ω q m low i (PutFinish t r) b f s = absurd s
thief_steals ρ κ w ω q m low i (Claim g) b f s = absurd s
thief_steals ρ κ w ω q m low i (Note g) b f s = absurd s
thief_steals ρ κ w ω q m low i (Copy g h n k) b f s = absurd s
thief_steals ρ κ w ω q m low i (Publish g) b f s = absurd s
thief_steals ρ κ w ω q m low i TakeRead b f s = absurd s
thief_steals ρ κ w ω q m low i (TakeTail h) b f s = absurd s
thief_steals ρ κ w ω q m low i (TakeTest r) b f s = absurd s
thief_steals ρ κ w ω q m low i (TakeWord r t j) b f s = absurd s
thief_steals ρ κ w ω q m low i (TakeFinish r t) b f s = absurd s

-- WHAT THE OWNER READS, in a queue with none waiting. The anchor's window
pub anchors_window : (κ : Kind) (w z low : ℕ) (a : Anchor) → Bounded κ w z low a → InWindow κ a (λ lo hi. hi ≤ lo + z)
anchors_window Lifo w z low a b = (0, a.count, (b.0, refl, refl), omega arith, omega (arith, b.1))
anchors_window Fifo w z low a b = (a.head, a.count, (refl, refl), b.1, omega (arith, b.0, b.2))
anchors_window Deque w z low a b = (a.head, a.head + a.count, (sym (mod-eq_of_lt b.0), refl), omega arith, omega (arith, b.1))

-- the claimed array lies behind the current one
pub claimed_array : (ω : ℕ) (q : Queue) (m : List ℕ) (lo hi : ℕ) → Arrays ω q m → q.claimed ≡ q.published + 1 → Claimed (seen ω q.arrays q.published m lo hi)
claimed_array ω q m lo hi A e = (
  omega (arith, A.room, N.longer, is_l, long A, ap (offset_at q.arrays) last, ap (length_at q.arrays) last),
  N.small,
  omega (arith, is_o, N.place, long A),
  ap (size_at ω q.arrays) is ∙ tidy_twice ω q.arrays (q.published - 1) t,
  A.some,
)
  where
    is : q.published ≡ suc (q.published - 1)
    is = omega (arith, A.some)

    last : q.claimed - 1 ≡ q.published
    last = omega (arith, e)

    t : tidy ω q.arrays (suc (suc (q.published - 1))) ≡ true
    t = tidy_front ω q.arrays q.claimed (suc (q.published - 1)) A.tidied (omega (arith, e, A.some))

    N : Next ω q.arrays (q.published - 1)
    N = tidy_last ω q.arrays (q.published - 1) t

    is_o : offset_at q.arrays q.published ≡ offset_at q.arrays (suc (q.published - 1))
    is_o = ap (offset_at q.arrays) is

    is_l : length_at q.arrays q.published ≡ length_at q.arrays (suc (q.published - 1))
    is_l = ap (length_at q.arrays) is

-- X2: the indices from lo on are noted, n of them, from b
noted_works : (κ : Kind) (ω : ℕ) (a : Anchor) (l : List Region) (p : ℕ) (m : List ℕ) (g : Growth) (b n lo hi : ℕ) (x : Bool) → eqb n 0 ≡ x → StandsFor κ a lo hi → lo ≤ hi → Start κ b lo → hi ≤ lo + n
    → n ≤ size_at ω l (p - 1) → Works κ ω a l p m (work_of (when x then Publish g else Copy g b n 0))
unfolding when◌then◌else◌
noted_works κ ω a l p m g b n lo hi true e r le s u f = (lo, hi, r, le, λ i j c d t. absurd (omega (arith, eqb-true n 0 e)))
noted_works κ ω a l p m g b n lo hi false e r le s u f = (
  lo,
  hi,
  r,
  le,
  record { from = lo; start = s; low = omega arith; high = u; few = f; more = omega (arith, eqb-false n 0 e); copied = λ i j c d t. absurd (omega arith) },
)

note_works : (κ : Kind) (w ω low : ℕ) (q : Queue) (m : List ℕ) (g : Growth) → Bounded κ w (size ω q) low q.anchor → Works κ ω q.anchor q.arrays q.published m (work_of (note κ (size ω q) q.anchor g))
note_works Lifo w ω low q m g b =
    noted_works Lifo ω q.anchor q.arrays q.published m g 0 (size ω q) 0 q.anchor.count (eqb (size ω q) 0) refl (b.0, refl, refl) (omega arith) (refl, refl) (omega (arith, b.1)) (omega arith)
note_works Fifo w ω low q m g b =
    noted_works Fifo ω q.anchor q.arrays q.published m g q.anchor.head (q.anchor.count - q.anchor.head) q.anchor.head q.anchor.count (eqb (q.anchor.count - q.anchor.head) 0) refl (refl, refl) b.1 refl
    (omega (arith, b.1)) (omega (arith, b.0, b.2))
note_works Deque w ω low q m g b =
    noted_works Deque ω q.anchor q.arrays q.published m g q.anchor.head q.anchor.count q.anchor.head (q.anchor.head + q.anchor.count) (eqb q.anchor.count 0) refl (sym (mod-eq_of_lt b.0), refl) (omega arith)
    (sym (mod-eq_of_lt b.0)) (omega arith) b.1

-- X3
pub same_anchor : (ss : List Store) (a : Anchor) → AllWords ss → anchor_after ss a ≡ a
same_anchor ss a x = words_keep (λ (l : List Store). anchor_after l a) (λ b s j y l. refl) ss x

copy_works : (κ : Kind) (ω : ℕ) (q : Queue) (m : List ℕ) (g : Growth) (b n k : ℕ) (x : Bool) → eqb (k + 1) n ≡ x → Arrays ω q m → q.claimed ≡ q.published + 1
    → Works κ ω q.anchor q.arrays q.published m (copying b n k)
    → let rr = copy_words κ ω q m (b + k) (ω + 1) in
    Works κ ω (anchor_after rr q.anchor) q.arrays (places rr q.published) (words ω q.arrays rr m) (work_of (when x then Publish g else Copy g b n (k + 1)))
unfolding when◌then◌else◌
copy_works κ ω q m g b n k x e A c (lo, hi, r, le, C) = rw (same_anchor rr q.anchor W, same_places rr q.published W) (go x e)
  where
    rr : List Store
    rr = copy_words κ ω q m (b + k) (ω + 1)

    W : AllWords (copy_words κ ω q m (b + k) (ω + 1))
    W = copy_words_lem κ ω q m (b + k) (ω + 1)

    X : CopiedOne κ ω q m lo hi b k C.from
    X = copy_step κ ω q m lo hi b n k (now A) (claimed_array ω q m lo hi A c) C

    go : (x : Bool) → eqb (k + 1) n ≡ x → Works κ ω q.anchor q.arrays q.published (words ω q.arrays (copy_words κ ω q m (b + k) (ω + 1)) m) (work_of (when x then Publish g else Copy g b n (k + 1)))
    go true e = (lo, hi, r, le, λ i j s t h. X.copied i j (omega (arith, C.low, s)) (omega (arith, C.high, t, eqb-true (k + 1) n e)) h)
    go false e = (
      lo,
      hi,
      r,
      le,
      record {
        from = C.from;
        start = C.start;
        low = C.low;
        high = C.high;
        few = C.few;
        more = omega (arith, C.more, eqb-false (k + 1) n e);
        copied = λ i j s t h. X.copied i j s (omega (arith, t)) h;
      },
    )

-- the owner's line o leaves E
abbrev WorksOn : Kind → ℕ → Queue → List ℕ → Effect → Type 0
WorksOn κ ω q m E = Works κ ω (anchor_after E.stores q.anchor) q.arrays (places E.stores q.published) (words ω q.arrays E.stores m) (work_of E.line)

rest_works : (ρ : Room) (κ : Kind) (w ω : ℕ) (q : Queue) (m : List ℕ) (o : Line) → (line_step ρ κ w ω q m 0 o).claims ≡ false → is_expanding o ≡ false → WorksOn κ ω q m (line_step ρ κ w ω q m 0 o)
rest_works ρ κ w ω q m o f e =
    let E = line_step ρ κ w ω q m 0 o in
    subst (Works κ ω (anchor_after E.stores q.anchor) q.arrays (places E.stores q.published) (words ω q.arrays E.stores m)) (sym (no_work E.line ((line_next ρ κ w ω q m 0 o).1 f e))) tt

own_works : (ρ : Room) (κ : Kind) (w ω used low : ℕ) (q : Queue) (m : List ℕ) (o : Line) (φ : ℕ → Line) → Shape κ w ω used low q m [] o φ → Works κ ω q.anchor q.arrays q.published m (work_of o)
    → (line_step ρ κ w ω q m 0 o).claims ≡ false → WorksOn κ ω q m (line_step ρ κ w ω q m 0 o)
unfolding line_step when◌then◌else◌
own_works ρ κ w ω used low q m Idle φ S u f = tt
own_works ρ κ w ω used low q m (PutRead t) φ S u f = rest_works ρ κ w ω q m (PutRead t) f refl
own_works ρ κ w ω used low q m (PutTail t h) φ S u f = tt
own_works ρ κ w ω used low q m (PutTest t r) φ S u f = rest_works ρ κ w ω q m (PutTest t r) f refl
own_works ρ κ w ω used low q m (PutWord t r j) φ S u f = rest_works ρ κ w ω q m (PutWord t r j) f refl
own_works ρ κ w ω used low q m (PutFinish t r) φ S u f = tt
own_works ρ κ w ω used low q m (Claim g) φ S u f = rest_works ρ κ w ω q m (Claim g) f (claim_expands g)
own_works ρ κ w ω used low q m (Note g) φ S u f = note_works κ w ω low q m g S.anchor
own_works ρ κ w ω used low q m (Copy g b n k) φ S u f = copy_works κ ω q m g b n k (eqb (k + 1) n) refl S.arrays S.own.claims u
own_works ρ κ w ω used low q m (Publish (ForPut t)) φ S u f = tt
own_works ρ κ w ω used low q m (Publish ForCommit) φ S u f = tt
own_works ρ κ w ω used low q m TakeRead φ S u f = rest_works ρ κ w ω q m TakeRead f refl
own_works ρ κ w ω used low q m (TakeTail h) φ S u f = tt
own_works ρ κ w ω used low q m (TakeTest r) φ S u f = rest_works ρ κ w ω q m (TakeTest r) f refl
own_works ρ κ w ω used low q m (TakeWord r t j) φ S u f = rest_works ρ κ w ω q m (TakeWord r t j) f refl
own_works ρ κ w ω used low q m (TakeFinish r t) φ S u f = tt
own_works ρ κ w ω used low q m StealRead φ S u f = absurd S.own.shape
own_works ρ κ w ω used low q m (StealTail h) φ S u f = absurd S.own.shape
own_works ρ κ w ω used low q m (StealTest r) φ S u f = absurd S.own.shape
own_works ρ κ w ω used low q m (StealNote r) φ S u f = absurd S.own.shape
own_works ρ κ w ω used low q m (StealWord r k t j) φ S u f = absurd S.own.shape
own_works ρ κ w ω used low q m (StealNext r t) φ S u f = absurd S.own.shape
own_works ρ κ w ω used low q m (StealCompare r e t) φ S u f = absurd S.own.shape

-- A WORLD. A property of what the owner reads, after its step with the stores rr: they join the line or are put down at once
pub after_step : (P : Anchor → ℕ → List ℕ → Type 0) (δ : Bool) (l : Waiting) (rr : List Store) (a : Anchor) (d : List Region) (p ω : ℕ) (m : List ℕ) → (δ ≡ false → l.count ≡ 0) → l.count ≤ length l.stores
    → P (anchor_after rr (anchor_after (in_line l) a)) (places rr (places (in_line l) p)) (words ω d rr (words ω d (in_line l) m))
    → let ss = in_line (joined l (joining δ 0 rr)) in
    let tt' = landing δ 0 rr in
    P (anchor_after ss (anchor_after tt' a)) (places ss (places tt' p)) (words ω d ss (words ω d tt' m))
after_step P true l rr a d p ω m none h x =
    rw (line_join l rr h, anchor_join (in_line l) rr a, places_join (in_line l) rr p, words_join ω d (in_line l) rr m) x
after_step P false l rr a d p ω m none h x =
    subst (λ (ss : List Store). P (anchor_after ss (anchor_after rr a)) (places ss (places rr p)) (words ω d ss (words ω d rr m))) (sym empty')
    (subst (λ (ss : List Store). P (anchor_after rr (anchor_after ss a)) (places rr (places ss p)) (words ω d rr (words ω d ss m))) empty x)
  where
    empty : in_line l ≡ []
    empty = ap (λ (k : ℕ). take k l.stores) (none refl)

    empty' : in_line (joined l []) ≡ []
    empty' = line_join l [] h ∙ ap (λ (y : List Store). y ++ []) empty

-- with the stores ss waiting, and the owner at line o
abbrev pub WorksIn : World → List Store → Line → Type 0
WorksIn W ss o =
    let q = W.bench.queue in
    Works W.bench.kind W.bench.words (anchor_after ss q.anchor) q.arrays (places ss q.published) (words W.bench.words q.arrays ss W.store) (work_of o)

abbrev pub Grows : World → Type 0
Grows W = WorksIn W (in_line W.bench.waiting) (line_at W.bench.workers 0)

-- X1 leads to X2
claims_none : (g : Growth) (x : Bool) (E E' : Effect) → work_of E.line ≡ neither → work_of E'.line ≡ neither → work_of (when x then E else E').line ≡ neither
unfolding when◌then◌else◌
claims_none g true E E' p q = p
claims_none g false E E' p q = q

claim_none : (ρ : Room) (κ : Kind) (w ω : ℕ) (q : Queue) (m : List ℕ) (o : Line) → (line_step ρ κ w ω q m 0 o).claims ≡ true → work_of (line_step ρ κ w ω q m 0 o).line ≡ neither
unfolding line_step
claim_none ρ κ w ω q m o f =
    let (g, is, e) = claim_only ρ κ w ω q m 0 o f in
    subst (λ (x : Line). work_of (line_step ρ κ w ω q m 0 x).line ≡ neither) (sym is) (claims_none g (fits ρ ω q) _ _ refl refl)

module _ (ρ : Room) {W : World} (H : Whole W) (G : Grows W) where
  κ : Kind
  κ = W.bench.kind

  S : Shape W.bench.kind (tag_bits W.bench) W.bench.words W.bench.used (lows (in_line W.bench.waiting) H.low) (laid (in_line W.bench.waiting) W.bench.queue)
      (words W.bench.words W.bench.queue.arrays (in_line W.bench.waiting) W.store) [] (line_at W.bench.workers 0) (thieves W.bench.workers)
  S = shape_settle W.bench.kind (in_line W.bench.waiting) H.shape

  begun_grows : (i : ℕ) (op : Operation) → MayBegin W i op → Grows (begun W i op).world
  begun_grows zero op B =
      subst (WorksIn W (in_line W.bench.waiting)) (sym (line_same W.bench.workers 0 _ (in_crew H 0 B.member))) (first op B.hand)
    where
      first : (op : Operation) → right_hand 0 op ≡ true → WorksIn W (in_line W.bench.waiting) (first_line op W.bench.words W.bench.used)
      first (Put p) h = tt
      first Take h = tt
      first Steal h = tt
      first Commit h = tt
  begun_grows (suc k) op B =
      subst (WorksIn W (in_line W.bench.waiting)) (sym (line_other W.bench.workers (suc k) 0 _ (omega arith))) G

  -- the owner's step
  abbrev StepTo : ℕ → Line → Type 0
  StepTo i o = WorksIn (step_to ρ W i).world (in_line (step_to ρ W i).world.bench.waiting) o

  -- it claims or not, and u is then under way
  abbrev OwnThen : Bool → Work → Type 0
  OwnThen x u =
      let ss = in_line (step_to ρ W 0).world.bench.waiting in
      let rr = landing W.bench.delayed 0 (effect_of ρ W 0).stores in
      let d = arrays_after ρ x W.bench.queue in
      Works W.bench.kind W.bench.words (anchor_after ss (anchor_after rr W.bench.queue.anchor)) d (places ss (places rr W.bench.queue.published))
      (words W.bench.words d ss (words W.bench.words d rr (store_after ρ x W.bench.queue W.store))) u

  own_grows : StepTo 0 (effect_of ρ W 0).line
  own_grows = go (effect_of ρ W 0).claims refl
    where
      go : (x : Bool) → (effect_of ρ W 0).claims ≡ x → StepTo 0 (effect_of ρ W 0).line
      go true f = subst (OwnThen (effect_of ρ W 0).claims) (sym (claim_none ρ W.bench.kind (tag_bits W.bench) W.bench.words _ _ (line_at W.bench.workers 0) f)) tt
      go false f =
          subst (λ (x : Bool). OwnThen x (work_of (effect_of ρ W 0).line)) (sym f)
          (after_step (λ a p m. Works W.bench.kind W.bench.words a W.bench.queue.arrays p m (work_of (effect_of ρ W 0).line)) W.bench.delayed W.bench.waiting (effect_of ρ W 0).stores W.bench.queue.anchor W.bench.queue.arrays W.bench.queue.published W.bench.words W.store H.mode (in_line_lem H)
          (own_works ρ _ _ _ _ _ _ _ (line_at W.bench.workers 0) _ S G f))

  -- a thief's step
  thief_grows : (k : ℕ) → StepTo (suc k) (line_at W.bench.workers 0)
  thief_grows k = rw (thief_calm ρ H k, (thief_lands ρ H k).0, (thief_lands ρ H k).1, T.arrays, T.words_same) (smaller T.less)
    where
      T : Steals W.bench.kind W.bench.words W.bench.queue W.store (effect_of ρ W (suc k)).stores
      T = thief_steals ρ W.bench.kind (tag_bits W.bench) W.bench.words W.bench.queue W.store H.low (suc k) (line_at W.bench.workers (suc k)) H.shape.anchor (H.links (suc k)) (H.shape.th k)

      Then : Anchor → Type 0
      Then a =
          let ss = in_line W.bench.waiting in
          Works W.bench.kind W.bench.words (anchor_after ss a) W.bench.queue.arrays (places ss W.bench.queue.published) (words W.bench.words W.bench.queue.arrays ss W.store) (work_of (line_at W.bench.workers 0))

      smaller : Smaller W.bench.kind W.bench.queue.anchor (anchor_after (effect_of ρ W (suc k)).stores W.bench.queue.anchor) → Then (anchor_after (effect_of ρ W (suc k)).stores W.bench.queue.anchor)
      smaller (inl s) =
          works_smaller W.bench.kind W.bench.words (anchor_after (in_line W.bench.waiting) W.bench.queue.anchor) (anchor_after (in_line W.bench.waiting) (anchor_after (effect_of ρ W (suc k)).stores W.bench.queue.anchor))
          W.bench.queue.arrays (places (in_line W.bench.waiting) W.bench.queue.published) (words W.bench.words W.bench.queue.arrays (in_line W.bench.waiting) W.store) (work_of (line_at W.bench.workers 0))
          (waiting_smaller W.bench.kind (tag_bits W.bench) W.bench.words W.bench.queue.arrays W.bench.queue.claimed H.low W.bench.queue.published (in_line W.bench.waiting) W.bench.queue.anchor (anchor_after (effect_of ρ W (suc k)).stores W.bench.queue.anchor) H.shape.path s) G
      smaller (inr e) = subst Then (sym e) G

  stepped_grows : (i : ℕ) → MayStep ρ W i → Grows (step_to ρ W i).world
  stepped_grows zero M = subst (StepTo 0) (sym (line_same W.bench.workers 0 _ (in_crew H 0 M.member))) own_grows
  stepped_grows (suc k) M = subst (StepTo (suc k)) (sym (line_other W.bench.workers (suc k) 0 _ (omega arith))) (thief_grows k)

  drained_grows : 0 < W.bench.waiting.count → Grows (drain_to W)
  drained_grows some = subst (λ (ss : List Store). WorksIn W ss (line_at W.bench.workers 0)) (line_drain W.bench.waiting some (in_line_lem H)) G

  pub call_grows : (c : Call) → Grows (call_in ρ W c).world
  call_grows c = call_by (λ (D : Outcome). Grows D.world) W (λ r l. G) ρ begun_grows stepped_grows (λ i. G) drained_grows (λ n A. G) c

-- OTHERS WROTE outside the arrays
others_works : (κ : Kind) (ω : ℕ) (a : Anchor) (q : Queue) (m m' : List ℕ) (u : Work) → Arrays ω q m → Others q m m' → q.claimed ≡ q.published + 1 → Works κ ω a q.arrays q.published m u → Works κ ω a q.arrays q.published m' u
others_works κ ω a q m m' neither A O e w = tt
others_works κ ω a q m m' (copying b n k) A O e (lo, hi, r, le, C) = (
  lo,
  hi,
  r,
  le,
  record {
    from = C.from;
    start = C.start;
    low = C.low;
    high = C.high;
    few = C.few;
    more = C.more;
    copied = copied_same (agrees_others lo hi A O) (omega (arith, e)) (claimed_array ω q m lo hi A e) C.from (C.from + k) C.copied;
  },
)
others_works κ ω a q m m' copied A O e (lo, hi, r, le, C) = (lo, hi, r, le, copied_same (agrees_others lo hi A O) (omega (arith, e)) (claimed_array ω q m lo hi A e) lo hi C)

-- at X2 to X4 an array is claimed
pub expanding : {W : World} (H : Whole W) → is_expanding (line_at W.bench.workers 0) ≡ true → W.bench.queue.claimed ≡ places (in_line W.bench.waiting) W.bench.queue.published + 1
unfolding when◌then◌else◌
expanding {W} H e = let p = places (in_line W.bench.waiting) W.bench.queue.published in H.shape.own.claims ∙ ap (λ (x : Bool). when x then p + 1 else p) e

pub others_grows : {W : World} {m : List ℕ} → Whole W → Others W.bench.queue W.store m → Grows W → Grows (storing W m)
others_grows {W} {m} H O G = go (is_expanding (line_at W.bench.workers 0)) refl
  where
    ω : ℕ
    ω = W.bench.words

    q : Queue
    q = W.bench.queue

    ss : List Store
    ss = in_line W.bench.waiting

    go : (x : Bool) → is_expanding (line_at W.bench.workers 0) ≡ x → Grows (storing W m)
    go false f = subst (Works W.bench.kind ω (anchor_after ss q.anchor) q.arrays (places ss q.published) (words ω q.arrays ss m)) (sym (no_work (line_at W.bench.workers 0) f)) tt
    go true f =
        others_works W.bench.kind ω (anchor_after ss q.anchor) (laid ss q) (words ω q.arrays ss W.store) (words ω q.arrays ss m) (work_of (line_at W.bench.workers 0)) (shape_settle W.bench.kind ss H.shape).arrays
        (others_seen ω ss O) (expanding H f) G
