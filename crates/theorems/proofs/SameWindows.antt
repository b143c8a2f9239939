-- No line of X1 to X4 moves the window or changes a task in it.
use mathlib.Core.Path.{◌≡◌, refl, sym, ◌∙◌, ap, subst, subst₂}
use mathlib.Core.Bool.{Bool, true, false}
use mathlib.Core.List.{List, [], ◌∷◌}
use Prim.Native.Nat.{ℕ, zero, suc, ◌+◌, ◌-◌, ◌*◌, ◌%◌, ◌≤◌, ◌<◌}
use native.Mathlib.Omega.{arith}
use native.Mathlib.Nat.{mod-eq_of_lt}
use lib.ListN.{length, get_or, set, length-set}
use Rattle.model.specs.declared.Growth.{Growth}
use Rattle.model.specs.declared.Growth.TheVariants.{ForPut, ForCommit}
use Rattle.model.specs.declared.Kind.{Kind}
use Rattle.model.specs.declared.Kind.TheVariants.{Lifo, Fifo, Deque}
use Rattle.model.specs.declared.Line.{Line}
use Rattle.model.specs.declared.Line.TheVariants.{Idle, Claim, Note, Copy, Publish}
use Rattle.model.specs.declared.Anchor.{Anchor}
use Rattle.model.specs.declared.Task.{Task}
use Rattle.model.specs.declared.Region.{Region}
use Rattle.model.specs.declared.Queue.{Queue}
use Rattle.model.specs.declared.Room.{Room}
use Rattle.model.specs.declared.Answer.{Answer}
use Rattle.model.specs.declared.Store.{Store}
use Rattle.model.specs.declared.Store.TheVariants.{StoreWord, StoreNote, StorePut, StoreOut, StoreHead, StoreTail}
use Rattle.model.specs.declared.Answer.TheVariants.{GoesOn}
use Rattle.model.specs.Tests.{when◌then◌else◌}
use Rattle.model.specs.Memory.{zeros, word_at, offset_at, length_at, size_at}
use Rattle.model.specs.Tasks.{gathered}
use Rattle.model.proofs.Tasks.{same_words}
use Rattle.model.proofs.Directory.{Size, size_pos, size_twice}
use Rattle.model.specs.Figures.{slot}
use Rattle.model.specs.Stores.{Shared, in_line, next_length, claiming}
use Rattle.model.specs.Lines.{Effect, eff, size, word_of, copy_words, fits, publishes, line_step}
use Rattle.model.specs.World.{World, Outcome, room_alone, tag_bits, line_at, is_expanding}
use Rattle.model.specs.Window.{tasks, window_index}
use Rattle.model.specs.Calls.{fresh_of, landing, Call, call_in}
use Rattle.model.specs.Run.{Played, played}
use Rattle.theorems.specs.Demand3.{At, Does}
use Rattle.theorems.specs.Growth.{SameWindow, KeepsWindow, GrowthKeeps, GrowthMovesNothing}
use Rattle.theorems.proofs.Remainders.{wrap}
use Rattle.theorems.proofs.Folds.{places, anchor_after, laid, words, copy_words_lem, landed_is, arrays_after, store_after}
use Rattle.theorems.proofs.Words.{off, cell, word_w, set_place, zeros_low, zeros_length, addr, addr_in}
use Rattle.theorems.proofs.Directory.{Arrays, Free, fits_left, Admits, now, long, end}
use Rattle.theorems.proofs.Indices.{StandsFor}
use Rattle.theorems.proofs.Owed.{Claimed}
use Rattle.theorems.proofs.Shape.{tail, Bounded, ThiefShape, lows, Path, Shape}
use Rattle.theorems.proofs.ShapeLay.{same_places, shape_settle}
use Rattle.theorems.proofs.Claiming.{set_agree}
use Rattle.theorems.proofs.OwnerLines.{copy_step}
use Rattle.theorems.proofs.Cases.{effect_of, step_to, step_by, alone_is}
use Rattle.theorems.proofs.Valid.{thieves, Whole}
use Rattle.theorems.proofs.WholeRun.{in_line_lem, storing, others_whole, call_whole}
use Rattle.theorems.proofs.Company.{Turn, others, own, played_in, InCompany}
use Rattle.theorems.proofs.Alone.{Lone, lone_valid, lone_at, alone_admits}
use Rattle.theorems.proofs.Fresh.{Started, fresh_started, fresh_lone, from_company}
use Rattle.theorems.proofs.Growing.{seen, Works, copying, copied, anchors_window, claimed_array, same_anchor, after_step, WorksIn, Grows, call_grows, expanding, others_grows}

-- THE WINDOW, of what the owner reads: its i-th task
abbrev task_in : Kind → ℕ → Anchor → List Region → ℕ → List ℕ → ℕ → Task
task_in κ ω a l p m i = gathered (ω + 1) (word_at m ω (offset_at l (p - 1)) (slot κ (size_at ω l (p - 1)) (window_index κ a i)))

-- from the arrays l, p and the words m to l', p' and m', under the anchors a and a'
pub record Alike (κ : Kind) (ω : ℕ) (a : Anchor) (l : List Region) (p : ℕ) (m : List ℕ) (a' : Anchor) (l' : List Region) (p' : ℕ) (m' : List ℕ) : Type 0 where
  pub many : tasks κ a' ≡ tasks κ a
  pub same : (i : ℕ) → i < tasks κ a → task_in κ ω a' l' p' m' i ≡ task_in κ ω a l p m i

alike_refl : (κ : Kind) (ω : ℕ) (a : Anchor) (l : List Region) (p : ℕ) (m : List ℕ) → Alike κ ω a l p m a l p m
alike_refl κ ω a l p m = record { many = refl; same = λ i h. refl }

-- the index of its i-th task, and that task's slot
index_in : (κ : Kind) (a : Anchor) (lo hi i : ℕ) → StandsFor κ a lo hi → lo ≤ hi → i < tasks κ a → lo + i < hi
index_in Lifo a lo hi i r l h = omega (arith, r.1, r.2)
index_in Fifo a lo hi i r l h = omega (arith, r.0, r.1)
index_in Deque a lo hi i r l h = omega (arith, r.1)

window_slot : {z : ℕ} (Z : Size z) (κ : Kind) (a : Anchor) (lo hi i : ℕ) → StandsFor κ a lo hi → hi ≤ lo + z → lo + i < hi → slot κ z (window_index κ a i) ≡ (lo + i) % z
window_slot Z Lifo a lo hi i r l h = zero_in ∙ sym (mod-eq_of_lt (omega (arith, r.1)))
  where
    zero_in : i ≡ lo + i
    zero_in = omega (arith, r.1)
window_slot {z} Z Fifo a lo hi i r l h = ap (λ (x : ℕ). (x + i) % z) (sym r.0)
window_slot {z} Z Deque a lo hi i r l h = ap (λ (x : ℕ). (x + i) % z) r.0 ∙ wrap Z lo i

-- two arrays that hold the window hold the same window if they agree on its indices
alike_cells : (κ : Kind) (ω : ℕ) (a : Anchor) (l : List Region) (p : ℕ) (m : List ℕ) (l' : List Region) (p' : ℕ) (m' : List ℕ) (lo hi : ℕ) → Size (size_at ω l (p - 1)) → Size (size_at ω l' (p' - 1))
    → StandsFor κ a lo hi → lo ≤ hi → hi ≤ lo + size_at ω l (p - 1) → hi ≤ lo + size_at ω l' (p' - 1)
    → ((i j : ℕ) → lo ≤ i → i < hi → j < ω + 1 → cell ω m' (offset_at l' (p' - 1)) (size_at ω l' (p' - 1)) i j ≡ cell ω m (offset_at l (p - 1)) (size_at ω l (p - 1)) i j)
    → Alike κ ω a l p m a l' p' m'
alike_cells κ ω a l p m l' p' m' lo hi Z Z' r le f f' same =
    record {
      many = refl;
      same = λ i h.
          let g = index_in κ a lo hi i r le h in
          same_words (ω + 1) _ _
          (λ j t. word_w ω m' (offset_at l' (p' - 1)) (size_at ω l' (p' - 1)) _ (lo + i) j (window_slot Z' κ a lo hi i r f' g)
          ∙ same (lo + i) j (omega arith) g t
          ∙ sym (word_w ω m (offset_at l (p - 1)) (size_at ω l (p - 1)) _ (lo + i) j (window_slot Z κ a lo hi i r f g)));
    }

-- X3: the words of the current array stay
copy_alike : (κ : Kind) (w ω low : ℕ) (q : Queue) (m : List ℕ) (b n k : ℕ) → Bounded κ w (size ω q) low q.anchor → Arrays ω q m → q.claimed ≡ q.published + 1
    → Works κ ω q.anchor q.arrays q.published m (copying b n k)
    → let rr = copy_words κ ω q m (b + k) (ω + 1) in
    Alike κ ω q.anchor q.arrays q.published m (anchor_after rr q.anchor) q.arrays (places rr q.published) (words ω q.arrays rr m)
copy_alike κ w ω low q m b n k B A c (x, y, r, le, C) =
    let W = copy_words_lem κ ω q m (b + k) (ω + 1) in
    let (lo, hi, r', le', f) = anchors_window κ w (size ω q) low q.anchor B in
    let X = copy_step κ ω q m x y b n k (now A) (claimed_array ω q m x y A c) C in
    rw (same_anchor (copy_words κ ω q m (b + k) (ω + 1)) q.anchor W, same_places (copy_words κ ω q m (b + k) (ω + 1)) q.published W)
    (alike_cells κ ω q.anchor q.arrays q.published m q.arrays q.published (words ω q.arrays (copy_words κ ω q m (b + k) (ω + 1)) m) lo hi (now A) (now A) r' le' f f (λ i j s t h. X.same i j h))

-- X4: the new array has the window's tasks
note_alike : (κ : Kind) (w ω low : ℕ) (q : Queue) (m : List ℕ) → Bounded κ w (size ω q) low q.anchor → Arrays ω q m → q.claimed ≡ q.published + 1 → Works κ ω q.anchor q.arrays q.published m copied
    → Alike κ ω q.anchor q.arrays q.published m q.anchor q.arrays (q.published + 1) m
note_alike κ w ω low q m B A c (lo, hi, r, le, C) =
    alike_cells κ ω q.anchor q.arrays q.published m q.arrays (q.published + 1) m lo hi (now A) (rw z (size_twice (now A) D.1)) r le f (omega (arith, z, f))
    (λ i j s t h. rw (o, z) (C i j s t h))
  where
    D : Claimed (seen ω q.arrays q.published m lo hi)
    D = claimed_array ω q m lo hi A c

    up : q.published + 1 - 1 ≡ q.published
    up = omega arith

    o : offset_at q.arrays (q.published + 1 - 1) ≡ offset_at q.arrays q.published
    o = ap (offset_at q.arrays) up

    z : size_at ω q.arrays (q.published + 1 - 1) ≡ 2 * size ω q
    z = ap (size_at ω q.arrays) up ∙ D.3

    f : hi ≤ lo + size ω q
    f = fit κ q.anchor B r
      where
        fit : (κ : Kind) (a : Anchor) → Bounded κ w (size ω q) low a → StandsFor κ a lo hi → hi ≤ lo + size ω q
        fit Lifo a b r = omega (arith, b.1, r.2)
        fit Fifo a b r = omega (arith, b.0, b.2, r.0, r.1)
        fit Deque a b r = omega (arith, b.1, r.1)

-- X1: the words below the claimed array stay
words_below : (κ : Kind) (w ω : ℕ) (l l' : List Region) (c low p τ e : ℕ) (ss : List Store) (m m' : List ℕ) → ((b : ℕ) → b < c → offset_at l' b ≡ offset_at l b) → length m' ≡ length m
    → ((x : ℕ) → x < e → get_or m' x 0 ≡ get_or m x 0) → Path κ w ω l c low p τ ss → (x : ℕ) → x < e → get_or (words ω l' ss m') x 0 ≡ get_or (words ω l ss m) x 0
words_below κ w ω l l' c low p τ e [] m m' offs len same P x h = same x h
words_below κ w ω l l' c low p τ e (StoreWord b s j y ∷ ss) m m' offs len same (f, P) x h =
    subst (λ (o : ℕ). get_or (words ω l' ss (set m' (o + (ω + 1) * s + j) y)) x 0 ≡ get_or (words ω l ss (set m (offset_at l b + (ω + 1) * s + j) y)) x 0) (sym (offs b f.0))
    (words_below κ w ω l l' c low p τ e ss _ _ offs (length-set m' _ y ∙ len ∙ sym (length-set m _ y)) (λ z g. set_agree m m' _ y z len (same z g)) P x h)
words_below κ w ω l l' c low p τ e (StoreNote k ∷ ss) m m' offs len same (f, P) x h = words_below κ w ω l l' c low (k + 1) τ e ss m m' offs len same P x h
words_below κ w ω l l' c low p τ e (StorePut r ∷ ss) m m' offs len same (f, P) x h = words_below κ w ω l l' c low p τ e ss m m' offs len same P x h
words_below κ w ω l l' c low p τ e (StoreOut r ∷ ss) m m' offs len same (f, P) x h = words_below κ w ω l l' c low p τ e ss m m' offs len same P x h
words_below κ w ω l l' c low p τ e (StoreHead i ∷ ss) m m' offs len same (f, P) x h = words_below κ w ω l l' c i p τ e ss m m' offs len same P x h
words_below κ w ω l l' c low p τ e (StoreTail i ∷ ss) m m' offs len same (f, P) x h = words_below κ w ω l l' c low p i e ss m m' offs len same P x h

claim_alike : (ρ : Room) (κ : Kind) (w ω used low : ℕ) (Q : Queue) (μ : List ℕ) (ss : List Store) (o : Line) (φ : ℕ → Line) → Shape κ w ω used low Q μ ss o φ → fits ρ ω (laid ss Q) ≡ true → Free ρ Q μ
    → Alike κ ω (anchor_after ss Q.anchor) Q.arrays (places ss Q.published) (words ω Q.arrays ss μ) (anchor_after ss Q.anchor) (claiming ρ Q).arrays (places ss Q.published)
    (words ω (claiming ρ Q).arrays ss (zeros μ ρ.next (next_length Q)))
unfolding cell
claim_alike ρ κ w ω used low Q μ ss o φ S e R =
    let (lo, hi, r, le, f) = anchors_window κ w (size ω v) (lows ss low) v.anchor T.anchor in
    alike_cells κ ω v.anchor Q.arrays v.published (words ω Q.arrays ss μ) (claiming ρ Q).arrays v.published (words ω (claiming ρ Q).arrays ss (zeros μ ρ.next (next_length Q))) lo hi (now A) (rw here.2 (now A)) r le f (omega (arith, here.2, f))
    (λ i j s t h. rw (here.0, here.2)
    (words_below κ w ω Q.arrays (claiming ρ Q).arrays Q.claimed low Q.published (tail κ Q.anchor) ρ.next ss μ (zeros μ ρ.next (next_length Q)) (λ b g. (place b g).0) (zeros_length μ ρ.next (next_length Q) room)
    (λ x g. zeros_low μ ρ.next (next_length Q) x g (omega (arith, room))) S.path (addr ω (off v) (size ω v) i j)
    (omega (arith, addr_in ω (off v) (size ω v) i j (size_pos (now A)) h, long A, end A (v.published - 1) (omega (arith, A.some, A.below)), R.behind))))
  where
    v : Queue
    v = laid ss Q

    T : Shape κ w ω used (lows ss low) (laid ss Q) (words ω Q.arrays ss μ) [] o φ
    T = shape_settle κ ss S

    A : Arrays ω (laid ss Q) (words ω Q.arrays ss μ)
    A = T.arrays

    room : ρ.next + next_length Q ≤ length μ
    room = omega (arith, fits_left ρ ω (laid ss Q) e, R.inside)

    place : (k : ℕ) → k < Q.claimed → (offset_at (claiming ρ Q).arrays k ≡ offset_at Q.arrays k) × (length_at (claiming ρ Q).arrays k ≡ length_at Q.arrays k) × (size_at ω (claiming ρ Q).arrays k ≡ size_at ω Q.arrays k)
    place k l = set_place ω Q.arrays Q.claimed k ρ.next (next_length Q) (omega arith)

    here : (offset_at (claiming ρ Q).arrays (v.published - 1) ≡ off v) × (length_at (claiming ρ Q).arrays (v.published - 1) ≡ length_at Q.arrays (v.published - 1)) × (size_at ω (claiming ρ Q).arrays (v.published - 1) ≡ size ω v)
    here = place (v.published - 1) (omega (arith, A.some, A.below))

-- THE OWNER'S LINE leaves E
abbrev AlikeOn : Room → World → Effect → Type 0
AlikeOn ρ W E =
    let q = W.bench.queue in
    let ω = W.bench.words in
    let ss = in_line W.bench.waiting in
    let d = arrays_after ρ E.claims q in
    Alike W.bench.kind ω (anchor_after ss q.anchor) q.arrays (places ss q.published) (words ω q.arrays ss W.store) (anchor_after E.stores (anchor_after ss q.anchor)) d (places E.stores (places ss q.published))
    (words ω d E.stores (words ω d ss (store_after ρ E.claims q W.store)))

abbrev LineAlike : Line → Type 0
LineAlike o =
    (ρ : Room) (W : World) → Whole W → Free ρ W.bench.queue W.store → Grows W → line_at W.bench.workers 0 ≡ o
    → let ss = in_line W.bench.waiting in
    AlikeOn ρ W (line_step ρ W.bench.kind (tag_bits W.bench) W.bench.words (laid ss W.bench.queue) (words W.bench.words W.bench.queue.arrays ss W.store) 0 o)

-- what the owner reads has the shape of a queue with none waiting
settled : {W : World} (H : Whole W) → let ss = in_line W.bench.waiting in
    Shape W.bench.kind (tag_bits W.bench) W.bench.words W.bench.used (lows ss H.low) (laid ss W.bench.queue) (words W.bench.words W.bench.queue.arrays ss W.store) [] (line_at W.bench.workers 0) (thieves W.bench.workers)
settled {W} H = shape_settle W.bench.kind (in_line W.bench.waiting) H.shape

either_alike : (ρ : Room) (W : World) (x : Bool) (E E' : Effect) → (x ≡ true → AlikeOn ρ W E) → AlikeOn ρ W E' → AlikeOn ρ W (when x then E else E')
unfolding when◌then◌else◌
either_alike ρ W true E E' f g = f refl
either_alike ρ W false E E' f g = g

x1_alike : (g : Growth) → LineAlike (Claim g)
unfolding line_step
x1_alike g ρ W H R G is =
    either_alike ρ W _ _ _ (λ e. claim_alike ρ W.bench.kind (tag_bits W.bench) W.bench.words W.bench.used H.low W.bench.queue W.store (in_line W.bench.waiting) _ _ H.shape e R) (alike_refl _ _ _ _ _ _)

x2_alike : (g : Growth) → LineAlike (Note g)
unfolding line_step
x2_alike g ρ W H R G is = alike_refl _ _ _ _ _ _

x3_alike : (g : Growth) (b n k : ℕ) → LineAlike (Copy g b n k)
unfolding line_step
x3_alike g b n k ρ W H R G is =
    copy_alike W.bench.kind (tag_bits W.bench) W.bench.words _ (laid (in_line W.bench.waiting) W.bench.queue) (words W.bench.words W.bench.queue.arrays (in_line W.bench.waiting) W.store) b n k (settled H).anchor (settled H).arrays (expanding H (ap is_expanding is))
    (subst (WorksIn W (in_line W.bench.waiting)) is G)

x4_alike : (g : Growth) → LineAlike (Publish g)
unfolding line_step
x4_alike g ρ W H R G is = go g
  where
    noted : AlikeOn ρ W (eff (StoreNote (places (in_line W.bench.waiting) W.bench.queue.published) ∷ []) Idle GoesOn)
    noted =
        note_alike W.bench.kind (tag_bits W.bench) W.bench.words _ (laid (in_line W.bench.waiting) W.bench.queue) (words W.bench.words W.bench.queue.arrays (in_line W.bench.waiting) W.store) (settled H).anchor (settled H).arrays (expanding H (ap is_expanding is))
        (subst (WorksIn W (in_line W.bench.waiting)) is G)

    go : (g : Growth) → AlikeOn ρ W (publishes (StoreNote (places (in_line W.bench.waiting) W.bench.queue.published) ∷ []) 0 g)
    go (ForPut t) = noted
    go ForCommit = noted

-- A STEP. The window is read off what the owner reads
abbrev SameShared : Kind → ℕ → Shared → Shared → Type 0
SameShared κ ω S U =
    (tasks κ U.queue.anchor ≡ tasks κ S.queue.anchor)
    × ((i : ℕ) → i < tasks κ S.queue.anchor
    → gathered (ω + 1) (word_of κ ω U.queue U.store (U.queue.published - 1) (window_index κ U.queue.anchor i))
    ≡ gathered (ω + 1) (word_of κ ω S.queue S.store (S.queue.published - 1) (window_index κ S.queue.anchor i)))

step_keeps : (ρ : Room) (W : World) → Whole W → AlikeOn ρ W (effect_of ρ W 0) → SameWindow W (step_to ρ W 0).world
step_keeps ρ W H A =
    subst₂ (SameShared W.bench.kind W.bench.words) (sym (landed_is W.bench.words W.bench.queue W.store (in_line W.bench.waiting)))
    (sym (landed_is W.bench.words U.bench.queue U.store (in_line U.bench.waiting))) (R.many, R.same)
  where
    U : World
    U = (step_to ρ W 0).world

    R : let q = W.bench.queue in
        let ω = W.bench.words in
        let ss = in_line W.bench.waiting in
        let d = arrays_after ρ (effect_of ρ W 0).claims q in
        let tt' = in_line (step_to ρ W 0).world.bench.waiting in
        let rr = landing W.bench.delayed 0 (effect_of ρ W 0).stores in
        Alike W.bench.kind ω (anchor_after ss q.anchor) q.arrays (places ss q.published) (words ω q.arrays ss W.store) (anchor_after tt' (anchor_after rr q.anchor)) d (places tt' (places rr q.published))
        (words ω d tt' (words ω d rr (store_after ρ (effect_of ρ W 0).claims q W.store)))
    R =
        let q = W.bench.queue in
        let ss = in_line W.bench.waiting in
        after_step (λ a p m. Alike W.bench.kind W.bench.words (anchor_after ss q.anchor) q.arrays (places ss q.published) (words W.bench.words q.arrays ss W.store) a (arrays_after ρ (effect_of ρ W 0).claims q) p m)
        W.bench.delayed W.bench.waiting (effect_of ρ W 0).stores q.anchor (arrays_after ρ (effect_of ρ W 0).claims q) q.published W.bench.words (store_after ρ (effect_of ρ W 0).claims q W.store) H.mode (in_line_lem H) A

-- the window stays, in whatever room the queue admits
abbrev pub KeepsIn : Played → Type 0
KeepsIn s = (ρ : Room) → Admits ρ s.before.bench s.before.store → SameWindow s.before (call_in ρ s.before s.call).world

-- A LIST, at a line o that is no thief's
abbrev NoThiefs : Line → Type 0
NoThiefs o = (κ : Kind) (w ω : ℕ) (q : Queue) (τ : ℕ) → ThiefShape κ w ω q τ o → ⊥

module _ (o : Line) (K : LineAlike o) (N : NoThiefs o) where
  moved : (ρ : Room) (W : World) → Whole W → Free ρ W.bench.queue W.store → Grows W → (i : ℕ) → line_at W.bench.workers i ≡ o → SameWindow W (step_to ρ W i).world
  moved ρ W H R G zero is =
      let ss = in_line W.bench.waiting in
      step_keeps ρ W H
      (subst (λ (l : Line). AlikeOn ρ W (line_step ρ W.bench.kind (tag_bits W.bench) W.bench.words (laid ss W.bench.queue) (words W.bench.words W.bench.queue.arrays ss W.store) 0 l)) (sym is) (K ρ W H R G is))
  moved ρ W H R G (suc k) is = absurd (N _ _ _ W.bench.queue _ (subst (ThiefShape W.bench.kind (tag_bits W.bench) W.bench.words W.bench.queue (tail W.bench.kind W.bench.queue.anchor)) is (H.shape.th k)))

  here : (W : World) → Whole W → Grows W → (c : Call) (a : Answer) (i : ℕ) → Does i o (record { before = W; call = c; answer = a }) → KeepsIn (record { before = W; call = c; answer = a })
  here W H G c a i (x, e, n) ρ R =
      subst (λ (d : Call). SameWindow W (call_in ρ W d).world) (sym x)
      (step_by (λ (D : Outcome). SameWindow W D.world) W (λ r l. (refl, λ i h. refl)) ρ i (λ M. moved ρ W H R.free G i e))

  all : (ts : List Turn) (W : World) → Whole W → Grows W → InCompany W ts → (j i : ℕ) → At (played_in W ts) j (Does i o) → At (played_in W ts) j KeepsIn
  unfolding played_in InCompany
  all [] W H G C j i a = a
  all (others m ∷ ts) W H G (O, C) j i a = all ts (storing W m) (others_whole H O) (others_grows H O G) C j i a
  all (own ρ c ∷ ts) W H G (R, C) zero i a = here W H G c _ i a
  all (own ρ c ∷ ts) W H G (R, C) (suc j) i a = all ts (call_in ρ W c).world (call_whole ρ H R c) (call_grows ρ H G c) C j i a

-- an idle owner copies nothing
starts : (U : World) → Started U → Grows U
starts U F = subst (WorksIn U (in_line U.bench.waiting)) (sym F.idle) tt

-- in company
pub growth_in : (ts : List Turn) (U : World) → Started U → InCompany U ts → GrowthKeeps KeepsIn (played_in U ts)
growth_in ts U F C =
    let H = F.whole in
    let G = starts U F in
    record {
      x1 = λ j i g a. all (Claim g) (x1_alike g) (λ κ w ω q τ t. t) ts U H G C j i a;
      x2 = λ j i g a. all (Note g) (x2_alike g) (λ κ w ω q τ t. t) ts U H G C j i a;
      x3 = λ j i g h n k a. all (Copy g h n k) (x3_alike g h n k) (λ κ w ω q τ t. t) ts U H G C j i a;
      x4 = λ j i g a. all (Publish g) (x4_alike g) (λ κ w ω q τ t. t) ts U H G C j i a;
    }

-- and alone
alone_keeps : (s : Played) → Lone s.before → KeepsIn s → KeepsWindow s
alone_keeps s L K =
    let W = s.before in
    subst (λ (D : Outcome). SameWindow W D.world) (sym (alone_is W s.call (lone_valid L))) (K (room_alone W) (alone_admits W L.snug))

pub growth_moves_nothing : GrowthMovesNothing
growth_moves_nothing s m l e cs =
    let L = fresh_lone s m l e in
    let lone : (j : ℕ) → At (played (fresh_of s m l).world cs) j KeepsIn → At (played (fresh_of s m l).world cs) j KeepsWindow = λ j a. lone_at cs (fresh_of s m l).world L j KeepsIn KeepsWindow alone_keeps a in
    let G = from_company (λ (T : List Played) (X : World). GrowthKeeps KeepsIn T) s m l e (λ ts C. growth_in ts _ (fresh_started s m l e) C) cs in
    record {
      x1 = λ j i g a. lone j (G.x1 j i g a);
      x2 = λ j i g a. lone j (G.x2 j i g a);
      x3 = λ j i g h n k a. lone j (G.x3 j i g h n k a);
      x4 = λ j i g a. lone j (G.x4 j i g a);
    }
