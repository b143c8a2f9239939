-- The invariant, and what a step of one worker does to what another has read.
use mathlib.Core.Path.{◌≡◌, refl, sym, ◌∙◌, subst}
use mathlib.Core.Logic.{◌≢◌, ◌⊎◌, inl, inr}
use mathlib.Core.Bool.{Bool, true, false}
use mathlib.Core.List.{List, [], ◌∷◌, Memᴰ}
use Prim.Native.Nat.{ℕ, suc, ◌+◌, ◌-◌, ◌*◌, ◌%◌, ◌^◌, ◌≤◌, ◌<◌}
use native.Mathlib.Omega.{arith}
use lib.ListN.{length}
use borrow.Author.Tests.{ne_eqb, eq-eqb}
use Rattle.model.specs.declared.Growth.{Growth}
use Rattle.model.specs.declared.Growth.TheVariants.{ForPut, ForCommit}
use Rattle.model.specs.declared.Kind.{Kind}
use Rattle.model.specs.declared.Kind.TheVariants.{Lifo, Fifo, Deque}
use Rattle.model.specs.declared.Line.{Line}
use Rattle.model.specs.declared.Line.TheVariants.{Idle, PutRead, PutTail, PutTest, PutWord, PutFinish, Claim, Note, Copy, Publish, TakeRead, TakeTail, TakeTest, TakeWord, TakeFinish, StealRead, StealTail, StealTest, StealNote, StealWord, StealNext, StealCompare}
use Rattle.model.specs.declared.Queue.{Queue}
use Rattle.model.specs.declared.Store.{Store}
use Rattle.model.specs.declared.Task.{Task}
use Rattle.model.specs.declared.Anchor.{Anchor}
use Rattle.model.specs.Tasks.{word_in, gathered}
use Rattle.model.specs.Memory.{offset_at, size_at}
use Rattle.theorems.proofs.Words.{off}
use Rattle.model.specs.Lines.{size}
use Rattle.model.specs.Calls.{link_set}
use Rattle.model.proofs.Directory.{Size}
use Rattle.theorems.proofs.Events.{Event, quiet, line_1, finished_put, handed_out, failed_compare, found_empty, began_put, found_full, waiting_put, drained, History, Out, Told, Concerns, Emptied, puts_since, history_at}
use Rattle.theorems.proofs.Remainders.{tag_next}
use Rattle.theorems.proofs.Window.{NotTold, begun_later, View, word, task_at, Core, later, Begun, begun_told}
use Rattle.theorems.proofs.Owed.{view, sight, tags, IsFifo, Claimed, Copied, Owed, Label, Sorted}
use Rattle.theorems.proofs.Order.{Order}
use Rattle.theorems.proofs.Seen.{Dir, Got, Noted, Frame, Still, dir_keep, got_keep, noted_keep}
use Rattle.theorems.proofs.Indices.{StandsFor, Start, Small, stolen_ix, taken_ix}

-- but in LIFO, only the owner moves the upper end
abbrev pub Tops : Kind → ℕ → ℕ → Type 0
Tops Lifo hi own_hi = Unit {0}
Tops Fifo hi own_hi = hi ≡ own_hi
Tops Deque hi own_hi = hi ≡ own_hi

pub record Copying (κ : Kind) (v : View) (a q k : ℕ) : Type 0 where
  pub from : ℕ
  pub start : Start κ a from
  pub low : from ≤ v.own_lo
  pub high : v.own_hi ≤ from + q
  pub few : q ≤ v.slots
  pub more : k < q
  pub copied : Copied v from (from + k)

-- the first j words of t stand at the top of the owner's window
abbrev pub Written : View → ℕ → Task → Type 0
Written v j t = (k : ℕ) → k < j → word v v.own_hi k ≡ word_in t k

-- what the array grows for
abbrev pub BegunFor : ℕ → Growth → History → Type 0
BegunFor ω (ForPut t) h = Begun ω t h
BegunFor ω ForCommit h = Unit {0}

abbrev pub OwnerOk : Kind → View → ℕ → History → Line → Type 0
OwnerOk κ v g h Idle = Unit {0}
OwnerOk κ v g h (PutRead t) = Begun v.words t h
OwnerOk κ v g h (PutTail t a) = Begun v.words t h × (IsFifo κ × (v.own_lo ≡ a))
OwnerOk κ v g h (PutTest t r) = Begun v.words t h × (StandsFor κ r v.own_lo v.own_hi × (r.tag ≡ g))
OwnerOk κ v g h (PutWord t r j) =
    Begun v.words t h × (StandsFor κ r v.own_lo v.own_hi × (r.tag ≡ g) × (v.own_hi < v.own_lo + v.slots) × (j ≤ v.words) × Written v j t)
OwnerOk κ v g h (PutFinish t r) =
    Begun v.words t h × (StandsFor κ r v.own_lo v.own_hi × (r.tag ≡ g) × (v.own_hi < v.own_lo + v.slots) × (task_at v v.own_hi ≡ t))
OwnerOk κ v g h (Claim g') = BegunFor v.words g' h
OwnerOk κ v g h (Note g') = BegunFor v.words g' h × (Claimed v)
OwnerOk κ v g h (Copy g' a q k) = BegunFor v.words g' h × Claimed v × Copying κ v a q k
OwnerOk κ v g h (Publish g') = BegunFor v.words g' h × Claimed v × Copied v v.own_lo v.own_hi
OwnerOk κ v g h TakeRead = Unit {0}
OwnerOk κ v g h (TakeTail a) = IsFifo κ × (v.own_lo ≡ a) × (v.own_lo ≡ v.own_hi → Emptied 0 h) × Memᴰ (line_1 0) h
OwnerOk κ v g h (TakeTest r) = StandsFor κ r v.own_lo v.own_hi × (r.tag ≡ g) × (v.own_lo ≡ v.own_hi → Emptied 0 h) × Memᴰ (line_1 0) h
OwnerOk κ v g h (TakeWord r t j) =
    StandsFor κ r v.own_lo v.own_hi × (r.tag ≡ g) × (v.own_lo < v.own_hi) × (j ≤ v.words)
    × (t ≡ gathered j (word v (taken_ix κ v.own_lo v.own_hi)))
OwnerOk κ v g h (TakeFinish r t) =
    StandsFor κ r v.own_lo v.own_hi × (r.tag ≡ g) × (v.own_lo < v.own_hi) × (t ≡ task_at v (taken_ix κ v.own_lo v.own_hi))
OwnerOk κ v g h StealRead = ⊥
OwnerOk κ v g h (StealTail a) = ⊥
OwnerOk κ v g h (StealTest r) = ⊥
OwnerOk κ v g h (StealNote r) = ⊥
OwnerOk κ v g h (StealWord r b t j) = ⊥
OwnerOk κ v g h (StealNext r t) = ⊥
OwnerOk κ v g h (StealCompare r e t) = ⊥

-- g is the tag now, r the tag read, d the puts finished between
abbrev pub Tag : Kind → ℕ → ℕ → ℕ → ℕ → Type 0
Tag Lifo w g d r = (r < 2 ^ w) × (g ≡ (r + d) % 2 ^ w)
Tag Fifo w g d r = Unit {0}
Tag Deque w g d r = (r < 2 ^ w) × (g ≡ (r + d) % 2 ^ w)

-- where a window read lies, against the owner's
abbrev pub Hold : Kind → View → ℕ → ℕ → ℕ → Type 0
Hold Lifo v d lo hi = hi ≤ v.slots
Hold Fifo v d lo hi = hi ≤ v.own_hi
Hold Deque v d lo hi = (lo ≤ v.own_lo + 1024) × (d ≡ 0 → v.own_hi ≤ hi)

-- what may have broken the words read
abbrev pub stale : Kind → ℕ → ℕ
stale Lifo d = d
stale Fifo d = 0
stale Deque d = d

pub record Reads (κ : Kind) (w : ℕ) (v : View) (g : ℕ) (h : History) (k : ℕ) (r : Anchor) : Type 0 where
  pub lo : ℕ
  pub hi : ℕ
  pub rep : StandsFor κ r lo hi
  pub le : lo ≤ hi
  pub begun : Memᴰ (line_1 k) h
  pub tag : Tag κ w g (puts_since k h) r.tag
  pub hold : Hold κ v (puts_since k h) lo hi

abbrev pub NotedAt : ℕ → View → ℕ → ℕ → ℕ → Type 0
NotedAt st v b z i = Dir v b z × Noted st v b z i

abbrev pub GotV : (κ : Kind) → (w : ℕ) → (v : View) → (g : ℕ) → (h : History) → (k : ℕ) (r : Anchor) → Reads κ w v g h k r → ℕ → Task → Type 0
GotV κ w v g h k r R j t = Got (stale κ (puts_since k h)) v (stolen_ix κ R.lo R.hi) j t

abbrev pub NotedV : (κ : Kind) → (w : ℕ) → (v : View) → (g : ℕ) → (h : History) → (k : ℕ) (r : Anchor) → Reads κ w v g h k r → ℕ → Type 0
NotedV κ w v g h k r R b =
    (b < v.published) × (Size (size_at v.words v.directory b) × Small κ (size_at v.words v.directory b) R.hi)
    × NotedAt (stale κ (puts_since k h)) v (offset_at v.directory b) (size_at v.words v.directory b) (stolen_ix κ R.lo R.hi)

-- double-ended line 5
abbrev pub Next : Kind → ℕ → ℕ → Type 0
Next Lifo a e = Unit {0}
Next Fifo a e = Unit {0}
Next Deque a e = e ≡ (a + 1) % 2048

abbrev pub ThiefOk : Kind → ℕ → View → ℕ → History → ℕ → Line → Type 0
ThiefOk κ w v g h k Idle = Unit {0}
ThiefOk κ w v g h k StealRead = Unit {0}
ThiefOk κ w v g h k (StealTail a) = IsFifo κ × (e : ℕ) × (a ≤ e) × (e ≤ v.own_hi) × (a ≡ e → Emptied k h) × Memᴰ (line_1 k) h
ThiefOk κ w v g h k (StealTest r) = (R : Reads κ w v g h k r) × (R.lo ≡ R.hi → Emptied k h)
ThiefOk κ w v g h k (StealNote r) = (R : Reads κ w v g h k r) × (R.lo < R.hi)
ThiefOk κ w v g h k (StealWord r b t j) =
    (R : Reads κ w v g h k r) × (R.lo < R.hi) × NotedV κ w v g h k r R b × (j ≤ v.words) × GotV κ w v g h k r R j t
ThiefOk κ w v g h k (StealNext r t) = (R : Reads κ w v g h k r) × (R.lo < R.hi) × GotV κ w v g h k r R (v.words + 1) t
ThiefOk κ w v g h k (StealCompare r e t) =
    (R : Reads κ w v g h k r) × (R.lo < R.hi) × GotV κ w v g h k r R (v.words + 1) t × Next κ r.head e
ThiefOk κ w v g h k (PutRead t) = ⊥
ThiefOk κ w v g h k (PutTail t a) = ⊥
ThiefOk κ w v g h k (PutTest t r) = ⊥
ThiefOk κ w v g h k (PutWord t r j) = ⊥
ThiefOk κ w v g h k (PutFinish t r) = ⊥
ThiefOk κ w v g h k (Claim t) = ⊥
ThiefOk κ w v g h k (Note t) = ⊥
ThiefOk κ w v g h k (Copy t a q j) = ⊥
ThiefOk κ w v g h k (Publish t) = ⊥
ThiefOk κ w v g h k TakeRead = ⊥
ThiefOk κ w v g h k (TakeTail a) = ⊥
ThiefOk κ w v g h k (TakeTest r) = ⊥
ThiefOk κ w v g h k (TakeWord r t j) = ⊥
ThiefOk κ w v g h k (TakeFinish r t) = ⊥

-- φ k: thief k's line; [own-lo, own-hi): the owner's window in memory, which contains the queue's; ss: the stores that wait
pub record Base (κ : Kind) (w ω : ℕ) (δ : Bool) (Q : Queue) (μ : List ℕ) (own_lo own_hi : ℕ) (ss : List Store) (φ : ℕ → Line) (h : History) : Type 0 where
  pub lo : ℕ
  pub hi : ℕ
  pub rep : StandsFor κ Q.anchor lo hi
  pub tops : Tops κ hi own_hi
  pub core : Core (view ω Q μ own_lo own_hi) lo hi h
  pub sized : Size (size ω Q)
  pub sorted : Sorted ω Q
  pub room : off Q + (ω + 1) * size ω Q ≤ length μ
  pub tag : Q.anchor.tag < 2 ^ w
  pub owed : Owed κ w δ (view ω Q μ own_lo own_hi) Q.anchor.tag h ss
  pub th : (k : ℕ) → ThiefOk κ w (view ω Q μ own_lo own_hi) Q.anchor.tag h (suc k) (φ k)

-- how many stores were put down since: an event of a drain
abbrev pub drain_of_lem : Event → ℕ
drain_of_lem quiet = 0
drain_of_lem (line_1 j) = 0
drain_of_lem (finished_put t) = 1
drain_of_lem (handed_out j t) = 0
drain_of_lem (failed_compare j) = 0
drain_of_lem (found_empty j) = 0
drain_of_lem (began_put t) = 0
drain_of_lem (found_full t) = 0
drain_of_lem (waiting_put t y) = 0
drain_of_lem drained = 1

-- the put of t was answered finished when n stores waited, its own the last; d have been put down since
abbrev pub Since : Task → ℕ → ℕ → History → Type 0
Since t n d [] = ⊥
Since t n d (e ∷ h) = ((e ≡ waiting_put t n) × (d ≡ 0)) ⊎ ((c : ℕ) × (d ≡ c + drain_of_lem e) × Since t n c h)

-- it is in memory, or it waits at its place
abbrev pub Due : Kind → View → List Store → History → Type 0
Due κ v ss h = (t : Task) (n d : ℕ) → Since t n d h → Memᴰ (finished_put t) h ⊎ ((d < n) × Label κ v ss (n - 1 - d) t)

abbrev pub DueIf : Bool → Kind → View → List Store → History → Type 0
DueIf true κ v ss h = Due κ v ss h
DueIf false κ v ss h = (t : Task) (n : ℕ) → Memᴰ (waiting_put t n) h → ⊥

-- o: the owner's line
pub record Inv (κ : Kind) (w ω : ℕ) (δ : Bool) (Q : Queue) (μ : List ℕ) (ss : List Store) (o : Line) (φ : ℕ → Line) (h : History) : Type 0 where
  pub own_lo : ℕ
  pub own_hi : ℕ
  pub base : Base κ w ω δ Q μ own_lo own_hi ss φ h
  pub own : OwnerOk κ (sight κ ω ss Q μ own_lo own_hi) (tags ss Q.anchor.tag) h o
  pub due : DueIf δ κ (view ω Q μ own_lo own_hi) ss h
  pub order : Order κ (view ω Q μ own_lo own_hi) Q.anchor.head ss h

-- what a step of another worker does to thief k
abbrev pub Grow : Kind → View → View → Type 0
Grow Lifo v v' = Unit {0}
Grow Fifo v v' = v.own_hi ≤ v'.own_hi
Grow Deque v v' = Unit {0}

pub record Move (κ : Kind) (w : ℕ) (v v' : View) (g g' : ℕ) (h h' : History) (k : ℕ) : Type 0 where
  pub frame : Frame v v'
  pub grow : Grow κ v v'
  pub still : puts_since k h' ≡ 0 → (puts_since k h ≡ 0) × (v'.own_hi ≤ v.own_hi)
  pub tags : (x : ℕ) → Tag κ w g (puts_since k h) x → Tag κ w g' (puts_since k h') x
  pub emp : Emptied k h → Emptied k h'
  pub grown : {e : Event} → Memᴰ e h → Memᴰ e h'

hold_keep : (κ : Kind) (v v' : View) (d d' lo hi : ℕ) → v.own_lo ≤ v'.own_lo → v.slots ≤ v'.slots → Grow κ v v' → (d' ≡ 0 → (d ≡ 0) × (v'.own_hi ≤ v.own_hi))
    → Hold κ v d lo hi → Hold κ v' d' lo hi
hold_keep Lifo v v' d d' lo hi u b G S H = omega arith
hold_keep Fifo v v' d d' lo hi u b G S H = omega arith
hold_keep Deque v v' d d' lo hi u b G S H = (omega arith, λ e. omega (arith, (S e).1, H.1 (S e).0))

still_of : (κ : Kind) (v v' : View) (d d' lo hi : ℕ) → (d' ≡ 0 → (d ≡ 0) × (v'.own_hi ≤ v.own_hi))
    → Hold κ v d lo hi → lo < hi → Still (stale κ d) (stale κ d') v v' (stolen_ix κ lo hi)
still_of Lifo v v' d d' lo hi S H l e = ((S e).0, λ q. omega (arith, (S e).1))
still_of Fifo v v' d d' lo hi S H l e = (refl, λ q. omega arith)
still_of Deque v v' d d' lo hi S H l e = ((S e).0, λ q. omega (arith, (S e).1))

module _ {κ : Kind} {w : ℕ} {v v' : View} {g g' : ℕ} {h h' : History} {k : ℕ} (M : Move κ w v v' g g' h h' k) where
  reads_keep : {r : Anchor} → Reads κ w v g h k r → Reads κ w v' g' h' k r
  reads_keep {r} R =
      record {
        lo = R.lo;
        hi = R.hi;
        rep = R.rep;
        le = R.le;
        begun = M.grown R.begun;
        tag = M.tags r.tag R.tag;
        hold = hold_keep κ v v' (puts_since k h) (puts_since k h') R.lo R.hi M.frame.up M.frame.larger M.grow M.still R.hold;
      }

  st : {r : Anchor} (R : Reads κ w v g h k r) → R.lo < R.hi → Still (stale κ (puts_since k h)) (stale κ (puts_since k h')) v v' (stolen_ix κ R.lo R.hi)
  st R l = still_of κ v v' (puts_since k h) (puts_since k h') R.lo R.hi M.still R.hold l

  place_keep : {r : Anchor} (b : ℕ) (R : Reads κ w v g h k r) → R.lo < R.hi → NotedV κ w v g h k r R b → NotedV κ w v' g' h' k r (reads_keep R) b
  unfolding reads_keep
  place_keep b R l (p, s, N) =
      let P = M.frame.places b p in
      (P.0, rw P.2 s, rw (P.1, P.2) (dir_keep M.frame N.0, noted_keep M.frame (st R l) N.0 N.1))

  got_all : {r : Anchor} {t : Task} (R : Reads κ w v g h k r) → R.lo < R.hi → GotV κ w v g h k r R (v.words + 1) t
      → GotV κ w v' g' h' k r (reads_keep R) (v'.words + 1) t
  unfolding reads_keep
  got_all {r} {t} R l G =
      subst (λ (x : ℕ). Got (stale κ (puts_since k h')) v' (stolen_ix κ R.lo R.hi) (x + 1) t) (sym M.frame.width) (got_keep M.frame (st R l) (omega arith) G)

  oh_le : IsFifo κ → v.own_hi ≤ v'.own_hi
  oh_le f = go κ f M.grow
    where
      go : (κ : Kind) → IsFifo κ → Grow κ v v' → v.own_hi ≤ v'.own_hi
      go Lifo f q = absurd f
      go Fifo f q = q
      go Deque f q = absurd f

  pub thief_holds : (θ : Line) → ThiefOk κ w v g h k θ → ThiefOk κ w v' g' h' k θ
  unfolding reads_keep
  thief_holds Idle o = tt
  thief_holds StealRead o = tt
  thief_holds (StealTail a) (f, e, p, q, E, r) = (f, e, p, omega (arith, oh_le f), (λ x. M.emp (E x)), M.grown r)
  thief_holds (StealTest r) (R, E) = (reads_keep R, λ x. M.emp (E x))
  thief_holds (StealNote r) (R, l) = (reads_keep R, l)
  thief_holds (StealWord r b t j) (R, l, N, u, G) =
      (reads_keep R, l, place_keep b R l N, omega (arith, M.frame.width), got_keep M.frame (st R l) (omega arith) G)
  thief_holds (StealNext r t) (R, l, G) = (reads_keep R, l, got_all R l G)
  thief_holds (StealCompare r e t) (R, l, G, N) = (reads_keep R, l, got_all R l G, N)
  thief_holds (PutRead t) o = absurd o
  thief_holds (PutTail t a) o = absurd o
  thief_holds (PutTest t r) o = absurd o
  thief_holds (PutWord t r j) o = absurd o
  thief_holds (PutFinish t r) o = absurd o
  thief_holds (Claim t) o = absurd o
  thief_holds (Note t) o = absurd o
  thief_holds (Copy t a q j) o = absurd o
  thief_holds (Publish t) o = absurd o
  thief_holds TakeRead o = absurd o
  thief_holds (TakeTail a) o = absurd o
  thief_holds (TakeTest r) o = absurd o
  thief_holds (TakeWord r t j) o = absurd o
  thief_holds (TakeFinish r t) o = absurd o

-- events that leave worker k's attempt as it is
abbrev pub Calm : ℕ → Event → Type 0
Calm k quiet = Unit {0}
Calm k (line_1 j) = j ≢ k
Calm k (finished_put t) = ⊥
Calm k (handed_out j t) = Unit {0}
Calm k (failed_compare j) = Unit {0}
Calm k (found_empty j) = Unit {0}
Calm k (began_put t) = Unit {0}
Calm k (found_full t) = Unit {0}
Calm k (waiting_put t y) = Unit {0}
Calm k drained = Unit {0}

calm_since : (k : ℕ) (h : History) (e : Event) → Calm k e → puts_since k (e ∷ h) ≡ puts_since k h
calm_since k h quiet c = refl
calm_since k h (line_1 j) c = rw (ne_eqb j k c)
calm_since k h (finished_put t) c = absurd c
calm_since k h (handed_out j t) c = refl
calm_since k h (failed_compare j) c = refl
calm_since k h (found_empty j) c = refl
calm_since k h (began_put t) c = refl
calm_since k h (found_full t) c = refl
calm_since k h (waiting_put t y) c = refl
calm_since k h drained c = refl

-- events that are no line 1 of worker k
abbrev pub NotRead : ℕ → Event → Type 0
NotRead k quiet = Unit {0}
NotRead k (line_1 j) = j ≢ k
NotRead k (finished_put t) = Unit {0}
NotRead k (handed_out j t) = Unit {0}
NotRead k (failed_compare j) = Unit {0}
NotRead k (found_empty j) = Unit {0}
NotRead k (began_put t) = Unit {0}
NotRead k (found_full t) = Unit {0}
NotRead k (waiting_put t y) = Unit {0}
NotRead k drained = Unit {0}

cut_keep : (k : ℕ) (h : History) (e : Event) → NotRead k e → history_at k (e ∷ h) ≡ history_at k h
cut_keep k h quiet c = refl
cut_keep k h (line_1 j) c = rw (ne_eqb j k c)
cut_keep k h (finished_put t) c = refl
cut_keep k h (handed_out j t) c = refl
cut_keep k h (failed_compare j) c = refl
cut_keep k h (found_empty j) c = refl
cut_keep k h (began_put t) c = refl
cut_keep k h (found_full t) c = refl
cut_keep k h (waiting_put t y) c = refl
cut_keep k h drained c = refl

pub calm_read : (k : ℕ) (e : Event) → Calm k e → NotRead k e
calm_read k quiet c = tt
calm_read k (line_1 j) c = c
calm_read k (finished_put t) c = tt
calm_read k (handed_out j t) c = tt
calm_read k (failed_compare j) c = tt
calm_read k (found_empty j) c = tt
calm_read k (began_put t) c = tt
calm_read k (found_full t) c = tt
calm_read k (waiting_put t y) c = tt
calm_read k drained c = tt

pub emp_keep : (k : ℕ) (h : History) (e : Event) → NotRead k e → Emptied k h → Emptied k (e ∷ h)
emp_keep k h e c E t d = later e (E t (subst (Concerns k t) (cut_keep k h e c) d))

pub emp_calm : (k : ℕ) (h : History) (e : Event) → Calm k e → Emptied k h → Emptied k (e ∷ h)
emp_calm k h e c E = emp_keep k h e (calm_read k e c) E

-- the newest line 1
pub cut_now : (i : ℕ) (h : History) → history_at i (line_1 i ∷ h) ≡ h
cut_now i h = rw (eq-eqb i i refl)

pub since_now : (i : ℕ) (h : History) → puts_since i (line_1 i ∷ h) ≡ 0
since_now i h = rw (eq-eqb i i refl)

pub emp_now : {v : View} {lo hi : ℕ} {h : History} (i : ℕ) → Core v lo hi h → lo ≡ hi → Emptied (suc i) (line_1 (suc i) ∷ h)
emp_now {v} {lo} {hi} {h} i C e t d = go (C.all t (subst (λ (l : History). Memᴰ (finished_put t) l) (cut_now (suc i) h) d))
  where
    go : Out t h ⊎ ((i : ℕ) × (lo ≤ i) × (i < hi) × (task_at v i ≡ t)) → Out t (line_1 (suc i) ∷ h)
    go (inl o) = later (line_1 (suc i)) o
    go (inr (k, a, b, x)) = absurd (omega arith)

tag_calm : (κ : Kind) (w g d d' r : ℕ) → d' ≡ d → Tag κ w g d r → Tag κ w g d' r
tag_calm κ w g d d' r e t = rw e t

pub move_calm : {κ : Kind} {w : ℕ} {v v' : View} {g : ℕ} {h : History} {k : ℕ} (e : Event) → Calm k e → Frame v v' → Grow κ v v' → v'.own_hi ≤ v.own_hi
    → Move κ w v v' g g h (e ∷ h) k
move_calm {κ} {w} {v} {v'} {g} {h} {k} e c F G l =
    record {
      frame = F;
      grow = G;
      still = λ q. (sym (calm_since k h e c) ∙ q, l);
      tags = λ r. tag_calm κ w g (puts_since k h) (puts_since k (e ∷ h)) r (calm_since k h e c);
      emp = emp_calm k h e c;
      grown = Memᴰ.tail;
    }

-- nothing happened
pub move_none : {κ : Kind} {w : ℕ} {v v' : View} {g : ℕ} {h : History} {k : ℕ} → Frame v v' → Grow κ v v' → v'.own_hi ≤ v.own_hi → Move κ w v v' g g h h k
move_none {κ} {w} {v} {v'} {g} {h} {k} F G l =
    record { frame = F; grow = G; still = λ q. (q, l); tags = λ r t. t; emp = λ E. E; grown = λ m. m }

-- the tag after a put
abbrev pub tag_after : Kind → ℕ → ℕ → ℕ
tag_after Lifo w g = (g + 1) % 2 ^ w
tag_after Fifo w g = g
tag_after Deque w g = (g + 1) % 2 ^ w

tag_put : (κ : Kind) (w g d r : ℕ) → Tag κ w g d r → Tag κ w (tag_after κ w g) (suc d) r
tag_put Lifo w g d r t = (t.0, tag_next g r d (2 ^ w) t.1)
tag_put Fifo w g d r t = tt
tag_put Deque w g d r t = (t.0, tag_next g r d (2 ^ w) t.1)

pub move_put : {κ : Kind} {w : ℕ} {v v' : View} {g : ℕ} {h : History} {k : ℕ} (t : Task) → Frame v v' → Grow κ v v'
    → Move κ w v v' g (tag_after κ w g) h (finished_put t ∷ h) k
move_put {κ} {w} {v} {v'} {g} {h} {k} t F G =
    record {
      frame = F;
      grow = G;
      still = λ q. absurd (omega arith);
      tags = λ r. tag_put κ w g (puts_since k h) r;
      emp = emp_keep k h (finished_put t) tt;
      grown = Memᴰ.tail;
    }

growth_told : (ω : ℕ) (h : History) (e : Event) → ((u : Task) → Told u (e ∷ h) → Told u h) → (g : Growth) → BegunFor ω g h → BegunFor ω g (e ∷ h)
growth_told ω h e nt (ForPut t) b = begun_told e nt b
growth_told ω h e nt ForCommit b = tt

pub growth_later : (ω : ℕ) (h : History) (e : Event) → NotTold e → (g : Growth) → BegunFor ω g h → BegunFor ω g (e ∷ h)
growth_later ω h e n (ForPut t) b = begun_later e n b
growth_later ω h e n ForCommit b = tt

-- a step of another, seen by the owner
pub own_later : (κ : Kind) (v : View) (g : ℕ) (h : History) (e : Event) → NotRead 0 e → ((u : Task) → Told u (e ∷ h) → Told u h) → (o : Line) → OwnerOk κ v g h o → OwnerOk κ v g (e ∷ h) o
own_later κ v gc h e c nt Idle k = k
own_later κ v gc h e c nt (PutRead t) k = begun_told e nt k
own_later κ v gc h e c nt (PutTail t a) (b, k) = (begun_told e nt b, k)
own_later κ v gc h e c nt (PutTest t r) (b, k) = (begun_told e nt b, k)
own_later κ v gc h e c nt (PutWord t r j) (b, k) = (begun_told e nt b, k)
own_later κ v gc h e c nt (PutFinish t r) (b, k) = (begun_told e nt b, k)
own_later κ v gc h e c nt (Claim t) k = growth_told v.words h e nt t k
own_later κ v gc h e c nt (Note t) (b, k) = (growth_told v.words h e nt t b, k)
own_later κ v gc h e c nt (Copy t a q i) (b, d, k) = (growth_told v.words h e nt t b, d, k)
own_later κ v gc h e c nt (Publish t) (b, d, k) = (growth_told v.words h e nt t b, d, k)
own_later κ v gc h e c nt TakeRead k = k
own_later κ v gc h e c nt (TakeTail a) (f, l, E, r) = (f, l, (λ x. emp_keep 0 h e c (E x)), Memᴰ.tail r)
own_later κ v gc h e c nt (TakeTest r) (p, q, E, y) = (p, q, (λ x. emp_keep 0 h e c (E x)), Memᴰ.tail y)
own_later κ v gc h e c nt (TakeWord r t j) k = k
own_later κ v gc h e c nt (TakeFinish r t) k = k
own_later κ v gc h e c nt StealRead k = absurd k
own_later κ v gc h e c nt (StealTail a) k = absurd k
own_later κ v gc h e c nt (StealTest r) k = absurd k
own_later κ v gc h e c nt (StealNote r) k = absurd k
own_later κ v gc h e c nt (StealWord r b t j) k = absurd k
own_later κ v gc h e c nt (StealNext r t) k = absurd k
own_later κ v gc h e c nt (StealCompare r i t) k = absurd k

pub tops_refl : (κ : Kind) (n : ℕ) → Tops κ n n
tops_refl Lifo n = tt
tops_refl Fifo n = refl
tops_refl Deque n = refl

-- the owner's window keeps its upper end
pub grow_same : (κ : Kind) (v v' : View) → v'.own_hi ≡ v.own_hi → Grow κ v v'
grow_same Lifo v v' e = tt
grow_same Fifo v v' e = omega arith
grow_same Deque v v' e = tt

-- the owner's window comes to be the queue's
pub grow_read : (κ : Kind) (v v' : View) (hi : ℕ) → v'.own_hi ≡ hi → Tops κ hi v.own_hi → Grow κ v v'
grow_read Lifo v v' hi e t = tt
grow_read Fifo v v' hi e t = omega arith
grow_read Deque v v' hi e t = tt

-- links are no part of it
pub inv_relink : {κ : Kind} {w ω : ℕ} {δ : Bool} {Q : Queue} {μ : List ℕ} {ss : List Store} {o : Line} {φ : ℕ → Line} {h : History} (i : ℕ) (x : Bool) → Inv κ w ω δ Q μ ss o φ h → Inv κ w ω δ (link_set Q i x) μ ss o φ h
inv_relink i x I =
    record {
      own_lo = I.own_lo;
      own_hi = I.own_hi;
      base =
          record {
            lo = I.base.lo;
            hi = I.base.hi;
            rep = I.base.rep;
            tops = I.base.tops;
            core = I.base.core;
            sized = I.base.sized;
            sorted = I.base.sorted;
            room = I.base.room;
            tag = I.base.tag;
            owed = I.base.owed;
            th = I.base.th;
          };
      own = I.own;
      due = I.due;
      order = I.order;
    }
