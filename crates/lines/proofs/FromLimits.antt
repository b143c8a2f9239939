-- The limits give what a line needs: in a state within them each worker of the crew can do its line, and what it reads and writes
-- lies in the store.
use mathlib.Core.Bool.{Bool, true, false, not, true≢false}
use mathlib.Core.Path.{◌≡◌, refl, sym, subst, ◌∙◌}
use mathlib.Core.Logic.{◌⊎◌, inl, inr}
use mathlib.Core.List.{List}
use Prim.Native.Nat.{ℕ, zero, suc, ◌+◌, ◌-◌, ◌*◌, ◌^◌, ◌≤◌, ◌<◌}
use native.Mathlib.Omega.{arith}
use native.Mathlib.Nat.{mod-lt, eq-or-lt_of_le}
use lib.ListN.{length}
use lib.Pow.{pow_pos}
use borrow.Author.Tests.{ltb-true, leb-true, eqb-true, lt-ltb}
use Rattle.model.specs.declared.Kind.{Kind}
use Rattle.model.specs.declared.Kind.TheVariants.{Lifo, Fifo, Deque}
use Rattle.model.specs.declared.Anchor.{Anchor}
use Rattle.model.specs.declared.Growth.TheVariants.{ForPut, ForCommit}
use Rattle.model.specs.declared.Line.{Line}
use Rattle.model.specs.declared.Line.TheVariants.{
  Idle,
  PutRead,
  PutTail,
  PutTest,
  PutWord,
  PutFinish,
  Claim,
  Note,
  Copy,
  Publish,
  TakeRead,
  TakeTail,
  TakeTest,
  TakeWord,
  TakeFinish,
  StealRead,
  StealTail,
  StealTest,
  StealNote,
  StealWord,
  StealNext,
  StealCompare,
}
use Rattle.model.specs.declared.Queue.{Queue}
use Rattle.model.specs.declared.Room.{Room}
use Rattle.model.specs.declared.Worker.{Worker}
use Rattle.model.specs.declared.Bench.{Bench}
use Rattle.model.specs.Tests.{when◌then◌else◌, ◌or◌}
use Rattle.model.specs.Memory.{size_at}
use Rattle.model.specs.Figures.{slot, put_index, take_index, steal_index}
use Rattle.model.specs.Stores.{in_line, taken}
use Rattle.model.specs.Lines.{size, holds_link}
use Rattle.model.specs.World.{World, memory, owners_view, view_of, tag_bits, line_at, is_past1, is_expanding, is_thiefs}
use Rattle.model.specs.Limits.{
  width_ok,
  words_ok,
  crew_ok,
  directory_ok,
  anchor_ok,
  read_ok,
  room_ok,
  some_ok,
  noted_ok,
  slot_ok,
  place_ok,
  line_ok,
  owner_ok,
  thief_ok,
  link_ok,
  links_ok,
  thieves_ok,
  waiting_ok,
  Within,
}
use Rattle.figures.specs.Bounds.{Ordered}
use Rattle.slots.specs.Bounds.{Wide, Inside}
use Rattle.slots.proofs.Places.{most_words}
use Rattle.lines.specs.Actions.{len, Ground, Ready, Range, Lies}
use Rattle.model.proofs.Tests.{and_left, and_right, if_true, if_false}
use Rattle.lines.proofs.Views.{same_self, view_same}
use Rattle.lines.proofs.Directory.{Laid, Arrays, told, in_memory, arrays_of}

-- the limits' parts that bound a line: q is the queue in memory, p as the owner reads it
pub record Limits (b : Bench) (q p : Queue) : Type 0 where
  pub width : width_ok b.width ≡ true
  pub words : words_ok b.words ≡ true
  pub crew : crew_ok b.crew ≡ true
  pub directory : directory_ok b.words q p.published (line_at b.workers 0) ≡ true
  pub memory : anchor_ok b.kind (tag_bits b) (size b.words q) q.anchor ≡ true
  pub seen : anchor_ok b.kind (tag_bits b) (size b.words p) p.anchor ≡ true
  pub waiting : waiting_ok b.kind (tag_bits b) b.words p b.delayed b.waiting ≡ true
  pub links : links_ok b.kind q b.workers 8 ≡ true
  pub owner : owner_ok b.kind (tag_bits b) b.words p (line_at b.workers 0) ≡ true
  pub thieves : thieves_ok b.kind (tag_bits b) b.words q b.crew b.workers 7 ≡ true

pub limits_of : {ρ : Room} (W : World) → Within ρ W → Limits W.bench W.bench.queue (owners_view W).queue
limits_of W v =
    let v1 = and_right _ _ v.limits in
    let v2 = and_right _ _ v1 in
    let v3 = and_right _ _ v2 in
    let v4 = and_right _ _ v3 in
    let v5 = and_right _ _ v4 in
    let v6 = and_right _ _ v5 in
    let v8 = and_right _ _ (and_right _ _ v6) in
    let v10 = and_right _ _ (and_right _ _ v8) in
    let v11 = and_right _ _ v10 in
    record {
      width = and_left _ _ v1;
      words = and_left _ _ v2;
      crew = and_left _ _ v3;
      directory = and_left _ _ v4;
      memory = and_left _ _ v5;
      seen = and_left _ _ v6;
      waiting = and_left _ _ v8;
      links = and_left _ _ v10;
      owner = and_left _ _ v11;
      thieves = and_right _ _ v11;
    }

-- the anchor read, by the kind
abbrev Spans : Kind → ℕ → Anchor → Type 0
Spans Lifo z r = (r.head ≡ 0) × (r.count ≤ z)
Spans Fifo z r = (r.head ≤ r.count) × (r.count ≤ 65535)
Spans Deque z r = (r.head < 2048) × (r.count ≤ z)

spans : (κ : Kind) (w z : ℕ) (r : Anchor) → read_ok κ w z r ≡ true → Spans κ z r
spans Lifo w z r e = (eqb-true _ _ (and_left _ _ e), leb-true _ _ (and_left _ _ (and_right _ _ e)))
spans Fifo w z r e = (leb-true _ _ (and_left _ _ e), leb-true _ _ (and_left _ _ (and_right _ _ e)))
spans Deque w z r e = (ltb-true _ _ (and_left _ _ e), leb-true _ _ (and_left _ _ (and_right _ _ e)))

-- the anchor now is one that could be read
now_read : (κ : Kind) (w z : ℕ) (a : Anchor) → anchor_ok κ w z a ≡ true → Spans κ z a
now_read κ w z a e = spans κ w z a (and_left _ _ e)

in_range : (κ : Kind) (z : ℕ) (r : Anchor) → z ≤ 1024 → Spans κ z r → Range r
in_range Lifo z r b e = omega (arith, b, e)
in_range Fifo z r b e = omega (arith, b, e)
in_range Deque z r b e = omega (arith, b, e)

ordered : (κ : Kind) (z : ℕ) (a : Anchor) → Spans κ z a → Ordered κ a
unfolding Ordered
ordered Lifo z a e = tt
ordered Fifo z a e = e.0
ordered Deque z a e = tt

-- the slot of each index exists
put_slot : (κ : Kind) (z : ℕ) (r : Anchor) → 0 < z → room_ok κ z r ≡ true → slot κ z (put_index κ r) < z
put_slot Lifo z r b e = ltb-true _ _ e
put_slot Fifo z r b e = mod-lt _ b
put_slot Deque z r b e = mod-lt _ b

take_slot : (κ : Kind) (z : ℕ) (r : Anchor) → 0 < z → Spans κ z r → some_ok κ r ≡ true → slot κ z (take_index κ r) < z
take_slot Lifo z r b e f = let g : 0 < r.count = ltb-true _ _ f in omega (arith, e, g)
take_slot Fifo z r b e f = mod-lt _ b
take_slot Deque z r b e f = mod-lt _ b

steal_slot : (κ : Kind) (z : ℕ) (r : Anchor) → 0 < z → slot_ok κ z r ≡ true → some_ok κ r ≡ true → slot κ z (steal_index κ r) < z
steal_slot Lifo z r b e f =
    let g : r.count ≤ z = leb-true _ _ e in let h : 0 < r.count = ltb-true _ _ f in omega (arith, g, h)
steal_slot Fifo z r b e f = mod-lt _ b
steal_slot Deque z r b e f = mod-lt _ b

copy_slot : (κ : Kind) (y z h j k : ℕ) → 0 < y → z ≤ y → noted_ok κ h j ≡ true → j ≤ z → k < j → slot κ y (h + k) < y
copy_slot Lifo y z h j k a b e f g = let o : h ≡ 0 = eqb-true _ _ e in omega (arith, o, b, f, g)
copy_slot Fifo y z h j k a b e f g = mod-lt _ a
copy_slot Deque y z h j k a b e f g = mod-lt _ a

noted_in : (κ : Kind) (h j : ℕ) → noted_ok κ h j ≡ true → h ≤ 65535
noted_in Lifo h j e = let o : h ≡ 0 = eqb-true _ _ e in omega (arith, o)
noted_in Fifo h j e = let o : h + j ≤ 65535 = leb-true _ _ e in omega (arith, o)
noted_in Deque h j e = let o : h < 2048 = ltb-true _ _ e in omega (arith, o)

-- at line l: one array more is claimed than published, or none
abbrev Told : Queue → Line → Type 0
Told q l = q.claimed ≡ (when is_expanding l then q.published + 1 else q.published)

-- each line, from its own limits and the directory; q is the queue as its worker reads it
module _ (κ : Kind) (w v : ℕ) (q : Queue) (n : ℕ) (A : Arrays v q n) where
  here : Laid v q.arrays (q.claimed - 1) (q.published - 1)
  here = A.stands (q.published - 1) (omega (arith, A.some, A.behind))

  there : (k : ℕ) → k < q.claimed → (k < 11) × (0 < size_at v q.arrays k) × Inside v q n k
  there k h =
      let L = A.stands k h in
      (omega (arith, A.listed, h), omega (arith, pow_pos k, L.large), omega (arith, L.ends, L.long, A.fits))

  range : (r : Anchor) → read_ok κ w (size v q) r ≡ true → Range r
  range r e = in_range κ (size v q) r here.small (spans κ w (size v q) r e)

  lies : (k i : ℕ) → k < q.claimed → slot κ (size_at v q.arrays k) i < size_at v q.arrays k → Lies κ v q n k i
  lies k i h s = let t = there k h in let L = A.stands k h in let (e, few, z) = L.power in (t.0, ((A.doubled k h, L.small), (e, z), s), t.2)

  behind : (k : ℕ) → k < q.published → k < q.claimed
  behind k h = omega (arith, A.behind, h)

  put_ready : (r : Anchor) → read_ok κ w (size v q) r ≡ true → room_ok κ (size v q) r ≡ true
      → Range r × Lies κ v q n (q.published - 1) (put_index κ r)
  put_ready r e f =
      let h : q.published - 1 < q.claimed = omega (arith, A.some, A.behind) in
      (range r e, lies _ _ h (put_slot κ (size v q) r (there _ h).1 f))

  take_ready : (r : Anchor) → read_ok κ w (size v q) r ≡ true → some_ok κ r ≡ true
      → Range r × (some_ok κ r ≡ true) × Lies κ v q n (q.published - 1) (take_index κ r)
  take_ready r e f =
      let h : q.published - 1 < q.claimed = omega (arith, A.some, A.behind) in
      (range r e, f, lies _ _ h (take_slot κ (size v q) r (there _ h).1 (spans κ w (size v q) r e) f))

  steal_ready : (r : Anchor) (k : ℕ) → read_ok κ w (size v q) r ≡ true → some_ok κ r ≡ true → place_ok κ v q r k ≡ true
      → Range r × (some_ok κ r ≡ true) × Lies κ v q n k (steal_index κ r)
  steal_ready r k e f p =
      let h : k < q.claimed = behind k (ltb-true _ _ (and_left _ _ p)) in
      (range r e, f, lies k _ h (steal_slot κ (size_at v q.arrays k) r (there k h).1 (and_right _ _ p) f))

  free : 2 * size v q ≤ 1024 → q.published < 11
  free d = go (eq-or-lt_of_le {n = q.published} {m = 11} (omega (arith, A.behind, A.listed)))
    where
      go : (q.published ≡ 11) ⊎ (q.published < 11) → q.published < 11
      go (inr i) = i
      go (inl e) =
          let ten : 10 ≡ q.published - 1 = omega (arith, e) in
          let z : 1024 ≤ size v q = subst (λ (x : ℕ). 2 ^ x ≤ size v q) (sym ten) here.large in
          omega (arith, z, d)

  copy_ready : (h j k : ℕ) → q.claimed ≡ q.published + 1 → noted_ok κ h j ≡ true → j ≤ size v q → k < j
      → (h ≤ 65535) × (k ≤ 1024) × Lies κ v q n (q.published - 1) (h + k) × Lies κ v q n q.published (h + k)
  copy_ready h j k two e f g =
      let last : q.published < q.claimed = omega (arith, two) in
      let now : q.published - 1 < q.claimed = omega (arith, A.some, two) in
      let one : q.claimed - 1 ≡ q.published = omega (arith, two) in
      let up = subst (λ (m : ℕ). size v q ≤ size_at v q.arrays m) one here.grows in (
        noted_in κ h j e,
        omega (arith, f, g, here.small),
        lies _ _ now (copy_slot κ (size v q) (size v q) h j k (there _ now).1 (omega arith) e f g),
        lies _ _ last (copy_slot κ (size_at v q.arrays q.published) (size v q) h j k (there _ last).1 up e f g),
      )

  ready : (l : Line) → Ordered κ q.anchor → (is_thiefs l ≡ false → Told q l) → line_ok κ w v q l ≡ true
      → Ready κ v q n l
  unfolding Ready ◌or◌
  ready Idle a x e = tt
  ready (PutRead t) a x e = tt
  ready (PutTail t h) a x e = tt
  ready (PutTest t r) a x e = range r (and_right _ _ e)
  ready (PutWord t r j) a x e =
      let e1 = and_right _ _ e in
      let e2 = and_right _ _ e1 in
      let p = put_ready r (and_left _ _ e1) (and_left _ _ e2) in (p.0, p.1, leb-true _ _ (and_right _ _ e2))
  ready (PutFinish t r) a x e = range r (and_left _ _ (and_right _ _ e))
  ready (Claim (ForPut t)) a x e = (x refl ∙ if_false _ refl, free)
  ready (Claim ForCommit) a x e = (x refl ∙ if_false _ refl, free)
  ready (Note g) a x e = a
  ready (Copy g h j k) a x e =
      let e1 = and_right _ _ e in
      let e2 = and_right _ _ e1 in
      copy_ready h j k (x refl ∙ if_true _ refl) (and_left _ _ e1) (leb-true _ _ (and_left _ _ e2)) (ltb-true _ _ (and_right _ _ e2))
  ready (Publish g) a x e = tt
  ready TakeRead a x e = tt
  ready (TakeTail h) a x e = tt
  ready (TakeTest r) a x e = tt
  ready (TakeWord r t j) a x e =
      let e1 = and_right _ _ e in
      let p = take_ready r (and_left _ _ e) (and_left _ _ e1) in
      (p.0, p.1, p.2, leb-true _ _ (and_right _ _ (and_right _ _ e1)))
  ready (TakeFinish r t) a x e = (range r (and_left _ _ e), and_left _ _ (and_right _ _ e))
  ready StealRead a x e = tt
  ready (StealTail h) a x e = tt
  ready (StealTest r) a x e = tt
  ready (StealNote r) a x e = tt
  ready (StealWord r k t j) a x e =
      let e1 = and_right _ _ e in
      let e2 = and_right _ _ e1 in
      let p = steal_ready r k (and_left _ _ e) (and_left _ _ e1) (and_left _ _ e2) in
      (p.0, p.1, p.2, leb-true _ _ (and_right _ _ (and_right _ _ e2)))
  ready (StealNext r t) a x e = range r (and_left _ _ e)
  ready (StealCompare r i t) a x e = (range r (and_left _ _ e), and_left _ _ (and_right _ _ e))

-- thief i of the crew
thief_of : (κ : Kind) (w v : ℕ) (q : Queue) (n : ℕ) (l : List Worker) (k i : ℕ)
    → thieves_ok κ w v q n l k ≡ true → i < k → suc i < n → thief_ok κ w v q (line_at l (suc i)) ≡ true
thief_of κ w v q n l zero i t h c = absurd (omega arith)
thief_of κ w v q n l (suc k) i t h c =
    go (eq-or-lt_of_le h) (λ j. thief_of κ w v q n l k i (and_left _ _ t) j c)
  where
    go : (suc i ≡ suc k) ⊎ (suc i < suc k) → (i < k → thief_ok κ w v q (line_at l (suc i)) ≡ true)
        → thief_ok κ w v q (line_at l (suc i)) ≡ true
    go (inl e) f =
        subst (λ (x : ℕ). thief_ok κ w v q (line_at l x) ≡ true) (sym e)
        (sym (if_true _ (lt-ltb (suc k) n (omega (arith, e, c)))) ∙ and_right _ _ t)
    go (inr j) f = f (omega (arith, j))

-- worker i's link
link_of : (κ : Kind) (q : Queue) (l : List Worker) (k i : ℕ) → links_ok κ q l k ≡ true → i < k → holds_link q i ≡ true
    → (q.linked ≡ true) × (is_past1 (line_at l i) ≡ true)
unfolding ◌or◌
link_of κ q l zero i t h e = absurd (omega arith)
link_of κ q l (suc k) i t h e = go (eq-or-lt_of_le h) (λ j. link_of κ q l k i (and_left _ _ t) j e)
  where
    go : (suc i ≡ suc k) ⊎ (suc i < suc k) → (i < k → (q.linked ≡ true) × (is_past1 (line_at l i) ≡ true)) → (q.linked ≡ true) × (is_past1 (line_at l i) ≡ true)
    go (inl x) f =
        let same : k ≡ i = omega (arith, x) in
        held (subst (λ (j : ℕ). (not (holds_link q j) or link_ok κ q (line_at l j)) ≡ true) same (and_right _ _ t))
      where
        held : (not (holds_link q i) or link_ok κ q (line_at l i)) ≡ true → (q.linked ≡ true) × (is_past1 (line_at l i) ≡ true)
        held y = let z : link_ok κ q (line_at l i) ≡ true = rw e at y in (and_left _ _ z, and_left _ _ (and_right _ _ z))
    go (inr j) f = f (omega (arith, j))

-- of a state within the limits: the anchor and the directory, as worker i reads them
module _ {ρ : Room} (W : World) (v : Within ρ W) where
  anchored : (i : ℕ) → Spans W.bench.kind (size W.bench.words (view_of W i).queue) (view_of W i).queue.anchor
  anchored zero = now_read W.bench.kind (tag_bits W.bench) _ _ (limits_of W v).seen
  anchored (suc i) = now_read W.bench.kind (tag_bits W.bench) _ _ (limits_of W v).memory

  abbrev directory : directory_ok W.bench.words W.bench.queue (owners_view W).queue.published (line_at W.bench.workers 0) ≡ true
  directory = (limits_of W v).directory

  abbrev shared_directory : (0 < W.bench.queue.published) × (W.bench.queue.published ≤ (owners_view W).queue.published)
  shared_directory = in_memory W.bench.words W.bench.queue (owners_view W).queue.published (line_at W.bench.workers 0) directory

  ends : taken W.bench.queue ≤ length W.store
  ends = omega (arith, v.behind, v.inside)

  arrayed : (i : ℕ) → Arrays W.bench.words (view_of W i).queue (length W.store)
  arrayed zero =
      let (some, few) = shared_directory in
      arrays_of W.bench.words W.bench.queue (owners_view W).queue.published (line_at W.bench.workers 0) directory (length W.store) ends (owners_view W).queue (view_same W.bench.words (memory W) (in_line W.bench.waiting))
      (omega (arith, some, few)) (omega arith)
  arrayed (suc i) = let (some, few) = shared_directory in arrays_of W.bench.words W.bench.queue (owners_view W).queue.published (line_at W.bench.workers 0) directory (length W.store) ends W.bench.queue (same_self W.bench.queue) some few

  -- what every line needs
  pub narrow_within : W.bench.width ≤ 16
  narrow_within = leb-true _ _ (and_right _ _ (limits_of W v).width)

  pub crew_within : (0 < W.bench.crew) × (W.bench.crew ≤ 8)
  crew_within = (ltb-true _ _ (and_left _ _ (limits_of W v).crew), leb-true _ _ (and_right _ _ (limits_of W v).crew))

  -- the waiting line has eight places, and without the mode none waits
  pub few_within : W.bench.waiting.count ≤ 8
  unfolding when◌then◌else◌
  few_within = by W.bench.delayed (leb-true _ _ (and_left _ _ (limits_of W v).waiting))
    where
      by : (d : Bool) → W.bench.waiting.count ≤ (when d then 8 else 0) → W.bench.waiting.count ≤ 8
      by true h = h
      by false h = omega (arith, h)

  pub none_within : W.bench.delayed ≡ false → W.bench.waiting.count ≡ 0
  none_within e =
      let h : W.bench.waiting.count ≤ (when W.bench.delayed then 8 else 0) = leb-true _ _ (and_left _ _ (limits_of W v).waiting) in
      let n : ◌≡◌ {A = ℕ} (when W.bench.delayed then 8 else 0) 0 = if_false 8 e in omega (arith, h, n)

  -- a link is held in a linked queue, past line 1 of a steal
  pub link_within : (i : ℕ) → i < 8 → holds_link W.bench.queue i ≡ true
      → (W.bench.queue.linked ≡ true) × (is_past1 (line_at W.bench.workers i) ≡ true)
  link_within i h e = link_of W.bench.kind W.bench.queue W.bench.workers 8 i (limits_of W v).links h e

  pub wide_within : Wide W.bench.words
  wide_within = (ltb-true _ _ (and_left _ _ (limits_of W v).words), leb-true _ _ (and_right _ _ (limits_of W v).words))

  pub ground_within : (i : ℕ) → Ground W.bench.words (view_of W i).queue (length W.store)
  ground_within i =
      let b = W.bench in
      let q = (view_of W i).queue in
      let A = arrayed i in
      let h = here b.kind (tag_bits b) b.words q (length W.store) A in
      let r = in_range b.kind (size b.words q) q.anchor h.small (anchored i) in
      let most = most_words b.words (size b.words q) wide_within.1 h.small in
      let brief : len q ≤ 5120 = omega (arith, h.long, most) in
      record {
        wide = wide_within;
        some = A.some;
        listed = omega (arith, A.behind, A.listed);
        head = r.0;
        count = r.1;
        small = h.small;
        doubled = A.doubled (q.published - 1) (omega (arith, A.some, A.behind));
        brief = brief;
        inside = omega (arith, h.ends, A.fits);
      }

  -- the line of a worker of the crew is in the limits, and if it is none of a thief's it is the owner's
  line_ok_lem : (i : ℕ) → i < W.bench.crew
      → (line_ok W.bench.kind (tag_bits W.bench) W.bench.words (view_of W i).queue (line_at W.bench.workers i) ≡ true)
      × (is_thiefs (line_at W.bench.workers i) ≡ false → Told (view_of W i).queue (line_at W.bench.workers i))
  line_ok_lem zero c =
      let S = view_same W.bench.words (memory W) (in_line W.bench.waiting) in
      (and_right _ _ (limits_of W v).owner, λ x. S.claimed ∙ told W.bench.words W.bench.queue (owners_view W).queue.published (line_at W.bench.workers 0) directory)
  line_ok_lem (suc i) c =
      let b = W.bench in
      let n = crew_within.1 in
      let s = (limits_of W v).thieves in
      let t = thief_of b.kind (tag_bits b) b.words b.queue b.crew b.workers 7 i s (omega (arith, n, c)) c in
      (and_right _ _ t, λ x. absurd (true≢false (sym (and_left _ _ t) ∙ x)))

  -- what the line of worker i needs
  pub ready_within : (i : ℕ) → i < W.bench.crew
      → Ready W.bench.kind W.bench.words (view_of W i).queue (length W.store) (line_at W.bench.workers i)
  ready_within i c =
      let b = W.bench in
      let q = (view_of W i).queue in
      ready b.kind (tag_bits b) b.words q (length W.store) (arrayed i) (line_at b.workers i)
      (ordered b.kind (size b.words q) q.anchor (anchored i)) (line_ok_lem i c).1 (line_ok_lem i c).0
