-- A call of one queue writes no word outside the arrays that it leaves the queue with.
use mathlib.Core.Path.{◌≡◌, refl, sym, ◌∙◌, ap, subst}
use mathlib.Core.Bool.{Bool, true, false, true≢false}
use mathlib.Core.Logic.{◌≢◌, ◌⊎◌, inl, inr}
use mathlib.Core.List.{List, [], ◌∷◌, ◌++◌}
use Prim.Native.Nat.{ℕ, zero, suc, ◌+◌, ◌-◌, ◌*◌, ◌≤◌, ◌<◌}
use native.Mathlib.Omega.{arith}
use lib.Dec.{leb}
use lib.ListN.{length, get_or, set, take, drop, replicate, length-set, length-replicate}
use lib.Seq.{get_or-set_other, get_or-append-add, get_or-drop, length-take-le}
use borrow.Author.Tests.{leb-true}
use Rattle.model.specs.declared.Kind.{Kind}
use Rattle.model.specs.declared.Kind.TheVariants.{Lifo, Fifo, Deque}
use Rattle.model.specs.declared.Line.{Line}
use Rattle.model.specs.declared.Line.TheVariants.{Idle, PutRead, PutTail, PutTest, PutWord, PutFinish, Claim, Note, Copy, Publish, TakeRead, TakeTail, TakeTest, TakeWord, TakeFinish, StealRead, StealTail, StealTest, StealNote, StealWord, StealNext, StealCompare}
use Rattle.model.specs.declared.Queue.{Queue}
use Rattle.model.specs.declared.Room.{Room}
use Rattle.model.specs.declared.Region.{Region}
use Rattle.model.specs.declared.Anchor.{Anchor}
use Rattle.model.specs.declared.Store.{Store}
use Rattle.model.specs.declared.Store.TheVariants.{StoreWord, StoreNote, StorePut, StoreOut, StoreHead, StoreTail}
use Rattle.model.specs.Tests.{when◌then◌else◌}
use Rattle.model.specs.Memory.{zeros, offset_at, length_at, size_at, end_at, words_to}
use Rattle.model.specs.Figures.{is_empty, steal_store}
use Rattle.model.specs.Stores.{words_taken, next_length, claiming, in_line, oldest}
use Rattle.model.specs.Lines.{Effect, size, succeeds, line_step}
use Rattle.model.specs.World.{World, Outcome, tag_bits, line_at}
use Rattle.model.specs.Calls.{landing, Call, call_in}
use Rattle.theorems.proofs.Folds.{words, laid, arrays_after, claimed_after, store_after, queue_after}
use Rattle.theorems.proofs.Words.{earlier_slot, set_here, zeros_low, zeros_length}
use Rattle.theorems.proofs.Directory.{both, Free, Admits, Others, long_at}
use Rattle.theorems.proofs.Shape.{tail, Path, ThiefShape, Shape}
use Rattle.theorems.proofs.ShapeStep.{claim_only, own_shaped}
use Rattle.theorems.proofs.Held.{line_drain}
use Rattle.theorems.proofs.Valid.{thieves, Whole}
use Rattle.theorems.proofs.Cases.{effect_of, store_then, step_to, MayAside, drain_to, call_by}
use Rattle.theorems.proofs.WholeRun.{in_line_lem, thief_calm, thief_lands}
use Rattle.theorems.proofs.Alone.{added}
use Rattle.yards.specs.Yards.{Apart}

-- the address a lies outside the first c arrays
abbrev pub Outside : List Region → ℕ → ℕ → Type 0
Outside l c a = (k : ℕ) → k < c → (a < offset_at l k) ⊎ (end_at l k ≤ a)

pub record Untouched (l : List Region) (c : ℕ) (m m' : List ℕ) : Type 0 where
  pub long : length m' ≡ length m
  pub out : (a : ℕ) → Outside l c a → get_or m' a 0 ≡ get_or m a 0

pub same : (l : List Region) (c : ℕ) (m : List ℕ) → Untouched l c m m
same l c m = record { long = refl; out = λ a o. refl }

abbrev pub Lengths : ℕ → List Region → ℕ → Type 0
Lengths ω l c = (k : ℕ) → k < c → length_at l k ≡ (ω + 1) * size_at ω l k

-- a word of slot s of array k is written
word : (ω : ℕ) (l : List Region) (c : ℕ) (m : List ℕ) (k s j x : ℕ) → Lengths ω l c → k < c → s < size_at ω l k → j ≤ ω → Untouched l c m (set m (offset_at l k + (ω + 1) * s + j) x)
word ω l c m k s j x L h g hj = record { long = length-set m _ x; out = λ a o. get_or-set_other m (offset_at l k + (ω + 1) * s + j) a x 0 (ne a (o k h)) }
  where
    ne : (a : ℕ) → (a < offset_at l k) ⊎ (end_at l k ≤ a) → a ≢ offset_at l k + (ω + 1) * s + j
    ne a (inl p) = omega arith
    ne a (inr p) = omega (arith, L k h, earlier_slot (ω + 1) s (size_at ω l k) j g (omega arith))

pub then' : {l : List Region} {c : ℕ} {m m' m'' : List ℕ} → Untouched l c m m' → Untouched l c m' m'' → Untouched l c m m''
then' U X = record { long = X.long ∙ U.long; out = λ a o. X.out a o ∙ U.out a o }

-- stores that fit
stores_in : (κ : Kind) (w ω : ℕ) (l : List Region) (c low p τ : ℕ) (ss : List Store) (m : List ℕ) → Lengths ω l c → Path κ w ω l c low p τ ss → Untouched l c m (words ω l ss m)
stores_in κ w ω l c low p τ [] m L P = same l c m
stores_in κ w ω l c low p τ (StoreWord b s j x ∷ ss) m L ((f, g, h, i), P) = then' (word ω l c m b s j x L f g h) (stores_in κ w ω l c low p τ ss _ L P)
stores_in κ w ω l c low p τ (StoreNote k ∷ ss) m L (f, P) = stores_in κ w ω l c low (k + 1) τ ss m L P
stores_in κ w ω l c low p τ (StorePut r ∷ ss) m L (f, P) = stores_in κ w ω l c low p τ ss m L P
stores_in κ w ω l c low p τ (StoreOut r ∷ ss) m L (f, P) = stores_in κ w ω l c low p τ ss m L P
stores_in κ w ω l c low p τ (StoreHead i ∷ ss) m L (f, P) = stores_in κ w ω l c i p τ ss m L P
stores_in κ w ω l c low p τ (StoreTail i ∷ ss) m L (f, P) = stores_in κ w ω l c low p i ss m L P

-- those that join the end
path_end : (κ : Kind) (w ω : ℕ) (l : List Region) (c low p τ : ℕ) (ss rr : List Store) → Path κ w ω l c low p τ (ss ++ rr) → (low' : ℕ) × (p' : ℕ) × (τ' : ℕ) × Path κ w ω l c low' p' τ' rr
path_end κ w ω l c low p τ [] rr P = (low, p, τ, P)
path_end κ w ω l c low p τ (StoreWord b s j x ∷ ss) rr (f, P) = path_end κ w ω l c low p τ ss rr P
path_end κ w ω l c low p τ (StoreNote k ∷ ss) rr (f, P) = path_end κ w ω l c low (k + 1) τ ss rr P
path_end κ w ω l c low p τ (StorePut r ∷ ss) rr (f, P) = path_end κ w ω l c low p τ ss rr P
path_end κ w ω l c low p τ (StoreOut r ∷ ss) rr (f, P) = path_end κ w ω l c low p τ ss rr P
path_end κ w ω l c low p τ (StoreHead i ∷ ss) rr (f, P) = path_end κ w ω l c i p τ ss rr P
path_end κ w ω l c low p τ (StoreTail i ∷ ss) rr (f, P) = path_end κ w ω l c low p i ss rr P

landed_in : (κ : Kind) (w ω : ℕ) (l : List Region) (c low p τ : ℕ) (δ : Bool) (i : ℕ) (ss : List Store) (m : List ℕ) → Lengths ω l c → Path κ w ω l c low p τ ss → Untouched l c m (words ω l (landing δ i ss) m)
landed_in κ w ω l c low p τ true zero ss m L P = same l c m
landed_in κ w ω l c low p τ true (suc i) ss m L P = stores_in κ w ω l c low p τ ss m L P
landed_in κ w ω l c low p τ false i ss m L P = stores_in κ w ω l c low p τ ss m L P

-- words behind those that are zeroed
pub zeros_high : (m : List ℕ) (a n i : ℕ) → a + n ≤ i → a ≤ length m → get_or (zeros m a n) i 0 ≡ get_or m i 0
unfolding zeros
zeros_high m a n i h l =
    subst (λ (x : ℕ). get_or (take a m ++ (replicate n 0 ++ drop (a + n) m)) x 0 ≡ get_or m i 0) here
    (get_or-append-add (take a m) (replicate n 0 ++ drop (a + n) m) (n + (i - (a + n))) 0
    ∙ subst (λ (x : ℕ). get_or (replicate n 0 ++ drop (a + n) m) (x + (i - (a + n))) 0 ≡ get_or m i 0) (length-replicate {A = ℕ} n 0)
    (get_or-append-add (replicate n 0) (drop (a + n) m) (i - (a + n)) 0 ∙ get_or-drop (a + n) m (i - (a + n)) 0 ∙ ap (λ (x : ℕ). get_or m x 0) there))
  where
    here : length (take a m) + (n + (i - (a + n))) ≡ i
    here = omega (arith, length-take-le a m l)

    there : a + n + (i - (a + n)) ≡ i
    there = omega arith

-- an array is zeroed
pub zeroed : (l : List Region) (c : ℕ) (m : List ℕ) (k a n : ℕ) → k < c → offset_at l k ≡ a → end_at l k ≡ a + n → a + n ≤ length m → Untouched l c m (zeros m a n)
zeroed l c m k a n h eo ee r = record { long = zeros_length m a n r; out = λ i o. go i (o k h) }
  where
    go : (i : ℕ) → (i < offset_at l k) ⊎ (end_at l k ≤ i) → get_or (zeros m a n) i 0 ≡ get_or m i 0
    go i (inl p) = zeros_low m a n i (omega (arith, eo)) (omega arith)
    go i (inr p) = zeros_high m a n i (omega (arith, ee)) (omega arith)

-- X1's zeroing
claim_in : (ρ : Room) (x : Bool) (q : Queue) (m : List ℕ) → Free ρ q m → (x ≡ true → (q.claimed < length q.arrays) × (next_length q ≤ ρ.left)) → Untouched (arrays_after ρ x q) (claimed_after x q) m (store_after ρ x q m)
claim_in ρ true q m R f =
    let (h, l) = f refl in
    let e = set_here 0 q.arrays q.claimed ρ.next (next_length q) (next_length q) h (omega arith) in
    zeroed (claiming ρ q).arrays (q.claimed + 1) m q.claimed ρ.next (next_length q) (omega arith) e.0 (omega (arith, e.0, e.1)) (omega (arith, l, R.inside))
claim_in ρ false q m R f = same _ _ m

-- a thief writes no word
either : (ω : ℕ) (l : List Region) (m : List ℕ) (x : Bool) (E E' : Effect) → words ω l E.stores m ≡ m → words ω l E'.stores m ≡ m → words ω l (when x then E else E').stores m ≡ m
unfolding when◌then◌else◌
either ω l m true E E' p q = p
either ω l m false E E' p q = q

steal_word : (κ : Kind) (ω : ℕ) (l : List Region) (m : List ℕ) (r : Anchor) (e : ℕ) → words ω l (steal_store κ r e ∷ []) m ≡ m
steal_word Lifo ω l m r e = refl
steal_word Fifo ω l m r e = refl
steal_word Deque ω l m r e = refl

thief_words : (ρ : Room) (κ : Kind) (w ω : ℕ) (q : Queue) (m : List ℕ) (i τ : ℕ) (l : Line) → ThiefShape κ w ω q τ l → words ω q.arrays (line_step ρ κ w ω q m i l).stores m ≡ m
unfolding line_step
thief_words ρ κ w ω q m i τ Idle s = refl
thief_words ρ κ w ω q m i τ StealRead s = refl
thief_words ρ κ w ω q m i τ (StealTail h) s = refl
thief_words ρ κ w ω q m i τ (StealTest r) s = either ω q.arrays m (is_empty κ r) _ _ refl refl
thief_words ρ κ w ω q m i τ (StealNote r) s = refl
thief_words ρ κ w ω q m i τ (StealWord r k t j) s = refl
thief_words ρ κ w ω q m i τ (StealNext r t) s = refl
thief_words ρ κ w ω q m i τ (StealCompare r e t) s = either ω q.arrays m (succeeds κ q i r) _ _ (steal_word κ ω q.arrays m r e) refl
thief_words ρ κ w ω q m i τ (PutRead t) s = absurd s
thief_words ρ κ w ω q m i τ (PutTail t h) s = absurd s
thief_words ρ κ w ω q m i τ (PutTest t r) s = absurd s
thief_words ρ κ w ω q m i τ (PutWord t r j) s = absurd s
thief_words ρ κ w ω q m i τ (PutFinish t r) s = absurd s
thief_words ρ κ w ω q m i τ (Claim g) s = absurd s
thief_words ρ κ w ω q m i τ (Note g) s = absurd s
thief_words ρ κ w ω q m i τ (Copy g h j k) s = absurd s
thief_words ρ κ w ω q m i τ (Publish g) s = absurd s
thief_words ρ κ w ω q m i τ TakeRead s = absurd s
thief_words ρ κ w ω q m i τ (TakeTail h) s = absurd s
thief_words ρ κ w ω q m i τ (TakeTest r) s = absurd s
thief_words ρ κ w ω q m i τ (TakeWord r t j) s = absurd s
thief_words ρ κ w ω q m i τ (TakeFinish r t) s = absurd s

calm_keeps : (n m : ℕ) → n ≤ m → (when false then 0 else n) ≤ m
unfolding when◌then◌else◌
calm_keeps n m h = h

-- a call of one queue: what became of its directory (X1 claimed an array, or not) and of the store
pub record Changes (ρ : Room) (W : World) (D : Outcome) : Type 0 where
  pub claims : Bool
  pub arrays : D.world.bench.queue.arrays ≡ arrays_after ρ claims W.bench.queue
  pub claimed : D.world.bench.queue.claimed ≡ claimed_after claims W.bench.queue
  pub left : claims ≡ true → (W.bench.queue.claimed < length W.bench.queue.arrays) × (next_length W.bench.queue ≤ ρ.left)
  pub untouched : Untouched (arrays_after ρ claims W.bench.queue) (claimed_after claims W.bench.queue) W.store D.world.store
  -- what it claims and has set aside then is what was left for it
  pub fitting : words_to (arrays_after ρ claims W.bench.queue) (claimed_after claims W.bench.queue) + D.world.bench.aside ≤ words_taken W.bench.queue + ρ.left

-- a step that claims takes the words set aside
step_fits : (ρ : Room) (x : Bool) (q : Queue) (n : ℕ) → n ≤ ρ.left → (x ≡ true → (q.claimed < length q.arrays) × (next_length q ≤ ρ.left))
    → words_to (arrays_after ρ x q) (claimed_after x q) + (when x then 0 else n) ≤ words_taken q + ρ.left
unfolding when◌then◌else◌
step_fits ρ true q n h f = let (g, l) = f refl in let A = added ρ q g in omega (arith, A.words_is, l)
step_fits ρ false q n h f = omega (arith, h)

module _ {W : World} (H : Whole W) (ρ : Room) (R : Admits ρ W.bench W.store) where
  still : (D : Outcome) → D.world.bench.queue.arrays ≡ W.bench.queue.arrays → D.world.bench.queue.claimed ≡ W.bench.queue.claimed
      → Untouched W.bench.queue.arrays W.bench.queue.claimed W.store D.world.store → D.world.bench.aside ≤ ρ.left → Changes ρ W D
  still D a c u n = record { claims = false; arrays = a; claimed = c; left = λ e. absurd (true≢false (sym e)); untouched = u; fitting = omega (arith, n) }

  -- the owner's line: what it leaves has the shape of a queue, and its stores fit that
  pub own_shape : (low : ℕ) × Shape W.bench.kind (tag_bits W.bench) W.bench.words W.bench.used low (queue_after ρ (effect_of ρ W 0).claims W.bench.queue) (store_after ρ (effect_of ρ W 0).claims W.bench.queue W.store) (in_line W.bench.waiting ++ (effect_of ρ W 0).stores) (effect_of ρ W 0).line (thieves W.bench.workers)
  own_shape = own_shaped ρ W.bench.kind (tag_bits W.bench) W.bench.words W.bench.used H.low W.bench.queue W.store (in_line W.bench.waiting) (line_at W.bench.workers 0) (thieves W.bench.workers) H.words.1 R.free H.shape

  pub own_path : (low : ℕ) × (p : ℕ) × (τ : ℕ) × Path W.bench.kind (tag_bits W.bench) W.bench.words (arrays_after ρ (effect_of ρ W 0).claims W.bench.queue) (claimed_after (effect_of ρ W 0).claims W.bench.queue) low p τ (effect_of ρ W 0).stores
  own_path = path_end _ _ _ _ _ _ _ _ (in_line W.bench.waiting) (effect_of ρ W 0).stores own_shape.1.path

  pub own_left : (effect_of ρ W 0).claims ≡ true → (W.bench.queue.claimed < length W.bench.queue.arrays) × (next_length W.bench.queue ≤ ρ.left)
  own_left e =
      let C = claim_only ρ _ _ _ _ _ 0 (line_at W.bench.workers 0) e in
      let k : claimed_after (effect_of ρ W 0).claims W.bench.queue ≤ 11 = own_shape.1.arrays.few in
      let n : claimed_after true W.bench.queue ≤ 11 = subst (λ (x : Bool). claimed_after x W.bench.queue ≤ 11) e k in
      (omega (arith, n, H.shape.arrays.slots), leb-true _ _ (both (leb (2 * size W.bench.words (laid (in_line W.bench.waiting) W.bench.queue)) 1024) _ C.2).1)

  -- a thief's leaves every word
  pub thief_stores : (k : ℕ) → store_then ρ W (suc k) (effect_of ρ W (suc k)) ≡ W.store
  thief_stores k = rw (thief_calm ρ H k, (thief_lands ρ H k).1) (thief_words ρ _ _ _ W.bench.queue W.store (suc k) _ (line_at W.bench.workers (suc k)) (H.shape.th k))

  step_changes : (i : ℕ) → Changes ρ W (step_to ρ W i)
  step_changes zero =
      let P = own_path in
      record {
        claims = (effect_of ρ W 0).claims;
        arrays = refl;
        claimed = refl;
        left = own_left;
        untouched =
            then' (claim_in ρ (effect_of ρ W 0).claims W.bench.queue W.store R.free own_left)
            (landed_in W.bench.kind (tag_bits W.bench) W.bench.words _ _ P.0 P.1 P.2 W.bench.delayed 0 (effect_of ρ W 0).stores _ (long_at own_shape.1.arrays) P.3);
        fitting = step_fits ρ (effect_of ρ W 0).claims W.bench.queue W.bench.aside R.aside own_left;
      }
  step_changes (suc k) =
      still (step_to ρ W (suc k)) (ap (λ (x : Bool). arrays_after ρ x W.bench.queue) (thief_calm ρ H k)) (ap (λ (x : Bool). claimed_after x W.bench.queue) (thief_calm ρ H k))
      (subst (Untouched W.bench.queue.arrays W.bench.queue.claimed W.store) (sym (thief_stores k)) (same _ _ W.store))
      (subst (λ (x : Bool). (when x then 0 else W.bench.aside) ≤ ρ.left) (sym (thief_calm ρ H k)) (calm_keeps W.bench.aside ρ.left R.aside))

  -- the oldest store that waits
  pub oldest_path : 0 < W.bench.waiting.count
      → Path W.bench.kind (tag_bits W.bench) W.bench.words W.bench.queue.arrays W.bench.queue.claimed H.low W.bench.queue.published (tail W.bench.kind W.bench.queue.anchor) (oldest W.bench.waiting ∷ [])
  oldest_path some =
      ((subst (λ (ss : List Store). Path W.bench.kind (tag_bits W.bench) W.bench.words W.bench.queue.arrays W.bench.queue.claimed H.low W.bench.queue.published (tail W.bench.kind W.bench.queue.anchor) ss) (line_drain W.bench.waiting some (in_line_lem H)) H.shape.path).0, tt)

  drain_changes : 0 < W.bench.waiting.count → Untouched W.bench.queue.arrays W.bench.queue.claimed W.store (drain_to W).store
  drain_changes some =
      stores_in W.bench.kind (tag_bits W.bench) W.bench.words _ _ H.low W.bench.queue.published (tail W.bench.kind W.bench.queue.anchor) (oldest W.bench.waiting ∷ []) W.store (long_at H.shape.arrays) (oldest_path some)

  aside_left : (n : ℕ) → MayAside ρ W n → n ≤ ρ.left
  aside_left zero M = omega arith
  aside_left (suc n) M =
      let F = M.words (omega arith) in
      let l = leb-true (next_length W.bench.queue) ρ.left (both (leb (2 * size W.bench.words (laid (in_line W.bench.waiting) W.bench.queue)) 1024) _ F.1).1 in
      omega (arith, F.0, l)

  pub call_changes : (c : Call) → Changes ρ W (call_in ρ W c)
  call_changes c =
      call_by (Changes ρ W) W (λ r l. still _ refl refl (same _ _ _) R.aside) ρ (λ i op B. still _ refl refl (same _ _ _) R.aside) (λ i M. step_changes i)
      (λ i. still _ refl refl (same _ _ _) R.aside) (λ some. still _ refl refl (drain_changes some) R.aside) (λ n M. still _ refl refl (same _ _ _) (aside_left n M)) c

-- a queue whose arrays lie apart sees only what others write
pub apart_others : (q r : Queue) (m m' : List ℕ) → Apart q r → Untouched r.arrays r.claimed m m' → Others q m m'
apart_others q r m m' A U = record { long = U.long; same = λ k a h p g. U.out a (λ j l. go k a j p g (A k j h l)) }
  where
    go : (k a j : ℕ) → offset_at q.arrays k ≤ a → a < end_at q.arrays k → (end_at q.arrays k ≤ offset_at r.arrays j) ⊎ (end_at r.arrays j ≤ offset_at q.arrays k)
        → (a < offset_at r.arrays j) ⊎ (end_at r.arrays j ≤ a)
    go k a j p g (inl x) = inl (omega arith)
    go k a j p g (inr x) = inr (omega arith)
