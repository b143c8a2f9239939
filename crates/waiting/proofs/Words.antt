-- Waiting words that are put down and lifted again.
use mathlib.Core.List.{List, [], ◌∷◌}
use mathlib.Core.Path.{◌≡◌, refl, ap, ◌∙◌}
use Prim.Native.Nat.{ℕ, zero, suc, ◌+◌, ◌<◌}
use native.Mathlib.Omega.{arith}
use lib.ListN.{length, get_or, set}
use lib.Seq.{get_or-set_same, get_or-set_other}
use borrow.Author.Count.{below_more}
use Rattle.model.specs.declared.Queue.{Queue}
use Rattle.model.specs.declared.Store.{Store}
use Rattle.model.specs.declared.Store.TheVariants.{StoreWord, StoreNote, StorePut, StoreOut, StoreHead, StoreTail}
use Rattle.model.specs.declared.Region.{Region}
use Rattle.model.specs.Memory.{word_at, set_word, offset_at}
use Rattle.model.specs.Stores.{Shared, shared, landed, landed_all}
use Rattle.waiting.specs.Places.{first_in, Placed, covered_by, valued, KeptBy}
use Rattle.waiting.proofs.Line.{store_at, lands_next}

-- no landed store moves an array, claims one, or changes the size that is kept
record Stays (S T : Shared) : Type 0 where
  pub arrays : T.queue.arrays ≡ S.queue.arrays
  pub claimed : T.queue.claimed ≡ S.queue.claimed
  pub initial : T.queue.initial ≡ S.queue.initial

one_stays : (v : ℕ) (S : Shared) (s : Store) → Stays S (landed v S s)
one_stays v S (StoreWord k t j x) = record { arrays = refl; claimed = refl; initial = refl }
one_stays v S (StoreNote k) = record { arrays = refl; claimed = refl; initial = refl }
one_stays v S (StorePut a) = record { arrays = refl; claimed = refl; initial = refl }
one_stays v S (StoreOut a) = record { arrays = refl; claimed = refl; initial = refl }
one_stays v S (StoreHead h) = record { arrays = refl; claimed = refl; initial = refl }
one_stays v S (StoreTail t) = record { arrays = refl; claimed = refl; initial = refl }

stays : (v : ℕ) (S : Shared) (l : List Store) → Stays S (landed_all v S l)
unfolding landed_all
stays v S [] = record { arrays = refl; claimed = refl; initial = refl }
stays v S (s ∷ l) =
    let one = one_stays v S s in
    let more = stays v (landed v S s) l in
    record { arrays = more.arrays ∙ one.arrays; claimed = more.claimed ∙ one.claimed; initial = more.initial ∙ one.initial }

pub arrays_stay : (v : ℕ) (S : Shared) (l : List Store) → (landed_all v S l).queue.arrays ≡ S.queue.arrays
arrays_stay v S l = (stays v S l).arrays

pub claimed_stays : (v : ℕ) (S : Shared) (l : List Store) → (landed_all v S l).queue.claimed ≡ S.queue.claimed
claimed_stays v S l = (stays v S l).claimed

pub initial_stays : (v : ℕ) (S : Shared) (l : List Store) → (landed_all v S l).queue.initial ≡ S.queue.initial
initial_stays v S l = (stays v S l).initial

-- so the queue before all of them tells the places of all
same_words : (v : ℕ) (S : Shared) (q : Queue) (s : Store) → S.queue.arrays ≡ q.arrays
    → (landed v S s).store ≡ (landed v (shared q S.store) s).store
same_words v S q (StoreWord k t j x) e = ap (λ (l : List Region). set_word S.store v (offset_at l k) t j x) e
same_words v S q (StoreNote k) e = refl
same_words v S q (StorePut a) e = refl
same_words v S q (StoreOut a) e = refl
same_words v S q (StoreHead h) e = refl
same_words v S q (StoreTail t) e = refl

-- memory m with the first i stores of l put down
abbrev pub down : ℕ → Queue → List ℕ → List Store → ℕ → List ℕ
down v q m l i = (landed_all v (shared q m) (first_in l i)).store

pub next_word : (v : ℕ) (q : Queue) (m : List ℕ) (l : List Store) (i : ℕ) → i < length l
    → down v q m l (suc i) ≡ (landed v (shared q (down v q m l i)) (store_at l i)).store
next_word v q m l i h =
    let S = landed_all v (shared q m) (first_in l i) in
    ap (λ (T : Shared). T.store) (lands_next v (shared q m) l i h)
    ∙ same_words v S q (store_at l i) (arrays_stay v (shared q m) (first_in l i))

-- the covered word in its place again
set_back : (m : List ℕ) (a x : ℕ) → set (set m a x) a (get_or m a 0) ≡ m
set_back [] a x = refl
set_back (y ∷ m) zero x = refl
set_back (y ∷ m) (suc a) x = ap (λ (r : List ℕ). y ∷ r) (set_back m a x)

pub lifted : (v : ℕ) (q : Queue) (m : List ℕ) (s : Store)
    → (landed v (shared q (landed v (shared q m) s).store) (valued s (covered_by v q m s))).store ≡ m
unfolding set_word word_at
lifted v q m (StoreWord k t j x) = set_back m _ x
lifted v q m (StoreNote k) = refl
lifted v q m (StorePut a) = refl
lifted v q m (StoreOut a) = refl
lifted v q m (StoreHead h) = refl
lifted v q m (StoreTail t) = refl

pub placed_valued : (v : ℕ) (q : Queue) (n : ℕ) (s : Store) (y : ℕ) → Placed v q n s → Placed v q n (valued s y)
placed_valued v q n (StoreWord k t j x) y P = P
placed_valued v q n (StoreNote k) y P = P
placed_valued v q n (StorePut a) y P = P
placed_valued v q n (StoreOut a) y P = P
placed_valued v q n (StoreHead h) y P = P
placed_valued v q n (StoreTail t) y P = P

-- one more word kept
pub kept_none : (v : ℕ) (q : Queue) (m : List ℕ) (l : List Store) (ws : List ℕ) → KeptBy v q m (record { stores = l; count = 0 }) ws
unfolding KeptBy
kept_none v q m l ws i h = absurd (omega arith)

pub kept_more : (v : ℕ) (q : Queue) (m : List ℕ) (l : List Store) (ws : List ℕ) (i x : ℕ) → i < length ws
    → KeptBy v q m (record { stores = l; count = i }) ws → x ≡ covered_by v q (down v q m l i) (store_at l i)
    → KeptBy v q m (record { stores = l; count = i + 1 }) (set ws i x)
unfolding KeptBy
kept_more v q m l ws i x h K e =
    below_more _ i (λ k g. get_or-set_other ws i k x 0 (λ f. omega (arith, g, f)) ∙ K k g) (get_or-set_same ws i x 0 h ∙ e)

-- the youngest lifted
pub lift_one : {s n : List ℕ} {x : Store} {y : ℕ} (v : ℕ) (q : Queue) (m : List ℕ) (l : List Store) (i : ℕ) → i < length l
    → s ≡ down v q m l (suc i) → y ≡ covered_by v q (down v q m l i) (store_at l i) → x ≡ valued (store_at l i) y
    → n ≡ (landed v (shared q s) x).store → n ≡ down v q m l i
lift_one {s} {n} {x} {y} v q m l i h e f g d =
    d
    ∙ ap (λ (z : Store). (landed v (shared q s) z).store) (g ∙ ap (valued (store_at l i)) f)
    ∙ ap (λ (z : List ℕ). (landed v (shared q z) (valued (store_at l i) (covered_by v q (down v q m l i) (store_at l i)))).store)
    (e ∙ next_word v q m l i h)
    ∙ lifted v q (down v q m l i) (store_at l i)
