-- Arrays that lie apart, end within the first N words and take N words cover them: counted word by word and array by array.
use mathlib.Core.Path.{◌≡◌, refl, sym, ◌∙◌, ap, subst}
use mathlib.Core.Bool.{Bool, true}
use mathlib.Core.Logic.{◌≢◌, ◌⊎◌, inl, inr}
use mathlib.Core.List.{List}
use Prim.Native.Nat.{ℕ, zero, suc, ◌+◌, ◌-◌, ◌≤◌, ◌<◌}
use native.Mathlib.Omega.{arith}
use lib.Dec.{leb}
use lib.ListN.{get_or}
use borrow.Author.Tests.{leb-true}
use Rattle.model.specs.declared.Queue.{Queue}
use Rattle.model.specs.declared.Region.{Region}
use Rattle.model.specs.declared.Plot.{Plot}
use Rattle.model.specs.declared.Yard.{Yard}
use Rattle.model.proofs.Tests.{and_left, and_right, or_cases}
use Rattle.model.specs.Memory.{offset_at, end_at, words_to}
use Rattle.model.specs.Stores.{taken}
use Rattle.model.specs.Limits.{tidy}
use Rattle.model.specs.World.{line_at}
use Rattle.model.specs.Yard.{Ground, no_plot, bench_at, queue_at, owners_queue, all_below, total_of, claimed_by, claimed_words, no_overlap, place_ok, sound_yard}
use Rattle.model.proofs.Alone.{directory_of, tidy_of}
use Rattle.theorems.proofs.Remainders.{le_or_lt}
use Rattle.theorems.proofs.Directory.{tidy_below, tidy_sorted}
use Rattle.yards.specs.Yards.{Apart, NoGaps}
use Rattle.yards.proofs.Grounds.{same_or}

-- SUMS
unfoldable sum : (ℕ → ℕ) → ℕ → ℕ
sum f zero = 0
sum f (suc n) = sum f n + f n

sum_plus : (f g h : ℕ → ℕ) (n : ℕ) → ((i : ℕ) → h i ≡ f i + g i) → sum h n ≡ sum f n + sum g n
unfolding sum
sum_plus f g h zero e = refl
sum_plus f g h (suc n) e = omega (arith, sum_plus f g h n e, e n)

sum_none : (n : ℕ) → sum (λ i. 0) n ≡ 0
unfolding sum
sum_none zero = refl
sum_none (suc n) = omega (arith, sum_none n)

-- a sum above 0 has a part above 0
sum_some : (f : ℕ → ℕ) (n : ℕ) → 0 < sum f n → (i : ℕ) × (i < n) × (0 < f i)
unfolding sum
sum_some f zero h = absurd (omega arith)
sum_some f (suc n) h = go (le_or_lt (f n) 0) (λ x. sum_some f n x)
  where
    go : (f n ≤ 0) ⊎ (0 < f n) → (0 < sum f n → (i : ℕ) × (i < n) × (0 < f i)) → (i : ℕ) × (i < suc n) × (0 < f i)
    go (inr a) k = (n, omega arith, a)
    go (inl a) k = let r = k (omega arith) in (r.0, omega (arith, r.1), r.2)

-- parts of at most 1, of which no two are above 0
sum_one : (f : ℕ → ℕ) (n : ℕ) → ((i : ℕ) → i < n → f i ≤ 1) → ((i j : ℕ) → i < n → j < n → i ≢ j → 0 < f i → 0 < f j → ⊥) → sum f n ≤ 1
unfolding sum
sum_one f zero b x = omega arith
sum_one f (suc n) b x = go (le_or_lt (f n) 0) (le_or_lt (sum f n) 0) (sum_one f n (λ i h. b i (omega arith)) (λ i j h g. x i j (omega arith) (omega arith)))
  where
    go : (f n ≤ 0) ⊎ (0 < f n) → (sum f n ≤ 0) ⊎ (0 < sum f n) → sum f n ≤ 1 → sum f n + f n ≤ 1
    go (inl a) c d = omega arith
    go (inr a) (inl c) d = omega (arith, b n (omega arith))
    go (inr a) (inr c) d = let r = sum_some f n c in absurd (x r.0 n (omega (arith, r.1)) (omega arith) (omega (arith, r.1)) r.2 a)

-- n parts of at most 1 that add up to n are all above 0
sum_le : (f : ℕ → ℕ) (n : ℕ) → ((i : ℕ) → i < n → f i ≤ 1) → sum f n ≤ n
unfolding sum
sum_le f zero b = omega arith
sum_le f (suc n) b = omega (arith, sum_le f n (λ i h. b i (omega arith)), b n (omega arith))

sum_all : (f : ℕ → ℕ) (n : ℕ) → ((i : ℕ) → i < n → f i ≤ 1) → n ≤ sum f n → (i : ℕ) → i < n → 0 < f i
unfolding sum
sum_all f zero b h i g = absurd (omega arith)
sum_all f (suc n) b h i g = go (same_or i n) (λ l. sum_all f n (λ j k. b j (omega arith)) (omega (arith, b n (omega arith))) i l)
  where
    go : (i ≡ n) ⊎ (i ≢ n) → (i < n → 0 < f i) → 0 < f i
    go (inl e) k = omega (arith, ap f e, sum_le f n (λ j k. b j (omega arith)))
    go (inr ne) k = k (omega arith)

-- WORDS. 1 from lo on; 1 from lo up to hi
abbrev from_on : ℕ → ℕ → ℕ
from_on lo a = 1 - (lo - a)

abbrev within : ℕ → ℕ → ℕ → ℕ
within lo hi a = from_on lo a - from_on hi a

from_sum : (lo n : ℕ) → sum (from_on lo) n ≡ n - lo
unfolding sum
from_sum lo zero = omega arith
from_sum lo (suc n) = omega (arith, from_sum lo n)

within_sum : (lo hi n : ℕ) → lo ≤ hi → hi ≤ n → sum (within lo hi) n ≡ hi - lo
within_sum lo hi n h g = omega (arith, sum_plus (within lo hi) (from_on hi) (from_on lo) n (λ i. omega arith), from_sum lo n, from_sum hi n)

within_in : (lo hi a : ℕ) → 0 < within lo hi a → (lo ≤ a) × (a < hi)
within_in lo hi a h = (omega arith, omega arith)

-- how many of the first n arrays word a lies in
abbrev hits : List Region → ℕ → ℕ → ℕ
hits l n a = sum (λ k. within (offset_at l k) (end_at l k) a) n

hits_sum : (l : List Region) (n m : ℕ) → ((k : ℕ) → k < n → end_at l k ≤ m) → sum (hits l n) m ≡ words_to l n
unfolding sum words_to
hits_sum l zero m f = sum_none m
hits_sum l (suc n) m f =
    sum_plus (hits l n) (within (offset_at l n) (end_at l n)) _ m (λ i. refl)
    ∙ omega (arith, hits_sum l n m (λ k h. f k (omega arith)), within_sum (offset_at l n) (end_at l n) m (omega arith) (f n (omega arith)))

hit : (l : List Region) (n a : ℕ) → 0 < hits l n a → (k : ℕ) × (k < n) × (offset_at l k ≤ a) × (a < end_at l k)
hit l n a h = let r = sum_some (λ k. within (offset_at l k) (end_at l k) a) n h in let w = within_in (offset_at l r.0) (end_at l r.0) a r.2 in (r.0, r.1, w.0, w.1)

hits_one : (ω : ℕ) (l : List Region) (n a : ℕ) → tidy ω l n ≡ true → hits l n a ≤ 1
hits_one ω l n a t = sum_one (λ k. within (offset_at l k) (end_at l k) a) n (λ k h. omega arith) (λ i j h g ne x y. two i j h g (within_in (offset_at l i) (end_at l i) a x) (within_in (offset_at l j) (end_at l j) a y) (le_or_lt i j) ne)
  where
    two : (i j : ℕ) → i < n → j < n → (offset_at l i ≤ a) × (a < end_at l i) → (offset_at l j ≤ a) × (a < end_at l j) → (i ≤ j) ⊎ (j < i) → i ≢ j → ⊥
    two i j h g x y (inl b) ne = omega (arith, tidy_sorted ω l n i j t (omega arith) g)
    two i j h g x y (inr b) ne = omega (arith, tidy_sorted ω l n j i t b h)

-- how many arrays of the first n queues
abbrev all_hits : List Plot → ℕ → ℕ → ℕ
all_hits ps n a = sum (λ q. hits (get_or ps q no_plot).bench.queue.arrays (get_or ps q no_plot).bench.queue.claimed a) n

all_sum : (ps : List Plot) (n m : ℕ) → ((q k : ℕ) → q < n → k < (get_or ps q no_plot).bench.queue.claimed → end_at (get_or ps q no_plot).bench.queue.arrays k ≤ m) → sum (all_hits ps n) m ≡ total_of claimed_by ps n
unfolding sum total_of
all_sum ps zero m f = sum_none m
all_sum ps (suc n) m f =
    sum_plus (all_hits ps n) (hits (get_or ps n no_plot).bench.queue.arrays (get_or ps n no_plot).bench.queue.claimed) _ m (λ i. refl)
    ∙ omega (arith, all_sum ps n m (λ q k h g. f q k (omega arith) g), hits_sum (get_or ps n no_plot).bench.queue.arrays (get_or ps n no_plot).bench.queue.claimed m (λ k g. f n k (omega arith) g))

-- WHAT THE TEST SAYS
below_true : (p : ℕ → Bool) (n k : ℕ) → all_below p n ≡ true → k < n → p k ≡ true
unfolding all_below
below_true p zero k t h = absurd (omega arith)
below_true p (suc n) k t h = go (same_or k n) (λ l. below_true p n k (and_left (all_below p n) (p n) t) l)
  where
    go : (k ≡ n) ⊎ (k ≢ n) → (k < n → p k ≡ true) → p k ≡ true
    go (inl e) f = subst (λ (x : ℕ). p x ≡ true) (sym e) (and_right (all_below p n) (p n) t)
    go (inr ne) f = f (omega arith)

apart_of : (q r : Queue) → no_overlap q r ≡ true → Apart q r
apart_of q r t k j h g = go (or_cases _ _ (below_true _ r.claimed j (below_true _ q.claimed k t h) g))
  where
    go : (leb (end_at q.arrays k) (offset_at r.arrays j) ≡ true) ⊎ (leb (end_at r.arrays j) (offset_at q.arrays k) ≡ true)
        → (end_at q.arrays k ≤ offset_at r.arrays j) ⊎ (end_at r.arrays j ≤ offset_at q.arrays k)
    go (inl x) = inl (leb-true _ _ x)
    go (inr x) = inr (leb-true _ _ x)

module _ (G : Ground) (t : sound_yard G ≡ true) where
  abbrev Y : Yard
  Y = G.yard

  places : (q : ℕ) → q < Y.made → place_ok Y q ≡ true
  unfolding sound_yard
  places q h = below_true (place_ok Y) Y.made q (and_left _ _ (and_right _ _ t)) h

  tidied : (q : ℕ) → q < Y.made → tidy (bench_at Y q).words (queue_at Y q).arrays (queue_at Y q).claimed ≡ true
  tidied q h =
      let b = bench_at Y q in
      tidy_of b.words b.queue (owners_queue b).published (line_at b.workers 0) (directory_of b b.queue (owners_queue b) (and_left _ _ (places q h)))

  ends_in : (q k : ℕ) → q < Y.made → k < (queue_at Y q).claimed → end_at (queue_at Y q).arrays k ≤ claimed_words Y
  ends_in q k h g =
      omega (
        arith,
        (tidy_below (bench_at Y q).words (queue_at Y q).arrays (queue_at Y q).claimed k ((queue_at Y q).claimed - 1) (tidied q h) (omega arith) (omega arith)).0,
        leb-true (taken (queue_at Y q)) (claimed_words Y) (and_left _ _ (and_right _ _ (and_right _ _ (places q h)))),
      )

  before : (q r : ℕ) → q < Y.made → r < q → Apart (queue_at Y q) (queue_at Y r)
  before q r h g = apart_of (queue_at Y q) (queue_at Y r) (below_true _ q r (and_right _ _ (and_right _ _ (and_right _ _ (places q h)))) g)

  lone_hit : (a q r : ℕ) → q < Y.made → r < q → 0 < hits (queue_at Y q).arrays (queue_at Y q).claimed a → 0 < hits (queue_at Y r).arrays (queue_at Y r).claimed a → ⊥
  lone_hit a q r h g x y =
      let i = hit (queue_at Y q).arrays (queue_at Y q).claimed a x in
      let j = hit (queue_at Y r).arrays (queue_at Y r).claimed a y in
      off i.0 j.0 i.2 i.3 j.2 j.3 (before q r h g i.0 j.0 i.1 j.1)
    where
      off : (k j : ℕ) → offset_at (queue_at Y q).arrays k ≤ a → a < end_at (queue_at Y q).arrays k → offset_at (queue_at Y r).arrays j ≤ a → a < end_at (queue_at Y r).arrays j
          → (end_at (queue_at Y q).arrays k ≤ offset_at (queue_at Y r).arrays j) ⊎ (end_at (queue_at Y r).arrays j ≤ offset_at (queue_at Y q).arrays k) → ⊥
      off k j b c d e (inl z) = omega arith
      off k j b c d e (inr z) = omega arith

  all_one : (a : ℕ) → all_hits Y.plots Y.made a ≤ 1
  all_one a =
      sum_one (λ q. hits (queue_at Y q).arrays (queue_at Y q).claimed a) Y.made (λ q h. hits_one (bench_at Y q).words (queue_at Y q).arrays (queue_at Y q).claimed a (tidied q h))
      (λ q r h g ne x y. two q r h g x y (le_or_lt q r) ne)
    where
      two : (q r : ℕ) → q < Y.made → r < Y.made → 0 < hits (queue_at Y q).arrays (queue_at Y q).claimed a → 0 < hits (queue_at Y r).arrays (queue_at Y r).claimed a → (q ≤ r) ⊎ (r < q) → q ≢ r → ⊥
      two q r h g x y (inl b) ne = lone_hit a r q g (omega arith) y x
      two q r h g x y (inr b) ne = lone_hit a q r h b x y

pub no_gaps : NoGaps
no_gaps G t a h =
    let Y = G.yard in
    let f = sum_all (all_hits Y.plots Y.made) (claimed_words Y) (λ i g. all_one G t i) (omega (arith, all_sum Y.plots Y.made (claimed_words Y) (ends_in G t))) a h in
    let q = sum_some (λ q. hits (queue_at Y q).arrays (queue_at Y q).claimed a) Y.made f in
    let k = hit (queue_at Y q.0).arrays (queue_at Y q.0).claimed a q.2 in
    (q.0, k.0, q.1, k.1, k.2, k.3)
