-- Every call of a yard keeps each of its queues whole, their arrays apart and without gaps, and their words within their quotas.
use mathlib.Core.Path.{◌≡◌, refl, sym, ◌∙◌, ap, subst}
use mathlib.Core.Bool.{Bool, true, false, true≢false}
use mathlib.Core.Logic.{◌≢◌, ◌⊎◌, inl, inr}
use mathlib.Core.List.{List, [], ◌∷◌}
use Prim.Native.Nat.{ℕ, zero, suc, ◌+◌, ◌-◌, ◌≤◌, ◌<◌}
use native.Mathlib.Omega.{arith}
use lib.Dec.{ltb, leb}
use lib.ListN.{length, get_or, set, length-set}
use lib.Seq.{get_or-set_other, get_or-set_same}
use borrow.Author.Tests.{leb-true, le-leb, ltb-true, lt-ltb}
use Rattle.model.specs.declared.Queue.{Queue}
use Rattle.model.specs.declared.Region.{Region}
use Rattle.model.specs.declared.Bench.{Bench}
use Rattle.model.specs.declared.Plot.{Plot}
use Rattle.model.specs.declared.Room.{Room}
use Rattle.model.specs.declared.Setup.{Setup}
use Rattle.model.specs.declared.Refusal.{Refusal}
use Rattle.model.specs.declared.Refusal.TheVariants.{UnknownQueue, TagWidth, ArraySize, Crew, PayloadWords, ShortStore, ShortQuota, NoSuchQueue}
use Rattle.model.specs.declared.Answer.TheVariants.{Accepted}
use Rattle.model.specs.Answers.{number_of}
use Rattle.model.specs.Tests.{least, when◌then◌else◌, ◌and◌}
use Rattle.model.proofs.Tests.{and_both, or_either, if_true}
use Rattle.model.specs.Memory.{zeros, offset_at, length_at, size_at, end_at, words_to, usable}
use Rattle.model.specs.Stores.{Shared, taken, words_taken, next_length, claiming, in_line}
use Rattle.model.specs.Limits.{is_size, width_ok, crew_ok, words_ok, bench_ok}
use Rattle.model.specs.World.{World, Outcome, owners_view}
use Rattle.model.specs.Calls.{lent, new_bench, first_length, admitted, Call, call_in}
use Rattle.model.specs.Yard.{Ground, no_plot, plot_at, bench_at, queue_at, quota_at, world_of, total_of, claimed_by, held_by, claimed_words, aside_words, room_of, words_left, all_below, no_overlap, place_ok, sound_yard, sound_for, Yields, refuse_all, leaves, on_of, making, make_of, YardCall, make, on, yields, ground_after}
use Rattle.theorems.proofs.Remainders.{le_or_lt}
use Rattle.theorems.proofs.Directory.{both, Arrays, Admits, Others, end}
use Rattle.theorems.proofs.Valid.{Whole, own_valid, log_valid}
use Rattle.theorems.proofs.WholeRun.{storing, call_whole, others_whole}
use Rattle.theorems.proofs.Folds.{arrays_after, claimed_after, landed_is}
use Rattle.theorems.proofs.Words.{set_place, set_here}
use Rattle.model.proofs.Alone.{least_left, least_right, at_most_usable}
use Rattle.theorems.proofs.Alone.{added}
use Rattle.theorems.proofs.Fresh.{Admitted, start_of, Started, started}
use Rattle.yards.specs.Yards.{Apart, opened}
use Rattle.yards.proofs.Writes.{Untouched, zeroed, Changes, call_changes, apart_others}

pub record Tended (G : Ground) : Type 0 where
  pub made : G.yard.made ≤ 4
  pub plots : length G.yard.plots ≡ 4
  pub logs : length G.logs ≡ 4
  pub whole : (q : ℕ) → q < G.yard.made → Whole (world_of G q)
  pub quota : (q : ℕ) → q < G.yard.made → words_taken (queue_at G.yard q) + (bench_at G.yard q).aside ≤ quota_at G.yard q
  pub gapless : (q : ℕ) → q < G.yard.made → taken (queue_at G.yard q) ≤ claimed_words G.yard
  pub apart : (q r : ℕ) → q < G.yard.made → r < G.yard.made → q ≢ r → Apart (queue_at G.yard q) (queue_at G.yard r)
  pub fits : claimed_words G.yard + aside_words G.yard ≤ usable G.store

-- TESTS
pub if_pick : {A : Type 0} (P : A → Type 0) (x : Bool) (a b : A) → (x ≡ true → P a) → (x ≡ false → P b) → P (when x then a else b)
unfolding when◌then◌else◌
if_pick P true a b f g = f refl
if_pick P false a b f g = g refl

pub all_true : (p : ℕ → Bool) (n : ℕ) → ((k : ℕ) → k < n → p k ≡ true) → all_below p n ≡ true
unfolding all_below
all_true p zero f = refl
all_true p (suc n) f = and_both _ _ (all_true p n (λ k h. f k (omega arith))) (f n (omega arith))

apart_true : (q r : Queue) → Apart q r → no_overlap q r ≡ true
apart_true q r A = all_true _ q.claimed (λ k h. all_true _ r.claimed (λ j g. or_either _ _ (go k j (A k j h g))))
  where
    go : (k j : ℕ) → (end_at q.arrays k ≤ offset_at r.arrays j) ⊎ (end_at r.arrays j ≤ offset_at q.arrays k)
        → (leb (end_at q.arrays k) (offset_at r.arrays j) ≡ true) ⊎ (leb (end_at r.arrays j) (offset_at q.arrays k) ≡ true)
    go k j (inl x) = inl (le-leb _ _ x)
    go k j (inr x) = inr (le-leb _ _ x)

-- the owner's queue does not look at the store's words
owners_same : (W : World) → (owners_view (lent W.bench [] [])).queue ≡ (owners_view W).queue
owners_same W =
    ap (λ (S : Shared). S.queue) (landed_is W.bench.words W.bench.queue [] (in_line W.bench.waiting))
    ∙ sym (ap (λ (S : Shared). S.queue) (landed_is W.bench.words W.bench.queue W.store (in_line W.bench.waiting)))

place_true : (G : Ground) → Tended G → (q : ℕ) → q < G.yard.made → place_ok G.yard q ≡ true
place_true G T q h =
    and_both _ _ (subst (λ (x : Queue). bench_ok (bench_at G.yard q) (queue_at G.yard q) x ≡ true) (sym (owners_same (world_of G q))) (own_valid (world_of G q) (T.whole q h))) (and_both _ _ (le-leb _ _ (T.quota q h)) (and_both _ _ (le-leb _ _ (T.gapless q h))
    (all_true _ q (λ r l. apart_true (queue_at G.yard q) (queue_at G.yard r) (T.apart q r h (omega arith) (omega arith))))))

pub sound : (G : Ground) → Tended G → sound_yard G ≡ true
unfolding sound_yard
sound G T = and_both _ _ (le-leb _ _ T.made) (and_both _ _ (all_true _ G.yard.made (place_true G T)) (le-leb _ _ T.fits))

lent_either : (x y : Bool) → (x ≡ true → y ≡ true) → (when x then y else true) ≡ true
unfolding when◌then◌else◌
lent_either true y f = f refl
lent_either false y f = refl

pub sound_for_lem : (G : Ground) → Tended G → (q : ℕ) → sound_for G q ≡ true
sound_for_lem G T q = and_both _ _ (sound G T) (lent_either (ltb q G.yard.made) _ (λ e. log_valid (world_of G q) (T.whole q (ltb-true _ _ e))))

-- TOTALS, after one queue is replaced
module _ (f : Bench → ℕ) where
  pub total_keep : (ps : List Plot) (n r : ℕ) (b : Plot) → n ≤ r → total_of f (set ps r b) n ≡ total_of f ps n
  unfolding total_of
  total_keep ps zero r b h = refl
  total_keep ps (suc n) r b h = omega (arith, total_keep ps n r b (omega arith), ap (λ (p : Plot). f p.bench) (get_or-set_other ps r n b no_plot (omega arith)))

  pub total_set : (ps : List Plot) (n r : ℕ) (b : Plot) → r < length ps → r < n → total_of f (set ps r b) n + f (get_or ps r no_plot).bench ≡ total_of f ps n + f b.bench
  unfolding total_of
  total_set ps zero r b l h = absurd (omega arith)
  total_set ps (suc n) r b l h = go (le_or_lt n r) (λ a. total_set ps n r b l a)
    where
      at : ℕ → ℕ
      at k = f (get_or ps k no_plot).bench

      at' : ℕ → ℕ
      at' k = f (get_or (set ps r b) k no_plot).bench

      go : (n ≤ r) ⊎ (r < n) → (r < n → total_of f (set ps r b) n + at r ≡ total_of f ps n + f b.bench) → total_of f (set ps r b) n + at' n + at r ≡ total_of f ps n + at n + f b.bench
      go (inl a) g = omega (arith, total_keep ps n r b a, ap at is, ap at' is, ap (λ (p : Plot). f p.bench) (get_or-set_same ps r b no_plot l))
        where
          is : n ≡ r
          is = omega arith
      go (inr a) g = omega (arith, g a, ap (λ (p : Plot). f p.bench) (get_or-set_other ps r n b no_plot (omega arith)))

  -- each has its part in it
  pub part_of : (ps : List Plot) (n r : ℕ) → r < n → f (get_or ps r no_plot).bench ≤ total_of f ps n
  unfolding total_of
  part_of ps zero r h = absurd (omega arith)
  part_of ps (suc n) r h = go (le_or_lt n r) (λ a. part_of ps n r a)
    where
      go : (n ≤ r) ⊎ (r < n) → (r < n → f (get_or ps r no_plot).bench ≤ total_of f ps n) → f (get_or ps r no_plot).bench ≤ total_of f ps n + f (get_or ps n no_plot).bench
      go (inl a) g = omega (arith, ap (λ (k : ℕ). f (get_or ps k no_plot).bench) is)
        where
          is : n ≡ r
          is = omega arith
      go (inr a) g = omega (arith, g a)

pub same_or : (a b : ℕ) → (a ≡ b) ⊎ (a ≢ b)
same_or a b = go (le_or_lt a b) (le_or_lt b a)
  where
    go : (a ≤ b) ⊎ (b < a) → (b ≤ a) ⊎ (a < b) → (a ≡ b) ⊎ (a ≢ b)
    go (inl x) (inl y) = inl (omega arith)
    go (inr x) y = inr (omega arith)
    go (inl x) (inr y) = inr (omega arith)

pub apart_sym : (q r : Queue) → Apart q r → Apart r q
apart_sym q r A k j h g = go (A j k g h)
  where
    go : (end_at q.arrays j ≤ offset_at r.arrays k) ⊎ (end_at r.arrays k ≤ offset_at q.arrays j) → (end_at r.arrays k ≤ offset_at q.arrays j) ⊎ (end_at q.arrays j ≤ offset_at r.arrays k)
    go (inl x) = inr x
    go (inr x) = inl x

same_usable : (m m' : List ℕ) → length m' ≡ length m → usable m' ≡ usable m
same_usable m m' e = ap (λ (n : ℕ). least n 10235) e

-- ONE QUEUE IS REPLACED, or made: queue p becomes b, with the quota x and the log l, and the store m
abbrev pub replaced : Ground → ℕ → ℕ → Bench → ℕ → List ℕ → List ℕ → Ground
replaced G n p b x m l = record { yard = record { plots = set G.yard.plots p (record { bench = b; quota = x }); made = n }; store = m; logs = set G.logs p l }

pub record Replaces (G : Ground) (n p : ℕ) (b : Bench) (x : ℕ) (m l : List ℕ) : Type 0 where
  pub few : n ≤ 4
  pub inside : p < n
  pub more : G.yard.made ≤ n
  pub before : (r : ℕ) → r < n → r ≢ p → r < G.yard.made
  pub whole : Whole (record { bench = b; store = m; log = l })
  pub untouched : Untouched b.queue.arrays b.queue.claimed G.store m
  pub quota : words_taken b.queue + b.aside ≤ x
  pub grows : claimed_words G.yard ≤ total_of claimed_by (set G.yard.plots p (record { bench = b; quota = x })) n
  pub gapless : taken b.queue ≤ total_of claimed_by (set G.yard.plots p (record { bench = b; quota = x })) n
  pub fits : total_of claimed_by (set G.yard.plots p (record { bench = b; quota = x })) n + total_of held_by (set G.yard.plots p (record { bench = b; quota = x })) n ≤ usable G.store
  pub apart : (r : ℕ) → r < G.yard.made → r ≢ p → Apart (queue_at G.yard r) b.queue

module _ {G : Ground} (T : Tended G) {n p : ℕ} {b : Bench} {x : ℕ} {m l : List ℕ} (R : Replaces G n p b x m l) where
  abbrev G' : Ground
  G' = replaced G n p b x m l

  plot_here : plot_at G'.yard p ≡ record { bench = b; quota = x }
  plot_here = get_or-set_same G.yard.plots p (record { bench = b; quota = x }) no_plot (omega (arith, T.plots, R.inside, R.few))

  plot_there : (r : ℕ) → r ≢ p → plot_at G'.yard r ≡ plot_at G.yard r
  plot_there r ne = get_or-set_other G.yard.plots p r (record { bench = b; quota = x }) no_plot ne

  bench_here : bench_at G'.yard p ≡ b
  bench_here = ap (λ (a : Plot). a.bench) plot_here

  bench_there : (r : ℕ) → r ≢ p → bench_at G'.yard r ≡ bench_at G.yard r
  bench_there r ne = ap (λ (a : Plot). a.bench) (plot_there r ne)

  pub world_here : world_of G' p ≡ record { bench = b; store = m; log = l }
  world_here = rw (bench_here, get_or-set_same G.logs p l [] (omega (arith, T.logs, R.inside, R.few)))

  pub world_there : (r : ℕ) → r ≢ p → world_of G' r ≡ storing (world_of G r) m
  world_there r ne = rw (bench_there r ne, get_or-set_other G.logs p r l [] ne)

  pub others_there : (r : ℕ) → r < G.yard.made → r ≢ p → Others (queue_at G.yard r) G.store m
  others_there r h ne = apart_others (queue_at G.yard r) b.queue G.store m (R.apart r h ne) R.untouched

  -- a property of each queue, where it holds of b and of those that were there
  each : (P : Bench → ℕ → Type 0) → P b p → ((r : ℕ) → r < G.yard.made → r ≢ p → P (bench_at G.yard r) r) → (r : ℕ) → r < n → P (bench_at G'.yard r) r
  each P here there r h = go (same_or r p)
    where
      go : (r ≡ p) ⊎ (r ≢ p) → P (bench_at G'.yard r) r
      go (inl e) = subst (λ (x : ℕ). P (bench_at G'.yard x) x) (sym e) (subst (λ (x : Bench). P x p) (sym bench_here) here)
      go (inr ne) = subst (λ (x : Bench). P x r) (sym (bench_there r ne)) (there r (R.before r h ne) ne)

  whole_each : (r : ℕ) → r < n → Whole (world_of G' r)
  whole_each r h = go (same_or r p)
    where
      go : (r ≡ p) ⊎ (r ≢ p) → Whole (world_of G' r)
      go (inl e) = subst (λ (x : ℕ). Whole (world_of G' x)) (sym e) (subst Whole (sym world_here) R.whole)
      go (inr ne) = subst Whole (sym (world_there r ne)) (others_whole (T.whole r (R.before r h ne)) (others_there r (R.before r h ne) ne))

  apart_each : (q r : ℕ) → q < n → r < n → q ≢ r → Apart (queue_at G'.yard q) (queue_at G'.yard r)
  apart_each q r h g ne =
      each (λ (x : Bench) (i : ℕ). i ≢ r → Apart x.queue (queue_at G'.yard r))
      (λ e. each (λ (x : Bench) (j : ℕ). p ≢ j → Apart b.queue x.queue) (λ z. absurd (z refl)) (λ j a z u. apart_sym (queue_at G.yard j) b.queue (R.apart j a z)) r g e)
      (λ i a y e. each (λ (x : Bench) (j : ℕ). i ≢ j → Apart (queue_at G.yard i) x.queue) (λ z. R.apart i a y) (λ j c z u. T.apart i j a c u) r g e) q h ne

  pub tended_replaced : Tended G'
  tended_replaced =
      record {
        made = R.few;
        plots = length-set G.yard.plots p (record { bench = b; quota = x }) ∙ T.plots;
        logs = length-set G.logs p l ∙ T.logs;
        whole = whole_each;
        quota = each (λ (a : Bench) (r : ℕ). words_taken a.queue + a.aside ≤ quota_at G'.yard r) (omega (arith, R.quota, ap (λ (a : Plot). a.quota) plot_here)) (λ r h ne. omega (arith, T.quota r h, ap (λ (a : Plot). a.quota) (plot_there r ne)));
        gapless = each (λ (a : Bench) (r : ℕ). taken a.queue ≤ total_of claimed_by (set G.yard.plots p (record { bench = b; quota = x })) n) R.gapless (λ r h ne. omega (arith, T.gapless r h, R.grows));
        apart = apart_each;
        fits = subst (λ (u : ℕ). total_of claimed_by (set G.yard.plots p (record { bench = b; quota = x })) n + total_of held_by (set G.yard.plots p (record { bench = b; quota = x })) n ≤ u) (sym (same_usable G.store m R.untouched.long)) R.fits;
      }

-- A CALL of queue q. What X1 finds left
module _ {G : Ground} (T : Tended G) (q : ℕ) (h : q < G.yard.made) where
  abbrev others : ℕ
  others = aside_words G.yard - (bench_at G.yard q).aside

  pub left_store : (room_of G q).left ≤ usable G.store - (claimed_words G.yard + others)
  left_store = least_left (usable G.store - (claimed_words G.yard + others)) (quota_at G.yard q - words_taken (queue_at G.yard q))

  pub left_quota : (room_of G q).left ≤ quota_at G.yard q - words_taken (queue_at G.yard q)
  left_quota = least_right (usable G.store - (claimed_words G.yard + others)) (quota_at G.yard q - words_taken (queue_at G.yard q))

  held_part : (bench_at G.yard q).aside ≤ aside_words G.yard
  held_part = part_of held_by G.yard.plots G.yard.made q h

  pub yard_admits : Admits (room_of G q) (bench_at G.yard q) G.store
  yard_admits =
      let s = left_store in
      let u = at_most_usable G.store in
      let p = held_part in
      record {
        free = record { behind = T.gapless q h; inside = omega (arith, s, u, T.fits) };
        aside = at_least (usable G.store - (claimed_words G.yard + others)) (quota_at G.yard q - words_taken (queue_at G.yard q)) (bench_at G.yard q).aside (omega (arith, p, T.fits)) (omega (arith, T.quota q h));
      }
    where
      at_least : (a b n : ℕ) → n ≤ a → n ≤ b → n ≤ least a b
      at_least a b n x y = if_pick (λ (k : ℕ). n ≤ k) (leb a b) a b (λ e. x) (λ e. y)

-- a queue that grows where no other lies stays apart from it
apart_grown : (ρ : Room) (x : Bool) (ω : ℕ) (q r : Queue) (m : List ℕ) → Arrays ω r m → taken r ≤ ρ.next → (x ≡ true → q.claimed < length q.arrays) → Apart q r
    → (k j : ℕ) → k < claimed_after x q → j < r.claimed → (end_at (arrays_after ρ x q) k ≤ offset_at r.arrays j) ⊎ (end_at r.arrays j ≤ offset_at (arrays_after ρ x q) k)
apart_grown ρ false ω q r m B t f P k j h g = P k j h g
apart_grown ρ true ω q r m B t f P k j h g = go (same_or k q.claimed)
  where
    l' : List Region
    l' = (claiming ρ q).arrays

    go : (k ≡ q.claimed) ⊎ (k ≢ q.claimed) → (end_at l' k ≤ offset_at r.arrays j) ⊎ (end_at r.arrays j ≤ offset_at l' k)
    go (inl e) =
        let n = set_here 0 q.arrays q.claimed ρ.next (next_length q) (next_length q) (f refl) (omega arith) in
        inr (omega (arith, ap (offset_at l') e, n.0, end B j g))
    go (inr ne) = old (P k j (omega arith) g)
      where
        O : (offset_at l' k ≡ offset_at q.arrays k) × (length_at l' k ≡ length_at q.arrays k) × (size_at 0 l' k ≡ size_at 0 q.arrays k)
        O = set_place 0 q.arrays q.claimed k ρ.next (next_length q) ne

        old : (end_at q.arrays k ≤ offset_at r.arrays j) ⊎ (end_at r.arrays j ≤ offset_at q.arrays k) → (end_at l' k ≤ offset_at r.arrays j) ⊎ (end_at r.arrays j ≤ offset_at l' k)
        old (inl z) = inl (omega (arith, O.0, O.1))
        old (inr z) = inr (omega (arith, O.0))

-- the words that it adds, and where it ends
grown_sums : (ρ : Room) (x : Bool) (q : Queue) → (x ≡ true → (q.claimed < length q.arrays) × (next_length q ≤ ρ.left))
    → (n : ℕ) × (words_to (arrays_after ρ x q) (claimed_after x q) ≡ words_taken q + n)
    × (((n ≡ 0) × (end_at (arrays_after ρ x q) (claimed_after x q - 1) ≡ taken q)) ⊎ ((n ≤ ρ.left) × (end_at (arrays_after ρ x q) (claimed_after x q - 1) ≡ ρ.next + n)))
grown_sums ρ true q f = let A = added ρ q (f refl).0 in (next_length q, A.words_is, inr ((f refl).1, A.taken_is))
grown_sums ρ false q f = (0, omega arith, inl (refl, refl))

module _ {G : Ground} (T : Tended G) (q : ℕ) (h : q < G.yard.made) (c : Call) where
  abbrev W : World
  W = world_of G q

  abbrev D : Outcome
  D = call_in (room_of G q) W c

  changes : Changes (room_of G q) W D
  changes = call_changes (T.whole q h) (room_of G q) (yard_admits T q h) c

  -- the totals then
  abbrev all' : ℕ
  all' = total_of claimed_by (set G.yard.plots q (record { bench = D.world.bench; quota = quota_at G.yard q })) G.yard.made

  abbrev held' : ℕ
  held' = total_of held_by (set G.yard.plots q (record { bench = D.world.bench; quota = quota_at G.yard q })) G.yard.made

  summed : all' + words_taken W.bench.queue ≡ claimed_words G.yard + words_taken D.world.bench.queue
  summed = total_set claimed_by G.yard.plots G.yard.made q (record { bench = D.world.bench; quota = quota_at G.yard q }) (omega (arith, T.plots, T.made)) h

  summed_held : held' + W.bench.aside ≡ aside_words G.yard + D.world.bench.aside
  summed_held = total_set held_by G.yard.plots G.yard.made q (record { bench = D.world.bench; quota = quota_at G.yard q }) (omega (arith, T.plots, T.made)) h

  abbrev arrays' : List Region
  arrays' = arrays_after (room_of G q) changes.claims W.bench.queue

  abbrev claimed' : ℕ
  claimed' = claimed_after changes.claims W.bench.queue

  words_now : words_taken D.world.bench.queue ≡ words_to arrays' claimed'
  words_now = ap (λ (l : List Region). words_to l D.world.bench.queue.claimed) changes.arrays ∙ ap (words_to arrays') changes.claimed

  taken_now : taken D.world.bench.queue ≡ end_at arrays' (claimed' - 1)
  taken_now = ap (λ (l : List Region). end_at l (D.world.bench.queue.claimed - 1)) changes.arrays ∙ ap (λ (n : ℕ). end_at arrays' (n - 1)) changes.claimed

  record Sums : Type 0 where
    quota : words_taken D.world.bench.queue + D.world.bench.aside ≤ quota_at G.yard q
    grows : claimed_words G.yard ≤ all'
    gapless : taken D.world.bench.queue ≤ all'
    fits : all' + held' ≤ usable G.store

  ends : (n : ℕ) → words_to arrays' claimed' ≡ words_taken W.bench.queue + n
      → ((n ≡ 0) × (end_at arrays' (claimed' - 1) ≡ taken W.bench.queue)) ⊎ ((n ≤ (room_of G q).left) × (end_at arrays' (claimed' - 1) ≡ (room_of G q).next + n)) → taken D.world.bench.queue ≤ all'
  ends n y (inl (z, e)) = omega (arith, y, words_now, taken_now, summed, z, e, T.gapless q h)
  ends n y (inr (z, e)) = omega (arith, y, words_now, taken_now, summed, e)

  sums : Sums
  sums =
      let N = grown_sums (room_of G q) changes.claims W.bench.queue changes.left in
      let w = words_now in
      let s = summed in
      let k = summed_held in
      let f = changes.fitting in
      let p = held_part T q h in
      let a = left_store T q h in
      let b = left_quota T q h in
      record {
        quota = omega (arith, w, f, b, T.quota q h);
        grows = omega (arith, w, s, N.1);
        gapless = ends N.0 N.1 N.2;
        fits = omega (arith, w, s, k, f, p, a, T.fits);
      }

  untouched_now : Untouched D.world.bench.queue.arrays D.world.bench.queue.claimed G.store D.world.store
  untouched_now =
      subst (λ (l : List Region). Untouched l D.world.bench.queue.claimed G.store D.world.store) (sym changes.arrays)
      (subst (λ (n : ℕ). Untouched (arrays_after (room_of G q) changes.claims W.bench.queue) n G.store D.world.store) (sym changes.claimed) changes.untouched)

  apart_now : (r : ℕ) → r < G.yard.made → q ≢ r → Apart D.world.bench.queue (queue_at G.yard r)
  apart_now r g ne k j a b =
      subst (λ (l : List Region). (end_at l k ≤ offset_at (queue_at G.yard r).arrays j) ⊎ (end_at (queue_at G.yard r).arrays j ≤ offset_at l k)) (sym changes.arrays)
      (apart_grown (room_of G q) changes.claims (bench_at G.yard r).words W.bench.queue (queue_at G.yard r) G.store (T.whole r g).shape.arrays (T.gapless r g) (λ e. (changes.left e).0)
      (T.apart q r h g ne) k j (subst (λ (n : ℕ). k < n) changes.claimed a) b)

  pub call_replaces : Replaces G G.yard.made q D.world.bench (quota_at G.yard q) D.world.store D.world.log
  call_replaces =
      let S = sums in
      record {
        few = T.made;
        inside = h;
        more = omega arith;
        before = λ r g ne. g;
        whole = call_whole (room_of G q) (T.whole q h) (yard_admits T q h) c;
        untouched = untouched_now;
        quota = S.quota;
        grows = S.grows;
        gapless = S.gapless;
        fits = S.fits;
        apart = λ r g ne.
            apart_sym D.world.bench.queue (queue_at G.yard r) (apart_now r g (λ e. ne (sym e)));
      }

-- A MAKING
admitted_cases : (P : Yields → Type 0) (R : Refusal → Yields) → ((r : Refusal) → number_of r ≢ 12 → P (R r)) → (s : Setup) (n : ℕ) (x : Yields) → (Admitted s n → P x) → P (admitted s n R x)
admitted_cases P R f s n x g =
    if_pick P (ltb 0 s.kind and leb s.kind 5) _ _
    (λ a. if_pick P (width_ok s.width) _ _
    (λ b. if_pick P (is_size 10 s.size) _ _
    (λ d. if_pick P (crew_ok s.crew) _ _
    (λ e. if_pick P (words_ok s.words) _ _
    (λ y. if_pick P (leb (first_length s) n) _ _
    (λ i. g (record { kind = a; width = range 16 s.width b; test = d; crew = range 8 s.crew e; words = range 4 s.words y; room = leb-true (first_length s) n i }))
    (λ i. f ShortStore (omega arith)))
    (λ y. f PayloadWords (omega arith)))
    (λ e. f Crew (omega arith)))
    (λ d. f ArraySize (omega arith)))
    (λ b. f TagWidth (omega arith)))
    (λ a. f UnknownQueue (omega arith))
  where
    range : (most k : ℕ) → (ltb 0 k and leb k most) ≡ true → (0 < k) × (k ≤ most)
    range most k e = let v = both (ltb 0 k) (leb k most) e in (ltb-true 0 k v.0, leb-true k most v.1)

pub record MayMake (G : Ground) (s : Setup) (quota : ℕ) : Type 0 where
  pub free : G.yard.made < 4
  pub admitted : Admitted s (words_left G)
  pub enough : first_length s ≤ quota

pub make_cases : (P : Yields → Type 0) {G : Ground} → Tended G → ((r : Refusal) → number_of r ≢ 12 → P (refuse_all G r)) → (s : Setup) (quota : ℕ) (l : List ℕ)
    → (MayMake G s quota → P (record { the_ground = making G s quota l; answer = Accepted })) → P (make_of G s quota l)
unfolding make_of
make_cases P {G} T f s quota l g =
    if_pick P (sound_yard G) _ _
    (λ a. if_pick P (ltb G.yard.made 4) _ _
    (λ b. admitted_cases P (refuse_all G) f s _ _
    (λ A. if_pick P (leb (first_length s) quota) _ _ (λ d. g (record { free = ltb-true _ _ b; admitted = A; enough = leb-true _ _ d })) (λ d. f ShortQuota (omega arith))))
    (λ b. f NoSuchQueue (omega arith)))
    (λ a. absurd (true≢false (sym (sound G T) ∙ a)))

module _ {G : Ground} (T : Tended G) (s : Setup) (quota : ℕ) (l : List ℕ) (M : MayMake G s quota) where
  abbrev total : ℕ
  total = claimed_words G.yard

  abbrev first : Bench
  first = new_bench total s

  in_store : total + words_left G ≤ length G.store
  in_store = let u = at_most_usable G.store in omega (arith, u, T.fits)

  pub made_started : Started (start_of total s G.store l)
  made_started = started total s (words_left G) G.store l M.admitted in_store

  lies : (offset_at first.queue.arrays 0 ≡ total) × (length_at first.queue.arrays 0 ≡ first_length s)
  unfolding offset_at length_at
  lies = (refl, refl)

  takes : words_taken first.queue ≡ first_length s
  unfolding words_to
  takes = omega (arith, lies.1)

  summed' : (f : Bench → ℕ) → total_of f (set G.yard.plots G.yard.made (record { bench = first; quota = quota })) (G.yard.made + 1) ≡ total_of f G.yard.plots G.yard.made + f first
  unfolding total_of
  summed' f =
      ap (total_of f (set G.yard.plots G.yard.made (record { bench = first; quota = quota }))) up
      ∙ omega (
        arith,
        total_keep f G.yard.plots G.yard.made G.yard.made (record { bench = first; quota = quota }) (omega arith),
        ap (λ (p : Plot). f p.bench) (get_or-set_same G.yard.plots G.yard.made (record { bench = first; quota = quota }) no_plot (omega (arith, T.plots, M.free))),
      )
    where
      up : G.yard.made + 1 ≡ suc G.yard.made
      up = omega arith

  pub make_replaces : Replaces G (G.yard.made + 1) G.yard.made first quota (zeros G.store total (first_length s)) l
  make_replaces =
      let w = summed' claimed_by in
      let a = summed' held_by in
      let i = in_store in
      let room : first_length s ≤ words_left G = M.admitted.room in
      record {
        few = omega (arith, M.free);
        inside = omega arith;
        more = omega arith;
        before = λ r g ne. omega arith;
        whole = made_started.whole;
        untouched = zeroed first.queue.arrays 1 G.store 0 total (first_length s) (omega arith) lies.0 (omega (arith, lies.0, lies.1)) (omega (arith, i, room));
        quota = omega (arith, takes, M.enough);
        grows = omega (arith, w);
        gapless = omega (arith, w, takes, lies.0, lies.1);
        fits = omega (arith, w, a, takes, room, T.fits);
        apart = λ r g ne j i h e. inl (behind r g j i h e);
      }
    where
      behind : (r : ℕ) → r < G.yard.made → (j i : ℕ) → j < (queue_at G.yard r).claimed → i < 1 → end_at (queue_at G.yard r).arrays j ≤ offset_at first.queue.arrays i
      behind r g j zero h e = omega (arith, lies.0, end (T.whole r g).shape.arrays j h, T.gapless r g)
      behind r g j (suc i) h e = absurd (omega arith)

-- EVERY CALL keeps it
pub call_is : (G : Ground) → Tended G → (q : ℕ) (c : Call) → q < G.yard.made → on_of G q c ≡ leaves G q (call_in (room_of G q) (world_of G q) c)
unfolding on_of
call_is G T q c h = if_true _ (sound_for_lem G T q) ∙ if_true _ (lt-ltb _ _ h)

pub on_cases : (P : Yields → Type 0) {G : Ground} → Tended G → ((r : Refusal) → number_of r ≢ 12 → P (refuse_all G r)) → (q : ℕ) (c : Call)
    → (q < G.yard.made → P (leaves G q (call_in (room_of G q) (world_of G q) c))) → P (on_of G q c)
unfolding on_of
on_cases P {G} T f q c g =
    if_pick P (sound_for G q) _ _
    (λ a. if_pick P (ltb q G.yard.made) _ _ (λ b. g (ltb-true _ _ b)) (λ b. f NoSuchQueue (omega arith)))
    (λ a. absurd (true≢false (sym (sound_for_lem G T q) ∙ a)))

pub yields_tended : {G : Ground} → Tended G → (c : YardCall) → Tended (yields G c).the_ground
yields_tended {G} T (make s quota l) = make_cases (λ (Y : Yields). Tended Y.the_ground) T (λ r x. T) s quota l (λ M. tended_replaced T (make_replaces T s quota l M))
yields_tended {G} T (on q c) = on_cases (λ (Y : Yields). Tended Y.the_ground) T (λ r x. T) q c (λ h. tended_replaced T (call_replaces T q h c))

pub tended_after : (cs : List YardCall) (G : Ground) → Tended G → Tended (ground_after G cs)
unfolding ground_after
tended_after [] G T = T
tended_after (c ∷ cs) G T = tended_after cs (yields G c).the_ground (yields_tended T c)

pub opened_tended : (m : List ℕ) → Tended (opened m)
unfolding total_of
opened_tended m =
    record {
      made = omega arith;
      plots = refl;
      logs = refl;
      whole = λ q h. absurd (omega arith);
      quota = λ q h. absurd (omega arith);
      gapless = λ q h. absurd (omega arith);
      apart = λ q r h g e. absurd (omega arith);
      fits = omega arith;
    }
