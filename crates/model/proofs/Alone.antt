-- A queue that is alone: its arrays lie end to end from word 0 on, so X1's room begins where they end.
use mathlib.Core.Bool.{Bool, true, false}
use mathlib.Core.Path.{◌≡◌, refl, sym, ap, subst, ◌∙◌}
use mathlib.Core.List.{List}
use Prim.Native.Nat.{ℕ, zero, suc, ◌+◌, ◌-◌, ◌≤◌, ◌<◌}
use native.Mathlib.Omega.{arith}
use native.Mathlib.Nat.{add-zero}
use lib.Dec.{eqb, ltb, leb}
use lib.ListN.{length}
use borrow.Author.Tests.{leb-true, leb-false, le-leb, ltb-true, eqb-true}
use Rattle.model.specs.declared.Region.{Region}
use Rattle.model.specs.declared.Queue.{Queue}
use Rattle.model.specs.declared.Bench.{Bench}
use Rattle.model.specs.declared.Line.{Line}
use Rattle.model.specs.Tests.{least, when◌then◌else◌}
use Rattle.model.specs.Memory.{end_at, words_to, usable}
use Rattle.model.specs.Stores.{taken, words_taken}
use Rattle.model.specs.World.{World, owners_view, room_alone, is_expanding, line_at}
use Rattle.model.specs.Limits.{kind_ok, width_ok, words_ok, crew_ok, tidy, directory_ok, bench_ok, log_ok, valid_of, Within}
use Rattle.model.proofs.Tests.{if_true, if_false, and_left, and_right}
use Rattle.model.proofs.Directory.{tidy_last}

-- the smaller of two: it is one of them, and at most either
pub least_is_left : (a b : ℕ) → a ≤ b → least a b ≡ a
least_is_left a b h = if_true b (le-leb a b h)

pub least_is_right : (a b : ℕ) → b ≤ a → least a b ≡ b
least_is_right a b h = go (leb a b) refl
  where
    go : (x : Bool) → leb a b ≡ x → least a b ≡ b
    go true e = if_true b e ∙ (let f = leb-true a b e in omega (arith, f, h))
    go false e = if_false a e

pub least_left : (a b : ℕ) → least a b ≤ a
least_left a b = go (leb a b) refl
  where
    go : (x : Bool) → leb a b ≡ x → least a b ≤ a
    go true e = subst (λ (x : ℕ). x ≤ a) (sym (if_true b e)) (omega arith)
    go false e = subst (λ (x : ℕ). x ≤ a) (sym (if_false a e)) (let h = leb-false a b e in omega (arith, h))

pub least_right : (a b : ℕ) → least a b ≤ b
least_right a b = go (leb a b) refl
  where
    go : (x : Bool) → leb a b ≡ x → least a b ≤ b
    go true e = subst (λ (x : ℕ). x ≤ b) (sym (if_true b e)) (leb-true a b e)
    go false e = subst (λ (x : ℕ). x ≤ b) (sym (if_false a e)) (omega arith)

pub least_above : (a b c : ℕ) → c ≤ a → c ≤ b → c ≤ least a b
least_above a b c f g = go (leb a b) refl
  where
    go : (x : Bool) → leb a b ≡ x → c ≤ least a b
    go true e = subst (λ (x : ℕ). c ≤ x) (sym (if_true b e)) f
    go false e = subst (λ (x : ℕ). c ≤ x) (sym (if_false a e)) g

pub at_most_usable : (m : List ℕ) → usable m ≤ length m
at_most_usable m = least_left (length m) 10235

-- a tidy directory's words end no later than its last array does
pub words_end : (v : ℕ) (l : List Region) (n : ℕ) → tidy v l (suc n) ≡ true → words_to l (suc n) ≤ end_at l n
unfolding words_to
words_end v l zero t = omega arith
words_end v l (suc n) t = omega (arith, words_end v l n (and_left (tidy v l (suc n)) _ t), (tidy_last v l n t).place)

-- what the limits on one queue say of its directory
pub directory_of : (b : Bench) (q p : Queue) → bench_ok b q p ≡ true → directory_ok b.words q p.published (line_at b.workers 0) ≡ true
directory_of b q p h =
    and_left _ _ (and_right (crew_ok b.crew) _ (and_right (words_ok b.words) _ (and_right (width_ok b.width) _ (and_right (kind_ok b.kind q.linked) _ h))))

pub tidy_of : (v : ℕ) (q : Queue) (p : ℕ) (o : Line) → directory_ok v q p o ≡ true → tidy v q.arrays q.claimed ≡ true
tidy_of v q p o h =
    and_left _ _
    (and_right (eqb q.claimed (when is_expanding o then p + 1 else p)) _
    (and_right (leb q.claimed 11) _ (and_right (leb q.published p) _ (and_right (ltb 0 q.published) _ h))))

at_least : (x : Bool) (p : ℕ) → 0 < p → (n : ℕ) → n ≡ (when x then p + 1 else p) → 0 < n
unfolding when◌then◌else◌
at_least true p h n e = omega (arith, e)
at_least false p h n e = omega (arith, e)

-- something is claimed
pub some_claimed : (v : ℕ) (q : Queue) (p : ℕ) (o : Line) → directory_ok v q p o ≡ true → 0 < q.claimed
some_claimed v q p o h =
    let a : 0 < q.published = ltb-true 0 q.published (and_left (ltb 0 q.published) _ h) in
    let b = and_right (ltb 0 q.published) _ h in
    let c : q.published ≤ p = leb-true q.published p (and_left (leb q.published p) _ b) in
    let d = eqb-true _ _ (and_left _ _ (and_right (leb q.claimed 11) _ (and_right (leb q.published p) _ b))) in
    at_least (is_expanding o) p (omega (arith, a, c)) q.claimed d

-- so the words claimed are those up to the last array's end
all_words : (v : ℕ) (l : List Region) (n : ℕ) → 0 < n → tidy v l n ≡ true → words_to l n ≤ end_at l (n - 1)
all_words v l zero z t = absurd (omega arith)
all_words v l (suc n) z t = subst (λ (k : ℕ). words_to l (suc n) ≤ end_at l k) {x = n} {y = suc n - 1} (omega arith) (words_end v l n t)

pub words_alone : (W : World) → valid_of W ≡ true → words_taken W.bench.queue ≡ taken W.bench.queue
unfolding valid_of
words_alone W h =
    let b = W.bench in
    let q = b.queue in
    let p = (owners_view W).queue in
    let D = directory_of b q p (and_left (bench_ok b q p) _ h) in
    let most : words_taken q ≤ taken q = all_words b.words q.arrays q.claimed (some_claimed b.words q p.published (line_at b.workers 0) D) (tidy_of b.words q p.published (line_at b.workers 0) D) in
    let fewest : taken q ≤ words_taken q = leb-true _ _ (and_left (leb (taken q) (words_taken q)) _ (and_right (log_ok b W.log) _ (and_right (bench_ok b q p) _ h))) in
    omega (arith, most, fewest)

-- and X1's room lies behind them, in the store
pub within_alone : (W : World) → valid_of W ≡ true → Within (room_alone W) W
unfolding valid_of
within_alone W h =
    let O = bench_ok W.bench W.bench.queue (owners_view W).queue in
    let a = and_right O _ h in
    let m = usable W.store in
    let n = words_taken W.bench.queue in
    let e = words_alone W h in
    let f : n + W.bench.aside ≤ m = leb-true _ _ (and_right (leb (taken W.bench.queue) n) _ (and_right (log_ok W.bench W.log) _ a)) in
    let g = at_most_usable W.store in
    let i = least_left (m - (n + 0)) (length W.store - n) in
    record {
      limits = and_left O _ h;
      logs = leb-true _ _ (and_left (log_ok W.bench W.log) _ a);
      behind = omega (arith, e);
      inside = omega (arith, f, g, i);
    }

-- what is left for a queue that is alone: the store's words behind its arrays
pub left_alone : (W : World) → (room_alone W).left ≡ usable W.store - words_taken W.bench.queue
left_alone W =
    let n = words_taken W.bench.queue in
    let g = at_most_usable W.store in
    least_is_left (usable W.store - (n + 0)) (length W.store - n) (omega (arith, g)) ∙ ap (λ (x : ℕ). usable W.store - x) (add-zero n)
