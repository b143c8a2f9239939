-- What the limits say of the arrays that the owner reads, while it is not at X2 to X4: the last claimed one is current.
use mathlib.Core.Bool.{true}
use mathlib.Core.List.{List}
use mathlib.Core.Path.{◌≡◌, sym, ap, subst, ◌∙◌}
use Prim.Native.Nat.{ℕ, ◌-◌, ◌*◌, ◌^◌, ◌≤◌, ◌<◌}
use native.Mathlib.Omega.{arith}
use borrow.Author.Tests.{eqb-true, ne_eqb}
use Rattle.model.specs.declared.Region.{Region}
use Rattle.model.specs.declared.Queue.{Queue}
use Rattle.model.specs.Memory.{size_at}
use Rattle.model.specs.Stores.{in_line}
use Rattle.model.specs.World.{World, memory, owners_view, line_at, stage, is_idle}
use Rattle.model.specs.Limits.{tidy, bench_ok}
use Rattle.model.proofs.Tests.{if_false, and_left, and_right}
use Rattle.model.proofs.Directory.{size_le, tidy_front, tidy_long, tidy_size}
use Rattle.slots.specs.Bounds.{Sized, Small}
use Rattle.slots.proofs.Places.{most_words}
use Rattle.waiting.proofs.Words.{arrays_stay, claimed_stays, initial_stays}
use Rattle.limits.proofs.Bounds.{bounds_of}
use Rattle.limits.proofs.Directory.{doubled}
use Rattle.limits.proofs.Waits.{directory, in_order}

pub record Current (v : ℕ) (p : Queue) : Type 0 where
  pub some : 0 < p.published
  pub few : p.published ≤ 11
  pub claimed : p.claimed ≡ p.published
  pub low : p.initial * 2 ^ (p.published - 1) ≤ 1024
  pub sized : Sized v p (p.published - 1)
  pub small : (k : ℕ) → k < p.claimed → Small p k

module _ (W : World) (v : bench_ok W.bench W.bench.queue (owners_view W).queue ≡ true) (rests : is_idle (line_at W.bench.workers 0) ≡ true) where
  abbrev p : Queue
  p = (owners_view W).queue

  abbrev n : ℕ
  n = W.bench.words

  arrays : p.arrays ≡ W.bench.queue.arrays
  arrays = arrays_stay n (memory W) (in_line W.bench.waiting)

  initial : p.initial ≡ W.bench.queue.initial
  initial = initial_stays n (memory W) (in_line W.bench.waiting)

  all_published : p.claimed ≡ p.published
  all_published =
      let idle : stage (line_at W.bench.workers 0) ≡ 0 = eqb-true _ _ rests in
      claimed_stays n (memory W) (in_line W.bench.waiting)
      ∙ eqb-true _ _ (and_left _ _ (and_right _ _ (and_right _ _ (and_right _ _ (directory W v)))))
      ∙ if_false _ (ne_eqb (stage (line_at W.bench.workers 0)) 2 (λ e. omega (arith, e, idle)))

  tidied : tidy n p.arrays p.claimed ≡ true
  tidied = rw (arrays, claimed_stays n (memory W) (in_line W.bench.waiting)) (in_order W v).tidied

  in_view : Current n p
  in_view =
      let O = in_order W v in
      let some : 0 < p.published = omega (arith, O.some, O.few) in
      let few : p.published ≤ 11 = omega (arith, O.claimed, O.listed) in
      let last : p.published - 1 < W.bench.queue.claimed = omega (arith, some, O.claimed) in
      let D = doubled n W.bench.queue p.published O (p.published - 1) last in
      let low : p.initial * 2 ^ (p.published - 1) ≤ 1024 = subst (λ (x : ℕ). x * 2 ^ (p.published - 1) ≤ 1024) (sym initial) D.1 in
      let same : size_at n p.arrays (p.published - 1) ≡ p.initial * 2 ^ (p.published - 1) =
      ap (λ (l : List Region). size_at n l (p.published - 1)) arrays ∙ D.0 ∙ ap (λ (x : ℕ). x * 2 ^ (p.published - 1)) (sym initial) in
      record {
        some = some;
        few = few;
        claimed = all_published;
        low = low;
        sized = (same, omega (arith, same, low));
        small = λ k h.
            let t = tidy_front n p.arrays p.claimed k tidied h in
            omega (arith, tidy_long n p.arrays k t, most_words n (size_at n p.arrays k) (bounds_of W v).wide.1 (size_le (tidy_size n p.arrays k t)));
      }

  -- of the queue q, as code has it
  pub current : {q : Queue} → q ≡ p → Current n q
  current e = subst (Current n) (sym e) in_view
