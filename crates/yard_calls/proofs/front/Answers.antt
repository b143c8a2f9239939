use mathlib.Core.Path.{◌≡◌, sym, ap, ◌∙◌}
use mathlib.Core.List.{List}
use Prim.Native.Nat.{ℕ, ◌≤◌}
use native.Mathlib.Omega.{arith}
use lib.ListN.{length, get_or-eq_default}
use borrow.Author.Tests.{lt-ltb, le-ltb}
use Rattle.model.specs.declared.Bench.{Bench}
use Rattle.model.specs.declared.Plot.{Plot}
use Rattle.model.specs.Calls.{front_of}
use Rattle.model.specs.Yard.{no_plot, bench_at, log_at, front_at}
use Rattle.model.proofs.Arrays.{mapped_length}
use Rattle.model.proofs.Tests.{if_true, if_false}
use Rattle.plots.specs.Places.{the_ground}
use borrow.Author.Rules.{rules}
use Rattle.yard_calls.proofs.front.Goals.{then-yard-queue-via-then-yard-queue, then-yard-queue-via-else-yard-queue+then-queue-ge4}
use Rattle.yard_calls.proofs.front.Goals as goal

pub returns-then-yard-queue : goal.returns-then-yard-queue
unfolding front_at front_of
returns-then-yard-queue c = let a = c.args in
    elim c.then-yard-queue.branch [
      | then-yard-queue-via-then-yard-queue w ↦ λ m ls e. sym (if_false _ (le-ltb _ _ w.if-yard-queue.true))
      | then-yard-queue-via-else-yard-queue+then-queue-ge4 w ↦
          -- the array's length is not in its type
          let four : length a.yard.plots ≡ 4 = search (rules, mapped_length) in
          let past : length a.yard.plots ≤ a.queue = omega (arith, four, w.if-queue-ge4.true) in
          λ m ls e.
          ap (λ (p : Plot). front_of p.bench (log_at (the_ground a.yard m ls) a.queue)) (sym (get_or-eq_default a.yard.plots no_plot {n = a.queue} past))
          ∙ sym (if_true _ (lt-ltb _ _ w.if-yard-queue.false))
    ]

pub returns : goal.returns
unfolding front_at
returns c = let a = c.args in
    λ m ls e.
    c.front.ensures
    ∙ ap (λ (b : Bench). front_of b a.log.now) c.bench_at.ensures
    ∙ ap (λ (l : List ℕ). front_of (bench_at a.yard a.queue) l) (sym e)
    ∙ sym (if_true _ (lt-ltb _ _ c.if-yard-queue.false))
