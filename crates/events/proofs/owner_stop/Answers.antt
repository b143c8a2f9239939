use mathlib.Core.Path.{sym}
use mathlib.Core.Path.{ap, ◌∙◌}
use Prim.Native.Nat.{ℕ}
use borrow.Author.Tests.{eq-eqb, ne_eqb, lt-ltb, le-ltb}
use Rattle.model.specs.World.{line_at, is_idle}
use Rattle.model.proofs.Tests.{if_true, if_false}
use Rattle.events.proofs.owner_stop.Goals as goal

pub returns-then-bench-worker : goal.returns-then-bench-worker
returns-then-bench-worker c = λ m l O. if_false _ (le-ltb _ _ c.if-bench-worker.true)

pub returns-then-worker-ne0 : goal.returns-then-worker-ne0
returns-then-worker-ne0 c = λ m l O. if_true _ (lt-ltb _ _ c.if-bench-worker.false) ∙ if_false _ (ne_eqb _ _ c.if-worker-ne0.true)

pub returns-then-not-is_idle : goal.returns-then-not-is_idle
returns-then-not-is_idle c = let a = c.args in
    let owner = ap (λ (i : ℕ). is_idle (line_at a.bench.workers i)) c.if-worker-ne0.false in
    λ m l O.
    if_true _ (lt-ltb _ _ c.if-bench-worker.false) ∙ if_true _ (eq-eqb _ _ c.if-worker-ne0.false)
    ∙ if_false _ (owner ∙ sym c.is_idle.ensures ∙ c.if-not-is_idle.true)

pub returns : goal.returns
returns c = let a = c.args in
    let owner = ap (λ (i : ℕ). is_idle (line_at a.bench.workers i)) c.if-worker-ne0.false in
    let rests = sym c.is_idle.ensures ∙ c.if-not-is_idle.false in
    λ m l. (
      rests,
      λ O.
          if_true _ (lt-ltb _ _ c.if-bench-worker.false) ∙ if_true _ (eq-eqb _ _ c.if-worker-ne0.false)
          ∙ if_true _ (owner ∙ rests),
    )
