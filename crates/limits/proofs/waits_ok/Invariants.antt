use mathlib.Core.Bool.{true}
use mathlib.Core.Path.{◌≡◌}
use Rattle.model.specs.declared.Queue.{Queue}
use Rattle.model.specs.Lines.{size}
use Rattle.model.specs.Stores.{in_line}
use Rattle.model.specs.Limits.{stores_ok}
use Rattle.ranges.specs.Doubles.{Doubled}
use Rattle.waiting.specs.Places.{first_in}
use Rattle.limits.proofs.waits_ok.Given as goal

abbrev pub invariant-loop-store : goal.invariant-loop-store
invariant-loop-store l =
    (p : Queue) → p.published ≡ l.published → p.claimed ≡ l.claimed → p.anchor.count ≡ l.most → Doubled l.words p.arrays l.claimed l.first
    → l.tasks ≡ size l.words p → stores_ok l.kind l.bits l.words p (first_in (in_line l.fn.bench.waiting) l.store-index) ≡ true
