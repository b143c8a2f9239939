use mathlib.Core.Bool.{not}
use mathlib.Core.Path.{sym, ap, ◌∙◌}
use Prim.Native.Nat.{◌<◌, ◌≤◌}
use native.Mathlib.Omega.{arith}
use borrow.Author.Tests.{le-leb, lt-leb, lt-ltb}
use Rattle.model.specs.Stores.{taken}
use Rattle.model.specs.Yard.{claimed_words}
use Rattle.model.proofs.Tests.{holds, fails}
use Rattle.slots.proofs.Room.{last_ends}
use Rattle.plots.proofs.lies.Goals as goal

pub returns-then-not-beyond : goal.returns-then-not-beyond
returns-then-not-beyond c = let h : taken c.args.queue.now ≤ claimed_words c.args.yard.now = omega (arith, last_ends c.args.queue.now c.region_at-last.ensures) in
    c.clear_of_earlier.ensures ∙ sym (holds (le-leb _ _ h))

pub returns-else-not-beyond : goal.returns-else-not-beyond
returns-else-not-beyond c = let h : claimed_words c.args.yard.now < taken c.args.queue.now = omega (arith, last_ends c.args.queue.now c.region_at-last.ensures) in
    ap not (lt-ltb _ _ c.if-not-beyond.false) ∙ sym (fails _ (lt-leb _ _ h))
