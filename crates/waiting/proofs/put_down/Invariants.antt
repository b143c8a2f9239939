use mathlib.Core.Path.{◌≡◌}
use lib.ListN.{length}
use Rattle.waiting.specs.Places.{KeptBy}
use Rattle.waiting.proofs.Words.{down}
use Rattle.waiting.proofs.put_down.Given as goal

abbrev pub invariant-loop-i : goal.invariant-loop-i
invariant-loop-i l = (length l.store ≡ length l.initial.store) × (length l.kept ≡ 8) × (l.store ≡ down l.words l.queue l.initial.store l.waiting.stores l.i)
    × KeptBy l.words l.queue l.initial.store (record { stores = l.waiting.stores; count = l.i }) l.kept
