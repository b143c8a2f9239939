use mathlib.Core.Path.{◌≡◌}
use Prim.Native.Nat.{ℕ}
use lib.ListN.{length}
use mathlib.Core.List.{List}
use Rattle.waiting.specs.Places.{KeptBy}
use Rattle.waiting.proofs.Words.{down}
use Rattle.waiting.proofs.lift.Given as goal

abbrev pub invariant-loop-i : goal.invariant-loop-i
invariant-loop-i l = (length l.store ≡ length l.initial.store)
    × ((m : List ℕ) → l.initial.store ≡ down l.words l.queue m l.waiting.stores l.waiting.count → KeptBy l.words l.queue m l.waiting l.kept → l.store ≡ down l.words l.queue m l.waiting.stores l.i)
