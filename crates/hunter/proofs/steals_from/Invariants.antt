use mathlib.Core.Path.{◌≡◌}
use Prim.Native.Nat.{◌+◌, ◌*◌, ◌≤◌}
use lib.ListN.{drop}
use Rattle.orders.specs.Hunt.{operations}
use Rattle.hunter.specs.Hunter.{steals}
use Rattle.hunter.proofs.steals_from.Given as goal

abbrev pub invariant-loop-i : goal.invariant-loop-i
invariant-loop-i l = (l.sum ≤ 4294967295 * l.i) × (l.sum + operations (drop l.i (steals l.each)) ≡ operations (drop l.from (steals l.each)))
