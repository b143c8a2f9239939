use mathlib.Core.Path.{◌≡◌}
use mathlib.Core.List.{map}
use Prim.Native.Nat.{◌+◌, ◌≤◌}
use lib.ListN.{drop}
use Rattle.orders.specs.Hunt.{hands_in, owners_next}
use Rattle.hunter.proofs.takes.Given as goal

abbrev pub invariant-loop-put : goal.invariant-loop-put
invariant-loop-put l = (l.n ≤ l.put-index) × (l.n + hands_in (map owners_next (drop l.put-index l.puts)) ≡ hands_in (map owners_next l.puts))
