use mathlib.Core.Path.{◌≡◌}
use Prim.Native.Nat.{◌+◌}
use lib.ListN.{length, drop}
use Rattle.listing.specs.Listing.{until_newline}
use Rattle.listing.proofs.line_end.Given as goal

abbrev pub invariant-loop-i : goal.invariant-loop-i
invariant-loop-i l = l.i + length (until_newline (drop l.i l.buf)) ≡ l.at + length (until_newline (drop l.at l.buf))
