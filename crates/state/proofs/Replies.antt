-- What a call leaves, part by part.
use mathlib.Core.List.{List}
use mathlib.Core.Path.{◌≡◌}
use Prim.Native.Nat.{ℕ}
use Rattle.state.specs.declared.Returned.{Returned}
use Rattle.state.specs.Outcomes.{returned}

pub same_returned : {r r2 : Returned} {m m2 l l2 : List ℕ} → r ≡ r2 → m ≡ m2 → l ≡ l2 → returned r m l ≡ returned r2 m2 l2
same_returned e f g = rw (e, f, g)
