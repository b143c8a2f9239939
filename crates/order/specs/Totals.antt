-- What demand 3 says of the sixth count of `T`.
use Rattle.std.specs.Prelude.{◌≡◌, List}
use Rattle.model.specs.Calls.{Call}
use Rattle.model.specs.Run.{after}
use Rattle.model.specs.Counts.{counts_of}
use Rattle.theorems.specs.Demand3.{FewPuts, FromFresh}

-- after every list from a fresh bench under demand 3's premise, none is lost
abbrev pub NoneLost : Type 0
NoneLost = FromFresh (λ W. (cs : List Call) → FewPuts W cs → (counts_of (after W cs)).lost ≡ 0)
