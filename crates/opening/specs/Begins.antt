-- What is decided of a begin past refusal 12, before it is made.
use Rattle.std.specs.Prelude.{◌≡◌, ℕ, ◌<◌, Result, Ok, Err, ⊤}
use Rattle.model.specs.declared.Refusal.{Refusal}
use Rattle.model.specs.declared.Operation.{Operation}
use Rattle.model.specs.World.{World, refuse}
use Rattle.model.specs.Calls.{begun, begin_in}

-- the begin is accepted; or it is refused, and changes nothing
abbrev pub BeginStops : World → ℕ → Operation → Result ⊤ Refusal → Type 0
BeginStops W i op (Ok tt) = (i < W.bench.crew) × (begin_in W i op ≡ begun W i op)
BeginStops W i op (Err r) = begin_in W i op ≡ refuse W r
