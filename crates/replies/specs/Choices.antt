-- Which way a line goes. Only the contracts of the parts that `consume` is put together from name these; no claim is made in their words.
use Rattle.std.specs.Prelude.{◌≡◌, ℕ, Bool, true, None, Some, Result, Ok, Err, ⊤}
use Rattle.std.specs.declared.option.Option.{Option}
use Rattle.model.specs.declared.Refusal.{Refusal}
use Rattle.model.specs.declared.Command.{Command}
use Rattle.model.specs.declared.Command.TheVariants.{Open, BeginPut, BeginTake, BeginSteal, Steps, Who, End, Bad}
use Rattle.model.specs.declared.Answer.TheVariants.{Refused}
use Rattle.model.specs.Tests.{when◌then◌else◌}
use Rattle.model.specs.World.{World}
use Rattle.model.specs.Listing.{playing, response, printed, respond}

-- a line asks a bench that is played for steps, or for something else
abbrev pub asked_of : Bool → Command → Option (ℕ × ℕ)
asked_of v (Open k w c n s p) = None
asked_of v (BeginPut n p) = None
asked_of v BeginTake = None
asked_of v (BeginSteal i) = None
asked_of v (Steps i n) = when v then Some (i, n) else None
asked_of v (Who i) = None
asked_of v End = None
asked_of v Bad = None

-- the line is refused and changes nothing, while the bench W is played; or nothing is said of it
abbrev pub RefusedAtOnce : Bool → World → Command → Result ⊤ Refusal → Type 0
RefusedAtOnce v W c (Ok tt) = Unit {0}
RefusedAtOnce v W c (Err r) = (v ≡ true) × (respond (playing W) c ≡ response (playing W) (printed W.bench.words (Refused r)))
