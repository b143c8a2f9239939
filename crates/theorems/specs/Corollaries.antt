-- What else is claimed of lists from a fresh bench.
use Rattle.std.specs.Prelude.{◌≡◌, true, List, [], ◌∷◌, ℕ, ◌+◌, leb}
use Rattle.model.specs.declared.Refusal.TheVariants.{ForeignState}
use Rattle.model.specs.declared.Answer.TheVariants.{Refused}
use Rattle.model.specs.World.{World}
use Rattle.model.specs.Limits.{valid_of}
use Rattle.model.specs.Calls.{Call}
use Rattle.model.specs.Run.{Played, played, after}
use Rattle.model.specs.Tests.{when◌then◌else◌}
use Rattle.theorems.specs.Demand3.{At, finishes, drains, waits, puts, FromFresh}

-- No state reached from fresh is refused 12. Here there is no premise
pub record NeverForeign (W : World) (cs : List Call) : Type 0 where
  pub valid : valid_of (after W cs) ≡ true
  pub never : (j : ℕ) → At (played W cs) j (λ s. s.answer ≡ Refused ForeignState) → ⊥

abbrev pub NoneForeign : Type 0
NoneForeign = FromFresh (λ W. (cs : List Call) → NeverForeign W cs)

-- The premise counts puts by the stores that are drained, a thief's EMPTY by the drains since they finished: these are the same
-- puts. Here there is no premise either. The puts finished in a list and drained by its end
abbrev pub landed : List Played → ℕ
landed [] = 0
landed (s ∷ T) = landed T + (when leb (waits s) (drains T) then finishes s.answer else 0)

abbrev pub SamePuts : Type 0
SamePuts = FromFresh (λ W. (cs : List Call) → puts (played W cs) ≡ landed (played W cs))
