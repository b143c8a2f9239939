-- Where stores are not delayed, demand 3 says what it says without them: nobody who reads it for such a queue need read of the
-- waiting line.
use Rattle.std.specs.Prelude.{◌≡◌, false, List, [], ◌∷◌, ℕ, ◌+◌}
use Rattle.model.specs.declared.Task.{Task}
use Rattle.model.specs.World.{World, memory, owners_view}
use Rattle.model.specs.Calls.{Call}
use Rattle.model.specs.Run.{Played, played, after}
use Rattle.theorems.specs.Demand3.{At, Finishes, Concerned, drains, between, finishes, puts, FromFresh}

-- how many puts a part of the list finishes
abbrev pub finished : List Played → ℕ
finished [] = 0
finished (s ∷ T) = finished T + finishes s.answer

-- the calls T of one queue, the last of which left the world W
pub record Undelayed (T : List Played) (W : World) : Type 0 where
  -- nothing waits: the owner reads memory, as thieves do, and the window is memory's
  pub none_wait : W.bench.waiting.count ≡ 0
  pub reads_memory : owners_view W ≡ memory W
  -- every drain is refused
  pub none_drained : drains T ≡ 0
  -- the premise counts the puts that finish
  pub counted : (l j : ℕ) → puts (between l j T) ≡ finished (between l j T)
  -- an EMPTY of any worker concerns every put that finished by place l
  pub concerned : (i k l : ℕ) (t : Task) → At T k (Finishes t) → Concerned T i k l

abbrev pub AsBefore : World → List Call → Type 0
AsBefore W cs = Undelayed (played W cs) (after W cs)

abbrev pub NothingDelayed : Type 0
NothingDelayed = FromFresh (λ W. W.bench.delayed ≡ false → (cs : List Call) → AsBefore W cs)
