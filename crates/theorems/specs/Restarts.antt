-- Restarts as the field counts them: a compare that fails, and nothing else.
use Rattle.std.specs.Prelude.{◌≡◌, Bool, false, not, List, [], ◌∷◌, ℕ, ◌+◌, ◌≤◌, ◌<◌, eqb, leb, length, Ok}
use Rattle.model.specs.declared.Kind.{Kind}
use Rattle.model.specs.declared.Line.{Line}
use Rattle.model.specs.declared.Queue.{Queue}
use Rattle.model.specs.declared.Room.{Room}
use Rattle.model.specs.declared.Refusal.{Refusal}
use Rattle.model.specs.declared.Answer.{Answer}
use Rattle.model.specs.declared.Answer.TheVariants.{Refused}
use Rattle.model.specs.Tests.{when◌then◌else◌, ◌and◌}
use Rattle.model.specs.Lines.{line_step, fails_compare}
use Rattle.model.specs.World.{World, line_at, is_steal1}
use Rattle.model.specs.Calls.{one_more, restarts_of, step_of, who_of, Call, begin, step, drop_link, drain, ask, drop_ask}
use Rattle.model.specs.Run.{Played, played, after}
use Rattle.model.specs.Listing.{is_refused}
use Rattle.theorems.specs.Demand3.{FromFresh}

-- an accepted step of worker i raises the count of a worker k exactly if k is i and the step is a compare that fails; a count at
-- its ceiling stays. Each of the crew has a count: a crew is at most eight, and a bench's type has eight counts
abbrev pub RestartsAreFailedCompares : Type 0
RestartsAreFailedCompares =
    (W : World) (i k : ℕ) → W.bench.crew ≤ length W.bench.restarts → ((r : Refusal) → (step_of W i).answer ≡ Refused r → ⊥)
    → restarts_of (step_of W i).world.bench.restarts k
    ≡ (when eqb k i and fails_compare W.bench.kind W.bench.queue i (line_at W.bench.workers i)
    then one_more (restarts_of W.bench.restarts k)
    else restarts_of W.bench.restarts k)

-- a call that found W and answered a is an accepted step in which worker k's compare fails
abbrev pub beats : ℕ → World → Call → Answer → Bool
beats k W (begin i op) a = false
beats k W (step i) a =
    not (is_refused a) and (eqb k i and fails_compare W.bench.kind W.bench.queue i (line_at W.bench.workers i))
beats k W (drop_link i) a = false
beats k W drain a = false
beats k W (ask i) a = false
beats k W (drop_ask i) a = false

-- how often worker k was beaten in a list
abbrev pub beaten : ℕ → List Played → ℕ
beaten k [] = 0
beaten k (s ∷ T) = beaten k T + (when beats k s.before s.call s.answer then 1 else 0)

-- a count stays at its ceiling
abbrev pub up_to : ℕ → ℕ
up_to n = when leb n 4294967295 then n else 4294967295

-- after every list from fresh, of a worker of the crew, `who` answers how often it was beaten
abbrev pub WhoCounts : Type 0
WhoCounts =
    FromFresh
    (λ W. (cs : List Call) (k : ℕ) → k < W.bench.crew → who_of (after W cs) k ≡ Ok (up_to (beaten k (played W cs))))

-- a compare that fails leaves its thief at line 1, and no other line does
abbrev pub BackToLine1 : Type 0
BackToLine1 =
    (ρ : Room) (κ : Kind) (w v : ℕ) (q : Queue) (m : List ℕ) (i : ℕ) (l : Line)
    → is_steal1 (line_step ρ κ w v q m i l).line ≡ fails_compare κ q i l
