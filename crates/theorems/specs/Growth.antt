-- Growth: a commit comes to its X1 only with words set aside, and there it claims them; FULL never ends a commit. And no line of
-- X1 to X4 moves the window or changes a task in it: a commit, which has no other line, loses nothing.
use Rattle.std.specs.Prelude.{◌≡◌, List, ℕ, ◌<◌}
use Rattle.model.specs.declared.Growth.{Growth}
use Rattle.model.specs.declared.Growth.TheVariants.{ForCommit}
use Rattle.model.specs.declared.Line.TheVariants.{Claim, Note, Copy, Publish}
use Rattle.model.specs.declared.Answer.TheVariants.{GoesOn}
use Rattle.model.specs.World.{World}
use Rattle.model.specs.Calls.{Call, call_of}
use Rattle.model.specs.Run.{Played, played}
use Rattle.model.specs.Window.{window_size, window_task}
use Rattle.theorems.specs.Demand3.{At, Does, FromFresh}

-- an accepted step at a commit's X1 goes on
abbrev pub CommitsGrow : Type 0
CommitsGrow =
    FromFresh
    (λ W. (cs : List Call) (j i : ℕ) → At (played W cs) j (Does i (Claim ForCommit)) → At (played W cs) j (λ s. s.answer ≡ GoesOn))

-- the window, as the owner reads it, has as many tasks as before, and the same
abbrev pub SameWindow : World → World → Type 0
SameWindow W U = (window_size U ≡ window_size W) × ((i : ℕ) → i < window_size W → window_task U i ≡ window_task W i)

abbrev pub KeepsWindow : Played → Type 0
KeepsWindow s = SameWindow s.before (call_of s.before s.call).world

-- K, that it leaves the window so, holds of each accepted step at X1 to X4, whatever the array grows for, and whatever other workers
-- did in between
pub record GrowthKeeps (K : Played → Type 0) (T : List Played) : Type 0 where
  pub x1 : (j i : ℕ) (g : Growth) → At T j (Does i (Claim g)) → At T j K
  pub x2 : (j i : ℕ) (g : Growth) → At T j (Does i (Note g)) → At T j K
  pub x3 : (j i : ℕ) (g : Growth) (h n k : ℕ) → At T j (Does i (Copy g h n k)) → At T j K
  pub x4 : (j i : ℕ) (g : Growth) → At T j (Does i (Publish g)) → At T j K

abbrev pub GrowthMovesNothing : Type 0
GrowthMovesNothing = FromFresh (λ W. (cs : List Call) → GrowthKeeps KeepsWindow (played W cs))
