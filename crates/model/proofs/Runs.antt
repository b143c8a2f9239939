-- Runs as rows of a table: what is played, and what it shows.
use mathlib.Core.Bool.{Bool}
use mathlib.Core.List.{List, [], ◌∷◌, map}
use Prim.Native.Nat.{ℕ}
use lib.ListN.{replicate}
use Rattle.model.specs.declared.Payload.{Payload}
use Rattle.model.specs.declared.Answer.{Answer}
use Rattle.model.specs.declared.Command.{Command}
use Rattle.model.specs.declared.Command.TheVariants.{Open, BeginPut}
use Rattle.model.specs.Tasks.{payload}
use Rattle.model.specs.World.{Outcome}
use Rattle.model.specs.Calls.{fresh_of, setup_in, Call}
use Rattle.model.specs.Run.{played}
use Rattle.model.specs.Listing.{Print, H, listing}

-- commands of the program; or calls of the library after a fresh with a kind, width, size, workers, payload words, stores delayed
-- or not, and so many words of store and of log
pub data Run : Type 0 where
  lines : List Command → Run
  calls : ℕ → ℕ → ℕ → ℕ → ℕ → Bool → ℕ → ℕ → List Call → Run

-- what the program prints; what the calls answer, fresh's answer first
pub data Shown : Type 0 where
  prints : List Print → Shown
  answers : List Answer → Shown

pub record Row : Type 0 where
  pub run : Run
  pub shown : Shown

infix 5 ◌shows◌
abbrev pub ◌shows◌ : Run → Shown → Row
◌shows◌ r s = record { run = r; shown = s }

abbrev pub answers_from : Outcome → List Call → List Answer
answers_from d cs = d.answer ∷ map (λ p. p.answer) (played d.world cs)

unfoldable pub show : Run → Shown
show (lines l) = prints (listing l)
show (calls k w c n v d s e cs) = answers (answers_from (fresh_of (setup_in k w c n v d) (replicate s 0) (replicate e 0)) cs)

-- one payload word: a payload, `queue` without a sixth number, `put`, and what `H` shows
abbrev pub one : ℕ → Payload
one p = payload p 0 0 0

abbrev pub queue : ℕ → ℕ → ℕ → ℕ → ℕ → Command
queue k w c n s = Open k w c n s 1

abbrev pub put : ℕ → Command
put p = BeginPut 1 (one p)

abbrev pub handed : ℕ → ℕ → ℕ → Print
handed i n p = H i n (p ∷ [])
