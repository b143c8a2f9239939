-- What a session stands for, and what playing a line leaves. m and l are the store and the log as the call left them.
use Rattle.std.specs.Prelude.{◌≡◌, Bool, List, ℕ, take}
use Rattle.model.specs.Tests.{when◌then◌else◌}
use Rattle.model.specs.World.{World}
use Rattle.model.specs.Calls.{lent}
use Rattle.model.specs.Listing.{Program, waiting, playing, ended, Response}
use Rattle.text.specs.Numbers.{Placed}
use Rattle.replies.specs.declared.Session.{Session}
use Rattle.replies.specs.declared.Answered.{Answered}
use Rattle.replies.specs.Shown.{shown_all}

-- the bench that is played has the store's first words, and the whole log
abbrev pub world_of : Session → List ℕ → List ℕ → World
world_of s m l = lent s.bench (take s.long m) l

abbrev pub program_of : Session → List ℕ → List ℕ → Program
program_of s m l = when s.live then playing (world_of s m l) else waiting m l

-- after a line: `end` stops the program
abbrev pub left_by : Bool → Session → List ℕ → List ℕ → Program
left_by stops s m l = when stops then ended else program_of s m l

-- a line was played: the program stands where the model's response leaves it, and the response's text stands in the output from `at` on
pub record AnsweredBy (R : Response) (p : Answered) (m l before : List ℕ) (at : ℕ) (after : List ℕ) : Type 0 where
  pub program : left_by p.stops p.session m l ≡ R.program
  pub text : Placed before at (shown_all R.output) p.end after
