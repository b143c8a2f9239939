-- The listing of an input, from its bytes to the bytes of the output.
use Rattle.std.specs.Prelude.{◌≡◌, List, [], ◌∷◌, map, ℕ, length, eqb}
use Rattle.model.specs.Tests.{when◌then◌else◌}
use Rattle.model.specs.Listing.{Program, waiting, listing_from, program_store, program_log}
use Rattle.text.specs.Words.{lines}
use Rattle.text.specs.Commands.{command_of}
use Rattle.replies.specs.Shown.{shown_all}

-- from where the program stands
unfoldable pub listing_of : Program → List ℕ → List ℕ
listing_of P input = shown_all (listing_from P (map command_of (lines input)))

-- from the program's start
abbrev pub whole_listing : List ℕ → List ℕ
whole_listing input = listing_of (waiting program_store program_log) input

-- the bytes before the first newline
unfoldable pub until_newline : List ℕ → List ℕ
until_newline [] = []
until_newline (b ∷ s) = when eqb b 10 then [] else b ∷ until_newline s

-- no newline
abbrev pub Open : List ℕ → Type 0
Open s = length (until_newline s) ≡ length s
