-- A line's words and an input's lines.
use Rattle.std.specs.Prelude.{ℕ, List, [], ◌∷◌, eqb}
use Rattle.model.specs.Tests.{when◌then◌else◌}

-- the byte in front of the first piece
unfoldable pub onto : ℕ → List (List ℕ) → List (List ℕ)
onto b [] = (b ∷ []) ∷ []
onto b (p ∷ ps) = (b ∷ p) ∷ ps

-- the pieces between single spaces: one more than there are spaces, some perhaps empty
unfoldable pub words : List ℕ → List (List ℕ)
words [] = [] ∷ []
words (b ∷ s) = when eqb b 32 then [] ∷ words s else onto b (words s)

-- a line ends at a newline byte or at the input's end; after a last newline there is no further line
unfoldable pub lines : List ℕ → List (List ℕ)
lines [] = []
lines (b ∷ s) = when eqb b 10 then [] ∷ lines s else onto b (lines s)

unfoldable pub head : List (List ℕ) → List ℕ
head [] = []
head (p ∷ ps) = p

unfoldable pub tail : List (List ℕ) → List (List ℕ)
tail [] = []
tail (p ∷ ps) = ps
