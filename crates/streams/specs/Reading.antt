-- What a read leaves in a buffer of which the first `have` bytes were a line that has begun.
use Rattle.std.specs.Prelude.{ℕ, ◌≡◌, ◌<◌, ◌≤◌, ◌+◌, List, [], ◌∷◌, ◌++◌, length, take}
use Rattle.std.specs.Io.KnownBytes.{Consumes, IsAtEnd}
use Rattle.std.specs.declared.option.Option.{Option}
use Rattle.streams.specs.declared.Input.{Input}
use Rattle.streams.specs.declared.Input.TheVariants.{End, More, Last}

-- The buffer's first n bytes are those that it had and behind them what the reader gave. At the input's end a line that has begun
-- is followed by a newline, and if none has, nothing is left.
abbrev pub Holds : ℕ → List ℕ → Option (List ℕ) → Option (List ℕ) → Input → List ℕ → Type 0
Holds have before left rest End after = (have ≡ 0) × IsAtEnd rest
Holds have before left rest (More n) after =
    (n ≤ length after)
    × ((gave : List ℕ) × (n ≡ have + length gave) × (0 < length gave) × (take n after ≡ take have before ++ gave) × Consumes left rest gave)
Holds have before left rest (Last n) after =
    (n ≤ length after) × (n ≡ have + 1) × (0 < have) × (take n after ≡ take have before ++ (10 ∷ [])) × IsAtEnd rest
