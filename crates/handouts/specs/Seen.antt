-- The table that spares scans of the log: a put number's place in it is its remainder by 4,096.
use Rattle.std.specs.Prelude.{◌≡◌, false, List, ℕ, ◌%◌, length, get_or, Option, None, Some}
use Rattle.model.specs.Counts.{some_below, out_as}

-- a table that has seen the first n entries: where it has 0, none of them hands out a number of that place
pub record Seen (v : ℕ) (l s : List ℕ) (n : ℕ) : Type 0 where
  pub long : length s ≡ 4096
  pub none : (x : ℕ) → get_or s (x % 4096) 0 ≡ 0 → some_below (out_as v l x) n ≡ false

-- none of the first n entries hands out number x, where no place is told
abbrev pub LastLike : ℕ → List ℕ → ℕ → ℕ → Option ℕ → Type 0
LastLike v l x n None = some_below (out_as v l x) n ≡ false
LastLike v l x n (Some k) = Unit {0}
