-- The numbers of the kinds of entry.
use Rattle.std.specs.Prelude.{◌≡◌, ◌⊎◌, ℕ, ◌<◌, Result, MatchResult}
use Rattle.judgement.specs.declared.kind.EntryKind.{EntryKind}
use Rattle.judgement.specs.declared.kind.EntryKind.TheVariants.{Finished, HandOut, Empty, Full, Commit}
use Rattle.judgement.specs.declared.kind.UnknownKind.{UnknownKind}

abbrev pub number_of : EntryKind → ℕ
number_of Finished = 1
number_of HandOut = 2
number_of Empty = 3
number_of Full = 4
number_of Commit = 5

-- the kind with this number; or an error with the number, which no kind has
abbrev pub Decodes : ℕ → Result EntryKind UnknownKind → Type 0
Decodes n r = MatchResult r (λ κ. number_of κ ≡ n) (λ e. (e.0 ≡ n) × ((n < 1) ⊎ (5 < n)))
