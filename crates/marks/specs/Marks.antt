-- Which finished puts are marked: those that are handed out or listed.
use Rattle.std.specs.Prelude.{◌≡◌, Bool, true, false, List, ℕ, ◌<◌, get_or, Option, None, Some}
use Rattle.model.specs.Tests.{◌or◌}
use Rattle.model.specs.Counts.{entry_at, is_kind, some_below, count_below, out_whole, out_first}
use Rattle.judgement.specs.Judgement.{all_below, justified, listed}
use Rattle.puts.specs.Puts.{number_of_put}
use Rattle.marks.specs.declared.Outs.{Outs}

-- whether the k-th put is marked
abbrev pub is_marked : List Bool → ℕ → Bool
is_marked seen k = get_or seen k false

-- a finished put is marked if one of the first j entries hands it out, or one of the first i numbers of the list is its
abbrev pub Marked : ℕ → List ℕ → ℕ → List ℕ → ℕ → List ℕ → ℕ → List Bool → Type 0
Marked v l j stored i puts c seen =
    (k : ℕ) → k < c → is_marked seen k
    ≡ (some_below (out_whole v l (entry_at v l (get_or puts k 0)).task) j or some_below (listed stored (number_of_put v l puts k)) i)

-- all hand-outs are justified: their counts, and each put that one of them hands out is marked
pub record OutsFine (v : ℕ) (l : List ℕ) (n : ℕ) (puts : List ℕ) (c : ℕ) (r : Outs) (seen : List Bool) : Type 0 where
  pub fine : all_below (justified v l) n ≡ true
  pub handouts : r.handouts ≡ count_below (is_kind v l 2) n
  pub different : r.different ≡ count_below (out_first v l) n
  pub marked : (stored : List ℕ) → Marked v l n stored 0 puts c seen

-- the hand-outs were judged
abbrev pub OutsBy : ℕ → List ℕ → ℕ → List ℕ → ℕ → Option Outs → List Bool → Type 0
OutsBy v l n puts c None seen = all_below (justified v l) n ≡ false
OutsBy v l n puts c (Some r) seen = OutsFine v l n puts c r seen
