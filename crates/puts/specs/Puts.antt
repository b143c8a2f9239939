-- The finished puts of a log, by their entries' places: what looking one up needs, and what it finds.
use Rattle.std.specs.Prelude.{◌≡◌, true, false, List, ℕ, ◌≤◌, ◌<◌, eqb, length, get_or, Option, None, Some}
use Rattle.model.specs.Counts.{entry_at, is_kind, some_below}
use Rattle.judgement.specs.Judgement.{finished_as}

-- the number of the k-th of them
abbrev pub number_of_put : ℕ → List ℕ → List ℕ → ℕ → ℕ
number_of_put v l puts k = (entry_at v l (get_or puts k 0)).task.number

-- the numbers of the first c rise
abbrev pub Rising : ℕ → List ℕ → List ℕ → ℕ → Type 0
Rising v l puts c = (i k : ℕ) → i < k → k < c → number_of_put v l puts i < number_of_put v l puts k

-- the one with number x, at place r; or none of the first c has it
pub record FoundBy (v : ℕ) (l puts : List ℕ) (c x r : ℕ) : Type 0 where
  pub within : r ≤ c
  pub found : r < c → number_of_put v l puts r ≡ x
  pub none : r ≡ c → (k : ℕ) → k < c → eqb (number_of_put v l puts k) x ≡ false

-- the places of the c finished puts among the first j entries, in order
pub record Gathered (v : ℕ) (l : List ℕ) (j : ℕ) (puts : List ℕ) (c : ℕ) : Type 0 where
  pub few : c ≤ j
  pub placed : (k : ℕ) → k < c → get_or puts k 0 < j
  pub put : (k : ℕ) → k < c → is_kind v l 1 (get_or puts k 0) ≡ true
  pub rowed : (i k : ℕ) → i < k → k < c → get_or puts i 0 < get_or puts k 0
  pub all : (i : ℕ) → i < j → is_kind v l 1 i ≡ true → some_below (λ k. eqb (get_or puts k 0) i) c ≡ true

-- hand-out j repeats the put at place r, which stands before it; or no finished put before it
pub record RepeatsPut (v : ℕ) (l puts : List ℕ) (c j r : ℕ) : Type 0 where
  pub within : r ≤ c
  pub found : r < c → (get_or puts r 0 < j) × (finished_as v l j (get_or puts r 0) ≡ true)
  pub none : r ≡ c → some_below (finished_as v l j) j ≡ false

-- the place of the one with number x, of all of them, if one has it; of the one that hand-out j repeats, if there is one
abbrev pub Found : ℕ → List ℕ → List ℕ → ℕ → Option ℕ → Type 0
Found v l puts x None = FoundBy v l puts (length puts) x (length puts)
Found v l puts x (Some r) = (r < length puts) × FoundBy v l puts (length puts) x r

abbrev pub Repeated : ℕ → List ℕ → List ℕ → ℕ → Option ℕ → Type 0
Repeated v l puts j None = RepeatsPut v l puts (length puts) j (length puts)
Repeated v l puts j (Some r) = (r < length puts) × RepeatsPut v l puts (length puts) j r
