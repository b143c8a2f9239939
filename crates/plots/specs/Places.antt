-- Parts of a yard's limits that a function of its own tests, and what is told of a yard with the memory lent to it.
use Rattle.std.specs.Prelude.{Bool, true, List, ◌≡◌, ℕ, ◌+◌, ◌≤◌, ltb, leb, get_or}
use Rattle.model.specs.declared.Region.{Region}
use Rattle.model.specs.declared.Queue.{Queue}
use Rattle.model.specs.declared.Bench.{Bench}
use Rattle.model.specs.declared.Yard.{Yard}
use Rattle.model.specs.declared.Refusal.{Refusal}
use Rattle.model.specs.declared.Refusal.TheVariants.{ForeignState, NoSuchQueue}
use Rattle.model.specs.Tests.{when◌then◌else◌, unless◌then◌else◌, ◌and◌, ◌or◌}
use Rattle.model.specs.Memory.{nowhere}
use Rattle.model.specs.Stores.{taken, words_taken}
use Rattle.model.specs.Limits.{bench_ok, log_ok}
use Rattle.model.specs.Yard.{Ground, bench_at, queue_at, quota_at, owners_queue, claimed_words, all_below, no_overlap, yard_ok}

-- two arrays do not overlap
abbrev pub regions_apart : Region → Region → Bool
regions_apart a b = leb (a.offset + a.length) b.offset or leb (b.offset + b.length) a.offset

-- an array overlaps none of a queue's
abbrev pub clear_of : Region → Queue → Bool
clear_of a q = all_below (λ j. regions_apart a (get_or q.arrays j nowhere)) q.claimed

-- what of a place's limits does not look at other queues: the limits on one queue; and its quota, words set aside counted
abbrev pub keeps_to : Bench → ℕ → Bool
keeps_to b n = bench_ok b b.queue (owners_queue b) and leb (words_taken b.queue + b.aside) n

abbrev pub keeps_at : Yard → ℕ → Bool
keeps_at Y q = keeps_to (bench_at Y q) (quota_at Y q)

-- all queues do, at most four
abbrev pub Kept : Yard → Type 0
Kept Y = (Y.made ≤ 4) × (all_below (keeps_at Y) Y.made ≡ true)

-- and what does: no gap below its last array, and no overlap with a queue before it, in place q
abbrev pub clear_of_earlier : Queue → Yard → ℕ → Bool
clear_of_earlier a Y q = all_below (λ r. no_overlap a (queue_at Y r)) q

abbrev pub lies_for : Queue → Yard → ℕ → Bool
lies_for a Y q = leb (taken a) (claimed_words Y) and clear_of_earlier a Y q

abbrev pub lies_at : Yard → ℕ → Bool
lies_at Y q = lies_for (queue_at Y q) Y q

-- a yard with the store and the logs that are lent to it
abbrev pub the_ground : Yard → List ℕ → List (List ℕ) → Ground
the_ground Y m ls = record { yard = Y; store = m; logs = ls }

-- refusals 12 and 24 of a call of queue q, with the store m and the log l: each is answered by R; else x
abbrev pub fit_for : Yard → ℕ → List ℕ → List ℕ → Bool
fit_for Y q m l = yard_ok Y m and (when ltb q Y.made then log_ok (bench_at Y q) l else true)

abbrev pub called : {A : Type 0} → Yard → ℕ → List ℕ → List ℕ → (Refusal → A) → A → A
called Y q m l R x =
    unless fit_for Y q m l then R ForeignState
    else unless ltb q Y.made then R NoSuchQueue
    else x
