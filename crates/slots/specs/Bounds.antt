-- What the code of a place in the store needs to stay in range.
use Rattle.std.specs.Prelude.{◌≡◌, ℕ, ◌+◌, ◌*◌, ◌^◌, ◌≤◌, ◌<◌}
use Rattle.model.specs.declared.Kind.{Kind}
use Rattle.model.specs.declared.Queue.{Queue}
use Rattle.model.specs.Memory.{offset_at, length_at, size_at}
use Rattle.model.specs.Figures.{slot}

-- a power of two
abbrev pub Power : ℕ → Type 0
Power z = (e : ℕ) × (z ≡ 2 ^ e)

-- a task has 1 to 4 payload words
abbrev pub Wide : ℕ → Type 0
Wide v = (0 < v) × (v ≤ 4)

-- the size of the array at place k is the first one's, doubled k times, and at most 1,024
abbrev pub Sized : ℕ → Queue → ℕ → Type 0
Sized v q k = (size_at v q.arrays k ≡ q.initial * 2 ^ k) × (size_at v q.arrays k ≤ 1024)

-- its size is a power of two, and index i has a slot in it
abbrev pub Slotted : Kind → ℕ → Queue → ℕ → ℕ → Type 0
Slotted κ v q k i =
    Sized v q k × Power (size_at v q.arrays k) × (slot κ (size_at v q.arrays k) i < size_at v q.arrays k)

-- the array at place k lies in a store of n words
abbrev pub Inside : ℕ → Queue → ℕ → ℕ → Type 0
Inside v q n k = offset_at q.arrays k + (v + 1) * size_at v q.arrays k ≤ n

-- its words are few: sizes are at most 1,024
abbrev pub Small : Queue → ℕ → Type 0
Small q k = length_at q.arrays k ≤ 5120
