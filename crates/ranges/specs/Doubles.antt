-- The sizes of the arrays, from the first one's.
use Rattle.std.specs.Prelude.{List, ◌≡◌, ℕ, ◌*◌, ◌^◌, ◌≤◌, ◌<◌}
use Rattle.model.specs.declared.Queue.{Queue}
use Rattle.model.specs.declared.Region.{Region}
use Rattle.model.specs.Memory.{size_at}

-- of the first n arrays each is twice the one before; f is the first one's size
abbrev pub Doubled : ℕ → List Region → ℕ → ℕ → Type 0
Doubled v l n f = (k : ℕ) → k < n → (size_at v l k ≡ f * 2 ^ k) × (f * 2 ^ k ≤ 1024)

-- the published ones
abbrev pub Doubles : ℕ → Queue → ℕ → Type 0
Doubles v q f = Doubled v q.arrays q.published f
