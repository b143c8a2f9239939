-- Where the c-th of things of e words each starts, as far as memory goes: 2^61 words are more than any has.
use Rattle.std.specs.Prelude.{◌≡◌, ◌⊎◌, ℕ, ◌*◌, ◌≤◌}

pub record Starts (e c r : ℕ) : Type 0 where
  pub small : r ≤ 9223372036854775808
  pub is : (r ≡ e * c) ⊎ ((2305843009213693952 ≤ r) × (2305843009213693952 ≤ e * c))
