-- The first array's length.
use Prim.Native.Nat.{ℕ, ◌+◌, ◌*◌, ◌≤◌}
use native.Mathlib.Nat.{mul-le-mul_left}
use native.Mathlib.Omega.{arith}

pub most_words : (v z : ℕ) → v ≤ 4 → z ≤ 1024 → (v + 1) * z ≤ 5120
most_words v z h l = omega (arith, up (v + 1))
  where
    up : (n : ℕ) → n * z ≤ n * 1024
    up n = mul-le-mul_left n l
