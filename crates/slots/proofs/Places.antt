-- Where a slot's words lie.
use mathlib.Core.Path.{◌≡◌, sym, ap, ◌∙◌}
use Prim.Native.Nat.{ℕ, ◌+◌, ◌*◌, ◌^◌, ◌≤◌, ◌<◌}
use native.Mathlib.Omega.{arith}
use native.Mathlib.Nat.{mul-le-mul_left}
use Rattle.model.specs.declared.Kind.{Kind}
use Rattle.model.specs.declared.Queue.{Queue}
use Rattle.model.specs.Memory.{offset_at, size_at}
use Rattle.model.specs.Figures.{slot}
use Rattle.slots.specs.Bounds.{Slotted, Inside}

-- z tasks have no more words than 1,024 of four payload words
pub most_words : (v z : ℕ) → v ≤ 4 → z ≤ 1024 → (v + 1) * z ≤ 5120
most_words v z h l = omega (arith, up (v + 1))
  where
    up : (n : ℕ) → n * z ≤ n * 1024
    up n = mul-le-mul_left n l

-- the slot s of an index that has one
pub slot_is : {s : ℕ} (κ : Kind) (v : ℕ) (q : Queue) (k i : ℕ) → Slotted κ v q k i → s ≡ slot κ (q.initial * 2 ^ k) i
    → s ≡ slot κ (size_at v q.arrays k) i
slot_is κ v q k i S f = f ∙ sym (ap (λ (x : ℕ). slot κ x i) S.0.0)

pub slot_few : {s : ℕ} (κ : Kind) (v : ℕ) (q : Queue) (k i : ℕ) → Slotted κ v q k i → s ≡ slot κ (q.initial * 2 ^ k) i → s ≤ 1024
slot_few κ v q k i S f = omega (arith, slot_is κ v q k i S f, S.2, S.0.1)

-- a word of slot s lies before the end of an array of z tasks
pub in_array : (v s z b n j : ℕ) → s < z → j ≤ v → b + (v + 1) * z ≤ n → b + (v + 1) * s + j < n
in_array v s z b n j h i l = omega (arith, step (v + 1))
  where
    step : (m : ℕ) → m * s + m ≤ m * z
    step m = let t : m * (s + 1) ≤ m * z = mul-le-mul_left m (omega arith) in omega (arith, t)

pub read_in : (κ : Kind) (v : ℕ) (q : Queue) (n k i j : ℕ) → Slotted κ v q k i → Inside v q n k → j ≤ v
    → offset_at q.arrays k + (v + 1) * slot κ (size_at v q.arrays k) i + j < n
read_in κ v q n k i j S I h =
    in_array v (slot κ (size_at v q.arrays k) i) (size_at v q.arrays k) (offset_at q.arrays k) n j S.2 h I
