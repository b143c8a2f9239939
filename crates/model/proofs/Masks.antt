-- Shifts and masks: 1 shifted by w is 2^w, and the lowest e bits of a number are its remainder by 2^e.
use mathlib.Core.Path.{◌≡◌, ◌∙◌, sym, ap}
use Prim.Native.Nat.{ℕ, ◌-◌, ◌*◌, ◌%◌, ◌^◌, ◌≤◌}
use native.Mathlib.Nat.{mod-eq_of_lt, one-mul}
use native.Mathlib.Omega.{arith}
use lib.Bits.{bit_and, and_mask}
use lib.Pow.{pow-lt}

-- how many tags have w bits, as the code shifts it
pub tags_shifted : (w : ℕ) → w ≤ 16 → 1 * 2 ^ w % 2 ^ 32 ≡ 2 ^ w
tags_shifted w h = rw one-mul (mod-eq_of_lt (pow-lt {i = w} {j = 32} (omega arith)))

pub masked : (e i : ℕ) {z : ℕ} → z ≡ 2 ^ e → bit_and i (z - 1) ≡ i % z
masked e i q = ap (λ (x : ℕ). bit_and i (x - 1)) q ∙ and_mask i e ∙ sym (ap (λ (x : ℕ). i % x) q)
