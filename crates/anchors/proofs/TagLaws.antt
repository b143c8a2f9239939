-- The tag's one law: a sum that wraps at k bits and is then reduced to w of them is the sum reduced to w bits.
use Rattle.std.proofs.Common.{◌≡◌, ℕ, ◌-◌, ◌%◌, ◌^◌, ◌≤◌, subst, sub-add_cancel}
use lib.Pow.{mod-mod-pow}

pub tag_wraps : (k w n : ℕ) → w ≤ k → n % 2 ^ k % 2 ^ w ≡ n % 2 ^ w
tag_wraps k w n h = subst (λ (j : ℕ). n % 2 ^ j % 2 ^ w ≡ n % 2 ^ w) (sub-add_cancel h) (mod-mod-pow n (k - w) w)
