-- Zeroed words: a part put back with zeros in it.
use mathlib.Core.Path.{◌≡◌, ap, ◌∙◌}
use mathlib.Core.List.{List}
use Prim.Native.Nat.{ℕ, ◌+◌, ◌-◌, ◌≤◌}
use native.Mathlib.Nat.{add-sub_cancel_left}
use native.Mathlib.Omega.{arith}
use lib.ListN.{length, replicate}
use borrow.Rule.Slice.PartMut.{put_mid, mid_of, mid_len, Post-is}
use Rattle.model.specs.Memory.{zeros}

pub zeroed : (s ys : List ℕ) (from n : ℕ) → from + n ≤ length s
    → ys ≡ replicate (length (mid_of from ((from + n) - from) s)) 0
    → put_mid from ((from + n) - from) s ys ≡ zeros s from n
unfolding zeros
zeroed s ys from n h e =
    let m : length (mid_of from ((from + n) - from) s) ≡ n = mid_len from (from + n) s h ∙ add-sub_cancel_left from n in
    let z : ys ≡ replicate n 0 = e ∙ ap (λ (k : ℕ). replicate k 0) m in
    rw (z, Post-is from (from + n) s (omega arith))
