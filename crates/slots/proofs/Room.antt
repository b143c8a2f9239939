-- X1's room in a queue that is alone.
use mathlib.Core.List.{List}
use mathlib.Core.Path.{◌≡◌, sym, ap, ◌∙◌}
use Prim.Native.Nat.{ℕ, ◌+◌, ◌-◌, ◌≤◌}
use native.Mathlib.Omega.{arith}
use lib.ListN.{length, get_or}
use Rattle.model.specs.declared.Region.{Region}
use Rattle.model.specs.declared.Queue.{Queue}
use Rattle.model.specs.declared.Room.{Room}
use Rattle.model.specs.Tests.{least}
use Rattle.model.specs.Memory.{nowhere, offset_at, length_at, usable}
use Rattle.model.specs.Stores.{taken, words_taken, room_in}
use Rattle.model.proofs.Alone.{least_is_left, at_most_usable}

-- the last pair tells where the arrays end
pub last_ends : (q : Queue) {r : Region} → r ≡ get_or q.arrays (q.claimed - 1) nowhere → r.offset + r.length ≡ taken q
unfolding offset_at length_at
last_ends q e = ap (λ (r : Region). r.offset + r.length) e

abbrev room : ℕ → ℕ → Room
room a n = record { next = a; left = n }

-- arrays that lie end to end leave the store's words behind them
pub room_is : (q : Queue) (m : List ℕ) {a n : ℕ} → words_taken q ≡ taken q → taken q ≤ usable m → a ≡ taken q → n ≡ usable m
    → ◌≡◌ {A = Room} (record { next = a; left = n - a }) (room_in (usable m) (words_taken q) 0 (words_taken q) (length m))
room_is q m {a} {n} e h f g =
    let k = words_taken q in
    let first : a ≡ k = f ∙ sym e in
    let rest : n - a ≡ usable m - (k + 0) = omega (arith, g, first) in
    let most = at_most_usable m in
    let all : n - a ≡ least (usable m - (k + 0)) (length m - k) = rest ∙ sym (least_is_left (usable m - (k + 0)) (length m - k) (omega (arith, most))) in
    ap (λ (x : ℕ). room x (n - a)) first ∙ ap (room k) all
