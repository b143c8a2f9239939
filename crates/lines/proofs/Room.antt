-- X1's condition, and what it says of the claimed range.
use mathlib.Core.Bool.{true}
use mathlib.Core.Path.{◌≡◌}
use Prim.Native.Nat.{ℕ, ◌+◌, ◌*◌, ◌≤◌}
use native.Mathlib.Omega.{arith}
use borrow.Author.Tests.{leb-true}
use Rattle.model.specs.declared.Queue.{Queue}
use Rattle.model.specs.declared.Room.{Room}
use Rattle.model.specs.Stores.{next_length}
use Rattle.model.specs.Lines.{fits}
use Rattle.lines.specs.Actions.{len, Free, Claimable}
use Rattle.model.proofs.Tests.{and_left, and_right}

-- where all that is claimed is published, twice the current array's words fit at the next free word
pub claims_are : (ρ : Room) (v : ℕ) (q : Queue) (n : ℕ) {z : ℕ}
    → Free v q → fits ρ v q ≡ true → ρ.next + ρ.left ≤ n → z ≡ 2 * len q → Claimable q n ρ.next z
claims_are ρ v q n f t r e =
    let i : next_length q ≤ ρ.left = leb-true _ _ (and_right _ _ t) in
    let j : 2 * len q ≤ ρ.left = rw f.0 at i in
    record {
      long = rw f.0 e;
      inside = omega (arith, j, e, r);
      listed = let h = f.1 (leb-true _ _ (and_left _ _ t)) in omega (arith, h, f.0);
    }
