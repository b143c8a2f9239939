use borrow.Author.Rules.{rules}
use native.Mathlib.Omega.{arith}
use native.Mathlib.Numerals.{add-one}
use mathlib.Core.Path.{◌≡◌, ap}
use Prim.Native.Nat.{ℕ, suc, ◌+◌}
use lib.ListN.{length, drop}
use Rattle.orders.specs.Hunt.{operations}
use Rattle.hunter.specs.Hunter.{steals}
use Rattle.hunter.proofs.Sums.{steals_next}
use Rattle.hunter.proofs.steals_from.Goals as goal

pub loop-i-preserved : goal.loop-i-preserved
loop-i-preserved c = let L = c.loop-i in
    let each = c.args.each in
    let seven : length each ≡ 7 = search rules in
    let n = steals_next each L.i (omega (arith, seven, c.loop-i-test.true)) in
    let s : operations (drop (L.i + 1) (steals each)) ≡ operations (drop (suc L.i) (steals each)) = ap (λ (j : ℕ). operations (drop j (steals each))) (add-one L.i) in
    (omega arith, omega (arith, L.invariant.1, n, s))
