use mathlib.Core.Bool.{true, false}
use mathlib.Core.Path.{◌≡◌, sym}
use Prim.Native.Nat.{◌≤◌}
use native.Mathlib.Omega.{arith}
use lib.ListN.{length, get_or-eq_default}
use borrow.Author.Rules.{rules}
use Rattle.model.specs.Tests.{when◌then◌else◌}
use Rattle.lines.proofs.succeeds.Goals as goal

pub returns-then-worker-ge8 : goal.returns-then-worker-ge8
unfolding when◌then◌else◌
returns-then-worker-ge8 c = let a = c.args in
    let linked : a.queue.linked ≡ true = c.if-queue.true in
    let eight : length a.queue.links ≡ 8 = search rules in
    simp linked (sym (get_or-eq_default a.queue.links false {n = a.worker} (let l : length a.queue.links ≤ a.worker = omega (arith, eight, c.if-worker-ge8.true) in l)))

pub returns : goal.returns
unfolding when◌then◌else◌
returns c = simp c.if-queue.false c.is_same.ensures
