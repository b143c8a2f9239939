use native.Mathlib.Omega.{arith}
use mathlib.Core.Path.{sym, ap, ◌∙◌}
use Prim.Native.Nat.{ℕ}
use lib.Dec.{eqb}
use borrow.Author.Tests.{eq-eqb, ne_eqb}
use Rattle.model.specs.Counts.{is_kind}
use Rattle.model.proofs.Below.{count_none, count_le}
use Rattle.handouts.proofs.Bools.{count_hit, count_miss}
use Rattle.handouts.proofs.Log.entries_of.Goals as goal
use Rattle.handouts.proofs.Log.entries_of.Goals.{then-kind_at-kind, else-kind_at-kind}

pub loop-j-init : goal.loop-j-init
loop-j-init c = count_none _

pub overflow_add-count : goal.overflow_add-count
overflow_add-count c = let l = c.loop-j in let s = c.args.self.now in let t = c.loop-j-test.true in omega (arith, l.invariant, t, count_le (is_kind s.words s.memory.now c.args.kind) l.j)

pub loop-j-preserved : goal.loop-j-preserved
loop-j-preserved c =
    let e = ap (λ (n : ℕ). eqb n c.args.kind) (sym c.kind_at.ensures) in
    elim c.if-kind_at-kind.branch [
      | then-kind_at-kind w ↦ w.count-is ∙ count_hit _ c.loop-j.j c.loop-j.invariant (e ∙ eq-eqb _ _ w.if-kind_at-kind.true)
      | else-kind_at-kind w ↦ w.count-is ∙ count_miss _ c.loop-j.j c.loop-j.invariant (e ∙ ne_eqb _ _ w.if-kind_at-kind.false)
    ]
