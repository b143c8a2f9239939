use native.Mathlib.Omega.{arith}
use mathlib.Core.Path.{sym, ◌∙◌}
use Rattle.model.specs.Calls.{lent}
use Rattle.model.specs.Counts.{is_lost}
use Rattle.model.proofs.Below.{count_none, count_le}
use Rattle.handouts.proofs.Bools.{count_hit, count_miss}
use Rattle.counts.proofs.Window.lost.Goals as goal
use Rattle.counts.proofs.Window.lost.Goals.{then-is_lost, else-is_lost}

pub loop-j-init : goal.loop-j-init
loop-j-init c = count_none _

pub overflow_add-count : goal.overflow_add-count
overflow_add-count c =
    let l = c.loop-j in let W = c.args.self.now in let o = c.args.outs.now in let t = c.loop-j-test.true in
    omega (arith, l.invariant, t, count_le (is_lost (lent W.bench.now W.store.now o.log.memory.now) o.entries) l.j)

pub loop-j-preserved : goal.loop-j-preserved
loop-j-preserved c =
    elim c.if-is_lost.branch [
      | then-is_lost w ↦ w.count-is ∙ count_hit _ c.loop-j.j c.loop-j.invariant (sym c.is_lost.ensures ∙ w.if-is_lost.true)
      | else-is_lost w ↦ w.count-is ∙ count_miss _ c.loop-j.j c.loop-j.invariant (sym c.is_lost.ensures ∙ w.if-is_lost.false)
    ]
