use Rattle.std.proofs.Common.{subst, arith, length-take, length-drop}
use Rattle.listing.specs.Consuming.{Reachable}
use Rattle.replies.proofs.Replies.{left_on}
use Rattle.bench.proofs.play_some.Goals as goal

pub returns-then-out-f-ge-LONGEST-clause-have_bound :
    goal.returns-then-out-f-ge-LONGEST-clause-have_bound
returns-then-out-f-ge-LONGEST-clause-have_bound c =
    let k = simp (length-take, length-drop) at c.carry.ensures.count in
    (omega (arith, k), omega (arith, k, c.carry.auto.buf))

pub returns-then-out-f-ge-LONGEST-clause-reachable_2 :
    goal.returns-then-out-f-ge-LONGEST-clause-reachable_2
returns-then-out-f-ge-LONGEST-clause-reachable_2 c =
    subst Reachable (left_on _ c.consume-f.result.session c.consume-f.new.store c.consume-f.new.log c.if-f.false) c.consume-f.ensures.reachable

pub loop-preserved : goal.loop-preserved
loop-preserved c = (
  omega (arith, c.loop.invariant.0, simp (length-take, length-drop) at c.consume-f.ensures.consumed_by.within),
  c.loop.invariant.1,
  subst Reachable (left_on _ c.consume-f.result.session c.consume-f.new.store c.consume-f.new.log c.if-f.false) c.consume-f.ensures.reachable,
)
