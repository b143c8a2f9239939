use borrow.Author.Tests.{eq-eqb, le-leb, le-ltb, lt-leb, lt-ltb, ne_eqb}
use Rattle.model.specs.Tests.{◌and◌}
use Rattle.model.proofs.Masks.{tags_shifted}
use Rattle.ranges.proofs.read_ok.Goals as goal

pub returns-then-count-tasks : goal.returns-then-count-tasks
unfolding ◌and◌
returns-then-count-tasks c = simp (tags_shifted _ c.requires, c.in-Lifo.is, eq-eqb _ _ c.if-head-eq0.true, le-leb _ _ c.if-count-tasks.true)

pub returns-else-count-tasks : goal.returns-else-count-tasks
unfolding ◌and◌
returns-else-count-tasks c = simp (c.in-Lifo.is, eq-eqb _ _ c.if-head-eq0.true, lt-leb _ _ c.if-count-tasks.false)

pub returns-else-head-eq0 : goal.returns-else-head-eq0
unfolding ◌and◌
returns-else-head-eq0 c = simp (c.in-Lifo.is, ne_eqb _ _ c.if-head-eq0.false)

pub returns-then-count-le65535 : goal.returns-then-count-le65535
unfolding ◌and◌
returns-then-count-le65535 c = simp (c.in-Fifo.is, le-leb _ _ c.if-head-count.true, le-leb _ _ c.if-count-le65535.true)

pub returns-else-count-le65535 : goal.returns-else-count-le65535
unfolding ◌and◌
returns-else-count-le65535 c = simp (c.in-Fifo.is, le-leb _ _ c.if-head-count.true, lt-leb _ _ c.if-count-le65535.false)

pub returns-else-head-count : goal.returns-else-head-count
unfolding ◌and◌
returns-else-head-count c = simp (c.in-Fifo.is, lt-leb _ _ c.if-head-count.false)

pub returns-then-count-tasks-2 : goal.returns-then-count-tasks-2
unfolding ◌and◌
returns-then-count-tasks-2 c = simp (tags_shifted _ c.requires, c.in-Deque.is, lt-ltb _ _ c.if-head-lt2048.true, le-leb _ _ c.if-count-tasks-2.true)

pub returns-else-count-tasks-2 : goal.returns-else-count-tasks-2
unfolding ◌and◌
returns-else-count-tasks-2 c = simp (c.in-Deque.is, lt-ltb _ _ c.if-head-lt2048.true, lt-leb _ _ c.if-count-tasks-2.false)

pub returns-else-head-lt2048 : goal.returns-else-head-lt2048
unfolding ◌and◌
returns-else-head-lt2048 c = simp (c.in-Deque.is, le-ltb _ _ c.if-head-lt2048.false)
