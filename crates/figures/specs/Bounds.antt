-- What the code of a figure needs to stay in range.
use Rattle.std.specs.Prelude.{◌≤◌}
use Rattle.model.specs.declared.Kind.{Kind}
use Rattle.model.specs.declared.Kind.TheVariants.{Lifo, Fifo, Deque}
use Rattle.model.specs.declared.Anchor.{Anchor}

-- FIFO's head is at most its tail
unfoldable pub Ordered : Kind → Anchor → Type 0
Ordered Lifo a = Unit {0}
Ordered Fifo a = a.head ≤ a.count
Ordered Deque a = Unit {0}
