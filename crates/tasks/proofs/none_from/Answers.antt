use Rattle.std.proofs.Common.{arith}
use Rattle.tasks.proofs.Zeros.{none_is}
use Rattle.model.specs.Tests.{◌and◌}
use Rattle.tasks.proofs.none_from.Goals as goal

pub returns-then-kept-4 : goal.returns-then-kept-4
unfolding ◌and◌
returns-then-kept-4 c = rw (none_is c.args.known c.args.task) (grind arith)

pub returns-else-kept-4 : goal.returns-else-kept-4
unfolding ◌and◌
returns-else-kept-4 c = rw (none_is c.args.known c.args.task) (grind arith)
