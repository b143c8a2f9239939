use mathlib.Core.Path.{sym}
use borrow.Author.Tests.{lt-ltb, le-ltb}
use Rattle.model.proofs.Tests.{if_true, if_false}
use Rattle.events.proofs.tally_in.Goals as goal

pub returns-then-worker-bench : goal.returns-then-worker-bench
returns-then-worker-bench c = λ m l. sym (if_true _ (lt-ltb _ _ c.if-worker-bench.true))

pub returns-else-worker-bench : goal.returns-else-worker-bench
returns-else-worker-bench c = λ m l. sym (if_false _ (le-ltb _ _ c.if-worker-bench.false))
