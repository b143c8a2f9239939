use borrow.Author.Rules.{rules}
use Rattle.model.specs.Memory.{length_at}
use Rattle.slots.proofs.twice_as_long.Goals as goal

pub overflow_mul-result : goal.overflow_mul-result
unfolding length_at
overflow_mul-result c = search rules

pub returns : goal.returns
unfolding length_at
returns c = search rules
