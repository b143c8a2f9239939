use borrow.Author.Rules.{rules}
use Rattle.model.specs.Memory.{offset_at}
use Rattle.slots.proofs.address.Goals as goal

pub returns : goal.returns
unfolding offset_at
returns c = search rules
