use Rattle.owner.proofs.Joining.{copies_long}
use Rattle.owner.proofs.stores_in.Goals as goal

pub returns-in-Copies : goal.returns-in-Copies
returns-in-Copies c = copies_long _ c.in-Copies.is
