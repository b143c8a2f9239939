use Rattle.model.specs.Memory.{word_at}
use Rattle.waiting.proofs.covered.Goals as goal

pub returns-in-StoreWord : goal.returns-in-StoreWord
unfolding word_at
returns-in-StoreWord c = simp (c.in-StoreWord.is, c.address-at.ensures)
