use Rattle.model.specs.Memory.{set_word}
use Rattle.waiting.proofs.write.Goals as goal

pub returns-in-StoreWord : goal.returns-in-StoreWord
unfolding set_word
returns-in-StoreWord c = simp (c.in-StoreWord.is, c.address-at.ensures)
