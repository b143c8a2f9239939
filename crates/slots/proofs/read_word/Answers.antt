use Rattle.model.specs.Memory.{word_at}
use Rattle.slots.proofs.read_word.Goals as goal

pub returns : goal.returns
unfolding word_at
returns c = simp c.place-p.ensures
