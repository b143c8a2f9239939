use mathlib.Core.Path.{◌∙◌}
use Rattle.judgement.proofs.word.Goals as goal
use Rattle.judgement.proofs.Words.{word_at}

pub returns : goal.returns
returns c = c.from_le_bytes.ensures ∙ word_at c.args.bytes.now c.args.k c.requires
