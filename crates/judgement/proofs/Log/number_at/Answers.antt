use Rattle.judgement.specs.Judgement.{words_of}
use Rattle.judgement.proofs.Log.number_at.Goals as goal
use Rattle.model.proofs.Tasks.{entry_number}
use mathlib.Core.Path.{sym, ◌∙◌}

pub returns : goal.returns
returns c = c.word_of.ensures ∙ sym (entry_number c.args.self.now.words (words_of c.args.self.now.bytes.now) c.args.entry)
