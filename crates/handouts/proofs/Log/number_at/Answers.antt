use mathlib.Core.Path.{◌∙◌}
use native.Mathlib.Omega.{arith}
use Rattle.handouts.proofs.Starts.{number_is}
use Rattle.handouts.proofs.Log.number_at.Goals as goal

pub returns : goal.returns
returns c = c.word_at.ensures ∙ number_is c.args.self.now.words c.args.self.now.memory.now c.args.entry _ (omega arith) c.entry_start.ensures
