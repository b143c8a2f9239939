use mathlib.Core.Path.{◌∙◌}
use native.Mathlib.Omega.{arith}
use Rattle.handouts.proofs.Starts.{entry_task_is}
use Rattle.handouts.proofs.Log.task_at.Goals as goal

pub returns : goal.returns
returns c = c.task_from.ensures ∙ entry_task_is c.args.self.now.words c.args.self.now.memory.now c.args.entry _ (omega arith) c.entry_start.ensures
