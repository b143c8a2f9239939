use mathlib.Core.Path.{ap, ◌∙◌}
use Rattle.model.specs.declared.Task.{Task}
use Rattle.model.specs.Tasks.{same_task}
use Rattle.handouts.proofs.Bools.{true_and, false_and, tasks_equal}
use Rattle.handouts.proofs.Log.hands_out.Goals as goal

pub returns-then-is_kind : goal.returns-then-is_kind
returns-then-is_kind c = c.eq.ensures ∙ tasks_equal c.task_at.result c.args.task ∙ ap (λ (t : Task). same_task t c.args.task) c.task_at.ensures ∙ true_and c.is_kind.ensures c.if-is_kind.true

pub returns-else-is_kind : goal.returns-else-is_kind
returns-else-is_kind c = c.if-is_kind.false ∙ false_and _ c.is_kind.ensures c.if-is_kind.false
