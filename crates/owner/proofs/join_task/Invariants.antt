use mathlib.Core.Path.{◌≡◌}
use Rattle.model.specs.Stores.{joined}
use Rattle.lines.specs.Actions.{word_stores}
use Rattle.owner.proofs.join_task.Given as goal

abbrev pub invariant-loop-word : goal.invariant-loop-word
invariant-loop-word l = l.next ≡ joined l.initial.next (word_stores l.place l.slot l.task l.word)
