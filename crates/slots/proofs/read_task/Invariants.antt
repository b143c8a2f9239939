use Rattle.std.proofs.Common.{◌≡◌}
use Rattle.model.specs.Tasks.{gathered}
use Rattle.model.specs.Lines.{word_of}
use Rattle.slots.proofs.read_task.Given as goal

abbrev pub invariant-loop-word : goal.invariant-loop-word
invariant-loop-word l = l.task ≡ gathered l.word (word_of l.kind l.words l.queue l.store l.at l.index)
