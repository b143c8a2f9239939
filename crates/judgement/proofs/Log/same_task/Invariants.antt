use Rattle.judgement.specs.Judgement.{words_of}
use Rattle.judgement.proofs.Log.same_task.Given as goal
use Rattle.judgement.proofs.Entries.{Alike}

abbrev pub invariant-loop-k : goal.invariant-loop-k
invariant-loop-k l = Alike l.self.words (words_of l.self.bytes.now) l.entry l.other l.k
