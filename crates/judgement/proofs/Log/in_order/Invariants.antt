use Rattle.judgement.specs.Judgement.{words_of}
use Rattle.judgement.proofs.Log.in_order.Given as goal
use Rattle.judgement.proofs.Order.{Floor}

abbrev pub invariant-loop-j : goal.invariant-loop-j
invariant-loop-j l = Floor l.self.words (words_of l.self.bytes.now) l.j l.floor
