use Rattle.std.proofs.Common.{◌-◌, length}
use Rattle.judgement.specs.Judgement.{words_of}
use Rattle.puts.proofs.Puts.find.Given as goal
use Rattle.puts.proofs.Halving.{Between}

abbrev pub invariant-loop-low : goal.invariant-loop-low
invariant-loop-low l = Between l.self.log.words (words_of l.self.log.bytes.now) l.self.places.now (length l.self.places.now) l.number l.low l.high

abbrev pub decreases-loop-low : goal.decreases-loop-low
decreases-loop-low l = l.high - l.low
