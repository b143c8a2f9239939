use Rattle.std.proofs.Common.{◌≡◌, length}
use Rattle.judgement.specs.Judgement.{words_of}
use Rattle.marks.proofs.hand_outs.Given as goal
use Rattle.marks.proofs.Marking.{Told}

abbrev pub invariant-loop-j : goal.invariant-loop-j
invariant-loop-j l = (length l.seen ≡ length l.fn.seen) × Told l.puts.log.words (words_of l.puts.log.bytes.now) l.puts.places.now (length l.puts.places.now) l.j l.handouts l.different l.seen
