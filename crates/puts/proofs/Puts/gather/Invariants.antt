use Rattle.std.proofs.Common.{◌≡◌, length}
use Rattle.judgement.specs.Judgement.{words_of}
use Rattle.puts.specs.Puts.{Gathered}
use Rattle.puts.proofs.Puts.gather.Given as goal

abbrev pub invariant-loop-j : goal.invariant-loop-j
invariant-loop-j l = (length l.room ≡ length l.fn.room) × Gathered l.log.words (words_of l.log.bytes.now) l.j l.room l.count
