use Rattle.std.proofs.Common.{◌≡◌, length}
use Rattle.judgement.specs.Judgement.{words_of}
use Rattle.marks.specs.Marks.{Marked}
use Rattle.marks.proofs.mark_listed.Given as goal

abbrev pub invariant-loop-i : goal.invariant-loop-i
invariant-loop-i l = (length l.seen ≡ length l.fn.seen) × Marked l.puts.log.words (words_of l.puts.log.bytes.now) l.puts.log.entries (words_of l.list) l.i l.puts.places.now (length l.puts.places.now) l.seen
