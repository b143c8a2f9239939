use Rattle.std.proofs.Common.{◌≡◌, ◌+◌, length, drop}
use Rattle.text.specs.Words.{words, head}
use Rattle.text.proofs.word_end.Given as goal

abbrev pub invariant-loop-i : goal.invariant-loop-i
invariant-loop-i l = l.i + length (head (words (drop l.i l.line))) ≡ l.at + length (head (words (drop l.at l.line)))
