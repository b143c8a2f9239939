use Rattle.std.proofs.Common.{arith, ◌≡◌, ◌+◌, length, drop}
use Rattle.text.specs.Words.{words, head}
use Rattle.text.proofs.Lists.{next, done}
use Rattle.text.proofs.Split.{first_space, first_more, first_none}
use Rattle.text.proofs.word_end.Goals as goal

pub returns-then-line-i-eq32-clause-word : goal.returns-then-line-i-eq32-clause-word
returns-then-line-i-eq32-clause-word c = let l = c.loop-i in let s = c.args.line.now in
    let e : length (head (words (drop l.i s))) ≡ 0 = rw (next s l.i c.loop-i-test.true, first_space (drop (l.i + 1) s) _ c.if-line-i-eq32.true) in
    omega (arith, l.invariant)

pub loop-i-preserved : goal.loop-i-preserved
loop-i-preserved c = let l = c.loop-i in let s = c.args.line.now in
    let e : length (head (words (drop l.i s))) ≡ length (head (words (drop (l.i + 1) s))) + 1 = rw (next s l.i c.loop-i-test.true, first_more (drop (l.i + 1) s) _ c.if-line-i-eq32.false) (omega arith) in
    omega (arith, l.invariant)

pub returns-clause-word : goal.returns-clause-word
returns-clause-word c = let l = c.loop-i in let s = c.args.line.now in
    let e : length (head (words (drop l.i s))) ≡ 0 = rw (done s l.i c.loop-i-test.false, first_none) in
    omega (arith, l.invariant, l.auto.i-end c.requires)
