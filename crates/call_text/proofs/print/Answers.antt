use Rattle.std.proofs.Common.{arith, take, length, length-take-le}
use Rattle.text.proofs.Spell.{line_most}
use Rattle.call_text.proofs.print.Goals as goal

pub print-requires : goal.print-requires
print-requires c = let a = c.args in let l = c.loop-i in
    omega (arith, line_most a.letter (take (length a.v.now) l.row), length-take-le (length a.v.now) l.row (omega arith))

pub returns : goal.returns
returns c = let a = c.args in let l = c.loop-i in
    omega (arith, c.print.ensures.ends, line_most a.letter (take (length a.v.now) l.row), length-take-le (length a.v.now) l.row (omega arith))
