use Rattle.std.proofs.Common.{length, ap, arith, length-append}
use Rattle.std.proofs.Math.Seq.{length-sets}
use Rattle.text.proofs.Spell.{decimal_short, decimal_long, placed_more, placed_byte}
use Rattle.text.proofs.+decimal.Goals as goal

pub bounds-out-at : goal.bounds-out-at
bounds-out-at t c = omega (arith, ap length (decimal_short c.args.n c.if-n-lt10.true), c.requires)

pub returns-then-n-lt10 : goal.returns-then-n-lt10
returns-then-n-lt10 t c = rw (decimal_short c.args.n c.if-n-lt10.true, ← c.digit.ensures) (placed_byte c.args.out.now c.args.at c.digit.result)

pub decimal-end-requires : goal.decimal-end-requires
decimal-end-requires t c =
    let long = decimal_long c.args.n (omega arith) (omega (arith, c.ranges.n)) in
    (omega arith, omega (arith, c.requires, simp length-append at (ap length long)))

pub bounds-out-end : goal.bounds-out-end
bounds-out-end t c =
    let long = decimal_long c.args.n (omega arith) (omega (arith, c.ranges.n)) in
    omega (arith, c.requires, simp length-append at (ap length long), c.decimal-end.ensures.ends, simp length-sets at (ap length c.decimal-end.ensures.put))

pub overflow_add-result-2 : goal.overflow_add-result-2
overflow_add-result-2 t c =
    let long = decimal_long c.args.n (omega arith) (omega (arith, c.ranges.n)) in
    omega (arith, c.requires, simp length-append at (ap length long), c.decimal-end.ensures.ends)

pub returns : goal.returns
returns t c =
    let long = decimal_long c.args.n (omega arith) (omega (arith, c.ranges.n)) in
    rw (long, ← c.digit-2.ensures) (placed_more _ _ _ _ _ _ _ _ c.decimal-end.ensures (placed_byte _ _ _))
