use native.Mathlib.Omega.{arith}
use mathlib.Core.Path.{◌≡◌}
use Prim.Native.Nat.{◌+◌}
use lib.ListN.{length, drop}
use Rattle.text.proofs.Lists.{next, done}
use Rattle.listing.specs.Listing.{until_newline}
use Rattle.listing.proofs.Lines.{front_none, front_newline, front_more}
use Rattle.listing.proofs.line_end.Goals as goal

pub returns-then-buf-i-eq10 : goal.returns-then-buf-i-eq10
returns-then-buf-i-eq10 c = let l = c.loop-i in let s = c.args.buf.now in
    let e : length (until_newline (drop l.i s)) ≡ 0 = rw (next s l.i c.loop-i-test.true, front_newline _ (drop (l.i + 1) s) c.if-buf-i-eq10.true) in
    omega (arith, l.invariant)

pub loop-i-preserved : goal.loop-i-preserved
loop-i-preserved c = let l = c.loop-i in let s = c.args.buf.now in
    let e : length (until_newline (drop l.i s)) ≡ length (until_newline (drop (l.i + 1) s)) + 1 = rw (next s l.i c.loop-i-test.true, front_more _ (drop (l.i + 1) s) c.if-buf-i-eq10.false) (omega arith) in
    omega (arith, l.invariant)

pub returns : goal.returns
returns c = let l = c.loop-i in let s = c.args.buf.now in
    let e : length (until_newline (drop l.i s)) ≡ 0 = rw (done s l.i c.loop-i-test.false, front_none) in
    omega (arith, l.invariant, l.auto.i-end c.requires)
