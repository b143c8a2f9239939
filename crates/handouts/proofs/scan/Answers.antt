use Prim.Native.Nat.{◌-◌}
use native.Mathlib.Omega.{arith}
use Rattle.model.proofs.Below.{some_hit, some_miss, some_none}
use Rattle.handouts.proofs.scan.Goals as goal

pub returns-then-test : goal.returns-then-test
returns-then-test g c = λ p h. let l = c.loop-j in let t = c.loop-j-test.true in some_hit p _ l.j (l.j - 1) (l.invariant p h) (omega (arith, t)) (h _ _ c.test.ensures) c.if-test.true

pub loop-j-preserved : goal.loop-j-preserved
loop-j-preserved g c = λ p h. let l = c.loop-j in let t = c.loop-j-test.true in some_miss p _ l.j (l.j - 1) (l.invariant p h) (omega (arith, t)) (h _ _ c.test.ensures) c.if-test.false

pub returns : goal.returns
returns g c = λ p h. some_none p _ c.loop-j.j (c.loop-j.invariant p h) (let z = c.loop-j-test.false in omega (arith, z))
