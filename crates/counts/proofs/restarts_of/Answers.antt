use Prim.Native.Nat.{ℕ, ◌+◌}
use native.Mathlib.Omega.{arith}
use native.Mathlib.Numerals.{add-one}
use mathlib.Core.Path.{◌≡◌, refl, ap, ◌∙◌}
use Rattle.model.specs.Calls.{restarts_of}
use Rattle.model.specs.Counts.{sum_below}
use Rattle.counts.proofs.restarts_of.Goals as goal

-- one more is added
added : (f : ℕ → ℕ) (i : ℕ) → sum_below f i + f i ≡ sum_below f (i + 1)
unfolding sum_below
added f i = rw (add-one i)

none : (f : ℕ → ℕ) → 0 ≡ sum_below f 0
unfolding sum_below
none f = refl

pub loop-n-init : goal.loop-n-init
loop-n-init c = (omega arith, none _)

pub overflow_add-sum : goal.overflow_add-sum
overflow_add-sum c = let l = c.loop-n in let t = c.loop-n-test.true in omega (arith, l.invariant.0, t, c.from-sum.ensures, c.loop-n-test.element_fits)

pub loop-n-preserved : goal.loop-n-preserved
loop-n-preserved c = let l = c.loop-n in
    (omega (arith, l.invariant.0, c.from-sum.ensures, c.loop-n-test.element_fits), ap (λ (k : ℕ). l.sum + k) c.from-sum.ensures ∙ ap (λ (k : ℕ). k + restarts_of c.args.each l.n-index) l.invariant.1 ∙ added (restarts_of c.args.each) l.n-index)

pub returns : goal.returns
returns c = let l = c.loop-n in let z = c.loop-n-test.false in let y = l.auto.n-index-end in l.invariant.1 ∙ ap (sum_below (restarts_of c.args.each)) (omega (arith, z, y))
