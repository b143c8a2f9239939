use native.Mathlib.Omega.{arith}
use Prim.Native.Nat.{◌+◌}
use mathlib.Core.Path.{◌≡◌, ap}
use lib.ListN.{length, take, set, length-set}
use lib.Seq.{take-suc}
use native.Mathlib.Numerals.{add-one}
use Rattle.text.specs.Numbers.{spaced_of}
use Rattle.text.proofs.Spell.{line_placed, number_placed, placed_none, placed_length, room, line_length}
use Rattle.text.proofs.print.Goals as goal

pub bounds-out-at : goal.bounds-out-at
bounds-out-at c = let a = c.args in omega (arith, line_length a.letter a.values.now, c.requires)

pub loop-value-init : goal.loop-value-init
loop-value-init c = let a = c.args in (placed_none (set a.out.now a.at a.letter) (a.at + 1))

pub bounds-out-end : goal.bounds-out-end
bounds-out-end c = let a = c.args in let l = c.loop-value in let h = c.loop-value-test.true in
    omega (arith, c.requires, room a.letter a.values.now l.value-index h, l.invariant.ends, simp length-set at (placed_length _ _ _ _ _ l.invariant))

pub overflow_add-end-in-loop-value : goal.overflow_add-end-in-loop-value
overflow_add-end-in-loop-value c = let a = c.args in let l = c.loop-value in let h = c.loop-value-test.true in
    omega (arith, c.requires, room a.letter a.values.now l.value-index h, l.invariant.ends)

pub decimal-end-requires : goal.decimal-end-requires
decimal-end-requires c = let a = c.args in let l = c.loop-value in let h = c.loop-value-test.true in
    simp length-set (omega (arith, c.requires, room a.letter a.values.now l.value-index h, l.invariant.ends, simp length-set at (placed_length _ _ _ _ _ l.invariant)))

pub loop-value-preserved : goal.loop-value-preserved
loop-value-preserved c = let a = c.args in let l = c.loop-value in let h = c.loop-value-test.true in
    (rw (add-one l.value-index, take-suc a.values.now l.value-index 0 h) (number_placed _ _ (take l.value-index a.values.now) l.end l.out _ _ _ l.invariant c.decimal-end.ensures))

pub bounds-out-end-2 : goal.bounds-out-end-2
bounds-out-end-2 c = let a = c.args in let l = c.loop-value in
    let e : take l.value-index a.values.now ≡ a.values.now = lib.Seq.take_all l.value-index a.values.now c.loop-value-test.false in
    omega (arith, c.requires, line_length a.letter a.values.now, l.invariant.ends, ap (λ x. length (spaced_of x)) e, simp length-set at (placed_length _ _ _ _ _ l.invariant))

pub overflow_add-result : goal.overflow_add-result
overflow_add-result c = let a = c.args in let l = c.loop-value in
    let e : take l.value-index a.values.now ≡ a.values.now = lib.Seq.take_all l.value-index a.values.now c.loop-value-test.false in
    omega (arith, c.requires, line_length a.letter a.values.now, l.invariant.ends, ap (λ x. length (spaced_of x)) e, simp length-set at (placed_length _ _ _ _ _ l.invariant))

pub returns : goal.returns
returns c = let a = c.args in let l = c.loop-value in
    let e : take l.value-index a.values.now ≡ a.values.now = lib.Seq.take_all l.value-index a.values.now c.loop-value-test.false in
    line_placed a.out.now a.at a.letter a.values.now l.end l.out (rw e at l.invariant)
