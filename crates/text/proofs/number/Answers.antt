use Rattle.std.proofs.Common.{arith, sym, ap, ◌∙◌, ◌≡◌, ◌-◌, ◌+◌, ◌*◌, drop, get_or}
use Rattle.text.proofs.Lists.{next, done}
use Rattle.text.proofs.Digits.{number_plain, number_not, read_on, read_other, read_over, read_next, read_end}
use Rattle.text.proofs.number.Goals as goal

pub returns-then-not-plain : goal.returns-then-not-plain
returns-then-not-plain c = sym (number_not _ (sym c.plain.ensures ∙ c.if-not-plain.true))

pub loop-b-init : goal.loop-b-init
loop-b-init c = (omega arith, sym (number_plain _ (sym c.plain.ensures ∙ c.if-not-plain.false)))

pub returns-then-not-is_ascii_digit : goal.returns-then-not-is_ascii_digit
returns-then-not-is_ascii_digit c = let l = c.loop-b in let s = c.args.word.now in
    sym (rw (← l.invariant.1, next s l.b-index c.loop-b-test.true) (read_other _ _ _ c.if-not-is_ascii_digit.ensures.cases))

pub returns-in_err-checked_mul : goal.returns-in_err-checked_mul
returns-in_err-checked_mul c = let l = c.loop-b in let s = c.args.word.now in let d = c.if-not-is_ascii_digit.ensures.cases in
    c.from_residual.ensures
    ∙ sym (read_over l.v s l.b-index c.loop-b-test.true d.0 d.1 (omega (arith, c.in_err-checked_mul.ensures))) ∙ l.invariant.1

pub returns-in_err-v : goal.returns-in_err-v
returns-in_err-v c = let l = c.loop-b in let s = c.args.word.now in let d = c.if-not-is_ascii_digit.ensures.cases in
    c.from_residual-in_err-v.ensures
    ∙ sym (read_over l.v s l.b-index c.loop-b-test.true d.0 d.1 (omega (arith, c.in_err-v.ensures, c.in_ok-checked_mul.ensures.1, c.from.ensures)))
    ∙ l.invariant.1

pub loop-b-preserved : goal.loop-b-preserved
loop-b-preserved c = let l = c.loop-b in let s = c.args.word.now in let d = c.if-not-is_ascii_digit.ensures.cases in
    let e : c.in_ok-v.v ≡ l.v * 10 + (get_or s l.b-index 0 - 48) = omega (arith, c.in_ok-v.ensures.1, c.in_ok-checked_mul.ensures.1, c.from.ensures) in
    (omega (arith, c.in_ok-v.ensures.0, c.in_ok-v.ensures.1), ap (λ v. read_on v (drop (l.b-index + 1) s)) e ∙ read_next l.v s l.b-index c.loop-b-test.true d.0 d.1 ∙ l.invariant.1)

pub returns : goal.returns
returns c = let l = c.loop-b in let s = c.args.word.now in
    sym (rw (← l.invariant.1, done s l.b-index c.loop-b-test.false) (read_end _ l.invariant.0))
