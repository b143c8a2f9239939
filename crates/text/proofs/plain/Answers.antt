use native.Mathlib.Omega.{arith}
use mathlib.Core.Path.{sym}
use Rattle.text.proofs.Digits.{plain_none, plain_one, plain_more}
use Rattle.text.proofs.plain.Goals as goal

pub returns-in-empty : goal.returns-in-empty
returns-in-empty c = sym (plain_none _ (omega (arith, c.in-empty.len_below)))

pub returns-in-len1 : goal.returns-in-len1
returns-in-len1 c = sym (plain_one _ (omega (arith, c.in-len1.len_below, c.in-len1.len_at_least)))

pub returns-in-len1-up : goal.returns-in-len1-up
returns-in-len1-up c = sym (plain_more _ (λ e. omega (arith, c.in-len1-up.len_at_least)) (λ e. omega (arith, c.in-len1-up.len_at_least)))
