use mathlib.Core.Path.{sym, ◌∙◌}
use Rattle.limits.proofs.Lengths.{whole, broken}
use Rattle.limits.proofs.starts.Goals as goal

pub returns-then-first-each : goal.returns-then-first-each
returns-then-first-each c = let a = c.args in sym (broken a.words a.first.length a.size c.if-first-each.true)

pub returns : goal.returns
returns c = let a = c.args in c.is_size.ensures ∙ sym (whole a.words a.first.length a.size c.if-first-each.false)
