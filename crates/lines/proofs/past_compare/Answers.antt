use mathlib.Core.Path.{sym, ◌∙◌}
use Rattle.model.specs.Tests.{when◌then◌else◌}
use Rattle.lines.proofs.past_compare.Goals as goal

pub returns-then-succeeds : goal.returns-then-succeeds
unfolding when◌then◌else◌
returns-then-succeeds c = λ e t. simp (sym c.succeeds.ensures ∙ c.if-succeeds.true)

pub returns-else-succeeds : goal.returns-else-succeeds
unfolding when◌then◌else◌
returns-else-succeeds c = λ e t. simp (sym c.succeeds.ensures ∙ c.if-succeeds.false)
