use mathlib.Core.Path.{sym}
use Rattle.model.proofs.Tests.{holds, fails}
use Rattle.steps.proofs.delays.Goals as goal

pub returns-then-delayed : goal.returns-then-delayed
returns-then-delayed c = sym (holds c.if-delayed.true)

pub returns : goal.returns
returns c = sym (fails _ c.if-delayed.false)
