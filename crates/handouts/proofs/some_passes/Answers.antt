use Rattle.model.proofs.Below.{some_at}
use Rattle.handouts.proofs.some_passes.Goals as goal

pub returns-then-test : goal.returns-then-test
returns-then-test g c = λ p h. some_at p _ _ c.if-likely-n.true (h _ _ c.test.ensures) c.if-test.true
