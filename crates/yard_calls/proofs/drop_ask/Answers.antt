use Rattle.std.proofs.Common.{rules, refl}
use Rattle.model.specs.Calls.{drop_ask}
use Rattle.yard_calls.proofs.Calling.{calls}
use Rattle.yard_calls.proofs.drop_ask.Goals as goal

pub returns : goal.returns
returns c = let a = c.args in
    λ ls e. calls a.yard a.queue a.store.now a.log.now ls e (drop_ask a.worker) _ refl c.on.ensures.refused (λ n. let d = c.on.ensures.called n in (d.0, search rules, d.2))
