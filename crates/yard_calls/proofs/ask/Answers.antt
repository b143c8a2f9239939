use Rattle.std.proofs.Common.{rules, refl}
use Rattle.model.specs.Calls.{ask}
use Rattle.yard_calls.proofs.Calling.{past_stop, calls}
use Rattle.yard_calls.proofs.ask.Goals as goal

pub on-requires : goal.on-requires
on-requires c = λ n.
    let a = c.args in
    let P = past_stop a.yard a.queue a.store.now a.log.now refl n in
    search (rules, P.sound, P.made, P.inside)

pub returns : goal.returns
returns c = let a = c.args in
    λ ls e. calls a.yard a.queue a.store.now a.log.now ls e (ask a.worker) _ refl c.on.ensures.refused (λ n. let d = c.on.ensures.called n in (d.0, search rules, d.2))
