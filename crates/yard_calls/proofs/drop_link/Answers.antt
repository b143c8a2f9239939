use Rattle.std.proofs.Common.{rules, refl}
use Rattle.model.specs.Calls.{drop_link, lent}
use Rattle.model.specs.Yard.{bench_at}
use Rattle.limits.proofs.Bounds.{bounds_of}
use Rattle.yard_calls.proofs.Calling.{past_stop, calls}
use Rattle.yard_calls.proofs.drop_link.Goals as goal

pub on-requires : goal.on-requires
on-requires c = λ n.
    let a = c.args in
    let P = past_stop a.yard a.queue a.store.now a.log.now refl n in
    let b = bounds_of (lent (bench_at a.yard a.queue) a.store.now a.log.now) P.inside.limits in
    search (rules, b.crew)

pub returns : goal.returns
returns c = let a = c.args in
    λ ls e. calls a.yard a.queue a.store.now a.log.now ls e (drop_link a.worker) _ refl c.on.ensures.refused (λ n. let d = c.on.ensures.called n in (d.0, search rules, d.2))
