use mathlib.Core.Path.{refl}
use native.Mathlib.Omega.{arith}
use Rattle.model.specs.Calls.{drain}
use Rattle.yard_calls.proofs.Calling.{past_stop, inside_of, refuses, goes_on_lem}
use Rattle.yard_calls.proofs.drain.Goals as goal

pub returns-in-Err : goal.returns-in-Err
returns-in-Err c = let a = c.args in
    λ ls e. refuses a.yard a.queue a.store.now a.log.now ls e drain c.stop-stop.ensures c.in-Err.is c.refused.ensures

pub drain_in-requires : goal.drain_in-requires
drain_in-requires c = let a = c.args in
    let I = inside_of a.yard a.queue a.store.now a.log.now (past_stop c.args.yard c.args.queue c.args.store.now c.args.log.now c.stop-stop.ensures c.in_default.is) c.bench_at-bench.ensures refl in record { store_value = I.limits; queue_in_bounds = omega (arith, I.behind, I.inside) }

pub returns : goal.returns
returns c = let a = c.args in
    λ ls e.
    goes_on_lem a.yard a.queue a.store.now a.log.now ls e drain _ a.log.now c.stop-stop.ensures c.in_default.is
    c.bench_at-bench.ensures refl c.put_back.ensures (c.drain_in.ensures a.log.now)
