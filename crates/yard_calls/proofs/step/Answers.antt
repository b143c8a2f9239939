use Rattle.model.specs.Calls.{step}
use Rattle.yard_calls.proofs.Calling.{past_stop, inside_of, refuses, goes_on_lem}
use Rattle.yard_calls.proofs.step.Goals as goal

pub returns-in-Err : goal.returns-in-Err
returns-in-Err c = let a = c.args in
    λ ls e. refuses a.yard a.queue a.store.now a.log.now ls e (step a.worker) c.stop-stop.ensures c.in-Err.is c.refused.ensures

pub step-requires : goal.step-requires
step-requires c = let a = c.args in
    inside_of a.yard a.queue a.store.now a.log.now (past_stop c.args.yard c.args.queue c.args.store.now c.args.log.now c.stop-stop.ensures c.in_default.is) c.bench_at-bench.ensures c.room_of-room.ensures

pub returns : goal.returns
returns c = let a = c.args in
    λ ls e.
    goes_on_lem a.yard a.queue a.store.now a.log.now ls e (step a.worker) _ _ c.stop-stop.ensures c.in_default.is
    c.bench_at-bench.ensures c.room_of-room.ensures c.put_back.ensures c.step.ensures
