use Rattle.std.proofs.Common.{rules, ◌≡◌, Ok, Err}
use mathlib.Core.Path.{refl, ap, ◌∙◌}
use Rattle.model.specs.declared.Bench.{Bench}
use Rattle.model.specs.Calls.{lent, who_in}
use Rattle.limits.proofs.Bounds.{bounds_of}
use Rattle.yard_calls.proofs.Calling.{past_stop, inside_of, tallies}
use Rattle.yard_calls.proofs.tally.Goals as goal

pub returns-in_err-stop : goal.returns-in_err-stop
returns-in_err-stop c = let stops : c.stop.result ≡ Err c.in_err-stop.field-0.0 = search rules in
    let gives : c.from_residual.result ≡ Err c.in_err-stop.field-0.0 = search rules in
    let a = c.args in
    λ ls e. gives ∙ tallies a.yard a.queue a.store.now a.log.now ls e a.worker (Err _) c.stop.ensures stops

pub tally_in-requires : goal.tally_in-requires
tally_in-requires c = let goes : c.stop.result ≡ Ok tt = search rules in let a = c.args in
    (bounds_of (lent c.bench_at.result c.args.store.now c.args.log.now) (inside_of a.yard a.queue a.store.now a.log.now (past_stop c.args.yard c.args.queue c.args.store.now c.args.log.now c.stop.ensures goes) c.bench_at.ensures refl).limits).crew

pub returns : goal.returns
returns c = let goes : c.stop.result ≡ Ok tt = search rules in let a = c.args in
    λ ls e.
    c.tally_in.ensures a.store.now a.log.now
    ∙ ap (λ (b : Bench). who_in (lent b a.store.now a.log.now) a.worker) c.bench_at.ensures
    ∙ tallies a.yard a.queue a.store.now a.log.now ls e a.worker (Ok tt) c.stop.ensures goes
