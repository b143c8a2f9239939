use Rattle.std.proofs.Common.{ap, sym}
use Rattle.std.proofs.lemmas.Bool.{not_from_true, not_from_false}
use native.Mathlib.Omega.{arith}
use Rattle.model.specs.declared.Plot.{Plot}
use Rattle.model.specs.Yard.{no_overlap, queue_at}
use Rattle.model.proofs.Tests.{passed, refused}
use Rattle.plots.proofs.Every.{none_yet, one_more_lem, one_fails, all_passed}
use Rattle.plots.proofs.Kept.{long, read_at, laid_at}
use Rattle.plots.proofs.clear_of_earlier.Goals as goal

pub loop-plot-init : goal.loop-plot-init
loop-plot-init c = none_yet _

pub no_overlap-requires-clause-claimed_bound_2 : goal.no_overlap-requires-clause-claimed_bound_2
no_overlap-requires-clause-claimed_bound_2 c =
    let Y = c.args.yard.now in
    let e = c.first-plot-items in
    let n = long Y e.result.now _ e.ensures.value e.ensures.inside in
    (laid_at Y c.requires.kept c.loop-plot.plot-index (omega (arith, n)) (ap (λ (p : Plot). p.bench) (read_at Y e.result.now _ e.ensures.value e.ensures.inside c.loop-plot.plot-index _ c.loop-plot-test.true))).listed

pub returns-then-not-no_overlap : goal.returns-then-not-no_overlap
returns-then-not-no_overlap c =
    let a = c.args in
    let Y = a.yard.now in
    let e = c.first-plot-items in
    let n = long Y e.result.now _ e.ensures.value e.ensures.inside in
    let read = read_at Y e.result.now _ e.ensures.value e.ensures.inside c.loop-plot.plot-index _ c.loop-plot-test.true in
    sym
    (one_fails (λ r. no_overlap a.queue.now (queue_at Y r)) a.place c.loop-plot.plot-index (omega (arith, n))
    (ap (λ (p : Plot). no_overlap a.queue.now p.bench.queue) read) (refused c.no_overlap.ensures (not_from_false _ c.if-not-no_overlap.true)))

pub loop-plot-preserved : goal.loop-plot-preserved
loop-plot-preserved c =
    let a = c.args in
    let Y = a.yard.now in
    let e = c.first-plot-items in
    let read = read_at Y e.result.now _ e.ensures.value e.ensures.inside c.loop-plot.plot-index _ c.loop-plot-test.true in
    one_more_lem (λ r. no_overlap a.queue.now (queue_at Y r)) c.loop-plot.plot-index c.loop-plot.invariant
    (ap (λ (p : Plot). no_overlap a.queue.now p.bench.queue) read) (passed c.no_overlap.ensures (not_from_true _ c.if-not-no_overlap.false))

pub returns : goal.returns
returns c =
    let a = c.args in
    let Y = a.yard.now in
    let e = c.first-plot-items in
    let n = long Y e.result.now _ e.ensures.value e.ensures.inside in
    all_passed (λ r. no_overlap a.queue.now (queue_at Y r)) a.place c.loop-plot.plot-index c.loop-plot.invariant (omega (arith, n)) (omega (arith, n))
