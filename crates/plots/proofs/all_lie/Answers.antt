use Rattle.std.proofs.Common.{ap, sym}
use Rattle.std.proofs.lemmas.Bool.{not_from_true, not_from_false}
use native.Mathlib.Omega.{arith}
use Rattle.model.specs.declared.Plot.{Plot}
use Rattle.model.proofs.Tests.{passed, refused}
use Rattle.plots.specs.Places.{lies_for, lies_at}
use Rattle.plots.proofs.Every.{none_yet, one_more_lem, one_fails, all_passed}
use Rattle.plots.proofs.Kept.{long, read_at, laid_at}
use Rattle.plots.proofs.all_lie.Goals as goal

pub loop-place-init : goal.loop-place-init
loop-place-init c = none_yet _

pub lies-requires-clause-claimed_nonzero : goal.lies-requires-clause-claimed_nonzero
lies-requires-clause-claimed_nonzero c =
    let Y = c.args.yard.now in
    let m = c.made-plot-items in
    let n = long Y m.result.now _ m.ensures.value m.ensures.inside in
    let L = laid_at Y c.requires.kept c.loop-place.place (omega (arith, n)) (ap (λ (p : Plot). p.bench) (read_at Y m.result.now _ m.ensures.value m.ensures.inside c.loop-place.place _ c.loop-place-test.true)) in
    (L.some, L.listed)

pub returns-then-not-lies : goal.returns-then-not-lies
returns-then-not-lies c =
    let Y = c.args.yard.now in
    let m = c.made-plot-items in
    let q = c.loop-place.place in
    let n = long Y m.result.now _ m.ensures.value m.ensures.inside in
    let read = read_at Y m.result.now _ m.ensures.value m.ensures.inside q _ c.loop-place-test.true in
    sym (one_fails (lies_at Y) Y.made q (omega (arith, n)) (ap (λ (p : Plot). lies_for p.bench.queue Y q) read) (refused c.lies.ensures (not_from_false _ c.if-not-lies.true)))

pub loop-place-preserved : goal.loop-place-preserved
loop-place-preserved c =
    let Y = c.args.yard.now in
    let m = c.made-plot-items in
    let l = c.loop-place in
    let read = read_at Y m.result.now _ m.ensures.value m.ensures.inside l.place _ c.loop-place-test.true in
    one_more_lem (lies_at Y) l.place l.invariant (ap (λ (p : Plot). lies_for p.bench.queue Y l.place) read) (passed c.lies.ensures (not_from_true _ c.if-not-lies.false))

pub returns : goal.returns
returns c =
    let Y = c.args.yard.now in
    let m = c.made-plot-items in
    let n = long Y m.result.now _ m.ensures.value m.ensures.inside in
    all_passed (lies_at Y) Y.made c.loop-place.place c.loop-place.invariant (omega (arith, n)) (omega (arith, n))
