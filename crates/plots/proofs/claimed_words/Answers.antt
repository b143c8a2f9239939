use Rattle.std.proofs.Common.{ap, ◌∙◌}
use native.Mathlib.Omega.{arith}
use Rattle.model.specs.declared.Plot.{Plot}
use Rattle.model.specs.Yard.{claimed_by}
use Rattle.plots.proofs.Every.{nothing_yet, and_next}
use Rattle.plots.proofs.Kept.{long, read_at, laid_at}
use Rattle.plots.proofs.claimed_words.Goals as goal

pub loop-plot-init : goal.loop-plot-init
loop-plot-init c = (nothing_yet _ _, omega arith)

pub words_taken-requires : goal.words_taken-requires
words_taken-requires c =
    let Y = c.args.yard.now in
    let m = c.made-plot-items in
    let n = long Y m.result.now _ m.ensures.value m.ensures.inside in
    laid_at Y c.requires c.loop-plot.plot-index (omega (arith, n)) (ap (λ (p : Plot). p.bench) (read_at Y m.result.now _ m.ensures.value m.ensures.inside c.loop-plot.plot-index _ c.loop-plot-test.true))

pub loop-plot-preserved : goal.loop-plot-preserved
loop-plot-preserved c =
    let Y = c.args.yard.now in
    let m = c.made-plot-items in
    let l = c.loop-plot in
    let read = read_at Y m.result.now _ m.ensures.value m.ensures.inside l.plot-index _ c.loop-plot-test.true in
    (and_next claimed_by Y.plots l.plot-index l.invariant.0 (c.from-sum.ensures ∙ c.words_taken.ensures ∙ ap (λ (p : Plot). claimed_by p.bench) read), omega arith)
