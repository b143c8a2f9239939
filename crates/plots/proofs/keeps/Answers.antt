use mathlib.Core.Bool.{not}
use mathlib.Core.List.{[]}
use mathlib.Core.Path.{sym, ap, ◌∙◌}
use Prim.Native.Nat.{ℕ, ◌+◌}
use lib.Dec.{leb}
use Rattle.model.specs.Calls.{lent}
use Rattle.model.proofs.Tests.{passed, refused, holds, fails}
use Rattle.limits.proofs.Waits.{laid}
use Rattle.plots.proofs.keeps.Goals as goal

pub returns-then-not-bench_ok : goal.returns-then-not-bench_ok
returns-then-not-bench_ok c = sym (fails _ (refused (c.bench_ok.ensures [] []) (ap not c.if-not-bench_ok.true)))

pub words_taken-words-requires : goal.words_taken-words-requires
words_taken-words-requires c = laid (lent c.args.plot.bench [] []) (passed (c.bench_ok.ensures [] []) (ap not c.if-not-bench_ok.false))

pub returns : goal.returns
returns c =
    let p = c.args.plot in
    rw (c.from.ensures, c.from-2.ensures, c.from-3.ensures)
    (ap (λ (x : ℕ). leb (x + p.bench.aside) p.quota) c.words_taken-words.ensures ∙ sym (holds (passed (c.bench_ok.ensures [] []) (ap not c.if-not-bench_ok.false))))
