use mathlib.Core.Bool.{not}
use mathlib.Core.Path.{sym, ap, ◌∙◌}
use Prim.Native.Nat.{ℕ, ◌*◌}
use lib.Dec.{eqb, leb}
use Rattle.model.specs.World.{line_at}
use Rattle.limits.proofs.Asides.{twice_that, none_aside, while_growing, another_length, that_length}
use Rattle.limits.proofs.aside_ok.Goals as goal

pub returns-then-aside-eq0 : goal.returns-then-aside-eq0
returns-then-aside-eq0 c = λ p z e f.
    let a = c.args in
    ap (λ (x : ℕ). not (eqb x 1)) c.stage-at.ensures ∙ sym (none_aside a.bench.words p (line_at a.bench.workers 0) a.bench.aside c.if-aside-eq0.true)

pub returns-then-at-eq2 : goal.returns-then-at-eq2
returns-then-at-eq2 c = λ p z e f.
    let a = c.args in
    sym (while_growing a.bench.words p (line_at a.bench.workers 0) a.bench.aside c.if-aside-eq0.false (sym c.stage-at.ensures ∙ c.if-at-eq2.true))

pub returns-then-aside-more : goal.returns-then-aside-more
returns-then-aside-more c = λ p z e f.
    let a = c.args in
    let twice = twice_that a.bench.queue p e f c.region_at-last.ensures in
    sym
    (another_length a.bench.words p (line_at a.bench.workers 0) a.bench.aside c.if-aside-eq0.false
    (λ s. c.if-aside-more.true (s ∙ sym twice)))

pub returns : goal.returns
returns c = λ p z e f.
    let a = c.args in
    let twice = twice_that a.bench.queue p e f c.region_at-last.ensures in
    ap (λ (n : ℕ). leb (2 * n) 1024) z
    ∙ sym
    (that_length a.bench.words p (line_at a.bench.workers 0) a.bench.aside c.if-aside-eq0.false (c.if-aside-more.false ∙ twice)
    (λ g. c.if-at-eq2.false (c.stage-at.ensures ∙ g)))
