use mathlib.Core.Path.{sym, ◌∙◌}
use native.Mathlib.Omega.{arith}
use borrow.Author.Tests.{lt-ltb, le-ltb, le-leb, lt-leb}
use Rattle.model.proofs.Tests.{holds, fails}
use Rattle.limits.proofs.Directory.{reaches}
use Rattle.limits.proofs.directory_ok.Goals as goal

pub returns-then-published-eq0 : goal.returns-then-published-eq0
returns-then-published-eq0 c = let q = c.args.queue in sym (fails _ (le-ltb 0 q.published (omega arith)))

pub returns-then-seen-published : goal.returns-then-seen-published
returns-then-seen-published c = let q = c.args.queue in sym (holds (lt-ltb 0 q.published (omega arith)) ∙ fails _ (lt-leb _ _ c.if-seen-published.true))

pub returns-then-claimed-gt11 : goal.returns-then-claimed-gt11
returns-then-claimed-gt11 c = let q = c.args.queue in
    sym
    (holds (lt-ltb 0 q.published (omega arith)) ∙ holds (le-leb _ _ c.if-seen-published.false) ∙ fails _ (lt-leb _ _ c.if-claimed-gt11.true))

pub returns-then-not-claims_ok : goal.returns-then-not-claims_ok
returns-then-not-claims_ok c = let q = c.args.queue in
    sym
    (holds (lt-ltb 0 q.published (omega arith))
    ∙ holds (le-leb _ _ c.if-seen-published.false)
    ∙ holds (le-leb _ _ c.if-claimed-gt11.false)
    ∙ fails _ (sym c.claims_ok.ensures ∙ c.if-not-claims_ok.true))

pub tidy-requires : goal.tidy-requires
tidy-requires c = let p = reaches _ _ _ (sym c.claims_ok.ensures ∙ c.if-not-claims_ok.false) in record { words_bound = c.requires; claimed_nonzero = (omega (arith, p, c.if-seen-published.false), c.if-claimed-gt11.false) }

pub returns : goal.returns
returns c = let q = c.args.queue in
    c.tidy.ensures
    ∙ sym
    (holds (lt-ltb 0 q.published (omega arith))
    ∙ holds (le-leb _ _ c.if-seen-published.false)
    ∙ holds (le-leb _ _ c.if-claimed-gt11.false)
    ∙ holds (sym c.claims_ok.ensures ∙ c.if-not-claims_ok.false))
