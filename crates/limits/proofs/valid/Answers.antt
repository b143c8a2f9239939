use Rattle.std.proofs.lemmas.Bool.{not_from_true, not_from_false}
use mathlib.Core.List.{[]}
use mathlib.Core.Path.{sym, ◌∙◌}
use borrow.Author.Tests.{le-leb, lt-leb}
use Rattle.model.specs.Calls.{lent}
use Rattle.model.specs.Limits.{valid_of}
use Rattle.model.proofs.Tests.{holds, fails, passed, refused}
use Rattle.limits.proofs.Waits.{laid}
use Rattle.limits.proofs.valid.Goals as goal

pub returns-then-not-bench_ok : goal.returns-then-not-bench_ok
unfolding valid_of
returns-then-not-bench_ok c = sym (fails _ (refused (c.bench_ok.ensures _ []) (not_from_false _ c.if-not-bench_ok.true)))

pub returns-then-log-written : goal.returns-then-log-written
unfolding valid_of
returns-then-log-written c = sym (holds (passed (c.bench_ok.ensures _ []) (not_from_true _ c.if-not-bench_ok.false)) ∙ fails _ (lt-leb _ _ c.if-log-written.true))

pub alone_ok-requires : goal.alone_ok-requires
alone_ok-requires c = let a = c.args in
    laid (lent a.bench a.store.now a.log.now) (passed (c.bench_ok.ensures _ []) (not_from_true _ c.if-not-bench_ok.false))

pub returns : goal.returns
unfolding valid_of
returns c = c.alone_ok.ensures ∙ sym (holds (passed (c.bench_ok.ensures _ []) (not_from_true _ c.if-not-bench_ok.false)) ∙ holds (le-leb _ _ c.if-log-written.false))
