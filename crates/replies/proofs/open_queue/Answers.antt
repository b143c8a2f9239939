use mathlib.Core.Path.{sym, ◌∙◌}
use Rattle.replies.proofs.Replies.{opened_by, refused_by}
use native.Mathlib.Omega.{arith}
use Rattle.replies.proofs.Shows.{answer_most}
use Rattle.replies.proofs.open_queue.Goals as goal

pub show-end-requires : goal.show-end-requires
show-end-requires c = omega (arith, answer_most c.fresh-made.result.bench.words c.fresh-made.result.answer)

pub returns-then-is_refused : goal.returns-then-is_refused
returns-then-is_refused c = let a = c.args in λ l.
    refused_by a.setup a.long _ a.store.now l _ c.fresh-made.result.bench c.fresh-made.result.answer _ _ _ _ c.span-n.ensures c.fresh-made.auto.store (c.fresh-made.ensures l) c.show-end.ensures
    a.session c.requires.1 (sym c.is_refused.ensures ∙ c.if-is_refused.true)

pub returns : goal.returns
returns c = let a = c.args in λ l.
    opened_by a.setup a.long _ a.store.now l _ c.fresh-made.result.bench c.fresh-made.result.answer _ _ _ _ c.span-n.ensures c.fresh-made.auto.store (c.fresh-made.ensures l) c.show-end.ensures
    (sym c.is_refused.ensures ∙ c.if-is_refused.false)
