use native.Mathlib.Omega.{arith}
use Rattle.replies.proofs.Shows.{answer_most}
use Rattle.replies.proofs.Replies.{shown_by, begun_by}
use Rattle.replies.proofs.begin.Goals as goal

pub show-end-requires : goal.show-end-requires
show-end-requires c = omega (arith, answer_most c.begin-begun.result.bench.words c.begin-begun.result.answer)

pub returns : goal.returns
returns c = let a = c.args in shown_by _ _ _ _ _ _ _ _ _ _ (begun_by a.session.bench _ _ a.worker a.operation a.session.long _ a.store.now a.log.now c.span-n.ensures c.begin-begun.ensures) c.show-end.ensures
