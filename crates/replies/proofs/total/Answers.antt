use native.Mathlib.Omega.{arith}
use Rattle.text.proofs.Spell.{line_fits}
use Rattle.replies.proofs.Replies.{total_by}
use Rattle.replies.proofs.total.Goals as goal

pub print-end-requires : goal.print-end-requires
print-end-requires c = let p = c.requires in line_fits _ _ _ _ (omega (arith, p)) (omega arith)

pub returns : goal.returns
returns c = let a = c.args in total_by a.session _ a.store.now a.log.now c.counts-c.result _ _ _ _ c.span-n.ensures c.counts-c.ensures (rw (c.from.ensures, c.from-2.ensures, c.from-3.ensures, c.from-4.ensures, c.from-5.ensures) at c.print-end.ensures)
