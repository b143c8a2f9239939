use Rattle.std.proofs.Common.{arith, ◌∙◌, ◌+◌, ◌-◌, ap, take, length-drop}
use Rattle.listing.proofs.Cuts.{carried, moved_front}
use Rattle.listing.proofs.carry.Goals as goal

pub returns-then-k-gt0 : goal.returns-then-k-gt0
returns-then-k-gt0 c = let a = c.args in let k = c.min-k.result in
    carried a.buf.now a.from a.n c.min-to.result k _ c.min-to.ensures (omega (arith, c.min-k.ensures, c.saturating_sub.ensures))
    (ap (take k) c.copy_within.ensures.after ∙ moved_front a.buf.now a.from k (a.from + k - a.from) (omega arith) (omega (arith, length-drop a.from a.buf.now, c.min-k.ensures, c.saturating_sub.ensures, c.min-to.ensures)))
