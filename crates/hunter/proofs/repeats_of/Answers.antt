use mathlib.Core.Path.{ap, ◌∙◌}
use Prim.Native.Nat.{◌+◌, ◌/◌}
use Rattle.model.specs.Counts.{count_below, out_first}
use Rattle.handouts.specs.declared.Log.{Log}
use Rattle.hunter.proofs.Sums.{repeats_from}
use Rattle.hunter.proofs.repeats_of.Goals as goal

pub returns-clause-value : goal.returns-clause-value
returns-clause-value c W e f g =
    let o = c.of-different.result in let i = c.of-different.ensures.of in
    repeats_from W _ _ _ (c.from.result / (3 + c.from-each.result)) _ _ _ e f g (rw (c.from.ensures, c.from-each.ensures)) c.entries_of-outs.ensures
    (o.counted ∙ ap (λ (g : Log). count_below (out_first g.words g.memory.now) o.entries) i.0 ∙ ap (count_below (out_first c.args.words c.args.log.now)) i.1)
    c.saturating_sub.ensures
