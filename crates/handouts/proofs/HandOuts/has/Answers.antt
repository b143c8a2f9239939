use mathlib.Core.Path.{sym}
use Rattle.model.specs.Counts.{out_as, out_whole}
use Rattle.model.proofs.Below.{none_stricter}
use Rattle.handouts.proofs.Bools.{and_more}
use Rattle.handouts.proofs.HandOuts.has.Goals as goal

pub returns-in-None : goal.returns-in-None
returns-in-None c =
    let s = c.args.self.now in
    sym (none_stricter (out_as s.log.words s.log.memory.now c.args.task.number) (out_whole s.log.words s.log.memory.now c.args.task) s.entries (λ k e. and_more _ _ _ e) c.in-None.ensures)
