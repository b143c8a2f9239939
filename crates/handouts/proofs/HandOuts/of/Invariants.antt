use Rattle.std.proofs.Common.{◌≡◌}
use Rattle.handouts.proofs.HandOuts.of.Given as goal

abbrev pub invariant-loop : goal.invariant-loop
invariant-loop l = (l.outs.log ≡ l.log) × (l.outs.entries ≡ l.counter)
