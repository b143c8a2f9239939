use Rattle.std.proofs.Common.{rules}
use Rattle.model.proofs.Below.{count_none}
use Rattle.handouts.proofs.Seen.{seen_none}
use Rattle.handouts.proofs.HandOuts.of.Goals as goal

pub invariant_of-outs : goal.invariant_of-outs
invariant_of-outs c = record { counted = count_none _; seen = seen_none _ _ _ (search rules) }
