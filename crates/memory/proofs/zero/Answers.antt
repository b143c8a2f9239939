use Rattle.memory.proofs.Zeros.{zeroed}
use Rattle.memory.proofs.zero.Goals as goal

pub returns : goal.returns
returns c = zeroed _ _ _ _ c.requires (c.fill.ensures.after (λ y e. e))
