use native.Mathlib.Omega.{arith}
use Rattle.model.specs.declared.Answer.TheVariants.{Refused}
use Rattle.model.specs.declared.Refusal.TheVariants.{BadLine}
use Rattle.replies.proofs.Shows.{answer_most}
use Rattle.replies.proofs.refuse.Goals as goal

pub show-end-requires : goal.show-end-requires
show-end-requires c = omega (arith, answer_most c.args.session.bench.words (Refused BadLine))
