use native.Mathlib.Omega.{arith}
use Rattle.owner.proofs.Joining.{copies_long}
use Rattle.owner.proofs.join_all.Goals as goal

pub join_task-requires-clause-words_bound_2 : goal.join_task-requires-clause-words_bound_2
join_task-requires-clause-words_bound_2 c = omega (arith, c.requires.action_bound, copies_long c.args.words c.in-Copies.is)
