use mathlib.Core.Path.{ap, ◌∙◌}
use Prim.Native.Nat.{ℕ, ◌+◌}
use native.Mathlib.Omega.{arith}
use lib.ListN.{get_or}
use Rattle.handouts.proofs.Starts.{task_is}
use Rattle.handouts.proofs.task_from.Goals as goal

pub returns : goal.returns
returns c = let a = c.args in
    task_is a.words (λ k. get_or a.memory.now (a.at + k) 0) _ _ _ _ _ (c.word_at.ensures ∙ ap (λ (n : ℕ). get_or a.memory.now n 0) (omega arith)) c.payload_at.ensures c.payload_at-2.ensures c.payload_at-3.ensures c.payload_at-4.ensures
