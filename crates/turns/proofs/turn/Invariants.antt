use Rattle.std.proofs.Common.{get_or, ◌≡◌, ◌≤◌, ℕ, ◌<◌}
use Rattle.turns.proofs.turn.Given as goal

abbrev pub invariant-loop-k : goal.invariant-loop-k
invariant-loop-k l = (l.order ≡ l.fn.order) × ((i : ℕ) → l.k ≤ i → i < l.steps → 8 ≤ get_or l.others i 0)
