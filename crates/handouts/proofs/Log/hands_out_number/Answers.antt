use mathlib.Core.Path.{ap, ◌∙◌}
use Prim.Native.Nat.{ℕ}
use lib.Dec.{eqb}
use Rattle.handouts.proofs.Bools.{true_and, false_and}
use Rattle.handouts.proofs.Log.hands_out_number.Goals as goal

pub returns-then-is_kind : goal.returns-then-is_kind
returns-then-is_kind c = ap (λ (x : ℕ). eqb x c.args.number) c.number_at.ensures ∙ true_and c.is_kind.ensures c.if-is_kind.true

pub returns-else-is_kind : goal.returns-else-is_kind
returns-else-is_kind c = c.if-is_kind.false ∙ false_and _ c.is_kind.ensures c.if-is_kind.false
