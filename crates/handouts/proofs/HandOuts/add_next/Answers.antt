use native.Mathlib.Omega.{arith}
use mathlib.Core.Path.{sym, ap, ◌∙◌}
use Prim.Native.Nat.{ℕ, ◌+◌}
use mathlib.Core.Bool.{not}
use Rattle.model.specs.Counts.{out_first, out_as, some_below}
use Rattle.model.proofs.Below.{count_le}
use Rattle.handouts.proofs.Bools.{true_and, false_and, count_miss, byte_le, first_counted}
use Rattle.handouts.proofs.Seen.{seen_mark, seen_other}
use Rattle.handouts.proofs.HandOuts.add_next.Goals as goal
use Rattle.handouts.proofs.HandOuts.add_next.Goals.{then-is_kind, else-is_kind}

pub overflow_add-self-then-is_kind : goal.overflow_add-self-then-is_kind
overflow_add-self-then-is_kind c =
    let s = c.args.self.now in
    omega (arith, c.from.ensures, byte_le (not c.has_number-first.result), s.counted, count_le (out_first s.log.words s.log.memory.now) s.entries, c.requires)

pub invariant_of-self-2 : goal.invariant_of-self-2
invariant_of-self-2 c =
    let s = c.args.self.now in let v = s.log.words in let l = s.log.memory.now in
    elim c.if-is_kind.branch [
      | then-is_kind w ↦ rw w.self-is (record { counted = ap (λ (k : ℕ). s.different + k) w.from.ensures ∙ first_counted (out_first v l) _ s.entries (not w.has_number-first.result) s.counted (sym (ap not (w.has_number-first.ensures ∙ ap (λ (x : ℕ). some_below (out_as v l x) s.entries) w.number_at-number.ensures) ∙ true_and c.is_kind.ensures w.if-is_kind.true)); seen = seen_mark v l _ s.entries _ w.number_at-number.ensures s.seen })
      | else-is_kind w ↦ rw w.self-is (record { counted = count_miss _ s.entries s.counted (sym (false_and _ c.is_kind.ensures w.if-is_kind.false)); seen = seen_other v l _ s.entries c.is_kind.ensures w.if-is_kind.false s.seen })
    ]
