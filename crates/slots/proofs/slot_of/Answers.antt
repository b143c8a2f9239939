use mathlib.Core.Path.{sym, ap, ◌∙◌}
use Rattle.model.specs.declared.Kind.{Kind}
use Rattle.model.specs.Figures.{slot}
use Rattle.model.proofs.Masks.{masked}
use Rattle.slots.proofs.slot_of.Goals as goal

pub returns-in-Fifo : goal.returns-in-Fifo
returns-in-Fifo c = let a = c.args in let (e, q) = c.requires in masked e a.index q ∙ sym (ap (λ (κ : Kind). slot κ a.size a.index) c.in-Fifo.is)

pub returns-in-Deque : goal.returns-in-Deque
returns-in-Deque c = let a = c.args in let (e, q) = c.requires in masked e a.index q ∙ sym (ap (λ (κ : Kind). slot κ a.size a.index) c.in-Deque.is)
