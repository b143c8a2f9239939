-- What a call leaves is what the face leaves.
use mathlib.Core.List.{List}
use mathlib.Core.Path.{◌≡◌, ap, ◌∙◌}
use Prim.Native.Nat.{ℕ}
use Rattle.model.specs.World.{Outcome}
use Rattle.state.specs.declared.Returned.{Returned}
use Rattle.state.specs.Outcomes.{returned}
use Rattle.queues.specs.declared.Reply.{Reply}
use Rattle.queues.specs.Left.{left}

pub reply_left : {r : Reply} {d : Returned} {m l : List ℕ} {o : Outcome}
    → r ≡ record { bench = record { state = d.bench }; answer = d.answer }
    → returned d m l ≡ o → left r m l ≡ o
reply_left {m = m} {l = l} e f = ap (λ (r : Reply). left r m l) e ∙ f
