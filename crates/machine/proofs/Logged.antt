-- What an action that ends an operation comes to, by whether its entry was logged.
use mathlib.Core.Bool.{Bool, true, false, not}
use mathlib.Core.List.{List}
use mathlib.Core.Path.{◌≡◌, refl, sym, ap, ◌∙◌}
use Prim.Native.Nat.{ℕ}
use Rattle.model.specs.declared.Store.{Store}
use Rattle.model.specs.declared.Queue.{Queue}
use Rattle.model.specs.declared.Refusal.TheVariants.{LogFull}
use Rattle.model.specs.declared.Answer.{Answer}
use Rattle.model.specs.Calls.{log_full}
use Rattle.model.proofs.Tests.{if_true, if_false}
use Rattle.lines.specs.declared.Action.{Action}
use Rattle.lines.specs.declared.Action.TheVariants.{Stops, Ends}
use Rattle.machine.specs.declared.Made.{Made}
use Rattle.machine.specs.declared.Made.TheVariants as made
use Rattle.machine.specs.Steps.{concluded_by, acted_by}

has_room : {full r : Bool} → r ≡ not full → r ≡ true → full ≡ false
has_room {full = true} e f = sym f ∙ e
has_room {full = false} e f = refl

is_full_lem : {full r : Bool} → r ≡ not full → r ≡ false → full ≡ true
is_full_lem {full = true} e f = refl
is_full_lem {full = false} e f = sym f ∙ e

module _ (v k : ℕ) (l : List ℕ) (q : Queue) {d : Action} {y : Answer} {r : Bool} (answers : r ≡ not (log_full v l k)) where
  pub stops : d ≡ Stops y → r ≡ true → made.Stops y ≡ acted_by v k l q d
  unfolding acted_by
  stops e f = sym (ap (acted_by v k l q) e ∙ if_false _ (has_room answers f))

  pub stops_full : d ≡ Stops y → r ≡ false → made.Refused LogFull ≡ acted_by v k l q d
  unfolding acted_by
  stops_full e f = sym (ap (acted_by v k l q) e ∙ if_true _ (is_full_lem answers f))

  module _ {s : Store} where
    pub ends : {x : Made} → d ≡ Ends s y → x ≡ concluded_by q.anchor s y → r ≡ true → x ≡ acted_by v k l q d
    unfolding acted_by
    ends e g f = g ∙ sym (ap (acted_by v k l q) e ∙ if_false _ (has_room answers f))

    pub ends_full : d ≡ Ends s y → r ≡ false → made.Refused LogFull ≡ acted_by v k l q d
    unfolding acted_by
    ends_full e f = sym (ap (acted_by v k l q) e ∙ if_true _ (is_full_lem answers f))
