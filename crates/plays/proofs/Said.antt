-- A number that names no other operation says a step.
use mathlib.Core.Path.{◌≡◌, ◌∙◌}
use Prim.Native.Nat.{ℕ}
use borrow.Author.Tests.{ne_eqb}
use Rattle.model.specs.declared.Payload.{Payload}
use Rattle.model.specs.Calls.{step}
use Rattle.model.proofs.Tests.{if_false}
use Rattle.plays.specs.Words.{call_by}

pub says_step : (o i : ℕ) (p : Payload) → (o ≡ 1 → ⊥) → (o ≡ 2 → ⊥) → (o ≡ 3 → ⊥) → (o ≡ 4 → ⊥) → (o ≡ 5 → ⊥) → (o ≡ 6 → ⊥) → (o ≡ 7 → ⊥) → (o ≡ 8 → ⊥)
    → call_by o i p ≡ step i
says_step o i p n m k j h f g d =
    if_false _ (ne_eqb o 1 n) ∙ if_false _ (ne_eqb o 2 m) ∙ if_false _ (ne_eqb o 3 k) ∙ if_false _ (ne_eqb o 4 j) ∙ if_false _ (ne_eqb o 5 h)
    ∙ if_false _ (ne_eqb o 6 f) ∙ if_false _ (ne_eqb o 7 g) ∙ if_false _ (ne_eqb o 8 d)
