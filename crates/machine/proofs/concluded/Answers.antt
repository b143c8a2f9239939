use mathlib.Core.Path.{◌≡◌, refl, ap, ◌∙◌}
use Prim.Native.Nat.{ℕ}
use Rattle.model.specs.declared.Anchor.{Anchor}
use Rattle.model.specs.declared.Answer.{Answer}
use Rattle.model.specs.declared.Store.{Store}
use Rattle.model.specs.declared.Store.TheVariants.{StoreWord, StoreNote, StorePut, StoreOut, StoreHead, StoreTail}
use Rattle.anchors.specs.After.{after_store}
use Rattle.machine.specs.declared.Made.TheVariants as made
use Rattle.machine.specs.Steps.{concluded_by}
use Rattle.machine.proofs.concluded.Goals as goal

no_note : (a : Anchor) (s : Store) (y : Answer) → ((k : ℕ) → s ≡ StoreNote k → ⊥) → made.Ends (after_store a s) y ≡ concluded_by a s y
unfolding concluded_by
no_note a (StoreWord k t j x) y o = refl
no_note a (StoreNote k) y o = absurd (o k refl)
no_note a (StorePut b) y o = refl
no_note a (StoreOut b) y o = refl
no_note a (StoreHead h) y o = refl
no_note a (StoreTail t) y o = refl

pub returns-in-StoreNote : goal.returns-in-StoreNote
unfolding concluded_by
returns-in-StoreNote c = simp c.in-StoreNote.is

pub returns : goal.returns
returns c = let a = c.args in
    ap (λ (x : Anchor). made.Ends x a.answer) c.after_store-left.ensures ∙ no_note a.anchor a.landing a.answer c.in_default.not-StoreNote
