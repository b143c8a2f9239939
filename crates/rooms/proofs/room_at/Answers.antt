use mathlib.Core.Path.{◌≡◌, refl, ap, ◌∙◌}
use Prim.Native.Nat.{ℕ}
use Rattle.model.specs.declared.Growth.{Growth}
use Rattle.model.specs.declared.Line.{Line}
use Rattle.model.specs.declared.Line.TheVariants.{Idle, PutRead, PutTail, PutTest, PutWord, PutFinish, Claim, Note, Copy, Publish, TakeRead, TakeTail, TakeTest, TakeWord, TakeFinish, StealRead, StealTail, StealTest, StealNote, StealWord, StealNext, StealCompare}
use Rattle.model.specs.declared.Room.{Room}
use Rattle.rooms.specs.Handed.{at_claim}
use Rattle.rooms.proofs.room_at.Goals as goal

elsewhere : (y : Line) (ρ σ : Room) → ((g : Growth) → y ≡ Claim g → ⊥) → σ ≡ at_claim y ρ σ
unfolding at_claim
elsewhere Idle ρ σ isnt = refl
elsewhere (PutRead t) ρ σ isnt = refl
elsewhere (PutTail t h) ρ σ isnt = refl
elsewhere (PutTest t r) ρ σ isnt = refl
elsewhere (PutWord t r j) ρ σ isnt = refl
elsewhere (PutFinish t r) ρ σ isnt = refl
elsewhere (Claim g) ρ σ isnt = absurd (isnt g refl)
elsewhere (Note g) ρ σ isnt = refl
elsewhere (Copy g h n k) ρ σ isnt = refl
elsewhere (Publish g) ρ σ isnt = refl
elsewhere TakeRead ρ σ isnt = refl
elsewhere (TakeTail h) ρ σ isnt = refl
elsewhere (TakeTest r) ρ σ isnt = refl
elsewhere (TakeWord r t j) ρ σ isnt = refl
elsewhere (TakeFinish r t) ρ σ isnt = refl
elsewhere StealRead ρ σ isnt = refl
elsewhere (StealTail h) ρ σ isnt = refl
elsewhere (StealTest r) ρ σ isnt = refl
elsewhere (StealNote r) ρ σ isnt = refl
elsewhere (StealWord r k t j) ρ σ isnt = refl
elsewhere (StealNext r t) ρ σ isnt = refl
elsewhere (StealCompare r e t) ρ σ isnt = refl

pub returns-in-Claim : goal.returns-in-Claim
unfolding at_claim
returns-in-Claim c = simp (c.in-Claim.is, c.room_alone.ensures)

pub returns : goal.returns
returns c = ap (λ (n : ℕ). record { next = n; left = 0 }) c.usable-next.ensures
    ∙ elsewhere c.args.line _ _ (λ g e. c.in_default.not-Claim g e)
