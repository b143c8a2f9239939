-- No line but X1 looks at the room, so a step in the room that it is handed is the step in the queue's room.
use mathlib.Core.Bool.{Bool, true, false}
use mathlib.Core.List.{List, []}
use mathlib.Core.Logic.{◌⊎◌, inl, inr}
use mathlib.Core.Path.{◌≡◌, refl, sym, ap, subst, ◌∙◌}
use Prim.Native.Nat.{ℕ, ◌≤◌, ◌<◌}
use native.Mathlib.Omega.{arith}
use lib.Dec.{ltb}
use borrow.Author.Tests.{ltb-true, leb-true}
use Rattle.model.specs.declared.Kind.{Kind}
use Rattle.model.specs.declared.Growth.TheVariants.{ForPut, ForCommit}
use Rattle.model.specs.declared.Line.{Line}
use Rattle.model.specs.declared.Line.TheVariants.{Idle, PutRead, PutTail, PutTest, PutWord, PutFinish, Claim, Note, Copy, Publish, TakeRead, TakeTail, TakeTest, TakeWord, TakeFinish, StealRead, StealTail, StealTest, StealNote, StealWord, StealNext, StealCompare}
use Rattle.model.specs.declared.Queue.{Queue}
use Rattle.model.specs.declared.Room.{Room}
use Rattle.model.specs.Tests.{when◌then◌else◌, unless◌then◌else◌}
use Rattle.model.specs.Memory.{usable}
use Rattle.model.specs.Stores.{taken}
use Rattle.model.specs.Lines.{Effect, line_step}
use Rattle.model.specs.World.{World, Outcome, refuse, view_of, tag_bits, room_alone, line_at, is_idle}
use Rattle.model.specs.Calls.{commit, step_in}
use Rattle.model.specs.Limits.{kind_ok, width_ok, words_ok, crew_ok, Within, valid_of}
use Rattle.model.specs.declared.Refusal.TheVariants.{NoSuchWorker, IdleWorker}
use Rattle.model.proofs.Tests.{if_false, and_left, and_right}
use Rattle.model.proofs.Alone.{at_most_usable, within_alone}
use Rattle.rooms.specs.Handed.{at_claim, no_room}

-- what a line does, in either room
same_effect : (ρ σ : Room) (κ : Kind) (w v : ℕ) (q : Queue) (m : List ℕ) (i : ℕ) (y : Line)
    → line_step (at_claim y ρ σ) κ w v q m i y ≡ line_step ρ κ w v q m i y
unfolding line_step at_claim
same_effect ρ σ κ w v q m i Idle = refl
same_effect ρ σ κ w v q m i (PutRead t) = refl
same_effect ρ σ κ w v q m i (PutTail t h) = refl
same_effect ρ σ κ w v q m i (PutTest t r) = refl
same_effect ρ σ κ w v q m i (PutWord t r j) = refl
same_effect ρ σ κ w v q m i (PutFinish t r) = refl
same_effect ρ σ κ w v q m i (Claim g) = refl
same_effect ρ σ κ w v q m i (Note g) = refl
same_effect ρ σ κ w v q m i (Copy g h n k) = refl
same_effect ρ σ κ w v q m i (Publish g) = refl
same_effect ρ σ κ w v q m i TakeRead = refl
same_effect ρ σ κ w v q m i (TakeTail h) = refl
same_effect ρ σ κ w v q m i (TakeTest r) = refl
same_effect ρ σ κ w v q m i (TakeWord r t j) = refl
same_effect ρ σ κ w v q m i (TakeFinish r t) = refl
same_effect ρ σ κ w v q m i StealRead = refl
same_effect ρ σ κ w v q m i (StealTail h) = refl
same_effect ρ σ κ w v q m i (StealTest r) = refl
same_effect ρ σ κ w v q m i (StealNote r) = refl
same_effect ρ σ κ w v q m i (StealWord r k t j) = refl
same_effect ρ σ κ w v q m i (StealNext r t) = refl
same_effect ρ σ κ w v q m i (StealCompare r e t) = refl

neither : (x : Bool) (E F : Effect) → E.claims ≡ false → F.claims ≡ false → (when x then E else F).claims ≡ false
unfolding when◌then◌else◌
neither true E F e f = e
neither false E F e f = f

-- the line is X1, or it claims nothing
at_claim_or_none : (ρ σ : Room) (κ : Kind) (w v : ℕ) (q : Queue) (m : List ℕ) (i : ℕ) (y : Line)
    → (at_claim y ρ σ ≡ ρ) ⊎ ((at_claim y ρ σ ≡ σ) × ((line_step ρ κ w v q m i y).claims ≡ false))
unfolding line_step at_claim
at_claim_or_none ρ σ κ w v q m i Idle = inr (refl, refl)
at_claim_or_none ρ σ κ w v q m i (PutRead t) = inr (refl, refl)
at_claim_or_none ρ σ κ w v q m i (PutTail t h) = inr (refl, refl)
at_claim_or_none ρ σ κ w v q m i (PutTest t r) = inr (refl, refl)
at_claim_or_none ρ σ κ w v q m i (PutWord t r j) = inr (refl, refl)
at_claim_or_none ρ σ κ w v q m i (PutFinish t r) = inr (refl, refl)
at_claim_or_none ρ σ κ w v q m i (Claim g) = inl refl
at_claim_or_none ρ σ κ w v q m i (Note g) = inr (refl, refl)
at_claim_or_none ρ σ κ w v q m i (Copy g h n k) = inr (refl, refl)
at_claim_or_none ρ σ κ w v q m i (Publish (ForPut t)) = inr (refl, refl)
at_claim_or_none ρ σ κ w v q m i (Publish ForCommit) = inr (refl, refl)
at_claim_or_none ρ σ κ w v q m i TakeRead = inr (refl, refl)
at_claim_or_none ρ σ κ w v q m i (TakeTail h) = inr (refl, refl)
at_claim_or_none ρ σ κ w v q m i (TakeTest r) = inr (refl, neither _ _ _ refl refl)
at_claim_or_none ρ σ κ w v q m i (TakeWord r t j) = inr (refl, refl)
at_claim_or_none ρ σ κ w v q m i (TakeFinish r t) = inr (refl, refl)
at_claim_or_none ρ σ κ w v q m i StealRead = inr (refl, refl)
at_claim_or_none ρ σ κ w v q m i (StealTail h) = inr (refl, refl)
at_claim_or_none ρ σ κ w v q m i (StealTest r) = inr (refl, neither _ _ _ refl refl)
at_claim_or_none ρ σ κ w v q m i (StealNote r) = inr (refl, refl)
at_claim_or_none ρ σ κ w v q m i (StealWord r k t j) = inr (refl, refl)
at_claim_or_none ρ σ κ w v q m i (StealNext r t) = inr (refl, refl)
at_claim_or_none ρ σ κ w v q m i (StealCompare r e t) = inr (refl, neither _ _ _ refl refl)

same_commit : (ρ τ : Room) (W : World) (i : ℕ) (E : Effect) → E.claims ≡ false → commit τ W i E ≡ commit ρ W i E
same_commit ρ τ W i E e = rw e

-- X1's room of a lone queue, or none
abbrev pub handed : World → Line → Room
handed W y = at_claim y (room_alone W) (no_room W.store)

-- so that the step of worker i, whose record is at place k, is the same
module _ (W : World) (valid : valid_of W ≡ true) (fits : taken W.bench.queue ≤ usable W.store) where
  abbrev effect : Room → ℕ → Line → Effect
  effect τ i y = line_step τ W.bench.kind (tag_bits W.bench) W.bench.words (view_of W i).queue (view_of W i).store i y

  crew : W.bench.crew ≤ 8
  crew =
      let b = W.bench in
      leb-true _ _
      (and_right (ltb 0 b.crew) _
      (and_left (crew_ok b.crew) _
      (and_right (words_ok b.words) _ (and_right (width_ok b.width) _ (and_right (kind_ok b.kind b.queue.linked) _ (within_alone W valid).limits)))))

  done : (i : ℕ) (y : Line) → commit (handed W y) W i (effect (handed W y) i y) ≡ commit (room_alone W) W i (effect (room_alone W) i y)
  done i y =
      ap (commit (handed W y) W i) (same_effect (room_alone W) (no_room W.store) W.bench.kind (tag_bits W.bench) W.bench.words (view_of W i).queue (view_of W i).store i y)
      ∙ by (at_claim_or_none (room_alone W) (no_room W.store) W.bench.kind (tag_bits W.bench) W.bench.words (view_of W i).queue (view_of W i).store i y)
    where
      by : (handed W y ≡ room_alone W) ⊎ ((handed W y ≡ no_room W.store) × ((effect (room_alone W) i y).claims ≡ false))
          → commit (handed W y) W i (effect (room_alone W) i y) ≡ commit (room_alone W) W i (effect (room_alone W) i y)
      by (inl e) = ap (λ (τ : Room). commit τ W i (effect (room_alone W) i y)) e
      by (inr (e, f)) = same_commit (room_alone W) (handed W y) W i (effect (room_alone W) i y) f

  pub same_step : (i k : ℕ) → (i < 8 → k ≡ i) → step_in (handed W (line_at W.bench.workers k)) W i ≡ step_in (room_alone W) W i
  same_step i k at = by (ltb i W.bench.crew) refl
    where
      by : (x : Bool) → ltb i W.bench.crew ≡ x → step_in (handed W (line_at W.bench.workers k)) W i ≡ step_in (room_alone W) W i
      by true e =
          let h = ltb-true i W.bench.crew e in
          ap (λ (j : ℕ). step_in (handed W (line_at W.bench.workers j)) W i) (at (omega (arith, h, crew)))
          ∙ ap (λ (O : Outcome). unless ltb i W.bench.crew then refuse W NoSuchWorker else when is_idle (line_at W.bench.workers i) then refuse W IdleWorker else O)
          (done i (line_at W.bench.workers i))
      by false e = if_false _ e ∙ sym (if_false _ e)

  -- and it is a room that a step can count on
  pub within : (y : Line) → Within (handed W y) W
  within y = by (at_claim_or_none (room_alone W) (no_room W.store) W.bench.kind 0 0 W.bench.queue [] 0 y)
    where
      by : {x : Type 0} → (handed W y ≡ room_alone W) ⊎ ((handed W y ≡ no_room W.store) × x) → Within (handed W y) W
      by (inl e) = subst (λ (τ : Room). Within τ W) (sym e) (within_alone W valid)
      by (inr (e, f)) =
          let alone = within_alone W valid in
          let most = at_most_usable W.store in
          subst (λ (τ : Room). Within τ W) (sym e)
          (record { limits = alone.limits; logs = alone.logs; behind = fits; inside = omega (arith, most) })
