-- A `step` line prints at most two lines: an operation ends once, and then its worker is idle, so that the next step is refused.
use Prim.Native.Nat.{ℕ, zero, suc, ◌+◌, ◌≤◌}
use native.Mathlib.Omega.{arith}
use mathlib.Core.Path.{◌≡◌, refl, ap, ◌∙◌}
use mathlib.Core.Bool.{Bool, true, false}
use mathlib.Core.List.{List, [], ◌++◌}
use mathlib.Core.Logic.{◌⊎◌, inl, inr, ⊎_elim}
use lib.Dec.{ltb}
use lib.ListN.{length, set, length-append, get_or-eq_default}
use lib.Seq.{get_or-set_same, set_out}
use borrow.Author.Tests.{ltb-true, ltb-false}
use Rattle.model.specs.declared.Line.{Line}
use Rattle.model.specs.declared.Worker.{Worker}
use Rattle.model.specs.declared.Answer.{Answer}
use Rattle.model.specs.declared.Answer.TheVariants.{Accepted, Numbered, GoesOn, Finished, HandedOut, Empty, Full, Grown, Refused}
use Rattle.model.specs.Tests.{when◌then◌else◌}
use Rattle.model.specs.Answers.{ends}
use Rattle.model.specs.Lines.{Effect}
use Rattle.model.specs.declared.Room.{Room}
use Rattle.model.specs.World.{World, Outcome, room_alone, line_at, is_idle, resting, refuse}
use Rattle.model.specs.Limits.{valid_of}
use Rattle.model.specs.Calls.{step_of, stepped, commit, no_room, crowded, next_effect}
use Rattle.model.specs.Listing.{Print, printed, printed_by, is_refused, response, showing, steps_of}
use Rattle.model.proofs.Attempts.{rests}
use Rattle.replies.specs.Shown.{shown_all}
use Rattle.replies.proofs.Ways.{either, never}
use Rattle.replies.proofs.Shows.{answer_most, show_none, show_append}

-- a line that ends its operation leaves the worker idle
abbrev Rests : Effect → Type 0
Rests E = ends E.answer ≡ true → is_idle E.line ≡ true

-- a record that is written is read again; a worker outside the list is idle
set_idle : (l : List Worker) (i : ℕ) (x : Line) → is_idle x ≡ true → is_idle (line_at (set l i (record { line = x })) i) ≡ true
set_idle l i x e = go (ltb i (length l)) refl
  where
    go : (b : Bool) → ltb i (length l) ≡ b → is_idle (line_at (set l i (record { line = x })) i) ≡ true
    go true h = ap (λ (k : Worker). is_idle k.line) (get_or-set_same l i (record { line = x }) resting (ltb-true i (length l) h)) ∙ e
    go false h =
        let k : length l ≤ i = ltb-false i (length l) h in
        ap (λ (n : List Worker). is_idle (line_at n i)) (set_out l i (record { line = x }) k)
        ∙ ap (λ (n : Worker). is_idle n.line) (get_or-eq_default l resting {n = i} k)

-- an answer that neither is a refusal nor ends an operation prints nothing
quiet : (v : ℕ) (a : Answer) → is_refused a ≡ false → ends a ≡ false → printed v a ≡ []
quiet v Accepted e f = refl
quiet v (Numbered n) e f = refl
quiet v GoesOn e f = refl
quiet v (Finished i t) e f = never f
quiet v (HandedOut i t) e f = never f
quiet v (Empty i) e f = never f
quiet v (Full i t) e f = never f
quiet v (Grown i) e f = refl
quiet v (Refused r) e f = never e

-- after a step that is not refused: nothing was printed, or the worker is idle
abbrev Went : ℕ → Outcome → Type 0
Went i d = is_refused d.answer ≡ false → (printed_by d ≡ []) ⊎ (is_idle (line_at d.world.bench.workers i) ≡ true)

went_stepped : (ρ : Room) (W : World) (i : ℕ) (E : Effect) → Rests E → Went i (stepped ρ W i E)
went_stepped ρ W i E r e = go (ends E.answer) refl
  where
    go : (b : Bool) → ends E.answer ≡ b → (printed W.bench.words E.answer ≡ []) ⊎ (is_idle (line_at (set W.bench.workers i (record { line = E.line })) i) ≡ true)
    go true h = inr (set_idle W.bench.workers i E.line (r h))
    go false h = inl (quiet W.bench.words E.answer e h)

went : (W : World) (i : ℕ) → Went i (step_of W i)
unfolding step_of
went W i =
    either (Went i) (valid_of W) _ _
    (either (Went i) (ltb i W.bench.crew) _ _
    (either (Went i) (is_idle (line_at W.bench.workers i)) _ _ (λ e. never e)
    (either (Went i) (crowded W i (next_effect (room_alone W) W i)) _ _ (λ e. never e)
    (either (Went i) (no_room W (next_effect (room_alone W) W i)) _ _ (λ e. never e)
    (went_stepped (room_alone W) W i (next_effect (room_alone W) W i) (rests (room_alone W) _ _ _ _ _ i (line_at W.bench.workers i))))))
    (λ e. never e))
    (λ e. never e)

-- an idle worker's step is refused
abbrev Refuses : Outcome → Type 0
Refuses d = is_refused d.answer ≡ true

idle_refused : (W : World) (i : ℕ) → is_idle (line_at W.bench.workers i) ≡ true → Refuses (step_of W i)
unfolding step_of when◌then◌else◌
idle_refused W i e =
    either Refuses (valid_of W) _ _
    (either Refuses (ltb i W.bench.crew) _ _
    (ap (λ (b : Bool). is_refused (when b then refuse W Rattle.model.specs.declared.Refusal.TheVariants.IdleWorker else commit (room_alone W) W i (next_effect (room_alone W) W i)).answer) e)
    refl)
    refl

pub steps_refused : (W : World) (i m : ℕ) → is_refused (step_of W i).answer ≡ true → steps_of W i (suc m) ≡ showing (step_of W i)
unfolding steps_of when◌then◌else◌
steps_refused W i m e = rw e

pub steps_made_lem : (W : World) (i m : ℕ) → is_refused (step_of W i).answer ≡ false →
    steps_of W i (suc m) ≡ response (steps_of (step_of W i).world i m).program (printed_by (step_of W i) ++ (steps_of (step_of W i).world i m).output)
unfolding steps_of when◌then◌else◌
steps_made_lem W i m e = rw e

-- Whatever is counted of what is printed: a `step` line prints at most twice what an answer can.
module _ (size : List Print → ℕ) (most : ℕ) (none : size [] ≡ 0) (both : (p q : List Print) → size (p ++ q) ≡ size p + size q) (one : (v : ℕ) (a : Answer) → size (printed v a) ≤ most) where
  idle_once : (m : ℕ) (W : World) (i : ℕ) → is_idle (line_at W.bench.workers i) ≡ true → size (steps_of W i m).output ≤ most
  unfolding steps_of
  idle_once zero W i e = omega (arith, none)
  idle_once (suc m) W i e = rw (steps_refused W i m (idle_refused W i e)) (one (step_of W i).world.bench.words (step_of W i).answer)

  pub steps_twice : (m : ℕ) (W : World) (i : ℕ) → size (steps_of W i m).output ≤ most + most
  unfolding steps_of
  steps_twice zero W i = omega (arith, none)
  steps_twice (suc m) W i = go (is_refused (step_of W i).answer) refl (steps_twice m (step_of W i).world i)
    where
      go : (b : Bool) → is_refused (step_of W i).answer ≡ b → size (steps_of (step_of W i).world i m).output ≤ most + most → size (steps_of W i (suc m)).output ≤ most + most
      go true e h = rw (steps_refused W i m e) (omega (arith, one (step_of W i).world.bench.words (step_of W i).answer))
      go false e h =
          rw (steps_made_lem W i m e, both)
          (⊎_elim (λ q. let r : size (printed_by (step_of W i)) ≡ 0 = ap size q ∙ none in omega arith)
          (λ q. omega (arith, one (step_of W i).world.bench.words (step_of W i).answer, idle_once m (step_of W i).world i q)) (went W i e))

-- at most 256 bytes
pub steps_most : (m : ℕ) (W : World) (i : ℕ) → length (shown_all (steps_of W i m).output) ≤ 256
steps_most =
    steps_twice (λ (ps : List Print). length (shown_all ps)) 128 (ap length show_none)
    (λ p q. ap length (show_append p q) ∙ length-append (shown_all p) (shown_all q)) answer_most
