-- Quiet steps of different workers in either order, and a quiet step with a row of others'.
use mathlib.Core.Path.{◌≡◌, refl, sym, ◌∙◌, ap, subst}
use mathlib.Core.Bool.{Bool, true, false}
use mathlib.Core.Logic.{◌≢◌}
use mathlib.Core.List.{List, [], ◌∷◌}
use Prim.Native.Nat.{ℕ}
use lib.ListN.{get_or, set}
use lib.Seq.{set_comm, get_or-set_other}
use Rattle.model.specs.declared.Line.{Line}
use Rattle.model.specs.declared.Waiting.{Waiting}
use Rattle.model.specs.declared.Room.{Room}
use Rattle.model.specs.declared.Answer.{Answer}
use Rattle.model.specs.Tests.{when◌then◌else◌, ◌and◌, ◌or◌}
use Rattle.model.specs.Lines.{Effect, fails_compare}
use Rattle.model.specs.World.{World, Outcome, line_at, is_steal1, is_past1, room_alone}
use Rattle.model.specs.Calls.{one_more, raised, next_effect, step_in, step_of, step}
use Rattle.model.specs.Run.{played, after}
use Rattle.theorems.specs.Reached.{Reached}
use Rattle.theorems.proofs.Cases.{alone_is}
use Rattle.theorems.proofs.WholeRun.{line_other}
use Rattle.theorems.proofs.Reached.{reached_call, reached_valid}
use Rattle.swaps.specs.Swaps.{Quiet, SwappedBy, SwapQuiet, QuietStays, QuietRow, row_of, answers_of, MovePastRow, QuietAsPlayed}
use Rattle.swaps.proofs.WorkersOwn.{with_links, moved_with, moved, moved_out, QuietAs, quiet_in, quiet_at, at_quiet, join_swap, fails_kept, same_effect, stays, stayed}

-- TWO IN EITHER ORDER. In a list where each worker has its own place
both_set : {A : Type 0} (l : List A) (i j : ℕ) (d : A) (f g : A → A) → i ≢ j
    → set (set l j (g (get_or l j d))) i (f (get_or (set l j (g (get_or l j d))) i d)) ≡ set (set l i (f (get_or l i d))) j (g (get_or (set l i (f (get_or l i d))) j d))
both_set {A} l i j d f g ne =
    ap (λ (x : A). set (set l j (g (get_or l j d))) i (f x)) (get_or-set_other l j i _ d ne)
    ∙ set_comm l j i _ _ (λ e. ne (sym e))
    ∙ ap (λ (x : A). set (set l i (f (get_or l i d))) j (g x)) (sym (get_or-set_other l i j _ d (λ e. ne (sym e))))

both_raised : (n : List ℕ) (i j : ℕ) (x y : Bool) → i ≢ j
    → (when x then raised (when y then raised n j else n) i else (when y then raised n j else n)) ≡ (when y then raised (when x then raised n i else n) j else (when x then raised n i else n))
unfolding when◌then◌else◌
both_raised n i j true true ne = both_set n i j 0 one_more one_more ne
both_raised n i j true false ne = refl
both_raised n i j false true ne = refl
both_raised n i j false false ne = refl

module _ (W : World) (i j : ℕ) (E F : Effect) (ne : i ≢ j) where
  linking : Line → Line → Bool → Bool
  linking l l' x = is_past1 l' and ((W.bench.queue.linked and is_steal1 l) or x)

  links_swap : (moved (moved W j F) i E).bench.queue.links ≡ (moved (moved W i E) j F).bench.queue.links
  unfolding linking
  links_swap =
      let b = W.bench in
      let L = b.queue.links in
      let a = line_at b.workers i in
      let c = line_at b.workers j in
      ap (λ (l : Line). let M = set L j (linking c F.line (get_or L j false)) in set M i (linking l E.line (get_or M i false))) (line_other b.workers j i F.line ne)
      ∙ both_set L i j false (linking a E.line) (linking c F.line) ne
      ∙ sym (ap (λ (l : Line). let M = set L i (linking a E.line (get_or L i false)) in set M j (linking l F.line (get_or M j false))) (line_other b.workers i j E.line (λ e. ne (sym e))))

  counts_swap : (moved (moved W j F) i E).bench.restarts ≡ (moved (moved W i E) j F).bench.restarts
  counts_swap =
      let b = W.bench in
      let n = b.restarts in
      let x = fails_compare b.kind b.queue i (line_at b.workers i) in
      let y = fails_compare b.kind b.queue j (line_at b.workers j) in
      ap (λ (z : Bool). let m = when y then raised n j else n in when z then raised m i else m) (fails_kept W i j F ne)
      ∙ both_raised n i j x y ne
      ∙ sym (ap (λ (z : Bool). let m = when x then raised n i else n in when z then raised m j else m) (fails_kept W j i E (λ e. ne (sym e))))

  moved_swap : moved (moved W j F) i E ≡ moved (moved W i E) j F
  moved_swap =
      let b = W.bench in
      let X = (moved (moved W j F) i E).bench in
      let Y = (moved (moved W i E) j F).bench in
      ap (λ (L : List Bool). moved_with W (with_links b.queue L) X.waiting X.restarts X.workers) links_swap
      ∙ ap (λ (l : Waiting). moved_with W Y.queue l X.restarts X.workers) (join_swap b.delayed b.waiting i j E.stores F.stores ne)
      ∙ ap (λ (n : List ℕ). moved_with W Y.queue Y.waiting n X.workers) counts_swap
      ∙ ap (moved_with W Y.queue Y.waiting Y.restarts) (set_comm b.workers j i (record { line = F.line }) (record { line = E.line }) (λ e. ne (sym e)))

-- WHAT WORKER j's QUIET STEP LEAVES, where X1 would find the room ρ: also that room
abbrev left_by : Room → World → ℕ → World
left_by ρ W j = moved W j (next_effect ρ W j)

abbrev QuietIn : Room → World → ℕ → Type 0
QuietIn ρ W i = QuietAs W i (next_effect ρ W i)

left_in : (ρ : Room) (W : World) (j : ℕ) → QuietIn ρ W j → (step_in ρ W j).world ≡ left_by ρ W j
left_in ρ W j P = ap (λ (D : Outcome). D.world) (quiet_in ρ W j P)

still : (ρ : Room) (W : World) (i j : ℕ) → i ≢ j → QuietIn ρ W i → QuietIn ρ W j → QuietIn ρ (left_by ρ W j) i
still ρ W i j ne Q P =
    subst (QuietAs (left_by ρ W j) i) (sym (same_effect ρ W i j (next_effect ρ W j) ne)) (stays W i j (next_effect ρ W i) (next_effect ρ W j) ne P.line Q)

-- worker i's behind worker j's
second_in : (ρ : Room) (W : World) (i j : ℕ) → i ≢ j → QuietIn ρ W i → QuietIn ρ W j → step_in ρ (step_in ρ W j).world i ≡ moved_out (left_by ρ W j) i (next_effect ρ W i)
second_in ρ W i j ne Q P =
    ap (λ (X : World). step_in ρ X i) (left_in ρ W j P) ∙ quiet_in ρ (left_by ρ W j) i (still ρ W i j ne Q P)
    ∙ ap (moved_out (left_by ρ W j) i) (same_effect ρ W i j (next_effect ρ W j) ne)

-- in whatever room
pub swap_in : (ρ : Room) (W : World) (i j : ℕ) → i ≢ j → QuietIn ρ W i → QuietIn ρ W j → SwappedBy (step_in ρ) W i j
swap_in ρ W i j ne Q P =
    let a = second_in ρ W i j ne Q P in
    let b = second_in ρ W j i (λ e. ne (sym e)) P Q in
    record {
      worlds = ap (λ (D : Outcome). D.world) a ∙ moved_swap W i j (next_effect ρ W i) (next_effect ρ W j) ne ∙ sym (ap (λ (D : Outcome). D.world) b);
      first = ap (λ (D : Outcome). D.answer) a ∙ sym (ap (λ (D : Outcome). D.answer) (quiet_in ρ W i Q));
      second = ap (λ (D : Outcome). D.answer) b ∙ sym (ap (λ (D : Outcome). D.answer) (quiet_in ρ W j P));
    }

-- ALONE. A step finds the room behind the arrays, and leaves it so
step_is : {W : World} → Reached W → (j : ℕ) → step_of W j ≡ step_in (room_alone W) W j
step_is {W} R j = alone_is W (step j) (reached_valid R)

left_is : {W : World} → Reached W → (j : ℕ) → Quiet W j → (step_of W j).world ≡ left_by (room_alone W) W j
left_is {W} R j P = ap (λ (D : Outcome). D.world) (step_is R j) ∙ left_in (room_alone W) W j (quiet_at W j P)

reached_left : {W : World} → Reached W → (j : ℕ) → Quiet W j → Reached (left_by (room_alone W) W j)
reached_left R j P = subst Reached (left_is R j P) (reached_call R (step j))

second_is : {W : World} → Reached W → (i j : ℕ) → Quiet W j → step_of (step_of W j).world i ≡ step_in (room_alone W) (step_in (room_alone W) W j).world i
second_is {W} R i j P =
    ap (λ (X : World). step_of X i) (left_is R j P) ∙ step_is (reached_left R j P) i
    ∙ sym (ap (λ (X : World). step_in (room_alone W) X i) (left_in (room_alone W) W j (quiet_at W j P)))

pub swap_quiet : SwapQuiet
swap_quiet W R i j ne Q P =
    let S = swap_in (room_alone W) W i j ne (quiet_at W i Q) (quiet_at W j P) in
    let a = second_is R i j P in
    let b = second_is R j i Q in
    record {
      worlds = ap (λ (D : Outcome). D.world) a ∙ S.worlds ∙ sym (ap (λ (D : Outcome). D.world) b);
      first = ap (λ (D : Outcome). D.answer) a ∙ S.first ∙ sym (ap (λ (D : Outcome). D.answer) (step_is R i));
      second = ap (λ (D : Outcome). D.answer) b ∙ S.second ∙ sym (ap (λ (D : Outcome). D.answer) (step_is R j));
    }

pub quiet_stays : QuietStays
quiet_stays W R i j ne P = (
  λ Q. subst (λ (X : World). Quiet X i) (sym (left_is R j P)) (at_quiet (left_by ρ W j) i (reached_valid (reached_left R j P)) (still ρ W i j ne (quiet_at W i Q) (quiet_at W j P))),
  λ Q. at_quiet W i (reached_valid R)
      (stayed W i j (next_effect ρ W i) (next_effect ρ W j) ne
      (subst (QuietAs (left_by ρ W j) i) (same_effect ρ W i j (next_effect ρ W j) ne) (quiet_at (left_by ρ W j) i (subst (λ (X : World). Quiet X i) (left_is R j P) Q)))),
)
  where
    ρ : Room
    ρ = room_alone W

-- A ROW
pub move_past_row : MovePastRow
unfolding QuietRow played after
move_past_row W R i [] Q row = record { worlds = refl; answer = refl; answers = refl; quiet = Q }
move_past_row W R i (j ∷ js) Q (ne, P, row) =
    let S = swap_quiet W R i j ne Q P in
    let M = move_past_row (step_of W j).world (reached_call R (step j)) i js ((quiet_stays W R i j ne P).0 Q) row in
    record {
      worlds = ap (λ (X : World). after X (row_of js)) (sym S.worlds) ∙ M.worlds;
      answer = M.answer ∙ S.first;
      answers =
          ap (λ (a : Answer). a ∷ answers_of (played (step_of (step_of W i).world j).world (row_of js))) S.second
          ∙ ap (λ (A : List Answer). (step_of W j).answer ∷ A) (ap (λ (X : World). answers_of (played X (row_of js))) (sym S.worlds) ∙ M.answers);
      quiet = M.quiet;
    }

-- as played, the step before the row
before_row : (W : World) → Reached W → (i : ℕ) (js : List ℕ) → Quiet W i → QuietRow i (step_of W i).world js → QuietRow i W js
unfolding QuietRow
before_row W R i [] Q row = tt
before_row W R i (j ∷ js) Q (ne, P, row) =
    let P' = (quiet_stays W R j i (λ e. ne (sym e)) Q).1 P in (
      ne,
      P',
      before_row (step_of W j).world (reached_call R (step j)) i js ((quiet_stays W R i j ne P').0 Q)
          (subst (λ (X : World). QuietRow i X js) (sym (swap_quiet W R i j ne Q P').worlds) row),
    )

-- and behind it
behind_row : (W : World) → Reached W → (i : ℕ) (js : List ℕ) → QuietRow i W js → Quiet (after W (row_of js)) i → Quiet W i
unfolding QuietRow after
behind_row W R i [] row Q = Q
behind_row W R i (j ∷ js) (ne, P, row) Q = (quiet_stays W R i j ne P).1 (behind_row (step_of W j).world (reached_call R (step j)) i js row Q)

pub quiet_as_played : QuietAsPlayed
quiet_as_played W R i js = (before_row W R i js, behind_row W R i js)
