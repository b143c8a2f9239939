-- `step I M`, step by step.
use Prim.Native.Nat.{ℕ, suc, ◌+◌, ◌-◌, ◌≤◌, ◌<◌}
use native.Mathlib.Omega.{arith}
use mathlib.Core.Path.{◌≡◌, refl, ap, sym, subst, ◌∙◌}
use mathlib.Core.Bool.{Bool, true, false}
use mathlib.Core.List.{List, [], ◌++◌, append_assoc, append-nil}
use lib.ListN.{length, length-append}
use Rattle.model.specs.declared.Answer.{Answer}
use Rattle.model.specs.World.{World, Outcome}
use Rattle.model.specs.Calls.{step_of}
use Rattle.model.specs.Listing.{Print, playing, Response, printed, printed_by, is_refused, steps_of}
use Rattle.text.specs.Numbers.{Placed}
use Rattle.text.proofs.Spell.{placed_more, placed_length}
use Rattle.replies.specs.declared.Session.{Session}
use Rattle.replies.specs.Shown.{shown_all}
use Rattle.replies.specs.Sessions.{world_of, AnsweredBy}
use Rattle.replies.proofs.Shows.{show_none, show_append}
use Rattle.listing.proofs.TwoLines.{steps_refused, steps_made_lem, steps_most}
use Rattle.replies.proofs.Replies.{played, program_live, left_on}

-- what is left to do after some of the steps, from where the session stands
abbrev to_do : Session → List ℕ → List ℕ → ℕ → ℕ → Response
to_do s m l i left = steps_of (world_of s m l) i left

-- R is the line's whole response: `text` of it stands in the output, and the steps left do the rest
pub record Stepping (R : Response) (s : Session) (m l : List ℕ) (i left : ℕ) (before : List ℕ) (at end : ℕ) (out : List ℕ) : Type 0 where
  pub text : List ℕ
  pub placed : Placed before at text end out
  pub rest : shown_all R.output ≡ text ++ shown_all (to_do s m l i left).output
  pub program : R.program ≡ (to_do s m l i left).program
  pub live : s.live ≡ true

pub stepping_start : (s : Session) (m l : List ℕ) (i times : ℕ) (before : List ℕ) (at : ℕ) → s.live ≡ true → Stepping (to_do s m l i times) s m l i times before at at before
stepping_start s m l i times before at e = record {
  text = [];
  placed = record { ends = omega arith; put = refl };
  rest = refl;
  program = refl;
  live = e;
}

steps_none : (W : World) (i left : ℕ) → left ≡ 0 → steps_of W i left ≡ record { program = playing W; output = [] }
unfolding steps_of
steps_none W i left e = rw e

before_one : (left : ℕ) → 0 < left → left ≡ suc (left - 1)
before_one left h = omega arith

refused_now : (W : World) (i left : ℕ) → 0 < left → is_refused (step_of W i).answer ≡ true → steps_of W i left ≡ record { program = playing (step_of W i).world; output = printed_by (step_of W i) }
refused_now W i left h e = ap (steps_of W i) (before_one left h) ∙ steps_refused W i (left - 1) e

made_now : (W : World) (i left : ℕ) → 0 < left → is_refused (step_of W i).answer ≡ false →
    steps_of W i left ≡ record { program = (steps_of (step_of W i).world i (left - 1)).program; output = printed_by (step_of W i) ++ (steps_of (step_of W i).world i (left - 1)).output }
made_now W i left h e = ap (steps_of W i) (before_one left h) ∙ steps_made_lem W i (left - 1) e

-- the next step's text is a part of what is left
next_fits : (W : World) (i left : ℕ) → 0 < left → length (shown_all (printed_by (step_of W i))) ≤ length (shown_all (steps_of W i left).output)
next_fits W i left h = go (is_refused (step_of W i).answer) refl
  where
    go : (b : Bool) → is_refused (step_of W i).answer ≡ b → length (shown_all (printed_by (step_of W i))) ≤ length (shown_all (steps_of W i left).output)
    go true e = rw (refused_now W i left h e) (omega arith)
    go false e = rw (made_now W i left h e, show_append, length-append) (omega arith)

module _ (W : World) (times : ℕ) (s : Session) (m l : List ℕ) (i left : ℕ) (before : List ℕ) (at end : ℕ) (out : List ℕ) (σ : Stepping (steps_of W i times) s m l i left before at end out) where
  -- there is room for the next step's text, as a line's whole text fits
  pub stepping_room : (d : Outcome) → at + 256 ≤ length before → 0 < left → d ≡ step_of (world_of s m l) i → end + length (shown_all (printed_by d)) ≤ length out
  stepping_room d room h e =
      let fits : length (shown_all (printed_by d)) ≤ length (shown_all (to_do s m l i left).output) = rw e (next_fits (world_of s m l) i left h) in
      let whole : length (shown_all (steps_of W i times).output) ≡ length σ.text + length (shown_all (to_do s m l i left).output) = ap length σ.rest ∙ length-append σ.text _ in
      omega (arith, steps_most times W i, σ.placed.ends, placed_length before at σ.text end out σ.placed, fits, whole)

  -- no step is left
  pub stepping_over : left ≡ 0 → AnsweredBy (steps_of W i times) (played s end) m l before at out
  stepping_over e =
      let none : to_do s m l i left ≡ record { program = playing (world_of s m l); output = [] } = steps_none (world_of s m l) i left e in record {
        program = left_on false s m l refl ∙ program_live s m l σ.live ∙ sym (σ.program ∙ ap (λ (r : Response). r.program) none);
        text =
            subst (λ (t : List ℕ). Placed before at t end out)
            (sym (σ.rest ∙ ap (λ (r : Response). σ.text ++ shown_all r.output) none ∙ ap (λ (t : List ℕ). σ.text ++ t) show_none ∙ append-nil σ.text))
            σ.placed;
      }

  module _ (h : 0 < left) (t : Session) (a : Answer) (m' l' : List ℕ) (by : record { world = world_of t m' l'; answer = a } ≡ step_of (world_of s m l) i) (lives : t.live ≡ true) (end' : ℕ) (out' : List ℕ) (shows : Placed out end (shown_all (printed t.bench.words a)) end' out') where
    answered : (step_of (world_of s m l) i).answer ≡ a
    answered = ap (λ (d : Outcome). d.answer) (sym (by))

    left_at : (step_of (world_of s m l) i).world ≡ world_of t m' l'
    left_at = ap (λ (d : Outcome). d.world) (sym (by))

    says : printed_by (step_of (world_of s m l) i) ≡ printed t.bench.words a
    says = ap printed_by (sym (by))

    behind : Placed before at (σ.text ++ shown_all (printed t.bench.words a)) end' out'
    behind = placed_more before at σ.text end out (shown_all (printed t.bench.words a)) end' out' σ.placed shows

    -- the step was refused: the line ends here
    pub stepping_stops : is_refused a ≡ true → AnsweredBy (steps_of W i times) (played t end') m' l' before at out'
    stepping_stops e =
        let now : to_do s m l i left ≡ record { program = playing (step_of (world_of s m l) i).world; output = printed_by (step_of (world_of s m l) i) } =
        refused_now (world_of s m l) i left h (ap is_refused answered ∙ e) in record {
          program =
              left_on false t m' l' refl ∙ program_live t m' l' (lives)
              ∙ sym (σ.program ∙ ap (λ (x : Response). x.program) now ∙ ap playing left_at);
          text =
              subst (λ (t : List ℕ). Placed before at t end' out')
              (sym (σ.rest ∙ ap (λ (x : Response). σ.text ++ shown_all x.output) now ∙ ap (λ (y : List Print). σ.text ++ shown_all y) says)) behind;
        }

    -- the step was made: one fewer is left
    pub stepping_on : is_refused a ≡ false → Stepping (steps_of W i times) t m' l' i (left - 1) before at end' out'
    stepping_on e =
        let now : to_do s m l i left ≡ record { program = (steps_of (step_of (world_of s m l) i).world i (left - 1)).program; output = printed_by (step_of (world_of s m l) i) ++ (steps_of (step_of (world_of s m l) i).world i (left - 1)).output } =
        made_now (world_of s m l) i left h (ap is_refused answered ∙ e) in record {
          text = σ.text ++ shown_all (printed t.bench.words a);
          placed = behind;
          rest =
              σ.rest ∙ ap (λ (x : Response). σ.text ++ shown_all x.output) now
              ∙ ap (λ (t : List ℕ). σ.text ++ t) (show_append (printed_by (step_of (world_of s m l) i)) (steps_of (step_of (world_of s m l) i).world i (left - 1)).output)
              ∙ sym (append_assoc σ.text _ _)
              ∙ ap (λ (y : List Print). (σ.text ++ shown_all y) ++ shown_all (steps_of (step_of (world_of s m l) i).world i (left - 1)).output) says
              ∙ ap (λ (X : World). (σ.text ++ shown_all (printed t.bench.words a)) ++ shown_all (steps_of X i (left - 1)).output) left_at;
          program = σ.program ∙ ap (λ (x : Response). x.program) now ∙ ap (λ (X : World). (steps_of X i (left - 1)).program) left_at;
          live = lives;
        }
