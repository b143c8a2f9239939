-- Consuming line by line.
use Prim.Native.Nat.{ℕ, ◌+◌, ◌-◌, ◌≤◌, ◌<◌}
use native.Mathlib.Omega.{arith}
use mathlib.Core.Path.{◌≡◌, refl, ap, sym, subst, ◌∙◌}
use mathlib.Core.Bool.{Bool, true, false}
use mathlib.Core.List.{List, ◌∷◌, ◌++◌, append_assoc, map}
use lib.Dec.{eqb}
use lib.ListN.{length, take, drop, length-append, length-drop}
use lib.Seq.{sets-eq, take_at, length-take-le, drop-drop}
use Rattle.model.specs.declared.Command.{Command}
use Rattle.model.specs.declared.Command.TheVariants.{Open, BeginPut, BeginTake, BeginSteal, Steps, Who, End, Bad}
use Rattle.model.specs.declared.Refusal.TheVariants.{BadLine}
use Rattle.model.specs.declared.Operation.{Operation}
use Rattle.model.specs.declared.Operation.TheVariants.{Put, Take, Steal}
use Rattle.model.specs.declared.Answer.TheVariants.{Refused}
use Rattle.model.specs.World.{World}
use Rattle.model.specs.Calls.{fresh_of, setup, begin_of, who_of}
use Rattle.model.specs.Counts.{counts_of}
use Rattle.model.specs.Listing.{Program, waiting, playing, ended, Response, printed_by, respond, listing_from}
use Rattle.text.specs.Numbers.{Placed}
use Rattle.text.specs.Commands.{command_of}
use Rattle.text.proofs.Lists.{done}
use Rattle.text.proofs.Spell.{placed_length}
use Rattle.replies.specs.declared.Session.{Session}
use Rattle.replies.specs.declared.Answered.{Answered}
use Rattle.replies.specs.Shown.{shown_all}
use Rattle.listing.specs.Listing.{listing_of, until_newline}
use Rattle.listing.specs.Listing as spec
use Rattle.replies.specs.Sessions.{program_of, left_by, AnsweredBy}
use Rattle.listing.specs.Consuming.{ConsumedBy}
use Rattle.listing.proofs.Lines.{first_line_lem, front_take, front_fits, front_none}
use Rattle.replies.proofs.Shows.{show_none, show_append, answer_most, tally_most, totals_most}
use Rattle.listing.proofs.TwoLines.{steps_most}
use Rattle.replies.proofs.Ways.{either, never}
use Rattle.replies.proofs.Replies.{left_on}

-- A line's text has at most 256 bytes.
begin_most : (W : World) (i : ℕ) (op : Operation) → length (shown_all (printed_by (begin_of W i op))) ≤ 256
begin_most W i op = omega (arith, answer_most (begin_of W i op).world.bench.words (begin_of W i op).answer)

pub respond_most : (P : Program) (c : Command) → length (shown_all (respond P c).output) ≤ 256
unfolding respond
respond_most (waiting m l) (Open k w z n s v) =
    let d = fresh_of (setup k w z n v) (take s m) l in omega (arith, answer_most d.world.bench.words d.answer)
respond_most (waiting m l) (BeginPut v p) = omega (arith, answer_most 1 (Refused BadLine))
respond_most (waiting m l) BeginTake = omega (arith, answer_most 1 (Refused BadLine))
respond_most (waiting m l) (BeginSteal i) = omega (arith, answer_most 1 (Refused BadLine))
respond_most (waiting m l) (Steps i n) = omega (arith, answer_most 1 (Refused BadLine))
respond_most (waiting m l) (Who i) = omega (arith, answer_most 1 (Refused BadLine))
respond_most (waiting m l) End = omega (arith, answer_most 1 (Refused BadLine))
respond_most (waiting m l) Bad = omega (arith, answer_most 1 (Refused BadLine))
respond_most (playing W) (Open k w z n s v) = omega (arith, answer_most 1 (Refused BadLine))
respond_most (playing W) (BeginPut v p) =
    either (λ (r : Response). length (shown_all r.output) ≤ 256) (eqb v W.bench.words) _ _ (begin_most W 0 (Put p))
    (omega (arith, answer_most 1 (Refused BadLine)))
respond_most (playing W) BeginTake = begin_most W 0 Take
respond_most (playing W) (BeginSteal i) = begin_most W i Steal
respond_most (playing W) (Steps i m) = omega (arith, steps_most m W i)
respond_most (playing W) (Who i) = omega (arith, tally_most i (who_of W i))
respond_most (playing W) End = omega (arith, totals_most (counts_of W))
respond_most (playing W) Bad = omega (arith, answer_most 1 (Refused BadLine))
respond_most ended (Open k w z n s v) = rw show_none (omega arith)
respond_most ended (BeginPut v p) = rw show_none (omega arith)
respond_most ended BeginTake = rw show_none (omega arith)
respond_most ended (BeginSteal i) = rw show_none (omega arith)
respond_most ended (Steps i m) = rw show_none (omega arith)
respond_most ended (Who i) = rw show_none (omega arith)
respond_most ended End = rw show_none (omega arith)
respond_most ended Bad = rw show_none (omega arith)

-- the text that was written before, and the text placed behind it
pub taken : (b : List ℕ) (at : ℕ) (t : List ℕ) (e : ℕ) (a : List ℕ) → Placed b at t e a → at + length t ≤ length b → take e a ≡ take at b ++ t
taken b at t e a p h =
    let k : length (take at b ++ t) ≡ at + length t = length-append (take at b) t ∙ ap (λ (n : ℕ). n + length t) (length-take-le at b (omega arith)) in
    ap (take e) (p.put ∙ sets-eq t b at h) ∙ take_at (take at b ++ t) _ e (k ∙ sym p.ends)

-- one command more
pub listing_one : (P : Program) (c : Command) (cs : List Command) → shown_all (listing_from P (c ∷ cs)) ≡ shown_all (respond P c).output ++ shown_all (listing_from (respond P c).program cs)
unfolding listing_from
listing_one P c cs = show_append (respond P c).output (listing_from (respond P c).program cs)

-- where the loop stands: whatever comes after, what was written and then the listing of the rest
abbrev pub Yields : Program → List ℕ → List ℕ → Program → List ℕ → Type 0
Yields P buf text Q rest = (z : List ℕ) → listing_of P (buf ++ z) ≡ text ++ listing_of Q (rest ++ z)

-- one line more
pub shows_line : (P : Program) (buf text : List ℕ) (Q : Program) (rest : List ℕ) → Yields P buf text Q rest → length (until_newline rest) < length rest →
    Yields P buf (text ++ shown_all (respond Q (command_of (until_newline rest))).output) (respond Q (command_of (until_newline rest))).program (drop (length (until_newline rest) + 1) rest)
shows_line P buf text Q rest h k z = h z ∙ ap (λ (l : List ℕ). text ++ l) (one Q rest z k) ∙ sym (append_assoc text _ _)
  where
    one : (S : Program) (s y : List ℕ) → length (until_newline s) < length s → listing_of S (s ++ y) ≡ shown_all (respond S (command_of (until_newline s))).output ++ listing_of (respond S (command_of (until_newline s))).program (drop (length (until_newline s) + 1) s ++ y)
    one S s y q = unfold listing_of in (ap (λ (ls : List (List ℕ)). shown_all (listing_from S (map command_of ls))) (first_line_lem s y q) ∙ listing_one S _ _)

-- a line was played: what the code did is what the listing asks
pub shows_on : (P : Program) (buf out : List ℕ) (Q : Program) (used wrote end : ℕ) (p : Answered) (m l after : List ℕ) →
    Yields P buf (take wrote out) Q (drop used buf) → used ≤ length buf → end ≡ used + length (until_newline (drop used buf)) → (end ≡ length buf → ⊥) → wrote + 256 ≤ length out →
    AnsweredBy (respond Q (command_of (take (end - used) (drop used buf)))) p m l out wrote after →
    Yields P buf (take p.end after) (left_by p.stops p.session m l) (drop (end + 1) buf)
shows_on P buf out Q used wrote end p m l after h fits e n room by =
    let rest : List ℕ = drop used buf in
    let word : take (end - used) (drop used buf) ≡ until_newline (drop used buf) =
    ap (λ (k : ℕ). take k (drop used buf)) (let q : end - used ≡ length (until_newline (drop used buf)) = omega arith in q) ∙ front_take (drop used buf) in
    let by' : AnsweredBy (respond Q (command_of (until_newline (drop used buf)))) p m l out wrote after = rw word at by in
    let s : length (until_newline (drop used buf)) < length (drop used buf) = omega (arith, front_fits (drop used buf), length-drop used buf) in
    let d : drop (length (until_newline (drop used buf)) + 1) (drop used buf) ≡ drop (end + 1) buf =
    drop-drop _ used buf ∙ ap (λ (k : ℕ). drop k buf) (let q : used + (length (until_newline (drop used buf)) + 1) ≡ end + 1 = omega arith in q) in
    let x : take p.end after ≡ take wrote out ++ shown_all (respond Q (command_of (until_newline (drop used buf)))).output =
    taken out wrote _ p.end after by'.text (omega (arith, respond_most Q (command_of (until_newline (drop used buf))))) in
    λ z. shows_line P buf (take wrote out) Q (drop used buf) h s z
    ∙ ap (λ (t : List ℕ). t ++ listing_of (respond Q (command_of (until_newline (drop used buf)))).program (drop (length (until_newline (drop used buf)) + 1) (drop used buf) ++ z)) (sym x)
    ∙ ap (λ (S : Program). take p.end after ++ listing_of S (drop (length (until_newline (drop used buf)) + 1) (drop used buf) ++ z)) (sym by'.program)
    ∙ ap (λ (t : List ℕ). take p.end after ++ listing_of (left_by p.stops p.session m l) (t ++ z)) d

pub played_fits : (Q : Program) (c : Command) (out : List ℕ) (wrote : ℕ) (p : Answered) (m l after : List ℕ) → wrote + 256 ≤ length out → AnsweredBy (respond Q c) p m l out wrote after → p.end ≤ length after
played_fits Q c out wrote p m l after h by = omega (arith, by.text.ends, placed_length out wrote _ _ after by.text, respond_most Q c)

-- what a played line leaves the loop with: its place in the buffer, in the output, and what is shows
pub record Onward (P : Program) (buf : List ℕ) (used : ℕ) (p : Answered) (m l after : List ℕ) : Type 0 where
  pub within : used ≤ length buf
  pub fits : p.end ≤ length after
  pub shows : Yields P buf (take p.end after) (left_by p.stops p.session m l) (drop used buf)

pub line_on : (P : Program) (buf out : List ℕ) (Q : Program) (used wrote end : ℕ) (c : Command) (p : Answered) (m l after : List ℕ) →
    Yields P buf (take wrote out) Q (drop used buf) → used ≤ length buf → end ≡ used + length (until_newline (drop used buf)) → (end ≡ length buf → ⊥) → wrote + 256 ≤ length out →
    c ≡ command_of (take (end - used) (drop used buf)) → AnsweredBy (respond Q c) p m l out wrote after → Onward P buf (end + 1) p m l after
line_on P buf out Q used wrote end c p m l after h k e n room says by = record {
  within = omega (arith, front_fits (drop used buf), length-drop used buf);
  fits = played_fits Q c out wrote p m l after room by;
  shows = shows_on P buf out Q used wrote end p m l after h k e n room (subst (λ (d : Command). AnsweredBy (respond Q d) p m l out wrote after) says by);
}

pub shows_next : (P : Program) (buf text : List ℕ) (s : Session) (m l rest : List ℕ) (b : Bool) → b ≡ false → Yields P buf text (left_by b s m l) rest → Yields P buf text (program_of s m l) rest
shows_next P buf text s m l rest b e h z = h z ∙ ap (λ (Q : Program). text ++ listing_of Q (rest ++ z)) (left_on b s m l e)

pub left_over : (b : Bool) (s : Session) (m l : List ℕ) → b ≡ true → left_by b s m l ≡ left_by true s m l
left_over b s m l e = ap (λ (x : Bool). left_by x s m l) e

-- the ways to stop
module _ (P : Program) (buf : List ℕ) (s : Session) (m l out : List ℕ) (used wrote : ℕ) (h : used ≤ length buf) (k : wrote ≤ length out) where
  pub consumed_on : Yields P buf (take wrote out) (program_of s m l) (drop used buf) → (wrote + 256 ≤ length out → spec.Open (drop used buf)) →
      ConsumedBy P buf (record { session = s; used = used; wrote = wrote; stops = false }) m l out
  consumed_on shows rest = record {
    within = h;
    room = k;
    shows = λ z. shows z ∙ ap (λ (Q : Program). take wrote out ++ listing_of Q (drop used buf ++ z)) (sym (left_on false s m l refl));
    rest = λ e. rest;
  }

  pub consumed_over : (b : Bool) → b ≡ true → Yields P buf (take wrote out) (left_by b s m l) (drop used buf) → ConsumedBy P buf (record { session = s; used = used; wrote = wrote; stops = true }) m l out
  consumed_over b e shows = record {
    within = h;
    room = k;
    shows = λ z. shows z ∙ ap (λ (Q : Program). take wrote out ++ listing_of Q (drop used buf ++ z)) (left_over b s m l e);
    rest = λ x. never x;
  }

pub nothing_open : (buf : List ℕ) (used : ℕ) → length buf ≤ used → spec.Open (drop used buf)
nothing_open buf used h = rw (done buf used h) (ap length front_none)
