-- What the calls on a bench leave of the program.
use Rattle.std.specs.Prelude.{Result, Ok, Err, ⊤}
use Prim.Native.Nat.{ℕ, ◌≤◌, min}
use native.Mathlib.Omega.{arith}
use mathlib.Core.Path.{◌≡◌, refl, ap, sym, subst, ◌∙◌}
use mathlib.Core.Bool.{Bool, true, false}
use mathlib.Core.List.{List, [], ◌∷◌, ◌++◌}
use lib.ListN.{length, take, drop}
use borrow.Author.Tests.{eq-eqb, ne_eqb, le-ltb}
use Rattle.model.specs.declared.Refusal.{Refusal}
use Rattle.model.specs.declared.Setup.{Setup}
use Rattle.model.specs.declared.Bench.{Bench}
use Rattle.model.specs.declared.Answer.{Answer}
use Rattle.model.specs.declared.Answer.TheVariants.{Refused}
use Rattle.model.specs.declared.Refusal.TheVariants.{NoSuchWorker}
use Rattle.model.specs.declared.Payload.{Payload}
use Rattle.model.specs.declared.Operation.{Operation}
use Rattle.model.specs.declared.Operation.TheVariants.{Put}
use Rattle.model.specs.declared.Command.{Command}
use Rattle.model.specs.declared.Command.TheVariants.{Steps, Who}
use Rattle.model.specs.declared.Counts.{Counts}
use Rattle.model.specs.Tests.{when◌then◌else◌}
use Rattle.model.specs.World.{World, Outcome}
use Rattle.model.specs.Limits.{valid_of}
use Rattle.model.specs.Calls.{lent, fresh_of, begin_of, who_of}
use Rattle.opening.specs.Begins.{BeginStops}
use Rattle.model.specs.Counts.{counts_of}
use Rattle.model.specs.Listing.{Program, Response, waiting, playing, ended, printed, printed_tally, is_refused, totals, response, opened, showing, bad, putting, respond}
use Rattle.model.proofs.Tests.{if_true, if_false}
use Rattle.text.specs.Numbers.{line_of, Placed}
use Rattle.std.specs.declared.option.Option.{Option}
use Rattle.std.specs.declared.option.Option.TheVariants.{None, Some}
use Rattle.replies.specs.declared.Session.{Session}
use Rattle.replies.specs.declared.Answered.{Answered}
use Rattle.replies.specs.Shown.{shown, shown_all}
use Rattle.replies.specs.Sessions.{world_of, program_of, left_by, AnsweredBy}
use Rattle.replies.specs.Choices.{asked_of, RefusedAtOnce}
use Rattle.replies.proofs.Shows.{shows_one}
use Rattle.replies.proofs.Fronts.{lent_front, given_back, unchanged}
use Rattle.replies.proofs.Ways.{either, never}

-- a session that plays, and one that waits
abbrev pub live : ℕ → Bench → Session
live w b = record { live = true; long = w; bench = b }

abbrev pub played : Session → ℕ → Answered
played s e = record { session = s; end = e; stops = false }

pub program_live : (s : Session) (m l : List ℕ) → s.live ≡ true → program_of s m l ≡ playing (world_of s m l)
unfolding when◌then◌else◌
program_live s m l e = ap (λ (b : Bool). when b then playing (world_of s m l) else waiting m l) e

pub program_waits : (s : Session) (m l : List ℕ) → s.live ≡ false → program_of s m l ≡ waiting m l
unfolding when◌then◌else◌
program_waits s m l e = ap (λ (b : Bool). when b then playing (world_of s m l) else waiting m l) e

pub left_on : (b : Bool) (s : Session) (m l : List ℕ) → b ≡ false → left_by b s m l ≡ program_of s m l
unfolding when◌then◌else◌
left_on b s m l e = ap (λ (x : Bool). left_by x s m l) e

-- a begin or a step: the bench and its memory as the outcome has them, and the answer's text
pub shown_by : (d : Outcome) (b : Bench) (a : Answer) (w : ℕ) (m l : List ℕ) (e : ℕ) (before : List ℕ) (at : ℕ) (after : List ℕ) → record { world = lent b (take w m) l; answer = a } ≡ d → Placed before at (shown_all (printed b.words a)) e after →
    AnsweredBy (showing d) (played (live w b) e) m l before at after
shown_by d b a w m l e before at after o t = record {
  program = left_on false (live w b) m l refl ∙ program_live (live w b) m l refl ∙ ap (λ (x : Outcome). playing x.world) o;
  text = subst (λ (x : Outcome). Placed before at (shown_all (printed x.world.bench.words x.answer)) e after) o t;
}

-- a begin on the words that were lent
pub begun_by : (s b : Bench) (a : Answer) (i : ℕ) (op : Operation) (w n : ℕ) (m l : List ℕ) → n ≡ min w (length m) → record { world = lent b (take n m) l; answer = a } ≡ begin_of (lent s (take n m) l) i op →
    record { world = lent b (take w m) l; answer = a } ≡ begin_of (lent s (take w m) l) i op
begun_by s b a i op w n m l e o = subst (λ (x : List ℕ). record { world = lent b x l; answer = a } ≡ begin_of (lent s x l) i op) (lent_front w n m e) o

-- a begin that is refused at once
pub begin_at_once : (v : Bool) (W : World) (i : ℕ) (op : Operation) (c : Command) (r : Result ⊤ Refusal) → v ≡ true → valid_of W ≡ true → BeginStops W i op r → respond (playing W) c ≡ showing (begin_of W i op) → RefusedAtOnce v W c r
unfolding begin_of
begin_at_once v W i op c (Ok tt) h valid b e = tt
begin_at_once v W i op c (Err x) h valid b e = (h, e ∙ ap showing (if_true _ valid ∙ b))

-- a `who` outside the crew
pub who_at_once : (W : World) (i : ℕ) (c : Command) → valid_of W ≡ true → W.bench.crew ≤ i → c ≡ Who i → respond (playing W) c ≡ response (playing W) (printed W.bench.words (Refused NoSuchWorker))
unfolding respond who_of
who_at_once W i c v h e =
    ap (respond (playing W)) e ∙ ap (λ (t : Result ℕ Refusal). response (playing W) (printed_tally i t)) (if_true _ v ∙ if_false _ (le-ltb i W.bench.crew h))

-- a `put` with as many words as the bench's payloads have, and with another count
pub put_right : (W : World) (v : ℕ) (p : Payload) → v ≡ W.bench.words → putting W v p ≡ showing (begin_of W 0 (Put p))
put_right W v p e = if_true _ (eq-eqb v W.bench.words e)

pub put_wrong : (W : World) (v : ℕ) (p : Payload) → (v ≡ W.bench.words → ⊥) → putting W v p ≡ bad (playing W)
put_wrong W v p e = if_false _ (ne_eqb v W.bench.words e)

-- a `step` while a bench is played asks for steps
pub asks_steps : (c : Command) (i n : ℕ) → c ≡ Steps i n → asked_of true c ≡ None → ⊥
unfolding when◌then◌else◌
asks_steps c i n e h = let z : ◌≡◌ {A = Option (ℕ × ℕ)} (Some (i, n)) None = ap (asked_of true) (sym e) ∙ h in let y : ◌≡◌ {A = ℕ} 0 1 = cc in omega arith

-- a refused fresh leaves the store as it was
abbrev Leaves : List ℕ → Outcome → Type 0
Leaves m d = is_refused d.answer ≡ true → d.world.store ≡ m

fresh_leaves : (s : Setup) (m l : List ℕ) → Leaves m (fresh_of s m l)
unfolding fresh_of
fresh_leaves s m l =
    either (Leaves m) _ _ _ (either (Leaves m) _ _ _ (either (Leaves m) _ _ _ (either (Leaves m) _ _ _ (either (Leaves m) _ _ _
    (either (Leaves m) _ _ _ (λ e. never (sym e)) (λ e. refl)) (λ e. refl)) (λ e. refl)) (λ e. refl)) (λ e. refl)) (λ e. refl)

-- a response under another name
pub played_as : {R S : Response} {p : Answered} {m l before : List ℕ} {at : ℕ} {after : List ℕ} → S ≡ R → AnsweredBy R p m l before at after → AnsweredBy S p m l before at after
played_as {p = p} {m} {l} {before} {at} {after} e by = subst (λ (X : Response). AnsweredBy X p m l before at after) (sym e) by

-- `queue`, on the words that were lent, p as fresh leaves them
module _ (u : Setup) (w n : ℕ) (m l p : List ℕ) (b : Bench) (a : Answer) (e : ℕ) (before : List ℕ) (at : ℕ) (after : List ℕ)
    (lends : n ≡ min w (length m)) (kept : length p ≡ length (take n m))
    (made : record { world = lent b p l; answer = a } ≡ fresh_of u (take n m) l) (t : Placed before at (shown_all (printed b.words a)) e after) where
  made_on : record { world = lent b p l; answer = a } ≡ fresh_of u (take w m) l
  made_on = made ∙ ap (λ (x : List ℕ). fresh_of u x l) (lent_front w n m lends)

  shows : Placed before at (shown_all (printed (fresh_of u (take w m) l).world.bench.words (fresh_of u (take w m) l).answer)) e after
  shows = subst (λ (x : Outcome). Placed before at (shown_all (printed x.world.bench.words x.answer)) e after) made_on t

  verdict : (x : Bool) → is_refused a ≡ x → is_refused (fresh_of u (take w m) l).answer ≡ x
  verdict x h = ap (λ (d : Outcome). is_refused d.answer) (sym made_on) ∙ h

  choose : (x : Bool) (P Q : Program) → is_refused (fresh_of u (take w m) l).answer ≡ x → (when is_refused (fresh_of u (take w m) l).answer then P else Q) ≡ (when x then P else Q)
  choose x P Q h = ap (λ (y : Bool). when y then P else Q) h

  pub opened_by : is_refused a ≡ false → AnsweredBy (opened (waiting m l) (fresh_of u (take w m) l)) (played (live w b) e) (p ++ drop n m) l before at after
  unfolding when◌then◌else◌
  opened_by h = record {
    program =
        left_on false (live w b) (p ++ drop n m) l refl ∙ program_live (live w b) (p ++ drop n m) l refl
        ∙ ap (λ (x : List ℕ). playing (lent b x l)) (given_back w n m lends p kept)
        ∙ ap (λ (x : Outcome). playing x.world) made_on ∙ sym (choose false (waiting m l) (playing (fresh_of u (take w m) l).world) (verdict false h));
    text = shows;
  }

  pub refused_by : (s : Session) → s.live ≡ false → is_refused a ≡ true → AnsweredBy (opened (waiting m l) (fresh_of u (take w m) l)) (played s e) (p ++ drop n m) l before at after
  unfolding when◌then◌else◌
  refused_by s q h =
      let same : p ≡ take n m = ap (λ (x : Outcome). x.world.store) made ∙ fresh_leaves u (take n m) l (ap (λ (d : Outcome). is_refused d.answer) (sym made) ∙ h) in record {
        program =
            left_on false s (p ++ drop n m) l refl ∙ program_waits s (p ++ drop n m) l q ∙ ap (λ (x : List ℕ). waiting x l) (unchanged w n m lends p same)
            ∙ sym (choose true (waiting m l) (playing (fresh_of u (take w m) l).world) (verdict true h));
        text = shows;
      }

-- `who`: the restarts on the words that were lent
pub who_by : (s : Session) (i n : ℕ) (m l : List ℕ) (t : Result ℕ Refusal) (e : ℕ) (before : List ℕ) (at : ℕ) (after : List ℕ) → s.live ≡ true → n ≡ min s.long (length m) → t ≡ who_of (lent s.bench (take n m) l) i →
    Placed before at (shown_all (printed_tally i t)) e after →
    AnsweredBy (response (playing (world_of s m l)) (printed_tally i (who_of (world_of s m l) i))) (played s e) m l before at after
who_by s i n m l t e before at after v h f p = record {
  program = left_on false s m l refl ∙ program_live s m l v;
  text = subst (λ (x : Result ℕ Refusal). Placed before at (shown_all (printed_tally i x)) e after)
      (f ∙ ap (λ (x : List ℕ). who_of (lent s.bench x l) i) (lent_front s.long n m h)) p;
}

-- `end`: the counts of the words that were lent
pub total_by : (s : Session) (n : ℕ) (m l : List ℕ) (c : Counts) (e : ℕ) (before : List ℕ) (at : ℕ) (after : List ℕ) → n ≡ min s.long (length m) → c ≡ counts_of (lent s.bench (take n m) l) →
    Placed before at (line_of 84 (c.finished ∷ c.handouts ∷ c.different ∷ c.restarts ∷ c.window ∷ c.lost ∷ [])) e after →
    AnsweredBy (response ended (totals (counts_of (world_of s m l)) ∷ [])) (record { session = s; end = e; stops = true }) m l before at after
unfolding when◌then◌else◌ shown
total_by s n m l c e before at after h f t = record {
  program = refl;
  text = shows_one 84 (totals (counts_of (world_of s m l))) _ (refl) before at e after
      (subst (λ (x : Counts). Placed before at (line_of 84 (x.finished ∷ x.handouts ∷ x.different ∷ x.restarts ∷ x.window ∷ x.lost ∷ [])) e after)
      (f ∙ ap (λ (x : List ℕ). counts_of (lent s.bench x l)) (lent_front s.long n m h)) t);
}
