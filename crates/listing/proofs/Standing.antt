-- Where consuming stands between two lines, and what each way to play a line makes of it.
use Rattle.std.specs.Prelude.{Err}
use Prim.Native.Nat.{ℕ, zero, suc, ◌+◌, ◌-◌, ◌≤◌, ◌<◌, min}
use native.Mathlib.Omega.{arith}
use mathlib.Core.Path.{◌≡◌, refl, ap, sym, subst, ◌∙◌}
use mathlib.Core.Bool.{Bool, true, false}
use mathlib.Core.List.{List, [], ◌++◌}
use lib.ListN.{length, take, drop}
use Rattle.model.specs.declared.Line.{Line}
use Rattle.model.specs.declared.Bench.{Bench}
use Rattle.model.specs.declared.Room.{Room}
use Rattle.model.specs.declared.Refusal.{Refusal}
use Rattle.model.specs.declared.Refusal.TheVariants.{WaitingFull}
use Rattle.model.specs.declared.Command.{Command}
use Rattle.model.specs.declared.Command.TheVariants.{Open, BeginPut, BeginTake, BeginSteal, Steps, Who, End, Bad}
use Rattle.model.specs.declared.Answer.{Answer}
use Rattle.model.specs.declared.Answer.TheVariants.{Refused}
use Rattle.model.specs.Tests.{when◌then◌else◌}
use Rattle.model.specs.Stores.{Shared}
use Rattle.model.specs.Lines.{line_step}
use Rattle.model.specs.World.{World, Outcome, room_alone, tag_bits, line_at}
use Rattle.model.specs.Limits.{valid_of, Within}
use Rattle.model.specs.Calls.{lent, step, next_effect, step_in, step_of}
use Rattle.model.specs.Listing.{Program, playing, printed, is_refused, respond, steps_of, Response}
use Rattle.model.proofs.Tests.{if_true}
use Rattle.model.proofs.Alone.{within_alone}
use Rattle.theorems.proofs.NeverForeign.{effect_answers}
use Rattle.machine.specs.declared.Made.{Made}
use Rattle.machine.specs.Steps.{bench_of, AtOnce, moved_by}
use Rattle.machine.proofs.Stepping.{at_once, sees_memory, never_full}
use Rattle.limits.proofs.Bounds.{bounds_of}
use Rattle.limits.proofs.Alone.{room_alone_lem}
use Rattle.rooms.proofs.Handed.{handed, within, same_step}
use Rattle.text.specs.Numbers.{Placed}
use Rattle.text.specs.Commands.{command_of}
use Rattle.replies.specs.declared.Session.{Session}
use Rattle.std.specs.declared.option.Option.{Option}
use Rattle.std.specs.declared.option.Option.TheVariants.{None, Some}
use Rattle.replies.specs.declared.Answered.{Answered}
use Rattle.replies.specs.Shown.{shown_all}
use Rattle.listing.specs.Listing.{until_newline}
use Rattle.listing.specs.Listing as spec
use Rattle.replies.specs.Sessions.{world_of, program_of, left_by, AnsweredBy}
use Rattle.replies.specs.Choices.{asked_of, RefusedAtOnce}
use Rattle.listing.specs.Consuming.{Live, Reachable, ConsumedBy}
use Rattle.replies.proofs.Fronts.{lent_front, given_back}
use Rattle.replies.proofs.Shows.{answer_most}
use Rattle.replies.proofs.Replies.{played, program_live, left_on, played_as}
use Rattle.listing.proofs.Consuming.{Yields, Onward, line_on, shows_next, consumed_on, consumed_over}
use Rattle.listing.proofs.Reaching.{live_call, live_valid, respond_reach}

-- what `consume` keeps of a session in place
abbrev pub session_of : Bool → ℕ → Bench → Session
session_of v w b = record { live = v; long = w; bench = b }

-- what was written, and then the listing of the rest from where the program stands, is the listing of all
pub record Standing (P : Program) (buf : List ℕ) (s : Session) (m l out : List ℕ) (used wrote : ℕ) : Type 0 where
  pub within : used ≤ length buf
  pub fits : wrote ≤ length out
  pub shows : Yields P buf (take wrote out) (program_of s m l) (drop used buf)
  pub reach : Reachable (program_of s m l)

pub reach_over : (s : Session) (m l : List ℕ) → Reachable (left_by true s m l)
unfolding when◌then◌else◌
reach_over s m l = tt

-- a line was played, and did not end the program, or did
module _ (P : Program) (buf : List ℕ) (s : Session) (m l out : List ℕ) (used wrote end : ℕ) (c : Command) (p : Answered) (m' l' out' : List ℕ)
    (h : Standing P buf s m l out used wrote) (e : end ≡ used + length (until_newline (drop used buf))) (n : end ≡ length buf → ⊥) (room : wrote + 256 ≤ length out)
    (says : c ≡ command_of (take (end - used) (drop used buf))) (by : AnsweredBy (respond (program_of s m l) c) p m' l' out wrote out') where
  on : Onward P buf (end + 1) p m' l' out'
  on = line_on P buf out (program_of s m l) used wrote end c p m' l' out' h.shows h.within e n room says by

  reaches : Reachable (left_by p.stops p.session m' l')
  reaches = subst Reachable (sym by.program) (respond_reach (program_of s m l) c h.reach)

  pub standing_on : p.stops ≡ false → Standing P buf p.session m' l' out' (end + 1) p.end
  standing_on q = record {
    within = on.within;
    fits = on.fits;
    shows = shows_next P buf (take p.end out') p.session m' l' (drop (end + 1) buf) p.stops q on.shows;
    reach = subst Reachable (left_on p.stops p.session m' l' q) reaches;
  }

  pub standing_over : p.stops ≡ true → ConsumedBy P buf (record { session = p.session; used = end + 1; wrote = p.end; stops = true }) m' l' out'
  standing_over q = consumed_over P buf p.session m' l' out' (end + 1) p.end on.within on.fits p.stops q on.shows

-- a line refused at once
pub at_once_by : (s : Session) (m l : List ℕ) (c : Command) (r : Refusal) (before : List ℕ) (at e : ℕ) (after : List ℕ) → RefusedAtOnce s.live (world_of s m l) c (Err r) → Placed before at (shown_all (printed s.bench.words (Refused r))) e after →
    AnsweredBy (respond (program_of s m l) c) (played s e) m l before at after
at_once_by s m l c r before at e after (v, q) t =
    let known : respond (program_of s m l) c ≡ record { program = playing (world_of s m l); output = printed s.bench.words (Refused r) } = ap (λ (P : Program). respond P c) (program_live s m l v) ∙ q in record {
      program = left_on false s m l refl ∙ program_live s m l v ∙ ap (λ (x : Response). x.program) (sym known);
      text = subst (λ (x : Response). Placed before at (shown_all x.output) e after) (sym known) t;
    }

-- a refusal's text fits where a line's does
pub refusal_room : (v : ℕ) (r : Refusal) (at n : ℕ) → at + 256 ≤ n → at + length (shown_all (printed v (Refused r))) ≤ n
refusal_room v r at n h = omega (arith, answer_most v (Refused r))

-- a line that asks for steps
steps_said : Option (ℕ × ℕ) → Command
steps_said None = End
steps_said (Some p) = Steps p.0 p.1

asked_steps : (v : Bool) (c : Command) (i n : ℕ) → asked_of v c ≡ Some (i, n) → (v ≡ true) × (c ≡ Steps i n)
unfolding when◌then◌else◌ steps_said
asked_steps v (Open k w z x s y) i n e = absurd (let z : ◌≡◌ {A = ℕ} 0 1 = cc in let b : ⊥ = omega arith in b)
asked_steps v (BeginPut y p) i n e = absurd (let z : ◌≡◌ {A = ℕ} 0 1 = cc in let b : ⊥ = omega arith in b)
asked_steps v BeginTake i n e = absurd (let z : ◌≡◌ {A = ℕ} 0 1 = cc in let b : ⊥ = omega arith in b)
asked_steps v (BeginSteal k) i n e = absurd (let z : ◌≡◌ {A = ℕ} 0 1 = cc in let b : ⊥ = omega arith in b)
asked_steps true (Steps k x) i n e = (refl, ap steps_said e)
asked_steps false (Steps k x) i n e = absurd (let z : ◌≡◌ {A = ℕ} 0 1 = cc in let b : ⊥ = omega arith in b)
asked_steps v (Who k) i n e = absurd (let z : ◌≡◌ {A = ℕ} 0 1 = cc in let b : ⊥ = omega arith in b)
asked_steps v End i n e = absurd (let z : ◌≡◌ {A = ℕ} 0 1 = cc in let b : ⊥ = omega arith in b)
asked_steps v Bad i n e = absurd (let z : ◌≡◌ {A = ℕ} 0 1 = cc in let b : ⊥ = omega arith in b)

pub asked_live : (v : Bool) (c : Command) (i n : ℕ) → asked_of v c ≡ Some (i, n) → v ≡ true
asked_live v c i n e = (asked_steps v c i n e).0

pub steps_by : (s : Session) (m l : List ℕ) (c : Command) (i n : ℕ) (p : Answered) (m' l' before : List ℕ) (at : ℕ) (after : List ℕ) → asked_of s.live c ≡ Some (i, n) →
    AnsweredBy (steps_of (world_of s m l) i n) p m' l' before at after → AnsweredBy (respond (program_of s m l) c) p m' l' before at after
unfolding respond
steps_by s m l c i n p m' l' before at after e by =
    let a = asked_steps s.live c i n e in
    let same : respond (program_of s m l) c ≡ steps_of (world_of s m l) i n = ap (λ (P : Program). respond P c) (program_live s m l a.0) ∙ ap (respond (playing (world_of s m l))) a.1 in
    played_as same by

-- while a bench is played it is reached, so within the limits
pub reached_of : (s : Session) (m l : List ℕ) → s.live ≡ true → Reachable (program_of s m l) → Live (world_of s m l)
reached_of s m l v r = subst Reachable (program_live s m l v) r

pub valid_of_lem : (s : Session) (m l : List ℕ) → Reachable (program_of s m l) → s.live ≡ true → valid_of (world_of s m l) ≡ true
valid_of_lem s m l r v = live_valid (reached_of s m l v r)

-- a worker's stores land at once, and none waits
pub once_of : (b : Bench) (w : ℕ) (m l : List ℕ) (i : ℕ) → Live (lent b (take w m) l) → AtOnce b.delayed b.waiting i
once_of b w m l i r = at_once (lent b (take w m) l) i (within_alone (lent b (take w m) l) (live_valid r)) (λ e. r.prompt)

pub none_of : (s : Session) (m l : List ℕ) → Reachable (program_of s m l) → s.live ≡ true → s.bench.waiting.count ≡ 0
none_of s m l r v = ((once_of s.bench s.long m l 0 (reached_of s m l v r)).none refl).1

pub crew_of : (s : Session) (m l : List ℕ) → Reachable (program_of s m l) → s.live ≡ true → s.bench.crew ≤ 8
crew_of s m l r v = (bounds_of (world_of s m l) (within_alone (world_of s m l) (valid_of_lem s m l r v)).limits).crew

pub valid_front : (b : Bench) (w n : ℕ) (m l : List ℕ) → n ≡ min w (length m) → Live (lent b (take w m) l) → valid_of (lent b (take n m) l) ≡ true
valid_front b w n m l e r = subst (λ (x : List ℕ). valid_of (lent b x l) ≡ true) (sym (lent_front w n m e)) (live_valid r)

-- the room that the worker at place k is handed
pub within_front : {ρ : Room} (b : Bench) (w n k : ℕ) (m l : List ℕ) → n ≡ min w (length m) → Live (lent b (take w m) l)
    → ρ ≡ handed (lent b (take n m) l) (line_at b.workers k) → Within ρ (lent b (take n m) l)
within_front b w n k m l e r q =
    let v = valid_front b w n m l e r in
    subst (λ (ρ : Room). Within ρ (lent b (take n m) l)) (sym q) (within (lent b (take n m) l) v (room_alone_lem (lent b (take n m) l) v).1.1 (line_at b.workers k))

-- a step on the words that were lent, p as it leaves them
pub stepped_front : {ρ : Room} (b : Bench) (w n : ℕ) (m l p l' : List ℕ) (i k : ℕ) (x : Line) (d : Made) → n ≡ min w (length m) → length p ≡ length (take n m)
    → Live (lent b (take w m) l) → (i < 8 → k ≡ i) → ρ ≡ handed (lent b (take n m) l) (line_at b.workers k) → moved_by b k x d p l' ≡ step_in ρ (lent b (take n m) l) i
    → moved_by b k x d (take w (p ++ drop n m)) l' ≡ step_of (lent b (take w m) l) i
unfolding step_of
stepped_front b w n m l p l' i k x d e f r at q o =
    let v = valid_front b w n m l e r in
    ap (λ (y : List ℕ). moved_by b k x d y l') (given_back w n m e p f) ∙ o
    ∙ ap (λ (ρ : Room). step_in ρ (lent b (take n m) l) i) q
    ∙ same_step (lent b (take n m) l) v (room_alone_lem (lent b (take n m) l) v).1.1 i k at
    ∙ ap (λ (y : List ℕ). step_in (room_alone (lent b y l)) (lent b y l) i) (lent_front w n m e)
    ∙ sym (if_true _ (live_valid r))

-- no line of a worker whose stores land at once answers a refusal: a state in which nothing waits has the same line
line_sound : (ρ : Room) (b : Bench) (m l : List ℕ) (i : ℕ) → AtOnce b.delayed b.waiting i → is_refused (next_effect ρ (lent b m l) i).answer ≡ false
line_sound ρ b m l zero once =
    ap (λ (S : Shared). is_refused (line_step ρ b.kind (tag_bits b) b.words S.queue S.store 0 (line_at b.workers 0)).answer)
    (sees_memory (lent b m l) 0 once)
    ∙ effect_answers ρ
    (lent (bench_of b.kind b.width b.words b.crew b.queue b.written b.delayed (record { stores = []; count = 0 }) b.aside b.used b.restarts b.workers)
    m l)
    0
line_sound ρ b m l (suc i) once = effect_answers ρ (lent b m l) (suc i)

-- so the listing's steps are not refused 18
pub not_full : (b : Bench) (w : ℕ) (m l : List ℕ) (i : ℕ) → Live (lent b (take w m) l) → (o : Outcome) → o ≡ step_of (lent b (take w m) l) i
    → Refused WaitingFull ≡ o.answer → ⊥
unfolding step_of
not_full b w m l i r o e f =
    let once : AtOnce b.delayed b.waiting i = once_of b w m l i r in
    let ρ = room_alone (lent b (take w m) l) in
    never_full ρ b i (take w m) l once (line_sound ρ b (take w m) l i once)
    (f ∙ ap (λ (x : Outcome). x.answer) (e ∙ if_true _ (live_valid r)))

-- consuming stops between two lines, the program not being over
pub consumed_so_far : {P : Program} {buf m l out : List ℕ} {s : Session} {used wrote : ℕ} {b : Bool} → Standing P buf s m l out used wrote → b ≡ false → (wrote + 256 ≤ length out → spec.Open (drop used buf)) →
    ConsumedBy P buf (record { session = s; used = used; wrote = wrote; stops = b }) m l out × Reachable (left_by b s m l)
consumed_so_far {P} {buf} {m} {l} {out} {s} {used} {wrote} h e rest = (
  subst (λ (x : Bool). ConsumedBy P buf (record { session = s; used = used; wrote = wrote; stops = x }) m l out) (sym e) (consumed_on P buf s m l out used wrote h.within h.fits h.shows rest),
  subst Reachable (sym (left_on _ s m l e)) h.reach,
)

-- a step leads on to what is reached
pub reached_step : (W X : World) (i : ℕ) (a : Answer) → record { world = X; answer = a } ≡ step_of W i → Live W → Live X
reached_step W X i a e r = subst (λ (d : Outcome). Live d.world) (sym e) (live_call r (step i))
