-- A step past the test of the limits, by how it goes.
use mathlib.Core.Bool.{Bool, true, false, true≢false}
use mathlib.Core.List.{List, []}
use mathlib.Core.Path.{◌≡◌, refl, sym, ap, subst, ◌∙◌}
use Prim.Native.Nat.{ℕ, zero, suc, ◌≤◌, ◌<◌}
use native.Mathlib.Omega.{arith}
use lib.Dec.{ltb}
use lib.ListN.{length}
use borrow.Author.Tests.{lt-ltb}
use Rattle.model.specs.declared.Kind.{Kind}
use Rattle.model.specs.declared.Store.{Store}
use Rattle.model.specs.declared.Line.{Line}
use Rattle.model.specs.declared.Line.TheVariants.{Idle, StealRead}
use Rattle.model.specs.declared.Bench.{Bench}
use Rattle.model.specs.declared.Queue.{Queue}
use Rattle.model.specs.declared.Room.{Room}
use Rattle.model.specs.declared.Refusal.{Refusal}
use Rattle.model.specs.declared.Refusal.TheVariants.{NoSuchWorker, IdleWorker, LogFull, WaitingFull}
use Rattle.model.specs.declared.Answer.{Answer}
use Rattle.model.specs.declared.Answer.TheVariants.{Accepted, Numbered, GoesOn, Finished, HandedOut, Empty, Full, Grown, Refused}
use Rattle.model.specs.Answers.{ends}
use Rattle.model.specs.Listing.{is_refused}
use Rattle.model.specs.Tests.{◌and◌}
use Rattle.model.specs.Lines.{Effect, goes, holds_link, line_step, fails_compare}
use Rattle.model.specs.Stores.{Shared, shared}
use Rattle.model.specs.Limits.{Within}
use Rattle.model.specs.World.{World, Outcome, refuse, memory, view_of, tag_bits, line_at, is_idle, is_steal1, is_past1}
use Rattle.model.specs.Calls.{lent, raised, joining, landing, no_room, stepped, commit, next_effect, step_in}
use Rattle.model.proofs.Tests.{if_true, if_false, and_right}
use Rattle.model.proofs.Attempts.{rests, stays, starts, only_first, idle_not, wins}
use Rattle.lines.specs.declared.Action.{Action}
use Rattle.lines.specs.Actions.{answer_by, fails_by, Does, Doable, Ground, Ready}
use Rattle.model.proofs.Landing.{reads_memory}
use Rattle.lines.proofs.FromLimits.{narrow_within, crew_within, few_within, none_within, ground_within, ready_within, link_within}
use Rattle.state.specs.declared.Returned.{Returned}
use Rattle.state.specs.Outcomes.{returned}
use Rattle.machine.specs.declared.Made.{Made}
use Rattle.machine.specs.declared.Made.TheVariants as made
use Rattle.machine.specs.declared.Moved.{Moved}
use Rattle.machine.specs.Steps.{AtOnce, moves, bench_after, answer_after, moved_by, left_by, acted_by, log_after, Fits, Steppable, effect_on, PlannedBy}
use Rattle.machine.proofs.Moves.{Leads, Prompt, roomy, acted, linked_line}

-- in a state within the limits the stores of a thief land at once, and without the mode the owner's do
pub at_once : {ρ : Room} (W : World) (i : ℕ) → Within ρ W → (i ≡ 0 → W.bench.delayed ≡ false) → AtOnce W.bench.delayed W.bench.waiting i
at_once W i v f = record { few = few_within W v; none = λ e. (f e, none_within W v (f e)) }

none_join : (d : Bool) (i : ℕ) (s : List Store) → (i ≡ 0 → d ≡ false) → joining d i s ≡ []
none_join true zero s f = absurd (true≢false (f refl))
none_join true (suc i) s f = refl
none_join false i s f = refl

all_land : (d : Bool) (i : ℕ) (s : List Store) → (i ≡ 0 → d ≡ false) → landing d i s ≡ s
all_land true zero s f = absurd (true≢false (f refl))
all_land true (suc i) s f = refl
all_land false i s f = refl

prompt_of : (b : Bench) (i : ℕ) (E : Effect) → AtOnce b.delayed b.waiting i → Prompt b i E
prompt_of b i E A = record {
  few = A.few;
  none = none_join b.delayed i E.stores (λ e. (A.none e).0);
  all = all_land b.delayed i E.stores (λ e. (A.none e).0);
}

-- and what such a worker reads is memory
pub sees_memory : (W : World) (i : ℕ) → AtOnce W.bench.delayed W.bench.waiting i → view_of W i ≡ memory W
sees_memory W zero A = reads_memory W (A.none refl).1
sees_memory W (suc i) A = refl

-- it can be stepped; k is the place of worker i's record, if there is such a worker
pub steppable : {ρ : Room} (W : World) (i k : ℕ) → Within ρ W → AtOnce W.bench.delayed W.bench.waiting i → (i < 8 → k ≡ i)
    → Steppable ρ W.bench.kind W.bench.width W.bench.words W.bench.crew W.bench.queue (length W.store) i (line_at W.bench.workers k)
steppable W i k v once at = record {
  narrow = narrow_within W v;
  crew = (crew_within W v).1;
  room = v.inside;
  the_ground = subst (λ (S : Shared). Ground W.bench.words S.queue (length W.store)) (sees_memory W i once) (ground_within W v i);
  ready = λ h.
      subst (λ (j : ℕ). Ready W.bench.kind W.bench.words W.bench.queue (length W.store) (line_at W.bench.workers j))
      (sym (at (omega (arith, h, (crew_within W v).1))))
      (subst (λ (S : Shared). Ready W.bench.kind W.bench.words S.queue (length W.store) (line_at W.bench.workers i))
      (sees_memory W i once) (ready_within W v i h));
  held = λ h e.
      let small : i < 8 = omega (arith, h, (crew_within W v).1) in
      let L = link_within W v i small e in
      (L.0, subst (λ (j : ℕ). is_past1 (line_at W.bench.workers j) ≡ true) (sym (at small)) L.1);
}

pub same_moved : (b : Bench) (k : ℕ) (x : Line) {d e : Made} {m m2 l l2 : List ℕ} → d ≡ e → m ≡ m2 → l ≡ l2
    → moved_by b k x d m l ≡ moved_by b k x e m2 l2
same_moved b k x e f g = rw (e, f, g)

module _ (ρ : Room) (b : Bench) (i : ℕ) (y : Line) (m l : List ℕ) (own : line_at b.workers i ≡ y) (h : i < b.crew) where
  -- refusal 8
  pub idle_worker : is_idle y ≡ true → refuse (lent b m l) IdleWorker ≡ step_in ρ (lent b m l) i
  idle_worker f = sym (if_true _ (lt-ltb _ _ h) ∙ if_true _ (ap is_idle own ∙ f))

  -- the line is done: x is the line that follows, d the action; or it links
  module _ (once : AtOnce b.delayed b.waiting i) (held : holds_link b.queue i ≡ true → (b.queue.linked ≡ true) × (is_past1 y ≡ true)) (x : Line)
      (next : (w : ℕ) → x ≡ (line_step ρ b.kind w b.words b.queue m i y).line) where
    leads : (d : Action) → (b.queue.linked and is_steal1 y) ≡ false
        → Does ρ b.words (line_step ρ b.kind (tag_bits b) b.words b.queue m i y) d
        → fails_by d ≡ fails_compare b.kind b.queue i y → Leads b.queue i y x d
    leads d plain does fails = record {
      held = λ e. (held e).1;
      plain = plain;
      stays = λ p a f.
          ap is_past1 (next (tag_bits b)) ∙ stays ρ b.kind (tag_bits b) b.words b.queue m i y p (ap ends (sym answered) ∙ a) (sym fails ∙ f);
      rests = λ a. ap is_past1 (next (tag_bits b)) ∙ idle_not (line_step ρ b.kind (tag_bits b) b.words b.queue m i y).line (rests ρ b.kind (tag_bits b) b.words b.queue m i y (ap ends (sym answered) ∙ a));
      fails = λ f e. absurd (true≢false (sym (sym fails ∙ f) ∙ wins b.kind b.queue i y (held e).0 e));
    }
      where
        answered : answer_by d ≡ (line_step ρ b.kind (tag_bits b) b.words b.queue m i y).answer
        answered = does.answer

    reads : commit ρ (lent b m l) i (line_step ρ b.kind (tag_bits b) b.words b.queue m i (line_at b.workers i)) ≡ commit ρ (lent b m l) i (next_effect ρ (lent b m l) i)
    reads =
        ap (λ (S : Shared). commit ρ (lent b m l) i (line_step ρ b.kind (tag_bits b) b.words S.queue S.store i (line_at b.workers i)))
        (sym (sees_memory (lent b m l) i once))

    pub line_done : (d : Action) → is_idle y ≡ false → (b.queue.linked and is_steal1 y) ≡ false → Doable b.words b.queue (length m) d
        → Does ρ b.words (line_step ρ b.kind (tag_bits b) b.words b.queue m i y) d
        → fails_by d ≡ fails_compare b.kind b.queue i y
        → moved_by b i x (acted_by b.words b.written l b.queue d) (left_by ρ b.words (shared b.queue m) d).store (log_after b.words b.written l d) ≡ step_in ρ (lent b m l) i
    line_done d f plain safe does fails =
        acted ρ b i y x m l own (line_step ρ b.kind (tag_bits b) b.words b.queue m i y) (prompt_of b i _ once) (sym (next (tag_bits b))) d (length m) does safe fails (leads d plain does fails)
        ∙ ap (λ (z : Line). commit ρ (lent b m l) i (line_step ρ b.kind (tag_bits b) b.words b.queue m i z)) (sym own)
        ∙ reads
        ∙ sym (if_true _ (lt-ltb _ _ h) ∙ if_false _ (ap is_idle own ∙ f))

    pub line_links : (b.queue.linked and is_steal1 y) ≡ true → moved_by b i x made.Links m l ≡ step_in ρ (lent b m l) i
    unfolding line_step
    line_links e =
        let first : y ≡ StealRead = only_first y (and_right b.queue.linked _ e) in
        let effect : Line → Effect = line_step ρ b.kind (tag_bits b) b.words b.queue m i in
        linked_line ρ b i y x m l own (prompt_of b i (goes x) once) e (ap (fails_compare b.kind b.queue i) first)
        (ap is_past1 (next (tag_bits b) ∙ ap (λ (z : Line). (effect z).line) first) ∙ starts ρ b.kind (tag_bits b) b.words b.queue m i)
        ∙ ap (commit ρ (lent b m l) i)
        (ap goes (next (tag_bits b) ∙ ap (λ (z : Line). (effect z).line) first)
        ∙ sym (ap effect (own ∙ first)))
        ∙ reads
        ∙ sym (if_true _ (lt-ltb _ _ h) ∙ if_false _ (ap is_idle (own ∙ first)))

-- a step of which nothing is done yet, by how it goes
module _ {ρ : Room} {κ : Kind} {w v n : ℕ} {q : Queue} {m : List ℕ} {i : ℕ} {y : Line} {r : Moved} where
  pub plans_outside : n ≤ i → r.made ≡ made.Refused NoSuchWorker → PlannedBy ρ κ w v n q m i y r
  plans_outside h e = record { outside = λ o. e; rests = λ o. absurd (omega (arith, h, o)); goes = λ o. absurd (omega (arith, h, o)) }

  module _ (h : i < n) where
    pub plans_rest : is_idle y ≡ true → r.made ≡ made.Refused IdleWorker → PlannedBy ρ κ w v n q m i y r
    plans_rest f e = record {
      outside = λ o. absurd (omega (arith, h, o));
      rests = λ o g. e;
      goes = λ o g. absurd (true≢false (sym f ∙ g));
    }

    module _ (f : is_idle y ≡ false) where
      pub plans_no_link : (q.linked and is_steal1 y) ≡ true → PlannedBy ρ κ w v n q m i y r
      plans_no_link e = record {
        outside = λ o. absurd (omega (arith, h, o));
        rests = λ o g. absurd (true≢false (sym g ∙ f));
        goes = λ o g s. absurd (true≢false (sym (and_right q.linked _ e) ∙ s));
      }

      pub plans_action : (d : Action) → r.made ≡ made.Waits d → r.line ≡ (effect_on ρ κ w v q m i y).line
          → Does ρ v (effect_on ρ κ w v q m i y) d → Doable v q (length m) d → PlannedBy ρ κ w v n q m i y r
      plans_action d e to does safe = record {
        outside = λ o. absurd (omega (arith, h, o));
        rests = λ o g. absurd (true≢false (sym g ∙ f));
        goes = λ o g s. (d, e, to, does, safe);
      }

-- a step whose stores land at once is not refused 18
clash : ◌≡◌ {A = ℕ} 0 1 → ⊥
clash e = omega (arith, e)

module _ (ρ : Room) (b : Bench) (i : ℕ) (m l : List ℕ) (once : AtOnce b.delayed b.waiting i)
    (sound : is_refused (next_effect ρ (lent b m l) i).answer ≡ false) where
  abbrev here : World
  here = lent b m l

  fullness : (o : Outcome) → step_in ρ here i ≡ o → (Refused WaitingFull ≡ o.answer → ⊥) → Refused WaitingFull ≡ (step_in ρ here i).answer → ⊥
  fullness o s other e = other (e ∙ ap (λ (x : Outcome). x.answer) s)

  pub never_full : Refused WaitingFull ≡ (step_in ρ here i).answer → ⊥
  never_full = by (ltb i b.crew) (is_idle (line_at b.workers i)) (no_room here (next_effect ρ here i)) refl refl refl
    where
      by : (x y z : Bool) → ltb i b.crew ≡ x → is_idle (line_at b.workers i) ≡ y → no_room here (next_effect ρ here i) ≡ z
          → Refused WaitingFull ≡ (step_in ρ here i).answer → ⊥
      by false y z f g h = fullness (refuse here NoSuchWorker) (if_false _ f) (λ t. clash (cc t))
      by true true z f g h = fullness (refuse here IdleWorker) (if_true _ f ∙ if_true _ g) (λ t. clash (cc t))
      by true false true f g h =
          fullness (refuse here LogFull)
          (if_true _ f ∙ if_false _ g ∙ if_false _ (roomy ρ b i (line_at b.workers i) Idle m l refl (next_effect ρ here i) (prompt_of b i _ once)) ∙ if_true _ h)
          (λ t. clash (cc t))
      by true false false f g h =
          fullness (stepped ρ here i (next_effect ρ here i))
          (if_true _ f ∙ if_false _ g ∙ if_false _ (roomy ρ b i (line_at b.workers i) Idle m l refl (next_effect ρ here i) (prompt_of b i _ once)) ∙ if_false _ h)
          (λ t. true≢false (ap is_refused t ∙ sound))

-- a step that is not refused, by the numbers of its cases and not 18, does not answer a refusal
ends_not_refused : (x : Answer) → ends x ≡ true → is_refused x ≡ false
ends_not_refused Accepted e = refl
ends_not_refused (Numbered n) e = refl
ends_not_refused GoesOn e = refl
ends_not_refused (Finished i t) e = refl
ends_not_refused (HandedOut i t) e = refl
ends_not_refused (Empty i) e = refl
ends_not_refused (Full i t) e = refl
ends_not_refused (Grown i) e = refl
ends_not_refused (Refused r) e = cc e

pub made_not_refused : (v : ℕ) (q : Queue) (k : ℕ) (d : Made) → (Refused WaitingFull ≡ answer_after d → ⊥) → Fits v q k d
    → ((r : Refusal) → d ≡ made.Refused r → ⊥) → is_refused (answer_after d) ≡ false
unfolding Fits answer_after
made_not_refused v q k made.Nothing n f h = refl
made_not_refused v q k (made.Refused r) n f h = absurd (h r refl)
made_not_refused v q k made.Fails n f h = refl
made_not_refused v q k made.Links n f h = refl
made_not_refused v q k (made.Claims a z) n f h = refl
made_not_refused v q k made.Publishes n f h = refl
made_not_refused v q k (made.Stops y) n f h = ends_not_refused y f.1
made_not_refused v q k (made.Ends a y) n f h = ends_not_refused y f.1
made_not_refused v q k (made.Grows y) n f h = ends_not_refused y f.2
made_not_refused v q k (made.Waits d) n f h = absurd (n refl)

-- a caller's state after a step: settled, as it was, with the worker's record replaced, or with a restart counted beside it
module _ (b : Bench) (k : ℕ) (x : Line) (d : Made) {m l : List ℕ} {o : Outcome} (step : moved_by b k x d m l ≡ o) where
  pub settles : {r : Returned} → r ≡ record { bench = bench_after b k x d; answer = answer_after d } → returned r m l ≡ o
  settles e = ap (λ (r : Returned). returned r m l) e ∙ step

  pub refuses : (r : Refusal) → d ≡ made.Refused r → record { world = lent b m l; answer = Refused r } ≡ o
  unfolding bench_after answer_after
  refuses r e = ap (λ (y : Made). moved_by b k x y m l) (sym e) ∙ step

  pub restarts : d ≡ made.Fails → {n : List ℕ} → n ≡ raised b.restarts k
      → record { world = lent (moves b k x b.queue n b.written) m l; answer = GoesOn } ≡ o
  unfolding bench_after answer_after
  restarts e f =
      ap (λ (n : List ℕ). record { world = lent (moves b k x b.queue n b.written) m l; answer = GoesOn }) f
      ∙ ap (λ (y : Made). moved_by b k x y m l) (sym e) ∙ step

  pub replaces : d ≡ made.Nothing → record { world = lent (moves b k x b.queue b.restarts b.written) m l; answer = GoesOn } ≡ o
  unfolding bench_after answer_after
  replaces e = ap (λ (y : Made). moved_by b k x y m l) (sym e) ∙ step
