-- A step of the owner while its stores are delayed, by how it goes.
use mathlib.Core.Bool.{Bool, true, false}
use mathlib.Core.List.{List}
use mathlib.Core.Path.{◌≡◌, refl, sym, ap, subst, ◌∙◌}
use mathlib.Core.Logic.{◌⊎◌, inl, inr, ⊎_elim}
use Prim.Native.Nat.{ℕ, ◌+◌, ◌≤◌, ◌<◌}
use native.Mathlib.Omega.{arith}
use lib.ListN.{length}
use borrow.Author.Tests.{lt-ltb, ltb-true, eqb-true, ne_eqb}
use Rattle.model.specs.declared.Line.{Line}
use Rattle.model.specs.declared.Queue.{Queue}
use Rattle.model.specs.declared.Room.{Room}
use Rattle.model.specs.declared.Store.{Store}
use Rattle.model.specs.declared.Waiting.{Waiting}
use Rattle.model.specs.declared.Bench.{Bench}
use Rattle.model.specs.declared.Answer.{Answer}
use Rattle.model.specs.declared.Answer.TheVariants.{GoesOn, Refused}
use Rattle.model.specs.declared.Refusal.{Refusal}
use Rattle.model.specs.declared.Refusal.TheVariants.{IdleWorker, LogFull, WaitingFull}
use Rattle.model.specs.Tests.{when◌then◌else◌, ◌and◌}
use Rattle.model.specs.Memory.{zeros}
use Rattle.model.specs.Answers.{ends, entry_length}
use Rattle.model.specs.Stores.{Shared, shared, landed_all, joined, in_line}
use Rattle.model.specs.Lines.{Effect, line_step, holds_link}
use Rattle.model.specs.Limits.{Within}
use Rattle.model.specs.World.{Outcome, refuse, memory, owners_view, tag_bits, line_at, stage, is_idle, is_steal1}
use Rattle.model.specs.Calls.{lent, log_full, no_room, commit, next_effect, step_in}
use Rattle.model.proofs.Tests.{if_true, if_false, and_left, and_both, and_false}
use Rattle.model.proofs.Attempts.{rests}
use Rattle.lines.specs.declared.Action.{Action}
use Rattle.lines.specs.declared.Action.TheVariants as action
use Rattle.lines.specs.Actions.{stores_by, claims_by, PlacedIn, answer_by, Does, Doable}
use Rattle.lines.proofs.Views.{Same, view_same}
use Rattle.lines.proofs.FromLimits.{limits_of, crew_within, link_within}
use Rattle.state.specs.declared.Returned.{Returned}
use Rattle.state.specs.Outcomes.{returned}
use Rattle.machine.specs.declared.Made.{Made}
use Rattle.machine.specs.declared.Made.TheVariants as made
use Rattle.machine.specs.Steps.{moves, unasked, with_array, bench_after, answer_after, moved_by, log_by, left_by, acted_by, log_after, effect_on, PlannedBy}
use Rattle.machine.proofs.Landing.{claims_land}
use Rattle.machine.proofs.Moves.{link_kept}
use Rattle.machine.proofs.Stepping.{idle_worker}
use Rattle.owner.specs.Reads.{Finishable, waits, at_once}
use Rattle.owner.proofs.Places.{long}
use Rattle.owner.proofs.Committing.{bare_does, bare_doable, answers_same, is_nothing, crowds, log_full_lem, done}

-- the owner's line is worked out: x is the line that follows, d its action
pub record Planned (ρ : Room) (b : Bench) (m l : List ℕ) (x : Line) (d : Action) : Type 0 where
  pub busy : is_idle (line_at b.workers 0) ≡ false
  pub next : x ≡ (next_effect ρ (lent b m l) 0).line
  pub does : Does ρ b.words (next_effect ρ (lent b m l) 0) d
  pub safe : Doable b.words (owners_view (lent b m l)).queue (length m) d

nothing_not_refused : {r : Refusal} → made.Nothing ≡ made.Refused r → ⊥
nothing_not_refused e = let z : ◌≡◌ {A = ℕ} 0 1 = cc e in omega (arith, z)

nothing_not_waits : {d : Action} → made.Nothing ≡ made.Waits d → ⊥
nothing_not_waits e = let z : ◌≡◌ {A = ℕ} 0 1 = cc e in omega (arith, z)

fails_not_refused : {r : Refusal} → made.Fails ≡ made.Refused r → ⊥
fails_not_refused e = let z : ◌≡◌ {A = ℕ} 0 1 = cc e in omega (arith, z)

fails_not_waits : {d : Action} → made.Fails ≡ made.Waits d → ⊥
fails_not_waits e = let z : ◌≡◌ {A = ℕ} 0 1 = cc e in omega (arith, z)

refused_not_waits : {r : Refusal} {d : Action} → made.Refused r ≡ made.Waits d → ⊥
refused_not_waits e = let z : ◌≡◌ {A = ℕ} 0 1 = cc e in omega (arith, z)

waits_as : {d e : Action} → made.Waits d ≡ made.Waits e → d ≡ e
waits_as e = cc e

module _ {ρ : Room} (b : Bench) (m l : List ℕ) (v : Within ρ (lent b m l)) where
  abbrev y : Line
  y = line_at b.workers 0

  abbrev p : Queue
  p = (owners_view (lent b m l)).queue

  same : Same p b.queue
  same = view_same b.words (memory (lent b m l)) (in_line b.waiting)

  -- the owner is one of the crew, and at a line of the owner
  there : 0 < b.crew
  there = (crew_within (lent b m l) v).0

  near : stage y < 4
  near = ltb-true _ _ (and_left _ _ (limits_of (lent b m l) v).owner)

  plain : is_steal1 y ≡ false
  plain = ne_eqb (stage y) 4 (λ z. omega (arith, near, z))

  unlinked : holds_link b.queue 0 ≡ false
  unlinked = by (holds_link b.queue 0) refl
    where
      by : (x : Bool) → holds_link b.queue 0 ≡ x → holds_link b.queue 0 ≡ false
      by true e = let five : stage y ≡ 5 = eqb-true _ _ (link_within (lent b m l) v 0 (omega arith) e).1 in absurd (omega (arith, near, five))
      by false e = e

  -- what was planned on the store z, which is what the owner reads
  module _ {z : List ℕ} (back : z ≡ (owners_view (lent b m l)).store) {x : Line} {c : Made}
      (plan : PlannedBy ρ b.kind b.width b.words b.crew p z 0 y (record { line = x; made = c })) where
    effect : effect_on ρ b.kind b.width b.words p z 0 y ≡ next_effect ρ (lent b m l) 0
    effect =
        ap (λ (t : Bool). line_step ρ b.kind (when t then 0 else b.width) b.words p z 0 y) same.linked
        ∙ ap (λ (s : List ℕ). line_step ρ b.kind (tag_bits b) b.words p s 0 y) back

    pub planned : (d : Action) → c ≡ made.Waits d → Planned ρ b m l x d
    planned d e = by (is_idle y) refl
      where
        by : (t : Bool) → is_idle y ≡ t → Planned ρ b m l x d
        by true f = absurd (refused_not_waits (sym (plan.rests there f) ∙ e))
        by false f =
            let (a, g, n, D, h) = plan.goes there f plain in
            let i : a ≡ d = waits_as (sym g ∙ e) in
            record {
              busy = f;
              next = n ∙ ap (λ (E : Effect). E.line) effect;
              does = subst (Does ρ b.words (next_effect ρ (lent b m l) 0)) i (subst (λ (E : Effect). Does ρ b.words E a) effect D);
              safe = subst (Doable b.words p (length m)) i (subst (λ (n : ℕ). Doable b.words p n a) (long (lent b m l) v back) h);
            }

    -- it idles, or its action waits: nothing is done in place
    idle_or_waits : (c ≡ made.Refused IdleWorker) ⊎ ((d : Action) × (c ≡ made.Waits d))
    idle_or_waits = by (is_idle y) refl
      where
        by : (t : Bool) → is_idle y ≡ t → (c ≡ made.Refused IdleWorker) ⊎ ((d : Action) × (c ≡ made.Waits d))
        by true f = inl (plan.rests there f)
        by false f = let (a, g, n, D, h) = plan.goes there f plain in inr (a, g)

    pub not_nothing : c ≡ made.Nothing → ⊥
    not_nothing f = ⊎_elim (λ g. nothing_not_refused (sym f ∙ g)) (λ g. nothing_not_waits (sym f ∙ g.1)) idle_or_waits

    pub not_fails : c ≡ made.Fails → ⊥
    not_fails f = ⊎_elim (λ g. fails_not_refused (sym f ∙ g)) (λ g. fails_not_waits (sym f ∙ g.1)) idle_or_waits

    -- nothing waits: refusal 8
    pub idles : ((d : Action) → c ≡ made.Waits d → ⊥) → refuse (lent b m l) IdleWorker ≡ step_in ρ (lent b m l) 0
    idles o = by (is_idle y) refl
      where
        by : (t : Bool) → is_idle y ≡ t → refuse (lent b m l) IdleWorker ≡ step_in ρ (lent b m l) 0
        by true f = idle_worker ρ b 0 y m l refl there f
        by false f =
            let (a, g, n, D, h) = plan.goes there f plain in
            absurd (o a g)

  prompt : {x : Line} {d : Action} → Planned ρ b m l x d → Doable b.words b.queue (length m) (at_once d)
  prompt {x} {d} P = bare_doable b.words p b.queue (length m) d same P.safe

  -- so the step can be finished
  pub finishable : {z : List ℕ} (back : z ≡ (owners_view (lent b m l)).store) {x : Line} {c : Made}
      → PlannedBy ρ b.kind b.width b.words b.crew p z 0 y (record { line = x; made = c }) → Finishable b (length z) c
  finishable back plan d e =
      subst (λ (n : ℕ). Doable b.words b.queue n (at_once d)) (sym (long (lent b m l) v back)) (prompt (planned back plan d e))

  -- a refusal, where store and log are as they were
  pub refuses : {r : Refusal} {t : Returned} {m1 l1 : List ℕ} → t ≡ record { bench = b; answer = Refused r } → m1 ≡ m → l1 ≡ l
      → refuse (lent b m l) r ≡ step_in ρ (lent b m l) 0 → returned t m1 l1 ≡ step_in ρ (lent b m l) 0
  refuses {r} {t} {m1} {l1} f g h e =
      ap (λ (x : Returned). returned x m1 l1) f
      ∙ ap (λ (x : List ℕ). record { world = lent b x l1; answer = Refused r }) g
      ∙ ap (λ (x : List ℕ). record { world = lent b m x; answer = Refused r }) h
      ∙ e

  module _ (mode : b.delayed ≡ true) {x : Line} {d : Action} (P : Planned ρ b m l x d) {n : ℕ} (more : n ≡ length (stores_by b.words d)) where
    abbrev E : Effect
    E = next_effect ρ (lent b m l) 0

    starts : {o : Outcome} → o ≡ commit ρ (lent b m l) 0 E → o ≡ step_in ρ (lent b m l) 0
    starts e = e ∙ sym (if_true _ (lt-ltb _ _ there) ∙ if_false _ P.busy)

    -- refusal 18
    pub crowded : 8 < b.waiting.count + n → refuse (lent b m l) WaitingFull ≡ step_in ρ (lent b m l) 0
    crowded h =
        starts
        (crowds ρ b m l mode E
        (subst (λ (s : List Store). 8 < b.waiting.count + length s) P.does.stores (subst (λ (k : ℕ). 8 < b.waiting.count + k) more h)))

    module _ (few : b.waiting.count + n ≤ 8) where
      room : b.waiting.count + length E.stores ≤ 8
      room = subst (λ (s : List Store). b.waiting.count + length s ≤ 8) P.does.stores (subst (λ (k : ℕ). b.waiting.count + k ≤ 8) more few)

      -- z is what is done at once
      module _ {z : Action} (rest : at_once d ≡ z) where
        asks : no_room (lent b m l) E ≡ (ends (answer_by z) and log_full b.words l b.written)
        asks =
            ap (λ (a : Answer). ends a and log_full b.words l b.written)
            (sym P.does.answer ∙ sym (answers_same d) ∙ ap answer_by rest)

        safe : Doable b.words b.queue (length m) z
        safe = subst (Doable b.words b.queue (length m)) rest (prompt P)

        placed : PlacedIn ρ z
        placed = subst (PlacedIn ρ) rest (bare_does ρ b.words E d P.does).place

        -- done: s is the line with the stores
        does : {s : Waiting} → s ≡ joined b.waiting (stores_by b.words d) → (ends (answer_by z) and log_full b.words l b.written) ≡ false
            → moved_by (waits b s) 0 x (acted_by b.words b.written l b.queue z) (left_by ρ b.words (shared b.queue m) z).store (log_after b.words b.written l z)
            ≡ step_in ρ (lent b m l) 0
        does {s} e h =
            let out : Waiting → Action → Outcome = λ s z.
            moved_by (waits b s) 0 x (acted_by b.words b.written l b.queue z) (left_by ρ b.words (shared b.queue m) z).store (log_after b.words b.written l z) in
            starts
            (ap (λ (s : Waiting). out s z) (e ∙ ap (joined b.waiting) P.does.stores)
            ∙ ap (out (joined b.waiting E.stores)) (sym rest)
            ∙ done ρ b m l mode E room d x p (length m) P.does P.next same P.safe (and_left _ _ (limits_of (lent b m l) v).owner)
            (λ h. (link_within (lent b m l) v 0 (omega arith) h).1)
            (rests ρ b.kind (tag_bits b) b.words p (owners_view (lent b m l)).store 0 y)
            (asks ∙ h))

      -- refusal 11
      pub log_refused : {a : Answer} → at_once d ≡ action.Stops a → log_full b.words l b.written ≡ true → refuse (lent b m l) LogFull ≡ step_in ρ (lent b m l) 0
      unfolding Doable answer_by
      log_refused {a} e f = starts (log_full_lem ρ b m l mode E room (asks e ∙ and_both (ends a) _ (safe e) f))

      -- the state left, by what is done at once; s is the line with the stores
      module _ {s : Waiting} (joins : s ≡ joined b.waiting (stores_by b.words d)) {m1 : List ℕ} where
        pub goes_on_lem : ((a z : ℕ) → at_once d ≡ action.Claims a z → ⊥) → ((t : Answer) → at_once d ≡ action.Stops t → ⊥) → m1 ≡ m
            → record { world = lent (moves (waits b s) 0 x b.queue b.restarts b.written) m1 l; answer = GoesOn } ≡ step_in ρ (lent b m l) 0
        unfolding acted_by log_after bench_after answer_after claims_by stores_by landed_all answer_by ◌and◌
        goes_on_lem not_claims not_stops back =
            ap (λ (t : List ℕ). record { world = lent (moves (waits b s) 0 x b.queue b.restarts b.written) t l; answer = GoesOn }) back
            ∙ does (is_nothing d not_claims not_stops) joins refl

        pub claims : {a z : ℕ} {m0 : List ℕ} → at_once d ≡ action.Claims a z → m0 ≡ m → m1 ≡ zeros m0 a z
            → record { world = lent (moves (unasked (waits b s)) 0 x (with_array b.queue a z) b.restarts b.written) m1 l; answer = GoesOn } ≡ step_in ρ (lent b m l) 0
        unfolding acted_by log_after bench_after answer_after claims_by PlacedIn stores_by landed_all answer_by Doable ◌and◌
        claims {a} {z} e back cleared =
            ap (λ (t : List ℕ). record { world = lent (moves (unasked (waits b s)) 0 x (with_array b.queue a z) b.restarts b.written) t l; answer = GoesOn })
            (cleared ∙ ap (λ (t : List ℕ). zeros t a z) back ∙ sym (ap (λ (S : Shared). S.store) (claims_land ρ b.queue m (length m) a z (placed e) (safe e))))
            ∙ does e joins refl

        pub stops : {a : Answer} {l1 : List ℕ} → at_once d ≡ action.Stops a → log_full b.words l b.written ≡ false → m1 ≡ m
            → l1 ≡ log_by b.words b.written l a
            → record { world = lent (moves (waits b s) 0 x b.queue b.restarts (b.written + entry_length b.words)) m1 l1; answer = a } ≡ step_in ρ (lent b m l) 0
        unfolding acted_by log_after bench_after answer_after claims_by stores_by landed_all answer_by
        stops {a} {l1} e f back logs =
            let out : Queue → List ℕ → List ℕ → Outcome = λ q t k.
            record { world = lent (moves (waits b s) 0 x q b.restarts (b.written + entry_length b.words)) t k; answer = a } in
            ap (λ (t : List ℕ). out b.queue t l1) back
            ∙ ap (out b.queue m) logs
            ∙ ap (λ (q : Queue). out q m (log_by b.words b.written l a)) (sym (link_kept b.queue 0 false unlinked))
            ∙ ap (λ (k : Made). moved_by (waits b s) 0 x k m (log_by b.words b.written l a)) (sym (if_false (made.Refused LogFull) f))
            ∙ does e joins (ap (λ (t : Bool). ends a and t) f ∙ and_false (ends a))
