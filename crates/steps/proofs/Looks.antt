-- What a step reads: a thief, or the owner whose stores are not delayed, reads memory; else the owner reads memory with its waiting
-- stores put down.
use mathlib.Core.Bool.{Bool, true, false}
use mathlib.Core.List.{List}
use mathlib.Core.Path.{◌≡◌, refl, sym, ap, subst, ◌∙◌}
use Prim.Native.Nat.{ℕ, ◌<◌}
use native.Mathlib.Omega.{arith}
use lib.Dec.{eqb}
use lib.ListN.{length}
use borrow.Author.Tests.{eqb-true, eq-eqb}
use Rattle.model.specs.declared.Line.{Line}
use Rattle.model.specs.declared.Queue.{Queue}
use Rattle.model.specs.declared.Room.{Room}
use Rattle.model.specs.declared.Waiting.{Waiting}
use Rattle.model.specs.declared.Worker.{Worker}
use Rattle.model.specs.Tests.{◌and◌}
use Rattle.model.specs.Limits.{Within}
use Rattle.model.specs.World.{World, owners_view, line_at}
use Rattle.model.specs.Calls.{lent, step_in}
use Rattle.model.proofs.Tests.{and_left, and_right, last_holds}
use Rattle.state.specs.declared.Returned.{Returned}
use Rattle.state.specs.Outcomes.{returned}
use Rattle.machine.specs.declared.Made.{Made}
use Rattle.machine.specs.declared.Made.TheVariants as made
use Rattle.machine.specs.Steps.{bench_of, AtOnce, moved_by, Fits, Steppable, PlannedBy}
use Rattle.machine.proofs.Stepping.{at_once, steppable}
use Rattle.waiting.specs.Places.{KeptBy}
use Rattle.owner.specs.Reads.{Lifts, Finishable}
use Rattle.owner.proofs.Places.{long, lifts, steps_on}
use Rattle.owner.proofs.Stepping.{not_nothing, not_fails, finishable}

-- the step is the owner's while its stores are delayed, or the worker's stores land at once
delayed_owner : (d : Bool) (i : ℕ) {r : Bool} → r ≡ (d and eqb i 0) → r ≡ true → (d ≡ true) × (i ≡ 0)
delayed_owner d i e h = (and_left d _ (sym e ∙ h), eqb-true i 0 (and_right d _ (sym e ∙ h)))

stores_land : (d : Bool) (i : ℕ) {r : Bool} → r ≡ (d and eqb i 0) → r ≡ false → i ≡ 0 → d ≡ false
stores_land d i e h z = sym (last_holds d (eqb i 0) (eq-eqb i 0 z)) ∙ sym e ∙ h

-- the queue q and the store m that are read, and the words ks that are covered; r tells whether stores are delayed
pub record Looks (W : World) (r : Bool) (q : Queue) (m ks : List ℕ) : Type 0 where
  pub past : r ≡ false → (q ≡ W.bench.queue) × (m ≡ W.store)
  pub own : r ≡ true → (q ≡ (owners_view W).queue) × (m ≡ (owners_view W).store)
      × KeptBy W.bench.words W.bench.queue W.store W.bench.waiting ks

-- worker i, whose record is at place k
module _ {ρ : Room} (W : World) (i k : ℕ) (valid : Within ρ W) (at : i < 8 → k ≡ i) {r : Bool} (is : r ≡ (W.bench.delayed and eqb i 0)) {q : Queue} {m ks : List ℕ}
    (L : Looks W r q m ks) where
  abbrev Step : Queue → ℕ → ℕ → Line → Type 0
  Step p n j y = Steppable ρ W.bench.kind W.bench.width W.bench.words W.bench.crew p n j y

  abbrev Plan : Queue → List ℕ → ℕ → Line → Line → Made → Type 0
  Plan p t j y x c = PlannedBy ρ W.bench.kind W.bench.width W.bench.words W.bench.crew p t j y (record { line = x; made = c })

  owner : r ≡ true → (W.bench.delayed ≡ true) × (i ≡ 0) × (k ≡ 0)
  owner e =
      let (d, z) = delayed_owner W.bench.delayed i is e in
      (d, z, at (omega (arith, z)) ∙ z)

  once : r ≡ false → AtOnce W.bench.delayed W.bench.waiting i
  once e = at_once W i valid (stores_land W.bench.delayed i is e)

  pub same_long : length m ≡ length W.store
  same_long = by r refl
    where
      by : (t : Bool) → r ≡ t → length m ≡ length W.store
      by true e = long W valid (L.own e).1
      by false e = ap length (L.past e).1

  pub steps : Step q (length m) i (line_at W.bench.workers k)
  steps = by r refl
    where
      by : (t : Bool) → r ≡ t → Step q (length m) i (line_at W.bench.workers k)
      by true e =
          let (d, z, y) = owner e in
          subst (λ (j : ℕ). Step q (length m) j (line_at W.bench.workers k)) (sym z)
          (subst (λ (j : ℕ). Step q (length m) 0 (line_at W.bench.workers j)) (sym y) (steps_on W valid (L.own e).1 (L.own e).0))
      by false e =
          subst (λ (p : Queue). Step p (length m) i (line_at W.bench.workers k)) (sym (L.past e).0)
          (subst (λ (t : List ℕ). Step W.bench.queue (length t) i (line_at W.bench.workers k)) (sym (L.past e).1)
          (steppable W i k valid (once e) at))

  -- its stores land at once
  pub lands : (x : Line) (c : Made) {m2 l2 : List ℕ}
      → (r ≡ false
      → (d : Bool) (s : Waiting) (o u j : ℕ) (n : List ℕ) (ws : List Worker) → AtOnce d s i → (i < 8 → j ≡ i) → line_at ws j ≡ line_at W.bench.workers k
      → moved_by (bench_of W.bench.kind W.bench.width W.bench.words W.bench.crew q W.bench.written d s o u n ws) j x c m2 l2
      ≡ step_in ρ (lent (bench_of W.bench.kind W.bench.width W.bench.words W.bench.crew q W.bench.written d s o u n ws) m W.log) i)
      → r ≡ false → moved_by W.bench k x c m2 l2 ≡ step_in ρ W i
  lands x c {m2} {l2} step e =
      let b = W.bench in
      subst (λ (p : Queue). moved_by (bench_of b.kind b.width b.words b.crew p b.written b.delayed b.waiting b.aside b.used b.restarts b.workers) k x c m2 l2
      ≡ step_in ρ (lent (bench_of b.kind b.width b.words b.crew p b.written b.delayed b.waiting b.aside b.used b.restarts b.workers) W.store W.log) i) (L.past e).0
      (subst (λ (t : List ℕ). moved_by (bench_of b.kind b.width b.words b.crew q b.written b.delayed b.waiting b.aside b.used b.restarts b.workers) k x c m2 l2
      ≡ step_in ρ (lent (bench_of b.kind b.width b.words b.crew q b.written b.delayed b.waiting b.aside b.used b.restarts b.workers) t W.log) i) (L.past e).1
      (step e b.delayed b.waiting b.aside b.used k b.restarts b.workers (once e) at refl))

  pub fits_past : (c : Made) → Fits W.bench.words q W.bench.written c → r ≡ false → Fits W.bench.words W.bench.queue W.bench.written c
  fits_past c f e = subst (λ (p : Queue). Fits W.bench.words p W.bench.written c) (L.past e).0 f

  -- what is planned, as the owner reads: m2 is the store that is handed on
  plans : {x : Line} {c : Made} {m2 : List ℕ} → (r ≡ true → Plan q m i (line_at W.bench.workers k) x c) → m2 ≡ m → r ≡ true
      → Plan (owners_view W).queue m2 0 (line_at W.bench.workers 0) x c
  plans {x} {c} {m2} P same e =
      let (d, z, y) = owner e in
      subst (λ (t : List ℕ). Plan (owners_view W).queue t 0 (line_at W.bench.workers 0) x c) (sym same)
      (subst (λ (p : Queue). Plan p m 0 (line_at W.bench.workers 0) x c) (L.own e).0
      (subst (λ (j : ℕ). Plan q m 0 (line_at W.bench.workers j) x c) y
      (subst (λ (j : ℕ). Plan q m j (line_at W.bench.workers k) x c) z (P e))))

  -- a step that is done in place is none of the owner's delayed ones
  pub past_nothing : {x : Line} {c : Made} → (r ≡ true → Plan q m i (line_at W.bench.workers k) x c) → c ≡ made.Nothing → r ≡ false
  past_nothing P f = by r refl
    where
      by : (t : Bool) → r ≡ t → r ≡ false
      by true e = absurd (not_nothing W.bench W.store W.log valid (L.own e).1 (plans P refl e) f)
      by false e = e

  pub past_fails : {x : Line} {c : Made} → (r ≡ true → Plan q m i (line_at W.bench.workers k) x c) → c ≡ made.Fails → r ≡ false
  past_fails P f = by r refl
    where
      by : (t : Bool) → r ≡ t → r ≡ false
      by true e = absurd (not_fails W.bench W.store W.log valid (L.own e).1 (plans P refl e) f)
      by false e = e

  -- the owner's step, finished on the store m2 and the log l2 as they were handed on
  module _ {x : Line} {c : Made} {m2 l2 : List ℕ} (P : r ≡ true → Plan q m i (line_at W.bench.workers k) x c)
      (kept : r ≡ true → (m2 ≡ m) × (l2 ≡ W.log)) (e : r ≡ true) where
    reads : m2 ≡ (owners_view W).store
    reads = (kept e).0 ∙ (L.own e).1

    pub can_finish : (W.bench.delayed ≡ true) × Lifts W.bench (length m2) × Finishable W.bench (length m2) c
    can_finish = ((owner e).0, lifts W valid reads, finishable W.bench W.store W.log valid reads (plans P (kept e).0 e))

    pub finishes : {t : Returned} {m3 l3 : List ℕ}
        → ((ρ : Room) (n : List ℕ) → Within ρ (lent W.bench n l2) → m2 ≡ (owners_view (lent W.bench n l2)).store
        → KeptBy W.bench.words W.bench.queue n W.bench.waiting ks
        → PlannedBy ρ W.bench.kind W.bench.width W.bench.words W.bench.crew (owners_view (lent W.bench n l2)).queue m2 0 (line_at W.bench.workers 0) (record { line = x; made = c })
        → returned t m3 l3 ≡ step_in ρ (lent W.bench n l2) 0)
        → returned t m3 l3 ≡ step_in ρ W i
    finishes F =
        F ρ W.store (subst (λ (l : List ℕ). Within ρ (lent W.bench W.store l)) (sym (kept e).1) valid) reads (L.own e).2 (plans P (kept e).0 e)
        ∙ ap (λ (l : List ℕ). step_in ρ (lent W.bench W.store l) 0) (kept e).1
        ∙ ap (step_in ρ W) (sym (owner e).1)
