-- Demand 3. The calls' events, newest first, are a history. From fresh on, each call keeps the invariant and adds an event
-- that is good in its history (`run_kept`), where the premise holds at each compare (`prem_at`). A good event says what the
-- claim says of its call; the places of the list and the history tell the same (Places, Translate).
use mathlib.Core.Path.{◌≡◌, refl, sym, ◌∙◌, ap, subst}
use mathlib.Core.Bool.{Bool, true, false, cond}
use mathlib.Core.Logic.{◌⊎◌, inl, inr}
use mathlib.Core.List.Memᴰ
use mathlib.Core.List.{List, [], ◌∷◌, Memᴰ}
use Prim.Native.Nat.{ℕ, zero, suc, ◌+◌, ◌-◌, ◌%◌, ◌≤◌, ◌<◌}
use native.Mathlib.Omega.{arith}
use native.Mathlib.Nat.{mod-eq_of_lt}
use lib.ListN.{take, drop}
use Rattle.model.specs.declared.Room.{Room}
use Rattle.model.specs.declared.Kind.{Kind}
use Rattle.model.specs.declared.Kind.TheVariants.{Lifo, Fifo, Deque}
use Rattle.model.specs.declared.Task.{Task}
use Rattle.model.specs.declared.Line.{Line}
use Rattle.model.specs.declared.Queue.{Queue}
use Rattle.model.specs.declared.Store.{Store}
use Rattle.model.specs.declared.Answer.TheVariants.{Finished}
use Rattle.model.specs.Tests.{when◌then◌else◌}
use Rattle.model.specs.Tasks.{gathered}
use Rattle.model.proofs.Tasks.{same_words}
use Rattle.model.specs.Stores.{Shared, shared, in_line, oldest}
use Rattle.theorems.proofs.Folds.{laid, words, landed_is}
use Rattle.model.specs.Figures.{slot}
use Rattle.theorems.proofs.Words.{off}
use Rattle.model.specs.Lines.{size, word_of}
use Rattle.model.specs.World.{World, Outcome, tag_bits}
use Rattle.model.specs.Calls.{fresh_of, Call, drain, call_in}
use Rattle.model.specs.Listing.{is_refused}
use Rattle.model.specs.Run.{Played}
use Rattle.model.specs.Window.{tasks, window_index}
use Rattle.theorems.specs.Demand3.{At, Begins, Finishes, HandsOut, Empties, Attempt, Done, FinishedBefore, DrainedBy, Concerned, AllOut, Stands, waits, drains, between, NothingLost, FewPutsIn, Sound}
use Rattle.theorems.proofs.Words.{cell, word_w}
use Rattle.theorems.proofs.Events.{Event, quiet, line_1, finished_put, handed_out, found_empty, began_put, waiting_put, event_of_finish, event_of_drain, History, Out, Told, Concerns, Emptied, GoodHistory, GoodEvent, Premise}
use Rattle.theorems.proofs.Remainders.{le_or_lt}
use Rattle.theorems.proofs.Indices.{start_ix}
use Rattle.theorems.proofs.Owed.{view, Label}
use Rattle.theorems.proofs.Invariant.{Base, Since, Due, DueIf, drain_of_lem}
use Rattle.theorems.proofs.Settle.{Settled, settle}
use Rattle.theorems.proofs.OwnerRun.{all_done}
use Rattle.theorems.proofs.Cases.{drain_by}
use Rattle.theorems.proofs.Valid.{thieves, Whole}
use Rattle.theorems.proofs.WholeRun.{storing, others_whole, call_whole}
use Rattle.theorems.proofs.Company.{Turn, others, own, played_in, after_in, InCompany}
use Rattle.theorems.proofs.Places.{EventAt, EventLine1, events_between, rev, past, said_rev, prem_rev, mem_rev, at_mem, at_rev, rev_at, line1_at, prem_at, newest, at_one}
use Rattle.theorems.proofs.SoundRun.{event_in, event_at, events, InvOf, call_like, prem_tail, run_kept}
use Rattle.theorems.proofs.Fresh.{Started, fresh_started, fresh_runs, from_company}
use Rattle.theorems.proofs.PutNumbers.{one_number}
use Rattle.theorems.proofs.Translate.{at_map, at_some, at_true, True, to_ev, from_ev, told, done_ev, ev_wait, ev_began, empty_ev, out_ev, ev_out, ev_attempt, few_ev, drain_sum, drained_is, delayed_all}

-- an index of the window has a slot of the window
in_slot : (κ : Kind) (w ω : ℕ) (δ : Bool) (Q : Queue) (μ : List ℕ) (ol oh : ℕ) (φ : ℕ → Line) (h : History) (I : Base κ w ω δ Q μ ol oh [] φ h) (i : ℕ) → I.lo ≤ i → i < I.hi
    → (k : ℕ) × (k < tasks κ Q.anchor) × (slot κ (size ω Q) (window_index κ Q.anchor k) ≡ i % size ω Q)
in_slot Lifo w ω δ Q μ ol oh φ h I i l u = (i, omega (arith, I.rep.2), sym (mod-eq_of_lt (omega (arith, I.rep.1, I.core.low, I.core.high, I.core.fit))))
in_slot Fifo w ω δ Q μ ol oh φ h I i l u = (i - I.lo, omega (arith, I.rep.0, I.rep.1), ap (λ (x : ℕ). x % size ω Q) sum)
  where
    sum : Q.anchor.head + (i - I.lo) ≡ i
    sum = omega (arith, I.rep.0)
in_slot Deque w ω δ Q μ ol oh φ h I i l u = (i - I.lo, omega (arith, I.rep.1), here)
  where
    sum : I.lo + (i - I.lo) ≡ i
    sum = omega arith

    here : (Q.anchor.head + (i - I.lo)) % size ω Q ≡ i % size ω Q
    here =
        start_ix I.sized Deque Q.anchor.head I.lo (i - I.lo) (omega (arith, I.core.low, I.core.high, I.core.fit)) I.rep.0
        ∙ ap (λ (x : ℕ). x % size ω Q) sum

-- a task that stands in the window, as the owner reads it
abbrev StandsIn : World → Task → Shared → Type 0
StandsIn W t S =
    (i : ℕ) × (i < tasks W.bench.kind S.queue.anchor)
    × (gathered (W.bench.words + 1) (word_of W.bench.kind W.bench.words S.queue S.store (S.queue.published - 1) (window_index W.bench.kind S.queue.anchor i)) ≡ t)

stands_read : (W : World) (t : Task)
    → StandsIn W t (shared (laid (in_line W.bench.waiting) W.bench.queue) (words W.bench.words W.bench.queue.arrays (in_line W.bench.waiting) W.store)) → Stands W t
stands_read W t s = subst (StandsIn W t) (sym (landed_is W.bench.words W.bench.queue W.store (in_line W.bench.waiting))) s

-- PLACES. A call of the list: its answer is the call's, its state is whole, and stores are delayed as at the start
pub record Fair (δ : Bool) (s : Played) : Type 0 where
  pub true_answer : True s
  pub whole : Whole s.before
  pub way : s.before.bench.delayed ≡ δ

pub at_sound : (ts : List Turn) (W : World) (δ : Bool) → InCompany W ts → Whole W → W.bench.delayed ≡ δ → (j : ℕ) (P Q : Played → Type 0) → ((s : Played) → Fair δ s → P s → Q s) → At (played_in W ts) j P → At (played_in W ts) j Q
unfolding played_in InCompany
at_sound [] W δ C H e j P Q f a = a
at_sound (others m ∷ ts) W δ (O, C) H e j P Q f a = at_sound ts (storing W m) δ C (others_whole H O) e j P Q f a
at_sound (own ρ c ∷ ts) W δ (R, C) H e zero P Q f a = f _ (record { true_answer = (ρ, refl); whole = H; way = e }) a
at_sound (own ρ c ∷ ts) W δ (R, C) H e (suc j) P Q f a = at_sound ts (call_in ρ W c).world δ C (call_whole ρ H R c) ((call_like ρ W c).delayed ∙ e) j P Q f a

at_both : (T : List Played) (j : ℕ) (P Q : Played → Type 0) → At T j P → At T j Q → At T j (λ s. P s × Q s)
at_both [] j P Q a b = a
at_both (s ∷ T) zero P Q a b = (a, b)
at_both (s ∷ T) (suc j) P Q a b = at_both T j P Q a b

at_const : (T : List Played) (j : ℕ) (C : Type 0) → At T j (λ s. C) → C
at_const [] j C a = absurd a
at_const (s ∷ T) zero C a = a
at_const (s ∷ T) (suc j) C a = at_const T j C a

-- without delayed stores no drain puts anything down
drain_refused : (ρ : Room) (W : World) → Whole W → W.bench.delayed ≡ false → is_refused (call_in ρ W drain).answer ≡ true
drain_refused ρ W H e = drain_by (λ (D : Outcome). is_refused D.answer ≡ true) W (λ r l. refl) ρ (λ some. absurd (omega (arith, H.mode e)))

finished_now : (t : Task) (s : Played) → Fair false s → event_at s ≡ finished_put t → Finishes t s
finished_now t s S e = go (told s (finished_put t) e)
  where
    go : ((i : ℕ) × (s.answer ≡ Finished i t) × (s.before.bench.delayed ≡ false)) ⊎ (s.call ≡ drain) → Finishes t s
    go (inl (i, q, x)) = (i, q)
    go (inr c) = absurd (never none)
      where
        refused : is_refused s.answer ≡ true
        refused = ap is_refused (S.true_answer.1 ∙ ap (λ (c : Call). (call_in S.true_answer.0 s.before c).answer) c) ∙ drain_refused S.true_answer.0 s.before S.whole S.way

        never : quiet ≡ finished_put t → ⊥
        never q = let z : ◌≡◌ {A = ℕ} 0 1 = cc in omega arith

        none : quiet ≡ finished_put t
        none = sym (ap (λ (x : Bool). cond x quiet (event_of_drain s.before.bench.kind s.before.bench.words s.before.bench.queue s.before.store (oldest s.before.bench.waiting))) refused) ∙ sym (ap (λ (c : Call). event_in s.before c s.answer) c) ∙ e

-- the event of a call that finishes a put
finish_now : (t : Task) (s : Played) → Fair false s → Finishes t s → event_at s ≡ finished_put t
finish_now t s S f = done_ev t s S.true_answer f ∙ ap (λ (δ : Bool). event_of_finish δ s.before.bench.waiting.count t) S.way

finish_later : (t : Task) (s : Played) → Fair true s → Finishes t s → event_at s ≡ waiting_put t (s.before.bench.waiting.count + 1)
finish_later t s S f = done_ev t s S.true_answer f ∙ ap (λ (δ : Bool). event_of_finish δ s.before.bench.waiting.count t) S.way

waits_is : (s : Played) → Fair true s → waits s ≡ s.before.bench.waiting.count + 1
unfolding when◌then◌else◌
waits_is s S = ap (λ (δ : Bool). when δ then s.before.bench.waiting.count + 1 else 0) S.way

-- HISTORIES. A put's answer, and the drains since
since_rev : (t : Task) (n d : ℕ) (T : List Event) (h : History) → Since t n d h → Since t n (d + drain_sum T) (rev T h)
unfolding rev
since_rev t n d [] h S = subst (λ (x : ℕ). Since t n x h) {x = d} {y = d + 0} (omega arith) S
since_rev t n d (e ∷ T) h S =
    subst (λ (x : ℕ). Since t n x (rev T (e ∷ h))) {x = d + drain_of_lem e + drain_sum T} {y = d + (drain_sum T + drain_of_lem e)} (omega arith) (since_rev t n (d + drain_of_lem e) T (e ∷ h) (inr (d, refl, S)))

since_at : (t : Task) (n : ℕ) (E : List Event) (k l : ℕ) (h : History) → EventAt E k (waiting_put t n) → k < l → Since t n (drain_sum (events_between k l E)) (rev (take l E) h)
unfolding rev
since_at t n [] k l h a p = absurd a
since_at t n (x ∷ E) k zero h a p = absurd (omega arith)
since_at t n (x ∷ E) zero (suc l) h a p =
    subst (λ (y : ℕ). Since t n y (rev (take l E) (x ∷ h))) {x = 0 + drain_sum (take l E)} {y = drain_sum (take (suc l - 1) E)} (omega (arith, ap (λ (m : ℕ). drain_sum (take m E)) {x = l} {y = suc l - 1} (omega arith)))
    (since_rev t n 0 (take l E) (x ∷ h) (inl (a, refl)))
since_at t n (x ∷ E) (suc k) (suc l) h a p =
    subst (λ (y : ℕ). Since t n y (rev (take l E) (x ∷ h))) {x = drain_sum (take (l - suc k) (drop (suc k) E))} {y = drain_sum (take (suc l - suc (suc k)) (drop (suc k) E))}
    (ap (λ (m : ℕ). drain_sum (take m (drop (suc k) E))) {x = l - suc k} {y = suc l - suc (suc k)} (omega arith)) (since_at t n E k l (x ∷ h) a (omega arith))

after_like : (ts : List Turn) (W : World) → (after_in W ts).bench.delayed ≡ W.bench.delayed
unfolding after_in
after_like [] W = refl
after_like (others m ∷ ts) W = after_like ts (storing W m)
after_like (own ρ c ∷ ts) W = after_like ts (call_in ρ W c).world ∙ (call_like ρ W c).delayed

-- the turns up to the first l calls
front : ℕ → List Turn → List Turn
front zero ts = []
front (suc l) [] = []
front (suc l) (others m ∷ ts) = others m ∷ front (suc l) ts
front (suc l) (own ρ c ∷ ts) = own ρ c ∷ front l ts

events_front : (ts : List Turn) (W : World) (l : ℕ) → events (played_in W (front l ts)) ≡ take l (events (played_in W ts))
unfolding played_in front
events_front ts W zero = refl
events_front [] W (suc l) = refl
events_front (others m ∷ ts) W (suc l) = events_front ts (storing W m) (suc l)
events_front (own ρ c ∷ ts) W (suc l) = ap (λ (x : List Event). event_in W c (call_in ρ W c).answer ∷ x) (events_front ts (call_in ρ W c).world l)

company_front : (ts : List Turn) (W : World) (l : ℕ) → InCompany W ts → InCompany W (front l ts)
unfolding InCompany front
company_front ts W zero C = tt
company_front [] W (suc l) C = tt
company_front (others m ∷ ts) W (suc l) (O, C) = (O, company_front ts (storing W m) (suc l) C)
company_front (own ρ c ∷ ts) W (suc l) (R, C) = (R, company_front ts (call_in ρ W c).world l C)

premise_front : (κ : Kind) (w : ℕ) (T : List Event) (l : ℕ) (h : History) → Premise κ w (rev T h) → Premise κ w (rev (take l T) h)
unfolding rev
premise_front κ w T zero h f = prem_tail κ w T h f
premise_front κ w [] (suc l) h f = f
premise_front κ w (e ∷ T) (suc l) h f = premise_front κ w T l (e ∷ h) f

-- demand 3 of a queue in company
pub sound_in : (ts : List Turn) (U : World) → Started U → InCompany U ts → FewPutsIn U.bench.kind (tag_bits U.bench) (played_in U ts) → Sound (played_in U ts) (after_in U ts)
unfolding past
sound_in ts U F C f =
    record {
      kept = λ b j t D. keep t (Z.base.core.all t (all_done _ _ _ _ _ _ _ _ _ _ _ Z R.0.due t (ended_in t j (at_end j t D.finished))));
      belongs = λ j t a. gave j t (at_some T j (λ i s. event_at s ≡ handed_out i t) (at_true ts U j (HandsOut t) (λ s. (i : ℕ) × (event_at s ≡ handed_out i t)) (out_ev t) a));
      none_left = λ j i a. left j i (ev j (found_empty i) (at_true ts U j (Empties i) (λ s. event_at s ≡ found_empty i) (empty_ev i) a));
      ended = λ j t a. begun j t (at_end j t a);
      numbers = one_number ts U;
    }
  where
    d : Bool
    d = U.bench.delayed

    T : List Played
    T = played_in U ts

    E : List Event
    E = events T

    prem : Premise U.bench.kind (tag_bits U.bench) (rev E [])
    prem = prem_rev U.bench.kind (tag_bits U.bench) E [] (prem_at U.bench.kind (tag_bits U.bench) E (few_ev ts U f)) tt

    R : InvOf (after_in U ts) (rev E []) × GoodHistory d (rev E [])
    R = run_kept U.bench.kind (tag_bits U.bench) d ts U [] C (fresh_runs U F) prem

    Q : Queue
    Q = (after_in U ts).bench.queue

    μ : List ℕ
    μ = (after_in U ts).store

    v : ℕ
    v = (after_in U ts).bench.words

    ss : List Store
    ss = in_line (after_in U ts).bench.waiting

    Z : Settled (after_in U ts).bench.kind (tag_bits (after_in U ts).bench) (after_in U ts).bench.words (after_in U ts).bench.delayed (after_in U ts).bench.queue (after_in U ts).store R.0.own_lo R.0.own_hi (in_line (after_in U ts).bench.waiting) (thieves (after_in U ts).bench.workers) (rev E [])
    Z = settle _ _ _ _ _ _ _ _ _ _ _ R.0.base

    ev : (j : ℕ) (x : Event) → At T j (λ s. event_at s ≡ x) → EventAt E j x
    ev j x a = to_ev T j x a

    good : (j : ℕ) (x : Event) → EventAt E j x → GoodEvent d x (past E j)
    good j x a = said_rev (GoodEvent d) (GoodHistory d) (λ e h G. G) E [] j x a R.1

    place : (j : ℕ) (x : Event) → Memᴰ x (past E j) → (k : ℕ) × (k < j) × EventAt E k x
    place j x y = go (mem_rev E [] j x y)
      where
        go : ((k : ℕ) × (k < j) × EventAt E k x) ⊎ Memᴰ x [] → (k : ℕ) × (k < j) × EventAt E k x
        go (inl r) = r
        go (inr r) = absurd (Memᴰ.not-nil r)

    -- a put's end: in memory at once, or waiting
    Ends : ℕ → Task → Type 0
    Ends j t = ((d ≡ false) × EventAt E j (finished_put t)) ⊎ ((d ≡ true) × (n : ℕ) × EventAt E j (waiting_put t n))

    at_end : (j : ℕ) (t : Task) → At T j (Finishes t) → Ends j t
    at_end j t a = go d refl
      where
        go : (x : Bool) → d ≡ x → Ends j t
        go false q = inl (q, ev j (finished_put t) (at_sound ts U false C F.whole q j (Finishes t) (λ s. event_at s ≡ finished_put t) (finish_now t) a))
        go true q =
            let r = at_some T j (λ n s. event_at s ≡ waiting_put t n) (at_sound ts U true C F.whole q j (Finishes t) (λ s. (n : ℕ) × (event_at s ≡ waiting_put t n)) (λ s S x. (_, finish_later t s S x)) a) in
            inr (q, r.0, ev j (waiting_put t r.0) r.1)

    ended_in : (t : Task) (j : ℕ) → Ends j t → Told t (rev E [])
    ended_in t j (inl (q, a)) = inl (at_rev E [] j (finished_put t) a)
    ended_in t j (inr (q, n, a)) = inr (n, at_rev E [] j (waiting_put t n) a)

    began_at : (j : ℕ) (t : Task) → Memᴰ (began_put t) (past E j) → At T j (Finishes t) → (b : ℕ) × Done T b j t
    began_at j t x a =
        let r = place j (began_put t) x in (
          r.0,
          record {
            begun = at_map T r.0 (λ s. event_at s ≡ began_put t) (Begins t) (ev_began t) (from_ev T r.0 (began_put t) r.2);
            later = r.1;
            finished = a;
          },
        )

    waited : (j : ℕ) (t : Task) (n : ℕ) → EventAt E j (waiting_put t n) → (b : ℕ) × Done T b j t
    waited j t n a = began_at j t (good j (waiting_put t n) a) (at_map T j (λ s. event_at s ≡ waiting_put t n) (Finishes t) (ev_wait t n) (from_ev T j (waiting_put t n) a))

    begun : (j : ℕ) (t : Task) → Ends j t → (b : ℕ) × Done T b j t
    begun j t (inr (q, n, a)) = waited j t n a
    begun j t (inl (q, a)) =
        began_at j t (subst (λ (x : Bool). GoodEvent x (finished_put t) (past E j)) q (good j (finished_put t) a))
        (at_sound ts U false C F.whole q j (λ s. event_at s ≡ finished_put t) (Finishes t) (finished_now t) (from_ev T j (finished_put t) a))

    -- what was answered finished, and what is in memory, was finished before
    before_wait : (j : ℕ) (t : Task) → (n : ℕ) × Memᴰ (waiting_put t n) (past E j) → FinishedBefore T j t
    before_wait j t (n, x) =
        let r = place j (waiting_put t n) x in
        let b = waited r.0 t n r.2 in
        (b.0, r.0, r.1, b.1)

    before : (j : ℕ) (t : Task) → Told t (past E j) → FinishedBefore T j t
    before j t (inr x) = before_wait j t x
    before j t (inl x) = go d refl
      where
        r : (k : ℕ) × (k < j) × EventAt E k (finished_put t)
        r = place j (finished_put t) x

        go : (x : Bool) → d ≡ x → FinishedBefore T j t
        go false q = let b = begun r.0 t (inl (q, r.2)) in (b.0, r.0, r.1, b.1)
        go true q =
            let b = before_wait r.0 t (subst (λ (x : Bool). GoodEvent x (finished_put t) (past E r.0)) q (good r.0 (finished_put t) r.2)) in
            (b.0, b.1, omega (arith, r.1, b.2), b.3)

    gave : (j : ℕ) (t : Task) → (i : ℕ) × At T j (λ s. event_at s ≡ handed_out i t) → FinishedBefore T j t
    gave j t (i, a) = before j t (good j (handed_out i t) (ev j (handed_out i t) a))

    out : (j : ℕ) (t : Task) → Out t (past E j) → (o : ℕ) × (o < j) × At T o (HandsOut t)
    out j t (i, x) =
        let r = place j (handed_out i t) x in
        (r.0, r.1, at_map T r.0 (λ s. event_at s ≡ handed_out i t) (HandsOut t) (ev_out i t) (from_ev T r.0 (handed_out i t) r.2))

    apart : (i : ℕ) (t : Task) → line_1 i ≡ finished_put t → ⊥
    apart i t q = let z : ◌≡◌ {A = ℕ} 0 1 = cc in omega arith

    apart_too : (i : ℕ) (t : Task) (n : ℕ) → line_1 i ≡ waiting_put t n → ⊥
    apart_too i t n q = let z : ◌≡◌ {A = ℕ} 0 1 = cc in omega arith

    -- the invariant at place l
    then_inv : (l : ℕ) → InvOf (after_in U (front l ts)) (past E l)
    then_inv l =
        subst (λ (x : List Event). InvOf (after_in U (front l ts)) (rev x [])) (events_front ts U l)
        (run_kept U.bench.kind (tag_bits U.bench) d (front l ts) U [] (company_front ts U l C) (fresh_runs U F)
        (subst (λ (x : List Event). Premise U.bench.kind (tag_bits U.bench) (rev x [])) (sym (events_front ts U l)) (premise_front U.bench.kind (tag_bits U.bench) E l [] prem))).0

    -- a put that is drained by place l is in memory then
    landed : (l k : ℕ) (t : Task) → d ≡ true → k < l → At T k (Finishes t) → DrainedBy T k l → Memᴰ (finished_put t) (past E l)
    landed l k t q less a b = go (D t r.0 _ S)
      where
        X : ℕ
        X = drains (between k l T)

        r : (n : ℕ) × At T k (λ s. (event_at s ≡ waiting_put t n) × (n ≤ drains (between k l T)))
        r =
            at_some T k (λ n s. (event_at s ≡ waiting_put t n) × (n ≤ drains (between k l T)))
            (at_sound ts U true C F.whole q k (λ s. Finishes t s × (waits s ≤ drains (between k l T))) (λ s. (n : ℕ) × ((event_at s ≡ waiting_put t n) × (n ≤ drains (between k l T))))
            (λ s S x. (s.before.bench.waiting.count + 1, (finish_later t s S x.0, omega (arith, waits_is s S, x.1)))) (at_both T k (Finishes t) (λ s. waits s ≤ drains (between k l T)) a b))

        here : EventAt E k (waiting_put t r.0)
        here = ev k (waiting_put t r.0) (at_map T k (λ s. (event_at s ≡ waiting_put t r.0) × (r.0 ≤ drains (between k l T))) (λ s. event_at s ≡ waiting_put t r.0) (λ s x. x.0) r.1)

        enough : r.0 ≤ drains (between k l T)
        enough = at_const T k (r.0 ≤ drains (between k l T)) (at_map T k (λ s. (event_at s ≡ waiting_put t r.0) × (r.0 ≤ drains (between k l T))) (λ s. r.0 ≤ drains (between k l T)) (λ s x. x.1) r.1)

        S : Since t r.0 (drain_sum (events_between k l E)) (past E l)
        S = since_at t r.0 E k l [] here less

        J : InvOf (after_in U (front l ts)) (past E l)
        J = then_inv l

        D : Due (after_in U (front l ts)).bench.kind (view (after_in U (front l ts)).bench.words (after_in U (front l ts)).bench.queue (after_in U (front l ts)).store J.own_lo J.own_hi) (in_line (after_in U (front l ts)).bench.waiting) (past E l)
        D =
            subst (λ (x : Bool). DueIf x (after_in U (front l ts)).bench.kind (view (after_in U (front l ts)).bench.words (after_in U (front l ts)).bench.queue (after_in U (front l ts)).store J.own_lo J.own_hi) (in_line (after_in U (front l ts)).bench.waiting) (past E l))
            (after_like (front l ts) U ∙ q) J.due

        go : Memᴰ (finished_put t) (past E l) ⊎ ((drain_sum (events_between k l E) < r.0) × Label (after_in U (front l ts)).bench.kind (view (after_in U (front l ts)).bench.words (after_in U (front l ts)).bench.queue (after_in U (front l ts)).store J.own_lo J.own_hi) (in_line (after_in U (front l ts)).bench.waiting) (r.0 - 1 - drain_sum (events_between k l E)) t)
            → Memᴰ (finished_put t) (past E l)
        go (inl x) = x
        go (inr (y, z)) = absurd (omega (arith, y, enough, drained_is T k l (delayed_all ts U q)))

    left : (j i : ℕ) → EventAt E j (found_empty i) → (l : ℕ) × Attempt T i l j × AllOut T i l j
    left j i a = (N.0, ev_attempt ts U i N.0 j N.1, λ b k t D h C. out j t (G.1 t (rw (line1_at E i N.0 j (found_empty i) a N.1).0 (concerned i k t N.1.here D.finished h C))))
      where
        G : Memᴰ (line_1 i) (past E j) × Emptied i (past E j)
        G = good j (found_empty i) a

        N : (l : ℕ) × EventLine1 E i l j
        N = newest E i j (found_empty i) a G.0

        L : ℕ
        L = N.0

        earlier : (k : ℕ) (t : Task) → EventAt E N.0 (line_1 i) → Ends k t → k ≤ N.0 → k < N.0
        earlier k t x (inl (q, y)) h = pick (le_or_lt N.0 k)
          where
            pick : (N.0 ≤ k) ⊎ (k < N.0) → k < N.0
            pick (inr z) = z
            pick (inl z) = absurd (apart i t (at_one E k (line_1 i) (finished_put t) (subst (λ (x : ℕ). EventAt E x (line_1 i)) {x = N.0} {y = k} (omega arith) x) y))
        earlier k t x (inr (q, n, y)) h = pick (le_or_lt N.0 k)
          where
            pick : (N.0 ≤ k) ⊎ (k < N.0) → k < N.0
            pick (inr z) = z
            pick (inl z) = absurd (apart_too i t n (at_one E k (line_1 i) (waiting_put t n) (subst (λ (x : ℕ). EventAt E x (line_1 i)) {x = N.0} {y = k} (omega arith) x) y))

        told_then : (k : ℕ) (t : Task) → k < N.0 → Ends k t → Told t (past E N.0)
        told_then k t h (inl (q, y)) = inl (at_mem E [] N.0 k (finished_put t) y h)
        told_then k t h (inr (q, n, y)) = inr (n, at_mem E [] N.0 k (waiting_put t n) y h)

        concerned : (i' k : ℕ) (t : Task) → EventAt E N.0 (line_1 i) → At T k (Finishes t) → k ≤ N.0 → Concerned T i' k N.0 → Concerns i' t (past E N.0)
        concerned zero k t x b h C = told_then k t (earlier k t x (at_end k t b) h) (at_end k t b)
        concerned (suc i') k t x b h C = go (at_end k t b)
          where
            go : Ends k t → Memᴰ (finished_put t) (past E N.0)
            go (inl (q, y)) = at_mem E [] N.0 k (finished_put t) y (earlier k t x (inl (q, y)) h)
            go (inr (q, n, y)) = landed N.0 k t q (earlier k t x (inr (q, n, y)) h) b C

    keep : (t : Task) → Out t Z.past ⊎ ((i : ℕ) × (Z.base.lo ≤ i) × (i < Z.base.hi) × (gathered (v + 1) (cell v (words v Q.arrays ss μ) (off (laid ss Q)) (size v (laid ss Q)) i) ≡ t))
        → ((k : ℕ) × At T k (HandsOut t)) ⊎ Stands (after_in U ts) t
    keep t (inl o) = inl (some (Z.outs t o).0 (rev_at E [] (handed_out (Z.outs t o).0 t) (Z.outs t o).1))
      where
        some : (i : ℕ) → ((k : ℕ) × EventAt E k (handed_out i t)) ⊎ Memᴰ (handed_out i t) [] → (k : ℕ) × At T k (HandsOut t)
        some i (inl (k, a)) = (k, at_map T k (λ s. event_at s ≡ handed_out i t) (HandsOut t) (ev_out i t) (from_ev T k (handed_out i t) a))
        some i (inr r) = absurd (Memᴰ.not-nil r)
    keep t (inr (i, l, u, x)) =
        let S = in_slot _ _ _ _ _ _ _ _ _ _ Z.base i l u in
        inr (stands_read (after_in U ts) t (
          S.0,
          S.1,
          same_words (v + 1) _ _ (λ j h. word_w v (words v Q.arrays ss μ) (off (laid ss Q)) (size v (laid ss Q)) _ i j S.2) ∙ x,
        ))

-- and of a lone one
pub demand3 : NothingLost
demand3 s m l e cs =
    let U = (fresh_of s m l).world in
    from_company (λ (T : List Played) (X : World). FewPutsIn U.bench.kind (tag_bits U.bench) T → Sound T X) s m l e (λ ts C. sound_in ts U (fresh_started s m l e) C) cs
