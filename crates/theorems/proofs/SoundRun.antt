-- Every call keeps the invariant, where the premise holds.
use mathlib.Core.Path.{◌≡◌, refl, sym, ◌∙◌, subst, subst₂}
use mathlib.Core.Bool.{Bool, true, false, cond, true≢false}
use mathlib.Core.Logic.{◌≢◌, ◌⊎◌, inl, inr}
use mathlib.Core.List.Memᴰ
use mathlib.Core.List.{List, [], ◌∷◌, Memᴰ}
use Prim.Native.Nat.{ℕ, zero, suc, ◌+◌, ◌≤◌, ◌<◌}
use native.Mathlib.Omega.{arith}
use lib.Dec.{eqb}
use lib.ListN.{get_or, set}
use Rattle.model.specs.declared.Room.{Room}
use Rattle.model.specs.declared.Kind.{Kind}
use Rattle.model.specs.declared.Kind.TheVariants.{Lifo, Fifo, Deque}
use Rattle.model.specs.declared.Growth.TheVariants.{ForCommit}
use Rattle.model.specs.declared.Line.{Line}
use Rattle.model.specs.declared.Line.TheVariants.{Claim, Idle, PutRead, PutFinish, TakeRead, StealRead}
use Rattle.model.specs.declared.Queue.{Queue}
use Rattle.model.specs.declared.Anchor.{Anchor}
use Rattle.model.specs.declared.Store.{Store}
use Rattle.model.specs.declared.Store.TheVariants.{StoreWord, StoreNote, StorePut, StoreOut, StoreHead, StoreTail}
use Rattle.model.specs.declared.Operation.{Operation}
use Rattle.model.specs.declared.Operation.TheVariants.{Put, Take, Steal, Commit}
use Rattle.model.specs.declared.Refusal.{Refusal}
use Rattle.model.specs.declared.Task.{Task}
use Rattle.model.specs.declared.Answer.{Answer}
use Rattle.model.specs.declared.Answer.TheVariants.{Accepted, Numbered, GoesOn, Finished, HandedOut, Empty, Full, Refused, Grown}
use Rattle.model.specs.Tests.{◌and◌, ◌or◌}
use Rattle.model.specs.Figures.{put_store}
use Rattle.model.specs.Stores.{in_line, oldest}
use Rattle.model.specs.Lines.{Effect, line_step, holds_link}
use Rattle.model.specs.World.{World, Outcome, refuse, tag_bits, line_at, is_steal1, is_past1, room_alone}
use Rattle.model.specs.Calls.{first_line, begun, begin_answer, landing, Call, begin, step, drop_link, drain, ask, drop_ask, call_in, call_of}
use Rattle.model.specs.Listing.{is_refused}
use Rattle.model.specs.Run.{Played}
use Rattle.model.proofs.Tasks.{gathered_again, first_number}
use Rattle.model.specs.Tasks.{task}
use Rattle.theorems.proofs.Folds.{laid, words, NotPut, NonePut}
use Rattle.theorems.proofs.Events.{Event, quiet, line_1, finished_put, handed_out, failed_compare, found_empty, began_put, found_full, waiting_put, drained, is_line_1, is_compare, event_of, event_of_drain, History, Told, Answered, puts_since, Premise, PremiseAt, GoodHistory, GoodEvent}
use Rattle.theorems.proofs.Window.{NotDone, told_before}
use Rattle.theorems.proofs.Order.{NotOut, order_ev}
use Rattle.theorems.proofs.Owed.{sight, tags}
use Rattle.theorems.proofs.Invariant.{OwnerOk, Inv, inv_relink, drain_of_lem, Calm, own_later, since_now}
use Rattle.theorems.proofs.Laying.{base_ev}
use Rattle.theorems.proofs.OwnerRun.{Stepped, own_stepped, finish_only}
use Rattle.theorems.proofs.Drains.{drain_kept, thief_step, due_same}
use Rattle.theorems.proofs.ThiefLines.{LinkSound, thief_same}
use Rattle.theorems.proofs.Held.{line_drain}
use Rattle.theorems.proofs.Links.{held_set, links_held, link_parts}
use Rattle.theorems.proofs.Valid.{thieves, Whole, tagged}
use Rattle.theorems.proofs.Cases.{MayBegin, MayStep, effect_of, queue_then, store_then, step_to, dropped, drain_to, ask_by, drop_ask_by, begin_by, step_by, drop_by, drain_by, call_by, lone_cases}
use Rattle.theorems.proofs.WholeRun.{idle_is, own_back, thief_back, not_thief, not_owner, in_crew, in_line_lem, thief_calm, thief_lands, linked_step, call_whole, storing, others_whole}
use Rattle.theorems.proofs.Directory.{Admits, Others}
use Rattle.theorems.proofs.InvOthers.{inv_others}
use Rattle.theorems.proofs.Company.{Turn, others, own, played_in, after_in, InCompany}
use Rattle.theorems.proofs.Places.{rev}
use Rattle.theorems.proofs.PutNumbers.{used_kept}

-- what a call did
abbrev pub event_in : World → Call → Answer → Event
event_in W (begin i op) a = event_of W.bench.words W.bench.delayed W.bench.waiting.count (begin i op) (line_at W.bench.workers i) a
event_in W (step i) a = event_of W.bench.words W.bench.delayed W.bench.waiting.count (step i) (line_at W.bench.workers i) a
event_in W (drop_link i) a = event_of W.bench.words W.bench.delayed W.bench.waiting.count (drop_link i) (line_at W.bench.workers i) a
event_in W (ask i) a = event_of W.bench.words W.bench.delayed W.bench.waiting.count (ask i) (line_at W.bench.workers i) a
event_in W (drop_ask i) a = event_of W.bench.words W.bench.delayed W.bench.waiting.count (drop_ask i) (line_at W.bench.workers i) a
event_in W drain a = cond (is_refused a) quiet (event_of_drain W.bench.kind W.bench.words W.bench.queue W.store (oldest W.bench.waiting))

abbrev pub event_at : Played → Event
event_at s = event_in s.before s.call s.answer

abbrev pub events : List Played → List Event
events [] = []
events (s ∷ T) = event_at s ∷ events T

abbrev pub InvOf : World → History → Type 0
InvOf W h =
    Inv W.bench.kind (tag_bits W.bench) W.bench.words W.bench.delayed W.bench.queue W.store (in_line W.bench.waiting) (line_at W.bench.workers 0) (thieves W.bench.workers) h

-- since the line 1 of a thief that holds a link no put has come to memory
abbrev pub LinkedSince : World → History → Type 0
LinkedSince W h = (k : ℕ) → holds_link W.bench.queue (suc k) ≡ true → puts_since (suc k) h ≡ 0

-- the call c keeps the invariant, and answers well
abbrev Fine : World → History → Call → Outcome → Type 0
Fine W h c D =
    PremiseAt W.bench.kind (tag_bits W.bench) (event_in W c D.answer) h
    → InvOf D.world (event_in W c D.answer ∷ h) × GoodEvent W.bench.delayed (event_in W c D.answer) h

-- nothing but the owner's line changes
own_first : {κ : Kind} {w ω : ℕ} {δ : Bool} {Q : Queue} {μ : List ℕ} {ss : List Store} {o : Line} {φ : ℕ → Line} {h : History} (I : Inv κ w ω δ Q μ ss o φ h) (e : Event) (o' : Line) → NotDone e → NotOut e → ((k : ℕ) → Calm (suc k) e) → drain_of_lem e ≡ 0
    → ((t : Task) (n : ℕ) → e ≡ waiting_put t n → ⊥) → OwnerOk κ (sight κ ω ss Q μ I.own_lo I.own_hi) (tags ss Q.anchor.tag) (e ∷ h) o' → Inv κ w ω δ Q μ ss o' φ (e ∷ h)
own_first {κ} {w} {ω} {δ} {Q} {μ} {ss} {o} {φ} {h} I e o' nd no-out c z f k =
    record { own_lo = I.own_lo; own_hi = I.own_hi; base = base_ev I.base e nd c; own = k; due = due_same δ κ _ ss h e z f I.due; order = order_ev κ _ _ ss h e no-out I.order }

not_waiting : (t : Task) (n : ℕ) → quiet ≡ waiting_put t n → ⊥
not_waiting t n q = let z : ◌≡◌ {A = ℕ} 0 1 = cc in omega arith

inv_quiet : {κ : Kind} {w ω : ℕ} {δ : Bool} {Q : Queue} {μ : List ℕ} {ss : List Store} {o : Line} {φ : ℕ → Line} {h : History} → Inv κ w ω δ Q μ ss o φ h → Inv κ w ω δ Q μ ss o φ (quiet ∷ h)
inv_quiet {κ} {w} {ω} {δ} {Q} {μ} {ss} {o} {φ} {h} I = own_first I quiet o tt tt (λ k. tt) refl not_waiting (own_later κ _ _ h quiet tt (told_before quiet h tt) o I.own)

module _ (ρ : Room) (W : World) (H : Whole W) (R : Admits ρ W.bench W.store) (h : History) (I : InvOf W h) (L : LinkedSince W h) (spent : (u : Task) → Told u h → u.number ≤ W.bench.used) where
  abbrev InvLines : History → Line → (ℕ → Line) → Type 0
  InvLines h o φ = Inv W.bench.kind (tag_bits W.bench) W.bench.words W.bench.delayed W.bench.queue W.store (in_line W.bench.waiting) o φ h

  refused_kept : (c : Call) (r : Refusal) → Fine W h c (refuse W r)
  refused_kept (begin i op) r f = (inv_quiet I, tt)
  refused_kept (step i) r f = (inv_quiet I, tt)
  refused_kept (drop_link i) r f = (inv_quiet I, tt)
  refused_kept (ask i) r f = (inv_quiet I, tt)
  refused_kept (drop_ask i) r f = (inv_quiet I, tt)
  refused_kept drain r f = (inv_quiet I, tt)

  -- the owner begins: its line 1 follows the event e
  own_begun : (op : Operation) (e : Event) → MayBegin W 0 op
      → (InvLines h Idle (thieves W.bench.workers) → InvLines (e ∷ h) (first_line op W.bench.words W.bench.used) (thieves W.bench.workers))
      → InvOf (begun W 0 op).world (e ∷ h)
  own_begun op e B f =
      own_back (InvLines (e ∷ h)) W.bench.workers (first_line op W.bench.words W.bench.used) (in_crew H 0 B.member)
      (f (subst (λ (o : Line). InvLines h o (thieves W.bench.workers)) (idle_is _ B.idle) I))

  begun_kept : (i : ℕ) (op : Operation) → MayBegin W i op → Fine W h (begin i op) (begun W i op)
  unfolding inv_quiet own_first
  begun_kept zero (Put p) B f = (
    own_begun (Put p) _ B (λ J. own_first J (began_put _) (PutRead _) tt tt (λ k. tt) refl (λ t n q. let z : ◌≡◌ {A = ℕ} 0 1 = cc in omega arith)
        (record {
          begun = Memᴰ.head refl;
          newer = λ u d. let z = spent u (told_before (began_put _) h tt u d) in omega (arith, z, first_number W.bench.words (task (W.bench.used + 1) p));
          cut = sym (gathered_again (W.bench.words + 1) _ (omega (arith, H.words.1)));
        })),
    tt,
  )
  begun_kept (suc k) (Put p) B f = not_thief k B.hand
  begun_kept zero Take B f = (own_begun Take _ B (λ J. own_first J quiet TakeRead tt tt (λ k. tt) refl not_waiting tt), tt)
  begun_kept (suc k) Take B f = not_thief k B.hand
  begun_kept zero Commit B f = (own_begun Commit _ B (λ J. own_first J quiet (Claim ForCommit) tt tt (λ k. tt) refl not_waiting tt), tt)
  begun_kept (suc k) Commit B f = not_thief k B.hand
  begun_kept zero Steal B f = not_owner B.hand
  begun_kept (suc k) Steal B f = (
    thief_back (InvLines (quiet ∷ h)) W.bench.workers k StealRead (in_crew H (suc k) B.member)
        (λ φ' is rest. record {
          own_lo = I.own_lo;
          own_hi = I.own_hi;
          base = thief_same _ _ _ _ 0 _ _ _ _ _ (thieves W.bench.workers) h k StealRead quiet tt (λ i q. tt) I.base tt φ' is rest;
          own = (inv_quiet I).own;
          due = (inv_quiet I).due;
          order = (inv_quiet I).order;
        }),
    tt,
  )

  -- STEP
  abbrev InvAfter : ℕ → History → Line → (ℕ → Line) → Type 0
  InvAfter i h o φ =
      Inv W.bench.kind (tag_bits W.bench) W.bench.words W.bench.delayed (queue_then ρ W i (effect_of ρ W i)) (store_then ρ W i (effect_of ρ W i)) (in_line (step_to ρ W i).world.bench.waiting) o φ h

  stepped_kept : (i : ℕ) → MayStep ρ W i → Fine W h (step i) (step_to ρ W i)
  stepped_kept zero M f =
      let K : Stepped ρ W.bench.kind (tag_bits W.bench) W.bench.words W.bench.delayed W.bench.waiting W.bench.queue W.store (line_at W.bench.workers 0) (thieves W.bench.workers) h (effect_of ρ W 0)
      = own_stepped ρ W.bench.kind (tag_bits W.bench) W.bench.words W.bench.delayed W.bench.waiting W.bench.queue W.store W.bench.used H.low (line_at W.bench.workers 0) (thieves W.bench.workers) h H.words.1 H.mode (in_line_lem H) R.free H.shape I in
      (inv_relink 0 _ (own_back (InvAfter 0 (event_in W (step 0) (effect_of ρ W 0).answer ∷ h)) W.bench.workers (effect_of ρ W 0).line (in_crew H 0 M.member) K.0), K.1)
  stepped_kept (suc k) M f =
      let θ = thieves W.bench.workers k in
      let sound : LinkSound W.bench.kind W.bench.queue h k θ = λ x. ((link_parts W.bench.kind W.bench.queue θ (H.links (suc k) x)).2, L k x) in
      let K = thief_step ρ W.bench.kind (tag_bits W.bench) W.bench.words W.bench.delayed W.bench.waiting.count W.bench.queue W.store (in_line W.bench.waiting) (line_at W.bench.workers 0) (thieves W.bench.workers) h k I H.shape.arrays.some H.words.1 (tagged H) sound f in
      (inv_relink (suc k) _ (thief_back (InvAfter (suc k) (event_in W (step (suc k)) E.answer ∷ h)) W.bench.workers k E.line (in_crew H (suc k) M.member) (λ φ' is rest. back (K.0 φ' is rest))), K.1)
    where
      E : Effect
      E = effect_of ρ W (suc k)

      back : {o : Line} {φ' : ℕ → Line} {h' : History}
          → Inv W.bench.kind (tag_bits W.bench) W.bench.words W.bench.delayed (laid E.stores W.bench.queue) (words W.bench.words W.bench.queue.arrays E.stores W.store) (in_line W.bench.waiting) o φ' h'
          → InvAfter (suc k) h' o φ'
      back J = rw (thief_calm ρ H k, (thief_lands ρ H k).0, (thief_lands ρ H k).1) J

  -- LINK DROPPED
  dropped_kept : (i : ℕ) → Fine W h (drop_link i) (record { world = dropped W i; answer = Accepted })
  dropped_kept i f = (inv_relink i false (inv_quiet I), tt)

  -- DRAIN
  delayed_now : 0 < W.bench.waiting.count → W.bench.delayed ≡ true
  delayed_now some = go W.bench.delayed refl
    where
      go : (x : Bool) → W.bench.delayed ≡ x → W.bench.delayed ≡ true
      go true e = e
      go false e = absurd (omega (arith, H.mode e))

  drained_kept : 0 < W.bench.waiting.count → Fine W h drain (record { world = drain_to W; answer = Accepted })
  drained_kept some f =
      subst (λ (δ : Bool). P δ → Q δ) {x = true} {y = W.bench.delayed} (sym (delayed_now some))
      (λ J. drain_kept W.bench.kind (tag_bits W.bench) W.bench.words W.bench.queue W.store (oldest W.bench.waiting) _ (line_at W.bench.workers 0) (thieves W.bench.workers) h J)
      (subst (λ (ss : List Store). Inv W.bench.kind (tag_bits W.bench) W.bench.words W.bench.delayed W.bench.queue W.store ss (line_at W.bench.workers 0) (thieves W.bench.workers) h) (line_drain W.bench.waiting some (in_line_lem H)) I)
    where
      P : Bool → Type 0
      P δ = Inv W.bench.kind (tag_bits W.bench) W.bench.words δ W.bench.queue W.store (oldest W.bench.waiting ∷ in_line (drain_to W).bench.waiting) (line_at W.bench.workers 0) (thieves W.bench.workers) h

      e : Event
      e = event_of_drain W.bench.kind W.bench.words W.bench.queue W.store (oldest W.bench.waiting)

      Q : Bool → Type 0
      Q δ = Inv W.bench.kind (tag_bits W.bench) W.bench.words δ (drain_to W).bench.queue (drain_to W).store (in_line (drain_to W).bench.waiting) (line_at W.bench.workers 0) (thieves W.bench.workers) (e ∷ h) × GoodEvent δ e h

  pub call_kept : (c : Call) → Fine W h c (call_in ρ W c)
  call_kept (begin i op) = begin_by (Fine W h (begin i op)) W (λ r l. refused_kept (begin i op) r) ρ i op (begun_kept i op)
  call_kept (step i) = step_by (Fine W h (step i)) W (λ r l. refused_kept (step i) r) ρ i (stepped_kept i)
  call_kept (drop_link i) = drop_by (Fine W h (drop_link i)) W (λ r l. refused_kept (drop_link i) r) ρ i (dropped_kept i)
  call_kept drain = drain_by (Fine W h drain) W (λ r l. refused_kept drain r) ρ drained_kept
  call_kept (ask i) = ask_by (Fine W h (ask i)) W (λ r l. refused_kept (ask i) r) ρ i (λ n A f. (inv_quiet I, tt))
  call_kept (drop_ask i) = drop_ask_by (Fine W h (drop_ask i)) W (λ r l. refused_kept (drop_ask i) r) ρ i (λ n A f. (inv_quiet I, tt))

-- WHAT A HELD LINK SAYS. An event that brings no put to memory
since_zero : (k : ℕ) (h : History) (e : Event) → NotDone e → puts_since k h ≡ 0 → puts_since k (e ∷ h) ≡ 0
since_zero k h quiet n z = z
since_zero k h (line_1 j) n z = go (eqb j k)
  where
    go : (x : Bool) → cond x 0 (puts_since k h) ≡ 0
    go true = refl
    go false = z
since_zero k h (finished_put t) n z = absurd n
since_zero k h (handed_out j t) n z = z
since_zero k h (failed_compare j) n z = z
since_zero k h (found_empty j) n z = z
since_zero k h (began_put t) n z = z
since_zero k h (found_full t) n z = z
since_zero k h (waiting_put t y) n z = z
since_zero k h drained n z = z

since_read : (ρ : Room) (κ : Kind) (w ω : ℕ) (δ : Bool) (y : ℕ) (q : Queue) (m : List ℕ) (i k : ℕ) (h : History) → k ≡ i → (l : Line) → l ≡ StealRead
    → puts_since k (event_of ω δ y (step i) l (line_step ρ κ w ω q m i l).answer ∷ h) ≡ 0
unfolding line_step
since_read ρ κ w ω δ y q m i k h e l r = rw r (subst (λ (x : ℕ). puts_since x (line_1 i ∷ h) ≡ 0) (sym e) (since_now i h))

-- a step whose stores that are put down are no put's
put_none : (κ : Kind) (w : ℕ) (r : Anchor) → NonePut (put_store κ w r ∷ []) → ⊥
put_none Lifo w r n = n.0
put_none Fifo w r n = n.0
put_none Deque w r n = n.0

put_stores : (ρ : Room) (κ : Kind) (w ω : ℕ) (Q : Queue) (μ : List ℕ) (i : ℕ) (o : Line) (t : Task) (r : Anchor) → o ≡ PutFinish t r → (line_step ρ κ w ω Q μ i o).stores ≡ put_store κ w r ∷ []
unfolding line_step
put_stores ρ κ w ω Q μ i o t r e = rw e

step_done : (ρ : Room) (κ : Kind) (w ω : ℕ) (δ : Bool) (y : ℕ) (Q : Queue) (μ : List ℕ) (i : ℕ) (o : Line) (a : Answer) → (line_step ρ κ w ω Q μ i o).answer ≡ a → NonePut (landing δ i (line_step ρ κ w ω Q μ i o).stores)
    → NotDone (event_of ω δ y (step i) o a)
step_done ρ κ w ω δ y Q μ i o Accepted e n = tt
step_done ρ κ w ω δ y Q μ i o (Numbered m) e n = tt
step_done ρ κ w ω δ y Q μ i o GoesOn e n = go (is_line_1 o) (is_compare o)
  where
    go : (x z : Bool) → NotDone (cond x (line_1 i) (cond z (failed_compare i) quiet))
    go true z = tt
    go false true = tt
    go false false = tt
step_done ρ κ w ω true y Q μ i o (Finished j t) e n = tt
step_done ρ κ w ω false y Q μ i o (Finished j t) e n =
    let F = finish_only ρ κ w ω Q μ i o j t e in
    put_none κ w F.0 (subst NonePut (put_stores ρ κ w ω Q μ i o t F.0 F.1) n)
step_done ρ κ w ω δ y Q μ i o (HandedOut j t) e n = go (is_compare o)
  where
    go : (x : Bool) → NotDone (cond x (handed_out i t) (handed_out 0 t))
    go true = tt
    go false = tt
step_done ρ κ w ω δ y Q μ i o (Empty j) e n = tt
step_done ρ κ w ω δ y Q μ i o (Full j t) e n = tt
step_done ρ κ w ω δ y Q μ i o (Grown j) e n = tt
step_done ρ κ w ω δ y Q μ i o (Refused r) e n = tt

begin_done : (ω : ℕ) (δ : Bool) (y i : ℕ) (op : Operation) (u : ℕ) (o : Line) → NotDone (event_of ω δ y (begin i op) o (begin_answer op u))
begin_done ω δ y zero (Put p) u o = tt
begin_done ω δ y (suc k) (Put p) u o = tt
begin_done ω δ y i Take u o = tt
begin_done ω δ y i Steal u o = tt
begin_done ω δ y i Commit u o = tt

drain_done : (κ : Kind) (ω : ℕ) (Q : Queue) (μ : List ℕ) (s : Store) → NotPut s → NotDone (event_of_drain κ ω Q μ s)
drain_done κ ω Q μ (StoreWord b s j x) n = tt
drain_done κ ω Q μ (StoreNote k) n = tt
drain_done κ ω Q μ (StorePut r) n = absurd n
drain_done κ ω Q μ (StoreOut r) n = tt
drain_done κ ω Q μ (StoreHead i) n = tt
drain_done κ ω Q μ (StoreTail i) n = absurd n

fewer : (l : List Bool) (i k : ℕ) → get_or (set l i false) k false ≡ true → get_or l k false ≡ true
fewer l i k e = go (held_set l i k false e)
  where
    go : ((k ≡ i) × (false ≡ true)) ⊎ ((k ≢ i) × (get_or l k false ≡ true)) → get_or l k false ≡ true
    go (inl (q, x)) = absurd (true≢false (sym x))
    go (inr (ne, x)) = x

module _ (ρ : Room) (W : World) (H : Whole W) (R : Admits ρ W.bench W.store) (h : History) (L : LinkedSince W h) where
  abbrev SinceAfter : Call → Outcome → Type 0
  SinceAfter c D = LinkedSince D.world (event_in W c D.answer ∷ h)

  refused_since : (c : Call) (r : Refusal) → SinceAfter c (refuse W r)
  refused_since (begin i op) r k x = L k x
  refused_since (step i) r k x = L k x
  refused_since (drop_link i) r k x = L k x
  refused_since (ask i) r k x = L k x
  refused_since (drop_ask i) r k x = L k x
  refused_since drain r k x = L k x

  step_not_done : (i : ℕ) → NonePut (landing W.bench.delayed i (effect_of ρ W i).stores) → NotDone (event_in W (step i) (effect_of ρ W i).answer)
  step_not_done zero n = step_done ρ W.bench.kind (tag_bits W.bench) W.bench.words W.bench.delayed _ _ _ 0 (line_at W.bench.workers 0) (effect_of ρ W 0).answer refl n
  step_not_done (suc k) n = step_done ρ W.bench.kind (tag_bits W.bench) W.bench.words W.bench.delayed _ _ _ (suc k) (line_at W.bench.workers (suc k)) (effect_of ρ W (suc k)).answer refl n

  read_since : (i k : ℕ) → suc k ≡ i → line_at W.bench.workers i ≡ StealRead → puts_since (suc k) (event_in W (step i) (effect_of ρ W i).answer ∷ h) ≡ 0
  read_since zero k e q = absurd (omega arith)
  read_since (suc i) k e q = since_read ρ W.bench.kind (tag_bits W.bench) W.bench.words W.bench.delayed _ _ _ (suc i) (suc k) h e (line_at W.bench.workers (suc i)) q

  stepped_since : (i : ℕ) → SinceAfter (step i) (step_to ρ W i)
  stepped_since i k x = go (held_set (queue_then ρ W i (effect_of ρ W i)).links i (suc k) _ x)
    where
      held : holds_link (queue_then ρ W i (effect_of ρ W i)) (suc k) ≡ true → puts_since (suc k) (event_in W (step i) (effect_of ρ W i).answer ∷ h) ≡ 0
      held y =
          let (a, b, n) = links_held (landing W.bench.delayed i (effect_of ρ W i).stores) W.bench.queue.links W.bench.queue.anchor (suc k) y in
          since_zero (suc k) h (event_in W (step i) (effect_of ρ W i).answer) (step_not_done i n) (L k a)

      go : ((suc k ≡ i) × ((is_past1 (effect_of ρ W i).line and ((W.bench.queue.linked and is_steal1 (line_at W.bench.workers i)) or holds_link (queue_then ρ W i (effect_of ρ W i)) i)) ≡ true))
          ⊎ ((suc k ≢ i) × (holds_link (queue_then ρ W i (effect_of ρ W i)) (suc k) ≡ true))
          → puts_since (suc k) (event_in W (step i) (effect_of ρ W i).answer ∷ h) ≡ 0
      go (inl (e, y)) = now (linked_step ρ H R i y).0
        where
          now : (line_at W.bench.workers i ≡ StealRead) ⊎ (holds_link (queue_then ρ W i (effect_of ρ W i)) i ≡ true) → puts_since (suc k) (event_in W (step i) (effect_of ρ W i).answer ∷ h) ≡ 0
          now (inl q) = read_since i k e q
          now (inr z) = held (subst (λ (n : ℕ). holds_link (queue_then ρ W i (effect_of ρ W i)) n ≡ true) (sym e) z)
      go (inr (ne, y)) = held y

  drained_since : SinceAfter drain (record { world = drain_to W; answer = Accepted })
  drained_since k x =
      let (a, b, n) = links_held (oldest W.bench.waiting ∷ []) W.bench.queue.links W.bench.queue.anchor (suc k) x in
      since_zero (suc k) h (event_of_drain W.bench.kind W.bench.words W.bench.queue W.store (oldest W.bench.waiting)) (drain_done W.bench.kind W.bench.words W.bench.queue W.store (oldest W.bench.waiting) n.0) (L k a)

  pub call_since : (c : Call) → SinceAfter c (call_in ρ W c)
  call_since (begin i op) =
      begin_by (SinceAfter (begin i op)) W (λ r f. refused_since (begin i op) r) ρ i op
      (λ B k x. since_zero (suc k) h (event_in W (begin i op) (begin_answer op W.bench.used)) (begin_done W.bench.words W.bench.delayed _ i op W.bench.used (line_at W.bench.workers i)) (L k x))
  call_since (step i) = step_by (SinceAfter (step i)) W (λ r f. refused_since (step i) r) ρ i (λ M. stepped_since i)
  call_since (drop_link i) =
      drop_by (SinceAfter (drop_link i)) W (λ r f. refused_since (drop_link i) r) ρ i (λ k x. L k (fewer W.bench.queue.links i (suc k) x))
  call_since drain = drain_by (SinceAfter drain) W (λ r f. refused_since drain r) ρ (λ some. drained_since)
  call_since (ask i) = ask_by (SinceAfter (ask i)) W (λ r f. refused_since (ask i) r) ρ i (λ n A. L)
  call_since (drop_ask i) = drop_ask_by (SinceAfter (drop_ask i)) W (λ r f. refused_since (drop_ask i) r) ρ i (λ n A. L)

-- a call keeps the kind, the tag's bits, the payload words, and the way of storing
pub record Like (W : World) (D : Outcome) : Type 0 where
  pub kind : D.world.bench.kind ≡ W.bench.kind
  pub bits : tag_bits D.world.bench ≡ tag_bits W.bench
  pub words : D.world.bench.words ≡ W.bench.words
  pub delayed : D.world.bench.delayed ≡ W.bench.delayed

same_like : (W : World) (D : Outcome) → D.world.bench.kind ≡ W.bench.kind → tag_bits D.world.bench ≡ tag_bits W.bench
    → D.world.bench.words ≡ W.bench.words → D.world.bench.delayed ≡ W.bench.delayed → Like W D
same_like W D a b c d = record { kind = a; bits = b; words = c; delayed = d }

pub call_like : (ρ : Room) (W : World) (c : Call) → Like W (call_in ρ W c)
call_like ρ W c =
    call_by (Like W) W (λ r l. same_like W _ refl refl refl refl) ρ (λ i op B. same_like W _ refl refl refl refl) (λ i M. same_like W _ refl refl refl refl)
    (λ i. same_like W _ refl refl refl refl) (λ some. same_like W _ refl refl refl refl) (λ n A. same_like W _ refl refl refl refl) c

pub lone_like : (W : World) (c : Call) → Like W (call_of W c)
lone_like W c = lone_cases (Like W) W (same_like W _ refl refl refl refl) c (call_like (room_alone W) W c)

-- put numbers: those begun are used
abbrev pub Used : World → History → Type 0
Used W h = (u : Task) → Memᴰ (began_put u) h → u.number ≤ W.bench.used

good_wait : (δ : Bool) (h : History) (u : Task) (n : ℕ) → GoodHistory δ h → Memᴰ (waiting_put u n) h → Memᴰ (began_put u) h
good_wait δ [] u n G d = absurd (Memᴰ.not-nil d)
good_wait δ (e ∷ h) u n G d = Memᴰ.tail (go (Memᴰ.cases_cons d) (good_wait δ h u n G.1))
  where
    go : (waiting_put u n ≡ e) ⊎ Memᴰ (waiting_put u n) h → (Memᴰ (waiting_put u n) h → Memᴰ (began_put u) h) → Memᴰ (began_put u) h
    go (inl q) f = subst (λ (x : Event). GoodEvent δ x h) (sym q) G.0
    go (inr m) f = f m

good_done : (δ : Bool) (h : History) (u : Task) → GoodHistory δ h → Memᴰ (finished_put u) h → Memᴰ (began_put u) h
good_done δ [] u G d = absurd (Memᴰ.not-nil d)
good_done δ (e ∷ h) u G d = Memᴰ.tail (go (Memᴰ.cases_cons d) (good_done δ h u G.1))
  where
    from : (x : Bool) → GoodHistory x h → Answered x u h → Memᴰ (began_put u) h
    from true g (n, w) = good_wait true h u n g w
    from false g b = b

    go : (finished_put u ≡ e) ⊎ Memᴰ (finished_put u) h → (Memᴰ (finished_put u) h → Memᴰ (began_put u) h) → Memᴰ (began_put u) h
    go (inl q) f = from δ G.1 (subst (λ (x : Event). GoodEvent δ x h) (sym q) G.0)
    go (inr m) f = f m

pub good_begun : (δ : Bool) (h : History) (u : Task) → GoodHistory δ h → Told u h → Memᴰ (began_put u) h
good_begun δ h u G (inl d) = good_done δ h u G d
good_begun δ h u G (inr (n, d)) = good_wait δ h u n G d

abbrev Within : ℕ → Event → Type 0
Within n quiet = Unit {0}
Within n (line_1 j) = Unit {0}
Within n (finished_put t) = Unit {0}
Within n (handed_out j t) = Unit {0}
Within n (failed_compare j) = Unit {0}
Within n (found_empty j) = Unit {0}
Within n (began_put t) = t.number ≤ n
Within n (found_full t) = Unit {0}
Within n (waiting_put t y) = Unit {0}
Within n drained = Unit {0}

step_within : (n ω : ℕ) (δ : Bool) (y i : ℕ) (l : Line) (a : Answer) → Within n (event_of ω δ y (step i) l a)
step_within n ω δ y i l Accepted = tt
step_within n ω δ y i l (Numbered m) = tt
step_within n ω δ y i l GoesOn = go (is_line_1 l) (is_compare l)
  where
    go : (x z : Bool) → Within n (cond x (line_1 i) (cond z (failed_compare i) quiet))
    go true z = tt
    go false true = tt
    go false false = tt
step_within n ω true y i l (Finished j t) = tt
step_within n ω false y i l (Finished j t) = tt
step_within n ω δ y i l (HandedOut j t) = go (is_compare l)
  where
    go : (x : Bool) → Within n (cond x (handed_out i t) (handed_out 0 t))
    go true = tt
    go false = tt
step_within n ω δ y i l (Empty j) = tt
step_within n ω δ y i l (Full j t) = tt
step_within n ω δ y i l (Grown j) = tt
step_within n ω δ y i l (Refused r) = tt

drain_within : (n : ℕ) (κ : Kind) (ω : ℕ) (q : Queue) (m : List ℕ) (s : Store) (x : Bool) → Within n (cond x quiet (event_of_drain κ ω q m s))
drain_within n κ ω q m s true = tt
drain_within n κ ω q m (StoreWord b s j x) false = tt
drain_within n κ ω q m (StoreNote c) false = tt
drain_within n κ ω q m (StorePut r) false = tt
drain_within n κ ω q m (StoreOut r) false = tt
drain_within n κ ω q m (StoreHead i) false = tt
drain_within n κ ω q m (StoreTail i) false = tt

begin_within : (W : World) (i : ℕ) (op : Operation) → Within (begun W i op).world.bench.used (event_in W (begin i op) (begun W i op).answer)
begin_within W zero (Put p) = omega (arith, first_number W.bench.words (task (W.bench.used + 1) p))
begin_within W (suc k) (Put p) = tt
begin_within W i Take = tt
begin_within W i Steal = tt
begin_within W i Commit = tt

call_within : (ρ : Room) (W : World) (c : Call) → Within (call_in ρ W c).world.bench.used (event_in W c (call_in ρ W c).answer)
call_within ρ W (begin i op) =
    begin_by (λ (D : Outcome). Within D.world.bench.used (event_in W (begin i op) D.answer)) W (λ r q. tt) ρ i op (λ B. begin_within W i op)
call_within ρ W (step i) =
    step_by (λ (D : Outcome). Within D.world.bench.used (event_in W (step i) D.answer)) W (λ r q. tt) ρ i
    (λ M. step_within W.bench.used W.bench.words W.bench.delayed W.bench.waiting.count i _ (effect_of ρ W i).answer)
call_within ρ W (drop_link i) = drop_by (λ (D : Outcome). Within D.world.bench.used (event_in W (drop_link i) D.answer)) W (λ r q. tt) ρ i tt
call_within ρ W (ask i) = ask_by (λ (D : Outcome). Within D.world.bench.used (event_in W (ask i) D.answer)) W (λ r q. tt) ρ i (λ n A. tt)
call_within ρ W (drop_ask i) = drop_ask_by (λ (D : Outcome). Within D.world.bench.used (event_in W (drop_ask i) D.answer)) W (λ r q. tt) ρ i (λ n A. tt)
call_within ρ W drain =
    drain_by (λ (D : Outcome). Within D.world.bench.used (event_in W drain D.answer)) W (λ r q. tt) ρ (λ some. drain_within W.bench.used _ _ W.bench.queue _ (oldest W.bench.waiting) false)

used_next : (ρ : Room) (W : World) (c : Call) (h : History) → Used W h → Used (call_in ρ W c).world (event_in W c (call_in ρ W c).answer ∷ h)
used_next ρ W c h U u d = go (Memᴰ.cases_cons d)
  where
    go : (began_put u ≡ event_in W c (call_in ρ W c).answer) ⊎ Memᴰ (began_put u) h → u.number ≤ (call_in ρ W c).world.bench.used
    go (inl q) = subst (Within (call_in ρ W c).world.bench.used) (sym q) (call_within ρ W c)
    go (inr m) = omega (arith, U u m, used_kept ρ W c)

-- the whole list
pub prem_tail : (κ : Kind) (w : ℕ) (T : List Event) (h : History) → Premise κ w (rev T h) → Premise κ w h
unfolding rev
prem_tail κ w [] h f = f
prem_tail κ w (e ∷ T) h f = (prem_tail κ w T (e ∷ h) f).1

-- what runs: a queue of this kind with a tag of w bits and this way of storing
pub record Runs (κ : Kind) (w : ℕ) (δ : Bool) (W : World) (h : History) : Type 0 where
  pub kind : W.bench.kind ≡ κ
  pub bits : tag_bits W.bench ≡ w
  pub delayed : W.bench.delayed ≡ δ
  pub whole : Whole W
  pub inv : InvOf W h
  pub since : LinkedSince W h
  pub good : GoodHistory δ h
  pub numbers : Used W h

-- others wrote
storing_runs : {κ : Kind} {w : ℕ} {δ : Bool} {W : World} {h : History} (m : List ℕ) → Others W.bench.queue W.store m → Runs κ w δ W h → Runs κ w δ (storing W m) h
storing_runs m O R =
    record {
      kind = R.kind;
      bits = R.bits;
      delayed = R.delayed;
      whole = others_whole R.whole O;
      inv = inv_others R.whole.shape O R.inv;
      since = R.since;
      good = R.good;
      numbers = R.numbers;
    }

pub run_kept : (κ : Kind) (w : ℕ) (δ : Bool) (ts : List Turn) (W : World) (h : History) → InCompany W ts → Runs κ w δ W h
    → Premise κ w (rev (events (played_in W ts)) h) → InvOf (after_in W ts) (rev (events (played_in W ts)) h) × GoodHistory δ (rev (events (played_in W ts)) h)
unfolding rev played_in after_in InCompany
run_kept κ w δ [] W h C R f = (R.inv, R.good)
run_kept κ w δ (others m ∷ ts) W h (O, C) R f = run_kept κ w δ ts (storing W m) h C (storing_runs m O R) f
run_kept κ w δ (own ρ c ∷ ts) W h (Z, C) R f =
    let D = call_in ρ W c in
    let e = event_in W c D.answer in
    let p = (prem_tail κ w (events (played_in D.world ts)) (e ∷ h) f).0 in
    let k = call_kept ρ W R.whole Z h R.inv R.since (λ u d. R.numbers u (good_begun δ h u R.good d)) c
    (subst₂ (λ (y : Kind) (z : ℕ). PremiseAt y z e h) (sym R.kind) (sym R.bits) p) in
    let s = call_like ρ W c in
    run_kept κ w δ ts D.world (e ∷ h) C
    (record {
      kind = s.kind ∙ R.kind;
      bits = s.bits ∙ R.bits;
      delayed = s.delayed ∙ R.delayed;
      whole = call_whole ρ R.whole Z c;
      inv = k.0;
      since = call_since ρ W R.whole Z h R.since c;
      good = (subst (λ (δ : Bool). GoodEvent δ e h) R.delayed k.1, R.good);
      numbers = used_next ρ W c h R.numbers;
    }) f
