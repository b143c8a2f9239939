-- The owner's step: its line is done on what it reads; its stores join, or are put down at once.
use mathlib.Core.Path.{◌≡◌, refl, sym, ◌∙◌, ap, subst}
use mathlib.Core.Bool.{Bool, true, false, cond}
use mathlib.Core.Logic.{◌⊎◌, inl, inr}
use mathlib.Core.List.Memᴰ
use mathlib.Core.List.{List, [], ◌∷◌, ◌++◌, map, Memᴰ}
use Prim.Native.Nat.{ℕ, suc, ◌+◌, ◌-◌, ◌≤◌, ◌<◌}
use native.Mathlib.Omega.{arith}
use lib.ListN.{length, take}
use Rattle.model.specs.declared.Room.{Room}
use Rattle.model.specs.declared.Growth.{Growth}
use Rattle.model.specs.declared.Growth.TheVariants.{ForPut, ForCommit}
use Rattle.model.specs.declared.Kind.{Kind}
use Rattle.model.specs.declared.Kind.TheVariants.{Lifo, Fifo, Deque}
use Rattle.model.specs.declared.Line.{Line}
use Rattle.model.specs.declared.Line.TheVariants.{Idle, PutRead, PutTail, PutTest, PutWord, PutFinish, Claim, Note, Copy, Publish, TakeRead, TakeTail, TakeTest, TakeWord, TakeFinish, StealRead, StealTail, StealTest, StealNote, StealWord, StealNext, StealCompare}
use Rattle.model.specs.declared.Queue.{Queue}
use Rattle.model.specs.declared.Answer.{Answer}
use Rattle.model.specs.declared.Answer.TheVariants.{Accepted, Numbered, GoesOn, Finished, HandedOut, Empty, Full, Refused, Grown}
use Rattle.model.specs.declared.Task.{Task}
use Rattle.model.specs.declared.Anchor.{Anchor}
use Rattle.model.specs.declared.Store.{Store}
use Rattle.model.specs.declared.Waiting.{Waiting}
use Rattle.model.specs.declared.Store.TheVariants.{StoreWord, StoreNote, StorePut, StoreOut, StoreHead, StoreTail}
use Rattle.theorems.proofs.Folds.{anchor_after, laid, words_of, words, AllWords, copy_words_lem, NonePut, arrays_after, queue_after, store_after}
use Rattle.theorems.proofs.Held.{line_join, line_length}
use Rattle.model.specs.Tests.{when◌then◌else◌}
use Rattle.model.specs.Memory.{zeros}
use Rattle.model.specs.Calls.{step, joining, landing}
use Rattle.model.specs.Lines.{Effect, eff, succeeds, copy_words, fits, line_step, task_for}
use Rattle.model.specs.Stores.{in_line, joined, next_length, claiming}
use Rattle.model.specs.Figures.{is_empty, put_store, take_store, steal_store}
use Rattle.theorems.proofs.Events.{Event, quiet, line_1, finished_put, handed_out, failed_compare, found_empty, began_put, found_full, waiting_put, is_line_1, is_compare, event_of_finish, event_of, History, Out, Told, Answered, GoodEvent}
use Rattle.theorems.proofs.Window.{View, task_at, NotDone}
use Rattle.theorems.proofs.Indices.{StandsFor}
use Rattle.model.proofs.Tasks.{number_gathered}
use Rattle.theorems.proofs.Order.{Order, Rising, NotOut, Dull, order_ev, order_drop, rising_put, rising_take, rising_dull}
use Rattle.theorems.proofs.Owed.{view, sight, los, his, tags, lo_of, hi_of, IsFifo, IsPut, Fits, Label, owed_join, label_join, label_last, los_join, his_join, tags_join, words_join}
use Rattle.theorems.proofs.Invariant.{OwnerOk, Base, drain_of_lem, Since, Due, DueIf, Inv, Calm, growth_later}
use Rattle.theorems.proofs.Laying.{base_ev, base_line, Laid, base_lay, base_lay_put}
use Rattle.theorems.proofs.Settle.{Settled, settle}
use Rattle.theorems.proofs.Refresh.{Refreshed, refresh, tag_keep, tail_keep}
use Rattle.theorems.proofs.Claiming.{ClaimedWhile, base_claim}
use Rattle.theorems.proofs.OwnerLines.{Facts, Looks, Seen, Next, put_fits, own_next}
use Rattle.theorems.proofs.Directory.{Free}
use Rattle.theorems.proofs.Shape.{Shape}
use Rattle.theorems.proofs.ShapeLay.{places_join}
use Rattle.theorems.proofs.ShapeStep.{not_both, no_more, claim_only}

-- WHAT A STEP OF THE OWNER DID: neither a drain nor, with one exception, a put that comes to memory
pub record Mild (δ : Bool) (y : ℕ) (a : Answer) (e : Event) : Type 0 where
  pub none : NotDone e
  pub still : drain_of_lem e ≡ 0
  pub calm : (k : ℕ) → Calm (suc k) e
  pub waits : (t : Task) (n : ℕ) → e ≡ waiting_put t n → ((i : ℕ) × (a ≡ Finished i t)) × (n ≡ y + 1)

plain_mild : (δ : Bool) (y : ℕ) (a : Answer) (e : Event) → NotDone e → drain_of_lem e ≡ 0 → ((k : ℕ) → Calm (suc k) e) → ((t : Task) (n : ℕ) → e ≡ waiting_put t n → ⊥) → Mild δ y a e
plain_mild δ y a e p q r s = record { none = p; still = q; calm = r; waits = λ t n x. absurd (s t n x) }

pub step_mild : (ω : ℕ) (δ : Bool) (y : ℕ) (o : Line) (a : Answer) → ((i : ℕ) (t : Task) → a ≡ Finished i t → δ ≡ true) → Mild δ y a (event_of ω δ y (step 0) o a)
step_mild ω δ y o Accepted f = plain_mild δ y Accepted quiet tt refl (λ k. tt) (λ t n x. let z : ◌≡◌ {A = ℕ} 0 1 = cc in omega arith)
step_mild ω δ y o (Numbered n) f = plain_mild δ y (Numbered n) quiet tt refl (λ k. tt) (λ t n x. let z : ◌≡◌ {A = ℕ} 0 1 = cc in omega arith)
step_mild ω δ y o GoesOn f = go (is_line_1 o) (is_compare o)
  where
    go : (x z : Bool) → Mild δ y GoesOn (cond x (line_1 0) (cond z (failed_compare 0) quiet))
    go true z = plain_mild δ y GoesOn (line_1 0) tt refl (λ k. omega arith) (λ t n x. let z : ◌≡◌ {A = ℕ} 0 1 = cc in omega arith)
    go false true = plain_mild δ y GoesOn (failed_compare 0) tt refl (λ k. tt) (λ t n x. let z : ◌≡◌ {A = ℕ} 0 1 = cc in omega arith)
    go false false = plain_mild δ y GoesOn quiet tt refl (λ k. tt) (λ t n x. let z : ◌≡◌ {A = ℕ} 0 1 = cc in omega arith)
step_mild ω true y o (Finished i t) f =
    record { none = tt; still = refl; calm = λ k. tt; waits = λ u n x. let p : t ≡ u = cc in let q : y + 1 ≡ n = cc in ((i, ap (λ (u : Task). Finished i u) p), sym q) }
step_mild ω false y o (Finished i t) f = not_both false refl (f i t refl)
step_mild ω δ y o (HandedOut i t) f = go (is_compare o)
  where
    go : (x : Bool) → Mild δ y (HandedOut i t) (cond x (handed_out 0 t) (handed_out 0 t))
    go true = plain_mild δ y (HandedOut i t) (handed_out 0 t) tt refl (λ k. tt) (λ t n x. let z : ◌≡◌ {A = ℕ} 0 1 = cc in omega arith)
    go false = plain_mild δ y (HandedOut i t) (handed_out 0 t) tt refl (λ k. tt) (λ t n x. let z : ◌≡◌ {A = ℕ} 0 1 = cc in omega arith)
step_mild ω δ y o (Empty i) f = plain_mild δ y (Empty i) (found_empty i) tt refl (λ k. tt) (λ t n x. let z : ◌≡◌ {A = ℕ} 0 1 = cc in omega arith)
step_mild ω δ y o (Full i t) f = plain_mild δ y (Full i t) (found_full t) tt refl (λ k. tt) (λ t n x. let z : ◌≡◌ {A = ℕ} 0 1 = cc in omega arith)
step_mild ω δ y o (Grown i) f = plain_mild δ y (Grown i) quiet tt refl (λ k. tt) (λ t n x. let z : ◌≡◌ {A = ℕ} 0 1 = cc in omega arith)
step_mild ω δ y o (Refused r) f = plain_mild δ y (Refused r) quiet tt refl (λ k. tt) (λ t n x. let z : ◌≡◌ {A = ℕ} 0 1 = cc in omega arith)

-- only a put's last line finishes
abbrev is_finished : Answer → Bool
is_finished Accepted = false
is_finished (Numbered n) = false
is_finished GoesOn = false
is_finished (Finished i t) = true
is_finished (HandedOut i t) = false
is_finished (Empty i) = false
is_finished (Full i t) = false
is_finished (Grown i) = false
is_finished (Refused r) = false

neither : (x : Bool) (E E' : Effect) → is_finished E.answer ≡ false → is_finished E'.answer ≡ false → is_finished (when x then E else E').answer ≡ false
unfolding when◌then◌else◌
neither true E E' p q = p
neither false E E' p q = q

unfinished : {A : Type 0} (a : Answer) (i : ℕ) (u : Task) → is_finished a ≡ false → a ≡ Finished i u → A
unfinished a i u p q = not_both (is_finished a) p (ap is_finished q)

pub finish_only : (ρ : Room) (κ : Kind) (w ω : ℕ) (Q : Queue) (μ : List ℕ) (n : ℕ) (o : Line) (i : ℕ) (u : Task) → (line_step ρ κ w ω Q μ n o).answer ≡ Finished i u → (r : Anchor) × (o ≡ PutFinish u r)
unfolding line_step
finish_only ρ κ w ω Q μ n Idle i u q = unfinished _ i u refl q
finish_only ρ κ w ω Q μ n (PutRead t) i u q = unfinished _ i u refl q
finish_only ρ κ w ω Q μ n (PutTail t h) i u q = unfinished _ i u refl q
finish_only ρ κ w ω Q μ n (PutTest t r) i u q = unfinished _ i u refl q
finish_only ρ κ w ω Q μ n (PutWord t r j) i u q = unfinished _ i u refl q
finish_only ρ κ w ω Q μ n (PutFinish t r) i u q = let e : t ≡ u = cc in (r, ap (λ (u : Task). PutFinish u r) e)
finish_only ρ κ w ω Q μ n (Claim t) i u q = unfinished _ i u (neither (fits ρ ω Q) _ _ refl refl) q
finish_only ρ κ w ω Q μ n (Note t) i u q = unfinished _ i u refl q
finish_only ρ κ w ω Q μ n (Copy t h j k) i u q = unfinished _ i u refl q
finish_only ρ κ w ω Q μ n (Publish (ForPut t)) i u q = unfinished _ i u refl q
finish_only ρ κ w ω Q μ n (Publish ForCommit) i u q = unfinished _ i u refl q
finish_only ρ κ w ω Q μ n TakeRead i u q = unfinished _ i u refl q
finish_only ρ κ w ω Q μ n (TakeTail h) i u q = unfinished _ i u refl q
finish_only ρ κ w ω Q μ n (TakeTest r) i u q = unfinished _ i u (neither (is_empty κ r) _ _ refl refl) q
finish_only ρ κ w ω Q μ n (TakeWord r t j) i u q = unfinished _ i u refl q
finish_only ρ κ w ω Q μ n (TakeFinish r t) i u q = unfinished _ i u refl q
finish_only ρ κ w ω Q μ n StealRead i u q = unfinished _ i u refl q
finish_only ρ κ w ω Q μ n (StealTail h) i u q = unfinished _ i u refl q
finish_only ρ κ w ω Q μ n (StealTest r) i u q = unfinished _ i u (neither (is_empty κ r) _ _ refl refl) q
finish_only ρ κ w ω Q μ n (StealNote r) i u q = unfinished _ i u refl q
finish_only ρ κ w ω Q μ n (StealWord r k t j) i u q = unfinished _ i u refl q
finish_only ρ κ w ω Q μ n (StealNext r t) i u q = unfinished _ i u refl q
finish_only ρ κ w ω Q μ n (StealCompare r e t) i u q = unfinished _ i u (neither (succeeds κ Q n r) _ _ refl refl) q

-- only it stores a put's anchor
words_none : (ss : List Store) → AllWords ss → NonePut ss
words_none [] a = tt
words_none (StoreWord b s j x ∷ ss) a = (tt, words_none ss a)
words_none (StoreNote k ∷ ss) a = absurd a
words_none (StorePut r ∷ ss) a = absurd a
words_none (StoreOut r ∷ ss) a = absurd a
words_none (StoreHead i ∷ ss) a = absurd a
words_none (StoreTail i ∷ ss) a = absurd a

two_none : (x : Bool) (E E' : Effect) → NonePut E.stores → NonePut E'.stores → NonePut (when x then E else E').stores
unfolding when◌then◌else◌
two_none true E E' p q = p
two_none false E E' p q = q

out_none : (κ : Kind) (r : Anchor) → NonePut (take_store κ r ∷ [])
out_none Lifo r = (tt, tt)
out_none Fifo r = (tt, tt)
out_none Deque r = (tt, tt)

steal_none : (κ : Kind) (r : Anchor) (e : ℕ) → NonePut (steal_store κ r e ∷ [])
steal_none Lifo r e = (tt, tt)
steal_none Fifo r e = (tt, tt)
steal_none Deque r e = (tt, tt)

pub none_put : (ρ : Room) (κ : Kind) (w ω : ℕ) (Q : Queue) (μ : List ℕ) (o : Line) → ((t : Task) (r : Anchor) → o ≡ PutFinish t r → ⊥) → NonePut (line_step ρ κ w ω Q μ 0 o).stores
unfolding line_step
none_put ρ κ w ω Q μ Idle d = tt
none_put ρ κ w ω Q μ (PutRead t) d = tt
none_put ρ κ w ω Q μ (PutTail t h) d = tt
none_put ρ κ w ω Q μ (PutTest t r) d = tt
none_put ρ κ w ω Q μ (PutWord t r j) d = (tt, tt)
none_put ρ κ w ω Q μ (PutFinish t r) d = absurd (d t r refl)
none_put ρ κ w ω Q μ (Claim t) d = two_none (fits ρ ω Q) _ _ tt tt
none_put ρ κ w ω Q μ (Note t) d = tt
none_put ρ κ w ω Q μ (Copy t h j k) d = words_none (copy_words κ ω Q μ (h + k) (ω + 1)) (copy_words_lem κ ω Q μ (h + k) (ω + 1))
none_put ρ κ w ω Q μ (Publish (ForPut t)) d = (tt, tt)
none_put ρ κ w ω Q μ (Publish ForCommit) d = (tt, tt)
none_put ρ κ w ω Q μ TakeRead d = tt
none_put ρ κ w ω Q μ (TakeTail h) d = tt
none_put ρ κ w ω Q μ (TakeTest r) d = two_none (is_empty κ r) _ _ tt tt
none_put ρ κ w ω Q μ (TakeWord r t j) d = tt
none_put ρ κ w ω Q μ (TakeFinish r t) d = out_none κ r
none_put ρ κ w ω Q μ StealRead d = tt
none_put ρ κ w ω Q μ (StealTail h) d = tt
none_put ρ κ w ω Q μ (StealTest r) d = two_none (is_empty κ r) _ _ tt tt
none_put ρ κ w ω Q μ (StealNote r) d = tt
none_put ρ κ w ω Q μ (StealWord r k t j) d = tt
none_put ρ κ w ω Q μ (StealNext r t) d = tt
none_put ρ κ w ω Q μ (StealCompare r e t) d = two_none (succeeds κ Q 0 r) _ _ (steal_none κ r e) tt

-- DUE
since_some : (t : Task) (n : ℕ) (h : History) → Memᴰ (waiting_put t n) h → (d : ℕ) × Since t n d h
since_some t n [] m = absurd (Memᴰ.not-nil m)
since_some t n (e ∷ h) m = go (Memᴰ.cases_cons m) (λ x. since_some t n h x)
  where
    go : (waiting_put t n ≡ e) ⊎ Memᴰ (waiting_put t n) h → (Memᴰ (waiting_put t n) h → (d : ℕ) × Since t n d h) → (d : ℕ) × Since t n d (e ∷ h)
    go (inl q) f = (0, inl (sym q, refl))
    go (inr x) f = let r = f x in (r.0 + drain_of_lem e, inr (r.0, refl, r.1))

pub due_next : (κ : Kind) (v : View) (ss rr : List Store) (h : History) (e : Event) → drain_of_lem e ≡ 0 → ((t : Task) (n : ℕ) → e ≡ waiting_put t n → (0 < n) × Label κ v (ss ++ rr) (n - 1) t) → Due κ v ss h → Due κ v (ss ++ rr) (e ∷ h)
due_next κ v ss rr h e z f D t n d (inl (q, p)) =
    let r = f t n q in
    inr (omega (arith, r.0), subst (λ (k : ℕ). Label κ v (ss ++ rr) k t) {x = n - 1} {y = n - 1 - d} (omega arith) r.1)
due_next κ v ss rr h e z f D t n d (inr (c, q, S)) = go (D t n c S)
  where
    go : Memᴰ (finished_put t) h ⊎ ((c < n) × Label κ v ss (n - 1 - c) t) → Memᴰ (finished_put t) (e ∷ h) ⊎ ((d < n) × Label κ v (ss ++ rr) (n - 1 - d) t)
    go (inl m) = inl (Memᴰ.tail m)
    go (inr (l, b)) = inr (omega (arith, q, z), subst (λ (k : ℕ). Label κ v (ss ++ rr) k t) {x = n - 1 - c} {y = n - 1 - d} (omega (arith, q, z)) (label_join κ v ss rr (n - 1 - c) t b))

pub due_move : (κ : Kind) (v v' : View) (ss : List Store) (h : History) → ((m : ℕ) (t : Task) → Label κ v ss m t → Label κ v' ss m t) → Due κ v ss h → Due κ v' ss h
due_move κ v v' ss h L D t n d S = go (D t n d S)
  where
    go : Memᴰ (finished_put t) h ⊎ ((d < n) × Label κ v ss (n - 1 - d) t) → Memᴰ (finished_put t) h ⊎ ((d < n) × Label κ v' ss (n - 1 - d) t)
    go (inl m) = inl m
    go (inr (l, b)) = inr (l, L (n - 1 - d) t b)

pub due_if_move : (δ : Bool) (κ : Kind) (v v' : View) (ss : List Store) (h : History) → ((m : ℕ) (t : Task) → Label κ v ss m t → Label κ v' ss m t) → DueIf δ κ v ss h → DueIf δ κ v' ss h
due_if_move true κ v v' ss h L D = due_move κ v v' ss h L D
due_if_move false κ v v' ss h L D = D

pub none_waits : (e : Event) (h : History) → ((t : Task) (n : ℕ) → e ≡ waiting_put t n → ⊥) → ((t : Task) (n : ℕ) → Memᴰ (waiting_put t n) h → ⊥) → (t : Task) (n : ℕ) → Memᴰ (waiting_put t n) (e ∷ h) → ⊥
none_waits e h f D t n m = go (Memᴰ.cases_cons m)
  where
    go : (waiting_put t n ≡ e) ⊎ Memᴰ (waiting_put t n) h → ⊥
    go (inl q) = f t n (sym q)
    go (inr x) = D t n x

-- WHAT THE OWNER KNOWS
tops_of : (κ : Kind) (w ω : ℕ) (δ : Bool) (Q : Queue) (μ : List ℕ) (ol oh : ℕ) (ss : List Store) (φ : ℕ → Line) (h : History) → Base κ w ω δ Q μ ol oh ss φ h → IsFifo κ → his κ ss ol oh ≡ (anchor_after ss Q.anchor).count
tops_of Lifo w ω δ Q μ ol oh ss φ h B f = absurd f
tops_of Fifo w ω δ Q μ ol oh ss φ h B f = tail_keep w δ (view ω Q μ ol oh) Q.anchor.tag h ss Q.anchor (sym B.tops ∙ B.rep.1) B.owed
tops_of Deque w ω δ Q μ ol oh ss φ h B f = absurd f

whole_of : (κ : Kind) (w ω : ℕ) (δ : Bool) (Q : Queue) (μ : List ℕ) (ol oh : ℕ) (ss : List Store) (φ : ℕ → Line) (h : History) → (δ ≡ false → ss ≡ []) → Base κ w ω δ Q μ ol oh ss φ h
    → (i : ℕ) → los ss ol ≤ i → i < his κ ss ol oh → Told (task_at (sight κ ω ss Q μ ol oh) i) h
whole_of κ w ω true Q μ ol oh ss φ h f B i p q = go (Z.answers _ (Z.base.core.whole i p q))
  where
    Z : Settled κ w ω true Q μ ol oh ss φ h
    Z = settle κ w ω true Q μ ol oh ss φ h B

    go : {t : Task} → Memᴰ (finished_put t) h ⊎ ((n : ℕ) × Memᴰ (waiting_put t n) h) → Told t h
    go x = x
whole_of κ w ω false Q μ ol oh [] φ h f B i p q = inl (B.core.whole i p q)
whole_of κ w ω false Q μ ol oh (s ∷ ss) φ h f B i p q = absurd (let z : ◌≡◌ {A = List Store} (s ∷ ss) [] = f refl in let x : ◌≡◌ {A = ℕ} 0 1 = cc in omega arith)

facts_of : (κ : Kind) (w ω : ℕ) (δ : Bool) (Q : Queue) (μ : List ℕ) (ol oh : ℕ) (ss : List Store) (φ : ℕ → Line) (h : History) → (δ ≡ false → ss ≡ []) → Base κ w ω δ Q μ ol oh ss φ h
    → Facts κ ω (laid ss Q) (words ω Q.arrays ss μ) (los ss ol) (his κ ss ol oh) (tags ss Q.anchor.tag) h
facts_of κ w ω δ Q μ ol oh ss φ h f B =
    record {
      sized = Z.base.sized;
      sorted = Z.base.sorted;
      room = Z.base.room;
      mid = omega (arith, Z.base.core.low, Z.base.core.mid, Z.base.core.high);
      fit = Z.base.core.fit;
      tagged = tag_keep ss Q.anchor Q.anchor.tag refl;
      topped = tops_of κ w ω δ Q μ ol oh ss φ h B;
      whole = whole_of κ w ω δ Q μ ol oh ss φ h f B;
    }
  where
    Z : Settled κ w ω δ Q μ ol oh ss φ h
    Z = settle κ w ω δ Q μ ol oh ss φ h B

same_size : (κ : Kind) (a : Anchor) (lo hi lo' hi' : ℕ) → StandsFor κ a lo hi → StandsFor κ a lo' hi' → lo ≡ hi → lo' ≡ hi'
same_size Lifo a lo hi lo' hi' (p, q, r) (p', q', r') e = omega arith
same_size Fifo a lo hi lo' hi' (p, q) (p', q') e = omega arith
same_size Deque a lo hi lo' hi' (p, q) (p', q') e = omega arith

-- every put that was answered finished is in memory once all is put down
pub all_done : (κ : Kind) (w ω : ℕ) (δ : Bool) (Q : Queue) (μ : List ℕ) (ol oh : ℕ) (ss : List Store) (φ : ℕ → Line) (h : History) (Z : Settled κ w ω δ Q μ ol oh ss φ h) → DueIf δ κ (view ω Q μ ol oh) ss h
    → (t : Task) → Told t h → Memᴰ (finished_put t) Z.past
all_done κ w ω δ Q μ ol oh ss φ h Z D t (inl d) = Z.done t d
all_done κ w ω false Q μ ol oh ss φ h Z D t (inr (n, d)) = absurd (D t n d)
all_done κ w ω true Q μ ol oh ss φ h Z D t (inr (n, d)) = let S = since_some t n h d in go S.0 (D t n S.0 S.1)
  where
    go : (c : ℕ) → Memᴰ (finished_put t) h ⊎ ((c < n) × Label κ (view ω Q μ ol oh) ss (n - 1 - c) t) → Memᴰ (finished_put t) Z.past
    go c (inl m) = Z.done t m
    go c (inr (l, b)) = Z.labels _ t b

seen_of : (κ : Kind) (w ω : ℕ) (δ : Bool) (Q : Queue) (μ : List ℕ) (ol oh : ℕ) (ss : List Store) (φ : ℕ → Line) (h : History) → Base κ w ω δ Q μ ol oh ss φ h → DueIf δ κ (view ω Q μ ol oh) ss h
    → StandsFor κ (anchor_after ss Q.anchor) (los ss ol) (his κ ss ol oh) → Seen κ (laid ss Q) (los ss ol) (his κ ss ol oh) h
seen_of κ w ω δ Q μ ol oh ss φ h B D X = record { exact = X; empty = λ e t d. go e t (Z.base.core.all t (all_done κ w ω δ Q μ ol oh ss φ h Z D t d)) }
  where
    Z : Settled κ w ω δ Q μ ol oh ss φ h
    Z = settle κ w ω δ Q μ ol oh ss φ h B

    go : los ss ol ≡ his κ ss ol oh → (t : Task) → Out t Z.past ⊎ ((i : ℕ) × (Z.base.lo ≤ i) × (i < Z.base.hi) × (task_at (sight κ ω ss Q μ ol oh) i ≡ t)) → Out t h
    go e t (inl o) = Z.outs t o
    go e t (inr (i, a, b, x)) = absurd (omega (arith, same_size κ _ _ _ _ _ X Z.base.rep e))

-- FIFO'S ORDER. A put's last line
put_order : (κ : Kind) (w ω : ℕ) (δ : Bool) (Q : Queue) (μ : List ℕ) (ol oh : ℕ) (ss : List Store) (φ : ℕ → Line) (h : History) (t : Task) (r : Anchor) → (δ ≡ false → ss ≡ []) → Base κ w ω δ Q μ ol oh ss φ h
    → OwnerOk κ (sight κ ω ss Q μ ol oh) (tags ss Q.anchor.tag) h (PutFinish t r) → Order κ (view ω Q μ ol oh) Q.anchor.head ss h → Order κ (view ω Q μ ol oh) Q.anchor.head (ss ++ (put_store κ w r ∷ [])) h
put_order Lifo w ω δ Q μ ol oh ss φ h t r none B k R = tt
put_order Fifo w ω δ Q μ ol oh ss φ h t r none B k R =
    subst (λ (x : ℕ). Rising (view ω Q μ ol oh) Q.anchor.head (ss ++ (StoreTail x ∷ [])) h) {x = his Fifo ss ol oh + 1} {y = r.count + 1} (omega (arith, k.1.0.1))
    (rising_put w ω δ Q μ ol oh Q.anchor.head Q.anchor.tag ss h t B.owed (sym (number_gathered ω _) ∙ ap (λ (u : Task). u.number) k.1.3) k.0.newer (whole_of Fifo w ω δ Q μ ol oh ss φ h none B) R)
put_order Deque w ω δ Q μ ol oh ss φ h t r none B k R = tt

-- a take's
take_order : (κ : Kind) (w ω : ℕ) (δ : Bool) (Q : Queue) (μ : List ℕ) (ol oh : ℕ) (ss : List Store) (φ : ℕ → Line) (h : History) (t : Task) (r : Anchor) → (δ ≡ false → ss ≡ []) → Base κ w ω δ Q μ ol oh ss φ h
    → OwnerOk κ (sight κ ω ss Q μ ol oh) (tags ss Q.anchor.tag) h (TakeFinish r t) → Order κ (view ω Q μ ol oh) Q.anchor.head ss h
    → Order κ (view ω Q μ ol oh) Q.anchor.head (ss ++ (take_store κ r ∷ [])) (handed_out 0 t ∷ h)
take_order Lifo w ω δ Q μ ol oh ss φ h t r none B k R = tt
take_order Fifo w ω δ Q μ ol oh ss φ h t r none B k R =
    subst (λ (x : ℕ). Rising (view ω Q μ ol oh) Q.anchor.head (ss ++ (StoreHead x ∷ [])) (handed_out 0 t ∷ h)) {x = los ss ol + 1} {y = r.head + 1} (omega (arith, k.0.0))
    (rising_take w ω δ Q μ ol oh Q.anchor.head Q.anchor.tag ss h t B.owed k.2 (ap (λ (u : Task). u.number) k.3 ∙ number_gathered ω _) (rw k.3 (whole_of Fifo w ω δ Q μ ol oh ss φ h none B (los ss ol) (omega arith) k.2)) R)
take_order Deque w ω δ Q μ ol oh ss φ h t r none B k R = tt

-- any other
words_dull : (ss : List Store) → AllWords ss → Dull ss
words_dull [] a = tt
words_dull (StoreWord b s j x ∷ ss) a = words_dull ss a
words_dull (StoreNote k ∷ ss) a = absurd a
words_dull (StorePut r ∷ ss) a = absurd a
words_dull (StoreOut r ∷ ss) a = absurd a
words_dull (StoreHead i ∷ ss) a = absurd a
words_dull (StoreTail i ∷ ss) a = absurd a

dull_order : (κ : Kind) (v : View) (a : ℕ) (ss rr : List Store) (h : History) (e : Event) → NotOut e → Dull rr → Order κ v a ss h → Order κ v a (ss ++ rr) (e ∷ h)
dull_order Lifo v a ss rr h e n d R = tt
dull_order Fifo v a ss rr h e n d R = order_ev Fifo v a (ss ++ rr) h e n (rising_dull rr d R)
dull_order Deque v a ss rr h e n d R = tt

either_order : (κ : Kind) (v : View) (a : ℕ) (ss : List Store) (h : History) (ω : ℕ) (δ : Bool) (y : ℕ) (o : Line) (x : Bool) (E E' : Effect) → NotOut (event_of ω δ y (step 0) o E.answer) → NotOut (event_of ω δ y (step 0) o E'.answer) → Dull E.stores → Dull E'.stores
    → Order κ v a ss h → Order κ v a (ss ++ (when x then E else E').stores) (event_of ω δ y (step 0) o (when x then E else E').answer ∷ h)
unfolding when◌then◌else◌
either_order κ v a ss h ω δ y o true E E' n n' d d' R = dull_order κ v a ss E.stores h _ n d R
either_order κ v a ss h ω δ y o false E E' n n' d d' R = dull_order κ v a ss E'.stores h _ n' d' R

order_next : (ρ : Room) (κ : Kind) (w ω : ℕ) (δ : Bool) (y : ℕ) (Q : Queue) (μ : List ℕ) (ss : List Store) (o : Line) (φ : ℕ → Line) (h : History) (I : Inv κ w ω δ Q μ ss o φ h) → (δ ≡ false → ss ≡ [])
    → (line_step ρ κ w ω (laid ss Q) (words ω Q.arrays ss μ) 0 o).claims ≡ false → ((t : Task) (r : Anchor) → o ≡ PutFinish t r → δ ≡ true)
    → let E = line_step ρ κ w ω (laid ss Q) (words ω Q.arrays ss μ) 0 o in
    Order κ (view ω Q μ I.own_lo I.own_hi) Q.anchor.head (ss ++ E.stores) (event_of ω δ y (step 0) o E.answer ∷ h)
unfolding line_step
order_next ρ κ w ω δ y Q μ ss Idle φ h I none f d = dull_order κ _ _ ss _ h _ tt tt I.order
order_next ρ κ w ω δ y Q μ ss (PutRead t) φ h I none f d = dull_order κ _ _ ss _ h _ tt tt I.order
order_next ρ κ w ω δ y Q μ ss (PutTail t a) φ h I none f d = dull_order κ _ _ ss _ h _ tt tt I.order
order_next ρ κ w ω δ y Q μ ss (PutTest t r) φ h I none f d = dull_order κ _ _ ss _ h _ tt tt I.order
order_next ρ κ w ω δ y Q μ ss (PutWord t r j) φ h I none f d = dull_order κ _ _ ss _ h _ tt tt I.order
order_next ρ κ w ω δ y Q μ ss (PutFinish t r) φ h I none f d = finish_order δ (d t r refl)
  where
    finish_order : (x : Bool) → x ≡ true → Order κ (view ω Q μ I.own_lo I.own_hi) Q.anchor.head (ss ++ (put_store κ w r ∷ [])) (event_of_finish x y t ∷ h)
    finish_order true e = order_ev κ _ _ _ h (waiting_put t (y + 1)) tt (put_order κ w ω δ Q μ I.own_lo I.own_hi ss φ h t r none I.base I.own I.order)
    finish_order false e = not_both false refl e
order_next ρ κ w ω δ y Q μ ss (Claim t) φ h I none f d = either_order κ _ _ ss h ω δ y (Claim t) (fits ρ ω (laid ss Q)) _ _ tt tt tt tt I.order
order_next ρ κ w ω δ y Q μ ss (Note t) φ h I none f d = dull_order κ _ _ ss _ h _ tt tt I.order
order_next ρ κ w ω δ y Q μ ss (Copy t a j k) φ h I none f d = dull_order κ _ _ ss (copy_words κ ω (laid ss Q) (words ω Q.arrays ss μ) (a + k) (ω + 1)) h quiet tt (words_dull (copy_words κ ω (laid ss Q) (words ω Q.arrays ss μ) (a + k) (ω + 1)) (copy_words_lem κ ω (laid ss Q) (words ω Q.arrays ss μ) (a + k) (ω + 1))) I.order
order_next ρ κ w ω δ y Q μ ss (Publish (ForPut t)) φ h I none f d = dull_order κ _ _ ss _ h _ tt tt I.order
order_next ρ κ w ω δ y Q μ ss (Publish ForCommit) φ h I none f d = dull_order κ _ _ ss _ h _ tt tt I.order
order_next ρ κ w ω δ y Q μ ss TakeRead φ h I none f d = dull_order κ _ _ ss _ h _ tt tt I.order
order_next ρ κ w ω δ y Q μ ss (TakeTail a) φ h I none f d = dull_order κ _ _ ss _ h _ tt tt I.order
order_next ρ κ w ω δ y Q μ ss (TakeTest r) φ h I none f d = either_order κ _ _ ss h ω δ y (TakeTest r) (is_empty κ r) _ _ tt tt tt tt I.order
order_next ρ κ w ω δ y Q μ ss (TakeWord r t j) φ h I none f d = dull_order κ _ _ ss _ h _ tt tt I.order
order_next ρ κ w ω δ y Q μ ss (TakeFinish r t) φ h I none f d = take_order κ w ω δ Q μ I.own_lo I.own_hi ss φ h t r none I.base I.own I.order
order_next ρ κ w ω δ y Q μ ss StealRead φ h I none f d = absurd I.own
order_next ρ κ w ω δ y Q μ ss (StealTail a) φ h I none f d = absurd I.own
order_next ρ κ w ω δ y Q μ ss (StealTest r) φ h I none f d = absurd I.own
order_next ρ κ w ω δ y Q μ ss (StealNote r) φ h I none f d = absurd I.own
order_next ρ κ w ω δ y Q μ ss (StealWord r k t j) φ h I none f d = absurd I.own
order_next ρ κ w ω δ y Q μ ss (StealNext r t) φ h I none f d = absurd I.own
order_next ρ κ w ω δ y Q μ ss (StealCompare r e t) φ h I none f d = absurd I.own

-- THE STEP
pub sight_join : (κ : Kind) (ω : ℕ) (ss rr : List Store) (Q : Queue) (μ : List ℕ) (lo hi : ℕ) → sight κ ω (ss ++ rr) Q μ lo hi ≡ sight κ ω rr (laid ss Q) (words ω Q.arrays ss μ) (los ss lo) (his κ ss lo hi)
sight_join κ ω ss rr Q μ lo hi = rw (words_join ω Q.arrays ss rr μ, places_join ss rr Q.published, los_join ss rr lo, his_join κ ss rr lo hi)

-- the owner about to do the line o: if that reads the anchor, what it reads stands for its window
record Ready (κ : Kind) (w ω : ℕ) (δ : Bool) (Q : Queue) (μ : List ℕ) (ss : List Store) (o : Line) (φ : ℕ → Line) (h : History) : Type 0 where
  pub inv : Inv κ w ω δ Q μ ss o φ h
  pub seen : Looks o → Seen κ (laid ss Q) (los ss inv.own_lo) (his κ ss inv.own_lo inv.own_hi) h

looked : (κ : Kind) (w ω : ℕ) (δ : Bool) (Q : Queue) (μ : List ℕ) (ss : List Store) (o : Line) (φ : ℕ → Line) (h : History) (I : Inv κ w ω δ Q μ ss o φ h)
    → ((lo hi : ℕ) → OwnerOk κ (sight κ ω ss Q μ lo hi) (tags ss Q.anchor.tag) h o) → Ready κ w ω δ Q μ ss o φ h
looked κ w ω δ Q μ ss o φ h I k =
    record {
      inv = record { own_lo = R.own_lo; own_hi = R.own_hi; base = R.base; own = k R.own_lo R.own_hi; due = D; order = R.order I.order };
      seen = λ x. seen_of κ w ω δ Q μ R.own_lo R.own_hi ss φ h R.base D R.exact;
    }
  where
    R : Refreshed κ w ω δ Q μ I.own_lo I.own_hi ss φ h
    R = refresh κ I.base

    D : DueIf δ κ (view ω Q μ R.own_lo R.own_hi) ss h
    D = due_if_move δ κ (view ω Q μ I.own_lo I.own_hi) (view ω Q μ R.own_lo R.own_hi) ss h R.labels I.due

ready : (κ : Kind) (w ω : ℕ) (δ : Bool) (Q : Queue) (μ : List ℕ) (ss : List Store) (o : Line) (φ : ℕ → Line) (h : History) → Inv κ w ω δ Q μ ss o φ h → Ready κ w ω δ Q μ ss o φ h
ready κ w ω δ Q μ ss Idle φ h I = record { inv = I; seen = λ y. absurd y }
ready κ w ω δ Q μ ss (PutRead t) φ h I = looked κ w ω δ Q μ ss (PutRead t) φ h I (λ lo hi. I.own)
ready κ w ω δ Q μ ss (PutTail t a) φ h I = record { inv = I; seen = λ y. absurd y }
ready κ w ω δ Q μ ss (PutTest t r) φ h I = record { inv = I; seen = λ y. absurd y }
ready κ w ω δ Q μ ss (PutWord t r j) φ h I = record { inv = I; seen = λ y. absurd y }
ready κ w ω δ Q μ ss (PutFinish t r) φ h I = record { inv = I; seen = λ y. absurd y }
ready κ w ω δ Q μ ss (Claim t) φ h I = record { inv = I; seen = λ y. absurd y }
ready κ w ω δ Q μ ss (Note t) φ h I = looked κ w ω δ Q μ ss (Note t) φ h I (λ lo hi. I.own)
ready κ w ω δ Q μ ss (Copy t a j k) φ h I = record { inv = I; seen = λ y. absurd y }
ready κ w ω δ Q μ ss (Publish t) φ h I = record { inv = I; seen = λ y. absurd y }
ready κ w ω δ Q μ ss TakeRead φ h I = looked κ w ω δ Q μ ss TakeRead φ h I (λ lo hi. tt)
ready κ w ω δ Q μ ss (TakeTail a) φ h I = record { inv = I; seen = λ y. absurd y }
ready κ w ω δ Q μ ss (TakeTest r) φ h I = record { inv = I; seen = λ y. absurd y }
ready κ w ω δ Q μ ss (TakeWord r t j) φ h I = record { inv = I; seen = λ y. absurd y }
ready κ w ω δ Q μ ss (TakeFinish r t) φ h I = record { inv = I; seen = λ y. absurd y }
ready κ w ω δ Q μ ss StealRead φ h I = record { inv = I; seen = λ y. absurd y }
ready κ w ω δ Q μ ss (StealTail a) φ h I = record { inv = I; seen = λ y. absurd y }
ready κ w ω δ Q μ ss (StealTest r) φ h I = record { inv = I; seen = λ y. absurd y }
ready κ w ω δ Q μ ss (StealNote r) φ h I = record { inv = I; seen = λ y. absurd y }
ready κ w ω δ Q μ ss (StealWord r k t j) φ h I = record { inv = I; seen = λ y. absurd y }
ready κ w ω δ Q μ ss (StealNext r t) φ h I = record { inv = I; seen = λ y. absurd y }
ready κ w ω δ Q μ ss (StealCompare r e t) φ h I = record { inv = I; seen = λ y. absurd y }

is_put : (κ : Kind) (w : ℕ) (r : Anchor) → IsPut (put_store κ w r)
is_put Lifo w r = tt
is_put Fifo w r = tt
is_put Deque w r = tt

pub put_stores : (ρ : Room) (κ : Kind) (w ω : ℕ) (Q : Queue) (μ : List ℕ) (o : Line) (t : Task) (r : Anchor) → o ≡ PutFinish t r → (line_step ρ κ w ω Q μ 0 o).stores ≡ put_store κ w r ∷ []
unfolding line_step
put_stores ρ κ w ω Q μ o t r e = rw e

module _ (ρ : Room) (κ : Kind) (w ω : ℕ) (δ : Bool) (y : ℕ) (Q : Queue) (μ : List ℕ) (ss : List Store) (o : Line) (φ : ℕ → Line) (h : History) where
  abbrev pub E : Effect
  E = line_step ρ κ w ω (laid ss Q) (words ω Q.arrays ss μ) 0 o

  -- stores join
  pub own_join : ω ≤ 4 → Inv κ w ω δ Q μ ss o φ h → (δ ≡ false → ss ≡ []) → y ≡ length ss → E.claims ≡ false → ((t : Task) (r : Anchor) → o ≡ PutFinish t r → δ ≡ true)
      → Inv κ w ω δ Q μ (ss ++ E.stores) E.line φ (event_of ω δ y (step 0) o E.answer ∷ h) × GoodEvent δ (event_of ω δ y (step 0) o E.answer) h
  own_join wide I none len f d = (
    record {
      own_lo = J.own_lo;
      own_hi = J.own_hi;
      base = base_line (base_ev J.base e M.none M.calm) (ss ++ E.stores) (owed_join κ w ω δ Q μ J.own_lo J.own_hi Q.anchor.tag (e ∷ h) ss E.stores (base_ev J.base e M.none M.calm).owed N.0.0);
      own = rw (sight_join κ ω ss E.stores Q μ J.own_lo J.own_hi, tags_join ss E.stores Q.anchor.tag) N.0.1;
      due = due δ refl J.due;
      order = order_next ρ κ w ω δ y Q μ ss o φ h J none f d;
    },
    N.1,
  )
    where
      R : Ready κ w ω δ Q μ ss o φ h
      R = ready κ w ω δ Q μ ss o φ h I

      J : Inv κ w ω δ Q μ ss o φ h
      J = R.inv

      e : Event
      e = event_of ω δ y (step 0) o E.answer

      M : Mild δ y E.answer e
      M = step_mild ω δ y o E.answer (λ i t q. let F = finish_only ρ κ w ω (laid ss Q) (words ω Q.arrays ss μ) 0 o i t q in d t F.0 F.1)

      N : Next κ w ω δ y (laid ss Q) (words ω Q.arrays ss μ) (los ss J.own_lo) (his κ ss J.own_lo J.own_hi) (tags ss Q.anchor.tag) h o E
      N = own_next ρ κ w ω δ y (laid ss Q) (words ω Q.arrays ss μ) (los ss J.own_lo) (his κ ss J.own_lo J.own_hi) (tags ss Q.anchor.tag) h o wide
          (facts_of κ w ω δ Q μ J.own_lo J.own_hi ss φ h none J.base) R.seen J.own f d

      label : (t : Task) (n : ℕ) → e ≡ waiting_put t n → (0 < n) × Label κ (view ω Q μ J.own_lo J.own_hi) (ss ++ E.stores) (n - 1) t
      label t n q = (omega (arith, (M.waits t n q).1), there)
        where
          P : (r : Anchor) × (o ≡ PutFinish t r)
          P = finish_only ρ κ w ω (laid ss Q) (words ω Q.arrays ss μ) 0 o (M.waits t n q).0.0 t (M.waits t n q).0.1

          k : OwnerOk κ (sight κ ω ss Q μ J.own_lo J.own_hi) (tags ss Q.anchor.tag) h (PutFinish t P.0)
          k = subst (λ (o : Line). OwnerOk κ (sight κ ω ss Q μ J.own_lo J.own_hi) (tags ss Q.anchor.tag) h o) P.1 J.own

          last : Label κ (view ω Q μ J.own_lo J.own_hi) (ss ++ (put_store κ w P.0 ∷ [])) (length ss) t
          last = label_last κ ω Q μ J.own_lo J.own_hi ss (put_store κ w P.0) t (is_put κ w P.0) k.1.3

          there : Label κ (view ω Q μ J.own_lo J.own_hi) (ss ++ E.stores) (n - 1) t
          there =
              subst (λ (rr : List Store). Label κ (view ω Q μ J.own_lo J.own_hi) (ss ++ rr) (n - 1) t) (sym (put_stores ρ κ w ω (laid ss Q) (words ω Q.arrays ss μ) o t P.0 P.1))
              (subst (λ (m : ℕ). Label κ (view ω Q μ J.own_lo J.own_hi) (ss ++ (put_store κ w P.0 ∷ [])) m t) {x = length ss} {y = n - 1} (omega (arith, len, (M.waits t n q).1)) last)

      due : (δ' : Bool) → δ' ≡ δ → DueIf δ' κ (view ω Q μ J.own_lo J.own_hi) ss h → DueIf δ' κ (view ω Q μ J.own_lo J.own_hi) (ss ++ E.stores) (e ∷ h)
      due true x D = due_next κ (view ω Q μ J.own_lo J.own_hi) ss E.stores h e M.still label D
      due false x D = none_waits e h (λ t n q. let P = finish_only ρ κ w ω (laid ss Q) (words ω Q.arrays ss μ) 0 o (M.waits t n q).0.0 t (M.waits t n q).0.1 in not_both δ (sym x) (d t P.0 P.1)) D

-- X1
pub own_claim : (ρ : Room) (κ : Kind) (w ω : ℕ) (δ : Bool) (used low : ℕ) (Q : Queue) (μ : List ℕ) (ss : List Store) (t : Growth) (φ : ℕ → Line) (h : History) → Shape κ w ω used low Q μ ss (Claim t) φ
    → fits ρ ω (laid ss Q) ≡ true → Free ρ Q μ → Inv κ w ω δ Q μ ss (Claim t) φ h → Inv κ w ω δ (claiming ρ Q) (zeros μ ρ.next (next_length Q)) ss (Note t) φ (quiet ∷ h)
own_claim ρ κ w ω δ used low Q μ ss t φ h S f R I =
    record {
      own_lo = I.own_lo;
      own_hi = I.own_hi;
      base = base_ev C.base quiet tt (λ k. tt);
      own = (growth_later ω h quiet tt t I.own, C.claimed);
      due = due δ (due_if_move δ κ _ _ ss h C.labels I.due);
      order = order_ev κ _ _ ss h quiet tt (C.order I.order);
    }
  where
    C : ClaimedWhile ρ κ w ω δ Q μ I.own_lo I.own_hi ss φ h
    C = base_claim ρ κ w ω δ used low Q μ I.own_lo I.own_hi ss t φ h S f R I.base

    v : View
    v = view ω (claiming ρ Q) (zeros μ ρ.next (next_length Q)) I.own_lo I.own_hi

    due : (δ : Bool) → DueIf δ κ v ss h → DueIf δ κ v ss (quiet ∷ h)
    due true D = subst (λ (l : List Store). Due κ v l (quiet ∷ h)) (no_more ss) (due_next κ v ss [] h quiet refl (λ t n q. absurd (let z : ◌≡◌ {A = ℕ} 0 1 = cc in omega arith)) D)
    due false D = none_waits quiet h (λ t n q. let z : ◌≡◌ {A = ℕ} 0 1 = cc in omega arith) D

-- WITHOUT DELAYED STORES: what joined is put down at once
lay_all : (κ : Kind) (w ω : ℕ) (δ : Bool) (Q : Queue) (μ : List ℕ) (ol oh : ℕ) (ss : List Store) (φ : ℕ → Line) (h : History) → NonePut ss → Base κ w ω δ Q μ ol oh ss φ h
    → Base κ w ω δ (laid ss Q) (words ω Q.arrays ss μ) (los ss ol) (his κ ss ol oh) [] φ h
lay_all κ w ω δ Q μ ol oh [] φ h n B = B
lay_all κ w ω δ Q μ ol oh (s ∷ ss) φ h n B = lay_all κ w ω δ (laid (s ∷ []) Q) (words_of ω Q.arrays s μ) (lo_of s ol) (hi_of κ s ol oh) ss φ h n.1 (base_lay κ w ω δ Q μ ol oh s ss φ h n.0 B)

lay_order : (κ : Kind) (w ω : ℕ) (δ : Bool) (Q : Queue) (μ : List ℕ) (ol oh : ℕ) (ss : List Store) (φ : ℕ → Line) (h : History) → NonePut ss → Base κ w ω δ Q μ ol oh ss φ h
    → Order κ (view ω Q μ ol oh) Q.anchor.head ss h → Order κ (view ω (laid ss Q) (words ω Q.arrays ss μ) (los ss ol) (his κ ss ol oh)) (laid ss Q).anchor.head [] h
lay_order κ w ω δ Q μ ol oh [] φ h n B R = R
lay_order κ w ω δ Q μ ol oh (s ∷ ss) φ h n B R =
    lay_order κ w ω δ (laid (s ∷ []) Q) (words_of ω Q.arrays s μ) (lo_of s ol) (hi_of κ s ol oh) ss φ h n.1 (base_lay κ w ω δ Q μ ol oh s ss φ h n.0 B) (order_drop κ w ω δ Q μ ol oh Q.anchor.tag s ss h B.owed R)

pub own_at_once : (κ : Kind) (w ω : ℕ) (Q : Queue) (μ : List ℕ) (ss : List Store) (o : Line) (φ : ℕ → Line) (h : History) → NonePut ss → Inv κ w ω false Q μ ss o φ h → Inv κ w ω false (laid ss Q) (words ω Q.arrays ss μ) [] o φ h
own_at_once κ w ω Q μ ss o φ h n I =
    record { own_lo = los ss I.own_lo; own_hi = his κ ss I.own_lo I.own_hi; base = lay_all κ w ω false Q μ I.own_lo I.own_hi ss φ h n I.base; own = own; due = I.due; order = lay_order κ w ω false Q μ I.own_lo I.own_hi ss φ h n I.base I.order }
  where
    own : OwnerOk κ (sight κ ω ss Q μ I.own_lo I.own_hi) (laid ss Q).anchor.tag h o
    own = rw (tag_keep ss Q.anchor Q.anchor.tag refl) I.own

pub put_at_once : (ρ : Room) (κ : Kind) (w ω : ℕ) (Q : Queue) (μ : List ℕ) (t : Task) (r : Anchor) (φ : ℕ → Line) (h : History) → Inv κ w ω false Q μ [] (PutFinish t r) φ h
    → Inv κ w ω false (laid (put_store κ w r ∷ []) Q) (words ω Q.arrays (put_store κ w r ∷ []) μ) [] Idle φ (finished_put t ∷ h) × GoodEvent false (finished_put t) h
put_at_once ρ κ w ω Q μ t r φ h I = (
  record {
    own_lo = _;
    own_hi = _;
    base = subst (λ (u : Task). Laid κ w ω false Q μ I.own_lo I.own_hi (put_store κ w r) [] φ (finished_put u ∷ h)) is L.0;
    own = tt;
    due = none_waits (finished_put t) h (λ u n q. let z : ◌≡◌ {A = ℕ} 0 1 = cc in omega arith) I.due;
    order = order_ev κ _ _ [] h (finished_put t) tt (order_drop κ w ω false Q μ I.own_lo I.own_hi Q.anchor.tag (put_store κ w r) [] h (fitting, tt) (put_order κ w ω false Q μ I.own_lo I.own_hi [] φ h t r (λ q. refl) I.base I.own I.order));
  },
  I.own.0.begun,
)
  where
    is : task_at (view ω Q μ I.own_lo I.own_hi) I.own_hi ≡ t
    is = I.own.1.3

    fitting : Fits κ w false (view ω Q μ I.own_lo I.own_hi) Q.anchor.tag h (put_store κ w r)
    fitting = put_fits w ω false 0 Q μ I.own_lo I.own_hi Q.anchor.tag h κ t r h I.own (subst (λ (u : Task). Memᴰ (began_put u) h) (sym is) I.own.0.begun)

    L : Laid κ w ω false Q μ I.own_lo I.own_hi (put_store κ w r) [] φ (finished_put (task_at (view ω Q μ I.own_lo I.own_hi) I.own_hi) ∷ h) × Answered false (task_at (view ω Q μ I.own_lo I.own_hi) I.own_hi) h
    L =
        base_lay_put κ w ω false Q μ I.own_lo I.own_hi (put_store κ w r) [] φ h (is_put κ w r)
        (base_line I.base (put_store κ w r ∷ []) (fitting, tt))

-- THE WHOLE STEP: l is the waiting line
abbrev pub Stepped : Room → Kind → ℕ → ℕ → Bool → Waiting → Queue → List ℕ → Line → (ℕ → Line) → History → Effect → Type 0
Stepped ρ κ w ω δ l Q μ o φ h E =
    Inv κ w ω δ (laid (landing δ 0 E.stores) (queue_after ρ E.claims Q)) (words ω (arrays_after ρ E.claims Q) (landing δ 0 E.stores) (store_after ρ E.claims Q μ))
    (in_line (joined l (joining δ 0 E.stores))) E.line φ (event_of ω δ l.count (step 0) o E.answer ∷ h)
    × GoodEvent δ (event_of ω δ l.count (step 0) o E.answer) h

-- X1
claim_result : (ρ : Room) (κ : Kind) (w ω : ℕ) (δ : Bool) (l : Waiting) (Q : Queue) (μ : List ℕ) (t : Growth) (φ : ℕ → Line) (h : History) (x : Bool) → x ≡ true → l.count ≤ length l.stores
    → Inv κ w ω δ (claiming ρ Q) (zeros μ ρ.next (next_length Q)) (in_line l) (Note t) φ (quiet ∷ h)
    → Stepped ρ κ w ω δ l Q μ (Claim t) φ h (when x then record { claims = true; stores = []; line = Note t; answer = GoesOn } else eff [] Idle (Full 0 (task_for t)))
unfolding when◌then◌else◌
claim_result ρ κ w ω δ l Q μ t φ h false e len I = not_both false refl e
claim_result ρ κ w ω true l Q μ t φ h true e len I = (subst (λ (ss : List Store). Inv κ w ω true (claiming ρ Q) (zeros μ ρ.next (next_length Q)) ss (Note t) φ (quiet ∷ h)) (sym (line_join l [] len ∙ no_more (in_line l))) I, tt)
claim_result ρ κ w ω false l Q μ t φ h true e len I = (subst (λ (ss : List Store). Inv κ w ω false (claiming ρ Q) (zeros μ ρ.next (next_length Q)) ss (Note t) φ (quiet ∷ h)) (sym (line_join l [] len ∙ no_more (in_line l))) I, tt)

-- what the owner's line does
abbrev pub own_effect : Room → Kind → ℕ → ℕ → List Store → Queue → List ℕ → Line → Effect
own_effect ρ κ w ω ss Q μ o = line_step ρ κ w ω (laid ss Q) (words ω Q.arrays ss μ) 0 o

claim_stepped : (ρ : Room) (κ : Kind) (w ω : ℕ) (δ : Bool) (l : Waiting) (Q : Queue) (μ : List ℕ) (used low : ℕ) (o : Line) (t : Growth) (φ : ℕ → Line) (h : History) → l.count ≤ length l.stores → o ≡ Claim t
    → fits ρ ω (laid (in_line l) Q) ≡ true → Free ρ Q μ → Shape κ w ω used low Q μ (in_line l) o φ → Inv κ w ω δ Q μ (in_line l) o φ h → Stepped ρ κ w ω δ l Q μ o φ h (own_effect ρ κ w ω (in_line l) Q μ o)
unfolding line_step
claim_stepped ρ κ w ω δ l Q μ used low o t φ h len is f R S I =
    subst (λ (o : Line). Stepped ρ κ w ω δ l Q μ o φ h (own_effect ρ κ w ω (in_line l) Q μ o)) (sym is)
    (claim_result ρ κ w ω δ l Q μ t φ h (fits ρ ω (laid (in_line l) Q)) f len
    (own_claim ρ κ w ω δ used low Q μ (in_line l) t φ h (subst (λ (o : Line). Shape κ w ω used low Q μ (in_line l) o φ) is S) f R (subst (λ (o : Line). Inv κ w ω δ Q μ (in_line l) o φ h) is I)))

pub finishing : (o : Line) → ((t : Task) × (r : Anchor) × (o ≡ PutFinish t r)) ⊎ ((t : Task) (r : Anchor) → o ≡ PutFinish t r → ⊥)
finishing Idle = inr (λ u s q. let z : ◌≡◌ {A = ℕ} 0 1 = cc in omega arith)
finishing (PutRead t) = inr (λ u s q. let z : ◌≡◌ {A = ℕ} 0 1 = cc in omega arith)
finishing (PutTail t a) = inr (λ u s q. let z : ◌≡◌ {A = ℕ} 0 1 = cc in omega arith)
finishing (PutTest t r) = inr (λ u s q. let z : ◌≡◌ {A = ℕ} 0 1 = cc in omega arith)
finishing (PutWord t r j) = inr (λ u s q. let z : ◌≡◌ {A = ℕ} 0 1 = cc in omega arith)
finishing (PutFinish t r) = inl (t, r, refl)
finishing (Claim t) = inr (λ u s q. let z : ◌≡◌ {A = ℕ} 0 1 = cc in omega arith)
finishing (Note t) = inr (λ u s q. let z : ◌≡◌ {A = ℕ} 0 1 = cc in omega arith)
finishing (Copy t a j k) = inr (λ u s q. let z : ◌≡◌ {A = ℕ} 0 1 = cc in omega arith)
finishing (Publish t) = inr (λ u s q. let z : ◌≡◌ {A = ℕ} 0 1 = cc in omega arith)
finishing TakeRead = inr (λ u s q. let z : ◌≡◌ {A = ℕ} 0 1 = cc in omega arith)
finishing (TakeTail a) = inr (λ u s q. let z : ◌≡◌ {A = ℕ} 0 1 = cc in omega arith)
finishing (TakeTest r) = inr (λ u s q. let z : ◌≡◌ {A = ℕ} 0 1 = cc in omega arith)
finishing (TakeWord r t j) = inr (λ u s q. let z : ◌≡◌ {A = ℕ} 0 1 = cc in omega arith)
finishing (TakeFinish r t) = inr (λ u s q. let z : ◌≡◌ {A = ℕ} 0 1 = cc in omega arith)
finishing StealRead = inr (λ u s q. let z : ◌≡◌ {A = ℕ} 0 1 = cc in omega arith)
finishing (StealTail a) = inr (λ u s q. let z : ◌≡◌ {A = ℕ} 0 1 = cc in omega arith)
finishing (StealTest r) = inr (λ u s q. let z : ◌≡◌ {A = ℕ} 0 1 = cc in omega arith)
finishing (StealNote r) = inr (λ u s q. let z : ◌≡◌ {A = ℕ} 0 1 = cc in omega arith)
finishing (StealWord r k t j) = inr (λ u s q. let z : ◌≡◌ {A = ℕ} 0 1 = cc in omega arith)
finishing (StealNext r t) = inr (λ u s q. let z : ◌≡◌ {A = ℕ} 0 1 = cc in omega arith)
finishing (StealCompare r e t) = inr (λ u s q. let z : ◌≡◌ {A = ℕ} 0 1 = cc in omega arith)

-- with delayed stores
join_stepped : (ρ : Room) (κ : Kind) (w ω : ℕ) (l : Waiting) (Q : Queue) (μ : List ℕ) (o : Line) (φ : ℕ → Line) (h : History) → ω ≤ 4 → l.count ≤ length l.stores
    → (own_effect ρ κ w ω (in_line l) Q μ o).claims ≡ false → Inv κ w ω true Q μ (in_line l) o φ h → Stepped ρ κ w ω true l Q μ o φ h (own_effect ρ κ w ω (in_line l) Q μ o)
join_stepped ρ κ w ω l Q μ o φ h wide len f I =
    rw f (subst (λ (ss : List Store). Inv κ w ω true Q μ ss E'.line φ (event_of ω true l.count (step 0) o E'.answer ∷ h)) (sym (line_join l E'.stores len)) J.0, J.1)
  where
    E' : Effect
    E' = own_effect ρ κ w ω (in_line l) Q μ o

    J : Inv κ w ω true Q μ (in_line l ++ E'.stores) E'.line φ (event_of ω true l.count (step 0) o E'.answer ∷ h) × GoodEvent true (event_of ω true l.count (step 0) o E'.answer) h
    J = own_join ρ κ w ω true l.count Q μ (in_line l) o φ h wide I (λ q. not_both true q refl) (sym (line_length l len)) f (λ t r q. refl)

-- without: what joined is put down
abbrev Landed : Room → Kind → ℕ → ℕ → Queue → List ℕ → Line → (ℕ → Line) → History → Effect → Type 0
Landed ρ κ w ω Q μ o φ h E =
    Inv κ w ω false (laid E.stores (queue_after ρ E.claims Q)) (words ω (arrays_after ρ E.claims Q) E.stores (store_after ρ E.claims Q μ)) [] E.line φ (event_of ω false 0 (step 0) o E.answer ∷ h)
    × GoodEvent false (event_of ω false 0 (step 0) o E.answer) h

put_stepped : (ρ : Room) (κ : Kind) (w ω : ℕ) (Q : Queue) (μ : List ℕ) (o : Line) (t : Task) (r : Anchor) (φ : ℕ → Line) (h : History) → o ≡ PutFinish t r → Inv κ w ω false Q μ [] o φ h → Landed ρ κ w ω Q μ o φ h (line_step ρ κ w ω Q μ 0 o)
unfolding line_step
put_stepped ρ κ w ω Q μ o t r φ h is I =
    subst (λ (o : Line). Landed ρ κ w ω Q μ o φ h (line_step ρ κ w ω Q μ 0 o)) (sym is) (put_at_once ρ κ w ω Q μ t r φ h (subst (λ (o : Line). Inv κ w ω false Q μ [] o φ h) is I))

land_stepped : (ρ : Room) (κ : Kind) (w ω : ℕ) (Q : Queue) (μ : List ℕ) (o : Line) (φ : ℕ → Line) (h : History) → ω ≤ 4 → (line_step ρ κ w ω Q μ 0 o).claims ≡ false → Inv κ w ω false Q μ [] o φ h
    → ((t : Task) × (r : Anchor) × (o ≡ PutFinish t r)) ⊎ ((t : Task) (r : Anchor) → o ≡ PutFinish t r → ⊥) → Landed ρ κ w ω Q μ o φ h (line_step ρ κ w ω Q μ 0 o)
land_stepped ρ κ w ω Q μ o φ h wide f I (inl (t, r, is)) = put_stepped ρ κ w ω Q μ o t r φ h is I
land_stepped ρ κ w ω Q μ o φ h wide f I (inr d) =
    rw f (own_at_once κ w ω Q μ E'.stores E'.line φ (event_of ω false 0 (step 0) o E'.answer ∷ h) (none_put ρ κ w ω Q μ o d) J.0, J.1)
  where
    E' : Effect
    E' = line_step ρ κ w ω Q μ 0 o

    J : Inv κ w ω false Q μ E'.stores E'.line φ (event_of ω false 0 (step 0) o E'.answer ∷ h) × GoodEvent false (event_of ω false 0 (step 0) o E'.answer) h
    J = own_join ρ κ w ω false 0 Q μ [] o φ h wide I (λ q. refl) refl f (λ t r q. absurd (d t r q))

-- and none waits
at_once : (ρ : Room) (κ : Kind) (w ω : ℕ) (l : Waiting) (Q : Queue) (μ : List ℕ) (o : Line) (φ : ℕ → Line) (h : History) → ω ≤ 4 → l.count ≤ length l.stores → l.count ≡ 0
    → (own_effect ρ κ w ω (in_line l) Q μ o).claims ≡ false → Inv κ w ω false Q μ (in_line l) o φ h → Stepped ρ κ w ω false l Q μ o φ h (own_effect ρ κ w ω (in_line l) Q μ o)
at_once ρ κ w ω l Q μ o φ h wide len none = go (in_line l) l.count (in_line (joined l [])) empty none (line_join l [] len ∙ no_more (in_line l) ∙ empty)
  where
    empty : in_line l ≡ []
    empty = ap (λ (k : ℕ). take k l.stores) none

    go : (ss : List Store) (n : ℕ) (rr : List Store) → ss ≡ [] → n ≡ 0 → rr ≡ [] → (own_effect ρ κ w ω ss Q μ o).claims ≡ false → Inv κ w ω false Q μ ss o φ h
        → let E = own_effect ρ κ w ω ss Q μ o in
        Inv κ w ω false (laid E.stores (queue_after ρ E.claims Q)) (words ω (arrays_after ρ E.claims Q) E.stores (store_after ρ E.claims Q μ)) rr E.line φ (event_of ω false n (step 0) o E.answer ∷ h)
        × GoodEvent false (event_of ω false n (step 0) o E.answer) h
    go ss n rr es en er =
        rw (es, en, er) (λ f I. land_stepped ρ κ w ω Q μ o φ h wide f I (finishing o))

pub own_stepped : (ρ : Room) (κ : Kind) (w ω : ℕ) (δ : Bool) (l : Waiting) (Q : Queue) (μ : List ℕ) (used low : ℕ) (o : Line) (φ : ℕ → Line) (h : History) → ω ≤ 4 → (δ ≡ false → l.count ≡ 0) → l.count ≤ length l.stores
    → Free ρ Q μ → Shape κ w ω used low Q μ (in_line l) o φ → Inv κ w ω δ Q μ (in_line l) o φ h → Stepped ρ κ w ω δ l Q μ o φ h (own_effect ρ κ w ω (in_line l) Q μ o)
own_stepped ρ κ w ω δ l Q μ used low o φ h wide mode len R S I = go (own_effect ρ κ w ω (in_line l) Q μ o).claims refl
  where
    landed : (δ : Bool) → (δ ≡ false → l.count ≡ 0) → (own_effect ρ κ w ω (in_line l) Q μ o).claims ≡ false → Inv κ w ω δ Q μ (in_line l) o φ h → Stepped ρ κ w ω δ l Q μ o φ h (own_effect ρ κ w ω (in_line l) Q μ o)
    landed true m f I = join_stepped ρ κ w ω l Q μ o φ h wide len f I
    landed false m f I = at_once ρ κ w ω l Q μ o φ h wide len (m refl) f I

    go : (x : Bool) → (own_effect ρ κ w ω (in_line l) Q μ o).claims ≡ x → Stepped ρ κ w ω δ l Q μ o φ h (own_effect ρ κ w ω (in_line l) Q μ o)
    go false e = landed δ mode e I
    go true e = let C = claim_only ρ κ w ω (laid (in_line l) Q) (words ω Q.arrays (in_line l) μ) 0 o e in claim_stepped ρ κ w ω δ l Q μ used low o C.0 φ h len C.1 C.2 R S I
