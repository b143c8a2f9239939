-- A drain, and a thief's step, keep the invariant.
use mathlib.Core.Path.{◌≡◌, refl, sym, ◌∙◌, ap, subst}
use mathlib.Core.Bool.{Bool, true, false, cond}
use mathlib.Core.Logic.{◌≢◌, ◌⊎◌, inl, inr}
use mathlib.Core.List.Memᴰ
use mathlib.Core.List.{List, [], ◌∷◌, Memᴰ}
use Prim.Native.Nat.{ℕ, zero, suc, ◌+◌, ◌-◌, ◌%◌, ◌≤◌, ◌<◌}
use native.Mathlib.Omega.{arith}
use Rattle.model.specs.declared.Room.{Room}
use Rattle.model.specs.declared.Kind.{Kind}
use Rattle.model.specs.declared.Kind.TheVariants.{Lifo, Fifo, Deque}
use Rattle.model.specs.declared.Line.{Line}
use Rattle.model.specs.declared.Queue.{Queue}
use Rattle.model.specs.declared.Answer.{Answer}
use Rattle.model.specs.declared.Answer.TheVariants.{Accepted, Numbered, GoesOn, Finished, HandedOut, Empty, Full, Refused, Grown}
use Rattle.model.specs.declared.Task.{Task}
use Rattle.model.specs.declared.Anchor.{Anchor}
use Rattle.model.specs.declared.Store.{Store}
use Rattle.model.specs.declared.Store.TheVariants.{StoreWord, StoreNote, StorePut, StoreOut, StoreHead, StoreTail}
use Rattle.theorems.proofs.Folds.{laid, words_of, words}
use Rattle.model.specs.Calls.{step}
use Rattle.theorems.proofs.Words.{off}
use Rattle.model.specs.Lines.{Effect, size, line_step}
use Rattle.model.proofs.Directory.{Size}
use Rattle.model.proofs.Tasks.{same_words}
use Rattle.theorems.proofs.Events.{Event, quiet, line_1, finished_put, handed_out, failed_compare, waiting_put, drained, is_line_1, is_compare, event_of, event_of_drain, top_task, top_of, History, Told, Answered, PremiseAt, GoodEvent}
use Rattle.theorems.proofs.Words.{WMod}
use Rattle.theorems.proofs.Remainders.{wrap}
use Rattle.theorems.proofs.Window.{View, task_at, NotTold, told_before}
use Rattle.theorems.proofs.Order.{Order, order_ev, order_drop}
use Rattle.theorems.proofs.Indices.{StandsFor}
use Rattle.theorems.proofs.Owed.{view, sight, tags, IsPut, Label}
use Rattle.theorems.proofs.Invariant.{OwnerOk, ThiefOk, drain_of_lem, Due, DueIf, Inv, NotRead, own_later}
use Rattle.theorems.proofs.Laying.{base_ev, base_lay, base_lay_put}
use Rattle.theorems.proofs.ThiefLines.{LinkSound, ThiefKept, thief_kept}
use Rattle.theorems.proofs.OwnerRun.{due_next, none_waits, finish_only}
use Rattle.theorems.proofs.ShapeStep.{no_more}

-- a store leaves the line
due_drain : (κ : Kind) (v v' : View) (s : Store) (ss : List Store) (h : History) (e : Event) → drain_of_lem e ≡ 1 → (IsPut s → e ≡ finished_put (task_at v v.own_hi)) → ((t : Task) (n : ℕ) → e ≡ waiting_put t n → ⊥)
    → ((m : ℕ) (t : Task) → Label κ v (s ∷ ss) (suc m) t → Label κ v' ss m t) → Due κ v (s ∷ ss) h → Due κ v' ss (e ∷ h)
due_drain κ v v' s ss h e one put not next D t n d (inl (q, p)) = absurd (not t n q)
due_drain κ v v' s ss h e one put not next D t n d (inr (c, q, S)) = go (D t n c S)
  where
    found : (m : ℕ) → m ≡ n - 1 - c → c < n → Label κ v (s ∷ ss) m t → Memᴰ (finished_put t) (e ∷ h) ⊎ ((d < n) × Label κ v' ss (n - 1 - d) t)
    found zero x l b = inl (Memᴰ.head (sym (put b.0 ∙ ap finished_put b.1)))
    found (suc m) x l b = inr (omega (arith, q, one), subst (λ (k : ℕ). Label κ v' ss k t) {x = m} {y = n - 1 - d} (omega (arith, q, one)) (next m t b))

    go : Memᴰ (finished_put t) h ⊎ ((c < n) × Label κ v (s ∷ ss) (n - 1 - c) t) → Memᴰ (finished_put t) (e ∷ h) ⊎ ((d < n) × Label κ v' ss (n - 1 - d) t)
    go (inl m) = inl (Memᴰ.tail m)
    go (inr (l, b)) = found (n - 1 - c) refl l b

-- the task of a put, read off memory
top_same : (ω : ℕ) (m : List ℕ) (q : Queue) (i k : ℕ) → i % size ω q ≡ k % size ω q → top_task ω m q i ≡ top_task ω m q k
top_same ω m q i k e = same_words (ω + 1) _ _ (λ j h. WMod ω m (off q) (size ω q) i k j e)

put_top : (κ : Kind) (r : Anchor) (z ol oh : ℕ) → Size z → StandsFor κ r ol (oh + 1) → ol ≤ oh → top_of κ r % z ≡ oh % z
put_top Lifo r z ol oh S (a, b, c) l = ap (λ (x : ℕ). x % z) (omega arith)
put_top Fifo r z ol oh S (a, b) l = ap (λ (x : ℕ). x % z) (omega arith)
put_top Deque r z ol oh S (a, b) l = ap (λ (x : ℕ). (x + (r.count - 1)) % z) a ∙ wrap S ol (r.count - 1) ∙ ap (λ (x : ℕ). x % z) (omega arith)

-- what the drained store leaves
abbrev Drained : Kind → ℕ → ℕ → Queue → List ℕ → Store → List Store → Line → (ℕ → Line) → History → Type 0
Drained κ w ω Q μ s ss o φ h = Inv κ w ω true (laid (s ∷ []) Q) (words_of ω Q.arrays s μ) ss o φ (event_of_drain κ ω Q μ s ∷ h) × GoodEvent true (event_of_drain κ ω Q μ s) h

-- a put that a drain brings to memory was answered finished
drained_told : (h : History) (t : Task) → Answered true t h → (u : Task) → Told u (finished_put t ∷ h) → Told u h
drained_told h t A u (inl d) = go (Memᴰ.cases_cons d)
  where
    go : (finished_put u ≡ finished_put t) ⊎ Memᴰ (finished_put u) h → Told u h
    go (inl q) = let e : u ≡ t = cc in inr (subst (λ (u : Task). (n : ℕ) × Memᴰ (waiting_put u n) h) (sym e) A)
    go (inr x) = inl x
drained_told h t A u (inr (n, d)) = inr (n, go (Memᴰ.cases_cons d))
  where
    go : (waiting_put u n ≡ finished_put t) ⊎ Memᴰ (waiting_put u n) h → Memᴰ (waiting_put u n) h
    go (inl q) = absurd (let z : ◌≡◌ {A = ℕ} 0 1 = cc in omega arith)
    go (inr x) = x

-- a put's store, whatever it is
keep_put : (κ : Kind) (w ω : ℕ) (Q : Queue) (μ : List ℕ) (s : Store) (ss : List Store) (o : Line) (φ : ℕ → Line) (h : History) (I : Inv κ w ω true Q μ (s ∷ ss) o φ h) → IsPut s
    → let e : Event = finished_put (task_at (view ω Q μ I.own_lo I.own_hi) I.own_hi) in
    Inv κ w ω true (laid (s ∷ []) Q) (words_of ω Q.arrays s μ) ss o φ (e ∷ h) × GoodEvent true e h
keep_put κ w ω Q μ (StoreWord b s j x) ss o φ h I p = absurd p
keep_put κ w ω Q μ (StoreNote k) ss o φ h I p = absurd p
keep_put κ w ω Q μ (StoreOut r) ss o φ h I p = absurd p
keep_put κ w ω Q μ (StoreHead i) ss o φ h I p = absurd p
keep_put κ w ω Q μ (StorePut r) ss o φ h I p =
    let L = base_lay_put κ w ω true Q μ I.own_lo I.own_hi (StorePut r) ss φ h tt I.base in
    let e : Event = finished_put (task_at (view ω Q μ I.own_lo I.own_hi) I.own_hi) in (
      record {
        own_lo = _;
        own_hi = _;
        base = L.0;
        own = own_later κ _ _ h e tt (drained_told h _ L.1) o I.own;
        due = due_drain κ (view ω Q μ I.own_lo I.own_hi) _ (StorePut r) ss h e refl (λ p. refl) (λ t n q. let z : ◌≡◌ {A = ℕ} 0 1 = cc in omega arith) (λ m t l. l) I.due;
        order = order_ev κ _ _ ss h e tt (order_drop κ w ω true Q μ I.own_lo I.own_hi Q.anchor.tag (StorePut r) ss h I.base.owed I.order);
      },
      L.1,
    )
keep_put κ w ω Q μ (StoreTail i) ss o φ h I p =
    let L = base_lay_put κ w ω true Q μ I.own_lo I.own_hi (StoreTail i) ss φ h tt I.base in
    let e : Event = finished_put (task_at (view ω Q μ I.own_lo I.own_hi) I.own_hi) in (
      record {
        own_lo = _;
        own_hi = _;
        base = L.0;
        own = own_later κ _ _ h e tt (drained_told h _ L.1) o I.own;
        due = due_drain κ (view ω Q μ I.own_lo I.own_hi) _ (StoreTail i) ss h e refl (λ p. refl) (λ t n q. let z : ◌≡◌ {A = ℕ} 0 1 = cc in omega arith) (λ m t l. l) I.due;
        order = order_ev κ _ _ ss h e tt (order_drop κ w ω true Q μ I.own_lo I.own_hi Q.anchor.tag (StoreTail i) ss h I.base.owed I.order);
      },
      L.1,
    )

put_drained : (κ : Kind) (w ω : ℕ) (Q : Queue) (μ : List ℕ) (s : Store) (ss : List Store) (o : Line) (φ : ℕ → Line) (h : History) (I : Inv κ w ω true Q μ (s ∷ ss) o φ h) → IsPut s
    → (i : ℕ) → event_of_drain κ ω Q μ s ≡ finished_put (top_task ω μ Q i) → i % size ω Q ≡ I.own_hi % size ω Q → Drained κ w ω Q μ s ss o φ h
put_drained κ w ω Q μ s ss o φ h I p i q top =
    subst (λ (e : Event). Inv κ w ω true (laid (s ∷ []) Q) (words_of ω Q.arrays s μ) ss o φ (e ∷ h) × GoodEvent true e h) (sym (q ∙ ap finished_put (top_same ω μ Q i I.own_hi top))) (keep_put κ w ω Q μ s ss o φ h I p)

pub drain_kept : (κ : Kind) (w ω : ℕ) (Q : Queue) (μ : List ℕ) (s : Store) (ss : List Store) (o : Line) (φ : ℕ → Line) (h : History) → Inv κ w ω true Q μ (s ∷ ss) o φ h → Drained κ w ω Q μ s ss o φ h
drain_kept κ w ω Q μ (StoreWord b s j x) ss o φ h I = (
  record {
    own_lo = _;
    own_hi = _;
    base = base_ev (base_lay κ w ω true Q μ I.own_lo I.own_hi (StoreWord b s j x) ss φ h tt I.base) drained tt (λ k. tt);
    own = own_later κ _ _ h drained tt (told_before drained h tt) o I.own;
    due = due_drain κ (view ω Q μ I.own_lo I.own_hi) _ (StoreWord b s j x) ss h drained refl (λ p. absurd p) (λ t n q. let z : ◌≡◌ {A = ℕ} 0 1 = cc in omega arith) (λ m t l. l) I.due;
    order = order_ev κ _ _ ss h drained tt (order_drop κ w ω true Q μ I.own_lo I.own_hi Q.anchor.tag (StoreWord b s j x) ss h I.base.owed I.order);
  },
  tt,
)
drain_kept κ w ω Q μ (StoreNote k) ss o φ h I = (
  record {
    own_lo = _;
    own_hi = _;
    base = base_ev (base_lay κ w ω true Q μ I.own_lo I.own_hi (StoreNote k) ss φ h tt I.base) drained tt (λ k. tt);
    own = own_later κ _ _ h drained tt (told_before drained h tt) o I.own;
    due = due_drain κ (view ω Q μ I.own_lo I.own_hi) _ (StoreNote k) ss h drained refl (λ p. absurd p) (λ t n q. let z : ◌≡◌ {A = ℕ} 0 1 = cc in omega arith) (λ m t l. l) I.due;
    order = order_ev κ _ _ ss h drained tt (order_drop κ w ω true Q μ I.own_lo I.own_hi Q.anchor.tag (StoreNote k) ss h I.base.owed I.order);
  },
  tt,
)
drain_kept κ w ω Q μ (StoreOut r) ss o φ h I = (
  record {
    own_lo = _;
    own_hi = _;
    base = base_ev (base_lay κ w ω true Q μ I.own_lo I.own_hi (StoreOut r) ss φ h tt I.base) drained tt (λ k. tt);
    own = own_later κ _ _ h drained tt (told_before drained h tt) o I.own;
    due = due_drain κ (view ω Q μ I.own_lo I.own_hi) _ (StoreOut r) ss h drained refl (λ p. absurd p) (λ t n q. let z : ◌≡◌ {A = ℕ} 0 1 = cc in omega arith) (λ m t l. l) I.due;
    order = order_ev κ _ _ ss h drained tt (order_drop κ w ω true Q μ I.own_lo I.own_hi Q.anchor.tag (StoreOut r) ss h I.base.owed I.order);
  },
  tt,
)
drain_kept κ w ω Q μ (StoreHead i) ss o φ h I = (
  record {
    own_lo = _;
    own_hi = _;
    base = base_ev (base_lay κ w ω true Q μ I.own_lo I.own_hi (StoreHead i) ss φ h tt I.base) drained tt (λ k. tt);
    own = own_later κ _ _ h drained tt (told_before drained h tt) o I.own;
    due = due_drain κ (view ω Q μ I.own_lo I.own_hi) _ (StoreHead i) ss h drained refl (λ p. absurd p) (λ t n q. let z : ◌≡◌ {A = ℕ} 0 1 = cc in omega arith) (λ m t l. l) I.due;
    order = order_ev κ _ _ ss h drained tt (order_drop κ w ω true Q μ I.own_lo I.own_hi Q.anchor.tag (StoreHead i) ss h I.base.owed I.order);
  },
  tt,
)
drain_kept κ w ω Q μ (StorePut r) ss o φ h I = put_drained κ w ω Q μ (StorePut r) ss o φ h I tt (top_of κ r) refl (put_top κ r (size ω Q) I.own_lo I.own_hi I.base.sized I.base.owed.0.1 (omega (arith, I.base.core.low, I.base.core.mid, I.base.core.high)))
drain_kept κ w ω Q μ (StoreTail i) ss o φ h I = put_drained κ w ω Q μ (StoreTail i) ss o φ h I tt (i - 1) refl (ap (λ (x : ℕ). x % size ω Q) (omega (arith, I.base.owed.0.1)))

-- A THIEF'S STEP
record Apart (a : Answer) (e : Event) : Type 0 where
  pub still : drain_of_lem e ≡ 0
  pub away : NotRead 0 e
  pub mute : NotTold e
  pub none : (t : Task) (n : ℕ) → e ≡ waiting_put t n → ⊥

apart : (ω : ℕ) (δ : Bool) (y k : ℕ) (θ : Line) (a : Answer) → ((i : ℕ) (t : Task) → a ≡ Finished i t → ⊥) → Apart a (event_of ω δ y (step (suc k)) θ a)
apart ω δ y k θ Accepted f = record { still = refl; away = tt; mute = tt; none = λ t n x. let z : ◌≡◌ {A = ℕ} 0 1 = cc in omega arith }
apart ω δ y k θ (Numbered m) f = record { still = refl; away = tt; mute = tt; none = λ t n x. let z : ◌≡◌ {A = ℕ} 0 1 = cc in omega arith }
apart ω δ y k θ GoesOn f = go (is_line_1 θ) (is_compare θ)
  where
    go : (x z : Bool) → Apart GoesOn (cond x (line_1 (suc k)) (cond z (failed_compare (suc k)) quiet))
    go true z = record { still = refl; away = omega arith; mute = tt; none = λ t n x. let z : ◌≡◌ {A = ℕ} 0 1 = cc in omega arith }
    go false true = record { still = refl; away = tt; mute = tt; none = λ t n x. let z : ◌≡◌ {A = ℕ} 0 1 = cc in omega arith }
    go false false = record { still = refl; away = tt; mute = tt; none = λ t n x. let z : ◌≡◌ {A = ℕ} 0 1 = cc in omega arith }
apart ω δ y k θ (Finished i t) f = absurd (f i t refl)
apart ω δ y k θ (HandedOut i t) f = go (is_compare θ)
  where
    go : (x : Bool) → Apart (HandedOut i t) (cond x (handed_out (suc k) t) (handed_out 0 t))
    go true = record { still = refl; away = tt; mute = tt; none = λ t n x. let z : ◌≡◌ {A = ℕ} 0 1 = cc in omega arith }
    go false = record { still = refl; away = tt; mute = tt; none = λ t n x. let z : ◌≡◌ {A = ℕ} 0 1 = cc in omega arith }
apart ω δ y k θ (Empty i) f = record { still = refl; away = tt; mute = tt; none = λ t n x. let z : ◌≡◌ {A = ℕ} 0 1 = cc in omega arith }
apart ω δ y k θ (Full i t) f = record { still = refl; away = tt; mute = tt; none = λ t n x. let z : ◌≡◌ {A = ℕ} 0 1 = cc in omega arith }
apart ω δ y k θ (Grown i) f = record { still = refl; away = tt; mute = tt; none = λ t n x. let z : ◌≡◌ {A = ℕ} 0 1 = cc in omega arith }
apart ω δ y k θ (Refused r) f = record { still = refl; away = tt; mute = tt; none = λ t n x. let z : ◌≡◌ {A = ℕ} 0 1 = cc in omega arith }

pub due_same : (δ : Bool) (κ : Kind) (v : View) (ss : List Store) (h : History) (e : Event) → drain_of_lem e ≡ 0 → ((t : Task) (n : ℕ) → e ≡ waiting_put t n → ⊥) → DueIf δ κ v ss h → DueIf δ κ v ss (e ∷ h)
due_same true κ v ss h e z f D = subst (λ (l : List Store). Due κ v l (e ∷ h)) (no_more ss) (due_next κ v ss [] h e z (λ t n q. absurd (f t n q)) D)
due_same false κ v ss h e z f D = none_waits e h f D

pub thief_step : (ρ : Room) (κ : Kind) (w ω : ℕ) (δ : Bool) (y : ℕ) (Q : Queue) (μ : List ℕ) (ss : List Store) (o : Line) (φ : ℕ → Line) (h : History) (k : ℕ) (I : Inv κ w ω δ Q μ ss o φ h) → 0 < Q.published → ω ≤ 4 → (Q.linked ≡ false → 0 < w) → LinkSound κ Q h k (φ k)
    → let E = line_step ρ κ w ω Q μ (suc k) (φ k) in let e = event_of ω δ y (step (suc k)) (φ k) E.answer in
    PremiseAt κ w e h
    → ((φ' : ℕ → Line) → φ' k ≡ E.line → ((i : ℕ) → i ≢ k → φ' i ≡ φ i) → Inv κ w ω δ (laid E.stores Q) (words ω Q.arrays E.stores μ) ss o φ' (e ∷ h)) × GoodEvent δ e h
thief_step ρ κ w ω δ y Q μ ss o φ h k I pos wide some L f = (λ φ' is rest. record { own_lo = I.own_lo; own_hi = I.own_hi; base = K.0 φ' is rest; own = own; due = due; order = order }, K.1)
  where
    E : Effect
    E = line_step ρ κ w ω Q μ (suc k) (φ k)

    e : Event
    e = event_of ω δ y (step (suc k)) (φ k) (line_step ρ κ w ω Q μ (suc k) (φ k)).answer

    K : ThiefKept κ w ω δ y Q μ I.own_lo I.own_hi ss φ h k (φ k) (line_step ρ κ w ω Q μ (suc k) (φ k))
    K = thief_kept ρ κ w ω δ y Q μ I.own_lo I.own_hi ss φ h k (φ k) I.base (I.base.th k) pos wide some L f

    A : Apart (line_step ρ κ w ω Q μ (suc k) (φ k)).answer e
    A = apart ω δ y k (φ k) (line_step ρ κ w ω Q μ (suc k) (φ k)).answer (λ i t q. let P = finish_only ρ κ w ω Q μ (suc k) (φ k) i t q in subst (λ (θ : Line). ThiefOk κ w (view ω Q μ I.own_lo I.own_hi) Q.anchor.tag h (suc k) θ) P.1 (I.base.th k))

    own : OwnerOk κ (sight κ ω ss (laid (line_step ρ κ w ω Q μ (suc k) (φ k)).stores Q) (words ω Q.arrays (line_step ρ κ w ω Q μ (suc k) (φ k)).stores μ) I.own_lo I.own_hi) (tags ss (laid (line_step ρ κ w ω Q μ (suc k) (φ k)).stores Q).anchor.tag) (e ∷ h) o
    own = rw (K.2.0, K.2.1, K.2.2) (own_later κ _ _ h e A.away (told_before e h A.mute) o I.own)

    order : Order κ (view ω (laid (line_step ρ κ w ω Q μ (suc k) (φ k)).stores Q) (words ω Q.arrays (line_step ρ κ w ω Q μ (suc k) (φ k)).stores μ) I.own_lo I.own_hi) (laid (line_step ρ κ w ω Q μ (suc k) (φ k)).stores Q).anchor.head ss (e ∷ h)
    order = rw (K.2.1, K.2.2) (K.3 I.order)

    due : DueIf δ κ (view ω (laid (line_step ρ κ w ω Q μ (suc k) (φ k)).stores Q) (words ω Q.arrays (line_step ρ κ w ω Q μ (suc k) (φ k)).stores μ) I.own_lo I.own_hi) ss (e ∷ h)
    due = rw (K.2.1, K.2.2) (due_same δ κ _ ss h e A.still A.none I.due)
