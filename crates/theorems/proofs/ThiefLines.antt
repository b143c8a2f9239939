-- Each line of a thief keeps the invariant; demand 3 over the history newest first.
use mathlib.Core.Path.{◌≡◌, refl, sym, ◌∙◌, ap, subst}
use mathlib.Core.Bool.{Bool, true, false}
use mathlib.Core.Logic.{◌≢◌, ◌⊎◌, inl, inr}
use mathlib.Core.List.Memᴰ
use mathlib.Core.List.{List, [], ◌∷◌}
use Prim.Native.Nat.{ℕ, suc, ◌+◌, ◌-◌, ◌%◌, ◌^◌, ◌≤◌, ◌<◌}
use native.Mathlib.Omega.{arith}
use native.Mathlib.Nat.{mod-eq_of_lt, add-zero, mod-add-mod}
use lib.Dec.{eqb}
use borrow.Author.Tests.{eqb-true, eqb-false}
use Rattle.model.specs.declared.Room.{Room}
use Rattle.model.specs.declared.Kind.{Kind}
use Rattle.model.specs.declared.Kind.TheVariants.{Lifo, Fifo, Deque}
use Rattle.model.specs.declared.Line.{Line}
use Rattle.model.specs.declared.Line.TheVariants.{Idle, PutRead, PutTail, PutTest, PutWord, PutFinish, Claim, Note, Copy, Publish, TakeRead, TakeTail, TakeTest, TakeWord, TakeFinish, StealRead, StealTail, StealTest, StealNote, StealWord, StealNext, StealCompare}
use Rattle.model.specs.declared.Queue.{Queue}
use Rattle.model.specs.declared.Store.{Store}
use Rattle.model.specs.declared.Store.TheVariants.{StoreOut}
use Rattle.model.specs.declared.Answer.TheVariants.{HandedOut, Empty}
use Rattle.model.specs.declared.Task.{Task}
use Rattle.model.specs.declared.Anchor.{Anchor}
use Rattle.model.specs.Tests.{when◌then◌else◌, ◌and◌}
use Rattle.model.specs.Memory.{offset_at, size_at}
use Rattle.model.specs.Calls.{step}
use Rattle.model.specs.Lines.{Effect, eff, goes, size, succeeds, word_of, steal_on, line_step, holds_link}
use Rattle.model.specs.Limits.{read_by}
use Rattle.model.specs.Tasks.{no_task, with_word}
use Rattle.model.proofs.Tasks.{no_words, next_is, number_gathered}
use Rattle.model.specs.Figures.{is_same, steal_last, steal_index, is_empty, steal_store, steal_read, anchor}
use Rattle.theorems.specs.Demand3.{Few}
use Rattle.model.proofs.Directory.{size_pos, size_le}
use Rattle.theorems.proofs.Events.{Event, quiet, line_1, handed_out, failed_compare, found_empty, History, Out, puts_since, PremiseAt, GoodEvent, event_of}
use Rattle.theorems.proofs.Words.{word_w}
use Rattle.theorems.proofs.Remainders.{le_or_lt, tag_zero, same_head}
use Rattle.theorems.proofs.Directory.{both}
use Rattle.theorems.proofs.Window.{word, task_at, View, Plain, plain_done, core_window, core_ev}
use Rattle.theorems.proofs.Folds.{laid, words}
use Rattle.theorems.proofs.Owed.{view, owed_later}
use Rattle.theorems.proofs.Order.{Order, order_ev, rising_steal, his_up}
use Rattle.theorems.proofs.Seen.{frame_same}
use Rattle.theorems.proofs.Indices.{StandsFor, Small, stolen_ix, steal_ix, empty_yes, empty_no}
use Rattle.theorems.proofs.Invariant.{Tops, Tag, Hold, stale, Reads, GotV, NotedV, Next, ThiefOk, Base, Calm, move_calm, thief_holds, emp_now, since_now, emp_calm, grow_same}

-- thief k's line θ leaves E: the lines φ' are as φ but for k's
abbrev pub ThiefKept : Kind → ℕ → ℕ → Bool → ℕ → Queue → List ℕ → ℕ → ℕ → List Store → (ℕ → Line) → History → ℕ → Line → Effect → Type 0
ThiefKept κ w ω δ y Q μ ol oh ss φ h k θ E =
    ((φ' : ℕ → Line) → φ' k ≡ E.line → ((i : ℕ) → i ≢ k → φ' i ≡ φ i)
    → Base κ w ω δ (laid E.stores Q) (words ω Q.arrays E.stores μ) ol oh ss φ' (event_of ω δ y (step (suc k)) θ E.answer ∷ h))
    × GoodEvent δ (event_of ω δ y (step (suc k)) θ E.answer) h
    × (((laid E.stores Q).anchor.tag ≡ Q.anchor.tag) × ((laid E.stores Q).published ≡ Q.published) × (words ω Q.arrays E.stores μ ≡ μ))
    × (Order κ (view ω Q μ ol oh) Q.anchor.head ss h → Order κ (view ω Q μ ol oh) (laid E.stores Q).anchor.head ss (event_of ω δ y (step (suc k)) θ E.answer ∷ h))

others : (κ : Kind) (w : ℕ) (v : View) (g : ℕ) (h : History) (φ φ' : ℕ → Line) (k : ℕ) (θ : Line) (e : Event)
    → ((i : ℕ) → i ≢ k → Calm (suc i) e) → φ' k ≡ θ → ((i : ℕ) → i ≢ k → φ' i ≡ φ i)
    → ((i : ℕ) → ThiefOk κ w v g h (suc i) (φ i))
    → ThiefOk κ w v g (e ∷ h) (suc k) θ
    → (i : ℕ) → ThiefOk κ w v g (e ∷ h) (suc i) (φ' i)
others κ w v g h φ φ' k θ e c is rest old new i = go (le_or_lt i k) (le_or_lt k i)
  where
    other : i ≢ k → ThiefOk κ w v g (e ∷ h) (suc i) (φ' i)
    other ne =
        rw (rest i ne)
        (thief_holds (move_calm e (c i ne) (frame_same v v.own_lo v.own_hi (omega arith)) (grow_same κ v v refl) (omega arith)) (φ i) (old i))

    go : (i ≤ k) ⊎ (k < i) → (k ≤ i) ⊎ (i < k) → ThiefOk κ w v g (e ∷ h) (suc i) (φ' i)
    go (inr b) q = other (omega arith)
    go (inl b) (inr q) = other (omega arith)
    go (inl b) (inl q) = rw (is_k, is) new
      where
        is_k : i ≡ k
        is_k = omega arith

-- a line that changes only what thief k has read
pub thief_same : (κ : Kind) (w ω : ℕ) (δ : Bool) (y : ℕ) (Q : Queue) (μ : List ℕ) (ol oh : ℕ) (ss : List Store) (φ : ℕ → Line) (h : History) (k : ℕ) (θ : Line) (e : Event)
    → Plain e → ((i : ℕ) → i ≢ k → Calm (suc i) e)
    → (I : Base κ w ω δ Q μ ol oh ss φ h) → ThiefOk κ w (view ω Q μ ol oh) Q.anchor.tag (e ∷ h) (suc k) θ
    → (φ' : ℕ → Line) → φ' k ≡ θ → ((i : ℕ) → i ≢ k → φ' i ≡ φ i) → Base κ w ω δ Q μ ol oh ss φ' (e ∷ h)
thief_same κ w ω δ y Q μ ol oh ss φ h k θ e nd c I new φ' is rest =
    record {
      lo = I.lo;
      hi = I.hi;
      rep = I.rep;
      tops = I.tops;
      core = core_ev e (plain_done e nd) I.core;
      sized = I.sized;
      sorted = I.sorted;
      room = I.room;
      tag = I.tag;
      owed = owed_later κ w δ _ Q.anchor.tag h e ss I.owed;
      th = others κ w _ Q.anchor.tag h φ φ' k θ e c is rest I.th new;
    }

-- a steal: the window comes to be [A, C), and t is the task of the index that leaves
steal_end : (κ : Kind) (w ω : ℕ) (δ : Bool) (y : ℕ) (Q : Queue) (μ : List ℕ) (ol oh : ℕ) (ss : List Store) (φ : ℕ → Line) (h : History) (k : ℕ) (r : Anchor) (e : ℕ) (t : Task) (r' : Anchor) (A C n : ℕ) (I : Base κ w ω δ Q μ ol oh ss φ h)
    → I.lo ≤ A → A ≤ C → C ≤ I.hi → I.lo ≤ n → n < I.hi
    → ((i : ℕ) → I.lo ≤ i → i < I.hi → (i < A) ⊎ (C ≤ i) → i ≡ n)
    → StandsFor κ r' A C → r'.tag ≡ Q.anchor.tag → Tops κ C oh → t ≡ task_at (view ω Q μ ol oh) n
    → (Order κ (view ω Q μ ol oh) Q.anchor.head ss h → Order κ (view ω Q μ ol oh) r'.head ss (handed_out (suc k) t ∷ h))
    → ThiefKept κ w ω δ y Q μ ol oh ss φ h k (StealCompare r e t) (eff (StoreOut r' ∷ []) Idle (HandedOut (suc k) t))
steal_end κ w ω δ y Q μ ol oh ss φ h k r e t r' A C n I l m u ln un only R eg tops is_t O = (
  λ φ' is rest. record {
    lo = A;
    hi = C;
    rep = R;
    tops = tops;
    core =
        core_window (handed_out (suc k) t) ol oh A C tt I.core (omega arith) (omega (arith, I.core.low)) m
        (omega (arith, I.core.high)) (omega arith) leave;
    sized = I.sized;
    sorted = I.sorted;
    room = I.room;
    tag = rw eg I.tag;
    owed = rw eg (owed_later κ w δ _ Q.anchor.tag h (handed_out (suc k) t) ss I.owed);
    th = rw eg (others κ w _ Q.anchor.tag h φ φ' k Idle (handed_out (suc k) t) (λ i q. tt) is rest I.th tt);
  },
  rw is_t (inl (I.core.whole n (omega (arith, I.core.low)) (omega (arith, I.core.high)))),
  (eg, refl, refl),
  O,
)
  where
    leave : (i : ℕ) → I.lo ≤ i → i < I.hi → (i < A) ⊎ (C ≤ i)
        → Out (task_at (view ω Q μ ol oh) i) (handed_out (suc k) t ∷ h)
    leave i p q z = (suc k, Memᴰ.head {x = handed_out (suc k) t} (rw (only i p q z, is_t)))

-- the compare finds the anchor that was read
steal_wins : (κ : Kind) (w ω : ℕ) (δ : Bool) (y : ℕ) (Q : Queue) (μ : List ℕ) (ol oh : ℕ) (ss : List Store) (φ : ℕ → Line) (h : History) (k : ℕ) (r : Anchor) (e : ℕ) (t : Task) → is_same κ Q.anchor r ≡ true → stale κ (puts_since (suc k) h) ≡ 0
    → (I : Base κ w ω δ Q μ ol oh ss φ h) → ThiefOk κ w (view ω Q μ ol oh) Q.anchor.tag h (suc k) (StealCompare r e t)
    → ThiefKept κ w ω δ y Q μ ol oh ss φ h k (StealCompare r e t) (eff (steal_store κ r e ∷ []) Idle (HandedOut (suc k) t))
steal_wins Lifo w ω δ y Q μ ol oh ss φ h k r e t q none I (R, l, G, N) =
    steal_end Lifo w ω δ y Q μ ol oh ss φ h k r e t _ I.lo (I.hi - 1) (R.hi - 1) I (omega (arith, hi_is, lo_is)) (omega (arith, hi_is, lo_is)) (omega (arith, hi_is, lo_is)) (omega (arith, hi_is, lo_is)) (omega (arith, hi_is, lo_is))
    only (R.rep.0, I.rep.1, omega (arith, hi_is, lo_is, I.rep.2)) (sym tag) tt
    (G none (omega (arith, hi_is, lo_is, I.core.low)) top) (λ Y. tt)
  where
    tests : (eqb Q.anchor.count r.count ≡ true) × (eqb Q.anchor.tag r.tag ≡ true)
    tests = both (eqb Q.anchor.count r.count) (eqb Q.anchor.tag r.tag) q

    tag : Q.anchor.tag ≡ r.tag
    tag = eqb-true Q.anchor.tag r.tag tests.1

    hi_is : I.hi ≡ R.hi
    hi_is = I.rep.2 ∙ eqb-true Q.anchor.count r.count tests.0 ∙ sym R.rep.2

    lo_is : I.lo ≡ R.lo
    lo_is = I.rep.1 ∙ sym R.rep.1

    top : R.hi - 1 < oh
    top = omega (arith, hi_is, I.core.high)

    only : (i : ℕ) → I.lo ≤ i → i < I.hi → (i < I.lo) ⊎ (I.hi - 1 ≤ i) → i ≡ R.hi - 1
    only i a b (inl z) = omega (arith, hi_is)
    only i a b (inr z) = omega (arith, hi_is)
steal_wins Fifo w ω δ y Q μ ol oh ss φ h k r e t q none I (R, l, G, N) =
    steal_end Fifo w ω δ y Q μ ol oh ss φ h k r e t _ (I.lo + 1) I.hi R.lo I (omega (arith, lo_is, in_window)) (omega (arith, lo_is, in_window)) (omega (arith, lo_is, in_window)) (omega (arith, lo_is, in_window)) (omega (arith, lo_is, in_window))
    only (omega (arith, lo_is, in_window, R.rep.0), I.rep.1) refl I.tops
    is_t
    (λ Y. subst (λ (x : ℕ). Order Fifo (view ω Q μ ol oh) x ss (handed_out (suc k) t ∷ h)) {x = Q.anchor.head + 1} {y = r.head + 1} (omega (arith, head_is))
    (rising_steal (suc k) Q.anchor.head t (omega (arith, I.rep.0, I.core.low)) (omega (arith, I.rep.0, lo_is, top)) (his_up w δ (view ω Q μ ol oh) Q.anchor.tag h ss I.owed)
    (ap (λ (u : Task). u.number) here ∙ number_gathered ω _)
    (rw here (inl (I.core.whole Q.anchor.head (omega (arith, I.rep.0, I.core.low)) (omega (arith, I.rep.0, lo_is, top))))) Y))
  where
    head_is : Q.anchor.head ≡ r.head
    head_is = eqb-true Q.anchor.head r.head q

    lo_is : I.lo ≡ R.lo
    lo_is = I.rep.0 ∙ eqb-true Q.anchor.head r.head q ∙ sym R.rep.0

    top : R.lo < oh
    top = omega (arith, R.hold)

    in_window : R.lo < I.hi
    in_window = omega (arith, I.tops)

    is_t : t ≡ task_at (view ω Q μ ol oh) R.lo
    is_t = G refl (omega (arith, lo_is, in_window, I.core.low)) top

    here : t ≡ task_at (view ω Q μ ol oh) Q.anchor.head
    here = is_t ∙ ap (λ (x : ℕ). task_at (view ω Q μ ol oh) x) (R.rep.0 ∙ sym head_is)

    only : (i : ℕ) → I.lo ≤ i → i < I.hi → (i < I.lo + 1) ⊎ (I.hi ≤ i) → i ≡ R.lo
    only i a b (inl z) = omega (arith, lo_is)
    only i a b (inr z) = omega (arith, lo_is)
steal_wins Deque w ω δ y Q μ ol oh ss φ h k r e t q none I (R, l, G, N) =
    steal_end Deque w ω δ y Q μ ol oh ss φ h k r e t _ (I.lo + 1) I.hi R.lo I (omega (arith, lo_is, hi_is)) (omega (arith, lo_is, hi_is)) (omega (arith, lo_is, hi_is)) (omega (arith, lo_is, hi_is)) (omega (arith, lo_is, hi_is))
    only (head, omega (arith, lo_is, hi_is, R.rep.1)) (sym tag) I.tops
    (G none (omega (arith, lo_is, hi_is, I.core.low)) top) (λ Y. tt)
  where
    tests : (eqb Q.anchor.head r.head ≡ true) × (eqb Q.anchor.count r.count and eqb Q.anchor.tag r.tag ≡ true)
    tests = both (eqb Q.anchor.head r.head) _ q

    tests' : (eqb Q.anchor.count r.count ≡ true) × (eqb Q.anchor.tag r.tag ≡ true)
    tests' = both (eqb Q.anchor.count r.count) (eqb Q.anchor.tag r.tag) tests.1

    tag : Q.anchor.tag ≡ r.tag
    tag = eqb-true Q.anchor.tag r.tag tests'.1

    count : Q.anchor.count ≡ r.count
    count = eqb-true Q.anchor.count r.count tests'.0

    below : I.lo ≤ R.lo
    below = omega (arith, count, I.rep.1, R.rep.1, R.hold.1 none, I.core.high)

    lo_is : I.lo ≡ R.lo
    lo_is =
        same_head I.lo R.lo below (omega (arith, R.hold.0, I.core.low))
        (sym I.rep.0 ∙ eqb-true Q.anchor.head r.head tests.0 ∙ R.rep.0)

    hi_is : I.hi ≡ R.hi
    hi_is = omega (arith, lo_is, count, I.rep.1, R.rep.1)

    top : R.lo < oh
    top = omega (arith, hi_is, I.core.high)

    head : e ≡ (I.lo + 1) % 2048
    head = N ∙ ap (λ (z : ℕ). (z + 1) % 2048) R.rep.0 ∙ mod-add-mod R.lo 2048 1 ∙ ap (λ (z : ℕ). (z + 1) % 2048) (sym lo_is)

    only : (i : ℕ) → I.lo ≤ i → i < I.hi → (i < I.lo + 1) ⊎ (I.hi ≤ i) → i ≡ R.lo
    only i a b (inl z) = omega (arith, lo_is)
    only i a b (inr z) = omega (arith, lo_is)

-- no put has finished since line 1: a link is held, or the tag is as it was read and few puts finish
none_tagged : (κ : Kind) (w d : ℕ) (a r : Anchor) → is_same κ a r ≡ true → Tag κ w a.tag d r.tag → Few κ w d → 0 < w → stale κ d ≡ 0
none_tagged Lifo w d a r q (l, t) f some =
    tag_zero r.tag d (2 ^ w) l (omega (arith, f some)) (sym (eqb-true a.tag r.tag (both (eqb a.count r.count) _ q).1) ∙ t)
none_tagged Fifo w d a r q t f some = refl
none_tagged Deque w d a r q (l, t) f some =
    tag_zero r.tag d (2 ^ w) l (omega (arith, f some))
    (sym (eqb-true a.tag r.tag (both (eqb a.count r.count) _ (both (eqb a.head r.head) _ q).1).1) ∙ t)

none_linked : (κ : Kind) (d : ℕ) → d ≡ 0 → stale κ d ≡ 0
none_linked Lifo d e = e
none_linked Fifo d e = refl
none_linked Deque d e = e

-- what a held link says
abbrev pub LinkSound : Kind → Queue → History → ℕ → Line → Type 0
LinkSound κ Q h k θ = holds_link Q (suc k) ≡ true → (is_same κ Q.anchor (read_by θ) ≡ true) × (puts_since (suc k) h ≡ 0)

won : (κ : Kind) (w : ℕ) (Q : Queue) (h : History) (k : ℕ) (r : Anchor) (e : ℕ) (t : Task) (x : Bool) → (when x then holds_link Q (suc k) else is_same κ Q.anchor r) ≡ true
    → Tag κ w Q.anchor.tag (puts_since (suc k) h) r.tag → Few κ w (puts_since (suc k) h) → (x ≡ false → 0 < w) → LinkSound κ Q h k (StealCompare r e t)
    → (is_same κ Q.anchor r ≡ true) × (stale κ (puts_since (suc k) h) ≡ 0)
unfolding when◌then◌else◌
won κ w Q h k r e t true q T f some L = let (a, b) = L q in (a, none_linked κ _ b)
won κ w Q h k r e t false q T f some L = (q, none_tagged κ w _ Q.anchor r q T f (some refl))

steal_compare : (κ : Kind) (w ω : ℕ) (δ : Bool) (y : ℕ) (Q : Queue) (μ : List ℕ) (ol oh : ℕ) (ss : List Store) (φ : ℕ → Line) (h : History) (k : ℕ) (r : Anchor) (e : ℕ) (t : Task) (z : Bool) → succeeds κ Q (suc k) r ≡ z
    → (I : Base κ w ω δ Q μ ol oh ss φ h) → ThiefOk κ w (view ω Q μ ol oh) Q.anchor.tag h (suc k) (StealCompare r e t) → (Q.linked ≡ false → 0 < w) → LinkSound κ Q h k (StealCompare r e t)
    → let R : Effect = (when z then eff (steal_store κ r e ∷ []) Idle (HandedOut (suc k) t) else goes StealRead) in
    PremiseAt κ w (event_of ω δ y (step (suc k)) (StealCompare r e t) R.answer) h → ThiefKept κ w ω δ y Q μ ol oh ss φ h k (StealCompare r e t) R
unfolding when◌then◌else◌
steal_compare κ w ω δ y Q μ ol oh ss φ h k r e t true q I ok some L f =
    let (a, b) = won κ w Q h k r e t Q.linked q ok.0.tag (f ok.0.begun) some L in
    steal_wins κ w ω δ y Q μ ol oh ss φ h k r e t a b I ok
steal_compare κ w ω δ y Q μ ol oh ss φ h k r e t false q I ok some L f = (thief_same κ w ω δ y Q μ ol oh ss φ h k StealRead (failed_compare (suc k)) tt (λ i q. tt) I tt, tt, (refl, refl, refl), λ Y. order_ev κ (view ω Q μ ol oh) Q.anchor.head ss h _ tt Y)

-- what a thief has read, after a step that goes on
soon : (κ : Kind) (w : ℕ) (v : View) (g : ℕ) (h : History) (k : ℕ) (θ : Line) → ThiefOk κ w v g h k θ → ThiefOk κ w v g (quiet ∷ h) k θ
soon κ w v g h k θ o = thief_holds {w = w} {g = g} {h = h} (move_calm quiet tt (frame_same v v.own_lo v.own_hi (omega arith)) (grow_same κ v v refl) (omega arith)) θ o

-- the test for EMPTY
steal_test : (κ : Kind) (w ω : ℕ) (δ : Bool) (y : ℕ) (Q : Queue) (μ : List ℕ) (ol oh : ℕ) (ss : List Store) (φ : ℕ → Line) (h : History) (k : ℕ) (r : Anchor) (x : Bool) → is_empty κ r ≡ x
    → (I : Base κ w ω δ Q μ ol oh ss φ h) → ThiefOk κ w (view ω Q μ ol oh) Q.anchor.tag h (suc k) (StealTest r)
    → ThiefKept κ w ω δ y Q μ ol oh ss φ h k (StealTest r) (when x then eff [] Idle (Empty (suc k)) else goes (StealNote r))
unfolding when◌then◌else◌
steal_test κ w ω δ y Q μ ol oh ss φ h k r true e I (R, E) =
    (thief_same κ w ω δ y Q μ ol oh ss φ h k Idle (found_empty (suc k)) tt (λ i q. tt) I tt, (R.begun, E (empty_yes κ r R.lo R.hi R.rep e)), (refl, refl, refl), λ Y. order_ev κ (view ω Q μ ol oh) Q.anchor.head ss h _ tt Y)
steal_test κ w ω δ y Q μ ol oh ss φ h k r false e I (R, E) = (
  thief_same κ w ω δ y Q μ ol oh ss φ h k (StealNote r) quiet tt (λ i q. tt) I
      (soon κ w _ Q.anchor.tag h (suc k) (StealNote r) (R, empty_no κ r R.lo R.hi R.rep R.le e)),
  tt,
  (refl, refl, refl),
  λ Y. order_ev κ (view ω Q μ ol oh) Q.anchor.head ss h _ tt Y,
)

-- line 1
tag_now : (w : ℕ) (Q : Queue) (h : History) (k : ℕ) → Q.anchor.tag < 2 ^ w → Q.anchor.tag ≡ (Q.anchor.tag + puts_since (suc k) (line_1 (suc k) ∷ h)) % 2 ^ w
tag_now w Q h k l = rw (since_now (suc k) h, add-zero, mod-eq_of_lt l)

steal_read_lem : (κ : Kind) (w ω : ℕ) (δ : Bool) (y : ℕ) (Q : Queue) (μ : List ℕ) (ol oh : ℕ) (ss : List Store) (φ : ℕ → Line) (h : History) (k : ℕ) (I : Base κ w ω δ Q μ ol oh ss φ h)
    → ThiefOk κ w (view ω Q μ ol oh) Q.anchor.tag (line_1 (suc k) ∷ h) (suc k) (steal_read κ Q.anchor)
steal_read_lem Lifo w ω δ y Q μ ol oh ss φ h k I =
    (record { lo = I.lo; hi = I.hi; rep = I.rep; le = I.core.mid; begun = Memᴰ.head refl; tag = (I.tag, tag_now w Q h k I.tag); hold = omega (arith, I.core.high, I.core.fit, I.core.low, I.rep.1) }, emp_now k I.core)
steal_read_lem Fifo w ω δ y Q μ ol oh ss φ h k I =
    (tt, I.hi, omega (arith, I.rep.0, I.core.mid), I.core.high, (λ e. emp_now k I.core (I.rep.0 ∙ e)), Memᴰ.head refl)
steal_read_lem Deque w ω δ y Q μ ol oh ss φ h k I = (
  record {
    lo = I.lo;
    hi = I.hi;
    rep = I.rep;
    le = I.core.mid;
    begun = Memᴰ.head refl;
    tag = (I.tag, tag_now w Q h k I.tag);
    hold = (omega (arith, I.core.mid, I.core.high, I.core.fit, size_le I.sized), λ e. omega (arith, I.tops));
  },
  emp_now k I.core,
)

-- FIFO's line 2
steal_tail : (κ : Kind) (w ω : ℕ) (δ : Bool) (y : ℕ) (Q : Queue) (μ : List ℕ) (ol oh : ℕ) (ss : List Store) (φ : ℕ → Line) (h : History) (k a : ℕ) (I : Base κ w ω δ Q μ ol oh ss φ h)
    → ThiefOk κ w (view ω Q μ ol oh) Q.anchor.tag h (suc k) (StealTail a)
    → ThiefOk κ w (view ω Q μ ol oh) Q.anchor.tag (quiet ∷ h) (suc k) (StealTest (anchor a Q.anchor.count Q.anchor.tag))
steal_tail Lifo w ω δ y Q μ ol oh ss φ h k a I ok = absurd ok.0
steal_tail Fifo w ω δ y Q μ ol oh ss φ h k a I (f, e, p, q, E, b) = (
  record { lo = a; hi = Q.anchor.count; rep = (refl, refl); le = up; begun = Memᴰ.tail b; tag = tt; hold = omega (arith, I.rep.1, I.tops) },
  λ x. emp_calm (suc k) h quiet tt (E (omega (arith, I.rep.1, I.tops))),
)
  where
    up : a ≤ Q.anchor.count
    up = omega (arith, I.rep.1, I.tops)
steal_tail Deque w ω δ y Q μ ol oh ss φ h k a I ok = absurd ok.0

small_now : (κ : Kind) (ω : ℕ) (Q : Queue) (lo hi : ℕ) (v : View) (d : ℕ) → Hold κ v d lo hi → v.slots ≡ size ω Q → Small κ (size ω Q) hi
small_now Lifo ω Q lo hi v d H e = omega arith
small_now Fifo ω Q lo hi v d H e = tt
small_now Deque ω Q lo hi v d H e = tt

-- word j is read; after the last one the compare is near
steal_on_lem : (κ : Kind) (w ω : ℕ) (v : View) (g : ℕ) (h : History) (k : ℕ) (r : Anchor) (b : ℕ) (t : Task) (x j : ℕ) (z : Bool) → eqb j ω ≡ z → ω ≤ 4 → v.words ≡ ω
    → (R : Reads κ w v g h k r) → R.lo < R.hi → NotedV κ w v g h k r R b → j ≤ v.words → GotV κ w v g h k r R j t
    → (stale κ (puts_since k h) ≡ 0 → v.own_lo ≤ stolen_ix κ R.lo R.hi → stolen_ix κ R.lo R.hi < v.own_hi → x ≡ word v (stolen_ix κ R.lo R.hi) j)
    → ThiefOk κ w v g h k (when z then steal_last κ r (with_word t j x) else StealWord r b (with_word t j x) (j + 1))
unfolding when◌then◌else◌
steal_on_lem κ w ω v g h k r b t x j z e wide q R l N u G is = go z e
  where
    more : GotV κ w v g h k r R (j + 1) (with_word t j x)
    more s p o = next_is j t x _ (G s p o) (is s p o) (omega arith)

    last : (κ' : Kind) → κ ≡ κ' → GotV κ w v g h k r R (v.words + 1) (with_word t j x) → ThiefOk κ w v g h k (steal_last κ' r (with_word t j x))
    last Lifo q G = (R, l, G, rw q tt)
    last Fifo q G = (R, l, G, rw q tt)
    last Deque q G = (R, l, G)

    go : (z : Bool) → eqb j ω ≡ z → ThiefOk κ w v g h k (when z then steal_last κ r (with_word t j x) else StealWord r b (with_word t j x) (j + 1))
    go true e =
        last κ refl
        (subst (λ (n : ℕ). GotV κ w v g h k r R (n + 1) (with_word t j x)) (eqb-true j ω e ∙ sym q) more)
    go false e = (R, l, N, omega (arith, eqb-false j ω e), more)

-- double-ended line 5
steal_next : (κ : Kind) (a : ℕ) → Next κ a ((a + 1) % 2048)
steal_next Lifo a = tt
steal_next Fifo a = tt
steal_next Deque a = refl

pub thief_kept : (ρ : Room) (κ : Kind) (w ω : ℕ) (δ : Bool) (y : ℕ) (Q : Queue) (μ : List ℕ) (ol oh : ℕ) (ss : List Store) (φ : ℕ → Line) (h : History) (k : ℕ) (θ : Line) (I : Base κ w ω δ Q μ ol oh ss φ h) → ThiefOk κ w (view ω Q μ ol oh) Q.anchor.tag h (suc k) θ → 0 < Q.published → ω ≤ 4 → (Q.linked ≡ false → 0 < w) → LinkSound κ Q h k θ
    → PremiseAt κ w (event_of ω δ y (step (suc k)) θ (line_step ρ κ w ω Q μ (suc k) θ).answer) h → ThiefKept κ w ω δ y Q μ ol oh ss φ h k θ (line_step ρ κ w ω Q μ (suc k) θ)
unfolding line_step
thief_kept ρ κ w ω δ y Q μ ol oh ss φ h k Idle I ok pos wide some L f = (thief_same κ w ω δ y Q μ ol oh ss φ h k Idle quiet tt (λ i q. tt) I tt, tt, (refl, refl, refl), λ Y. order_ev κ (view ω Q μ ol oh) Q.anchor.head ss h _ tt Y)
thief_kept ρ κ w ω δ y Q μ ol oh ss φ h k StealRead I ok pos wide some L f =
    (thief_same κ w ω δ y Q μ ol oh ss φ h k (steal_read κ Q.anchor) (line_1 (suc k)) tt (λ i ne. omega arith) I (steal_read_lem κ w ω δ y Q μ ol oh ss φ h k I), tt, (refl, refl, refl), λ Y. order_ev κ (view ω Q μ ol oh) Q.anchor.head ss h _ tt Y)
thief_kept ρ κ w ω δ y Q μ ol oh ss φ h k (StealTail a) I ok pos wide some L f = (thief_same κ w ω δ y Q μ ol oh ss φ h k (StealTest (anchor a Q.anchor.count Q.anchor.tag)) quiet tt (λ i q. tt) I (steal_tail κ w ω δ y Q μ ol oh ss φ h k a I ok), tt, (refl, refl, refl), λ Y. order_ev κ (view ω Q μ ol oh) Q.anchor.head ss h _ tt Y)
thief_kept ρ κ w ω δ y Q μ ol oh ss φ h k (StealTest r) I ok pos wide some L f = steal_test κ w ω δ y Q μ ol oh ss φ h k r (is_empty κ r) refl I ok
thief_kept ρ κ w ω δ y Q μ ol oh ss φ h k (StealNote r) I (R, l) pos wide some L f = (
  thief_same κ w ω δ y Q μ ol oh ss φ h k _ quiet tt (λ i q. tt) I
      (soon κ w _ Q.anchor.tag h (suc k) (StealWord r _ no_task 0) (R, l, (omega arith, (I.sized, small_now κ ω Q R.lo R.hi (view ω Q μ ol oh) _ R.hold refl), ((size_pos I.sized, inl (refl, refl)), λ j q x y z. refl)), omega arith, λ x y z. no_words _)),
  tt,
  (refl, refl, refl),
  λ Y. order_ev κ (view ω Q μ ol oh) Q.anchor.head ss h _ tt Y,
)
thief_kept ρ κ w ω δ y Q μ ol oh ss φ h k (StealWord r b t j) I (R, l, (p, n, (d, q)), u, G) pos wide some L f =
    let x = word_of κ ω Q μ b (steal_index κ r) j in (
      thief_same κ w ω δ y Q μ ol oh ss φ h k (steal_on κ ω r b (with_word t j x) j) quiet tt (λ i q. tt) I
          (soon κ w _ Q.anchor.tag h (suc k) (steal_on κ ω r b (with_word t j x) j)
          (steal_on_lem κ w ω (view ω Q μ ol oh) Q.anchor.tag h (suc k) r b t x j (eqb j ω) refl wide refl R l (p, n, (d, q)) u G
          (λ s y z. word_w ω μ (offset_at Q.arrays b) (size_at ω Q.arrays b) _ _ j (steal_ix n.0 κ r R.lo R.hi l n.1 R.rep) ∙ q j (omega arith) s y z))),
      tt,
      (refl, refl, refl),
      λ Y. order_ev κ (view ω Q μ ol oh) Q.anchor.head ss h _ tt Y,
    )
thief_kept ρ κ w ω δ y Q μ ol oh ss φ h k (StealNext r t) I (R, l, G) pos wide some L f = (
  thief_same κ w ω δ y Q μ ol oh ss φ h k _ quiet tt (λ i q. tt) I
      (soon κ w _ Q.anchor.tag h (suc k) (StealCompare r _ t) (R, l, G, steal_next κ r.head)),
  tt,
  (refl, refl, refl),
  λ Y. order_ev κ (view ω Q μ ol oh) Q.anchor.head ss h _ tt Y,
)
thief_kept ρ κ w ω δ y Q μ ol oh ss φ h k (StealCompare r e t) I ok pos wide some L f = steal_compare κ w ω δ y Q μ ol oh ss φ h k r e t (succeeds κ Q (suc k) r) refl I ok some L f
thief_kept ρ κ w ω δ y Q μ ol oh ss φ h k (PutRead t) I ok pos wide some L f = absurd ok
thief_kept ρ κ w ω δ y Q μ ol oh ss φ h k (PutTail t a) I ok pos wide some L f = absurd ok
thief_kept ρ κ w ω δ y Q μ ol oh ss φ h k (PutTest t r) I ok pos wide some L f = absurd ok
thief_kept ρ κ w ω δ y Q μ ol oh ss φ h k (PutWord t r j) I ok pos wide some L f = absurd ok
thief_kept ρ κ w ω δ y Q μ ol oh ss φ h k (PutFinish t r) I ok pos wide some L f = absurd ok
thief_kept ρ κ w ω δ y Q μ ol oh ss φ h k (Claim t) I ok pos wide some L f = absurd ok
thief_kept ρ κ w ω δ y Q μ ol oh ss φ h k (Note t) I ok pos wide some L f = absurd ok
thief_kept ρ κ w ω δ y Q μ ol oh ss φ h k (Copy t a q j) I ok pos wide some L f = absurd ok
thief_kept ρ κ w ω δ y Q μ ol oh ss φ h k (Publish t) I ok pos wide some L f = absurd ok
thief_kept ρ κ w ω δ y Q μ ol oh ss φ h k TakeRead I ok pos wide some L f = absurd ok
thief_kept ρ κ w ω δ y Q μ ol oh ss φ h k (TakeTail a) I ok pos wide some L f = absurd ok
thief_kept ρ κ w ω δ y Q μ ol oh ss φ h k (TakeTest r) I ok pos wide some L f = absurd ok
thief_kept ρ κ w ω δ y Q μ ol oh ss φ h k (TakeWord r t j) I ok pos wide some L f = absurd ok
thief_kept ρ κ w ω δ y Q μ ol oh ss φ h k (TakeFinish r t) I ok pos wide some L f = absurd ok
