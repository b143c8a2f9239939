-- Calls, answers and accepted steps, and the events that stand for them.
use mathlib.Core.Path.{◌≡◌, refl, sym, ◌∙◌, ap, subst}
use mathlib.Core.Bool.{Bool, true, false, cond}
use mathlib.Core.Logic.{◌⊎◌, inl, inr}
use mathlib.Core.List.{List, [], ◌∷◌}
use Prim.Native.Nat.{ℕ, zero, suc, ◌+◌, ◌-◌, ◌<◌}
use native.Mathlib.Omega.{arith}
use lib.ListN.{take, drop}
use Rattle.model.specs.declared.Room.{Room}
use Rattle.model.specs.declared.Kind.{Kind}
use Rattle.model.specs.declared.Line.{Line}
use Rattle.model.specs.declared.Line.TheVariants.{Idle, PutRead, PutTail, PutTest, PutWord, PutFinish, Claim, Note, Copy, Publish, TakeRead, TakeTail, TakeTest, TakeWord, TakeFinish, StealRead, StealTail, StealTest, StealNote, StealWord, StealNext, StealCompare}
use Rattle.model.specs.declared.Queue.{Queue}
use Rattle.model.specs.declared.Operation.TheVariants.{Put, Take, Steal, Commit}
use Rattle.model.specs.declared.Answer.{Answer}
use Rattle.model.specs.declared.Answer.TheVariants.{Accepted, Numbered, GoesOn, Finished, HandedOut, Empty, Full, Refused, Grown}
use Rattle.model.specs.declared.Payload.{Payload}
use Rattle.model.specs.declared.Task.{Task}
use Rattle.model.specs.Tasks.{task, first_words}
use Rattle.model.specs.declared.Anchor.{Anchor}
use Rattle.model.specs.declared.Refusal.{Refusal}
use Rattle.model.specs.Lines.{line_step}
use Rattle.model.specs.World.{World, Outcome, tag_bits, line_at}
use Rattle.model.specs.Stores.{oldest}
use Rattle.model.specs.Calls.{Call, begin, step, drop_link, ask, drop_ask, drain, call_in}
use Rattle.model.specs.declared.Store.{Store}
use Rattle.model.specs.declared.Store.TheVariants.{StoreWord, StoreNote, StorePut, StoreOut, StoreHead, StoreTail}
use Rattle.model.specs.Run.{Played}
use Rattle.theorems.specs.Demand3.{At, Begins, Finishes, HandsOut, Empties, Line1, Compares, Attempt, finishes, of_put, arrives_as, puts, drains_as, drains, between, Few, FewPutsIn}
use Rattle.theorems.proofs.Events.{Event, quiet, line_1, finished_put, handed_out, failed_compare, found_empty, began_put, found_full, waiting_put, drained, is_line_1, is_compare, event_of_begin, event_of_going_on, event_of_hand_out, event_of_finish, event_of, event_of_drain}
use Rattle.theorems.proofs.Places.{EventAt, EventLine1, finishes_put, finished_puts, events_between, EventCompares, EventFew}
use Rattle.theorems.proofs.WholeRun.{storing}
use Rattle.theorems.proofs.Company.{Turn, others, own, played_in}
use Rattle.theorems.proofs.Cases.{effect_of, step_by, drain_by}
use Rattle.theorems.proofs.SoundRun.{event_in, event_at, events, call_like}
use Rattle.theorems.proofs.Invariant.{drain_of_lem}
use Rattle.theorems.proofs.ShapeStep.{not_both}
use Rattle.model.specs.Listing.{is_refused}
use Rattle.model.specs.Tests.{when◌then◌else◌}

-- places
pub at_map : (T : List Played) (j : ℕ) (P Q : Played → Type 0) → ((s : Played) → P s → Q s) → At T j P → At T j Q
at_map [] j P Q f a = a
at_map (x ∷ T) zero P Q f a = f x a
at_map (x ∷ T) (suc j) P Q f a = at_map T j P Q f a

pub at_some : (T : List Played) (j : ℕ) (P : ℕ → Played → Type 0) → At T j (λ s. (i : ℕ) × P i s) → (i : ℕ) × At T j (P i)
at_some [] j P a = absurd a
at_some (x ∷ T) zero P a = a
at_some (x ∷ T) (suc j) P a = at_some T j P a

pub to_ev : (T : List Played) (j : ℕ) (e : Event) → At T j (λ s. event_at s ≡ e) → EventAt (events T) j e
to_ev [] j e a = a
to_ev (x ∷ T) zero e a = a
to_ev (x ∷ T) (suc j) e a = to_ev T j e a

pub from_ev : (T : List Played) (j : ℕ) (e : Event) → EventAt (events T) j e → At T j (λ s. event_at s ≡ e)
from_ev [] j e a = a
from_ev (x ∷ T) zero e a = a
from_ev (x ∷ T) (suc j) e a = from_ev T j e a

-- the answer at a place is the call's
abbrev pub True : Played → Type 0
True s = (ρ : Room) × (s.answer ≡ (call_in ρ s.before s.call).answer)

pub at_true : (ts : List Turn) (W : World) (j : ℕ) (P Q : Played → Type 0) → ((s : Played) → True s → P s → Q s) → At (played_in W ts) j P → At (played_in W ts) j Q
unfolding played_in
at_true [] W j P Q f a = absurd a
at_true (others m ∷ ts) W j P Q f a = at_true ts (storing W m) j P Q f a
at_true (own ρ c ∷ ts) W zero P Q f a = f _ (ρ, refl) a
at_true (own ρ c ∷ ts) W (suc j) P Q f a = at_true ts (call_in ρ W c).world j P Q f a

abbrev is_plain : Answer → Bool
is_plain Accepted = true
is_plain (Numbered n) = false
is_plain GoesOn = false
is_plain (Finished i t) = false
is_plain (HandedOut i t) = false
is_plain (Empty i) = false
is_plain (Full i t) = false
is_plain (Grown i) = false
is_plain (Refused r) = true

-- what an event says of the call
abbrev Says : ℕ → Bool → ℕ → Call → Line → Answer → Event → Type 0
Says ω δ y c l a quiet = Unit {0}
Says ω δ y c l a (line_1 i) = (c ≡ step i) × (is_line_1 l ≡ true) × (a ≡ GoesOn)
Says ω δ y c l a (finished_put t) = ((i : ℕ) × (a ≡ Finished i t) × (δ ≡ false)) ⊎ (c ≡ drain)
Says ω δ y c l a (handed_out zero t) = (i : ℕ) × (a ≡ HandedOut i t)
Says ω δ y c l a (handed_out (suc k) t) = (i : ℕ) × (a ≡ HandedOut i t) × (c ≡ step (suc k)) × (is_compare l ≡ true)
Says ω δ y c l a (failed_compare i) = (c ≡ step i) × (is_compare l ≡ true) × (a ≡ GoesOn)
Says ω δ y c l a (found_empty i) = a ≡ Empty i
Says ω δ y c l a (began_put t) = (n : ℕ) × (p : Payload) × (c ≡ begin 0 (Put p)) × (a ≡ Numbered n) × (first_words (ω + 1) (task n p) ≡ t)
Says ω δ y c l a (found_full t) = Unit {0}
Says ω δ y c l a (waiting_put t n) = ((i : ℕ) × (a ≡ Finished i t)) × (n ≡ y + 1) × (δ ≡ true)
Says ω δ y c l a drained = c ≡ drain

says_go : (ω : ℕ) (δ : Bool) (y i : ℕ) (l : Line) (x z : Bool) → is_line_1 l ≡ x → is_compare l ≡ z → Says ω δ y (step i) l GoesOn (cond x (line_1 i) (cond z (failed_compare i) quiet))
says_go ω δ y i l true z p q = (refl, p, refl)
says_go ω δ y i l false true p q = (refl, q, refl)
says_go ω δ y i l false false p q = tt

says_out : (ω : ℕ) (δ : Bool) (y i : ℕ) (l : Line) (j : ℕ) (t : Task) (z : Bool) → is_compare l ≡ z → Says ω δ y (step i) l (HandedOut j t) (cond z (handed_out i t) (handed_out 0 t))
says_out ω δ y zero l j t true q = (j, refl)
says_out ω δ y (suc k) l j t true q = (j, refl, refl, q)
says_out ω δ y zero l j t false q = (j, refl)
says_out ω δ y (suc k) l j t false q = (j, refl)

says : (ω : ℕ) (δ : Bool) (y : ℕ) (c : Call) (l : Line) (a : Answer) → Says ω δ y c l a (event_of ω δ y c l a)
says ω δ y c l Accepted = tt
says ω δ y (begin zero (Put p)) l (Numbered n) = (n, p, refl, refl, refl)
says ω δ y (begin (suc k) (Put p)) l (Numbered n) = tt
says ω δ y (begin i Take) l (Numbered n) = tt
says ω δ y (begin i Steal) l (Numbered n) = tt
says ω δ y (begin i Commit) l (Numbered n) = tt
says ω δ y (step i) l (Numbered n) = tt
says ω δ y (drop_link i) l (Numbered n) = tt
says ω δ y (ask i) l (Numbered n) = tt
says ω δ y (drop_ask i) l (Numbered n) = tt
says ω δ y drain l (Numbered n) = tt
says ω δ y (begin i op) l GoesOn = tt
says ω δ y (step i) l GoesOn = says_go ω δ y i l (is_line_1 l) (is_compare l) refl refl
says ω δ y (drop_link i) l GoesOn = tt
says ω δ y (ask i) l GoesOn = tt
says ω δ y (drop_ask i) l GoesOn = tt
says ω δ y drain l GoesOn = tt
says ω true y c l (Finished i t) = ((i, refl), refl, refl)
says ω false y c l (Finished i t) = inl (i, refl, refl)
says ω δ y (begin i op) l (HandedOut j t) = (j, refl)
says ω δ y (step i) l (HandedOut j t) = says_out ω δ y i l j t (is_compare l) refl
says ω δ y (drop_link i) l (HandedOut j t) = (j, refl)
says ω δ y (ask i) l (HandedOut j t) = (j, refl)
says ω δ y (drop_ask i) l (HandedOut j t) = (j, refl)
says ω δ y drain l (HandedOut j t) = (j, refl)
says ω δ y c l (Empty i) = refl
says ω δ y c l (Full i t) = tt
says ω δ y c l (Grown i) = tt
says ω δ y c l (Refused r) = tt

says_drain : (ω : ℕ) (δ : Bool) (y : ℕ) (l : Line) (a : Answer) (κ : Kind) (q : Queue) (m : List ℕ) (s : Store) (x : Bool) → Says ω δ y drain l a (cond x quiet (event_of_drain κ ω q m s))
says_drain ω δ y l a κ q m s true = tt
says_drain ω δ y l a κ q m (StoreWord b s j x) false = refl
says_drain ω δ y l a κ q m (StoreNote k) false = refl
says_drain ω δ y l a κ q m (StorePut r) false = inr refl
says_drain ω δ y l a κ q m (StoreOut r) false = refl
says_drain ω δ y l a κ q m (StoreHead i) false = refl
says_drain ω δ y l a κ q m (StoreTail i) false = inr refl

-- whose line a call is about
abbrev worker_of : Call → ℕ
worker_of (begin i op) = i
worker_of (step i) = i
worker_of (drop_link i) = i
worker_of (ask i) = i
worker_of (drop_ask i) = i
worker_of drain = 0

abbrev line_of : Played → Line
line_of s = line_at s.before.bench.workers (worker_of s.call)

abbrev SaysAt : Played → Event → Type 0
SaysAt s e = Says s.before.bench.words s.before.bench.delayed s.before.bench.waiting.count s.call (line_of s) s.answer e

says_in : (W : World) (c : Call) (a : Answer) → Says W.bench.words W.bench.delayed W.bench.waiting.count c (line_at W.bench.workers (worker_of c)) a (event_in W c a)
says_in W (begin i op) a = says W.bench.words W.bench.delayed W.bench.waiting.count (begin i op) _ a
says_in W (step i) a = says W.bench.words W.bench.delayed W.bench.waiting.count (step i) _ a
says_in W (drop_link i) a = says W.bench.words W.bench.delayed W.bench.waiting.count (drop_link i) _ a
says_in W (ask i) a = says W.bench.words W.bench.delayed W.bench.waiting.count (ask i) _ a
says_in W (drop_ask i) a = says W.bench.words W.bench.delayed W.bench.waiting.count (drop_ask i) _ a
says_in W drain a = says_drain W.bench.words W.bench.delayed W.bench.waiting.count _ a _ W.bench.queue _ (oldest W.bench.waiting) (is_refused a)

pub told : (s : Played) (e : Event) → event_at s ≡ e → SaysAt s e
told s e q = subst (SaysAt s) q (says_in s.before s.call s.answer)

-- a drain is accepted or refused
abbrev Plainly : Answer → Type 0
Plainly a = (a ≡ Accepted) ⊎ ((r : Refusal) × (a ≡ Refused r))

drain_answer : (ρ : Room) (W : World) → Plainly (call_in ρ W drain).answer
drain_answer ρ W = drain_by (λ (D : Outcome). Plainly D.answer) W (λ r l. inr (r, refl)) ρ (λ some. inl refl)

-- a call whose answer is neither is no drain: its event is by its answer
ordinary : (s : Played) → True s → (Plainly s.answer → ⊥) → event_at s ≡ event_of s.before.bench.words s.before.bench.delayed s.before.bench.waiting.count s.call (line_of s) s.answer
ordinary s (ρ, t) n = go s.call refl
  where
    go : (c : Call) → s.call ≡ c → event_in s.before c s.answer ≡ event_of s.before.bench.words s.before.bench.delayed s.before.bench.waiting.count c (line_at s.before.bench.workers (worker_of c)) s.answer
    go (begin i op) e = refl
    go (step i) e = refl
    go (drop_link i) e = refl
    go (ask i) e = refl
    go (drop_ask i) e = refl
    go drain e = absurd (n (subst Plainly (sym (t ∙ ap (λ (c : Call). (call_in ρ s.before c).answer) e)) (drain_answer ρ s.before)))

not_plain : (a : Answer) → is_plain a ≡ false → Plainly a → ⊥
not_plain a p (inl q) = not_both (is_plain a) p (ap is_plain q)
not_plain a p (inr (r, q)) = not_both (is_plain a) p (ap is_plain q)

-- finished, begun, EMPTY
pub done_ev : (t : Task) (s : Played) → True s → Finishes t s → event_at s ≡ event_of_finish s.before.bench.delayed s.before.bench.waiting.count t
done_ev t s tr (i, e) = ordinary s tr (not_plain s.answer (ap is_plain e)) ∙ ap (event_of s.before.bench.words s.before.bench.delayed s.before.bench.waiting.count s.call (line_of s)) e

pub ev_wait : (t : Task) (n : ℕ) (s : Played) → event_at s ≡ waiting_put t n → Finishes t s
ev_wait t n s e = (told s (waiting_put t n) e).0

pub ev_began : (t : Task) (s : Played) → event_at s ≡ began_put t → Begins t s
ev_began t s e = told s (began_put t) e

pub empty_ev : (i : ℕ) (s : Played) → True s → Empties i s → event_at s ≡ found_empty i
empty_ev i s tr e = ordinary s tr (not_plain s.answer (ap is_plain e)) ∙ ap (event_of s.before.bench.words s.before.bench.delayed s.before.bench.waiting.count s.call (line_of s)) e

out_is : (c : Call) (l : Line) (t : Task) → (i : ℕ) × (event_of_hand_out c l t ≡ handed_out i t)
out_is (begin i op) l t = (0, refl)
out_is (drop_link i) l t = (0, refl)
out_is (ask i) l t = (0, refl)
out_is (drop_ask i) l t = (0, refl)
out_is drain l t = (0, refl)
out_is (step i) l t = go (is_compare l)
  where
    go : (x : Bool) → (j : ℕ) × (cond x (handed_out i t) (handed_out 0 t) ≡ handed_out j t)
    go true = (i, refl)
    go false = (0, refl)

pub out_ev : (t : Task) (s : Played) → True s → HandsOut t s → (i : ℕ) × (event_at s ≡ handed_out i t)
out_ev t s tr (j, e) =
    let r = out_is s.call (line_of s) t in
    (r.0, ordinary s tr (not_plain s.answer (ap is_plain e)) ∙ ap (event_of s.before.bench.words s.before.bench.delayed s.before.bench.waiting.count s.call (line_of s)) e ∙ r.1)

pub ev_out : (i : ℕ) (t : Task) (s : Played) → event_at s ≡ handed_out i t → HandsOut t s
ev_out zero t s e = let r = told s (handed_out 0 t) e in (r.0, r.1)
ev_out (suc k) t s e = let r = told s (handed_out (suc k) t) e in (r.0, r.1)

-- line 1
first_is : (l : Line) → is_line_1 l ≡ true → (l ≡ TakeRead) ⊎ (l ≡ StealRead)
first_is Idle e = absurd (let z : ◌≡◌ {A = ℕ} 0 1 = cc in omega arith)
first_is (PutRead t) e = absurd (let z : ◌≡◌ {A = ℕ} 0 1 = cc in omega arith)
first_is (PutTail t h) e = absurd (let z : ◌≡◌ {A = ℕ} 0 1 = cc in omega arith)
first_is (PutTest t r) e = absurd (let z : ◌≡◌ {A = ℕ} 0 1 = cc in omega arith)
first_is (PutWord t r j) e = absurd (let z : ◌≡◌ {A = ℕ} 0 1 = cc in omega arith)
first_is (PutFinish t r) e = absurd (let z : ◌≡◌ {A = ℕ} 0 1 = cc in omega arith)
first_is (Claim t) e = absurd (let z : ◌≡◌ {A = ℕ} 0 1 = cc in omega arith)
first_is (Note t) e = absurd (let z : ◌≡◌ {A = ℕ} 0 1 = cc in omega arith)
first_is (Copy t h j i) e = absurd (let z : ◌≡◌ {A = ℕ} 0 1 = cc in omega arith)
first_is (Publish t) e = absurd (let z : ◌≡◌ {A = ℕ} 0 1 = cc in omega arith)
first_is TakeRead e = inl refl
first_is (TakeTail h) e = absurd (let z : ◌≡◌ {A = ℕ} 0 1 = cc in omega arith)
first_is (TakeTest r) e = absurd (let z : ◌≡◌ {A = ℕ} 0 1 = cc in omega arith)
first_is (TakeWord r t j) e = absurd (let z : ◌≡◌ {A = ℕ} 0 1 = cc in omega arith)
first_is (TakeFinish r t) e = absurd (let z : ◌≡◌ {A = ℕ} 0 1 = cc in omega arith)
first_is StealRead e = inr refl
first_is (StealTail h) e = absurd (let z : ◌≡◌ {A = ℕ} 0 1 = cc in omega arith)
first_is (StealTest r) e = absurd (let z : ◌≡◌ {A = ℕ} 0 1 = cc in omega arith)
first_is (StealNote r) e = absurd (let z : ◌≡◌ {A = ℕ} 0 1 = cc in omega arith)
first_is (StealWord r k t j) e = absurd (let z : ◌≡◌ {A = ℕ} 0 1 = cc in omega arith)
first_is (StealNext r t) e = absurd (let z : ◌≡◌ {A = ℕ} 0 1 = cc in omega arith)
first_is (StealCompare r i t) e = absurd (let z : ◌≡◌ {A = ℕ} 0 1 = cc in omega arith)

compare_is : (l : Line) → is_compare l ≡ true → (r : Anchor) × (e : ℕ) × (t : Task) × (l ≡ StealCompare r e t)
compare_is Idle e = absurd (let z : ◌≡◌ {A = ℕ} 0 1 = cc in omega arith)
compare_is (PutRead t) e = absurd (let z : ◌≡◌ {A = ℕ} 0 1 = cc in omega arith)
compare_is (PutTail t h) e = absurd (let z : ◌≡◌ {A = ℕ} 0 1 = cc in omega arith)
compare_is (PutTest t r) e = absurd (let z : ◌≡◌ {A = ℕ} 0 1 = cc in omega arith)
compare_is (PutWord t r j) e = absurd (let z : ◌≡◌ {A = ℕ} 0 1 = cc in omega arith)
compare_is (PutFinish t r) e = absurd (let z : ◌≡◌ {A = ℕ} 0 1 = cc in omega arith)
compare_is (Claim t) e = absurd (let z : ◌≡◌ {A = ℕ} 0 1 = cc in omega arith)
compare_is (Note t) e = absurd (let z : ◌≡◌ {A = ℕ} 0 1 = cc in omega arith)
compare_is (Copy t h j i) e = absurd (let z : ◌≡◌ {A = ℕ} 0 1 = cc in omega arith)
compare_is (Publish t) e = absurd (let z : ◌≡◌ {A = ℕ} 0 1 = cc in omega arith)
compare_is TakeRead e = absurd (let z : ◌≡◌ {A = ℕ} 0 1 = cc in omega arith)
compare_is (TakeTail h) e = absurd (let z : ◌≡◌ {A = ℕ} 0 1 = cc in omega arith)
compare_is (TakeTest r) e = absurd (let z : ◌≡◌ {A = ℕ} 0 1 = cc in omega arith)
compare_is (TakeWord r t j) e = absurd (let z : ◌≡◌ {A = ℕ} 0 1 = cc in omega arith)
compare_is (TakeFinish r t) e = absurd (let z : ◌≡◌ {A = ℕ} 0 1 = cc in omega arith)
compare_is StealRead e = absurd (let z : ◌≡◌ {A = ℕ} 0 1 = cc in omega arith)
compare_is (StealTail h) e = absurd (let z : ◌≡◌ {A = ℕ} 0 1 = cc in omega arith)
compare_is (StealTest r) e = absurd (let z : ◌≡◌ {A = ℕ} 0 1 = cc in omega arith)
compare_is (StealNote r) e = absurd (let z : ◌≡◌ {A = ℕ} 0 1 = cc in omega arith)
compare_is (StealWord r k t j) e = absurd (let z : ◌≡◌ {A = ℕ} 0 1 = cc in omega arith)
compare_is (StealNext r t) e = absurd (let z : ◌≡◌ {A = ℕ} 0 1 = cc in omega arith)
compare_is (StealCompare r i t) e = (r, i, t, refl)

not_refused : (a : Answer) → a ≡ GoesOn → (r : Refusal) → a ≡ Refused r → ⊥
not_refused a e r q = let z : ◌≡◌ {A = ℕ} 0 1 = cc in omega arith

of_step : (s : Played) (i : ℕ) → s.call ≡ step i → line_of s ≡ line_at s.before.bench.workers i
of_step s i e = ap (λ (c : Call). line_at s.before.bench.workers (worker_of c)) e

pub ev_line1 : (i : ℕ) (s : Played) → event_at s ≡ line_1 i → Line1 i s
ev_line1 i s e = go (first_is (line_of s) T.1)
  where
    T : (s.call ≡ step i) × (is_line_1 (line_of s) ≡ true) × (s.answer ≡ GoesOn)
    T = told s (line_1 i) e

    go : (line_of s ≡ TakeRead) ⊎ (line_of s ≡ StealRead) → Line1 i s
    go (inl q) = inl (T.0, sym (of_step s i T.0) ∙ q, not_refused s.answer T.2)
    go (inr q) = inr (T.0, sym (of_step s i T.0) ∙ q, not_refused s.answer T.2)

-- a step is refused, or answers what its line answers
abbrev Stepped : Room → World → ℕ → Answer → Type 0
Stepped ρ W i a = ((r : Refusal) × (a ≡ Refused r)) ⊎ (a ≡ (effect_of ρ W i).answer)

step_answer : (ρ : Room) (W : World) (i : ℕ) → Stepped ρ W i (call_in ρ W (step i)).answer
step_answer ρ W i = step_by (λ (D : Outcome). Stepped ρ W i D.answer) W (λ r l. inl (r, refl)) ρ i (λ M. inr refl)

goes_take : (ρ : Room) (κ : Kind) (w ω : ℕ) (q : Queue) (m : List ℕ) (i : ℕ) (l : Line) → l ≡ TakeRead → (line_step ρ κ w ω q m i l).answer ≡ GoesOn
unfolding line_step
goes_take ρ κ w ω q m i l e = rw e

goes_steal : (ρ : Room) (κ : Kind) (w ω : ℕ) (q : Queue) (m : List ℕ) (i : ℕ) (l : Line) → l ≡ StealRead → (line_step ρ κ w ω q m i l).answer ≡ GoesOn
unfolding line_step
goes_steal ρ κ w ω q m i l e = rw e

take_goes : (ρ : Room) (W : World) (i : ℕ) → line_at W.bench.workers i ≡ TakeRead → (effect_of ρ W i).answer ≡ GoesOn
take_goes ρ W zero e = goes_take ρ _ _ _ _ _ 0 _ e
take_goes ρ W (suc i) e = goes_take ρ _ _ _ _ _ (suc i) _ e

steal_goes : (ρ : Room) (W : World) (i : ℕ) → line_at W.bench.workers i ≡ StealRead → (effect_of ρ W i).answer ≡ GoesOn
steal_goes ρ W zero e = goes_steal ρ _ _ _ _ _ 0 _ e
steal_goes ρ W (suc i) e = goes_steal ρ _ _ _ _ _ (suc i) _ e

accepted_is : (ρ : Room) (W : World) (i : ℕ) (a b : Answer) → (effect_of ρ W i).answer ≡ b
    → ((r : Refusal) → a ≡ Refused r → ⊥) → Stepped ρ W i a → a ≡ b
accepted_is ρ W i a b e n (inl (r, q)) = absurd (n r q)
accepted_is ρ W i a b e n (inr q) = q ∙ e

line1_is : (i : ℕ) (s : Played) (l : Line) → is_line_1 l ≡ true → s.call ≡ step i → line_at s.before.bench.workers i ≡ l → s.answer ≡ GoesOn → event_at s ≡ line_1 i
line1_is i s l f ec el ea =
    ap (λ (c : Call). event_in s.before c s.answer) ec
    ∙ ap (event_of s.before.bench.words s.before.bench.delayed s.before.bench.waiting.count (step i) (line_at s.before.bench.workers i)) ea
    ∙ ap (λ (x : Line). cond (is_line_1 x) (line_1 i) (cond (is_compare x) (failed_compare i) quiet)) el
    ∙ ap (λ (x : Bool). cond x (line_1 i) (cond (is_compare l) (failed_compare i) quiet)) f

pub line1_ev : (i : ℕ) (s : Played) → True s → Line1 i s → event_at s ≡ line_1 i
line1_ev i s (ρ, t) (inl (ec, el, n)) =
    line1_is i s TakeRead refl ec el
    (accepted_is ρ s.before i s.answer GoesOn (take_goes ρ s.before i el) n (subst (Stepped ρ s.before i) (sym (t ∙ ap (λ (c : Call). (call_in ρ s.before c).answer) ec)) (step_answer ρ s.before i)))
line1_ev i s (ρ, t) (inr (ec, el, n)) =
    line1_is i s StealRead refl ec el
    (accepted_is ρ s.before i s.answer GoesOn (steal_goes ρ s.before i el) n (subst (Stepped ρ s.before i) (sym (t ∙ ap (λ (c : Call). (call_in ρ s.before c).answer) ec)) (step_answer ρ s.before i)))

-- compares
compares_is : (i : ℕ) (s : Played) → s.call ≡ step i → is_compare (line_of s) ≡ true → ((r : Refusal) → s.answer ≡ Refused r → ⊥) → Compares i s
compares_is i s ec f n =
    let C = compare_is (line_of s) f in
    (C.0, C.1, C.2, (ec, sym (of_step s i ec) ∙ C.3, n))

out_not_refused : (a : Answer) (i : ℕ) (t : Task) → a ≡ HandedOut i t → (r : Refusal) → a ≡ Refused r → ⊥
out_not_refused a i t e r q = let z : ◌≡◌ {A = ℕ} 0 1 = cc in omega arith

pub missed_compares : (i : ℕ) (s : Played) → event_at s ≡ failed_compare i → Compares i s
missed_compares i s e = let T = told s (failed_compare i) e in compares_is i s T.0 T.1 (not_refused s.answer T.2)

pub stolen_compares : (k : ℕ) (t : Task) (s : Played) → event_at s ≡ handed_out (suc k) t → Compares (suc k) s
stolen_compares k t s e =
    let T = told s (handed_out (suc k) t) e in
    compares_is (suc k) s T.2 T.3 (out_not_refused s.answer T.0 t T.1)

-- how many puts come to memory
done_go : (c : Call) (l : Line) → finishes_put (event_of_going_on c l) ≡ 0
done_go (begin i op) l = refl
done_go (drop_link i) l = refl
done_go (ask i) l = refl
done_go (drop_ask i) l = refl
done_go drain l = refl
done_go (step i) l = go (is_line_1 l) (is_compare l)
  where
    go : (x y : Bool) → finishes_put (cond x (line_1 i) (cond y (failed_compare i) quiet)) ≡ 0
    go true y = refl
    go false true = refl
    go false false = refl

done_begin : (ω : ℕ) (c : Call) (n : ℕ) → finishes_put (event_of_begin ω c n) ≡ 0
done_begin ω (begin zero (Put p)) n = refl
done_begin ω (begin (suc k) (Put p)) n = refl
done_begin ω (begin i Take) n = refl
done_begin ω (begin i Steal) n = refl
done_begin ω (begin i Commit) n = refl
done_begin ω (step i) n = refl
done_begin ω (drop_link i) n = refl
done_begin ω (ask i) n = refl
done_begin ω (drop_ask i) n = refl
done_begin ω drain n = refl

nothing : (δ : Bool) → ◌≡◌ {A = ℕ} 0 (when δ then 0 else 0)
unfolding when◌then◌else◌
nothing true = refl
nothing false = refl

done_is : (ω : ℕ) (δ : Bool) (y : ℕ) (c : Call) (l : Line) (a : Answer) → finishes_put (event_of ω δ y c l a) ≡ (when δ then 0 else finishes a)
unfolding when◌then◌else◌
done_is ω δ y c l Accepted = nothing δ
done_is ω δ y c l (Numbered n) = done_begin ω c n ∙ nothing δ
done_is ω δ y c l GoesOn = done_go c l ∙ nothing δ
done_is ω true y c l (Finished i t) = refl
done_is ω false y c l (Finished i t) = refl
done_is ω δ y c l (HandedOut i t) = let r = out_is c l t in ap finishes_put r.1 ∙ nothing δ
done_is ω δ y c l (Empty i) = nothing δ
done_is ω δ y c l (Full i t) = nothing δ
done_is ω δ y c l (Grown i) = nothing δ
done_is ω δ y c l (Refused r) = nothing δ

done_drain : (κ : Kind) (ω : ℕ) (q : Queue) (m : List ℕ) (s : Store) (x : Bool) → finishes_put (cond x quiet (event_of_drain κ ω q m s)) ≡ (when x then 0 else of_put s)
unfolding when◌then◌else◌
done_drain κ ω q m s true = refl
done_drain κ ω q m (StoreWord b s j x) false = refl
done_drain κ ω q m (StoreNote k) false = refl
done_drain κ ω q m (StorePut r) false = refl
done_drain κ ω q m (StoreOut r) false = refl
done_drain κ ω q m (StoreHead i) false = refl
done_drain κ ω q m (StoreTail i) false = refl

done_in : (W : World) (c : Call) (a : Answer) → finishes_put (event_in W c a) ≡ arrives_as W c a
done_in W (begin i op) a = done_is W.bench.words W.bench.delayed W.bench.waiting.count (begin i op) (line_at W.bench.workers i) a
done_in W (step i) a = done_is W.bench.words W.bench.delayed W.bench.waiting.count (step i) _ a
done_in W (drop_link i) a = done_is W.bench.words W.bench.delayed W.bench.waiting.count (drop_link i) (line_at W.bench.workers i) a
done_in W (ask i) a = done_is W.bench.words W.bench.delayed W.bench.waiting.count (ask i) (line_at W.bench.workers i) a
done_in W (drop_ask i) a = done_is W.bench.words W.bench.delayed W.bench.waiting.count (drop_ask i) (line_at W.bench.workers i) a
done_in W drain a = done_drain _ _ W.bench.queue _ (oldest W.bench.waiting) (is_refused a)

puts_is : (T : List Played) → finished_puts (events T) ≡ puts T
puts_is [] = refl
puts_is (s ∷ T) = omega (arith, puts_is T, done_in s.before s.call s.answer)

-- how many stores are put down, with delayed stores
abbrev pub drain_sum : List Event → ℕ
drain_sum [] = 0
drain_sum (e ∷ l) = drain_sum l + drain_of_lem e

events_drop : (T : List Played) (n : ℕ) → drop n (events T) ≡ events (drop n T)
events_drop T zero = refl
events_drop [] (suc n) = refl
events_drop (s ∷ T) (suc n) = events_drop T n

events_take : (T : List Played) (n : ℕ) → take n (events T) ≡ events (take n T)
events_take T zero = refl
events_take [] (suc n) = refl
events_take (s ∷ T) (suc n) = ap (λ (l : List Event). event_at s ∷ l) (events_take T n)

pub between_is : (T : List Played) (l j : ℕ) → finished_puts (events_between l j (events T)) ≡ puts (between l j T)
between_is T l j =
    ap (λ (x : List Event). finished_puts (take (j - suc l) x)) (events_drop T (suc l)) ∙ ap finished_puts (events_take (drop (suc l) T) (j - suc l))
    ∙ puts_is (between l j T)

still_is : (ω y : ℕ) (c : Call) (l : Line) (a : Answer) → drain_of_lem (event_of ω true y c l a) ≡ 0
still_is ω y c l Accepted = refl
still_is ω y (begin zero (Put p)) l (Numbered n) = refl
still_is ω y (begin (suc k) (Put p)) l (Numbered n) = refl
still_is ω y (begin i Take) l (Numbered n) = refl
still_is ω y (begin i Steal) l (Numbered n) = refl
still_is ω y (begin i Commit) l (Numbered n) = refl
still_is ω y (step i) l (Numbered n) = refl
still_is ω y (drop_link i) l (Numbered n) = refl
still_is ω y (ask i) l (Numbered n) = refl
still_is ω y (drop_ask i) l (Numbered n) = refl
still_is ω y drain l (Numbered n) = refl
still_is ω y (begin i op) l GoesOn = refl
still_is ω y (drop_link i) l GoesOn = refl
still_is ω y (ask i) l GoesOn = refl
still_is ω y (drop_ask i) l GoesOn = refl
still_is ω y drain l GoesOn = refl
still_is ω y (step i) l GoesOn = go (is_line_1 l) (is_compare l)
  where
    go : (x z : Bool) → drain_of_lem (cond x (line_1 i) (cond z (failed_compare i) quiet)) ≡ 0
    go true z = refl
    go false true = refl
    go false false = refl
still_is ω y c l (Finished i t) = refl
still_is ω y c l (HandedOut i t) = let r = out_is c l t in ap drain_of_lem r.1
still_is ω y c l (Empty i) = refl
still_is ω y c l (Full i t) = refl
still_is ω y c l (Grown i) = refl
still_is ω y c l (Refused r) = refl

drain_one : (κ : Kind) (ω : ℕ) (q : Queue) (m : List ℕ) (s : Store) (x : Bool) → drain_of_lem (cond x quiet (event_of_drain κ ω q m s)) ≡ (when x then 0 else 1)
unfolding when◌then◌else◌
drain_one κ ω q m s true = refl
drain_one κ ω q m (StoreWord b s j x) false = refl
drain_one κ ω q m (StoreNote k) false = refl
drain_one κ ω q m (StorePut r) false = refl
drain_one κ ω q m (StoreOut r) false = refl
drain_one κ ω q m (StoreHead i) false = refl
drain_one κ ω q m (StoreTail i) false = refl

drain_in_lem : (W : World) (c : Call) (a : Answer) → W.bench.delayed ≡ true → drain_of_lem (event_in W c a) ≡ drains_as c a
drain_in_lem W (begin i op) a e = ap (λ (δ : Bool). drain_of_lem (event_of W.bench.words δ W.bench.waiting.count (begin i op) (line_at W.bench.workers i) a)) e ∙ still_is _ _ (begin i op) (line_at W.bench.workers i) a
drain_in_lem W (step i) a e = ap (λ (δ : Bool). drain_of_lem (event_of W.bench.words δ W.bench.waiting.count (step i) (line_at W.bench.workers i) a)) e ∙ still_is W.bench.words _ (step i) _ a
drain_in_lem W (drop_link i) a e = ap (λ (δ : Bool). drain_of_lem (event_of W.bench.words δ W.bench.waiting.count (drop_link i) (line_at W.bench.workers i) a)) e ∙ still_is W.bench.words _ (drop_link i) (line_at W.bench.workers i) a
drain_in_lem W (ask i) a e = ap (λ (δ : Bool). drain_of_lem (event_of W.bench.words δ W.bench.waiting.count (ask i) (line_at W.bench.workers i) a)) e ∙ still_is W.bench.words _ (ask i) (line_at W.bench.workers i) a
drain_in_lem W (drop_ask i) a e = ap (λ (δ : Bool). drain_of_lem (event_of W.bench.words δ W.bench.waiting.count (drop_ask i) (line_at W.bench.workers i) a)) e ∙ still_is W.bench.words _ (drop_ask i) (line_at W.bench.workers i) a
drain_in_lem W drain a e = drain_one _ _ W.bench.queue _ (oldest W.bench.waiting) (is_refused a)

-- all calls of the list have delayed stores
abbrev pub Delayed : List Played → Type 0
Delayed [] = Unit {0}
Delayed (s ∷ T) = (s.before.bench.delayed ≡ true) × Delayed T

delayed_take : (T : List Played) (n : ℕ) → Delayed T → Delayed (take n T)
delayed_take T zero D = tt
delayed_take [] (suc n) D = tt
delayed_take (s ∷ T) (suc n) D = (D.0, delayed_take T n D.1)

delayed_drop : (T : List Played) (n : ℕ) → Delayed T → Delayed (drop n T)
delayed_drop T zero D = D
delayed_drop [] (suc n) D = tt
delayed_drop (s ∷ T) (suc n) D = delayed_drop T n D.1

pub delayed_all : (ts : List Turn) (W : World) → W.bench.delayed ≡ true → Delayed (played_in W ts)
unfolding played_in
delayed_all [] W e = tt
delayed_all (others m ∷ ts) W e = delayed_all ts (storing W m) e
delayed_all (own ρ c ∷ ts) W e = (e, delayed_all ts (call_in ρ W c).world ((call_like ρ W c).delayed ∙ e))

drains_is : (T : List Played) → Delayed T → drain_sum (events T) ≡ drains T
drains_is [] D = refl
drains_is (s ∷ T) D = omega (arith, drains_is T D.1, drain_in_lem s.before s.call s.answer D.0)

pub drained_is : (T : List Played) (l j : ℕ) → Delayed T → drain_sum (events_between l j (events T)) ≡ drains (between l j T)
drained_is T l j D =
    ap (λ (x : List Event). drain_sum (take (j - suc l) x)) (events_drop T (suc l)) ∙ ap drain_sum (events_take (drop (suc l) T) (j - suc l))
    ∙ drains_is (between l j T) (delayed_take (drop (suc l) T) (j - suc l) (delayed_drop T (suc l) D))

-- attempts
pub ev_attempt : (ts : List Turn) (W : World) (i l j : ℕ) → EventLine1 (events (played_in W ts)) i l j → Attempt (played_in W ts) i l j
ev_attempt ts W i l j L =
    record {
      before = L.before;
      line1 = at_map (played_in W ts) l (λ s. event_at s ≡ line_1 i) (Line1 i) (ev_line1 i) (from_ev (played_in W ts) l (line_1 i) L.here);
      newest = λ k a b x. L.newest k a b (to_ev (played_in W ts) k (line_1 i) (at_true ts W k (Line1 i) (λ s. event_at s ≡ line_1 i) (line1_ev i) x));
    }

pub few_ev : (ts : List Turn) (W : World) → FewPutsIn W.bench.kind (tag_bits W.bench) (played_in W ts) → EventFew W.bench.kind (tag_bits W.bench) (events (played_in W ts))
few_ev ts W f i l j c L =
    subst (Few W.bench.kind (tag_bits W.bench)) (sym (between_is (played_in W ts) l j)) (f i l j (go c) (ev_attempt ts W i l j L))
  where
    stolen : (i : ℕ) (t : Task) → 0 < i → EventAt (events (played_in W ts)) j (handed_out i t) → At (played_in W ts) j (Compares i)
    stolen zero t z a = absurd (omega arith)
    stolen (suc k) t z a = at_map (played_in W ts) j (λ s. event_at s ≡ handed_out (suc k) t) (Compares (suc k)) (stolen_compares k t) (from_ev (played_in W ts) j (handed_out (suc k) t) a)

    go : EventCompares (events (played_in W ts)) j i → At (played_in W ts) j (Compares i)
    go (inl a) = at_map (played_in W ts) j (λ s. event_at s ≡ failed_compare i) (Compares i) (missed_compares i) (from_ev (played_in W ts) j (failed_compare i) a)
    go (inr (t, z, a)) = stolen i t z a
