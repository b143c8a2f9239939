-- The numbers of puts that end, finished or FULL, rise along every list: while a put is open its number is one of the used
-- ones, and the next put to begin has a larger one.
use mathlib.Core.Path.{◌≡◌, refl, sym, subst}
use mathlib.Core.Bool.{Bool, true, false, true≢false}
use mathlib.Core.Logic.{◌⊎◌, inl, inr, ◌≢◌}
use mathlib.Core.List.{List, [], ◌∷◌}
use Prim.Native.Nat.{ℕ, zero, suc, ◌+◌, ◌-◌, ◌≤◌, ◌<◌}
use native.Mathlib.Omega.{arith}
use lib.Dec.{eqb}
use lib.ListN.{set}
use Rattle.model.specs.declared.Room.{Room}
use Rattle.model.specs.declared.Kind.{Kind}
use Rattle.model.specs.declared.Kind.TheVariants.{Lifo, Fifo, Deque}
use Rattle.model.specs.declared.Task.{Task}
use Rattle.model.specs.declared.Anchor.{Anchor}
use Rattle.model.specs.declared.Growth.{Growth}
use Rattle.model.specs.declared.Growth.TheVariants.{ForPut, ForCommit}
use Rattle.model.specs.declared.Line.{Line}
use Rattle.model.specs.declared.Line.TheVariants.{Idle, PutRead, PutTail, PutTest, PutWord, PutFinish, Claim, Note, Copy, Publish, TakeRead, TakeTail, TakeTest, TakeWord, TakeFinish, StealRead, StealTail, StealTest, StealNote, StealWord, StealNext, StealCompare}
use Rattle.model.specs.declared.Queue.{Queue}
use Rattle.model.specs.declared.Operation.{Operation}
use Rattle.model.specs.declared.Operation.TheVariants.{Put, Take, Steal, Commit}
use Rattle.model.specs.declared.Answer.{Answer}
use Rattle.model.specs.declared.Answer.TheVariants.{Accepted, Numbered, GoesOn, Finished, HandedOut, Empty, Full, Refused, Grown}
use Rattle.model.specs.Tests.{when◌then◌else◌}
use Rattle.model.specs.Tasks.{task}
use Rattle.model.proofs.Tasks.{first_number}
use Rattle.model.specs.Answers.{entry_of}
use Rattle.model.specs.Figures.{is_full, is_empty, put_read, take_read, steal_read, note, steal_last}
use Rattle.model.specs.Lines.{Effect, size, fits, succeeds, copy_on, put_on, take_on, steal_on, line_step}
use Rattle.model.specs.World.{World, Outcome, tag_bits, line_at}
use Rattle.model.specs.Calls.{used_by, first_line, begin_answer, begun, Call, call_in}
use Rattle.model.specs.Run.{Played}
use Rattle.theorems.specs.Demand3.{At, finishes}
use Rattle.theorems.proofs.Shape.{ThiefShape}
use Rattle.theorems.proofs.CommitsGrow.{commit_fits, commit_own}
use Rattle.theorems.proofs.Valid.{thieves, Whole}
use Rattle.theorems.proofs.Directory.{Admits}
use Rattle.theorems.proofs.Cases.{effect_of, MayBegin, MayStep, step_to, call_by}
use Rattle.theorems.proofs.Company.{Turn, others, own, played_in, InCompany}
use Rattle.theorems.proofs.WholeRun.{idle_is, line_same, line_other, not_thief, not_owner, in_crew, call_whole, storing, others_whole}
use Rattle.theorems.proofs.Fresh.{Started}

-- the call ends a put, with an entry of kind 1 or 4 and the number n
abbrev pub EndsPut : ℕ → Played → Type 0
EndsPut n s = (((entry_of s.answer).kind ≡ 1) ⊎ ((entry_of s.answer).kind ≡ 4)) × ((entry_of s.answer).task.number ≡ n)

-- the number of the put that the array grows for, and of the put that is open at a line; d if none is
abbrev pub open_number : Growth → ℕ → ℕ
open_number (ForPut t) d = t.number
open_number ForCommit d = d

abbrev pub open_put : Line → ℕ → ℕ
open_put Idle d = d
open_put (PutRead t) d = t.number
open_put (PutTail t h) d = t.number
open_put (PutTest t r) d = t.number
open_put (PutWord t r j) d = t.number
open_put (PutFinish t r) d = t.number
open_put (Claim g) d = open_number g d
open_put (Note g) d = open_number g d
open_put (Copy g h n k) d = open_number g d
open_put (Publish g) d = open_number g d
open_put TakeRead d = d
open_put (TakeTail h) d = d
open_put (TakeTest r) d = d
open_put (TakeWord r t j) d = d
open_put (TakeFinish r t) d = d
open_put StealRead d = d
open_put (StealTail h) d = d
open_put (StealTest r) d = d
open_put (StealNote r) d = d
open_put (StealWord r k t j) d = d
open_put (StealNext r t) d = d
open_put (StealCompare r e t) d = d

-- a call answers a. Before it the next put to end has number x, after it number y
abbrev pub Next : ℕ → ℕ → Answer → Type 0
Next x y Accepted = x ≤ y
Next x y (Numbered n) = x ≤ y
Next x y GoesOn = x ≤ y
Next x y (Finished i t) = (t.number ≡ x) × (x < y)
Next x y (HandedOut i t) = x ≤ y
Next x y (Empty i) = x ≤ y
Next x y (Full i t) = (t.number ≡ x) × (x < y)
Next x y (Grown i) = x ≤ y
Next x y (Refused r) = x ≤ y

-- with u numbers used the next put to end at the line o has number `open_put o (suc u)`: an open put's number is used
abbrev pub Within : ℕ → Line → Type 0
Within u o = (open_put o u ≤ u) × (open_put o (suc u) ≤ suc u)

-- with u numbers used before it and v after it, a line o is left for o'
abbrev Goes : ℕ → Line → ℕ → Line → Answer → Type 0
Goes u o v o' a = Within v o' × Next (open_put o (suc u)) (open_put o' (suc v)) a

-- A LINE keeps its put open, or ends it
module _ (u : ℕ) where
  abbrev Leaves : Line → Effect → Type 0
  Leaves o E = Goes u o u E.line E.answer

  same_put : (o o' : Line) → Within u o → ((d : ℕ) → open_put o' d ≡ open_put o d) → Goes u o u o' GoesOn
  same_put o o' l e = omega (arith, e u, e (suc u))

  either : (o : Line) (x : Bool) (E E' : Effect) → Leaves o E → Leaves o E' → Leaves o (when x then E else E')
  unfolding when◌then◌else◌
  either o true E E' a b = a
  either o false E E' a b = b

either_line : (d n : ℕ) (x : Bool) (l l' : Line) → open_put l d ≡ n → open_put l' d ≡ n → open_put (when x then l else l') d ≡ n
unfolding when◌then◌else◌
either_line d n true l l' a b = a
either_line d n false l l' a b = b

put_reads : (κ : Kind) (a : Anchor) (t : Task) (d : ℕ) → open_put (put_read κ a t) d ≡ t.number
put_reads Lifo a t d = refl
put_reads Fifo a t d = refl
put_reads Deque a t d = refl

put_notes : (κ : Kind) (z : ℕ) (a : Anchor) (t : Growth) (d : ℕ) → open_put (note κ z a t) d ≡ open_number t d
put_notes Lifo z a t d = either_line d (open_number t d) (eqb z 0) _ _ refl refl
put_notes Fifo z a t d = either_line d (open_number t d) (eqb (a.count - a.head) 0) _ _ refl refl
put_notes Deque z a t d = either_line d (open_number t d) (eqb a.count 0) _ _ refl refl

take_reads : (κ : Kind) (a : Anchor) (d : ℕ) → open_put (take_read κ a) d ≡ d
take_reads Lifo a d = refl
take_reads Fifo a d = refl
take_reads Deque a d = refl

steal_reads : (κ : Kind) (a : Anchor) (d : ℕ) → open_put (steal_read κ a) d ≡ d
steal_reads Lifo a d = refl
steal_reads Fifo a d = refl
steal_reads Deque a d = refl

steal_lasts : (κ : Kind) (r : Anchor) (t : Task) (d : ℕ) → open_put (steal_last κ r t) d ≡ d
steal_lasts Lifo r t d = refl
steal_lasts Fifo r t d = refl
steal_lasts Deque r t d = refl

-- a commit's X1 is left by a claim
fit_leaves : (u : ℕ) (o : Line) (x : Bool) (E E' : Effect) → x ≡ true → Leaves u o E → Leaves u o (when x then E else E')
unfolding when◌then◌else◌
fit_leaves u o true E E' e a = a
fit_leaves u o false E E' e a = absurd (true≢false (sym e))

line_leaves : (ρ : Room) (u : ℕ) (κ : Kind) (w ω : ℕ) (q : Queue) (m : List ℕ) (i : ℕ) (o : Line) → (o ≡ Claim ForCommit → fits ρ ω q ≡ true) → Within u o → Leaves u o (line_step ρ κ w ω q m i o)
unfolding line_step
line_leaves ρ u κ w ω q m i Idle F l = omega arith
line_leaves ρ u κ w ω q m i (PutRead t) F l = same_put u (PutRead t) (put_read κ q.anchor t) l (put_reads κ q.anchor t)
line_leaves ρ u κ w ω q m i (PutTail t h) F l = omega arith
line_leaves ρ u κ w ω q m i (PutTest t r) F l = same_put u (PutTest t r) (when is_full κ (size ω q) r then Claim (ForPut t) else PutWord t r 0) l (λ d. either_line d t.number (is_full κ (size ω q) r) (Claim (ForPut t)) (PutWord t r 0) refl refl)
line_leaves ρ u κ w ω q m i (PutWord t r j) F l = same_put u (PutWord t r j) (put_on ω t r j) l (λ d. either_line d t.number (eqb j ω) (PutFinish t r) (PutWord t r (j + 1)) refl refl)
line_leaves ρ u κ w ω q m i (PutFinish t r) F l = omega arith
line_leaves ρ u κ w ω q m i (Claim (ForPut t)) F l = either u (Claim (ForPut t)) (fits ρ ω q) _ _ (omega arith) (omega arith)
line_leaves ρ u κ w ω q m i (Claim ForCommit) F l = fit_leaves u (Claim ForCommit) (fits ρ ω q) _ _ (F refl) (omega arith)
line_leaves ρ u κ w ω q m i (Note t) F l = same_put u (Note t) (note κ (size ω q) q.anchor t) l (put_notes κ (size ω q) q.anchor t)
line_leaves ρ u κ w ω q m i (Copy t h n k) F l = same_put u (Copy t h n k) (copy_on t h n k) l (λ d. either_line d (open_number t d) (eqb (k + 1) n) (Publish t) (Copy t h n (k + 1)) refl refl)
line_leaves ρ u κ w ω q m i (Publish (ForPut t)) F l = omega arith
line_leaves ρ u κ w ω q m i (Publish ForCommit) F l = omega arith
line_leaves ρ u κ w ω q m i TakeRead F l = same_put u TakeRead (take_read κ q.anchor) l (take_reads κ q.anchor)
line_leaves ρ u κ w ω q m i (TakeTail h) F l = omega arith
line_leaves ρ u κ w ω q m i (TakeTest r) F l = either u (TakeTest r) (is_empty κ r) _ _ (omega arith) (omega arith)
line_leaves ρ u κ w ω q m i (TakeWord r t j) F l =
    same_put u (TakeWord r t j) (take_on ω r _ j) l (λ d. either_line d d (eqb j ω) (TakeFinish r _) (TakeWord r _ (j + 1)) refl refl)
line_leaves ρ u κ w ω q m i (TakeFinish r t) F l = omega arith
line_leaves ρ u κ w ω q m i StealRead F l = same_put u StealRead (steal_read κ q.anchor) l (steal_reads κ q.anchor)
line_leaves ρ u κ w ω q m i (StealTail h) F l = omega arith
line_leaves ρ u κ w ω q m i (StealTest r) F l = either u (StealTest r) (is_empty κ r) _ _ (omega arith) (omega arith)
line_leaves ρ u κ w ω q m i (StealNote r) F l = omega arith
line_leaves ρ u κ w ω q m i (StealWord r k t j) F l =
    same_put u (StealWord r k t j) (steal_on κ ω r k _ j) l (λ d. either_line d d (eqb j ω) (steal_last κ r _) (StealWord r k _ (j + 1)) (steal_lasts κ r _ d) refl)
line_leaves ρ u κ w ω q m i (StealNext r t) F l = omega arith
line_leaves ρ u κ w ω q m i (StealCompare r e t) F l = either u (StealCompare r e t) (succeeds κ q i r) _ _ (omega arith) (omega arith)

-- a thief has no put open, and so ends none
thief_open : (κ : Kind) (w ω : ℕ) (q : Queue) (τ : ℕ) (θ : Line) → ThiefShape κ w ω q τ θ → (d : ℕ) → open_put θ d ≡ d
thief_open κ w ω q τ Idle s d = refl
thief_open κ w ω q τ (PutRead t) s d = absurd s
thief_open κ w ω q τ (PutTail t h) s d = absurd s
thief_open κ w ω q τ (PutTest t r) s d = absurd s
thief_open κ w ω q τ (PutWord t r j) s d = absurd s
thief_open κ w ω q τ (PutFinish t r) s d = absurd s
thief_open κ w ω q τ (Claim t) s d = absurd s
thief_open κ w ω q τ (Note t) s d = absurd s
thief_open κ w ω q τ (Copy t h n k) s d = absurd s
thief_open κ w ω q τ (Publish t) s d = absurd s
thief_open κ w ω q τ TakeRead s d = absurd s
thief_open κ w ω q τ (TakeTail h) s d = absurd s
thief_open κ w ω q τ (TakeTest r) s d = absurd s
thief_open κ w ω q τ (TakeWord r t j) s d = absurd s
thief_open κ w ω q τ (TakeFinish r t) s d = absurd s
thief_open κ w ω q τ StealRead s d = refl
thief_open κ w ω q τ (StealTail h) s d = refl
thief_open κ w ω q τ (StealTest r) s d = refl
thief_open κ w ω q τ (StealNote r) s d = refl
thief_open κ w ω q τ (StealWord r k t j) s d = refl
thief_open κ w ω q τ (StealNext r t) s d = refl
thief_open κ w ω q τ (StealCompare r e t) s d = refl

ends_none : (x y z : ℕ) (a : Answer) → y ≤ x → Next x y a → Next z z a
ends_none x y z Accepted h n = omega arith
ends_none x y z (Numbered m) h n = omega arith
ends_none x y z GoesOn h n = omega arith
ends_none x y z (Finished i t) h n = absurd (omega arith)
ends_none x y z (HandedOut i t) h n = omega arith
ends_none x y z (Empty i) h n = omega arith
ends_none x y z (Full i t) h n = absurd (omega arith)
ends_none x y z (Grown i) h n = omega arith
ends_none x y z (Refused r) h n = omega arith

-- A CALL. The number of the next put to end in a world; an open put's number is used
abbrev pub next : World → ℕ
next W = open_put (line_at W.bench.workers 0) (suc W.bench.used)

abbrev pub OpenUsed : World → Type 0
OpenUsed W = Within W.bench.used (line_at W.bench.workers 0)

abbrev pub Moves : World → Outcome → Type 0
Moves W D = OpenUsed D.world × Next (next W) (next D.world) D.answer

module _ {W : World} (H : Whole W) (J : OpenUsed W) (ρ : Room) (R : Admits ρ W.bench W.store) where
  -- the owner's line becomes x, or stays while a thief's becomes x
  own_moves : (v : ℕ) (x : Line) (a : Answer) → 0 < W.bench.crew → Goes W.bench.used (line_at W.bench.workers 0) v x a
      → Goes W.bench.used (line_at W.bench.workers 0) v (line_at (set W.bench.workers 0 (record { line = x })) 0) a
  own_moves v x a l g =
      subst (λ (o : Line). Goes W.bench.used (line_at W.bench.workers 0) v o a) (sym (line_same W.bench.workers 0 x (in_crew H 0 l))) g

  thief_moves : (k : ℕ) (x : Line) (a : Answer) → ((z : ℕ) → Next z z a)
      → Goes W.bench.used (line_at W.bench.workers 0) W.bench.used (line_at (set W.bench.workers (suc k) (record { line = x })) 0) a
  thief_moves k x a n =
      subst (λ (o : Line). Goes W.bench.used (line_at W.bench.workers 0) W.bench.used o a)
      (sym (line_other W.bench.workers (suc k) 0 x (omega arith))) (J, n _)

  own_begins : (op : Operation) → MayBegin W 0 op
      → Goes W.bench.used Idle (used_by op W.bench.used) (first_line op W.bench.words W.bench.used) (begin_answer op W.bench.used) → Moves W (begun W 0 op)
  own_begins op B g =
      own_moves (used_by op W.bench.used) (first_line op W.bench.words W.bench.used) (begin_answer op W.bench.used) B.member
      (subst (λ (o : Line). Goes W.bench.used o (used_by op W.bench.used) (first_line op W.bench.words W.bench.used) (begin_answer op W.bench.used))
      (sym (idle_is (line_at W.bench.workers 0) B.idle)) g)

  begun_moves : (i : ℕ) (op : Operation) → MayBegin W i op → Moves W (begun W i op)
  begun_moves zero (Put p) B = own_begins (Put p) B (omega (arith, first_number W.bench.words (task (W.bench.used + 1) p)))
  begun_moves (suc k) (Put p) B = not_thief k B.hand
  begun_moves zero Take B = own_begins Take B (omega arith)
  begun_moves (suc k) Take B = not_thief k B.hand
  begun_moves zero Commit B = own_begins Commit B (omega arith)
  begun_moves (suc k) Commit B = not_thief k B.hand
  begun_moves zero Steal B = not_owner B.hand
  begun_moves (suc k) Steal B = thief_moves k StealRead Accepted (omega arith)

  line_of : (i : ℕ) → Within W.bench.used (line_at W.bench.workers i)
      → Leaves W.bench.used (line_at W.bench.workers i) (effect_of ρ W i)
  line_of zero l = line_leaves ρ W.bench.used W.bench.kind (tag_bits W.bench) W.bench.words _ _ 0 (line_at W.bench.workers 0) (commit_fits ρ W H R) l
  line_of (suc k) l = line_leaves ρ W.bench.used W.bench.kind (tag_bits W.bench) W.bench.words W.bench.queue W.store (suc k) (line_at W.bench.workers (suc k)) (λ e. absurd (commit_own W H k e)) l

  thief_ends_none : (k z : ℕ) → Next z z (effect_of ρ W (suc k)).answer
  thief_ends_none k z =
      let θ = thieves W.bench.workers k in
      let e = thief_open _ _ _ W.bench.queue _ θ (H.shape.th k) in
      let L = line_of (suc k) (omega (arith, e W.bench.used, e (suc W.bench.used))) in
      ends_none (open_put θ (suc W.bench.used)) (open_put (effect_of ρ W (suc k)).line (suc W.bench.used)) z (effect_of ρ W (suc k)).answer
      (omega (arith, e (suc W.bench.used), L.0)) L.1

  stepped_moves : (i : ℕ) → MayStep ρ W i → Moves W (step_to ρ W i)
  stepped_moves zero M = own_moves W.bench.used (effect_of ρ W 0).line (effect_of ρ W 0).answer M.member (line_of 0 J)
  stepped_moves (suc k) M = thief_moves k (effect_of ρ W (suc k)).line (effect_of ρ W (suc k)).answer (thief_ends_none k)

  pub call_moves : (c : Call) → Moves W (call_in ρ W c)
  call_moves c = call_by (Moves W) W (λ r l. (J, omega arith)) ρ begun_moves stepped_moves (λ i. (J, omega arith)) (λ some. (J, omega arith)) (λ n A. (J, omega arith)) c

-- A LIST. What ends a put ends the next one, and the next number only rises
pub next_rises : (x y : ℕ) (a : Answer) → Next x y a → finishes a + x ≤ y
next_rises x y Accepted n = omega arith
next_rises x y (Numbered m) n = omega arith
next_rises x y GoesOn n = omega arith
next_rises x y (Finished i t) n = omega arith
next_rises x y (HandedOut i t) n = omega arith
next_rises x y (Empty i) n = omega arith
next_rises x y (Full i t) n = omega arith
next_rises x y (Grown i) n = omega arith
next_rises x y (Refused r) n = omega arith

abbrev Ends : Answer → Type 0
Ends a = ((entry_of a).kind ≡ 1) ⊎ ((entry_of a).kind ≡ 4)

other_kind : (k : ℕ) {A : Type 0} → k ≢ 1 → k ≢ 4 → (k ≡ 1) ⊎ (k ≡ 4) → A
other_kind k a b (inl e) = absurd (a e)
other_kind k a b (inr e) = absurd (b e)

ends_next : (x y : ℕ) (a : Answer) → Next x y a → Ends a → ((entry_of a).task.number ≡ x) × (x < y)
ends_next x y Accepted n e = other_kind 0 (omega arith) (omega arith) e
ends_next x y (Numbered m) n e = other_kind 0 (omega arith) (omega arith) e
ends_next x y GoesOn n e = other_kind 0 (omega arith) (omega arith) e
ends_next x y (Finished i t) n e = n
ends_next x y (HandedOut i t) n e = other_kind 2 (omega arith) (omega arith) e
ends_next x y (Empty i) n e = other_kind 3 (omega arith) (omega arith) e
ends_next x y (Full i t) n e = n
ends_next x y (Grown i) n e = other_kind 5 (omega arith) (omega arith) e
ends_next x y (Refused r) n e = other_kind 0 (omega arith) (omega arith) e

ended_from : (ts : List Turn) (W : World) → Whole W → InCompany W ts → OpenUsed W → (j n : ℕ) → At (played_in W ts) j (EndsPut n) → next W ≤ n
unfolding played_in InCompany
ended_from [] W H C J j n a = absurd a
ended_from (others m ∷ ts) W H (O, C) J j n a = ended_from ts (storing W m) (others_whole H O) C J j n a
ended_from (own ρ c ∷ ts) W H (R, C) J zero n (e, q) = omega (arith, ends_next _ _ (call_in ρ W c).answer (call_moves H J ρ R c).1 e)
ended_from (own ρ c ∷ ts) W H (R, C) J (suc j) n a =
    let M = call_moves H J ρ R c in
    omega (arith, next_rises _ _ (call_in ρ W c).answer M.1, ended_from ts (call_in ρ W c).world (call_whole ρ H R c) C M.0 j n a)

-- THE CLAIM: of two puts that end, the later one has the larger number
pub ended_rise : (ts : List Turn) (W : World) → Whole W → InCompany W ts → OpenUsed W → (i j m n : ℕ) → i < j → At (played_in W ts) i (EndsPut m) → At (played_in W ts) j (EndsPut n) → m < n
unfolding played_in InCompany
ended_rise [] W H C J i j m n l a b = absurd a
ended_rise (others x ∷ ts) W H (O, C) J i j m n l a b = ended_rise ts (storing W x) (others_whole H O) C J i j m n l a b
ended_rise (own ρ c ∷ ts) W H (R, C) J i zero m n l a b = absurd (omega arith)
ended_rise (own ρ c ∷ ts) W H (R, C) J zero (suc j) m n l (e, q) b =
    let M = call_moves H J ρ R c in
    omega (arith, ends_next _ _ (call_in ρ W c).answer M.1 e, ended_from ts (call_in ρ W c).world (call_whole ρ H R c) C M.0 j n b)
ended_rise (own ρ c ∷ ts) W H (R, C) J (suc i) (suc j) m n l a b =
    ended_rise ts (call_in ρ W c).world (call_whole ρ H R c) C (call_moves H J ρ R c).0 i j m n (omega arith) a b

pub started_open : (W : World) → Started W → OpenUsed W
started_open W F = subst (Within W.bench.used) (sym F.idle) (omega arith)
