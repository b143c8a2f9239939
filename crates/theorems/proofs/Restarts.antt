-- Restarts are compares that fail; only these leave a thief at its line 1.
use mathlib.Core.Path.{◌≡◌, refl, sym, subst}
use mathlib.Core.Bool.{Bool, true, false, not}
use mathlib.Core.List.{List}
use Prim.Native.Nat.{ℕ, ◌+◌, ◌-◌, ◌≤◌, ◌<◌}
use native.Mathlib.Omega.{arith}
use lib.Dec.{eqb}
use lib.ListN.{length}
use lib.Seq.{get_or-set_same, get_or-set_other}
use borrow.Author.Tests.{eqb-true, eqb-false}
use Rattle.model.specs.declared.Room.{Room}
use Rattle.model.specs.declared.Growth.{Growth}
use Rattle.model.specs.declared.Growth.TheVariants.{ForPut, ForCommit}
use Rattle.model.specs.declared.Kind.{Kind}
use Rattle.model.specs.declared.Kind.TheVariants.{Lifo, Fifo, Deque}
use Rattle.model.specs.declared.Line.{Line}
use Rattle.model.specs.declared.Line.TheVariants.{Idle, PutRead, PutTail, PutTest, PutWord, PutFinish, Claim, Note, Copy, Publish, TakeRead, TakeTail, TakeTest, TakeWord, TakeFinish, StealRead, StealTail, StealTest, StealNote, StealWord, StealNext, StealCompare}
use Rattle.model.specs.declared.Task.{Task}
use Rattle.model.specs.declared.Anchor.{Anchor}
use Rattle.model.specs.declared.Refusal.{Refusal}
use Rattle.model.specs.declared.Refusal.TheVariants.{ForeignState}
use Rattle.model.specs.declared.Answer.TheVariants.{Refused}
use Rattle.model.specs.Tests.{when◌then◌else◌, ◌and◌}
use Rattle.model.specs.Figures.{is_full, is_empty, put_read, take_read, steal_read, note, steal_last}
use Rattle.model.specs.Lines.{Effect, size, fits, succeeds, line_step, fails_compare}
use Rattle.model.specs.World.{World, Outcome, line_at, is_steal1, room_alone}
use Rattle.model.specs.Calls.{one_more, restarts_of, raised, step_in, step}
use Rattle.theorems.specs.Restarts.{RestartsAreFailedCompares, BackToLine1}
use Rattle.theorems.proofs.Cases.{step_by, lone_cases}

-- neither of two lines is a thief's line 1
either : (x : Bool) (a b : Line) → is_steal1 a ≡ false → is_steal1 b ≡ false → is_steal1 (when x then a else b) ≡ false
unfolding when◌then◌else◌
either true a b e f = e
either false a b e f = f

either_left : (x : Bool) (a b : Effect) → is_steal1 a.line ≡ false → is_steal1 b.line ≡ false → is_steal1 (when x then a else b).line ≡ false
unfolding when◌then◌else◌
either_left true a b e f = e
either_left false a b e f = f

put_1 : (κ : Kind) (a : Anchor) (t : Task) → is_steal1 (put_read κ a t) ≡ false
put_1 Lifo a t = refl
put_1 Fifo a t = refl
put_1 Deque a t = refl

take_1 : (κ : Kind) (a : Anchor) → is_steal1 (take_read κ a) ≡ false
take_1 Lifo a = refl
take_1 Fifo a = refl
take_1 Deque a = refl

steal_1 : (κ : Kind) (a : Anchor) → is_steal1 (steal_read κ a) ≡ false
steal_1 Lifo a = refl
steal_1 Fifo a = refl
steal_1 Deque a = refl

noted : (κ : Kind) (z : ℕ) (a : Anchor) (t : Growth) → is_steal1 (note κ z a t) ≡ false
noted Lifo z a t = either (eqb z 0) (Publish t) (Copy t 0 z 0) refl refl
noted Fifo z a t = either (eqb (a.count - a.head) 0) (Publish t) (Copy t a.head (a.count - a.head) 0) refl refl
noted Deque z a t = either (eqb a.count 0) (Publish t) (Copy t a.head a.count 0) refl refl

last : (κ : Kind) (r : Anchor) (t : Task) → is_steal1 (steal_last κ r t) ≡ false
last Lifo r t = refl
last Fifo r t = refl
last Deque r t = refl

-- the compare: back to line 1 where it fails
back : (x : Bool) (a b : Effect) → is_steal1 a.line ≡ false → is_steal1 b.line ≡ true → is_steal1 (when x then a else b).line ≡ not x
unfolding when◌then◌else◌
back true a b e f = e
back false a b e f = f

pub back_to_line_1 : BackToLine1
unfolding line_step
back_to_line_1 ρ κ w ω q m i Idle = refl
back_to_line_1 ρ κ w ω q m i (PutRead t) = put_1 κ q.anchor t
back_to_line_1 ρ κ w ω q m i (PutTail t h) = refl
back_to_line_1 ρ κ w ω q m i (PutTest t r) = either (is_full κ (size ω q) r) (Claim (ForPut t)) (PutWord t r 0) refl refl
back_to_line_1 ρ κ w ω q m i (PutWord t r j) = either (eqb j ω) (PutFinish t r) (PutWord t r (j + 1)) refl refl
back_to_line_1 ρ κ w ω q m i (PutFinish t r) = refl
back_to_line_1 ρ κ w ω q m i (Claim t) = either_left (fits ρ ω q) _ _ refl refl
back_to_line_1 ρ κ w ω q m i (Note t) = noted κ (size ω q) q.anchor t
back_to_line_1 ρ κ w ω q m i (Copy t h n k) = either (eqb (k + 1) n) (Publish t) (Copy t h n (k + 1)) refl refl
back_to_line_1 ρ κ w ω q m i (Publish (ForPut t)) = refl
back_to_line_1 ρ κ w ω q m i (Publish ForCommit) = refl
back_to_line_1 ρ κ w ω q m i TakeRead = take_1 κ q.anchor
back_to_line_1 ρ κ w ω q m i (TakeTail h) = refl
back_to_line_1 ρ κ w ω q m i (TakeTest r) = either_left (is_empty κ r) _ _ refl refl
back_to_line_1 ρ κ w ω q m i (TakeWord r t j) = either (eqb j ω) (TakeFinish r _) (TakeWord r _ (j + 1)) refl refl
back_to_line_1 ρ κ w ω q m i (TakeFinish r t) = refl
back_to_line_1 ρ κ w ω q m i StealRead = steal_1 κ q.anchor
back_to_line_1 ρ κ w ω q m i (StealTail h) = refl
back_to_line_1 ρ κ w ω q m i (StealTest r) = either_left (is_empty κ r) _ _ refl refl
back_to_line_1 ρ κ w ω q m i (StealNote r) = refl
back_to_line_1 ρ κ w ω q m i (StealWord r k t j) = either (eqb j ω) (steal_last κ r _) (StealWord r k _ (j + 1)) (last κ r _) refl
back_to_line_1 ρ κ w ω q m i (StealNext r t) = refl
back_to_line_1 ρ κ w ω q m i (StealCompare r e t) = back (succeeds κ q i r) _ _ refl refl

-- one worker's count raised, or none
pub counted : (ns : List ℕ) (i k : ℕ) (x : Bool) → i < length ns
    → restarts_of (when x then raised ns i else ns) k ≡ (when eqb k i and x then one_more (restarts_of ns k) else restarts_of ns k)
unfolding when◌then◌else◌ ◌and◌
counted ns i k x h = go x (eqb k i) refl
  where
    go : (y b : Bool) → eqb k i ≡ b → restarts_of (when y then raised ns i else ns) k ≡ (when b and y then one_more (restarts_of ns k) else restarts_of ns k)
    go true true e =
        subst (λ (j : ℕ). restarts_of (raised ns i) j ≡ one_more (restarts_of ns j)) (sym (eqb-true k i e))
        (get_or-set_same ns i (one_more (restarts_of ns i)) 0 h)
    go true false e = get_or-set_other ns i k (one_more (restarts_of ns i)) 0 (λ q. absurd (omega (arith, eqb-false k i e, q)))
    go false true e = refl
    go false false e = refl

-- where a step finds any room, and alone
abbrev CountsOf : World → ℕ → ℕ → Outcome → Type 0
CountsOf W i k D =
    ((r : Refusal) → D.answer ≡ Refused r → ⊥)
    → restarts_of D.world.bench.restarts k
    ≡ (when eqb k i and fails_compare W.bench.kind W.bench.queue i (line_at W.bench.workers i)
    then one_more (restarts_of W.bench.restarts k)
    else restarts_of W.bench.restarts k)

pub restarts_in : (ρ : Room) (W : World) (i k : ℕ) → W.bench.crew ≤ length W.bench.restarts → CountsOf W i k (step_in ρ W i)
restarts_in ρ W i k n = step_by (CountsOf W i k) W (λ r l f. absurd (f r refl)) ρ i (λ M f. counted W.bench.restarts i k _ (omega (arith, M.member, n)))

pub restarts_are_failed_compares : RestartsAreFailedCompares
restarts_are_failed_compares W i k n = lone_cases (CountsOf W i k) W (λ f. absurd (f ForeignState refl)) (step i) (restarts_in (room_alone W) W i k n)
