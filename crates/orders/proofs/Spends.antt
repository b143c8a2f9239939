-- What a line ends: an operation ends by the step that leaves its worker idle, and only a take's or a steal's end hands out.
use mathlib.Core.Path.{◌≡◌}
use mathlib.Core.Bool.{Bool, true, false}
use mathlib.Core.List.{List}
use Prim.Native.Nat.{ℕ, ◌+◌, ◌≤◌, min}
use native.Mathlib.Omega.{arith}
use borrow.Author.Tests.{eqb-true, eqb-false}
use Rattle.model.specs.declared.Kind.{Kind}
use Rattle.model.specs.declared.Kind.TheVariants.{Lifo, Fifo, Deque}
use Rattle.model.specs.declared.Growth.TheVariants.{ForPut, ForCommit}
use Rattle.model.specs.declared.Room.{Room}
use Rattle.model.specs.declared.Queue.{Queue}
use Rattle.model.specs.declared.Line.{Line}
use Rattle.model.specs.declared.Line.TheVariants.{
  Idle,
  PutRead,
  PutTail,
  PutTest,
  PutWord,
  PutFinish,
  Claim,
  Note,
  Copy,
  Publish,
  TakeRead,
  TakeTail,
  TakeTest,
  TakeWord,
  TakeFinish,
  StealRead,
  StealTail,
  StealTest,
  StealNote,
  StealWord,
  StealNext,
  StealCompare,
}
use Rattle.model.specs.declared.Answer.{Answer}
use Rattle.model.specs.declared.Answer.TheVariants.{Accepted, Numbered, GoesOn, Finished, HandedOut, Empty, Full, Grown, Refused}
use Rattle.model.specs.Tests.{when◌then◌else◌}
use Rattle.model.specs.Lines.{Effect, goes, line_step}
use Rattle.model.specs.World.{World, line_at, stage, is_idle}
use Rattle.model.specs.Calls.{next_effect}

-- 1 for an open operation
abbrev pub busy : Line → ℕ
busy l = min (stage l) 1

pub busy_is : (l : Line) → is_idle l ≡ false → busy l ≡ 1
busy_is l e = omega (arith, eqb-false (stage l) 0 e)

pub idle_is : (l : Line) → is_idle l ≡ true → busy l ≡ 0
idle_is l e = omega (arith, eqb-true (stage l) 0 e)

-- 1 for an open take or steal
abbrev pub opens : Line → ℕ
opens Idle = 0
opens (PutRead t) = 0
opens (PutTail t h) = 0
opens (PutTest t r) = 0
opens (PutWord t r j) = 0
opens (PutFinish t r) = 0
opens (Claim g) = 0
opens (Note g) = 0
opens (Copy g h n k) = 0
opens (Publish g) = 0
opens TakeRead = 1
opens (TakeTail h) = 1
opens (TakeTest r) = 1
opens (TakeWord r t j) = 1
opens (TakeFinish r t) = 1
opens StealRead = 1
opens (StealTail h) = 1
opens (StealTest r) = 1
opens (StealNote r) = 1
opens (StealWord r k t j) = 1
opens (StealNext r t) = 1
opens (StealCompare r e t) = 1

-- 1 for an answer that ends an operation; for one that hands out
abbrev pub ended : Answer → ℕ
ended Accepted = 0
ended (Numbered n) = 0
ended GoesOn = 0
ended (Finished i t) = 1
ended (HandedOut i t) = 1
ended (Empty i) = 1
ended (Full i t) = 1
ended (Grown i) = 1
ended (Refused r) = 0

abbrev pub hands : Answer → ℕ
hands Accepted = 0
hands (Numbered n) = 0
hands GoesOn = 0
hands (Finished i t) = 0
hands (HandedOut i t) = 1
hands (Empty i) = 0
hands (Full i t) = 0
hands (Grown i) = 0
hands (Refused r) = 0

-- a line ends and hands out at most what was open, and leaves no more open than it found
abbrev pub Spends : Line → Effect → Type 0
Spends l E = (ended E.answer + busy E.line ≤ busy l) × (hands E.answer + opens E.line ≤ opens l)

either : (l : Line) (x : Bool) (E F : Effect) → Spends l E → Spends l F → Spends l (when x then E else F)
unfolding when◌then◌else◌
either l true E F e f = e
either l false E F e f = f

-- one of two lines is next
abbrev Keeps : Line → Line → Type 0
Keeps l k = (busy k ≤ busy l) × (opens k ≤ opens l)

next : (l : Line) (x : Bool) (k k' : Line) → Keeps l k → Keeps l k' → Spends l (goes (when x then k else k'))
unfolding when◌then◌else◌
next l true k k' e f = (omega (arith, e), omega (arith, e))
next l false k k' e f = (omega (arith, f), omega (arith, f))

spends : (ρ : Room) (κ : Kind) (w v : ℕ) (q : Queue) (m : List ℕ) (i : ℕ) (l : Line) → Spends l (line_step ρ κ w v q m i l)
unfolding line_step
spends ρ κ w v q m i Idle = (omega arith, omega arith)
spends ρ Lifo w v q m i (PutRead t) = (omega arith, omega arith)
spends ρ Fifo w v q m i (PutRead t) = (omega arith, omega arith)
spends ρ Deque w v q m i (PutRead t) = (omega arith, omega arith)
spends ρ κ w v q m i (PutTail t h) = (omega arith, omega arith)
spends ρ κ w v q m i (PutTest t r) = next (PutTest t r) _ (Claim (ForPut t)) (PutWord t r 0) (omega arith, omega arith) (omega arith, omega arith)
spends ρ κ w v q m i (PutWord t r j) = next (PutWord t r j) _ (PutFinish t r) (PutWord t r (j + 1)) (omega arith, omega arith) (omega arith, omega arith)
spends ρ κ w v q m i (PutFinish t r) = (omega arith, omega arith)
spends ρ κ w v q m i (Claim (ForPut t)) = either (Claim (ForPut t)) _ _ _ (omega arith, omega arith) (omega arith, omega arith)
spends ρ κ w v q m i (Claim ForCommit) = either (Claim ForCommit) _ _ _ (omega arith, omega arith) (omega arith, omega arith)
spends ρ Lifo w v q m i (Note g) = next (Note g) _ (Publish g) (Copy g _ _ 0) (omega arith, omega arith) (omega arith, omega arith)
spends ρ Fifo w v q m i (Note g) = next (Note g) _ (Publish g) (Copy g _ _ 0) (omega arith, omega arith) (omega arith, omega arith)
spends ρ Deque w v q m i (Note g) = next (Note g) _ (Publish g) (Copy g _ _ 0) (omega arith, omega arith) (omega arith, omega arith)
spends ρ κ w v q m i (Copy g h n k) = next (Copy g h n k) _ (Publish g) (Copy g h n (k + 1)) (omega arith, omega arith) (omega arith, omega arith)
spends ρ κ w v q m i (Publish (ForPut t)) = (omega arith, omega arith)
spends ρ κ w v q m i (Publish ForCommit) = (omega arith, omega arith)
spends ρ Lifo w v q m i TakeRead = (omega arith, omega arith)
spends ρ Fifo w v q m i TakeRead = (omega arith, omega arith)
spends ρ Deque w v q m i TakeRead = (omega arith, omega arith)
spends ρ κ w v q m i (TakeTail h) = (omega arith, omega arith)
spends ρ κ w v q m i (TakeTest r) = either (TakeTest r) _ _ _ (omega arith, omega arith) (omega arith, omega arith)
spends ρ κ w v q m i (TakeWord r t j) = next (TakeWord r t j) _ (TakeFinish r _) (TakeWord r _ (j + 1)) (omega arith, omega arith) (omega arith, omega arith)
spends ρ κ w v q m i (TakeFinish r t) = (omega arith, omega arith)
spends ρ Lifo w v q m i StealRead = (omega arith, omega arith)
spends ρ Fifo w v q m i StealRead = (omega arith, omega arith)
spends ρ Deque w v q m i StealRead = (omega arith, omega arith)
spends ρ κ w v q m i (StealTail h) = (omega arith, omega arith)
spends ρ κ w v q m i (StealTest r) = either (StealTest r) _ _ _ (omega arith, omega arith) (omega arith, omega arith)
spends ρ κ w v q m i (StealNote r) = (omega arith, omega arith)
spends ρ Lifo w v q m i (StealWord r k t j) = next (StealWord r k t j) _ (StealCompare r 0 _) (StealWord r k _ (j + 1)) (omega arith, omega arith) (omega arith, omega arith)
spends ρ Fifo w v q m i (StealWord r k t j) = next (StealWord r k t j) _ (StealCompare r 0 _) (StealWord r k _ (j + 1)) (omega arith, omega arith) (omega arith, omega arith)
spends ρ Deque w v q m i (StealWord r k t j) = next (StealWord r k t j) _ (StealNext r _) (StealWord r k _ (j + 1)) (omega arith, omega arith) (omega arith, omega arith)
spends ρ κ w v q m i (StealNext r t) = (omega arith, omega arith)
spends ρ κ w v q m i (StealCompare r e t) = either (StealCompare r e t) _ _ _ (omega arith, omega arith) (omega arith, omega arith)

pub next_spends : (ρ : Room) (W : World) (i : ℕ) → Spends (line_at W.bench.workers i) (next_effect ρ W i)
next_spends ρ W i = spends ρ _ _ _ _ _ i (line_at W.bench.workers i)
