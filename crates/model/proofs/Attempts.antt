-- How a line leaves its attempt: it ends, goes back to line 1, or goes on past it.
use mathlib.Core.Bool.{Bool, true, false, not, true≢false}
use mathlib.Core.List.{List}
use mathlib.Core.Path.{◌≡◌, refl, sym, ap}
use Prim.Native.Nat.{ℕ}
use lib.Dec.{eqb}
use borrow.Author.Tests.{eqb-true}
use Rattle.model.specs.declared.Kind.{Kind}
use Rattle.model.specs.declared.Kind.TheVariants.{Lifo, Fifo, Deque}
use Rattle.model.specs.declared.Anchor.{Anchor}
use Rattle.model.specs.declared.Task.{Task}
use Rattle.model.specs.declared.Growth.TheVariants.{ForPut, ForCommit}
use Rattle.model.specs.declared.Line.{Line}
use Rattle.model.specs.declared.Line.TheVariants.{
  Idle,
  PutRead,
  PutTail,
  PutTest,
  PutWord,
  PutFinish,
  Claim,
  Note,
  Copy,
  Publish,
  TakeRead,
  TakeTail,
  TakeTest,
  TakeWord,
  TakeFinish,
  StealRead,
  StealTail,
  StealTest,
  StealNote,
  StealWord,
  StealNext,
  StealCompare,
}
use Rattle.model.specs.declared.Queue.{Queue}
use Rattle.model.specs.declared.Room.{Room}
use Rattle.model.specs.Tests.{when◌then◌else◌}
use Rattle.model.specs.Figures.{is_empty, steal_read, steal_last}
use Rattle.model.specs.Answers.{ends}
use Rattle.model.specs.Lines.{Effect, fits, holds_link, succeeds, line_step, fails_compare}
use Rattle.model.specs.World.{stage, is_idle, is_steal1, is_past1}

never : {A : Type 0} → false ≡ true → A
never e = absurd (true≢false (sym e))

either : (P : Effect → Type 0) (x : Bool) (E F : Effect) → P E → P F → P (when x then E else F)
unfolding when◌then◌else◌
either P true E F a b = a
either P false E F a b = b

-- an operation that ends leaves its worker idle
abbrev Rests : Effect → Type 0
Rests E = ends E.answer ≡ true → is_idle E.line ≡ true

pub rests : (ρ : Room) (κ : Kind) (w v : ℕ) (q : Queue) (m : List ℕ) (i : ℕ) (l : Line) → Rests (line_step ρ κ w v q m i l)
unfolding line_step
rests ρ κ w v q m i Idle = λ e. refl
rests ρ κ w v q m i (PutRead t) = λ e. never e
rests ρ κ w v q m i (PutTail t h) = λ e. never e
rests ρ κ w v q m i (PutTest t r) = λ e. never e
rests ρ κ w v q m i (PutWord t r j) = λ e. never e
rests ρ κ w v q m i (PutFinish t r) = λ e. refl
rests ρ κ w v q m i (Claim g) = either Rests (fits ρ v q) _ _ (λ e. never e) (λ e. refl)
rests ρ κ w v q m i (Note g) = λ e. never e
rests ρ κ w v q m i (Copy g h n k) = λ e. never e
rests ρ κ w v q m i (Publish (ForPut t)) = λ e. never e
rests ρ κ w v q m i (Publish ForCommit) = λ e. refl
rests ρ κ w v q m i TakeRead = λ e. never e
rests ρ κ w v q m i (TakeTail h) = λ e. never e
rests ρ κ w v q m i (TakeTest r) = either Rests (is_empty κ r) _ _ (λ e. refl) (λ e. never e)
rests ρ κ w v q m i (TakeWord r t j) = λ e. never e
rests ρ κ w v q m i (TakeFinish r t) = λ e. refl
rests ρ κ w v q m i StealRead = λ e. never e
rests ρ κ w v q m i (StealTail h) = λ e. never e
rests ρ κ w v q m i (StealTest r) = either Rests (is_empty κ r) _ _ (λ e. refl) (λ e. never e)
rests ρ κ w v q m i (StealNote r) = λ e. never e
rests ρ κ w v q m i (StealWord r k t j) = λ e. never e
rests ρ κ w v q m i (StealNext r t) = λ e. never e
rests ρ κ w v q m i (StealCompare r e t) = either Rests (succeeds κ q i r) _ _ (λ f. refl) (λ f. never f)

-- past line 1, an attempt that neither ends nor fails its compare stays past it
past_read : (κ : Kind) (a : Anchor) → is_past1 (steal_read κ a) ≡ true
past_read Lifo a = refl
past_read Fifo a = refl
past_read Deque a = refl

past_last : (κ : Kind) (r : Anchor) (t : Task) → is_past1 (steal_last κ r t) ≡ true
past_last Lifo r t = refl
past_last Fifo r t = refl
past_last Deque r t = refl

past_word : (x : Bool) (y z : Line) → is_past1 y ≡ true → is_past1 z ≡ true → is_past1 (when x then y else z) ≡ true
unfolding when◌then◌else◌
past_word true y z e f = e
past_word false y z e f = f

abbrev Stays : Bool → Effect → Type 0
Stays f E = ends E.answer ≡ false → f ≡ false → is_past1 E.line ≡ true

pub stays : (ρ : Room) (κ : Kind) (w v : ℕ) (q : Queue) (m : List ℕ) (i : ℕ) (l : Line) → is_past1 l ≡ true → Stays (fails_compare κ q i l) (line_step ρ κ w v q m i l)
unfolding line_step when◌then◌else◌
stays ρ κ w v q m i Idle p = never p
stays ρ κ w v q m i (PutRead t) p = never p
stays ρ κ w v q m i (PutTail t h) p = never p
stays ρ κ w v q m i (PutTest t r) p = never p
stays ρ κ w v q m i (PutWord t r j) p = never p
stays ρ κ w v q m i (PutFinish t r) p = never p
stays ρ κ w v q m i (Claim (ForPut t)) p = never p
stays ρ κ w v q m i (Claim ForCommit) p = never p
stays ρ κ w v q m i (Note g) p = never p
stays ρ κ w v q m i (Copy g h n k) p = never p
stays ρ κ w v q m i (Publish g) p = never p
stays ρ κ w v q m i TakeRead p = never p
stays ρ κ w v q m i (TakeTail h) p = never p
stays ρ κ w v q m i (TakeTest r) p = never p
stays ρ κ w v q m i (TakeWord r t j) p = never p
stays ρ κ w v q m i (TakeFinish r t) p = never p
stays ρ κ w v q m i StealRead p = never p
stays ρ κ w v q m i (StealTail h) p = λ e f. refl
stays ρ κ w v q m i (StealTest r) p = either (Stays false) (is_empty κ r) _ _ (λ e f. never (sym e)) (λ e f. refl)
stays ρ κ w v q m i (StealNote r) p = λ e f. refl
stays ρ κ w v q m i (StealWord r k t j) p = λ e f. past_word (eqb j v) _ _ (past_last κ r _) refl
stays ρ κ w v q m i (StealNext r t) p = λ e f. refl
stays ρ κ w v q m i (StealCompare r e t) p = compared (succeeds κ q i r) refl
  where
    compared : (x : Bool) → succeeds κ q i r ≡ x → Stays (not (succeeds κ q i r)) (line_step ρ κ w v q m i (StealCompare r e t))
    compared true y = λ a f. never (sym (rw y at a))
    compared false y = λ a f. never (sym (rw y at f))

-- line 1 leads past it
pub starts : (ρ : Room) (κ : Kind) (w v : ℕ) (q : Queue) (m : List ℕ) (i : ℕ) → is_past1 (line_step ρ κ w v q m i StealRead).line ≡ true
unfolding line_step
starts ρ κ w v q m i = past_read κ q.anchor

-- and only line 1 of a steal is at stage 4
pub only_first : (l : Line) → is_steal1 l ≡ true → l ≡ StealRead
only_first Idle e = never e
only_first (PutRead t) e = never e
only_first (PutTail t h) e = never e
only_first (PutTest t r) e = never e
only_first (PutWord t r j) e = never e
only_first (PutFinish t r) e = never e
only_first (Claim (ForPut t)) e = never e
only_first (Claim ForCommit) e = never e
only_first (Note g) e = never e
only_first (Copy g h n k) e = never e
only_first (Publish g) e = never e
only_first TakeRead e = never e
only_first (TakeTail h) e = never e
only_first (TakeTest r) e = never e
only_first (TakeWord r t j) e = never e
only_first (TakeFinish r t) e = never e
only_first StealRead e = refl
only_first (StealTail h) e = never e
only_first (StealTest r) e = never e
only_first (StealNote r) e = never e
only_first (StealWord r k t j) e = never e
only_first (StealNext r t) e = never e
only_first (StealCompare r x t) e = never e

-- an idle worker is not past line 1
pub idle_not : (l : Line) → is_idle l ≡ true → is_past1 l ≡ false
idle_not l e = ap (λ (s : ℕ). eqb s 5) (eqb-true (stage l) 0 e)

-- with its link held no compare fails
pub wins : (κ : Kind) (q : Queue) (i : ℕ) (l : Line) → q.linked ≡ true → holds_link q i ≡ true → fails_compare κ q i l ≡ false
unfolding when◌then◌else◌
wins κ q i Idle a e = refl
wins κ q i (PutRead t) a e = refl
wins κ q i (PutTail t h) a e = refl
wins κ q i (PutTest t r) a e = refl
wins κ q i (PutWord t r j) a e = refl
wins κ q i (PutFinish t r) a e = refl
wins κ q i (Claim g) a e = refl
wins κ q i (Note g) a e = refl
wins κ q i (Copy g h n k) a e = refl
wins κ q i (Publish g) a e = refl
wins κ q i TakeRead a e = refl
wins κ q i (TakeTail h) a e = refl
wins κ q i (TakeTest r) a e = refl
wins κ q i (TakeWord r t j) a e = refl
wins κ q i (TakeFinish r t) a e = refl
wins κ q i StealRead a e = refl
wins κ q i (StealTail h) a e = refl
wins κ q i (StealTest r) a e = refl
wins κ q i (StealNote r) a e = refl
wins κ q i (StealWord r k t j) a e = refl
wins κ q i (StealNext r t) a e = refl
wins κ q i (StealCompare r x t) a e = rw (a, e)
