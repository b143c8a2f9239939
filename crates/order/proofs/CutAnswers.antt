-- The tasks of a list's answers have no words past the payload's: what a line answers is a task that its worker holds whole.
use mathlib.Core.Path.{◌≡◌, refl, ◌∙◌, subst}
use mathlib.Core.Bool.{Bool, true, false}
use mathlib.Core.Logic.{inl, inr}
use mathlib.Core.List.{List, [], ◌∷◌}
use Prim.Native.Nat.{ℕ, zero, suc, ◌+◌, ◌≤◌}
use Rattle.model.specs.declared.Room.{Room}
use Rattle.model.specs.declared.Kind.{Kind}
use Rattle.model.specs.declared.Growth.TheVariants.{ForPut, ForCommit}
use Rattle.model.specs.declared.Line.{Line}
use Rattle.model.specs.declared.Line.TheVariants.{Idle, PutRead, PutTail, PutTest, PutWord, PutFinish, Claim, Note, Copy, Publish, TakeRead, TakeTail, TakeTest, TakeWord, TakeFinish, StealRead, StealTail, StealTest, StealNote, StealWord, StealNext, StealCompare}
use Rattle.model.specs.declared.Queue.{Queue}
use Rattle.model.specs.declared.Operation.{Operation}
use Rattle.model.specs.declared.Operation.TheVariants.{Put, Take, Steal, Commit}
use Rattle.model.specs.Tests.{when◌then◌else◌}
use Rattle.model.specs.Tasks.{no_task, word_in, gathered, first_words}
use Rattle.model.specs.Figures.{is_empty}
use Rattle.model.specs.Lines.{Effect, fits, succeeds, line_step}
use Rattle.model.specs.World.{World, Outcome, line_at}
use Rattle.model.specs.Calls.{fresh_of, begin_answer, Call, call_in}
use Rattle.model.specs.Run.{Played, played}
use Rattle.theorems.specs.Demand3.{FromFresh}
use Rattle.theorems.proofs.Links.{Held}
use Rattle.theorems.proofs.Valid.{Whole}
use Rattle.theorems.proofs.Cases.{effect_of, call_by}
use Rattle.theorems.proofs.Company.{Turn, others, own, played_in, InCompany}
use Rattle.theorems.proofs.WholeRun.{call_whole, storing, others_whole}
use Rattle.theorems.proofs.SoundRun.{call_like}
use Rattle.theorems.proofs.Fresh.{fresh_started, from_company}
use Rattle.order.proofs.Entries.{Cut, AllCut}

-- no task
none_cut : (n : ℕ) → no_task ≡ first_words n no_task
unfolding gathered word_in
none_cut zero = refl
none_cut (suc zero) = refl
none_cut (suc (suc zero)) = refl
none_cut (suc (suc (suc zero))) = refl
none_cut (suc (suc (suc (suc zero)))) = refl
none_cut (suc (suc (suc (suc (suc n))))) = refl

either : (ω : ℕ) (x : Bool) (E E' : Effect) → Cut ω E.answer → Cut ω E'.answer → Cut ω (when x then E else E').answer
unfolding when◌then◌else◌
either ω true E E' p q = p
either ω false E E' p q = q

line_cut : (ρ : Room) (κ : Kind) (w ω : ℕ) (q : Queue) (m : List ℕ) (i low τ : ℕ) (l : Line) → Held κ w ω q low τ l → Cut ω (line_step ρ κ w ω q m i l).answer
unfolding line_step
line_cut ρ κ w ω q m i low τ Idle s = none_cut (ω + 1)
line_cut ρ κ w ω q m i low τ (PutRead t) s = none_cut (ω + 1)
line_cut ρ κ w ω q m i low τ (PutTail t h) s = none_cut (ω + 1)
line_cut ρ κ w ω q m i low τ (PutTest t r) s = none_cut (ω + 1)
line_cut ρ κ w ω q m i low τ (PutWord t r j) s = none_cut (ω + 1)
line_cut ρ κ w ω q m i low τ (PutFinish t r) (inl s) = s.0.1
line_cut ρ κ w ω q m i low τ (PutFinish t r) (inr s) = absurd s
line_cut ρ κ w ω q m i low τ (Claim (ForPut t)) (inl s) = either ω (fits ρ ω q) _ _ (none_cut (ω + 1)) s.1
line_cut ρ κ w ω q m i low τ (Claim ForCommit) (inl s) = either ω (fits ρ ω q) _ _ (none_cut (ω + 1)) (none_cut (ω + 1))
line_cut ρ κ w ω q m i low τ (Claim t) (inr s) = absurd s
line_cut ρ κ w ω q m i low τ (Note t) s = none_cut (ω + 1)
line_cut ρ κ w ω q m i low τ (Copy t h n k) s = none_cut (ω + 1)
line_cut ρ κ w ω q m i low τ (Publish (ForPut t)) s = none_cut (ω + 1)
line_cut ρ κ w ω q m i low τ (Publish ForCommit) s = none_cut (ω + 1)
line_cut ρ κ w ω q m i low τ TakeRead s = none_cut (ω + 1)
line_cut ρ κ w ω q m i low τ (TakeTail h) s = none_cut (ω + 1)
line_cut ρ κ w ω q m i low τ (TakeTest r) s = either ω (is_empty κ r) _ _ (none_cut (ω + 1)) (none_cut (ω + 1))
line_cut ρ κ w ω q m i low τ (TakeWord r t j) s = none_cut (ω + 1)
line_cut ρ κ w ω q m i low τ (TakeFinish r t) (inl s) = s.2.1
line_cut ρ κ w ω q m i low τ (TakeFinish r t) (inr s) = absurd s
line_cut ρ κ w ω q m i low τ StealRead s = none_cut (ω + 1)
line_cut ρ κ w ω q m i low τ (StealTail h) s = none_cut (ω + 1)
line_cut ρ κ w ω q m i low τ (StealTest r) s = either ω (is_empty κ r) _ _ (none_cut (ω + 1)) (none_cut (ω + 1))
line_cut ρ κ w ω q m i low τ (StealNote r) s = none_cut (ω + 1)
line_cut ρ κ w ω q m i low τ (StealWord r k t j) s = none_cut (ω + 1)
line_cut ρ κ w ω q m i low τ (StealNext r t) s = none_cut (ω + 1)
line_cut ρ κ w ω q m i low τ (StealCompare r e t) (inl s) = absurd s
line_cut ρ κ w ω q m i low τ (StealCompare r e t) (inr s) = either ω (succeeds κ q i r) _ _ s.3.1 (none_cut (ω + 1))

begin_cut : (ω : ℕ) (op : Operation) (u : ℕ) → Cut ω (begin_answer op u)
begin_cut ω (Put p) u = none_cut (ω + 1)
begin_cut ω Take u = none_cut (ω + 1)
begin_cut ω Steal u = none_cut (ω + 1)
begin_cut ω Commit u = none_cut (ω + 1)

call_cut : (ρ : Room) (W : World) → Whole W → (c : Call) → Cut W.bench.words (call_in ρ W c).answer
call_cut ρ W H c =
    call_by (λ (D : Outcome). Cut W.bench.words D.answer) W (λ r l. none_cut _) ρ (λ i op B. begin_cut _ op W.bench.used) (λ i M. step_cut i) (λ i. none_cut _) (λ some. none_cut _) (λ n A. none_cut _) c
  where
    step_cut : (i : ℕ) → Cut W.bench.words (effect_of ρ W i).answer
    step_cut zero = line_cut ρ _ _ _ _ _ 0 _ _ (line_at W.bench.workers 0) (inl H.shape.own.shape)
    step_cut (suc k) = line_cut ρ _ _ _ _ _ (suc k) 0 _ (line_at W.bench.workers (suc k)) (inr (H.shape.th k))

pub run_cut : (ω : ℕ) (ts : List Turn) (W : World) → W.bench.words ≡ ω → Whole W → InCompany W ts → AllCut ω (played_in W ts)
unfolding played_in InCompany
run_cut ω [] W e H C = tt
run_cut ω (others m ∷ ts) W e H (O, C) = run_cut ω ts (storing W m) e (others_whole H O) C
run_cut ω (own ρ c ∷ ts) W e H (R, C) =
    (subst (λ (v : ℕ). Cut v (call_in ρ W c).answer) e (call_cut ρ W H c), run_cut ω ts (call_in ρ W c).world ((call_like ρ W c).words ∙ e) (call_whole ρ H R c) C)

pub answers_cut : FromFresh (λ W. (cs : List Call) → AllCut W.bench.words (played W cs))
answers_cut s m l e cs =
    from_company (λ (T : List Played) (X : World). AllCut (fresh_of s m l).world.bench.words T) s m l e (λ ts C. run_cut _ ts _ refl (fresh_started s m l e).whole C) cs

pub words_le : FromFresh (λ W. W.bench.words ≤ 4)
words_le s m l e = (fresh_started s m l e).whole.words.1
