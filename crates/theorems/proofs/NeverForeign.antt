-- No state reached from fresh is refused 12: every state reached is whole, and a whole state keeps the limits.
use mathlib.Core.Path.{◌≡◌, refl, ap}
use mathlib.Core.Bool.{Bool, true, false}
use mathlib.Core.List.{List, [], ◌∷◌}
use Prim.Native.Nat.{ℕ, zero, suc}
use native.Mathlib.Omega.{arith}
use Rattle.model.specs.declared.Room.{Room}
use Rattle.model.specs.declared.Growth.TheVariants.{ForPut, ForCommit}
use Rattle.model.specs.declared.Kind.{Kind}
use Rattle.model.specs.declared.Line.{Line}
use Rattle.model.specs.declared.Line.TheVariants.{Idle, PutRead, PutTail, PutTest, PutWord, PutFinish, Claim, Note, Copy, Publish, TakeRead, TakeTail, TakeTest, TakeWord, TakeFinish, StealRead, StealTail, StealTest, StealNote, StealWord, StealNext, StealCompare}
use Rattle.model.specs.declared.Queue.{Queue}
use Rattle.model.specs.declared.Operation.{Operation}
use Rattle.model.specs.declared.Operation.TheVariants.{Put, Take, Steal, Commit}
use Rattle.model.specs.declared.Refusal.TheVariants.{ForeignState}
use Rattle.model.specs.declared.Answer.{Answer}
use Rattle.model.specs.declared.Answer.TheVariants.{Refused}
use Rattle.model.specs.Tests.{when◌then◌else◌}
use Rattle.model.specs.Figures.{is_empty}
use Rattle.model.specs.Lines.{Effect, fits, succeeds, line_step}
use Rattle.model.specs.World.{World, Outcome, line_at, owners_view}
use Rattle.model.specs.Limits.{bench_ok, log_ok}
use Rattle.model.specs.Calls.{begin_answer, Call, call_in}
use Rattle.model.specs.Listing.{is_refused}
use Rattle.model.specs.Run.{Played}
use Rattle.theorems.specs.Demand3.{At}
use Rattle.theorems.specs.Corollaries.{NoneForeign}
use Rattle.theorems.proofs.Cases.{effect_of, call_by}
use Rattle.theorems.proofs.Valid.{Whole, own_valid, log_valid}
use Rattle.theorems.proofs.WholeRun.{storing}
use Rattle.theorems.proofs.Company.{Turn, others, own, played_in, after_in, InCompany, whole_run}
use Rattle.theorems.proofs.Alone.{lone_valid, lone_run}
use Rattle.theorems.proofs.Fresh.{fresh_lone, from_company}

-- what a line or an accepted begin answers is no refusal
either : (x : Bool) (E E' : Effect) → is_refused E.answer ≡ false → is_refused E'.answer ≡ false → is_refused (when x then E else E').answer ≡ false
unfolding when◌then◌else◌
either true E E' p q = p
either false E E' p q = q

line_answers : (ρ : Room) (κ : Kind) (w ω : ℕ) (q : Queue) (m : List ℕ) (i : ℕ) (l : Line) → is_refused (line_step ρ κ w ω q m i l).answer ≡ false
unfolding line_step
line_answers ρ κ w ω q m i Idle = refl
line_answers ρ κ w ω q m i (PutRead t) = refl
line_answers ρ κ w ω q m i (PutTail t h) = refl
line_answers ρ κ w ω q m i (PutTest t r) = refl
line_answers ρ κ w ω q m i (PutWord t r j) = refl
line_answers ρ κ w ω q m i (PutFinish t r) = refl
line_answers ρ κ w ω q m i (Claim t) = either (fits ρ ω q) _ _ refl refl
line_answers ρ κ w ω q m i (Note t) = refl
line_answers ρ κ w ω q m i (Copy t h j k) = refl
line_answers ρ κ w ω q m i (Publish (ForPut t)) = refl
line_answers ρ κ w ω q m i (Publish ForCommit) = refl
line_answers ρ κ w ω q m i TakeRead = refl
line_answers ρ κ w ω q m i (TakeTail h) = refl
line_answers ρ κ w ω q m i (TakeTest r) = either (is_empty κ r) _ _ refl refl
line_answers ρ κ w ω q m i (TakeWord r t j) = refl
line_answers ρ κ w ω q m i (TakeFinish r t) = refl
line_answers ρ κ w ω q m i StealRead = refl
line_answers ρ κ w ω q m i (StealTail h) = refl
line_answers ρ κ w ω q m i (StealTest r) = either (is_empty κ r) _ _ refl refl
line_answers ρ κ w ω q m i (StealNote r) = refl
line_answers ρ κ w ω q m i (StealWord r k t j) = refl
line_answers ρ κ w ω q m i (StealNext r t) = refl
line_answers ρ κ w ω q m i (StealCompare r e t) = either (succeeds κ q i r) _ _ refl refl

begin_answers : (op : Operation) (u : ℕ) → is_refused (begin_answer op u) ≡ false
begin_answers (Put p) u = refl
begin_answers Take u = refl
begin_answers Steal u = refl
begin_answers Commit u = refl

abbrev NotForeign : Outcome → Type 0
NotForeign D = D.answer ≡ Refused ForeignState → ⊥

no_refusal : (a : Answer) → is_refused a ≡ false → a ≡ Refused ForeignState → ⊥
no_refusal a p q = let z : ◌≡◌ {A = Bool} (is_refused a) true = ap is_refused q in let y : ◌≡◌ {A = ℕ} 0 1 = cc in omega arith

pub effect_answers : (ρ : Room) (U : World) (i : ℕ) → is_refused (effect_of ρ U i).answer ≡ false
effect_answers ρ U zero = line_answers ρ _ _ _ _ _ 0 (line_at U.bench.workers 0)
effect_answers ρ U (suc k) = line_answers ρ _ _ _ _ _ (suc k) (line_at U.bench.workers (suc k))

pub not_foreign : (ρ : Room) (U : World) (c : Call) → NotForeign (call_in ρ U c)
not_foreign ρ U c =
    call_by NotForeign U (λ r l q. let s : r ≡ ForeignState = cc in l s) ρ (λ i op B. no_refusal _ (begin_answers op U.bench.used)) (λ i M. no_refusal _ (effect_answers ρ U i)) (λ i. no_refusal _ refl) (λ some. no_refusal _ refl) (λ n A. no_refusal _ refl) c

-- in company: each state reached is within the limits of its queue
pub valid_in : (ts : List Turn) (U : World) → Whole U → InCompany U ts → let X = after_in U ts in (bench_ok X.bench X.bench.queue (owners_view X).queue ≡ true) × (log_ok X.bench X.log ≡ true)
valid_in ts U H C = let J = whole_run ts U H C in (own_valid (after_in U ts) J, log_valid (after_in U ts) J)

-- and none of the queue's calls is refused 12 by itself
pub never_in : (ts : List Turn) (U : World) (j : ℕ) → At (played_in U ts) j (λ s. s.answer ≡ Refused ForeignState) → ⊥
unfolding played_in
never_in [] U j a = a
never_in (others m ∷ ts) U j a = never_in ts (storing U m) j a
never_in (own ρ c ∷ ts) U zero a = not_foreign ρ U c a
never_in (own ρ c ∷ ts) U (suc j) a = never_in ts (call_in ρ U c).world j a

pub never_foreign : NoneForeign
never_foreign s m l e cs =
    record {
      valid = lone_valid (lone_run cs _ (fresh_lone s m l e));
      never = from_company (λ (T : List Played) (X : World). (j : ℕ) → At T j (λ s. s.answer ≡ Refused ForeignState) → ⊥) s m l e (λ ts C. never_in ts _) cs;
    }
