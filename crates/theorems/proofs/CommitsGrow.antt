-- A commit's X1 finds the words that were set aside.
use mathlib.Core.Path.{◌≡◌, refl, sym, ◌∙◌, ap, subst}
use mathlib.Core.Bool.{Bool, true, false, true≢false}
use mathlib.Core.List.{List, [], ◌∷◌}
use Prim.Native.Nat.{ℕ, zero, suc}
use Rattle.model.specs.declared.Growth.TheVariants.{ForCommit}
use Rattle.model.specs.declared.Line.{Line}
use Rattle.model.specs.declared.Line.TheVariants.{Idle, Claim, Note}
use Rattle.model.specs.declared.Refusal.{Refusal}
use Rattle.model.specs.declared.Answer.TheVariants.{GoesOn, Full, Refused}
use Rattle.model.specs.declared.Room.{Room}
use Rattle.model.specs.Tests.{when◌then◌else◌}
use Rattle.model.specs.Stores.{in_line}
use Rattle.model.specs.Lines.{eff, task_for, fits, line_step}
use Rattle.model.specs.World.{World, Outcome, tag_bits, line_at, is_commit1}
use Rattle.model.specs.Calls.{Call, step, call_in}
use Rattle.model.specs.Run.{Played}
use Rattle.theorems.specs.Demand3.{At, Does}
use Rattle.theorems.specs.Growth.{CommitsGrow}
use Rattle.theorems.proofs.Folds.{laid, words}
use Rattle.theorems.proofs.Cases.{effect_of, step_by}
use Rattle.theorems.proofs.Directory.{Admits}
use Rattle.theorems.proofs.Asides.{aside_fits}
use Rattle.theorems.proofs.Shape.{ThiefShape, tail}
use Rattle.theorems.proofs.Valid.{Whole}
use Rattle.theorems.proofs.WholeRun.{storing, others_whole, call_whole}
use Rattle.theorems.proofs.Company.{Turn, others, own, played_in, InCompany}
use Rattle.theorems.proofs.Fresh.{fresh_started, from_company}

-- the owner at a commit's X1: its array fits
pub commit_fits : (ρ : Room) (W : World) → Whole W → Admits ρ W.bench W.store → line_at W.bench.workers 0 ≡ Claim ForCommit → fits ρ W.bench.words (laid (in_line W.bench.waiting) W.bench.queue) ≡ true
commit_fits ρ W H R e = aside_fits ρ W.bench.words (laid (in_line W.bench.waiting) W.bench.queue) (line_at W.bench.workers 0) W.bench.aside H.aside R.aside (ap is_commit1 e)

-- no thief is at one
pub commit_own : (W : World) → Whole W → (k : ℕ) → line_at W.bench.workers (suc k) ≡ Claim ForCommit → ⊥
commit_own W H k e =
    subst (ThiefShape W.bench.kind (tag_bits W.bench) W.bench.words W.bench.queue (tail W.bench.kind W.bench.queue.anchor)) e (H.shape.th k)

claims_it : (x : Bool) → x ≡ true → (when x then record { claims = true; stores = []; line = Note ForCommit; answer = GoesOn } else eff [] Idle (Full 0 (task_for ForCommit))).answer ≡ GoesOn
unfolding when◌then◌else◌
claims_it true e = refl
claims_it false e = absurd (true≢false (sym e))

goes_on_lem : (ρ : Room) (W : World) → Whole W → Admits ρ W.bench W.store → (i : ℕ) → line_at W.bench.workers i ≡ Claim ForCommit → (effect_of ρ W i).answer ≡ GoesOn
unfolding line_step
goes_on_lem ρ W H R zero e =
    let ss = in_line W.bench.waiting in
    let v = laid ss W.bench.queue in
    let m = words W.bench.words W.bench.queue.arrays ss W.store in
    ap (λ (o : Line). (line_step ρ W.bench.kind (tag_bits W.bench) W.bench.words v m 0 o).answer) e ∙ claims_it (fits ρ W.bench.words v) (commit_fits ρ W H R e)
goes_on_lem ρ W H R (suc k) e = absurd (commit_own W H k e)

step_goes_on : (ρ : Room) (W : World) → Whole W → Admits ρ W.bench W.store → (i : ℕ) → line_at W.bench.workers i ≡ Claim ForCommit → ((r : Refusal) → (call_in ρ W (step i)).answer ≡ Refused r → ⊥) → (call_in ρ W (step i)).answer ≡ GoesOn
step_goes_on ρ W H R i e =
    step_by (λ (D : Outcome). ((r : Refusal) → D.answer ≡ Refused r → ⊥) → D.answer ≡ GoesOn) W (λ r l n. absurd (n r refl)) ρ i (λ M n. goes_on_lem ρ W H R i e)

here : (ρ : Room) (W : World) → Whole W → Admits ρ W.bench W.store → (c : Call) (i : ℕ) → Does i (Claim ForCommit) (record { before = W; call = c; answer = (call_in ρ W c).answer }) → (call_in ρ W c).answer ≡ GoesOn
here ρ W H R c i (x, e, n) =
    ap (λ (c : Call). (call_in ρ W c).answer) x
    ∙ step_goes_on ρ W H R i e (λ r q. n r (ap (λ (c : Call). (call_in ρ W c).answer) x ∙ q))

-- in company, and alone
pub commits_grow_in : (ts : List Turn) (W : World) → Whole W → InCompany W ts → (j i : ℕ) → At (played_in W ts) j (Does i (Claim ForCommit)) → At (played_in W ts) j (λ s. s.answer ≡ GoesOn)
unfolding played_in InCompany
commits_grow_in [] W H C j i a = a
commits_grow_in (others m ∷ ts) W H (O, C) j i a = commits_grow_in ts (storing W m) (others_whole H O) C j i a
commits_grow_in (own ρ c ∷ ts) W H (R, C) zero i a = here ρ W H R c i a
commits_grow_in (own ρ c ∷ ts) W H (R, C) (suc j) i a = commits_grow_in ts (call_in ρ W c).world (call_whole ρ H R c) C j i a

pub commits_grow : CommitsGrow
commits_grow s m l e cs =
    from_company (λ (T : List Played) (X : World). (j i : ℕ) → At T j (Does i (Claim ForCommit)) → At T j (λ s. s.answer ≡ GoesOn)) s m l e
    (λ ts C. commits_grow_in ts _ (fresh_started s m l e).whole C) cs
