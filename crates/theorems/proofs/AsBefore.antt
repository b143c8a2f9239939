-- Where stores are not delayed, nothing waits and nothing is drained.
use mathlib.Core.Path.{◌≡◌, refl, ◌∙◌, ap}
use mathlib.Core.Bool.{false}
use mathlib.Core.List.{List, [], ◌∷◌, map}
use Prim.Native.Nat.{ℕ, zero, suc, ◌-◌, ◌≤◌}
use native.Mathlib.Omega.{arith}
use lib.ListN.{take, drop}
use Rattle.model.specs.declared.Task.{Task}
use Rattle.model.specs.declared.Room.{Room}
use Rattle.model.specs.Tests.{when◌then◌else◌}
use Rattle.model.specs.Stores.{landed_all}
use Rattle.model.specs.World.{World, Outcome, memory, owners_view}
use Rattle.model.specs.Calls.{Call, begin, step, drop_link, drain, ask, drop_ask, call_in}
use Rattle.model.specs.Run.{Played}
use Rattle.theorems.specs.Demand3.{At, Finishes, Concerned, waits, drains_as, drains, between, finishes, arrives_as, puts}
use Rattle.theorems.specs.AsBefore.{finished, Undelayed, NothingDelayed}
use Rattle.theorems.proofs.Cases.{drain_by}
use Rattle.theorems.proofs.Valid.{Whole}
use Rattle.theorems.proofs.WholeRun.{storing, others_whole, call_whole}
use Rattle.theorems.proofs.Company.{Turn, others, own, played_in, after_in, InCompany, whole_run}
use Rattle.theorems.proofs.SoundRun.{call_like}
use Rattle.theorems.proofs.Fresh.{fresh_started, from_company}

-- a call of such a queue
pub record AtOnce (s : Played) : Type 0 where
  pub waiting : waits s ≡ 0
  pub drained : drains_as s.call s.answer ≡ 0
  pub arrived : arrives_as s.before s.call s.answer ≡ finishes s.answer

abbrev AllAtOnce : List Played → Type 0
AllAtOnce [] = Unit {0}
AllAtOnce (s ∷ T) = AtOnce s × AllAtOnce T

call_at_once : (ρ : Room) (W : World) (c : Call) → Whole W → W.bench.delayed ≡ false → AtOnce (record { before = W; call = c; answer = (call_in ρ W c).answer })
unfolding when◌then◌else◌
call_at_once ρ W (begin i op) H e = record { waiting = rw e; drained = refl; arrived = rw e }
call_at_once ρ W (step i) H e = record { waiting = rw e; drained = refl; arrived = rw e }
call_at_once ρ W (drop_link i) H e = record { waiting = rw e; drained = refl; arrived = rw e }
call_at_once ρ W (ask i) H e = record { waiting = rw e; drained = refl; arrived = rw e }
call_at_once ρ W (drop_ask i) H e = record { waiting = rw e; drained = refl; arrived = rw e }
call_at_once ρ W drain H e =
    drain_by (λ (D : Outcome). AtOnce (record { before = W; call = drain; answer = D.answer })) W
    (λ r l. record { waiting = rw e; drained = refl; arrived = refl }) ρ (λ some. absurd (omega (arith, H.mode e)))

-- the lists of them, and their parts
stays : (ts : List Turn) (W : World) → W.bench.delayed ≡ false → (after_in W ts).bench.delayed ≡ false
unfolding after_in
stays [] W e = e
stays (others m ∷ ts) W e = stays ts (storing W m) e
stays (own ρ c ∷ ts) W e = stays ts (call_in ρ W c).world ((call_like ρ W c).delayed ∙ e)

all_at_once : (ts : List Turn) (W : World) → Whole W → InCompany W ts → W.bench.delayed ≡ false → AllAtOnce (played_in W ts)
unfolding played_in InCompany
all_at_once [] W H C e = tt
all_at_once (others m ∷ ts) W H (O, C) e = all_at_once ts (storing W m) (others_whole H O) C e
all_at_once (own ρ c ∷ ts) W H (R, C) e = (call_at_once ρ W c H e, all_at_once ts (call_in ρ W c).world (call_whole ρ H R c) C ((call_like ρ W c).delayed ∙ e))

at_once_take : (T : List Played) (n : ℕ) → AllAtOnce T → AllAtOnce (take n T)
at_once_take T zero A = tt
at_once_take [] (suc n) A = tt
at_once_take (s ∷ T) (suc n) A = (A.0, at_once_take T n A.1)

at_once_drop : (T : List Played) (n : ℕ) → AllAtOnce T → AllAtOnce (drop n T)
at_once_drop T zero A = A
at_once_drop [] (suc n) A = tt
at_once_drop (s ∷ T) (suc n) A = at_once_drop T n A.1

-- what is counted in them
no_drains : (T : List Played) → AllAtOnce T → drains T ≡ 0
no_drains [] A = refl
no_drains (s ∷ T) A = omega (arith, no_drains T A.1, A.0.drained)

puts_finished : (T : List Played) → AllAtOnce T → puts T ≡ finished T
puts_finished [] A = refl
puts_finished (s ∷ T) A = omega (arith, puts_finished T A.1, A.0.arrived)

nothing_waits : (T : List Played) (k n : ℕ) (P : Played → Type 0) → AllAtOnce T → At T k P → At T k (λ s. waits s ≤ n)
nothing_waits [] k n P A a = absurd a
nothing_waits (s ∷ T) zero n P A a = omega (arith, A.0.waiting)
nothing_waits (s ∷ T) (suc k) n P A a = nothing_waits T k n P A.1 a

concerns : (T : List Played) (i k l : ℕ) (t : Task) → AllAtOnce T → At T k (Finishes t) → Concerned T i k l
concerns T zero k l t A a = tt
concerns T (suc i) k l t A a = nothing_waits T k (drains (between k l T)) (Finishes t) A a

reads : (W : World) → W.bench.waiting.count ≡ 0 → owners_view W ≡ memory W
unfolding landed_all
reads W e = ap (λ (n : ℕ). landed_all W.bench.words (memory W) (take n W.bench.waiting.stores)) e

-- in company, and alone
pub as_before : (ts : List Turn) (W : World) → Whole W → InCompany W ts → W.bench.delayed ≡ false → Undelayed (played_in W ts) (after_in W ts)
as_before ts W H C e =
    let T = played_in W ts in
    let A = all_at_once ts W H C e in
    let none = (whole_run ts W H C).mode (stays ts W e) in
    record {
      none_wait = none;
      reads_memory = reads (after_in W ts) none;
      none_drained = no_drains T A;
      counted = λ l j. puts_finished (between l j T) (at_once_take _ (j - suc l) (at_once_drop T (suc l) A));
      concerned = λ i k l t a. concerns T i k l t A a;
    }

pub nothing_delayed : NothingDelayed
nothing_delayed s m l e now = from_company Undelayed s m l e (λ ts C. as_before ts _ (fresh_started s m l e).whole C now)
