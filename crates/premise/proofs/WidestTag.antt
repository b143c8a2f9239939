-- At width 16 demand 3 needs no premise: a list finishes at most as many puts as there are numbers, 65,535, and no others come to
-- memory.
use mathlib.Core.Path.{◌≡◌, ap}
use mathlib.Core.Bool.{Bool, true, false}
use mathlib.Core.List.{List, [], ◌∷◌}
use Prim.Native.Nat.{ℕ, zero, suc, ◌+◌, ◌-◌, ◌≤◌}
use native.Mathlib.Omega.{arith}
use lib.Dec.{leb}
use lib.ListN.{take, drop}
use Rattle.model.specs.declared.Kind.{Kind}
use Rattle.model.specs.declared.Kind.TheVariants.{Lifo, Fifo, Deque}
use Rattle.model.specs.declared.Line.{Line}
use Rattle.model.specs.Tests.{when◌then◌else◌}
use Rattle.model.specs.World.{World, tag_bits}
use Rattle.model.specs.Calls.{call_in}
use Rattle.model.specs.Run.{Played}
use Rattle.theorems.specs.Demand3.{waits, drains, finishes, puts, Few, FewPutsIn, Sound}
use Rattle.theorems.specs.Corollaries.{landed}
use Rattle.theorems.specs.AsBefore.{finished}
use Rattle.premise.specs.Premise.{WidestTag}
use Rattle.theorems.proofs.Valid.{Whole}
use Rattle.theorems.proofs.WholeRun.{storing, others_whole, call_whole}
use Rattle.theorems.proofs.Company.{Turn, others, own, played_in, after_in, InCompany, whole_run}
use Rattle.theorems.proofs.Fresh.{Started, fresh_started, from_company}
use Rattle.order.proofs.EndedPuts.{open_put, next, OpenUsed, call_moves, next_rises, started_open}
use Rattle.theorems.proofs.NothingLost.{sound_in}
use Rattle.theorems.proofs.SamePuts.{same_puts_in}
use Rattle.premise.proofs.LinkedKinds.{few_linked}

-- a list finishes no more puts than it uses numbers
run_count : (ts : List Turn) (U : World) → Whole U → InCompany U ts → OpenUsed U → finished (played_in U ts) + next U ≤ suc (after_in U ts).bench.used
unfolding played_in after_in InCompany
run_count [] U H C J = omega arith
run_count (others m ∷ ts) U H (O, C) J = run_count ts (storing U m) (others_whole H O) C J
run_count (own ρ c ∷ ts) U H (R, C) J =
    let M = call_moves H J ρ R c in
    omega (arith, next_rises _ _ (call_in ρ U c).answer M.1, run_count ts (call_in ρ U c).world (call_whole ρ H R c) C M.0)

pub puts_drop : (T : List Played) (n : ℕ) → puts (drop n T) ≤ puts T
puts_drop T zero = omega arith
puts_drop [] (suc n) = omega arith
puts_drop (s ∷ T) (suc n) = omega (arith, puts_drop T n)

pub puts_take : (T : List Played) (n : ℕ) → puts (take n T) ≤ puts T
puts_take T zero = omega arith
puts_take [] (suc n) = omega arith
puts_take (s ∷ T) (suc n) = omega (arith, puts_take T n)

-- those that come to memory have finished
landed_finished : (T : List Played) → landed T ≤ finished T
unfolding when◌then◌else◌
landed_finished [] = omega arith
landed_finished (s ∷ T) = omega (arith, landed_finished T, part (leb (waits s) (drains T)) (finishes s.answer))
  where
    part : (x : Bool) (n : ℕ) → (when x then n else 0) ≤ n
    part true n = omega arith
    part false n = omega arith

-- at most 65,535 puts finish, so no more come to memory
few_finish : (ts : List Turn) (U : World) → Started U → InCompany U ts → finished (played_in U ts) ≤ 65535
few_finish ts U F C =
    omega (
      arith,
      run_count ts U F.whole C (started_open U F),
      (whole_run ts U F.whole C).used,
      ap (λ (o : Line). open_put o (suc U.bench.used)) F.idle,
    )

few16 : (κ : Kind) (w d : ℕ) → w ≡ 16 → d ≤ 65535 → Few κ w d
few16 Lifo w d e h = λ some. rw e (omega arith)
few16 Fifo w d e h = tt
few16 Deque w d e h = λ some. rw e (omega arith)

few_in : (ts : List Turn) (U : World) → Started U → InCompany U ts → U.bench.width ≡ 16 → FewPutsIn U.bench.kind (tag_bits U.bench) (played_in U ts)
few_in ts U F C is16 i l j x a =
    let T = played_in U ts in
    few_linked U.bench.kind U.bench.queue.linked U.bench.width _
    (λ z. few16 U.bench.kind U.bench.width _ is16
    (omega (arith, few_finish ts U F C, landed_finished T, same_puts_in ts U F C, puts_take (drop (suc l) T) (j - suc l), puts_drop T (suc l))))

-- in company, and alone
pub widest_in : (ts : List Turn) (U : World) → Started U → U.bench.width ≡ 16 → InCompany U ts → Sound (played_in U ts) (after_in U ts)
widest_in ts U F is16 C = sound_in ts U F C (few_in ts U F C is16)

pub widest_tag : WidestTag
widest_tag s m l e is16 = from_company Sound s m l e (λ ts C. widest_in ts _ (fresh_started s m l e) is16 C)
