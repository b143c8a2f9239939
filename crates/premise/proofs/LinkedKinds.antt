-- The linked kinds need no premise: they have no tag.
use mathlib.Core.Path.{◌≡◌, refl, sym, ◌∙◌, ap}
use mathlib.Core.Bool.{Bool, true, false, true≢false}
use mathlib.Core.Logic.{inl, inr}
use mathlib.Core.List.{List}
use Prim.Native.Nat.{ℕ}
use native.Mathlib.Omega.{arith}
use Rattle.model.specs.declared.Setup.{Setup}
use Rattle.model.specs.declared.Bench.{Bench}
use Rattle.model.specs.declared.Kind.{Kind}
use Rattle.model.specs.declared.Kind.TheVariants.{Lifo, Fifo, Deque}
use Rattle.model.specs.declared.Answer.TheVariants.{Accepted}
use Rattle.model.specs.Tests.{when◌then◌else◌}
use Rattle.model.specs.World.{World, tag_bits}
use Rattle.model.specs.Run.{Played, played}
use Rattle.model.specs.Calls.{linked_of, fresh_of, Call}
use Rattle.theorems.specs.Demand3.{Few, FewPutsIn, FewPuts, Sound}
use Rattle.premise.specs.Premise.{LinkedKinds}
use Rattle.theorems.proofs.Fresh.{Started, fresh_is}
use Rattle.theorems.proofs.NothingLost.{sound_in, demand3}
use Rattle.theorems.proofs.Company.{Turn, played_in, after_in, InCompany}

-- x: the queue is linked, and nothing is asked of it
pub few_linked : (κ : Kind) (x : Bool) (w d : ℕ) → (x ≡ false → Few κ w d) → Few κ (when x then 0 else w) d
unfolding when◌then◌else◌
few_linked Lifo true w d f = λ some. absurd (omega arith)
few_linked Fifo true w d f = tt
few_linked Deque true w d f = λ some. absurd (omega arith)
few_linked κ false w d f = f refl

-- the premise holds of every list, so that whatever has it for a premise needs none
pub few_of_linked : (b : Bench) (T : List Played) → b.queue.linked ≡ true → FewPutsIn b.kind (tag_bits b) T
few_of_linked b T is i l j c a = few_linked b.kind b.queue.linked b.width _ (λ z. absurd (true≢false (sym is ∙ z)))

pub linked_few : (s : Setup) (m l : List ℕ) → linked_of s.kind ≡ true → (fresh_of s m l).answer ≡ Accepted → (cs : List Call) → FewPuts (fresh_of s m l).world cs
linked_few s m l is e cs =
    let U = (fresh_of s m l).world in
    few_of_linked U.bench (played U cs) (ap (λ (W : World). W.bench.queue.linked) (fresh_is s m l e).0 ∙ is)

-- in company, and alone
pub linked_in : (ts : List Turn) (U : World) → Started U → U.bench.queue.linked ≡ true → InCompany U ts → Sound (played_in U ts) (after_in U ts)
linked_in ts U F is C = sound_in ts U F C (few_of_linked U.bench (played_in U ts) is)

pub linked_kinds : LinkedKinds
linked_kinds s m l (inl is) e cs = demand3 s m l e cs (linked_few s m l (ap linked_of is) e cs)
linked_kinds s m l (inr is) e cs = demand3 s m l e cs (linked_few s m l (ap linked_of is) e cs)
