-- No two puts have one number: a begun put's number is one more than the numbers used before it.
use mathlib.Core.Path.{◌≡◌, refl, sym, ◌∙◌, ap, subst}
use mathlib.Core.List.{List, [], ◌∷◌}
use Prim.Native.Nat.{ℕ, zero, suc, ◌+◌, ◌≤◌, ◌<◌}
use native.Mathlib.Omega.{arith}
use Rattle.model.specs.declared.Room.{Room}
use Rattle.model.specs.declared.Payload.{Payload}
use Rattle.model.specs.declared.Task.{Task}
use Rattle.model.specs.Tasks.{task, first_words}
use Rattle.model.proofs.Tasks.{first_number}
use Rattle.model.specs.declared.Operation.{Operation}
use Rattle.model.specs.declared.Operation.TheVariants.{Put, Take, Steal, Commit}
use Rattle.model.specs.declared.Answer.TheVariants.{Numbered, Refused}
use Rattle.model.specs.declared.Refusal.{Refusal}
use Rattle.model.specs.World.{World, Outcome}
use Rattle.model.specs.Calls.{used_by, begin_in, Call, begin, call_in}
use Rattle.theorems.specs.Demand3.{At, Begins}
use Rattle.theorems.proofs.Cases.{begin_by, call_by}
use Rattle.theorems.proofs.WholeRun.{storing}
use Rattle.theorems.proofs.Company.{Turn, others, own, played_in}

used_by_lem : (op : Operation) (u : ℕ) → u ≤ used_by op u
used_by_lem (Put p) u = omega arith
used_by_lem Take u = omega arith
used_by_lem Steal u = omega arith
used_by_lem Commit u = omega arith

pub used_kept : (ρ : Room) (U : World) (c : Call) → U.bench.used ≤ (call_in ρ U c).world.bench.used
used_kept ρ U c =
    call_by (λ (D : Outcome). U.bench.used ≤ D.world.bench.used) U (λ r l. omega arith) ρ (λ i op B. used_by_lem op U.bench.used) (λ i M. omega arith) (λ i. omega arith) (λ some. omega arith) (λ n A. omega arith) c

-- a put that is answered a number has used it
abbrev NextNumber : World → Outcome → Type 0
NextNumber U D = (n : ℕ) → D.answer ≡ Numbered n → (n ≡ U.bench.used + 1) × (D.world.bench.used ≡ n)

unnumbered : (r : Refusal) (n : ℕ) → Refused r ≡ Numbered n → ⊥
unnumbered r n e = let z : ◌≡◌ {A = ℕ} 0 1 = cc in omega arith

next_number : (ρ : Room) (U : World) (p : Payload) → NextNumber U (begin_in U 0 (Put p))
next_number ρ U p =
    begin_by (NextNumber U) U (λ r l n q. absurd (unnumbered r n q)) ρ 0 (Put p)
    (λ B n q. let z : U.bench.used + 1 ≡ n = cc in (sym z, z))

begins_number : (ρ : Room) (U : World) (c : Call) (n : ℕ) (p : Payload) → c ≡ begin 0 (Put p) → (call_in ρ U c).answer ≡ Numbered n → (n ≡ U.bench.used + 1) × ((call_in ρ U c).world.bench.used ≡ n)
begins_number ρ U c n p e q =
    subst (λ (c : Call). (call_in ρ U c).answer ≡ Numbered n → (n ≡ U.bench.used + 1) × ((call_in ρ U c).world.bench.used ≡ n)) (sym e) (next_number ρ U p n) q

-- the number of a put's task is the one it answered
number_of : (U : World) (n : ℕ) (p : Payload) (t : Task) → first_words (U.bench.words + 1) (task n p) ≡ t → t.number ≡ n
number_of U n p t e = sym (ap (λ (u : Task). u.number) e) ∙ first_number U.bench.words (task n p)

above : (ts : List Turn) (U : World) (a : ℕ) (t : Task) → At (played_in U ts) a (Begins t) → U.bench.used < t.number
unfolding played_in
above [] U a t x = absurd x
above (others m ∷ ts) U a t x = above ts (storing U m) a t x
above (own ρ c ∷ ts) U zero t (n, p, e, q, is) = omega (arith, (begins_number ρ U c n p e q).0, number_of U n p t is)
above (own ρ c ∷ ts) U (suc a) t x = omega (arith, used_kept ρ U c, above ts (call_in ρ U c).world a t x)

pub one_number : (ts : List Turn) (U : World) (a b : ℕ) (t u : Task) → At (played_in U ts) a (Begins t) → At (played_in U ts) b (Begins u) → t.number ≡ u.number → a ≡ b
unfolding played_in
one_number [] U a b t u x y s = absurd x
one_number (others m ∷ ts) U a b t u x y s = one_number ts (storing U m) a b t u x y s
one_number (own ρ c ∷ ts) U zero zero t u x y s = refl
one_number (own ρ c ∷ ts) U zero (suc b) t u (n, p, e, q, is) y s =
    absurd (omega (arith, (begins_number ρ U c n p e q).1, number_of U n p t is, above ts (call_in ρ U c).world b u y))
one_number (own ρ c ∷ ts) U (suc a) zero t u x (n, p, e, q, is) s =
    absurd (omega (arith, (begins_number ρ U c n p e q).1, number_of U n p u is, above ts (call_in ρ U c).world a t x))
one_number (own ρ c ∷ ts) U (suc a) (suc b) t u x y s = ap suc (one_number ts (call_in ρ U c).world a b t u x y s)
