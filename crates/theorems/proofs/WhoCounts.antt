-- After every list from fresh `who` answers how often a worker was beaten.
use Rattle.std.specs.Prelude.{Ok}
use mathlib.Core.Path.{◌≡◌, refl, sym, ap, subst, ◌∙◌}
use mathlib.Core.Bool.{Bool, true, false, not}
use mathlib.Core.List.{List, [], ◌∷◌}
use Prim.Native.Nat.{ℕ, zero, suc, ◌+◌, ◌≤◌, ◌<◌}
use native.Mathlib.Omega.{arith}
use lib.Dec.{eqb, leb}
use lib.ListN.{length, replicate, length-set}
use borrow.Author.Tests.{eqb-true, eqb-false, leb-true, leb-false, lt-ltb}
use Rattle.model.specs.declared.Room.{Room}
use Rattle.model.specs.Tests.{when◌then◌else◌, ◌and◌}
use Rattle.model.specs.Lines.{fails_compare}
use Rattle.model.specs.World.{World, Outcome, line_at}
use Rattle.model.specs.Calls.{one_more, restarts_of, raised, who_in, who_of, Call, begin, step, drop_link, drain, ask, drop_ask, call_in}
use Rattle.model.specs.Run.{Played}
use Rattle.model.proofs.Tests.{if_true}
use Rattle.theorems.specs.Restarts.{beats, beaten, up_to, WhoCounts}
use Rattle.theorems.proofs.Cases.{begin_by, step_by, drop_by, drain_by, ask_by, drop_ask_by}
use Rattle.theorems.proofs.WholeRun.{storing}
use Rattle.theorems.proofs.Company.{Turn, others, own, played_in, after_in}
use Rattle.theorems.proofs.Restarts.{counted}
use Rattle.theorems.proofs.Fresh.{Started, fresh_started, from_company}
use Rattle.theorems.proofs.NeverForeign.{effect_answers, never_foreign}

-- THE CEILING. Counting up to it
up_small : (n : ℕ) → n ≤ 4294967295 → up_to n ≡ n
unfolding when◌then◌else◌
up_small n h = go (leb n 4294967295) refl
  where
    go : (x : Bool) → leb n 4294967295 ≡ x → (when x then n else 4294967295) ≡ n
    go true e = refl
    go false e = absurd (omega (arith, leb-false n 4294967295 e, h))

up_large : (n : ℕ) → 4294967295 ≤ n → up_to n ≡ 4294967295
unfolding when◌then◌else◌
up_large n h = go (leb n 4294967295) refl
  where
    go : (x : Bool) → leb n 4294967295 ≡ x → (when x then n else 4294967295) ≡ 4294967295
    go true e = omega (arith, leb-true n 4294967295 e, h)
    go false e = refl

more_le : (n : ℕ) → n ≤ 4294967295 → one_more n ≤ 4294967295
unfolding when◌then◌else◌
more_le n h = go (eqb n 4294967295) refl
  where
    go : (x : Bool) → eqb n 4294967295 ≡ x → (when x then n else n + 1) ≤ 4294967295
    go true e = h
    go false e = omega (arith, eqb-false n 4294967295 e, h)

-- one more now, or at the end
up_more : (n b : ℕ) → n ≤ 4294967295 → up_to (one_more n + b) ≡ up_to (n + (b + 1))
unfolding when◌then◌else◌
up_more n b h = go (eqb n 4294967295) refl
  where
    go : (x : Bool) → eqb n 4294967295 ≡ x → up_to ((when x then n else n + 1) + b) ≡ up_to (n + (b + 1))
    go true e =
        let z = eqb-true n 4294967295 e in
        up_large (n + b) (omega (arith, z)) ∙ sym (up_large (n + (b + 1)) (omega (arith, z)))
    go false e = ap up_to {x = n + 1 + b} {y = n + (b + 1)} (omega arith)

up_step : (x : Bool) (n b : ℕ) → n ≤ 4294967295 → up_to ((when x then one_more n else n) + b) ≡ up_to (n + (b + (when x then 1 else 0)))
unfolding when◌then◌else◌
up_step true n b h = up_more n b h
up_step false n b h = ap up_to {x = n + b} {y = n + (b + 0)} (omega arith)

step_le : (x : Bool) (n : ℕ) → n ≤ 4294967295 → (when x then one_more n else n) ≤ 4294967295
unfolding when◌then◌else◌
step_le true n h = more_le n h
step_le false n h = h

-- A CALL: the crew stays, there are as many counts, and worker k's is raised exactly if it is beaten
pub record Counts (k : ℕ) (W : World) (c : Call) (D : Outcome) : Type 0 where
  pub crew : D.world.bench.crew ≡ W.bench.crew
  pub many : length D.world.bench.restarts ≡ length W.bench.restarts
  pub count :
      restarts_of D.world.bench.restarts k
      ≡ (when beats k W c D.answer then one_more (restarts_of W.bench.restarts k) else restarts_of W.bench.restarts k)

raised_long : (x : Bool) (ns : List ℕ) (i : ℕ) → length (when x then raised ns i else ns) ≡ length ns
unfolding when◌then◌else◌
raised_long true ns i = length-set ns i (one_more (restarts_of ns i))
raised_long false ns i = refl

accepted : (y b : Bool) → y ≡ false → (not y and b) ≡ b
unfolding ◌and◌
accepted y b e = subst (λ (z : Bool). (not z and b) ≡ b) (sym e) refl

call_counts : (ρ : Room) (W : World) (c : Call) (k : ℕ) → W.bench.crew ≤ length W.bench.restarts → Counts k W c (call_in ρ W c)
unfolding when◌then◌else◌ ◌and◌
call_counts ρ W (begin i op) k h =
    begin_by (Counts k W (begin i op)) W (λ r l. record { crew = refl; many = refl; count = refl }) ρ i op
    (λ M. record { crew = refl; many = refl; count = refl })
call_counts ρ W (drop_link i) k h =
    drop_by (Counts k W (drop_link i)) W (λ r l. record { crew = refl; many = refl; count = refl }) ρ i
    (record { crew = refl; many = refl; count = refl })
call_counts ρ W drain k h =
    drain_by (Counts k W drain) W (λ r l. record { crew = refl; many = refl; count = refl }) ρ (λ some. record { crew = refl; many = refl; count = refl })
call_counts ρ W (ask i) k h =
    ask_by (Counts k W (ask i)) W (λ r l. record { crew = refl; many = refl; count = refl }) ρ i
    (λ n A. record { crew = refl; many = refl; count = refl })
call_counts ρ W (drop_ask i) k h =
    drop_ask_by (Counts k W (drop_ask i)) W (λ r l. record { crew = refl; many = refl; count = refl }) ρ i
    (λ n A. record { crew = refl; many = refl; count = refl })
call_counts ρ W (step i) k h =
    step_by (Counts k W (step i)) W (λ r l. record { crew = refl; many = refl; count = refl }) ρ i
    (λ M.
    let ns = W.bench.restarts in
    let x = fails_compare W.bench.kind W.bench.queue i (line_at W.bench.workers i) in
    record {
      crew = refl;
      many = raised_long x ns i;
      count =
          counted ns i k x (omega (arith, M.member, h))
          ∙ sym (ap (λ (y : Bool). when y then one_more (restarts_of ns k) else restarts_of ns k)
          (accepted _ (eqb k i and x) (effect_answers ρ W i)));
    })

-- A LIST
run_counts : (ts : List Turn) (W : World) (k : ℕ) → W.bench.crew ≤ length W.bench.restarts → restarts_of W.bench.restarts k ≤ 4294967295
    → ((after_in W ts).bench.crew ≡ W.bench.crew)
    × (restarts_of (after_in W ts).bench.restarts k ≡ up_to (restarts_of W.bench.restarts k + beaten k (played_in W ts)))
unfolding played_in after_in
run_counts [] W k h b =
    let n = restarts_of W.bench.restarts k in
    (refl, sym (ap up_to {x = n + 0} {y = n} (omega arith) ∙ up_small n b))
run_counts (others m ∷ ts) W k h b = run_counts ts (storing W m) k h b
run_counts (own ρ c ∷ ts) W k h b =
    let F = call_counts ρ W c k h in
    let n = restarts_of W.bench.restarts k in
    let x = beats k W c (call_in ρ W c).answer in
    let U = (call_in ρ W c).world in
    let I = run_counts ts U k (omega (arith, F.crew, F.many, h)) (subst (λ (y : ℕ). y ≤ 4294967295) (sym F.count) (step_le x n b)) in (
      I.0 ∙ F.crew,
      I.1 ∙ ap (λ (y : ℕ). up_to (y + beaten k (played_in U ts))) F.count ∙ up_step x n (beaten k (played_in U ts)) b,
    )

none_yet : (n k : ℕ) → restarts_of (replicate n 0) k ≡ 0
none_yet zero k = refl
none_yet (suc n) zero = refl
none_yet (suc n) (suc k) = none_yet n k

-- in company, and alone
pub who_in_lem : (ts : List Turn) (U : World) → Started U → (k : ℕ) → k < U.bench.crew → who_in (after_in U ts) k ≡ Ok (up_to (beaten k (played_in U ts)))
who_in_lem ts U F k h =
    let start : restarts_of U.bench.restarts k ≡ 0 = ap (λ (ns : List ℕ). restarts_of ns k) F.counts ∙ none_yet 8 k in
    let many : length U.bench.restarts ≡ 8 = ap length F.counts in
    let R = run_counts ts U k (omega (arith, many, F.whole.crew.1)) (omega (arith, start)) in
    if_true _ (lt-ltb k (after_in U ts).bench.crew (omega (arith, R.0, h)))
    ∙ ap (λ (n : ℕ). Ok n)
    (R.1 ∙ ap up_to {x = restarts_of U.bench.restarts k + beaten k (played_in U ts)} {y = beaten k (played_in U ts)} (omega (arith, start)))

pub who_counts : WhoCounts
unfolding who_of
who_counts s m l e cs k h =
    if_true _ (never_foreign s m l e cs).valid
    ∙ from_company (λ (T : List Played) (X : World). who_in X k ≡ Ok (up_to (beaten k T))) s m l e (λ ts C. who_in_lem ts _ (fresh_started s m l e) k h) cs
