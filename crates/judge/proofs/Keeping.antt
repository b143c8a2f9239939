-- Every finished put is kept exactly if every one is marked; and there are no more first hand-outs than hand-outs.
use mathlib.Core.Path.{◌≡◌, refl, sym, ap, ◌∙◌}
use mathlib.Core.Bool.{Bool, true, false}
use mathlib.Core.List.{List}
use Prim.Native.Nat.{ℕ, zero, suc, ◌+◌, ◌≤◌, ◌<◌}
use native.Mathlib.Omega.{arith}
use lib.ListN.{get_or}
use Rattle.model.specs.Tests.{when◌then◌else◌, ◌and◌, ◌or◌}
use Rattle.model.specs.Counts.{entry_at, is_kind, some_below, count_below, out_whole, out_first}
use Rattle.model.proofs.Tests.{and_left}
use Rattle.judgement.specs.Judgement.{all_below, kept, listed}
use Rattle.puts.specs.Puts.{Gathered}
use Rattle.marks.specs.Marks.{Marked, is_marked}
use Rattle.judgement.proofs.All.{all_fails, all_at, all_true}
use Rattle.puts.proofs.Gathering.{clash, place_of}

-- a test that not all pass fails somewhere
fail_at : (p : ℕ → Bool) (n : ℕ) (y : Bool) → p n ≡ y → (p n and all_below p n) ≡ false → (all_below p n ≡ false → (i : ℕ) × (i < n) × (p i ≡ false)) → (i : ℕ) × (i < suc n) × (p i ≡ false)
unfolding ◌and◌
fail_at p n true q e f =
    let g = f (sym (ap (λ (b : Bool). b and all_below p n) q) ∙ e) in (g.0, (let z = g.1 in omega (arith, z)), g.2)
fail_at p n false q e f = (n, omega arith, q)

some_fails : (p : ℕ → Bool) (n : ℕ) → all_below p n ≡ false → (i : ℕ) × (i < n) × (p i ≡ false)
unfolding all_below
some_fails p zero e = absurd (clash e)
some_fails p (suc n) e = fail_at p n (p n) refl e (some_fails p n)

module _ (v : ℕ) (l : List ℕ) (n : ℕ) (stored : List ℕ) (m : ℕ) (puts : List ℕ) (c : ℕ) (seen : List Bool) (G : Gathered v l n puts c) (M : Marked v l n stored m puts c seen) where
  out_or_listed : ℕ → Bool
  out_or_listed j = some_below (out_whole v l (entry_at v l j).task) n or some_below (listed stored (entry_at v l j).task.number) m

  marked_is : (k : ℕ) → k < c → is_marked seen k ≡ out_or_listed (get_or puts k 0)
  unfolding out_or_listed
  marked_is k h = M k h

  kept_put : (j : ℕ) → is_kind v l 1 j ≡ true → kept v l n stored m j ≡ out_or_listed j
  unfolding ◌or◌ out_or_listed
  kept_put j e = rw e

  kept_other : (j : ℕ) → is_kind v l 1 j ≡ false → kept v l n stored m j ≡ true
  unfolding ◌or◌
  kept_other j e = rw e

  kept_by : all_below (is_marked seen) c ≡ true → (j : ℕ) (y : Bool) → is_kind v l 1 j ≡ y → j < n → kept v l n stored m j ≡ true
  kept_by a j true e h =
      let g = place_of v l n puts c G j h e in
      kept_put j e ∙ sym (ap out_or_listed g.2) ∙ sym (marked_is g.0 g.1) ∙ all_at (is_marked seen) c g.0 a g.1
  kept_by a j false e h = kept_other j e

  pub kept_whole : (y : Bool) → all_below (is_marked seen) c ≡ y → y ≡ all_below (kept v l n stored m) n
  kept_whole true e = sym (all_true (kept v l n stored m) n (λ j h. kept_by e j (is_kind v l 1 j) refl h))
  kept_whole false e =
      let g = some_fails (is_marked seen) c e in
      sym
      (all_fails (kept v l n stored m) n (get_or puts g.0 0) (G.placed g.0 g.1)
      (kept_put (get_or puts g.0 0) (G.put g.0 g.1) ∙ sym (marked_is g.0 g.1) ∙ g.2))

-- no more first hand-outs than hand-outs
fewer_at : (p q : Bool) (a b : ℕ) → (p ≡ true → q ≡ true) → a ≤ b → (when p then a + 1 else a) ≤ (when q then b + 1 else b)
unfolding when◌then◌else◌
fewer_at true true a b f h = omega (arith, h)
fewer_at true false a b f h = absurd (clash (sym (f refl)))
fewer_at false true a b f h = omega (arith, h)
fewer_at false false a b f h = h

pub firsts_fewer : (v : ℕ) (l : List ℕ) (n : ℕ) → count_below (out_first v l) n ≤ count_below (is_kind v l 2) n
unfolding count_below
firsts_fewer v l zero = omega arith
firsts_fewer v l (suc n) = fewer_at (out_first v l n) (is_kind v l 2 n) _ _ (λ e. and_left _ _ e) (firsts_fewer v l n)
