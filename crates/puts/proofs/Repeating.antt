-- Which finished put a hand-out repeats. A put number has one finished put, for the numbers rise.
use mathlib.Core.Path.{◌≡◌, refl, sym, ap, ◌∙◌}
use mathlib.Core.Bool.{Bool, true, false, true≢false}
use mathlib.Core.List.{List}
use Prim.Native.Nat.{ℕ, zero, suc, ◌≤◌, ◌<◌}
use native.Mathlib.Omega.{arith}
use lib.Dec.{ltb}
use lib.ListN.{get_or}
use borrow.Author.Tests.{ltb-true, ltb-false, eqb-true, eqb-false}
use Rattle.model.specs.Tests.{◌or◌}
use Rattle.model.specs.Tasks.{same_task}
use Rattle.model.specs.Counts.{entry_at, is_kind, some_below}
use Rattle.model.proofs.Tests.{and_left, and_right, and_both}
use Rattle.judgement.specs.Judgement.{finished_as}
use Rattle.puts.proofs.Gathering.{place_of}
use Rattle.puts.specs.Puts.{number_of_put, Rising, FoundBy, Gathered, RepeatsPut}

pub none_below : (p : ℕ → Bool) (n : ℕ) → ((i : ℕ) → i < n → p i ≡ false) → some_below p n ≡ false
unfolding some_below ◌or◌
none_below p zero h = refl
none_below p (suc n) h = rw (h n (omega arith)) (none_below p n (λ i g. h i (omega (arith, g))))

module _ (v : ℕ) (l : List ℕ) (n : ℕ) (puts : List ℕ) (c : ℕ) (G : Gathered v l n puts c) (R : Rising v l puts c) where
  one_by : (i k : ℕ) (y z : Bool) → ltb i k ≡ y → ltb k i ≡ z → i < c → k < c → number_of_put v l puts i ≡ number_of_put v l puts k → i ≡ k
  one_by i k true z e f a b q = absurd (let r = R i k (ltb-true i k e) b in omega (arith, r, q))
  one_by i k false true e f a b q = absurd (let r = R k i (ltb-true k i f) a in omega (arith, r, q))
  one_by i k false false e f a b q = let d = ltb-false i k e in let g = ltb-false k i f in omega (arith, d, g)

  pub one_place : (i k : ℕ) → i < c → k < c → number_of_put v l puts i ≡ number_of_put v l puts k → i ≡ k
  one_place i k a b q = one_by i k (ltb i k) (ltb k i) refl refl a b q

  -- the finished put with the number of the k-th is the k-th
  pub same_put : (i k : ℕ) → i < n → is_kind v l 1 i ≡ true → k < c → (entry_at v l i).task.number ≡ number_of_put v l puts k → i ≡ get_or puts k 0
  same_put i k h p b q =
      let g = place_of v l n puts c G i h p in
      sym g.2 ∙ ap (λ (x : ℕ). get_or puts x 0)
      (one_place g.0 k g.1 b (ap (λ (x : ℕ). (entry_at v l x).task.number) g.2 ∙ q))

  module _ (j : ℕ) (within : j < n) where
    -- no entry before j is a finished put with j's task, unless the condition on it fails
    none_by : ((i : ℕ) → i < j → is_kind v l 1 i ≡ true → same_task (entry_at v l i).task (entry_at v l j).task ≡ true → ⊥)
        → some_below (finished_as v l j) j ≡ false
    none_by f = none_below (finished_as v l j) j (λ i h. at i (finished_as v l j i) refl h)
      where
        at : (i : ℕ) (y : Bool) → finished_as v l j i ≡ y → i < j → finished_as v l j i ≡ false
        at i true e h = absurd (f i h (and_left _ _ e) (and_right _ _ e))
        at i false e h = e

    one_number : (i : ℕ) → same_task (entry_at v l i).task (entry_at v l j).task ≡ true → (entry_at v l i).task.number ≡ (entry_at v l j).task.number
    one_number i s = eqb-true _ _ (and_left _ _ s)

    pub no_such_number : FoundBy v l puts c (entry_at v l j).task.number c → RepeatsPut v l puts c j c
    no_such_number F =
        record {
          within = omega arith;
          found = λ h. absurd (omega (arith, h));
          none = λ _. none_by (λ i h p s. clash i h p (one_number i s));
        }
      where
        clash : (i : ℕ) → i < j → is_kind v l 1 i ≡ true → (entry_at v l i).task.number ≡ (entry_at v l j).task.number → ⊥
        clash i h p q =
            let g = place_of v l n puts c G i (omega (arith, h, within)) p in
            eqb-false _ _ (F.none refl g.0 g.1) (ap (λ (x : ℕ). (entry_at v l x).task.number) g.2 ∙ q)

    module _ (k : ℕ) (b : k < c) (e : number_of_put v l puts k ≡ (entry_at v l j).task.number) where
      only : (i : ℕ) → i < j → is_kind v l 1 i ≡ true → same_task (entry_at v l i).task (entry_at v l j).task ≡ true → i ≡ get_or puts k 0
      only i h p s = same_put i k (omega (arith, h, within)) p b (one_number i s ∙ sym e)

      pub not_before : j ≤ get_or puts k 0 → RepeatsPut v l puts c j c
      not_before h =
          record {
            within = omega arith;
            found = λ g. absurd (omega (arith, g));
            none = λ _. none_by (λ i g p s. let r = only i g p s in omega (arith, r, g, h));
          }

      pub other_task : same_task (entry_at v l (get_or puts k 0)).task (entry_at v l j).task ≡ false → RepeatsPut v l puts c j c
      other_task h =
          record {
            within = omega arith;
            found = λ g. absurd (omega (arith, g));
            none = λ _. none_by (λ i g p s. true≢false (sym s ∙ ap (λ (x : ℕ). same_task (entry_at v l x).task (entry_at v l j).task) (only i g p s) ∙ h));
          }

      pub this_put : get_or puts k 0 < j → same_task (entry_at v l (get_or puts k 0)).task (entry_at v l j).task ≡ true → RepeatsPut v l puts c j k
      this_put h q =
          record {
            within = omega (arith, b);
            found = λ _. (h, and_both _ _ (G.put k b) q);
            none = λ g. absurd (omega (arith, b, g));
          }
