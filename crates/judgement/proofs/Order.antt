-- Kinds and rising numbers, entry by entry. `floor` is one above the last number that was taken, at first 0.
use mathlib.Core.Path.{◌≡◌, refl, sym, ap, ◌∙◌, subst}
use mathlib.Core.Bool.{Bool, true, false, not}
use mathlib.Core.List.{List}
use mathlib.Core.Logic.{◌⊎◌, inl, inr}
use Prim.Native.Nat.{ℕ, ◌+◌, ◌≤◌, ◌<◌}
use native.Mathlib.Omega.{arith}
use lib.Dec.{eqb, ltb, leb}
use borrow.Author.Tests.{le-leb, lt-leb, lt-ltb, le-ltb, ltb-true, ltb-false}
use Rattle.model.specs.Tests.{◌and◌, ◌or◌}
use Rattle.model.specs.Counts.{entry_at}
use Rattle.model.proofs.Tests.{fails, and_both, and_false}
use Rattle.judgement.specs.declared.kind.EntryKind.{EntryKind}
use Rattle.judgement.specs.declared.kind.EntryKind.TheVariants.{Finished, HandOut, Empty, Full, Commit}
use Rattle.judgement.specs.Judgement.{all_below, known, numbered, rises}
use Rattle.judgement.specs.Kinds.{number_of}
use Rattle.judgement.proofs.All.{all_fails, all_true, all_next}

module _ (v : ℕ) (l : List ℕ) where
  module _ (j k : ℕ) (e : k ≡ (entry_at v l j).kind) where
    known_by : 1 ≤ k → k ≤ 5 → known v l j ≡ true
    known_by a b = subst (λ (x : ℕ). (leb 1 x and leb x 5) ≡ true) e (and_both _ _ (le-leb 1 k a) (le-leb k 5 b))

    too_low : k < 1 → known v l j ≡ false
    too_low a = subst (λ (x : ℕ). (leb 1 x and leb x 5) ≡ false) e (fails (leb k 5) (lt-leb 1 k a))

    too_high : 5 < k → known v l j ≡ false
    too_high a =
        subst (λ (x : ℕ). (leb 1 x and leb x 5) ≡ false) e (ap (λ (y : Bool). leb 1 k and y) (lt-leb k 5 a) ∙ and_false (leb 1 k))

    pub unknown : (k < 1) ⊎ (5 < k) → known v l j ≡ false
    unknown (inl a) = too_low a
    unknown (inr a) = too_high a

    pub numbered_is : {y : Bool} → y ≡ (eqb k 1 or eqb k 4) → numbered v l j ≡ y
    numbered_is h = sym (h ∙ ap (λ (x : ℕ). eqb x 1 or eqb x 4) e)

  -- an entry's kind is one of the five
  pub kind_known : (j : ℕ) (κ : EntryKind) → number_of κ ≡ (entry_at v l j).kind → known v l j ≡ true
  kind_known j Finished e = known_by j 1 e (omega arith) (omega arith)
  kind_known j HandOut e = known_by j 2 e (omega arith) (omega arith)
  kind_known j Empty e = known_by j 3 e (omega arith) (omega arith)
  kind_known j Full e = known_by j 4 e (omega arith) (omega arith)
  kind_known j Commit e = known_by j 5 e (omega arith) (omega arith)

  abbrev over : ℕ → ℕ → Bool
  over j i = not (numbered v l i) or ltb (entry_at v l i).task.number (entry_at v l j).task.number

  pub record Floor (j floor : ℕ) : Type 0 where
    pub kinds : all_below (known v l) j ≡ true
    pub order : all_below (rises v l) j ≡ true
    pub above : (i : ℕ) → i < j → numbered v l i ≡ true → (entry_at v l i).task.number < floor
    pub met : (floor ≡ 0) ⊎ ((i : ℕ) × (i < j) × (numbered v l i ≡ true) × ((entry_at v l i).task.number + 1 ≡ floor))

  pub floor_start : Floor 0 0
  unfolding all_below
  floor_start = record { kinds = refl; order = refl; above = λ i h _. absurd (omega (arith, h)); met = inl refl }

  plain_rises : (j : ℕ) → numbered v l j ≡ false → rises v l j ≡ true
  unfolding ◌or◌
  plain_rises j h = rw h

  above_plain : (j f i : ℕ) → Floor j f → i < j + 1 → numbered v l j ≡ false → numbered v l i ≡ true → (y : Bool) → ltb i j ≡ y → (entry_at v l i).task.number < f
  above_plain j f i F h g n true e = F.above i (ltb-true i j e) n
  above_plain j f i F h g n false e =
      let d = ltb-false i j e in
      let q : i ≡ j = omega (arith, d, h) in
      absurd (let z : true ≡ false = sym n ∙ ap (numbered v l) q ∙ g in let w : ◌≡◌ {A = ℕ} 0 1 = cc in omega (arith, w))

  module _ (j floor : ℕ) (F : Floor j floor) where
    widen : (floor ≡ 0) ⊎ ((i : ℕ) × (i < j) × (numbered v l i ≡ true) × ((entry_at v l i).task.number + 1 ≡ floor)) → (floor ≡ 0) ⊎ ((i : ℕ) × (i < j + 1) × (numbered v l i ≡ true) × ((entry_at v l i).task.number + 1 ≡ floor))
    widen (inl e) = inl e
    widen (inr (i, h, n, e)) = inr (i, omega (arith, h), n, e)

    pub floor_skip : known v l j ≡ true → numbered v l j ≡ false → Floor (j + 1) floor
    floor_skip k n =
        record {
          kinds = all_next (known v l) j F.kinds k;
          order = all_next (rises v l) j F.order (plain_rises j n);
          above = λ i h g. above_plain j floor i F h n g (ltb i j) refl;
          met = widen F.met;
        }

    over_one : (i : ℕ) (y : Bool) → numbered v l i ≡ y → i < j → floor ≤ (entry_at v l j).task.number → over j i ≡ true
    unfolding ◌or◌
    over_one i true n h f =
        let a = F.above i h n in
        let w = lt-ltb (entry_at v l i).task.number (entry_at v l j).task.number (omega (arith, a, f)) in rw (n, w)
    over_one i false n h f = rw n

    numbered_rises : numbered v l j ≡ true → floor ≤ (entry_at v l j).task.number → rises v l j ≡ true
    unfolding ◌or◌
    numbered_rises n f = rw (n, all_true (over j) j (λ i h. over_one i (numbered v l i) refl h f))

    above_next : (i : ℕ) (y : Bool) → ltb i j ≡ y → i < j + 1 → floor ≤ (entry_at v l j).task.number → numbered v l i ≡ true → (entry_at v l i).task.number < (entry_at v l j).task.number + 1
    above_next i true e h f n = let a = F.above i (ltb-true i j e) n in omega (arith, a, f)
    above_next i false e h f n =
        let d = ltb-false i j e in
        subst (λ (x : ℕ). (entry_at v l x).task.number < (entry_at v l j).task.number + 1) {x = j} {y = i} (omega (arith, d, h)) (omega arith)

    pub floor_next : known v l j ≡ true → numbered v l j ≡ true → floor ≤ (entry_at v l j).task.number → Floor (j + 1) ((entry_at v l j).task.number + 1)
    floor_next k n f =
        record {
          kinds = all_next (known v l) j F.kinds k;
          order = all_next (rises v l) j F.order (numbered_rises n f);
          above = λ i h g. above_next i (ltb i j) refl h f g;
          met = inr (j, omega arith, n, refl);
        }

    not_over : (i : ℕ) → numbered v l i ≡ true → (entry_at v l j).task.number ≤ (entry_at v l i).task.number → over j i ≡ false
    unfolding ◌or◌
    not_over i n h = let w = le-ltb (entry_at v l i).task.number (entry_at v l j).task.number h in rw (n, w)

    falls : numbered v l j ≡ true → (entry_at v l j).task.number < floor → (floor ≡ 0) ⊎ ((i : ℕ) × (i < j) × (numbered v l i ≡ true) × ((entry_at v l i).task.number + 1 ≡ floor)) → rises v l j ≡ false
    unfolding ◌or◌
    falls n h (inl e) = absurd (omega (arith, h, e))
    falls n h (inr (i, a, m, e)) = rw (n, all_fails (over j) j i a (not_over i m (omega (arith, h, e))))

    pub not_rising : (n : ℕ) → j < n → numbered v l j ≡ true → (entry_at v l j).task.number < floor → false ≡ (all_below (known v l) n and all_below (rises v l) n)
    not_rising n h m f =
        sym (ap (λ (y : Bool). all_below (known v l) n and y) (all_fails (rises v l) n j h (falls m f F.met)) ∙ and_false (all_below (known v l) n))

  pub not_known : (n j : ℕ) → j < n → known v l j ≡ false → false ≡ (all_below (known v l) n and all_below (rises v l) n)
  not_known n j h e = sym (fails (all_below (rises v l) n) (all_fails (known v l) n j h e))

  pub in_order_whole : (n j floor : ℕ) → Floor j floor → j ≤ n → n ≤ j → true ≡ (all_below (known v l) n and all_below (rises v l) n)
  in_order_whole n j floor F a b =
      subst (λ (m : ℕ). true ≡ (all_below (known v l) m and all_below (rises v l) m)) {x = j} {y = n} (omega (arith, a, b)) (sym (and_both _ _ F.kinds F.order))
