-- The table of put numbers, as one entry after the other is noted in it.
use mathlib.Core.Path.{◌≡◌, refl, sym, ap, subst, ◌∙◌}
use mathlib.Core.Bool.{Bool, false}
use mathlib.Core.List.{List}
use Prim.Native.Nat.{ℕ, ◌+◌, ◌%◌}
use native.Mathlib.Omega.{arith}
use native.Mathlib.Numerals.{add-one}
use borrow.Author.Tests.{ne_eqb}
use lib.ListN.{length, get_or, set, length-set}
use lib.Seq.{get_or-set_same, get_or-set_other}
use Rattle.model.specs.Tests.{◌and◌, ◌or◌}
use Rattle.model.specs.Counts.{entry_at, some_below, is_kind, out_as}
use Rattle.handouts.specs.Seen.{Seen}
use Rattle.model.proofs.Tests.{and_false}

none_next : (v : ℕ) (l : List ℕ) (j x : ℕ) → out_as v l x j ≡ false → some_below (out_as v l x) j ≡ false → some_below (out_as v l x) (j + 1) ≡ false
unfolding some_below ◌or◌
none_next v l j x e i = rw (add-one j, e) i

module _ (v : ℕ) (l s : List ℕ) where
  -- before the first entry any table does
  pub seen_none : length s ≡ 4096 → Seen v l s 0
  unfolding some_below
  seen_none n = record { long = n; none = λ x z. refl }

  -- an entry that hands nothing out
  pub seen_other : {b : Bool} (j : ℕ) → b ≡ is_kind v l 2 j → b ≡ false → Seen v l s j → Seen v l s (j + 1)
  unfolding ◌and◌
  seen_other j e f i = record { long = i.long; none = λ x z. none_next v l j x (rw (sym e ∙ f)) (i.none x z) }

  -- a hand-out of y: at the places of other remainders the table is as it was, and at its own it is not 0
  pub seen_mark : (j y : ℕ) → y ≡ (entry_at v l j).task.number → Seen v l s j → Seen v l (set s (y % 4096) (j + 1)) (j + 1)
  seen_mark j y e i =
      let t : List ℕ = set s (y % 4096) (j + 1) in
      let own : get_or t (y % 4096) 0 ≡ j + 1 = get_or-set_same s (y % 4096) (j + 1) 0 (let n = i.long in omega arith) in
      let far : (x : ℕ) → get_or t (x % 4096) 0 ≡ 0 → x % 4096 ≡ y % 4096 → ⊥ = λ x z q.
      let w : get_or t (y % 4096) 0 ≡ 0 = subst (λ (k : ℕ). get_or t k 0 ≡ 0) q z in omega arith in
      record {
        long = length-set s _ _ ∙ i.long;
        none = λ x z.
            none_next v l j x
            (rw (ne_eqb (entry_at v l j).task.number x (λ q. far x z (ap (λ (k : ℕ). k % 4096) (sym (e ∙ q))))) (and_false _))
            (i.none x (sym (get_or-set_other s (y % 4096) (x % 4096) (j + 1) 0 (far x z)) ∙ z));
      }
