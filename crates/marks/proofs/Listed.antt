-- The listed numbers, one by one, and their puts marked.
use mathlib.Core.Path.{◌≡◌, refl, sym, ap, ◌∙◌, subst}
use mathlib.Core.Bool.{Bool, true, false, true≢false}
use mathlib.Core.List.{List}
use Prim.Native.Nat.{ℕ, ◌+◌, ◌<◌}
use native.Mathlib.Omega.{arith}
use lib.Dec.{eqb}
use lib.ListN.{length, get_or, set}
use lib.Seq.{get_or-set_same, get_or-set_other}
use borrow.Author.Tests.{eq-eqb, ne_eqb, eqb-true, eqb-false}
use Rattle.model.specs.Tests.{◌or◌}
use Rattle.model.specs.Counts.{entry_at, some_below, out_whole}
use Rattle.model.proofs.Tests.{or_true}
use Rattle.model.proofs.Below.{some_at, up_miss}
use Rattle.judgement.specs.Judgement.{listed}
use Rattle.puts.specs.Puts.{number_of_put, Rising, FoundBy}
use Rattle.judgement.specs.Judgement.{all_below}
use Rattle.judgement.proofs.All.{all_at, all_true}
use Rattle.std.specs.Prelude.{◌↔◌, IsTrue, EachIndex}
use Rattle.marks.specs.Marks.{Marked, is_marked}

module _ (v : ℕ) (l : List ℕ) (n : ℕ) (stored : List ℕ) (i : ℕ) (puts : List ℕ) (c : ℕ) (seen : List Bool) (M : Marked v l n stored i puts c seen) where
  -- a number that is none of this put's
  other : (k : ℕ) → (get_or stored i 0 ≡ number_of_put v l puts k → ⊥)
      → (some_below (out_whole v l (entry_at v l (get_or puts k 0)).task) n or some_below (listed stored (number_of_put v l puts k)) i)
      ≡ (some_below (out_whole v l (entry_at v l (get_or puts k 0)).task) n or some_below (listed stored (number_of_put v l puts k)) (i + 1))
  other k d =
      ap (λ (y : Bool). some_below (out_whole v l (entry_at v l (get_or puts k 0)).task) n or y)
      (sym (up_miss (listed stored (number_of_put v l puts k)) i i refl refl (ne_eqb _ _ d)))

  pub lists_none : FoundBy v l puts c (get_or stored i 0) c → Marked v l n stored (i + 1) puts c seen
  lists_none F k h = M k h ∙ other k (λ q. eqb-false _ _ (F.none refl k h) (sym q))

  module _ (rising : Rising v l puts c) (k : ℕ) (b : k < c) (e : number_of_put v l puts k ≡ get_or stored i 0) (room : k < length seen)
      (one : (x : ℕ) → x < c → number_of_put v l puts x ≡ number_of_put v l puts k → x ≡ k) where
    listed_now : true ≡ (some_below (out_whole v l (entry_at v l (get_or puts k 0)).task) n or some_below (listed stored (number_of_put v l puts k)) (i + 1))
    listed_now =
        sym
        (ap (λ (y : Bool). some_below (out_whole v l (entry_at v l (get_or puts k 0)).task) n or y)
        (sym (some_at (listed stored (number_of_put v l puts k)) (i + 1) i (omega arith) refl (eq-eqb _ _ (sym e))))
        ∙ or_true _)

    at : (x : ℕ) (y : Bool) → eqb x k ≡ y → x < c → get_or (set seen k true) x false
        ≡ (some_below (out_whole v l (entry_at v l (get_or puts x 0)).task) n or some_below (listed stored (number_of_put v l puts x)) (i + 1))
    at x true q h =
        subst (λ (z : ℕ). get_or (set seen k true) z false ≡ (some_below (out_whole v l (entry_at v l (get_or puts z 0)).task) n or some_below (listed stored (number_of_put v l puts z)) (i + 1)))
        (sym (eqb-true x k q)) (get_or-set_same seen k true false room ∙ listed_now)
    at x false q h =
        get_or-set_other seen k x true false (eqb-false x k q)
        ∙ M x h ∙ other x (λ r. eqb-false x k q (one x h (sym r ∙ sym e)))

    pub lists_one : Marked v l n stored (i + 1) puts c (set seen k true)
    lists_one x h = at x (eqb x k) refl h

-- all are marked, as the library tells it
pub all_marked_by : (seen : List Bool) (r : Bool) → (IsTrue r ↔ EachIndex seen (λ k. get_or seen k false ≡ true)) → r ≡ all_below (is_marked seen) (length seen)
all_marked_by seen true e = sym (all_true (is_marked seen) (length seen) (e.0 refl))
all_marked_by seen false e = by_whole (all_below (is_marked seen) (length seen)) refl
  where
    by_whole : (y : Bool) → all_below (is_marked seen) (length seen) ≡ y → false ≡ all_below (is_marked seen) (length seen)
    by_whole true h = absurd (true≢false (sym (e.1 (λ k g. all_at (is_marked seen) (length seen) k h g))))
    by_whole false h = sym h
