-- The hand-outs, entry by entry: counted, and their puts marked.
use mathlib.Core.Path.{◌≡◌, refl, sym, ap, ◌∙◌, subst}
use mathlib.Core.Bool.{Bool, true, false, not}
use mathlib.Core.List.{List, []}
use Prim.Native.Nat.{ℕ, ◌+◌, ◌≤◌, ◌<◌}
use native.Mathlib.Omega.{arith}
use native.Mathlib.Numerals.{add-one}
use lib.Dec.{eqb}
use lib.ListN.{length, get_or, set}
use lib.Seq.{get_or-set_same, get_or-set_other}
use borrow.Author.Tests.{ne_eqb, eqb-true, eqb-false}
use Rattle.model.specs.Tests.{when◌then◌else◌, ◌and◌, ◌or◌}
use Rattle.model.specs.declared.Task.{Task}
use Rattle.model.specs.Tasks.{same_task}
use Rattle.model.specs.Counts.{entry_at, is_kind, some_below, count_below, out_as, out_whole, out_first}
use Rattle.model.proofs.Tasks.{same_task_lem, task_same}
use Rattle.model.proofs.Tests.{holds, fails, and_left, and_right, and_both, and_false}
use Rattle.model.proofs.Below.{some_at, up_miss, some_same}
use Rattle.judgement.specs.Judgement.{all_below, finished_as, justified, listed}
use Rattle.puts.specs.Puts.{number_of_put, Rising, Gathered, RepeatsPut}
use Rattle.marks.specs.Marks.{Marked}
use Rattle.judgement.proofs.All.{all_at, all_next, all_fails, some_found}
use Rattle.puts.proofs.Repeating.{one_place, same_put}

pub mark_start : (v : ℕ) (l stored puts : List ℕ) (c : ℕ) (seen : List Bool) → ((k : ℕ) → get_or seen k false ≡ false) → Marked v l 0 stored 0 puts c seen
unfolding some_below ◌or◌
mark_start v l stored puts c seen z k h = z k

-- what is known after j entries: all hand-outs justified, so many of them, of so many puts, and these marked
module _ (v : ℕ) (l puts : List ℕ) (c : ℕ) where
  pub record Told (j outs firsts : ℕ) (seen : List Bool) : Type 0 where
    pub fine : all_below (justified v l) j ≡ true
    pub outs_are : outs ≡ count_below (is_kind v l 2) j
    pub firsts_are : firsts ≡ count_below (out_first v l) j
    pub marks : (stored : List ℕ) → Marked v l j stored 0 puts c seen

  pub told_start : (seen : List Bool) → ((k : ℕ) → get_or seen k false ≡ false) → Told 0 0 0 seen
  unfolding all_below count_below
  told_start seen z = record { fine = refl; outs_are = refl; firsts_are = refl; marks = λ stored. mark_start v l stored puts c seen z }

module _ (v : ℕ) (l : List ℕ) (n : ℕ) (puts : List ℕ) (c : ℕ) (G : Gathered v l n puts c) (R : Rising v l puts c) where
  same_whole : (i k : ℕ) → i < n → k < c → (entry_at v l i).task.number ≡ number_of_put v l puts k → some_below (finished_as v l i) i ≡ true → same_task (entry_at v l i).task (entry_at v l (get_or puts k 0)).task ≡ true
  same_whole i k h b q e =
      let g = some_found (finished_as v l i) i e in
      let p = g.2 in
      let d = same_task_lem (entry_at v l g.0).task (entry_at v l i).task (and_right _ _ p) in
      let s = same_put v l n puts c G R g.0 k (let z = g.1 in omega (arith, z, h)) (and_left _ _ p) b (ap (λ (t : Task). t.number) d ∙ q) in
      task_same _ _ (sym d ∙ ap (λ (x : ℕ). (entry_at v l x).task) s)

  justified_out : (i : ℕ) → is_kind v l 2 i ≡ true → justified v l i ≡ true → some_below (finished_as v l i) i ≡ true
  unfolding ◌or◌
  justified_out i e h = rw e at h

  by_number : (i k : ℕ) (y z : Bool) → is_kind v l 2 i ≡ y → eqb (entry_at v l i).task.number (number_of_put v l puts k) ≡ z → i < n → k < c → justified v l i ≡ true
      → out_as v l (number_of_put v l puts k) i ≡ out_whole v l (entry_at v l (get_or puts k 0)).task i
  by_number i k false z e f h b o = fails _ e ∙ sym (fails _ e)
  by_number i k true false e f h b o = ap (λ (y : Bool). is_kind v l 2 i and y) (f ∙ sym (fails _ f))
  by_number i k true true e f h b o =
      ap (λ (y : Bool). is_kind v l 2 i and y)
      (f ∙ sym (same_whole i k h b (eqb-true _ _ f) (justified_out i e o)))

  same_outs : (j k : ℕ) → j ≤ n → k < c → all_below (justified v l) j ≡ true → some_below (out_as v l (number_of_put v l puts k)) j ≡ some_below (out_whole v l (entry_at v l (get_or puts k 0)).task) j
  same_outs j k h b o =
      some_same _ _ j
      (λ i g. by_number i k (is_kind v l 2 i) (eqb (entry_at v l i).task.number (number_of_put v l puts k)) refl refl (omega (arith, g, h)) b (all_at (justified v l) j i o g))

  -- an entry that hands nothing out
  module _ (j : ℕ) (e : is_kind v l 2 j ≡ false) where
    pub still_justified : justified v l j ≡ true
    unfolding ◌or◌
    still_justified = rw e

    pub no_first : out_first v l j ≡ false
    no_first = fails _ e

    pub still_marked : (stored : List ℕ) (seen : List Bool) (i : ℕ) → Marked v l j stored i puts c seen → Marked v l (j + 1) stored i puts c seen
    still_marked stored seen i M k h =
        M k h ∙ ap (λ (y : Bool). y or some_below (listed stored (number_of_put v l puts k)) i)
        (sym (up_miss (out_whole v l (entry_at v l (get_or puts k 0)).task) j j refl refl (fails _ e)))

  -- hand-out j, which repeats the k-th put
  module _ (j k : ℕ) (within : j < n) (e : is_kind v l 2 j ≡ true) (P : RepeatsPut v l puts c j k) (b : k < c) where
    at_put : (get_or puts k 0 < j) × (finished_as v l j (get_or puts k 0) ≡ true)
    at_put = P.found b

    task_is : (entry_at v l (get_or puts k 0)).task ≡ (entry_at v l j).task
    task_is = same_task_lem _ _ (and_right _ _ at_put.1)

    number_is : number_of_put v l puts k ≡ (entry_at v l j).task.number
    number_is = ap (λ (t : Task). t.number) task_is

    pub repeats_justified : justified v l j ≡ true
    unfolding ◌or◌
    repeats_justified = rw (e, sym (some_at (finished_as v l j) j (get_or puts k 0) at_put.0 refl at_put.1))

    hands_it_out : out_whole v l (entry_at v l (get_or puts k 0)).task j ≡ true
    hands_it_out = and_both _ _ e (task_same _ _ (sym task_is))

    out_now : some_below (out_whole v l (entry_at v l (get_or puts k 0)).task) (j + 1) ≡ true
    out_now = sym (some_at (out_whole v l (entry_at v l (get_or puts k 0)).task) (j + 1) j (omega arith) refl hands_it_out)

    no_other : (x : ℕ) → x < c → (x ≡ k → ⊥) → out_whole v l (entry_at v l (get_or puts x 0)).task j ≡ false
    no_other x h d =
        ap (λ (y : Bool). is_kind v l 2 j and y)
        (fails _ (ne_eqb _ _ (λ q. d (one x h (number_is ∙ q)))))
        ∙ and_false (is_kind v l 2 j)
      where
        one : (x : ℕ) → x < c → number_of_put v l puts k ≡ (entry_at v l (get_or puts x 0)).task.number → x ≡ k
        one x h q = one_place v l n puts c G R x k h b (sym q)

    other_still : (stored : List ℕ) (i x : ℕ) → x < c → (x ≡ k → ⊥)
        → (some_below (out_whole v l (entry_at v l (get_or puts x 0)).task) j or some_below (listed stored (number_of_put v l puts x)) i)
        ≡ (some_below (out_whole v l (entry_at v l (get_or puts x 0)).task) (j + 1) or some_below (listed stored (number_of_put v l puts x)) i)
    other_still stored i x h d =
        ap (λ (y : Bool). y or some_below (listed stored (number_of_put v l puts x)) i)
        (sym (up_miss (out_whole v l (entry_at v l (get_or puts x 0)).task) j j refl refl (no_other x h d)))

    marked_now : (stored : List ℕ) (i : ℕ) → true ≡ (some_below (out_whole v l (entry_at v l (get_or puts k 0)).task) (j + 1) or some_below (listed stored (number_of_put v l puts k)) i)
    unfolding ◌or◌
    marked_now stored i = rw out_now

    first_by : (o : all_below (justified v l) j ≡ true) (y : Bool) → some_below (out_whole v l (entry_at v l (get_or puts k 0)).task) j ≡ y → out_first v l j ≡ not y
    first_by o y q =
        holds e ∙ ap not (ap (λ (x : ℕ). some_below (out_as v l x) j) (sym number_is) ∙ same_outs j k (omega (arith, within)) b o ∙ q)

    was_out : (stored : List ℕ) (seen : List Bool) (y z : Bool) → some_below (out_whole v l (entry_at v l (get_or puts k 0)).task) j ≡ z → Marked v l j stored 0 puts c seen
        → get_or seen k false ≡ y → z ≡ y
    unfolding some_below ◌or◌
    was_out stored seen y true q M s = let m = M k b in sym (rw q at m) ∙ s
    was_out stored seen y false q M s = let m = M k b in sym (rw q at m) ∙ s

  count_same : (p : ℕ → Bool) (j m : ℕ) → m ≡ count_below p j → p j ≡ false → m ≡ count_below p (j + 1)
  unfolding count_below when◌then◌else◌
  count_same p j m e h = e ∙ rw (add-one j, h)

  count_more : (p : ℕ → Bool) (j m : ℕ) → m ≡ count_below p j → p j ≡ true → m + 1 ≡ count_below p (j + 1)
  unfolding count_below when◌then◌else◌
  count_more p j m e h = rw (add-one j, h, e)

  module _ (j outs firsts : ℕ) (seen : List Bool) (T : Told v l puts c j outs firsts seen) where
    pub told_skip : is_kind v l 2 j ≡ false → Told v l puts c (j + 1) outs firsts seen
    told_skip e =
        record {
          fine = all_next (justified v l) j T.fine (still_justified j e);
          outs_are = count_same (is_kind v l 2) j outs T.outs_are e;
          firsts_are = count_same (out_first v l) j firsts T.firsts_are (no_first j e);
          marks = λ stored. still_marked j e stored seen 0 (T.marks stored);
        }

    module _ (k : ℕ) (within : j < n) (e : is_kind v l 2 j ≡ true) (P : RepeatsPut v l puts c j k) (b : k < c) where
      again_at : (stored : List ℕ) → get_or seen k false ≡ true → (x : ℕ) (y : Bool) → eqb x k ≡ y → x < c → get_or seen x false
          ≡ (some_below (out_whole v l (entry_at v l (get_or puts x 0)).task) (j + 1) or some_below (listed stored (number_of_put v l puts x)) 0)
      again_at stored s x true q h =
          subst (λ (i : ℕ). get_or seen i false ≡ (some_below (out_whole v l (entry_at v l (get_or puts i 0)).task) (j + 1) or some_below (listed stored (number_of_put v l puts i)) 0))
          (sym (eqb-true x k q)) (s ∙ marked_now j k within e P b stored 0)
      again_at stored s x false q h = T.marks stored x h ∙ other_still j k within e P b stored 0 x h (eqb-false x k q)

      pub told_again : get_or seen k false ≡ true → Told v l puts c (j + 1) (outs + 1) firsts seen
      told_again s =
          record {
            fine = all_next (justified v l) j T.fine (repeats_justified j k within e P b);
            outs_are = count_more (is_kind v l 2) j outs T.outs_are e;
            firsts_are =
                count_same (out_first v l) j firsts T.firsts_are
                (first_by j k within e P b T.fine _ refl ∙ ap not (was_out j k within e P b [] seen true _ refl (T.marks []) s));
            marks = λ stored x h. again_at stored s x (eqb x k) refl h;
          }

      first_at : (stored : List ℕ) → k < length seen → (x : ℕ) (y : Bool) → eqb x k ≡ y → x < c → get_or (set seen k true) x false
          ≡ (some_below (out_whole v l (entry_at v l (get_or puts x 0)).task) (j + 1) or some_below (listed stored (number_of_put v l puts x)) 0)
      first_at stored r x true q h =
          subst (λ (i : ℕ). get_or (set seen k true) i false ≡ (some_below (out_whole v l (entry_at v l (get_or puts i 0)).task) (j + 1) or some_below (listed stored (number_of_put v l puts i)) 0))
          (sym (eqb-true x k q)) (get_or-set_same seen k true false r ∙ marked_now j k within e P b stored 0)
      first_at stored r x false q h =
          get_or-set_other seen k x true false (eqb-false x k q)
          ∙ T.marks stored x h ∙ other_still j k within e P b stored 0 x h (eqb-false x k q)

      pub told_first : get_or seen k false ≡ false → k < length seen → Told v l puts c (j + 1) (outs + 1) (firsts + 1) (set seen k true)
      told_first s r =
          record {
            fine = all_next (justified v l) j T.fine (repeats_justified j k within e P b);
            outs_are = count_more (is_kind v l 2) j outs T.outs_are e;
            firsts_are =
                count_more (out_first v l) j firsts T.firsts_are
                (first_by j k within e P b T.fine _ refl ∙ ap not (was_out j k within e P b [] seen false _ refl (T.marks []) s));
            marks = λ stored x h. first_at stored r x (eqb x k) refl h;
          }

  -- a hand-out that repeats no put
  unjustified : (j : ℕ) → is_kind v l 2 j ≡ true → some_below (finished_as v l j) j ≡ false → justified v l j ≡ false
  unfolding ◌or◌
  unjustified j e h = rw (e, h)

  pub not_justified : (j : ℕ) → j < n → is_kind v l 2 j ≡ true → RepeatsPut v l puts c j c → all_below (justified v l) n ≡ false
  not_justified j h e P = all_fails (justified v l) n j h (unjustified j e (P.none refl))
