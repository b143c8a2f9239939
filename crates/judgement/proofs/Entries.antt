-- The words of entries: where they stand in the bytes, and when two entries have one task.
use mathlib.Core.Path.{◌≡◌, refl, sym, ap, ◌∙◌, subst}
use mathlib.Core.Bool.{Bool, true, false}
use mathlib.Core.List.{List}
use Prim.Native.Nat.{ℕ, ◌+◌, ◌*◌, ◌≤◌, ◌<◌}
use native.Mathlib.Omega.{arith}
use lib.Dec.{ltb}
use lib.ListN.{get_or}
use borrow.Author.Tests.{ltb-true, ltb-false}
use Rattle.model.specs.Tasks.{word_in, same_task}
use Rattle.model.specs.Answers.{entry_length}
use Rattle.model.specs.Counts.{entry_at}
use Rattle.model.proofs.Tasks.{same_words, word_gathered, same_task_lem, task_same}

module _ (v : ℕ) (l : List ℕ) where
  module _ (i j : ℕ) where
    -- the first k words of both tasks are the same
    abbrev pub Alike : ℕ → Type 0
    Alike k = (x : ℕ) → x < k → get_or l (entry_length v * i + 2 + x) 0 ≡ get_or l (entry_length v * j + 2 + x) 0

    pub alike_none : Alike 0
    alike_none x h = absurd (omega (arith, h))

    pub alike_next : (k : ℕ) → Alike k → get_or l (entry_length v * i + 2 + k) 0 ≡ get_or l (entry_length v * j + 2 + k) 0 → Alike (k + 1)
    alike_next k a e x h = by_place (ltb x k) refl
      where
        by_place : (y : Bool) → ltb x k ≡ y → get_or l (entry_length v * i + 2 + x) 0 ≡ get_or l (entry_length v * j + 2 + x) 0
        by_place true q = a x (ltb-true x k q)
        by_place false q =
            let d = ltb-false x k q in
            subst (λ (z : ℕ). get_or l (entry_length v * i + 2 + z) 0 ≡ get_or l (entry_length v * j + 2 + z) 0) {x = k} {y = x} (omega (arith, d, h)) e

    pub alike : Alike (v + 1) → same_task (entry_at v l i).task (entry_at v l j).task ≡ true
    alike e = task_same _ _ (same_words (v + 1) _ _ e)

    by : (y : Bool) → same_task (entry_at v l i).task (entry_at v l j).task ≡ y → (x : ℕ) → x < v + 1 → v ≤ 4
        → (get_or l (entry_length v * i + 2 + x) 0 ≡ get_or l (entry_length v * j + 2 + x) 0 → ⊥) → same_task (entry_at v l i).task (entry_at v l j).task ≡ false
    by true q x h w d =
        let five : v + 1 ≤ 5 = omega (arith, w) in
        absurd (d (sym (word_gathered (v + 1) x _ h five) ∙ ap (λ t. word_in t x) (same_task_lem _ _ q) ∙ word_gathered (v + 1) x _ h five))
    by false q x h w d = q

    pub unlike : (x : ℕ) → x < v + 1 → v ≤ 4
        → (get_or l (entry_length v * i + 2 + x) 0 ≡ get_or l (entry_length v * j + 2 + x) 0 → ⊥) → same_task (entry_at v l i).task (entry_at v l j).task ≡ false
    unlike = by (same_task (entry_at v l i).task (entry_at v l j).task) refl
