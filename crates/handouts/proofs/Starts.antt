-- Words and tasks from a start on.
use mathlib.Core.Path.{◌≡◌, sym, ap, ◌∙◌}
use mathlib.Core.Logic.{◌⊎◌, inl, inr}
use mathlib.Core.List.{List}
use Prim.Native.Nat.{ℕ, zero, suc, ◌+◌, ◌*◌, ◌≤◌, ◌<◌}
use native.Mathlib.Omega.{arith}
use native.Mathlib.Numerals.{add-one}
use lib.ListN.{length, get_or, get_or-eq_default}
use Rattle.model.specs.Tasks.{payload, task, gathered}
use Rattle.model.specs.Answers.{entry_length}
use Rattle.model.specs.Counts.{entry_at}
use Rattle.model.proofs.Tasks.{same_words, entry_number}
use Rattle.handouts.specs.Starts.{Starts}

-- the words from there on
pub from_start : (m : List ℕ) (e c r x : ℕ) → length m ≤ 2305843009213693952 → Starts e c r → get_or m (r + x) 0 ≡ get_or m (e * c + x) 0
from_start m e c r x h S = by S.is
  where
    by : (r ≡ e * c) ⊎ ((2305843009213693952 ≤ r) × (2305843009213693952 ≤ e * c)) → get_or m (r + x) 0 ≡ get_or m (e * c + x) 0
    by (inl q) = ap (λ (n : ℕ). get_or m (n + x) 0) q
    by (inr (a, b)) =
        get_or-eq_default m 0 {n = r + x} (omega (arith, a, h)) ∙ sym (get_or-eq_default m 0 {n = e * c + x} (omega (arith, b, h)))

-- a task of its words, those that it has not 0
pub task_is : (v : ℕ) (f : ℕ → ℕ) (n a b c d : ℕ) → n ≡ f 0 → (1 ≤ v → a ≡ f 1) × (v < 1 → a ≡ 0) → (2 ≤ v → b ≡ f 2) × (v < 2 → b ≡ 0)
    → (3 ≤ v → c ≡ f 3) × (v < 3 → c ≡ 0) → (4 ≤ v → d ≡ f 4) × (v < 4 → d ≡ 0) → task n (payload a b c d) ≡ gathered (v + 1) f
unfolding gathered
task_is zero f n a b c d e g h i j = rw (e, g.1 (omega arith), h.1 (omega arith), i.1 (omega arith), j.1 (omega arith))
task_is (suc zero) f n a b c d e g h i j = rw (e, g.0 (omega arith), h.1 (omega arith), i.1 (omega arith), j.1 (omega arith))
task_is (suc (suc zero)) f n a b c d e g h i j = rw (e, g.0 (omega arith), h.0 (omega arith), i.1 (omega arith), j.1 (omega arith))
task_is (suc (suc (suc zero))) f n a b c d e g h i j = rw (e, g.0 (omega arith), h.0 (omega arith), i.0 (omega arith), j.1 (omega arith))
task_is (suc (suc (suc (suc v)))) f n a b c d e g h i j = rw (add-one (suc (suc (suc (suc v)))), e, g.0 (omega arith), h.0 (omega arith), i.0 (omega arith), j.0 (omega arith))

-- what an entry's words are, read from its start on
module _ (v : ℕ) (l : List ℕ) (j r : ℕ) (h : length l ≤ 2305843009213693952) (S : Starts (entry_length v) j r) where
  pub kind_is : get_or l r 0 ≡ (entry_at v l j).kind
  kind_is =
      ap (λ (n : ℕ). get_or l n 0) (let z : r ≡ r + 0 = omega arith in z)
      ∙ from_start l (entry_length v) j r 0 h S ∙ ap (λ (n : ℕ). get_or l n 0) (let z : entry_length v * j + 0 ≡ entry_length v * j = omega arith in z)

  word_is : (k : ℕ) → get_or l (r + 2 + k) 0 ≡ get_or l (entry_length v * j + 2 + k) 0
  word_is k =
      ap (λ (n : ℕ). get_or l n 0) (let z : r + 2 + k ≡ r + (2 + k) = omega arith in z)
      ∙ from_start l (entry_length v) j r (2 + k) h S
      ∙ ap (λ (n : ℕ). get_or l n 0) (let z : entry_length v * j + (2 + k) ≡ entry_length v * j + 2 + k = omega arith in z)

  pub number_is : get_or l (r + 2) 0 ≡ (entry_at v l j).task.number
  number_is = from_start l (entry_length v) j r 2 h S ∙ sym (entry_number v l j)

  pub entry_task_is : gathered (v + 1) (λ k. get_or l (r + 2 + k) 0) ≡ (entry_at v l j).task
  entry_task_is = same_words (v + 1) _ _ (λ k _. word_is k)
