-- Laws of the model's two recursions over 0 to n-1: what a loop up and a loop down keep.
use mathlib.Core.Path.{◌≡◌, refl, sym, ap, ◌∙◌}
use mathlib.Core.Bool.{Bool, true, false}
use mathlib.Core.Logic.{⊎_elim}
use Prim.Native.Nat.{ℕ, zero, suc, ◌+◌, ◌≤◌, ◌<◌}
use native.Mathlib.Omega.{arith}
use native.Mathlib.Nat.{eq-or-lt_of_le}
use native.Mathlib.Numerals.{add-one}
use Rattle.model.specs.Tests.{when◌then◌else◌, ◌or◌}
use Rattle.model.specs.Counts.{some_below, count_below}
use Rattle.model.proofs.Tests.{or_true, or_false}

module _ (p : ℕ → Bool) where
  -- a loop down that keeps `some_below p n ≡ some_below p j`, at its test of k = j - 1 and at its end
  pub some_hit : {x : Bool} (n j k : ℕ) → some_below p n ≡ some_below p j → j ≡ k + 1 → x ≡ p k → x ≡ true → true ≡ some_below p n
  unfolding some_below ◌or◌
  some_hit n j k i e h t = sym (i ∙ rw (e, add-one k, sym h ∙ t))

  pub some_miss : {x : Bool} (n j k : ℕ) → some_below p n ≡ some_below p j → j ≡ k + 1 → x ≡ p k → x ≡ false → some_below p n ≡ some_below p k
  unfolding some_below ◌or◌
  some_miss n j k i e h f = i ∙ rw (e, add-one k, sym h ∙ f)

  pub some_none : (n j : ℕ) → some_below p n ≡ some_below p j → j ≡ 0 → false ≡ some_below p n
  unfolding some_below
  some_none n j i e = sym (i ∙ rw e)

  -- one that passes is enough, wherever it stands
  pub some_at : {x : Bool} (n k : ℕ) → k < n → x ≡ p k → x ≡ true → true ≡ some_below p n
  unfolding some_below ◌or◌
  some_at zero k h e t = absurd (let z : ⊥ = omega arith in z)
  some_at (suc n) k h e t =
      ⊎_elim (λ q. let w : p n ≡ true = ap p (sym q) ∙ sym e ∙ t in rw w) (λ q. rw (sym (some_at n k q e t)) (sym (or_true (p n))))
      (eq-or-lt_of_le (let le : k ≤ n = omega arith in le))

  -- a loop up from h that keeps `some_below p j ≡ some_below p h`, after its test of j and at its end, where what lies below h is asked
  pub up_miss : {x : Bool} (h j : ℕ) → some_below p j ≡ some_below p h → x ≡ p j → x ≡ false → some_below p (j + 1) ≡ some_below p h
  unfolding some_below ◌or◌
  up_miss h j i e f = rw (add-one j, sym e ∙ f) i

  pub up_all : {r : Bool} (h n j : ℕ) → some_below p j ≡ some_below p h → j ≤ n → n ≤ j → r ≡ some_below p h → r ≡ some_below p n
  up_all h n j i a b e = e ∙ sym i ∙ ap (some_below p) (let z : j ≡ n = omega arith in z)

  -- a loop up that keeps `count ≡ count_below p j`, at its start, after its test of j and at its end
  pub count_none : 0 ≡ count_below p 0
  unfolding count_below
  count_none = refl

  pub count_next : {x : Bool} {count r : ℕ} (j : ℕ) → count ≡ count_below p j → x ≡ p j → r ≡ (when x then count + 1 else count) → r ≡ count_below p (j + 1)
  unfolding count_below
  count_next j i h e = e ∙ rw (i, h, add-one j)

  pub count_all : {count : ℕ} (n j : ℕ) → j ≤ n → n ≤ j → count ≡ count_below p j → count ≡ count_below p n
  count_all n j a b i = i ∙ ap (count_below p) (let e : j ≡ n = omega arith in e)

  pick : (x : Bool) (a n : ℕ) → a ≤ n → (when x then a + 1 else a) ≤ suc n
  unfolding when◌then◌else◌
  pick true a n h = omega arith
  pick false a n h = omega arith

  pub count_le : (n : ℕ) → count_below p n ≤ n
  unfolding count_below
  count_le zero = omega arith
  count_le (suc n) = pick (p n) (count_below p n) n (count_le n)

-- where no place passes a test, none passes a stricter one
pub none_stricter : (p q : ℕ → Bool) (n : ℕ) → ((k : ℕ) → p k ≡ false → q k ≡ false) → some_below p n ≡ false → some_below q n ≡ false
unfolding some_below ◌or◌
none_stricter p q zero f e = refl
none_stricter p q (suc n) f e = let o = or_false (p n) (some_below p n) e in rw (f n o.0) (none_stricter p q n f o.1)

-- tests that agree below n
pub some_same : (p q : ℕ → Bool) (n : ℕ) → ((i : ℕ) → i < n → p i ≡ q i) → some_below p n ≡ some_below q n
unfolding some_below
some_same p q zero f = refl
some_same p q (suc n) f = rw (f n (omega arith), some_same p q n (λ i h. f i (omega (arith, h))))

pub count_same : (p q : ℕ → Bool) (n : ℕ) → ((i : ℕ) → i < n → p i ≡ q i) → count_below p n ≡ count_below q n
unfolding count_below
count_same p q zero f = refl
count_same p q (suc n) f = rw (f n (omega arith), count_same p q n (λ i h. f i (omega (arith, h))))

-- a test that none passes
pub count_zero : (p : ℕ → Bool) (n : ℕ) → ((i : ℕ) → i < n → p i ≡ false) → count_below p n ≡ 0
unfolding count_below when◌then◌else◌
count_zero p zero f = refl
count_zero p (suc n) f = rw (f n (omega arith)) (count_zero p n (λ i h. f i (omega (arith, h))))
