-- Laws of `all_below` and of `total_of`: what a loop up keeps, at a test that fails and at its end; and what they say of each queue.
use mathlib.Core.Path.{◌≡◌, refl, sym, ap, ◌∙◌, subst}
use mathlib.Core.Bool.{Bool, true, false}
use mathlib.Core.Logic.{⊎_elim}
use Prim.Native.Nat.{ℕ, zero, suc, ◌+◌, ◌≤◌, ◌<◌}
use native.Mathlib.Omega.{arith}
use native.Mathlib.Nat.{eq-or-lt_of_le}
use native.Mathlib.Numerals.{add-one}
use mathlib.Core.List.{List, [], ◌∷◌}
use lib.ListN.{length, get_or, take}
use Rattle.std.proofs.Common.{◌&&◌}
use Rattle.std.specs.List.{list_all}
use Rattle.std.proofs.lemmas.List.Folds.{list_all_more}
use Rattle.model.specs.declared.Bench.{Bench}
use Rattle.model.specs.declared.Plot.{Plot}
use Rattle.model.specs.Tests.{◌and◌}
use Rattle.model.specs.Yard.{no_plot, all_below, total_of}
use Rattle.model.proofs.Tests.{and_false, and_both, and_left, and_right, fails}

-- nor on the front that it is read from
pub taken_at : {A : Type 0} (l : List A) (n i : ℕ) (d e : A) → n ≤ length l → i < n → get_or (take n l) i d ≡ get_or l i e
taken_at l zero i d e h g = absurd (let z : ⊥ = omega arith in z)
taken_at [] (suc n) i d e h g = absurd (let z : ⊥ = omega arith in z)
taken_at (x ∷ l) (suc n) zero d e h g = refl
taken_at (x ∷ l) (suc n) (suc i) d e h g = taken_at l n i d e (omega arith) (omega arith)

module _ (p : ℕ → Bool) where
  -- nothing is tested yet
  pub none_yet : all_below p 0 ≡ true
  unfolding all_below
  none_yet = refl

  -- one more passes
  pub one_more_lem : {x : Bool} (k : ℕ) → all_below p k ≡ true → x ≡ p k → x ≡ true → all_below p (k + 1) ≡ true
  unfolding all_below
  one_more_lem k i e t = rw (add-one k) (and_both (all_below p k) (p k) i (sym e ∙ t))

  -- one that fails decides it
  pub one_fails : {x : Bool} (n k : ℕ) → k < n → x ≡ p k → x ≡ false → all_below p n ≡ false
  unfolding all_below
  one_fails zero k h e f = absurd (let z : ⊥ = omega arith in z)
  one_fails (suc n) k h e f =
      ⊎_elim (λ q. ap (λ (x : Bool). all_below p n and x) (ap p (sym q) ∙ sym e ∙ f) ∙ and_false (all_below p n))
      (λ q. fails (p n) (one_fails n k q e f)) (eq-or-lt_of_le (let le : k ≤ n = omega arith in le))

  -- all have passed
  pub all_passed : (n k : ℕ) → all_below p k ≡ true → k ≤ n → n ≤ k → true ≡ all_below p n
  all_passed n k i a b = sym (subst (λ (x : ℕ). all_below p x ≡ true) {x = k} {y = n} (omega arith) i)

  -- each has passed
  pub each : (n k : ℕ) → all_below p n ≡ true → k < n → p k ≡ true
  unfolding all_below
  each zero k i h = absurd (let z : ⊥ = omega arith in z)
  each (suc n) k i h =
      ⊎_elim (λ q. subst (λ (x : ℕ). p x ≡ true) (sym q) (and_right (all_below p n) (p n) i))
      (λ q. each n k (and_left (all_below p n) (p n) i) q) (eq-or-lt_of_le (let le : k ≤ n = omega arith in le))

-- a test of two parts may be made part by part
two_parts : (a b c d : Bool) → ((a and b) and c and d) ≡ ((a and c) and b and d)
unfolding ◌and◌
two_parts true true c d = refl
two_parts true false true d = refl
two_parts true false false d = refl
two_parts false b c d = refl

pub by_parts : (p a b : ℕ → Bool) → ((k : ℕ) → p k ≡ (a k and b k)) → (n : ℕ) → all_below p n ≡ (all_below a n and all_below b n)
unfolding all_below ◌and◌
by_parts p a b e zero = refl
by_parts p a b e (suc n) =
    ap (λ (x : Bool). x and p n) (by_parts p a b e n)
    ∙ ap (λ (x : Bool). (all_below a n and all_below b n) and x) (e n) ∙ two_parts (all_below a n) (all_below b n) (a n) (b n)

-- std's test of each element, over the first n
and_is : (a b : Bool) → (a && b) ≡ (a and b)
unfolding ◌and◌
and_is true b = refl
and_is false b = refl

pub all_taken : {A : Type 0} (f : A → Bool) (d : A) (l : List A) (p : ℕ → Bool) (n : ℕ) → n ≤ length l → ((k : ℕ) → k < n → f (get_or l k d) ≡ p k) → list_all f (take n l) ≡ all_below p n
unfolding all_below
all_taken f d l p zero h e = refl
all_taken f d l p (suc n) h e =
    let more : list_all f (take (suc n) l) ≡ (list_all f (take n l) && f (get_or l n d)) = rw (add-one n) at (list_all_more f l n d (omega arith)) in
    more ∙ and_is _ _
    ∙ ap (λ (x : Bool). x and f (get_or l n d)) (all_taken f d l p n (omega arith) (λ k g. e k (omega arith)))
    ∙ ap (λ (x : Bool). all_below p n and x) (e n (omega arith))

-- sums
module _ (f : Bench → ℕ) (ps : List Plot) where
  pub nothing_yet : 0 ≡ total_of f ps 0
  unfolding total_of
  nothing_yet = refl

  pub and_next : {t x : ℕ} (k : ℕ) → t ≡ total_of f ps k → x ≡ f (get_or ps k no_plot).bench → t + x ≡ total_of f ps (k + 1)
  unfolding total_of
  and_next k e g = rw (add-one k) (omega (arith, e, g))

  pub all_summed : {t : ℕ} (n k : ℕ) → t ≡ total_of f ps k → k ≤ n → n ≤ k → t ≡ total_of f ps n
  all_summed {t} n k e a b = subst (λ (x : ℕ). t ≡ total_of f ps x) {x = k} {y = n} (omega arith) e

  -- each has its part in it
  pub part_of : (n r : ℕ) → r < n → f (get_or ps r no_plot).bench ≤ total_of f ps n
  unfolding total_of
  part_of zero r h = absurd (let z : ⊥ = omega arith in z)
  part_of (suc n) r h =
      ⊎_elim (λ q. let s : f (get_or ps r no_plot).bench ≡ f (get_or ps n no_plot).bench = ap (λ (k : ℕ). f (get_or ps k no_plot).bench) q in omega (arith, s))
      (λ q. let l = part_of n r q in omega (arith, l)) (eq-or-lt_of_le (let le : r ≤ n = omega arith in le))
