-- The directory of arrays as the limits lay it out: sizes are powers of two, each twice the one before.
use mathlib.Core.Path.{◌≡◌, sym, ◌∙◌, ap, subst}
use mathlib.Core.Bool.{true}
use mathlib.Core.Logic.{◌⊎◌, inl, inr}
use mathlib.Core.List.{List}
use Prim.Native.Nat.{ℕ, zero, suc, ◌+◌, ◌*◌, ◌/◌, ◌^◌, ◌≤◌, ◌<◌}
use native.Mathlib.Omega.{arith}
use native.Mathlib.Nat.{mul-div_cancel_left, mul_left_comm, mul-one, pow-succ', eq-or-lt_of_le}
use lib.Dec.{eqb, leb}
use lib.Pow.{pow_pos, pow_mono}
use borrow.Author.Tests.{eqb-true, leb-true}
use Rattle.model.specs.declared.Region.{Region}
use Rattle.model.specs.Memory.{offset_at, length_at, size_at, end_at}
use Rattle.model.specs.Limits.{is_size, tidy}
use Rattle.model.proofs.Tests.{and_left, and_right, or_cases}

-- an array's size
abbrev pub Size : ℕ → Type 0
Size z = (e : ℕ) × (e ≤ 10) × (z ≡ 2 ^ e)

pub size_pos : {z : ℕ} → Size z → 0 < z
size_pos {z} (e, l, q) = omega (arith, pow_pos e)

pub size_le : {z : ℕ} → Size z → z ≤ 1024
size_le {z} (e, l, q) = omega (arith, pow_mono l)

pub size_twice : {z : ℕ} → Size z → 2 * z ≤ 1024 → Size (2 * z)
size_twice {z} (e, l, q) h = go (eq-or-lt_of_le l)
  where
    go : (e ≡ 10) ⊎ (e < 10) → Size (2 * z)
    go (inl a) = let top : z ≡ 1024 = q ∙ ap (λ (x : ℕ). 2 ^ x) a in absurd (omega (arith, top))
    go (inr a) = (suc e, a, ap (λ (x : ℕ). 2 * x) q ∙ sym (pow-succ' 2 e))

-- the test for a size
pub size_yes : (e c : ℕ) → e ≤ 10 → is_size e c ≡ true → Size c
size_yes zero c l q = (0, omega arith, eqb-true c 1 q)
size_yes (suc e) c l q = go (or_cases (eqb c (2 ^ suc e)) (is_size e c) q) (λ t. size_yes e c (omega arith) t)
  where
    go : (eqb c (2 ^ suc e) ≡ true) ⊎ (is_size e c ≡ true) → (is_size e c ≡ true → Size c) → Size c
    go (inl a) f = (suc e, l, eqb-true c (2 ^ suc e) a)
    go (inr b) f = f b

size_of : (v : ℕ) (l : List Region) (k z : ℕ) → length_at l k ≡ (v + 1) * z → size_at v l k ≡ z
unfolding size_at
size_of v l k z e = ap (λ (x : ℕ). x / (v + 1)) e ∙ mul-div_cancel_left z (omega arith)

-- one array after the other
pub record Next (v : ℕ) (l : List Region) (k : ℕ) : Type 0 where
  pub place : end_at l k ≤ offset_at l (suc k)
  pub longer : length_at l (suc k) ≡ 2 * length_at l k
  pub small : 2 * size_at v l k ≤ 1024

pub tidy_last : (v : ℕ) (l : List Region) (k : ℕ) → tidy v l (suc (suc k)) ≡ true → Next v l k
tidy_last v l k t =
    let a = and_right (tidy v l (suc k)) _ t in
    let b = and_right (leb (end_at l k) (offset_at l (suc k))) _ a in
    record {
      place = leb-true _ _ (and_left _ _ a);
      longer = eqb-true _ _ (and_left _ _ b);
      small = leb-true _ _ (and_right _ _ b);
    }

-- the front of a tidy directory is tidy
pub tidy_front : (v : ℕ) (l : List Region) (n k : ℕ) → tidy v l n ≡ true → k < n → tidy v l (suc k) ≡ true
tidy_front v l zero k t h = absurd (omega arith)
tidy_front v l (suc zero) k t h = subst (λ (x : ℕ). tidy v l (suc x) ≡ true) {x = 0} {y = k} (omega arith) t
tidy_front v l (suc (suc n)) k t h =
    go (eq-or-lt_of_le (let le : k ≤ suc n = omega arith in le)) (λ i. tidy_front v l (suc n) k (and_left (tidy v l (suc n)) _ t) i)
  where
    go : (k ≡ suc n) ⊎ (k < suc n) → (k < suc n → tidy v l (suc k) ≡ true) → tidy v l (suc k) ≡ true
    go (inl e) f = subst (λ (x : ℕ). tidy v l (suc x) ≡ true) (sym e) t
    go (inr i) f = f i

pub tidy_start : (v : ℕ) (l : List Region) → tidy v l 1 ≡ true → Size (size_at v l 0)
tidy_start v l t = size_yes 10 (size_at v l 0) (omega arith) (and_right _ _ t)

-- each array's length in words is that of its tasks
pub tidy_long : (v : ℕ) (l : List Region) (k : ℕ) → tidy v l (suc k) ≡ true → length_at l k ≡ (v + 1) * size_at v l k
tidy_long v l zero t = eqb-true _ _ (and_left _ _ t)
tidy_long v l (suc k) t =
    let e : length_at l (suc k) ≡ (v + 1) * (2 * size_at v l k) = omega (arith, (tidy_last v l k t).longer, tidy_long v l k (and_left (tidy v l (suc k)) _ t)) in
    e ∙ ap (λ (x : ℕ). (v + 1) * x) (sym (size_of v l (suc k) (2 * size_at v l k) e))

pub tidy_twice : (v : ℕ) (l : List Region) (k : ℕ) → tidy v l (suc (suc k)) ≡ true → size_at v l (suc k) ≡ 2 * size_at v l k
tidy_twice v l k t =
    size_of v l (suc k) (2 * size_at v l k) (omega (arith, (tidy_last v l k t).longer, tidy_long v l k (and_left (tidy v l (suc k)) _ t)))

pub tidy_size : (v : ℕ) (l : List Region) (k : ℕ) → tidy v l (suc k) ≡ true → Size (size_at v l k)
tidy_size v l zero t = tidy_start v l t
tidy_size v l (suc k) t =
    let N = tidy_last v l k t in
    subst Size (sym (tidy_twice v l k t)) (size_twice (tidy_size v l k (and_left (tidy v l (suc k)) _ t)) N.small)

-- each array's size is the first one's, doubled
pub tidy_doubled : (v : ℕ) (l : List Region) (k : ℕ) → tidy v l (suc k) ≡ true → size_at v l k ≡ size_at v l 0 * 2 ^ k
tidy_doubled v l zero t = sym (mul-one (size_at v l 0))
tidy_doubled v l (suc k) t =
    tidy_twice v l k t
    ∙ ap (λ (x : ℕ). 2 * x) (tidy_doubled v l k (and_left (tidy v l (suc k)) _ t))
    ∙ sym (ap (λ (x : ℕ). size_at v l 0 * x) (pow-succ' 2 k) ∙ mul_left_comm (size_at v l 0) 2 (2 ^ k))

-- and so the size that the queue keeps, doubled
pub tidy_kept : (v : ℕ) (l : List Region) (c k : ℕ) → c ≡ size_at v l 0 → tidy v l (suc k) ≡ true → size_at v l k ≡ c * 2 ^ k
tidy_kept v l c k e t = tidy_doubled v l k t ∙ ap (λ (x : ℕ). x * 2 ^ k) (sym e)
