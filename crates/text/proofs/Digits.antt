-- Reading a number digit by digit.
use Prim.Native.Nat.{ℕ, ◌+◌, ◌-◌, ◌*◌, ◌≤◌, ◌<◌}
use native.Mathlib.Omega.{arith}
use native.Mathlib.Nat.{le_trans}
use mathlib.Core.Path.{◌≡◌, refl}
use mathlib.Core.Bool.{true, false, not}
use mathlib.Core.Logic.{◌⊎◌, inl, inr}
use mathlib.Core.List.{List, [], ◌∷◌}
use lib.ListN.{length, get_or, drop}
use lib.Dec.{leb, eqb}
use borrow.Author.Tests.{le-leb, lt-leb}
use Rattle.model.specs.Tests.{◌and◌, when◌then◌else◌}
use Rattle.text.specs.Numbers.{all_digits, plain, onward, value_of}
use Rattle.std.specs.declared.option.Option.{Option}
use Rattle.std.specs.declared.option.Option.TheVariants.{None, Some}
use Rattle.text.proofs.Lists.{and_false, next}

pub plain_none : (s : List ℕ) → length s ≡ 0 → plain s ≡ false
unfolding plain
plain_none [] e = refl
plain_none (b ∷ s) e = absurd (let z : ⊥ = omega arith in z)

pub plain_one : (s : List ℕ) → length s ≡ 1 → plain s ≡ true
unfolding plain
plain_one [] e = absurd (let z : ⊥ = omega arith in z)
plain_one (b ∷ []) e = refl
plain_one (b ∷ (d ∷ s)) e = absurd (let z : ⊥ = omega arith in z)

pub plain_more : (s : List ℕ) → (length s ≡ 0 → ⊥) → (length s ≡ 1 → ⊥) → plain s ≡ not (eqb (get_or s 0 0) 48)
unfolding plain
plain_more [] n0 n1 = absurd (n0 refl)
plain_more (b ∷ []) n0 n1 = absurd (n1 refl)
plain_more (b ∷ (d ∷ s)) n0 n1 = refl

-- what is read from v on
unfoldable pub read_on : ℕ → List ℕ → Option ℕ
read_on v s = when all_digits s and leb (onward v s) 4294967295 then Some (onward v s) else None

pub number_plain : (s : List ℕ) → plain s ≡ true → value_of s ≡ read_on 0 s
unfolding value_of read_on ◌and◌
number_plain s e = rw e

pub number_not : (s : List ℕ) → plain s ≡ false → value_of s ≡ None
unfolding value_of ◌and◌ when◌then◌else◌
number_not s e = rw e

pub read_other : (v b : ℕ) (s : List ℕ) → (b < 48) ⊎ (57 < b) → read_on v (b ∷ s) ≡ None
unfolding read_on all_digits ◌and◌ when◌then◌else◌
read_other v b s (inl h) = rw (lt-leb 48 b h)
read_other v b s (inr h) = let k : 48 ≤ b = omega arith in rw (le-leb 48 b k, lt-leb b 57 h)

pub read_digit : (v b : ℕ) (s : List ℕ) → 48 ≤ b → b ≤ 57 → read_on v (b ∷ s) ≡ read_on (v * 10 + (b - 48)) s
unfolding read_on all_digits onward ◌and◌
read_digit v b s h k = rw (le-leb 48 b h, le-leb b 57 k)

onward_grows : (v : ℕ) (s : List ℕ) → v ≤ onward v s
unfolding onward
onward_grows v [] = omega arith
onward_grows v (b ∷ s) = let h : v ≤ v * 10 + (b - 48) = omega arith in le_trans h (onward_grows (v * 10 + (b - 48)) s)

pub read_big : (v : ℕ) (s : List ℕ) → 4294967295 < v → read_on v s ≡ None
unfolding read_on when◌then◌else◌
read_big v s h =
    let k : 4294967295 < onward v s = omega (arith, onward_grows v s) in
    rw (and_false (all_digits s) (leb (onward v s) 4294967295) (lt-leb _ _ k))

pub read_end : (v : ℕ) → v ≤ 4294967295 → read_on v [] ≡ Some v
unfolding read_on all_digits onward ◌and◌ when◌then◌else◌
read_end v h = rw (le-leb v 4294967295 h)

-- the next digit makes the number too large, or is read
pub read_over : (v : ℕ) (s : List ℕ) (i : ℕ) → i < length s → 48 ≤ get_or s i 0 → get_or s i 0 ≤ 57 → 4294967295 < v * 10 + (get_or s i 0 - 48) → read_on v (drop i s) ≡ None
read_over v s i h l m k = rw (next s i h, read_digit v (get_or s i 0) (drop (i + 1) s) l m) (read_big _ _ k)

pub read_next : (v : ℕ) (s : List ℕ) (i : ℕ) → i < length s → 48 ≤ get_or s i 0 → get_or s i 0 ≤ 57 → read_on (v * 10 + (get_or s i 0 - 48)) (drop (i + 1) s) ≡ read_on v (drop i s)
read_next v s i h l m = rw (next s i h, read_digit v (get_or s i 0) (drop (i + 1) s) l m)
