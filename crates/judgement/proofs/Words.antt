-- Word k of the bytes stands at byte 4k.
use mathlib.Core.List.{List, [], ◌∷◌}
use mathlib.Core.Path.{◌≡◌, refl, sym, ap, ◌∙◌}
use Prim.Native.Nat.{ℕ, zero, suc, ◌+◌, ◌*◌, ◌<◌}
use native.Mathlib.Omega.{arith}
use lib.ListN.{length, get_or}
use Rattle.std.specs.Int.{w32, from_le_bytes}
use Rattle.judgement.specs.Judgement.{words_of}

-- the four bytes from byte i on
abbrev pub four : List ℕ → ℕ → ℕ
four s i = get_or s i 0 + 256 * get_or s (suc i) 0 + 65536 * get_or s (suc (suc i)) 0 + 16777216 * get_or s (suc (suc (suc i))) 0

pub word_is : (s : List ℕ) (k : ℕ) → 4 * k + 3 < length s → get_or (words_of s) k 0 ≡ four s (4 * k)
unfolding words_of
word_is [] k h = absurd (omega (arith, h))
word_is (a ∷ []) k h = absurd (omega (arith, h))
word_is (a ∷ b ∷ []) k h = absurd (omega (arith, h))
word_is (a ∷ b ∷ c ∷ []) k h = absurd (omega (arith, h))
word_is (a ∷ b ∷ c ∷ d ∷ s) zero h = refl
word_is (a ∷ b ∷ c ∷ d ∷ s) (suc k) h =
    let e : suc (suc (suc (suc (4 * k)))) ≡ 4 * suc k = omega arith in
    word_is s k (omega (arith, h)) ∙ ap (λ (i : ℕ). four (a ∷ b ∷ c ∷ d ∷ s) i) e

four_bytes : (a b c d : ℕ) → a + 256 * b + 65536 * c + 16777216 * d ≡ from_le_bytes w32 (a ∷ b ∷ c ∷ d ∷ [])
four_bytes a b c d = omega arith

-- a word as the library reads it from its four bytes
pub word_at : (s : List ℕ) (k : ℕ) → 4 * k + 3 < length s → from_le_bytes w32 (get_or s (4 * k) 0 ∷ get_or s (4 * k + 1) 0 ∷ get_or s (4 * k + 2) 0 ∷ get_or s (4 * k + 3) 0 ∷ []) ≡ get_or (words_of s) k 0
word_at s k h =
    let one : 4 * k + 1 ≡ suc (4 * k) = omega arith in
    let two : 4 * k + 2 ≡ suc (suc (4 * k)) = omega arith in
    let three : 4 * k + 3 ≡ suc (suc (suc (4 * k))) = omega arith in
    rw (one, two, three) (sym (word_is s k h ∙ four_bytes _ _ _ _))
