-- Numbers as text: in base ten, without a sign or a leading zero; zero is `0`. A number is read up to 4,294,967,295, and printed up
-- to what 64 bits hold.
use Rattle.std.specs.Prelude.{ℕ, zero, suc, ◌+◌, ◌-◌, ◌*◌, ◌/◌, ◌%◌, Bool, true, false, not, List, [], ◌∷◌, ◌++◌, leb, ltb, eqb, ◌≡◌, length}
use Rattle.std.proofs.lemmas.List.Edits.{sets}
use Rattle.model.specs.Tests.{◌and◌, when◌then◌else◌}
use Rattle.std.specs.declared.option.Option.{Option}
use Rattle.std.specs.declared.option.Option.TheVariants.{None, Some}

-- every byte is one of `0` to `9`
unfoldable pub all_digits : List ℕ → Bool
all_digits [] = true
all_digits (b ∷ s) = leb 48 b and leb b 57 and all_digits s

-- not empty, and no `0` in front of another byte
unfoldable pub plain : List ℕ → Bool
plain [] = false
plain (b ∷ []) = true
plain (b ∷ (c ∷ s)) = not (eqb b 48)

-- v followed by the digits s
unfoldable pub onward : ℕ → List ℕ → ℕ
onward v [] = v
onward v (b ∷ s) = onward (v * 10 + (b - 48)) s

-- the number that a word is
unfoldable pub value_of : List ℕ → Option ℕ
value_of s =
    when plain s and all_digits s and leb (onward 0 s) 4294967295
    then Some (onward 0 s)
    else None

-- the digits of n, at most k of them
unfoldable pub spelled : ℕ → ℕ → List ℕ
spelled zero n = []
spelled (suc k) n =
    when ltb n 10
    then (48 + n) ∷ []
    else (spelled k (n / 10) ++ ((48 + n % 10) ∷ []))

-- n as text: twenty digits are enough for 64 bits
unfoldable pub decimal_of : ℕ → List ℕ
decimal_of n = spelled 20 n

-- each number, behind a space
unfoldable pub spaced_of : List ℕ → List ℕ
spaced_of [] = []
spaced_of (n ∷ ns) = 32 ∷ (decimal_of n ++ spaced_of ns)

-- a line of output: a letter, the numbers, a newline
unfoldable pub line_of : ℕ → List ℕ → List ℕ
line_of letter ns = letter ∷ (spaced_of ns ++ (10 ∷ []))

-- the text stands in after at its place, which ends at end; everything else is as before
pub record Placed (before : List ℕ) (at : ℕ) (text : List ℕ) (end : ℕ) (after : List ℕ) : Type 0 where
  pub ends : end ≡ at + length text
  pub put : after ≡ sets before at text
