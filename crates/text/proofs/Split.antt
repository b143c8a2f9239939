-- Words of a line by places in it.
use Prim.Native.Nat.{ℕ, ◌≤◌, ◌<◌}
use native.Mathlib.Omega.{arith}
use mathlib.Core.Path.{◌≡◌, refl, ap}
use mathlib.Core.Bool.{Bool, true, false}
use mathlib.Core.List.{List, [], ◌∷◌}
use lib.ListN.{length, get_or, take, drop}
use lib.Dec.{eqb}
use borrow.Author.Tests.{eq-eqb, ne_eqb, eqb-true}
use Rattle.model.specs.Tests.{when◌then◌else◌}
use Rattle.text.specs.Words.{onto, words, head, tail}

pub first_space : (s : List ℕ) (b : ℕ) → b ≡ 32 → head (words (b ∷ s)) ≡ []
unfolding words head when◌then◌else◌
first_space s b e = rw (eq-eqb b 32 e)

head_onto : (b : ℕ) (ps : List (List ℕ)) → head (onto b ps) ≡ b ∷ head ps
unfolding head onto
head_onto b [] = refl
head_onto b (p ∷ ps) = refl

tail_onto : (b : ℕ) (ps : List (List ℕ)) → tail (onto b ps) ≡ tail ps
unfolding tail onto
tail_onto b [] = refl
tail_onto b (p ∷ ps) = refl

pub first_more : (s : List ℕ) (b : ℕ) → (b ≡ 32 → ⊥) → head (words (b ∷ s)) ≡ b ∷ head (words s)
unfolding words when◌then◌else◌
first_more s b h = rw (ne_eqb b 32 h) (head_onto b (words s))

pub rest_space : (s : List ℕ) (b : ℕ) → b ≡ 32 → tail (words (b ∷ s)) ≡ words s
unfolding words tail when◌then◌else◌
rest_space s b e = rw (eq-eqb b 32 e)

rest_more : (s : List ℕ) (b : ℕ) → (b ≡ 32 → ⊥) → tail (words (b ∷ s)) ≡ tail (words s)
unfolding words when◌then◌else◌
rest_more s b h = rw (ne_eqb b 32 h) (tail_onto b (words s))

pub first_none : head (words []) ≡ []
unfolding words head
first_none = refl

pub rest_none : tail (words []) ≡ []
unfolding words tail
rest_none = refl

decide : (b : ℕ) {C : Type 0} → (b ≡ 32 → C) → ((b ≡ 32 → ⊥) → C) → C
decide b {C} f g = go (eqb b 32) refl
  where
    go : (t : Bool) → eqb b 32 ≡ t → C
    go true e = f (eqb-true b 32 e)
    go false e = g (borrow.Author.Tests.eqb-false b 32 e)

-- the first word is a front of the line
pub first_front : (s : List ℕ) → take (length (head (words s))) s ≡ head (words s)
first_front [] = rw first_none
first_front (b ∷ s) = decide b
    (λ e. rw (first_space s b e))
    (λ h. rw (first_more s b h) (ap (λ (l : List ℕ). b ∷ l) (first_front s)))

pub first_fits : (s : List ℕ) → length (head (words s)) ≤ length s
first_fits [] = rw first_none (omega arith)
first_fits (b ∷ s) = decide b
    (λ e. rw (first_space s b e) (omega arith))
    (λ h. rw (first_more s b h) (let k = first_fits s in omega arith))

-- what is left behind the first word: nothing, or a space and the other words
pub rest_at : (s : List ℕ) → tail (words (drop (length (head (words s))) s)) ≡ tail (words s)
rest_at [] = rw first_none
rest_at (b ∷ s) = decide b
    (λ e. rw (first_space s b e))
    (λ h. rw (first_more s b h, rest_more s b h) (rest_at s))

pub space_at : (s : List ℕ) → length (head (words s)) < length s → get_or s (length (head (words s))) 0 ≡ 32
space_at [] = λ h. absurd (let k : ⊥ = omega arith in k)
space_at (b ∷ s) = decide b
    (λ e h. rw (first_space s b e) e)
    (λ n. rw (first_more s b n) (λ h. space_at s (let k : length (head (words s)) < length s = omega arith in k)))

split_onto : (b : ℕ) (ps : List (List ℕ)) → onto b ps ≡ head (onto b ps) ∷ tail (onto b ps)
unfolding onto head tail
split_onto b [] = refl
split_onto b (p ∷ ps) = refl

-- a line has at least one word
pub split : (s : List ℕ) → words s ≡ head (words s) ∷ tail (words s)
unfolding words head tail when◌then◌else◌
split [] = refl
split (b ∷ s) = decide b
    (λ e. rw (eq-eqb b 32 e))
    (λ h. rw (ne_eqb b 32 h) (split_onto b (words s)))
