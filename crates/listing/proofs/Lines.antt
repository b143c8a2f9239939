-- Lines of an input by places in it.
use Prim.Native.Nat.{ℕ, zero, suc, ◌+◌, ◌≤◌, ◌<◌}
use native.Mathlib.Omega.{arith}
use native.Mathlib.Numerals.{add-one}
use mathlib.Core.Path.{◌≡◌, refl, ap, ◌∙◌}
use mathlib.Core.Bool.{Bool, true, false}
use mathlib.Core.List.{List, [], ◌∷◌, ◌++◌}
use lib.ListN.{length, take, drop}
use lib.Dec.{eqb}
use borrow.Author.Tests.{eq-eqb, ne_eqb, eqb-true, eqb-false}
use Rattle.model.specs.Tests.{when◌then◌else◌}
use Rattle.text.specs.Words.{onto, lines, head, tail}
use Rattle.listing.specs.Listing.{until_newline, Open}

pub decide : (b : ℕ) {C : Type 0} → (b ≡ 10 → C) → ((b ≡ 10 → ⊥) → C) → C
decide b {C} f g = go (eqb b 10) refl
  where
    go : (t : Bool) → eqb b 10 ≡ t → C
    go true e = f (eqb-true b 10 e)
    go false e = g (eqb-false b 10 e)

pub front_none : until_newline [] ≡ []
unfolding until_newline
front_none = refl

pub front_newline : (b : ℕ) (s : List ℕ) → b ≡ 10 → until_newline (b ∷ s) ≡ []
unfolding until_newline when◌then◌else◌
front_newline b s e = rw (eq-eqb b 10 e)

pub front_more : (b : ℕ) (s : List ℕ) → (b ≡ 10 → ⊥) → until_newline (b ∷ s) ≡ b ∷ until_newline s
unfolding until_newline when◌then◌else◌
front_more b s h = rw (ne_eqb b 10 h)

lines_newline : (b : ℕ) (s : List ℕ) → b ≡ 10 → lines (b ∷ s) ≡ [] ∷ lines s
unfolding lines when◌then◌else◌
lines_newline b s e = rw (eq-eqb b 10 e)

lines_more : (b : ℕ) (s : List ℕ) → (b ≡ 10 → ⊥) → lines (b ∷ s) ≡ onto b (lines s)
unfolding lines when◌then◌else◌
lines_more b s h = rw (ne_eqb b 10 h)

pub front_take : (s : List ℕ) → take (length (until_newline s)) s ≡ until_newline s
front_take [] = rw front_none
front_take (b ∷ s) = decide b
    (λ e. rw (front_newline b s e))
    (λ h. rw (front_more b s h) (ap (λ (l : List ℕ). b ∷ l) (front_take s)))

pub front_fits : (s : List ℕ) → length (until_newline s) ≤ length s
front_fits [] = rw front_none (omega arith)
front_fits (b ∷ s) = decide b
    (λ e. rw (front_newline b s e) (omega arith))
    (λ h. rw (front_more b s h) (let k = front_fits s in omega arith))

-- a line that ends in a newline, whatever comes after
pub first_line_lem : (s z : List ℕ) → length (until_newline s) < length s → lines (s ++ z) ≡ until_newline s ∷ lines (drop (length (until_newline s) + 1) s ++ z)
first_line_lem [] z = λ h. absurd (let k : ⊥ = omega arith in k)
first_line_lem (b ∷ s) z = decide b
    (λ e h. rw (front_newline b s e) (lines_newline b (s ++ z) e))
    (λ n h. rw (front_more b s n, add-one)
    (lines_more b (s ++ z) n ∙ step b s z (first_line_lem s z (let k : length (until_newline s) < length s = omega (arith, ap length (front_more b s n)) in k))))
  where
    step : (x : ℕ) (t y : List ℕ) → lines (t ++ y) ≡ until_newline t ∷ lines (drop (length (until_newline t) + 1) t ++ y) → onto x (lines (t ++ y)) ≡ (x ∷ until_newline t) ∷ lines (drop (suc (length (until_newline t))) t ++ y)
    step x t y e = unfold onto in rw (e, add-one)

onto_split : (b : ℕ) (ps : List (List ℕ)) → onto b ps ≡ (b ∷ head ps) ∷ tail ps
unfolding onto head tail
onto_split b [] = refl
onto_split b (p ∷ ps) = refl

-- a line that has begun, whatever comes after
pub open_line : (b : ℕ) (s z : List ℕ) → Open (b ∷ s) → lines ((b ∷ s) ++ z) ≡ ((b ∷ s) ++ head (lines z)) ∷ tail (lines z)
open_line b [] z = decide b
    (λ e h. absurd (let k : ⊥ = omega (arith, ap length (front_newline b [] e)) in k))
    (λ n h. lines_more b z n ∙ onto_split b (lines z))
open_line b (d ∷ s) z = decide b
    (λ e h. absurd (let k : ⊥ = omega (arith, ap length (front_newline b (d ∷ s) e)) in k))
    (λ n h. lines_more b ((d ∷ s) ++ z) n ∙ ap (onto b) (open_line d s z (let k : Open (d ∷ s) = omega (arith, ap length (front_more b (d ∷ s) n)) in k))
    ∙ onto_cons b _ _)
  where
    onto_cons : (x : ℕ) (p : List ℕ) (ps : List (List ℕ)) → onto x (p ∷ ps) ≡ (x ∷ p) ∷ ps
    onto_cons x p ps = unfold onto in refl

-- a part of it has no newline either
pub open_take : (k : ℕ) (s : List ℕ) → Open s → Open (take k s)
open_take zero s h = ap length front_none
open_take (suc k) [] h = ap length front_none
open_take (suc k) (b ∷ s) h = decide b
    (λ e. absurd (let z : ⊥ = omega (arith, ap length (front_newline b s e)) in z))
    (λ n. ap length (front_more b (take k s) n) ∙ ap suc (open_take k s (let z : Open s = omega (arith, ap length (front_more b s n)) in z)))
