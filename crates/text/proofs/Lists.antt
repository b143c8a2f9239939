-- Lists byte by byte.
use Prim.Native.Nat.{ℕ, suc, ◌+◌, ◌≤◌, ◌<◌}
use native.Mathlib.Numerals.{add-one}
use native.Mathlib.Omega.{arith}
use mathlib.Core.Path.{◌≡◌, refl, ap, sym, ◌∙◌}
use mathlib.Core.Bool.{Bool, true, false, ◌&&◌}
use mathlib.Core.List.{List, [], ◌∷◌, ◌++◌}
use lib.ListN.{length, get_or, drop, set}
use lib.Seq.{drop-cons, sets}
use lib.Dec.{eqb}
use Rattle.model.specs.Tests.{◌and◌, when◌then◌else◌}
use Rattle.std.specs.Cmp.Lexicographic.{pointwise}
use Rattle.text.specs.Same.{same}

pub next : (s : List ℕ) (i : ℕ) → i < length s → drop i s ≡ get_or s i 0 ∷ drop (i + 1) s
next s i h = rw (add-one, drop-cons s i 0)

pub done : (s : List ℕ) (i : ℕ) → length s ≤ i → drop i s ≡ []
done s i h = lib.ListN.drop_of_length-le s h

pub if_true : {A : Type 0} (t : Bool) (x y : A) → t ≡ true → (when t then x else y) ≡ x
unfolding when◌then◌else◌
if_true t x y e = rw e

pub if_false : {A : Type 0} (t : Bool) (x y : A) → t ≡ false → (when t then x else y) ≡ y
unfolding when◌then◌else◌
if_false t x y e = rw e

pub and_false : (a b : Bool) → b ≡ false → (a and b) ≡ false
unfolding ◌and◌
and_false true b e = e
and_false false b e = refl

pub and_left : (a b : Bool) → (a and b) ≡ true → a ≡ true
unfolding ◌and◌
and_left true b e = refl
and_left false b e = e

pub and_right : (a b : Bool) → (a and b) ≡ true → b ≡ true
unfolding ◌and◌
and_right true b e = e
and_right false true e = refl
and_right false false e = e

-- `==` on slices
pub same_is : (a b : List ℕ) → pointwise eqb a b ≡ same a b
unfolding same ◌and◌
same_is [] [] = refl
same_is [] (y ∷ b) = refl
same_is (x ∷ a) [] = refl
same_is (x ∷ a) (y ∷ b) = go (eqb x y) (same_is a b)
  where
    go : (t : Bool) → pointwise eqb a b ≡ same a b → (t && pointwise eqb a b) ≡ (t and same a b)
    go true e = e
    go false e = refl

pub said : {r t : Bool} (a s b : List ℕ) → r ≡ pointwise eqb a s → s ≡ b → r ≡ t → same a b ≡ t
said a s b h e q = sym (same_is a b) ∙ ap (pointwise eqb a) (sym e) ∙ sym h ∙ q

-- text placed behind text
pub sets_append : (l : List ℕ) (i : ℕ) (a b : List ℕ) → sets (sets l i a) (i + length a) b ≡ sets l i (a ++ b)
sets_append l i [] b = ap (λ (k : ℕ). sets l k b) (omega arith)
sets_append l i (x ∷ a) b = ap (λ (k : ℕ). sets (sets (set l i x) (suc i) a) k b) (omega arith) ∙ sets_append (set l i x) (suc i) a b
