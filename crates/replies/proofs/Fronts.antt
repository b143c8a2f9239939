-- The store's front, which a bench is lent.
use Prim.Native.Nat.{ℕ, ◌+◌, ◌≤◌, ◌<◌, min}
use native.Mathlib.Omega.{arith}
use mathlib.Core.Path.{◌≡◌, refl, ap, sym, ◌∙◌}
use mathlib.Core.Bool.{Bool, true, false}
use mathlib.Core.List.{List, ◌++◌, append-nil}
use lib.Dec.{ltb}
use lib.ListN.{length, length-append, take, drop, take-append-drop, drop_of_length-le}
use lib.Seq.{take_all, take_at, length-take-le}
use borrow.Author.Tests.{ltb-true, ltb-false}

-- n words are lent of w, or all if there are fewer
module _ (w n : ℕ) (m : List ℕ) (e : n ≡ min w (length m)) where
  pub lent_front : take n m ≡ take w m
  lent_front = go (ltb w (length m)) refl
    where
      go : (b : Bool) → ltb w (length m) ≡ b → take n m ≡ take w m
      go true h = let k : w < length m = ltb-true w (length m) h in ap (λ (x : ℕ). take x m) (let z : n ≡ w = omega arith in z)
      go false h =
          let k : length m ≤ w = ltb-false w (length m) h in
          take_all n m (omega arith) ∙ sym (take_all w m k)

  -- and stand in front of the rest when they come back
  pub given_back : (p : List ℕ) → length p ≡ length (take n m) → take w (p ++ drop n m) ≡ p
  given_back p f = go (ltb w (length m)) refl
    where
      long : length p ≡ n
      long = f ∙ length-take-le n m (omega arith)

      go : (b : Bool) → ltb w (length m) ≡ b → take w (p ++ drop n m) ≡ p
      go true h = let k : w < length m = ltb-true w (length m) h in take_at p (drop n m) w (omega (arith, long))
      go false h =
          let k : length m ≤ w = ltb-false w (length m) h in
          ap (λ (l : List ℕ). take w (p ++ l)) (drop_of_length-le m {i = n} (omega arith))
          ∙ ap (take w) (append-nil p) ∙ take_all w p (omega (arith, long))

  -- as they were: nothing is changed
  pub unchanged : (p : List ℕ) → p ≡ take n m → p ++ drop n m ≡ m
  unchanged p f = ap (λ (l : List ℕ). l ++ drop n m) f ∙ take-append-drop n m

-- and are as many
pub back_length : (n : ℕ) (m p : List ℕ) → length p ≡ length (take n m) → length (p ++ drop n m) ≡ length m
back_length n m p f =
    length-append p (drop n m) ∙ ap (λ (k : ℕ). k + length (drop n m)) f
    ∙ sym (length-append (take n m) (drop n m)) ∙ ap length (take-append-drop n m)
