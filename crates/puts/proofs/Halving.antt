-- Looking a number up by halving: what is known of the puts below and above the part that is left.
use mathlib.Core.Path.{◌≡◌, refl, subst}
use mathlib.Core.Bool.{Bool, true, false}
use mathlib.Core.List.{List}
use Prim.Native.Nat.{ℕ, ◌+◌, ◌≤◌, ◌<◌}
use native.Mathlib.Omega.{arith}
use lib.Dec.{ltb}
use borrow.Author.Tests.{ltb-true, ltb-false, ne_eqb}
use Rattle.puts.specs.Puts.{number_of_put, Rising, FoundBy}

module _ (v : ℕ) (l puts : List ℕ) (c x : ℕ) where
  pub record Between (low high : ℕ) : Type 0 where
    pub ordered : low ≤ high
    pub top : high ≤ c
    pub below : (k : ℕ) → k < low → number_of_put v l puts k < x
    pub above : (k : ℕ) → high ≤ k → k < c → x < number_of_put v l puts k

  pub start : Between 0 c
  start =
      record {
        ordered = omega arith;
        top = omega arith;
        below = λ k h. absurd (omega (arith, h));
        above = λ k h g. absurd (omega (arith, h, g));
      }

  module _ (rising : Rising v l puts c) (m : ℕ) (b : m < c) where
    up : number_of_put v l puts m < x → (k : ℕ) (y : Bool) → ltb k m ≡ y → k < m + 1 → number_of_put v l puts k < x
    up h k true e g = let r = rising k m (ltb-true k m e) b in omega (arith, r, h)
    up h k false e g =
        let d = ltb-false k m e in
        subst (λ (n : ℕ). number_of_put v l puts n < x) {x = m} {y = k} (omega (arith, d, g)) h

    down : x < number_of_put v l puts m → (k : ℕ) (y : Bool) → ltb m k ≡ y → m ≤ k → k < c → x < number_of_put v l puts k
    down h k true e g i = let r = rising m k (ltb-true m k e) i in omega (arith, r, h)
    down h k false e g i =
        let d = ltb-false m k e in
        subst (λ (n : ℕ). x < number_of_put v l puts n) {x = m} {y = k} (omega (arith, d, g)) h

  module _ (rising : Rising v l puts c) (low high m : ℕ) (B : Between low high) (a : low ≤ m) (b : m < high) where
    pub higher : number_of_put v l puts m < x → Between (m + 1) high
    higher h =
        record {
          ordered = omega (arith, b);
          top = B.top;
          below = λ k g. up rising m (let t = B.top in omega (arith, b, t)) h k (ltb k m) refl g;
          above = B.above;
        }

    pub lower : x < number_of_put v l puts m → Between low m
    lower h =
        record {
          ordered = a;
          top = let t = B.top in omega (arith, b, t);
          below = B.below;
          above = λ k g i. down rising m (let t = B.top in omega (arith, b, t)) h k (ltb m k) refl g i;
        }

  pub at_place : (m : ℕ) → m < c → number_of_put v l puts m ≡ x → FoundBy v l puts c x m
  at_place m h e =
      record {
        within = omega (arith, h);
        found = λ _. e;
        none = λ g k i. absurd (omega (arith, h, g));
      }

  -- the part that is left is empty
  pub nowhere : (low high : ℕ) → Between low high → high ≤ low → FoundBy v l puts c x c
  nowhere low high B h =
      record {
        within = omega arith;
        found = λ g. absurd (omega (arith, g));
        none = λ _ k i. ne_eqb (number_of_put v l puts k) x (λ e. differs k (ltb k low) refl i e);
      }
    where
      differs : (k : ℕ) (y : Bool) → ltb k low ≡ y → k < c → number_of_put v l puts k ≡ x → ⊥
      differs k true e i q = let r = B.below k (ltb-true k low e) in omega (arith, r, q)
      differs k false e i q =
          let d = ltb-false k low e in let r = B.above k (omega (arith, d, h)) i in omega (arith, r, q)
