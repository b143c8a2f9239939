-- The directory of arrays as the limits lay it out: by induction over its pairs, where each array lies and how large it is.
use mathlib.Core.Bool.{Bool, true, false}
use mathlib.Core.Path.{◌≡◌, sym, subst}
use mathlib.Core.Logic.{◌⊎◌, inl, inr}
use mathlib.Core.List.{List}
use Prim.Native.Nat.{ℕ, zero, suc, ◌+◌, ◌-◌, ◌*◌, ◌^◌, ◌≤◌, ◌<◌}
use native.Mathlib.Omega.{arith}
use native.Mathlib.Nat.{pow-succ', eq-or-lt_of_le}
use borrow.Author.Tests.{eqb-true, leb-true, ltb-true}
use Rattle.model.specs.declared.Line.{Line}
use Rattle.model.specs.declared.Region.{Region}
use Rattle.model.specs.declared.Queue.{Queue}
use Rattle.model.specs.Tests.{when◌then◌else◌}
use Rattle.model.specs.Memory.{offset_at, length_at, size_at}
use Rattle.model.specs.World.{is_expanding}
use Rattle.model.specs.Stores.{taken}
use Rattle.model.specs.Limits.{tidy, directory_ok}
use Rattle.model.proofs.Tests.{and_left, and_right}
use Rattle.model.proofs.Directory.{Size, size_pos, size_le, size_twice, Next, tidy_last, tidy_start, tidy_long, tidy_twice, tidy_front, tidy_kept}
use Rattle.lines.proofs.Views.{Same}

-- the array at place k, in a directory whose last pair is at place m
pub record Laid (v : ℕ) (l : List Region) (m k : ℕ) : Type 0 where
  pub power : Size (size_at v l k)
  pub large : 2 ^ k ≤ size_at v l k
  pub small : size_at v l k ≤ 1024
  pub long : length_at l k ≡ (v + 1) * size_at v l k
  pub grows : size_at v l k ≤ size_at v l m
  pub ends : offset_at l k + length_at l k ≤ offset_at l m + length_at l m

first : (v : ℕ) (l : List Region) → tidy v l 1 ≡ true → Laid v l 0 0
first v l t =
    let S = tidy_start v l t in
    record {
      power = S;
      large = size_pos S;
      small = size_le S;
      long = tidy_long v l 0 t;
      grows = omega arith;
      ends = omega arith;
    }

-- what stood before the next array still does, and the next one stands so too
module _ (v : ℕ) (l : List Region) (m : ℕ) (t : tidy v l (suc (suc m)) ≡ true) where
  next : Next v l m
  next = tidy_last v l m t

  keep : (k : ℕ) → Laid v l m k → Laid v l (suc m) k
  keep k L =
      record {
        power = L.power;
        large = L.large;
        small = L.small;
        long = L.long;
        grows = omega (arith, tidy_twice v l m t, L.grows);
        ends = omega (arith, next.place, L.ends);
      }

  join : Laid v l m m → Laid v l (suc m) (suc m)
  join L =
      record {
        power = subst Size (sym (tidy_twice v l m t)) (size_twice L.power next.small);
        large = omega (arith, tidy_twice v l m t, L.large, pow-succ' 2 m);
        small = omega (arith, tidy_twice v l m t, next.small);
        long = tidy_long v l (suc m) t;
        grows = omega arith;
        ends = omega arith;
      }

pub laid : (v : ℕ) (l : List Region) (m k : ℕ) → tidy v l (suc m) ≡ true → k ≤ m → Laid v l m k
laid v l zero k t h = subst (λ (x : ℕ). Laid v l 0 x) {x = 0} {y = k} (omega arith) (first v l t)
laid v l (suc m) k t h =
    go (eq-or-lt_of_le h) (λ j i. laid v l m j (and_left (tidy v l (suc m)) _ t) i)
  where
    go : (k ≡ suc m) ⊎ (k < suc m) → ((j : ℕ) → j ≤ m → Laid v l m j) → Laid v l (suc m) k
    go (inl e) f =
        subst (λ (x : ℕ). Laid v l (suc m) x) {x = suc m} {y = k} (omega (arith, e))
        (join v l m t (f m (omega arith)))
    go (inr i) f = keep v l m t k (f k (omega (arith, i)))

-- a directory in a store of n words, as a worker reads it
pub record Arrays (v : ℕ) (q : Queue) (n : ℕ) : Type 0 where
  pub some : 0 < q.published
  pub listed : q.claimed ≤ 11
  pub behind : q.published ≤ q.claimed
  pub stands : (k : ℕ) → k < q.claimed → Laid v q.arrays (q.claimed - 1) k
  pub doubled : (k : ℕ) → k < q.claimed → size_at v q.arrays k ≡ q.initial * 2 ^ k
  pub fits : taken q ≤ n

grown : (x : Bool) (p : ℕ) → p ≤ (when x then p + 1 else p)
unfolding when◌then◌else◌
grown true p = omega arith
grown false p = omega arith

-- q is the queue in memory, r as the worker reads it; p arrays are published for the owner, which is at line o
module _ (v : ℕ) (q : Queue) (p : ℕ) (o : Line) (t : directory_ok v q p o ≡ true) where
  pub told : q.claimed ≡ (when is_expanding o then p + 1 else p)
  told = eqb-true _ _ (and_left _ _ (and_right _ _ (and_right _ _ (and_right _ _ t))))

  pub in_memory : (0 < q.published) × (q.published ≤ p)
  in_memory = (ltb-true _ _ (and_left _ _ t), leb-true _ _ (and_left _ _ (and_right _ _ t)))

  pub arrays_of : (n : ℕ) → taken q ≤ n → (r : Queue) → Same r q → 0 < r.published → r.published ≤ p → Arrays v r n
  arrays_of n ends r S some few =
      let t2 = and_right _ _ (and_right _ _ t) in
      let t4 = and_right _ _ (and_right _ _ t2) in
      let tidied : tidy v r.arrays r.claimed ≡ true = rw (S.arrays, S.claimed) (and_left _ _ t4) in
      let fits : taken r ≤ n = rw (S.arrays, S.claimed) ends in
      let kept : r.initial ≡ size_at v r.arrays 0 = rw (S.arrays, S.initial) (eqb-true _ _ (and_right _ _ t4)) in
      let b : r.published ≤ r.claimed = omega (arith, few, S.claimed, told, grown (is_expanding o) p) in
      let one : r.claimed ≡ suc (r.claimed - 1) = omega (arith, some, b) in
      let last = subst (λ (x : ℕ). tidy v r.arrays x ≡ true) one tidied in
      let most : q.claimed ≤ 11 = leb-true _ _ (and_left _ _ t2) in
      record {
        some = some;
        listed = omega (arith, most, S.claimed);
        behind = b;
        stands = λ k h. laid v r.arrays (r.claimed - 1) k last (omega (arith, h));
        doubled = λ k h. tidy_kept v r.arrays r.initial k kept (tidy_front v r.arrays r.claimed k tidied h);
        fits = fits;
      }
