-- A directory is tidy as far as its links hold.
use mathlib.Core.Bool.{Bool, true, false, true≢false}
use mathlib.Core.List.{List}
use mathlib.Core.Logic.{◌⊎◌, inl, inr}
use mathlib.Core.Path.{◌≡◌, refl, sym, ◌∙◌, subst}
use Prim.Native.Nat.{ℕ, zero, suc, ◌+◌, ◌-◌, ◌*◌, ◌^◌, ◌%◌, ◌≤◌, ◌<◌}
use native.Mathlib.Nat.{mod-eq_of_lt, eq-or-lt_of_le}
use native.Mathlib.Omega.{arith}
use lib.Dec.{eqb}
use lib.ListN.{get_or}
use borrow.Author.Tests.{eqb-true, ltb-true, leb-true}
use Rattle.model.specs.declared.Line.{Line}
use Rattle.model.specs.declared.Region.{Region}
use Rattle.model.specs.declared.Queue.{Queue}
use Rattle.model.specs.Tests.{when◌then◌else◌, ◌and◌}
use Rattle.model.specs.Memory.{nowhere, offset_at, length_at, size_at}
use Rattle.model.specs.Limits.{tidy, directory_ok}
use Rattle.ranges.specs.Doubles.{Doubled}
use Rattle.limits.specs.Parts.{tasks_in, starts_ok, follows_ok}
use Rattle.model.proofs.Tests.{holds, and_left, and_right, and_both}
use Rattle.model.proofs.Directory.{size_le, tidy_front, tidy_last, tidy_size, tidy_kept}
use Rattle.limits.proofs.Scan.{fails_by_lem}
use Rattle.limits.proofs.Lengths.{never}

-- every published array is claimed
pub reaches : (x : Bool) (c p : ℕ) → eqb c (when x then p + 1 else p) ≡ true → p ≤ c
unfolding when◌then◌else◌
reaches true c p e = let h : c ≡ p + 1 = eqb-true _ _ e in omega arith
reaches false c p e = let h : c ≡ p = eqb-true _ _ e in omega arith

-- the directory's parts
pub record Ordered (v : ℕ) (q : Queue) (p : ℕ) : Type 0 where
  pub some : 0 < q.published
  pub few : q.published ≤ p
  pub claimed : p ≤ q.claimed
  pub listed : q.claimed ≤ 11
  pub tidied : tidy v q.arrays q.claimed ≡ true
  pub kept : q.initial ≡ size_at v q.arrays 0

pub ordered : (v : ℕ) (q : Queue) (p : ℕ) (o : Line) → directory_ok v q p o ≡ true → Ordered v q p
ordered v q p o e =
    let e1 = and_right _ _ e in
    let e2 = and_right _ _ e1 in
    let e3 = and_right _ _ e2 in
    let e4 = and_right _ _ e3 in
    record {
      some = ltb-true _ _ (and_left _ _ e);
      few = leb-true _ _ (and_left _ _ e1);
      claimed = reaches _ _ _ (and_left _ _ e3);
      listed = leb-true _ _ (and_left _ _ e2);
      tidied = and_left _ _ e4;
      kept = eqb-true _ _ (and_right _ _ e4);
    }

module _ (v : ℕ) (l : List Region) where
  abbrev pub link : ℕ → Bool
  link k = follows_ok v (get_or l k nowhere) (get_or l (suc k) nowhere)

  from_first : ℕ → Bool
  from_first k = tidy v l (suc k)

  pub starts_tidy : (x : Bool) → starts_ok v (get_or l 0 nowhere) ≡ x → tidy v l 1 ≡ x
  unfolding offset_at length_at size_at
  starts_tidy x e = e

  -- the other way round
  starts_tidy_back : tidy v l 1 ≡ true → starts_ok v (get_or l 0 nowhere) ≡ true
  unfolding offset_at length_at size_at
  starts_tidy_back e = e

  pub next_tidy : (x : Bool) (k : ℕ) → tidy v l (suc k) ≡ true → link k ≡ x → tidy v l (suc (suc k)) ≡ x
  unfolding offset_at length_at size_at
  next_tidy x k e f = holds e ∙ f

  -- where the first array fails, or has not the size z, so does the whole
  pub never_starts : (z n : ℕ) → 0 < n → (starts_ok v (get_or l 0 nowhere) and eqb z (tasks_in v (get_or l 0 nowhere))) ≡ false
      → (tidy v l n and eqb z (size_at v l 0)) ≡ false
  unfolding length_at size_at
  never_starts z n h e =
      never _ (λ t.
      true≢false (sym (and_both _ _ (starts_tidy_back (tidy_front v l n 0 (and_left _ _ t) h)) (and_right _ _ t)) ∙ e))

  pub never_tidy : (k n : ℕ) → suc k ≤ n → tidy v l (suc k) ≡ false → tidy v l n ≡ false
  unfolding offset_at length_at size_at from_first
  never_tidy k n h e =
      subst (λ (x : ℕ). tidy v l x ≡ false) {x = suc (n - 1)} {y = n} (omega arith)
      (fails_by_lem from_first link (λ j. refl) k (n - 1) (omega arith) e)

-- the size that is kept, of the first array as code has it
pub kept : (v : ℕ) (q : Queue) → eqb q.initial (tasks_in v (get_or q.arrays 0 nowhere)) ≡ true
    → eqb q.initial (size_at v q.arrays 0) ≡ true
unfolding length_at size_at
kept v q e = e

pub doubled : (v : ℕ) (q : Queue) (p : ℕ) → Ordered v q p → Doubled v q.arrays q.claimed q.initial
doubled v q p O k h =
    let u = tidy_front v q.arrays q.claimed k O.tidied h in
    let d = tidy_kept v q.arrays q.initial k O.kept u in
    (d, subst (λ (x : ℕ). x ≤ 1024) d (size_le (tidy_size v q.arrays k u)))

-- the size of the array at place k, as the first one's shifted
pub shifted : (v : ℕ) (l : List Region) (n f k : ℕ) → Doubled v l n f → k < n → f * 2 ^ k % 2 ^ 32 ≡ size_at v l k
shifted v l n f k d h =
    let (doubled, small) = d k h in
    mod-eq_of_lt (let low : f * 2 ^ k < 2 ^ 32 = omega (arith, small) in low) ∙ sym doubled

-- an array ends where the last one does, or before
pub ends_before : (v : ℕ) (l : List Region) (m k : ℕ) → tidy v l (suc m) ≡ true → k ≤ m
    → offset_at l k + length_at l k ≤ offset_at l m + length_at l m
ends_before v l zero k t h =
    subst (λ (x : ℕ). offset_at l x + length_at l x ≤ offset_at l 0 + length_at l 0) {x = 0} {y = k} (omega arith) (omega arith)
ends_before v l (suc m) k t h = go (eq-or-lt_of_le h) (λ i. ends_before v l m k (and_left (tidy v l (suc m)) _ t) i)
  where
    go : (k ≡ suc m) ⊎ (k < suc m) → (k ≤ m → offset_at l k + length_at l k ≤ offset_at l m + length_at l m)
        → offset_at l k + length_at l k ≤ offset_at l (suc m) + length_at l (suc m)
    go (inl e) f = subst (λ (x : ℕ). offset_at l x + length_at l x ≤ offset_at l (suc m) + length_at l (suc m)) (sym e) (omega arith)
    go (inr i) f = omega (arith, f (omega (arith, i)), (tidy_last v l m t).place)
