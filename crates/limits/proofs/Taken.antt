-- The words that a tidy directory's arrays take, told from the first and the last of them.
use mathlib.Core.Bool.{true}
use mathlib.Core.List.{List}
use mathlib.Core.Path.{◌≡◌, ap, subst}
use Prim.Native.Nat.{ℕ, zero, suc, ◌+◌, ◌-◌, ◌*◌, ◌≤◌}
use native.Mathlib.Omega.{arith}
use lib.ListN.{get_or}
use Rattle.model.specs.declared.Region.{Region}
use Rattle.model.specs.declared.Queue.{Queue}
use Rattle.model.specs.Memory.{nowhere, length_at, size_at, words_to}
use Rattle.model.specs.Stores.{words_taken}
use Rattle.model.specs.Limits.{tidy}
use Rattle.model.proofs.Tests.{and_left}
use Rattle.model.proofs.Directory.{size_le, tidy_last, tidy_long, tidy_size}
use Rattle.slots.proofs.Places.{most_words}
use Rattle.limits.specs.Parts.{Laid}

-- lengths double, so that all of them and the first are twice the last
all_words : (v : ℕ) (l : List Region) (n : ℕ) → tidy v l (suc n) ≡ true → words_to l (suc n) + length_at l 0 ≡ 2 * length_at l n
unfolding words_to
all_words v l zero t = omega arith
all_words v l (suc n) t = omega (arith, all_words v l n (and_left (tidy v l (suc n)) _ t), (tidy_last v l n t).longer)

module _ (q : Queue) (L : Laid q) {f r : Region} (first : f ≡ get_or q.arrays 0 nowhere) (last : r ≡ get_or q.arrays (q.claimed - 1) nowhere) where
  tidied : tidy L.words q.arrays (suc (q.claimed - 1)) ≡ true
  tidied = subst (λ (n : ℕ). tidy L.words q.arrays n ≡ true) {x = q.claimed} {y = suc (q.claimed - 1)} (omega (arith, L.some)) L.tidied

  first_long : f.length ≡ length_at q.arrays 0
  unfolding length_at
  first_long = ap (λ (x : Region). x.length) first

  last_long : r.length ≡ length_at q.arrays (q.claimed - 1)
  unfolding length_at
  last_long = ap (λ (x : Region). x.length) last

  all_taken : words_taken q + f.length ≡ 2 * r.length
  all_taken =
      let e : words_taken q ≡ words_to q.arrays (suc (q.claimed - 1)) = ap (words_to q.arrays) {x = q.claimed} {y = suc (q.claimed - 1)} (omega (arith, L.some)) in
      omega (arith, e, all_words L.words q.arrays (q.claimed - 1) tidied, first_long, last_long)

  pub first_fits : f.length ≤ 2 * r.length
  first_fits = omega (arith, all_taken)

  pub words_are : 2 * r.length - f.length ≡ words_taken q
  words_are = omega (arith, all_taken)

  pub last_short : r.length ≤ 5120
  last_short =
      let t = tidied in
      omega (arith, last_long, tidy_long L.words q.arrays (q.claimed - 1) t, most_words L.words (size_at L.words q.arrays (q.claimed - 1)) L.few (size_le (tidy_size L.words q.arrays (q.claimed - 1) t)))
