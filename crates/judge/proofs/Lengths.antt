-- The refusals before the judgement, 16 before 15 before 14; the entries that the bytes have; and the tables as they are at first.
use mathlib.Core.Path.{◌≡◌, refl, sym, ap, ◌∙◌}
use mathlib.Core.Bool.{Bool, true, false}
use mathlib.Core.List.{List}
use Prim.Native.Nat.{ℕ, zero, suc, ◌/◌, ◌%◌, ◌≤◌, ◌<◌}
use native.Mathlib.Omega.{arith}
use lib.Dec.{eqb, leb, ltb}
use lib.ListN.{length, get_or, replicate, take}
use borrow.Author.Tests.{le-leb, lt-leb, lt-ltb, le-ltb, eq-eqb, ne_eqb}
use Rattle.model.specs.Tests.{◌and◌}
use Rattle.model.specs.Limits.{words_ok}
use Rattle.model.proofs.Tests.{if_true, if_false, fails, and_both, and_false}
use Rattle.judgement.specs.declared.Verdict.TheVariants.{PayloadWords, TooLong, BadLength}
use Rattle.judgement.specs.Judgement.{words_of, judged, judged_words, entry_bytes}

module _ (v : ℕ) (log list : List ℕ) where
  pub too_few : v < 1 → PayloadWords ≡ judged v log list
  unfolding judged
  too_few h = sym (if_false _ (fails _ (le-ltb 0 v (omega (arith, h)))))

  pub too_many : 4 < v → PayloadWords ≡ judged v log list
  unfolding judged
  too_many h = sym (if_false _ (ap (λ (y : Bool). ltb 0 v and y) (lt-leb v 4 h) ∙ and_false _))

  module _ (o : 1 ≤ v) (f : v ≤ 4) where
    words_fine : words_ok v ≡ true
    words_fine = and_both _ _ (lt-ltb 0 v (omega (arith, o))) (le-leb v 4 f)

    pub long_log : 65536 < length log → TooLong ≡ judged v log list
    unfolding judged
    long_log h = sym (if_true _ words_fine ∙ if_false _ (fails _ (lt-leb (length log) 65536 h)))

    pub long_list : 65536 < length list → TooLong ≡ judged v log list
    unfolding judged
    long_list h =
        sym (if_true _ words_fine ∙ if_false _ (ap (λ (y : Bool). leb (length log) 65536 and y) (lt-leb (length list) 65536 h) ∙ and_false _))

    module _ (a : length log ≤ 65536) (b : length list ≤ 65536) where
      short : (leb (length log) 65536 and leb (length list) 65536) ≡ true
      short = and_both _ _ (le-leb _ _ a) (le-leb _ _ b)

      pub odd_log : (length log % entry_bytes v ≡ 0 → ⊥) → BadLength ≡ judged v log list
      unfolding judged
      odd_log h = sym (if_true _ words_fine ∙ if_true _ short ∙ if_false _ (fails _ (ne_eqb _ _ h)))

      pub odd_list : (length list % 4 ≡ 0 → ⊥) → BadLength ≡ judged v log list
      unfolding judged
      odd_list h =
          sym
          (if_true _ words_fine ∙ if_true _ short
          ∙ if_false _ (ap (λ (y : Bool). eqb (length log % entry_bytes v) 0 and y) (ne_eqb _ _ h) ∙ and_false _))

      pub even : length log % entry_bytes v ≡ 0 → length list % 4 ≡ 0
          → judged_words v (words_of log) (length log / entry_bytes v) (words_of list) (length list / 4) ≡ judged v log list
      unfolding judged
      even h g = sym (if_true _ words_fine ∙ if_true _ short ∙ if_true _ (and_both _ _ (eq-eqb _ _ h) (eq-eqb _ _ g)))

-- the front of a table without a mark
pub falses_at : (c n k : ℕ) → get_or (take c (replicate n false)) k false ≡ false
falses_at zero n k = refl
falses_at (suc c) zero k = refl
falses_at (suc c) (suc n) zero = refl
falses_at (suc c) (suc n) (suc k) = falses_at c n k
