-- From the four parts of the judgement to the verdict.
use mathlib.Core.Path.{◌≡◌, sym, ap, ◌∙◌}
use mathlib.Core.Bool.{Bool, true, false}
use mathlib.Core.List.{List}
use Prim.Native.Nat.{ℕ, ◌-◌}
use Rattle.model.specs.Tests.{◌and◌}
use Rattle.model.specs.Counts.{is_kind, count_below, out_first}
use Rattle.model.proofs.Tests.{if_true, if_false, and_both, and_assoc, fails, and_false}
use Rattle.judgement.specs.declared.Verdict.TheVariants.{No, Accepted}
use Rattle.judgement.specs.Judgement.{all_below, known, rises, justified, kept, accepts, judged_words}

module _ (v : ℕ) (l : List ℕ) (n : ℕ) (stored : List ℕ) (m : ℕ) where
  abbrev first_two : Bool
  first_two = all_below (known v l) n and all_below (rises v l) n

  parts : accepts v l n stored m ≡ (first_two and all_below (justified v l) n and all_below (kept v l n stored m) n)
  parts = and_assoc (all_below (known v l) n) (all_below (rises v l) n) (all_below (justified v l) n and all_below (kept v l n stored m) n)

  refuses : accepts v l n stored m ≡ false → No ≡ judged_words v l n stored m
  refuses e = sym (if_false _ e)

  pub not_in_order : first_two ≡ false → No ≡ judged_words v l n stored m
  not_in_order e = refuses (parts ∙ fails _ e)

  pub not_all_justified : all_below (justified v l) n ≡ false → No ≡ judged_words v l n stored m
  not_all_justified e = refuses (parts ∙ ap (λ (y : Bool). first_two and y) (fails _ e) ∙ and_false first_two)

  pub not_all_kept : all_below (kept v l n stored m) n ≡ false → No ≡ judged_words v l n stored m
  not_all_kept e =
      refuses
      (parts ∙ ap (λ (y : Bool). first_two and y) (ap (λ (y : Bool). all_below (justified v l) n and y) e ∙ and_false (all_below (justified v l) n)) ∙ and_false first_two)

  pub all_accepted : (h d : ℕ) → first_two ≡ true → all_below (justified v l) n ≡ true → all_below (kept v l n stored m) n ≡ true → h ≡ count_below (is_kind v l 2) n
      → d ≡ count_below (out_first v l) n → Accepted h (h - d) ≡ judged_words v l n stored m
  all_accepted h d a b c e f = rw (e, f) (sym (if_true _ (parts ∙ and_both _ _ a (and_both _ _ b c))))
