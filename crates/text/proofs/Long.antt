-- A line of more than 71 bytes is no command: a keyword has at most five bytes, and each of at most six numbers a space and at most ten digits.
use Prim.Native.Nat.{ℕ, suc, ◌+◌, ◌-◌, ◌*◌, ◌^◌, ◌≤◌, ◌<◌}
use native.Mathlib.Omega.{arith}
use native.Mathlib.Nat.{pow-suc, pow-le-pow_right, mul-le-mul_right, le_trans, mul_assoc, mul_comm, le_of_eq}
use mathlib.Core.Path.{◌≡◌, refl, ap, sym, subst, ◌∙◌}
use mathlib.Core.Bool.{Bool, true, false}
use mathlib.Core.List.{List, [], ◌∷◌}
use lib.ListN.{length}
use lib.Dec.{T, leb, ltb, eqb}
use borrow.Author.Tests.{ltb-true, ltb-false, leb-true, eqb-false, not-true}
use Rattle.model.specs.Tests.{◌and◌, when◌then◌else◌}
use Rattle.text.specs.Same.{same}
use Rattle.text.specs.Numbers.{all_digits, plain, onward, value_of}
use Rattle.text.specs.Words.{onto, words, head, tail}
use Rattle.text.specs.Commands.{Values, wrong, these, joined, values, formed, formed_of, key_of, command_of}
use Rattle.std.specs.declared.option.Option.{Option}
use Rattle.std.specs.declared.option.Option.TheVariants.{None, Some}
use Rattle.text.specs.declared.Key as key
use Rattle.text.specs.declared.Key.{Key}
use Rattle.model.specs.declared.Command.TheVariants.{Bad}
use Rattle.text.proofs.Lists.{if_true, if_false, and_left, and_right}
use Rattle.text.proofs.Fields.{long}

pub onward_pow : (v : ℕ) (s : List ℕ) → v * 10 ^ length s ≤ onward v s
unfolding onward
onward_pow v [] = omega arith
onward_pow v (b ∷ s) =
    let h = onward_pow (v * 10 + (b - 48)) s in
    let e : v * 10 ^ suc (length s) ≡ v * 10 * 10 ^ length s = ap (λ (k : ℕ). v * k) (pow-suc 10 (length s) ∙ mul_comm (10 ^ length s) 10) ∙ sym (mul_assoc v 10 (10 ^ length s)) in
    le_trans (le_of_eq e) (le_trans (mul-le-mul_right (10 ^ length s) (let q : v * 10 ≤ v * 10 + (b - 48) = omega arith in q)) h)

big : (b d : ℕ) (s : List ℕ) → 9 ≤ length s → 49 ≤ b → 4294967295 < onward 0 (b ∷ (d ∷ s))
unfolding onward
big b d s h k =
    let v : ℕ = 0 * 10 + (b - 48) in
    let low : 10 ^ 10 ≤ 10 ^ suc (length s) = pow-le-pow_right {n = 10} (omega arith) {i = 10} {j = suc (length s)} (omega arith) in
    let one : 1 * 10 ^ suc (length s) ≤ v * 10 ^ suc (length s) = mul-le-mul_right (10 ^ suc (length s)) (omega arith) in
    let up : v * 10 ^ suc (length s) ≤ onward v (d ∷ s) = onward_pow v (d ∷ s) in
    omega arith

pub number_long : (w : List ℕ) → 10 < length w → value_of w ≡ None
number_long [] h = absurd (let z : ⊥ = omega arith in z)
number_long (b ∷ []) h = absurd (let z : ⊥ = omega arith in z)
number_long (b ∷ (d ∷ s)) h = unfold value_of in go (plain (b ∷ (d ∷ s)) and all_digits (b ∷ (d ∷ s)) and leb (onward 0 (b ∷ (d ∷ s))) 4294967295) refl
  where
    lead : plain (b ∷ (d ∷ s)) ≡ true → b ≡ 48 → ⊥
    lead e q = unfold plain in eqb-false b 48 (not-true _ e) q

    first : all_digits (b ∷ (d ∷ s)) ≡ true → 48 ≤ b
    first e = unfold all_digits in leb-true 48 b (and_left _ _ e)

    go : (t : Bool) → (plain (b ∷ (d ∷ s)) and all_digits (b ∷ (d ∷ s)) and leb (onward 0 (b ∷ (d ∷ s))) 4294967295) ≡ t → (when t then Some (onward 0 (b ∷ (d ∷ s))) else None) ≡ None
    go false e = if_false _ _ _ refl
    go true e =
        let p = lead (and_left _ _ e) in
        let q = first (and_left _ _ (and_right _ _ e)) in
        let m : onward 0 (b ∷ (d ∷ s)) ≤ 4294967295 = leb-true _ _ (and_right _ _ (and_right _ _ e)) in
        absurd (let z : ⊥ = omega (arith, big b d s (omega arith) (omega arith)) in z)

-- how many bytes the words after the first take, each with its space
unfoldable size : List (List ℕ) → ℕ
size [] = 0
size (w ∷ ws) = 1 + length w + size ws

size_onto : (b : ℕ) (ps : List (List ℕ)) → length (head (onto b ps)) + size (tail (onto b ps)) ≡ 1 + (length (head ps) + size (tail ps))
unfolding onto head tail size
size_onto b [] = refl
size_onto b (p ∷ ps) = omega arith

size_words : (s : List ℕ) → length (head (words s)) + size (tail (words s)) ≡ length s
unfolding words
size_words [] = unfold head tail size in refl
size_words (b ∷ s) = go (eqb b 32) (size_words s) (Rattle.text.proofs.Split.split s)
  where
    go : (t : Bool) → length (head (words s)) + size (tail (words s)) ≡ length s → words s ≡ head (words s) ∷ tail (words s) → length (head (when t then [] ∷ words s else onto b (words s))) + size (tail (when t then [] ∷ words s else onto b (words s))) ≡ suc (length s)
    go true e f = rw (if_true true ([] ∷ words s) (onto b (words s)) refl) (unfold head tail in (let g : size (words s) ≡ 1 + length (head (words s)) + size (tail (words s)) = rw f (unfold size in refl) in omega arith))
    go false e f = rw (if_false false ([] ∷ words s) (onto b (words s)) refl) (omega (arith, size_onto b (words s)))

number_most : (w : List ℕ) (x : ℕ) → value_of w ≡ Some x → length w ≤ 10
number_most w x e = go (ltb 10 (length w)) refl
  where
    go : (t : Bool) → ltb 10 (length w) ≡ t → length w ≤ 10
    go true h = let q : None ≡ Some x = sym (number_long w (ltb-true 10 (length w) h)) ∙ e in absurd (let z : ◌≡◌ {A = ℕ} 0 1 = cc in let y : ⊥ = omega arith in y)
    go false h = ltb-false 10 (length w) h

-- as many values, each of at most ten digits
values_size : (ws : List (List ℕ)) (v : List ℕ) → values ws ≡ these v → size ws ≤ 11 * length v
unfolding size joined values
values_size [] v e = omega arith
values_size (w ∷ ws) v e = go (value_of w) refl (values ws) refl (values_size ws) e
  where
    go : (n : Option ℕ) → value_of w ≡ n → (vs : Values) → values ws ≡ vs → ((u : List ℕ) → values ws ≡ these u → size ws ≤ 11 * length u) → joined n vs ≡ these v → size (w ∷ ws) ≤ 11 * length v
    go None p vs q h f = absurd (let z : ◌≡◌ {A = ℕ} 0 1 = cc in let y : ⊥ = omega arith in y)
    go (Some x) p wrong q h f = absurd (let z : ◌≡◌ {A = ℕ} 0 1 = cc in let y : ⊥ = omega arith in y)
    go (Some x) p (these u) q h f =
        let k : x ∷ u ≡ v = cc in
        let l : suc (length u) ≡ length v = ap length k in
        omega (arith, number_most w x p, h u q)

same_length : (a b : List ℕ) → same a b ≡ true → length a ≡ length b
unfolding same
same_length [] [] e = refl
same_length [] (y ∷ b) e = absurd (subst T (sym e) tt)
same_length (x ∷ a) [] e = absurd (subst T (sym e) tt)
same_length (x ∷ a) (y ∷ b) e = ap suc (same_length a b (and_right (eqb x y) (same a b) e))

differ : (a b : List ℕ) → (length a ≡ length b → ⊥) → same a b ≡ false
differ a b h = go (same a b) refl
  where
    go : (t : Bool) → same a b ≡ t → t ≡ false
    go true e = absurd (h (same_length a b e))
    go false e = refl

key_long : (w : List ℕ) → 5 < length w → key_of w ≡ key.TheVariants.Other
unfolding key_of when◌then◌else◌
key_long w h =
    rw (
      differ w (113 ∷ 117 ∷ 101 ∷ 117 ∷ 101 ∷ []) (λ e. omega arith),
      differ w (112 ∷ 117 ∷ 116 ∷ []) (λ e. omega arith),
      differ w (116 ∷ 97 ∷ 107 ∷ 101 ∷ []) (λ e. omega arith),
      differ w (115 ∷ 116 ∷ 101 ∷ 97 ∷ 108 ∷ []) (λ e. omega arith),
      differ w (115 ∷ 116 ∷ 101 ∷ 112 ∷ []) (λ e. omega arith),
      differ w (119 ∷ 104 ∷ 111 ∷ []) (λ e. omega arith),
      differ w (101 ∷ 110 ∷ 100 ∷ []) (λ e. omega arith),
    )

pub line_long : (line : List ℕ) → 71 < length line → command_of line ≡ Bad
unfolding command_of
line_long line h = go (values (tail (words line))) refl
  where
    wide : (v : List ℕ) → values (tail (words line)) ≡ these v → (t : Bool) → ltb 6 (length v) ≡ t → formed (key_of (head (words line))) v ≡ Bad
    wide v e true l = long _ v (ltb-true 6 (length v) l)
    wide v e false l =
        let q : length v ≤ 6 = ltb-false 6 (length v) l in
        rw (key_long (head (words line)) (omega (arith, size_words line, values_size (tail (words line)) v e))) (unfold formed in refl)

    go : (vs : Values) → values (tail (words line)) ≡ vs → formed_of (key_of (head (words line))) vs ≡ Bad
    go wrong e = unfold formed_of in refl
    go (these v) e = unfold formed_of in wide v e (ltb 6 (length v)) refl
