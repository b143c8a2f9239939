-- A line is read as a command only if it is a line that says it.
use Prim.Native.Nat.{ℕ, suc, ◌+◌, ◌-◌, ◌*◌, ◌^◌, ◌≤◌, ◌<◌}
use native.Mathlib.Omega.{arith}
use native.Mathlib.Nat.{pow-suc, pow-le-pow_right, mul-le-mul_right, le_trans, mul_assoc, mul_comm, le_of_eq, lt_of_lt_of_le}
use mathlib.Core.Path.{◌≡◌, refl, ap, sym, subst, ◌∙◌}
use mathlib.Core.Bool.{Bool, true, false}
use mathlib.Core.Logic.{◌⊎◌, inl, inr}
use mathlib.Core.List.{List, [], ◌∷◌, ◌++◌}
use lib.ListN.{length, get_or}
use lib.Dec.{T, leb, ltb, eqb}
use borrow.Author.Tests.{leb-true, eqb-true, eqb-false, ltb-true, ltb-false, not-true}
use Rattle.model.specs.Tests.{◌and◌, when◌then◌else◌}
use Rattle.text.specs.Same.{same}
use Rattle.text.specs.Numbers.{all_digits, plain, onward, value_of, decimal_of, spaced_of}
use Rattle.text.specs.Words.{onto, words, head, tail}
use Rattle.text.specs.Commands.{Values, wrong, these, joined, values, formed, formed_of, key_of, command_of, payload_of, first_of, Small, text_of, short_text, InRange, Says}
use Rattle.std.specs.declared.option.Option.{Option}
use Rattle.std.specs.declared.option.Option.TheVariants.{None, Some}
use Rattle.text.specs.declared.Key as key
use Rattle.text.specs.declared.Key.{Key}
use Rattle.model.specs.declared.Command.TheVariants.{Open}
use Rattle.text.proofs.Lists.{if_true, if_false, and_left, and_right, next, done}
use Rattle.text.proofs.Split.{split}
use Rattle.text.proofs.Long.{onward_pow}
use Rattle.text.proofs.Spell.{decimal_digits, decimal_plain, decimal_value}

digit_low : (b : ℕ) (s : List ℕ) → all_digits (b ∷ s) ≡ true → 48 ≤ b
unfolding all_digits
digit_low b s e = leb-true 48 b (and_left _ _ e)

digit_high : (b : ℕ) (s : List ℕ) → all_digits (b ∷ s) ≡ true → b ≤ 57
unfolding all_digits
digit_high b s e = leb-true b 57 (and_left _ _ (and_right (leb 48 b) _ e))

digit_rest : (b : ℕ) (s : List ℕ) → all_digits (b ∷ s) ≡ true → all_digits s ≡ true
unfolding all_digits
digit_rest b s e = and_right (leb b 57) _ (and_right (leb 48 b) _ e)

-- as many digits with one value are the same digits
same_digits : (s t : List ℕ) (v u : ℕ) → length s ≡ length t → all_digits s ≡ true → all_digits t ≡ true → onward v s ≡ onward u t → (v ≡ u) × (s ≡ t)
unfolding onward
same_digits [] [] v u l d e q = (q, refl)
same_digits [] (b ∷ t) v u l d e q = absurd (let z : ⊥ = omega arith in z)
same_digits (a ∷ s) [] v u l d e q = absurd (let z : ⊥ = omega arith in z)
same_digits (a ∷ s) (b ∷ t) v u l d e q =
    let r = same_digits s t (v * 10 + (a - 48)) (u * 10 + (b - 48)) (omega arith) (digit_rest a s d) (digit_rest b t e) q in
    let x : v * 10 + (a - 48) ≡ u * 10 + (b - 48) = r.0 in
    let a1 = digit_low a s d in let a2 = digit_high a s d in let b1 = digit_low b t e in let b2 = digit_high b t e in
    let y : a ≡ b = omega arith in
    (omega arith, ap (λ (k : ℕ). k ∷ s) y ∙ ap (λ (l' : List ℕ). b ∷ l') r.1)

onward_below : (v : ℕ) (s : List ℕ) → all_digits s ≡ true → onward v s < (v + 1) * 10 ^ length s
unfolding onward
onward_below v [] d = omega arith
onward_below v (b ∷ s) d =
    let h = onward_below (v * 10 + (b - 48)) s (digit_rest b s d) in
    let e : (v + 1) * 10 ^ suc (length s) ≡ (v + 1) * 10 * 10 ^ length s = ap (λ (k : ℕ). (v + 1) * k) (pow-suc 10 (length s) ∙ mul_comm (10 ^ length s) 10) ∙ sym (mul_assoc (v + 1) 10 (10 ^ length s)) in
    let k : v * 10 + (b - 48) + 1 ≤ (v + 1) * 10 = omega (arith, digit_high b s d) in
    lt_of_lt_of_le h (le_trans (mul-le-mul_right (10 ^ length s) k) (le_of_eq (sym e)))

lead : (b d : ℕ) (s : List ℕ) → plain (b ∷ (d ∷ s)) ≡ true → b ≡ 48 → ⊥
unfolding plain
lead b d s e q = eqb-false b 48 (not-true _ e) q

some_digit : (s : List ℕ) → plain s ≡ true → 0 < length s
unfolding plain
some_digit [] e = absurd (subst T (sym e) tt)
some_digit (b ∷ s) e = omega arith

-- fewer digits are a smaller number
fewer : (s t : List ℕ) → plain s ≡ true → all_digits s ≡ true → plain t ≡ true → all_digits t ≡ true → onward 0 s ≡ onward 0 t → length s < length t → ⊥
fewer s [] ps ds pt dt q h = let z : ⊥ = omega arith in z
fewer s (b ∷ []) ps ds pt dt q h = let k = some_digit s ps in let z : ⊥ = omega arith in z
fewer s (b ∷ (d ∷ t)) ps ds pt dt q h =
    let l = lead b d t pt in let m = digit_low b (d ∷ t) dt in
    let v : ℕ = 0 * 10 + (b - 48) in
    let one : 1 * 10 ^ suc (length t) ≤ v * 10 ^ suc (length t) = mul-le-mul_right (10 ^ suc (length t)) (omega arith) in
    let up : v * 10 ^ suc (length t) ≤ onward v (d ∷ t) = onward_pow v (d ∷ t) in
    let low : 10 ^ length s ≤ 10 ^ suc (length t) = pow-le-pow_right {n = 10} (omega arith) {i = length s} {j = suc (length t)} (omega arith) in
    let top : onward 0 s < 1 * 10 ^ length s = onward_below 0 s ds in
    let same_value : onward 0 s ≡ onward v (d ∷ t) = q ∙ opened in
    let z : ⊥ = omega arith in z
  where
    opened : onward 0 (b ∷ (d ∷ t)) ≡ onward (0 * 10 + (b - 48)) (d ∷ t)
    opened = unfold onward in refl

pub one_text : (s t : List ℕ) → plain s ≡ true → all_digits s ≡ true → plain t ≡ true → all_digits t ≡ true → onward 0 s ≡ onward 0 t → s ≡ t
one_text s t ps ds pt dt q = (same_digits s t 0 0 lengths ds dt q).1
  where
    lengths : length s ≡ length t
    lengths = go (ltb (length s) (length t)) refl (ltb (length t) (length s)) refl
      where
        go : (x : Bool) → ltb (length s) (length t) ≡ x → (y : Bool) → ltb (length t) (length s) ≡ y → length s ≡ length t
        go true e y f = absurd (fewer s t ps ds pt dt q (ltb-true _ _ e))
        go false e true f = absurd (fewer t s pt dt ps ds (sym q) (ltb-true _ _ f))
        go false e false f = let h : length t ≤ length s = ltb-false _ _ e in let k : length s ≤ length t = ltb-false _ _ f in omega arith

-- A word is read as a number only if it is how that number is printed.
pub number_is : (w : List ℕ) (n : ℕ) → value_of w ≡ Some n → (w ≡ decimal_of n) × (n ≤ 4294967295)
unfolding value_of when◌then◌else◌
number_is w n q = go (plain w and all_digits w and leb (onward 0 w) 4294967295) refl q
  where
    go : (x : Bool) → (plain w and all_digits w and leb (onward 0 w) 4294967295) ≡ x → (when x then Some (onward 0 w) else None) ≡ Some n → (w ≡ decimal_of n) × (n ≤ 4294967295)
    go false e f = absurd (let z : ◌≡◌ {A = ℕ} 0 1 = cc in let y : ⊥ = omega arith in y)
    go true e f =
        let v : onward 0 w ≡ n = cc in
        let m : onward 0 w ≤ 4294967295 = leb-true _ _ (and_right (all_digits w) _ (and_right (plain w) _ e)) in
        let k : n ≤ 4294967295 = omega arith in
        let fits : n < 2 ^ 64 = omega arith in
        (one_text w (decimal_of n) (and_left _ _ e) (and_left _ _ (and_right (plain w) _ e)) (decimal_plain n fits) (decimal_digits n fits) (v ∙ sym (decimal_value n fits)), k)

-- the words put together again
unfoldable glue : List (List ℕ) → List ℕ
glue [] = []
glue (w ∷ ws) = 32 ∷ (w ++ glue ws)

glue_onto : (b : ℕ) (ps : List (List ℕ)) → head (onto b ps) ++ glue (tail (onto b ps)) ≡ b ∷ (head ps ++ glue (tail ps))
unfolding onto head tail
glue_onto b [] = refl
glue_onto b (p ∷ ps) = refl

line_glue : (s : List ℕ) → head (words s) ++ glue (tail (words s)) ≡ s
unfolding words head tail glue
line_glue [] = refl
line_glue (b ∷ s) = go (eqb b 32) refl (line_glue s) (split s)
  where
    go : (x : Bool) → eqb b 32 ≡ x → head (words s) ++ glue (tail (words s)) ≡ s → words s ≡ head (words s) ∷ tail (words s) → head (when x then [] ∷ words s else onto b (words s)) ++ glue (tail (when x then [] ∷ words s else onto b (words s))) ≡ b ∷ s
    go true e f g =
        let q : b ≡ 32 = eqb-true b 32 e in
        let h : glue (words s) ≡ 32 ∷ (head (words s) ++ glue (tail (words s))) = ap glue g in
        rw (if_true true ([] ∷ words s) (onto b (words s)) refl) (h ∙ ap (λ (l : List ℕ). 32 ∷ l) f ∙ ap (λ (k : ℕ). k ∷ s) (sym q))
    go false e f g = rw (if_false false ([] ∷ words s) (onto b (words s)) refl) (glue_onto b (words s) ∙ ap (λ (l : List ℕ). b ∷ l) f)

values_are : (ws : List (List ℕ)) (v : List ℕ) → values ws ≡ these v → (glue ws ≡ spaced_of v) × Small v
unfolding joined values glue spaced_of
values_are [] v e = let q : [] ≡ v = cc in subst (λ (l : List ℕ). ([] ≡ spaced_of l) × Small l) q (refl, tt)
values_are (w ∷ ws) v e = go (value_of w) refl (values ws) refl (values_are ws) e
  where
    go : (n : Option ℕ) → value_of w ≡ n → (vs : Values) → values ws ≡ vs → ((u : List ℕ) → values ws ≡ these u → (glue ws ≡ spaced_of u) × Small u) → joined n vs ≡ these v → (glue (w ∷ ws) ≡ spaced_of v) × Small v
    go None p vs q h f = absurd (let z : ◌≡◌ {A = ℕ} 0 1 = cc in let y : ⊥ = omega arith in y)
    go (Some x) p wrong q h f = absurd (let z : ◌≡◌ {A = ℕ} 0 1 = cc in let y : ⊥ = omega arith in y)
    go (Some x) p (these u) q h f =
        let k : x ∷ u ≡ v = cc in
        let r = h u q in
        let m = number_is w x p in
        subst (λ (l : List ℕ). (glue (w ∷ ws) ≡ spaced_of l) × Small l) k
        (ap (λ (l : List ℕ). 32 ∷ (l ++ glue ws)) m.0 ∙ ap (λ (l : List ℕ). 32 ∷ (decimal_of x ++ l)) r.0, (m.1, r.1))

same_is : (a b : List ℕ) → same a b ≡ true → a ≡ b
unfolding same
same_is [] [] e = refl
same_is [] (y ∷ b) e = absurd (subst T (sym e) tt)
same_is (x ∷ a) [] e = absurd (subst T (sym e) tt)
same_is (x ∷ a) (y ∷ b) e = ap (λ (k : ℕ). k ∷ a) (eqb-true x y (and_left _ _ e)) ∙ ap (λ (l : List ℕ). y ∷ l) (same_is a b (and_right (eqb x y) (same a b) e))

pick : {A : Type 0} (P : A → Type 0) (b : Bool) (x y : A) → (b ≡ true → P x) → P y → P (when b then x else y)
unfolding when◌then◌else◌
pick P true x y f g = f refl
pick P false x y f g = g

-- what the keyword is
abbrev Named : List ℕ → Key → Type 0
Named w key.TheVariants.Other = Unit {0}
Named w key.TheVariants.Queue = w ≡ 113 ∷ 117 ∷ 101 ∷ 117 ∷ 101 ∷ []
Named w key.TheVariants.Put = w ≡ 112 ∷ 117 ∷ 116 ∷ []
Named w key.TheVariants.Take = w ≡ 116 ∷ 97 ∷ 107 ∷ 101 ∷ []
Named w key.TheVariants.Steal = w ≡ 115 ∷ 116 ∷ 101 ∷ 97 ∷ 108 ∷ []
Named w key.TheVariants.Step = w ≡ 115 ∷ 116 ∷ 101 ∷ 112 ∷ []
Named w key.TheVariants.Who = w ≡ 119 ∷ 104 ∷ 111 ∷ []
Named w key.TheVariants.End = w ≡ 101 ∷ 110 ∷ 100 ∷ []

named : (w : List ℕ) → Named w (key_of w)
unfolding key_of
named w =
    pick (Named w) _ _ _ (same_is w _) (pick (Named w) _ _ _ (same_is w _) (pick (Named w) _ _ _ (same_is w _)
    (pick (Named w) _ _ _ (same_is w _) (pick (Named w) _ _ _ (same_is w _) (pick (Named w) _ _ _ (same_is w _)
    (pick (Named w) _ _ _ (same_is w _) tt))))))

none : (v : List ℕ) → eqb (length v) 0 ≡ true → v ≡ []
none v e = let q : length v ≡ 0 = eqb-true _ _ e in done v 0 (omega arith)

one : (v : List ℕ) → eqb (length v) 1 ≡ true → v ≡ get_or v 0 0 ∷ []
one v e = let q : length v ≡ 1 = eqb-true _ _ e in next v 0 (omega arith) ∙ ap (λ (l : List ℕ). get_or v 0 0 ∷ l) (done v 1 (omega arith))

two : (v : List ℕ) → eqb (length v) 2 ≡ true → v ≡ get_or v 0 0 ∷ get_or v 1 0 ∷ []
two v e = let q : length v ≡ 2 = eqb-true _ _ e in
    next v 0 (omega arith) ∙ ap (λ (l : List ℕ). get_or v 0 0 ∷ l) (next v 1 (omega arith) ∙ ap (λ (l : List ℕ). get_or v 1 0 ∷ l) (done v 2 (omega arith)))

short_queue : (v : List ℕ) → length v ≡ 5 → v ≡ get_or v 0 0 ∷ get_or v 1 0 ∷ get_or v 2 0 ∷ get_or v 3 0 ∷ get_or v 4 0 ∷ []
short_queue v q =
    next v 0 (omega arith) ∙ ap (λ (l : List ℕ). get_or v 0 0 ∷ l) (next v 1 (omega arith) ∙ ap (λ (l : List ℕ). get_or v 1 0 ∷ l)
    (next v 2 (omega arith) ∙ ap (λ (l : List ℕ). get_or v 2 0 ∷ l) (next v 3 (omega arith) ∙ ap (λ (l : List ℕ). get_or v 3 0 ∷ l)
    (next v 4 (omega arith) ∙ ap (λ (l : List ℕ). get_or v 4 0 ∷ l) (done v 5 (omega arith))))))

whole_queue : (v : List ℕ) → length v ≡ 6 → v ≡ get_or v 0 0 ∷ get_or v 1 0 ∷ get_or v 2 0 ∷ get_or v 3 0 ∷ get_or v 4 0 ∷ get_or v 5 1 ∷ []
whole_queue (a ∷ b ∷ c ∷ d ∷ e ∷ f ∷ []) q = refl
whole_queue [] q = absurd (let z : ⊥ = omega arith in z)
whole_queue (a ∷ []) q = absurd (let z : ⊥ = omega arith in z)
whole_queue (a ∷ b ∷ []) q = absurd (let z : ⊥ = omega arith in z)
whole_queue (a ∷ b ∷ c ∷ []) q = absurd (let z : ⊥ = omega arith in z)
whole_queue (a ∷ b ∷ c ∷ d ∷ []) q = absurd (let z : ⊥ = omega arith in z)
whole_queue (a ∷ b ∷ c ∷ d ∷ e ∷ []) q = absurd (let z : ⊥ = omega arith in z)
whole_queue (a ∷ b ∷ c ∷ d ∷ e ∷ f ∷ g ∷ v) q = absurd (let z : ⊥ = omega arith in z)

-- the words of a `put` are the payload's
put_words : (v : List ℕ) → length v ≤ 4 → first_of (length v) (payload_of v) ≡ v
put_words [] h = refl
put_words (a ∷ []) h = refl
put_words (a ∷ b ∷ []) h = refl
put_words (a ∷ b ∷ c ∷ []) h = refl
put_words (a ∷ b ∷ c ∷ d ∷ []) h = refl
put_words (a ∷ b ∷ c ∷ d ∷ e ∷ v) h = absurd (let z : ⊥ = omega arith in z)

queue_range : (v : List ℕ) → 5 ≤ length v → length v ≤ 6 → Small v → get_or v 4 0 ≤ 10235
    → InRange (Open (get_or v 0 0) (get_or v 1 0) (get_or v 2 0) (get_or v 3 0) (get_or v 4 0) (get_or v 5 1))
queue_range (a ∷ b ∷ c ∷ d ∷ e ∷ []) h g s r = (s.0, s.1.0, s.1.1.0, s.1.1.1.0, r, omega arith)
queue_range (a ∷ b ∷ c ∷ d ∷ e ∷ f ∷ []) h g s r = (s.0, s.1.0, s.1.1.0, s.1.1.1.0, r, s.1.1.1.1.1.0)
queue_range [] h g s r = absurd (let z : ⊥ = omega arith in z)
queue_range (a ∷ []) h g s r = absurd (let z : ⊥ = omega arith in z)
queue_range (a ∷ b ∷ []) h g s r = absurd (let z : ⊥ = omega arith in z)
queue_range (a ∷ b ∷ c ∷ []) h g s r = absurd (let z : ⊥ = omega arith in z)
queue_range (a ∷ b ∷ c ∷ d ∷ []) h g s r = absurd (let z : ⊥ = omega arith in z)
queue_range (a ∷ b ∷ c ∷ d ∷ e ∷ f ∷ g' ∷ v) h g s r = absurd (let z : ⊥ = omega arith in z)

queue_text : (v : List ℕ) → 5 ≤ length v → length v ≤ 6 → (y : Bool) → eqb (length v) 5 ≡ y
    → (113 ∷ 117 ∷ 101 ∷ 117 ∷ 101 ∷ spaced_of v ≡ text_of (Open (get_or v 0 0) (get_or v 1 0) (get_or v 2 0) (get_or v 3 0) (get_or v 4 0) (get_or v 5 1)))
    ⊎ ((get_or v 5 1 ≡ 1) × (113 ∷ 117 ∷ 101 ∷ 117 ∷ 101 ∷ spaced_of v ≡ short_text (get_or v 0 0) (get_or v 1 0) (get_or v 2 0) (get_or v 3 0) (get_or v 4 0)))
unfolding text_of short_text
queue_text v h g true e =
    let f = short_queue v (eqb-true _ _ e) in
    inr (ap (λ (l : List ℕ). get_or l 5 1) f, ap (λ (l : List ℕ). 113 ∷ 117 ∷ 101 ∷ 117 ∷ 101 ∷ spaced_of l) f)
queue_text v h g false e =
    let d : length v ≡ 5 → ⊥ = eqb-false _ _ e in
    inl (ap (λ (l : List ℕ). 113 ∷ 117 ∷ 101 ∷ 117 ∷ 101 ∷ spaced_of l) (whole_queue v (omega (arith, h, g, d))))

says : (h v : List ℕ) (k : Key) → Named h k → Small v → Says (h ++ spaced_of v) (formed k v)
unfolding formed text_of
says h v key.TheVariants.Other n s = tt
says h v key.TheVariants.Queue n s = pick (Says (h ++ spaced_of v)) _ _ _ (λ e.
    let low = leb-true 5 (length v) (and_left _ _ e) in
    let high = leb-true (length v) 6 (and_left _ _ (and_right (leb 5 (length v)) _ e)) in
    let store = leb-true (get_or v 4 0) 10235 (and_right (leb (length v) 6) _ (and_right (leb 5 (length v)) _ e)) in
    (subst (λ (l : List ℕ). (l ++ spaced_of v ≡ text_of (Open (get_or v 0 0) (get_or v 1 0) (get_or v 2 0) (get_or v 3 0) (get_or v 4 0) (get_or v 5 1))) ⊎ ((get_or v 5 1 ≡ 1) × (l ++ spaced_of v ≡ short_text (get_or v 0 0) (get_or v 1 0) (get_or v 2 0) (get_or v 3 0) (get_or v 4 0)))) (sym n) (queue_text v low high (eqb (length v) 5) refl), queue_range v low high s store)) tt
says h v key.TheVariants.Put n s = pick (Says (h ++ spaced_of v)) _ _ _ (λ e.
    let high = leb-true (length v) 4 (and_right (leb 1 (length v)) _ e) in
    let f = sym (put_words v high) in
    (ap (λ (l : List ℕ). l ++ spaced_of v) n ∙ ap (λ (l : List ℕ). 112 ∷ 117 ∷ 116 ∷ spaced_of l) f, (leb-true 1 (length v) (and_left _ _ e), high, ap payload_of f, subst Small f s))) tt
says h v key.TheVariants.Take n s = pick (Says (h ++ spaced_of v)) _ _ _ (λ e.
    (ap (λ (l : List ℕ). l ++ spaced_of v) n ∙ ap (λ (l : List ℕ). 116 ∷ 97 ∷ 107 ∷ 101 ∷ spaced_of l) (none v e) ∙ unfold spaced_of in refl, tt)) tt
says h v key.TheVariants.Steal n s = pick (Says (h ++ spaced_of v)) _ _ _ (λ e.
    let f = one v e in let t : Small (get_or v 0 0 ∷ []) = subst Small f s in
    (ap (λ (l : List ℕ). l ++ spaced_of v) n ∙ ap (λ (l : List ℕ). 115 ∷ 116 ∷ 101 ∷ 97 ∷ 108 ∷ spaced_of l) f, t.0)) tt
says h v key.TheVariants.Step n s = pick (Says (h ++ spaced_of v)) _ _ _ (λ e.
    let f = two v (and_left _ _ e) in let t : Small (get_or v 0 0 ∷ get_or v 1 0 ∷ []) = subst Small f s in
    (ap (λ (l : List ℕ). l ++ spaced_of v) n ∙ ap (λ (l : List ℕ). 115 ∷ 116 ∷ 101 ∷ 112 ∷ spaced_of l) f, (t.0, leb-true _ _ (and_right (eqb (length v) 2) _ e)))) tt
says h v key.TheVariants.Who n s = pick (Says (h ++ spaced_of v)) _ _ _ (λ e.
    let f = one v e in let t : Small (get_or v 0 0 ∷ []) = subst Small f s in
    (ap (λ (l : List ℕ). l ++ spaced_of v) n ∙ ap (λ (l : List ℕ). 119 ∷ 104 ∷ 111 ∷ spaced_of l) f, t.0)) tt
says h v key.TheVariants.End n s = pick (Says (h ++ spaced_of v)) _ _ _ (λ e.
    (ap (λ (l : List ℕ). l ++ spaced_of v) n ∙ ap (λ (l : List ℕ). 101 ∷ 110 ∷ 100 ∷ spaced_of l) (none v e) ∙ unfold spaced_of in refl, tt)) tt

-- What a line is read as, if it is not bad, is a command that the line says. With `read_text` and `read_short`: a line is read as
-- a command just if it says it.
pub read_is : (line : List ℕ) → Says line (command_of line)
unfolding command_of formed_of
read_is line = go (values (tail (words line))) refl
  where
    go : (vs : Values) → values (tail (words line)) ≡ vs → Says line (formed_of (key_of (head (words line))) vs)
    go wrong e = tt
    go (these v) e =
        let r = values_are (tail (words line)) v e in
        let q : head (words line) ++ spaced_of v ≡ line = ap (λ (l : List ℕ). head (words line) ++ l) (sym r.0) ∙ line_glue line in
        subst (λ (l : List ℕ). Says l (formed (key_of (head (words line))) v)) q (says (head (words line)) v (key_of (head (words line))) (named (head (words line))) r.1)
