-- Numbers as text: their digits one by one, and read back.
use Prim.Native.Nat.{ℕ, zero, suc, ◌+◌, ◌-◌, ◌*◌, ◌/◌, ◌%◌, ◌^◌, ◌≤◌, ◌<◌}
use native.Mathlib.Nat.{pow-suc, div-lt_iff_lt-mul}
use native.Mathlib.Omega.{arith}
use mathlib.Core.Path.{◌≡◌, refl, ap, sym, ◌∙◌}
use mathlib.Core.Bool.{Bool, true, false}
use mathlib.Core.List.{List, [], ◌∷◌, ◌++◌, append_assoc}
use lib.ListN.{length, get_or, set, take, drop, length-append, take-append-drop, get_or-append}
use lib.Seq.{sets}
use lib.Dec.{ltb, leb}
use borrow.Author.Tests.{lt-ltb, le-ltb, le-leb, ltb-true, ltb-false, ne_eqb}
use Rattle.model.specs.Tests.{◌and◌, when◌then◌else◌}
use Rattle.text.specs.Numbers.{all_digits, plain, onward, value_of, spelled, decimal_of, Placed, spaced_of, line_of}
use Rattle.std.specs.declared.option.Option.TheVariants.{Some}
use Rattle.text.proofs.Lists.{if_true, if_false, sets_append, next}
use Rattle.text.proofs.Digits.{plain_more}

below : (n : ℕ) {C : Type 0} → (n < 10 → C) → (10 ≤ n → C) → C
below n {C} f g = go (ltb n 10) refl
  where
    go : (t : Bool) → ltb n 10 ≡ t → C
    go true e = f (ltb-true n 10 e)
    go false e = g (ltb-false n 10 e)

short : (k n : ℕ) → n < 10 → spelled (suc k) n ≡ (48 + n) ∷ []
unfolding spelled
short k n h = if_true _ _ _ (lt-ltb n 10 h)

longer : (k n : ℕ) → 10 ≤ n → spelled (suc k) n ≡ spelled k (n / 10) ++ ((48 + n % 10) ∷ [])
unfolding spelled
longer k n h = if_false _ _ _ (le-ltb n 10 h)

tenth : (k n : ℕ) → n < 10 ^ suc k → n / 10 < 10 ^ k
tenth k n h = let e = pow-suc 10 k in (div-lt_iff_lt-mul {k = 10} (omega arith)).1 (rw (pow-suc 10 k) at h)

-- one digit more to spare changes nothing
spare : (k n : ℕ) → n < 10 ^ suc k → spelled (suc (suc k)) n ≡ spelled (suc k) n
spare zero n h = below n (λ l. short 1 n l ∙ sym (short 0 n l)) (λ l. absurd (let z : ⊥ = omega arith in z))
spare (suc k) n h = below n
    (λ l. short (suc (suc k)) n l ∙ sym (short (suc k) n l))
    (λ l. longer (suc (suc k)) n l ∙ ap (λ s. s ++ ((48 + n % 10) ∷ [])) (spare k (n / 10) (tenth (suc k) n h)) ∙ sym (longer (suc k) n l))

pub decimal_short : (n : ℕ) → n < 10 → decimal_of n ≡ (48 + n) ∷ []
unfolding decimal_of
decimal_short n h = short _ n h

pub decimal_long : (n : ℕ) → 10 ≤ n → n < 2 ^ 64 → decimal_of n ≡ decimal_of (n / 10) ++ ((48 + n % 10) ∷ [])
unfolding decimal_of
decimal_long n h k = longer _ n h ∙ ap (λ s. s ++ ((48 + n % 10) ∷ [])) (sym (spare _ (n / 10) (omega arith)))

spelled_most : (k n : ℕ) → length (spelled k n) ≤ k
unfolding spelled
spelled_most zero n = omega arith
spelled_most (suc k) n = below n
    (λ l. rw (short k n l) (omega arith))
    (λ l. rw (longer k n l, length-append) (let h = spelled_most k (n / 10) in omega arith))

-- a number takes at most twenty bytes
pub decimal_most : (n : ℕ) → length (decimal_of n) ≤ 20
unfolding decimal_of
decimal_most n = spelled_most 20 n

-- text behind text
pub placed_more : (b : List ℕ) (at : ℕ) (t : List ℕ) (e : ℕ) (a : List ℕ) (u : List ℕ) (f : ℕ) (z : List ℕ) → Placed b at t e a → Placed a e u f z → Placed b at (t ++ u) f z
placed_more b at t e a u f z p q = record {
  ends = rw (length-append t u) (omega (arith, p.ends, q.ends));
  put = q.put ∙ ap (λ x. sets x e u) p.put ∙ ap (λ k. sets (sets b at t) k u) p.ends ∙ sets_append b at t u;
}

pub placed_byte : (b : List ℕ) (at x : ℕ) → Placed b at (x ∷ []) (at + 1) (set b at x)
placed_byte b at x = record { ends = refl; put = refl }

-- Reading what was written.
onward_more : (v : ℕ) (s : List ℕ) (d : ℕ) → onward v (s ++ (d ∷ [])) ≡ onward v s * 10 + (d - 48)
unfolding onward
onward_more v [] d = refl
onward_more v (b ∷ s) d = onward_more (v * 10 + (b - 48)) s d

digits_more : (s : List ℕ) (d : ℕ) → all_digits s ≡ true → 48 ≤ d → d ≤ 57 → all_digits (s ++ (d ∷ [])) ≡ true
unfolding all_digits ◌and◌
digits_more [] d e h k = rw (le-leb 48 d h, le-leb d 57 k)
digits_more (b ∷ s) d e h k = digits_cons (leb 48 b) (leb b 57) (all_digits s) (all_digits (s ++ (d ∷ []))) e (λ q. digits_more s d q h k)
  where
    digits_cons : (x y z w : Bool) → (x and y and z) ≡ true → (z ≡ true → w ≡ true) → (x and y and w) ≡ true
    digits_cons true true z w e f = f e
    digits_cons true false z w e f = e
    digits_cons false y z w e f = e

record Spells (n : ℕ) (s : List ℕ) : Type 0 where
  digits : all_digits s ≡ true
  value : onward 0 s ≡ n
  some : 0 < length s
  lead : 0 < n → get_or s 0 0 ≡ 48 → ⊥
  one : plain s ≡ true

spells_short : (k n : ℕ) → n < 10 → Spells n (spelled (suc k) n)
unfolding all_digits onward plain ◌and◌
spells_short k n h = rw (short k n h) (record {
  digits = rw (le-leb 48 (48 + n) (omega arith), le-leb (48 + n) 57 (omega arith));
  value = omega arith;
  some = omega arith;
  lead = λ p q. omega arith;
  one = refl;
})

spells_long : (n d : ℕ) (t : List ℕ) → 0 < n → d < 10 → Spells n t → Spells (n * 10 + d) (t ++ ((48 + d) ∷ []))
spells_long n d t h k s = record {
  digits = digits_more t (48 + d) s.digits (omega arith) (omega arith);
  value = onward_more 0 t (48 + d) ∙ omega (arith, s.value);
  some = rw length-append (omega arith);
  lead = λ p q. s.lead h (rw (get_or-append t ((48 + d) ∷ []) 0 0 s.some) at q);
  one = plain_more (t ++ ((48 + d) ∷ [])) (rw length-append (λ e. omega (arith, s.some))) (rw length-append (λ e. omega (arith, s.some)))
      ∙ rw (get_or-append t ((48 + d) ∷ []) 0 0 s.some, ne_eqb (get_or t 0 0) 48 (s.lead h));
}

spells : (k n : ℕ) → n < 10 ^ suc k → Spells n (spelled (suc k) n)
spells zero n h = spells_short 0 n (omega arith)
spells (suc k) n h = below n
    (λ l. spells_short (suc k) n l)
    (λ l. rw (longer (suc k) n l) (
    let r = spells_long (n / 10) (n % 10) (spelled (suc k) (n / 10)) (omega arith) (omega arith) (spells k (n / 10) (tenth (suc k) n h)) in
    let e : n / 10 * 10 + n % 10 ≡ n = omega arith in
    rw e at r))

-- Reading a printed number gives the number back.
pub read_back : (n : ℕ) → n ≤ 4294967295 → value_of (decimal_of n) ≡ Some n
unfolding value_of decimal_of ◌and◌ when◌then◌else◌
read_back n h =
    let s = spells 19 n (omega arith) in
    rw (s.one, s.digits, s.value, le-leb n 4294967295 h)

pub spaced_append : (ns ms : List ℕ) → spaced_of (ns ++ ms) ≡ spaced_of ns ++ spaced_of ms
unfolding spaced_of
spaced_append [] ms = refl
spaced_append (n ∷ ns) ms = ap (λ (l : List ℕ). 32 ∷ l) (rw (spaced_append ns ms, append_assoc))

pub spaced_one : (n : ℕ) → spaced_of (n ∷ []) ≡ 32 ∷ decimal_of n
unfolding spaced_of
spaced_one n = rw mathlib.Core.List.append-nil

pub spaced_more : (ns : List ℕ) (n : ℕ) → spaced_of (ns ++ (n ∷ [])) ≡ (spaced_of ns ++ (32 ∷ [])) ++ decimal_of n
spaced_more ns n =
    spaced_append ns (n ∷ []) ∙ ap (λ (l : List ℕ). spaced_of ns ++ l) (spaced_one n)
    ∙ sym (append_assoc (spaced_of ns) (32 ∷ []) (decimal_of n))

pub spaced_length : (n : ℕ) (ns : List ℕ) → length (spaced_of (n ∷ ns)) ≡ 1 + length (decimal_of n) + length (spaced_of ns)
unfolding spaced_of
spaced_length n ns = simp length-append (omega arith)

pub line_length : (x : ℕ) (ns : List ℕ) → length (line_of x ns) ≡ 2 + length (spaced_of ns)
unfolding line_of
line_length x ns = simp length-append (omega arith)

-- the line is done: the letter, the numbers, the newline
pub line_placed : (b : List ℕ) (at x : ℕ) (ns : List ℕ) (e : ℕ) (a : List ℕ) → Placed (set b at x) (at + 1) (spaced_of ns) e a → Placed b at (line_of x ns) (e + 1) (set a e 10)
unfolding line_of
line_placed b at x ns e a p =
    placed_more b at (x ∷ spaced_of ns) e a (10 ∷ []) (e + 1) (set a e 10)
    (placed_more b at (x ∷ []) (at + 1) (set b at x) (spaced_of ns) e a (placed_byte b at x) p) (placed_byte a e 10)

-- one number more
pub number_placed : (b : List ℕ) (at : ℕ) (ns : List ℕ) (e : ℕ) (a : List ℕ) (n f : ℕ) (z : List ℕ) → Placed b at (spaced_of ns) e a → Placed (set a e 32) (e + 1) (decimal_of n) f z → Placed b at (spaced_of (ns ++ (n ∷ []))) f z
number_placed b at ns e a n f z p q =
    rw (spaced_more ns n)
    (placed_more b at (spaced_of ns ++ (32 ∷ [])) (e + 1) (set a e 32) (decimal_of n) f z
    (placed_more b at (spaced_of ns) e a (32 ∷ []) (e + 1) (set a e 32) p (placed_byte a e 32)) q)

pub placed_none : (b : List ℕ) (at : ℕ) → Placed b at (spaced_of []) at b
unfolding spaced_of
placed_none b at = record { ends = omega arith; put = refl }

-- there is room for the next number and the newline
pub room : (x : ℕ) (ns : List ℕ) (i : ℕ) → i < length ns → length (spaced_of (take i ns)) + 1 + length (decimal_of (get_or ns i 0)) + 2 ≤ length (line_of x ns)
room x ns i h =
    let e : length (spaced_of ns) ≡ length (spaced_of (take i ns)) + length (spaced_of (drop i ns)) =
    ap (λ l. length (spaced_of l)) (sym (take-append-drop i ns)) ∙ ap length (spaced_append (take i ns) (drop i ns)) ∙ length-append (spaced_of (take i ns)) (spaced_of (drop i ns)) in
    let f : length (spaced_of (drop i ns)) ≡ 1 + length (decimal_of (get_or ns i 0)) + length (spaced_of (drop (i + 1) ns)) =
    ap (λ l. length (spaced_of l)) (next ns i h) ∙ spaced_length (get_or ns i 0) (drop (i + 1) ns) in
    omega (arith, line_length x ns)

pub placed_length : (b : List ℕ) (at : ℕ) (t : List ℕ) (e : ℕ) (a : List ℕ) → Placed b at t e a → length a ≡ length b
placed_length b at t e a p = ap length p.put ∙ lib.Seq.length-sets b at t

-- a line takes at most 21 bytes for each number, and two
pub line_most : (x : ℕ) (ns : List ℕ) → length (line_of x ns) ≤ 2 + 21 * length ns
line_most x ns = omega (arith, line_length x ns, spaced_most ns)
  where
    spaced_most : (ms : List ℕ) → length (spaced_of ms) ≤ 21 * length ms
    spaced_most [] = unfold spaced_of in omega arith
    spaced_most (m ∷ ms) = let h = spaced_most ms in omega (arith, spaced_length m ms, decimal_most m)

pub line_fits : (x : ℕ) (ns : List ℕ) (at n : ℕ) → at + 128 ≤ n → length ns ≤ 6 → at + length (line_of x ns) ≤ n
line_fits x ns at n h k = omega (arith, line_most x ns)

-- What is printed of a number that 64 bits hold is that number: digits alone, no `0` in front of another, and the number's value.
pub decimal_digits : (n : ℕ) → n < 2 ^ 64 → all_digits (decimal_of n) ≡ true
unfolding decimal_of
decimal_digits n h = (spells 19 n (omega arith)).digits

pub decimal_plain : (n : ℕ) → n < 2 ^ 64 → plain (decimal_of n) ≡ true
unfolding decimal_of
decimal_plain n h = (spells 19 n (omega arith)).one

pub decimal_value : (n : ℕ) → n < 2 ^ 64 → onward 0 (decimal_of n) ≡ n
unfolding decimal_of
decimal_value n h = (spells 19 n (omega arith)).value
