-- The words of an array after a store.
use mathlib.Core.Path.{◌≡◌, refl, ◌∙◌, ap}
use mathlib.Core.Logic.{◌≢◌, ◌⊎◌, inl, inr}
use mathlib.Core.List.{List, [], ◌∷◌, ◌++◌}
use Prim.Native.Nat.{ℕ, suc, ◌+◌, ◌-◌, ◌*◌, ◌%◌, ◌/◌, ◌≤◌, ◌<◌}
use native.Mathlib.Omega.{arith}
use native.Mathlib.Nat.{mod-lt, mul-le-mul_left, mul-div_cancel_left}
use lib.ListN.{length, get_or, set, take, drop, replicate, get_or-append, length-set, length-append, length-take, length-drop, length-replicate}
use lib.Seq.{get_or-set_other, get_or-set_same, get_or-take, length-take-le}
use Rattle.model.specs.declared.Region.{Region}
use Rattle.model.specs.declared.Queue.{Queue}
use Rattle.model.specs.Memory.{set_all, zeros, word_at, nowhere, offset_at, length_at, size_at}
use Rattle.theorems.proofs.Remainders.{le_or_lt}

-- the current array's offset and its length in words
abbrev pub off : Queue → ℕ
off q = offset_at q.arrays (q.published - 1)

abbrev pub len : Queue → ℕ
len q = length_at q.arrays (q.published - 1)

-- slots of n words each: an earlier one ends before a later one begins; two words lie apart
pub earlier_slot : (n a c j : ℕ) → a < c → j < n → n * a + j < n * c
earlier_slot n a c j h l =
    let up : suc a ≤ c = omega arith in
    omega (arith, mul-le-mul_left n up)

pub slots_apart : (n a c j l : ℕ) → a ≢ c → j < n → l < n → n * a + j ≢ n * c + l
slots_apart n a c j l ne hj hl = go (le_or_lt a c)
  where
    go : (a ≤ c) ⊎ (c < a) → n * a + j ≢ n * c + l
    go (inl h) = omega (arith, earlier_slot n a c j (omega arith) hj)
    go (inr h) = omega (arith, earlier_slot n c a l h hl)

-- a slot's first word is no other word
pub first_apart : (n a c l : ℕ) → 0 < l → l < n → n * a ≢ n * c + l
first_apart n a c l h hl = go (le_or_lt a c)
  where
    go : (a ≤ c) ⊎ (c < a) → n * a ≢ n * c + l
    go (inl q) = omega (arith, mul-le-mul_left n q)
    go (inr q) = omega (arith, earlier_slot n c a l q hl)

-- word j of index i in an array of z tasks, of ω payload words each, at offset b
abbrev pub addr : ℕ → ℕ → ℕ → ℕ → ℕ → ℕ
addr ω b z i j = b + (ω + 1) * (i % z) + j

unfoldable pub cell : ℕ → List ℕ → ℕ → ℕ → ℕ → ℕ → ℕ
cell ω m b z i j = get_or m (addr ω b z i j) 0

unfoldable pub put_word : ℕ → List ℕ → ℕ → ℕ → ℕ → ℕ → ℕ → List ℕ
put_word ω m b z i j x = set m (addr ω b z i j) x

-- it lies in the array
pub addr_in : (ω b z i j : ℕ) → 0 < z → j < ω + 1 → addr ω b z i j < b + (ω + 1) * z
addr_in ω b z i j hz hj = omega (arith, earlier_slot (ω + 1) (i % z) z j (mod-lt i hz) hj)

-- the word that is written
pub put_same : (ω : ℕ) (m : List ℕ) (b z i j x : ℕ) → 0 < z → j < ω + 1 → b + (ω + 1) * z ≤ length m → cell ω (put_word ω m b z i j x) b z i j ≡ x
unfolding cell put_word
put_same ω m b z i j x hz hj hm = get_or-set_same m _ x 0 (omega (arith, addr_in ω b z i j hz hj))

-- another word of the task
pub put_twin : (ω : ℕ) (m : List ℕ) (b z i j k x : ℕ) → j ≢ k → cell ω (put_word ω m b z i j x) b z i k ≡ cell ω m b z i k
unfolding cell put_word
put_twin ω m b z i j k x ne = get_or-set_other m _ _ x 0 (omega arith)

-- another slot of the array
pub put_other : (ω : ℕ) (m : List ℕ) (b z i j k l x : ℕ) → i % z ≢ k % z → j < ω + 1 → l < ω + 1 → cell ω (put_word ω m b z k l x) b z i j ≡ cell ω m b z i j
unfolding cell put_word
put_other ω m b z i j k l x ne hj hl = get_or-set_other m _ _ x 0 (omega (arith, slots_apart (ω + 1) (i % z) (k % z) j l ne hj hl))

-- an array that ends before
pub put_above : (ω : ℕ) (m : List ℕ) (b z i j b' z' k l x : ℕ) → 0 < z → j < ω + 1 → b + (ω + 1) * z ≤ b' → cell ω (put_word ω m b' z' k l x) b z i j ≡ cell ω m b z i j
unfolding cell put_word
put_above ω m b z i j b' z' k l x hz hj h = get_or-set_other m _ _ x 0 (omega (arith, addr_in ω b z i j hz hj))

pub put_length : (ω : ℕ) (m : List ℕ) (b z k l x : ℕ) → length (put_word ω m b z k l x) ≡ length m
unfolding put_word
put_length ω m b z k l x = length-set m _ x

pub zeros_low : (m : List ℕ) (a n i : ℕ) → i < a → a ≤ length m → get_or (zeros m a n) i 0 ≡ get_or m i 0
unfolding zeros
zeros_low m a n i h l =
    get_or-append (take a m) (replicate n 0 ++ drop (a + n) m) 0 i (omega (arith, length-take-le a m l)) ∙ get_or-take a m i 0 h

pub zeros_length : (m : List ℕ) (a n : ℕ) → a + n ≤ length m → length (zeros m a n) ≡ length m
unfolding zeros
zeros_length m a n l = simp (length-append, length-take, length-drop, length-replicate) (omega arith)

-- two indices with one slot
pub WMod : (ω : ℕ) (m : List ℕ) (b z i k j : ℕ) → i % z ≡ k % z → cell ω m b z i j ≡ cell ω m b z k j
unfolding cell
WMod ω m b z i k j e = rw e

-- a slot's words
pub word_w : (ω : ℕ) (m : List ℕ) (b z t i j : ℕ) → t ≡ i % z → word_at m ω b t j ≡ cell ω m b z i j
unfolding cell word_at
word_w ω m b z t i j e = rw e

-- the directory after an entry is set
pub set_place : (ω : ℕ) (l : List Region) (n k b c : ℕ) → k ≢ n
    → (offset_at (set l n (record { offset = b; length = c })) k ≡ offset_at l k) × (length_at (set l n (record { offset = b; length = c })) k ≡ length_at l k)
    × (size_at ω (set l n (record { offset = b; length = c })) k ≡ size_at ω l k)
unfolding offset_at length_at size_at
set_place ω l n k b c ne =
    let e = get_or-set_other l n k (record { offset = b; length = c }) nowhere ne in
    (ap (λ (r : Region). r.offset) e, ap (λ (r : Region). r.length) e, ap (λ (r : Region). r.length / (ω + 1)) e)

pub set_here : (ω : ℕ) (l : List Region) (n b z c : ℕ) → n < length l → c ≡ (ω + 1) * z
    → (offset_at (set l n (record { offset = b; length = c })) n ≡ b) × (length_at (set l n (record { offset = b; length = c })) n ≡ c)
    × (size_at ω (set l n (record { offset = b; length = c })) n ≡ z)
unfolding offset_at length_at size_at
set_here ω l n b z c h q =
    let e = get_or-set_same l n (record { offset = b; length = c }) nowhere h in
    (ap (λ (r : Region). r.offset) e, ap (λ (r : Region). r.length) e, ap (λ (r : Region). r.length / (ω + 1)) e ∙ rw q (mul-div_cancel_left z (omega arith)))

-- words written one after the other
pub set_all_length : (m : List ℕ) (a : ℕ) (xs : List ℕ) → length (set_all m a xs) ≡ length m
set_all_length m a [] = refl
set_all_length m a (x ∷ xs) = set_all_length (set m a x) (a + 1) xs ∙ length-set m a x
