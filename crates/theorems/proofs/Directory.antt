-- The directory of arrays, and the put numbers that stand in them.
use mathlib.Core.Path.{◌≡◌, refl, sym, ◌∙◌, ap, subst}
use mathlib.Core.Bool.{Bool, true, false}
use mathlib.Core.Logic.{◌≢◌, ◌⊎◌, inl, inr}
use mathlib.Core.List.{List, [], ◌∷◌, ◌++◌}
use Prim.Native.Nat.{ℕ, zero, suc, ◌+◌, ◌-◌, ◌*◌, ◌/◌, ◌^◌, ◌≤◌, ◌<◌}
use native.Mathlib.Omega.{arith}
use lib.Dec.{eqb, leb}
use lib.Pow.{pow_mono}
use lib.ListN.{length, get_or, set, take, drop, replicate, get_or-append, length-set, length-replicate, get_or-replicate}
use lib.Seq.{get_or-set_other, get_or-set_same, get_or-append-add, length-take-le, set_out}
use borrow.Author.Tests.{eq-eqb, le-leb, leb-true}
use Rattle.model.specs.declared.Room.{Room}
use Rattle.model.specs.declared.Region.{Region}
use Rattle.model.specs.declared.Queue.{Queue}
use Rattle.model.specs.declared.Bench.{Bench}
use Rattle.model.specs.declared.Anchor.{Anchor}
use Rattle.model.specs.declared.Store.TheVariants.{StoreNote}
use Rattle.model.specs.Tests.{◌and◌}
use Rattle.model.proofs.Tests.{and_both, and_right}
use Rattle.model.specs.Memory.{word_at, set_word, zeros, nowhere, offset_at, length_at, size_at}
use Rattle.model.specs.Stores.{next_length, claiming, taken}
use Rattle.model.specs.Lines.{size, fits}
use Rattle.model.specs.Limits.{is_size, tidy}
use Rattle.model.proofs.Directory.{Size, tidy_last, tidy_front, tidy_long, tidy_twice, tidy_size}
use Rattle.theorems.proofs.Remainders.{le_or_lt}
use Rattle.theorems.proofs.Folds.{laid}
use Rattle.theorems.proofs.Words.{off, len, earlier_slot, first_apart, zeros_low, zeros_length, set_place, set_here}

pub both : (a b : Bool) → a and b ≡ true → (a ≡ true) × (b ≡ true)
unfolding ◌and◌
both true b q = (refl, q)
both false b q = absurd (let z : ◌≡◌ {A = ℕ} 0 1 = cc in omega arith)

pub tidy_proper : (ω : ℕ) (l : List Region) (n k : ℕ) → tidy ω l n ≡ true → k < n → Size (size_at ω l k)
tidy_proper ω l n k t h = tidy_size ω l k (tidy_front ω l n k t h)

-- an earlier array ends no later, and is no larger
abbrev pub Below : ℕ → List Region → ℕ → ℕ → Type 0
Below ω l j k = (offset_at l k + length_at l k ≤ offset_at l j + length_at l j) × (size_at ω l k ≤ size_at ω l j)

pub tidy_below : (ω : ℕ) (l : List Region) (n k j : ℕ) → tidy ω l n ≡ true → k ≤ j → j < n → Below ω l j k
tidy_below ω l n k zero q h g = subst (Below ω l 0) {x = 0} {y = k} (omega arith) (omega arith)
tidy_below ω l n k (suc j) q h g = go (le_or_lt (suc j) k) (λ a. tidy_below ω l n k j q (omega arith) (omega arith))
  where
    t : tidy ω l (suc (suc j)) ≡ true
    t = tidy_front ω l n (suc j) q g

    go : (suc j ≤ k) ⊎ (k < suc j) → (k < suc j → Below ω l j k) → Below ω l (suc j) k
    go (inl a) f = subst (Below ω l (suc j)) {x = suc j} {y = k} (omega arith) (omega arith)
    go (inr a) f = let r = f a in (omega (arith, (tidy_last ω l j t).place, r.0), omega (arith, tidy_twice ω l j t, r.1))

-- sorted: an earlier array ends before a later one
pub tidy_sorted : (ω : ℕ) (l : List Region) (n k j : ℕ) → tidy ω l n ≡ true → k < j → j < n → offset_at l k + length_at l k ≤ offset_at l j
tidy_sorted ω l n k zero q h g = absurd (omega arith)
tidy_sorted ω l n k (suc j) q h g = omega (arith, (tidy_last ω l j (tidy_front ω l n (suc j) q g)).place, (tidy_below ω l n k j q (omega arith) (omega arith)).0)

abbrev last : ℕ → Region → Region → Bool
last ω r s = leb (r.offset + r.length) s.offset and (eqb s.length (2 * r.length) and leb (2 * (r.length / (ω + 1))) 1024)

-- the test looks at the first n entries alone
tidy_ext : (ω : ℕ) (l l' : List Region) (n : ℕ) → ((k : ℕ) → k < n → get_or l' k nowhere ≡ get_or l k nowhere) → tidy ω l' n ≡ tidy ω l n
unfolding offset_at length_at size_at
tidy_ext ω l l' zero f = refl
tidy_ext ω l l' (suc zero) f =
    ap (λ (r : Region). eqb r.length ((ω + 1) * (r.length / (ω + 1))) and is_size 10 (r.length / (ω + 1))) (f 0 (omega arith))
tidy_ext ω l l' (suc (suc m)) f =
    ap (λ (x : Bool). x and last ω (get_or l' m nowhere) (get_or l' (suc m) nowhere)) (tidy_ext ω l l' (suc m) (λ k h. f k (omega arith)))
    ∙ ap (λ (r : Region). tidy ω l (suc m) and last ω r (get_or l' (suc m) nowhere)) (f m (omega arith))
    ∙ ap (λ (r : Region). tidy ω l (suc m) and last ω (get_or l m nowhere) r) (f (suc m) (omega arith))

-- the number words of the first n arrays
abbrev pub Numbers : ℕ → List ℕ → List Region → ℕ → Type 0
Numbers ω m l n = (k t : ℕ) → k < n → t < size_at ω l k → word_at m ω (offset_at l k) t 0 ≤ 65535

pub record Arrays (ω : ℕ) (q : Queue) (m : List ℕ) : Type 0 where
  pub some : 0 < q.published
  pub below : q.published ≤ q.claimed
  pub few : q.claimed ≤ 11
  pub slots : length q.arrays ≡ 11
  pub tidied : tidy ω q.arrays q.claimed ≡ true
  pub kept : q.initial ≡ size_at ω q.arrays 0
  pub power : 2 ^ (q.published - 1) ≤ size ω q
  pub room : taken q ≤ length m
  pub numbers : Numbers ω m q.arrays q.claimed

-- the room that X1 finds lies behind the queue's arrays, and in the store
pub record Free (ρ : Room) (q : Queue) (m : List ℕ) : Type 0 where
  pub behind : taken q ≤ ρ.next
  pub inside : ρ.next + ρ.left ≤ length m

-- and the words that are set aside are left in it
pub record Admits (ρ : Room) (b : Bench) (m : List ℕ) : Type 0 where
  pub free : Free ρ b.queue m
  pub aside : b.aside ≤ ρ.left

-- where X1 fits, its array's words are left
pub fits_left : (ρ : Room) (ω : ℕ) (q : Queue) → fits ρ ω q ≡ true → next_length q ≤ ρ.left
fits_left ρ ω q e = leb-true (next_length q) ρ.left (and_right (leb (2 * size ω q) 1024) _ e)

-- the store changed outside the queue's arrays
pub record Others (q : Queue) (m m' : List ℕ) : Type 0 where
  pub long : length m' ≡ length m
  pub same : (k a : ℕ) → k < q.claimed → offset_at q.arrays k ≤ a → a < offset_at q.arrays k + length_at q.arrays k → get_or m' a 0 ≡ get_or m a 0

module _ {ω : ℕ} {q : Queue} {m : List ℕ} (A : Arrays ω q m) where
  tidied_to : (k : ℕ) → k < q.published → tidy ω q.arrays (suc k) ≡ true
  tidied_to k h = tidy_front ω q.arrays q.claimed k A.tidied (omega (arith, A.below))

  pub now : Size (size ω q)
  now = tidy_proper ω q.arrays q.claimed (q.published - 1) A.tidied (omega (arith, A.some, A.below))

  pub long : len q ≡ (ω + 1) * size ω q
  long = tidy_long ω q.arrays (q.published - 1) (tidied_to (q.published - 1) (omega (arith, A.some)))

  pub long_at : (k : ℕ) → k < q.claimed → length_at q.arrays k ≡ (ω + 1) * size_at ω q.arrays k
  long_at k h = tidy_long ω q.arrays k (tidy_front ω q.arrays q.claimed k A.tidied h)

  -- an array's end
  pub end : (k : ℕ) → k < q.claimed → offset_at q.arrays k + length_at q.arrays k ≤ taken q
  end k h = (tidy_below ω q.arrays q.claimed k (q.claimed - 1) A.tidied (omega arith) (omega arith)).0

  pub larger : (k : ℕ) → k < q.published → size_at ω q.arrays k ≤ size ω q
  larger k h = (tidy_below ω q.arrays q.claimed k (q.published - 1) A.tidied (omega arith) (omega (arith, A.below, A.some))).1

  -- a number that is read
  pub number : (k t : ℕ) → k < q.published → t < size_at ω q.arrays k → word_at m ω (offset_at q.arrays k) t 0 ≤ 65535
  number k t h l = A.numbers k t (omega (arith, A.below)) l

  pub number_now : (t : ℕ) → t < size ω q → word_at m ω (off q) t 0 ≤ 65535
  number_now t l = number (q.published - 1) t (omega (arith, A.some)) l

  pub roomy : 2 * size ω q ≤ 1024 → q.published < 11
  roomy h = go (le_or_lt 10 (q.published - 1))
    where
      go : (10 ≤ q.published - 1) ⊎ (q.published - 1 < 10) → q.published < 11
      go (inl a) = absurd (omega (arith, pow_mono a, A.power))
      go (inr a) = omega arith

-- a word is written
pub set_word_lem : (m : List ℕ) (a i x : ℕ) → x ≤ 65535 → get_or m a 0 ≤ 65535 → get_or (set m i x) a 0 ≤ 65535
set_word_lem m a i x hx ha = go (le_or_lt a i) (le_or_lt i a) (le_or_lt (length m) i)
  where
    other : a ≢ i → get_or (set m i x) a 0 ≤ 65535
    other ne = rw (get_or-set_other m i a x 0 ne) ha

    go : (a ≤ i) ⊎ (i < a) → (i ≤ a) ⊎ (a < i) → (length m ≤ i) ⊎ (i < length m) → get_or (set m i x) a 0 ≤ 65535
    go (inr p) q r = other (omega arith)
    go (inl p) (inr q) r = other (omega arith)
    go (inl p) (inl q) (inl r) = rw (set_out m i x r) ha
    go (inl p) (inl q) (inr r) = rw (is, get_or-set_same m i x 0 r) hx
      where
        is : a ≡ i
        is = omega arith

-- word j of a task in slot s of array b
pub numbers_word : (ω : ℕ) (m : List ℕ) (l : List Region) (n b s j x : ℕ) → tidy ω l n ≡ true → b < n → s < size_at ω l b → j ≤ ω → (j ≡ 0 → x ≤ 65535) → Numbers ω m l n → Numbers ω (set_word m ω (offset_at l b) s j x) l n
unfolding set_word word_at
numbers_word ω m l n b s zero x T hb hs hj hx N k t h g = set_word_lem m _ _ x (hx refl) (N k t h g)
numbers_word ω m l n b s (suc j) x T hb hs hj hx N k t h g =
    rw (get_or-set_other m (offset_at l b + (ω + 1) * s + suc j) (offset_at l k + (ω + 1) * t + 0) x 0 (ne (le_or_lt k b) (le_or_lt b k))) (N k t h g)
  where
    long : (i : ℕ) → i < n → length_at l i ≡ (ω + 1) * size_at ω l i
    long i hi = tidy_long ω l i (tidy_front ω l n i T hi)

    ne : (k ≤ b) ⊎ (b < k) → (b ≤ k) ⊎ (k < b) → offset_at l k + (ω + 1) * t + 0 ≢ offset_at l b + (ω + 1) * s + suc j
    ne (inr a) c = omega (arith, tidy_sorted ω l n b k T a h, long b hb, earlier_slot (ω + 1) s (size_at ω l b) (suc j) hs (omega arith))
    ne (inl a) (inr c) = omega (arith, tidy_sorted ω l n k b T c hb, long k h, earlier_slot (ω + 1) t (size_at ω l k) 0 g (omega arith))
    ne (inl a) (inl c) =
        subst (λ (y : ℕ). offset_at l y + (ω + 1) * t + 0 ≢ offset_at l b + (ω + 1) * s + suc j) {x = b} {y = k} (omega arith)
        (omega (arith, first_apart (ω + 1) t s (suc j) (omega arith) (omega arith)))

pub zeros_new : (m : List ℕ) (a n i : ℕ) → a ≤ i → i < a + n → a ≤ length m → get_or (zeros m a n) i 0 ≡ 0
unfolding zeros
zeros_new m a n i l h g =
    subst (λ (x : ℕ). get_or (take a m ++ (replicate n 0 ++ drop (a + n) m)) x 0 ≡ 0) here
    (get_or-append-add (take a m) (replicate n 0 ++ drop (a + n) m) (i - a) 0
    ∙ get_or-append (replicate n 0) (drop (a + n) m) 0 (i - a) (omega (arith, length-replicate {A = ℕ} n 0)) ∙ get_or-replicate n (i - a) 0 0 (omega arith))
  where
    here : length (take a m) + (i - a) ≡ i
    here = omega (arith, length-take-le a m g)

-- another anchor, other links
pub arrays_anchor : {ω : ℕ} {q : Queue} {m : List ℕ} (a : Anchor) (ls : List Bool) → Arrays ω q m
    → Arrays ω (record { linked = q.linked; anchor = a; arrays = q.arrays; published = q.published; claimed = q.claimed; initial = q.initial; links = ls }) m
arrays_anchor a ls A =
    record {
      some = A.some;
      below = A.below;
      few = A.few;
      slots = A.slots;
      tidied = A.tidied;
      kept = A.kept;
      power = A.power;
      room = A.room;
      numbers = A.numbers;
    }

-- another store of the same length
pub arrays_store : {ω : ℕ} {q : Queue} {m : List ℕ} (m' : List ℕ) → Arrays ω q m → length m' ≡ length m → Numbers ω m' q.arrays q.claimed → Arrays ω q m'
arrays_store {ω} {q} {m} m' A e N =
    record {
      some = A.some;
      below = A.below;
      few = A.few;
      slots = A.slots;
      tidied = A.tidied;
      kept = A.kept;
      power = A.power;
      room = omega (arith, A.room);
      numbers = N;
    }

-- what others write
pub arrays_others : {ω : ℕ} {q : Queue} {m m' : List ℕ} → Arrays ω q m → Others q m m' → Arrays ω q m'
unfolding word_at
arrays_others {ω} {q} {m} {m'} A O =
    arrays_store m' A O.long
    (λ k t h g. rw (O.same k (offset_at q.arrays k + (ω + 1) * t + 0) h (omega arith) (omega (arith, long_at A k h, earlier_slot (ω + 1) t (size_at ω q.arrays k) 0 g (omega arith)))) (A.numbers k t h g))

-- X1: q is the queue in memory
pub arrays_claim : (ρ : Room) {ω : ℕ} {q : Queue} {m : List ℕ} → Arrays ω q m → q.claimed < 11 → 2 * size_at ω q.arrays (q.claimed - 1) ≤ 1024 → Free ρ q m → next_length q ≤ ρ.left
    → Arrays ω (claiming ρ q) (zeros m ρ.next (next_length q))
unfolding word_at
arrays_claim ρ {ω} {q} {m} A n11 small R left =
    record {
      some = A.some;
      below = omega (arith, A.below);
      few = omega (arith, n11);
      slots = length-set q.arrays q.claimed _ ∙ A.slots;
      tidied = tidied';
      kept = A.kept ∙ sym (set_place ω q.arrays q.claimed 0 ρ.next (next_length q) (omega (arith, pos))).2;
      power = rw now'.2 A.power;
      room = subst (λ (x : ℕ). x ≤ length (zeros m ρ.next (next_length q))) (sym top) (omega (arith, zeros_length m ρ.next (next_length q) room));
      numbers = λ k t h g. at k t (le_or_lt q.claimed k) h g;
    }
  where
    l' : List Region
    l' = set q.arrays q.claimed (record { offset = ρ.next; length = next_length q })

    pos : 0 < q.claimed
    pos = omega (arith, A.some, A.below)

    room : ρ.next + next_length q ≤ length m
    room = omega (arith, R.inside)

    long' : length_at q.arrays (q.claimed - 1) ≡ (ω + 1) * size_at ω q.arrays (q.claimed - 1)
    long' = tidy_long ω q.arrays (q.claimed - 1) (tidy_front ω q.arrays q.claimed (q.claimed - 1) A.tidied (omega (arith, pos)))

    new : (offset_at l' q.claimed ≡ ρ.next) × (length_at l' q.claimed ≡ next_length q) × (size_at ω l' q.claimed ≡ 2 * size_at ω q.arrays (q.claimed - 1))
    new = set_here ω q.arrays q.claimed ρ.next (2 * size_at ω q.arrays (q.claimed - 1)) (next_length q) (omega (arith, n11, A.slots)) (omega (arith, long'))

    last : (offset_at l' (q.claimed - 1) ≡ offset_at q.arrays (q.claimed - 1)) × (length_at l' (q.claimed - 1) ≡ length_at q.arrays (q.claimed - 1)) × (size_at ω l' (q.claimed - 1) ≡ size_at ω q.arrays (q.claimed - 1))
    last = set_place ω q.arrays q.claimed (q.claimed - 1) ρ.next (next_length q) (omega (arith, pos))

    now' : (offset_at l' (q.published - 1) ≡ off q) × (length_at l' (q.published - 1) ≡ len q) × (size_at ω l' (q.published - 1) ≡ size ω q)
    now' = set_place ω q.arrays q.claimed (q.published - 1) ρ.next (next_length q) (omega (arith, A.some, A.below))

    at : (k t : ℕ) → (q.claimed ≤ k) ⊎ (k < q.claimed) → k < q.claimed + 1 → t < size_at ω l' k
        → get_or (zeros m ρ.next (next_length q)) (offset_at l' k + (ω + 1) * t + 0) 0 ≤ 65535
    at k t (inl a) h g =
        rw (zeros_new m ρ.next (next_length q) (offset_at l' k + (ω + 1) * t + 0) (omega (arith, here.0))
        (omega (arith, here.0, here.1, long', earlier_slot (ω + 1) t (size_at ω l' k) 0 g (omega arith), ap (λ (z : ℕ). (ω + 1) * z) here.1)) (omega (arith, room))) (omega arith)
      where
        here : (offset_at l' k ≡ ρ.next) × (size_at ω l' k ≡ 2 * size_at ω q.arrays (q.claimed - 1))
        here = subst (λ (x : ℕ). (offset_at l' x ≡ ρ.next) × (size_at ω l' x ≡ 2 * size_at ω q.arrays (q.claimed - 1))) {x = q.claimed} {y = k} (omega arith) (new.0, new.2)
    at k t (inr a) h g =
        let there = set_place ω q.arrays q.claimed k ρ.next (next_length q) (omega arith) in
        rw (
          there.0,
          zeros_low m ρ.next (next_length q) (offset_at q.arrays k + (ω + 1) * t + 0)
              (omega (arith, there.2, end A k a, R.behind, long_at A k a, earlier_slot (ω + 1) t (size_at ω q.arrays k) 0 (omega (arith, there.2)) (omega arith))) (omega (arith, room)),
        )
        (A.numbers k t a (omega (arith, there.2)))

    pred : q.claimed + 1 - 1 ≡ q.claimed
    pred = omega arith

    top : taken (claiming ρ q) ≡ ρ.next + next_length q
    top = ap (λ (x : ℕ). offset_at l' x + length_at l' x) pred ∙ omega (arith, new.0, new.1)

    old : tidy ω l' q.claimed ≡ true
    old = tidy_ext ω q.arrays l' q.claimed (λ k h. get_or-set_other q.arrays q.claimed k _ nowhere (omega arith)) ∙ A.tidied

    more : (k : ℕ) → suc k ≡ q.claimed → tidy ω l' (suc (suc k)) ≡ true
    more k h =
        and_both (tidy ω l' (suc k)) _ (subst (λ (x : ℕ). tidy ω l' x ≡ true) (sym h) old)
        (and_both (leb (offset_at l' k + length_at l' k) (offset_at l' (suc k))) _ (le-leb _ _ place)
        (and_both (eqb (length_at l' (suc k)) (2 * length_at l' k)) _ (eq-eqb _ _ longer) (le-leb _ _ small')))
      where
        k_is : k ≡ q.claimed - 1
        k_is = omega arith

        ck : length_at l' k ≡ length_at q.arrays (q.claimed - 1)
        ck = ap (length_at l') k_is ∙ last.1

        place : offset_at l' k + length_at l' k ≤ offset_at l' (suc k)
        place = omega (arith, ap (offset_at l') h, new.0, ck, ap (offset_at l') k_is, last.0, R.behind)

        longer : length_at l' (suc k) ≡ 2 * length_at l' k
        longer = ap (length_at l') h ∙ new.1 ∙ omega (arith, ck)

        small' : 2 * size_at ω l' k ≤ 1024
        small' = omega (arith, ap (size_at ω l') k_is, last.2, small)

    tidied' : tidy ω l' (q.claimed + 1) ≡ true
    tidied' = subst (λ (x : ℕ). tidy ω l' x ≡ true) {x = suc (suc (q.claimed - 1))} {y = q.claimed + 1} (omega (arith, pos)) (more (q.claimed - 1) (omega (arith, pos)))

-- X4: the next array becomes current
pub arrays_note : {ω : ℕ} {q : Queue} {m : List ℕ} (k : ℕ) → Arrays ω q m → k ≡ q.published → q.published < q.claimed
    → Arrays ω (laid (StoreNote k ∷ []) q) m × (size_at ω q.arrays (k + 1 - 1) ≡ 2 * size ω q)
arrays_note {ω} {q} {m} k A is e = (
  record {
    some = omega arith;
    below = omega (arith, e);
    few = A.few;
    slots = A.slots;
    tidied = A.tidied;
    kept = A.kept;
    power = omega (arith, A.power, twice, pow);
    room = A.room;
    numbers = A.numbers;
  },
  twice,
)
  where
    up : k + 1 - 1 ≡ suc (q.published - 1)
    up = omega (arith, A.some)

    twice : size_at ω q.arrays (k + 1 - 1) ≡ 2 * size ω q
    twice = ap (size_at ω q.arrays) up ∙ tidy_twice ω q.arrays (q.published - 1) (tidy_front ω q.arrays q.claimed (suc (q.published - 1)) A.tidied (omega (arith, e, A.some)))

    pow : 2 ^ (k + 1 - 1) ≡ 2 * 2 ^ (q.published - 1)
    pow = ap (λ (x : ℕ). 2 ^ x) up ∙ omega arith
