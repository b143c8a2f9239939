-- The entries of a list's answers, and the places of the answers that wrote them.
use mathlib.Core.Path.{◌≡◌, refl, sym, ◌∙◌, ap, subst}
use mathlib.Core.Bool.{Bool, true, false, true≢false}
use mathlib.Core.Logic.{◌⊎◌, inl, inr, ⊎_elim}
use mathlib.Core.List.{List, [], ◌∷◌, ◌++◌}
use Prim.Native.Nat.{ℕ, zero, suc, ◌+◌, ◌*◌, ◌≤◌, ◌<◌}
use native.Mathlib.Omega.{arith}
use native.Mathlib.Nat.{eq-or-lt_of_le}
use lib.ListN.{length, get_or, take, get_or-append, length-append}
use lib.Seq.{get_or-append-add, get_or-take, length-take-le}
use borrow.Author.Tests.{ltb-true}
use Rattle.model.specs.declared.Task.{Task}
use Rattle.model.specs.declared.Answer.{Answer}
use Rattle.model.specs.declared.Answer.TheVariants.{Accepted, Numbered, GoesOn, Finished, HandedOut, Empty, Full, Refused, Grown}
use Rattle.model.specs.Tests.{when◌then◌else◌}
use Rattle.model.specs.Tasks.{words_in, word_in, first_words}
use Rattle.model.proofs.Tasks.{same_words}
use Rattle.model.specs.Answers.{Entry, entry, entry_of, ends, entry_length, entry_words}
use Rattle.model.specs.Run.{Played}
use Rattle.model.specs.Counts.{entry_at}
use Rattle.theorems.specs.Demand3.{At}
use Rattle.order.specs.Order.{entries}
use Rattle.theorems.proofs.Remainders.{le_or_lt}

-- AN ANSWER BY ITS ENTRY'S KIND. Kind 1 finishes a put, kind 2 hands out
pub kind_1 : (a : Answer) → (entry_of a).kind ≡ 1 → (i : ℕ) × (t : Task) × (a ≡ Finished i t)
kind_1 Accepted e = absurd (omega arith)
kind_1 (Numbered n) e = absurd (omega arith)
kind_1 GoesOn e = absurd (omega arith)
kind_1 (Finished i t) e = (i, t, refl)
kind_1 (HandedOut i t) e = absurd (omega arith)
kind_1 (Empty i) e = absurd (omega arith)
kind_1 (Full i t) e = absurd (omega arith)
kind_1 (Grown i) e = absurd (omega arith)
kind_1 (Refused r) e = absurd (omega arith)

pub kind_2 : (a : Answer) → (entry_of a).kind ≡ 2 → (i : ℕ) × (t : Task) × (a ≡ HandedOut i t)
kind_2 Accepted e = absurd (omega arith)
kind_2 (Numbered n) e = absurd (omega arith)
kind_2 GoesOn e = absurd (omega arith)
kind_2 (Finished i t) e = absurd (omega arith)
kind_2 (HandedOut i t) e = (i, t, refl)
kind_2 (Empty i) e = absurd (omega arith)
kind_2 (Full i t) e = absurd (omega arith)
kind_2 (Grown i) e = absurd (omega arith)
kind_2 (Refused r) e = absurd (omega arith)

-- PLACES. That of the answer that wrote entry j: answers without an entry are passed over. Past the entries any rising numbers do
abbrev place_behind : Bool → (ℕ → ℕ) → ℕ → ℕ
place_behind true f zero = 0
place_behind true f (suc j) = suc (f j)
place_behind false f j = suc (f j)

abbrev pub place : List Played → ℕ → ℕ
place [] j = j
place (s ∷ T) j = place_behind (ends s.answer) (λ i. place T i) j

-- a later entry was written at a later place
rises_behind : (x : Bool) (f : ℕ → ℕ) → ((j k : ℕ) → j < k → f j < f k) → (j k : ℕ) → j < k → place_behind x f j < place_behind x f k
rises_behind true f r zero zero h = absurd (omega arith)
rises_behind true f r zero (suc k) h = omega arith
rises_behind true f r (suc j) zero h = absurd (omega arith)
rises_behind true f r (suc j) (suc k) h = omega (arith, r j k (omega arith))
rises_behind false f r j k h = omega (arith, r j k h)

pub place_rises : (T : List Played) (j k : ℕ) → j < k → place T j < place T k
place_rises [] j k h = h
place_rises (s ∷ T) j k h = rises_behind (ends s.answer) (λ i. place T i) (λ i m g. place_rises T i m g) j k h

-- an entry's words: of a task that has no other words than ω payload words, they tell the entry
pub words_long : (ω : ℕ) (e : Entry) → ω ≤ 4 → length (entry_words ω e) ≡ entry_length ω
words_long ω e h =
    let z : ω + 1 ≤ length (words_in e.task) = omega arith in
    omega (arith, length-take-le (ω + 1) (words_in e.task) z)

abbrev pub Cut : ℕ → Answer → Type 0
Cut ω a = (entry_of a).task ≡ first_words (ω + 1) (entry_of a).task

entry_here : (ω : ℕ) (a : Answer) (l : List ℕ) → ω ≤ 4 → Cut ω a → entry_at ω (entry_words ω (entry_of a) ++ l) 0 ≡ entry_of a
unfolding word_in
entry_here ω a l h c = rw none (ap (entry (entry_of a).kind (entry_of a).worker) (same_words (ω + 1) _ _ word ∙ sym c))
  where
    none : entry_length ω * 0 ≡ 0
    none = omega arith

    t : Task
    t = (entry_of a).task

    word : (k : ℕ) → k < ω + 1 → get_or (entry_words ω (entry_of a) ++ l) (0 + 2 + k) 0 ≡ word_in t k
    word k g =
        let z : ω + 1 ≤ length (words_in t) = omega arith in
        ap (λ (i : ℕ). get_or (entry_words ω (entry_of a) ++ l) i 0) (let q : 0 + 2 + k ≡ suc (suc k) = omega arith in q)
        ∙ get_or-append (take (ω + 1) (words_in t)) l 0 k (omega (arith, g, length-take-le (ω + 1) (words_in t) z)) ∙ get_or-take (ω + 1) (words_in t) k 0 g

-- entry j + 1 behind an entry is entry j of the rest
word_behind : (ω : ℕ) (e : Entry) (l : List ℕ) (m n : ℕ) → ω ≤ 4 → n ≡ m + entry_length ω → get_or (entry_words ω e ++ l) n 0 ≡ get_or l m 0
word_behind ω e l m n h q =
    ap (λ (i : ℕ). get_or (entry_words ω e ++ l) i 0) (let z : n ≡ length (entry_words ω e) + m = omega (arith, words_long ω e h) in z)
    ∙ get_or-append-add (entry_words ω e) l m 0

entry_behind : (ω : ℕ) (e : Entry) (l : List ℕ) (j : ℕ) → ω ≤ 4 → entry_at ω (entry_words ω e ++ l) (suc j) ≡ entry_at ω l j
entry_behind ω e l j h =
    rw (
      word_behind ω e l (entry_length ω * j) (entry_length ω * suc j) h (omega arith),
      word_behind ω e l (entry_length ω * j + 1) (entry_length ω * suc j + 1) h (omega arith),
      same_words (ω + 1) (λ k. get_or (entry_words ω e ++ l) (entry_length ω * suc j + 2 + k) 0) (λ k. get_or l (entry_length ω * j + 2 + k) 0)
          (λ k g. word_behind ω e l (entry_length ω * j + 2 + k) (entry_length ω * suc j + 2 + k) h (omega arith)),
    )

-- the words of the entries behind an answer
abbrev behind : ℕ → Bool → Answer → List ℕ → List ℕ
behind ω x a l = (when x then entry_words ω (entry_of a) else []) ++ l

-- of a list whose answers' tasks have no other words
abbrev pub AllCut : ℕ → List Played → Type 0
AllCut ω [] = Unit {0}
AllCut ω (s ∷ T) = Cut ω s.answer × AllCut ω T

-- FROM ENTRIES TO PLACES. An entry has the place of the answer that wrote it; past the entries kinds are 0
abbrev Placed : ℕ → List Played → (ℕ → ℕ) → List ℕ → Type 0
Placed ω T f l = (j : ℕ) → 0 < (entry_at ω l j).kind → At T (f j) (λ s. entry_of s.answer ≡ entry_at ω l j)

placed_behind : (ω : ℕ) (s : Played) (T : List Played) (f : ℕ → ℕ) (l : List ℕ) (x : Bool) → ω ≤ 4 → Cut ω s.answer → Placed ω T f l
    → Placed ω (s ∷ T) (place_behind x f) (behind ω x s.answer l)
unfolding when◌then◌else◌
placed_behind ω s T f l true g c r zero h = sym (entry_here ω s.answer l g c)
placed_behind ω s T f l true g c r (suc j) h =
    let e = entry_behind ω (entry_of s.answer) l j g in
    subst (λ (y : Entry). At T (f j) (λ s. entry_of s.answer ≡ y)) (sym e) (r j (subst (λ (y : Entry). 0 < y.kind) e h))
placed_behind ω s T f l false g c r j h = r j h

pub placed : (ω : ℕ) (T : List Played) → ω ≤ 4 → AllCut ω T → Placed ω T (place T) (entries ω T)
placed ω [] g c j h = absurd (omega arith)
placed ω (s ∷ T) g (c, d) j h = placed_behind ω s T (place T) (entries ω T) (ends s.answer) g c (placed ω T g d) j h

-- FROM PLACES TO ENTRIES. A call of the list that ends an operation wrote an entry
abbrev Wrote : ℕ → (Played → Type 0) → List ℕ → ℕ → Type 0
Wrote ω P l i = (s : Played) × P s × (entry_at ω l i ≡ entry_of s.answer)

abbrev Entered : ℕ → List Played → (ℕ → ℕ) → List ℕ → Type 1
Entered ω T f l =
    (p : ℕ) (P : Played → Type 0) → ((s : Played) → P s → ends s.answer ≡ true) → At T p P → (i : ℕ) × (f i ≡ p) × Wrote ω P l i

entered_behind : (ω : ℕ) (s : Played) (T : List Played) (f : ℕ → ℕ) (l : List ℕ) (x : Bool) → ends s.answer ≡ x → ω ≤ 4 → Cut ω s.answer → Entered ω T f l
    → Entered ω (s ∷ T) (place_behind x f) (behind ω x s.answer l)
unfolding when◌then◌else◌
entered_behind ω s T f l true q h c r zero P E a = (0, refl, (s, a, entry_here ω s.answer l h c))
entered_behind ω s T f l true q h c r (suc p) P E a =
    let (i, g, (u, b, e)) = r p P E a in (suc i, ap suc g, (u, b, entry_behind ω (entry_of s.answer) l i h ∙ e))
entered_behind ω s T f l false q h c r zero P E a = absurd (true≢false (sym (E s a) ∙ q))
entered_behind ω s T f l false q h c r (suc p) P E a = let (i, g, w) = r p P E a in (i, ap suc g, w)

pub entered : (ω : ℕ) (T : List Played) → ω ≤ 4 → AllCut ω T → Entered ω T (place T) (entries ω T)
entered ω [] h c p P E a = absurd a
entered ω (s ∷ T) h (c, d) p P E a = entered_behind ω s T (place T) (entries ω T) (ends s.answer) refl h c (entered ω T h d) p P E a

-- before the place of entry j, an entry before entry j
pub earlier : (ω : ℕ) (T : List Played) → ω ≤ 4 → AllCut ω T → (j p : ℕ) (P : Played → Type 0) → ((s : Played) → P s → ends s.answer ≡ true) → p < place T j → At T p P
    → (i : ℕ) × (i < j) × Wrote ω P (entries ω T) i
earlier ω T g c j p P E h a = let (i, e, w) = entered ω T g c p P E a in (i, before i e (le_or_lt j i), w)
  where
    before : (i : ℕ) → place T i ≡ p → (j ≤ i) ⊎ (i < j) → i < j
    before i e (inl g) =
        absurd (⊎_elim (λ q. omega (arith, h, e, ap (place T) q)) (λ q. omega (arith, h, e, place_rises T j i q)) (eq-or-lt_of_le g))
    before i e (inr g) = g

-- HOW MANY. Each has an entry's words and a kind from 1 to 4; a kind that is not 0 is an entry's
abbrev count_behind : Bool → ℕ → ℕ
count_behind true n = suc n
count_behind false n = n

abbrev pub count : List Played → ℕ
count [] = 0
count (s ∷ T) = count_behind (ends s.answer) (count T)

long_behind : (ω : ℕ) (a : Answer) (l : List ℕ) (n : ℕ) (x : Bool) → ω ≤ 4 → length l ≡ entry_length ω * n → length (behind ω x a l) ≡ entry_length ω * count_behind x n
unfolding when◌then◌else◌
long_behind ω a l n true h e = omega (arith, length-append (entry_words ω (entry_of a)) l, words_long ω (entry_of a) h, e)
long_behind ω a l n false h e = e

pub entries_long : (ω : ℕ) (T : List Played) → ω ≤ 4 → length (entries ω T) ≡ entry_length ω * count T
entries_long ω [] h = omega arith
entries_long ω (s ∷ T) h = long_behind ω s.answer (entries ω T) (count T) (ends s.answer) h (entries_long ω T h)

kind_le : (a : Answer) → (entry_of a).kind ≤ 5
kind_le Accepted = omega arith
kind_le (Numbered n) = omega arith
kind_le GoesOn = omega arith
kind_le (Finished i t) = omega arith
kind_le (HandedOut i t) = omega arith
kind_le (Empty i) = omega arith
kind_le (Full i t) = omega arith
kind_le (Grown i) = omega arith
kind_le (Refused r) = omega arith

kind_here : (ω : ℕ) (a : Answer) (l : List ℕ) → (entry_at ω (entry_words ω (entry_of a) ++ l) 0).kind ≡ (entry_of a).kind
kind_here ω a l = let none : entry_length ω * 0 ≡ 0 = omega arith in rw none

abbrev Known : ℕ → List ℕ → ℕ → Type 0
Known ω l n = (j : ℕ) → j < n → (0 < (entry_at ω l j).kind) × ((entry_at ω l j).kind ≤ 5)

known_behind : (ω : ℕ) (a : Answer) (l : List ℕ) (n : ℕ) (x : Bool) → ends a ≡ x → ω ≤ 4 → Known ω l n → Known ω (behind ω x a l) (count_behind x n)
unfolding when◌then◌else◌
known_behind ω a l n true q g r zero h = rw (kind_here ω a l) (ltb-true 0 _ q, kind_le a)
known_behind ω a l n true q g r (suc j) h = omega (arith, r j (omega arith), ap (λ (e : Entry). e.kind) (entry_behind ω (entry_of a) l j g))
known_behind ω a l n false q g r j h = r j h

pub entries_known : (ω : ℕ) (T : List Played) → ω ≤ 4 → Known ω (entries ω T) (count T)
entries_known ω [] g j h = absurd (omega arith)
entries_known ω (s ∷ T) g j h = known_behind ω s.answer (entries ω T) (count T) (ends s.answer) refl g (entries_known ω T g) j h

abbrev Inside : ℕ → List ℕ → ℕ → Type 0
Inside ω l n = (j : ℕ) → 0 < (entry_at ω l j).kind → j < n

inside_behind : (ω : ℕ) (a : Answer) (l : List ℕ) (n : ℕ) (x : Bool) → ω ≤ 4 → Inside ω l n → Inside ω (behind ω x a l) (count_behind x n)
unfolding when◌then◌else◌
inside_behind ω a l n true g r zero h = omega arith
inside_behind ω a l n true g r (suc j) h = omega (arith, r j (omega (arith, h, ap (λ (e : Entry). e.kind) (entry_behind ω (entry_of a) l j g))))
inside_behind ω a l n false g r j h = r j h

pub entries_inside : (ω : ℕ) (T : List Played) → ω ≤ 4 → Inside ω (entries ω T) (count T)
entries_inside ω [] g j h = absurd (omega arith)
entries_inside ω (s ∷ T) g j h = inside_behind ω s.answer (entries ω T) (count T) (ends s.answer) g (entries_inside ω T g) j h
