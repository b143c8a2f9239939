-- Laws of a task's words.
use mathlib.Core.Path.{◌≡◌, refl, sym, ◌∙◌, ap}
use mathlib.Core.Bool.{true}
use mathlib.Core.List.{List}
use Prim.Native.Nat.{ℕ, zero, suc, ◌+◌, ◌*◌, ◌≤◌, ◌<◌}
use native.Mathlib.Omega.{arith}
use native.Mathlib.Numerals.{add-one}
use lib.Dec.{eqb}
use lib.ListN.{get_or}
use borrow.Author.Tests.{eqb-true, eq-eqb}
use Rattle.model.specs.declared.Task.{Task}
use Rattle.model.specs.Tests.{◌and◌}
use Rattle.model.specs.Tasks.{payload, task, no_task, word_in, with_word, gathered, first_words, none_from, same_task}
use Rattle.model.specs.Answers.{entry_length}
use Rattle.model.specs.Counts.{entry_at}
use Rattle.model.proofs.Tests.{and_left, and_right, and_both}

-- n words that agree
pub same_words : (n : ℕ) (f g : ℕ → ℕ) → ((j : ℕ) → j < n → f j ≡ g j) → gathered n f ≡ gathered n g
unfolding gathered
same_words zero f g e = refl
same_words (suc zero) f g e = rw (e 0 (omega arith))
same_words (suc (suc zero)) f g e = rw (e 0 (omega arith), e 1 (omega arith))
same_words (suc (suc (suc zero))) f g e = rw (e 0 (omega arith), e 1 (omega arith), e 2 (omega arith))
same_words (suc (suc (suc (suc zero)))) f g e = rw (e 0 (omega arith), e 1 (omega arith), e 2 (omega arith), e 3 (omega arith))
same_words (suc (suc (suc (suc (suc n))))) f g e =
    rw (e 0 (omega arith), e 1 (omega arith), e 2 (omega arith), e 3 (omega arith), e 4 (omega arith))

-- none of them yet; one more
pub no_words : (f : ℕ → ℕ) → no_task ≡ gathered 0 f
unfolding gathered
no_words f = refl

pub next_word : (j : ℕ) (f : ℕ → ℕ) → j < 5 → with_word (gathered j f) j (f j) ≡ gathered (j + 1) f
unfolding gathered with_word
next_word zero f h = refl
next_word (suc zero) f h = refl
next_word (suc (suc zero)) f h = refl
next_word (suc (suc (suc zero))) f h = refl
next_word (suc (suc (suc (suc zero)))) f h = refl
next_word (suc (suc (suc (suc (suc j))))) f h = absurd (omega arith)

pub next_is : (j : ℕ) (t : Task) (x : ℕ) (f : ℕ → ℕ) → t ≡ gathered j f → x ≡ f j → j < 5 → with_word t j x ≡ gathered (j + 1) f
next_is j t x f e q h = rw (e, q) (next_word j f h)

-- one more word of a task of which j words are known
pub known_next : (j : ℕ) (t : Task) (x : ℕ) → j < 5 → t ≡ first_words j t → with_word t j x ≡ first_words (j + 1) (with_word t j x)
unfolding gathered word_in with_word
known_next j t x h e = ap (λ (u : Task). with_word u j x) e ∙ known j h
  where
    known : (j : ℕ) → j < 5 → with_word (first_words j t) j x ≡ first_words (j + 1) (with_word t j x)
    known zero h = refl
    known (suc zero) h = refl
    known (suc (suc zero)) h = refl
    known (suc (suc (suc zero))) h = refl
    known (suc (suc (suc (suc zero)))) h = refl
    known (suc (suc (suc (suc (suc j))))) h = absurd (omega arith)

pub number_next : (j : ℕ) (t : Task) (x : ℕ) → t.number ≤ 65535 → (j ≡ 0 → x ≤ 65535) → (with_word t j x).number ≤ 65535
unfolding with_word
number_next zero t x h f = f refl
number_next (suc j) t x h f = h

-- the words of a gathered task
pub word_gathered : (n j : ℕ) (f : ℕ → ℕ) → j < n → n ≤ 5 → word_in (gathered n f) j ≡ f j
unfolding gathered word_in
word_gathered zero j f h l = absurd (omega arith)
word_gathered (suc n) zero f h l = refl
word_gathered (suc zero) (suc j) f h l = absurd (omega arith)
word_gathered (suc (suc n)) (suc zero) f h l = refl
word_gathered (suc (suc zero)) (suc (suc j)) f h l = absurd (omega arith)
word_gathered (suc (suc (suc n))) (suc (suc zero)) f h l = refl
word_gathered (suc (suc (suc zero))) (suc (suc (suc j))) f h l = absurd (omega arith)
word_gathered (suc (suc (suc (suc n)))) (suc (suc (suc zero))) f h l = refl
word_gathered (suc (suc (suc (suc zero)))) (suc (suc (suc (suc j)))) f h l = absurd (omega arith)
word_gathered (suc (suc (suc (suc (suc n))))) (suc (suc (suc (suc zero)))) f h l = refl
word_gathered (suc (suc (suc (suc (suc n))))) (suc (suc (suc (suc (suc j))))) f h l = absurd (omega arith)

-- the number is word 0
pub number_gathered : (n : ℕ) (f : ℕ → ℕ) → (gathered (n + 1) f).number ≡ f 0
unfolding gathered
number_gathered n f = rw (add-one n)

pub number_word : (t : Task) → word_in t 0 ≡ t.number
unfolding word_in
number_word t = refl

pub first_number : (n : ℕ) (t : Task) → (first_words (n + 1) t).number ≡ t.number
first_number n t = number_gathered n (word_in t) ∙ number_word t

-- the put number of an entry of the log
pub entry_number : (v : ℕ) (l : List ℕ) (j : ℕ) → (entry_at v l j).task.number ≡ get_or l (entry_length v * j + 2) 0
entry_number v l j =
    number_gathered v _ ∙ ap (λ (i : ℕ). get_or l i 0) (let z : entry_length v * j + 2 + 0 ≡ entry_length v * j + 2 = omega arith in z)

-- a gathered task has no other words
pub gathered_again : (n : ℕ) (f : ℕ → ℕ) → n ≤ 5 → gathered n f ≡ gathered n (word_in (gathered n f))
gathered_again n f l = same_words n f (word_in (gathered n f)) (λ j h. sym (word_gathered n j f h l))

-- the test for equal tasks
pub same_task_lem : (t u : Task) → same_task t u ≡ true → t ≡ u
same_task_lem t u q =
    let p = and_right (eqb t.number u.number) _ q in
    let p2 = and_right (eqb t.payload.first u.payload.first) _ p in
    let p3 = and_right (eqb t.payload.second u.payload.second) _ p2 in
    let e0 : t.number ≡ u.number = eqb-true _ _ (and_left _ _ q) in
    let e1 : t.payload.first ≡ u.payload.first = eqb-true _ _ (and_left _ _ p) in
    let e2 : t.payload.second ≡ u.payload.second = eqb-true _ _ (and_left _ _ p2) in
    let e3 : t.payload.third ≡ u.payload.third = eqb-true _ _ (and_left _ _ p3) in
    let e4 : t.payload.fourth ≡ u.payload.fourth = eqb-true _ _ (and_right _ _ p3) in
    words e0 e1 e2 e3 e4
  where
    words : {n n' a a' b b' c c' d d' : ℕ} → n ≡ n' → a ≡ a' → b ≡ b' → c ≡ c' → d ≡ d' → task n (payload a b c d) ≡ task n' (payload a' b' c' d')
    words e f g h i = rw (e, f, g, h, i)

pub task_same : (t u : Task) → t ≡ u → same_task t u ≡ true
task_same t u e =
    and_both (eqb t.number u.number) _ (eq-eqb _ _ (ap (λ (x : Task). x.number) e))
    (and_both (eqb t.payload.first u.payload.first) _ (eq-eqb _ _ (ap (λ (x : Task). x.payload.first) e))
    (and_both (eqb t.payload.second u.payload.second) _ (eq-eqb _ _ (ap (λ (x : Task). x.payload.second) e))
    (and_both (eqb t.payload.third u.payload.third) _ (eq-eqb _ _ (ap (λ (x : Task). x.payload.third) e))
    (eq-eqb _ _ (ap (λ (x : Task). x.payload.fourth) e)))))

-- of its first n words no others are left
pub none_from_lem : (n : ℕ) (t : Task) → t ≡ first_words n t → none_from n t ≡ true
unfolding gathered word_in ◌and◌
none_from_lem n t e = ap (none_from n) e ∙ first n
  where
    first : (n : ℕ) → none_from n (first_words n t) ≡ true
    first zero = refl
    first (suc zero) = refl
    first (suc (suc zero)) = refl
    first (suc (suc (suc zero))) = refl
    first (suc (suc (suc (suc zero)))) = refl
    first (suc (suc (suc (suc (suc zero))))) = refl
    first (suc (suc (suc (suc (suc (suc n)))))) = refl
