-- A line of pending stores, one store after another.
use mathlib.Core.Bool.{Bool, true, false}
use mathlib.Core.List.{List, [], ◌∷◌, ◌++◌}
use mathlib.Core.Path.{◌≡◌, refl, sym, ap, ◌∙◌}
use Prim.Native.Nat.{ℕ, zero, suc, ◌<◌}
use native.Mathlib.Omega.{arith}
use lib.ListN.{length, get_or}
use Rattle.model.specs.declared.Queue.{Queue}
use Rattle.model.specs.declared.Store.{Store}
use Rattle.model.specs.Tests.{◌and◌}
use Rattle.model.specs.Stores.{Shared, landed, landed_all, none_pending}
use Rattle.model.proofs.Tests.{and_left, and_right, and_true, and_both, and_false, fails}
use Rattle.model.proofs.Landing.{landed_more}
use Rattle.waiting.specs.Places.{note_ok, notes_ok, first_in, Placed, AllPlaced}

-- the store at place i
abbrev pub store_at : List Store → ℕ → Store
store_at l i = get_or l i none_pending

pub first_more : (l : List Store) (i : ℕ) → i < length l → first_in l (suc i) ≡ first_in l i ++ store_at l i ∷ []
first_more [] i h = absurd (omega arith)
first_more (x ∷ l) zero h = refl
first_more (x ∷ l) (suc i) h = ap (λ (r : List Store). x ∷ r) (first_more l i (omega arith))

pub lands_next : (v : ℕ) (S : Shared) (l : List Store) (i : ℕ) → i < length l
    → landed_all v S (first_in l (suc i)) ≡ landed v (landed_all v S (first_in l i)) (store_at l i)
unfolding landed_all
lands_next v S l i h = ap (landed_all v S) (first_more l i h) ∙ landed_more v S (first_in l i) (store_at l i ∷ [])

-- a test of each store
module _ (test : Store → Bool) (all : List Store → Bool) (none : all [] ≡ true)
    (turn : (s : Store) (l : List Store) → all (s ∷ l) ≡ (test s and all l)) where
  pub test_in : (l : List Store) (i : ℕ) → i < length l → all l ≡ true → test (store_at l i) ≡ true
  test_in [] i h e = absurd (omega arith)
  test_in (x ∷ l) zero h e = and_left (test x) (all l) (sym (turn x l) ∙ e)
  test_in (x ∷ l) (suc i) h e = test_in l i (omega arith) (and_right (test x) (all l) (sym (turn x l) ∙ e))

  pub test_fails : (l : List Store) (i : ℕ) → i < length l → test (store_at l i) ≡ false → all l ≡ false
  test_fails [] i h e = absurd (omega arith)
  test_fails (x ∷ l) zero h e = turn x l ∙ fails (all l) e
  test_fails (x ∷ l) (suc i) h e = turn x l ∙ ap (λ (b : Bool). test x and b) (test_fails l i (omega arith) e) ∙ and_false (test x)

  pub tests_next : (l : List Store) (i : ℕ) → i < length l → all (first_in l i) ≡ true → test (store_at l i) ≡ true → all (first_in l (suc i)) ≡ true
  tests_next [] i h e f = absurd (omega arith)
  tests_next (x ∷ l) zero h e f = turn x [] ∙ and_both (test x) (all []) f none
  tests_next (x ∷ l) (suc i) h e f =
      let both = sym (turn x (first_in l i)) ∙ e in
      turn x (first_in l (suc i))
      ∙ and_both (test x) (all (first_in l (suc i))) (and_left (test x) (all (first_in l i)) both)
      (tests_next l i (omega arith) (and_right (test x) (all (first_in l i)) both) f)

-- notes that name a place of the directory
no_notes : notes_ok [] ≡ true
unfolding notes_ok
no_notes = refl

notes_turn : (s : Store) (l : List Store) → notes_ok (s ∷ l) ≡ (note_ok s and notes_ok l)
unfolding notes_ok
notes_turn s l = refl

pub note_in : (l : List Store) (i : ℕ) → i < length l → notes_ok l ≡ true → note_ok (store_at l i) ≡ true
note_in = test_in note_ok notes_ok no_notes notes_turn

pub oldest_noted : (l : List Store) (n : ℕ) → 0 < n → 0 < length l → notes_ok (first_in l n) ≡ true → note_ok (store_at l 0) ≡ true
oldest_noted [] n p h e = absurd (omega arith)
oldest_noted (x ∷ l) zero p h e = absurd (omega arith)
oldest_noted (x ∷ l) (suc n) p h e = note_in (x ∷ first_in l n) 0 (omega arith) e

pub note_fails : (l : List Store) (i : ℕ) → i < length l → note_ok (store_at l i) ≡ false → notes_ok l ≡ false
note_fails = test_fails note_ok notes_ok no_notes notes_turn

pub notes_next : (l : List Store) (i : ℕ) → i < length l → notes_ok (first_in l i) ≡ true → note_ok (store_at l i) ≡ true → notes_ok (first_in l (suc i)) ≡ true
notes_next = tests_next note_ok notes_ok no_notes notes_turn

pub one_note : (s : Store) → note_ok s ≡ true → notes_ok (s ∷ []) ≡ true
unfolding notes_ok ◌and◌
one_note s e = and_true (note_ok s) ∙ e

pub its_note : (s : Store) → notes_ok (s ∷ []) ≡ true → note_ok s ≡ true
unfolding notes_ok
its_note s e = and_left (note_ok s) true e

-- words that have a place
pub placed_at : (v : ℕ) (q : Queue) (w : ℕ) (l : List Store) (i n : ℕ) → i < n → i < length l → AllPlaced v q w (first_in l n)
    → Placed v q w (store_at l i)
placed_at v q w [] i n h k P = absurd (omega arith)
placed_at v q w (x ∷ l) i zero h k P = absurd (omega arith)
placed_at v q w (x ∷ l) zero (suc n) h k P = P.0
placed_at v q w (x ∷ l) (suc i) (suc n) h k P = placed_at v q w l i n (omega arith) (omega arith) P.1
