-- Steps that are quiet and swap, and steps that are not quiet, tried by computation: nothing here rests on the theorems.
use mathlib.Core.Path.{◌≡◌, refl, sym, ◌∙◌, ap}
use mathlib.Core.Bool.{Bool, true, false, true≢false}
use mathlib.Core.Logic.{◌≢◌}
use mathlib.Core.List.{List, [], ◌∷◌, ◌++◌, map}
use Prim.Native.Nat.{ℕ, ◌-◌}
use native.Mathlib.Omega.{arith}
use lib.ListN.{length, get_or, replicate}
use Rattle.model.specs.declared.Kind.TheVariants.{Lifo}
use Rattle.model.specs.declared.Anchor.{Anchor}
use Rattle.model.specs.declared.Line.{Line}
use Rattle.model.specs.declared.Line.TheVariants.{Idle, PutWord, Note, StealRead, StealTest}
use Rattle.model.specs.declared.Growth.TheVariants.{ForPut}
use Rattle.model.specs.declared.Region.{Region}
use Rattle.model.specs.declared.Store.{Store}
use Rattle.model.specs.declared.Store.TheVariants.{StoreWord}
use Rattle.model.specs.declared.Operation.{Operation}
use Rattle.model.specs.declared.Operation.TheVariants.{Put, Take, Steal}
use Rattle.model.specs.declared.Answer.TheVariants.{GoesOn}
use Rattle.model.specs.Tests.{when◌then◌else◌, ◌and◌, ◌or◌}
use Rattle.model.specs.Memory.{nowhere, zeros, word_at, set_word, offset_at, length_at, size_at, words_to}
use Rattle.model.specs.Tasks.{task, word_in, with_word, gathered}
use Rattle.model.specs.Answers.{entry_of, ends}
use Rattle.model.specs.Figures.{anchor}
use Rattle.model.specs.Stores.{none_pending, joined, landed_all}
use Rattle.model.specs.Lines.{line_step}
use Rattle.model.specs.World.{World, resting}
use Rattle.model.specs.Limits.{valid_of}
use Rattle.model.specs.Calls.{fresh_of, setup_in, begin_of, step_of, Call, begin, step}
use Rattle.model.specs.Run.{after}
use Rattle.model.proofs.Runs.{one}
use Rattle.swaps.specs.Swaps.{Quiet, Swapped}

-- kind k with a tag of w bits, two slots, an owner and two thieves, one payload word, m words of store; its stores delayed or not
unfoldable pub bench : ℕ → ℕ → Bool → ℕ → World
bench k w d m = (fresh_of (setup_in k w 2 3 1 d) (replicate m 0) (replicate 24 0)).world

-- a begin and n steps
unfoldable pub does : ℕ → Operation → ℕ → List Call
does i op n = begin i op ∷ replicate n (step i)

-- such a LIFO bench with a tag of two bits: linked or not, delayed or not; its anchor, its claimed arrays, the three workers' links,
-- the stores that wait, the numbers used, the three counts of restarts, the three lines, the store and what is logged
abbrev stands : Bool → Bool → Anchor → List Region → List Bool → List Store → ℕ → List ℕ → Line → Line → Line → List ℕ → List ℕ → World
stands x d a r L ss u n l0 l1 l2 m g =
    record {
      bench =
          record {
            kind = Lifo;
            width = 2;
            words = 1;
            delayed = d;
            crew = 3;
            queue =
                record {
                  linked = x;
                  anchor = a;
                  arrays = r ++ replicate (11 - length r) nowhere;
                  published = 1;
                  claimed = length r;
                  initial = 2;
                  links = L ++ replicate 5 false;
                };
            waiting = joined (record { stores = replicate 8 none_pending; count = 0 }) ss;
            aside = 0;
            used = u;
            restarts = n ++ replicate 5 0;
            written = length g;
            workers = record { line = l0 } ∷ record { line = l1 } ∷ record { line = l2 } ∷ replicate 5 resting;
          };
      store = m;
      log = g ++ replicate (24 - length g) 0;
    }

-- the first array, of two tasks; no links
abbrev first : Region
first = record { offset = 0; length = 4 }

abbrev unlinked : List Bool
unlinked = replicate 3 false

-- the steps of i and j leave X in either order, and each goes on
pub record Alike (W : World) (i j : ℕ) (X : World) : Type 0 where
  pub this : step_of (step_of W j).world i ≡ record { world = X; answer = GoesOn }
  pub other : step_of (step_of W i).world j ≡ record { world = X; answer = GoesOn }

-- A COMPARE THAT FAILS is quiet. Thief 1 has read task 1 and the owner has taken it; thief 2 is at line 1
unfoldable pub beaten : World
beaten = after (bench 1 2 false 4) (does 0 (Put (one 65)) 5 ++ does 1 Steal 5 ++ does 0 Take 5 ++ begin 2 Steal ∷ [])

-- it raises the count of its own worker alone, and swaps with the other thief's read
pub failed_compare :
    Quiet beaten 1 × Quiet beaten 2
    × Alike beaten 1 2
    (stands false false (anchor 0 0 1) (first ∷ []) unlinked [] 1 (0 ∷ 1 ∷ 0 ∷ []) Idle StealRead (StealTest (anchor 0 0 1)) (1 ∷ 65 ∷ 0 ∷ 0 ∷ [])
    (1 ∷ 0 ∷ 1 ∷ 65 ∷ 2 ∷ 0 ∷ 1 ∷ 65 ∷ []))
unfolding beaten bench does after fresh_of begin_of step_of valid_of words_to line_step landed_all zeros word_at set_word offset_at length_at size_at gathered word_in with_word when◌then◌else◌ ◌and◌ ◌or◌
failed_compare = (record { accepted = refl; ends_none = refl; claims_none = refl; lands_none = refl }, record { accepted = refl; ends_none = refl; claims_none = refl; lands_none = refl }, record { this = refl; other = refl })

-- LINE 1 OF A STEAL THAT LINKS is quiet: the link is its worker's own. Both thieves are at it
unfoldable pub linking : World
linking = after (bench 4 2 false 4) (does 0 (Put (one 65)) 5 ++ begin 1 Steal ∷ begin 2 Steal ∷ [])

-- both hold their links after it
pub first_line_lem :
    Quiet linking 1 × Quiet linking 2
    × Alike linking 1 2
    (stands true false (anchor 0 1 0) (first ∷ []) (false ∷ true ∷ true ∷ []) [] 1 (0 ∷ 0 ∷ 0 ∷ []) Idle (StealTest (anchor 0 1 0)) (StealTest (anchor 0 1 0))
    (1 ∷ 65 ∷ 0 ∷ 0 ∷ []) (1 ∷ 0 ∷ 1 ∷ 65 ∷ []))
unfolding linking bench does after fresh_of begin_of step_of valid_of words_to line_step landed_all zeros word_at set_word offset_at length_at size_at gathered word_in with_word when◌then◌else◌ ◌and◌ ◌or◌
first_line_lem = (record { accepted = refl; ends_none = refl; claims_none = refl; lands_none = refl }, record { accepted = refl; ends_none = refl; claims_none = refl; lands_none = refl }, record { this = refl; other = refl })

-- A PUT'S WORD WITH DELAYED STORES is quiet: it joins the line. The owner is at the put's first word, thief 1 at line 1
unfoldable pub joining : World
joining = after (bench 1 2 true 4) (does 0 (Put (one 65)) 2 ++ begin 1 Steal ∷ [])

-- one store waits, and the store is as it was
pub waiting_word :
    Quiet joining 0 × Quiet joining 1
    × Alike joining 0 1
    (stands false true (anchor 0 0 0) (first ∷ []) unlinked (StoreWord 0 0 0 1 ∷ []) 1 (0 ∷ 0 ∷ 0 ∷ []) (PutWord (task 1 (one 65)) (anchor 0 0 0) 1)
    (StealTest (anchor 0 0 0)) Idle (0 ∷ 0 ∷ 0 ∷ 0 ∷ []) [])
unfolding joining bench does after fresh_of begin_of step_of valid_of words_to line_step landed_all zeros word_at set_word offset_at length_at size_at gathered word_in with_word when◌then◌else◌ ◌and◌ ◌or◌
waiting_word = (record { accepted = refl; ends_none = refl; claims_none = refl; lands_none = refl }, record { accepted = refl; ends_none = refl; claims_none = refl; lands_none = refl }, record { this = refl; other = refl })

-- WHAT IS NOT QUIET, and what a reader would see: both orders, told apart by f
differ : {A : Type 0} (W : World) (i j : ℕ) (f : World → A) (a b : A) → f (step_of (step_of W j).world i).world ≡ a → f (step_of (step_of W i).world j).world ≡ b → a ≢ b → Swapped W i j → ⊥
differ W i j f a b x y ne S = ne (sym x ∙ ap f S.worlds ∙ y)

lands_some : {s : Store} {ss : List Store} → (s ∷ ss) ≡ [] → ⊥
lands_some e = omega (arith, ap length e)

-- a compare that succeeds. Thief 2, at line 1, reads one task if it is first, and none and EMPTY if it is second
unfoldable pub handing : World
handing = after (bench 1 2 false 4) (does 0 (Put (one 65)) 5 ++ does 1 Steal 5 ++ begin 2 Steal ∷ [])

pub compare_is_not_quiet : Quiet handing 1 → ⊥
unfolding handing bench does after fresh_of begin_of step_of valid_of words_to line_step landed_all zeros word_at set_word offset_at length_at size_at gathered word_in with_word when◌then◌else◌ ◌and◌ ◌or◌
compare_is_not_quiet Q = absurd (true≢false Q.ends_none)

pub compare_does_not_swap : Swapped handing 1 2 → ⊥
unfolding handing bench does after fresh_of begin_of step_of valid_of words_to line_step landed_all zeros word_at set_word offset_at length_at size_at gathered word_in with_word when◌then◌else◌ ◌and◌ ◌or◌
compare_does_not_swap = differ handing 1 2 (λ X. ends (step_of X 2).answer) false true refl refl (λ e. true≢false (sym e))

-- a put's word at once. The tag, of one bit, has come round, so thief 1's compare will succeed: it reads the payload of put 2 if it
-- is first, and that of put 3 if the owner, at the payload's word of put 3, is
unfoldable pub writing : World
writing =
    after (bench 1 1 false 4)
    (does 0 (Put (one 65)) 5 ++ does 1 Steal 3 ++ does 0 Take 5 ++ does 0 (Put (one 66)) 5 ++ does 0 Take 5 ++ does 0 (Put (one 67)) 3 ++ step 1 ∷ [])

-- the word that the compare then hands out
abbrev handed : World → ℕ
handed X = word_in (entry_of (step_of (step_of X 0).world 1).answer).task 1

pub word_is_not_quiet : Quiet writing 0 → ⊥
unfolding writing bench does after fresh_of begin_of step_of valid_of words_to line_step landed_all zeros word_at set_word offset_at length_at size_at gathered word_in with_word when◌then◌else◌ ◌and◌ ◌or◌
word_is_not_quiet Q = lands_some Q.lands_none

pub word_does_not_swap : Swapped writing 0 1 → ⊥
unfolding writing bench does after fresh_of begin_of step_of valid_of words_to line_step landed_all zeros word_at set_word offset_at length_at size_at gathered word_in with_word when◌then◌else◌ ◌and◌ ◌or◌
word_does_not_swap = differ writing 0 1 handed 66 67 refl refl (omega arith)

-- an ending test for EMPTY, with another's: the log has them in their order. Both thieves have read an empty queue
unfoldable pub testing : World
testing = after (bench 1 2 false 4) (does 1 Steal 1 ++ does 2 Steal 1)

pub empty_is_not_quiet : Quiet testing 1 → ⊥
unfolding testing bench does after fresh_of begin_of step_of valid_of words_to line_step landed_all zeros word_at set_word offset_at length_at size_at gathered word_in with_word when◌then◌else◌ ◌and◌ ◌or◌
empty_is_not_quiet Q = absurd (true≢false Q.ends_none)

pub empty_does_not_swap : Swapped testing 1 2 → ⊥
unfolding testing bench does after fresh_of begin_of step_of valid_of words_to line_step landed_all zeros word_at set_word offset_at length_at size_at gathered word_in with_word when◌then◌else◌ ◌and◌ ◌or◌
empty_does_not_swap = differ testing 1 2 (λ X. get_or X.log 1 0) 2 1 refl refl (omega arith)

-- X1. Two puts fill the array, and the owner is at X1 of a third; thief 1 is at line 1, or at its compare
abbrev full : List Call → List Call
full c = does 0 (Put (one 65)) 5 ++ does 0 (Put (one 66)) 5 ++ c ++ does 0 (Put (one 67)) 2

unfoldable pub claiming : World
claiming = after (bench 1 2 false 12) (full (begin 1 Steal ∷ []))

unfoldable pub filled : World
filled = after (bench 1 2 false 4) (full (does 1 Steal 5))

-- if it claims, it is not quiet, for it writes the directory. But no thief looks at an array before its note lands, so that here
-- both orders leave the same
pub claim_is_not_quiet :
    (Quiet claiming 0 → ⊥)
    × Alike claiming 0 1
    (stands false false (anchor 0 2 2) (first ∷ record { offset = 4; length = 8 } ∷ []) unlinked [] 3 (0 ∷ 0 ∷ 0 ∷ []) (Note (ForPut (task 3 (one 67))))
    (StealTest (anchor 0 2 2)) Idle (1 ∷ 65 ∷ 2 ∷ 66 ∷ replicate 8 0) (1 ∷ 0 ∷ 1 ∷ 65 ∷ 1 ∷ 0 ∷ 2 ∷ 66 ∷ []))
unfolding claiming bench does after fresh_of begin_of step_of valid_of words_to line_step landed_all zeros word_at set_word offset_at length_at size_at gathered word_in with_word when◌then◌else◌ ◌and◌ ◌or◌
claim_is_not_quiet = (λ Q. true≢false Q.claims_none, record { this = refl; other = refl })

-- if it answers FULL, it ends the put: the log has this and the thief's hand-out in their order
pub full_is_not_quiet : Quiet filled 0 → ⊥
unfolding filled bench does after fresh_of begin_of step_of valid_of words_to line_step landed_all zeros word_at set_word offset_at length_at size_at gathered word_in with_word when◌then◌else◌ ◌and◌ ◌or◌
full_is_not_quiet Q = absurd (true≢false Q.ends_none)

pub full_does_not_swap : Swapped filled 0 1 → ⊥
unfolding filled bench does after fresh_of begin_of step_of valid_of words_to line_step landed_all zeros word_at set_word offset_at length_at size_at gathered word_in with_word when◌then◌else◌ ◌and◌ ◌or◌
full_does_not_swap = differ filled 0 1 (λ X. get_or X.log 8 0) 2 4 refl refl (omega arith)

-- THE SAME WORKER TWICE: line 1 is quiet, and the test behind it answers EMPTY
unfoldable pub lone : World
lone = after (bench 1 2 false 4) (begin 1 Steal ∷ [])

pub same_worker : Quiet lone 1 × (Swapped lone 1 1 → ⊥)
unfolding lone bench does after fresh_of begin_of step_of valid_of words_to line_step landed_all zeros word_at set_word offset_at length_at size_at gathered word_in with_word when◌then◌else◌ ◌and◌ ◌or◌
same_worker = (record { accepted = refl; ends_none = refl; claims_none = refl; lands_none = refl }, λ S. true≢false (ap ends S.first))

-- THE RUN OF docs/SWAPS.md, as it was noted and with each worker's quiet lines together
abbrev steps : List ℕ → List Call
steps is = map step is

abbrev begun : List Call
begun = does 0 (Put (one 65)) 5 ++ does 0 (Put (one 66)) 5 ++ begin 0 Take ∷ begin 1 Steal ∷ begin 2 Steal ∷ []

unfoldable pub noted : List Call
noted =
    begun ++ steps (1 ∷ 0 ∷ 2 ∷ 1 ∷ 2 ∷ 0 ∷ 1 ∷ 0 ∷ 2 ∷ 1 ∷ 0 ∷ 2 ∷ 1 ∷ 2 ∷ []) ++ step 1 ∷ begin 1 Steal ∷ steps (2 ∷ 1 ∷ 2 ∷ 1 ∷ 2 ∷ 1 ∷ []) ++ step 0
    ∷ steps (2 ∷ 1 ∷ 2 ∷ 1 ∷ 2 ∷ []) ++ step 1 ∷ steps (2 ∷ 2 ∷ 2 ∷ [])

unfoldable pub grouped : List Call
grouped =
    begun ++ replicate 4 (step 0) ++ replicate 5 (step 1) ++ replicate 5 (step 2) ++ step 1 ∷ begin 1 Steal ∷ replicate 3 (step 1) ++ replicate 3 (step 2) ++ step 0
    ∷ replicate 2 (step 1) ++ replicate 3 (step 2) ++ step 1 ∷ replicate 3 (step 2)

-- they leave the same
abbrev done : World
done =
    stands false false (anchor 0 0 2) (first ∷ []) unlinked [] 2 (0 ∷ 0 ∷ 2 ∷ []) Idle Idle Idle (1 ∷ 65 ∷ 2 ∷ 66 ∷ [])
    (1 ∷ 0 ∷ 1 ∷ 65 ∷ 1 ∷ 0 ∷ 2 ∷ 66 ∷ 2 ∷ 1 ∷ 2 ∷ 66 ∷ 2 ∷ 0 ∷ 2 ∷ 66 ∷ 2 ∷ 1 ∷ 1 ∷ 65 ∷ 3 ∷ 2 ∷ 0 ∷ 0 ∷ [])

pub as_noted : after (bench 1 2 false 4) noted ≡ done
unfolding noted bench does after fresh_of begin_of step_of valid_of words_to line_step landed_all zeros word_at set_word offset_at length_at size_at gathered word_in with_word when◌then◌else◌ ◌and◌ ◌or◌
as_noted = refl

pub as_grouped : after (bench 1 2 false 4) grouped ≡ done
unfolding grouped bench does after fresh_of begin_of step_of valid_of words_to line_step landed_all zeros word_at set_word offset_at length_at size_at gathered word_in with_word when◌then◌else◌ ◌and◌ ◌or◌
as_grouped = refl
