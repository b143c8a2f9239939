-- FIFO in order, tried by computation: a list in which hand-outs repeat and the owner's stale store lowers head; and for each
-- other kind a list that is not in order, so that the claim is about FIFO.
use mathlib.Core.Path.{◌≡◌, refl, sym, subst}
use mathlib.Core.Bool.{Bool}
use mathlib.Core.List.{List, [], ◌∷◌, ◌++◌}
use Prim.Native.Nat.{ℕ, zero, suc, ◌<◌}
use native.Mathlib.Omega.{arith}
use lib.ListN.{replicate}
use Rattle.model.specs.declared.Operation.{Operation}
use Rattle.model.specs.declared.Operation.TheVariants.{Put, Take, Steal}
use Rattle.model.specs.declared.Answer.TheVariants.{Accepted}
use Rattle.model.specs.Tests.{when◌then◌else◌, ◌and◌, ◌or◌}
use Rattle.model.specs.Memory.{zeros, word_at, set_word, offset_at, length_at, size_at, words_to}
use Rattle.model.specs.Tasks.{payload, word_in, with_word, gathered}
use Rattle.model.proofs.Runs.{one}
use Rattle.model.specs.Stores.{landed_all}
use Rattle.model.specs.Lines.{line_step}
use Rattle.model.specs.World.{World}
use Rattle.model.specs.Limits.{valid_of}
use Rattle.model.specs.Calls.{fresh_of, setup, begin_of, step_of, front_of, Call, begin, step}
use Rattle.model.specs.Run.{played, after}
use Rattle.model.specs.Counts.{entry_at, is_kind, out_first, some_below}
use Rattle.order.specs.Order.{InOrder, LogInOrder, log_front}
use Rattle.order.proofs.LogFront.{log_is_answers}
use Rattle.order.proofs.CutAnswers.{answers_cut, words_le}
use Rattle.order.proofs.LogOrder.{log_in_order}

-- an operation of worker i, and n of its steps
unfoldable pub does : ℕ → Operation → ℕ → List Call
does i op n = begin i op ∷ replicate n (step i)

-- a bench of kind k with two slots and one thief; the log's front after a list
unfoldable pub bench : ℕ → World
bench k = (fresh_of (setup k 1 2 2 1) (replicate 4 0) (replicate 64 0)).world

unfoldable pub front : ℕ → List Call → List ℕ
front k cs = log_front (after (bench k) cs)

-- the put numbers of those of a log's first n entries that pass the test
unfoldable pub numbers : (List ℕ → ℕ → Bool) → List ℕ → ℕ → List ℕ
numbers test l zero = []
numbers test l (suc j) = numbers test l j ++ (when test l j then (entry_at 1 l j).task.number ∷ [] else [])

-- the owner reads head 0 and stops before its last three lines; the thief takes both tasks, and head is 2
unfoldable pub stale : List Call
stale = does 0 (Put (one 5)) 6 ++ does 0 (Put (one 6)) 6 ++ does 0 Take 3 ++ does 1 Steal 7 ++ does 1 Steal 7

-- the owner's last line hands out put 1 again and sets head to 1, so the thief gets put 2 again; then put 3 comes
unfoldable pub lowered : List Call
lowered = stale ++ replicate 3 (step 0) ++ does 1 Steal 7 ++ does 0 (Put (one 7)) 6 ++ does 0 Take 6

pub head_goes_back : ((after (bench 2) stale).bench.queue.anchor.head ≡ 2) × ((after (bench 2) (stale ++ replicate 3 (step 0))).bench.queue.anchor.head ≡ 1)
unfolding stale does bench after fresh_of begin_of step_of valid_of words_to line_step landed_all zeros word_at set_word offset_at length_at size_at gathered word_in with_word when◌then◌else◌ ◌and◌ ◌or◌
head_goes_back = (refl, refl)

pub all_hand_outs : numbers (λ l j. is_kind 1 l 2 j) (front 2 lowered) 8 ≡ 1 ∷ 2 ∷ 1 ∷ 2 ∷ 3 ∷ []
unfolding lowered stale does bench front numbers after front_of fresh_of begin_of step_of valid_of words_to line_step landed_all zeros word_at set_word offset_at length_at size_at gathered word_in with_word when◌then◌else◌ ◌and◌ ◌or◌
all_hand_outs = refl

pub first_hand_outs : numbers (out_first 1) (front 2 lowered) 8 ≡ 1 ∷ 2 ∷ 3 ∷ []
unfolding lowered stale does bench front numbers after front_of some_below fresh_of begin_of step_of valid_of words_to line_step landed_all zeros word_at set_word offset_at length_at size_at gathered word_in with_word when◌then◌else◌ ◌and◌ ◌or◌
first_hand_outs = refl

-- two puts and two takes: LIFO and double-ended hand out put 2 first
unfoldable pub twice : List Call
twice = does 0 (Put (one 5)) 5 ++ does 0 (Put (one 6)) 5 ++ does 0 Take 5 ++ does 0 Take 5

pub lifo_is_not : LogInOrder 1 (front 1 twice) → ⊥
unfolding twice does bench front after front_of some_below fresh_of begin_of step_of valid_of words_to line_step landed_all zeros word_at set_word offset_at length_at size_at gathered word_in with_word when◌then◌else◌ ◌and◌ ◌or◌
lifo_is_not f = let z : 2 < 1 = f 2 3 (omega arith) refl refl in omega arith

pub deque_is_not : LogInOrder 1 (front 3 twice) → ⊥
unfolding twice does bench front after front_of some_below fresh_of begin_of step_of valid_of words_to line_step landed_all zeros word_at set_word offset_at length_at size_at gathered word_in with_word when◌then◌else◌ ◌and◌ ◌or◌
deque_is_not f = let z : 2 < 1 = f 2 3 (omega arith) refl refl in omega arith

-- nor are the answers
answers_are_not : (k : ℕ) → (fresh_of (setup k 1 2 2 1) (replicate 4 0) (replicate 64 0)).answer ≡ Accepted → (LogInOrder (bench k).bench.words (front k twice) → ⊥) → InOrder (played (bench k) twice) → ⊥
unfolding bench front
answers_are_not k e f o =
    let b = setup k 1 2 2 1 in
    let m : List ℕ = replicate 4 0 in
    let l : List ℕ = replicate 64 0 in
    f (subst (LogInOrder _) (sym (log_is_answers b m l e twice)) (log_in_order _ _ (words_le b m l e) (answers_cut b m l e twice) o))

pub lifo_answers_are_not : InOrder (played (bench 1) twice) → ⊥
unfolding bench fresh_of when◌then◌else◌ ◌and◌ ◌or◌
lifo_answers_are_not = answers_are_not 1 refl lifo_is_not

pub deque_answers_are_not : InOrder (played (bench 3) twice) → ⊥
unfolding bench fresh_of when◌then◌else◌ ◌and◌ ◌or◌
deque_answers_are_not = answers_are_not 3 refl deque_is_not

-- three payload words, so six words an entry; the payload's fourth word is not in it
pub wide_front :
    log_front (after (fresh_of (setup 3 1 1 1 3) (replicate 4 0) (replicate 40 9)).world (does 0 (Put (payload 5 6 7 8)) 7 ++ does 0 Take 7))
    ≡ 1 ∷ 0 ∷ 1 ∷ 5 ∷ 6 ∷ 7 ∷ 2 ∷ 0 ∷ 1 ∷ 5 ∷ 6 ∷ 7 ∷ []
unfolding does after front_of fresh_of begin_of step_of valid_of words_to line_step landed_all zeros word_at set_word offset_at length_at size_at gathered word_in with_word when◌then◌else◌ ◌and◌ ◌or◌
wide_front = refl
