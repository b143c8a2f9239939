-- The linked kinds, tried by computation: calls that lose a task with a tag of one bit and lose none with links; and a list with a
-- link that is dropped.
use mathlib.Core.Path.{◌≡◌, refl}
use mathlib.Core.Logic.{inl}
use mathlib.Core.List.{List, [], ◌∷◌, ◌++◌}
use Prim.Native.Nat.{ℕ}
use native.Mathlib.Omega.{arith}
use lib.ListN.{replicate}
use Rattle.model.specs.declared.Operation.TheVariants.{Put, Steal}
use Rattle.model.specs.declared.Answer.TheVariants.{Accepted, GoesOn, HandedOut}
use Rattle.model.specs.Tests.{when◌then◌else◌, ◌and◌, ◌or◌}
use Rattle.model.specs.Memory.{zeros, word_at, set_word, offset_at, length_at, size_at, words_to}
use Rattle.model.specs.Tasks.{word_in, with_word, gathered}
use Rattle.model.proofs.Runs.{one}
use Rattle.model.specs.Stores.{landed_all}
use Rattle.model.specs.Lines.{line_step}
use Rattle.model.specs.Limits.{valid_of}
use Rattle.model.specs.Calls.{fresh_of, setup, begin_of, restarts_of, step_of, drop_link_of, Call, begin, step, drop_link}
use Rattle.model.specs.Run.{played, after}
use Rattle.model.specs.Counts.{some_below, count_below, counts_of}
use Rattle.theorems.specs.Demand3.{At, Stands, puts, between, Demand3}
use Rattle.premise.proofs.Rounds.{short}
use Rattle.order.proofs.NoneLost.{none_lost}
use Rattle.premise.proofs.LinkedKinds.{linked_few, linked_kinds}
use Rattle.examples.proofs.Examples.{bench_of, does, p1}

-- P1, and one step more of its thief, which has a line more in the double-ended queue
unfoldable pub p1_deque : List Call
p1_deque = p1 ++ step 1 ∷ []

abbrev lost : ℕ → List Call → ℕ
lost k cs = (counts_of (after (bench_of k) cs)).lost

-- the thief's, worker 1's
abbrev restarts : ℕ → List Call → ℕ
restarts k cs = restarts_of (after (bench_of k) cs).bench.restarts 1

-- the same calls: with a tag the compare succeeds and put 3 is lost; linked, it fails and none is
pub lifo_loses : (lost 1 p1 ≡ 1) × (restarts 1 p1 ≡ 0)
unfolding counts_of some_below count_below bench_of p1 does after fresh_of begin_of step_of valid_of words_to line_step landed_all zeros word_at set_word offset_at length_at size_at gathered word_in with_word when◌then◌else◌ ◌and◌ ◌or◌
lifo_loses = (refl, refl)

pub linked_lifo_keeps : (lost 4 p1 ≡ 0) × (restarts 4 p1 ≡ 1)
unfolding counts_of some_below count_below bench_of p1 does after fresh_of begin_of step_of valid_of words_to line_step landed_all zeros word_at set_word offset_at length_at size_at gathered word_in with_word when◌then◌else◌ ◌and◌ ◌or◌
linked_lifo_keeps = (refl, refl)

pub deque_loses : (lost 3 p1_deque ≡ 1) × (restarts 3 p1_deque ≡ 0)
unfolding counts_of some_below count_below p1_deque bench_of p1 does after fresh_of begin_of step_of valid_of words_to line_step landed_all zeros word_at set_word offset_at length_at size_at gathered word_in with_word when◌then◌else◌ ◌and◌ ◌or◌
deque_loses = (refl, refl)

pub linked_deque_keeps : (lost 5 p1_deque ≡ 0) × (restarts 5 p1_deque ≡ 1)
unfolding counts_of some_below count_below p1_deque bench_of p1 does after fresh_of begin_of step_of valid_of words_to line_step landed_all zeros word_at set_word offset_at length_at size_at gathered word_in with_word when◌then◌else◌ ◌and◌ ◌or◌
linked_deque_keeps = (refl, refl)

-- put 3 stands in the window, though as many puts finish between the thief's line 1 and its compare as lose it with a tag
pub linked_stands : Stands (after (bench_of 4) p1) (short 3 67)
unfolding bench_of p1 does after fresh_of begin_of step_of valid_of words_to line_step landed_all zeros word_at set_word offset_at length_at size_at gathered word_in with_word when◌then◌else◌ ◌and◌ ◌or◌
linked_stands = (0, omega arith, refl)

pub linked_puts : puts (between 7 36 (played (bench_of 4) p1)) ≡ 2
unfolding played bench_of p1 does after fresh_of begin_of step_of valid_of words_to line_step landed_all zeros word_at set_word offset_at length_at size_at gathered word_in with_word when◌then◌else◌ ◌and◌ ◌or◌
linked_puts = refl

linked_accepted : (fresh_of (setup 4 1 2 2 1) (replicate 12 0) (replicate 64 0)).answer ≡ Accepted
unfolding fresh_of when◌then◌else◌ ◌and◌ ◌or◌
linked_accepted = refl

-- demand 3 holds of every list of this bench without a premise, and so does what demand 3's premise gives beside it
pub linked_holds : (cs : List Call) → Demand3 (bench_of 4) cs
unfolding bench_of
linked_holds = linked_kinds (setup 4 1 2 2 1) (replicate 12 0) (replicate 64 0) (inl refl) linked_accepted

pub linked_none_lost : (cs : List Call) → lost 4 cs ≡ 0
unfolding bench_of
linked_none_lost cs =
    let b = setup 4 1 2 2 1 in
    let m : List ℕ = replicate 12 0 in
    let l : List ℕ = replicate 64 0 in
    none_lost b m l linked_accepted cs (linked_few b m l refl linked_accepted cs)

-- A LINK DROPPED. A thief comes to its compare, at place 12, and nobody writes the anchor
unfoldable pub alone : List Call
alone = does (begin 0 (Put (one 65))) ++ does (begin 1 Steal)

pub link_kept : At (played (bench_of 4) (alone ++ step 1 ∷ [])) 12 (λ s. s.answer ≡ HandedOut 1 (short 1 65))
unfolding alone played bench_of p1 does after fresh_of begin_of step_of valid_of words_to line_step landed_all zeros word_at set_word offset_at length_at size_at gathered word_in with_word when◌then◌else◌ ◌and◌ ◌or◌
link_kept = refl

-- its link fails for no reason: so does the compare, and the task stands
pub link_dropped : At (played (bench_of 4) (alone ++ drop_link 1 ∷ step 1 ∷ [])) 13 (λ s. s.answer ≡ GoesOn)
unfolding alone played drop_link_of bench_of p1 does after fresh_of begin_of step_of valid_of words_to line_step landed_all zeros word_at set_word offset_at length_at size_at gathered word_in with_word when◌then◌else◌ ◌and◌ ◌or◌
link_dropped = refl

pub dropped_stands : Stands (after (bench_of 4) (alone ++ drop_link 1 ∷ step 1 ∷ [])) (short 1 65) × (restarts 4 (alone ++ drop_link 1 ∷ step 1 ∷ []) ≡ 1)
unfolding alone drop_link_of bench_of p1 does after fresh_of begin_of step_of valid_of words_to line_step landed_all zeros word_at set_word offset_at length_at size_at gathered word_in with_word when◌then◌else◌ ◌and◌ ◌or◌
dropped_stands = ((0, omega arith, refl), refl)
