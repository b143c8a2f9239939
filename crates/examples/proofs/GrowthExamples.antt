-- Asks and commits, tried by computation: a commit with a thief under way, and that no more than the window is kept.
use mathlib.Core.Path.{◌≡◌, refl}
use mathlib.Core.List.{List, ◌∷◌, ◌++◌}
use native.Mathlib.Omega.{arith}
use Rattle.model.specs.declared.Operation.TheVariants.{Put, Take, Steal, Commit}
use Rattle.model.specs.declared.Answer.TheVariants.{Grown}
use Rattle.model.specs.Tests.{when◌then◌else◌, ◌and◌, ◌or◌}
use Rattle.model.specs.Memory.{zeros, word_at, set_word, offset_at, length_at, size_at, words_to}
use Rattle.model.specs.Tasks.{no_task, word_in, with_word, gathered}
use Rattle.model.proofs.Runs.{one}
use Rattle.model.specs.Stores.{landed_all}
use Rattle.model.specs.Lines.{line_step}
use Rattle.model.specs.Limits.{valid_of}
use Rattle.model.specs.Calls.{fresh_of, begin_of, step_of, ask_of, Call, begin, step, ask}
use Rattle.model.specs.Run.{played, after}
use Rattle.model.specs.Window.{window_size, window_task}
use Rattle.theorems.specs.Demand3.{At, Out, Stands}
use Rattle.premise.proofs.Rounds.{short}
use Rattle.examples.proofs.Examples.{does, bench, bench_of}
use Rattle.examples.proofs.OrderExamples as tried

-- two puts fill the array, and a thief reads the second; a commit, its X4 at place 24; the thief's compare at place 25; and a
-- third put, which need not grow
unfoldable pub grown : List Call
grown =
    does (begin 0 (Put (one 65))) ++ does (begin 0 (Put (one 66))) ++ does (begin 1 Steal) ++ ask 0 ∷ does (begin 0 Commit) ++ step 1
    ∷ does (begin 0 (Put (one 67)))

-- the thief is handed what it read, and the others stand in the window
pub grown_keeps :
    At (played (bench 1 2) grown) 24 (λ s. s.answer ≡ Grown 0) × Out (played (bench 1 2) grown) 25 (short 2 66) × Stands (after (bench 1 2) grown) (short 1 65)
    × Stands (after (bench 1 2) grown) (short 3 67) × (window_size (after (bench 1 2) grown) ≡ 2)
unfolding bench grown does played after fresh_of begin_of step_of ask_of valid_of words_to line_step landed_all zeros word_at set_word offset_at length_at size_at gathered word_in with_word when◌then◌else◌ ◌and◌ ◌or◌
grown_keeps = (refl, (1, refl), (0, omega arith, refl), (1, omega arith, refl), refl)

-- A FIFO with put 2 in its window, and behind it the slot of put 1, which was taken; the same after a commit
unfoldable pub taken : List Call
taken = tried.does 0 (Put (one 65)) 6 ++ tried.does 0 (Put (one 66)) 6 ++ tried.does 0 Take 6

unfoldable pub larger : List Call
larger = taken ++ ask 0 ∷ tried.does 0 Commit 4

-- the window is as it was, the slot behind it is not
pub behind_the_window :
    (window_task (after (bench_of 2) taken) 0 ≡ short 2 66) × (window_task (after (bench_of 2) larger) 0 ≡ short 2 66)
    × (window_task (after (bench_of 2) taken) 1 ≡ short 1 65) × (window_task (after (bench_of 2) larger) 1 ≡ no_task)
unfolding bench_of taken larger tried.does after fresh_of begin_of step_of ask_of valid_of words_to line_step landed_all zeros word_at set_word offset_at length_at size_at gathered word_in with_word when◌then◌else◌ ◌and◌ ◌or◌
behind_the_window = (refl, refl, refl, refl)
