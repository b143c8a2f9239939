-- A few hunts, computed: each report is what the second simulator's hunt reports.
use mathlib.Core.Path.{◌≡◌, refl}
use mathlib.Core.Bool.{Bool, true, false}
use mathlib.Core.List.{List, [], ◌∷◌, ◌++◌}
use Prim.Native.Nat.{ℕ, zero, suc}
use lib.ListN.{replicate}
use Rattle.model.specs.declared.Refusal.TheVariants.{UnknownQueue, ShortStore, NoSuchWorker, PayloadWords}
use Rattle.model.specs.Tests.{when◌then◌else◌, ◌and◌, ◌or◌}
use Rattle.model.specs.Tasks.{word_in, with_word, gathered}
use Rattle.model.specs.Memory.{zeros, word_at, set_word, offset_at, length_at, size_at, words_to}
use Rattle.model.specs.Stores.{landed_all}
use Rattle.model.specs.Lines.{line_step}
use Rattle.model.specs.Limits.{valid_of}
use Rattle.model.specs.Calls.{fresh_of, begin_of, step_of}
use Rattle.model.specs.Counts.{some_below, count_below, sum_below, counts_of}
use Rattle.orders.specs.declared.Verdict.TheVariants.{Hunted, Barred, ManyOperations, LargeBudget}
use Rattle.orders.specs.Orders.{Order, move, after_order, some_may, starting_with, orders_of}
use Rattle.orders.specs.Hunt.{Report, refusal, played_out, steps_made, all_out, best, hunt_of, number_of}

abbrev hunted : Order → ℕ → ℕ → ℕ → Report
hunted o r s d = record { verdict = Hunted; order = o; repeats = r; steps = s; distance = d }

-- the owner's operations
abbrev put : Bool
put = true

abbrev take : Bool
take = false

-- steals
abbrev none : List ℕ
none = replicate 7 0

abbrev one : List ℕ
one = 1 ∷ replicate 6 0

-- a take and a steal on an empty LIFO queue: 6 orders of 4 steps
abbrev empties : ℕ → Report
empties b = hunt_of 1 1 1 2 1 2 (take ∷ []) one b

-- P3's put, take and steal: all orders have 152,045 steps together
abbrev p3 : ℕ → Report
p3 b = hunt_of 2 1 2 2 1 4 (put ∷ take ∷ []) one b

-- budget 0; no operations
no_budget :
    (p3 0 ≡ hunted [] 0 0 1)
    × (hunt_of 2 1 2 2 1 4 [] none 0 ≡ hunted [] 0 0 0)
    × (hunt_of 2 1 2 2 1 4 [] none 1000000 ≡ hunted [] 0 0 0)
unfolding hunt_of fresh_of landed_all begin_of step_of valid_of line_step counts_of some_below count_below sum_below zeros word_at set_word offset_at length_at size_at words_to word_in with_word gathered when◌then◌else◌ ◌and◌ ◌or◌ move after_order some_may starting_with orders_of played_out steps_made all_out best
no_budget = (refl, refl, refl)

-- one step short of the first order's end; its end; one step short of the last order's end; its end; more
orders_ends :
    (empties 3 ≡ hunted [] 0 3 1)
    × (empties 4 ≡ hunted (0 ∷ 0 ∷ 1 ∷ 1 ∷ []) 0 4 1)
    × (empties 23 ≡ hunted (0 ∷ 0 ∷ 1 ∷ 1 ∷ []) 0 23 1)
    × (empties 24 ≡ hunted (0 ∷ 0 ∷ 1 ∷ 1 ∷ []) 0 24 0)
    × (empties 1000000 ≡ hunted (0 ∷ 0 ∷ 1 ∷ 1 ∷ []) 0 24 0)
unfolding hunt_of fresh_of landed_all begin_of step_of valid_of line_step counts_of some_below count_below sum_below zeros word_at set_word offset_at length_at size_at words_to word_in with_word gathered when◌then◌else◌ ◌and◌ ◌or◌ move after_order some_may starting_with orders_of played_out steps_made all_out best
orders_ends = (refl, refl, refl, refl, refl)

-- two thieves
two_thieves : hunt_of 2 1 1 3 1 2 [] (1 ∷ 1 ∷ replicate 5 0) 40 ≡ hunted (1 ∷ 1 ∷ 1 ∷ 2 ∷ 2 ∷ 2 ∷ []) 0 40 1
unfolding hunt_of fresh_of landed_all begin_of step_of valid_of line_step counts_of some_below count_below sum_below zeros word_at set_word offset_at length_at size_at words_to word_in with_word gathered when◌then◌else◌ ◌and◌ ◌or◌ move after_order some_may starting_with orders_of played_out steps_made all_out best
two_thieves = refl

-- P3, one step short of its repeat and with it
p3_repeats :
    (p3 165 ≡ hunted (replicate 12 0 ++ replicate 3 1) 0 165 1)
    × (p3 166 ≡ hunted (replicate 11 0 ++ replicate 7 1 ++ 0 ∷ []) 1 166 0)
unfolding hunt_of fresh_of landed_all begin_of step_of valid_of line_step counts_of some_below count_below sum_below zeros word_at set_word offset_at length_at size_at words_to word_in with_word gathered when◌then◌else◌ ◌and◌ ◌or◌ move after_order some_may starting_with orders_of played_out steps_made all_out best
p3_repeats = (refl, refl)

-- the same of a linked queue, and with two payload words
other_queues :
    (hunt_of 4 1 1 2 1 2 (put ∷ take ∷ []) one 118 ≡ hunted (replicate 9 0 ++ replicate 6 1 ++ 0 ∷ []) 1 118 0)
    × (hunt_of 2 1 2 2 2 6 (put ∷ take ∷ []) one 214 ≡ hunted (replicate 13 0 ++ replicate 8 1 ++ 0 ∷ []) 1 214 0)
unfolding hunt_of fresh_of landed_all begin_of step_of valid_of line_step counts_of some_below count_below sum_below zeros word_at set_word offset_at length_at size_at words_to word_in with_word gathered when◌then◌else◌ ◌and◌ ◌or◌ move after_order some_may starting_with orders_of played_out steps_made all_out best
other_queues = (refl, refl)

-- the largest first array; a word too few
largest_array :
    (hunt_of 1 1 1024 1 4 5120 [] none 0 ≡ hunted [] 0 0 0)
    × (hunt_of 1 1 1024 1 4 5119 [] none 0 ≡ refusal (Barred ShortStore))
unfolding hunt_of fresh_of landed_all begin_of step_of valid_of line_step counts_of some_below count_below sum_below zeros word_at set_word offset_at length_at size_at words_to word_in with_word gathered when◌then◌else◌ ◌and◌ ◌or◌ move after_order some_may starting_with orders_of played_out steps_made all_out best
largest_array = (refl, refl)

-- a put and a take, n times over
abbrev rounds : ℕ → List Bool
rounds zero = []
rounds (suc n) = put ∷ take ∷ rounds n

-- an order ends after 256 steps, here in the 52nd operation
after_256 : hunt_of 1 1 1 1 1 2 (rounds 32) none 256 ≡ hunted (replicate 256 0) 0 256 0
unfolding hunt_of fresh_of landed_all begin_of step_of valid_of line_step counts_of some_below count_below sum_below zeros word_at set_word offset_at length_at size_at words_to word_in with_word gathered when◌then◌else◌ ◌and◌ ◌or◌ move after_order some_may starting_with orders_of played_out steps_made all_out best
after_256 = refl

-- fresh's own refusals first, then 6, 25, 26: each with all later faults there too
refused :
    (hunt_of 6 1 1 1 5 2 (replicate 65 take) one 1000001 ≡ refusal (Barred UnknownQueue))
    × (hunt_of 1 1 1 1 5 1 (replicate 65 take) one 1000001 ≡ refusal (Barred PayloadWords))
    × (hunt_of 1 1 2 1 1 3 (replicate 65 take) one 1000001 ≡ refusal (Barred ShortStore))
    × (hunt_of 1 1 1 1 1 2 (replicate 65 take) one 1000001 ≡ refusal (Barred NoSuchWorker))
    × (hunt_of 1 1 1 2 1 2 (replicate 64 take) one 1000001 ≡ refusal ManyOperations)
    × (empties 1000001 ≡ refusal LargeBudget)
unfolding hunt_of fresh_of landed_all begin_of step_of valid_of line_step counts_of some_below count_below sum_below zeros word_at set_word offset_at length_at size_at words_to word_in with_word gathered when◌then◌else◌ ◌and◌ ◌or◌ move after_order some_may starting_with orders_of played_out steps_made all_out best
refused = (refl, refl, refl, refl, refl, refl)

numbers : (number_of Hunted ≡ 0) × (number_of (Barred NoSuchWorker) ≡ 6) × (number_of ManyOperations ≡ 25) × (number_of LargeBudget ≡ 26)
numbers = (refl, refl, refl, refl)
