-- Which calls the lines of an input make, tried by computation: P1's, and lines that are refused; and what they show.
use mathlib.Core.Path.{◌≡◌, refl}
use mathlib.Core.List.{List, [], ◌∷◌, ◌++◌}
use lib.ListN.{replicate}
use Rattle.model.specs.declared.Operation.TheVariants.{Put, Take}
use Rattle.model.specs.declared.Command.{Command}
use Rattle.model.specs.declared.Command.TheVariants.{BeginPut, BeginTake, BeginSteal, Steps, End, Bad}
use Rattle.model.specs.Tests.{when◌then◌else◌, ◌and◌, ◌or◌}
use Rattle.model.specs.Memory.{zeros, word_at, set_word, offset_at, length_at, size_at, words_to}
use Rattle.model.specs.Tasks.{payload, word_in, with_word, gathered}
use Rattle.model.proofs.Runs.{one, put, queue}
use Rattle.model.specs.Stores.{landed_all}
use Rattle.model.specs.Lines.{line_step}
use Rattle.model.specs.Limits.{valid_of}
use Rattle.model.specs.World.{World}
use Rattle.model.specs.Calls.{fresh_of, setup, begin_of, step_of, begin, step}
use Rattle.model.specs.Run.{after}
use Rattle.model.specs.Listing.{D, H, R}
use Rattle.order.specs.Listings.{plays, bad_line, end_line, step_items, calls_in, items_of, shows}
use Rattle.examples.proofs.Examples.{bench, bench_of, does, p1}

-- the lines of P1 behind its `queue`
abbrev lines : List Command
lines =
    put 65 ∷ Steps 0 5 ∷ BeginSteal 1 ∷ Steps 1 5 ∷ BeginTake ∷ Steps 0 5 ∷ put 66 ∷ Steps 0 5 ∷ BeginTake ∷ Steps 0 5
    ∷ put 67 ∷ Steps 0 5 ∷ Steps 1 1 ∷ End ∷ []

pub p1_calls : calls_in (items_of (bench 1 2) lines) ≡ p1
unfolding calls_in items_of step_items bench does p1 after fresh_of begin_of step_of valid_of words_to line_step landed_all zeros word_at set_word offset_at length_at size_at gathered word_in with_word when◌then◌else◌ ◌and◌ ◌or◌
p1_calls = refl

-- and of kind 4 the same
pub linked_calls : calls_in (items_of (bench_of 4) lines) ≡ p1
unfolding calls_in items_of step_items bench_of does p1 after fresh_of begin_of step_of valid_of words_to line_step landed_all zeros word_at set_word offset_at length_at size_at gathered word_in with_word when◌then◌else◌ ◌and◌ ◌or◌
linked_calls = refl

-- a put is over with its fifth step, and the sixth is refused: no seventh is played. A second `queue` and a line of no form make no
-- call, and what follows `end` is not played
abbrev refused : List Command
refused = Bad ∷ put 65 ∷ Steps 0 8 ∷ queue 1 1 2 2 12 ∷ End ∷ BeginTake ∷ []

pub refused_items :
    items_of (bench 1 2) refused
    ≡ bad_line ∷ plays (begin 0 (Put (one 65))) ∷ replicate 6 (plays (step 0)) ++ bad_line ∷ end_line ∷ plays (begin 0 Take) ∷ []
unfolding calls_in items_of step_items bench after fresh_of begin_of step_of valid_of words_to line_step landed_all zeros word_at set_word offset_at length_at size_at gathered word_in with_word when◌then◌else◌ ◌and◌ ◌or◌
refused_items = refl

pub refused_calls : calls_in (items_of (bench 1 2) refused) ≡ begin 0 (Put (one 65)) ∷ replicate 6 (step 0)
unfolding calls_in items_of step_items bench after fresh_of begin_of step_of valid_of words_to line_step landed_all zeros word_at set_word offset_at length_at size_at gathered word_in with_word when◌then◌else◌ ◌and◌ ◌or◌
refused_calls = refl

-- four payload words: a `put` of one word is a bad line, one of four is played, and a hand-out shows them all
abbrev wide : List Command
wide = put 5 ∷ BeginPut 4 (payload 5 6 7 8) ∷ Steps 0 8 ∷ BeginTake ∷ Steps 0 8 ∷ []

abbrev wide_bench : World
wide_bench = (fresh_of (setup 1 1 1 1 4) (replicate 5 0) (replicate 40 0)).world

pub wide_shown : shows wide_bench (items_of wide_bench wide) ≡ R 13 ∷ D 1 ∷ H 0 1 (5 ∷ 6 ∷ 7 ∷ 8 ∷ []) ∷ []
unfolding shows calls_in items_of step_items after fresh_of begin_of step_of valid_of words_to line_step landed_all zeros word_at set_word offset_at length_at size_at gathered word_in with_word when◌then◌else◌ ◌and◌ ◌or◌
wide_shown = refl
