-- The premise and 'drained by', computed of lists with delayed stores. (What such lists come to: crate examples, DelayedExamples.)
use mathlib.Core.Path.{◌≡◌, refl}
use mathlib.Core.Bool.{true}
use mathlib.Core.List.{List, [], ◌∷◌, ◌++◌}
use native.Mathlib.Omega.{arith}
use lib.ListN.{replicate}
use Rattle.model.specs.declared.Operation.TheVariants.{Put, Take, Steal}
use Rattle.model.specs.Tests.{when◌then◌else◌, ◌and◌, ◌or◌}
use Rattle.model.specs.Tasks.{word_in, with_word, gathered}
use Rattle.model.specs.Memory.{zeros, word_at, set_word, offset_at, length_at, size_at, words_to}
use Rattle.model.specs.Stores.{landed_all}
use Rattle.model.specs.Lines.{line_step}
use Rattle.model.specs.Limits.{valid_of}
use Rattle.model.specs.World.{World}
use Rattle.model.specs.Calls.{fresh_of, setup_in, begin_of, step_of, drain_of, Call, begin, step, drain}
use Rattle.model.specs.Run.{played}
use Rattle.model.proofs.Runs.{one}
use Rattle.theorems.specs.Demand3.{At, Concerned, drains, waits, puts, between}

-- LIFO with a tag of one bit and a thief, its stores delayed
abbrev start : World
start = (fresh_of (setup_in 1 1 2 2 1 true) (replicate 4 0) (replicate 60 0)).world

-- an operation and five of its steps
abbrev five : Call → List Call
five c = c ∷ replicate 5 (step 0)

-- one put in memory, task 1; then a take, a put, a take and a put finish and fill the line; the thief reads the anchor and task 1,
-- with line 1 at place 34; all eight stores drain; and the thief compares, at place 47
abbrev round : List Call
round =
    five (begin 0 (Put (one 65))) ++ replicate 3 drain ++ five (begin 0 Take) ++ five (begin 0 (Put (one 66))) ++ five (begin 0 Take)
    ++ five (begin 0 (Put (one 67))) ++ begin 1 Steal ∷ replicate 5 (step 1) ++ replicate 8 drain ++ step 1 ∷ []

-- THE PREMISE counts puts that drain: two come to memory in the attempt, as many as bring the tag round, though none finishes in it
pub two_drain : puts (between 34 47 (played start round)) ≡ 2
unfolding played fresh_of begin_of step_of drain_of valid_of words_to line_step landed_all zeros word_at set_word offset_at length_at size_at gathered word_in with_word when◌then◌else◌ ◌and◌ ◌or◌
two_drain = refl

-- A put finishes at place 5, its store of the anchor the last of three, and a thief does line 1 at place 7
abbrev unseen : List Call
unseen = five (begin 0 (Put (one 65))) ++ begin 1 Steal ∷ step 1 ∷ step 1 ∷ []

-- a thief's EMPTY does not concern that put; an EMPTY of the owner's would
pub not_concerned : Concerned (played start unseen) 1 5 7 → ⊥
unfolding played fresh_of begin_of step_of drain_of valid_of words_to line_step landed_all zeros word_at set_word offset_at length_at size_at gathered word_in with_word when◌then◌else◌ ◌and◌ ◌or◌
not_concerned c = omega (arith, c)

pub owner_concerned : Concerned (played start unseen) 0 5 7
owner_concerned = _

-- it is drained by place 9, after three drains, and not by place 8
abbrev seen : List Call
seen = five (begin 0 (Put (one 65))) ++ replicate 3 drain ++ begin 1 Steal ∷ step 1 ∷ []

pub drained_after_three :
    At (played start seen) 5 (λ s. waits s ≡ 3) × (drains (between 5 9 (played start seen)) ≡ 3)
    × (drains (between 5 8 (played start seen)) ≡ 2)
unfolding played fresh_of begin_of step_of drain_of valid_of words_to line_step landed_all zeros word_at set_word offset_at length_at size_at gathered word_in with_word when◌then◌else◌ ◌and◌ ◌or◌
drained_after_three = (refl, refl, refl)
