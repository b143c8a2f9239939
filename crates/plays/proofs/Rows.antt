-- The definitions tried by computation: lists of words, what they say, and what the calls that they say answer.
use mathlib.Core.Path.{◌≡◌, refl}
use mathlib.Core.Bool.{true}
use mathlib.Core.List.{List, [], ◌∷◌}
use Prim.Native.Nat.{ℕ, zero, suc}
use lib.ListN.{replicate}
use Rattle.model.specs.declared.Operation.TheVariants.{Put, Take, Steal, Commit}
use Rattle.model.specs.Tests.{when◌then◌else◌, ◌and◌, ◌or◌}
use Rattle.model.specs.Memory.{zeros, word_at, set_word, offset_at, length_at, size_at, words_to}
use Rattle.model.specs.Tasks.{payload, word_in, with_word, gathered}
use Rattle.model.specs.Stores.{landed_all}
use Rattle.model.specs.Lines.{line_step}
use Rattle.model.specs.World.{World}
use Rattle.model.specs.Limits.{valid_of}
use Rattle.model.specs.Calls.{fresh_of, setup, setup_in, begin_of, step_of, drain_of, ask_of, drop_ask_of, begin, step, drop_link, drain, ask, drop_ask}
use Rattle.model.specs.Run.{played, after}
use Rattle.plays.specs.Words.{calls_from, all_as_words}

-- a call with one payload word, before the others; an answer's words
abbrev call : ℕ → ℕ → ℕ → List ℕ → List ℕ
call o i p rest = o ∷ i ∷ p ∷ 0 ∷ 0 ∷ 0 ∷ rest

abbrev answer : ℕ → ℕ → ℕ → ℕ → List ℕ → List ℕ
answer k i n p rest = k ∷ i ∷ n ∷ p ∷ 0 ∷ 0 ∷ 0 ∷ rest

-- Calls: a word that is no operation is a step, a payload is looked at in a put alone, and words past the last whole call say nothing
said : calls_from (1 ∷ 0 ∷ 65 ∷ 66 ∷ 67 ∷ 68 ∷ call 2 4 9 (call 3 5 9 (call 0 6 9 (call 4 7 9 (call 5 8 9 (call 6 9 9 (call 7 10 9 (call 8 11 9 (call 9 12 9 (1 ∷ 0 ∷ 1 ∷ 2 ∷ 3 ∷ [])))))))))) 10
    ≡ begin 0 (Put (payload 65 66 67 68)) ∷ begin 4 Take ∷ begin 5 Steal ∷ step 6 ∷ drop_link 7 ∷ drain ∷ begin 9 Commit ∷ ask 10 ∷ drop_ask 11 ∷ step 12 ∷ []
unfolding calls_from when◌then◌else◌
said = refl

-- P1
abbrev steps : ℕ → ℕ → List ℕ → List ℕ
steps zero i rest = rest
steps (suc n) i rest = call 0 i 0 (steps n i rest)

abbrev p1 : List ℕ
p1 =
    call 1 0 65 (steps 5 0 (call 3 1 0 (steps 5 1 (call 2 0 0 (steps 5 0 (call 1 0 66 (steps 5 0 (call 2 0 0 (steps 5 0
    (call 1 0 67 (steps 5 0 (steps 1 1 []))))))))))))

abbrev goes_on : ℕ → List ℕ → List ℕ
goes_on zero rest = rest
goes_on (suc n) rest = answer 0 0 0 0 (goes_on n rest)

-- what its calls answer: the numbers of three puts, two begins, and six entries
abbrev p1_answers : List ℕ
p1_answers =
    answer 0 2 1 0 (goes_on 4 (answer 1 0 1 65 (answer 0 1 0 0 (goes_on 5
    (answer 0 1 0 0 (goes_on 4 (answer 2 0 1 65 (answer 0 2 2 0 (goes_on 4
    (answer 1 0 2 66 (answer 0 1 0 0 (goes_on 4 (answer 2 0 2 66 (answer 0 2 3 0 (goes_on 4
    (answer 1 0 3 67 (answer 2 1 1 65 [])))))))))))))))))

-- a list on a fresh bench of two workers, with a store of s words and a log of e
abbrev bench : ℕ → ℕ → ℕ → World
bench c s e = (fresh_of (setup 1 1 c 2 1) (replicate s 0) (replicate e 0)).world

row_p1 : all_as_words (played (bench 2 12 24) (calls_from p1 37)) ≡ p1_answers
unfolding calls_from all_as_words played fresh_of begin_of step_of valid_of words_to line_step landed_all zeros word_at set_word offset_at length_at size_at when◌then◌else◌ ◌and◌ ◌or◌ word_in with_word gathered
row_p1 = refl

-- what it leaves: the entries in the log
row_p1_log : (after (bench 2 12 24) (calls_from p1 37)).log ≡ 1 ∷ 0 ∷ 1 ∷ 65 ∷ 2 ∷ 0 ∷ 1 ∷ 65 ∷ 1 ∷ 0 ∷ 2 ∷ 66 ∷ 2 ∷ 0 ∷ 2 ∷ 66 ∷ 1 ∷ 0 ∷ 3 ∷ 67 ∷ 2 ∷ 1 ∷ 1 ∷ 65 ∷ []
unfolding calls_from after fresh_of begin_of step_of valid_of words_to line_step landed_all zeros word_at set_word offset_at length_at size_at when◌then◌else◌ ◌and◌ ◌or◌ word_in with_word gathered
row_p1_log = refl

-- the rest of the answers: a thief's EMPTY, FULL, and refusals 9, 8 and 11 (the log has 3 words left)
row_others : all_as_words (played (bench 1 2 11) (calls_from (call 3 1 0 (steps 2 1 (call 1 0 7 (steps 5 0 (call 1 1 8 (steps 1 0 (call 1 0 9 (steps 3 0 [])))))))) 15))
    ≡ answer 0 1 0 0 (goes_on 1 (answer 3 1 0 0 (answer 0 2 1 0 (goes_on 4
    (answer 1 0 1 7 (answer 0 3 9 0 (answer 0 3 8 0 (answer 0 2 2 0 (goes_on 2 (answer 0 3 11 0 []))))))))))
unfolding calls_from all_as_words played fresh_of begin_of step_of valid_of words_to line_step landed_all zeros word_at set_word offset_at length_at size_at when◌then◌else◌ ◌and◌ ◌or◌ word_in with_word gathered
row_others = refl

row_full : all_as_words (played (bench 1 2 12) (calls_from (call 1 0 7 (steps 5 0 (call 1 0 8 (steps 3 0 [])))) 10))
    ≡ answer 0 2 1 0 (goes_on 4 (answer 1 0 1 7 (answer 0 2 2 0 (goes_on 2 (answer 4 0 2 8 [])))))
unfolding calls_from all_as_words played fresh_of begin_of step_of valid_of words_to line_step landed_all zeros word_at set_word offset_at length_at size_at when◌then◌else◌ ◌and◌ ◌or◌ word_in with_word gathered
row_full = refl

-- with three payload words an answer shows three, whatever a fourth one was told
row_wide : all_as_words (played (fresh_of (setup 1 1 1 1 3) (replicate 4 0) (replicate 6 0)).world (calls_from (1 ∷ 0 ∷ 7 ∷ 8 ∷ 9 ∷ 5 ∷ steps 7 0 []) 8))
    ≡ answer 0 2 1 0 (goes_on 6 (1 ∷ 0 ∷ 1 ∷ 7 ∷ 8 ∷ 9 ∷ 0 ∷ []))
unfolding calls_from all_as_words played fresh_of begin_of step_of valid_of words_to line_step landed_all zeros word_at set_word offset_at length_at size_at when◌then◌else◌ ◌and◌ ◌or◌ word_in with_word gathered
row_wide = refl

-- with delayed stores: the words of a finished put drain one by one, and a fourth drain finds none waiting
row_drained : all_as_words (played (fresh_of (setup_in 1 1 1 1 1 true) (replicate 2 0) (replicate 4 0)).world
    (calls_from (call 1 0 7 (steps 5 0 (call 5 0 0 (call 5 0 0 (call 5 0 0 (call 5 0 0 [])))))) 10))
    ≡ answer 0 2 1 0 (goes_on 4 (answer 1 0 1 7 (answer 0 1 0 0 (answer 0 1 0 0 (answer 0 1 0 0 (answer 0 3 19 0 []))))))
unfolding calls_from all_as_words played fresh_of begin_of step_of drain_of valid_of words_to line_step landed_all zeros word_at set_word offset_at length_at size_at when◌then◌else◌ ◌and◌ ◌or◌ word_in with_word gathered
row_drained = refl

-- growth: an ask, and refused 21; a commit from X1 to X4 and its entry; the ask is gone, and a second one has no space
row_grown : all_as_words (played (bench 1 6 4) (calls_from (call 7 0 0 (call 7 0 0 (call 6 0 0 (steps 4 0 (call 8 0 0 (call 7 0 0 [])))))) 9))
    ≡ answer 0 1 0 0 (answer 0 3 21 0 (answer 0 1 0 0 (goes_on 3 (answer 5 0 0 0 (answer 0 3 22 0 (answer 0 3 20 0 []))))))
unfolding calls_from all_as_words played fresh_of begin_of step_of ask_of drop_ask_of valid_of words_to line_step landed_all zeros word_at set_word offset_at length_at size_at when◌then◌else◌ ◌and◌ ◌or◌ word_in with_word gathered
row_grown = refl

-- an ask dropped, and a commit then
row_dropped : all_as_words (played (bench 1 6 4) (calls_from (call 7 0 0 (call 8 0 0 (call 6 0 0 []))) 3))
    ≡ answer 0 1 0 0 (answer 0 1 0 0 (answer 0 3 22 0 []))
unfolding calls_from all_as_words played fresh_of begin_of step_of ask_of drop_ask_of valid_of words_to line_step landed_all zeros word_at set_word offset_at length_at size_at when◌then◌else◌ ◌and◌ ◌or◌ word_in with_word gathered
row_dropped = refl
