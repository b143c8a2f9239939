-- Lists tried against the statement by computation.
use mathlib.Core.Path.{◌≡◌, refl}
use mathlib.Core.Bool.{Bool, true, false}
use mathlib.Core.List.{List, [], ◌∷◌, ◌++◌}
use Prim.Native.Nat.{ℕ}
use lib.ListN.{replicate}
use Rattle.model.specs.declared.Operation.TheVariants.{Put, Take, Steal, Commit}
use Rattle.model.specs.Tests.{when◌then◌else◌, ◌and◌, ◌or◌}
use Rattle.model.specs.Memory.{zeros, word_at, set_word, offset_at, length_at, size_at, words_to}
use Rattle.model.specs.Tasks.{payload, word_in, with_word, gathered}
use Rattle.model.proofs.Runs.{one}
use Rattle.model.specs.Stores.{landed_all}
use Rattle.model.specs.Lines.{line_step}
use Rattle.model.specs.World.{World}
use Rattle.model.specs.Limits.{valid_of}
use Rattle.model.specs.Counts.{some_below, count_below, entries_in}
use Rattle.model.specs.Calls.{fresh_of, setup, begin_of, step_of, ask_of, front_of, Call, step, ask}
use Rattle.model.specs.Run.{after}
use Rattle.model.specs.Window.{window_size}
use Rattle.order.specs.Order.{log_front}
use Rattle.examples.proofs.Examples.{does, p1, bench, bench_of}
use Rattle.examples.proofs.OrderExamples as tried
use Rattle.judgement.specs.declared.Verdict.{Verdict}
use Rattle.judgement.specs.declared.Verdict.TheVariants.{No, Accepted}
use Rattle.judgement.specs.Judgement.{words_of, all_below, accepts, judged}
use Rattle.accepted.specs.Runs.{stored}

abbrev accepted : World → List Call → Bool
accepted W cs = accepts W.bench.words (log_front (after W cs)) (entries_in (after W cs)) (stored (after W cs)) (window_size (after W cs))

-- no call; whatever the log held before
pub none_accepted : accepted (fresh_of (setup 3 1 2 2 1) (replicate 4 0) (replicate 9 7)).world [] ≡ true
unfolding front_of after fresh_of all_below zeros when◌then◌else◌ ◌and◌ ◌or◌
none_accepted = refl

-- P1 breaks the premise with a tag of 1 bit and loses a task, and is not accepted; P2, with a tag of 2 bits, is
pub p1_not_accepted : accepted (bench 1 2) p1 ≡ false
unfolding bench p1 does front_of after all_below some_below fresh_of begin_of step_of valid_of words_to line_step landed_all zeros word_at set_word offset_at length_at size_at gathered word_in with_word when◌then◌else◌ ◌and◌ ◌or◌
p1_not_accepted = refl

pub p2_accepted : accepted (bench 2 2) p1 ≡ true
unfolding bench p1 does front_of after all_below some_below fresh_of begin_of step_of valid_of words_to line_step landed_all zeros word_at set_word offset_at length_at size_at gathered word_in with_word when◌then◌else◌ ◌and◌ ◌or◌
p2_accepted = refl

-- of kind 4 the same calls are accepted without a tag
pub linked_accepted : accepted (bench_of 4) p1 ≡ true
unfolding bench_of p1 does front_of after all_below some_below fresh_of begin_of step_of valid_of words_to line_step landed_all zeros word_at set_word offset_at length_at size_at gathered word_in with_word when◌then◌else◌ ◌and◌ ◌or◌
linked_accepted = refl

-- of a FIFO with one slot: an EMPTY, a put that stands in the window, one answered FULL, and a step of an idle worker that is
-- refused, in a log that held words before
abbrev full : List Call
full = tried.does 1 Steal 6 ++ tried.does 0 (Put (one 8)) 6 ++ tried.does 0 (Put (one 9)) 6

pub full_accepted : accepted (fresh_of (setup 2 1 1 2 1) (replicate 2 0) (replicate 40 5)).world full ≡ true
unfolding tried.does front_of after all_below some_below fresh_of begin_of step_of valid_of words_to line_step landed_all zeros word_at set_word offset_at length_at size_at gathered word_in with_word when◌then◌else◌ ◌and◌ ◌or◌
full_accepted = refl

-- THE BYTES. The words of these runs are below 256, so each is its lowest byte and three zeros
abbrev encoded : List ℕ → List ℕ
encoded [] = []
encoded (x ∷ l) = x ∷ 0 ∷ 0 ∷ 0 ∷ encoded l

abbrev verdict : World → List Call → Verdict
verdict W cs = judged W.bench.words (encoded (log_front (after W cs))) (encoded (stored (after W cs)))

-- P1 is answered no, though its premise is the only thing that is wrong with it; P2, and P1 of kind 4, have two hand-outs of different numbers
pub p1_judged : verdict (bench 1 2) p1 ≡ No
unfolding bench p1 does front_of after judged words_of all_below some_below fresh_of begin_of step_of valid_of words_to line_step landed_all zeros word_at set_word offset_at length_at size_at gathered word_in with_word when◌then◌else◌ ◌and◌ ◌or◌
p1_judged = refl

pub p2_judged : verdict (bench 2 2) p1 ≡ Accepted 2 0
unfolding bench p1 does front_of after judged words_of all_below some_below count_below fresh_of begin_of step_of valid_of words_to line_step landed_all zeros word_at set_word offset_at length_at size_at gathered word_in with_word when◌then◌else◌ ◌and◌ ◌or◌
p2_judged = refl

pub linked_judged : verdict (bench_of 4) p1 ≡ Accepted 2 0
unfolding bench_of p1 does front_of after judged words_of all_below some_below count_below fresh_of begin_of step_of valid_of words_to line_step landed_all zeros word_at set_word offset_at length_at size_at gathered word_in with_word when◌then◌else◌ ◌and◌ ◌or◌
linked_judged = refl

-- P3: owner and thief are handed the same task, two hand-outs of one number
abbrev p3 : List Call
p3 = tried.does 0 (Put (one 5)) 6 ++ tried.does 0 Take 3 ++ tried.does 1 Steal 7 ++ replicate 3 (step 0)

pub p3_judged : verdict (fresh_of (setup 2 1 2 2 1) (replicate 4 0) (replicate 40 5)).world p3 ≡ Accepted 2 1
unfolding tried.does front_of after judged words_of all_below some_below count_below fresh_of begin_of step_of valid_of words_to line_step landed_all zeros word_at set_word offset_at length_at size_at gathered word_in with_word when◌then◌else◌ ◌and◌ ◌or◌
p3_judged = refl

-- two payload words, so five words an entry: the first put is handed out, the second stands in the window
abbrev wide : List Call
wide = tried.does 0 (Put (payload 5 6 0 0)) 6 ++ tried.does 0 (Put (payload 7 8 9 9)) 6 ++ tried.does 1 Steal 8

pub wide_judged : verdict (fresh_of (setup 3 1 2 2 2) (replicate 6 0) (replicate 40 5)).world wide ≡ Accepted 1 0
unfolding tried.does front_of after judged words_of all_below some_below count_below fresh_of begin_of step_of valid_of words_to line_step landed_all zeros word_at set_word offset_at length_at size_at gathered word_in with_word when◌then◌else◌ ◌and◌ ◌or◌
wide_judged = refl

-- a commit between a put and its hand-out: its entry is passed over
abbrev grown : List Call
grown = tried.does 0 (Put (one 5)) 5 ++ ask 0 ∷ tried.does 0 Commit 5 ++ tried.does 1 Steal 6

pub grown_judged : verdict (bench_of 1) grown ≡ Accepted 1 0
unfolding bench_of tried.does front_of after judged words_of all_below some_below count_below fresh_of begin_of step_of ask_of valid_of words_to line_step landed_all zeros word_at set_word offset_at length_at size_at gathered word_in with_word when◌then◌else◌ ◌and◌ ◌or◌
grown_judged = refl

pub grown_logged : log_front (after (bench_of 1) grown) ≡ 1 ∷ 0 ∷ 1 ∷ 5 ∷ 5 ∷ 0 ∷ 0 ∷ 0 ∷ 2 ∷ 1 ∷ 1 ∷ 5 ∷ []
unfolding bench_of tried.does front_of after fresh_of begin_of step_of ask_of valid_of words_to line_step landed_all zeros word_at set_word offset_at length_at size_at gathered word_in with_word when◌then◌else◌ ◌and◌ ◌or◌
grown_logged = refl
