-- Rows of our own: each shows a difference that one of document 01's 'Mistakes to shut out', or a bench of its section
-- 'Agreement', would make. The edits in must-fail/ make them.
use Rattle.std.specs.Prelude.{Ok, Err}
use mathlib.Core.Bool.{Bool, true, false}
use mathlib.Core.Path.{◌≡◌, refl}
use mathlib.Core.List.{List, [], ◌∷◌, ◌++◌, map}
use Prim.Native.Nat.{ℕ}
use lib.ListN.{replicate}
use Rattle.model.specs.declared.Kind.TheVariants.{Lifo}
use Rattle.model.specs.declared.Anchor.{Anchor}
use Rattle.model.specs.declared.Queue.{Queue}
use Rattle.model.specs.declared.Line.{Line}
use Rattle.model.specs.declared.Growth.TheVariants.{ForPut}
use Rattle.model.specs.declared.Line.TheVariants.{Publish, StealCompare}
use Rattle.model.specs.declared.Operation.TheVariants.{Put}
use Rattle.model.specs.declared.Refusal.TheVariants.{NoSuchWorker, LogFull, ForeignState}
use Rattle.model.specs.declared.Answer.TheVariants.{Accepted, Numbered, GoesOn, Finished, Refused}
use Rattle.model.specs.declared.Command.TheVariants.{BeginTake, BeginSteal, Steps, End, Bad}
use Rattle.model.specs.Tests.{when◌then◌else◌, ◌and◌, ◌or◌}
use Rattle.model.specs.Memory.{zeros, word_at, set_word, offset_at, length_at, size_at, words_to}
use Rattle.model.specs.Tasks.{task, word_in, with_word, gathered}
use Rattle.model.specs.Figures.{anchor}
use Rattle.model.specs.Stores.{anchored, landed_all}
use Rattle.model.specs.Lines.{line_step}
use Rattle.model.specs.World.{World}
use Rattle.model.specs.Limits.{valid_of}
use Rattle.model.specs.Calls.{blank_at, no_bench, lent, fresh_of, begin_of, restarted, link_set, step_of, who_of, begin, step}
use Rattle.model.specs.Run.{played}
use Rattle.model.specs.Counts.{some_below, count_below, sum_below, counts_of}
use Rattle.model.specs.Listing.{D, E, F, R, T, steps_of, respond, listing_from}
use Rattle.model.proofs.Runs.{Row, one, queue, put, handed, lines, calls, prints, answers, ◌shows◌, show}

abbrev pub mistakes : List Row
mistakes =
    -- rereading the anchor in the owner's last line, LIFO take: a thief has the same task; the one below it stays
    (lines
    (queue 1 2 2 2 4 ∷ put 10 ∷ Steps 0 5 ∷ put 20 ∷ Steps 0 5 ∷ BeginTake ∷ Steps 0 4 ∷ BeginSteal 1 ∷ Steps 1 6 ∷ Steps 0 1 ∷ End ∷ [])
    shows prints (D 1 ∷ D 2 ∷ handed 1 2 20 ∷ handed 0 2 20 ∷ T 2 2 1 0 1 0 ∷ []))
    -- LIFO put: the task that a thief took meanwhile comes back into the window, and the new one is above it
    ∷ (lines (queue 1 2 2 2 4 ∷ put 10 ∷ Steps 0 5 ∷ put 20 ∷ Steps 0 4 ∷ BeginSteal 1 ∷ Steps 1 6 ∷ Steps 0 1 ∷ End ∷ [])
    shows prints (D 1 ∷ handed 1 1 10 ∷ D 2 ∷ T 2 1 1 0 2 0 ∷ []))
    -- FIFO take: head becomes the head read plus 1, though a thief has raised it since
    ∷ (lines
    (queue 2 1 2 2 4 ∷ put 10 ∷ Steps 0 6 ∷ put 20 ∷ Steps 0 6 ∷ BeginTake ∷ Steps 0 5 ∷ BeginSteal 1 ∷ Steps 1 7 ∷ Steps 0 1 ∷ End ∷ [])
    shows prints (D 1 ∷ D 2 ∷ handed 1 1 10 ∷ handed 0 1 10 ∷ T 2 2 1 0 1 0 ∷ []))
    -- double-ended take and put, with head 0 read and head 1 now
    ∷ (lines
    (queue 3 2 2 2 4 ∷ put 10 ∷ Steps 0 5 ∷ put 20 ∷ Steps 0 5 ∷ BeginTake ∷ Steps 0 4 ∷ BeginSteal 1 ∷ Steps 1 7 ∷ Steps 0 1 ∷ End ∷ [])
    shows prints (D 1 ∷ D 2 ∷ handed 1 1 10 ∷ handed 0 2 20 ∷ T 2 2 2 0 1 0 ∷ []))
    ∷ (lines (queue 3 2 2 2 4 ∷ put 10 ∷ Steps 0 5 ∷ put 20 ∷ Steps 0 4 ∷ BeginSteal 1 ∷ Steps 1 7 ∷ Steps 0 1 ∷ End ∷ [])
    shows prints (D 1 ∷ handed 1 1 10 ∷ D 2 ∷ T 2 1 1 0 2 0 ∷ []))
    -- raising the tag on take instead of put: a put and another thief's steal leave (t, g+1), so the compare fails
    ∷ (lines
    (queue 1 2 2 3 4 ∷ put 10 ∷ Steps 0 5 ∷ BeginSteal 1 ∷ Steps 1 5 ∷ put 20 ∷ Steps 0 5 ∷ BeginSteal 2 ∷ Steps 2 6 ∷ Steps 1 1 ∷ End ∷ [])
    shows prints (D 1 ∷ D 2 ∷ handed 2 2 20 ∷ T 2 1 1 1 1 0 ∷ []))
    -- and a take leaves the tag as it was: a thief that read (2, g) finds it again after a take and its own restart
    ∷ (lines
    (queue 1 1 2 2 4 ∷ put 10 ∷ Steps 0 5 ∷ put 20 ∷ Steps 0 5 ∷ BeginTake ∷ Steps 0 4 ∷ BeginSteal 1 ∷ Steps 1 5 ∷ Steps 0 1 ∷ put 30
    ∷ Steps 0 5 ∷ BeginTake ∷ Steps 0 5 ∷ put 40 ∷ Steps 0 5 ∷ Steps 1 1 ∷ End ∷ [])
    shows prints (D 1 ∷ D 2 ∷ handed 0 2 20 ∷ D 3 ∷ handed 0 3 30 ∷ D 4 ∷ handed 1 2 20 ∷ T 4 3 2 0 1 1 ∷ []))
    -- noting the array before the anchor: the thief's anchor and array are those of its lines 1 and 3, from before the growth
    ∷ (lines
    (queue 1 2 1 2 6 ∷ put 7 ∷ Steps 0 5 ∷ BeginSteal 1 ∷ Steps 1 3 ∷ put 8 ∷ Steps 0 11 ∷ Steps 1 3 ∷ Steps 1 6 ∷ End ∷ [])
    shows prints (D 1 ∷ D 2 ∷ handed 1 2 8 ∷ T 2 1 1 1 1 0 ∷ []))
    -- comparing only the head in figure 3: the owner has taken the task meanwhile, and head is as read
    ∷ (lines (queue 3 2 1 2 2 ∷ put 7 ∷ Steps 0 5 ∷ BeginSteal 1 ∷ Steps 1 6 ∷ BeginTake ∷ Steps 0 5 ∷ Steps 1 1 ∷ Steps 1 2 ∷ End ∷ [])
    shows prints (D 1 ∷ handed 0 1 7 ∷ E 1 ∷ T 1 1 1 1 0 0 ∷ []))
    -- shrinking the array to twice the count: with one of two tasks stolen after the put's test, four slots are there, not two
    ∷ (lines
    (queue 3 2 2 2 12 ∷ put 1 ∷ Steps 0 5 ∷ put 2 ∷ Steps 0 5 ∷ put 3 ∷ Steps 0 2 ∷ BeginSteal 1 ∷ Steps 1 7 ∷ Steps 0 9 ∷ put 4
    ∷ Steps 0 5 ∷ put 5 ∷ Steps 0 5 ∷ End ∷ [])
    shows prints (D 1 ∷ D 2 ∷ handed 1 1 1 ∷ D 3 ∷ D 4 ∷ D 5 ∷ T 5 1 1 0 4 0 ∷ []))
    -- EMPTY for owner and thief, and only then; the same task is not handed out again; one refused call, then on
    ∷ (lines
    (queue 1 1 2 2 4 ∷ BeginTake ∷ Steps 0 2 ∷ BeginSteal 1 ∷ Steps 1 2 ∷ put 3 ∷ BeginTake ∷ Steps 0 6 ∷ put 4 ∷ Steps 0 5 ∷ BeginTake ∷ Steps 0 5
    ∷ BeginTake ∷ Steps 0 5 ∷ Bad ∷ BeginTake ∷ Steps 0 2 ∷ End ∷ [])
    shows prints (E 0 ∷ E 1 ∷ R 7 ∷ D 1 ∷ R 8 ∷ D 2 ∷ handed 0 2 4 ∷ handed 0 1 3 ∷ R 13 ∷ E 0 ∷ T 2 2 2 0 0 0 ∷ []))
    -- `step I M` stops at the first refusal: the thief's second step of five is refused, and no third is tried
    ∷ (lines (queue 1 1 1 2 2 ∷ BeginSteal 1 ∷ Steps 1 1 ∷ Steps 1 5 ∷ End ∷ []) shows prints (E 1 ∷ R 8 ∷ T 0 0 0 0 0 0 ∷ []))
    -- a refused step changes nothing: the end of a put with 3 words left in the log is refused as often as it is tried
    ∷ (calls 1 1 2 1 1 false 4 7 (begin 0 (Put (one 7)) ∷ replicate 5 (step 0) ++ begin 0 (Put (one 8)) ∷ replicate 6 (step 0))
    shows answers
    (Accepted ∷ Numbered 1 ∷ replicate 4 GoesOn ++ Finished 0 (task 1 (one 7)) ∷ Numbered 2 ∷ replicate 4 GoesOn ++ Refused LogFull ∷ Refused LogFull ∷ []))
    -- FULL only where X1 says so: 5 words do not hold a second array, 6 do (P5)
    ∷ (lines (queue 2 1 1 1 5 ∷ put 7 ∷ Steps 0 6 ∷ put 8 ∷ Steps 0 4 ∷ End ∷ []) shows prints (D 1 ∷ F 2 ∷ T 1 0 0 0 1 0 ∷ []))
    -- lost goes by both words: thief 2 gets number 3 with the payload of put 5, and put 3 stays lost
    ∷ (lines
    (queue 1 1 2 3 4 ∷ put 65 ∷ Steps 0 5 ∷ BeginSteal 1 ∷ Steps 1 5 ∷ BeginTake ∷ Steps 0 5 ∷ put 66 ∷ Steps 0 5 ∷ BeginTake ∷ Steps 0 5 ∷ put 67
    ∷ Steps 0 5 ∷ BeginSteal 2 ∷ Steps 2 4 ∷ Steps 1 1 ∷ put 68 ∷ Steps 0 5 ∷ BeginTake ∷ Steps 0 5 ∷ put 69 ∷ Steps 0 5 ∷ Steps 2 2 ∷ End ∷ [])
    shows prints
    (D 1 ∷ handed 0 1 65 ∷ D 2 ∷ handed 0 2 66 ∷ D 3 ∷ handed 1 1 65 ∷ D 4 ∷ handed 0 4 68 ∷ D 5 ∷ handed 2 3 69 ∷ T 5 5 4 0 0 2 ∷ []))
    ∷ []

pub mistakes_shut_out : map (λ r. show r.run) mistakes ≡ map (λ r. r.shown) mistakes
unfolding show played listing_from respond steps_of counts_of some_below count_below sum_below fresh_of begin_of step_of valid_of words_to line_step landed_all zeros word_at set_word offset_at length_at size_at when◌then◌else◌ ◌and◌ ◌or◌ gathered word_in with_word
mistakes_shut_out = refl

-- a queue, linked or not, with this anchor
abbrev at : Bool → Anchor → Queue
at x a = anchored (blank_at 0 Lifo x 1 1 2 1 false).queue a

-- the counts of restarts: worker 1's compare fails, at the ceiling and one below it, and the other counts stay; a compare that
-- succeeds; X4; in a linked queue a compare without its link, with the anchor as it was read, and one with it
abbrev eight : ℕ → List ℕ
eight n = 9 ∷ n ∷ 4294967295 ∷ replicate 5 0

abbrev pub counted : List (List ℕ)
counted =
    map (λ (n : ℕ). restarted Lifo (at false (anchor 0 1 0)) 1 (StealCompare (anchor 0 1 1) 0 (task 1 (one 7))) (eight n)) (4 ∷ 4294967294 ∷ 4294967295 ∷ [])
    ++ map (λ (l : Line). restarted Lifo (at false (anchor 0 1 0)) 1 l (eight 4)) (StealCompare (anchor 0 1 0) 0 (task 1 (one 7)) ∷ Publish (ForPut (task 1 (one 7))) ∷ [])
    ++ map (λ (x : Bool). restarted Lifo (link_set (at true (anchor 0 1 0)) 1 x) 1 (StealCompare (anchor 0 1 0) 0 (task 1 (one 7))) (eight 4)) (false ∷ true ∷ [])

pub counter : counted ≡ map eight (5 ∷ 4294967295 ∷ 4294967295 ∷ 4 ∷ 4 ∷ 5 ∷ 4 ∷ [])
unfolding when◌then◌else◌ ◌and◌
counter = refl

-- a bench with these counts, in a crew of two
abbrev tallied : List ℕ → World
tallied ns =
    let b = blank_at 0 Lifo false 1 1 2 1 false in
    lent
    (record {
      kind = b.kind;
      width = b.width;
      words = b.words;
      delayed = b.delayed;
      crew = b.crew;
      queue = b.queue;
      waiting = b.waiting;
      aside = b.aside;
      used = b.used;
      restarts = ns;
      written = b.written;
      workers = b.workers;
    })
    (0 ∷ 0 ∷ []) []

-- what `T` shows is the sum of all eight, the largest one past 32 bits
pub summed : map (λ (ns : List ℕ). (counts_of (tallied ns)).restarts) (eight 4 ∷ replicate 8 4294967295 ∷ (0 ∷ 0 ∷ 0 ∷ 0 ∷ 0 ∷ 0 ∷ 0 ∷ 7 ∷ []) ∷ [])
    ≡ (4294967308 ∷ 34359738360 ∷ 7 ∷ [])
unfolding counts_of count_below sum_below landed_all
summed = refl

-- a worker's own count; 6 outside the crew; 12 of no bench, before 6
pub asked : map (who_of (tallied (eight 4))) (0 ∷ 1 ∷ 2 ∷ []) ++ map (who_of (lent no_bench [] [])) (0 ∷ 8 ∷ [])
    ≡ (Ok 9 ∷ Ok 4 ∷ Err NoSuchWorker ∷ Err ForeignState ∷ Err ForeignState ∷ [])
unfolding who_of valid_of words_to landed_all offset_at length_at size_at when◌then◌else◌ ◌and◌ ◌or◌
asked = refl
