-- Document 01's runs P1 to P9, with runs of requests 5 to 8 behind them: one table, one theorem.
use mathlib.Core.Path.{◌≡◌, refl}
use mathlib.Core.Bool.{true, false}
use mathlib.Core.List.{List, [], ◌∷◌, ◌++◌, map}
use Prim.Native.Nat.{ℕ}
use lib.ListN.{replicate}
use Rattle.model.specs.declared.Operation.TheVariants.{Put, Take, Steal, Commit}
use Rattle.model.specs.declared.Refusal.TheVariants.{
  NoSuchWorker,
  BusyWorker,
  WrongHand,
  LogFull,
  NoLink,
  WaitingFull,
  NoneWaiting,
  NoSpace,
  AskStands,
  NoAsk,
}
use Rattle.model.specs.declared.Answer.{Answer}
use Rattle.model.specs.declared.Answer.TheVariants.{Accepted, Numbered, GoesOn, Finished, HandedOut, Empty, Full, Grown, Refused}
use Rattle.model.specs.declared.Command.{Command}
use Rattle.model.specs.declared.Command.TheVariants.{Open, BeginPut, BeginTake, BeginSteal, Steps, Who, End}
use Rattle.model.specs.Tests.{when◌then◌else◌, ◌and◌, ◌or◌}
use Rattle.model.specs.Memory.{zeros, word_at, set_word, offset_at, length_at, size_at, words_to}
use Rattle.model.specs.Tasks.{task, payload, word_in, with_word, gathered}
use Rattle.model.specs.Answers.{entry_of, entry_words}
use Rattle.model.specs.Stores.{landed_all}
use Rattle.model.specs.Lines.{line_step}
use Rattle.model.specs.Limits.{valid_of}
use Rattle.model.specs.Calls.{fresh_of, begin_of, step_of, drop_link_of, drain_of, ask_of, drop_ask_of, who_of, begin, step, drop_link, drain, ask, drop_ask}
use Rattle.model.specs.Run.{played}
use Rattle.model.specs.Counts.{some_below, count_below, sum_below, counts_of}
use Rattle.model.specs.Listing.{D, H, E, F, R, Wi, T, steps_of, respond, listing_from}
use Rattle.model.proofs.Runs.{Row, one, queue, put, handed, lines, calls, prints, answers, ◌shows◌, show}

-- P1; P2 differs in the tag's width only
abbrev p1 : ℕ → List Command
p1 w =
    queue 1 w 2 2 12 ∷ put 65 ∷ Steps 0 5 ∷ BeginSteal 1 ∷ Steps 1 5 ∷ BeginTake ∷ Steps 0 5 ∷ put 66 ∷ Steps 0 5 ∷ BeginTake
    ∷ Steps 0 5 ∷ put 67 ∷ Steps 0 5 ∷ Steps 1 1 ∷ End ∷ []

abbrev pub table : List Row
table =
    -- P1: two puts in one attempt, and a one-bit tag loses
    (lines (p1 1) shows prints (D 1 ∷ handed 0 1 65 ∷ D 2 ∷ handed 0 2 66 ∷ D 3 ∷ handed 1 1 65 ∷ T 3 3 2 0 0 1 ∷ []))
    -- P2: width 2: the last H is gone
    ∷ (lines (p1 2) shows prints (D 1 ∷ handed 0 1 65 ∷ D 2 ∷ handed 0 2 66 ∷ D 3 ∷ T 3 2 2 1 1 0 ∷ []))
    -- P3: FIFO, size 2: take does 3 steps, a steal all 7, take its last 3
    ∷ (lines (queue 2 1 2 2 4 ∷ put 5 ∷ Steps 0 6 ∷ BeginTake ∷ Steps 0 3 ∷ BeginSteal 1 ∷ Steps 1 7 ∷ Steps 0 3 ∷ End ∷ [])
    shows prints (D 1 ∷ handed 1 1 5 ∷ handed 0 1 5 ∷ T 1 2 1 0 0 0 ∷ []))
    -- P4: LIFO, size 1, store 2: the second put's third step is FULL
    ∷ (lines (queue 1 1 1 1 2 ∷ put 7 ∷ Steps 0 5 ∷ put 8 ∷ Steps 0 3 ∷ End ∷ []) shows prints (D 1 ∷ F 2 ∷ T 1 0 0 0 1 0 ∷ []))
    ∷ (calls 1 1 1 1 1 false 2 8 (begin 0 (Put (one 7)) ∷ replicate 5 (step 0) ++ begin 0 (Put (one 8)) ∷ replicate 3 (step 0))
    shows answers
    (Accepted ∷ Numbered 1 ∷ replicate 4 GoesOn ++ Finished 0 (task 1 (one 7)) ∷ Numbered 2 ∷ GoesOn ∷ GoesOn ∷ Full 0 (task 2 (one 8)) ∷ []))
    -- P5: store 6: it finishes at step 11; restarts 0, as document 02 counts them
    ∷ (lines (queue 1 1 1 1 6 ∷ put 7 ∷ Steps 0 5 ∷ put 8 ∷ Steps 0 11 ∷ End ∷ []) shows prints (D 1 ∷ D 2 ∷ T 2 0 0 0 2 0 ∷ []))
    ∷ (calls 1 1 1 1 1 false 6 8 (begin 0 (Put (one 7)) ∷ replicate 5 (step 0) ++ begin 0 (Put (one 8)) ∷ replicate 11 (step 0))
    shows answers
    (Accepted ∷ Numbered 1 ∷ replicate 4 GoesOn ++ Finished 0 (task 1 (one 7)) ∷ Numbered 2 ∷ replicate 10 GoesOn ++ Finished 0 (task 2 (one 8)) ∷ []))
    -- P6: double-ended, size 1, store 6, one task: put does 2 steps, a steal takes the task, put finishes in 8 more
    ∷ (lines (queue 3 1 1 2 6 ∷ put 7 ∷ Steps 0 5 ∷ put 8 ∷ Steps 0 2 ∷ BeginSteal 1 ∷ Steps 1 7 ∷ Steps 0 8 ∷ End ∷ [])
    shows prints (D 1 ∷ handed 1 1 7 ∷ D 2 ∷ T 2 1 1 0 1 0 ∷ []))
    ∷ (calls 3 1 1 2 1 false 6 12
    (begin 0 (Put (one 7)) ∷ replicate 5 (step 0) ++ begin 0 (Put (one 8)) ∷ step 0 ∷ step 0 ∷ begin 1 Steal ∷ replicate 7 (step 1) ++ replicate 8 (step 0))
    shows answers
    (Accepted ∷ Numbered 1 ∷ replicate 4 GoesOn ++ Finished 0 (task 1 (one 7)) ∷ Numbered 2 ∷ GoesOn ∷ GoesOn
    ∷ Accepted ∷ replicate 6 GoesOn ++ HandedOut 1 (task 1 (one 7)) ∷ replicate 7 GoesOn ++ Finished 0 (task 2 (one 8)) ∷ []))
    -- P7: width 16 accepted, 0 and 17 refused
    ∷ (lines (queue 1 16 1 1 2 ∷ End ∷ []) shows prints (T 0 0 0 0 0 0 ∷ []))
    ∷ (lines (queue 1 0 1 1 2 ∷ []) shows prints (R 2 ∷ []))
    ∷ (lines (queue 1 17 1 1 2 ∷ []) shows prints (R 2 ∷ []))
    -- P8: size 1,024 with 2,048 words accepted, 2,047 refused 5
    ∷ (lines (queue 1 1 1024 1 2048 ∷ End ∷ []) shows prints (T 0 0 0 0 0 0 ∷ []))
    ∷ (lines (queue 1 1 1024 1 2047 ∷ []) shows prints (R 5 ∷ []))
    -- P9: busy thief told to put: 9
    ∷ (calls 1 1 1 2 1 false 2 4 (begin 1 Steal ∷ step 1 ∷ begin 1 (Put (one 9)) ∷ []) shows answers (Accepted ∷ Accepted ∷ GoesOn ∷ Refused WrongHand ∷ []))
    -- three payload words: take and steal read four words each; a size of 2 takes 8 words
    ∷ (lines
    (Open 3 2 2 2 24 3 ∷ BeginPut 3 (payload 5 6 7 0) ∷ Steps 0 7 ∷ BeginPut 3 (payload 8 9 10 0) ∷ Steps 0 7 ∷ BeginTake ∷ Steps 0 7 ∷ BeginSteal 1 ∷ Steps 1 9
    ∷ BeginPut 2 (payload 1 2 0 0) ∷ End ∷ [])
    shows prints (D 1 ∷ D 2 ∷ H 0 2 (8 ∷ 9 ∷ 10 ∷ []) ∷ H 1 1 (5 ∷ 6 ∷ 7 ∷ []) ∷ R 13 ∷ T 2 2 2 0 0 0 ∷ []))
    -- four payload words: growth copies whole tasks; the log's entries have 7 words
    ∷ (lines (Open 1 1 1 1 15 4 ∷ BeginPut 4 (payload 1 2 3 4) ∷ Steps 0 8 ∷ BeginPut 4 (payload 5 6 7 8) ∷ Steps 0 14 ∷ BeginTake ∷ Steps 0 8 ∷ BeginTake ∷ Steps 0 8 ∷ End ∷ [])
    shows prints (D 1 ∷ D 2 ∷ H 0 2 (5 ∷ 6 ∷ 7 ∷ 8 ∷ []) ∷ H 0 1 (1 ∷ 2 ∷ 3 ∷ 4 ∷ []) ∷ T 2 2 2 0 0 0 ∷ []))
    -- 0 and 5 payload words refused 16, before a short store; the last of 4 words needs 5 words of store
    ∷ (lines (Open 1 1 1 1 0 0 ∷ Open 1 1 1 1 0 5 ∷ Open 1 1 1 1 4 4 ∷ Open 1 1 1 9 5 0 ∷ Open 1 1 1 1 5 4 ∷ End ∷ []) shows prints (R 16 ∷ R 16 ∷ R 5 ∷ R 4 ∷ T 0 0 0 0 0 0 ∷ []))
    -- with two payload words an ending step needs 5 words of the log
    ∷ (calls 1 1 1 1 2 false 3 4 (begin 0 Take ∷ step 0 ∷ step 0 ∷ []) shows answers (Accepted ∷ Accepted ∷ GoesOn ∷ Refused LogFull ∷ []))
    ∷ (calls 1 1 1 1 2 false 3 5 (begin 0 Take ∷ step 0 ∷ step 0 ∷ []) shows answers (Accepted ∷ Accepted ∷ GoesOn ∷ Empty 0 ∷ []))
    -- kind 4: P1's run loses nothing without a tag: the puts break the thief's link
    ∷ (lines
    (queue 4 1 2 2 12 ∷ put 65 ∷ Steps 0 5 ∷ BeginSteal 1 ∷ Steps 1 5 ∷ BeginTake ∷ Steps 0 5 ∷ put 66 ∷ Steps 0 5 ∷ BeginTake ∷ Steps 0 5 ∷ put 67
    ∷ Steps 0 5 ∷ Steps 1 1 ∷ Steps 1 6 ∷ End ∷ [])
    shows prints (D 1 ∷ handed 0 1 65 ∷ D 2 ∷ handed 0 2 66 ∷ D 3 ∷ handed 1 3 67 ∷ T 3 3 3 1 0 0 ∷ []))
    -- a write of an equal value breaks a link too: thief 1 has lowered t to 1, thief 2 links it, and the owner's stale take writes 1
    ∷ (lines
    (queue 4 1 2 3 4 ∷ put 10 ∷ Steps 0 5 ∷ put 20 ∷ Steps 0 5 ∷ BeginTake ∷ Steps 0 4 ∷ BeginSteal 1 ∷ Steps 1 6 ∷ BeginSteal 2 ∷ Steps 2 5 ∷ Steps 0 1
    ∷ Steps 2 1 ∷ End ∷ [])
    shows prints (D 1 ∷ D 2 ∷ handed 1 2 20 ∷ handed 0 2 20 ∷ T 2 2 1 1 1 0 ∷ []))
    -- kind 5: a link dropped for no reason makes the store fail, and the next attempt succeeds; 17 with none held, 6 before it
    ∷ (calls 5 1 1 2 1 false 2 8
    (begin 0 (Put (one 7)) ∷ replicate 5 (step 0) ++ begin 1 Steal ∷ drop_link 1 ∷ step 1 ∷ drop_link 1 ∷ drop_link 1 ∷ drop_link 0 ∷ drop_link 2
    ∷ replicate 6 (step 1) ++ drop_link 1 ∷ replicate 7 (step 1) ++ drop_link 1 ∷ [])
    shows answers
    (Accepted ∷ Numbered 1 ∷ replicate 4 GoesOn ++ Finished 0 (task 1 (one 7)) ∷ Accepted ∷ Refused NoLink ∷ GoesOn ∷ Accepted ∷ Refused NoLink
    ∷ Refused NoLink ∷ Refused NoSuchWorker ∷ replicate 6 GoesOn ++ Refused NoLink ∷ replicate 6 GoesOn ++ HandedOut 1 (task 1 (one 7)) ∷ Refused NoLink ∷ []))
    -- EMPTY ends its attempt, and with it the link
    ∷ (calls 4 1 1 2 1 false 2 4 (begin 1 Steal ∷ step 1 ∷ step 1 ∷ drop_link 1 ∷ []) shows answers (Accepted ∷ Accepted ∷ GoesOn ∷ Empty 1 ∷ Refused NoLink ∷ []))
    -- growth writes no anchor: the link holds, and the thief hands out what it read in the old array; nor does FULL
    ∷ (lines (queue 4 1 1 2 6 ∷ put 7 ∷ Steps 0 5 ∷ BeginSteal 1 ∷ Steps 1 5 ∷ put 8 ∷ Steps 0 6 ∷ Steps 1 1 ∷ End ∷ [])
    shows prints (D 1 ∷ handed 1 1 7 ∷ T 1 1 1 0 0 0 ∷ []))
    ∷ (lines (queue 4 1 1 2 2 ∷ put 7 ∷ Steps 0 5 ∷ BeginSteal 1 ∷ Steps 1 5 ∷ put 8 ∷ Steps 0 3 ∷ Steps 1 1 ∷ End ∷ [])
    shows prints (D 1 ∷ F 2 ∷ handed 1 1 7 ∷ T 1 1 1 0 0 0 ∷ []))
    -- a thief's link that fails, and its store that then fails, leave the other thief's link held
    ∷ (calls 4 1 1 3 1 false 2 8
    (begin 0 (Put (one 7)) ∷ replicate 5 (step 0) ++ begin 1 Steal ∷ begin 2 Steal ∷ replicate 5 (step 1) ++ replicate 5 (step 2) ++ drop_link 1 ∷ step 1 ∷ step 2 ∷ [])
    shows answers
    (Accepted ∷ Numbered 1 ∷ replicate 4 GoesOn ++ Finished 0 (task 1 (one 7)) ∷ Accepted ∷ Accepted ∷ replicate 10 GoesOn ++ Accepted ∷ GoesOn ∷ HandedOut 2 (task 1 (one 7)) ∷ []))
    -- an EMPTY that is refused 11 keeps its link
    ∷ (calls 4 1 1 2 1 false 2 3 (begin 1 Steal ∷ step 1 ∷ step 1 ∷ drop_link 1 ∷ drop_link 1 ∷ []) shows answers
    (Accepted ∷ Accepted ∷ GoesOn ∷ Refused LogFull ∷ Accepted ∷ Refused NoLink ∷ []))
    -- kinds are 1 to 5; a linked kind's tag width is checked
    ∷ (lines (queue 0 1 1 1 2 ∷ queue 6 1 1 1 2 ∷ queue 4 0 1 1 2 ∷ queue 5 16 1 1 2 ∷ End ∷ []) shows prints (R 1 ∷ R 1 ∷ R 2 ∷ T 0 0 0 0 0 0 ∷ []))
    -- who: of two thieves that go for one task the second is beaten; 13 before a queue, 6 outside the crew
    ∷ (lines
    (Who 0 ∷ queue 1 2 2 3 4 ∷ put 7 ∷ Steps 0 5 ∷ BeginSteal 1 ∷ BeginSteal 2 ∷ Steps 1 5 ∷ Steps 2 5 ∷ Steps 1 1 ∷ Steps 2 1 ∷ Who 0 ∷ Who 1 ∷ Who 2
    ∷ Who 3 ∷ Steps 2 2 ∷ Who 2 ∷ End ∷ [])
    shows prints (R 13 ∷ D 1 ∷ handed 1 1 7 ∷ Wi 0 0 ∷ Wi 1 0 ∷ Wi 2 1 ∷ R 6 ∷ E 2 ∷ Wi 2 1 ∷ T 1 1 1 1 0 0 ∷ []))
    -- two are beaten, one of them twice: T has the sum
    ∷ (lines
    (queue 3 2 2 4 8 ∷ put 7 ∷ Steps 0 5 ∷ put 8 ∷ Steps 0 5 ∷ BeginSteal 1 ∷ BeginSteal 2 ∷ BeginSteal 3 ∷ Steps 1 6 ∷ Steps 2 6 ∷ Steps 3 6 ∷ Steps 1 1
    ∷ Steps 2 1 ∷ Steps 3 1 ∷ Steps 2 6 ∷ Steps 3 6 ∷ Steps 2 1 ∷ Steps 3 1 ∷ Who 1 ∷ Who 2 ∷ Who 3 ∷ End ∷ [])
    shows prints (D 1 ∷ D 2 ∷ handed 1 1 7 ∷ handed 2 2 8 ∷ Wi 1 0 ∷ Wi 2 1 ∷ Wi 3 2 ∷ T 2 2 2 3 0 0 ∷ []))
    -- delayed stores: a finished put is not seen by a thief until its stores have drained, and a thief's store waits
    -- never; 19 with none waiting
    ∷ (calls 1 1 1 2 1 true 2 12
    (drain ∷ begin 0 (Put (one 7)) ∷ replicate 5 (step 0) ++ drain ∷ drain ∷ begin 1 Steal ∷ step 1 ∷ step 1 ∷ drain ∷ drain ∷ begin 1 Steal ∷ replicate 6 (step 1) ++ drain ∷ [])
    shows answers
    (Accepted ∷ Refused NoneWaiting ∷ Numbered 1 ∷ replicate 4 GoesOn ++ Finished 0 (task 1 (one 7)) ∷ Accepted ∷ Accepted ∷ Accepted ∷ GoesOn ∷ Empty 1
    ∷ Accepted ∷ Refused NoneWaiting ∷ Accepted ∷ replicate 5 GoesOn ++ HandedOut 1 (task 1 (one 7)) ∷ Refused NoneWaiting ∷ []))
    -- the owner reads its own waiting stores; a third put's last store has no place until one drains; 18 stands before 11
    ∷ (calls 3 1 4 1 1 true 8 8
    (begin 0 (Put (one 5)) ∷ replicate 5 (step 0) ++ begin 0 (Put (one 6)) ∷ replicate 5 (step 0) ++ begin 0 (Put (one 7)) ∷ replicate 5 (step 0) ++ drain ∷ step 0 ∷ [])
    shows answers
    (Accepted ∷ Numbered 1 ∷ replicate 4 GoesOn ++ Finished 0 (task 1 (one 5)) ∷ Numbered 2 ∷ replicate 4 GoesOn ++ Finished 0 (task 2 (one 6))
    ∷ Numbered 3 ∷ replicate 4 GoesOn ++ Refused WaitingFull ∷ Accepted ∷ Refused LogFull ∷ []))
    ∷ (calls 2 1 1 1 1 true 2 12
    (begin 0 (Put (one 5)) ∷ replicate 6 (step 0) ++ begin 0 Take ∷ replicate 6 (step 0) ++ begin 0 Take ∷ replicate 3 (step 0))
    shows answers
    (Accepted ∷ Numbered 1 ∷ replicate 5 GoesOn ++ Finished 0 (task 1 (one 5)) ∷ Accepted ∷ replicate 5 GoesOn ++ HandedOut 0 (task 1 (one 5))
    ∷ Accepted ∷ GoesOn ∷ GoesOn ∷ Empty 0 ∷ []))
    -- growth, three payload words: X3 adds four stores, X4 one; the thief, its array noted, still reads the old one
    ∷ (calls 1 2 1 2 3 true 12 18
    (begin 0 (Put (payload 1 2 3 0)) ∷ replicate 7 (step 0) ++ replicate 5 drain ++ begin 1 Steal ∷ replicate 3 (step 1) ++ begin 0 (Put (payload 4 5 6 0))
    ∷ replicate 6 (step 0) ++ replicate 4 (step 1) ++ replicate 5 drain ++ step 1 ∷ replicate 7 (step 0))
    shows answers
    (Accepted ∷ Numbered 1 ∷ replicate 6 GoesOn ++ Finished 0 (task 1 (payload 1 2 3 0)) ∷ replicate 5 Accepted ++ Accepted ∷ replicate 3 GoesOn ++ Numbered 2
    ∷ replicate 6 GoesOn ++ replicate 4 GoesOn ++ replicate 5 Accepted ++ HandedOut 1 (task 1 (payload 1 2 3 0)) ∷ replicate 6 GoesOn
    ++ Finished 0 (task 2 (payload 4 5 6 0)) ∷ []))
    -- kind 4: the put's anchor store breaks the link when it drains, not before
    ∷ (calls 4 1 2 3 1 true 4 16
    (begin 0 (Put (one 5)) ∷ replicate 5 (step 0) ++ replicate 3 drain ++ begin 1 Steal ∷ begin 2 Steal ∷ replicate 5 (step 1) ++ replicate 5 (step 2)
    ++ begin 0 Take ∷ replicate 5 (step 0) ++ step 1 ∷ begin 1 Steal ∷ step 1 ∷ drop_link 2 ∷ drain ∷ drop_link 1 ∷ step 1 ∷ step 2 ∷ [])
    shows answers
    (Accepted ∷ Numbered 1 ∷ replicate 4 GoesOn ++ Finished 0 (task 1 (one 5)) ∷ replicate 3 Accepted ++ Accepted ∷ Accepted ∷ replicate 10 GoesOn
    ++ Accepted ∷ replicate 4 GoesOn ++ HandedOut 0 (task 1 (one 5)) ∷ HandedOut 1 (task 1 (one 5)) ∷ Accepted ∷ GoesOn ∷ Refused NoLink ∷ Accepted
    ∷ Refused NoLink ∷ Empty 1 ∷ GoesOn ∷ []))
    -- two puts drained between a thief's line 1 and its compare bring a one-bit tag round, though both finished before line 1: the thief hands
    -- out what it read, and the owner's next take misses the third put's task
    ∷ (calls 1 1 2 2 1 true 4 60
    (begin 0 (Put (one 7)) ∷ replicate 5 (step 0) ++ replicate 3 drain ++ begin 0 Take ∷ replicate 5 (step 0) ++ begin 0 (Put (one 8)) ∷ replicate 5 (step 0)
    ++ begin 0 Take ∷ replicate 5 (step 0) ++ begin 0 (Put (one 9)) ∷ replicate 5 (step 0) ++ begin 1 Steal ∷ replicate 5 (step 1) ++ replicate 8 drain
    ++ step 1 ∷ begin 0 Take ∷ step 0 ∷ step 0 ∷ [])
    shows answers
    (Accepted ∷ Numbered 1 ∷ replicate 4 GoesOn ++ Finished 0 (task 1 (one 7)) ∷ replicate 3 Accepted ++ Accepted ∷ replicate 4 GoesOn
    ++ HandedOut 0 (task 1 (one 7)) ∷ Numbered 2 ∷ replicate 4 GoesOn ++ Finished 0 (task 2 (one 8)) ∷ Accepted ∷ replicate 4 GoesOn
    ++ HandedOut 0 (task 2 (one 8)) ∷ Numbered 3 ∷ replicate 4 GoesOn ++ Finished 0 (task 3 (one 9)) ∷ Accepted ∷ replicate 5 GoesOn
    ++ replicate 8 Accepted ++ HandedOut 1 (task 1 (one 7)) ∷ Accepted ∷ GoesOn ∷ Empty 0 ∷ []))
    -- four payload words: X3's five stores need five places, X4's note and a put's word one; the old array's words wait before the note
    ∷ (calls 1 2 1 1 4 true 15 40
    (begin 0 (Put (payload 1 2 3 4)) ∷ replicate 8 (step 0) ++ begin 0 (Put (payload 5 6 7 8)) ∷ replicate 5 (step 0) ++ replicate 3 drain
    ++ step 0 ∷ step 0 ∷ drain ∷ step 0 ∷ step 0 ∷ step 0 ∷ step 0 ∷ drain ∷ step 0 ∷ [])
    shows answers
    (Accepted ∷ Numbered 1 ∷ replicate 7 GoesOn ++ Finished 0 (task 1 (payload 1 2 3 4)) ∷ Numbered 2 ∷ replicate 4 GoesOn ++ Refused WaitingFull
    ∷ replicate 3 Accepted ++ GoesOn ∷ Refused WaitingFull ∷ Accepted ∷ GoesOn ∷ GoesOn ∷ GoesOn ∷ Refused WaitingFull ∷ Accepted ∷ GoesOn ∷ []))
    -- ask, commit, drop: 22 with none; 21 before 20; a thief's 9; 7 while an operation is open; a commit's X1, X2, X4 end with kind 5
    ∷ (calls 2 1 1 2 1 false 6 12
    (drop_ask 0 ∷ begin 0 Commit ∷ ask 1 ∷ ask 2 ∷ ask 0 ∷ ask 0 ∷ begin 1 Commit ∷ drop_ask 1 ∷ begin 0 Commit ∷ ask 0 ∷ drop_ask 0 ∷ step 0 ∷ step 0 ∷ step 0 ∷ ask 0 ∷ drop_ask 0 ∷ [])
    shows answers
    (Accepted ∷ Refused NoAsk ∷ Refused NoAsk ∷ Refused WrongHand ∷ Refused NoSuchWorker ∷ Accepted ∷ Refused AskStands ∷ Refused WrongHand ∷ Refused WrongHand
    ∷ Accepted ∷ Refused BusyWorker ∷ Refused BusyWorker ∷ GoesOn ∷ GoesOn ∷ Grown 0 ∷ Refused NoSpace ∷ Refused NoAsk ∷ []))
    -- an ask dropped; a put that must grow uses the words set aside, and the ask is gone; LIFO copies all slots at a commit
    ∷ (calls 1 1 1 1 1 false 14 20
    (ask 0 ∷ drop_ask 0 ∷ drop_ask 0 ∷ begin 0 (Put (one 7)) ∷ replicate 5 (step 0) ++ ask 0 ∷ begin 0 (Put (one 8)) ∷ replicate 11 (step 0) ++ begin 0 Commit ∷ ask 0
    ∷ begin 0 Commit ∷ replicate 5 (step 0) ++ begin 0 Take ∷ replicate 5 (step 0))
    shows answers
    (Accepted ∷ Accepted ∷ Accepted ∷ Refused NoAsk ∷ Numbered 1 ∷ replicate 4 GoesOn ++ Finished 0 (task 1 (one 7)) ∷ Accepted ∷ Numbered 2
    ∷ replicate 10 GoesOn ++ Finished 0 (task 2 (one 8)) ∷ Refused NoAsk ∷ Accepted ∷ Accepted ∷ replicate 4 GoesOn ++ Grown 0 ∷ Accepted ∷ replicate 4 GoesOn
    ++ HandedOut 0 (task 2 (one 8)) ∷ []))
    -- with delayed stores an ask goes by the array that the owner reads; two notes wait
    ∷ (calls 3 1 1 1 1 true 14 8
    (ask 0 ∷ begin 0 Commit ∷ replicate 3 (step 0) ++ ask 0 ∷ begin 0 Commit ∷ replicate 3 (step 0) ++ ask 0 ∷ drain ∷ drain ∷ drain ∷ [])
    shows answers
    (Accepted ∷ Accepted ∷ Accepted ∷ GoesOn ∷ GoesOn ∷ Grown 0 ∷ Accepted ∷ Accepted ∷ GoesOn ∷ GoesOn ∷ Grown 0 ∷ Refused NoSpace ∷ Accepted ∷ Accepted
    ∷ Refused NoneWaiting ∷ []))
    ∷ []

pub p1_to_p9 : map (λ r. show r.run) table ≡ map (λ r. r.shown) table
unfolding show played listing_from respond steps_of counts_of some_below count_below sum_below fresh_of begin_of step_of drop_link_of drain_of ask_of drop_ask_of who_of valid_of words_to line_step landed_all zeros word_at set_word offset_at length_at size_at when◌then◌else◌ ◌and◌ ◌or◌ gathered word_in with_word
p1_to_p9 = refl

-- the words of each kind of entry, with two payload words
pub entries :
    map (λ (a : Answer). entry_words 2 (entry_of a))
    (Finished 0 (task 9 (payload 5 6 0 0)) ∷ HandedOut 3 (task 9 (payload 5 6 0 0)) ∷ Empty 3 ∷ Full 0 (task 9 (payload 5 6 0 0)) ∷ Grown 0 ∷ [])
    ≡ (1 ∷ 0 ∷ 9 ∷ 5 ∷ 6 ∷ []) ∷ (2 ∷ 3 ∷ 9 ∷ 5 ∷ 6 ∷ []) ∷ (3 ∷ 3 ∷ 0 ∷ 0 ∷ 0 ∷ []) ∷ (4 ∷ 0 ∷ 9 ∷ 5 ∷ 6 ∷ []) ∷ (5 ∷ 0 ∷ 0 ∷ 0 ∷ 0 ∷ []) ∷ []
entries = refl
