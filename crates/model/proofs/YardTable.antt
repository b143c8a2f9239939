-- Several queues over one store, tried by computation: what makings and calls answer and where arrays come to lie; and yards at
-- each limit and past it.
use Rattle.std.specs.Prelude.{Ok, Err}
use mathlib.Core.Path.{◌≡◌, refl}
use mathlib.Core.Bool.{true, false}
use mathlib.Core.List.{List, [], ◌∷◌, ◌++◌, map}
use Prim.Native.Nat.{ℕ}
use lib.ListN.{replicate}
use Rattle.model.specs.declared.Kind.TheVariants.{Lifo}
use Rattle.model.specs.declared.Region.{Region}
use Rattle.model.specs.declared.Bench.{Bench}
use Rattle.model.specs.declared.Operation.TheVariants.{Put, Take, Steal, Commit}
use Rattle.model.specs.declared.Refusal.TheVariants.{
  UnknownQueue,
  TagWidth,
  ArraySize,
  Crew,
  ShortStore,
  NoSuchWorker,
  ForeignState,
  PayloadWords,
  NoSpace,
  ShortQuota,
  NoSuchQueue,
}
use Rattle.model.specs.declared.Answer.{Answer}
use Rattle.model.specs.declared.Answer.TheVariants.{Accepted, Numbered, GoesOn, Finished, HandedOut, Full, Grown, Refused}
use Rattle.model.specs.Tests.{when◌then◌else◌, ◌and◌, ◌or◌}
use Rattle.model.specs.Tasks.{task, word_in, with_word, gathered}
use Rattle.model.specs.Memory.{zeros, word_at, set_word, nowhere, offset_at, length_at, size_at, words_to}
use Rattle.model.specs.Figures.{anchor}
use Rattle.model.specs.Stores.{landed_all, none_pending}
use Rattle.model.specs.Lines.{line_step}
use Rattle.model.specs.World.{resting}
use Rattle.model.specs.Calls.{setup, front_of, begin, step, ask, drop_ask}
use Rattle.model.specs.Yard.{
  no_plot,
  Ground,
  bare,
  queue_at,
  total_of,
  all_below,
  sound_yard,
  make_of,
  on_of,
  whole_store,
  who_at,
  front_at,
  YardCall,
  make,
  on,
  yields,
  ground_after,
}
use Rattle.model.proofs.Runs.{one}

-- a yard without queues over a store of so many words, all 9
abbrev opened : ℕ → Ground
opened n = record { yard = bare; store = replicate n 9; logs = replicate 4 [] }

abbrev steps : ℕ → ℕ → ℕ → List YardCall
steps q i n = replicate n (on q (step i))

-- a queue with one payload word and a log of 64 words: kind, size, workers, quota
abbrev made : ℕ → ℕ → ℕ → ℕ → YardCall
made k c n quota = make (setup k 1 c n 1) quota (replicate 64 0)

-- what a list answers
abbrev answers_from : Ground → List YardCall → List Answer
answers_from G [] = []
answers_from G (c ∷ cs) = (yields G c).answer ∷ answers_from (yields G c).the_ground cs

-- the words of the arrays that a queue's directory has, and the store, after a list
abbrev pair : ℕ → ℕ → Region
pair o n = record { offset = o; length = n }

-- two LIFO queues of size 1 over 12 words, with a quota of 6 each: queue 0 grows past queue 1's first array, then is FULL by its
-- quota; queue 1 grows into the last words, and its thief reads there
abbrev two : List YardCall
two =
    made 1 1 1 6 ∷ made 1 1 2 6 ∷ on 0 (begin 0 (Put (one 7))) ∷ steps 0 0 5
    ++ on 0 (begin 0 (Put (one 8))) ∷ steps 0 0 11
    ++ on 0 (begin 0 (Put (one 9))) ∷ steps 0 0 3
    ++ on 1 (begin 0 (Put (one 5))) ∷ steps 1 0 5
    ++ on 1 (begin 0 (Put (one 6))) ∷ steps 1 0 11
    ++ on 1 (begin 1 Steal) ∷ steps 1 1 6

pub two_answers : answers_from (opened 12) two
    ≡ Accepted ∷ Accepted ∷ Numbered 1 ∷ replicate 4 GoesOn
    ++ Finished 0 (task 1 (one 7)) ∷ Numbered 2 ∷ replicate 10 GoesOn
    ++ Finished 0 (task 2 (one 8)) ∷ Numbered 3 ∷ replicate 2 GoesOn
    ++ Full 0 (task 3 (one 9)) ∷ Numbered 1 ∷ replicate 4 GoesOn
    ++ Finished 0 (task 1 (one 5)) ∷ Numbered 2 ∷ replicate 10 GoesOn
    ++ Finished 0 (task 2 (one 6)) ∷ Accepted ∷ replicate 5 GoesOn
    ++ HandedOut 1 (task 2 (one 6)) ∷ []
unfolding make_of on_of sound_yard all_below total_of words_to line_step landed_all zeros word_at set_word offset_at length_at size_at when◌then◌else◌ ◌and◌ ◌or◌ gathered word_in with_word
two_answers = refl

pub two_places : ((queue_at (ground_after (opened 12) two).yard 0).arrays ≡ pair 0 2 ∷ pair 4 4 ∷ replicate 9 nowhere)
    × ((queue_at (ground_after (opened 12) two).yard 1).arrays ≡ pair 2 2 ∷ pair 8 4 ∷ replicate 9 nowhere)
    × ((ground_after (opened 12) two).store ≡ 1 ∷ 7 ∷ 1 ∷ 5 ∷ 1 ∷ 7 ∷ 2 ∷ 8 ∷ 1 ∷ 5 ∷ 2 ∷ 6 ∷ [])
unfolding ground_after make_of on_of sound_yard all_below total_of words_to line_step landed_all zeros word_at set_word offset_at length_at size_at when◌then◌else◌ ◌and◌ ◌or◌ gathered word_in with_word
two_places = (refl, refl, refl)

-- a making zeroes its first array and no other word
pub zeroed : (ground_after (opened 9) (made 1 2 1 4 ∷ made 2 1 1 2 ∷ [])).store ≡ replicate 6 0 ++ replicate 3 9
unfolding ground_after make_of sound_yard all_below total_of words_to landed_all zeros offset_at length_at size_at when◌then◌else◌ ◌and◌ ◌or◌
zeroed = refl

-- the refusals of a making in their order; a call of a queue that there is not. 5 goes by the words left and comes before 23
pub refusals :
    answers_from (opened 12)
    (made 1 4 1 8
    ∷ make (setup 9 0 3 0 0) 0 []
    ∷ make (setup 1 0 3 0 0) 0 []
    ∷ make (setup 1 1 3 0 0) 0 []
    ∷ make (setup 1 1 4 0 0) 0 []
    ∷ make (setup 1 1 4 1 0) 0 []
    ∷ make (setup 1 1 4 1 1) 0 []
    ∷ make (setup 1 1 2 1 1) 3 []
    ∷ on 1 (step 0)
    ∷ make (setup 2 1 1 1 1) 2 []
    ∷ on 1 (step 9)
    ∷ make (setup 2 1 1 1 1) 2 []
    ∷ make (setup 1 1 1 1 1) 2 []
    ∷ [])
    ≡ Accepted ∷ Refused UnknownQueue ∷ Refused TagWidth ∷ Refused ArraySize ∷ Refused Crew ∷ Refused PayloadWords ∷ Refused ShortStore ∷ Refused ShortQuota ∷ Refused NoSuchQueue
    ∷ Accepted ∷ Refused NoSuchWorker ∷ Accepted ∷ Refused ShortStore ∷ []
unfolding make_of on_of sound_yard all_below total_of words_to line_step landed_all zeros offset_at length_at size_at when◌then◌else◌ ◌and◌ ◌or◌
refusals = refl

-- a fifth queue: 24, before 1
pub fifth :
    answers_from (opened 8) (made 1 1 1 2 ∷ made 2 1 1 2 ∷ made 3 1 1 2 ∷ made 4 1 1 2 ∷ make (setup 9 1 1 1 1) 2 [] ∷ on 3 (step 8) ∷ on 4 (step 8) ∷ [])
    ≡ Accepted ∷ Accepted ∷ Accepted ∷ Accepted ∷ Refused NoSuchQueue ∷ Refused NoSuchWorker ∷ Refused NoSuchQueue ∷ []
unfolding make_of on_of sound_yard all_below total_of words_to landed_all zeros offset_at length_at size_at when◌then◌else◌ ◌and◌ ◌or◌
fifth = refl

-- words that queue 1 has set aside: queue 0's ask is refused 20, its put is FULL, a making is refused 5; its own commit finds them
abbrev asks : List YardCall
asks =
    made 1 1 1 8 ∷ made 1 1 1 8 ∷ on 1 (ask 0) ∷ on 0 (ask 0) ∷ on 0 (begin 0 (Put (one 7))) ∷ steps 0 0 5
    ++ on 0 (begin 0 (Put (one 8))) ∷ steps 0 0 3
    ++ made 1 1 1 8 ∷ on 1 (drop_ask 0) ∷ on 0 (ask 0) ∷ on 1 (ask 0) ∷ on 0 (begin 0 Commit) ∷ steps 0 0 4

pub asks_answers : answers_from (opened 8) asks
    ≡ Accepted ∷ Accepted ∷ Accepted ∷ Refused NoSpace ∷ Numbered 1 ∷ replicate 4 GoesOn
    ++ Finished 0 (task 1 (one 7)) ∷ Numbered 2 ∷ replicate 2 GoesOn
    ++ Full 0 (task 2 (one 8)) ∷ Refused ShortStore ∷ Accepted ∷ Accepted ∷ Refused NoSpace ∷ Accepted ∷ replicate 3 GoesOn
    ++ Grown 0 ∷ []
unfolding make_of on_of sound_yard all_below total_of words_to line_step landed_all zeros word_at set_word offset_at length_at size_at when◌then◌else◌ ◌and◌ ◌or◌ gathered word_in with_word
asks_answers = refl

-- only 10,235 words are ever used; without a quota named the whole store is it
pub largest :
    answers_from (opened 10300)
    (make (setup 1 1 1024 1 4) (whole_store (replicate 10300 9)) [] ∷ make (setup 1 1 1024 1 4) 10300 [] ∷ make (setup 1 1 512 1 4) 2559 [] ∷ make (setup 1 1 512 1 4) 2560 [] ∷ [])
    ≡ Accepted ∷ Refused ShortStore ∷ Refused ShortQuota ∷ Accepted ∷ []
unfolding make_of on_of sound_yard all_below total_of words_to landed_all zeros offset_at length_at size_at when◌then◌else◌ ◌and◌ ◌or◌
largest = refl

-- who and front: 24 of a queue that is not made, where front has nothing
pub beside :
    let G = ground_after (opened 2) (made 1 1 1 2 ∷ on 0 (begin 0 Take) ∷ steps 0 0 2) in
    (who_at G 0 0 ≡ Ok 0) × (who_at G 0 1 ≡ Err NoSuchWorker) × (who_at G 1 0 ≡ Err NoSuchQueue) × (front_at G 0 ≡ 3 ∷ 0 ∷ 0 ∷ 0 ∷ []) × (front_at G 1 ≡ [])
unfolding ground_after make_of on_of who_at front_at front_of sound_yard all_below total_of words_to line_step landed_all zeros offset_at length_at size_at when◌then◌else◌ ◌and◌ ◌or◌
beside = (refl, refl, refl, refl, refl)

-- LIMITS. Two idle queues with these directories, and n words set aside by the first, with these quotas over a store of s words
abbrev idle : List Region → ℕ → ℕ → Bench
idle d k n =
    record {
      kind = Lifo;
      width = 1;
      words = 1;
      delayed = false;
      crew = 1;
      queue =
          record {
            linked = false;
            anchor = anchor 0 0 0;
            arrays = d ++ replicate 9 nowhere;
            published = k;
            claimed = k;
            initial = 1;
            links = replicate 8 false;
          };
      waiting = record { stores = replicate 8 none_pending; count = 0 };
      aside = n;
      used = 0;
      restarts = replicate 8 0;
      written = 0;
      workers = replicate 8 resting;
    }

abbrev both : ℕ → List Region → ℕ → ℕ → ℕ → List Region → ℕ → ℕ → ℕ → Ground
both c d k n x e j y s =
    record {
      yard =
          record {
            plots = record { bench = idle d k n; quota = x } ∷ record { bench = idle e j 0; quota = y } ∷ no_plot ∷ no_plot ∷ [];
            made = c;
          };
      store = replicate s 0;
      logs = replicate 4 [];
    }

abbrev grown : List Region
grown = pair 0 2 ∷ pair 4 4 ∷ []

abbrev small : List Region
small = pair 2 2 ∷ nowhere ∷ []

abbrev within : List Ground
within =
    -- interleaved arrays, quotas and store exactly met; in the other order
    both 2 grown 2 0 6 small 1 2 8
    ∷ both 2 small 1 0 2 grown 2 6 8
    -- words set aside, quota and store exactly met
    ∷ both 2 grown 2 8 14 small 1 2 16
    -- places that no queue has are not looked at
    ∷ both 1 (pair 0 2 ∷ pair 2 4 ∷ []) 2 0 6 (pair 0 2 ∷ nowhere ∷ []) 1 0 6
    ∷ both 0 grown 2 0 0 small 1 0 0
    ∷ []

abbrev foreign : List Ground
foreign =
    -- an array over another queue's, in either order, and one over the last
    both 2 (pair 0 2 ∷ pair 3 4 ∷ []) 2 0 6 small 1 2 8
    ∷ both 2 small 1 0 2 (pair 0 2 ∷ pair 3 4 ∷ []) 2 6 8
    ∷ both 2 (pair 0 2 ∷ pair 2 4 ∷ []) 2 0 6 (pair 5 2 ∷ nowhere ∷ []) 1 2 8
    -- a gap: below the last array, between two, at the start
    ∷ both 2 (pair 0 2 ∷ pair 5 4 ∷ []) 2 0 6 small 1 2 9
    ∷ both 2 (pair 0 2 ∷ pair 2 4 ∷ []) 2 0 6 (pair 7 2 ∷ nowhere ∷ []) 1 2 9
    ∷ both 2 (pair 1 2 ∷ pair 5 4 ∷ []) 2 0 6 (pair 3 2 ∷ nowhere ∷ []) 1 2 9
    -- over a quota, the first queue's or the second's; with words set aside
    ∷ both 2 grown 2 0 5 small 1 2 8
    ∷ both 2 grown 2 0 6 small 1 1 8
    ∷ both 2 grown 2 8 13 small 1 2 16
    -- over the store; with words set aside
    ∷ both 2 grown 2 0 6 small 1 2 7
    ∷ both 2 grown 2 8 14 small 1 2 15
    -- a queue's own limits: its arrays out of order, words set aside that no ask would
    ∷ both 2 (pair 4 2 ∷ pair 0 4 ∷ []) 2 0 6 (pair 6 2 ∷ nowhere ∷ []) 1 2 8
    ∷ both 2 grown 2 7 14 small 1 2 16
    -- more than four queues
    ∷ both 5 grown 2 0 6 small 1 2 8
    ∷ []

pub yard_limits : map sound_yard (within ++ foreign) ≡ map (λ G. true) within ++ map (λ G. false) foreign
unfolding sound_yard all_below total_of words_to landed_all offset_at length_at size_at when◌then◌else◌ ◌and◌ ◌or◌
yard_limits = refl

-- 12 before 24 and all others; only the log of the queue that is called is tested
pub first_of_all :
    let G = both 2 grown 2 0 5 small 1 2 8 in
    (answers_from G (make (setup 9 1 1 1 1) 2 [] ∷ on 7 (step 0) ∷ on 0 (step 0) ∷ []) ≡ replicate 3 (Refused ForeignState)) × (who_at G 7 0 ≡ Err ForeignState)
unfolding make_of on_of who_at sound_yard all_below total_of words_to landed_all offset_at length_at size_at when◌then◌else◌ ◌and◌ ◌or◌
first_of_all = (refl, refl)
