-- Each state limit from both sides: a state at the limit is admitted, one past it is foreign.
use mathlib.Core.Path.{◌≡◌, refl}
use mathlib.Core.Bool.{Bool, true, false}
use mathlib.Core.List.{List, [], ◌∷◌, ◌++◌, map}
use Prim.Native.Nat.{ℕ, ◌-◌, ◌*◌, ◌/◌}
use lib.ListN.{length, replicate}
use Rattle.model.specs.declared.Kind.{Kind}
use Rattle.model.specs.declared.Kind.TheVariants.{Lifo, Fifo, Deque}
use Rattle.model.specs.declared.Anchor.{Anchor}
use Rattle.model.specs.declared.Growth.TheVariants.{ForPut, ForCommit}
use Rattle.model.specs.declared.Line.{Line}
use Rattle.model.specs.declared.Line.TheVariants.{
  Idle,
  PutRead,
  PutTail,
  PutTest,
  PutWord,
  PutFinish,
  Claim,
  Note,
  Copy,
  Publish,
  TakeRead,
  TakeTail,
  TakeTest,
  TakeWord,
  TakeFinish,
  StealRead,
  StealTail,
  StealTest,
  StealNote,
  StealWord,
  StealNext,
  StealCompare,
}
use Rattle.model.specs.declared.Store.{Store}
use Rattle.model.specs.declared.Store.TheVariants.{StoreWord, StoreNote, StorePut, StoreOut, StoreHead, StoreTail}
use Rattle.model.specs.declared.Waiting.{Waiting}
use Rattle.model.specs.declared.Region.{Region}
use Rattle.model.specs.declared.Queue.{Queue}
use Rattle.model.specs.declared.Worker.{Worker}
use Rattle.model.specs.Tests.{when◌then◌else◌, ◌and◌, ◌or◌}
use Rattle.model.specs.Memory.{nowhere, set_word, offset_at, length_at, size_at, words_to}
use Rattle.model.specs.Tasks.{task, payload, no_task, word_in, gathered}
use Rattle.model.specs.Figures.{anchor}
use Rattle.model.specs.Stores.{none_pending, landed_all}
use Rattle.model.specs.World.{World, resting}
use Rattle.model.specs.Limits.{valid_of}
use Rattle.model.proofs.Runs.{one}

abbrev pair : ℕ → ℕ → Region
pair o n = record { offset = o; length = n }

-- workers 0 to 2 at these lines; the others idle
abbrev at : Line → Line → Line → List Worker
at o t u = record { line = o } ∷ record { line = t } ∷ record { line = u } ∷ replicate 5 resting

-- a queue without links: the anchor, the directory with its published and claimed pairs, and the size that is kept
abbrev plain : ℕ → Anchor → List Region → ℕ → ℕ → Queue
plain z a d p c =
    record { linked = false; anchor = a; arrays = d; published = p; claimed = c; initial = z; links = replicate 8 false }

-- so many stores wait
abbrev line : ℕ → List Store → Waiting
line n s = record { stores = s ++ replicate (8 - length s) none_pending; count = n }

-- all that the limits look at: the mode, the waiting line, the words set aside, payload words, kind, tag width, crew, the queue, the
-- numbers used, the log's length, the workers, and the lengths of store and log
abbrev state_with : Bool → Waiting → ℕ → ℕ → Kind → ℕ → ℕ → Queue → ℕ → ℕ → List Worker → ℕ → ℕ → World
state_with d s a v κ w n q u e l ms ls =
    record {
      bench =
          record {
            kind = κ;
            width = w;
            words = v;
            delayed = d;
            crew = n;
            queue = q;
            waiting = s;
            aside = a;
            used = u;
            restarts = replicate 8 0;
            written = e;
            workers = l;
          };
      store = replicate ms 0;
      log = replicate ls 0;
    }

abbrev state_of : ℕ → Kind → ℕ → ℕ → Queue → ℕ → ℕ → List Worker → ℕ → ℕ → World
state_of v κ w n q u e l ms ls = state_with false (line 0 []) 0 v κ w n q u e l ms ls

-- one payload word, and the size that is kept is the first array's
abbrev state : Kind → ℕ → ℕ → Anchor → List Region → ℕ → ℕ → ℕ → ℕ → List Worker → ℕ → ℕ → World
state κ w n a d p c u e l ms ls = state_of 1 κ w n (plain (length_at d 0 / 2) a d p c) u e l ms ls

-- v payload words and z as the size that is kept, the arrays d, all published, the owner and a thief at these lines
abbrev wide : ℕ → ℕ → List Region → ℕ → Line → Line → ℕ → World
wide v z d p o t ms = state_of v Lifo 2 2 (plain z (anchor 0 0 0) d p p) 9 0 (at o t Idle) ms 8

-- arrays of 2 and 4 tasks of three payload words, of 1 and 2 tasks of four
abbrev threes : List Region
threes = pair 0 8 ∷ pair 8 16 ∷ replicate 9 nowhere

abbrev fours : List Region
fours = pair 0 5 ∷ pair 5 10 ∷ replicate 9 nowhere

-- arrays of 2 and 4 tasks, in 12 words
abbrev two : List Region
two = pair 0 4 ∷ pair 4 8 ∷ replicate 9 nowhere

-- arrays of every size, 1 to 1,024 tasks
abbrev eleven : List Region
eleven =
    pair 0 2 ∷ pair 2 4 ∷ pair 6 8 ∷ pair 14 16 ∷ pair 30 32 ∷ pair 62 64 ∷ pair 126 128 ∷ pair 254 256 ∷ pair 510 512
    ∷ pair 1022 1024 ∷ pair 2046 2048 ∷ []

-- both published, the workers at these lines, a crew of 2
abbrev busy : Kind → Anchor → Line → Line → World
busy κ a o t = state κ 2 2 a two 2 2 9 0 (at o t Idle) 12 8

-- the second one claimed and not yet published
abbrev growing : Kind → Anchor → Line → World
growing κ a o = state κ 2 2 a two 1 2 9 0 (at o Idle Idle) 12 8

-- worker 7 at this line, in a crew of n
abbrev last : ℕ → Line → World
last n l = state Lifo 2 n (anchor 0 0 0) two 2 2 9 0 (replicate 7 resting ++ record { line = l } ∷ []) 12 8

-- links: of a linked queue or not, worker 0's, worker 1's and worker 7's
abbrev marked : Kind → Bool → Anchor → Bool → Bool → Bool → Line → Line → World
marked κ x a y z e o t =
    state_of 1 κ 2 2
    (record {
      linked = x;
      anchor = a;
      arrays = two;
      published = 2;
      claimed = 2;
      initial = 2;
      links = y ∷ z ∷ replicate 5 false ++ e ∷ [];
    })
    9 0 (at o t Idle) 12 8

abbrev holding : Kind → Bool → Anchor → Bool → Bool → Line → Line → World
holding κ x a y z o t = marked κ x a y z false o t

-- stores that wait; in memory p of the two claimed arrays are published
abbrev delayed : Kind → Anchor → ℕ → List Store → Line → Line → World
delayed κ a p s o t = state_with true (line (length s) s) 0 1 κ 2 2 (plain 2 a two p 2) 9 0 (at o t Idle) 12 8

-- n words set aside, with one array of z tasks published and perhaps a second one claimed, and ms words of store
abbrev asking : ℕ → ℕ → ℕ → ℕ → Line → World
asking n z c ms o =
    state_with false (line 0 []) n 1 Lifo 2 2 (plain z (anchor 0 0 0) (pair 0 (2 * z) ∷ pair (2 * z) (4 * z) ∷ replicate 9 nowhere) 1 c) 9 0
    (at o Idle Idle) ms 8

-- fresh's ranges, the directory, the log's length, the anchor, put numbers, workers outside the crew
abbrev still : Kind → ℕ → ℕ → Anchor → ℕ → ℕ → World
still κ w n a u e = state κ w n a two 2 2 u e (at Idle Idle Idle) 12 8

abbrev directory : List Region → ℕ → ℕ → ℕ → World
directory d p c ms = state Lifo 2 2 (anchor 0 0 0) d p c 9 0 (at Idle Idle Idle) ms 8

abbrev admitted : List World
admitted =
    -- fresh's ranges: width 1 to 16, workers 1 to 8
    still Lifo 1 1 (anchor 0 0 1) 0 0
    ∷ still Lifo 16 8 (anchor 0 0 65535) 0 0
    -- the directory: from offset 0, end to end, each twice the one before, sizes to 1,024, fitting the store
    ∷ directory (pair 0 2 ∷ replicate 10 nowhere) 1 1 2
    ∷ directory (pair 0 2048 ∷ replicate 10 nowhere) 1 1 2048
    ∷ directory two 2 2 12
    ∷ directory (pair 0 1024 ∷ pair 1024 2048 ∷ replicate 9 nowhere) 2 2 3072
    ∷ directory eleven 11 11 4094
    -- pairs past the claimed ones are not looked at
    ∷ directory two 1 1 4
    -- log length within the slice
    ∷ still Lifo 2 2 (anchor 0 0 0) 9 8
    -- tag below 2^w; t at most the size; head at most tail, tail-head at most the size, tail at most 65,535; h below 2,048
    ∷ still Lifo 2 2 (anchor 0 4 3) 9 0
    ∷ still Fifo 2 2 (anchor 65531 65535 0) 9 0
    ∷ still Deque 2 2 (anchor 2047 4 3) 9 0
    -- put numbers at most 65,535
    ∷ still Lifo 2 2 (anchor 0 0 0) 65535 0
    -- the owner at a line of put or take
    ∷ busy Lifo (anchor 0 0 0) (PutRead (task 65535 (one 7))) Idle
    ∷ busy Fifo (anchor 0 0 0) (PutTail (task 1 (one 7)) 65535) Idle
    ∷ busy Lifo (anchor 0 0 0) (PutTest (task 1 (one 7)) (anchor 0 4 3)) Idle
    ∷ busy Lifo (anchor 0 0 0) (PutWord (task 1 (one 7)) (anchor 0 3 3) 0) Idle
    ∷ busy Fifo (anchor 0 0 0) (PutWord (task 1 (one 7)) (anchor 0 65534 0) 1) Idle
    ∷ busy Deque (anchor 0 0 0) (PutFinish (task 1 (one 7)) (anchor 2047 3 3)) Idle
    ∷ busy Lifo (anchor 0 0 0) (Claim (ForPut (task 1 (one 7)))) Idle
    ∷ busy Fifo (anchor 0 0 0) (TakeTail 65535) Idle
    ∷ busy Fifo (anchor 0 0 0) (TakeTest (anchor 0 65535 0)) Idle
    ∷ busy Lifo (anchor 0 0 0) (TakeWord (anchor 0 1 0) no_task 0) Idle
    ∷ busy Deque (anchor 0 0 0) (TakeWord (anchor 0 1 0) (task 65535 (one 0)) 1) Idle
    ∷ busy Lifo (anchor 0 0 0) (TakeFinish (anchor 0 4 0) (task 65535 (one 7))) Idle
    -- the last word of a task of one payload word; a take that has read its number
    ∷ busy Lifo (anchor 0 0 0) (PutWord (task 1 (one 7)) (anchor 0 0 0) 1) Idle
    ∷ busy Lifo (anchor 0 0 0) (TakeWord (anchor 0 1 0) (task 1 (one 0)) 1) Idle
    -- X2 to X4: exactly then an array is claimed and unpublished; what is noted is at most the old size
    ∷ growing Lifo (anchor 0 0 0) (Note (ForPut (task 1 (one 7))))
    ∷ growing Lifo (anchor 0 0 0) (Copy (ForPut (task 1 (one 7))) 0 2 1)
    ∷ growing Fifo (anchor 0 0 0) (Copy (ForPut (task 1 (one 7))) 65533 2 1)
    ∷ growing Deque (anchor 0 0 0) (Copy (ForPut (task 1 (one 7))) 2047 2 1)
    ∷ growing Lifo (anchor 0 0 0) (Publish (ForPut (task 1 (one 7))))
    -- a thief at a line of steal; noted arrays and slots exist
    ∷ busy Fifo (anchor 0 0 0) Idle (StealTail 65535)
    ∷ busy Fifo (anchor 0 0 0) Idle (StealTest (anchor 0 65535 0))
    ∷ busy Lifo (anchor 0 0 0) Idle (StealNote (anchor 0 1 0))
    ∷ busy Lifo (anchor 0 0 0) Idle (StealWord (anchor 0 2 0) 0 no_task 0)
    ∷ busy Lifo (anchor 0 0 0) Idle (StealWord (anchor 0 4 0) 1 no_task 0)
    ∷ busy Deque (anchor 0 0 0) Idle (StealWord (anchor 2047 4 0) 0 (task 65535 (one 0)) 1)
    ∷ busy Deque (anchor 0 0 0) Idle (StealNext (anchor 0 1 0) (task 65535 (one 7)))
    ∷ busy Deque (anchor 0 0 0) Idle (StealCompare (anchor 0 1 0) 2047 (task 65535 (one 7)))
    -- the last of eight workers too
    ∷ last 8 StealRead
    ∷ last 7 Idle
    -- payload words 1 to 4; an array of n tasks of v payload words takes n(v+1) words
    ∷ wide 1 2 two 2 Idle Idle 12
    ∷ wide 2 1 (pair 0 3 ∷ replicate 10 nowhere) 1 Idle Idle 3
    ∷ wide 3 2 threes 2 Idle Idle 24
    ∷ wide 4 1 fours 2 Idle Idle 15
    ∷ wide 4 1024 (pair 0 5120 ∷ replicate 10 nowhere) 1 Idle Idle 5120
    -- each word of a task, up to the last
    ∷ wide 3 2 threes 2 (PutWord (task 1 (payload 7 8 9 0)) (anchor 0 0 0) 3) Idle 24
    ∷ wide 4 1 fours 2 (TakeWord (anchor 0 1 0) (task 1 (payload 7 8 9 0)) 4) Idle 15
    ∷ wide 4 1 fours 2 Idle (StealWord (anchor 0 1 0) 0 (task 1 (payload 7 8 9 0)) 4) 15
    ∷ wide 4 1 fours 2 Idle (StealCompare (anchor 0 1 0) 0 (task 1 (payload 7 8 9 6))) 15
    -- a link held by a thief past line 1, with the anchor as it read it; none held there
    ∷ holding Lifo true (anchor 0 2 0) false true Idle (StealTest (anchor 0 2 0))
    ∷ holding Deque true (anchor 5 2 0) false true Idle (StealCompare (anchor 5 2 0) 6 (task 1 (one 7)))
    ∷ holding Lifo true (anchor 0 1 0) false false Idle (StealTest (anchor 0 2 0))
    -- eight stores wait; each at the edge of its limit: words of an array, a note, an anchor in the array that the owner reads
    ∷ delayed Lifo (anchor 0 0 0) 2 (replicate 7 (StoreWord 1 3 0 65535) ++ StoreWord 0 1 1 4294967295 ∷ []) Idle Idle
    ∷ delayed Lifo (anchor 0 2 0) 1 (StoreNote 1 ∷ StorePut (anchor 0 4 3) ∷ []) Idle Idle
    ∷ delayed Deque (anchor 0 2 0) 1 (StoreNote 1 ∷ StoreOut (anchor 2047 4 3) ∷ []) Idle Idle
    ∷ delayed Fifo (anchor 0 2 0) 1 (StoreNote 1 ∷ StoreTail 3 ∷ StoreTail 4 ∷ StoreHead 4 ∷ []) Idle Idle
    -- what the owner read is limited by the array that it reads: an array whose note waits counts as published
    ∷ delayed Lifo (anchor 0 2 0) 1 (StoreNote 1 ∷ []) (PutTest (task 1 (one 7)) (anchor 0 4 0)) (StealTest (anchor 0 2 0))
    ∷ delayed Lifo (anchor 0 0 0) 1 [] (Note (ForPut (task 1 (one 7)))) Idle
    -- without the mode none waits
    ∷ state_with false (line 0 []) 0 1 Lifo 2 2 (plain 2 (anchor 0 0 0) two 2 2) 9 0 (at Idle Idle Idle) 12 8
    -- words set aside: what an ask would set aside, just fitting; at a commit's X1, at a put's; none at X2 of a commit
    ∷ asking 8 2 1 12 Idle
    ∷ asking 2048 512 1 3072 Idle
    ∷ asking 8 2 1 12 (Claim ForCommit)
    ∷ asking 8 2 1 12 (Claim (ForPut (task 1 (one 7))))
    ∷ asking 0 2 1 12 (Claim (ForPut (task 1 (one 7))))
    ∷ asking 0 2 2 12 (Note ForCommit)
    ∷ asking 0 2 2 12 (Copy ForCommit 0 2 1)
    ∷ asking 0 2 2 12 (Publish ForCommit)
    ∷ []

abbrev foreign : List World
foreign =
    still Lifo 0 1 (anchor 0 0 0) 0 0
    ∷ still Lifo 17 1 (anchor 0 0 0) 0 0
    ∷ still Lifo 1 0 (anchor 0 0 0) 0 0
    ∷ still Lifo 1 9 (anchor 0 0 0) 0 0
    -- no array; not from offset 0, once with an array behind; a gap; an overlap; not twice; an odd length; no slots; no power of two;
    -- above 1,024; short of words
    ∷ directory two 0 0 12
    ∷ directory (pair 1 2 ∷ replicate 10 nowhere) 1 1 12
    ∷ directory (pair 1 4 ∷ pair 5 8 ∷ replicate 9 nowhere) 2 2 16
    ∷ directory (pair 0 4 ∷ pair 5 8 ∷ replicate 9 nowhere) 2 2 16
    ∷ directory (pair 0 4 ∷ pair 3 8 ∷ replicate 9 nowhere) 2 2 16
    ∷ directory (pair 0 4 ∷ pair 4 4 ∷ replicate 9 nowhere) 2 2 16
    ∷ directory (pair 0 5 ∷ replicate 10 nowhere) 1 1 12
    ∷ directory (replicate 11 nowhere) 1 1 12
    ∷ directory (pair 0 6 ∷ replicate 10 nowhere) 1 1 12
    ∷ directory (pair 0 4096 ∷ replicate 10 nowhere) 1 1 4096
    ∷ directory (pair 0 2048 ∷ pair 2048 4096 ∷ replicate 9 nowhere) 2 2 6144
    ∷ directory two 2 2 11
    ∷ directory two 3 3 12
    -- a claimed array with the owner not at X2 to X4, none with it there
    ∷ directory two 1 2 12
    ∷ busy Lifo (anchor 0 0 0) (Note (ForPut (task 1 (one 7)))) Idle
    ∷ busy Lifo (anchor 0 0 0) (Publish (ForPut (task 1 (one 7)))) Idle
    ∷ growing Lifo (anchor 0 0 0) (Claim (ForPut (task 1 (one 7))))
    ∷ still Lifo 2 2 (anchor 0 0 0) 9 9
    -- the anchor
    ∷ still Lifo 2 2 (anchor 0 0 4) 9 0
    ∷ still Lifo 2 2 (anchor 0 5 0) 9 0
    ∷ still Lifo 2 2 (anchor 1 0 0) 9 0
    ∷ still Fifo 2 2 (anchor 2 1 0) 9 0
    ∷ still Fifo 2 2 (anchor 0 5 0) 9 0
    ∷ still Fifo 2 2 (anchor 65535 65536 0) 9 0
    ∷ still Fifo 2 2 (anchor 0 0 1) 9 0
    ∷ still Deque 2 2 (anchor 2048 0 0) 9 0
    ∷ still Deque 2 2 (anchor 0 5 0) 9 0
    ∷ still Deque 2 2 (anchor 0 0 4) 9 0
    ∷ still Lifo 2 2 (anchor 0 0 0) 65536 0
    -- a line of the other's operation, or of another kind; a worker outside the crew not idle
    ∷ busy Lifo (anchor 0 0 0) StealRead Idle
    ∷ busy Lifo (anchor 0 0 0) Idle TakeRead
    ∷ busy Lifo (anchor 0 0 0) Idle (PutRead (task 1 (one 7)))
    ∷ busy Lifo (anchor 0 0 0) (PutTail (task 1 (one 7)) 0) Idle
    ∷ busy Deque (anchor 0 0 0) (TakeTail 0) Idle
    ∷ busy Deque (anchor 0 0 0) Idle (StealTail 0)
    ∷ busy Lifo (anchor 0 0 0) Idle (StealNext (anchor 0 1 0) (task 1 (one 7)))
    ∷ busy Fifo (anchor 0 0 0) Idle (StealNext (anchor 0 1 0) (task 1 (one 7)))
    ∷ state Lifo 2 2 (anchor 0 0 0) two 2 2 9 0 (at Idle Idle StealRead) 12 8
    ∷ last 7 StealRead
    ∷ last 8 TakeRead
    -- values out of these ranges
    ∷ busy Lifo (anchor 0 0 0) (PutRead (task 65536 (one 7))) Idle
    ∷ busy Fifo (anchor 0 0 0) (PutTail (task 1 (one 7)) 65536) Idle
    ∷ busy Lifo (anchor 0 0 0) (PutTest (task 1 (one 7)) (anchor 0 5 0)) Idle
    ∷ busy Lifo (anchor 0 0 0) (PutTest (task 1 (one 7)) (anchor 0 0 4)) Idle
    ∷ busy Lifo (anchor 0 0 0) (PutWord (task 1 (one 7)) (anchor 0 4 0) 0) Idle
    ∷ busy Fifo (anchor 0 0 0) (PutWord (task 1 (one 7)) (anchor 0 65535 0) 0) Idle
    ∷ busy Deque (anchor 0 0 0) (PutFinish (task 1 (one 7)) (anchor 0 4 0)) Idle
    ∷ busy Fifo (anchor 0 0 0) (TakeTest (anchor 2 1 0)) Idle
    ∷ busy Lifo (anchor 0 0 0) (TakeWord (anchor 0 0 0) no_task 0) Idle
    ∷ busy Deque (anchor 0 0 0) (TakeWord (anchor 0 0 0) (task 1 (one 0)) 1) Idle
    ∷ busy Lifo (anchor 0 0 0) (TakeWord (anchor 0 1 0) (task 65536 (one 0)) 1) Idle
    ∷ busy Lifo (anchor 0 0 0) (TakeFinish (anchor 0 1 0) (task 65536 (one 7))) Idle
    ∷ growing Lifo (anchor 0 0 0) (Copy (ForPut (task 1 (one 7))) 1 1 0)
    ∷ growing Lifo (anchor 0 0 0) (Copy (ForPut (task 1 (one 7))) 0 3 1)
    ∷ growing Lifo (anchor 0 0 0) (Copy (ForPut (task 1 (one 7))) 0 2 2)
    ∷ growing Fifo (anchor 0 0 0) (Copy (ForPut (task 1 (one 7))) 65534 2 1)
    ∷ growing Deque (anchor 0 0 0) (Copy (ForPut (task 1 (one 7))) 2048 2 1)
    ∷ busy Lifo (anchor 0 0 0) Idle (StealNote (anchor 0 0 0))
    ∷ busy Lifo (anchor 0 0 0) Idle (StealWord (anchor 0 1 0) 2 no_task 0)
    ∷ busy Lifo (anchor 0 0 0) Idle (StealWord (anchor 0 3 0) 0 no_task 0)
    ∷ busy Deque (anchor 0 0 0) Idle (StealWord (anchor 0 1 0) 0 (task 65536 (one 0)) 1)
    ∷ busy Deque (anchor 0 0 0) Idle (StealCompare (anchor 0 1 0) 2048 (task 1 (one 7)))
    ∷ busy Lifo (anchor 0 0 0) Idle (StealCompare (anchor 0 1 0) 1 (task 1 (one 7)))
    ∷ busy Lifo (anchor 0 0 0) Idle (StealCompare (anchor 0 0 0) 0 (task 1 (one 7)))
    -- each of these in each line that has it: the put number, of the put and as it was read
    ∷ busy Fifo (anchor 0 0 0) (PutTail (task 65536 (one 7)) 0) Idle
    ∷ busy Lifo (anchor 0 0 0) (PutTest (task 65536 (one 7)) (anchor 0 0 0)) Idle
    ∷ busy Lifo (anchor 0 0 0) (PutWord (task 65536 (one 7)) (anchor 0 0 0) 0) Idle
    ∷ busy Lifo (anchor 0 0 0) (PutWord (task 65536 (one 7)) (anchor 0 0 0) 1) Idle
    ∷ busy Lifo (anchor 0 0 0) (PutFinish (task 65536 (one 7)) (anchor 0 0 0)) Idle
    ∷ busy Lifo (anchor 0 0 0) (Claim (ForPut (task 65536 (one 7)))) Idle
    ∷ growing Lifo (anchor 0 0 0) (Note (ForPut (task 65536 (one 7))))
    ∷ growing Lifo (anchor 0 0 0) (Copy (ForPut (task 65536 (one 7))) 0 2 1)
    ∷ growing Lifo (anchor 0 0 0) (Publish (ForPut (task 65536 (one 7))))
    ∷ busy Deque (anchor 0 0 0) Idle (StealNext (anchor 0 1 0) (task 65536 (one 7)))
    ∷ busy Lifo (anchor 0 0 0) Idle (StealCompare (anchor 0 1 0) 0 (task 65536 (one 7)))
    -- the anchor read: here its tag is 2^w
    ∷ busy Lifo (anchor 0 0 0) (PutWord (task 1 (one 7)) (anchor 0 0 4) 0) Idle
    ∷ busy Lifo (anchor 0 0 0) (PutWord (task 1 (one 7)) (anchor 0 0 4) 1) Idle
    ∷ busy Lifo (anchor 0 0 0) (PutFinish (task 1 (one 7)) (anchor 0 0 4)) Idle
    ∷ busy Lifo (anchor 0 0 0) (TakeWord (anchor 0 1 4) no_task 0) Idle
    ∷ busy Lifo (anchor 0 0 0) (TakeWord (anchor 0 1 4) (task 1 (one 0)) 1) Idle
    ∷ busy Lifo (anchor 0 0 0) (TakeFinish (anchor 0 1 4) (task 1 (one 7))) Idle
    ∷ busy Lifo (anchor 0 0 0) Idle (StealTest (anchor 0 1 4))
    ∷ busy Lifo (anchor 0 0 0) Idle (StealNote (anchor 0 1 4))
    ∷ busy Lifo (anchor 0 0 0) Idle (StealWord (anchor 0 1 4) 0 no_task 0)
    ∷ busy Lifo (anchor 0 0 0) Idle (StealWord (anchor 0 1 4) 0 (task 1 (one 0)) 1)
    ∷ busy Deque (anchor 0 0 0) Idle (StealNext (anchor 0 1 4) (task 1 (one 7)))
    ∷ busy Lifo (anchor 0 0 0) Idle (StealCompare (anchor 0 1 4) 0 (task 1 (one 7)))
    -- t below the size past a put's test, at least 1 past a test for EMPTY
    ∷ busy Lifo (anchor 0 0 0) (PutWord (task 1 (one 7)) (anchor 0 4 0) 1) Idle
    ∷ busy Lifo (anchor 0 0 0) (TakeFinish (anchor 0 0 0) (task 1 (one 7))) Idle
    ∷ busy Lifo (anchor 0 0 0) Idle (StealWord (anchor 0 0 0) 0 no_task 0)
    ∷ busy Lifo (anchor 0 0 0) Idle (StealWord (anchor 0 0 0) 0 (task 1 (one 0)) 1)
    ∷ busy Deque (anchor 0 0 0) Idle (StealNext (anchor 0 0 0) (task 1 (one 7)))
    -- the noted array, once claimed and not yet published; the slot in it; an h2 that is not figure 3's
    ∷ busy Deque (anchor 0 0 0) Idle (StealWord (anchor 0 1 0) 2 no_task 0)
    ∷ state Deque 2 2 (anchor 0 0 0) two 1 2 9 0 (at (Note (ForPut (task 1 (one 7)))) (StealWord (anchor 0 1 0) 1 no_task 0) Idle) 12 8
    ∷ busy Lifo (anchor 0 0 0) Idle (StealWord (anchor 0 3 0) 0 (task 1 (one 0)) 1)
    ∷ busy Fifo (anchor 0 0 0) Idle (StealCompare (anchor 0 1 0) 1 (task 1 (one 7)))
    -- a word past the task's; words that a task has not or that are not read yet
    ∷ busy Lifo (anchor 0 0 0) (PutWord (task 1 (one 7)) (anchor 0 0 0) 2) Idle
    ∷ busy Lifo (anchor 0 0 0) (TakeWord (anchor 0 1 0) (task 1 (one 7)) 2) Idle
    ∷ busy Lifo (anchor 0 0 0) (PutRead (task 1 (payload 7 1 0 0))) Idle
    ∷ busy Lifo (anchor 0 0 0) (TakeWord (anchor 0 1 0) (task 1 (one 0)) 0) Idle
    ∷ busy Lifo (anchor 0 0 0) (TakeWord (anchor 0 1 0) (task 1 (one 7)) 1) Idle
    ∷ busy Lifo (anchor 0 0 0) Idle (StealWord (anchor 0 1 0) 0 (task 0 (payload 0 0 0 1)) 1)
    -- payload words 0 and 5; lengths that are of another width; another size kept than the first array's; a word short
    ∷ wide 0 1 (pair 0 1 ∷ replicate 10 nowhere) 1 Idle Idle 12
    ∷ wide 5 1 (pair 0 6 ∷ replicate 10 nowhere) 1 Idle Idle 12
    ∷ wide 2 2 two 2 Idle Idle 12
    ∷ wide 3 1 two 2 Idle Idle 11
    ∷ wide 1 4 threes 2 Idle Idle 23
    ∷ wide 3 1 threes 2 Idle Idle 24
    ∷ wide 3 4 threes 2 Idle Idle 24
    ∷ wide 4 1 (pair 0 5 ∷ pair 5 8 ∷ replicate 9 nowhere) 2 Idle Idle 15
    ∷ wide 4 1 fours 2 Idle Idle 14
    -- the word past the last; words past the width; words not read yet
    ∷ wide 3 2 threes 2 (PutWord (task 1 (payload 7 8 9 0)) (anchor 0 0 0) 4) Idle 24
    ∷ wide 4 1 fours 2 (TakeWord (anchor 0 1 0) (task 1 (payload 7 8 9 6)) 5) Idle 15
    ∷ wide 4 1 fours 2 Idle (StealWord (anchor 0 1 0) 0 (task 1 (payload 7 8 9 6)) 5) 15
    ∷ wide 3 2 threes 2 (PutRead (task 1 (payload 7 8 9 6))) Idle 24
    ∷ wide 3 2 threes 2 (TakeFinish (anchor 0 1 0) (task 1 (payload 7 8 9 6))) Idle 24
    ∷ wide 3 2 threes 2 Idle (StealCompare (anchor 0 1 0) 0 (task 1 (payload 7 8 9 6))) 24
    ∷ wide 4 1 fours 2 (TakeWord (anchor 0 1 0) (task 1 (payload 7 8 9 0)) 3) Idle 15
    ∷ wide 4 1 fours 2 Idle (StealWord (anchor 0 1 0) 0 (task 1 (payload 7 8 9 6)) 4) 15
    -- a link held by the owner, by an idle worker, at line 1, of another kind, past a write of the anchor; FIFO linked; a tag
    ∷ holding Lifo true (anchor 0 0 0) true false (TakeTest (anchor 0 0 0)) Idle
    ∷ holding Lifo true (anchor 0 0 0) false true Idle Idle
    ∷ holding Lifo true (anchor 0 0 0) false true Idle StealRead
    ∷ marked Lifo true (anchor 0 0 0) false false true Idle Idle
    ∷ holding Lifo false (anchor 0 2 0) false true Idle (StealTest (anchor 0 2 0))
    ∷ holding Lifo true (anchor 0 1 0) false true Idle (StealTest (anchor 0 2 0))
    ∷ holding Deque true (anchor 4 2 0) false true Idle (StealTest (anchor 5 2 0))
    ∷ holding Fifo true (anchor 0 0 0) false false Idle Idle
    ∷ holding Lifo true (anchor 0 0 1) false false Idle Idle
    ∷ holding Lifo true (anchor 0 0 0) false false (TakeTest (anchor 0 0 1)) Idle
    -- nine wait, or one without the mode
    ∷ state_with true (line 9 []) 0 1 Lifo 2 2 (plain 2 (anchor 0 0 0) two 2 2) 9 0 (at Idle Idle Idle) 12 8
    ∷ state_with false (line 1 []) 0 1 Lifo 2 2 (plain 2 (anchor 0 0 0) two 2 2) 9 0 (at Idle Idle Idle) 12 8
    -- a word of no array, no slot, no word, a put number above 65,535
    ∷ delayed Lifo (anchor 0 0 0) 2 (StoreWord 2 0 0 0 ∷ []) Idle Idle
    ∷ state_with true (line 1 (StoreWord 1 0 0 0 ∷ [])) 0 1 Lifo 2 2 (plain 2 (anchor 0 0 0) two 1 1) 9 0 (at Idle Idle Idle) 12 8
    ∷ delayed Lifo (anchor 0 0 0) 2 (StoreWord 0 2 0 0 ∷ []) Idle Idle
    ∷ delayed Lifo (anchor 0 0 0) 2 (StoreWord 0 0 2 0 ∷ []) Idle Idle
    ∷ delayed Lifo (anchor 0 0 0) 2 (StoreWord 0 0 0 65536 ∷ []) Idle Idle
    -- a note of no array or of the unpublished one; an older array than the one in memory
    ∷ delayed Lifo (anchor 0 0 0) 2 (StoreNote 2 ∷ []) Idle Idle
    ∷ delayed Lifo (anchor 0 0 0) 1 (StoreNote 1 ∷ StoreNote 0 ∷ []) (Note (ForPut (task 1 (one 7)))) Idle
    ∷ delayed Lifo (anchor 0 0 0) 2 (StoreNote 0 ∷ []) (Note (ForPut (task 1 (one 7)))) Idle
    -- an anchor of another kind's form, or out of its ranges
    ∷ delayed Fifo (anchor 0 0 0) 2 (StorePut (anchor 0 0 0) ∷ []) Idle Idle
    ∷ delayed Lifo (anchor 0 0 0) 2 (StoreHead 0 ∷ []) Idle Idle
    ∷ delayed Deque (anchor 0 0 0) 2 (StoreTail 0 ∷ []) Idle Idle
    ∷ delayed Lifo (anchor 0 0 0) 2 (StorePut (anchor 0 5 0) ∷ StoreOut (anchor 0 0 0) ∷ []) Idle Idle
    ∷ delayed Lifo (anchor 0 0 0) 2 (StoreOut (anchor 0 0 4) ∷ StoreOut (anchor 0 0 0) ∷ []) Idle Idle
    ∷ delayed Deque (anchor 0 0 0) 2 (StoreOut (anchor 2048 0 0) ∷ StoreOut (anchor 0 0 0) ∷ []) Idle Idle
    ∷ delayed Fifo (anchor 0 2 0) 2 (StoreHead 3 ∷ StoreHead 2 ∷ []) Idle Idle
    ∷ delayed Fifo (anchor 0 2 0) 2 (StoreTail 65536 ∷ StoreTail 2 ∷ []) Idle Idle
    -- the queue's limits for memory with the thieves' array, and for what the owner reads
    ∷ delayed Lifo (anchor 0 3 0) 1 (StoreNote 1 ∷ []) Idle Idle
    ∷ delayed Fifo (anchor 0 0 0) 2 (StoreTail 5 ∷ []) Idle Idle
    ∷ delayed Lifo (anchor 0 2 0) 1 (StoreNote 1 ∷ []) Idle (StealTest (anchor 0 3 0))
    -- a thief's noted array is one that thieves have been able to read
    ∷ delayed Deque (anchor 0 2 0) 1 (StoreNote 1 ∷ []) Idle (StealWord (anchor 0 2 0) 1 no_task 0)
    -- an array whose note waits is not claimed and unpublished
    ∷ delayed Lifo (anchor 0 0 0) 1 (StoreNote 1 ∷ []) (Note (ForPut (task 1 (one 7)))) Idle
    ∷ delayed Lifo (anchor 0 0 0) 1 [] Idle Idle
    -- words set aside that no longer fit, are not what an ask would set aside, stand at X2, or are missing at a commit's X1
    ∷ asking 8 2 1 11 Idle
    ∷ asking 4 2 1 12 Idle
    ∷ asking 9 2 1 13 Idle
    ∷ asking 4096 1024 1 6144 Idle
    ∷ asking 16 2 2 28 (Note ForCommit)
    ∷ asking 16 2 2 28 (Publish (ForPut (task 1 (one 7))))
    ∷ asking 0 2 1 12 (Claim ForCommit)
    -- a commit's line is not a thief's
    ∷ busy Lifo (anchor 0 0 0) Idle (Claim ForCommit)
    ∷ []

pub limits : map valid_of (admitted ++ foreign) ≡ map (λ W. true) admitted ++ map (λ W. false) foreign
unfolding valid_of words_to landed_all set_word offset_at length_at size_at when◌then◌else◌ ◌and◌ ◌or◌ gathered word_in
limits = refl
