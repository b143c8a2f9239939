-- A bench with the memory lent to it, and what a call leaves and answers.
use Rattle.std.specs.Prelude.{Bool, List, ℕ, zero, suc, eqb, ltb, length, get_or}
use Rattle.model.specs.declared.Growth.{Growth}
use Rattle.model.specs.declared.Growth.TheVariants.{ForPut, ForCommit}
use Rattle.model.specs.declared.Line.{Line}
use Rattle.model.specs.declared.Line.TheVariants.{
  Idle,
  PutRead,
  PutTail,
  PutTest,
  PutWord,
  PutFinish,
  Claim,
  Note,
  Copy,
  Publish,
  TakeRead,
  TakeTail,
  TakeTest,
  TakeWord,
  TakeFinish,
  StealRead,
  StealTail,
  StealTest,
  StealNote,
  StealWord,
  StealNext,
  StealCompare,
}
use Rattle.model.specs.declared.Room.{Room}
use Rattle.model.specs.declared.Waiting.{Waiting}
use Rattle.model.specs.declared.Worker.{Worker}
use Rattle.model.specs.declared.Bench.{Bench}
use Rattle.model.specs.declared.Refusal.{Refusal}
use Rattle.model.specs.declared.Answer.{Answer}
use Rattle.model.specs.declared.Answer.TheVariants.{Refused}
use Rattle.model.specs.Tests.{when◌then◌else◌, ◌or◌}
use Rattle.model.specs.Memory.{usable}
use Rattle.model.specs.Stores.{Shared, shared, landed_all, in_line, words_taken, room_in}

pub record World : Type 0 where
  pub bench : Bench
  pub store : List ℕ
  pub log : List ℕ

pub record Outcome : Type 0 where
  pub world : World
  pub answer : Answer

-- a refusal leaves state, store and log as they were handed in
abbrev pub refuse : World → Refusal → Outcome
refuse W r = record { world = W; answer = Refused r }

-- the same with other shared words, another waiting line, and n words set aside
abbrev pub remembered : World → Shared → Waiting → ℕ → World
remembered W S l n =
    record {
      bench =
          record {
            kind = W.bench.kind;
            width = W.bench.width;
            words = W.bench.words;
            delayed = W.bench.delayed;
            crew = W.bench.crew;
            queue = S.queue;
            waiting = l;
            aside = n;
            used = W.bench.used;
            restarts = W.bench.restarts;
            written = W.bench.written;
            workers = W.bench.workers;
          };
      store = S.store;
      log = W.log;
    }

-- what a worker reads: thieves memory, the owner its own youngest waiting store to a place before memory
abbrev pub memory : World → Shared
memory W = shared W.bench.queue W.store

abbrev pub owners_view : World → Shared
owners_view W = landed_all W.bench.words (memory W) (in_line W.bench.waiting)

abbrev pub view_of : World → ℕ → Shared
view_of W zero = owners_view W
view_of W (suc i) = memory W

-- X1's room in a queue that is alone: nobody else claims or sets aside, and its quota is the whole store
abbrev pub room_alone : World → Room
room_alone W = let n = words_taken W.bench.queue in room_in (usable W.store) n 0 n (length W.store)

-- the tag's bits: kinds 4 and 5 have no tag, and theirs stays 0
abbrev pub tag_bits : Bench → ℕ
tag_bits b = when b.queue.linked then 0 else b.width

-- the line of worker i
abbrev pub resting : Worker
resting = record { line = Idle }

abbrev pub line_at : List Worker → ℕ → Line
line_at l i = (get_or l i resting).line

-- where a worker stands: 0 idle; the owner 1 at a commit's X1, 2 at X2 to X4, 3 elsewhere; a thief 4 at line 1, 5 past it
abbrev pub claim_stage : Growth → ℕ
claim_stage (ForPut t) = 3
claim_stage ForCommit = 1

abbrev pub stage : Line → ℕ
stage Idle = 0
stage (PutRead t) = 3
stage (PutTail t h) = 3
stage (PutTest t r) = 3
stage (PutWord t r j) = 3
stage (PutFinish t r) = 3
stage (Claim g) = claim_stage g
stage (Note g) = 2
stage (Copy g h n k) = 2
stage (Publish g) = 2
stage TakeRead = 3
stage (TakeTail h) = 3
stage (TakeTest r) = 3
stage (TakeWord r t j) = 3
stage (TakeFinish r t) = 3
stage StealRead = 4
stage (StealTail h) = 5
stage (StealTest r) = 5
stage (StealNote r) = 5
stage (StealWord r k t j) = 5
stage (StealNext r t) = 5
stage (StealCompare r e t) = 5

abbrev pub is_idle : Line → Bool
is_idle l = eqb (stage l) 0

-- a thief at its line 1
abbrev pub is_steal1 : Line → Bool
is_steal1 l = eqb (stage l) 4

-- a thief past it
abbrev pub is_past1 : Line → Bool
is_past1 l = eqb (stage l) 5

abbrev pub is_expanding : Line → Bool
is_expanding l = eqb (stage l) 2

abbrev pub is_commit1 : Line → Bool
is_commit1 l = eqb (stage l) 1

-- a line of put, take or commit; a line of steal
abbrev pub is_owners : Line → Bool
is_owners l = ltb (stage l) 4

abbrev pub is_thiefs : Line → Bool
is_thiefs l = is_idle l or ltb 3 (stage l)
