-- The calls: fresh, begin, step, an ask and its drop, a link that fails, a drain, who, and the log's front. What ends in -In is a call past
-- refusal 12, and what ends in -Of a lone queue's call, with 12 in front.
use Rattle.std.specs.Prelude.{Bool, true, false, List, [], ◌∷◌, ℕ, zero, suc, ◌+◌, ◌*◌, eqb, ltb, leb, length, get_or, set, replicate, take, Result, Ok, Err}
use Rattle.model.specs.declared.Kind.{Kind}
use Rattle.model.specs.declared.Kind.TheVariants.{Lifo, Fifo, Deque}
use Rattle.model.specs.declared.Growth.TheVariants.{ForCommit}
use Rattle.model.specs.declared.Line.{Line}
use Rattle.model.specs.declared.Line.TheVariants.{PutRead, Claim, TakeRead, StealRead}
use Rattle.model.specs.declared.Queue.{Queue}
use Rattle.model.specs.declared.Room.{Room}
use Rattle.model.specs.declared.Store.{Store}
use Rattle.model.specs.declared.Waiting.{Waiting}
use Rattle.model.specs.declared.Bench.{Bench}
use Rattle.model.specs.declared.Setup.{Setup}
use Rattle.model.specs.declared.Operation.{Operation}
use Rattle.model.specs.declared.Operation.TheVariants.{Put, Take, Steal, Commit}
use Rattle.model.specs.declared.Refusal.{Refusal}
use Rattle.model.specs.declared.Refusal.TheVariants.{
  UnknownQueue,
  TagWidth,
  ArraySize,
  Crew,
  ShortStore,
  NoSuchWorker,
  BusyWorker,
  IdleWorker,
  WrongHand,
  NumbersSpent,
  LogFull,
  ForeignState,
  PayloadWords,
  NoLink,
  WaitingFull,
  NoneWaiting,
  NoSpace,
  AskStands,
  NoAsk,
}
use Rattle.model.specs.declared.Answer.{Answer}
use Rattle.model.specs.declared.Answer.TheVariants.{Accepted, Numbered}
use Rattle.model.specs.Tests.{when◌then◌else◌, unless◌then◌else◌, ◌and◌, ◌or◌}
use Rattle.model.specs.Tasks.{task, first_words}
use Rattle.model.specs.Memory.{zeros, nowhere, usable}
use Rattle.model.specs.Answers.{ends, logged, entry_length}
use Rattle.model.specs.Figures.{anchor}
use Rattle.model.specs.Stores.{Shared, shared, landed, landed_all, none_pending, joined, oldest, one_less, claimed_by, next_length}
use Rattle.model.specs.Lines.{Effect, fits, line_step, holds_link, fails_compare}
use Rattle.model.specs.World.{World, Outcome, refuse, remembered, memory, owners_view, view_of, room_alone, tag_bits, resting, line_at, is_idle, is_steal1, is_past1}
use Rattle.model.specs.Limits.{is_size, width_ok, crew_ok, words_ok, valid_of}

-- FRESH. A bench with no operation open, an array of c tasks of v payload words at word o, and all counters 0
abbrev pub blank_at : ℕ → Kind → Bool → ℕ → ℕ → ℕ → ℕ → Bool → Bench
blank_at o κ x w c n v d =
    record {
      kind = κ;
      width = w;
      words = v;
      delayed = d;
      crew = n;
      queue =
          record {
            linked = x;
            anchor = anchor 0 0 0;
            arrays = record { offset = o; length = (v + 1) * c } ∷ replicate 10 nowhere;
            published = 1;
            claimed = 1;
            initial = c;
            links = replicate 8 false;
          };
      waiting = record { stores = replicate 8 none_pending; count = 0 };
      aside = 0;
      used = 0;
      restarts = replicate 8 0;
      written = 0;
      workers = replicate 8 resting;
    }

-- what stands for no bench: a crew of 0, which every call refuses 12
abbrev pub no_bench : Bench
no_bench = blank_at 0 Lifo false 0 0 0 0 false

abbrev pub lent : Bench → List ℕ → List ℕ → World
lent b m l = record { bench = b; store = m; log = l }

-- kinds are 1, 2 and 3; 4 and 5 are 1 and 3, linked
abbrev pub kind_of : ℕ → Kind
kind_of k = when eqb k 1 or eqb k 4 then Lifo else when eqb k 2 then Fifo else Deque

abbrev pub linked_of : ℕ → Bool
linked_of k = ltb 3 k

-- as it is told, with its first array at word o
abbrev pub new_bench : ℕ → Setup → Bench
new_bench o s = blank_at o (kind_of s.kind) (linked_of s.kind) s.width s.size s.crew s.words s.delayed

abbrev pub first_length : Setup → ℕ
first_length s = (s.words + 1) * s.size

-- where n words are left: refusals 1 to 4, 16, 5, each answered by R; else x
abbrev pub admitted : {A : Type 0} → Setup → ℕ → (Refusal → A) → A → A
admitted s n R x =
    unless ltb 0 s.kind and leb s.kind 5 then R UnknownQueue
    else unless width_ok s.width then R TagWidth
    else unless is_size 10 s.size then R ArraySize
    else unless crew_ok s.crew then R Crew
    else unless words_ok s.words then R PayloadWords
    else unless leb (first_length s) n then R ShortStore
    else x

-- alone on the store m, with the log l: all words are left
unfoldable pub fresh_of : Setup → List ℕ → List ℕ → Outcome
fresh_of s m l =
    admitted s (usable m) (λ r. refuse (lent no_bench m l) r)
    (record { world = lent (new_bench 0 s) (zeros m 0 (first_length s)) l; answer = Accepted })

-- kind k, tag width w, first size c, n workers, v payload words, the stores delayed or not
abbrev pub setup_in : ℕ → ℕ → ℕ → ℕ → ℕ → Bool → Setup
setup_in k w c n v d = record { kind = k; width = w; size = c; crew = n; words = v; delayed = d }

abbrev pub setup : ℕ → ℕ → ℕ → ℕ → ℕ → Setup
setup k w c n v = setup_in k w c n v false

-- BEGIN. The owner, worker 0, puts, takes and commits; a thief steals
abbrev pub right_hand : ℕ → Operation → Bool
right_hand i (Put p) = eqb i 0
right_hand i Take = eqb i 0
right_hand i Steal = ltb 0 i
right_hand i Commit = eqb i 0

-- a put uses the next number, at most 65,535; u are used
abbrev pub numbers_left : Operation → ℕ → Bool
numbers_left (Put p) u = ltb u 65535
numbers_left Take u = true
numbers_left Steal u = true
numbers_left Commit u = true

-- a commit needs an ask; n words are set aside
abbrev pub asked : Operation → ℕ → Bool
asked (Put p) n = true
asked Take n = true
asked Steal n = true
asked Commit n = ltb 0 n

abbrev pub used_by : Operation → ℕ → ℕ
used_by (Put p) u = u + 1
used_by Take u = u
used_by Steal u = u
used_by Commit u = u

-- line 1, a commit's X1 (a task has v payload words; a payload's words past them are not used), and the answer
abbrev pub first_line : Operation → ℕ → ℕ → Line
first_line (Put p) v u = PutRead (first_words (v + 1) (task (u + 1) p))
first_line Take v u = TakeRead
first_line Steal v u = StealRead
first_line Commit v u = Claim ForCommit

abbrev pub begin_answer : Operation → ℕ → Answer
begin_answer (Put p) u = Numbered (u + 1)
begin_answer Take u = Accepted
begin_answer Steal u = Accepted
begin_answer Commit u = Accepted

abbrev pub begun : World → ℕ → Operation → Outcome
begun W i op =
    record {
      world =
          record {
            bench =
                record {
                  kind = W.bench.kind;
                  width = W.bench.width;
                  words = W.bench.words;
                  delayed = W.bench.delayed;
                  crew = W.bench.crew;
                  queue = W.bench.queue;
                  waiting = W.bench.waiting;
                  aside = W.bench.aside;
                  used = used_by op W.bench.used;
                  restarts = W.bench.restarts;
                  written = W.bench.written;
                  workers = set W.bench.workers i (record { line = first_line op W.bench.words W.bench.used });
                };
            store = W.store;
            log = W.log;
          };
      answer = begin_answer op W.bench.used;
    }

-- past the test of the limits: refusals 6, 9, 7, 10, 22
abbrev pub begin_in : World → ℕ → Operation → Outcome
begin_in W i op =
    unless ltb i W.bench.crew then refuse W NoSuchWorker
    else unless right_hand i op then refuse W WrongHand
    else unless is_idle (line_at W.bench.workers i) then refuse W BusyWorker
    else unless numbers_left op W.bench.used then refuse W NumbersSpent
    else unless asked op W.bench.aside then refuse W NoAsk
    else begun W i op

unfoldable pub begin_of : World → ℕ → Operation → Outcome
begin_of W i op = unless valid_of W then refuse W ForeignState else begin_in W i op

-- STEP. The restarts are compares that fail, and nothing else; each worker has a count, with a ceiling
abbrev pub one_more : ℕ → ℕ
one_more n = when eqb n 4294967295 then n else n + 1

-- of the counts ns worker i's, and the counts with one restart of worker i more
abbrev pub restarts_of : List ℕ → ℕ → ℕ
restarts_of ns i = get_or ns i 0

abbrev pub raised : List ℕ → ℕ → List ℕ
raised ns i = set ns i (one_more (restarts_of ns i))

-- the counts ns, after worker i has done its line l
abbrev pub restarted : Kind → Queue → ℕ → Line → List ℕ → List ℕ
restarted κ q i l ns = when fails_compare κ q i l then raised ns i else ns

-- LINKS. Worker i's is held or not
abbrev pub link_set : Queue → ℕ → Bool → Queue
link_set q i x =
    record {
      linked = q.linked;
      anchor = q.anchor;
      arrays = q.arrays;
      published = q.published;
      claimed = q.claimed;
      initial = q.initial;
      links = set q.links i x;
    }

-- worker i's line was l and is l' now: in a linked queue line 1 of a steal links, and a link is held until its attempt ends
abbrev pub relinked : Queue → ℕ → Line → Line → Queue
relinked q i l l' = link_set q i (is_past1 l' and ((q.linked and is_steal1 l) or holds_link q i))

-- of a step's stores: the owner's join the waiting line, in that mode; all others reach memory at once, and so does X1's claim
abbrev pub joining : Bool → ℕ → List Store → List Store
joining true zero s = s
joining true (suc i) s = []
joining false i s = []

abbrev pub landing : Bool → ℕ → List Store → List Store
landing true zero s = []
landing true (suc i) s = s
landing false i s = s

abbrev pub stored : Room → World → ℕ → Effect → Shared
stored ρ W i E = landed_all W.bench.words (claimed_by ρ E.claims (memory W)) (landing W.bench.delayed i E.stores)

abbrev pub line_after : World → ℕ → Effect → Waiting
line_after W i E = joined W.bench.waiting (joining W.bench.delayed i E.stores)

-- worker i's line left E; X1 found the room ρ
abbrev pub stepped : Room → World → ℕ → Effect → Outcome
stepped ρ W i E =
    record {
      world =
          record {
            bench =
                record {
                  kind = W.bench.kind;
                  width = W.bench.width;
                  words = W.bench.words;
                  delayed = W.bench.delayed;
                  crew = W.bench.crew;
                  queue = relinked (stored ρ W i E).queue i (line_at W.bench.workers i) E.line;
                  waiting = line_after W i E;
                  aside = when E.claims then 0 else W.bench.aside;
                  used = W.bench.used;
                  restarts =
                      restarted W.bench.kind W.bench.queue i (line_at W.bench.workers i)
                      W.bench.restarts;
                  written = when ends E.answer then W.bench.written + entry_length W.bench.words else W.bench.written;
                  workers = set W.bench.workers i (record { line = E.line });
                };
            store = (stored ρ W i E).store;
            log = logged W.bench.words W.log W.bench.written E.answer;
          };
      answer = E.answer;
    }

-- the step would end an operation, and under an entry's words are left; the log's length is a 32-bit number, so words past
-- what it can count are not there
abbrev pub log_full : ℕ → List ℕ → ℕ → Bool
log_full v l n = ltb (length l) (n + entry_length v) or ltb 4294967295 (n + entry_length v)

abbrev pub no_room : World → Effect → Bool
no_room W E = ends E.answer and log_full W.bench.words W.log W.bench.written

-- the step's stores would make more than 8 waiting
abbrev pub crowded : World → ℕ → Effect → Bool
crowded W i E = ltb 8 (line_after W i E).count

abbrev pub commit : Room → World → ℕ → Effect → Outcome
commit ρ W i E =
    when crowded W i E then refuse W WaitingFull
    else when no_room W E then refuse W LogFull
    else stepped ρ W i E

abbrev pub next_effect : Room → World → ℕ → Effect
next_effect ρ W i =
    let S = view_of W i in
    line_step ρ W.bench.kind (tag_bits W.bench) W.bench.words S.queue S.store i (line_at W.bench.workers i)

-- past the test of the limits: refusals 6, 8, 18, 11
abbrev pub step_in : Room → World → ℕ → Outcome
step_in ρ W i =
    unless ltb i W.bench.crew then refuse W NoSuchWorker
    else when is_idle (line_at W.bench.workers i) then refuse W IdleWorker
    else commit ρ W i (next_effect ρ W i)

unfoldable pub step_of : World → ℕ → Outcome
step_of W i = unless valid_of W then refuse W ForeignState else step_in (room_alone W) W i

-- ASK AND DROP. What an idle owner does at once, without a line: refusals 6, 9, 7, and then O
abbrev pub of_idle_owner : World → ℕ → Outcome → Outcome
of_idle_owner W i O =
    unless ltb i W.bench.crew then refuse W NoSuchWorker
    else unless eqb i 0 then refuse W WrongHand
    else unless is_idle (line_at W.bench.workers i) then refuse W BusyWorker
    else O

-- n words are set aside, a number only
abbrev pub set_aside : World → ℕ → Outcome
set_aside W n = record { world = remembered W (memory W) W.bench.waiting n; answer = Accepted }

-- the words of an array of twice the size of the one that the owner reads, where X1 would find room for it: refusals 21, 20
abbrev pub ask_in : Room → World → ℕ → Outcome
ask_in ρ W i =
    of_idle_owner W i
    (unless eqb W.bench.aside 0 then refuse W AskStands
    else unless fits ρ W.bench.words (owners_view W).queue then refuse W NoSpace
    else set_aside W (next_length (owners_view W).queue))

unfoldable pub ask_of : World → ℕ → Outcome
ask_of W i = unless valid_of W then refuse W ForeignState else ask_in (room_alone W) W i

-- the words are given back: refusal 22
abbrev pub drop_ask_in : World → ℕ → Outcome
drop_ask_in W i = of_idle_owner W i (unless ltb 0 W.bench.aside then refuse W NoAsk else set_aside W 0)

unfoldable pub drop_ask_of : World → ℕ → Outcome
drop_ask_of W i = unless valid_of W then refuse W ForeignState else drop_ask_in W i

-- LINK DROPPED. The event that makes worker i's link fail for no reason: refusals 6, 17
abbrev pub drop_link_in : World → ℕ → Outcome
drop_link_in W i =
    unless ltb i W.bench.crew then refuse W NoSuchWorker
    else unless holds_link W.bench.queue i then refuse W NoLink
    else record { world = remembered W (shared (link_set W.bench.queue i false) W.store) W.bench.waiting W.bench.aside; answer = Accepted }

unfoldable pub drop_link_of : World → ℕ → Outcome
drop_link_of W i = unless valid_of W then refuse W ForeignState else drop_link_in W i

-- DRAIN. The event that puts the oldest waiting store to its place in memory: refusal 19
abbrev pub drained : World → World
drained W = remembered W (landed W.bench.words (memory W) (oldest W.bench.waiting)) (one_less W.bench.waiting) W.bench.aside

abbrev pub drain_in : World → Outcome
drain_in W =
    unless ltb 0 W.bench.waiting.count then refuse W NoneWaiting
    else record { world = drained W; answer = Accepted }

unfoldable pub drain_of : World → Outcome
drain_of W = unless valid_of W then refuse W ForeignState else drain_in W

-- WHO. Worker i's restarts: refusal 6. It changes nothing, so there is no world in its answer
abbrev pub who_in : World → ℕ → Result ℕ Refusal
who_in W i =
    unless ltb i W.bench.crew then Err NoSuchWorker
    else Ok (restarts_of W.bench.restarts i)

unfoldable pub who_of : World → ℕ → Result ℕ Refusal
who_of W i = unless valid_of W then Err ForeignState else who_in W i

-- FRONT. The written front of the log: as many words as its length says, or all if the slice is shorter
unfoldable pub front_of : Bench → List ℕ → List ℕ
front_of b l = take b.written l

-- LISTS OF CALLS. Each call gets state, store and log as the call before left them
pub data Call : Type 0 where
  begin : ℕ → Operation → Call
  step : ℕ → Call
  drop_link : ℕ → Call
  drain : Call
  ask : ℕ → Call
  drop_ask : ℕ → Call

-- past refusal 12, where X1 finds the room ρ
abbrev pub call_in : Room → World → Call → Outcome
call_in ρ W (begin i op) = begin_in W i op
call_in ρ W (step i) = step_in ρ W i
call_in ρ W (drop_link i) = drop_link_in W i
call_in ρ W drain = drain_in W
call_in ρ W (ask i) = ask_in ρ W i
call_in ρ W (drop_ask i) = drop_ask_in W i

-- of a lone queue
abbrev pub call_of : World → Call → Outcome
call_of W (begin i op) = begin_of W i op
call_of W (step i) = step_of W i
call_of W (drop_link i) = drop_link_of W i
call_of W drain = drain_of W
call_of W (ask i) = ask_of W i
call_of W (drop_ask i) = drop_ask_of W i
