-- Several queues over one store, a yard: making one, and a call of one of them.
use Rattle.std.specs.Prelude.{Bool, true, List, [], ◌∷◌, ℕ, zero, suc, ◌+◌, ◌-◌, eqb, ltb, leb, get_or, set, replicate, Result, Err}
use Rattle.model.specs.declared.Region.{Region}
use Rattle.model.specs.declared.Room.{Room}
use Rattle.model.specs.declared.Queue.{Queue}
use Rattle.model.specs.declared.Bench.{Bench}
use Rattle.model.specs.declared.Setup.{Setup}
use Rattle.model.specs.declared.Plot.{Plot}
use Rattle.model.specs.declared.Yard.{Yard}
use Rattle.model.specs.declared.Refusal.{Refusal}
use Rattle.model.specs.declared.Refusal.TheVariants.{ForeignState, ShortQuota, NoSuchQueue}
use Rattle.model.specs.declared.Answer.{Answer}
use Rattle.model.specs.declared.Answer.TheVariants.{Accepted, Refused}
use Rattle.model.specs.Tests.{when◌then◌else◌, unless◌then◌else◌, ◌and◌, ◌or◌}
use Rattle.model.specs.Memory.{zeros, offset_at, end_at, usable}
use Rattle.model.specs.Stores.{taken, words_taken, room_in}
use Rattle.model.specs.World.{World, Outcome, owners_view}
use Rattle.model.specs.Limits.{bench_ok, log_ok}
use Rattle.model.specs.Calls.{no_bench, lent, new_bench, first_length, admitted, who_in, front_of, Call, call_in}
use Rattle.model.specs.Run.{Played}

-- a yard with the store and the logs lent to it, a log for each queue
pub record Ground : Type 0 where
  pub yard : Yard
  pub store : List ℕ
  pub logs : List (List ℕ)

-- the plot of no queue
abbrev pub no_plot : Plot
no_plot = record { bench = no_bench; quota = 0 }

abbrev pub plot_at : Yard → ℕ → Plot
plot_at Y q = get_or Y.plots q no_plot

-- queue q of it: its bench, its quota, its log, and all three with the store
abbrev pub bench_at : Yard → ℕ → Bench
bench_at Y q = (plot_at Y q).bench

abbrev pub queue_at : Yard → ℕ → Queue
queue_at Y q = (bench_at Y q).queue

abbrev pub quota_at : Yard → ℕ → ℕ
quota_at Y q = (plot_at Y q).quota

abbrev pub log_at : Ground → ℕ → List ℕ
log_at G q = get_or G.logs q []

abbrev pub world_of : Ground → ℕ → World
world_of G q = lent (bench_at G.yard q) G.store (log_at G q)

-- the queue as its owner reads it, which does not look at the store's words
abbrev pub owners_queue : Bench → Queue
owners_queue b = (owners_view (lent b [] [])).queue

-- what the first n queues have together of what f tells of each
unfoldable pub total_of : (Bench → ℕ) → List Plot → ℕ → ℕ
total_of f ps zero = 0
total_of f ps (suc q) = total_of f ps q + f (get_or ps q no_plot).bench

-- the words that all have claimed, which are those from 0 to the next free one, for arrays are never given back and leave no gap;
-- and the words that all have set aside
abbrev pub claimed_by : Bench → ℕ
claimed_by b = words_taken b.queue

abbrev pub held_by : Bench → ℕ
held_by b = b.aside

abbrev pub claimed_words : Yard → ℕ
claimed_words Y = total_of claimed_by Y.plots Y.made

abbrev pub aside_words : Yard → ℕ
aside_words Y = total_of held_by Y.plots Y.made

-- X1's room for queue q: what the other queues have set aside counts as used
abbrev pub room_of : Ground → ℕ → Room
room_of G q =
    let Y = G.yard in
    room_in (usable G.store) (claimed_words Y) (aside_words Y - (bench_at Y q).aside) (words_taken (queue_at Y q)) (quota_at Y q)

-- a new queue's: what any has set aside does
abbrev pub words_left : Ground → ℕ
words_left G = usable G.store - (claimed_words G.yard + aside_words G.yard)

-- LIMITS. All of 0 to n-1 pass the test
unfoldable pub all_below : (ℕ → Bool) → ℕ → Bool
all_below p zero = true
all_below p (suc k) = all_below p k and p k

-- an array of one queue and an array of another do not overlap; no two of theirs do
abbrev pub apart : List Region → ℕ → List Region → ℕ → Bool
apart l k d j = leb (end_at l k) (offset_at d j) or leb (end_at d j) (offset_at l k)

abbrev pub no_overlap : Queue → Queue → Bool
no_overlap q r = all_below (λ k. all_below (λ j. apart q.arrays k r.arrays j) r.claimed) q.claimed

-- queue q: the limits on one queue; its quota, words set aside counted; no gap below the last array (none ends behind the words
-- that all claimed); and no overlap with a queue before it
abbrev pub place_ok : Yard → ℕ → Bool
place_ok Y q =
    bench_ok (bench_at Y q) (queue_at Y q) (owners_queue (bench_at Y q))
    and leb (words_taken (queue_at Y q) + (bench_at Y q).aside) (quota_at Y q)
    and leb (taken (queue_at Y q)) (claimed_words Y) and all_below (λ r. no_overlap (queue_at Y q) (queue_at Y r)) q

-- at most four queues, each in order; and they fit the store, words set aside counted. Places that no queue has are not looked at
abbrev pub yard_ok : Yard → List ℕ → Bool
yard_ok Y m =
    leb Y.made 4 and all_below (place_ok Y) Y.made and leb (claimed_words Y + aside_words Y) (usable m)

unfoldable pub sound_yard : Ground → Bool
sound_yard G = yard_ok G.yard G.store

-- of a call of queue q also the log that it is lent
abbrev pub sound_for : Ground → ℕ → Bool
sound_for G q = sound_yard G and (when ltb q G.yard.made then log_ok (bench_at G.yard q) (log_at G q) else true)

-- CALLS
pub record Yields : Type 0 where
  pub the_ground : Ground
  pub answer : Answer

abbrev pub refuse_all : Ground → Refusal → Yields
refuse_all G r = record { the_ground = G; answer = Refused r }

-- the yard with another bench of queue q
abbrev pub with_bench : Yard → ℕ → Bench → Yard
with_bench Y q b = record { plots = set Y.plots q (record { bench = b; quota = quota_at Y q }); made = Y.made }

-- queue q is left as W, with the store
abbrev pub put_back : Ground → ℕ → World → Ground
put_back G q W =
    record {
      yard = with_bench G.yard q W.bench;
      store = W.store;
      logs = set G.logs q W.log;
    }

abbrev pub leaves : Ground → ℕ → Outcome → Yields
leaves G q D = record { the_ground = put_back G q D.world; answer = D.answer }

-- a call of queue q: refusals 12, 24, then the queue's own
unfoldable pub on_of : Ground → ℕ → Call → Yields
on_of G q c =
    unless sound_for G q then refuse_all G ForeignState
    else unless ltb q G.yard.made then refuse_all G NoSuchQueue
    else leaves G q (call_in (room_of G q) (world_of G q) c)

-- a queue is made: its first array lies at the next free word, and is zeroed
abbrev pub making : Ground → Setup → ℕ → List ℕ → Ground
making G s quota l =
    record {
      yard =
          record {
            plots = set G.yard.plots G.yard.made (record { bench = new_bench (claimed_words G.yard) s; quota = quota });
            made = G.yard.made + 1;
          };
      store = zeros G.store (claimed_words G.yard) (first_length s);
      logs = set G.logs G.yard.made l;
    }

-- as it is told, with a quota of words and the log l lent to it: refusals 12, 24, 1 to 4, 16, 5, 23
unfoldable pub make_of : Ground → Setup → ℕ → List ℕ → Yields
make_of G s quota l =
    unless sound_yard G then refuse_all G ForeignState
    else unless ltb G.yard.made 4 then refuse_all G NoSuchQueue
    else admitted s (words_left G) (refuse_all G)
    (unless leb (first_length s) quota then refuse_all G ShortQuota
    else record { the_ground = making G s quota l; answer = Accepted })

-- where no quota is named it is the whole store
abbrev pub whole_store : List ℕ → ℕ
whole_store m = usable m

-- who: refusals 12, 24, 6
unfoldable pub who_at : Ground → ℕ → ℕ → Result ℕ Refusal
who_at G q i =
    unless sound_for G q then Err ForeignState
    else unless ltb q G.yard.made then Err NoSuchQueue
    else who_in (world_of G q) i

-- front, which never refuses: of a queue that is not made, nothing
unfoldable pub front_at : Ground → ℕ → List ℕ
front_at G q = when ltb q G.yard.made then front_of (bench_at G.yard q) (log_at G q) else []

-- LISTS. A yard without queues, and the calls
abbrev pub bare : Yard
bare = record { plots = replicate 4 no_plot; made = 0 }

pub data YardCall : Type 0 where
  make : Setup → ℕ → List ℕ → YardCall
  on : ℕ → Call → YardCall

abbrev pub yields : Ground → YardCall → Yields
yields G (make s quota l) = make_of G s quota l
yields G (on q c) = on_of G q c

unfoldable pub ground_after : Ground → List YardCall → Ground
ground_after G [] = G
ground_after G (c ∷ cs) = ground_after (yields G c).the_ground cs

-- queue q's part in a call, and in a list: its own calls, each with the state, store and log that it got, and its answer
abbrev pub part_in : ℕ → Ground → YardCall → List Played → List Played
part_in q G (make s quota l) T = T
part_in q G (on r c) T = when eqb r q then record { before = world_of G q; call = c; answer = (on_of G r c).answer } ∷ T else T

unfoldable pub part : ℕ → Ground → List YardCall → List Played
part q G [] = []
part q G (c ∷ cs) = part_in q G c (part q (yields G c).the_ground cs)
