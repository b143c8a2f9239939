-- What a step leaves of the state, and what it needs.
use Rattle.std.specs.Prelude.{◌≡◌, Bool, true, false, List, ℕ, ◌+◌, ◌≤◌, ◌<◌, length, set}
use Rattle.model.specs.declared.Kind.{Kind}
use Rattle.model.specs.declared.Store.{Store}
use Rattle.model.specs.declared.Store.TheVariants.{StoreWord, StoreNote, StorePut, StoreOut, StoreHead, StoreTail}
use Rattle.model.specs.declared.Anchor.{Anchor}
use Rattle.model.specs.declared.Line.{Line}
use Rattle.model.specs.declared.Queue.{Queue}
use Rattle.model.specs.declared.Room.{Room}
use Rattle.model.specs.declared.Waiting.{Waiting}
use Rattle.model.specs.declared.Worker.{Worker}
use Rattle.model.specs.declared.Bench.{Bench}
use Rattle.model.specs.declared.Refusal.TheVariants.{NoSuchWorker, IdleWorker, LogFull, WaitingFull}
use Rattle.model.specs.declared.Answer.{Answer}
use Rattle.model.specs.declared.Answer.TheVariants.{GoesOn, Refused}
use Rattle.model.specs.Tests.{when◌then◌else◌}
use Rattle.model.specs.Memory.{set_all}
use Rattle.model.specs.Answers.{ends, entry_of, entry_length, entry_words}
use Rattle.model.specs.Stores.{Shared, anchored, publishing, landed_all, claimed_by}
use Rattle.model.specs.Lines.{Effect, line_step, holds_link}
use Rattle.model.specs.World.{Outcome, is_idle, is_steal1, is_past1}
use Rattle.model.specs.Calls.{lent, raised, log_full, link_set}
use Rattle.lines.specs.declared.Action.{Action}
use Rattle.lines.specs.declared.Action.TheVariants as action
use Rattle.anchors.specs.After.{after_store}
use Rattle.lines.specs.Actions.{stores_by, claims_by, Does, Doable, Ground, Ready}
use Rattle.machine.specs.declared.Made.{Made}
use Rattle.machine.specs.declared.Moved.{Moved}
use Rattle.machine.specs.declared.Made.TheVariants as made

-- a state of what a step is handed, with the mode d, the waiting line s, a words set aside, u numbers used, the counts n of
-- restarts and the records ws
abbrev pub bench_of : Kind → ℕ → ℕ → ℕ → Queue → ℕ → Bool → Waiting → ℕ → ℕ → List ℕ → List Worker → Bench
bench_of κ w v c q k d s a u n ws =
    record {
      kind = κ;
      width = w;
      words = v;
      delayed = d;
      crew = c;
      queue = q;
      waiting = s;
      aside = a;
      used = u;
      restarts = n;
      written = k;
      workers = ws;
    }

-- worker i's stores land at once: it is a thief, or the stores are not delayed, and so none waits that it would read
pub record AtOnce (d : Bool) (s : Waiting) (i : ℕ) : Type 0 where
  pub few : s.count ≤ 8
  pub none : i ≡ 0 → (d ≡ false) × (s.count ≡ 0)

-- the state with worker i at the line x, and another queue, other counts of restarts and another of words written
abbrev pub moves : Bench → ℕ → Line → Queue → List ℕ → ℕ → Bench
moves b i x q n k =
    bench_of b.kind b.width b.words b.crew q k b.delayed b.waiting b.aside b.used n (set b.workers i (record { line = x }))

-- the state with no words set aside
abbrev pub unasked : Bench → Bench
unasked b =
    bench_of b.kind b.width b.words b.crew b.queue b.written b.delayed b.waiting 0 b.used b.restarts b.workers

-- the queue with one pair more claimed
abbrev pub with_array : Queue → ℕ → ℕ → Queue
with_array q a z =
    record {
      linked = q.linked;
      anchor = q.anchor;
      arrays = set q.arrays q.claimed (record { offset = a; length = z });
      published = q.published;
      claimed = q.claimed + 1;
      initial = q.initial;
      links = q.links;
    }

-- the state after a step, and the answer
unfoldable pub bench_after : Bench → ℕ → Line → Made → Bench
bench_after b i x made.Nothing = moves b i x b.queue b.restarts b.written
bench_after b i x (made.Refused r) = b
bench_after b i x made.Fails = moves b i x b.queue (raised b.restarts i) b.written
bench_after b i x made.Links = moves b i x (link_set b.queue i true) b.restarts b.written
bench_after b i x (made.Claims a z) = moves (unasked b) i x (with_array b.queue a z) b.restarts b.written
bench_after b i x made.Publishes = moves b i x (publishing b.queue b.queue.published) b.restarts b.written
bench_after b i x (made.Stops y) = moves b i x (link_set b.queue i false) b.restarts (b.written + entry_length b.words)
bench_after b i x (made.Ends a y) = moves b i x (anchored b.queue a) b.restarts (b.written + entry_length b.words)
bench_after b i x (made.Grows y) =
    moves b i x (link_set (publishing b.queue b.queue.published) i false) b.restarts (b.written + entry_length b.words)
bench_after b i x (made.Waits d) = b

unfoldable pub answer_after : Made → Answer
answer_after made.Nothing = GoesOn
answer_after (made.Refused r) = Refused r
answer_after made.Fails = GoesOn
answer_after made.Links = GoesOn
answer_after (made.Claims a z) = GoesOn
answer_after made.Publishes = GoesOn
answer_after (made.Stops y) = y
answer_after (made.Ends a y) = y
answer_after (made.Grows y) = y
answer_after (made.Waits d) = Refused WaitingFull

-- with the store m and the log l as the step left them
abbrev pub moved_by : Bench → ℕ → Line → Made → List ℕ → List ℕ → Outcome
moved_by b i x d m l = record { world = lent (bench_after b i x d) m l; answer = answer_after d }

-- an answer logged behind k written words, where the log l has room for its entry; a task has v payload words
abbrev pub log_by : ℕ → ℕ → List ℕ → Answer → List ℕ
log_by v k l a = when log_full v l k then l else set_all l k (entry_words v (entry_of a))

-- what an action leaves of the shared words, once it has claimed in the room ρ and its stores have landed
abbrev pub left_by : Room → ℕ → Shared → Action → Shared
left_by ρ v S d = landed_all v (claimed_by ρ (claims_by d) S) (stores_by v d)

-- a store that ends no operation, landed: what it makes of the step. None of these stores the anchor
unfoldable pub made_by : Store → Made
made_by (StoreWord k t j x) = made.Nothing
made_by (StoreNote k) = made.Publishes
made_by (StorePut a) = made.Nothing
made_by (StoreOut a) = made.Nothing
made_by (StoreHead h) = made.Nothing
made_by (StoreTail t) = made.Nothing

-- a store that ends an operation with the answer y, landed: the note of the claimed array, or a store of the anchor, which was a
unfoldable pub concluded_by : Anchor → Store → Answer → Made
concluded_by a (StoreWord k t j x) y = made.Ends (after_store a (StoreWord k t j x)) y
concluded_by a (StoreNote k) y = made.Grows y
concluded_by a (StorePut b) y = made.Ends (after_store a (StorePut b)) y
concluded_by a (StoreOut b) y = made.Ends (after_store a (StoreOut b)) y
concluded_by a (StoreHead h) y = made.Ends (after_store a (StoreHead h)) y
concluded_by a (StoreTail t) y = made.Ends (after_store a (StoreTail t)) y

-- an action carried out on the queue q: what it makes of the step, and of the log
unfoldable pub acted_by : ℕ → ℕ → List ℕ → Queue → Action → Made
acted_by v k l q action.Nothing = made.Nothing
acted_by v k l q action.Fails = made.Fails
acted_by v k l q (action.Stores s) = made_by s
acted_by v k l q (action.Copies p t u) = made.Nothing
acted_by v k l q (action.Claims a z) = made.Claims a z
acted_by v k l q (action.Stops y) = when log_full v l k then made.Refused LogFull else made.Stops y
acted_by v k l q (action.Ends s y) =
    when log_full v l k then made.Refused LogFull else concluded_by q.anchor s y

unfoldable pub log_after : ℕ → ℕ → List ℕ → Action → List ℕ
log_after v k l action.Nothing = l
log_after v k l action.Fails = l
log_after v k l (action.Stores s) = l
log_after v k l (action.Copies p t u) = l
log_after v k l (action.Claims a z) = l
log_after v k l (action.Stops y) = log_by v k l y
log_after v k l (action.Ends s y) = log_by v k l y

-- what a step did fits the state: the directory has a place for a claimed pair, a log's length can count the entry, and what
-- ends an operation answers an entry
unfoldable pub Fits : ℕ → Queue → ℕ → Made → Type 0
Fits v q k made.Nothing = Unit {0}
Fits v q k (made.Refused r) = Unit {0}
Fits v q k made.Fails = Unit {0}
Fits v q k made.Links = Unit {0}
Fits v q k (made.Claims a z) = q.claimed < 11
Fits v q k made.Publishes = q.published ≤ 11
Fits v q k (made.Stops y) = (k + entry_length v ≤ 4294967295) × (ends y ≡ true)
Fits v q k (made.Ends a y) = (k + entry_length v ≤ 4294967295) × (ends y ≡ true)
Fits v q k (made.Grows y) = (q.published ≤ 11) × (k + entry_length v ≤ 4294967295) × (ends y ≡ true)
Fits v q k (made.Waits d) = Unit {0}

-- worker i, at the line y, can be stepped in a store of z words, which the room ρ lies in, in a crew of n
pub record Steppable (ρ : Room) (κ : Kind) (w v n : ℕ) (q : Queue) (z i : ℕ) (y : Line) : Type 0 where
  pub narrow : w ≤ 16
  pub crew : n ≤ 8
  pub room : ρ.next + ρ.left ≤ z
  pub the_ground : Ground v q z
  pub ready : i < n → Ready κ v q z y
  pub held : i < n → holds_link q i ≡ true → (q.linked ≡ true) × (is_past1 y ≡ true)

-- the effect of the line y of worker i, on the queue q and the store m, where the tag has w bits and X1 finds the room ρ
abbrev pub effect_on : Room → Kind → ℕ → ℕ → Queue → List ℕ → ℕ → Line → Effect
effect_on ρ κ w v q m i y = line_step ρ κ (when q.linked then 0 else w) v q m i y

-- a step of worker i, at the line y of a queue q and a store m, of which nothing is done yet: refused 6 or 8, or its action
-- waits; line 1 of a steal is never the owner's
pub record PlannedBy (ρ : Room) (κ : Kind) (w v n : ℕ) (q : Queue) (m : List ℕ) (i : ℕ) (y : Line) (r : Moved) : Type 0 where
  pub outside : n ≤ i → r.made ≡ made.Refused NoSuchWorker
  pub rests : i < n → is_idle y ≡ true → r.made ≡ made.Refused IdleWorker
  pub goes : i < n → is_idle y ≡ false → is_steal1 y ≡ false → (d : Action) × (r.made ≡ made.Waits d)
      × (r.line ≡ (effect_on ρ κ w v q m i y).line) × Does ρ v (effect_on ρ κ w v q m i y) d × Doable v q (length m) d
