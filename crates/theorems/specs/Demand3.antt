-- Demand 3: no sequence of begins, steps, dropped links and drains can lose or invent a task. Stated of the calls of a list, of
-- their answers and of the accepted steps, by the calls' places in the list. Where stores are not delayed, what is said here of
-- drains adds nothing (AsBefore).
use Rattle.std.specs.Prelude.{◌≡◌, ◌⊎◌, List, [], ◌∷◌, ℕ, zero, suc, ◌+◌, ◌-◌, ◌^◌, ◌≤◌, ◌<◌, take, drop}
use Rattle.model.specs.declared.Setup.{Setup}
use Rattle.model.specs.declared.Kind.{Kind}
use Rattle.model.specs.declared.Kind.TheVariants.{Lifo, Fifo, Deque}
use Rattle.model.specs.declared.Payload.{Payload}
use Rattle.model.specs.declared.Task.{Task}
use Rattle.model.specs.declared.Anchor.{Anchor}
use Rattle.model.specs.declared.Line.{Line}
use Rattle.model.specs.declared.Line.TheVariants.{TakeRead, StealRead, StealCompare}
use Rattle.model.specs.declared.Store.{Store}
use Rattle.model.specs.declared.Store.TheVariants.{StoreWord, StoreNote, StorePut, StoreOut, StoreHead, StoreTail}
use Rattle.model.specs.declared.Operation.TheVariants.{Put}
use Rattle.model.specs.declared.Refusal.{Refusal}
use Rattle.model.specs.declared.Answer.{Answer}
use Rattle.model.specs.declared.Answer.TheVariants.{Accepted, Numbered, GoesOn, Finished, HandedOut, Empty, Full, Grown, Refused}
use Rattle.model.specs.Tests.{when◌then◌else◌}
use Rattle.model.specs.Tasks.{task, first_words}
use Rattle.model.specs.Stores.{oldest}
use Rattle.model.specs.World.{World, tag_bits, line_at}
use Rattle.model.specs.Calls.{fresh_of, Call, begin, step, drop_link, drain, ask, drop_ask}
use Rattle.model.specs.Listing.{is_refused}
use Rattle.model.specs.Run.{Played, played, after}
use Rattle.model.specs.Window.{window_size, window_task}

-- the call at place j of the list is such a one
abbrev pub At : List Played → ℕ → (Played → Type 0) → Type 0
At [] j P = ⊥
At (s ∷ T) zero P = P s
At (s ∷ T) (suc j) P = At T j P

-- a put is an accepted put begin, with the number it answered and the payload it was given, as many words of it as the queue's
-- tasks have: together its task
abbrev pub Begins : Task → Played → Type 0
Begins t s =
    (n : ℕ) × (p : Payload) × (s.call ≡ begin 0 (Put p)) × (s.answer ≡ Numbered n)
    × (first_words (s.before.bench.words + 1) (task n p) ≡ t)

-- it is finished by the step that ends it with an entry of kind 1
abbrev pub Finishes : Task → Played → Type 0
Finishes t s = (i : ℕ) × (s.answer ≡ Finished i t)

-- a whole task is handed out by a step that answers an entry of kind 2; it belongs to the put that has all its words
abbrev pub HandsOut : Task → Played → Type 0
HandsOut t s = (i : ℕ) × (s.answer ≡ HandedOut i t)

-- worker i is answered EMPTY
abbrev pub Empties : ℕ → Played → Type 0
Empties i s = s.answer ≡ Empty i

-- an accepted step in which worker i does the line l
abbrev pub Does : ℕ → Line → Played → Type 0
Does i l s = (s.call ≡ step i) × (line_at s.before.bench.workers i ≡ l) × ((r : Refusal) → s.answer ≡ Refused r → ⊥)

-- line 1 of a take or a steal; the compare of a steal
abbrev pub Line1 : ℕ → Played → Type 0
Line1 i s = Does i TakeRead s ⊎ Does i StealRead s

abbrev pub Compares : ℕ → Played → Type 0
Compares i s = (r : Anchor) × (e : ℕ) × (t : Task) × Does i (StealCompare r e t) s

-- the attempt in which worker i compares, or is answered EMPTY, at place j did its line 1 at place l
pub record Attempt (T : List Played) (i l j : ℕ) : Type 0 where
  pub before : l < j
  pub line1 : At T l (Line1 i)
  pub newest : (k : ℕ) → l < k → k < j → At T k (Line1 i) → ⊥

-- the put of task t was begun at place b and finished at place j
pub record Done (T : List Played) (b j : ℕ) (t : Task) : Type 0 where
  pub begun : At T b (Begins t)
  pub later : b < j
  pub finished : At T j (Finishes t)

-- its task was handed out at place k
abbrev pub Out : List Played → ℕ → Task → Type 0
Out T k t = At T k (HandsOut t)

-- the put of task t was finished before place j
abbrev pub FinishedBefore : List Played → ℕ → Task → Type 0
FinishedBefore T j t = (b k : ℕ) × (k < j) × Done T b k t

-- the calls between places l and j
abbrev pub between : ℕ → ℕ → List Played → List Played
between l j T = take (j - suc l) (drop (suc l) T)

-- DELAYED STORES. How many accepted drains a part of the list has: each puts the oldest waiting store to its place
abbrev pub drains_as : Call → Answer → ℕ
drains_as (begin i op) a = 0
drains_as (step i) a = 0
drains_as (drop_link i) a = 0
drains_as (ask i) a = 0
drains_as (drop_ask i) a = 0
drains_as drain a = when is_refused a then 0 else 1

abbrev pub drains : List Played → ℕ
drains [] = 0
drains (s ∷ T) = drains T + drains_as s.call s.answer

-- the step s finishes a put, and its anchor store (FIFO: tail store) joins the end of the line: so many wait then, and so many
-- drains later it is in memory; where stores are not delayed it is there at once
abbrev pub waits : Played → ℕ
waits s = when s.before.bench.delayed then s.before.bench.waiting.count + 1 else 0

-- the put that was finished at place k was drained by place l
abbrev pub DrainedBy : List Played → ℕ → ℕ → Type 0
DrainedBy T k l = At T k (λ s. waits s ≤ drains (between k l T))

-- worker i's EMPTY concerns the put that was finished at place k: the owner's every one, a thief's those drained by place l
abbrev pub Concerned : List Played → ℕ → ℕ → ℕ → Type 0
Concerned T zero k l = Unit {0}
Concerned T (suc i) k l = DrainedBy T k l

-- every put finished by place l that worker i's EMPTY concerns was handed out before place j
abbrev pub AllOut : List Played → ℕ → ℕ → ℕ → Type 0
AllOut T i l j = (b k : ℕ) (t : Task) → Done T b k t → k ≤ l → Concerned T i k l → (o : ℕ) × (o < j) × Out T o t

-- the task stands whole in a slot of the window, as the owner reads it
abbrev pub Stands : World → Task → Type 0
Stands W t = (i : ℕ) × (i < window_size W) × (window_task W i ≡ t)

-- how many puts an answer finishes
abbrev pub finishes : Answer → ℕ
finishes Accepted = 0
finishes (Numbered n) = 0
finishes GoesOn = 0
finishes (Finished i t) = 1
finishes (HandedOut i t) = 0
finishes (Empty i) = 0
finishes (Full i t) = 0
finishes (Grown i) = 0
finishes (Refused r) = 0

-- how many puts a store is the anchor store of (FIFO: tail store)
abbrev pub of_put : Store → ℕ
of_put (StoreWord k t j x) = 0
of_put (StoreNote k) = 0
of_put (StorePut r) = 1
of_put (StoreOut r) = 0
of_put (StoreHead i) = 0
of_put (StoreTail i) = 1

-- how many puts a call brings to memory: those it finishes; where stores are delayed, those whose anchor store it drains
abbrev pub arrives_as : World → Call → Answer → ℕ
arrives_as W (begin i op) a = when W.bench.delayed then 0 else finishes a
arrives_as W (step i) a = when W.bench.delayed then 0 else finishes a
arrives_as W (drop_link i) a = when W.bench.delayed then 0 else finishes a
arrives_as W (ask i) a = when W.bench.delayed then 0 else finishes a
arrives_as W (drop_ask i) a = when W.bench.delayed then 0 else finishes a
arrives_as W drain a = when is_refused a then 0 else of_put (oldest W.bench.waiting)

-- how many puts a part of the list brings to memory
abbrev pub puts : List Played → ℕ
puts [] = 0
puts (s ∷ T) = puts T + arrives_as s.before s.call s.answer

-- THE PREMISE: with a tag of w bits, fewer than 2^w puts finish (are drained, where stores are delayed) between any steal
-- attempt's line 1 and its compare. FIFO has none; nor have the linked kinds, whose tag has 0 bits
abbrev pub Few : Kind → ℕ → ℕ → Type 0
Few Lifo w d = 0 < w → d < 2 ^ w
Few Fifo w d = Unit {0}
Few Deque w d = 0 < w → d < 2 ^ w

abbrev pub FewPutsIn : Kind → ℕ → List Played → Type 0
FewPutsIn κ w T = (i l j : ℕ) → At T j (Compares i) → Attempt T i l j → Few κ w (puts (between l j T))

abbrev pub FewPuts : World → List Call → Type 0
FewPuts W cs = FewPutsIn W.bench.kind (tag_bits W.bench) (played W cs)

-- THE CLAIM, of the calls T of one queue, the last of which left the world W
pub record Sound (T : List Played) (W : World) : Type 0 where
  -- after the list, each finished put's task was handed out or stands whole in the queue
  pub kept : (b j : ℕ) (t : Task) → Done T b j t → ((k : ℕ) × Out T k t) ⊎ Stands W t
  -- each task handed out belongs to a put finished before it
  pub belongs : (j : ℕ) (t : Task) → Out T j t → FinishedBefore T j t
  -- each EMPTY was answered only if every put finished by that attempt's line 1 (a thief's: and drained by it) had been handed
  -- out before that EMPTY
  pub none_left : (j i : ℕ) → At T j (Empties i) → (l : ℕ) × Attempt T i l j × AllOut T i l j
  -- what makes 'the put it belongs to' exact: an entry of kind 1 ends a put that was begun, and no two puts have one number
  pub ended : (j : ℕ) (t : Task) → At T j (Finishes t) → (b : ℕ) × Done T b j t
  pub numbers : (a b : ℕ) (t u : Task) → At T a (Begins t) → At T b (Begins u) → t.number ≡ u.number → a ≡ b

-- of the list cs from the world W
abbrev pub Demand3 : World → List Call → Type 0
Demand3 W cs = Sound (played W cs) (after W cs)

-- from any accepted fresh, whatever the store and the log held before
abbrev pub FromFresh : (World → Type 0) → Type 0
FromFresh P =
    (s : Setup) (store log : List ℕ) → (fresh_of s store log).answer ≡ Accepted → P (fresh_of s store log).world

abbrev pub NothingLost : Type 0
NothingLost = FromFresh (λ W. (cs : List Call) → FewPuts W cs → Demand3 W cs)
