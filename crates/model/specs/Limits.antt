-- The state limits of refusal 12, in document 01's order.
use Rattle.std.specs.Prelude.{Bool, true, false, not, List, [], ◌∷◌, ◌≡◌, ℕ, zero, suc, ◌+◌, ◌-◌, ◌*◌, ◌^◌, ◌≤◌, eqb, ltb, leb, length, get_or}
use Rattle.model.specs.declared.Kind.{Kind}
use Rattle.model.specs.declared.Kind.TheVariants.{Lifo, Fifo, Deque}
use Rattle.model.specs.declared.Task.{Task}
use Rattle.model.specs.declared.Anchor.{Anchor}
use Rattle.model.specs.declared.Growth.{Growth}
use Rattle.model.specs.declared.Growth.TheVariants.{ForPut, ForCommit}
use Rattle.model.specs.declared.Line.{Line}
use Rattle.model.specs.declared.Line.TheVariants.{
  Idle,
  PutRead,
  PutTail,
  PutTest,
  PutWord,
  PutFinish,
  Claim,
  Note,
  Copy,
  Publish,
  TakeRead,
  TakeTail,
  TakeTest,
  TakeWord,
  TakeFinish,
  StealRead,
  StealTail,
  StealTest,
  StealNote,
  StealWord,
  StealNext,
  StealCompare,
}
use Rattle.model.specs.declared.Store.{Store}
use Rattle.model.specs.declared.Store.TheVariants.{StoreWord, StoreNote, StorePut, StoreOut, StoreHead, StoreTail}
use Rattle.model.specs.declared.Waiting.{Waiting}
use Rattle.model.specs.declared.Region.{Region}
use Rattle.model.specs.declared.Queue.{Queue}
use Rattle.model.specs.declared.Room.{Room}
use Rattle.model.specs.declared.Worker.{Worker}
use Rattle.model.specs.declared.Bench.{Bench}
use Rattle.model.specs.Tests.{when◌then◌else◌, ◌and◌, ◌or◌}
use Rattle.model.specs.Tasks.{none_from}
use Rattle.model.specs.Memory.{offset_at, length_at, size_at, end_at, usable}
use Rattle.model.specs.Figures.{anchor, is_same}
use Rattle.model.specs.Stores.{in_line, taken, words_taken, next_length}
use Rattle.model.specs.Lines.{size}
use Rattle.model.specs.World.{World, owners_view, tag_bits, line_at, is_idle, is_past1, is_expanding, is_commit1, is_owners, is_thiefs}

-- a power of two from 1 to 2^e; sizes go up to 2^10 = 1,024
abbrev pub is_size : ℕ → ℕ → Bool
is_size zero c = eqb c 1
is_size (suc e) c = eqb c (2 ^ suc e) or is_size e c

-- fresh's ranges: a FIFO queue is not linked; the tag's width, the crew, the payload words
abbrev pub kind_ok : Kind → Bool → Bool
kind_ok Lifo x = true
kind_ok Fifo x = not x
kind_ok Deque x = true

abbrev pub width_ok : ℕ → Bool
width_ok w = ltb 0 w and leb w 16

abbrev pub crew_ok : ℕ → Bool
crew_ok n = ltb 0 n and leb n 8

abbrev pub words_ok : ℕ → Bool
words_ok v = ltb 0 v and leb v 4

-- the directory's first n arrays: sorted by offset, none over another, each twice the one before, of a size from 1 to 1,024
abbrev pub tidy : ℕ → List Region → ℕ → Bool
tidy v l zero = true
tidy v l (suc zero) = eqb (length_at l 0) ((v + 1) * size_at v l 0) and is_size 10 (size_at v l 0)
tidy v l (suc (suc k)) =
    tidy v l (suc k)
    and leb (end_at l k) (offset_at l (suc k))
    and eqb (length_at l (suc k)) (2 * length_at l k) and leb (2 * size_at v l k) 1024

-- of its arrays p are published, those whose note waits counted, and one more is claimed exactly while the owner, at line o, is at
-- X2 to X4; and the size that is kept is the first array's
abbrev pub directory_ok : ℕ → Queue → ℕ → Line → Bool
directory_ok v q p o =
    ltb 0 q.published
    and leb q.published p
    and leb q.claimed 11
    and eqb q.claimed (when is_expanding o then p + 1 else p)
    and tidy v q.arrays q.claimed
    and eqb q.initial (size_at v q.arrays 0)

-- an anchor as a worker read it, in an array of z tasks; what a kind does not use is 0
abbrev pub read_ok : Kind → ℕ → ℕ → Anchor → Bool
read_ok Lifo w z r = eqb r.head 0 and leb r.count z and ltb r.tag (2 ^ w)
read_ok Fifo w z r = leb r.head r.count and leb r.count 65535 and eqb r.tag 0
read_ok Deque w z r = ltb r.head 2048 and leb r.count z and ltb r.tag (2 ^ w)

-- the anchor now: FIFO's tail−head is limited for the queue itself; two reads may lie further apart
abbrev pub near_ok : Kind → ℕ → Anchor → Bool
near_ok Lifo z a = true
near_ok Fifo z a = leb (a.count - a.head) z
near_ok Deque z a = true

abbrev pub anchor_ok : Kind → ℕ → ℕ → Anchor → Bool
anchor_ok κ w z a = read_ok κ w z a and near_ok κ z a

-- FIFO's head read, while the tail is not yet read; the others have no such line
abbrev pub head_ok : Kind → ℕ → Bool
head_ok Lifo h = false
head_ok Fifo h = leb h 65535
head_ok Deque h = false

-- past a put's test; past a test for EMPTY
abbrev pub room_ok : Kind → ℕ → Anchor → Bool
room_ok Lifo z r = ltb r.count z
room_ok Fifo z r = ltb r.count 65535
room_ok Deque z r = ltb r.count z

abbrev pub some_ok : Kind → Anchor → Bool
some_ok Lifo r = ltb 0 r.count
some_ok Fifo r = true
some_ok Deque r = ltb 0 r.count

-- X3: n indices from h on are noted
abbrev pub noted_ok : Kind → ℕ → ℕ → Bool
noted_ok Lifo h n = eqb h 0
noted_ok Fifo h n = leb (h + n) 65535
noted_ok Deque h n = ltb h 2048

-- the slot that a steal reads exists in an array of z tasks; a remainder by z always does
abbrev pub slot_ok : Kind → ℕ → Anchor → Bool
slot_ok Lifo z r = leb r.count z
slot_ok Fifo z r = true
slot_ok Deque z r = true

-- the noted array, at place k of the directory, exists, and the slot in it
abbrev pub place_ok : Kind → ℕ → Queue → Anchor → ℕ → Bool
place_ok κ v q r k = ltb k q.published and slot_ok κ (size_at v q.arrays k) r

-- figure 3's line 5, and the h2 that it works out
abbrev pub is_deque : Kind → Bool
is_deque Lifo = false
is_deque Fifo = false
is_deque Deque = true

abbrev pub next_ok : Kind → ℕ → Bool
next_ok Lifo e = eqb e 0
next_ok Fifo e = eqb e 0
next_ok Deque e = ltb e 2048

-- put numbers
abbrev pub number_ok : ℕ → Bool
number_ok n = leb n 65535

-- a task of which n words are known: the others are 0
abbrev pub task_ok : ℕ → Task → Bool
task_ok n t = number_ok t.number and none_from n t

abbrev pub growth_ok : ℕ → Growth → Bool
growth_ok v (ForPut t) = task_ok (v + 1) t
growth_ok v ForCommit = true

-- what a worker at the line has read; q is the queue as it reads it
abbrev pub line_ok : Kind → ℕ → ℕ → Queue → Line → Bool
line_ok κ w v q Idle = true
line_ok κ w v q (PutRead t) = task_ok (v + 1) t
line_ok κ w v q (PutTail t h) = task_ok (v + 1) t and head_ok κ h
line_ok κ w v q (PutTest t r) = task_ok (v + 1) t and read_ok κ w (size v q) r
line_ok κ w v q (PutWord t r j) =
    task_ok (v + 1) t and read_ok κ w (size v q) r and room_ok κ (size v q) r and leb j v
line_ok κ w v q (PutFinish t r) = task_ok (v + 1) t and read_ok κ w (size v q) r and room_ok κ (size v q) r
line_ok κ w v q (Claim g) = growth_ok v g
line_ok κ w v q (Note g) = growth_ok v g
line_ok κ w v q (Copy g h n k) = growth_ok v g and noted_ok κ h n and leb n (size v q) and ltb k n
line_ok κ w v q (Publish g) = growth_ok v g
line_ok κ w v q TakeRead = true
line_ok κ w v q (TakeTail h) = head_ok κ h
line_ok κ w v q (TakeTest r) = read_ok κ w (size v q) r
line_ok κ w v q (TakeWord r t j) = read_ok κ w (size v q) r and some_ok κ r and task_ok j t and leb j v
line_ok κ w v q (TakeFinish r t) = read_ok κ w (size v q) r and some_ok κ r and task_ok (v + 1) t
line_ok κ w v q StealRead = true
line_ok κ w v q (StealTail h) = head_ok κ h
line_ok κ w v q (StealTest r) = read_ok κ w (size v q) r
line_ok κ w v q (StealNote r) = read_ok κ w (size v q) r and some_ok κ r
line_ok κ w v q (StealWord r k t j) =
    read_ok κ w (size v q) r and some_ok κ r and place_ok κ v q r k and task_ok j t and leb j v
line_ok κ w v q (StealNext r t) = read_ok κ w (size v q) r and some_ok κ r and is_deque κ and task_ok (v + 1) t
line_ok κ w v q (StealCompare r e t) = read_ok κ w (size v q) r and some_ok κ r and next_ok κ e and task_ok (v + 1) t

-- the anchor that a thief past its line 1 has read
abbrev pub read_by : Line → Anchor
read_by Idle = anchor 0 0 0
read_by (PutRead t) = anchor 0 0 0
read_by (PutTail t h) = anchor 0 0 0
read_by (PutTest t r) = anchor 0 0 0
read_by (PutWord t r j) = anchor 0 0 0
read_by (PutFinish t r) = anchor 0 0 0
read_by (Claim g) = anchor 0 0 0
read_by (Note g) = anchor 0 0 0
read_by (Copy g h n k) = anchor 0 0 0
read_by (Publish g) = anchor 0 0 0
read_by TakeRead = anchor 0 0 0
read_by (TakeTail h) = anchor 0 0 0
read_by (TakeTest r) = anchor 0 0 0
read_by (TakeWord r t j) = anchor 0 0 0
read_by (TakeFinish r t) = anchor 0 0 0
read_by StealRead = anchor 0 0 0
read_by (StealTail h) = anchor 0 0 0
read_by (StealTest r) = r
read_by (StealNote r) = r
read_by (StealWord r k t j) = r
read_by (StealNext r t) = r
read_by (StealCompare r e t) = r

-- a link is held from line 1 of a linked kind's steal on, and only while the anchor is unwritten; workers 0 to k-1
abbrev pub link_ok : Kind → Queue → Line → Bool
link_ok κ q l = q.linked and is_past1 l and is_same κ q.anchor (read_by l)

abbrev pub links_ok : Kind → Queue → List Worker → ℕ → Bool
links_ok κ q l zero = true
links_ok κ q l (suc k) = links_ok κ q l k and (not (get_or q.links k false) or link_ok κ q (line_at l k))

-- each worker at a line of its own operation: the owner; thieves 1 to k, those outside the crew of n idle
abbrev pub owner_ok : Kind → ℕ → ℕ → Queue → Line → Bool
owner_ok κ w v q l = is_owners l and line_ok κ w v q l

abbrev pub thief_ok : Kind → ℕ → ℕ → Queue → Line → Bool
thief_ok κ w v q l = is_thiefs l and line_ok κ w v q l

abbrev pub thieves_ok : Kind → ℕ → ℕ → Queue → ℕ → List Worker → ℕ → Bool
thieves_ok κ w v q n l zero = true
thieves_ok κ w v q n l (suc k) =
    thieves_ok κ w v q n l k
    and (when ltb (suc k) n then thief_ok κ w v q (line_at l (suc k)) else is_idle (line_at l (suc k)))

-- a waiting store's place and value; q is the queue as the owner reads it
abbrev pub has_anchor : Kind → Bool
has_anchor Lifo = true
has_anchor Fifo = false
has_anchor Deque = true

abbrev pub store_ok : Kind → ℕ → ℕ → Queue → Store → Bool
store_ok κ w v q (StoreWord k t j x) =
    ltb k q.claimed and ltb t (size_at v q.arrays k) and leb j v and (ltb 0 j or number_ok x)
store_ok κ w v q (StoreNote k) = ltb k q.published
store_ok κ w v q (StorePut a) = has_anchor κ and read_ok κ w (size v q) a
store_ok κ w v q (StoreOut a) = has_anchor κ and read_ok κ w (size v q) a
store_ok κ w v q (StoreHead h) = head_ok κ h and leb h q.anchor.count
store_ok κ w v q (StoreTail t) = head_ok κ t

abbrev pub stores_ok : Kind → ℕ → ℕ → Queue → List Store → Bool
stores_ok κ w v q [] = true
stores_ok κ w v q (s ∷ l) = store_ok κ w v q s and stores_ok κ w v q l

-- at most 8 wait, and none without the mode
abbrev pub waiting_ok : Kind → ℕ → ℕ → Queue → Bool → Waiting → Bool
waiting_ok κ w v q d l = leb l.count (when d then 8 else 0) and stores_ok κ w v q (in_line l)

-- n words set aside, with the owner at line o: what an ask would set aside; none at X2 to X4, and some at a commit's X1
abbrev pub aside_ok : ℕ → Queue → Line → ℕ → Bool
aside_ok v q o n =
    when eqb n 0 then not (is_commit1 o) else eqb n (next_length q) and leb (2 * size v q) 1024 and not (is_expanding o)

-- the limits on one queue, wherever its arrays lie; q is the queue in memory, p as the owner reads it
abbrev pub bench_ok : Bench → Queue → Queue → Bool
bench_ok b q p =
    kind_ok b.kind q.linked
    and width_ok b.width
    and words_ok b.words
    and crew_ok b.crew
    and directory_ok b.words q p.published (line_at b.workers 0)
    and anchor_ok b.kind (tag_bits b) (size b.words q) q.anchor
    and anchor_ok b.kind (tag_bits b) (size b.words p) p.anchor
    and number_ok b.used
    and waiting_ok b.kind (tag_bits b) b.words p b.delayed b.waiting
    and aside_ok b.words p (line_at b.workers 0) b.aside
    and links_ok b.kind q b.workers 8
    and owner_ok b.kind (tag_bits b) b.words p (line_at b.workers 0)
    and thieves_ok b.kind (tag_bits b) b.words q b.crew b.workers 7

-- the log's length is within the slice
abbrev pub log_ok : Bench → List ℕ → Bool
log_ok b l = leb b.written (length l)

-- a queue alone: its arrays lie from word 0 on without a gap (its last one ends where all its words do), and fit the store, those
-- set aside counted
abbrev pub alone_ok : Bench → List ℕ → Bool
alone_ok b m = leb (taken b.queue) (words_taken b.queue) and leb (words_taken b.queue + b.aside) (usable m)

-- the state, with the lengths of its lent memory, is no foreign one
unfoldable pub valid_of : World → Bool
valid_of W =
    bench_ok W.bench W.bench.queue (owners_view W).queue
    and log_ok W.bench W.log and alone_ok W.bench W.store

-- what a call past refusal 12 counts on: a state within the limits on one queue, whose arrays end before the room ρ, and this in the
-- store
pub record Within (ρ : Room) (W : World) : Type 0 where
  pub limits : bench_ok W.bench W.bench.queue (owners_view W).queue ≡ true
  pub logs : W.bench.written ≤ length W.log
  pub behind : taken W.bench.queue ≤ ρ.next
  pub inside : ρ.next + ρ.left ≤ length W.store
