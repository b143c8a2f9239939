-- What differs from figure to figure: slots, indices, tests, and the store of a last line. In each,
-- `a` is the anchor now and `r` the anchor as a worker read it.
use Rattle.std.specs.Prelude.{Bool, ℕ, ◌+◌, ◌-◌, ◌^◌, ◌%◌, eqb}
use Rattle.model.specs.declared.Kind.{Kind}
use Rattle.model.specs.declared.Kind.TheVariants.{Lifo, Fifo, Deque}
use Rattle.model.specs.declared.Task.{Task}
use Rattle.model.specs.declared.Anchor.{Anchor}
use Rattle.model.specs.declared.Store.{Store}
use Rattle.model.specs.declared.Store.TheVariants.{StorePut, StoreOut, StoreHead, StoreTail}
use Rattle.model.specs.declared.Growth.{Growth}
use Rattle.model.specs.declared.Line.{Line}
use Rattle.model.specs.declared.Line.TheVariants.{
  PutTail,
  PutTest,
  Copy,
  Publish,
  TakeTail,
  TakeTest,
  StealTail,
  StealTest,
  StealNext,
  StealCompare,
}
use Rattle.model.specs.Tests.{when◌then◌else◌, ◌and◌}

abbrev pub anchor : ℕ → ℕ → ℕ → Anchor
anchor h c g = record { head = h; count = c; tag = g }

-- after a tag's largest value comes 0
abbrev pub next_tag : ℕ → ℕ → ℕ
next_tag w g = (g + 1) % 2 ^ w

-- the slot of index i in an array of z tasks
abbrev pub slot : Kind → ℕ → ℕ → ℕ
slot Lifo z i = i
slot Fifo z i = i % z
slot Deque z i = i % z

-- the index that a put writes, a take reads, a steal reads
abbrev pub put_index : Kind → Anchor → ℕ
put_index Lifo r = r.count
put_index Fifo r = r.count
put_index Deque r = r.head + r.count

abbrev pub take_index : Kind → Anchor → ℕ
take_index Lifo r = r.count - 1
take_index Fifo r = r.head
take_index Deque r = r.head + r.count - 1

abbrev pub steal_index : Kind → Anchor → ℕ
steal_index Lifo r = r.count - 1
steal_index Fifo r = r.head
steal_index Deque r = r.head

-- a put's test, in an array of z tasks; the test for EMPTY
abbrev pub is_full : Kind → ℕ → Anchor → Bool
is_full Lifo z r = eqb r.count z
is_full Fifo z r = eqb r.count (r.head + z)
is_full Deque z r = eqb r.count z

abbrev pub is_empty : Kind → Anchor → Bool
is_empty Lifo r = eqb r.count 0
is_empty Fifo r = eqb r.head r.count
is_empty Deque r = eqb r.count 0

-- the store of a put's last line, a take's, and a compare that succeeds (e is figure 3's h2); FIFO writes the tail alone, or the head
abbrev pub put_store : Kind → ℕ → Anchor → Store
put_store Lifo w r = StorePut (anchor r.head (r.count + 1) (next_tag w r.tag))
put_store Fifo w r = StoreTail (r.count + 1)
put_store Deque w r = StorePut (anchor r.head (r.count + 1) (next_tag w r.tag))

abbrev pub take_store : Kind → Anchor → Store
take_store Lifo r = StoreOut (anchor r.head (r.count - 1) r.tag)
take_store Fifo r = StoreHead (r.head + 1)
take_store Deque r = StoreOut (anchor r.head (r.count - 1) r.tag)

abbrev pub steal_store : Kind → Anchor → ℕ → Store
steal_store Lifo r e = StoreOut (anchor r.head (r.count - 1) r.tag)
steal_store Fifo r e = StoreHead (r.head + 1)
steal_store Deque r e = StoreOut (anchor e (r.count - 1) r.tag)

-- the compare finds the anchor as it was read
abbrev pub is_same : Kind → Anchor → Anchor → Bool
is_same Lifo a r = eqb a.count r.count and eqb a.tag r.tag
is_same Fifo a r = eqb a.head r.head
is_same Deque a r = eqb a.head r.head and eqb a.count r.count and eqb a.tag r.tag

-- line 1 reads the anchor; FIFO's reads only the head, and line 2 the tail
abbrev pub put_read : Kind → Anchor → Task → Line
put_read Lifo a t = PutTest t a
put_read Fifo a t = PutTail t a.head
put_read Deque a t = PutTest t a

abbrev pub take_read : Kind → Anchor → Line
take_read Lifo a = TakeTest a
take_read Fifo a = TakeTail a.head
take_read Deque a = TakeTest a

abbrev pub steal_read : Kind → Anchor → Line
steal_read Lifo a = StealTest a
steal_read Fifo a = StealTail a.head
steal_read Deque a = StealTest a

-- X2 in an array of z tasks: k indices from h on are noted; with none, X4 is next
abbrev pub note_all : Growth → ℕ → ℕ → Line
note_all g h k = when eqb k 0 then Publish g else Copy g h k 0

abbrev pub note : Kind → ℕ → Anchor → Growth → Line
note Lifo z a g = note_all g 0 z
note Fifo z a g = note_all g a.head (a.count - a.head)
note Deque z a g = note_all g a.head a.count

-- a steal that has read its task: figure 3 works out h2 first
abbrev pub steal_last : Kind → Anchor → Task → Line
steal_last Lifo r t = StealCompare r 0 t
steal_last Fifo r t = StealCompare r 0 t
steal_last Deque r t = StealNext r t
