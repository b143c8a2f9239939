-- What a call did, and what a list of calls did, newest first.
use mathlib.Core.Bool.{Bool, true, false, cond}
use mathlib.Core.Logic.{◌⊎◌}
use mathlib.Core.List.{List, [], ◌∷◌, Memᴰ}
use Prim.Native.Nat.{ℕ, zero, suc, ◌+◌, ◌-◌}
use lib.Dec.{eqb}
use Rattle.model.specs.declared.Kind.{Kind}
use Rattle.model.specs.declared.Kind.TheVariants.{Lifo, Fifo, Deque}
use Rattle.model.specs.declared.Anchor.{Anchor}
use Rattle.model.specs.declared.Queue.{Queue}
use Rattle.model.specs.declared.Store.{Store}
use Rattle.model.specs.declared.Store.TheVariants.{StoreWord, StoreNote, StorePut, StoreOut, StoreHead, StoreTail}
use Rattle.model.specs.declared.Line.{Line}
use Rattle.model.specs.declared.Line.TheVariants.{Idle, PutRead, PutTail, PutTest, PutWord, PutFinish, Claim, Note, Copy, Publish, TakeRead, TakeTail, TakeTest, TakeWord, TakeFinish, StealRead, StealTail, StealTest, StealNote, StealWord, StealNext, StealCompare}
use Rattle.model.specs.declared.Operation.TheVariants.{Put, Take, Steal, Commit}
use Rattle.model.specs.declared.Answer.{Answer}
use Rattle.model.specs.declared.Answer.TheVariants.{Accepted, Numbered, GoesOn, Finished, HandedOut, Empty, Full, Refused, Grown}
use Rattle.model.specs.declared.Task.{Task}
use Rattle.model.specs.Calls.{Call, begin, step, drop_link, ask, drop_ask, drain}
use Rattle.model.specs.Tasks.{task, first_words, gathered}
use Rattle.model.specs.Lines.{size}
use Rattle.theorems.proofs.Words.{off, cell}
use Rattle.theorems.specs.Demand3.{Few}

pub data Event : Type 0 where
  quiet : Event
  line_1 : ℕ → Event
  -- its anchor store is in memory: at once, or with a drain
  finished_put : Task → Event
  handed_out : ℕ → Task → Event
  failed_compare : ℕ → Event
  found_empty : ℕ → Event
  began_put : Task → Event
  found_full : Task → Event
  -- with delayed stores: a put finishes and so many stores wait then; a store that is no put's is put down
  waiting_put : Task → ℕ → Event
  drained : Event

abbrev pub is_line_1 : Line → Bool
is_line_1 Idle = false
is_line_1 (PutRead t) = false
is_line_1 (PutTail t h) = false
is_line_1 (PutTest t r) = false
is_line_1 (PutWord t r j) = false
is_line_1 (PutFinish t r) = false
is_line_1 (Claim t) = false
is_line_1 (Note t) = false
is_line_1 (Copy t h q k) = false
is_line_1 (Publish t) = false
is_line_1 TakeRead = true
is_line_1 (TakeTail h) = false
is_line_1 (TakeTest r) = false
is_line_1 (TakeWord r t j) = false
is_line_1 (TakeFinish r t) = false
is_line_1 StealRead = true
is_line_1 (StealTail h) = false
is_line_1 (StealTest r) = false
is_line_1 (StealNote r) = false
is_line_1 (StealWord r k t j) = false
is_line_1 (StealNext r t) = false
is_line_1 (StealCompare r e t) = false

abbrev pub is_compare : Line → Bool
is_compare Idle = false
is_compare (PutRead t) = false
is_compare (PutTail t h) = false
is_compare (PutTest t r) = false
is_compare (PutWord t r j) = false
is_compare (PutFinish t r) = false
is_compare (Claim t) = false
is_compare (Note t) = false
is_compare (Copy t h q k) = false
is_compare (Publish t) = false
is_compare TakeRead = false
is_compare (TakeTail h) = false
is_compare (TakeTest r) = false
is_compare (TakeWord r t j) = false
is_compare (TakeFinish r t) = false
is_compare StealRead = false
is_compare (StealTail h) = false
is_compare (StealTest r) = false
is_compare (StealNote r) = false
is_compare (StealWord r k t j) = false
is_compare (StealNext r t) = false
is_compare (StealCompare r e t) = true

-- with ω payload words, the call c, of a worker at the line l, answers a
abbrev pub event_of_begin : ℕ → Call → ℕ → Event
event_of_begin ω (begin zero (Put p)) n = began_put (first_words (ω + 1) (task n p))
event_of_begin ω (begin (suc k) (Put p)) n = quiet
event_of_begin ω (begin i Take) n = quiet
event_of_begin ω (begin i Steal) n = quiet
event_of_begin ω (begin i Commit) n = quiet
event_of_begin ω (step i) n = quiet
event_of_begin ω (drop_link i) n = quiet
event_of_begin ω (ask i) n = quiet
event_of_begin ω (drop_ask i) n = quiet
event_of_begin ω drain n = quiet

abbrev pub event_of_going_on : Call → Line → Event
event_of_going_on (begin i o) l = quiet
event_of_going_on (drop_link i) l = quiet
event_of_going_on (ask i) l = quiet
event_of_going_on (drop_ask i) l = quiet
event_of_going_on drain l = quiet
event_of_going_on (step i) l = cond (is_line_1 l) (line_1 i) (cond (is_compare l) (failed_compare i) quiet)

-- 0 for the owner's take, which compares nothing
abbrev pub event_of_hand_out : Call → Line → Task → Event
event_of_hand_out (begin i o) l t = handed_out 0 t
event_of_hand_out (drop_link i) l t = handed_out 0 t
event_of_hand_out (ask i) l t = handed_out 0 t
event_of_hand_out (drop_ask i) l t = handed_out 0 t
event_of_hand_out drain l t = handed_out 0 t
event_of_hand_out (step i) l t = cond (is_compare l) (handed_out i t) (handed_out 0 t)

-- δ: stores are delayed; y of them wait
abbrev pub event_of_finish : Bool → ℕ → Task → Event
event_of_finish true y t = waiting_put t (y + 1)
event_of_finish false y t = finished_put t

abbrev pub event_of : ℕ → Bool → ℕ → Call → Line → Answer → Event
event_of ω δ y c l Accepted = quiet
event_of ω δ y c l (Numbered n) = event_of_begin ω c n
event_of ω δ y c l GoesOn = event_of_going_on c l
event_of ω δ y c l (Finished i t) = event_of_finish δ y t
event_of ω δ y c l (HandedOut i t) = event_of_hand_out c l t
event_of ω δ y c l (Empty i) = found_empty i
event_of ω δ y c l (Full i t) = found_full t
event_of ω δ y c l (Grown i) = quiet
event_of ω δ y c l (Refused r) = quiet

-- a drain puts down the store s: a put's task is then the one that stands at the anchor's top
abbrev pub top_task : ℕ → List ℕ → Queue → ℕ → Task
top_task ω m q i = gathered (ω + 1) (cell ω m (off q) (size ω q) i)

abbrev pub top_of : Kind → Anchor → ℕ
top_of Lifo r = r.count - 1
top_of Fifo r = r.count - 1
top_of Deque r = r.head + (r.count - 1)

abbrev pub event_of_drain : Kind → ℕ → Queue → List ℕ → Store → Event
event_of_drain κ ω q m (StoreWord b s j x) = drained
event_of_drain κ ω q m (StoreNote k) = drained
event_of_drain κ ω q m (StorePut r) = finished_put (top_task ω m q (top_of κ r))
event_of_drain κ ω q m (StoreOut r) = drained
event_of_drain κ ω q m (StoreHead i) = drained
event_of_drain κ ω q m (StoreTail i) = finished_put (top_task ω m q (i - 1))

abbrev pub History : Type 0
History = List Event

abbrev pub Out : Task → History → Type 0
Out t h = (i : ℕ) × Memᴰ (handed_out i t) h

-- puts finished since worker i's newest line 1
abbrev pub puts_since_event : ℕ → Event → ℕ → ℕ
puts_since_event i quiet n = n
puts_since_event i (line_1 j) n = cond (eqb j i) 0 n
puts_since_event i (finished_put t) n = suc n
puts_since_event i (handed_out j t) n = n
puts_since_event i (failed_compare j) n = n
puts_since_event i (found_empty j) n = n
puts_since_event i (began_put t) n = n
puts_since_event i (found_full t) n = n
puts_since_event i (waiting_put t y) n = n
puts_since_event i drained n = n

abbrev pub puts_since : ℕ → History → ℕ
puts_since i [] = 0
puts_since i (e ∷ h) = puts_since_event i e (puts_since i h)

-- the history at worker i's newest line 1
abbrev pub history_at_event : ℕ → Event → History → History → History
history_at_event i quiet h r = r
history_at_event i (line_1 j) h r = cond (eqb j i) h r
history_at_event i (finished_put t) h r = r
history_at_event i (handed_out j t) h r = r
history_at_event i (failed_compare j) h r = r
history_at_event i (found_empty j) h r = r
history_at_event i (began_put t) h r = r
history_at_event i (found_full t) h r = r
history_at_event i (waiting_put t y) h r = r
history_at_event i drained h r = r

abbrev pub history_at : ℕ → History → History
history_at i [] = []
history_at i (e ∷ h) = history_at_event i e h (history_at i h)

-- the premise: at a thief's compare, of a queue with a tag
abbrev pub PremiseAt : Kind → ℕ → Event → History → Type 0
PremiseAt κ w quiet h = Unit {0}
PremiseAt κ w (line_1 j) h = Unit {0}
PremiseAt κ w (finished_put t) h = Unit {0}
PremiseAt κ w (handed_out zero t) h = Unit {0}
PremiseAt κ w (handed_out (suc k) t) h = Memᴰ (line_1 (suc k)) h → Few κ w (puts_since (suc k) h)
PremiseAt κ w (failed_compare j) h = Memᴰ (line_1 j) h → Few κ w (puts_since j h)
PremiseAt κ w (found_empty j) h = Unit {0}
PremiseAt κ w (began_put t) h = Unit {0}
PremiseAt κ w (found_full t) h = Unit {0}
PremiseAt κ w (waiting_put t y) h = Unit {0}
PremiseAt κ w drained h = Unit {0}

abbrev pub Premise : Kind → ℕ → History → Type 0
Premise κ w [] = Unit {0}
Premise κ w (e ∷ h) = PremiseAt κ w e h × Premise κ w h

-- a put's task was answered finished
abbrev pub Told : Task → History → Type 0
Told t h = Memᴰ (finished_put t) h ⊎ ((n : ℕ) × Memᴰ (waiting_put t n) h)

-- before its anchor store comes to memory a put was begun, and with delayed stores answered finished
abbrev pub Answered : Bool → Task → History → Type 0
Answered true t h = (n : ℕ) × Memᴰ (waiting_put t n) h
Answered false t h = Memᴰ (began_put t) h

-- whom an EMPTY of worker i concerns: all that were answered finished; for a thief, all in memory
abbrev pub Concerns : ℕ → Task → History → Type 0
Concerns zero t h = Told t h
Concerns (suc i) t h = Memᴰ (finished_put t) h

-- all of them that were so at worker i's line 1 have been handed out
abbrev pub Emptied : ℕ → History → Type 0
Emptied i h = (t : Task) → Concerns i t (history_at i h) → Out t h

abbrev pub GoodEvent : Bool → Event → History → Type 0
GoodEvent δ quiet h = Unit {0}
GoodEvent δ (line_1 j) h = Unit {0}
GoodEvent δ (finished_put t) h = Answered δ t h
GoodEvent δ (handed_out j t) h = Told t h
GoodEvent δ (failed_compare j) h = Unit {0}
GoodEvent δ (found_empty j) h = Memᴰ (line_1 j) h × Emptied j h
GoodEvent δ (began_put t) h = Unit {0}
GoodEvent δ (found_full t) h = Unit {0}
GoodEvent δ (waiting_put t y) h = Memᴰ (began_put t) h
GoodEvent δ drained h = Unit {0}

abbrev pub GoodHistory : Bool → History → Type 0
GoodHistory δ [] = Unit {0}
GoodHistory δ (e ∷ h) = GoodEvent δ e h × GoodHistory δ h
