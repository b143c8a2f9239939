-- A state of this shape is within the limits.
use mathlib.Core.Path.{◌≡◌, refl, sym, subst}
use mathlib.Core.Bool.{Bool, true, false, not}
use mathlib.Core.Logic.{inl, inr}
use mathlib.Core.List.{List, [], ◌∷◌}
use Prim.Native.Nat.{ℕ, zero, suc, ◌+◌, ◌-◌, ◌^◌, ◌≤◌, ◌<◌}
use native.Mathlib.Omega.{arith}
use native.Mathlib.Nat.{mod-lt}
use lib.Dec.{ltb, leb}
use lib.ListN.{length}
use borrow.Author.Tests.{eq-eqb, le-leb, lt-ltb, ltb-false}
use Rattle.model.specs.declared.Growth.{Growth}
use Rattle.model.specs.declared.Growth.TheVariants.{ForPut, ForCommit}
use Rattle.model.specs.declared.Kind.{Kind}
use Rattle.model.specs.declared.Kind.TheVariants.{Lifo, Fifo, Deque}
use Rattle.model.specs.declared.Line.{Line}
use Rattle.model.specs.declared.Line.TheVariants.{Idle, PutRead, PutTail, PutTest, PutWord, PutFinish, Claim, Note, Copy, Publish, TakeRead, TakeTail, TakeTest, TakeWord, TakeFinish, StealRead, StealTail, StealTest, StealNote, StealWord, StealNext, StealCompare}
use Rattle.model.specs.declared.Queue.{Queue}
use Rattle.model.specs.declared.Bench.{Bench}
use Rattle.model.specs.declared.Region.{Region}
use Rattle.model.specs.declared.Store.{Store}
use Rattle.model.specs.declared.Store.TheVariants.{StoreWord, StoreNote, StorePut, StoreOut, StoreHead, StoreTail}
use Rattle.model.specs.Memory.{size_at, usable}
use Rattle.model.specs.declared.Worker.{Worker}
use Rattle.model.specs.declared.Anchor.{Anchor}
use Rattle.model.specs.declared.Task.{Task}
use Rattle.model.proofs.Tasks.{none_from_lem}
use Rattle.model.specs.Tests.{when◌then◌else◌, ◌and◌, ◌or◌}
use Rattle.model.proofs.Tests.{and_both, or_either}
use Rattle.model.specs.Lines.{size, holds_link}
use Rattle.model.specs.Stores.{Shared, in_line, taken, words_taken}
use Rattle.model.specs.World.{World, tag_bits, line_at, is_idle, owners_view}
use Rattle.model.specs.Limits.{kind_ok, link_ok, links_ok, task_ok, number_ok, anchor_ok, read_ok, head_ok, room_ok, some_ok, noted_ok, slot_ok, is_deque, next_ok, owner_ok, thief_ok, thieves_ok, has_anchor, stores_ok, bench_ok, valid_of, growth_ok, log_ok}
use Rattle.theorems.proofs.Folds.{places, laid, words, landed_is}
use Rattle.theorems.proofs.Directory.{Arrays, tidy_below}
use Rattle.theorems.proofs.Asides.{Aside, ok_aside}
use Rattle.theorems.proofs.Shape.{open_for, KnownFor, tail, Bounded, Head, OwnRead, Some, Span, Early, ThiefRead, Slot, Double, After, Known, pending, Spent, OwnShape, ThiefShape, tails, lows, FitAnchor, FitHead, FitTail, Path, Shape, Spare}
use Rattle.theorems.proofs.ShapeLay.{shape_settle, tails_is}
use Rattle.theorems.proofs.ShapeClaim.{path_places}

-- the last head that a FIFO's owner read is no higher than the tail
abbrev LowOk : Kind → ℕ → ℕ → Type 0
LowOk Lifo low τ = Unit {0}
LowOk Fifo low τ = low ≤ τ
LowOk Deque low τ = Unit {0}

low_ok : (κ : Kind) (w z low : ℕ) (a : Anchor) → Bounded κ w z low a → LowOk κ low (tail κ a)
low_ok Lifo w z low q A = tt
low_ok Fifo w z low r (a, b, d, e) = omega arith
low_ok Deque w z low q A = tt

tail_ok : (κ : Kind) (a : Anchor) (o : Line) (used : ℕ) → pending o ≤ 1 → used ≤ 65535 → Spent κ (tail κ a) o used → tail κ a + pending o ≤ 65535
tail_ok Lifo a o used p u s = omega arith
tail_ok Fifo a o used p u s = omega arith
tail_ok Deque a o used p u s = omega arith

ok_anchor : (κ : Kind) (w z low : ℕ) (r : Anchor) → tail κ r ≤ 65535 → Bounded κ w z low r → anchor_ok κ w z r ≡ true
ok_anchor Lifo w z low r τ (a, b, d) = and_both _ _ (and_both _ _ (eq-eqb _ _ a) (and_both _ _ (le-leb _ _ b) (lt-ltb _ _ d))) refl
ok_anchor Fifo w z low r τ (a, b, d, e) = and_both _ _ (and_both _ _ (le-leb _ _ b) (and_both _ _ (le-leb _ _ τ) (eq-eqb _ _ e))) (le-leb (r.count - r.head) z (omega arith))
ok_anchor Deque w z low r τ (a, b, d) = and_both _ _ (and_both _ _ (lt-ltb _ _ a) (and_both _ _ (le-leb _ _ b) (lt-ltb _ _ d))) refl

ok_head : (κ : Kind) (h low τ : ℕ) → τ ≤ 65535 → LowOk κ low τ → Head κ h low → head_ok κ h ≡ true
ok_head Lifo h low τ b l s = absurd s
ok_head Fifo h low τ b l s = le-leb h 65535 (omega arith)
ok_head Deque h low τ b l s = absurd s

ok_own : (κ : Kind) (w z low τ : ℕ) (r : Anchor) → τ ≤ 65535 → LowOk κ low τ → OwnRead κ w z low τ r → read_ok κ w z r ≡ true
ok_own Lifo w z low τ r u l (a, b, d) = and_both _ _ (eq-eqb r.head 0 a) (and_both _ _ (le-leb r.count z b) (lt-ltb r.tag (2 ^ w) d))
ok_own Fifo w z low τ r u l (a, b, d) = and_both _ _ (le-leb r.head r.count (omega arith)) (and_both _ _ (le-leb r.count 65535 (omega arith)) (eq-eqb r.tag 0 d))
ok_own Deque w z low τ r u l (a, b, d) = and_both _ _ (lt-ltb r.head 2048 a) (and_both _ _ (le-leb r.count z b) (lt-ltb r.tag (2 ^ w) d))

ok_room : (κ : Kind) (w z low τ : ℕ) (r : Anchor) → τ + 1 ≤ 65535 → OwnRead κ w z low τ r → Spare κ z low r.count → room_ok κ z r ≡ true
ok_room Lifo w z low τ r u R ρ = lt-ltb r.count z ρ
ok_room Fifo w z low τ r u (a, b, d) ρ = lt-ltb r.count 65535 (omega arith)
ok_room Deque w z low τ r u R ρ = lt-ltb r.count z ρ

ok_some : (κ : Kind) (r : Anchor) → Some κ r → some_ok κ r ≡ true
ok_some Lifo r s = lt-ltb 0 r.count s
ok_some Fifo r s = refl
ok_some Deque r s = lt-ltb 0 r.count s

ok_span : (κ : Kind) (τ h q : ℕ) → τ ≤ 65535 → Span κ τ h q → noted_ok κ h q ≡ true
ok_span Lifo τ h q u s = eq-eqb h 0 s
ok_span Fifo τ h q u s = le-leb (h + q) 65535 (omega arith)
ok_span Deque τ h q u s = lt-ltb h 2048 s

ok_task : (n : ℕ) (t : Task) → Known n t → task_ok n t ≡ true
ok_task n t (a, e) = and_both _ _ (le-leb t.number 65535 a) (none_from_lem n t e)

ok_growth : (ω : ℕ) (g : Growth) → KnownFor ω g → growth_ok ω g ≡ true
ok_growth ω (ForPut t) s = ok_task (ω + 1) t s
ok_growth ω ForCommit s = refl

ok_owner : (κ : Kind) (w ω : ℕ) (q : Queue) (low τ : ℕ) (o : Line) → τ + pending o ≤ 65535 → LowOk κ low τ → OwnShape κ w ω (size ω q) low τ o → owner_ok κ w ω q o ≡ true
ok_owner κ w ω q low τ Idle u l s = and_both _ _ refl refl
ok_owner κ w ω q low τ (PutRead t) u l s = and_both _ _ refl (ok_task (ω + 1) t s)
ok_owner κ w ω q low τ (PutTail t h) u l (a, b) = and_both _ _ refl (and_both _ _ (ok_task (ω + 1) t a) (ok_head κ h low τ (omega arith) l b))
ok_owner κ w ω q low τ (PutTest t r) u l (a, b) = and_both _ _ refl (and_both _ _ (ok_task (ω + 1) t a) (ok_own κ w (size ω q) low τ r (omega arith) l b))
ok_owner κ w ω q low τ (PutWord t r j) u l (a, b, d, e) =
    and_both _ _ refl (and_both _ _ (ok_task (ω + 1) t a) (and_both _ _ (ok_own κ w (size ω q) low τ r (omega arith) l b) (and_both _ _ (ok_room κ w (size ω q) low τ r u b d) (le-leb j ω e))))
ok_owner κ w ω q low τ (PutFinish t r) u l (a, b, d) =
    and_both _ _ refl (and_both _ _ (ok_task (ω + 1) t a) (and_both _ _ (ok_own κ w (size ω q) low τ r (omega arith) l b) (ok_room κ w (size ω q) low τ r u b d)))
ok_owner κ w ω q low τ (Claim ForCommit) u l s = and_both _ _ refl refl
ok_owner κ w ω q low τ (Claim (ForPut t)) u l s = and_both _ _ refl (ok_task (ω + 1) t s)
ok_owner κ w ω q low τ (Note t) u l s = and_both _ _ refl (ok_growth ω t s)
ok_owner κ w ω q low τ (Copy t h j k) u l (a, b, d, e) =
    and_both _ _ refl (and_both _ _ (ok_growth ω t a) (and_both _ _ (ok_span κ τ h j (omega arith) b) (and_both _ _ (le-leb j (size ω q) d) (lt-ltb k j e))))
ok_owner κ w ω q low τ (Publish t) u l s = and_both _ _ refl (ok_growth ω t s)
ok_owner κ w ω q low τ TakeRead u l s = and_both _ _ refl refl
ok_owner κ w ω q low τ (TakeTail h) u l s = and_both _ _ refl (ok_head κ h low τ (omega arith) l s)
ok_owner κ w ω q low τ (TakeTest r) u l s = and_both _ _ refl (ok_own κ w (size ω q) low τ r (omega arith) l s)
ok_owner κ w ω q low τ (TakeWord r t j) u l (a, b, d, e) =
    and_both _ _ refl (and_both _ _ (ok_own κ w (size ω q) low τ r (omega arith) l a) (and_both _ _ (ok_some κ r b) (and_both _ _ (ok_task j t d) (le-leb j ω e))))
ok_owner κ w ω q low τ (TakeFinish r t) u l (a, b, d) =
    and_both _ _ refl (and_both _ _ (ok_own κ w (size ω q) low τ r (omega arith) l a) (and_both _ _ (ok_some κ r b) (ok_task (ω + 1) t d)))
ok_owner κ w ω q low τ StealRead u l s = absurd s
ok_owner κ w ω q low τ (StealTail h) u l s = absurd s
ok_owner κ w ω q low τ (StealTest r) u l s = absurd s
ok_owner κ w ω q low τ (StealNote r) u l s = absurd s
ok_owner κ w ω q low τ (StealWord r k t j) u l s = absurd s
ok_owner κ w ω q low τ (StealNext r t) u l s = absurd s
ok_owner κ w ω q low τ (StealCompare r e t) u l s = absurd s

ok_early : (κ : Kind) (τ h : ℕ) → τ ≤ 65535 → Early κ τ h → head_ok κ h ≡ true
ok_early Lifo τ h u s = absurd s
ok_early Fifo τ h u s = le-leb h 65535 (omega arith)
ok_early Deque τ h u s = absurd s

ok_read : (κ : Kind) (w z τ : ℕ) (r : Anchor) → τ ≤ 65535 → ThiefRead κ w z τ r → read_ok κ w z r ≡ true
ok_read Lifo w z τ r u (a, b, d) = and_both _ _ (eq-eqb r.head 0 a) (and_both _ _ (le-leb r.count z b) (lt-ltb r.tag (2 ^ w) d))
ok_read Fifo w z τ r u (a, b, d) = and_both _ _ (le-leb r.head r.count a) (and_both _ _ (le-leb r.count 65535 (omega arith)) (eq-eqb r.tag 0 d))
ok_read Deque w z τ r u (a, b, d) = and_both _ _ (lt-ltb r.head 2048 a) (and_both _ _ (le-leb r.count z b) (lt-ltb r.tag (2 ^ w) d))

ok_slot : (κ : Kind) (z : ℕ) (r : Anchor) → Slot κ z r.count → slot_ok κ z r ≡ true
ok_slot Lifo z r s = le-leb r.count z s
ok_slot Fifo z r s = refl
ok_slot Deque z r s = refl

ok_double : (κ : Kind) → Double κ → is_deque κ ≡ true
ok_double Lifo d = absurd d
ok_double Fifo d = absurd d
ok_double Deque d = refl

ok_next : (κ : Kind) (h e : ℕ) → After κ h e → next_ok κ e ≡ true
ok_next Lifo h e a = eq-eqb e 0 a
ok_next Fifo h e a = eq-eqb e 0 a
ok_next Deque h e a = lt-ltb e 2048 (rw a (mod-lt (h + 1) (omega arith)))

ok_thief : (κ : Kind) (w ω : ℕ) (q : Queue) (τ : ℕ) (θ : Line) → τ ≤ 65535 → ThiefShape κ w ω q τ θ → thief_ok κ w ω q θ ≡ true
unfolding ◌or◌
ok_thief κ w ω q τ Idle u s = and_both _ _ refl refl
ok_thief κ w ω q τ StealRead u s = and_both _ _ refl refl
ok_thief κ w ω q τ (StealTail h) u s = and_both _ _ refl (ok_early κ τ h u s)
ok_thief κ w ω q τ (StealTest r) u s = and_both _ _ refl (ok_read κ w (size ω q) τ r u s)
ok_thief κ w ω q τ (StealNote r) u (a, b) = and_both _ _ refl (and_both _ _ (ok_read κ w (size ω q) τ r u a) (ok_some κ r b))
ok_thief κ w ω q τ (StealWord r k t j) u (a, b, d, e, f, g) =
    and_both _ _ refl
    (and_both _ _ (ok_read κ w (size ω q) τ r u a)
    (and_both _ _ (ok_some κ r b) (and_both _ _ (and_both _ _ (lt-ltb k _ d) (ok_slot κ _ r e)) (and_both _ _ (ok_task j t f) (le-leb j ω g)))))
ok_thief κ w ω q τ (StealNext r t) u (a, b, d, e) =
    and_both _ _ refl (and_both _ _ (ok_read κ w (size ω q) τ r u a) (and_both _ _ (ok_some κ r b) (and_both _ _ (ok_double κ d) (ok_task (ω + 1) t e))))
ok_thief κ w ω q τ (StealCompare r i t) u (a, b, d, e) =
    and_both _ _ refl (and_both _ _ (ok_read κ w (size ω q) τ r u a) (and_both _ _ (ok_some κ r b) (and_both _ _ (ok_next κ r.head i d) (ok_task (ω + 1) t e))))
ok_thief κ w ω q τ (PutRead t) u s = absurd s
ok_thief κ w ω q τ (PutTail t h) u s = absurd s
ok_thief κ w ω q τ (PutTest t r) u s = absurd s
ok_thief κ w ω q τ (PutWord t r j) u s = absurd s
ok_thief κ w ω q τ (PutFinish t r) u s = absurd s
ok_thief κ w ω q τ (Claim t) u s = absurd s
ok_thief κ w ω q τ (Note t) u s = absurd s
ok_thief κ w ω q τ (Copy t h j i) u s = absurd s
ok_thief κ w ω q τ (Publish t) u s = absurd s
ok_thief κ w ω q τ TakeRead u s = absurd s
ok_thief κ w ω q τ (TakeTail h) u s = absurd s
ok_thief κ w ω q τ (TakeTest r) u s = absurd s
ok_thief κ w ω q τ (TakeWord r t j) u s = absurd s
ok_thief κ w ω q τ (TakeFinish r t) u s = absurd s

ok_thieves : (κ : Kind) (w ω : ℕ) (q : Queue) (τ team : ℕ) (l : List Worker) → τ ≤ 65535 → ((k : ℕ) → ThiefShape κ w ω q τ (line_at l (suc k)))
    → ((k : ℕ) → team ≤ k → is_idle (line_at l k) ≡ true) → (n : ℕ) → thieves_ok κ w ω q team l n ≡ true
unfolding when◌then◌else◌
ok_thieves κ w ω q τ team l u s ρ zero = refl
ok_thieves κ w ω q τ team l u s ρ (suc k) = and_both _ _ (ok_thieves κ w ω q τ team l u s ρ k) (pick (ltb (suc k) team) refl)
  where
    pick : (x : Bool) → ltb (suc k) team ≡ x → (when x then thief_ok κ w ω q (line_at l (suc k)) else is_idle (line_at l (suc k))) ≡ true
    pick true e = ok_thief κ w ω q τ (line_at l (suc k)) u (s k)
    pick false e = ρ (suc k) (ltb-false (suc k) team e)

-- every link is that of a thief past its line 1, which has read the anchor as it is
abbrev pub LinksOk : Kind → Queue → List Worker → Type 0
LinksOk κ q l = (k : ℕ) → holds_link q k ≡ true → link_ok κ q (line_at l k) ≡ true

ok_links : (κ : Kind) (q : Queue) (l : List Worker) → LinksOk κ q l → (n : ℕ) → links_ok κ q l n ≡ true
ok_links κ q l f zero = refl
ok_links κ q l f (suc k) = and_both _ _ (ok_links κ q l f k) (pick (holds_link q k) refl)
  where
    pick : (x : Bool) → holds_link q k ≡ x → (not x or link_ok κ q (line_at l k)) ≡ true
    pick true e = or_either _ _ (inr (f k e))
    pick false e = or_either _ _ (inl refl)

open_le : (g : Growth) → open_for g ≤ 1
open_le (ForPut t) = omega arith
open_le ForCommit = omega arith

pending_le : (o : Line) → pending o ≤ 1
pending_le Idle = omega arith
pending_le (PutRead t) = omega arith
pending_le (PutTail t h) = omega arith
pending_le (PutTest t r) = omega arith
pending_le (PutWord t r j) = omega arith
pending_le (PutFinish t r) = omega arith
pending_le (Claim t) = open_le t
pending_le (Note t) = open_le t
pending_le (Copy t h j i) = open_le t
pending_le (Publish t) = open_le t
pending_le TakeRead = omega arith
pending_le (TakeTail h) = omega arith
pending_le (TakeTest r) = omega arith
pending_le (TakeWord r t j) = omega arith
pending_le (TakeFinish r t) = omega arith
pending_le StealRead = omega arith
pending_le (StealTail h) = omega arith
pending_le (StealTest r) = omega arith
pending_le (StealNote r) = omega arith
pending_le (StealWord r k t j) = omega arith
pending_le (StealNext r t) = omega arith
pending_le (StealCompare r e t) = omega arith

abbrev pub thieves : List Worker → ℕ → Line
thieves l k = line_at l (suc k)

-- THE STORES THAT WAIT. Tails rise
path_tails : (κ : Kind) (w ω : ℕ) (l : List Region) (c low p τ : ℕ) (ss : List Store) → Path κ w ω l c low p τ ss → τ ≤ tails ss τ
path_tails κ w ω l c low p τ [] P = omega arith
path_tails κ w ω l c low p τ (StoreWord b s j x ∷ ss) P = path_tails κ w ω l c low p τ ss P.1
path_tails κ w ω l c low p τ (StoreNote k ∷ ss) P = path_tails κ w ω l c low (k + 1) τ ss P.1
path_tails κ w ω l c low p τ (StorePut r ∷ ss) P = path_tails κ w ω l c low p τ ss P.1
path_tails κ w ω l c low p τ (StoreOut r ∷ ss) P = path_tails κ w ω l c low p τ ss P.1
path_tails κ w ω l c low p τ (StoreHead i ∷ ss) P = path_tails κ w ω l c i p τ ss P.1
path_tails Lifo w ω l c low p τ (StoreTail i ∷ ss) P = absurd P.0
path_tails Fifo w ω l c low p τ (StoreTail i ∷ ss) P = omega (arith, P.0.0, path_tails Fifo w ω l c low p i ss P.1)
path_tails Deque w ω l c low p τ (StoreTail i ∷ ss) P = absurd P.0

ok_whole : (κ : Kind) (w z z' : ℕ) (r : Anchor) → z ≤ z' → FitAnchor κ w z r → has_anchor κ and read_ok κ w z' r ≡ true
ok_whole Lifo w z z' r l (a, b, d) = and_both _ _ refl (and_both _ _ (eq-eqb r.head 0 a) (and_both _ _ (le-leb r.count z' (omega arith)) (lt-ltb r.tag (2 ^ w) d)))
ok_whole Fifo w z z' r l f = absurd f
ok_whole Deque w z z' r l (a, b, d) = and_both _ _ refl (and_both _ _ (lt-ltb r.head 2048 a) (and_both _ _ (le-leb r.count z' (omega arith)) (lt-ltb r.tag (2 ^ w) d)))

ok_head_store : (κ : Kind) (low τ i : ℕ) (a : Anchor) → τ ≤ tail κ a → tail κ a ≤ 65535 → FitHead κ low τ i → head_ok κ i and leb i a.count ≡ true
ok_head_store Lifo low τ i a h l f = absurd f
ok_head_store Fifo low τ i a h l f = and_both _ _ (le-leb i 65535 (omega (arith, f.1))) (le-leb i a.count (omega (arith, f.1)))
ok_head_store Deque low τ i a h l f = absurd f

ok_tail_store : (κ : Kind) (z low τ i : ℕ) → i ≤ 65535 → FitTail κ z low τ i → head_ok κ i ≡ true
ok_tail_store Lifo z low τ i h f = absurd f
ok_tail_store Fifo z low τ i h f = le-leb i 65535 h
ok_tail_store Deque z low τ i h f = absurd f

ok_word : (j x : ℕ) → (j ≡ 0 → x ≤ 65535) → ltb 0 j or number_ok x ≡ true
ok_word zero x f = or_either _ _ (inr (le-leb x 65535 (f refl)))
ok_word (suc j) x f = or_either _ _ (inl (lt-ltb 0 (suc j) (omega arith)))

-- each against the queue v as the owner reads it
ok_stores : (κ : Kind) (w ω low p τ : ℕ) (v : Queue) (ss : List Store) → ((j k : ℕ) → j ≤ k → k < v.claimed → size_at ω v.arrays j ≤ size_at ω v.arrays k) → 0 < p → p ≤ v.claimed
    → v.published ≡ places ss p → tail κ v.anchor ≡ tails ss τ → tail κ v.anchor ≤ 65535 → Path κ w ω v.arrays v.claimed low p τ ss → stores_ok κ w ω v ss ≡ true
ok_stores κ w ω low p τ v [] mono pos h ep et hv P = refl
ok_stores κ w ω low p τ v (StoreWord b s j x ∷ ss) mono pos h ep et hv (f, P) =
    and_both _ _ (and_both _ _ (lt-ltb b v.claimed f.0) (and_both _ _ (lt-ltb s _ f.1) (and_both _ _ (le-leb j ω f.2) (ok_word j x f.3)))) (ok_stores κ w ω low p τ v ss mono pos h ep et hv P)
ok_stores κ w ω low p τ v (StoreNote k ∷ ss) mono pos h ep et hv (f, P) =
    let y = path_places κ w ω _ _ low (k + 1) τ ss (omega (arith, f.0, f.1)) P in
    and_both _ _ (lt-ltb k v.published (omega (arith, ep, y.0))) (ok_stores κ w ω low (k + 1) τ v ss mono (omega arith) (omega (arith, f.0, f.1)) ep et hv P)
ok_stores κ w ω low p τ v (StorePut r ∷ ss) mono pos h ep et hv (f, P) =
    let y = path_places κ w ω _ _ low p τ ss h P in
    and_both _ _ (ok_whole κ w _ (size ω v) r (mono (p - 1) (v.published - 1) (omega (arith, ep, y.0)) (omega (arith, ep, y.1, y.0))) f) (ok_stores κ w ω low p τ v ss mono pos h ep et hv P)
ok_stores κ w ω low p τ v (StoreOut r ∷ ss) mono pos h ep et hv (f, P) =
    let y = path_places κ w ω _ _ low p τ ss h P in
    and_both _ _ (ok_whole κ w _ (size ω v) r (mono (p - 1) (v.published - 1) (omega (arith, ep, y.0)) (omega (arith, ep, y.1, y.0))) f) (ok_stores κ w ω low p τ v ss mono pos h ep et hv P)
ok_stores κ w ω low p τ v (StoreHead i ∷ ss) mono pos h ep et hv (f, P) =
    and_both _ _ (ok_head_store κ low τ i v.anchor (omega (arith, et, path_tails κ w ω _ _ i p τ ss P)) hv f) (ok_stores κ w ω i p τ v ss mono pos h ep et hv P)
ok_stores κ w ω low p τ v (StoreTail i ∷ ss) mono pos h ep et hv (f, P) =
    and_both _ _ (ok_tail_store κ _ low τ i (omega (arith, et, path_tails κ w ω _ _ low p i ss P)) f) (ok_stores κ w ω low p i v ss mono pos h ep et hv P)

-- a world's state, store and log
pub record Whole (W : World) : Type 0 where
  pub kinds : kind_ok W.bench.kind W.bench.queue.linked ≡ true
  pub width : (0 < W.bench.width) × (W.bench.width ≤ 16)
  pub words : (0 < W.bench.words) × (W.bench.words ≤ 4)
  pub crew : (0 < W.bench.crew) × (W.bench.crew ≤ 8)
  pub workers : length W.bench.workers ≡ 8
  pub rest : (k : ℕ) → W.bench.crew ≤ k → is_idle (line_at W.bench.workers k) ≡ true
  pub used : W.bench.used ≤ 65535
  pub logged : W.bench.written ≤ length W.log
  pub links : LinksOk W.bench.kind W.bench.queue W.bench.workers
  pub stores : length W.bench.waiting.stores ≡ 8
  pub line : W.bench.waiting.count ≤ 8
  pub mode : W.bench.delayed ≡ false → W.bench.waiting.count ≡ 0
  pub aside : Aside W.bench.words (laid (in_line W.bench.waiting) W.bench.queue) (line_at W.bench.workers 0) W.bench.aside
  pub low : ℕ
  pub shape : Shape W.bench.kind (tag_bits W.bench) W.bench.words W.bench.used low W.bench.queue W.store (in_line W.bench.waiting) (line_at W.bench.workers 0) (thieves W.bench.workers)

ok_count : (δ : Bool) (n : ℕ) → n ≤ 8 → (δ ≡ false → n ≡ 0) → leb n (when δ then 8 else 0) ≡ true
unfolding when◌then◌else◌
ok_count true n h f = le-leb n 8 h
ok_count false n h f = le-leb n 0 (omega (arith, f refl))

-- a queue that is not linked has a tag
pub tagged : {W : World} → Whole W → W.bench.queue.linked ≡ false → 0 < tag_bits W.bench
unfolding when◌then◌else◌
tagged {W} H e = subst (λ (x : Bool). 0 < (when x then 0 else W.bench.width)) (sym e) H.width.0

-- a whole state is within the limits of its queue
pub own_valid : (W : World) → Whole W → bench_ok W.bench W.bench.queue (owners_view W).queue ≡ true
own_valid W H =
    subst (λ (S : Shared). bench_ok W.bench W.bench.queue S.queue ≡ true) (sym (landed_is ω q W.store ss))
    (and_both _ _ H.kinds
    (and_both _ _ (and_both _ _ (lt-ltb _ _ H.width.0) (le-leb _ _ H.width.1))
    (and_both _ _ (and_both _ _ (lt-ltb _ _ H.words.0) (le-leb _ _ H.words.1))
    (and_both _ _ (and_both _ _ (lt-ltb _ _ H.crew.0) (le-leb _ _ H.crew.1))
    (and_both _ _ (and_both _ _ (lt-ltb _ _ A.some) (and_both _ _ (le-leb _ _ pl.0) (and_both _ _ (le-leb _ _ A.few) (and_both _ _ (eq-eqb _ _ S.own.claims) (and_both _ _ A.tidied (eq-eqb _ _ A.kept))))))
    (and_both _ _ (ok_anchor κ w (size ω q) H.low q.anchor (omega (arith, T, ts, te)) S.anchor)
    (and_both _ _ (ok_anchor κ w (size ω v) _ v.anchor (omega (arith, T)) B.anchor)
    (and_both _ _ (le-leb _ _ H.used)
    (and_both _ _ (and_both _ _ (ok_count W.bench.delayed W.bench.waiting.count H.line H.mode) (ok_stores κ w ω H.low q.published _ v ss mono A.some A.below refl (sym te) (omega (arith, T)) S.path))
    (and_both _ _ (ok_aside ω v o W.bench.aside H.aside)
    (and_both _ _ (ok_links κ q W.bench.workers H.links 8)
    (and_both _ _ (ok_owner κ w ω v _ (tail κ v.anchor) o T (low_ok κ w (size ω v) _ v.anchor B.anchor) B.own.shape)
    (ok_thieves κ w ω q (tail κ q.anchor) W.bench.crew W.bench.workers (omega (arith, T, ts, te)) S.th H.rest 7)))))))))))))
  where
    κ : Kind
    κ = W.bench.kind

    w : ℕ
    w = tag_bits W.bench

    ω : ℕ
    ω = W.bench.words

    q : Queue
    q = W.bench.queue

    ss : List Store
    ss = in_line W.bench.waiting

    v : Queue
    v = laid ss q

    o : Line
    o = line_at W.bench.workers 0

    S : Shape κ w ω W.bench.used H.low q W.store ss o (thieves W.bench.workers)
    S = H.shape

    B : Shape κ w ω W.bench.used (lows ss H.low) v (words ω q.arrays ss W.store) [] o (thieves W.bench.workers)
    B = shape_settle κ ss S

    A : Arrays ω q W.store
    A = S.arrays

    T : tail κ v.anchor + pending o ≤ 65535
    T = tail_ok κ v.anchor o W.bench.used (pending_le o) H.used B.own.spent

    te : tails ss (tail κ q.anchor) ≡ tail κ v.anchor
    te = tails_is κ w ω _ _ H.low _ ss q.anchor S.path

    ts : tail κ q.anchor ≤ tails ss (tail κ q.anchor)
    ts = path_tails κ w ω _ _ H.low _ _ ss S.path

    pl : (q.published ≤ v.published) × (v.published ≤ q.claimed)
    pl = path_places κ w ω _ _ H.low q.published _ ss A.below S.path

    mono : (j k : ℕ) → j ≤ k → k < q.claimed → size_at ω q.arrays j ≤ size_at ω q.arrays k
    mono j k h l = (tidy_below ω q.arrays q.claimed j k A.tidied h l).1

pub log_valid : (W : World) → Whole W → log_ok W.bench W.log ≡ true
log_valid W H = le-leb _ _ H.logged

-- a lone queue leaves no gap, and its words fit the store, those set aside counted
pub record Snug (b : Bench) (m : List ℕ) : Type 0 where
  pub close : taken b.queue ≤ words_taken b.queue
  pub fitting : words_taken b.queue + b.aside ≤ usable m

pub valid : (W : World) → Whole W → Snug W.bench W.store → valid_of W ≡ true
unfolding valid_of
valid W H s = and_both _ _ (own_valid W H) (and_both _ _ (log_valid W H) (and_both _ _ (le-leb _ _ s.close) (le-leb _ _ s.fitting)))
