-- What others write outside the queue's arrays keeps the shape and the invariant.
use mathlib.Core.Path.{◌≡◌, refl, sym, ◌∙◌, ap}
use mathlib.Core.Bool.{Bool, true}
use mathlib.Core.List.{List, [], ◌∷◌}
use Prim.Native.Nat.{ℕ, ◌+◌, ◌-◌, ◌*◌, ◌<◌}
use native.Mathlib.Omega.{arith}
use lib.ListN.{set, length-set}
use Rattle.model.specs.declared.Kind.{Kind}
use Rattle.model.specs.declared.Line.{Line}
use Rattle.model.specs.declared.Line.TheVariants.{Idle, PutRead, PutTail, PutTest, PutWord, PutFinish, Claim, Note, Copy, Publish, TakeRead, TakeTail, TakeTest, TakeWord, TakeFinish, StealRead, StealTail, StealTest, StealNote, StealWord, StealNext, StealCompare}
use Rattle.model.specs.declared.Queue.{Queue}
use Rattle.model.specs.declared.Region.{Region}
use Rattle.model.specs.declared.Store.{Store}
use Rattle.model.specs.declared.Store.TheVariants.{StoreWord, StoreNote, StorePut, StoreOut, StoreHead, StoreTail}
use Rattle.model.specs.Tests.{when◌then◌else◌}
use Rattle.model.specs.World.{is_expanding}
use Rattle.model.proofs.Directory.{size_pos}
use Rattle.model.proofs.Tasks.{same_words}
use Rattle.model.proofs.Tests.{if_true}
use Rattle.model.specs.Memory.{offset_at}
use Rattle.theorems.proofs.Folds.{places, laid, words, words_of}
use Rattle.theorems.proofs.Directory.{Arrays, Others, long_at, now}
use Rattle.theorems.proofs.Shape.{tail, Shape}
use Rattle.theorems.proofs.ShapeLay.{shape_settle}
use Rattle.theorems.proofs.Events.{History}
use Rattle.theorems.proofs.Window.{View}
use Rattle.theorems.proofs.Indices.{taken_ix}
use Rattle.theorems.proofs.Owed.{view, sight, los, his}
use Rattle.theorems.proofs.Invariant.{OwnerOk, Inv}
use Rattle.theorems.proofs.Laying.{base_store}
use Rattle.theorems.proofs.Claiming.{renew, set_agree, Agrees, cell_here, task_same, claimed_same, copied_same, Both, owed_same, order_same}
use Rattle.theorems.proofs.OwnerRun.{due_if_move}

-- the same stores put down on both
others_set : {q : Queue} {m m' : List ℕ} (a x : ℕ) → Others q m m' → Others q (set m a x) (set m' a x)
others_set {q} {m} {m'} a x O =
    record { long = length-set m' a x ∙ O.long ∙ sym (length-set m a x); same = λ k b h l r. set_agree m m' a x b O.long (O.same k b h l r) }

others_words : (ω : ℕ) (l : List Region) (q : Queue) (m m' : List ℕ) (ss : List Store) → Others q m m' → Others q (words ω l ss m) (words ω l ss m')
others_words ω l q m m' [] O = O
others_words ω l q m m' (StoreWord b s j x ∷ ss) O =
    others_words ω l q (words_of ω l (StoreWord b s j x) m) (words_of ω l (StoreWord b s j x) m') ss (others_set (offset_at l b + (ω + 1) * s + j) x O)
others_words ω l q m m' (StoreNote k ∷ ss) O = others_words ω l q m m' ss O
others_words ω l q m m' (StorePut r ∷ ss) O = others_words ω l q m m' ss O
others_words ω l q m m' (StoreOut r ∷ ss) O = others_words ω l q m m' ss O
others_words ω l q m m' (StoreHead i ∷ ss) O = others_words ω l q m m' ss O
others_words ω l q m m' (StoreTail i ∷ ss) O = others_words ω l q m m' ss O

-- what the owner reads
pub others_seen : (ω : ℕ) {q : Queue} {m m' : List ℕ} (ss : List Store) → Others q m m' → Others (laid ss q) (words ω q.arrays ss m) (words ω q.arrays ss m')
others_seen ω {q} {m} {m'} ss O = let P = others_words ω q.arrays q m m' ss O in record { long = P.long; same = P.same }

-- so the views agree
pub agrees_others : {ω : ℕ} {q : Queue} {m m' : List ℕ} (lo hi : ℕ) → Arrays ω q m → Others q m m' → Agrees q.claimed (view ω q m lo hi) m' q.arrays
agrees_others {ω} {q} lo hi A O =
    record {
      len = O.long;
      low = λ k a h l r. O.same k a h l (omega (arith, long_at A k h));
      offs = λ k h. refl;
      sizes = λ k h. refl;
      among = A.below;
      here = (q.published - 1, omega (arith, A.some, A.below), refl, refl);
      pos = size_pos (now A);
    }

module _ {c : ℕ} {v : View} {m : List ℕ} (A : Agrees c v m v.directory) where
  abbrev v' : View
  v' = renew v m v.directory

  own_others : (κ : Kind) (g : ℕ) (h : History) (o : Line) → (is_expanding o ≡ true → v.published < c) → OwnerOk κ v g h o → OwnerOk κ v' g h o
  own_others κ g h Idle new k = k
  own_others κ g h (PutRead t) new k = k
  own_others κ g h (PutTail t a) new k = k
  own_others κ g h (PutTest t r) new k = k
  own_others κ g h (PutWord t r j) new (b, (x, y, z, u, f)) = (b, (x, y, z, u, λ k l. cell_here A v.own_hi k (omega arith) ∙ f k l))
  own_others κ g h (PutFinish t r) new (b, (x, y, z, u)) = (b, (x, y, z, task_same A v.own_hi ∙ u))
  own_others κ g h (Claim t) new k = k
  own_others κ g h (Note t) new (b, C) = (b, claimed_same A (new refl) C)
  own_others κ g h (Copy t a q i) new (b, C, R) = (
    b,
    claimed_same A (new refl) C,
    record { from = R.from; start = R.start; low = R.low; high = R.high; few = R.few; more = R.more; copied = copied_same A (new refl) C R.from (R.from + i) R.copied },
  )
  own_others κ g h (Publish t) new (b, C, D) = (b, claimed_same A (new refl) C, copied_same A (new refl) C v.own_lo v.own_hi D)
  own_others κ g h TakeRead new k = k
  own_others κ g h (TakeTail a) new k = k
  own_others κ g h (TakeTest r) new k = k
  own_others κ g h (TakeWord r t j) new (a, b, d, e, u) =
      (a, b, d, e, u ∙ sym (same_words j _ _ (λ k l. cell_here A (taken_ix κ v.own_lo v.own_hi) k (omega arith))))
  own_others κ g h (TakeFinish r t) new (a, b, d, u) = (a, b, d, u ∙ sym (task_same A (taken_ix κ v.own_lo v.own_hi)))
  own_others κ g h StealRead new k = absurd k
  own_others κ g h (StealTail a) new k = absurd k
  own_others κ g h (StealTest r) new k = absurd k
  own_others κ g h (StealNote r) new k = absurd k
  own_others κ g h (StealWord r b t j) new k = absurd k
  own_others κ g h (StealNext r t) new k = absurd k
  own_others κ g h (StealCompare r i t) new k = absurd k

pub inv_others : {κ : Kind} {w ω used low : ℕ} {δ : Bool} {Q : Queue} {μ m : List ℕ} {ss : List Store} {o : Line} {φ : ℕ → Line} {h : History}
    → Shape κ w ω used low Q μ ss o φ → Others Q μ m → Inv κ w ω δ Q μ ss o φ h → Inv κ w ω δ Q m ss o φ h
unfolding when◌then◌else◌
inv_others {κ} {w} {ω} {used} {low} {δ} {Q} {μ} {m} {ss} {o} {φ} {h} S O I =
    record {
      own_lo = I.own_lo;
      own_hi = I.own_hi;
      base =
          base_store I.base m ss O.long (λ i j p q r. cell_here A i j r)
          (λ b z a y p q. A.low y.0 a (omega (arith, y.1, S.arrays.below)) (omega (arith, y.2)) (omega (arith, y.2, ap (λ (x : ℕ). (ω + 1) * x) y.3))) R.0;
      own = own_others A' κ _ h o new I.own;
      due = due_if_move δ κ _ _ ss h R.1 I.due;
      order = order_same κ w ω δ Q.arrays Q.claimed low (tail κ Q.anchor) Q.anchor.tag Q.anchor.head h ss (view ω Q μ I.own_lo I.own_hi) m Q.arrays A S.path I.base.owed I.order;
    }
  where
    A : Agrees Q.claimed (view ω Q μ I.own_lo I.own_hi) m Q.arrays
    A = agrees_others I.own_lo I.own_hi S.arrays O

    R : Both κ w δ Q.anchor.tag h ss (view ω Q μ I.own_lo I.own_hi) (renew (view ω Q μ I.own_lo I.own_hi) m Q.arrays)
    R = owed_same κ w ω δ Q.arrays Q.claimed low (tail κ Q.anchor) Q.anchor.tag h ss (view ω Q μ I.own_lo I.own_hi) m Q.arrays A S.path I.base.owed

    O' : Others (laid ss Q) (words ω Q.arrays ss μ) (words ω Q.arrays ss m)
    O' = others_seen ω ss O

    A' : Agrees Q.claimed (sight κ ω ss Q μ I.own_lo I.own_hi) (words ω Q.arrays ss m) Q.arrays
    A' = agrees_others {q = laid ss Q} (los ss I.own_lo) (his κ ss I.own_lo I.own_hi) (shape_settle κ ss S).arrays O'

    new : is_expanding o ≡ true → places ss Q.published < Q.claimed
    new e = let z : Q.claimed ≡ places ss Q.published + 1 = S.own.claims ∙ if_true (places ss Q.published) e in omega arith
