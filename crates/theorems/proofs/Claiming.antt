-- X1 while stores wait: the directory's new pair and the zeroed words lie behind all that the waiting stores touch.
use mathlib.Core.Path.{◌≡◌, refl, sym, ◌∙◌, ap, subst}
use mathlib.Core.Bool.{Bool, true}
use mathlib.Core.Logic.{◌≢◌, ◌⊎◌, inl, inr}
use mathlib.Core.List.{List, [], ◌∷◌}
use Prim.Native.Nat.{ℕ, zero, suc, ◌+◌, ◌-◌, ◌*◌, ◌≤◌, ◌<◌}
use native.Mathlib.Omega.{arith}
use lib.Dec.{leb}
use lib.ListN.{length, get_or, set, length-set}
use lib.Seq.{get_or-set_other, get_or-set_same, set_out}
use borrow.Author.Tests.{leb-true}
use Rattle.model.specs.declared.Room.{Room}
use Rattle.model.specs.declared.Growth.{Growth}
use Rattle.model.specs.declared.Kind.{Kind}
use Rattle.model.specs.declared.Kind.TheVariants.{Lifo, Fifo, Deque}
use Rattle.model.specs.declared.Line.{Line}
use Rattle.model.specs.declared.Line.TheVariants.{Claim}
use Rattle.model.specs.declared.Queue.{Queue}
use Rattle.model.specs.declared.Region.{Region}
use Rattle.model.specs.declared.Task.{Task}
use Rattle.model.specs.declared.Store.{Store}
use Rattle.model.specs.declared.Store.TheVariants.{StoreWord, StoreNote, StorePut, StoreOut, StoreHead, StoreTail}
use Rattle.theorems.proofs.Folds.{laid}
use Rattle.model.specs.Memory.{zeros, offset_at, length_at, size_at}
use Rattle.theorems.proofs.Words.{off, len}
use Rattle.model.specs.Lines.{size, fits}
use Rattle.model.specs.Stores.{taken, next_length, claiming}
use Rattle.model.proofs.Directory.{size_pos, tidy_front, tidy_long}
use Rattle.model.proofs.Tasks.{same_words}
use Rattle.theorems.proofs.Events.{History, Out, Answered}
use Rattle.theorems.proofs.Words.{addr, addr_in, cell, set_place, set_here, zeros_low, zeros_length}
use Rattle.theorems.proofs.Remainders.{le_or_lt}
use Rattle.theorems.proofs.Window.{View, word, task_at, core_words}
use Rattle.theorems.proofs.Order.{Order, Marks}
use Rattle.theorems.proofs.Seen.{frame_dir, Older}
use Rattle.theorems.proofs.Directory.{both, tidy_below, roomy, Free}
use Rattle.theorems.proofs.Owed.{view, sight, lay_view, tag_of, Claimed, Copied, Clear, Fits, Owed, Label}
use Rattle.theorems.proofs.Invariant.{Base, move_none, thief_holds, grow_same}
use Rattle.theorems.proofs.Laying.{base_line, base_store}
use Rattle.theorems.proofs.ShapeClaim.{words_length, path_places}
use Rattle.theorems.proofs.Asides.{at_rest}
use Rattle.theorems.proofs.Shape.{claim_expands, tail, Path, Shape}
use Rattle.theorems.proofs.ShapeLay.{shape_settle}
use Rattle.model.specs.Tests.{when◌then◌else◌}

-- the same view over another store and directory
abbrev pub renew : View → List ℕ → List Region → View
renew u m d = record { words = u.words; store = m; directory = d; published = u.published; base = u.base; slots = u.slots; own_lo = u.own_lo; own_hi = u.own_hi }

pub set_agree : (m m' : List ℕ) (a x b : ℕ) → length m' ≡ length m → get_or m' b 0 ≡ get_or m b 0 → get_or (set m' a x) b 0 ≡ get_or (set m a x) b 0
set_agree m m' a x b len e = go (le_or_lt a b) (le_or_lt b a) (le_or_lt (length m) a)
  where
    other : b ≢ a → get_or (set m' a x) b 0 ≡ get_or (set m a x) b 0
    other ne = get_or-set_other m' a b x 0 ne ∙ e ∙ sym (get_or-set_other m a b x 0 ne)

    go : (a ≤ b) ⊎ (b < a) → (b ≤ a) ⊎ (a < b) → (length m ≤ a) ⊎ (a < length m) → get_or (set m' a x) b 0 ≡ get_or (set m a x) b 0
    go (inr p) q r = other (omega arith)
    go (inl p) (inr q) r = other (omega arith)
    go (inl p) (inl q) (inl r) = rw (set_out m' a x (omega arith), set_out m a x r) e
    go (inl p) (inl q) (inr r) = rw (is, get_or-set_same m' a x 0 (omega arith), get_or-set_same m a x 0 r)
      where
        is : b ≡ a
        is = omega arith

-- c arrays of the directory, the published ones among them, are the same; so are the words in them
pub record Agrees (c : ℕ) (u : View) (m : List ℕ) (d : List Region) : Type 0 where
  pub len : length m ≡ length u.store
  pub low : (k a : ℕ) → k < c → offset_at u.directory k ≤ a → a < offset_at u.directory k + (u.words + 1) * size_at u.words u.directory k → get_or m a 0 ≡ get_or u.store a 0
  pub offs : (k : ℕ) → k < c → offset_at d k ≡ offset_at u.directory k
  pub sizes : (k : ℕ) → k < c → size_at u.words d k ≡ size_at u.words u.directory k
  pub among : u.published ≤ c
  pub here : (k : ℕ) × (k < c) × (offset_at u.directory k ≡ u.base) × (size_at u.words u.directory k ≡ u.slots)
  pub pos : 0 < u.slots

-- the arrays that a store needs are among them
abbrev Reach : ℕ → View → Store → Type 0
Reach c u (StoreWord b s j x) = b < c
Reach c u (StoreNote k) = u.published < c
Reach c u (StorePut r) = Unit {0}
Reach c u (StoreOut r) = Unit {0}
Reach c u (StoreHead i) = Unit {0}
Reach c u (StoreTail i) = Unit {0}

module _ {c : ℕ} {u : View} {m : List ℕ} {d : List Region} (A : Agrees c u m d) where
  pub cell_same : (k b z i j : ℕ) → k < c → offset_at u.directory k ≡ b → size_at u.words u.directory k ≡ z → 0 < z → j < u.words + 1 → cell u.words m b z i j ≡ cell u.words u.store b z i j
  unfolding cell
  cell_same k b z i j l eb ez hz hj =
      A.low k (addr u.words b z i j) l (omega (arith, eb)) (omega (arith, eb, ap (λ (x : ℕ). (u.words + 1) * x) ez, addr_in u.words b z i j hz hj))

  pub cell_here : (i j : ℕ) → j < u.words + 1 → cell u.words m u.base u.slots i j ≡ cell u.words u.store u.base u.slots i j
  cell_here i j hj = let H = A.here in cell_same H.0 u.base u.slots i j H.1 H.2 H.3 A.pos hj

  pub task_same : (i : ℕ) → task_at (renew u m d) i ≡ task_at u i
  task_same i = same_words (u.words + 1) _ _ (λ j h. cell_here i j h)

  older_same : (b z : ℕ) → Older (renew u m d) b z → Older u b z
  older_same b z (k, h, p, q) = (k, h, sym (A.offs k (omega (arith, A.among))) ∙ p, sym (A.sizes k (omega (arith, A.among))) ∙ q)

  agrees_word : (κ : Kind) (b s j x : ℕ) → Agrees c (lay_view κ (StoreWord b s j x) u) (set m (offset_at u.directory b + (u.words + 1) * s + j) x) d
  agrees_word κ b s j x =
      record {
        len = length-set m _ x ∙ A.len ∙ sym (length-set u.store _ x);
        low = λ k a h l r. set_agree u.store m _ x a A.len (A.low k a h l r);
        offs = A.offs;
        sizes = A.sizes;
        among = A.among;
        here = A.here;
        pos = A.pos;
      }

  agrees_window : (ol oh : ℕ) → Agrees c (record { words = u.words; store = u.store; directory = u.directory; published = u.published; base = u.base; slots = u.slots; own_lo = ol; own_hi = oh }) m d
  agrees_window ol oh = record { len = A.len; low = A.low; offs = A.offs; sizes = A.sizes; among = A.among; here = A.here; pos = A.pos }

  agrees_note : (κ : Kind) (k : ℕ) → k ≡ u.published → u.published < c → size_at u.words u.directory u.published ≡ 2 * u.slots → Agrees c (lay_view κ (StoreNote k) u) m d
  agrees_note κ k is l z =
      record {
        len = A.len;
        low = A.low;
        offs = A.offs;
        sizes = A.sizes;
        among = omega arith;
        here = (k + 1 - 1, omega arith, refl, refl);
        pos = omega (arith, ap (size_at u.words u.directory) {x = k + 1 - 1} {y = u.published} (omega arith), A.pos);
      }

  pub claimed_same : u.published < c → Claimed u → Claimed (renew u m d)
  claimed_same l (r, s, o, z, p) = (omega (arith, A.len, A.offs u.published l, r), s, omega (arith, A.offs u.published l, o), A.sizes u.published l ∙ z, p)

  pub copied_same : u.published < c → Claimed u → (lo hi : ℕ) → Copied u lo hi → Copied (renew u m d) lo hi
  copied_same l (r, s, o, z, p) lo hi C i j a b hj =
      ap (λ (x : ℕ). cell u.words m x (2 * u.slots) i j) (A.offs u.published l)
      ∙ cell_same u.published (offset_at u.directory u.published) (2 * u.slots) i j l refl z (omega (arith, A.pos)) hj
      ∙ C i j a b hj ∙ sym (cell_here i j hj)

  clear_same : (a : ℕ) → Clear u a → Clear (renew u m d) a
  clear_same a C = (λ b z y p q. C.0 b z (older_same b z y) p q, C.1)

  fits_same : (κ : Kind) (w : ℕ) (δ : Bool) (g : ℕ) (h : History) (s : Store) → Reach c u s → Fits κ w δ u g h s → Fits κ w δ (renew u m d) g h s
  fits_same κ w δ g h (StoreWord b s j x) l f = subst (λ (o : ℕ). Clear (renew u m d) (o + (u.words + 1) * s + j)) (sym (A.offs b l)) (clear_same _ f)
  fits_same κ w δ g h (StoreNote k) l (e, C, D) = (e, claimed_same l C, copied_same l C u.own_lo u.own_hi D)
  fits_same κ w δ g h (StorePut r) l (a, b, e, (f, t)) = (a, b, e, (f, subst (λ (t : Task). Answered δ t h) (sym (task_same u.own_hi)) t))
  fits_same κ w δ g h (StoreOut r) l (a, b, e, f, t) = (a, b, e, f, subst (λ (t : Task). Out t h) (sym (task_same (u.own_hi - 1))) t)
  fits_same κ w δ g h (StoreHead i) l (a, b, e, t) = (a, b, e, subst (λ (t : Task). Out t h) (sym (task_same u.own_lo)) t)
  fits_same κ w δ g h (StoreTail i) l (a, b, (e, t)) = (a, b, (e, subst (λ (t : Task). Answered δ t h) (sym (task_same u.own_hi)) t))

abbrev pub Labels : Kind → View → View → List Store → Type 0
Labels κ v v' ss = (k : ℕ) (t : Task) → Label κ v ss k t → Label κ v' ss k t

abbrev pub Both : Kind → ℕ → Bool → ℕ → History → List Store → View → View → Type 0
Both κ w δ g h ss u u' = Owed κ w δ u' g h ss × Labels κ u u' ss

same_cons : (κ : Kind) (w : ℕ) (δ : Bool) (c g : ℕ) (h : History) (s : Store) (ss : List Store) (u : View) (m m' : List ℕ) (d : List Region) → Agrees c u m d
    → Reach c u s → Fits κ w δ u g h s → renew (lay_view κ s u) m' d ≡ lay_view κ s (renew u m d)
    → Both κ w δ (tag_of s g) h ss (lay_view κ s u) (renew (lay_view κ s u) m' d) → Both κ w δ g h (s ∷ ss) u (renew u m d)
same_cons κ w δ c g h s ss u m m' d A l f is R = ((fits_same A κ w δ g h s l f, subst (λ (v : View). Owed κ w δ v (tag_of s g) h ss) is R.0), labels)
  where
    labels : Labels κ u (renew u m d) (s ∷ ss)
    labels zero t q = (q.0, task_same A u.own_hi ∙ q.1)
    labels (suc k) t q = subst (λ (v : View). Label κ v ss k t) is (R.1 k t q)

pub owed_same : (κ : Kind) (w ω : ℕ) (δ : Bool) (l : List Region) (c low τ g : ℕ) (h : History) (ss : List Store) (u : View) (m : List ℕ) (d : List Region) → Agrees c u m d
    → Path κ w ω l c low u.published τ ss → Owed κ w δ u g h ss → Both κ w δ g h ss u (renew u m d)
owed_same κ w ω δ l c low τ g h [] u m d A P O = (tt, λ k x y. y)
owed_same κ w ω δ l c low τ g h (StoreWord b s j x ∷ ss) u m d A (p, P) (f, O) =
    same_cons κ w δ c g h (StoreWord b s j x) ss u m (set m (offset_at u.directory b + (u.words + 1) * s + j) x) d A p.0 f (rw (A.offs b p.0))
    (owed_same κ w ω δ l c low τ g h ss (lay_view κ (StoreWord b s j x) u) _ d (agrees_word A κ b s j x) P O)
owed_same κ w ω δ l c low τ g h (StoreNote k ∷ ss) u m d A (p, P) (f, O) =
    same_cons κ w δ c g h (StoreNote k) ss u m m d A p.1 f (rw (A.offs (k + 1 - 1) (omega (arith, p.0, p.1)), A.sizes (k + 1 - 1) (omega (arith, p.0, p.1))))
    (owed_same κ w ω δ l c low τ g h ss (lay_view κ (StoreNote k) u) m d (agrees_note A κ k f.0 p.1 f.1.3) P O)
owed_same κ w ω δ l c low τ g h (StorePut r ∷ ss) u m d A (p, P) (f, O) =
    same_cons κ w δ c g h (StorePut r) ss u m m d A tt f refl (owed_same κ w ω δ l c low τ r.tag h ss (lay_view κ (StorePut r) u) m d (agrees_window A u.own_lo _) P O)
owed_same κ w ω δ l c low τ g h (StoreOut r ∷ ss) u m d A (p, P) (f, O) =
    same_cons κ w δ c g h (StoreOut r) ss u m m d A tt f refl (owed_same κ w ω δ l c low τ r.tag h ss (lay_view κ (StoreOut r) u) m d (agrees_window A u.own_lo _) P O)
owed_same κ w ω δ l c low τ g h (StoreHead i ∷ ss) u m d A (p, P) (f, O) =
    same_cons κ w δ c g h (StoreHead i) ss u m m d A tt f refl (owed_same κ w ω δ l c i τ g h ss (lay_view κ (StoreHead i) u) m d (agrees_window A i u.own_hi) P O)
owed_same κ w ω δ l c low τ g h (StoreTail i ∷ ss) u m d A (p, P) (f, O) =
    same_cons κ w δ c g h (StoreTail i) ss u m m d A tt f refl (owed_same κ w ω δ l c low i g h ss (lay_view κ (StoreTail i) u) m d (agrees_window A u.own_lo i) P O)

-- FIFO's numbers
number_same : {c : ℕ} {u : View} {m : List ℕ} {d : List Region} (A : Agrees c u m d) (i : ℕ) → word (renew u m d) i 0 ≡ word u i 0
number_same {c} {u} A i = cell_here A i 0 (omega arith)

marks_same : (w ω : ℕ) (δ : Bool) (l : List Region) (c low τ g : ℕ) (h : History) (num : ℕ → ℕ) (ss : List Store) (u : View) (m : List ℕ) (d : List Region) → Agrees c u m d
    → Path Fifo w ω l c low u.published τ ss → Owed Fifo w δ u g h ss → Marks u num ss → Marks (renew u m d) num ss
marks_same w ω δ l c low τ g h num [] u m d A P O M = tt
marks_same w ω δ l c low τ g h num (StoreWord b s j x ∷ ss) u m d A (p, P) (f, O) (k, M) =
    (tt, rw (A.offs b p.0) (marks_same w ω δ l c low τ g h num ss (lay_view Fifo (StoreWord b s j x) u) (set m (offset_at u.directory b + (u.words + 1) * s + j) x) d (agrees_word A Fifo b s j x) P O M))
marks_same w ω δ l c low τ g h num (StoreNote n ∷ ss) u m d A (p, P) (f, O) (k, M) = (
  tt,
  rw (A.offs (n + 1 - 1) (omega (arith, p.0, p.1)), A.sizes (n + 1 - 1) (omega (arith, p.0, p.1)))
      (marks_same w ω δ l c low τ g h num ss (lay_view Fifo (StoreNote n) u) m d (agrees_note A Fifo n f.0 p.1 f.1.3) P O M),
)
marks_same w ω δ l c low τ g h num (StorePut r ∷ ss) u m d A (p, P) (f, O) (k, M) = absurd f.0
marks_same w ω δ l c low τ g h num (StoreOut r ∷ ss) u m d A (p, P) (f, O) (k, M) = absurd f.0
marks_same w ω δ l c low τ g h num (StoreHead i ∷ ss) u m d A (p, P) (f, O) (k, M) = (tt, marks_same w ω δ l c i τ g h num ss (lay_view Fifo (StoreHead i) u) m d (agrees_window A i u.own_hi) P O M)
marks_same w ω δ l c low τ g h num (StoreTail i ∷ ss) u m d A (p, P) (f, O) (k, M) =
    (number_same A u.own_hi ∙ k, marks_same w ω δ l c low i g h num ss (lay_view Fifo (StoreTail i) u) m d (agrees_window A u.own_lo i) P O M)

pub order_same : (κ : Kind) (w ω : ℕ) (δ : Bool) (l : List Region) (c low τ g a : ℕ) (h : History) (ss : List Store) (u : View) (m : List ℕ) (d : List Region) → Agrees c u m d
    → Path κ w ω l c low u.published τ ss → Owed κ w δ u g h ss → Order κ u a ss h → Order κ (renew u m d) a ss h
order_same Lifo w ω δ l c low τ g a h ss u m d A P O R = tt
order_same Fifo w ω δ l c low τ g a h ss u m d A P O R =
    record {
      num = R.num;
      top = R.top;
      low = R.low;
      own = R.own;
      climb = R.climb;
      words = λ i p q. number_same A i ∙ R.words i p q;
      marks = marks_same w ω δ l c low τ g h R.num ss u m d A P O R.marks;
    }
order_same Deque w ω δ l c low τ g a h ss u m d A P O R = tt

-- another directory with the same published arrays
base_dir : {κ : Kind} {w ω : ℕ} {δ : Bool} {Q : Queue} {μ : List ℕ} {ol oh : ℕ} {φ : ℕ → Line} {h : History} (B : Base κ w ω δ Q μ ol oh [] φ h) (d : List Region) (c : ℕ) (rr : List Store)
    → ((k : ℕ) → k < Q.published → (offset_at d k ≡ offset_at Q.arrays k) × (size_at ω d k ≡ size_at ω Q.arrays k)) → 0 < Q.published
    → let Q' : Queue = record { linked = Q.linked; anchor = Q.anchor; arrays = d; published = Q.published; claimed = c; initial = Q.initial; links = Q.links } in
    Owed κ w δ (view ω Q' μ ol oh) Q.anchor.tag h rr → Base κ w ω δ Q' μ ol oh rr φ h
base_dir {κ} {w} {ω} {δ} {Q} {μ} {ol} {oh} {φ} {h} B d c rr same pos O =
    record {
      lo = B.lo;
      hi = B.hi;
      rep = B.rep;
      tops = B.tops;
      core = core_words μ d Q.published _ _ B.core (omega (arith, ez, B.core.fit)) (λ i j p q r. rw (eb, ez));
      sized = rw ez B.sized;
      sorted = λ k l. omega (arith, eb, (same k (omega arith)).0, ap (λ (x : ℕ). (ω + 1) * x) (same k (omega arith)).1, B.sorted k l);
      room = rw (eb, ez) B.room;
      tag = B.tag;
      owed = O;
      th = λ i. thief_holds {w = w} {g = Q.anchor.tag} {h = h} {k = (suc i)} (move_none (frame_dir v d _ _ eb ez same) (grow_same κ v _ refl) (omega arith)) (φ i) (B.th i);
    }
  where
    v : View
    v = view ω Q μ ol oh

    last : (offset_at d (Q.published - 1) ≡ off Q) × (size_at ω d (Q.published - 1) ≡ size ω Q)
    last = same (Q.published - 1) (omega arith)

    eb : offset_at d (Q.published - 1) ≡ off Q
    eb = last.0

    ez : size_at ω d (Q.published - 1) ≡ size ω Q
    ez = last.1

-- X1
pub record ClaimedWhile (ρ : Room) (κ : Kind) (w ω : ℕ) (δ : Bool) (Q : Queue) (μ : List ℕ) (ol oh : ℕ) (ss : List Store) (φ : ℕ → Line) (h : History) : Type 0 where
  pub base : Base κ w ω δ (claiming ρ Q) (zeros μ ρ.next (next_length Q)) ol oh ss φ h
  pub labels : Labels κ (view ω Q μ ol oh) (view ω (claiming ρ Q) (zeros μ ρ.next (next_length Q)) ol oh) ss
  pub order : Order κ (view ω Q μ ol oh) Q.anchor.head ss h → Order κ (view ω (claiming ρ Q) (zeros μ ρ.next (next_length Q)) ol oh) Q.anchor.head ss h
  pub claimed : Claimed (sight κ ω ss (claiming ρ Q) (zeros μ ρ.next (next_length Q)) ol oh)

pub base_claim : (ρ : Room) (κ : Kind) (w ω : ℕ) (δ : Bool) (used low : ℕ) (Q : Queue) (μ : List ℕ) (ol oh : ℕ) (ss : List Store) (t : Growth) (φ : ℕ → Line) (h : History)
    → Shape κ w ω used low Q μ ss (Claim t) φ → fits ρ ω (laid ss Q) ≡ true → Free ρ Q μ → Base κ w ω δ Q μ ol oh ss φ h → ClaimedWhile ρ κ w ω δ Q μ ol oh ss φ h
unfolding when◌then◌else◌
base_claim ρ κ w ω δ used low Q μ ol oh ss t φ h S e Z B =
    record {
      base =
          base_dir (base_store (base_line B [] tt) μ' [] len (λ i j p q r. cell_here A i j r) (λ b z a y p q. A.low y.0 a (omega (arith, y.1, S.arrays.below)) (omega (arith, y.2)) (omega (arith, y.2, ap (λ (x : ℕ). (ω + 1) * x) y.3))) tt)
          (claiming ρ Q).arrays (Q.claimed + 1) ss (λ k l. ((place k (omega (arith, S.arrays.below))).0, (place k (omega (arith, S.arrays.below))).2)) S.arrays.some owed;
      labels = λ k x y. subst (λ (u : View). Label κ u ss k x) same_view (R.1 k x y);
      order = λ Y.
          subst (λ (u : View). Order κ u Q.anchor.head ss h) same_view
          (order_same κ w ω δ Q.arrays Q.claimed low (tail κ Q.anchor) Q.anchor.tag Q.anchor.head h ss (view ω Q μ ol oh) (zeros μ ρ.next (next_length Q)) (claiming ρ Q).arrays A S.path B.owed Y);
      claimed = (
        omega (arith, words_length ω (claiming ρ Q).arrays ss μ', len, room, new.0, slots, next),
        omega (arith, last.2, small),
        omega (arith, last.0, slots, new.0, top, Z.behind),
        omega (arith, last.2, new.2),
        omega (arith, S.arrays.some, places_in.0),
      );
    }
  where
    v : Queue
    v = laid ss Q

    μ' : List ℕ
    μ' = zeros μ ρ.next (next_length Q)

    is : Q.claimed ≡ v.published
    is = sym (at_rest _ _ _ S.own.claims (claim_expands t))

    places_in : (Q.published ≤ v.published) × (v.published ≤ Q.claimed)
    places_in = path_places κ w ω _ _ low Q.published _ ss S.arrays.below S.path

    two : (leb (2 * size ω v) 1024 ≡ true) × (leb (next_length Q) ρ.left ≡ true)
    two = both (leb (2 * size ω v) 1024) _ e

    small : 2 * size ω v ≤ 1024
    small = leb-true _ _ two.0

    room : ρ.next + next_length Q ≤ length μ
    room = omega (arith, leb-true (next_length Q) ρ.left two.1, Z.inside)

    len : length (zeros μ ρ.next (next_length Q)) ≡ length μ
    len = zeros_length μ ρ.next (next_length Q) room

    long : (k : ℕ) → k < Q.claimed → length_at Q.arrays k ≡ (ω + 1) * size_at ω Q.arrays k
    long k l = tidy_long ω Q.arrays k (tidy_front ω Q.arrays Q.claimed k S.arrays.tidied l)

    -- the last claimed array is the one that the owner reads
    long_v : length_at Q.arrays (Q.claimed - 1) ≡ (ω + 1) * size ω v
    long_v = long (Q.claimed - 1) (omega (arith, S.arrays.some, S.arrays.below)) ∙ ap (λ (n : ℕ). (ω + 1) * size_at ω Q.arrays (n - 1)) is

    top : taken Q ≡ off v + (ω + 1) * size ω v
    top = omega (arith, long_v, ap (λ (n : ℕ). offset_at Q.arrays (n - 1)) is)

    next : next_length Q ≡ 2 * ((ω + 1) * size ω v)
    next = omega (arith, long_v)

    place : (k : ℕ) → k < Q.claimed → (offset_at (claiming ρ Q).arrays k ≡ offset_at Q.arrays k) × (length_at (claiming ρ Q).arrays k ≡ length_at Q.arrays k) × (size_at ω (claiming ρ Q).arrays k ≡ size_at ω Q.arrays k)
    place k l = set_place ω Q.arrays Q.claimed k ρ.next (next_length Q) (omega arith)

    ends : (k : ℕ) → k < Q.claimed → offset_at Q.arrays k + (ω + 1) * size_at ω Q.arrays k ≤ taken Q
    ends k l = omega (arith, (tidy_below ω Q.arrays Q.claimed k (Q.claimed - 1) S.arrays.tidied (omega arith) (omega arith)).0, long k l)

    A : Agrees Q.claimed (view ω Q μ ol oh) (zeros μ ρ.next (next_length Q)) (claiming ρ Q).arrays
    A =
        record {
          len = len;
          low = λ k a h l r. zeros_low μ ρ.next (next_length Q) a (omega (arith, ends k h, Z.behind)) (omega (arith, room));
          offs = λ k l. (place k l).0;
          sizes = λ k l. (place k l).2;
          among = S.arrays.below;
          here = (Q.published - 1, omega (arith, S.arrays.some, S.arrays.below), refl, refl);
          pos = size_pos B.sized;
        }

    R : Both κ w δ Q.anchor.tag h ss (view ω Q μ ol oh) (renew (view ω Q μ ol oh) (zeros μ ρ.next (next_length Q)) (claiming ρ Q).arrays)
    R = owed_same κ w ω δ Q.arrays Q.claimed low (tail κ Q.anchor) Q.anchor.tag h ss (view ω Q μ ol oh) (zeros μ ρ.next (next_length Q)) (claiming ρ Q).arrays A S.path B.owed

    now : (offset_at (claiming ρ Q).arrays (Q.published - 1) ≡ off Q) × (length_at (claiming ρ Q).arrays (Q.published - 1) ≡ length_at Q.arrays (Q.published - 1)) × (size_at ω (claiming ρ Q).arrays (Q.published - 1) ≡ size ω Q)
    now = place (Q.published - 1) (omega (arith, S.arrays.some, S.arrays.below))

    same_view : renew (view ω Q μ ol oh) (zeros μ ρ.next (next_length Q)) (claiming ρ Q).arrays ≡ view ω (claiming ρ Q) (zeros μ ρ.next (next_length Q)) ol oh
    same_view = rw (now.0, now.2)

    owed : Owed κ w δ (view ω (claiming ρ Q) (zeros μ ρ.next (next_length Q)) ol oh) Q.anchor.tag h ss
    owed = subst (λ (u : View). Owed κ w δ u Q.anchor.tag h ss) same_view R.0

    last : (offset_at (claiming ρ Q).arrays (v.published - 1) ≡ off v) × (length_at (claiming ρ Q).arrays (v.published - 1) ≡ length_at Q.arrays (v.published - 1)) × (size_at ω (claiming ρ Q).arrays (v.published - 1) ≡ size ω v)
    last = place (v.published - 1) (omega (arith, S.arrays.some, places_in.0, is))

    slots : (ω + 1) * size_at ω (claiming ρ Q).arrays (v.published - 1) ≡ (ω + 1) * size ω v
    slots = ap (λ (x : ℕ). (ω + 1) * x) last.2

    n11 : Q.claimed < 11
    n11 = omega (arith, roomy (shape_settle κ ss S).arrays small, is)

    here : (offset_at (claiming ρ Q).arrays Q.claimed ≡ ρ.next) × (length_at (claiming ρ Q).arrays Q.claimed ≡ next_length Q) × (size_at ω (claiming ρ Q).arrays Q.claimed ≡ 2 * size ω v)
    here = set_here ω Q.arrays Q.claimed ρ.next (2 * size ω v) (next_length Q) (omega (arith, n11, S.arrays.slots)) (omega (arith, next))

    new : (offset_at (claiming ρ Q).arrays v.published ≡ ρ.next) × (length_at (claiming ρ Q).arrays v.published ≡ next_length Q) × (size_at ω (claiming ρ Q).arrays v.published ≡ 2 * size ω v)
    new = subst (λ (n : ℕ). (offset_at (claiming ρ Q).arrays n ≡ ρ.next) × (length_at (claiming ρ Q).arrays n ≡ next_length Q) × (size_at ω (claiming ρ Q).arrays n ≡ 2 * size ω v)) is here
