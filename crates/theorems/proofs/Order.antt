-- FIFO: put numbers rise with the index, and a hand-out below the highest index ever handed out is a repeat. An index keeps its
-- number for good, whether its put is in memory or waits; `num` has it.
use mathlib.Core.Path.{◌≡◌, refl, sym, ◌∙◌, ap, subst}
use mathlib.Core.Bool.{Bool, cond}
use mathlib.Core.Logic.{◌⊎◌, inl, inr}
use mathlib.Core.List.Memᴰ
use mathlib.Core.List.{List, [], ◌∷◌, ◌++◌, Memᴰ}
use Prim.Native.Nat.{ℕ, ◌+◌, ◌-◌, ◌*◌, ◌≤◌, ◌<◌}
use native.Mathlib.Omega.{arith}
use lib.Dec.{eqb}
use lib.Seq.{get_or-set_other}
use borrow.Author.Tests.{eq-eqb, ne_eqb}
use Rattle.model.specs.declared.Kind.{Kind}
use Rattle.model.specs.declared.Kind.TheVariants.{Lifo, Fifo, Deque}
use Rattle.model.specs.declared.Task.{Task}
use Rattle.model.specs.declared.Store.{Store}
use Rattle.model.specs.declared.Store.TheVariants.{StoreWord, StoreNote, StorePut, StoreOut, StoreHead, StoreTail}
use Rattle.model.specs.Memory.{offset_at, size_at}
use Rattle.theorems.proofs.Remainders.{le_or_lt}
use Rattle.theorems.proofs.Words.{cell}
use Rattle.theorems.proofs.Events.{Event, quiet, line_1, finished_put, handed_out, failed_compare, found_empty, began_put, found_full, waiting_put, drained, History, Told}
use Rattle.theorems.proofs.Window.{View, word, task_at}
use Rattle.model.specs.declared.Queue.{Queue}
use Rattle.model.proofs.Tasks.{number_gathered}
use Rattle.theorems.proofs.Folds.{laid, words_of}
use Rattle.theorems.proofs.Owed.{view, sight, lay_view, lay_is, los, his, lo_of, hi_of, tag_of, Fits, Owed, los_join, his_join}

-- put number n was handed out
abbrev pub Given : ℕ → History → Type 0
Given n h = (i : ℕ) × (t : Task) × Memᴰ (handed_out i t) h × (t.number ≡ n)

-- a hand-out repeats a number, or has a larger one than all before it
abbrev pub InTurn : Event → History → Type 0
InTurn quiet h = Unit {0}
InTurn (line_1 j) h = Unit {0}
InTurn (finished_put t) h = Unit {0}
InTurn (handed_out j t) h = Given t.number h ⊎ ((n : ℕ) → Given n h → n < t.number)
InTurn (failed_compare j) h = Unit {0}
InTurn (found_empty j) h = Unit {0}
InTurn (began_put t) h = Unit {0}
InTurn (found_full t) h = Unit {0}
InTurn (waiting_put t y) h = Unit {0}
InTurn drained h = Unit {0}

abbrev pub Rises : History → Type 0
Rises [] = Unit {0}
Rises (e ∷ h) = InTurn e h × Rises h

-- a put that waits has the number of its index
abbrev Mark : View → (ℕ → ℕ) → Store → Type 0
Mark v num (StoreWord b s j x) = Unit {0}
Mark v num (StoreNote k) = Unit {0}
Mark v num (StorePut r) = Unit {0}
Mark v num (StoreOut r) = Unit {0}
Mark v num (StoreHead i) = Unit {0}
Mark v num (StoreTail i) = word v v.own_hi 0 ≡ num v.own_hi

abbrev pub Marks : View → (ℕ → ℕ) → List Store → Type 0
Marks v num [] = Unit {0}
Marks v num (s ∷ ss) = Mark v num s × Marks (lay_view Fifo s v) num ss

-- what is said of numbers and hand-outs: ol is the lower end in memory, hi the tail that the owner reads. The indices below `top`
-- have been handed out, those from it on have not, and have larger numbers than all that was
pub record Climb (num : ℕ → ℕ) (ol hi top : ℕ) (h : History) : Type 0 where
  pub cap : top ≤ hi
  pub given : (i : ℕ) → ol ≤ i → i < top → Given (num i) h
  pub above : (i n : ℕ) → ol ≤ i → top ≤ i → i < hi → Given n h → n < num i
  pub rise : (i j : ℕ) → ol ≤ i → i < j → j < hi → num i < num j
  pub justified : (n : ℕ) → Given n h → (t : Task) × Told t h × (t.number ≡ n)
  pub rises : Rises h

-- a: memory's head
pub record Rising (v : View) (a : ℕ) (ss : List Store) (h : History) : Type 0 where
  pub num : ℕ → ℕ
  pub top : ℕ
  pub low : a ≤ top
  pub own : los ss v.own_lo ≤ top
  pub climb : Climb num v.own_lo (his Fifo ss v.own_lo v.own_hi) top h
  pub words : (i : ℕ) → v.own_lo ≤ i → i < v.own_hi → word v i 0 ≡ num i
  pub marks : Marks v num ss

-- only FIFO keeps it
abbrev pub Order : Kind → View → ℕ → List Store → History → Type 0
Order Lifo v a ss h = Unit {0}
Order Fifo v a ss h = Rising v a ss h
Order Deque v a ss h = Unit {0}

-- events that hand out nothing
abbrev pub NotOut : Event → Type 0
NotOut quiet = Unit {0}
NotOut (line_1 j) = Unit {0}
NotOut (finished_put t) = Unit {0}
NotOut (handed_out j t) = ⊥
NotOut (failed_compare j) = Unit {0}
NotOut (found_empty j) = Unit {0}
NotOut (began_put t) = Unit {0}
NotOut (found_full t) = Unit {0}
NotOut (waiting_put t y) = Unit {0}
NotOut drained = Unit {0}

given_later : {n : ℕ} {h : History} (e : Event) → Given n h → Given n (e ∷ h)
given_later e (i, t, d, q) = (i, t, Memᴰ.tail d, q)

told_later : {t : Task} {h : History} (e : Event) → Told t h → Told t (e ∷ h)
told_later e (inl d) = inl (Memᴰ.tail d)
told_later e (inr (n, d)) = inr (n, Memᴰ.tail d)

given_before : {n : ℕ} {h : History} (e : Event) → NotOut e → Given n (e ∷ h) → Given n h
given_before {n} {h} e c (i, t, d, q) = (i, t, go (Memᴰ.cases_cons d), q)
  where
    go : (handed_out i t ≡ e) ⊎ Memᴰ (handed_out i t) h → Memᴰ (handed_out i t) h
    go (inl x) = absurd (subst NotOut (sym x) c)
    go (inr x) = x

in_turn : (e : Event) (h : History) → NotOut e → InTurn e h
in_turn quiet h c = tt
in_turn (line_1 j) h c = tt
in_turn (finished_put t) h c = tt
in_turn (handed_out j t) h c = absurd c
in_turn (failed_compare j) h c = tt
in_turn (found_empty j) h c = tt
in_turn (began_put t) h c = tt
in_turn (found_full t) h c = tt
in_turn (waiting_put t y) h c = tt
in_turn drained h c = tt

climb_ev : {num : ℕ → ℕ} {ol hi top : ℕ} {h : History} (e : Event) → NotOut e → Climb num ol hi top h → Climb num ol hi top (e ∷ h)
climb_ev {num} {ol} {hi} {top} {h} e c R =
    record {
      cap = R.cap;
      given = λ i p q. given_later e (R.given i p q);
      above = λ i n p q r g. R.above i n p q r (given_before e c g);
      rise = R.rise;
      justified = λ n g. let (t, d, q) = R.justified n (given_before e c g) in (t, told_later e d, q);
      rises = (in_turn e h c, R.rises);
    }

rising_ev : {v : View} {a : ℕ} {ss : List Store} {h : History} (e : Event) → NotOut e → Rising v a ss h → Rising v a ss (e ∷ h)
rising_ev e c R = record { num = R.num; top = R.top; low = R.low; own = R.own; climb = climb_ev e c R.climb; words = R.words; marks = R.marks }

pub order_ev : (κ : Kind) (v : View) (a : ℕ) (ss : List Store) (h : History) (e : Event) → NotOut e → Order κ v a ss h → Order κ v a ss (e ∷ h)
order_ev Lifo v a ss h e c R = tt
order_ev Fifo v a ss h e c R = rising_ev e c R
order_ev Deque v a ss h e c R = tt

-- A HAND-OUT of index n, at or below `top`
record Turned (num : ℕ → ℕ) (ol hi top n : ℕ) (h : History) : Type 0 where
  pub next : ℕ
  pub up : top ≤ next
  pub past : n + 1 ≤ next
  pub climb : Climb num ol hi next h

turn : {num : ℕ → ℕ} {ol hi top : ℕ} {h : History} (k n : ℕ) (t : Task) → ol ≤ n → n ≤ top → n < hi → t.number ≡ num n → Told t h → Climb num ol hi top h → Turned num ol hi top n (handed_out k t ∷ h)
turn {num} {ol} {hi} {top} {h} k n t l u r is done R = go (le_or_lt top n)
  where
    e : Event
    e = handed_out k t

    new_or_old : (m : ℕ) → Given m (handed_out k t ∷ h) → (t.number ≡ m) ⊎ Given m h
    new_or_old m (i, u, d, q) = split (Memᴰ.cases_cons d)
      where
        split : (handed_out i u ≡ handed_out k t) ⊎ Memᴰ (handed_out i u) h → (t.number ≡ m) ⊎ Given m h
        split (inl x) = let y : u ≡ t = cc in inl (subst (λ (w : Task). w.number ≡ m) y q)
        split (inr x) = inr (i, u, x, q)

    fair : (m : ℕ) → Given m (handed_out k t ∷ h) → (u : Task) × Told u (handed_out k t ∷ h) × (u.number ≡ m)
    fair m g = by (new_or_old m g)
      where
        by : (t.number ≡ m) ⊎ Given m h → (u : Task) × Told u (handed_out k t ∷ h) × (u.number ≡ m)
        by (inl q) = (t, told_later e done, q)
        by (inr g) = let (u, d, q) = R.justified m g in (u, told_later e d, q)

    -- an index above n that was not handed out has a larger number
    over : (i m : ℕ) → ol ≤ i → top ≤ i → n < i → i < hi → Given m (handed_out k t ∷ h) → m < num i
    over i m p q b c g = by (new_or_old m g)
      where
        by : (t.number ≡ m) ⊎ Given m h → m < num i
        by (inl x) = omega (arith, is, x, R.rise n i l b c)
        by (inr x) = R.above i m p q c x

    go : (top ≤ n) ⊎ (n < top) → Turned num ol hi top n (handed_out k t ∷ h)
    go (inr b) =
        record {
          next = top;
          up = omega arith;
          past = omega arith;
          climb =
              record {
                cap = R.cap;
                given = λ i p q. given_later e (R.given i p q);
                above = λ i m p q c g. over i m p q (omega arith) c g;
                rise = R.rise;
                justified = fair;
                rises = (inl (subst (λ (m : ℕ). Given m h) (sym is) (R.given n l b)), R.rises);
              };
        }
    go (inl b) =
        record {
          next = n + 1;
          up = omega arith;
          past = omega arith;
          climb =
              record {
                cap = omega arith;
                given = λ i p q. reach i p q (le_or_lt n i);
                above = λ i m p q c g. over i m p (omega arith) (omega arith) c g;
                rise = R.rise;
                justified = fair;
                rises = (inr (λ m g. subst (λ (x : ℕ). m < x) (sym is) (R.above n m l b r g)), R.rises);
              };
        }
      where
        reach : (i : ℕ) → ol ≤ i → i < n + 1 → (n ≤ i) ⊎ (i < n) → Given (num i) (handed_out k t ∷ h)
        reach i p q (inr x) = given_later e (R.given i p (omega arith))
        reach i p q (inl x) = (k, t, Memᴰ.head refl, is ∙ subst (λ (m : ℕ). num n ≡ num m) {x = n} {y = i} (omega arith) refl)

-- a steal hands out memory's head
pub rising_steal : {v : View} {ss : List Store} {h : History} (k n : ℕ) (t : Task) → v.own_lo ≤ n → n < v.own_hi → v.own_hi ≤ his Fifo ss v.own_lo v.own_hi → t.number ≡ word v n 0 → Told t h
    → Rising v n ss h → Rising v (n + 1) ss (handed_out k t ∷ h)
rising_steal {v} {ss} {h} k n t l u f is done R =
    let Z = turn k n t l R.low (omega arith) (is ∙ R.words n l u) done R.climb in
    record { num = R.num; top = Z.next; low = Z.past; own = omega (arith, R.own, Z.up); climb = Z.climb; words = R.words; marks = R.marks }

-- PUTTING DOWN
abbrev pub head_of : Store → ℕ → ℕ
head_of (StoreWord b s j x) a = a
head_of (StoreNote k) a = a
head_of (StorePut r) a = a
head_of (StoreOut r) a = a
head_of (StoreHead i) a = i
head_of (StoreTail i) a = a

-- heads rise along the line
los_up : (w : ℕ) (δ : Bool) (v : View) (g : ℕ) (h : History) (ss : List Store) → Owed Fifo w δ v g h ss → v.own_lo ≤ los ss v.own_lo
los_up w δ v g h [] O = omega arith
los_up w δ v g h (StoreWord b s j x ∷ ss) (f, O) = los_up w δ (lay_view Fifo (StoreWord b s j x) v) g h ss O
los_up w δ v g h (StoreNote k ∷ ss) (f, O) = los_up w δ (lay_view Fifo (StoreNote k) v) g h ss O
los_up w δ v g h (StorePut r ∷ ss) (f, O) = absurd f.0
los_up w δ v g h (StoreOut r ∷ ss) (f, O) = absurd f.0
los_up w δ v g h (StoreHead i ∷ ss) (f, O) = omega (arith, f.1, los_up w δ (lay_view Fifo (StoreHead i) v) g h ss O)
los_up w δ v g h (StoreTail i ∷ ss) (f, O) = los_up w δ (lay_view Fifo (StoreTail i) v) g h ss O

-- tails too
pub his_up : (w : ℕ) (δ : Bool) (v : View) (g : ℕ) (h : History) (ss : List Store) → Owed Fifo w δ v g h ss → v.own_hi ≤ his Fifo ss v.own_lo v.own_hi
his_up w δ v g h [] O = omega arith
his_up w δ v g h (StoreWord b s j x ∷ ss) (f, O) = his_up w δ (lay_view Fifo (StoreWord b s j x) v) g h ss O
his_up w δ v g h (StoreNote k ∷ ss) (f, O) = his_up w δ (lay_view Fifo (StoreNote k) v) g h ss O
his_up w δ v g h (StorePut r ∷ ss) (f, O) = absurd f.0
his_up w δ v g h (StoreOut r ∷ ss) (f, O) = absurd f.0
his_up w δ v g h (StoreHead i ∷ ss) (f, O) = his_up w δ (lay_view Fifo (StoreHead i) v) g h ss O
his_up w δ v g h (StoreTail i ∷ ss) (f, O) = omega (arith, f.1, his_up w δ (lay_view Fifo (StoreTail i) v) g h ss O)

climb_low : {num : ℕ → ℕ} {ol hi top : ℕ} {h : History} (ol' : ℕ) → ol ≤ ol' → Climb num ol hi top h → Climb num ol' hi top h
climb_low ol' l R =
    record {
      cap = R.cap;
      given = λ i p q. R.given i (omega arith) q;
      above = λ i n p q. R.above i n (omega arith) q;
      rise = λ i j p q. R.rise i j (omega arith) q;
      justified = R.justified;
      rises = R.rises;
    }

-- the words of the owner's window in memory have their index's number
abbrev Words : View → (ℕ → ℕ) → Type 0
Words v num = (i : ℕ) → v.own_lo ≤ i → i < v.own_hi → word v i 0 ≡ num i

words_lay : (w : ℕ) (δ : Bool) (v : View) (num : ℕ → ℕ) (g : ℕ) (s : Store) (h : History) → Fits Fifo w δ v g h s → Mark v num s → Words v num → Words (lay_view Fifo s v) num
unfolding cell
words_lay w δ v num g (StoreWord b s j x) h f m R = λ i p q. get_or-set_other v.store _ _ x 0 (f.1 i 0 p q (omega arith)) ∙ R i p q
words_lay w δ v num g (StoreNote k) h f m R = λ i p q. rw (eb, ez) (f.2 i 0 p q (omega arith)) ∙ R i p q
  where
    eb : offset_at v.directory (k + 1 - 1) ≡ offset_at v.directory v.published
    eb = ap (offset_at v.directory) {x = k + 1 - 1} {y = v.published} (omega (arith, f.0))

    ez : size_at v.words v.directory (k + 1 - 1) ≡ 2 * v.slots
    ez = ap (size_at v.words v.directory) {x = k + 1 - 1} {y = v.published} (omega (arith, f.0)) ∙ f.1.3
words_lay w δ v num g (StorePut r) h f m R = absurd f.0
words_lay w δ v num g (StoreOut r) h f m R = absurd f.0
words_lay w δ v num g (StoreHead i) h f m R = λ j p q. R j (omega (arith, f.1)) q
words_lay w δ v num g (StoreTail i) h f m R = λ j p q. pick j p (le_or_lt v.own_hi j) q
  where
    pick : (j : ℕ) → v.own_lo ≤ j → (v.own_hi ≤ j) ⊎ (j < v.own_hi) → j < i → word v j 0 ≡ num j
    pick j p (inr x) q = R j p x
    pick j p (inl x) q = subst (λ (k : ℕ). word v k 0 ≡ num k) {x = v.own_hi} {y = j} (omega (arith, f.1)) m

-- and so have those of what the owner reads
pub final_words : (w ω : ℕ) (δ : Bool) (Q : Queue) (μ : List ℕ) (ol oh : ℕ) (num : ℕ → ℕ) (g : ℕ) (ss : List Store) (h : History) → Owed Fifo w δ (view ω Q μ ol oh) g h ss → Marks (view ω Q μ ol oh) num ss → Words (view ω Q μ ol oh) num
    → Words (sight Fifo ω ss Q μ ol oh) num
final_words w ω δ Q μ ol oh num g [] h O M R = R
final_words w ω δ Q μ ol oh num g (s ∷ ss) h (f, O) (m, M) R =
    final_words w ω δ (laid (s ∷ []) Q) (words_of ω Q.arrays s μ) (lo_of s ol) (hi_of Fifo s ol oh) num (tag_of s g) ss h
    (subst (λ (v : View). Owed Fifo w δ v (tag_of s g) h ss) is O) (subst (λ (v : View). Marks v num ss) is M) (subst (λ (v : View). Words v num) is (words_lay w δ (view ω Q μ ol oh) num g s h f m R))
  where
    is : lay_view Fifo s (view ω Q μ ol oh) ≡ view ω (laid (s ∷ []) Q) (words_of ω Q.arrays s μ) (lo_of s ol) (hi_of Fifo s ol oh)
    is = lay_is Fifo ω s Q μ ol oh

pub rising_lay : (w : ℕ) (δ : Bool) (v : View) (a g : ℕ) (s : Store) (ss : List Store) (h : History) → Owed Fifo w δ v g h (s ∷ ss) → Rising v a (s ∷ ss) h → Rising (lay_view Fifo s v) (head_of s a) ss h
rising_lay w δ v a g (StoreWord b s j x) ss h (f, O) R =
    record { num = R.num; top = R.top; low = R.low; own = R.own; climb = R.climb; words = words_lay w δ v R.num g (StoreWord b s j x) h f tt R.words; marks = R.marks.1 }
rising_lay w δ v a g (StoreNote k) ss h (f, O) R =
    record { num = R.num; top = R.top; low = R.low; own = R.own; climb = R.climb; words = words_lay w δ v R.num g (StoreNote k) h f tt R.words; marks = R.marks.1 }
rising_lay w δ v a g (StorePut r) ss h (f, O) R = absurd f.0
rising_lay w δ v a g (StoreOut r) ss h (f, O) R = absurd f.0
rising_lay w δ v a g (StoreHead i) ss h (f, O) R =
    record {
      num = R.num;
      top = R.top;
      low = omega (arith, R.own, los_up w δ (lay_view Fifo (StoreHead i) v) g h ss O);
      own = R.own;
      climb = climb_low i (omega (arith, f.1)) R.climb;
      words = words_lay w δ v R.num g (StoreHead i) h f tt R.words;
      marks = R.marks.1;
    }
rising_lay w δ v a g (StoreTail i) ss h (f, O) R =
    record { num = R.num; top = R.top; low = R.low; own = R.own; climb = R.climb; words = words_lay w δ v R.num g (StoreTail i) h f R.marks.0 R.words; marks = R.marks.1 }

-- JOINING
marks_join : (ω : ℕ) (Q : Queue) (μ : List ℕ) (ol oh : ℕ) (num : ℕ → ℕ) (ss : List Store) (s : Store) → Marks (view ω Q μ ol oh) num ss → Mark (sight Fifo ω ss Q μ ol oh) num s → Marks (view ω Q μ ol oh) num (ss ++ (s ∷ []))
marks_join ω Q μ ol oh num [] s M m = (m, tt)
marks_join ω Q μ ol oh num (r ∷ ss) s (x, M) m = (
  x,
  subst (λ (v : View). Marks v num (ss ++ (s ∷ []))) (sym (lay_is Fifo ω r Q μ ol oh))
      (marks_join ω (laid (r ∷ []) Q) (words_of ω Q.arrays r μ) (lo_of r ol) (hi_of Fifo r ol oh) num ss s (subst (λ (v : View). Marks v num ss) (lay_is Fifo ω r Q μ ol oh) M) m),
)

-- stores that are no head and no tail
abbrev pub Dull : List Store → Type 0
Dull [] = Unit {0}
Dull (StoreWord b s j x ∷ ss) = Dull ss
Dull (StoreNote k ∷ ss) = Dull ss
Dull (StorePut r ∷ ss) = Dull ss
Dull (StoreOut r ∷ ss) = Dull ss
Dull (StoreHead i ∷ ss) = ⊥
Dull (StoreTail i ∷ ss) = ⊥

dull_marks : (v : View) (num : ℕ → ℕ) (rr : List Store) → Dull rr → Marks v num rr
dull_marks v num [] d = tt
dull_marks v num (StoreWord b s j x ∷ rr) d = (tt, dull_marks (lay_view Fifo (StoreWord b s j x) v) num rr d)
dull_marks v num (StoreNote k ∷ rr) d = (tt, dull_marks (lay_view Fifo (StoreNote k) v) num rr d)
dull_marks v num (StorePut r ∷ rr) d = (tt, dull_marks (lay_view Fifo (StorePut r) v) num rr d)
dull_marks v num (StoreOut r ∷ rr) d = (tt, dull_marks (lay_view Fifo (StoreOut r) v) num rr d)
dull_marks v num (StoreHead i ∷ rr) d = absurd d
dull_marks v num (StoreTail i ∷ rr) d = absurd d

marks_dull : (v : View) (num : ℕ → ℕ) (ss rr : List Store) → Dull rr → Marks v num ss → Marks v num (ss ++ rr)
marks_dull v num [] rr d M = dull_marks v num rr d
marks_dull v num (s ∷ ss) rr d (m, M) = (m, marks_dull (lay_view Fifo s v) num ss rr d M)

dull_same : (rr : List Store) (x y : ℕ) → Dull rr → (los rr x ≡ x) × (his Fifo rr x y ≡ y)
dull_same [] x y d = (refl, refl)
dull_same (StoreWord b s j z ∷ rr) x y d = dull_same rr x y d
dull_same (StoreNote k ∷ rr) x y d = dull_same rr x y d
dull_same (StorePut r ∷ rr) x y d = dull_same rr x y d
dull_same (StoreOut r ∷ rr) x y d = dull_same rr x y d
dull_same (StoreHead i ∷ rr) x y d = absurd d
dull_same (StoreTail i ∷ rr) x y d = absurd d

pub rising_dull : {v : View} {a : ℕ} {ss : List Store} {h : History} (rr : List Store) → Dull rr → Rising v a ss h → Rising v a (ss ++ rr) h
rising_dull {v} {a} {ss} {h} rr d R =
    record {
      num = R.num;
      top = R.top;
      low = R.low;
      own = rw (los_join ss rr v.own_lo, (dull_same rr (los ss v.own_lo) 0 d).0) R.own;
      climb = rw (his_join Fifo ss rr v.own_lo v.own_hi, (dull_same rr (los ss v.own_lo) (his Fifo ss v.own_lo v.own_hi) d).1) R.climb;
      words = R.words;
      marks = marks_dull v R.num ss rr d R.marks;
    }

-- a take: the lowest index that the owner reads is handed out
pub rising_take : (w ω : ℕ) (δ : Bool) (Q : Queue) (μ : List ℕ) (ol oh a g : ℕ) (ss : List Store) (h : History) (t : Task) → Owed Fifo w δ (view ω Q μ ol oh) g h ss → los ss ol < his Fifo ss ol oh
    → t.number ≡ word (sight Fifo ω ss Q μ ol oh) (los ss ol) 0 → Told t h → Rising (view ω Q μ ol oh) a ss h → Rising (view ω Q μ ol oh) a (ss ++ (StoreHead (los ss ol + 1) ∷ [])) (handed_out 0 t ∷ h)
rising_take w ω δ Q μ ol oh a g ss h t O l is done R =
    record {
      num = R.num;
      top = Z.next;
      low = omega (arith, R.low, Z.up);
      own = rw (los_join ss (StoreHead (los ss ol + 1) ∷ []) ol) Z.past;
      climb = rw (his_join Fifo ss (StoreHead (los ss ol + 1) ∷ []) ol oh) Z.climb;
      words = R.words;
      marks = marks_join ω Q μ ol oh R.num ss (StoreHead (los ss ol + 1)) R.marks tt;
    }
  where
    Z : Turned R.num ol (his Fifo ss ol oh) R.top (los ss ol) (handed_out 0 t ∷ h)
    Z = turn 0 (los ss ol) t (los_up w δ (view ω Q μ ol oh) g h ss O) R.own l (is ∙ final_words w ω δ Q μ ol oh R.num g ss h O R.marks R.words (los ss ol) (omega arith) l) done R.climb

-- a put: the next index has its number, larger than all
marks_change : (w : ℕ) (δ : Bool) (v : View) (num num' : ℕ → ℕ) (g : ℕ) (h : History) (ss : List Store) → ((i : ℕ) → i < his Fifo ss v.own_lo v.own_hi → num' i ≡ num i) → Owed Fifo w δ v g h ss → Marks v num ss → Marks v num' ss
marks_change w δ v num num' g h [] e O M = tt
marks_change w δ v num num' g h (StoreWord b s j x ∷ ss) e (f, O) (m, M) = (tt, marks_change w δ (lay_view Fifo (StoreWord b s j x) v) num num' g h ss e O M)
marks_change w δ v num num' g h (StoreNote k ∷ ss) e (f, O) (m, M) = (tt, marks_change w δ (lay_view Fifo (StoreNote k) v) num num' g h ss e O M)
marks_change w δ v num num' g h (StorePut r ∷ ss) e (f, O) (m, M) = absurd f.0
marks_change w δ v num num' g h (StoreOut r ∷ ss) e (f, O) (m, M) = absurd f.0
marks_change w δ v num num' g h (StoreHead i ∷ ss) e (f, O) (m, M) = (tt, marks_change w δ (lay_view Fifo (StoreHead i) v) num num' g h ss e O M)
marks_change w δ v num num' g h (StoreTail i ∷ ss) e (f, O) (m, M) =
    (m ∙ sym (e v.own_hi (omega (arith, f.1, his_up w δ (lay_view Fifo (StoreTail i) v) g h ss O))), marks_change w δ (lay_view Fifo (StoreTail i) v) num num' g h ss e O M)

pub rising_put : (w ω : ℕ) (δ : Bool) (Q : Queue) (μ : List ℕ) (ol oh a g : ℕ) (ss : List Store) (h : History) (t : Task) → Owed Fifo w δ (view ω Q μ ol oh) g h ss
    → word (sight Fifo ω ss Q μ ol oh) (his Fifo ss ol oh) 0 ≡ t.number → ((u : Task) → Told u h → u.number < t.number)
    → ((i : ℕ) → los ss ol ≤ i → i < his Fifo ss ol oh → Told (task_at (sight Fifo ω ss Q μ ol oh) i) h)
    → Rising (view ω Q μ ol oh) a ss h → Rising (view ω Q μ ol oh) a (ss ++ (StoreTail (his Fifo ss ol oh + 1) ∷ [])) h
rising_put w ω δ Q μ ol oh a g ss h t O is newer whole R =
    record {
      num = num';
      top = R.top;
      low = R.low;
      own = rw (los_join ss (StoreTail (his Fifo ss ol oh + 1) ∷ []) ol) R.own;
      climb = rw (his_join Fifo ss (StoreTail (his Fifo ss ol oh + 1) ∷ []) ol oh) climb;
      words = λ i p q. R.words i p q ∙ sym (old i (omega (arith, up)));
      marks = marks_join ω Q μ ol oh num' ss (StoreTail (his Fifo ss ol oh + 1)) (marks_change w δ (view ω Q μ ol oh) R.num num' g h ss old O R.marks) (is ∙ sym new);
    }
  where
    up : oh ≤ his Fifo ss ol oh
    up = his_up w δ (view ω Q μ ol oh) g h ss O

    num' : ℕ → ℕ
    num' i = cond (eqb i (his Fifo ss ol oh)) t.number (R.num i)

    old : (i : ℕ) → i < his Fifo ss ol oh → cond (eqb i (his Fifo ss ol oh)) t.number (R.num i) ≡ R.num i
    old i l = rw (ne_eqb i (his Fifo ss ol oh) (omega arith))

    new : cond (eqb (his Fifo ss ol oh) (his Fifo ss ol oh)) t.number (R.num (his Fifo ss ol oh)) ≡ t.number
    new = rw (eq-eqb (his Fifo ss ol oh) (his Fifo ss ol oh) refl)

    top_is : (i : ℕ) → his Fifo ss ol oh ≤ i → i < his Fifo ss ol oh + 1 → cond (eqb i (his Fifo ss ol oh)) t.number (R.num i) ≡ t.number
    top_is i p q = rw (eq-eqb i (his Fifo ss ol oh) (omega arith))

    under : (i : ℕ) → ol ≤ i → i < his Fifo ss ol oh → R.num i < t.number
    under i p q = go (le_or_lt (los ss ol) i)
      where
        go : (los ss ol ≤ i) ⊎ (i < los ss ol) → R.num i < t.number
        go (inr x) = let (u, d, y) = R.climb.justified (R.num i) (R.climb.given i p (omega (arith, R.own))) in omega (arith, newer u d, y)
        go (inl x) = omega (arith, number_gathered ω (word (sight Fifo ω ss Q μ ol oh) i), newer (task_at (sight Fifo ω ss Q μ ol oh) i) (whole i x q), final_words w ω δ Q μ ol oh R.num g ss h O R.marks R.words i x q)

    climb : Climb num' ol (his Fifo ss ol oh + 1) R.top h
    climb =
        record {
          cap = omega (arith, R.climb.cap);
          given = λ i p q. rw (old i (omega (arith, R.climb.cap))) (R.climb.given i p q);
          above = λ i n p q r x. higher i n p q r x (le_or_lt (his Fifo ss ol oh) i);
          rise = λ i j p q r. steep i j p q r (le_or_lt (his Fifo ss ol oh) j);
          justified = R.climb.justified;
          rises = R.climb.rises;
        }
      where
        higher : (i n : ℕ) → ol ≤ i → R.top ≤ i → i < his Fifo ss ol oh + 1 → Given n h → (his Fifo ss ol oh ≤ i) ⊎ (i < his Fifo ss ol oh) → n < cond (eqb i (his Fifo ss ol oh)) t.number (R.num i)
        higher i n p q r x (inr y) = rw (old i y) (R.climb.above i n p q y x)
        higher i n p q r x (inl y) = let (u, d, z) = R.climb.justified n x in rw (top_is i y r) (omega (arith, newer u d, z))

        steep : (i j : ℕ) → ol ≤ i → i < j → j < his Fifo ss ol oh + 1 → (his Fifo ss ol oh ≤ j) ⊎ (j < his Fifo ss ol oh)
            → cond (eqb i (his Fifo ss ol oh)) t.number (R.num i) < cond (eqb j (his Fifo ss ol oh)) t.number (R.num j)
        steep i j p q r (inr y) = rw (old i (omega arith), old j y) (R.climb.rise i j p q y)
        steep i j p q r (inl y) = rw (old i (omega arith), top_is j y r) (under i p (omega arith))

-- THE OWNER READS. Its window's lower end comes to be memory's head
los_either : (ss : List Store) (x y : ℕ) → ((los ss x ≡ x) × (los ss y ≡ y)) ⊎ (los ss x ≡ los ss y)
los_either [] x y = inl (refl, refl)
los_either (StoreWord b s j z ∷ ss) x y = los_either ss x y
los_either (StoreNote k ∷ ss) x y = los_either ss x y
los_either (StorePut r ∷ ss) x y = los_either ss x y
los_either (StoreOut r ∷ ss) x y = los_either ss x y
los_either (StoreHead i ∷ ss) x y = inr refl
los_either (StoreTail i ∷ ss) x y = los_either ss x y

his_either : (ss : List Store) (x y z : ℕ) → his Fifo ss x z ≡ his Fifo ss y z
his_either [] x y z = refl
his_either (StoreWord a b j q ∷ ss) x y z = his_either ss x y z
his_either (StoreNote k ∷ ss) x y z = his_either ss x y z
his_either (StorePut r ∷ ss) x y z = his_either ss x y z
his_either (StoreOut r ∷ ss) x y z = his_either ss x y z
his_either (StoreHead i ∷ ss) x y z = refl
his_either (StoreTail i ∷ ss) x y z = his_either ss x y i

abbrev raised : View → ℕ → View
raised v lo = record { words = v.words; store = v.store; directory = v.directory; published = v.published; base = v.base; slots = v.slots; own_lo = lo; own_hi = v.own_hi }

marks_raised : (v : View) (lo : ℕ) (num : ℕ → ℕ) (ss : List Store) → Marks v num ss → Marks (raised v lo) num ss
marks_raised v lo num [] M = tt
marks_raised v lo num (StoreWord b s j x ∷ ss) (m, M) = (m, marks_raised (lay_view Fifo (StoreWord b s j x) v) lo num ss M)
marks_raised v lo num (StoreNote k ∷ ss) (m, M) = (m, marks_raised (lay_view Fifo (StoreNote k) v) lo num ss M)
marks_raised v lo num (StorePut r ∷ ss) (m, M) = (m, marks_raised (lay_view Fifo (StorePut r) v) lo num ss M)
marks_raised v lo num (StoreOut r ∷ ss) (m, M) = (m, marks_raised (lay_view Fifo (StoreOut r) v) lo num ss M)
marks_raised v lo num (StoreHead i ∷ ss) (m, M) = (m, M)
marks_raised v lo num (StoreTail i ∷ ss) (m, M) = (m, marks_raised (lay_view Fifo (StoreTail i) v) lo num ss M)

pub rising_raised : (v : View) (a : ℕ) (ss : List Store) (h : History) → v.own_lo ≤ a → Rising v a ss h → Rising (raised v a) a ss h
rising_raised v a ss h l R =
    record {
      num = R.num;
      top = R.top;
      low = R.low;
      own = go (los_either ss a v.own_lo);
      climb = rw (his_either ss a v.own_lo v.own_hi) (climb_low a l R.climb);
      words = λ i p q. R.words i (omega arith) q;
      marks = marks_raised v a R.num ss R.marks;
    }
  where
    go : ((los ss a ≡ a) × (los ss v.own_lo ≡ v.own_lo)) ⊎ (los ss a ≡ los ss v.own_lo) → los ss a ≤ R.top
    go (inl x) = omega (arith, x.0, R.low)
    go (inr x) = omega (arith, x, R.own)

pub order_fresh : (κ : Kind) (v : View) → v.own_lo ≡ 0 → v.own_hi ≡ 0 → Order κ v 0 [] []
order_fresh Lifo v a b = tt
order_fresh Fifo v a b =
    record {
      num = λ i. 0;
      top = 0;
      low = omega arith;
      own = omega arith;
      climb =
          record {
            cap = omega arith;
            given = λ i p q. absurd (omega arith);
            above = λ i n p q r g. absurd (Memᴰ.not-nil g.2);
            rise = λ i j p q r. absurd (omega (arith, b));
            justified = λ n g. absurd (Memᴰ.not-nil g.2);
            rises = tt;
          };
      words = λ i p q. absurd (omega arith);
      marks = tt;
    }
order_fresh Deque v a b = tt

-- a store leaves the line
head_lay : (w : ℕ) (δ : Bool) (v : View) (g : ℕ) (h : History) (Q : Queue) (s : Store) → Fits Fifo w δ v g h s → head_of s Q.anchor.head ≡ (laid (s ∷ []) Q).anchor.head
head_lay w δ v g h Q (StoreWord b s j x) f = refl
head_lay w δ v g h Q (StoreNote k) f = refl
head_lay w δ v g h Q (StorePut r) f = absurd f.0
head_lay w δ v g h Q (StoreOut r) f = absurd f.0
head_lay w δ v g h Q (StoreHead i) f = refl
head_lay w δ v g h Q (StoreTail i) f = refl

pub order_drop : (κ : Kind) (w ω : ℕ) (δ : Bool) (Q : Queue) (μ : List ℕ) (ol oh g : ℕ) (s : Store) (ss : List Store) (h : History) → Owed κ w δ (view ω Q μ ol oh) g h (s ∷ ss)
    → Order κ (view ω Q μ ol oh) Q.anchor.head (s ∷ ss) h → Order κ (view ω (laid (s ∷ []) Q) (words_of ω Q.arrays s μ) (lo_of s ol) (hi_of κ s ol oh)) (laid (s ∷ []) Q).anchor.head ss h
order_drop Lifo w ω δ Q μ ol oh g s ss h O R = tt
order_drop Fifo w ω δ Q μ ol oh g s ss h O R =
    subst (λ (v : View). Rising v (laid (s ∷ []) Q).anchor.head ss h) (lay_is Fifo ω s Q μ ol oh)
    (subst (λ (a : ℕ). Rising (lay_view Fifo s (view ω Q μ ol oh)) a ss h) (head_lay w δ (view ω Q μ ol oh) g h Q s O.0) (rising_lay w δ (view ω Q μ ol oh) Q.anchor.head g s ss h O R))
order_drop Deque w ω δ Q μ ol oh g s ss h O R = tt
