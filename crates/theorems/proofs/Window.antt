-- The window of the queue, the owner's window, and what stands in the store.
use mathlib.Core.Path.{◌≡◌, sym, ◌∙◌, subst}
use mathlib.Core.Logic.{◌⊎◌, inl, inr}
use mathlib.Core.List.Memᴰ
use mathlib.Core.List.{List, ◌∷◌, Memᴰ}
use Prim.Native.Nat.{ℕ, ◌+◌, ◌≤◌, ◌<◌}
use native.Mathlib.Omega.{arith}
use Rattle.model.specs.declared.Region.{Region}
use Rattle.model.specs.declared.Task.{Task}
use Rattle.model.specs.Tasks.{gathered, first_words}
use Rattle.model.proofs.Tasks.{same_words}
use Rattle.theorems.proofs.Remainders.{le_or_lt}
use Rattle.theorems.proofs.Events.{Event, quiet, line_1, finished_put, handed_out, failed_compare, found_empty, began_put, found_full, waiting_put, drained, History, Out, Told}
use Rattle.theorems.proofs.Words.{cell}

-- the payload words of a task, the store, the directory (n arrays of d are published), the current array and the owner's window
pub record View : Type 0 where
  pub words : ℕ
  pub store : List ℕ
  pub directory : List Region
  pub published : ℕ
  pub base : ℕ
  pub slots : ℕ
  pub own_lo : ℕ
  pub own_hi : ℕ

abbrev pub word : View → ℕ → ℕ → ℕ
word v i j = cell v.words v.store v.base v.slots i j

-- the task at index i
abbrev pub task_at : View → ℕ → Task
task_at v i = gathered (v.words + 1) (word v i)

pub record Core (v : View) (lo hi : ℕ) (h : History) : Type 0 where
  pub low : v.own_lo ≤ lo
  pub mid : lo ≤ hi
  pub high : hi ≤ v.own_hi
  pub fit : v.own_hi ≤ v.own_lo + v.slots
  pub whole : (i : ℕ) → v.own_lo ≤ i → i < v.own_hi → Memᴰ (finished_put (task_at v i)) h
  pub out_l : (i : ℕ) → v.own_lo ≤ i → i < lo → Out (task_at v i) h
  pub out_h : (i : ℕ) → hi ≤ i → i < v.own_hi → Out (task_at v i) h
  pub all : (t : Task) → Memᴰ (finished_put t) h → Out t h ⊎ ((i : ℕ) × (lo ≤ i) × (i < hi) × (task_at v i ≡ t))

abbrev pub NotDone : Event → Type 0
NotDone quiet = Unit {0}
NotDone (line_1 j) = Unit {0}
NotDone (finished_put t) = ⊥
NotDone (handed_out j t) = Unit {0}
NotDone (failed_compare j) = Unit {0}
NotDone (found_empty j) = Unit {0}
NotDone (began_put t) = Unit {0}
NotDone (found_full t) = Unit {0}
NotDone (waiting_put t y) = Unit {0}
NotDone drained = Unit {0}

-- events that neither finish a put nor hand out
abbrev pub Plain : Event → Type 0
Plain quiet = Unit {0}
Plain (line_1 j) = Unit {0}
Plain (finished_put t) = ⊥
Plain (handed_out j t) = ⊥
Plain (failed_compare j) = Unit {0}
Plain (found_empty j) = Unit {0}
Plain (began_put t) = Unit {0}
Plain (found_full t) = Unit {0}
Plain (waiting_put t y) = Unit {0}
Plain drained = Unit {0}

pub plain_done : (e : Event) → Plain e → NotDone e
plain_done quiet c = tt
plain_done (line_1 j) c = tt
plain_done (finished_put t) c = c
plain_done (handed_out j t) c = tt
plain_done (failed_compare j) c = tt
plain_done (found_empty j) c = tt
plain_done (began_put t) c = tt
plain_done (found_full t) c = tt
plain_done (waiting_put t y) c = tt
plain_done drained c = tt

pub later : {t : Task} {h : History} (e : Event) → Out t h → Out t (e ∷ h)
later e o = (o.0, Memᴰ.tail o.1)

pub old_done : {t : Task} {e : Event} {h : History} → NotDone e → Memᴰ (finished_put t) (e ∷ h) → Memᴰ (finished_put t) h
old_done {t} {e} {h} nd d = go (Memᴰ.cases_cons d)
  where
    go : (finished_put t ≡ e) ⊎ Memᴰ (finished_put t) h → Memᴰ (finished_put t) h
    go (inl q) = absurd (subst NotDone (sym q) nd)
    go (inr r) = r

-- events that answer no put finished
abbrev pub NotTold : Event → Type 0
NotTold quiet = Unit {0}
NotTold (line_1 j) = Unit {0}
NotTold (finished_put t) = ⊥
NotTold (handed_out j t) = Unit {0}
NotTold (failed_compare j) = Unit {0}
NotTold (found_empty j) = Unit {0}
NotTold (began_put t) = Unit {0}
NotTold (found_full t) = Unit {0}
NotTold (waiting_put t y) = ⊥
NotTold drained = Unit {0}

pub told_before : (e : Event) (h : History) → NotTold e → (u : Task) → Told u (e ∷ h) → Told u h
told_before e h n u (inl d) = inl (go (Memᴰ.cases_cons d))
  where
    go : (finished_put u ≡ e) ⊎ Memᴰ (finished_put u) h → Memᴰ (finished_put u) h
    go (inl q) = absurd (subst NotTold (sym q) n)
    go (inr x) = x
told_before e h n u (inr (m, d)) = inr (m, go (Memᴰ.cases_cons d))
  where
    go : (waiting_put u m ≡ e) ⊎ Memᴰ (waiting_put u m) h → Memᴰ (waiting_put u m) h
    go (inl q) = absurd (subst NotTold (sym q) n)
    go (inr x) = x

-- the put of t, of ω payload words, is begun, and its number is larger than all that were answered finished
pub record Begun (ω : ℕ) (t : Task) (h : History) : Type 0 where
  pub begun : Memᴰ (began_put t) h
  pub newer : (u : Task) → Told u h → u.number < t.number
  pub cut : first_words (ω + 1) t ≡ t

pub begun_told : {ω : ℕ} {t : Task} {h : History} (e : Event) → ((u : Task) → Told u (e ∷ h) → Told u h) → Begun ω t h → Begun ω t (e ∷ h)
begun_told e f B = record { begun = Memᴰ.tail B.begun; newer = λ u d. B.newer u (f u d); cut = B.cut }

pub begun_later : {ω : ℕ} {t : Task} {h : History} (e : Event) → NotTold e → Begun ω t h → Begun ω t (e ∷ h)
begun_later {ω} {t} {h} e n B = begun_told e (told_before e h n) B

-- another window inside the owner's window: what leaves the window has been handed out
pub core_window : {v : View} {lo hi : ℕ} {h : History} (e : Event) (own_lo own_hi a c : ℕ) → NotDone e → Core v lo hi h
    → v.own_lo ≤ own_lo → own_lo ≤ a → a ≤ c → c ≤ own_hi → own_hi ≤ v.own_hi
    → ((i : ℕ) → lo ≤ i → i < hi → (i < a) ⊎ (c ≤ i) → Out (task_at v i) (e ∷ h))
    → Core (record { words = v.words; store = v.store; base = v.base; slots = v.slots; directory = v.directory; published = v.published; own_lo = own_lo; own_hi = own_hi }) a c (e ∷ h)
core_window {v} {lo} {hi} {h} e own_lo own_hi a c nd C h1 h2 h3 h4 h5 leave =
    record {
      low = h2;
      mid = h3;
      high = h4;
      fit = omega (arith, C.fit);
      whole = λ i p q. Memᴰ.tail (C.whole i (omega arith) (omega arith));
      out_l = λ i p q. gone i (omega arith) (omega arith) (inl q);
      out_h = λ i p q. gone i (omega arith) (omega arith) (inr p);
      all = λ t d. keep t (C.all t (old_done nd d));
    }
  where
    gone : (i : ℕ) → v.own_lo ≤ i → i < v.own_hi → (i < a) ⊎ (c ≤ i) → Out (task_at v i) (e ∷ h)
    gone i p q x = pick (le_or_lt lo i) (le_or_lt hi i)
      where
        pick : (lo ≤ i) ⊎ (i < lo) → (hi ≤ i) ⊎ (i < hi) → Out (task_at v i) (e ∷ h)
        pick (inr l) r = later e (C.out_l i p l)
        pick (inl l) (inl r) = later e (C.out_h i r q)
        pick (inl l) (inr r) = leave i l r x

    keep : (t : Task) → Out t h ⊎ ((i : ℕ) × (lo ≤ i) × (i < hi) × (task_at v i ≡ t))
        → Out t (e ∷ h) ⊎ ((i : ℕ) × (a ≤ i) × (i < c) × (task_at v i ≡ t))
    keep t (inl o) = inl (later e o)
    keep t (inr (i, l, r, x)) = pick (le_or_lt a i) (le_or_lt c i)
      where
        out : (i < a) ⊎ (c ≤ i) → Out t (e ∷ h)
        out k = subst (λ (t : Task). Out t (e ∷ h)) x (leave i l r k)

        pick : (a ≤ i) ⊎ (i < a) → (c ≤ i) ⊎ (i < c) → Out t (e ∷ h) ⊎ ((i : ℕ) × (a ≤ i) × (i < c) × (task_at v i ≡ t))
        pick (inr k) q = inl (out (inl k))
        pick (inl k) (inl q) = inl (out (inr q))
        pick (inl k) (inr q) = inr (i, k, q, x)

-- the same, where what leaves had been handed out before
pub core_shrink : {v : View} {lo hi : ℕ} {h : History} (own_lo own_hi a c : ℕ) → Core v lo hi h
    → v.own_lo ≤ own_lo → own_lo ≤ a → a ≤ c → c ≤ own_hi → own_hi ≤ v.own_hi
    → ((i : ℕ) → lo ≤ i → i < hi → (i < a) ⊎ (c ≤ i) → Out (task_at v i) h)
    → Core (record { words = v.words; store = v.store; base = v.base; slots = v.slots; directory = v.directory; published = v.published; own_lo = own_lo; own_hi = own_hi }) a c h
core_shrink {v} {lo} {hi} {h} own_lo own_hi a c C h1 h2 h3 h4 h5 leave =
    record {
      low = h2;
      mid = h3;
      high = h4;
      fit = omega (arith, C.fit);
      whole = λ i p q. C.whole i (omega arith) (omega arith);
      out_l = λ i p q. gone i (omega arith) (omega arith) (inl q);
      out_h = λ i p q. gone i (omega arith) (omega arith) (inr p);
      all = λ t d. keep t (C.all t d);
    }
  where
    gone : (i : ℕ) → v.own_lo ≤ i → i < v.own_hi → (i < a) ⊎ (c ≤ i) → Out (task_at v i) h
    gone i p q x = pick (le_or_lt lo i) (le_or_lt hi i)
      where
        pick : (lo ≤ i) ⊎ (i < lo) → (hi ≤ i) ⊎ (i < hi) → Out (task_at v i) h
        pick (inr l) r = C.out_l i p l
        pick (inl l) (inl r) = C.out_h i r q
        pick (inl l) (inr r) = leave i l r x

    keep : (t : Task) → Out t h ⊎ ((i : ℕ) × (lo ≤ i) × (i < hi) × (task_at v i ≡ t))
        → Out t h ⊎ ((i : ℕ) × (a ≤ i) × (i < c) × (task_at v i ≡ t))
    keep t (inl o) = inl o
    keep t (inr (i, l, r, x)) = pick (le_or_lt a i) (le_or_lt c i)
      where
        out : (i < a) ⊎ (c ≤ i) → Out t h
        out k = subst (λ (t : Task). Out t h) x (leave i l r k)

        pick : (a ≤ i) ⊎ (i < a) → (c ≤ i) ⊎ (i < c) → Out t h ⊎ ((i : ℕ) × (a ≤ i) × (i < c) × (task_at v i ≡ t))
        pick (inr k) q = inl (out (inl k))
        pick (inl k) (inl q) = inl (out (inr q))
        pick (inl k) (inr q) = inr (i, k, q, x)

-- another store or another array, with the same words in the owner's window
pub core_words : {v : View} {lo hi : ℕ} {h : History} (m : List ℕ) (d : List Region) (np b z : ℕ) → Core v lo hi h
    → v.own_hi ≤ v.own_lo + z
    → ((i j : ℕ) → v.own_lo ≤ i → i < v.own_hi → j < v.words + 1 → cell v.words m b z i j ≡ word v i j)
    → Core (record { words = v.words; store = m; directory = d; published = np; base = b; slots = z; own_lo = v.own_lo; own_hi = v.own_hi }) lo hi h
core_words {v} {lo} {hi} {h} m d np b z C f same =
    record {
      low = C.low;
      mid = C.mid;
      high = C.high;
      fit = f;
      whole = λ i p q. rw (task_is i p q) (C.whole i p q);
      out_l = λ i p q. rw (task_is i p (omega (arith, C.mid, C.high))) (C.out_l i p q);
      out_h = λ i p q. rw (task_is i (omega (arith, C.mid, C.low)) q) (C.out_h i p q);
      all = λ t d. go t (C.all t d);
    }
  where
    task_is : (i : ℕ) → v.own_lo ≤ i → i < v.own_hi → gathered (v.words + 1) (cell v.words m b z i) ≡ task_at v i
    task_is i p q = same_words (v.words + 1) (cell v.words m b z i) (word v i) (λ j h. same i j p q h)

    go : (t : Task) → Out t h ⊎ ((i : ℕ) × (lo ≤ i) × (i < hi) × (task_at v i ≡ t))
        → Out t h ⊎ ((i : ℕ) × (lo ≤ i) × (i < hi) × (gathered (v.words + 1) (cell v.words m b z i) ≡ t))
    go t (inl o) = inl o
    go t (inr (i, l, r, x)) = inr (i, l, r, task_is i (omega (arith, C.low)) (omega (arith, C.high)) ∙ x)

-- a put ends: its words stand at the top of the owner's window, and the queue's window grows up to there
pub core_put : {v : View} {lo hi : ℕ} {h : History} (t : Task) (a : ℕ) → Core v lo hi h → v.own_hi < v.own_lo + v.slots → v.own_lo ≤ a → a ≤ lo
    → task_at v v.own_hi ≡ t
    → Core (record { words = v.words; store = v.store; base = v.base; slots = v.slots; directory = v.directory; published = v.published; own_lo = v.own_lo; own_hi = v.own_hi + 1 }) a (v.own_hi + 1) (finished_put t ∷ h)
core_put {v} {lo} {hi} {h} t a C f la ha e =
    record {
      low = la;
      mid = omega (arith, C.mid, C.high);
      high = omega arith;
      fit = omega arith;
      whole = λ i l q. top i l (le_or_lt v.own_hi i) q;
      out_l = λ i l q. later (finished_put t) (C.out_l i l (omega arith));
      out_h = λ i l q. absurd (omega arith);
      all = λ t d. go t (Memᴰ.cases_cons d);
    }
  where
    top : (i : ℕ) → v.own_lo ≤ i → (v.own_hi ≤ i) ⊎ (i < v.own_hi) → i < v.own_hi + 1 → Memᴰ (finished_put (task_at v i)) (finished_put t ∷ h)
    top i l (inl x) q = Memᴰ.head {x = finished_put t} (rw (same, e))
      where
        same : i ≡ v.own_hi
        same = omega arith
    top i l (inr x) q = Memᴰ.tail (C.whole i l x)

    go : (t' : Task) → (finished_put t' ≡ finished_put t) ⊎ Memᴰ (finished_put t') h
        → Out t' (finished_put t ∷ h) ⊎ ((i : ℕ) × (a ≤ i) × (i < v.own_hi + 1) × (task_at v i ≡ t'))
    go t' (inl q) = inr (v.own_hi, omega (arith, C.mid, C.high), omega arith, e ∙ cc)
    go t' (inr d) = old (C.all t' d)
      where
        old : Out t' h ⊎ ((i : ℕ) × (lo ≤ i) × (i < hi) × (task_at v i ≡ t'))
            → Out t' (finished_put t ∷ h) ⊎ ((i : ℕ) × (a ≤ i) × (i < v.own_hi + 1) × (task_at v i ≡ t'))
        old (inl o) = inl (later (finished_put t) o)
        old (inr (i, l, r, x)) = inr (i, omega arith, omega (arith, C.high), x)

-- an event that is no put's end
pub core_ev : {v : View} {lo hi : ℕ} {h : History} (e : Event) → NotDone e → Core v lo hi h → Core v lo hi (e ∷ h)
core_ev {v} {lo} {hi} {h} e nd C =
    core_window e v.own_lo v.own_hi lo hi nd C (omega arith) C.low C.mid C.high (omega arith) (λ i p q r. absurd (none i p q r))
  where
    none : (i : ℕ) → lo ≤ i → i < hi → (i < lo) ⊎ (hi ≤ i) → ⊥
    none i p q (inl r) = omega arith
    none i p q (inr r) = omega arith

-- the owner reads the window
pub core_read : {v : View} {lo hi : ℕ} {h : History} → Core v lo hi h → Core (record { words = v.words; store = v.store; base = v.base; slots = v.slots; directory = v.directory; published = v.published; own_lo = lo; own_hi = hi }) lo hi h
core_read {v} {lo} {hi} {h} C =
    record {
      low = omega arith;
      mid = C.mid;
      high = omega arith;
      fit = omega (arith, C.low, C.high, C.fit);
      whole = λ i l q. C.whole i (omega (arith, C.low)) (omega (arith, C.high));
      out_l = λ i l q. absurd (omega arith);
      out_h = λ i l q. absurd (omega arith);
      all = C.all;
    }
