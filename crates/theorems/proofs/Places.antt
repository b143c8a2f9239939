-- From the history, newest first, to the places of the list.
use mathlib.Core.Path.{◌≡◌, refl, sym, ◌∙◌, ap, subst}
use mathlib.Core.Logic.{◌⊎◌, inl, inr}
use mathlib.Core.List.Memᴰ
use mathlib.Core.List.{List, [], ◌∷◌, Memᴰ}
use Prim.Native.Nat.{ℕ, zero, suc, ◌+◌, ◌-◌, ◌≤◌, ◌<◌}
use native.Mathlib.Omega.{arith}
use native.Mathlib.Nat.{sub-zero, suc-sub-suc}
use lib.ListN.{take, drop}
use borrow.Author.Tests.{ne_eqb, eq-eqb}
use Rattle.model.specs.declared.Kind.{Kind}
use Rattle.model.specs.declared.Task.{Task}
use Rattle.theorems.specs.Demand3.{Few}
use Rattle.theorems.proofs.Events.{Event, quiet, line_1, finished_put, handed_out, failed_compare, found_empty, began_put, found_full, waiting_put, drained, History, puts_since, history_at, Premise, PremiseAt}
use Rattle.theorems.proofs.Remainders.{le_or_lt}

-- the call at place j did e
abbrev pub EventAt : List Event → ℕ → Event → Type 0
EventAt [] j e = ⊥
EventAt (x ∷ l) zero e = x ≡ e
EventAt (x ∷ l) (suc j) e = EventAt l j e

-- place l is that of the newest line 1 of worker i before place j: the attempt that ends or compares at j began there
pub record EventLine1 (T : List Event) (i l j : ℕ) : Type 0 where
  pub before : l < j
  pub here : EventAt T l (line_1 i)
  pub newest : (k : ℕ) → l < k → k < j → EventAt T k (line_1 i) → ⊥

abbrev pub finishes_put : Event → ℕ
finishes_put quiet = 0
finishes_put (line_1 j) = 0
finishes_put (finished_put t) = 1
finishes_put (handed_out j t) = 0
finishes_put (failed_compare j) = 0
finishes_put (found_empty j) = 0
finishes_put (began_put t) = 0
finishes_put (found_full t) = 0
finishes_put (waiting_put t y) = 0
finishes_put drained = 0

-- how many puts a part of the list finishes
abbrev pub finished_puts : List Event → ℕ
finished_puts [] = 0
finished_puts (e ∷ l) = finished_puts l + finishes_put e

-- the calls between places l and j
abbrev pub events_between : ℕ → ℕ → List Event → List Event
events_between l j T = take (j - suc l) (drop (suc l) T)

-- worker i, a thief, compares at place j
abbrev pub EventCompares : List Event → ℕ → ℕ → Type 0
EventCompares T j i = EventAt T j (failed_compare i) ⊎ ((t : Task) × (0 < i) × EventAt T j (handed_out i t))

-- the premise
abbrev pub EventFew : Kind → ℕ → List Event → Type 0
EventFew κ w T = (i l j : ℕ) → EventCompares T j i → EventLine1 T i l j → Few κ w (finished_puts (events_between l j T))

-- the list, newest first, in front of h
unfoldable pub rev : List Event → History → History
rev [] h = h
rev (e ∷ T) h = rev T (e ∷ h)

-- the history as the call at place j found it
unfoldable pub past : List Event → ℕ → History
past T j = rev (take j T) []

rev_next : (T : List Event) (j : ℕ) (e : Event) (h : History) → EventAt T j e → rev (take (suc j) T) h ≡ e ∷ rev (take j T) h
unfolding rev
rev_next [] j e h a = absurd a
rev_next (x ∷ T) zero e h a = ap (λ (y : Event). y ∷ h) a
rev_next (x ∷ T) (suc j) e h a = rev_next T j e (x ∷ h) a

past_next : (T : List Event) (j : ℕ) (e : Event) → EventAt T j e → past T (suc j) ≡ e ∷ past T j
unfolding past
past_next T j e a = rev_next T j e [] a

-- a place below a place
at_below : (T : List Event) (j k : ℕ) (e : Event) → EventAt T j e → k ≤ j → (x : Event) × EventAt T k x
at_below [] j k e a l = absurd a
at_below (x ∷ T) j zero e a l = (x, refl)
at_below (x ∷ T) zero (suc k) e a l = absurd (omega arith)
at_below (x ∷ T) (suc j) (suc k) e a l = at_below T j k e a (omega arith)

-- one place, one event
pub at_one : (T : List Event) (j : ℕ) (x y : Event) → EventAt T j x → EventAt T j y → x ≡ y
at_one [] j x y a b = absurd a
at_one (e ∷ T) zero x y a b = sym a ∙ b
at_one (e ∷ T) (suc j) x y a b = at_one T j x y a b

-- what a history says of each of its events, it says place by place
module _ (P : Event → History → Type 0) (H : History → Type 0) (split : (e : Event) (h : History) → H (e ∷ h) → P e h × H h) where
  said_tail : (T : List Event) (h : History) → H (rev T h) → H h
  unfolding rev
  said_tail [] h G = G
  said_tail (x ∷ T) h G = (split x h (said_tail T (x ∷ h) G)).1

  pub said_rev : (T : List Event) (h : History) (j : ℕ) (e : Event) → EventAt T j e → H (rev T h) → P e (rev (take j T) h)
  unfolding rev
  said_rev [] h j e a G = absurd a
  said_rev (x ∷ T) h zero e a G = subst (λ (y : Event). P y h) a (split x h (said_tail T (x ∷ h) G)).0
  said_rev (x ∷ T) h (suc j) e a G = said_rev T (x ∷ h) j e a G

pub prem_rev : (κ : Kind) (w : ℕ) (T : List Event) (h : History) → ((j : ℕ) (e : Event) → EventAt T j e → PremiseAt κ w e (rev (take j T) h)) → Premise κ w h → Premise κ w (rev T h)
unfolding rev
prem_rev κ w [] h f p = p
prem_rev κ w (e ∷ T) h f p = prem_rev κ w T (e ∷ h) (λ j e a. f (suc j) e a) (f 0 e refl, p)

-- what is in the past of a place stands at a place before it, and the other way round
pub mem_rev : (T : List Event) (h : History) (j : ℕ) (e : Event) → Memᴰ e (rev (take j T) h) → ((k : ℕ) × (k < j) × EventAt T k e) ⊎ Memᴰ e h
unfolding rev
mem_rev T h zero e d = inr d
mem_rev [] h (suc j) e d = inr d
mem_rev (x ∷ T) h (suc j) e d = go (mem_rev T (x ∷ h) j e d)
  where
    first : (e ≡ x) ⊎ Memᴰ e h → ((k : ℕ) × (k < suc j) × EventAt (x ∷ T) k e) ⊎ Memᴰ e h
    first (inl q) = inl (0, omega arith, sym q)
    first (inr m) = inr m

    go : ((k : ℕ) × (k < j) × EventAt T k e) ⊎ Memᴰ e (x ∷ h) → ((k : ℕ) × (k < suc j) × EventAt (x ∷ T) k e) ⊎ Memᴰ e h
    go (inl (k, l, a)) = inl (suc k, omega arith, a)
    go (inr m) = first (Memᴰ.cases_cons m)

rev_mem : (T : List Event) (h : History) (e : Event) → Memᴰ e h → Memᴰ e (rev T h)
unfolding rev
rev_mem [] h e d = d
rev_mem (x ∷ T) h e d = rev_mem T (x ∷ h) e (Memᴰ.tail d)

pub at_mem : (T : List Event) (h : History) (j k : ℕ) (e : Event) → EventAt T k e → k < j → Memᴰ e (rev (take j T) h)
unfolding rev
at_mem [] h j k e a l = absurd a
at_mem (x ∷ T) h zero k e a l = absurd (omega arith)
at_mem (x ∷ T) h (suc j) zero e a l = rev_mem (take j T) (x ∷ h) e (Memᴰ.head (sym a))
at_mem (x ∷ T) h (suc j) (suc k) e a l = at_mem T (x ∷ h) j k e a (omega arith)

pub at_rev : (T : List Event) (h : History) (k : ℕ) (e : Event) → EventAt T k e → Memᴰ e (rev T h)
unfolding rev
at_rev [] h k e a = absurd a
at_rev (x ∷ T) h zero e a = rev_mem T (x ∷ h) e (Memᴰ.head (sym a))
at_rev (x ∷ T) h (suc k) e a = at_rev T (x ∷ h) k e a

pub rev_at : (T : List Event) (h : History) (e : Event) → Memᴰ e (rev T h) → ((k : ℕ) × EventAt T k e) ⊎ Memᴰ e h
unfolding rev
rev_at [] h e d = inr d
rev_at (x ∷ T) h e d = go (rev_at T (x ∷ h) e d)
  where
    first : (e ≡ x) ⊎ Memᴰ e h → ((k : ℕ) × EventAt (x ∷ T) k e) ⊎ Memᴰ e h
    first (inl q) = inl (0, sym q)
    first (inr m) = inr m

    go : ((k : ℕ) × EventAt T k e) ⊎ Memᴰ e (x ∷ h) → ((k : ℕ) × EventAt (x ∷ T) k e) ⊎ Memᴰ e h
    go (inl (k, a)) = inl (suc k, a)
    go (inr m) = first (Memᴰ.cases_cons m)

-- events that are no line 1 of worker i
cut_other : (i : ℕ) (e : Event) (h : History) → (e ≡ line_1 i → ⊥) → (history_at i (e ∷ h) ≡ history_at i h) × (puts_since i (e ∷ h) ≡ puts_since i h + finishes_put e)
cut_other i quiet h n = (refl, omega arith)
cut_other i (line_1 j) h n = (rw (ne_eqb j i (λ q. n (ap line_1 q))), rw (ne_eqb j i (λ q. n (ap line_1 q))) (omega arith))
cut_other i (finished_put t) h n = (refl, omega arith)
cut_other i (handed_out j t) h n = (refl, omega arith)
cut_other i (failed_compare j) h n = (refl, omega arith)
cut_other i (found_empty j) h n = (refl, omega arith)
cut_other i (began_put t) h n = (refl, omega arith)
cut_other i (found_full t) h n = (refl, omega arith)
cut_other i (waiting_put t y) h n = (refl, omega arith)
cut_other i drained h n = (refl, omega arith)

cut_here : (i : ℕ) (h : History) → (history_at i (line_1 i ∷ h) ≡ h) × (puts_since i (line_1 i ∷ h) ≡ 0)
cut_here i h = (rw (eq-eqb i i refl), rw (eq-eqb i i refl))

take_last : (T : List Event) (m : ℕ) (e : Event) → EventAt T m e → finished_puts (take (suc m) T) ≡ finished_puts (take m T) + finishes_put e
take_last [] m e a = absurd a
take_last (x ∷ T) zero e a = ap (λ (y : Event). 0 + finishes_put y) a
take_last (x ∷ T) (suc m) e a = omega (arith, take_last T m e a)

at_drop : (T : List Event) (l j : ℕ) (e : Event) → l ≤ j → EventAt T j e → EventAt (drop l T) (j - l) e
at_drop T zero j e h a = rw (sub-zero j) a
at_drop [] (suc l) j e h a = absurd a
at_drop (x ∷ T) (suc l) zero e h a = absurd (omega arith)
at_drop (x ∷ T) (suc l) (suc j) e h a = rw (suc-sub-suc j l) (at_drop T l j e (omega arith) a)

-- an attempt's line 1, seen from a later place
abbrev Seen1 : List Event → ℕ → ℕ → ℕ → ℕ → Type 0
Seen1 T i l j m = (history_at i (past T j) ≡ past T l) × (puts_since i (past T j) ≡ finished_puts (take m (drop (suc l) T)))

line1_next : (m : ℕ) (T : List Event) (i l j : ℕ) (e : Event) → j ≡ suc l + suc m → EventAt T j e → EventLine1 T i l j
    → ((x : Event) → EventAt T (suc l + m) x → EventLine1 T i l (suc l + m) → Seen1 T i l (suc l + m) m) → Seen1 T i l j (suc m)
line1_next m T i l j e q a L rec =
    (ap (history_at i) now ∙ C.0 ∙ R.0, ap (puts_since i) now ∙ C.1 ∙ ap (λ (y : ℕ). y + finishes_put x) R.1 ∙ sym (take_last (drop (suc l) T) m x last))
  where
    j' : ℕ
    j' = suc l + m

    step : j ≡ suc j'
    step = omega (arith, q)

    below : (x : Event) × EventAt T j' x
    below = at_below T j j' e a (omega (arith, step))

    x : Event
    x = below.0

    now : past T j ≡ x ∷ past T j'
    now = ap (past T) step ∙ past_next T j' x below.1

    C : (history_at i (x ∷ past T j') ≡ history_at i (past T j')) × (puts_since i (x ∷ past T j') ≡ puts_since i (past T j') + finishes_put x)
    C = cut_other i x (past T j') (λ y. L.newest j' (omega arith) (omega (arith, step)) (rw y at below.1))

    R : Seen1 T i l j' m
    R = rec x below.1 (record { before = omega arith; here = L.here; newest = λ k b c. L.newest k b (omega (arith, step)) })

    last : EventAt (drop (suc l) T) m x
    last = subst (λ (y : ℕ). EventAt (drop (suc l) T) y x) (omega arith) (at_drop T (suc l) j' x (omega arith) below.1)

line1_past : (m : ℕ) (T : List Event) (i l j : ℕ) (e : Event) → j ≡ suc l + m → EventAt T j e → EventLine1 T i l j → Seen1 T i l j m
line1_past zero T i l j e q a L = (ap (history_at i) now ∙ (cut_here i (past T l)).0, ap (puts_since i) now ∙ (cut_here i (past T l)).1)
  where
    now : past T j ≡ line_1 i ∷ past T l
    now = ap (past T) (omega (arith, q)) ∙ past_next T l (line_1 i) L.here
line1_past (suc m) T i l j e q a L = line1_next m T i l j e q a L (λ x b M. line1_past m T i l (suc l + m) x refl b M)

pub line1_at : (T : List Event) (i l j : ℕ) (e : Event) → EventAt T j e → EventLine1 T i l j → Seen1 T i l j (j - suc l)
line1_at T i l j e a L = line1_past (j - suc l) T i l j e (omega (arith, L.before)) a L

-- an attempt in the past has a newest line 1
is_read : (i : ℕ) (x : Event) → (x ≡ line_1 i) ⊎ (x ≡ line_1 i → ⊥)
is_read i quiet = inr (λ q. let z : ◌≡◌ {A = ℕ} 0 1 = cc in omega arith)
is_read i (line_1 j) = go (le_or_lt i j) (le_or_lt j i)
  where
    go : (i ≤ j) ⊎ (j < i) → (j ≤ i) ⊎ (i < j) → (line_1 j ≡ line_1 i) ⊎ (line_1 j ≡ line_1 i → ⊥)
    go (inl a) (inl b) = inl (ap line_1 (omega arith))
    go (inr a) b = inr (λ q. let z : j ≡ i = cc in omega arith)
    go (inl a) (inr b) = inr (λ q. let z : j ≡ i = cc in omega arith)
is_read i (finished_put t) = inr (λ q. let z : ◌≡◌ {A = ℕ} 0 1 = cc in omega arith)
is_read i (handed_out j t) = inr (λ q. let z : ◌≡◌ {A = ℕ} 0 1 = cc in omega arith)
is_read i (failed_compare j) = inr (λ q. let z : ◌≡◌ {A = ℕ} 0 1 = cc in omega arith)
is_read i (began_put t) = inr (λ q. let z : ◌≡◌ {A = ℕ} 0 1 = cc in omega arith)
is_read i (found_full t) = inr (λ q. let z : ◌≡◌ {A = ℕ} 0 1 = cc in omega arith)
is_read i (waiting_put t y) = inr (λ q. let z : ◌≡◌ {A = ℕ} 0 1 = cc in omega arith)
is_read i drained = inr (λ q. let z : ◌≡◌ {A = ℕ} 0 1 = cc in omega arith)
is_read i (found_empty j) = inr (λ q. let z : ◌≡◌ {A = ℕ} 0 1 = cc in omega arith)

newest_next : (T : List Event) (i j : ℕ) (x : Event) → EventAt T j x → Memᴰ (line_1 i) (past T (suc j))
    → (Memᴰ (line_1 i) (past T j) → (l : ℕ) × EventLine1 T i l j) → (l : ℕ) × EventLine1 T i l (suc j)
newest_next T i j x a d rec = go (is_read i x) (Memᴰ.cases_cons (subst (λ (h : History). Memᴰ (line_1 i) h) (past_next T j x a) d))
  where
    go : (x ≡ line_1 i) ⊎ (x ≡ line_1 i → ⊥) → (line_1 i ≡ x) ⊎ Memᴰ (line_1 i) (past T j) → (l : ℕ) × EventLine1 T i l (suc j)
    go (inl q) m = (j, record { before = omega arith; here = rw q at a; newest = λ k b c. absurd (omega arith) })
    go (inr n) (inl q) = absurd (n (sym q))
    go (inr n) (inr m) = (r.0, record { before = omega (arith, r.1.before); here = r.1.here; newest = newest })
      where
        r : (l : ℕ) × EventLine1 T i l j
        r = rec m

        newest : (k : ℕ) → r.0 < k → k < suc j → EventAt T k (line_1 i) → ⊥
        newest k b c y = pick (le_or_lt j k)
          where
            pick : (j ≤ k) ⊎ (k < j) → ⊥
            pick (inr e) = r.1.newest k b e y
            pick (inl e) = n (at_one T j x (line_1 i) a (subst (λ (x : ℕ). EventAt T x (line_1 i)) (omega arith) y))

pub newest : (T : List Event) (i j : ℕ) (e : Event) → EventAt T j e → Memᴰ (line_1 i) (past T j) → (l : ℕ) × EventLine1 T i l j
unfolding past rev
newest T i zero e a d = absurd (Memᴰ.not-nil d)
newest T i (suc j) e a d =
    let b = at_below T (suc j) j e a (omega arith) in
    newest_next T i j b.0 b.1 d (λ m. newest T i j b.0 b.1 m)

-- the premise at each place
pub prem_at : (κ : Kind) (w : ℕ) (T : List Event) → EventFew κ w T → (j : ℕ) (e : Event) → EventAt T j e → PremiseAt κ w e (past T j)
prem_at κ w T f j quiet a = tt
prem_at κ w T f j (line_1 i) a = tt
prem_at κ w T f j (finished_put t) a = tt
prem_at κ w T f j (handed_out zero t) a = tt
prem_at κ w T f j (handed_out (suc k) t) a = λ m.
    let L = newest T (suc k) j (handed_out (suc k) t) a m in
    rw (line1_at T (suc k) L.0 j (handed_out (suc k) t) a L.1).1 (f (suc k) L.0 j (inr (t, omega arith, a)) L.1)
prem_at κ w T f j (failed_compare k) a = λ m.
    let L = newest T k j (failed_compare k) a m in
    rw (line1_at T k L.0 j (failed_compare k) a L.1).1 (f k L.0 j (inl a) L.1)
prem_at κ w T f j (found_empty i) a = tt
prem_at κ w T f j (began_put t) a = tt
prem_at κ w T f j (found_full t) a = tt
prem_at κ w T f j (waiting_put t y) a = tt
prem_at κ w T f j drained a = tt
