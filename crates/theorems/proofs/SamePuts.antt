-- Puts drained, counted by their stores and by their finishing steps, are the same.
use mathlib.Core.Path.{◌≡◌, refl, sym, ◌∙◌, ap, subst}
use mathlib.Core.Bool.{Bool, true, false}
use mathlib.Core.Logic.{◌⊎◌, inl, inr}
use mathlib.Core.List.{List, [], ◌∷◌, ◌++◌}
use Prim.Native.Nat.{ℕ, zero, suc, ◌+◌, ◌-◌, ◌≤◌, ◌<◌}
use native.Mathlib.Omega.{arith}
use lib.Dec.{leb}
use lib.ListN.{length}
use borrow.Author.Tests.{leb-true, leb-false, le-leb}
use Rattle.model.specs.declared.Kind.{Kind}
use Rattle.model.specs.declared.Kind.TheVariants.{Lifo, Fifo, Deque}
use Rattle.model.specs.declared.Line.{Line}
use Rattle.model.specs.declared.Line.TheVariants.{PutFinish}
use Rattle.model.specs.declared.Queue.{Queue}
use Rattle.model.specs.declared.Room.{Room}
use Rattle.model.specs.declared.Task.{Task}
use Rattle.model.specs.declared.Anchor.{Anchor}
use Rattle.model.specs.declared.Store.{Store}
use Rattle.model.specs.declared.Waiting.{Waiting}
use Rattle.model.specs.declared.Store.TheVariants.{StoreWord, StoreNote, StorePut, StoreOut, StoreHead, StoreTail}
use Rattle.model.specs.declared.Operation.{Operation}
use Rattle.model.specs.declared.Operation.TheVariants.{Put, Take, Steal, Commit}
use Rattle.model.specs.declared.Refusal.{Refusal}
use Rattle.model.specs.declared.Answer.{Answer}
use Rattle.model.specs.declared.Answer.TheVariants.{Accepted, Numbered, GoesOn, Finished, HandedOut, Empty, Full, Refused, Grown}
use Rattle.model.specs.Tests.{when◌then◌else◌}
use Rattle.model.specs.Stores.{in_line, joined, oldest, one_less}
use Rattle.model.specs.Figures.{put_store}
use Rattle.model.specs.Lines.{line_step}
use Rattle.model.specs.World.{World, Outcome, refuse, tag_bits, line_at}
use Rattle.model.specs.Calls.{begun, joining, Call, begin, step, drop_link, drain, call_in, set_aside, ask, drop_ask}
use Rattle.model.specs.Run.{Played}
use Rattle.theorems.specs.Demand3.{finishes, of_put, arrives_as, puts, drains_as, drains, waits}
use Rattle.theorems.specs.Corollaries.{landed, SamePuts}
use Rattle.theorems.proofs.Cases.{dropped, effect_of, step_to, drain_to, begin_by, step_by, drop_by, drain_by, ask_by, drop_ask_by}
use Rattle.theorems.proofs.Held.{line_join, line_drain, line_length}
use Rattle.theorems.proofs.Shape.{tail, ThiefShape}
use Rattle.theorems.proofs.Valid.{Whole}
use Rattle.theorems.proofs.WholeRun.{in_line_lem, storing, others_whole, call_whole}
use Rattle.theorems.proofs.Company.{Turn, others, own, played_in, InCompany}
use Rattle.theorems.proofs.Fresh.{Started, fresh_started, from_company}
use Rattle.theorems.proofs.Folds.{NonePut}
use Rattle.theorems.proofs.OwnerRun.{none_put, finishing, finish_only, put_stores}

-- puts' stores among the first x of a line
abbrev first : List Store → ℕ → ℕ
first [] x = 0
first (s ∷ ss) zero = 0
first (s ∷ ss) (suc x) = of_put s + first ss x

first_none : (rr : List Store) (x : ℕ) → NonePut rr → first rr x ≡ 0
first_none [] x n = refl
first_none (s ∷ rr) zero n = refl
first_none (StoreWord b t j y ∷ rr) (suc x) n = omega (arith, first_none rr x n.1)
first_none (StoreNote k ∷ rr) (suc x) n = omega (arith, first_none rr x n.1)
first_none (StorePut r ∷ rr) (suc x) n = absurd n.0
first_none (StoreOut r ∷ rr) (suc x) n = omega (arith, first_none rr x n.1)
first_none (StoreHead i ∷ rr) (suc x) n = omega (arith, first_none rr x n.1)
first_none (StoreTail i ∷ rr) (suc x) n = absurd n.0

first_join : (ss rr : List Store) (x : ℕ) → first (ss ++ rr) x ≡ first ss x + first rr (x - length ss)
first_join [] rr x = ap (first rr) {x = x} {y = x - 0} (omega arith) ∙ omega arith
first_join (s ∷ ss) rr zero = first_zero rr _ (omega arith)
  where
    first_zero : (rr : List Store) (y : ℕ) → y ≡ 0 → 0 ≡ 0 + first rr y
    first_zero [] y e = omega arith
    first_zero (r ∷ rr) zero e = omega arith
    first_zero (r ∷ rr) (suc y) e = absurd (omega arith)
first_join (s ∷ ss) rr (suc x) = omega (arith, first_join ss rr x, ap (first rr) {x = x - length ss} {y = suc x - length (s ∷ ss)} (omega arith))

-- a put that joins is the last of the line
put_counts : (κ : Kind) (w : ℕ) (r : Anchor) → of_put (put_store κ w r) ≡ 1
put_counts Lifo w r = refl
put_counts Fifo w r = refl
put_counts Deque w r = refl

if_one : (t : Bool) (x y : ℕ) → (t ≡ true → x ≡ y) → (t ≡ false → x ≡ 0) → x ≡ (when t then y else 0)
unfolding when◌then◌else◌
if_one true x y f g = f refl
if_one false x y f g = g refl

last_one : (s : Store) (n x : ℕ) → of_put s ≡ 1 → first (s ∷ []) (x - n) ≡ (when leb (n + 1) x then 1 else 0)
last_one s n x e = if_one (leb (n + 1) x) (first (s ∷ []) (x - n)) 1 (λ q. some (x - n) (omega (arith, leb-true (n + 1) x q))) (λ q. none (x - n) (omega (arith, leb-false (n + 1) x q)))
  where
    some : (y : ℕ) → 0 < y → first (s ∷ []) y ≡ 1
    some zero h = absurd (omega arith)
    some (suc y) h = omega (arith, e)

    none : (y : ℕ) → y ≡ 0 → first (s ∷ []) y ≡ 0
    none zero h = refl
    none (suc y) h = absurd (omega arith)

-- an answer that finishes no put
unfinished : (a : Answer) → ((i : ℕ) (t : Task) → a ≡ Finished i t → ⊥) → finishes a ≡ 0
unfinished Accepted f = refl
unfinished (Numbered n) f = refl
unfinished GoesOn f = refl
unfinished (Finished i t) f = absurd (f i t refl)
unfinished (HandedOut i t) f = refl
unfinished (Empty i) f = refl
unfinished (Full i t) f = refl
unfinished (Grown i) f = refl
unfinished (Refused r) f = refl

if_none : (t : Bool) (x : ℕ) → x ≡ 0 → (when t then x else 0) ≡ 0
unfolding when◌then◌else◌
if_none true x e = e
if_none false x e = refl

finish_answer : (ρ : Room) (κ : Kind) (w ω : ℕ) (q : Queue) (m : List ℕ) (o : Line) (t : Task) (r : Anchor) → o ≡ PutFinish t r → finishes (line_step ρ κ w ω q m 0 o).answer ≡ 1
unfolding line_step
finish_answer ρ κ w ω q m o t r e = rw e

-- what the owner's line adds to the first x of a line of n
line_adds : (ρ : Room) (κ : Kind) (w ω : ℕ) (q : Queue) (m : List ℕ) (o : Line) (n x : ℕ) → first (line_step ρ κ w ω q m 0 o).stores (x - n) ≡ (when leb (n + 1) x then finishes (line_step ρ κ w ω q m 0 o).answer else 0)
line_adds ρ κ w ω q m o n x = go (finishing o)
  where
    go : ((t : Task) × (r : Anchor) × (o ≡ PutFinish t r)) ⊎ ((t : Task) (r : Anchor) → o ≡ PutFinish t r → ⊥)
        → first (line_step ρ κ w ω q m 0 o).stores (x - n) ≡ (when leb (n + 1) x then finishes (line_step ρ κ w ω q m 0 o).answer else 0)
    go (inl (t, r, e)) =
        ap (λ (ss : List Store). first ss (x - n)) (put_stores ρ κ w ω q m o t r e) ∙ last_one (put_store κ w r) n x (put_counts κ w r)
        ∙ ap (λ (y : ℕ). when leb (n + 1) x then y else 0) (sym (finish_answer ρ κ w ω q m o t r e))
    go (inr d) =
        first_none (line_step ρ κ w ω q m 0 o).stores (x - n) (none_put ρ κ w ω q m o d)
        ∙ sym (if_none (leb (n + 1) x) _ (unfinished _ (λ i t p. let P = finish_only ρ κ w ω q m 0 o i t p in d t P.0 P.1)))

clear : (δ : Bool) (y : ℕ) → y ≡ 0 → (when δ then 0 else y) ≡ 0
unfolding when◌then◌else◌
clear true y e = refl
clear false y e = e

refused_drain : (W : World) (r : Refusal) (x : ℕ)
    → 0 + first (in_line W.bench.waiting) x ≡ (when leb (when W.bench.delayed then W.bench.waiting.count + 1 else 0) x then 0 else 0) + first (in_line W.bench.waiting) (x + 0)
refused_drain W r x =
    ap (λ (y : ℕ). 0 + first (in_line W.bench.waiting) y) {x = x} {y = x + 0} (omega arith)
    ∙ ap (λ (y : ℕ). y + first (in_line W.bench.waiting) (x + 0)) (sym (if_none (leb (when W.bench.delayed then W.bench.waiting.count + 1 else 0) x) 0 refl))

-- A CALL: what comes to memory and what is first in the line after it, with x drains to come
abbrev Pays : World → Call → Outcome → Type 0
Pays W c D =
    (x : ℕ) → arrives_as W c D.answer + first (in_line D.world.bench.waiting) x
    ≡ (when leb (waits (record { before = W; call = c; answer = D.answer })) x then finishes D.answer else 0) + first (in_line W.bench.waiting) (x + drains_as c D.answer)

nothing_comes : (W : World) (a : Answer) (x : ℕ) → finishes a ≡ 0 → (when W.bench.delayed then 0 else finishes a) + first (in_line W.bench.waiting) x
    ≡ (when leb (when W.bench.delayed then W.bench.waiting.count + 1 else 0) x then finishes a else 0) + first (in_line W.bench.waiting) (x + 0)
nothing_comes W a x e =
    ap (λ (y : ℕ). y + first (in_line W.bench.waiting) x) (nil W.bench.delayed)
    ∙ ap (λ (y : ℕ). 0 + first (in_line W.bench.waiting) y) {x = x} {y = x + 0} (omega arith)
    ∙ ap (λ (y : ℕ). y + first (in_line W.bench.waiting) (x + 0)) (sym (if_none (leb (when W.bench.delayed then W.bench.waiting.count + 1 else 0) x) (finishes a) e))
  where
    nil : (δ : Bool) → (when δ then 0 else finishes a) ≡ 0
    nil δ = clear δ (finishes a) e

refused_pays : (W : World) (c : Call) (r : Refusal) → Pays W c (refuse W r)
unfolding when◌then◌else◌
refused_pays W (begin i op) r x = nothing_comes W (Refused r) x refl
refused_pays W (step i) r x = nothing_comes W (Refused r) x refl
refused_pays W (drop_link i) r x = nothing_comes W (Refused r) x refl
refused_pays W (ask i) r x = nothing_comes W (Refused r) x refl
refused_pays W (drop_ask i) r x = nothing_comes W (Refused r) x refl
refused_pays W drain r x = refused_drain W r x

begun_pays : (W : World) (i : ℕ) (op : Operation) → Pays W (begin i op) (begun W i op)
begun_pays W i (Put p) x = nothing_comes W (Numbered (W.bench.used + 1)) x refl
begun_pays W i Take x = nothing_comes W Accepted x refl
begun_pays W i Steal x = nothing_comes W Accepted x refl
begun_pays W i Commit x = nothing_comes W Accepted x refl

dropped_pays : (W : World) (i : ℕ) → Pays W (drop_link i) (record { world = dropped W i; answer = Accepted })
dropped_pays W i x = nothing_comes W Accepted x refl

ask_pays : (W : World) (i n : ℕ) → Pays W (ask i) (set_aside W n)
ask_pays W i n x = nothing_comes W Accepted x refl

drop_ask_pays : (W : World) (i n : ℕ) → Pays W (drop_ask i) (set_aside W n)
drop_ask_pays W i n x = nothing_comes W Accepted x refl

plus_zero : (ss : List Store) (x : ℕ) → first ss x ≡ first ss (x + 0)
plus_zero ss x = ap (first ss) {x = x} {y = x + 0} (omega arith)

leb_zero : (x : ℕ) → leb 0 x ≡ true
leb_zero x = le-leb 0 x (omega arith)

step_pays : (δ : Bool) (i : ℕ) (l : Waiting) (rr : List Store) (f : ℕ) → l.count ≤ length l.stores
    → ((x : ℕ) → i ≡ 0 → first rr (x - l.count) ≡ (when leb (l.count + 1) x then f else 0)) → (0 < i → f ≡ 0) → (x : ℕ)
    → (when δ then 0 else f) + first (in_line (joined l (joining δ i rr))) x ≡ (when leb (when δ then l.count + 1 else 0) x then f else 0) + first (in_line l) (x + 0)
unfolding when◌then◌else◌
step_pays true zero l rr f h mine thief x =
    omega (
      arith,
      ap (λ (ss : List Store). first ss x) (line_join l rr h),
      first_join (in_line l) rr x,
      ap (λ (y : ℕ). first rr (x - y)) (line_length l h),
      mine x refl,
      plus_zero (in_line l) x,
    )
step_pays true (suc k) l rr f h mine thief x =
    omega (
      arith,
      ap (λ (ss : List Store). first ss x) (line_join l [] h),
      first_join (in_line l) [] x,
      if_none (leb (l.count + 1) x) f (thief (omega arith)),
      plus_zero (in_line l) x,
    )
step_pays false i l rr f h mine thief x =
    omega (
      arith,
      ap (λ (ss : List Store). first ss x) (line_join l [] h),
      first_join (in_line l) [] x,
      ap (λ (t : Bool). when t then f else 0) (leb_zero x),
      plus_zero (in_line l) x,
    )

thief_none : (ρ : Room) (W : World) → Whole W → (i : ℕ) → 0 < i → finishes (effect_of ρ W i).answer ≡ 0
thief_none ρ W H zero h = absurd (omega arith)
thief_none ρ W H (suc k) h =
    unfinished _ (λ i t p.
    let P = finish_only ρ W.bench.kind (tag_bits W.bench) W.bench.words W.bench.queue W.store (suc k) (line_at W.bench.workers (suc k)) i t p in
    subst (λ (θ : Line). ThiefShape W.bench.kind (tag_bits W.bench) W.bench.words W.bench.queue (tail W.bench.kind W.bench.queue.anchor) θ) P.1 (H.shape.th k))

own_adds : (ρ : Room) (W : World) (i x : ℕ) → i ≡ 0 → first (effect_of ρ W i).stores (x - W.bench.waiting.count) ≡ (when leb (W.bench.waiting.count + 1) x then finishes (effect_of ρ W i).answer else 0)
own_adds ρ W zero x e = line_adds ρ W.bench.kind (tag_bits W.bench) W.bench.words _ _ (line_at W.bench.workers 0) W.bench.waiting.count x
own_adds ρ W (suc k) x e = absurd (omega arith)

stepped_pays : (ρ : Room) (W : World) → Whole W → (i : ℕ) → Pays W (step i) (step_to ρ W i)
stepped_pays ρ W H i x =
    step_pays W.bench.delayed i W.bench.waiting (effect_of ρ W i).stores (finishes (effect_of ρ W i).answer) (in_line_lem H) (λ x e. own_adds ρ W i x e) (thief_none ρ W H i) x

-- a drain
drained_pays : (ρ : Room) (W : World) → Whole W → 0 < W.bench.waiting.count → Pays W drain (record { world = drain_to W; answer = Accepted })
unfolding when◌then◌else◌
drained_pays ρ W H some x =
    omega (
      arith,
      ap (λ (ss : List Store). first ss (x + 1)) (line_drain W.bench.waiting some (in_line_lem H)),
      next_one (oldest W.bench.waiting) (in_line (one_less W.bench.waiting)) x,
      if_none (leb (waits (record { before = W; call = drain; answer = Accepted })) x) 0 refl,
    )
  where
    next_one : (s : Store) (ss : List Store) (x : ℕ) → first (s ∷ ss) (x + 1) ≡ of_put s + first ss x
    next_one s ss x = ap (first (s ∷ ss)) {x = x + 1} {y = suc x} (omega arith)

call_pays : (ρ : Room) (W : World) → Whole W → (c : Call) → Pays W c (call_in ρ W c)
call_pays ρ W H (begin i op) = begin_by (Pays W (begin i op)) W (λ r l. refused_pays W (begin i op) r) ρ i op (λ B. begun_pays W i op)
call_pays ρ W H (step i) = step_by (Pays W (step i)) W (λ r l. refused_pays W (step i) r) ρ i (λ M. stepped_pays ρ W H i)
call_pays ρ W H (drop_link i) = drop_by (Pays W (drop_link i)) W (λ r l. refused_pays W (drop_link i) r) ρ i (dropped_pays W i)
call_pays ρ W H (ask i) = ask_by (Pays W (ask i)) W (λ r l. refused_pays W (ask i) r) ρ i (λ n A. ask_pays W i n)
call_pays ρ W H (drop_ask i) = drop_ask_by (Pays W (drop_ask i)) W (λ r l. refused_pays W (drop_ask i) r) ρ i (λ n A. drop_ask_pays W i n)
call_pays ρ W H drain = drain_by (Pays W drain) W (λ r l. refused_pays W drain r) ρ (drained_pays ρ W H)

-- A LIST
nothing_first : (ss : List Store) → first ss 0 ≡ 0
nothing_first [] = refl
nothing_first (s ∷ ss) = refl

run_pays : (ts : List Turn) (W : World) → Whole W → InCompany W ts → puts (played_in W ts) ≡ landed (played_in W ts) + first (in_line W.bench.waiting) (drains (played_in W ts))
unfolding played_in InCompany
run_pays [] W H C = omega (arith, nothing_first (in_line W.bench.waiting))
run_pays (others m ∷ ts) W H (O, C) = run_pays ts (storing W m) (others_whole H O) C
run_pays (own ρ c ∷ ts) W H (R, C) = omega (arith, run_pays ts (call_in ρ W c).world (call_whole ρ H R c) C, call_pays ρ W H c (drains (played_in (call_in ρ W c).world ts)))

-- in company, and alone
pub same_puts_in : (ts : List Turn) (U : World) → Started U → InCompany U ts → puts (played_in U ts) ≡ landed (played_in U ts)
same_puts_in ts U F C = omega (arith, run_pays ts U F.whole C, ap (λ (ss : List Store). first ss (drains (played_in U ts))) F.line)

pub same_puts : SamePuts
same_puts s m l e cs = from_company (λ (T : List Played) (X : World). puts T ≡ landed T) s m l e (λ ts C. same_puts_in ts _ (fresh_started s m l e) C) cs
