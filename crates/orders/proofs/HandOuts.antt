-- Hand-outs are at most the takes and steals, and repeats fewer.
use mathlib.Core.Path.{◌≡◌, refl, sym, ◌∙◌, ap, subst}
use mathlib.Core.Bool.{Bool, true, false, not, true≢false}
use mathlib.Core.Logic.{◌⊎◌, inl, inr, ⊎_elim}
use mathlib.Core.List.{List, [], ◌∷◌}
use Prim.Native.Nat.{ℕ, zero, suc, ◌+◌, ◌-◌, ◌*◌, ◌/◌, ◌≤◌, ◌<◌}
use native.Mathlib.Omega.{arith}
use native.Mathlib.Nat.{mul-div_cancel_left}
use lib.Dec.{eqb, ltb}
use lib.ListN.{length, get_or, set, take}
use lib.Seq.{get_or-set_same, get_or-set_other}
use borrow.Author.Tests.{ltb-false}
use Rattle.model.specs.declared.Setup.{Setup}
use Rattle.model.specs.declared.Worker.{Worker}
use Rattle.model.specs.declared.Operation.{Operation}
use Rattle.model.specs.declared.Operation.TheVariants.{Put, Take, Steal, Commit}
use Rattle.model.specs.declared.Answer.{Answer}
use Rattle.model.specs.declared.Answer.TheVariants.{Accepted, Numbered, GoesOn, Finished, HandedOut, Empty, Full, Grown, Refused}
use Rattle.model.specs.Tests.{when◌then◌else◌, ◌and◌, ◌or◌}
use Rattle.model.specs.Tasks.{words_in}
use Rattle.model.specs.Memory.{set_all}
use Rattle.model.specs.Answers.{entry_of, ends, entry_length, entry_words}
use Rattle.model.specs.World.{World, line_at, room_alone}
use Rattle.model.specs.Calls.{fresh_of, first_line, begin_of, step_of, log_full, begin, step}
use Rattle.model.specs.Counts.{entry_at, is_kind, out_as, out_first, some_below, count_below, counts_of, entries_in}
use Rattle.model.proofs.Tests.{or_false}
use Rattle.model.proofs.Below.{count_same}
use Rattle.theorems.proofs.Words.{earlier_slot}
use Rattle.theorems.proofs.Cases.{effect_of, effect_is, begin_by, step_by, lone_cases}
use Rattle.theorems.proofs.Fresh.{fresh_is}
use Rattle.orders.specs.Orders.{Play, Order, left_of, begin_next, idle, move, after_order}
use Rattle.orders.specs.Hunt.{can_hand_out, hands_in, takes_and_steals, repeats_in}
use Rattle.orders.proofs.Spends.{opens, hands, Spends, next_spends}

-- SUMS, with one part replaced
abbrev open_in : List Worker → ℕ
open_in [] = 0
open_in (x ∷ l) = opens x.line + open_in l

open_set : (l : List Worker) (i : ℕ) (x : Worker) → open_in (set l i x) + opens (line_at l i) ≤ open_in l + opens x.line
open_set [] i x = omega arith
open_set (y ∷ l) zero x = omega arith
open_set (y ∷ l) (suc i) x = omega (arith, open_set l i x)

left_set : (l : List (List Operation)) (i : ℕ) (x : List Operation) → takes_and_steals (set l i x) + hands_in (get_or l i []) ≤ takes_and_steals l + hands_in x
left_set [] i x = omega arith
left_set (y ∷ l) zero x = omega arith
left_set (y ∷ l) (suc i) x = omega (arith, left_set l i x)

-- THE LOG. An entry behind m entries
front_kept : (xs l : List ℕ) (n j : ℕ) → j < n → get_or (set_all l n xs) j 0 ≡ get_or l j 0
front_kept [] l n j h = refl
front_kept (x ∷ xs) l n j h = front_kept xs (set l n x) (n + 1) j (omega arith) ∙ get_or-set_other l n j x 0 (λ e. omega (arith, h, e))

abbrev written : ℕ → List ℕ → ℕ → Answer → List ℕ
written v l n a = set_all l n (entry_words v (entry_of a))

new_kind : (v : ℕ) (l : List ℕ) (n : ℕ) (a : Answer) → n < length l → get_or (written v l n a) n 0 ≡ (entry_of a).kind
new_kind v l n a h = front_kept ((entry_of a).worker ∷ take (v + 1) (words_in (entry_of a).task)) (set l n (entry_of a).kind) (n + 1) n (omega arith) ∙ get_or-set_same l n (entry_of a).kind 0 h

abbrev outs : ℕ → List ℕ → ℕ → ℕ
outs v l m = count_below (is_kind v l 2) m

one_more_lem : (x : Bool) (n h : ℕ) → (x ≡ true → h ≡ 1) → (when x then n + 1 else n) ≤ n + h
unfolding when◌then◌else◌
one_more_lem true n h f = omega (arith, f refl)
one_more_lem false n h f = omega arith

hands_2 : (a : Answer) → eqb (entry_of a).kind 2 ≡ true → hands a ≡ 1
hands_2 Accepted e = absurd (true≢false (sym e))
hands_2 (Numbered n) e = absurd (true≢false (sym e))
hands_2 GoesOn e = absurd (true≢false (sym e))
hands_2 (Finished i t) e = absurd (true≢false (sym e))
hands_2 (HandedOut i t) e = refl
hands_2 (Empty i) e = absurd (true≢false (sym e))
hands_2 (Full i t) e = absurd (true≢false (sym e))
hands_2 (Grown i) e = absurd (true≢false (sym e))
hands_2 (Refused r) e = absurd (true≢false (sym e))

outs_written : (v : ℕ) (l : List ℕ) (n m : ℕ) (a : Answer) → n ≡ entry_length v * m → n < length l → outs v (written v l n a) (suc m) ≤ outs v l m + hands a
unfolding count_below
outs_written v l n m a e h =
    rw (count_same (is_kind v (written v l n a) 2) (is_kind v l 2) m (λ j g. ap (λ (k : ℕ). eqb k 2) (front_kept (entry_words v (entry_of a)) l n (entry_length v * j) (omega (arith, e, earlier_slot (entry_length v) j m 0 g (omega arith))))))
    (rw (ap (λ (k : ℕ). eqb (get_or (written v l n a) k 0) 2) (sym e) ∙ ap (λ (k : ℕ). eqb k 2) (new_kind v l n a h))
    (one_more_lem (eqb (entry_of a).kind 2) (outs v l m) (hands a) (hands_2 a)))

-- WHAT IS KEPT: hand-outs in the log, and what can still hand out, open or left (r of those), are at most H
pub record Fair (W : World) (r H : ℕ) : Type 0 where
  pub entries : ℕ
  pub aligned : W.bench.written ≡ entry_length W.bench.words * entries
  pub few : outs W.bench.words W.log entries + open_in W.bench.workers + r ≤ H

-- a step's log and log length, by whether it ends an operation
step_log : (v : ℕ) (l : List ℕ) (n m : ℕ) (a : Answer) (x : Bool) → n ≡ entry_length v * m → (x and log_full v l n) ≡ false
    → (k : ℕ) × ((when x then n + entry_length v else n) ≡ entry_length v * k) × (outs v (when x then written v l n a else l) k ≤ outs v l m + hands a)
unfolding when◌then◌else◌ ◌and◌
step_log v l n m a true e r =
    let f : n + entry_length v ≤ length l = ltb-false (length l) (n + entry_length v) (or_false (ltb (length l) (n + entry_length v)) _ r).0 in
    (suc m, omega (arith, e), outs_written v l n m a e (omega arith))
step_log v l n m a false e r = (m, e, omega arith)

step_fair : (W : World) (i r H : ℕ) → Fair W r H → Fair (step_of W i).world r H
step_fair W i r H F =
    let ρ = room_alone W in
    let E = effect_of ρ W i in
    lone_cases (λ D. Fair D.world r H) W F (step i)
    (step_by (λ D. Fair D.world r H) W (λ y q. F) ρ i
    (λ M.
    let (k, a, o) = step_log W.bench.words W.log W.bench.written F.entries E.answer (ends E.answer) F.aligned M.room in
    let p : Spends (line_at W.bench.workers i) E = subst (Spends (line_at W.bench.workers i)) (effect_is ρ W i) (next_spends ρ W i) in
    record {
      entries = k;
      aligned = a;
      few = omega (arith, o, F.few, open_set W.bench.workers i (record { line = E.line }), p.1);
    }))

opens_first : (op : Operation) (v u : ℕ) → opens (first_line op v u) ≡ can_hand_out op
opens_first (Put p) v u = refl
opens_first Take v u = refl
opens_first Steal v u = refl
opens_first Commit v u = refl

begin_fair : (W : World) (i : ℕ) (op : Operation) (r H : ℕ) → Fair W (can_hand_out op + r) H → Fair (begin_of W i op).world r H
begin_fair W i op r H F =
    let x : Worker = record { line = first_line op W.bench.words W.bench.used } in
    let less : Fair W r H = record { entries = F.entries; aligned = F.aligned; few = omega (arith, F.few) } in
    lone_cases (λ D. Fair D.world r H) W less (begin i op)
    (begin_by (λ D. Fair D.world r H) W (λ y q. less) (room_alone W) i op
    (λ M. record {
      entries = F.entries;
      aligned = F.aligned;
      few = omega (arith, F.few, open_set W.bench.workers i x, opens_first op W.bench.words W.bench.used);
    }))

abbrev FairPlay : Play → ℕ → Type 0
FairPlay S H = Fair S.world (takes_and_steals S.left) H

begin_next_fair : (S : Play) (i H : ℕ) (l : List Operation) → left_of S i ≡ l → FairPlay S H → FairPlay (begin_next S i l) H
begin_next_fair S i H [] e F = F
begin_next_fair S i H (op ∷ ops) e F =
    let d = left_set S.left i ops in
    let z : hands_in (get_or S.left i []) ≡ can_hand_out op + hands_in ops = ap hands_in e in
    let F' : Fair S.world (can_hand_out op + takes_and_steals (set S.left i ops)) H =
    record { entries = F.entries; aligned = F.aligned; few = omega (arith, F.few, d, z) } in
    step_fair (begin_of S.world i op).world i _ H (begin_fair S.world i op _ H F')

either_play : (P : Play → Type 0) (x : Bool) (S T : Play) → P S → P T → P (when x then S else T)
unfolding when◌then◌else◌
either_play P true S T s t = s
either_play P false S T s t = t

move_fair : (S : Play) (i H : ℕ) → FairPlay S H → FairPlay (move S i) H
unfolding move
move_fair S i H F =
    either_play (λ T. FairPlay T H) (idle S i) _ _ (begin_next_fair S i H (left_of S i) refl F) (step_fair S.world i _ H F)

pub order_fair : (o : Order) (S : Play) (H : ℕ) → FairPlay S H → FairPlay (after_order S o) H
unfolding after_order
order_fair [] S H F = F
order_fair (i ∷ o) S H F = order_fair o (move S i) H (move_fair S i H F)

-- REPEATS are fewer than hand-outs: the first of all hand-outs repeats none
none_out_next : (v : ℕ) (l : List ℕ) (x n : ℕ) (y : Bool) → (outs v l n ≡ 0 → some_below (out_as v l x) n ≡ false) → (when y then outs v l n + 1 else outs v l n) ≡ 0
    → ((y and eqb (entry_at v l n).task.number x) or some_below (out_as v l x) n) ≡ false
unfolding when◌then◌else◌ ◌and◌ ◌or◌
none_out_next v l x n true f e = absurd (omega arith)
none_out_next v l x n false f e = f e

none_out : (v : ℕ) (l : List ℕ) (x n : ℕ) → outs v l n ≡ 0 → some_below (out_as v l x) n ≡ false
unfolding count_below some_below
none_out v l x zero e = refl
none_out v l x (suc n) e = none_out_next v l x n (is_kind v l 2 n) (none_out v l x n) e

-- no hand-out below n, or a first one
abbrev OneFirst : ℕ → List ℕ → ℕ → Type 0
OneFirst v l n = (outs v l n ≡ 0) ⊎ (0 < count_below (out_first v l) n)

one_first_next : (v : ℕ) (l : List ℕ) (n : ℕ) (y : Bool) → OneFirst v l n
    → ((when y then outs v l n + 1 else outs v l n) ≡ 0)
    ⊎ (0 < (when y and not (some_below (out_as v l (entry_at v l n).task.number) n) then count_below (out_first v l) n + 1 else count_below (out_first v l) n))
unfolding when◌then◌else◌ ◌and◌
one_first_next v l n true (inl e) = inr (rw (none_out v l (entry_at v l n).task.number n e) (omega arith))
one_first_next v l n true (inr h) = inr (at_least (not (some_below (out_as v l (entry_at v l n).task.number) n)) (count_below (out_first v l) n) h)
  where
    at_least : (z : Bool) (c : ℕ) → 0 < c → 0 < (when z then c + 1 else c)
    at_least true c h = omega arith
    at_least false c h = h
one_first_next v l n false f = f

one_first : (v : ℕ) (l : List ℕ) (n : ℕ) → OneFirst v l n
unfolding count_below
one_first v l zero = inl refl
one_first v l (suc n) = one_first_next v l n (is_kind v l 2 n) (one_first v l n)

pub fair_repeats : (W : World) (r H : ℕ) → Fair W r H → repeats_in W ≤ H - 1
unfolding counts_of
fair_repeats W r H F = go (one_first v W.log F.entries)
  where
    v : ℕ
    v = W.bench.words

    same : entries_in W ≡ F.entries
    same = ap (λ (n : ℕ). n / entry_length v) F.aligned ∙ mul-div_cancel_left F.entries (omega arith)

    go : OneFirst v W.log F.entries → outs v W.log (entries_in W) - count_below (out_first v W.log) (entries_in W) ≤ H - 1
    go x = subst (λ (n : ℕ). outs v W.log n - count_below (out_first v W.log) n ≤ H - 1) (sym same) (⊎_elim (λ e. omega (arith, e)) (λ h. omega (arith, h, F.few)) x)

-- a fresh bench hands out nothing yet
pub fresh_fair : (u : Setup) (m l : List ℕ) (r : ℕ) → (fresh_of u m l).answer ≡ Accepted → Fair (fresh_of u m l).world r r
unfolding count_below
fresh_fair u m l r e = subst (λ (W : World). Fair W r r) (sym (fresh_is u m l e).0) (record { entries = 0; aligned = omega arith; few = omega arith })
