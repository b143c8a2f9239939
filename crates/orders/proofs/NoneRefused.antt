-- No call of a hunt is refused.
use mathlib.Core.Path.{◌≡◌, refl, sym, ◌∙◌, ap, subst}
use mathlib.Core.Bool.{Bool, true, false, not, true≢false}
use mathlib.Core.List.{List, [], ◌∷◌, map}
use Prim.Native.Nat.{ℕ, zero, suc, ◌+◌, ◌*◌, ◌≤◌, ◌<◌}
use native.Mathlib.Omega.{arith}
use native.Mathlib.Nat.{add-zero, mul-le-mul_left}
use lib.Dec.{ltb}
use lib.ListN.{length, get_or, set, take, drop, replicate, length-set, length-replicate}
use lib.Seq.{get_or-set_same, get_or-set_other}
use borrow.Author.Tests.{lt-ltb, le-ltb, eqb-true, leb-true, ltb-true, ltb-false}
use Rattle.model.specs.declared.Setup.{Setup}
use Rattle.model.specs.declared.Store.{Store}
use Rattle.model.specs.declared.Worker.{Worker}
use Rattle.model.specs.declared.Operation.{Operation}
use Rattle.model.specs.declared.Operation.TheVariants.{Put, Take, Steal, Commit}
use Rattle.model.specs.declared.Answer.{Answer}
use Rattle.model.specs.declared.Answer.TheVariants.{Accepted, Numbered, GoesOn, Finished, HandedOut, Empty, Full, Grown, Refused}
use Rattle.model.specs.Tests.{when◌then◌else◌, ◌and◌, ◌or◌}
use Rattle.model.specs.Answers.{entry_of, ends, entry_length, entry_words}
use Rattle.model.specs.Memory.{set_all, usable}
use Rattle.model.specs.Lines.{Effect}
use Rattle.model.specs.World.{World, Outcome, resting, line_at, is_idle, room_alone}
use Rattle.model.specs.Limits.{valid_of}
use Rattle.model.specs.Calls.{fresh_of, setup, right_hand, numbers_left, asked, first_line, used_by, begun, begin_of, joining, log_full, stepped, next_effect, step_of, begin, step}
use Rattle.model.proofs.Tests.{if_true, if_false}
use Rattle.theorems.specs.Reached.{Reached}
use Rattle.theorems.proofs.Words.{set_all_length}
use Rattle.theorems.proofs.Reached.{reached_fresh, reached_call, reached_valid}
use Rattle.theorems.proofs.Fresh.{Admitted, start_of as fresh_start, fresh_is}
use Rattle.orders.specs.Orders.{Play, play, Order, left_of, has_some, idle, may_step, begin_next, move, after_order}
use Rattle.orders.specs.Hunt.{operations, owners_next, plan, own_store, own_log, start_of, hunt_of}
use Rattle.orders.specs.Claims.{Complete, Stepped, Made, NoneRefused}
use Rattle.orders.proofs.AllOrders.{rest_complete}
use Rattle.orders.proofs.Spends.{busy, busy_is, ended, next_spends}
use Rattle.orders.proofs.Reports.{Passed, passed}

-- SUMS
abbrev pub busy_in : List Worker → ℕ
busy_in [] = 0
busy_in (x ∷ l) = busy x.line + busy_in l

busy_set : (l : List Worker) (i : ℕ) (x : Worker) → busy_in (set l i x) + busy (line_at l i) ≤ busy_in l + busy x.line
busy_set [] i x = omega arith
busy_set (y ∷ l) zero x = omega arith
busy_set (y ∷ l) (suc i) x = omega (arith, busy_set l i x)

busy_at : (l : List Worker) (i : ℕ) → busy (line_at l i) ≤ busy_in l
busy_at [] i = omega arith
busy_at (y ∷ l) zero = omega arith
busy_at (y ∷ l) (suc i) = omega (arith, busy_at l i)

left_set : (l : List (List Operation)) (i : ℕ) (x : List Operation) → operations (set l i x) + length (get_or l i []) ≤ operations l + length x
left_set [] i x = omega arith
left_set (y ∷ l) zero x = omega arith
left_set (y ∷ l) (suc i) x = omega (arith, left_set l i x)

left_at : (l : List (List Operation)) (i : ℕ) → length (get_or l i []) ≤ operations l
left_at [] i = omega arith
left_at (y ∷ l) zero = omega arith
left_at (y ∷ l) (suc i) = omega (arith, left_at l i)

-- operations that worker i may begin at any time that it is idle
abbrev pub Hands : ℕ → List Operation → Type 0
Hands i [] = Unit {0}
Hands i (op ∷ ops) = (right_hand i op ≡ true) × ((n : ℕ) → asked op n ≡ true) × Hands i ops

-- A CALL IS MADE
no_room_lem : (a : Bool) (v : ℕ) (l : List ℕ) (n : ℕ) → length l ≡ 448 → n + entry_length v ≤ 448 → (a and log_full v l n) ≡ false
unfolding ◌and◌ ◌or◌
no_room_lem true v l n e h = rw (le-ltb (length l) (n + entry_length v) (omega arith)) (le-ltb 4294967295 (n + entry_length v) (omega arith))
no_room_lem false v l n e h = refl

-- nothing waits without delayed stores
none_join : (d : Bool) (c i : ℕ) (ss : List Store) → d ≡ false → c ≡ 0 → c + length (joining d i ss) ≡ 0
none_join d c i ss e f = rw e (rw f (omega arith))

none_crowded : (d : Bool) (c i : ℕ) (ss : List Store) → d ≡ false → c ≡ 0 → ltb 8 (c + length (joining d i ss)) ≡ false
none_crowded d c i ss e f = le-ltb 8 (c + length (joining d i ss)) (omega (arith, none_join d c i ss e f))

step_made : (W : World) (i : ℕ) → valid_of W ≡ true → i < W.bench.crew → is_idle (line_at W.bench.workers i) ≡ false
    → W.bench.delayed ≡ false → W.bench.waiting.count ≡ 0 → length W.log ≡ 448
    → W.bench.written + entry_length W.bench.words ≤ 448 → Stepped W i
unfolding step_of
step_made W i v h b d c l r =
    let E = next_effect (room_alone W) W i in
    if_true _ v ∙ if_true _ (lt-ltb i W.bench.crew h) ∙ if_false _ b
    ∙ if_false _ (none_crowded W.bench.delayed W.bench.waiting.count i E.stores d c)
    ∙ if_false _ (no_room_lem (ends E.answer) W.bench.words W.log W.bench.written l r)

numbers_left_lem : (op : Operation) (u : ℕ) → u < 65535 → numbers_left op u ≡ true
numbers_left_lem (Put p) u h = lt-ltb u 65535 h
numbers_left_lem Take u h = refl
numbers_left_lem Steal u h = refl
numbers_left_lem Commit u h = refl

begin_made : (W : World) (i : ℕ) (op : Operation) → valid_of W ≡ true → i < W.bench.crew → right_hand i op ≡ true
    → ((n : ℕ) → asked op n ≡ true) → is_idle (line_at W.bench.workers i) ≡ true → W.bench.used < 65535
    → begin_of W i op ≡ begun W i op
unfolding begin_of
begin_made W i op v h r a e u =
    if_true _ v ∙ if_true _ (lt-ltb i W.bench.crew h) ∙ if_true _ r ∙ if_true _ e ∙ if_true _ (numbers_left_lem op W.bench.used u)
    ∙ if_true _ (a W.bench.aside)

-- WHAT IS KEPT: the log's entries, the open operations and those left are 64 at most
pub record Good (S : Play) : Type 0 where
  pub reached : Reached S.world
  pub eight : length S.world.bench.workers ≡ 8
  pub small : S.world.bench.crew ≤ 8
  pub words : S.world.bench.words ≤ 4
  pub mode : S.world.bench.delayed ≡ false
  pub line : S.world.bench.waiting.count ≡ 0
  pub long : length S.world.log ≡ 448
  pub outside : (i : ℕ) → S.world.bench.crew ≤ i → (idle S i ≡ true) × (left_of S i ≡ [])
  pub hands : (i : ℕ) → Hands i (left_of S i)
  pub numbers : S.world.bench.used + operations S.left ≤ 64
  pub entries : ℕ
  pub aligned : S.world.bench.written ≡ entry_length S.world.bench.words * entries
  pub room : entries + busy_in S.world.bench.workers + operations S.left ≤ 64

written_by : (d n m : ℕ) (a : Answer) → n ≡ d * m → (when ends a then n + d else n) ≡ d * (m + ended a)
unfolding when◌then◌else◌
written_by d n m Accepted e = omega (arith, e)
written_by d n m (Numbered x) e = omega (arith, e)
written_by d n m GoesOn e = omega (arith, e)
written_by d n m (Finished i t) e = omega (arith, e)
written_by d n m (HandedOut i t) e = omega (arith, e)
written_by d n m (Empty i) e = omega (arith, e)
written_by d n m (Full i t) e = omega (arith, e)
written_by d n m (Grown i) e = omega (arith, e)
written_by d n m (Refused r) e = omega (arith, e)

logged_long : (v : ℕ) (l : List ℕ) (n : ℕ) (a : Answer) (x : Bool) → length (when x then set_all l n (entry_words v (entry_of a)) else l) ≡ length l
unfolding when◌then◌else◌
logged_long v l n a true = set_all_length l n (entry_words v (entry_of a))
logged_long v l n a false = refl

-- room for one entry more
one_entry : (v n m : ℕ) → v ≤ 4 → n ≡ entry_length v * m → m < 64 → n + entry_length v ≤ 448
one_entry v n m h e l =
    let up : suc m ≤ 64 = omega arith in
    omega (arith, e, h, mul-le-mul_left (entry_length v) up)

pub other_line : (ws : List Worker) (i j : ℕ) (x : Worker) → (j ≡ i → ⊥) → line_at (set ws i x) j ≡ line_at ws j
other_line ws i j x h = ap (λ (y : Worker). y.line) (get_or-set_other ws i j x resting h)

step_good : (S : Play) (i : ℕ) → Good S → i < S.world.bench.crew → idle S i ≡ false
    → Stepped S.world i × Good (play (step_of S.world i).world S.left)
step_good S i G h b = (made, good)
  where
    W : World
    W = S.world

    E : Effect
    E = next_effect (room_alone W) W i

    x : Worker
    x = record { line = E.line }

    one : busy (line_at W.bench.workers i) ≡ 1
    one = busy_is (line_at W.bench.workers i) b

    made : Stepped W i
    made =
        step_made W i (reached_valid G.reached) h b G.mode G.line G.long
        (one_entry W.bench.words W.bench.written G.entries G.words G.aligned (omega (arith, G.room, busy_at W.bench.workers i, one)))

    after : Good (play (stepped (room_alone W) W i E).world S.left)
    after =
        record {
          reached = subst Reached (ap (λ (D : Outcome). D.world) made) (reached_call G.reached (step i));
          eight = length-set W.bench.workers i x ∙ G.eight;
          small = G.small;
          words = G.words;
          mode = G.mode;
          line = none_join W.bench.delayed W.bench.waiting.count i E.stores G.mode G.line;
          long = logged_long W.bench.words W.log W.bench.written E.answer (ends E.answer) ∙ G.long;
          outside = λ j g. (ap is_idle (other_line W.bench.workers i j x (λ q. omega (arith, g, h, q))) ∙ (G.outside j g).0, (G.outside j g).1);
          hands = G.hands;
          numbers = G.numbers;
          entries = G.entries + ended E.answer;
          aligned = written_by (entry_length W.bench.words) W.bench.written G.entries E.answer G.aligned;
          room = omega (arith, G.room, one, busy_set W.bench.workers i x, (next_spends (room_alone W) W i).0);
        }

    good : Good (play (step_of W i).world S.left)
    good = subst (λ (D : Outcome). Good (play D.world S.left)) (sym made) after

first_busy_lem : (op : Operation) (v u : ℕ) → is_idle (first_line op v u) ≡ false
first_busy_lem (Put p) v u = refl
first_busy_lem Take v u = refl
first_busy_lem Steal v u = refl
first_busy_lem Commit v u = refl

used_by_lem : (op : Operation) (u : ℕ) → used_by op u ≤ u + 1
used_by_lem (Put p) u = omega arith
used_by_lem Take u = omega arith
used_by_lem Steal u = omega arith
used_by_lem Commit u = omega arith

-- a fact of every place, where one is replaced
at_set : (P : ℕ → List Operation → Type 0) (l : List (List Operation)) (i : ℕ) (x : List Operation) → ((j : ℕ) → P j (get_or l j [])) → P i x
    → (j : ℕ) → P j (get_or (set l i x) j [])
at_set P [] i x f p j = f j
at_set P (y ∷ l) zero x f p zero = p
at_set P (y ∷ l) zero x f p (suc j) = f (suc j)
at_set P (y ∷ l) (suc i) x f p zero = f zero
at_set P (y ∷ l) (suc i) x f p (suc j) = at_set (λ k z. P (suc k) z) l i x (λ k. f (suc k)) p j

module _ (S : Play) (i : ℕ) (op : Operation) (ops : List Operation) (G : Good S) (h : i < S.world.bench.crew) (b : idle S i ≡ true) (e : left_of S i ≡ op ∷ ops) where
  mine : Hands i (op ∷ ops)
  mine = subst (Hands i) e (G.hands i)

  fewer : operations (set S.left i ops) + 1 ≤ operations S.left
  fewer = let z : length (get_or S.left i []) ≡ suc (length ops) = ap length e in omega (arith, left_set S.left i ops, z)

  begins : begin_of S.world i op ≡ begun S.world i op
  begins = begin_made S.world i op (reached_valid G.reached) h mine.0 mine.1 b (omega (arith, G.numbers))

  at_first : line_at (begun S.world i op).world.bench.workers i ≡ first_line op S.world.bench.words S.world.bench.used
  at_first =
      ap (λ (y : Worker). y.line)
      (get_or-set_same S.world.bench.workers i (record { line = first_line op S.world.bench.words S.world.bench.used }) resting (omega (arith, h, G.eight, G.small)))

  begun_busy : is_idle (line_at (begun S.world i op).world.bench.workers i) ≡ false
  begun_busy = ap is_idle at_first ∙ first_busy_lem op S.world.bench.words S.world.bench.used

  begun_good : Good (play (begun S.world i op).world (set S.left i ops))
  begun_good =
      let x : Worker = record { line = first_line op S.world.bench.words S.world.bench.used } in
      record {
        reached = subst Reached (ap (λ (D : Outcome). D.world) begins) (reached_call G.reached (begin i op));
        eight = length-set S.world.bench.workers i x ∙ G.eight;
        small = G.small;
        words = G.words;
        mode = G.mode;
        line = G.line;
        long = G.long;
        outside =
            λ j g. (
              ap is_idle (other_line S.world.bench.workers i j x (λ q. omega (arith, g, h, q))) ∙ (G.outside j g).0,
              get_or-set_other S.left i j ops [] (λ q. omega (arith, g, h, q)) ∙ (G.outside j g).1,
            );
        hands = at_set Hands S.left i ops G.hands mine.2;
        numbers = omega (arith, G.numbers, fewer, used_by_lem op S.world.bench.used);
        entries = G.entries;
        aligned = G.aligned;
        room =
            omega (
              arith,
              G.room,
              fewer,
              busy_set S.world.bench.workers i x,
              busy_is (first_line op S.world.bench.words S.world.bench.used) (first_busy_lem op S.world.bench.words S.world.bench.used),
            );
      }

  begin_good : (begin_of S.world i op ≡ begun S.world i op) × Stepped (begun S.world i op).world i × Good (begin_next S i (op ∷ ops))
  begin_good =
      let r = step_good (play (begun S.world i op).world (set S.left i ops)) i begun_good h begun_busy in
      (begins, r.0, subst (λ (D : Outcome). Good (play (step_of D.world i).world (set S.left i ops))) (sym begins) r.1)

-- a worker that may step is of the crew
none_may : (x : Bool) (l : List Operation) → x ≡ true → l ≡ [] → (not x or has_some l) ≡ false
unfolding ◌or◌
none_may x l e f = rw (e, f)

in_crew : (S : Play) (i : ℕ) → Good S → may_step S i ≡ true → i < S.world.bench.crew
in_crew S i G m = go (ltb i S.world.bench.crew) refl
  where
    go : (x : Bool) → ltb i S.world.bench.crew ≡ x → i < S.world.bench.crew
    go true e = ltb-true i S.world.bench.crew e
    go false e =
        let o = G.outside i (ltb-false i S.world.bench.crew e) in
        absurd (true≢false (sym m ∙ none_may (idle S i) (left_of S i) o.0 o.1))

idle_left : (x : Bool) (l : List Operation) → x ≡ true → (not x or has_some l) ≡ true → (op : Operation) × (ops : List Operation) × (l ≡ op ∷ ops)
unfolding ◌or◌
idle_left true [] e m = absurd (true≢false (sym m))
idle_left true (op ∷ ops) e m = (op, ops, refl)
idle_left false l e m = absurd (true≢false (sym e))

pub move_good : (S : Play) (i : ℕ) → Good S → may_step S i ≡ true → Made S i × Good (move S i)
unfolding move when◌then◌else◌
move_good S i G m = (made, good (idle S i) refl)
  where
    h : i < S.world.bench.crew
    h = in_crew S i G m

    made : Made S i
    made =
        record {
          starts = λ op ops b e. let r = begin_good S i op ops G h b e in (r.0, r.1);
          goes_on = λ b. (step_good S i G h b).0;
        }

    good : (x : Bool) → idle S i ≡ x → Good (when x then begin_next S i (left_of S i) else play (step_of S.world i).world S.left)
    good true b =
        let (op, ops, e) = idle_left (idle S i) (left_of S i) b m in
        subst (λ (l : List Operation). Good (begin_next S i l)) (sym e) (begin_good S i op ops G h b e).2
    good false b = (step_good S i G h b).1

orders_made : (n : ℕ) (S : Play) (o : Order) → Good S → Complete n S o → (j : ℕ) → j < length o → Made (after_order S (take j o)) (get_or o j 0)
unfolding after_order
orders_made n S [] G c j h = absurd (omega arith)
orders_made zero S (i ∷ o) G c j h = absurd (let z : suc (length o) ≤ 0 = c.short in omega arith)
orders_made (suc n) S (i ∷ o) G c zero h = (move_good S i G (c.may 0 (omega arith))).0
orders_made (suc n) S (i ∷ o) G c (suc j) h =
    orders_made n (move S i) o (move_good S i G (c.may 0 (omega arith))).1 (rest_complete n S i o c) j (omega arith)

-- THE START
steals_hands : (i m : ℕ) → Hands (suc i) (replicate m Steal)
steals_hands i zero = tt
steals_hands i (suc m) = (lt-ltb 0 (suc i) (omega arith), λ n. refl, steals_hands i m)

thieves_hands : (l : List ℕ) (i j : ℕ) → Hands (suc (i + j)) (get_or (map (λ m. replicate m Steal) l) j [])
thieves_hands [] i j = tt
thieves_hands (m ∷ l) i zero = subst (λ (k : ℕ). Hands (suc k) (replicate m Steal)) (sym (add-zero i)) (steals_hands i m)
thieves_hands (m ∷ l) i (suc j) =
    subst (λ (k : ℕ). Hands (suc k) (get_or (map (λ m. replicate m Steal) l) j [])) (let e : suc i + j ≡ i + suc j = omega arith in e) (thieves_hands l (suc i) j)

owner_hands : (puts : List Bool) → Hands 0 (map owners_next puts)
owner_hands [] = tt
owner_hands (true ∷ puts) = (refl, λ n. refl, owner_hands puts)
owner_hands (false ∷ puts) = (refl, λ n. refl, owner_hands puts)

plan_hands : (puts : List Bool) (l : List ℕ) (i : ℕ) → Hands i (get_or (plan puts l) i [])
plan_hands puts l zero = owner_hands puts
plan_hands puts l (suc j) =
    subst (λ (k : ℕ). Hands (suc k) (get_or (map (λ m. replicate m Steal) l) j [])) (let e : 0 + j ≡ j = omega arith in e) (thieves_hands l 0 j)

no_length : (l : List Operation) → length l ≡ 0 → l ≡ []
no_length [] e = refl
no_length (op ∷ l) e = absurd (omega arith)

left_behind : (l : List (List Operation)) (n i : ℕ) → n ≤ i → length (get_or l i []) ≤ operations (drop n l)
left_behind l zero i h = left_at l i
left_behind [] (suc n) i h = omega arith
left_behind (y ∷ l) (suc n) zero h = absurd (omega arith)
left_behind (y ∷ l) (suc n) (suc i) h = left_behind l n i (omega arith)

none_behind : (l : List (List Operation)) (n i : ℕ) → operations (drop n l) ≡ 0 → n ≤ i → get_or l i [] ≡ []
none_behind l n i e h = no_length (get_or l i []) (omega (arith, e, left_behind l n i h))

rest_idle : (i : ℕ) → is_idle (line_at (replicate 8 resting) i) ≡ true
rest_idle zero = refl
rest_idle (suc zero) = refl
rest_idle (suc (suc zero)) = refl
rest_idle (suc (suc (suc zero))) = refl
rest_idle (suc (suc (suc (suc zero)))) = refl
rest_idle (suc (suc (suc (suc (suc zero))))) = refl
rest_idle (suc (suc (suc (suc (suc (suc zero)))))) = refl
rest_idle (suc (suc (suc (suc (suc (suc (suc zero))))))) = refl
rest_idle (suc (suc (suc (suc (suc (suc (suc (suc i)))))))) = refl

pub start_good : (k w c n v s : ℕ) (puts : List Bool) (steals : List ℕ) (b : ℕ) → Passed (setup k w c n v) s (plan puts steals) b
    → Good (start_of (setup k w c n v) s (plan puts steals))
start_good k w c n v s puts steals b P =
    subst (λ (W : World). Reached W → Good (play W l)) (sym F.0) made (reached_fresh u (own_store s) own_log P.accepted)
  where
    u : Setup
    u = setup k w c n v

    l : List (List Operation)
    l = plan puts steals

    F : ((fresh_of u (own_store s) own_log).world ≡ fresh_start 0 u (own_store s) own_log) × Admitted u (usable (own_store s))
    F = fresh_is u (own_store s) own_log P.accepted

    few : operations l ≤ 64
    few = leb-true (operations l) 64 P.some

    made : Reached (fresh_start 0 u (own_store s) own_log) → Good (play (fresh_start 0 u (own_store s) own_log) l)
    made r =
        record {
          reached = r;
          eight = refl;
          small = F.1.crew.1;
          words = F.1.words.1;
          mode = refl;
          line = refl;
          long = length-replicate {A = ℕ} 448 0;
          outside = λ i g. (rest_idle i, none_behind l n i (eqb-true (operations (drop n l)) 0 P.crew) g);
          hands = plan_hands puts steals;
          numbers = omega (arith, few);
          entries = 0;
          aligned = omega arith;
          room = omega (arith, few);
        }

pub none_refused : NoneRefused
unfolding hunt_of
none_refused k w c n v s puts steals b e m o p =
    orders_made m (start_of (setup k w c n v) s (plan puts steals)) o
    (start_good k w c n v s puts steals b (passed (setup k w c n v) s (plan puts steals) b e)) p
