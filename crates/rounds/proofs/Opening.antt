-- One step of the code is one move of the play: the worker begins if it is idle, and does its line.
use mathlib.Core.Path.{◌≡◌, refl, sym, ◌∙◌, ap, subst}
use mathlib.Core.Bool.{Bool, true, false, not, true≢false}
use mathlib.Core.List.{List, [], ◌∷◌, map}
use Prim.Native.Nat.{ℕ, zero, suc, ◌+◌, ◌-◌, ◌≤◌, ◌<◌}
use native.Mathlib.Omega.{arith}
use lib.ListN.{length, set, get_or, drop, length-drop, length-map, get_or-map}
use lib.Seq.{set-get_or, set-set, get_or-set_same, get_or-drop, drop-drop}
use borrow.Author.Tests.{eqb-true}
use Rattle.model.specs.declared.Line.{Line}
use Rattle.model.specs.declared.Bench.{Bench}
use Rattle.model.specs.declared.Room.{Room}
use Rattle.model.specs.declared.Worker.{Worker}
use Rattle.model.specs.declared.Operation.{Operation}
use Rattle.model.specs.declared.Operation.TheVariants.{Put, Take, Steal, Commit}
use Rattle.model.specs.Tests.{◌or◌}
use Rattle.model.specs.Lines.{Effect}
use Rattle.model.specs.Limits.{valid_of, Within}
use Rattle.model.specs.World.{World, Outcome, resting, line_at, is_idle, room_alone}
use Rattle.model.specs.Listing.{is_refused}
use Rattle.model.specs.Calls.{lent, first_line, used_by, right_hand, next_effect, step_in, step_of, begin}
use Rattle.model.proofs.Tests.{if_true, if_false}
use Rattle.model.proofs.Alone.{within_alone}
use Rattle.theorems.specs.Reached.{Reached}
use Rattle.theorems.proofs.Reached.{reached_call, reached_valid}
use Rattle.theorems.proofs.Cases.{effect_is}
use Rattle.theorems.proofs.NeverForeign.{effect_answers}
use Rattle.orders.specs.Orders.{Play, play, left_of, has_some, idle, may_step, begin_next, move}
use Rattle.orders.specs.Hunt.{owners_next}
use Rattle.orders.specs.Claims.{Stepped}
use Rattle.orders.proofs.Spends.{idle_is}
use Rattle.orders.proofs.NoneRefused.{Good, Hands, move_good}
use Rattle.turns.proofs.Fits.{Fits, told, fits_step, fits_begin}
use Rattle.machine.specs.declared.Made.{Made}
use Rattle.machine.specs.declared.Made.TheVariants as made
use Rattle.machine.specs.Steps.{bench_of, AtOnce, bench_after, answer_after, moved_by, Steppable}
use Rattle.machine.proofs.Stepping.{steppable}
use Rattle.rounds.specs.Rounds.{next_operation}

-- the bench with u numbers used; and with worker i at the line y
abbrev pub counting : Bench → ℕ → Bench
counting b u =
    bench_of b.kind b.width b.words b.crew b.queue b.written b.delayed b.waiting b.aside u b.restarts b.workers

abbrev pub ready : Bench → ℕ → Line → ℕ → Bench
ready b i y u =
    bench_of b.kind b.width b.words b.crew b.queue b.written b.delayed b.waiting b.aside u b.restarts
    (set b.workers i (record { line = y }))

-- what is left of the owner's list is an end of it
abbrev pub Owners : List Bool → List (List Operation) → Type 0
Owners puts left = (j : ℕ) × (get_or left 0 [] ≡ drop j (map owners_next puts))

-- the next step of worker i is one of the line y, with u numbers used
pub record Opens (b : Bench) (m l : List ℕ) (left : List (List Operation)) (t : List ℕ) (puts : List Bool) (i : ℕ) (y : Line) (u : ℕ) : Type 0 where
  pub after : List (List Operation)
  pub moved : move (play (lent b m l) left) i ≡ play (step_of (lent (ready b i y u) m l) i).world after
  pub reached : Reached (lent (ready b i y u) m l)
  pub stands : Stepped (lent (ready b i y u) m l) i
  pub fits : (x : Worker) → Fits (set b.workers i x) after (told t i x.line)
  pub owners : Owners puts after

idle_left : (x : Bool) (l : List Operation) → x ≡ true → (not x or has_some l) ≡ true → (op : Operation) × (ops : List Operation) × (l ≡ op ∷ ops)
unfolding ◌or◌
idle_left true [] e m = absurd (true≢false (sym m))
idle_left true (op ∷ ops) e m = (op, ops, refl)
idle_left false l e m = absurd (true≢false (sym e))

-- the first of what is left
owner_next : (puts : List Bool) (l : List Operation) (j : ℕ) (op : Operation) (ops : List Operation) (n : ℕ) → l ≡ drop j (map owners_next puts) → l ≡ op ∷ ops → n ≡ length l
    → (op ≡ owners_next (get_or puts (length puts - n) false)) × (0 < n) × (n ≤ length puts)
owner_next puts l j op ops n e f h =
    let size : length l ≡ length puts - j = ap length e ∙ length-drop j (map owners_next puts) ∙ ap (λ (k : ℕ). k - j) (length-map puts owners_next) in
    let some : length l ≡ suc (length ops) = ap length f in
    let at : length puts - n ≡ j = omega (arith, size, some, h) in (
      ap (λ (k : List Operation). get_or k 0 Take) (sym f ∙ e) ∙ get_or-drop j (map owners_next puts) 0 Take
          ∙ ap (λ (k : ℕ). get_or (map owners_next puts) k Take) (let z : j + 0 ≡ length puts - n = omega (arith, at) in z)
          ∙ get_or-map owners_next puts (length puts - n) false,
      omega (arith, h, some),
      omega (arith, h, size),
    )

thief_next : (i : ℕ) (op : Operation) → right_hand (suc i) op ≡ true → op ≡ Steal
thief_next i (Put p) e = absurd (omega (arith, eqb-true (suc i) 0 e))
thief_next i Take e = absurd (omega (arith, eqb-true (suc i) 0 e))
thief_next i Steal e = refl
thief_next i Commit e = absurd (omega (arith, eqb-true (suc i) 0 e))

has_place : (left : List (List Operation)) (i : ℕ) (op : Operation) (ops : List Operation) → get_or left i [] ≡ op ∷ ops → i < length left
has_place [] i op ops e = absurd (let z : 0 ≡ suc (length ops) = ap length e in omega (arith, z))
has_place (x ∷ left) zero op ops e = omega arith
has_place (x ∷ left) (suc i) op ops e = omega (arith, has_place left i op ops e)

-- the operation that an idle worker begins
next_is : (i : ℕ) (ws : List Worker) (left : List (List Operation)) (t : List ℕ) (puts : List Bool) (op : Operation) (ops : List Operation)
    → Owners puts left → Fits ws left t → is_idle (line_at ws i) ≡ true → Hands i (get_or left i []) → get_or left i [] ≡ op ∷ ops
    → (op ≡ next_operation i puts (get_or t i 0)) × (i ≡ 0 → (0 < get_or t i 0) × (get_or t i 0 ≤ length puts))
next_is zero ws left t puts op ops o f e h q =
    let r = owner_next puts (get_or left 0 []) o.0 op ops (get_or t 0 0) o.1 q (omega (arith, f 0, idle_is (line_at ws 0) e)) in (r.0, λ z. (r.1, r.2))
next_is (suc i) ws left t puts op ops o f e h q =
    (thief_next i op (subst (Hands (suc i)) q h).0, λ z. absurd (omega (arith, z)))

owners_after : (i : ℕ) (left : List (List Operation)) (puts : List Bool) (op : Operation) (ops : List Operation) → Owners puts left → get_or left i [] ≡ op ∷ ops
    → Owners puts (set left i ops)
owners_after i [] puts op ops o q = o
owners_after zero (x ∷ left) puts op ops o q = (
  o.0 + 1,
  ap (λ (k : List Operation). drop 1 k) (sym q ∙ o.1) ∙ drop-drop 1 o.0 (map owners_next puts),
)
owners_after (suc i) (x ∷ left) puts op ops o q = o

module _ (b : Bench) (m l : List ℕ) (left : List (List Operation)) (t : List ℕ) (puts : List Bool) (i : ℕ) (G : Good (play (lent b m l) left))
    (may : may_step (play (lent b m l) left) i ≡ true) (small : i < 8) (f : Fits b.workers left t) (eight : length t ≡ 8) (o : Owners puts left) where
  abbrev S : Play
  S = play (lent b m l) left

  as_it_is : ready b i (line_at b.workers i) b.used ≡ b
  as_it_is =
      ap (λ (ws : List Worker). bench_of b.kind b.width b.words b.crew b.queue b.written b.delayed b.waiting b.aside b.used b.restarts ws)
      (set-get_or b.workers i resting)

  pub opens_busy : is_idle (line_at b.workers i) ≡ false → Opens b m l left t puts i (line_at b.workers i) b.used
  unfolding move
  opens_busy e =
      let M = (move_good S i G may).0 in
      record {
        after = left;
        moved = if_false _ e ∙ ap (λ (x : Bench). play (step_of (lent x m l) i).world left) (sym as_it_is);
        reached = subst (λ (x : Bench). Reached (lent x m l)) (sym as_it_is) G.reached;
        stands = subst (λ (x : Bench). Stepped (lent x m l) i) (sym as_it_is) (M.goes_on e);
        fits = λ x. fits_step b.workers left t i x f (omega (arith, G.eight)) (omega (arith, eight)) e;
        owners = o;
      }

  module _ (e : is_idle (line_at b.workers i) ≡ true) where
    abbrev next : Operation
    next = next_operation i puts (get_or t i 0)

    taken : (op : Operation) × (ops : List Operation) × (left_of S i ≡ op ∷ ops)
    taken = idle_left (idle S i) (left_of S i) e may

    abbrev op : Operation
    op = taken.0

    abbrev ops : List Operation
    ops = taken.1

    chosen : (op ≡ next) × (i ≡ 0 → (0 < get_or t i 0) × (get_or t i 0 ≤ length puts))
    chosen = next_is i b.workers left t puts op ops o f e (G.hands i) taken.2

    pub owner_left : i ≡ 0 → (0 < get_or t i 0) × (get_or t i 0 ≤ length puts)
    owner_left = chosen.1

    begins : Opens b m l left t puts i (first_line op b.words b.used) (used_by op b.used)
    unfolding move
    begins =
        let M = (move_good S i G may).0.starts op ops e taken.2 in
        let y : Worker = record { line = first_line op b.words b.used } in
        record {
          after = set left i ops;
          moved =
              if_true _ e ∙ ap (begin_next S i) taken.2
              ∙ ap (λ (D : Outcome). play (step_of D.world i).world (set left i ops)) M.0;
          reached = subst Reached (ap (λ (D : Outcome). D.world) M.0) (reached_call G.reached (begin i op));
          stands = M.1;
          fits = λ x.
              subst (λ (ws : List Worker). Fits ws (set left i ops) (told t i x.line)) (set-set b.workers i y x)
              (fits_begin b.workers left t i x y op ops f (omega (arith, G.eight)) (omega (arith, eight)) e taken.2 (has_place left i op ops taken.2));
          owners = owners_after i left puts op ops o taken.2;
        }

    pub opens_idle : Opens b m l left t puts i (first_line next b.words b.used) (used_by next b.used)
    opens_idle = subst (λ (x : Operation). Opens b m l left t puts i (first_line x b.words b.used) (used_by x b.used)) chosen.0 begins

-- what a step that is not refused leaves: the records are those before with the worker's replaced
same_after : (b : Bench) (i : ℕ) (y : Line) (u : ℕ) (x : Line) (d : Made) → is_refused (answer_after d) ≡ false
    → (bench_after (ready b i y u) i x d ≡ bench_after (counting b u) i x d) × ((bench_after (counting b u) i x d).workers ≡ set b.workers i (record { line = x }))
unfolding bench_after answer_after
same_after b i y u x made.Nothing e = (rw set-set, refl)
same_after b i y u x (made.Refused r) e = absurd (true≢false e)
same_after b i y u x made.Fails e = (rw set-set, refl)
same_after b i y u x made.Links e = (rw set-set, refl)
same_after b i y u x (made.Claims a z) e = (rw set-set, refl)
same_after b i y u x made.Publishes e = (rw set-set, refl)
same_after b i y u x (made.Stops a) e = (rw set-set, refl)
same_after b i y u x (made.Ends a z) e = (rw set-set, refl)
same_after b i y u x (made.Grows a) e = (rw set-set, refl)
same_after b i y u x (made.Waits d) e = absurd (true≢false e)

-- no line answers a refusal
line_answers : (ρ : Room) (W : World) (i : ℕ) → is_refused (next_effect ρ W i).answer ≡ false
line_answers ρ W i = ap (λ (E : Effect). is_refused E.answer) (effect_is ρ W i) ∙ effect_answers ρ W i

module _ (b : Bench) (m l : List ℕ) (left : List (List Operation)) (t : List ℕ) (puts : List Bool) (i : ℕ) (y : Line) (u : ℕ)
    (G : Good (play (lent b m l) left)) (small : i < 8) (O : Opens b m l left t puts i y u) where
  abbrev W : World
  W = lent (ready b i y u) m l

  pub valid : valid_of W ≡ true
  valid = reached_valid O.reached

  pub once : AtOnce b.delayed b.waiting i
  once = record { few = omega (arith, G.line); none = λ e. (G.mode, G.line) }

  pub own_line : line_at (set b.workers i (record { line = y })) i ≡ y
  own_line = ap (λ (w : Worker). w.line) (get_or-set_same b.workers i (record { line = y }) resting (omega (arith, G.eight)))

  pub can_step : (ρ : Room) → ρ ≡ room_alone W → Steppable ρ b.kind b.width b.words b.crew b.queue (length m) i y
  can_step ρ q =
      subst (λ (z : Line). Steppable ρ b.kind b.width b.words b.crew b.queue (length m) i z) own_line
      (steppable W i i (subst (λ (r : Room). Within r W) (sym q) (within_alone W valid)) once (λ h. refl))

  module _ (ρ : Room) (q : ρ ≡ room_alone W) (x : Line) (d : Made) (m' l' : List ℕ) (by : moved_by (ready b i y u) i x d m' l' ≡ step_in ρ W i) where
    is_step_lem : moved_by (ready b i y u) i x d m' l' ≡ step_of W i
    unfolding step_of
    is_step_lem = by ∙ ap (λ (r : Room). step_in r W i) q ∙ sym (if_true _ valid)

    pub goes_on_lem : is_refused (answer_after d) ≡ false
    goes_on_lem = ap (λ (D : Outcome). is_refused D.answer) (is_step_lem ∙ O.stands) ∙ line_answers (room_alone W) W i

    pub world_after : lent (bench_after (counting b u) i x d) m' l' ≡ (step_of W i).world
    world_after =
        ap (λ (z : Bench). lent z m' l') (sym (same_after b i y u x d goes_on_lem).0) ∙ ap (λ (D : Outcome). D.world) is_step_lem

    pub fits_after : Fits (bench_after (counting b u) i x d).workers O.after (told t i x)
    fits_after = subst (λ (ws : List Worker). Fits ws O.after (told t i x)) (sym (same_after b i y u x d goes_on_lem).1) (O.fits (record { line = x }))
