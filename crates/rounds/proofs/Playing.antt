-- What the loop of `play` keeps: where the play stands after n steps of the order.
use mathlib.Core.Path.{◌≡◌, refl, sym, ◌∙◌, ap, subst}
use mathlib.Core.Bool.{Bool, true, false}
use mathlib.Core.List.{List, [], ◌∷◌, ◌++◌}
use Prim.Native.Nat.{ℕ, ◌+◌, ◌-◌, ◌≤◌, ◌<◌}
use native.Mathlib.Omega.{arith}
use native.Mathlib.Numerals.{add-one}
use lib.Dec.{eqb}
use lib.ListN.{length, take, get_or, set, length-set}
use lib.Seq.{take-suc, take-suc-set, take_all, get_or-take, get_or-set_same, get_or-set_other, set-get_or, length-take-le}
use borrow.Author.Tests.{eqb-true, eqb-false}
use Rattle.model.specs.declared.Line.{Line}
use Rattle.model.specs.declared.Bench.{Bench}
use Rattle.model.specs.Tests.{when◌then◌else◌}
use Rattle.model.specs.World.{World, line_at, is_idle, room_alone}
use Rattle.model.specs.declared.Room.{Room}
use Rattle.model.specs.Limits.{valid_of}
use Rattle.model.specs.Calls.{lent, step_in, step_of}
use Rattle.model.proofs.Alone.{within_alone}
use Rattle.theorems.proofs.Reached.{reached_valid}
use Rattle.orders.specs.Orders.{Play, play, Order, may_step, move, after_order, everyone}
use Rattle.orders.specs.Next.{first_of, lowest, above}
use Rattle.orders.specs.Claims.{Complete}
use Rattle.orders.proofs.Turning.{Higher}
use Rattle.orders.proofs.NoneRefused.{Good}
use Rattle.turns.specs.Turns.{from, first_busy}
use Rattle.turns.proofs.Ties.{up_lowest, up_above}
use Rattle.turns.proofs.Fits.{Fits, told, fits_counts}
use Rattle.rounds.proofs.Course.{after_next, good_after, Next, next_given, next_lowest}
use Rattle.machine.specs.declared.Made.{Made}
use Rattle.machine.specs.declared.Made.TheVariants as made
use Rattle.machine.specs.Steps.{moves, bench_after, answer_after, moved_by}
use Rattle.machine.proofs.Stepping.{steppable}
use Rattle.state.specs.declared.Returned.{Returned}
use Rattle.rounds.specs.declared.Begun.{Begun}
use Rattle.std.specs.Prelude.{Some, None}
use Rattle.rounds.specs.declared.Played.{Played}
use Rattle.rounds.specs.Rounds.{next_operation, Out, PlayedBy}
use Rattle.rounds.proofs.Begins.{first}
use Rattle.rounds.proofs.Opening.{counting, ready, Owners, Opens, opens_busy, opens_idle, world_after, fits_after}

-- after n steps of the order that starts with the given steps p; order₀ is as it was handed in
pub record Playing (S : Play) (p : Order) (puts : List Bool) (order₀ : List ℕ) (most : ℕ) (b : Bench) (m l t order others : List ℕ) (n : ℕ) : Type 0 where
  pub within : n ≤ length (first_of 256 S p)
  pub paid : n ≤ most
  pub world : (after_order S (take n (first_of 256 S p))).world ≡ lent b m l
  pub fits : Fits b.workers (after_order S (take n (first_of 256 S p))).left t
  pub owners : Owners puts (after_order S (take n (first_of 256 S p))).left
  pub same : take n order ≡ take n (first_of 256 S p)
  pub rest : (k : ℕ) → n ≤ k → get_or order k 0 ≡ get_or order₀ k 0
  pub higher : (k : ℕ) → k < n → get_or others k 0 ≡ lowest (after_order S (take k (first_of 256 S p))) (above (get_or (first_of 256 S p) k 0) everyone)
  pub eight : length t ≡ 8
  pub long : length order ≡ 256
  pub wide : length others ≡ 256

pub playing_start : (S : Play) (p : Order) (puts : List Bool) (most : ℕ) (b : Bench) (m l t order others : List ℕ) → S.world ≡ lent b m l
    → Fits b.workers S.left t → Owners puts S.left → length t ≡ 8 → length order ≡ 256 → length others ≡ 256
    → Playing S p puts order most b m l t order others 0
unfolding after_order
playing_start S p puts most b m l t order others w f o e g h =
    record {
      within = omega arith;
      paid = omega arith;
      world = w;
      fits = f;
      owners = o;
      same = refl;
      rest = λ k a. refl;
      higher = λ k a. absurd (omega (arith, a));
      eight = e;
      long = g;
      wide = h;
    }

-- the code takes one off where the operation ended
pub told_set : (t : List ℕ) (i : ℕ) (b : Bool) → set t i (when b then get_or t i 0 - 1 else get_or t i 0) ≡ (when b then set t i (get_or t i 0 - 1) else t)
unfolding when◌then◌else◌
told_set t i true = refl
told_set t i false = set-get_or t i 0

module _ {S : Play} {p : Order} {puts : List Bool} {order₀ : List ℕ} {most : ℕ} {b : Bench} {m l t order others : List ℕ} {n : ℕ}
    (P : Playing S p puts order₀ most b m l t order others n) (G₀ : Good S) (C : Complete 256 S (first_of 256 S p)) where
  abbrev o : Order
  o = first_of 256 S p

  abbrev T : Play
  T = after_order S (take n o)

  pub here : T ≡ play (lent b m l) T.left
  here = ap (λ (W : World). play W T.left) P.world

  pub good : Good (play (lent b m l) T.left)
  good = subst Good here (good_after 256 S o n G₀ C)

  counted : Fits T.world.bench.workers T.left t
  counted = subst (λ (W : World). Fits W.bench.workers T.left t) (sym P.world) P.fits

  -- the order is over
  pub all_out_lem : length o ≡ n → (take n order ≡ o) × Higher S o (λ k. get_or others k 0) × ((after_order S o).world ≡ lent b m l)
  all_out_lem e =
      let all : take n o ≡ o = take_all n o (omega (arith, e)) in
      (P.same ∙ all, λ k h. P.higher k (omega (arith, h, e)), subst (λ (q : Order). (after_order S q).world ≡ lent b m l) all P.world)

  pub played_out_lem : (k : ℕ) → n ≡ k → length o ≡ n → PlayedBy S p most (Some (record { steps = k; words = b.words; written = b.written })) order others l
  played_out_lem k is e =
      let a = all_out_lem e in
      let out : Out S o most (record { steps = n; words = b.words; written = b.written }) order others l =
      record {
        made = a.0;
        steps = sym e;
        paid = P.paid;
        higher = a.1;
        logged = ap (λ (W : World). W.log) a.2;
        words = ap (λ (W : World). W.bench.words) a.2;
        written = ap (λ (W : World). W.bench.written) a.2;
      } in
      record {
        out = λ d f. subst (λ (x : Played). Out S o most x order others l) (let s : record { steps = n; words = b.words; written = b.written } ≡ d = cc in s) out;
        off = λ f. absurd (let z : ⊥ = cc in z);
        long = P.long;
        wide = P.wide;
      }

  -- or its next step is not paid
  pub cut_off : n ≡ most → n < length o → PlayedBy S p most None order others l
  cut_off e h = record { out = λ d f. absurd (let z : ⊥ = cc in z); off = λ f. omega (arith, e, h); long = P.long; wide = P.wide }

  pub valid_here : valid_of (lent b m l) ≡ true
  valid_here = reached_valid good.reached

  pub wide_here : (0 < b.words) × (b.words ≤ 4)
  wide_here =
      (steppable (lent b m l) 0 0 (within_alone (lent b m l) valid_here) (record { few = omega (arith, good.line); none = λ e. (good.mode, good.line) }) (λ h. refl)
      ).the_ground.wide

  module _ (more : n < 256) (given w : ℕ) (few : given ≤ 256) (starts : p ≡ take given order₀) (long₀ : length order₀ ≡ 256)
      (by_given : n < given → w ≡ get_or order n 0) (by_lowest : given ≤ n → w ≡ first_busy t (from 0 (8 - 0))) where
    size : length p ≡ given
    size = ap length starts ∙ length-take-le given order₀ (omega (arith, few, long₀))

    -- who makes the next step
    pub next : Next S p n w C P.within more
    next = go (eqb (given - n) 0) refl
      where
        go : (x : Bool) → eqb (given - n) 0 ≡ x → Next S p n w C P.within more
        go true e =
            let h : given ≤ n = omega (arith, eqb-true (given - n) 0 e) in
            next_lowest S p n w C P.within more (omega (arith, size, h)) (up_lowest T t w (fits_counts T t counted) (by_lowest h))
        go false e =
            let h : n < given = let z = eqb-false (given - n) 0 e in omega (arith, z) in
            next_given S p n w C P.within more (omega (arith, size, h))
            (by_given h ∙ P.rest n (omega arith) ∙ sym (ap (λ (q : Order). get_or q n 0) starts ∙ get_or-take given order₀ n 0 h))

  module _ (w : ℕ) (goes : n < length o) (is : w ≡ get_or o n 0) where
    pub below : w < 8
    below = omega (arith, C.workers n goes, is)

    pub may : may_step (play (lent b m l) T.left) w ≡ true
    may = subst (λ (X : Play). may_step X w ≡ true) here (subst (λ (k : ℕ). may_step T k ≡ true) (sym is) (C.may n goes))

    pub above_it : (x : ℕ) → x ≡ first_busy t (from (w + 1) (8 - (w + 1))) → x ≡ lowest T (above (get_or o n 0) everyone)
    above_it x e = up_above T t w x (fits_counts T t counted) below e ∙ ap (λ (k : ℕ). lowest T (above k everyone)) is

    module _ (spare : n < most) (more : n < 256) {y : Line} {u : ℕ} (O : Opens b m l T.left t puts w y u) (b' : Bench) (m' l' t' : List ℕ) (x : ℕ)
        (steps : lent b' m' l' ≡ (step_of (lent (ready b w y u) m l) w).world) (fits : Fits b'.workers O.after t') (eight : length t' ≡ 8)
        (others_is : x ≡ lowest T (above (get_or o n 0) everyone)) where
      moved : after_order S (take (n + 1) o) ≡ play (step_of (lent (ready b w y u) m l) w).world O.after
      moved =
          ap (λ (k : ℕ). after_order S (take k o)) (add-one n) ∙ after_next S o n goes ∙ ap (move T) (sym is) ∙ ap (λ (X : Play). move X w) here ∙ O.moved

      pub playing_on : Playing S p puts order₀ most b' m' l' t' (set order n w) (set others n x) (n + 1)
      playing_on =
          record {
            within = omega (arith, goes);
            paid = omega (arith, spare);
            world = ap (λ (X : Play). X.world) moved ∙ sym steps;
            fits = subst (λ (X : Play). Fits b'.workers X.left t') (sym moved) fits;
            owners = subst (λ (X : Play). Owners puts X.left) (sym moved) O.owners;
            same =
                ap (λ (k : ℕ). take k (set order n w)) (add-one n) ∙ take-suc-set order n w (omega (arith, P.long, more))
                ∙ ap (λ (q : List ℕ). q ++ (w ∷ [])) P.same ∙ ap (λ (k : ℕ). take n o ++ (k ∷ [])) is
                ∙ sym (take-suc o n 0 goes) ∙ ap (λ (k : ℕ). take k o) (sym (add-one n));
            rest = λ k h. get_or-set_other order n k w 0 (λ e. omega (arith, e, h)) ∙ P.rest k (omega (arith, h));
            higher = λ k h. at k h (eqb k n) refl;
            eight = eight;
            long = length-set order n w ∙ P.long;
            wide = length-set others n x ∙ P.wide;
          }
        where
          at : (k : ℕ) → k < n + 1 → (z : Bool) → eqb k n ≡ z → get_or (set others n x) k 0 ≡ lowest (after_order S (take k o)) (above (get_or o k 0) everyone)
          at k h true e =
              subst (λ (j : ℕ). get_or (set others n x) j 0 ≡ lowest (after_order S (take j o)) (above (get_or o j 0) everyone)) (sym (eqb-true k n e))
              (get_or-set_same others n x 0 (omega (arith, P.wide, more)) ∙ others_is)
          at k h false e =
              let d = eqb-false k n e in
              get_or-set_other others n k x 0 d ∙ P.higher k (omega (arith, d, h))

    -- the code's two ways to make it: the worker's record is replaced, or the bench is settled
    pub opens : (r : Begun) → (is_idle (line_at b.workers w) ≡ false → r ≡ record { line = line_at b.workers w; used = b.used })
        → (is_idle (line_at b.workers w) ≡ true → r ≡ first (next_operation w puts (get_or t w 0)) b.words b.used)
        → Opens b m l T.left t puts w r.line r.used
    opens r e f = go (is_idle (line_at b.workers w)) refl
      where
        go : (x : Bool) → is_idle (line_at b.workers w) ≡ x → Opens b m l T.left t puts w r.line r.used
        go true h =
            subst (λ (x : Begun). Opens b m l T.left t puts w x.line x.used) (sym (f h))
            (opens_idle b m l T.left t puts w good may below P.fits P.eight P.owners h)
        go false h =
            subst (λ (x : Begun). Opens b m l T.left t puts w x.line x.used) (sym (e h))
            (opens_busy b m l T.left t puts w good may below P.fits P.eight P.owners h)

    module _ (spare : n < most) (more : n < 256) (r : Begun) (O : Opens b m l T.left t puts w r.line r.used) (ρ : Room)
        (q : ρ ≡ room_alone (lent (ready b w r.line r.used) m l)) (x : Line) (d : Made) (m' l' : List ℕ)
        (by : moved_by (ready b w r.line r.used) w x d m' l' ≡ step_in ρ (lent (ready b w r.line r.used) m l) w) (higher left : ℕ)
        (above_is : higher ≡ first_busy t (from (w + 1) (8 - (w + 1)))) (left_is : left ≡ (when is_idle x then get_or t w 0 - 1 else get_or t w 0)) where
      told_is : told t w x ≡ set t w left
      told_is = sym (ap (set t w) left_is ∙ told_set t w (is_idle x))

      by_bench : (b' : Bench) → b' ≡ bench_after (counting b r.used) w x d → Playing S p puts order₀ most b' m' l' (set t w left) (set order n w) (set others n higher) (n + 1)
      by_bench b' e =
          playing_on spare more O b' m' l' (set t w left) higher
          (ap (λ (z : Bench). lent z m' l') e ∙ world_after b m l T.left t puts w r.line r.used good below O ρ q x d m' l' by)
          (subst (λ (z : List ℕ). Fits b'.workers O.after z) told_is
          (subst (λ (z : Bench). Fits z.workers O.after (told t w x)) (sym e)
          (fits_after b m l T.left t puts w r.line r.used good below O ρ q x d m' l' by)))
          (length-set t w left ∙ P.eight) (above_it higher above_is)

      pub on_settled : (done : Returned) → done ≡ record { bench = bench_after (counting b r.used) w x d; answer = answer_after d }
          → Playing S p puts order₀ most done.bench m' l' (set t w left) (set order n w) (set others n higher) (n + 1)
      on_settled done e = by_bench done.bench (ap (λ (z : Returned). z.bench) e)

      pub on_replaced : d ≡ made.Nothing
          → Playing S p puts order₀ most (moves (counting b r.used) w x b.queue b.restarts b.written) m' l' (set t w left) (set order n w) (set others n higher)
          (n + 1)
      unfolding bench_after
      on_replaced e = by_bench _ (ap (bench_after (counting b r.used) w x) (sym e))
