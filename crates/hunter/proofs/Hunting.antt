-- What the loop of `walk` keeps: the orders still to be played, and the best so far.
use mathlib.Core.Path.{◌≡◌, refl, sym, ◌∙◌, ap, subst}
use mathlib.Core.Bool.{Bool, true, false, true≢false}
use mathlib.Core.Logic.{inl, inr}
use mathlib.Core.List.{List, [], ◌∷◌}
use Prim.Native.Nat.{ℕ, zero, suc, ◌-◌, ◌≤◌, ◌<◌}
use native.Mathlib.Omega.{arith}
use lib.Dec.{eqb, ltb}
use lib.ListN.{length, take, get_or}
use lib.Seq.{length-take-le}
use borrow.Author.Tests.{le-ltb, eq-eqb, ne_eqb}
use Rattle.model.specs.Tests.{when◌then◌else◌, ◌or◌}
use Rattle.model.proofs.Tests.{if_true, if_false}
use Rattle.orders.specs.declared.Verdict.TheVariants.{Hunted}
use Rattle.orders.specs.Orders.{Play, Order, after_order, orders_of}
use Rattle.orders.specs.Next.{first_of, next_of, behind_of, given}
use Rattle.orders.specs.Claims.{Complete}
use Rattle.orders.specs.Hunt.{repeats_in, repeats_of, played_out, steps_made, all_out, best, takes_and_steals, distance_of, report_of}
use Rattle.orders.proofs.AllOrders.{In, sound}
use Rattle.orders.proofs.NextOrder.{orders_first, orders_next}
use Rattle.orders.proofs.Turning.{Higher}
use Rattle.orders.proofs.Walking.{Walking, walking_start, walking_on, walking_over, walking_cut, kept}
use Rattle.turns.specs.Turns.{Turned}
use Rattle.turns.proofs.Ties.{turn_next}

-- the best so far: none before the first order, and no steps are given for that one alone
abbrev pub so_far : ℕ → Order → List Order
so_far zero b = []
so_far (suc g) b = b ∷ []

-- before an order is played: g steps are given for it, b is the best so far with r repeats, n steps are left of the budget B
pub record Hunting (S : Play) (B g : ℕ) (order : List ℕ) (b : Order) (r n : ℕ) : Type 0 where
  pub few : g ≤ 256
  pub walking : Walking S B (orders_of 256 S) (so_far g b) n (first_of 256 S (take g order) ∷ behind_of 256 S (first_of 256 S (take g order)))
  pub among : (q : Order) → In (first_of 256 S (take g order) ∷ behind_of 256 S (first_of 256 S (take g order))) q → In (orders_of 256 S) q
  pub repeats : r ≡ repeats_of S b
  pub none : g ≡ 0 → b ≡ []

pub hunting_start : (S : Play) (B : ℕ) (order : List ℕ) → repeats_in S.world ≡ 0 → Hunting S B 0 order [] 0 B
unfolding after_order
hunting_start S B order e =
    let f = orders_first 256 S in
    record {
      few = omega arith;
      walking = subst (λ (os : List Order). Walking S B (orders_of 256 S) [] B os) f (walking_start S B (orders_of 256 S));
      among = λ q i. subst (λ (os : List Order). In os q) (sym f) i;
      repeats = sym e;
      none = λ z. refl;
    }

given_some : (n : ℕ) (S : Play) (p : Order) → 0 < length p → given n S p ≡ first_of n S p ∷ behind_of n S (first_of n S p)
given_some n S [] h = absurd (omega arith)
given_some n S (i ∷ p) h = refl

-- the best with one order more
pub record Kept (S : Play) (g : ℕ) (b o b' : Order) (r' : ℕ) : Type 0 where
  pub is : kept S (so_far g b) o ≡ b' ∷ []
  pub repeats : r' ≡ repeats_of S b'

pub kept_new : (S : Play) (g : ℕ) (b o : Order) (r s : ℕ) → r ≡ repeats_of S b → s ≡ repeats_of S o → (eqb g 0 or ltb r s) ≡ true → Kept S g b o o s
unfolding when◌then◌else◌ ◌or◌
kept_new S zero b o r s e f h = record { is = refl; repeats = f }
kept_new S (suc g) b o r s e f h = record { is = ap (λ (x : Order). x ∷ []) (if_true b (more (ne_eqb (suc g) 0 (λ z. omega (arith, z))) h)); repeats = f }
  where
    more : {x : Bool} → x ≡ false → (x or ltb r s) ≡ true → ltb (repeats_of S b) (repeats_of S o) ≡ true
    more q h = rw (sym e, sym f) (rw q at h)

pub kept_old : (S : Play) (g : ℕ) (b o : Order) (r s : ℕ) → r ≡ repeats_of S b → s ≡ repeats_of S o → (eqb g 0 or ltb r s) ≡ false → Kept S g b o b r
unfolding when◌then◌else◌ ◌or◌
kept_old S zero b o r s e f h = absurd (true≢false (sym (rw (eq-eqb 0 0 refl)) ∙ h))
kept_old S (suc g) b o r s e f h = record { is = ap (λ (x : Order). x ∷ []) (if_false o (less (ne_eqb (suc g) 0 (λ z. omega (arith, z))) h)); repeats = e }
  where
    less : {x : Bool} → x ≡ false → (x or ltb r s) ≡ false → ltb (repeats_of S b) (repeats_of S o) ≡ false
    less q h = rw (sym e, sym f) (rw q at h)

so_far_few : (g : ℕ) (b : Order) → length (so_far g b) ≤ 1
so_far_few zero b = omega arith
so_far_few (suc g) b = omega arith

best_one : (S : Play) (o : Order) → repeats_in S.world ≡ 0 → best S (o ∷ []) ≡ o
unfolding best after_order
best_one S o e = if_false [] (le-ltb (repeats_of S o) (repeats_in S.world) (omega (arith, e)))

best_so_far : (S : Play) (g : ℕ) (b : Order) → repeats_in S.world ≡ 0 → (g ≡ 0 → b ≡ []) → best S (so_far g b) ≡ b
unfolding best
best_so_far S zero b e n = sym (n refl)
best_so_far S (suc g) b e n = best_one S b e

report_is : (S : Play) (B : ℕ) (b : Order) (r steps : ℕ) (all : Bool) (d : ℕ) → best S (played_out B (orders_of 256 S)) ≡ b → r ≡ repeats_of S b
    → steps_made B (orders_of 256 S) ≡ steps → all_out B (orders_of 256 S) ≡ all → d ≡ distance_of all (takes_and_steals S.left) r
    → record { verdict = Hunted; order = b; repeats = r; steps = steps; distance = d } ≡ report_of S B (orders_of 256 S)
report_is S B b r steps all d e f g h i = rw (i, f, sym e, sym g, sym h)

module _ {S : Play} {B g : ℕ} {order : List ℕ} {b : Order} {r n : ℕ} (H : Hunting S B g order b r n) (start : repeats_in S.world ≡ 0) where
  abbrev o : Order
  o = first_of 256 S (take g order)

  pub complete : Complete 256 S o
  complete = sound 256 S o (H.among o (inl refl))

  -- the budget cuts it off
  pub hunted_cut : (d : ℕ) → n < length o → d ≡ takes_and_steals S.left - 1 - r
      → record { verdict = Hunted; order = b; repeats = r; steps = B; distance = d } ≡ report_of S B (orders_of 256 S)
  unfolding when◌then◌else◌
  hunted_cut d h e =
      let O = walking_cut S B (orders_of 256 S) (so_far g b) n o (behind_of 256 S o) h H.walking in
      report_is S B b r B false d (O.found ∙ best_so_far S g b start H.none) H.repeats O.made O.done e

  -- or it is played out, and the next one is given by g' steps
  module _ (b' : Order) (r' : ℕ) (K : Kept S g b o b' r') (k : ℕ) (size : k ≡ length o) (paid : k ≤ n) (order₁ others order' : List ℕ) (g' : ℕ) (made : take k order₁ ≡ o)
      (long : length order₁ ≡ 256) (long' : length order' ≡ 256) (higher : Higher S o (λ j. get_or others j 0)) (turned : Turned order₁ others k g' order') where
    on : Walking S B (orders_of 256 S) (b' ∷ []) (n - k) (behind_of 256 S o)
    on =
        subst (λ (j : ℕ). Walking S B (orders_of 256 S) (b' ∷ []) (n - j) (behind_of 256 S o)) (sym size)
        (subst (λ (l : List Order). Walking S B (orders_of 256 S) l (n - length o) (behind_of 256 S o)) K.is
        (walking_on S B (orders_of 256 S) (so_far g b) n o (behind_of 256 S o) (so_far_few g b) (omega (arith, paid, size)) H.walking))

    rest : behind_of 256 S o ≡ given 256 S (take g' order')
    rest =
        orders_next 256 S o
        ∙ ap (given 256 S)
        (ap (next_of 256 S) (sym made)
        ∙ turn_next S 256 k g' order₁ others order' (omega (arith, size, complete.short)) (omega (arith, size, complete.short, long)) (subst (λ (q : Order). Higher S q (λ j. get_or others j 0)) (sym made) higher) turned)

    pub hunted_all : g' ≡ 0 → record { verdict = Hunted; order = b'; repeats = r'; steps = B - (n - k); distance = 0 } ≡ report_of S B (orders_of 256 S)
    unfolding when◌then◌else◌
    hunted_all z =
        let none : behind_of 256 S o ≡ [] = rest ∙ ap (λ (j : ℕ). given 256 S (take j order')) z in
        let O = walking_over S B (orders_of 256 S) (b' ∷ []) (n - k) (subst (λ (os : List Order). Walking S B (orders_of 256 S) (b' ∷ []) (n - k) os) none on) in
        report_is S B b' r' (B - (n - k)) true 0 (O.found ∙ best_one S b' start) K.repeats O.made O.done refl

    pub hunting_on : (g' ≡ 0 → ⊥) → Hunting S B g' order' b' r' (n - k)
    hunting_on z =
        let l : g' ≤ 256 = omega (arith, turned.within, size, complete.short) in
        let some : 0 < length (take g' order') = omega (arith, z, length-take-le g' order' (omega (arith, l, long'))) in
        let more : behind_of 256 S o ≡ first_of 256 S (take g' order') ∷ behind_of 256 S (first_of 256 S (take g' order')) = rest ∙ given_some 256 S (take g' order') some in
        record {
          few = l;
          walking = far g' z (subst (λ (os : List Order). Walking S B (orders_of 256 S) (b' ∷ []) (n - k) os) more on);
          among = λ q i. H.among q (inr (subst (λ (os : List Order). In os q) (sym more) i));
          repeats = K.repeats;
          none = λ e. absurd (z e);
        }
      where
        far : (j : ℕ) → (j ≡ 0 → ⊥) → {os : List Order} → Walking S B (orders_of 256 S) (b' ∷ []) (n - k) os → Walking S B (orders_of 256 S) (so_far j b') (n - k) os
        far zero z w = absurd (z refl)
        far (suc j) z w = w
