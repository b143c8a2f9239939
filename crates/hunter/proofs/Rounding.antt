-- One order of the hunt: from what playing it left to what the walk keeps.
use mathlib.Core.Path.{◌≡◌, refl, sym, ◌∙◌, ap, subst}
use mathlib.Core.Bool.{Bool, true, false}
use mathlib.Core.Logic.{◌⊎◌, inl, inr}
use mathlib.Core.List.{List}
use Prim.Native.Nat.{ℕ, zero, suc}
use native.Mathlib.Omega.{arith}
use lib.Dec.{eqb, ltb}
use lib.ListN.{length, take, replicate, length-set}
use Rattle.model.specs.declared.Bench.{Bench}
use Rattle.model.specs.Tests.{◌or◌}
use Rattle.model.specs.World.{World}
use Rattle.orders.specs.Orders.{Play, Order, after_order}
use Rattle.orders.specs.Next.{first_of}
use Rattle.orders.specs.Claims.{Complete}
use Rattle.orders.specs.Hunt.{repeats_in, repeats_of}
use Rattle.rounds.specs.declared.Played.{Played}
use Rattle.rounds.specs.Rounds.{play_of, PlayedBy}
use Rattle.turns.specs.Turns.{Turned}
use Rattle.hunter.specs.declared.Round.{Round}
use Rattle.std.specs.Prelude.{Option, Some, None}
use Rattle.hunter.specs.Hunter.{start_of, Through, RoundBy}
use Rattle.hunter.proofs.Hunting.{Kept, kept_new, kept_old}

-- a store and a log that were zeroed
pub zeroed : (b : Bench) (m l m₀ l₀ : List ℕ) (puts : List Bool) (t : List ℕ) → m ≡ replicate (length m₀) 0 → l ≡ replicate (length l₀) 0
    → play_of b m l puts t ≡ start_of b (length m₀) (length l₀) puts t
zeroed b m l m₀ l₀ puts t e f =
    ap (λ (x : List ℕ). play_of b x l puts t) e ∙ ap (λ (x : List ℕ). play_of b (replicate (length m₀) 0) x puts t) f

pub same_start : (b : Bench) (n n' k k' : ℕ) (puts : List Bool) (t : List ℕ) → n ≡ n' → k ≡ k' → start_of b n k puts t ≡ start_of b n' k' puts t
same_start b n n' k k' puts t e f = ap (λ (x : ℕ). start_of b x k puts t) e ∙ ap (λ (x : ℕ). start_of b n' x puts t) f

pub same_played : {S S' : Play} {p : Order} {most : ℕ} {r : Option Played} {order others l : List ℕ} → S ≡ S' → PlayedBy S p most r order others l
    → PlayedBy S' p most r order others l
same_played {p = p} {most = most} {r = r} {order = order} {others = others} {l = l} e P = subst (λ (X : Play). PlayedBy X p most r order others l) e P

pub same_round : {S S' : Play} {p : Order} {most : ℕ} {r : Option Round} {order others seen : List ℕ} → S ≡ S' → RoundBy S p most r order others seen
    → RoundBy S' p most r order others seen
same_round {p = p} {most = most} {r = r} {order = order} {others = others} {seen = seen} e P = subst (λ (X : Play). RoundBy X p most r order others seen) e P

pub same_complete : (S S' : Play) (p : Order) → S ≡ S' → Complete 256 S (first_of 256 S p) → Complete 256 S' (first_of 256 S' p)
same_complete S S' p e c = subst (λ (X : Play). Complete 256 X (first_of 256 X p)) e c

module _ {S : Play} {p : Order} {most : ℕ} {r : Option Played} {order others l : List ℕ} (P : PlayedBy S p most r order others l) where
  pub round_cut : (seen : List ℕ) → length seen ≡ 4096 → r ≡ None → RoundBy S p most None order others seen
  round_cut seen t e = record { out = λ d f. absurd (let z : ⊥ = cc in z); off = λ f. P.off e; long = P.long; wide = P.wide; table = t }

  pub round_out : (seen : List ℕ) → length seen ≡ 4096 → (d : Played) → r ≡ Some d → (k : ℕ) → ((W : World) → W.bench.words ≡ d.words → W.bench.written ≡ d.written → W.log ≡ l → k ≡ repeats_in W)
      → RoundBy S p most (Some (record { steps = d.steps; repeats = k })) order others seen
  round_out seen t d e k f =
      let o : Order = first_of 256 S p in
      let O = P.out d e in
      let through : Through S o most (record { steps = d.steps; repeats = k }) order others =
      record {
        made = O.made;
        steps = O.steps;
        paid = O.paid;
        higher = O.higher;
        repeats = f (after_order S o).world O.words O.written O.logged;
      } in
      record {
        out = λ x g. subst (λ (y : Round). Through S o most y order others) (let s : record { steps = d.steps; repeats = k } ≡ x = cc in s) through;
        off = λ g. absurd (let z : ⊥ = cc in z);
        long = P.long;
        wide = P.wide;
        table = t;
      }

-- turning to the next order leaves a list as long
pub turned_long : {order others : List ℕ} {n g : ℕ} {to : List ℕ} → Turned order others n g to → length to ≡ length order
turned_long {order = order} {others = others} {g = zero} t = ap length (t.none refl)
turned_long {order = order} {others = others} {g = suc g} t = ap length (t.changed (omega arith)) ∙ length-set order _ _

-- the best so far, once the order is played out
pub kept_by : (S : Play) (g : ℕ) (best best' order : List ℕ) (len len' steps r r' s : ℕ) (o : Order) (x : Bool) → take steps order ≡ o
    → r ≡ repeats_of S (take len best) → s ≡ repeats_of S o → x ≡ (eqb g 0 or ltb r s)
    → ((x ≡ true) × (best' ≡ order) × (len' ≡ steps) × (r' ≡ s)) ⊎ ((x ≡ false) × (best' ≡ best) × (len' ≡ len) × (r' ≡ r))
    → Kept S g (take len best) o (take len' best') r'
kept_by S g best best' order len len' steps r r' s o x m e f t (inl (y, a, b, c)) =
    let same : o ≡ take len' best' = sym (ap (λ (k : ℕ). take k best') b ∙ ap (take steps) a ∙ m) in
    subst (λ (k : ℕ). Kept S g (take len best) o (take len' best') k) (sym c)
    (subst (λ (q : Order). Kept S g (take len best) o q s) same (kept_new S g (take len best) o r s e f (sym t ∙ y)))
kept_by S g best best' order len len' steps r r' s o x m e f t (inr (y, a, b, c)) =
    let same : take len best ≡ take len' best' = sym (ap (λ (k : ℕ). take k best') b ∙ ap (take len) a) in
    subst (λ (k : ℕ). Kept S g (take len best) o (take len' best') k) (sym c)
    (subst (λ (q : Order). Kept S g (take len best) o q r) same (kept_old S g (take len best) o r s e f (sym t ∙ y)))
