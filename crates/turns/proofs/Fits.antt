-- How many operations each worker has open or left, kept through a step: one that ends its operation takes one off.
use mathlib.Core.Path.{◌≡◌, refl, sym, ◌∙◌, ap, subst}
use mathlib.Core.Bool.{Bool, true, false, not}
use mathlib.Core.List.{List, [], ◌∷◌}
use Prim.Native.Nat.{ℕ, suc, ◌+◌, ◌-◌, ◌<◌}
use native.Mathlib.Omega.{arith}
use lib.Dec.{eqb, ltb}
use lib.ListN.{length, set, get_or}
use lib.Seq.{get_or-set_same, get_or-set_other, set-set}
use borrow.Author.Tests.{lt-ltb, le-ltb, eqb-true, eqb-false}
use Rattle.model.specs.declared.Worker.{Worker}
use Rattle.model.specs.declared.Line.{Line}
use Rattle.model.specs.declared.Operation.{Operation}
use Rattle.model.specs.Tests.{when◌then◌else◌, ◌or◌}
use Rattle.model.specs.World.{resting, line_at, is_idle}
use Rattle.orders.specs.Orders.{Play, left_of, has_some}
use Rattle.orders.proofs.Spends.{busy, busy_is, idle_is}
use Rattle.orders.proofs.NoneRefused.{other_line}
use Rattle.turns.proofs.Ties.{Counts}

abbrev pub Fits : List Worker → List (List Operation) → List ℕ → Type 0
Fits ws l t = (i : ℕ) → get_or t i 0 ≡ length (get_or l i []) + busy (line_at ws i)

-- a worker may step that has one or more
may_count : (y : Line) (x : List Operation) (n : ℕ) (b : Bool) → is_idle y ≡ b → n ≡ length x + busy y → (not b or has_some x) ≡ ltb 0 n
unfolding ◌or◌
may_count y [] n true e f = sym (le-ltb 0 n (omega (arith, f, idle_is y e)))
may_count y (op ∷ x) n true e f = sym (lt-ltb 0 n (omega (arith, f)))
may_count y x n false e f = sym (lt-ltb 0 n (omega (arith, f, busy_is y e)))

pub fits_counts : (S : Play) (t : List ℕ) → Fits S.world.bench.workers S.left t → Counts S t
fits_counts S t f i =
    may_count (line_at S.world.bench.workers i) (left_of S i) (get_or t i 0) (is_idle (line_at S.world.bench.workers i)) refl (f i)

-- one off, if the operation ended
abbrev pub told : List ℕ → ℕ → Line → List ℕ
told t i y = when is_idle y then set t i (get_or t i 0 - 1) else t

told_same : (t : List ℕ) (i n : ℕ) (y : Line) (b : Bool) → is_idle y ≡ b → i < length t → get_or t i 0 ≡ n + 1
    → get_or (when b then set t i (get_or t i 0 - 1) else t) i 0 ≡ n + busy y
unfolding when◌then◌else◌
told_same t i n y true e h f = omega (arith, f, idle_is y e, get_or-set_same t i (get_or t i 0 - 1) 0 h)
told_same t i n y false e h f = omega (arith, f, busy_is y e)

told_other : (t : List ℕ) (i j : ℕ) (b : Bool) → (j ≡ i → ⊥) → get_or (when b then set t i (get_or t i 0 - 1) else t) j 0 ≡ get_or t j 0
unfolding when◌then◌else◌
told_other t i j true h = get_or-set_other t i j (get_or t i 0 - 1) 0 h
told_other t i j false h = refl

module _ (ws : List Worker) (l l' : List (List Operation)) (t : List ℕ) (i : ℕ) (x : Worker) (f : Fits ws l t) (g : i < length ws) (h : i < length t)
    (same : (j : ℕ) → (j ≡ i → ⊥) → get_or l' j [] ≡ get_or l j []) (one : get_or t i 0 ≡ length (get_or l' i []) + 1) where
  fits_at : (j : ℕ) (b : Bool) → eqb j i ≡ b → get_or (told t i x.line) j 0 ≡ length (get_or l' j []) + busy (line_at (set ws i x) j)
  fits_at j true e =
      let q = eqb-true j i e in
      subst (λ (k : ℕ). get_or (told t i x.line) k 0 ≡ length (get_or l' k []) + busy (line_at (set ws i x) k)) (sym q)
      (told_same t i (length (get_or l' i [])) x.line (is_idle x.line) refl h one
      ∙ ap (λ (w : Worker). length (get_or l' i []) + busy w.line) (sym (get_or-set_same ws i x resting g)))
  fits_at j false e =
      let n = eqb-false j i e in
      omega (
        arith,
        f j,
        told_other t i j (is_idle x.line) n,
        ap length (same j n),
        ap busy (other_line ws i j x n),
      )

  fits_on : Fits (set ws i x) l' (told t i x.line)
  fits_on j = fits_at j (eqb j i) refl

-- a step of a busy worker; a begin and its first line
pub fits_step : (ws : List Worker) (l : List (List Operation)) (t : List ℕ) (i : ℕ) (x : Worker) → Fits ws l t → i < length ws → i < length t
    → is_idle (line_at ws i) ≡ false → Fits (set ws i x) l (told t i x.line)
fits_step ws l t i x f g h b = fits_on ws l l t i x f g h (λ j n. refl) (omega (arith, f i, busy_is (line_at ws i) b))

pub fits_begin : (ws : List Worker) (l : List (List Operation)) (t : List ℕ) (i : ℕ) (x y : Worker) (op : Operation) (ops : List Operation) → Fits ws l t
    → i < length ws → i < length t → is_idle (line_at ws i) ≡ true → get_or l i [] ≡ op ∷ ops → i < length l
    → Fits (set (set ws i y) i x) (set l i ops) (told t i x.line)
fits_begin ws l t i x y op ops f g h b e k =
    let z : length (get_or l i []) ≡ suc (length ops) = ap length e in
    let w : length (get_or (set l i ops) i []) ≡ length ops = ap length (get_or-set_same l i ops [] k) in
    subst (λ (v : List Worker). Fits v (set l i ops) (told t i x.line)) (sym (set-set ws i y x))
    (fits_on ws l (set l i ops) t i x f g h (λ j n. get_or-set_other l i j ops [] n) (omega (arith, f i, idle_is (line_at ws i) b, z, w)))
