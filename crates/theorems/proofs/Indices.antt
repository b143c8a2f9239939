-- The virtual window of an anchor, and the slots of a line's index.
use mathlib.Core.Path.{◌≡◌, sym, ◌∙◌, ap}
use mathlib.Core.Bool.{true, false}
use Prim.Native.Nat.{ℕ, ◌+◌, ◌-◌, ◌%◌, ◌≤◌, ◌<◌}
use native.Mathlib.Omega.{arith}
use native.Mathlib.Nat.{mod-eq_of_lt}
use borrow.Author.Tests.{eqb-true, eqb-false}
use Rattle.model.specs.declared.Kind.{Kind}
use Rattle.model.specs.declared.Kind.TheVariants.{Lifo, Fifo, Deque}
use Rattle.model.specs.declared.Anchor.{Anchor}
use Rattle.model.specs.Figures.{put_index, take_index, steal_index, is_full, is_empty, slot}
use Rattle.model.proofs.Directory.{Size}
use Rattle.theorems.proofs.Remainders.{wrap}

-- the anchor a stands for the window [lo, hi)
abbrev pub StandsFor : Kind → Anchor → ℕ → ℕ → Type 0
StandsFor Lifo a lo hi = (a.head ≡ 0) × (lo ≡ 0) × (hi ≡ a.count)
StandsFor Fifo a lo hi = (lo ≡ a.head) × (hi ≡ a.count)
StandsFor Deque a lo hi = (a.head ≡ lo % 2048) × (hi ≡ lo + a.count)

-- the head alone
abbrev pub Start : Kind → ℕ → ℕ → Type 0
Start Lifo h lo = (h ≡ 0) × (lo ≡ 0)
Start Fifo h lo = h ≡ lo
Start Deque h lo = h ≡ lo % 2048

-- the index that a steal, a take hands out
abbrev pub stolen_ix : Kind → ℕ → ℕ → ℕ
stolen_ix Lifo lo hi = hi - 1
stolen_ix Fifo lo hi = lo
stolen_ix Deque lo hi = lo

abbrev pub taken_ix : Kind → ℕ → ℕ → ℕ
taken_ix Lifo lo hi = hi - 1
taken_ix Fifo lo hi = lo
taken_ix Deque lo hi = hi - 1

-- LIFO's slots are not taken modulo the size
abbrev pub Small : Kind → ℕ → ℕ → Type 0
Small Lifo z hi = hi ≤ z
Small Fifo z hi = Unit {0}
Small Deque z hi = Unit {0}

module _ {z : ℕ} (S : Size z) where
  small : (x i : ℕ) → x ≡ i → i < z → x ≡ i % z
  small x i e l = e ∙ sym (mod-eq_of_lt l)

  pub put_ix : (κ : Kind) (a : Anchor) (lo hi : ℕ) → hi < lo + z → StandsFor κ a lo hi → slot κ z (put_index κ a) ≡ hi % z
  put_ix Lifo a lo hi l r = small a.count hi (sym r.2) (omega (arith, r.1))
  put_ix Fifo a lo hi l r = ap (λ (x : ℕ). x % z) (sym r.1)
  put_ix Deque a lo hi l r =
      ap (λ (x : ℕ). (x + a.count) % z) r.0 ∙ wrap S lo a.count ∙ ap (λ (x : ℕ). x % z) (sym r.1)

  pub steal_ix : (κ : Kind) (a : Anchor) (lo hi : ℕ) → lo < hi → Small κ z hi → StandsFor κ a lo hi → slot κ z (steal_index κ a) ≡ stolen_ix κ lo hi % z
  steal_ix Lifo a lo hi l m r = small (a.count - 1) (hi - 1) (omega (arith, r.2)) (omega arith)
  steal_ix Fifo a lo hi l m r = ap (λ (x : ℕ). x % z) (sym r.0)
  steal_ix Deque a lo hi l m r =
      ap (λ (x : ℕ). x % z) (omega (arith, r.0)) ∙ wrap S lo 0 ∙ ap (λ (x : ℕ). x % z) (omega arith)

  pub take_ix : (κ : Kind) (a : Anchor) (lo hi : ℕ) → lo < hi → hi ≤ lo + z → StandsFor κ a lo hi → slot κ z (take_index κ a) ≡ taken_ix κ lo hi % z
  take_ix Lifo a lo hi l m r = small (a.count - 1) (hi - 1) (omega (arith, r.2)) (omega (arith, r.1))
  take_ix Fifo a lo hi l m r = ap (λ (x : ℕ). x % z) (sym r.0)
  take_ix Deque a lo hi l m r =
      ap (λ (x : ℕ). x % z) (omega (arith, r.0, r.1)) ∙ wrap S lo (a.count - 1) ∙ ap (λ (x : ℕ). x % z) (omega (arith, r.1))

  pub start_ix : (κ : Kind) (h lo k : ℕ) → k < z → Start κ h lo → slot κ z (h + k) ≡ (lo + k) % z
  start_ix Lifo h lo k l r = small (h + k) (lo + k) (omega (arith, r.0, r.1)) (omega (arith, r.1))
  start_ix Fifo h lo k l r = ap (λ (x : ℕ). (x + k) % z) r
  start_ix Deque h lo k l r = ap (λ (x : ℕ). (x + k) % z) r ∙ wrap S lo k

pub full_no : (κ : Kind) (z : ℕ) (a : Anchor) (lo hi : ℕ) → StandsFor κ a lo hi → hi ≤ lo + z → is_full κ z a ≡ false → hi < lo + z
full_no Lifo z a lo hi r l e = omega (arith, r.1, r.2, eqb-false a.count z e)
full_no Fifo z a lo hi r l e = omega (arith, r.0, r.1, eqb-false a.count (a.head + z) e)
full_no Deque z a lo hi r l e = omega (arith, r.1, eqb-false a.count z e)

pub empty_yes : (κ : Kind) (a : Anchor) (lo hi : ℕ) → StandsFor κ a lo hi → is_empty κ a ≡ true → lo ≡ hi
empty_yes Lifo a lo hi r e = omega (arith, r.1, r.2, eqb-true a.count 0 e)
empty_yes Fifo a lo hi r e = omega (arith, r.0, r.1, eqb-true a.head a.count e)
empty_yes Deque a lo hi r e = omega (arith, r.1, eqb-true a.count 0 e)

pub empty_no : (κ : Kind) (a : Anchor) (lo hi : ℕ) → StandsFor κ a lo hi → lo ≤ hi → is_empty κ a ≡ false → lo < hi
empty_no Lifo a lo hi r l e = omega (arith, r.1, r.2, eqb-false a.count 0 e)
empty_no Fifo a lo hi r l e = omega (arith, r.0, r.1, eqb-false a.head a.count e)
empty_no Deque a lo hi r l e = omega (arith, r.1, eqb-false a.count 0 e)
