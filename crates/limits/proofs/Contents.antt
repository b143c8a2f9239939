-- The limits on what stands in a tidy directory, in the order in which code tests them.
use mathlib.Core.Bool.{Bool, true, false}
use mathlib.Core.List.{List}
use mathlib.Core.Path.{◌≡◌, refl, sym, ap, subst, ◌∙◌}
use Prim.Native.Nat.{ℕ, ◌-◌, ◌*◌, ◌^◌, ◌%◌, ◌≤◌, ◌<◌}
use native.Mathlib.Omega.{arith}
use Rattle.model.specs.declared.Kind.{Kind}
use Rattle.model.specs.declared.Queue.{Queue}
use Rattle.model.specs.declared.Region.{Region}
use Rattle.model.specs.declared.Waiting.{Waiting}
use Rattle.model.specs.declared.Bench.{Bench}
use Rattle.model.specs.Tests.{when◌then◌else◌, ◌and◌}
use Rattle.model.specs.Memory.{size_at}
use Rattle.model.specs.Stores.{in_line}
use Rattle.model.specs.Lines.{size}
use Rattle.model.specs.World.{tag_bits}
use Rattle.model.specs.Limits.{anchor_ok, stores_ok}
use Rattle.model.proofs.Tests.{and_left, and_right, and_both}
use Rattle.ranges.specs.Doubles.{Doubled, Doubles}
use Rattle.waiting.specs.Places.{first_in}
use Rattle.limits.specs.Parts.{waits_ok}
use Rattle.limits.proofs.Directory.{shifted}

-- the frame's tests, and the rest x
pub regroup : (k w v c d x : Bool) → (k and w and v and c and d and x) ≡ ((k and w and v and c and d) and x)
unfolding ◌and◌
regroup false w v c d x = refl
regroup true false v c d x = refl
regroup true true false c d x = refl
regroup true true true false d x = refl
regroup true true true true d x = refl

-- memory's anchor a, the owner's p, the numbers n, the line's length w, its stores s, and the rest x
pub stands_not : (a p n w s x : Bool) → (a and n and x) ≡ false → (a and p and n and (w and s) and x) ≡ false
unfolding ◌and◌
stands_not false p n w s x e = refl
stands_not true false n w s x e = refl
stands_not true true false w s x e = refl
stands_not true true true false s x e = refl
stands_not true true true true false x e = refl
stands_not true true true true true x e = e

pub stands : (a p n w s x : Bool) → w ≡ true → (a and n and x) ≡ true → (a and p and n and (w and s) and x) ≡ (p and s)
unfolding ◌and◌
stands a false n w s x f e = let y : a ≡ true = and_left a (n and x) e in rw y
stands a true n w false x f e =
    let y : a ≡ true = and_left a (n and x) e in
    let z : n ≡ true = and_left n x (and_right a (n and x) e) in
    rw (y, z, f)
stands a true n w true x f e =
    let y : a ≡ true = and_left a (n and x) e in
    let z : n ≡ true = and_left n x (and_right a (n and x) e) in
    let u : x ≡ true = and_right n x (and_right a (n and x) e) in
    rw (y, z, f, u)

-- no bits or as many as the width
pub narrow : (x : Bool) (w : ℕ) {r : ℕ} → r ≡ (when x then 0 else w) → w ≤ 16 → r ≤ 16
unfolding when◌then◌else◌
narrow true w e h = omega (arith, e)
narrow false w e h = omega (arith, e, h)

no_stores : (κ : Kind) (w v : ℕ) (p : Queue) (l : Waiting) → l.count ≡ 0 → stores_ok κ w v p (in_line l) ≡ true
no_stores κ w v p l e = ap (λ (n : ℕ). stores_ok κ w v p (first_in l.stores n)) e

-- n arrays are published in the queue p that the owner reads
module _ (b : Bench) (D : Doubled b.words b.queue.arrays b.queue.claimed b.queue.initial) where
  pub in_memory : 0 < b.queue.published → b.queue.published ≤ b.queue.claimed
      → b.queue.initial * 2 ^ (b.queue.published - 1) % 2 ^ 32 ≡ size b.words b.queue
  in_memory h l = shifted b.words b.queue.arrays b.queue.claimed b.queue.initial (b.queue.published - 1) D (omega arith)

  pub doubles : b.queue.published ≤ b.queue.claimed → Doubles b.words b.queue b.queue.initial
  doubles l k h = D k (omega arith)

  module _ (n : ℕ) (p : Queue) (published : p.published ≡ n) (arrays : p.arrays ≡ b.queue.arrays) (some : 0 < n) (all : n ≤ b.queue.claimed) where
    pub in_view : b.queue.initial * 2 ^ (n - 1) % 2 ^ 32 ≡ size b.words p
    in_view =
        shifted b.words b.queue.arrays b.queue.claimed b.queue.initial (n - 1) D (omega arith)
        ∙ ap (λ (l : List Region). size_at b.words l (n - 1)) (sym arrays)
        ∙ ap (λ (k : ℕ). size_at b.words p.arrays (k - 1)) (sym published)

    pub doubles_view : Doubles b.words p b.queue.initial
    doubles_view k h =
        subst (λ (l : List Region). (size_at b.words l k ≡ b.queue.initial * 2 ^ k) × (b.queue.initial * 2 ^ k ≤ 1024)) (sym arrays)
        (D k (omega (arith, h, published, all)))

-- where none waits
pub none_waits : (b : Bench) (p : Queue) → b.waiting.count ≡ 0 → p ≡ b.queue
    → anchor_ok b.kind (tag_bits b) (size b.words b.queue) b.queue.anchor ≡ true → waits_ok b p ≡ true
none_waits b p n same e =
    and_both _ _ (ap (λ (q : Queue). anchor_ok b.kind (tag_bits b) (size b.words q) q.anchor) same ∙ e)
    (no_stores b.kind (tag_bits b) b.words p b.waiting n)
