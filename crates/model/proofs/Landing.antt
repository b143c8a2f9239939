-- Stores that land one after another, or wait; and links.
use mathlib.Core.Bool.{false}
use mathlib.Core.Path.{◌≡◌, refl, ap, ◌∙◌}
use mathlib.Core.List.{List, [], ◌∷◌, ◌++◌}
use Prim.Native.Nat.{ℕ, zero, suc}
use native.Mathlib.Nat.{add-zero}
use lib.ListN.{get_or, replicate, take, drop, take-append-drop}
use Rattle.model.specs.declared.Store.{Store}
use Rattle.model.specs.declared.Waiting.{Waiting}
use Rattle.model.specs.Stores.{Shared, landed, landed_all, joined}
use Rattle.model.specs.World.{World, memory, owners_view}

pub landed_more : (v : ℕ) (S : Shared) (a b : List Store) → landed_all v S (a ++ b) ≡ landed_all v (landed_all v S a) b
unfolding landed_all
landed_more v S [] b = refl
landed_more v S (x ∷ a) b = landed_more v (landed v S x) a b

-- where none waits the owner reads memory
pub reads_memory : (W : World) → W.bench.waiting.count ≡ 0 → owners_view W ≡ memory W
unfolding landed_all
reads_memory W e = rw e

-- none joins: the line stays as it is
pub joined_none : (s : Waiting) → joined s [] ≡ s
joined_none s =
    ap (λ (n : ℕ). record { stores = take s.count s.stores ++ drop n s.stores; count = n }) (add-zero s.count)
    ∙ ap (λ (l : List Store). record { stores = l; count = s.count }) (take-append-drop s.count s.stores)

-- no link is held behind a write of the anchor
pub none_held : (n k : ℕ) → get_or (replicate n false) k false ≡ false
none_held zero k = refl
none_held (suc n) zero = refl
none_held (suc n) (suc k) = none_held n k
