-- What the owner reads: its waiting stores leave the directory's pairs as they are, and without the mode none waits.
use mathlib.Core.Path.{◌≡◌, refl, ◌∙◌}
use mathlib.Core.List.{List, [], ◌∷◌}
use Prim.Native.Nat.{ℕ}
use Rattle.model.specs.declared.Store.{Store}
use Rattle.model.specs.declared.Store.TheVariants.{StoreWord, StoreNote, StorePut, StoreOut, StoreHead, StoreTail}
use Rattle.model.specs.declared.Queue.{Queue}
use Rattle.model.specs.Stores.{Shared, landed, landed_all}

-- two queues with one directory, as far as it is claimed
pub record Same (p q : Queue) : Type 0 where
  pub linked : p.linked ≡ q.linked
  pub arrays : p.arrays ≡ q.arrays
  pub claimed : p.claimed ≡ q.claimed
  pub initial : p.initial ≡ q.initial

pub same_self : (q : Queue) → Same q q
same_self q = record { linked = refl; arrays = refl; claimed = refl; initial = refl }

same_on : {p q r : Queue} → Same p q → Same q r → Same p r
same_on a b =
    record {
      linked = a.linked ∙ b.linked;
      arrays = a.arrays ∙ b.arrays;
      claimed = a.claimed ∙ b.claimed;
      initial = a.initial ∙ b.initial;
    }

pub landed_same : (v : ℕ) (S : Shared) (s : Store) → Same (landed v S s).queue S.queue
landed_same v S (StoreWord k t j x) = same_self S.queue
landed_same v S (StoreNote k) = record { linked = refl; arrays = refl; claimed = refl; initial = refl }
landed_same v S (StorePut a) = record { linked = refl; arrays = refl; claimed = refl; initial = refl }
landed_same v S (StoreOut a) = record { linked = refl; arrays = refl; claimed = refl; initial = refl }
landed_same v S (StoreHead h) = record { linked = refl; arrays = refl; claimed = refl; initial = refl }
landed_same v S (StoreTail t) = record { linked = refl; arrays = refl; claimed = refl; initial = refl }

pub view_same : (v : ℕ) (S : Shared) (l : List Store) → Same (landed_all v S l).queue S.queue
unfolding landed_all
view_same v S [] = same_self S.queue
view_same v S (s ∷ l) = same_on (view_same v (landed v S s) l) (landed_same v S s)
