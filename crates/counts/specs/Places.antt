-- Where a task of the window lies in the store.
use Rattle.std.specs.Prelude.{◌≡◌, Bool, List, ℕ, ◌+◌, ◌/◌, ◌≤◌}
use Rattle.model.specs.declared.Kind.{Kind}
use Rattle.model.specs.declared.Anchor.{Anchor}
use Rattle.model.specs.declared.Region.{Region}
use Rattle.model.specs.declared.Task.{Task}
use Rattle.model.specs.Tasks.{gathered, same_task}
use Rattle.model.specs.Memory.{word_at}
use Rattle.model.specs.Figures.{slot}
use Rattle.model.specs.Window.{window_index}

-- the slot of index i in an array of z tasks: it is no larger than the index, also where z is 0
pub record Slot (κ : Kind) (z i r : ℕ) : Type 0 where
  pub is : r ≡ slot κ z i
  pub small : r ≤ i

-- the window's i-th task, of v payload words, in the array at the pair g of the directory
abbrev pub window_task : Kind → ℕ → Anchor → Region → List ℕ → ℕ → Task
window_task κ v a g m i = gathered (v + 1) (word_at m v g.offset (slot κ (g.length / (v + 1)) (window_index κ a i)))

-- it is this one
abbrev pub stands : Kind → ℕ → Anchor → Region → List ℕ → Task → ℕ → Bool
stands κ v a g m t i = same_task (window_task κ v a g m i) t
