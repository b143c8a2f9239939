-- The judge and demand 3: the bench's own log is accepted, with the put numbers of the window as the list.
use Rattle.std.specs.Prelude.{◌≡◌, true, List, [], ◌∷◌, ◌++◌, ℕ, zero, suc}
use Rattle.model.specs.World.{World}
use Rattle.model.specs.Calls.{Call}
use Rattle.model.specs.Run.{after}
use Rattle.model.specs.Window.{window_size, window_word}
use Rattle.model.specs.Counts.{entries_in}
use Rattle.theorems.specs.Demand3.{FewPuts, FromFresh}
use Rattle.order.specs.Order.{log_front}
use Rattle.judgement.specs.Judgement.{accepts}

-- the put numbers of the window's first tasks, and of all of them
abbrev pub window_numbers : World → ℕ → List ℕ
window_numbers W zero = []
window_numbers W (suc i) = window_numbers W i ++ (window_word W i 0 ∷ [])

abbrev pub stored : World → List ℕ
stored W = window_numbers W (window_size W)

-- for every list from a fresh bench under demand 3's premise
abbrev pub RunsAccepted : Type 0
RunsAccepted =
    FromFresh
    (λ W. (cs : List Call) → FewPuts W cs
    → accepts W.bench.words (log_front (after W cs)) (entries_in (after W cs)) (stored (after W cs)) (window_size (after W cs)) ≡ true)
