-- When two steps of a yard may be swapped: quiet steps of different workers, of one queue or of two.
use Rattle.std.specs.Prelude.{◌≡◌, false, ◌⊎◌, ◌≢◌, List, [], ℕ, ◌<◌}
use Rattle.model.specs.Answers.{ends}
use Rattle.model.specs.Listing.{is_refused}
use Rattle.model.specs.Calls.{landing, next_effect, step}
use Rattle.model.specs.Yard.{Ground, Yields, bench_at, world_of, room_of, on_of, YardCall, ground_after}
use Rattle.yards.specs.Yards.{opened}

-- what worker i's next step of queue q leaves and answers
abbrev pub step_at : Ground → ℕ → ℕ → Yields
step_at G q i = on_of G q (step i)

-- it is quiet: accepted, it ends no operation, claims no array, and none of its stores lands
pub record QuietAt (G : Ground) (q i : ℕ) : Type 0 where
  pub accepted : is_refused (step_at G q i).answer ≡ false
  pub ends_none : ends (step_at G q i).answer ≡ false
  pub claims_none : (next_effect (room_of G q) (world_of G q) i).claims ≡ false
  pub lands_none : landing (bench_at G.yard q).delayed i (next_effect (room_of G q) (world_of G q) i).stores ≡ []

-- two steps in either order: equal yards, stores and logs, and each answers what it would answer first
pub record SwappedAt (G : Ground) (q i r j : ℕ) : Type 0 where
  pub grounds : (step_at (step_at G r j).the_ground q i).the_ground ≡ (step_at (step_at G q i).the_ground r j).the_ground
  pub first : (step_at (step_at G r j).the_ground q i).answer ≡ (step_at G q i).answer
  pub second : (step_at (step_at G q i).the_ground r j).answer ≡ (step_at G r j).answer

-- in every yard that calls reach
abbrev pub SwapQuietInYards : Type 0
SwapQuietInYards =
    (store : List ℕ) (cs : List YardCall)
    → let G = ground_after (opened store) cs in
    (q i r j : ℕ) → q < G.yard.made → r < G.yard.made → (q ≢ r) ⊎ (i ≢ j) → QuietAt G q i → QuietAt G r j → SwappedAt G q i r j
