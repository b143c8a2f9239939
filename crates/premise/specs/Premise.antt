-- The premise of demand 3: linked kinds and width 16 do not need it, and without a link it is tight at every other width.
use Rattle.std.specs.Prelude.{◌≡◌, ◌⊎◌, List, ℕ, ◌+◌, ◌*◌, ◌^◌, ◌≤◌, ◌<◌, length}
use Rattle.model.specs.declared.Setup.{Setup}
use Rattle.model.specs.declared.Task.{Task}
use Rattle.model.specs.declared.Answer.TheVariants.{Accepted}
use Rattle.model.specs.Answers.{entry_length}
use Rattle.model.specs.World.{World}
use Rattle.model.specs.Calls.{fresh_of, setup, Call}
use Rattle.model.specs.Run.{played, after}
use Rattle.theorems.specs.Demand3.{At, Compares, Attempt, Done, Out, Stands, puts, between, Demand3, FromFresh}

-- The linked kinds, 4 and 5, need no premise: from any accepted fresh of them, whatever the store and the log held before
abbrev pub LinkedKinds : Type 0
LinkedKinds =
    (s : Setup) (store log : List ℕ) → (s.kind ≡ 4) ⊎ (s.kind ≡ 5) → (fresh_of s store log).answer ≡ Accepted
    → (cs : List Call) → Demand3 (fresh_of s store log).world cs

-- At width 16 demand 3 needs no premise: there are not 2^16 puts
abbrev pub WidestTag : Type 0
WidestTag = FromFresh (λ W. W.bench.width ≡ 16 → (cs : List Call) → Demand3 W cs)

-- At every other width the premise is tight. The list loses a finished put's task, with d puts that come to memory between a
-- steal attempt's line 1 and its compare
pub record Loses (W : World) (cs : List Call) (d : ℕ) : Type 0 where
  pub thief : ℕ
  pub line1 : ℕ
  pub compare : ℕ
  pub compares : At (played W cs) compare (Compares thief)
  pub attempt : Attempt (played W cs) thief line1 compare
  pub puts_between : puts (between line1 compare (played W cs)) ≡ d
  pub begun : ℕ
  pub finished : ℕ
  pub task : Task
  pub done : Done (played W cs) begun finished task
  pub not_handed_out : (k : ℕ) → Out (played W cs) k task → ⊥
  pub not_standing : Stands (after W cs) task → ⊥

-- for LIFO and double-ended, kinds 1 and 3, each width and each count v of payload words there is such a list with exactly 2^w
-- puts in one attempt, of a bench with one slot and one thief, whose stores are not delayed
abbrev pub Tight : Type 0
Tight =
    (k w v : ℕ) (store log : List ℕ) → (k ≡ 1) ⊎ (k ≡ 3) → 0 < w → w ≤ 15 → 0 < v → v ≤ 4 → v + 1 ≤ length store
    → 2 * entry_length v * (2 ^ w + 1) ≤ length log → ((fresh_of (setup k w 1 2 v) store log).answer ≡ Accepted)
    × ((cs : List Call) × Loses (fresh_of (setup k w 1 2 v) store log).world cs (2 ^ w))
