-- The worlds that calls reach from an accepted fresh.
use Rattle.std.specs.Prelude.{◌≡◌, List, ℕ}
use Rattle.model.specs.declared.Setup.{Setup}
use Rattle.model.specs.declared.Answer.TheVariants.{Accepted}
use Rattle.model.specs.World.{World}
use Rattle.model.specs.Calls.{fresh_of, Call}
use Rattle.model.specs.Run.{after}

pub record Reached (W : World) : Type 0 where
  pub setup : Setup
  pub store : List ℕ
  pub log : List ℕ
  pub accepted : (fresh_of setup store log).answer ≡ Accepted
  pub calls : List Call
  pub reaches : after (fresh_of setup store log).world calls ≡ W
