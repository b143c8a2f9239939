-- What a call leaves: its reply, with the store m and the log l as they are then.
use Rattle.std.specs.Prelude.{List, ℕ}
use Rattle.model.specs.World.{Outcome}
use Rattle.model.specs.Calls.{lent}
use Rattle.state.specs.declared.Returned.{Returned}

abbrev pub returned : Returned → List ℕ → List ℕ → Outcome
returned r m l = record { world = lent r.bench m l; answer = r.answer }
