-- What the small functions answer.
use Prim.Native.Nat.{ℕ}
use Rattle.model.specs.declared.Operation.{Operation}
use Rattle.model.specs.Calls.{first_line, used_by}
use Rattle.rounds.specs.declared.Begun.{Begun}

-- a worker's operation begun, where u numbers are used
abbrev pub first : Operation → ℕ → ℕ → Begun
first op v u = record { line = first_line op v u; used = used_by op u }
