-- The run of a list of calls: each call gets state, store and log as the call before left them.
use Rattle.std.specs.Prelude.{List, [], ◌∷◌}
use Rattle.model.specs.declared.Answer.{Answer}
use Rattle.model.specs.World.{World}
use Rattle.model.specs.Calls.{Call, call_of}

-- a call of the list: the state, store and log that it got, and its answer
pub record Played : Type 0 where
  pub before : World
  pub call : Call
  pub answer : Answer

-- the list's calls in order; and what the last one left
unfoldable pub played : World → List Call → List Played
played W [] = []
played W (c ∷ cs) = record { before = W; call = c; answer = (call_of W c).answer } ∷ played (call_of W c).world cs

unfoldable pub after : World → List Call → World
after W [] = W
after W (c ∷ cs) = after (call_of W c).world cs
