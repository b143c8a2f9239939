-- What a call leaves: its reply, with the store m and the log l as they are then.
use Rattle.std.specs.Prelude.{List, ℕ}
use Rattle.model.specs.World.{Outcome}
use Rattle.model.specs.Calls.{lent}
use Rattle.model.specs.Yard.{Yields}
use Rattle.plots.specs.Places.{the_ground}
use Rattle.queues.specs.declared.Reply.{Reply}
use Rattle.queues.specs.declared.YardReply.{YardReply}

abbrev pub left : Reply → List ℕ → List ℕ → Outcome
left r m l = record { world = lent r.bench.state m l; answer = r.answer }

-- of a yard: with the logs ls
abbrev pub yielded : YardReply → List ℕ → List (List ℕ) → Yields
yielded r m ls = record { the_ground = the_ground r.yard.state m ls; answer = r.answer }
