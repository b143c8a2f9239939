use mathlib.Core.Path.{◌≡◌}
use lib.ListN.{length, take}
use Rattle.rounds.specs.Rounds.{play_of}
use Rattle.rounds.proofs.Playing.{Playing}
use Rattle.rounds.proofs.play.Given as goal

abbrev pub invariant-loop-n : goal.invariant-loop-n
invariant-loop-n l = Playing (play_of l.initial.bench l.initial.store l.initial.log l.puts l.initial.todo) (take l.given l.initial.order) l.puts l.initial.order l.most l.bench l.store l.log l.todo l.order l.others l.n
    × (length l.store ≡ length l.initial.store) × (length l.log ≡ length l.initial.log)
