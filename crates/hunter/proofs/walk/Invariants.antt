use mathlib.Core.Path.{◌≡◌}
use lib.ListN.{length, take}
use Rattle.hunter.specs.Hunter.{start_of}
use Rattle.hunter.proofs.Hunting.{Hunting}
use Rattle.hunter.proofs.walk.Given as goal

abbrev pub invariant-loop-r : goal.invariant-loop-r
invariant-loop-r l = Hunting (start_of l.fresh (length l.initial.store) (length l.initial.log) l.puts l.all) l.budget l.given l.order (take l.length l.best) l.repeats l.left
    × (length l.store ≡ length l.initial.store) × (length l.log ≡ length l.initial.log) × (length l.order ≡ 256) × (length l.others ≡ 256) × (length l.seen ≡ 4096)

abbrev pub decreases-loop-r : goal.decreases-loop-r
decreases-loop-r l = l.left
