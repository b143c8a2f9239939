use mathlib.Core.Path.{◌≡◌}
use mathlib.Core.List.{◌++◌}
use Prim.Native.Nat.{◌*◌}
use lib.ListN.{drop}
use Rattle.model.specs.Calls.{lent}
use Rattle.model.specs.Run.{played, after}
use Rattle.plays.specs.Words.{calls_from, answer_words, all_as_words}
use Rattle.plays.proofs.play.Given as goal

abbrev pub invariant-loop-made : goal.invariant-loop-made
invariant-loop-made l = let U = lent l.initial.current.state l.initial.store l.initial.log in
    (lent l.current.state l.store l.log ≡ after U (calls_from l.calls l.made))
    × (l.answers ≡ all_as_words (played U (calls_from l.calls l.made)) ++ drop (l.made * answer_words) l.initial.answers)
