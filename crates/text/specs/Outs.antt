-- The values of a hand-out's line: worker, put number, and the v words of the payload.
use Rattle.std.specs.Prelude.{List, ◌∷◌, ℕ, take, drop}
use Rattle.model.specs.declared.Task.{Task}
use Rattle.model.specs.Tasks.{words_in}

abbrev pub out_values : ℕ → ℕ → Task → List ℕ
out_values v i t = i ∷ t.number ∷ take v (drop 1 (words_in t))
