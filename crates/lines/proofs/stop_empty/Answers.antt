use mathlib.Core.Path.{sym, refl, ◌∙◌}
use Rattle.model.specs.Tests.{when◌then◌else◌}
use Rattle.lines.specs.Actions.{claims_by, PlacedIn, stores_by, answer_by, fails_by, Doable}
use Rattle.lines.proofs.stop_empty.Goals as goal

pub returns-then-empty : goal.returns-then-empty
unfolding claims_by PlacedIn stores_by answer_by fails_by Doable when◌then◌else◌
returns-then-empty c = let empty = sym c.is_empty-empty.ensures ∙ c.if-empty.true in record { does = λ ρ v l. record { claims = simp empty; place = tt; stores = simp empty; answer = simp empty }; by_index = λ v q n. refl; result_value = refl }

pub returns-else-empty : goal.returns-else-empty
unfolding claims_by PlacedIn stores_by answer_by fails_by Doable when◌then◌else◌
returns-else-empty c = let some = sym c.is_empty-empty.ensures ∙ c.if-empty.false in record { does = λ ρ v l. record { claims = simp some; place = tt; stores = simp some; answer = simp some }; by_index = λ v q n. tt; result_value = refl }
