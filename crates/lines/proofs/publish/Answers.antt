use mathlib.Core.Path.{refl}
use Rattle.lines.specs.Actions.{claims_by, PlacedIn, stores_by, answer_by, fails_by, Lands, Concludes, Doable}
use Rattle.lines.proofs.publish.Goals as goal

pub returns-in-ForPut : goal.returns-in-ForPut
unfolding claims_by PlacedIn stores_by answer_by fails_by Doable Lands
returns-in-ForPut c = let e = c.in-ForPut.is in record { does = λ ρ v. record { claims = simp e; place = tt; stores = simp e; answer = simp e }; by_index = λ v n. refl; result_value = refl }

pub returns-in-ForCommit : goal.returns-in-ForCommit
unfolding claims_by PlacedIn stores_by answer_by fails_by Doable Concludes
returns-in-ForCommit c = let e = c.in-ForCommit.is in record { does = λ ρ v. record { claims = simp e; place = tt; stores = simp e; answer = simp e }; by_index = λ v n. (refl, refl); result_value = refl }
