use mathlib.Core.Path.{refl, sym, ap, ◌∙◌}
use mathlib.Core.Bool.{not}
use Rattle.model.specs.Tests.{when◌then◌else◌}
use Rattle.lines.specs.Actions.{claims_by, PlacedIn, stores_by, answer_by, fails_by, Doable}
use Rattle.lines.proofs.LastLines.{steal_concludes}
use Rattle.lines.proofs.compare.Goals as goal

pub returns-then-succeeds : goal.returns-then-succeeds
unfolding claims_by PlacedIn stores_by answer_by fails_by Doable when◌then◌else◌
returns-then-succeeds c = let won = sym c.succeeds.ensures ∙ c.if-succeeds.true in
    let a = c.args in
    let left = c.steal_store-left.ensures in record { does = λ ρ v. record { claims = simp won; place = tt; stores = simp (won, left); answer = simp won }; by_index = λ v n. (steal_concludes a.queue a.read a.kind a.next left, refl); result_value = sym (ap not won) }

pub returns-else-succeeds : goal.returns-else-succeeds
unfolding claims_by PlacedIn stores_by answer_by fails_by Doable when◌then◌else◌
returns-else-succeeds c = let lost = sym c.succeeds.ensures ∙ c.if-succeeds.false in record { does = λ ρ v. record { claims = simp lost; place = tt; stores = simp lost; answer = simp lost }; by_index = λ v n. tt; result_value = sym (ap not lost) }
