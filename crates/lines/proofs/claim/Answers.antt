use mathlib.Core.Bool.{true}
use mathlib.Core.Path.{◌≡◌, refl, sym, ◌∙◌}
use Prim.Native.Nat.{ℕ, ◌-◌}
use Rattle.model.specs.Tests.{when◌then◌else◌}
use Rattle.model.specs.Lines.{fits}
use Rattle.slots.specs.Bounds.{Sized}
use Rattle.lines.specs.Actions.{claims_by, stores_by, answer_by, fails_by, PlacedIn, Doable}
use Rattle.lines.proofs.Room.{claims_are}
use Rattle.lines.proofs.claim.Goals as goal

pub returns-then-fits : goal.returns-then-fits
unfolding claims_by stores_by answer_by fails_by PlacedIn Doable when◌then◌else◌
returns-then-fits c = let q = c.args.queue in
    let ρ = c.args.room in
    let has = c.has_room-fits.ensures in
    let room : (v : ℕ) → Sized v q (q.published - 1) → fits ρ v q ≡ true = λ v S. sym (has ρ v refl S) ∙ c.if-fits.true in record { by_index = λ v S. record { claims = simp (room v S); place = refl; stores = simp (room v S); answer = simp (room v S) }; by_index_2 = λ v n S f r. claims_are ρ v q n f (room v S) r c.twice_as_long-more.ensures; result_value = refl }

pub returns-else-fits : goal.returns-else-fits
unfolding claims_by stores_by answer_by fails_by PlacedIn Doable when◌then◌else◌
returns-else-fits c = record { by_index = λ v S. let none = sym (c.has_room-fits.ensures c.args.room v refl S) ∙ c.if-fits.false in record { claims = simp none; place = tt; stores = simp none; answer = simp (none, c.task_for-task.ensures) }; by_index_2 = λ v n S f r. refl; result_value = refl }
