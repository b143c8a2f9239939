-- What is decided of a call that an idle owner may make past refusal 12, before it is made.
use Rattle.std.specs.Prelude.{true, List, [], ◌≡◌, ℕ, Result, Ok, Err, ⊤}
use Rattle.model.specs.declared.Refusal.{Refusal}
use Rattle.model.specs.declared.Bench.{Bench}
use Rattle.model.specs.World.{World, Outcome, refuse, owners_view, line_at, is_idle}
use Rattle.model.specs.Limits.{bench_ok}
use Rattle.model.specs.Calls.{lent, of_idle_owner}

-- the limits on one queue hold; what the owner reads of it does not depend on the store's words, so one store says it for all
abbrev pub Limited : Bench → Type 0
Limited b = (m : List ℕ) × (bench_ok b b.queue (owners_view (lent b m [])).queue ≡ true)

-- the call comes out as it is to, with an idle owner; or it is refused, and changes nothing
abbrev pub OwnerStops : World → ℕ → Result ⊤ Refusal → Type 0
OwnerStops W i (Ok tt) = (is_idle (line_at W.bench.workers 0) ≡ true) × ((O : Outcome) → of_idle_owner W i O ≡ O)
OwnerStops W i (Err r) = (O : Outcome) → of_idle_owner W i O ≡ refuse W r
