use mathlib.Core.Bool.{true}
use mathlib.Core.Path.{◌≡◌}
use Rattle.model.specs.Stores.{in_line}
use Rattle.waiting.specs.Places.{notes_ok, first_in}
use Rattle.waiting.proofs.notes_ok.Given as goal

abbrev pub invariant-loop-landing : goal.invariant-loop-landing
invariant-loop-landing l = notes_ok (first_in (in_line l.fn.waiting) l.landing-index) ≡ true
