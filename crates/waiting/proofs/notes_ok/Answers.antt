use mathlib.Core.Path.{refl, sym, ◌∙◌}
use native.Mathlib.Numerals.{add-one}
use Rattle.model.specs.Stores.{in_line}
use Rattle.waiting.specs.Places.{notes_ok}
use Rattle.waiting.proofs.Line.{note_fails, notes_next}
use Rattle.waiting.proofs.notes_ok.Goals as goal

pub loop-landing-init : goal.loop-landing-init
unfolding notes_ok
loop-landing-init c = refl

pub returns-then-not-note_ok : goal.returns-then-not-note_ok
returns-then-not-note_ok c = sym (note_fails (in_line c.args.waiting) c.loop-landing.landing-index c.loop-landing-test.true (sym c.note_ok.ensures ∙ c.if-not-note_ok.true))

pub loop-landing-preserved : goal.loop-landing-preserved
loop-landing-preserved c = rw add-one (notes_next (in_line c.args.waiting) c.loop-landing.landing-index c.loop-landing-test.true c.loop-landing.invariant (sym c.note_ok.ensures ∙ c.if-not-note_ok.false))
