use native.Mathlib.Omega.{arith}
use Rattle.model.specs.declared.Answer.TheVariants.{Refused}
use Rattle.text.proofs.Spell.{line_fits}
use mathlib.Core.Path.{refl}
use Rattle.replies.specs.Shown.{shown}
use Rattle.replies.proofs.Shows.{answer_most, shows_one}
use Rattle.replies.proofs.show_tally.Goals as goal

pub print-requires : goal.print-requires
print-requires c = line_fits _ _ _ _ c.requires (omega arith)

pub show-requires : goal.show-requires
show-requires c = omega (arith, answer_most 0 (Refused c.in-Err.why))

pub returns-in-Ok : goal.returns-in-Ok
unfolding shown
returns-in-Ok c = rw c.in-Ok.is (shows_one _ _ _ refl _ _ _ _ (rw (c.from.ensures, c.from-in-Ok.ensures) at c.print.ensures))
