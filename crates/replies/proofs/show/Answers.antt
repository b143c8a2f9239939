use Prim.Native.Nat.{ℕ}
use mathlib.Core.Path.{refl, ap, sym, ◌∙◌}
use mathlib.Core.List.{[], ◌∷◌}
use Rattle.text.specs.Numbers.{line_of}
use Rattle.replies.specs.Shown.{shown}
use Rattle.replies.proofs.Shows.{shows_none, shows_room, shows_one}
use Rattle.replies.proofs.show.Goals as goal

pub print-requires : goal.print-requires
unfolding shown
print-requires c = shows_room _ _ _ (ap (λ (n : ℕ). line_of 68 (n ∷ [])) (sym c.from.ensures)) _ _ (rw c.in-Finished.is at c.requires)

pub print_out-requires : goal.print_out-requires
unfolding shown
print_out-requires c = shows_room _ _ _ refl _ _ (rw c.in-HandedOut.is at c.requires)

pub print-requires-in-Empty : goal.print-requires-in-Empty
unfolding shown
print-requires-in-Empty c = shows_room _ _ _ (ap (λ (n : ℕ). line_of 69 (n ∷ [])) (sym c.from-in-Empty.ensures)) _ _ (rw c.in-Empty.is at c.requires)

pub print-requires-in-Full : goal.print-requires-in-Full
unfolding shown
print-requires-in-Full c = shows_room _ _ _ (ap (λ (n : ℕ). line_of 70 (n ∷ [])) (sym c.from-in-Full.ensures)) _ _ (rw c.in-Full.is at c.requires)

pub print-requires-in-Refused : goal.print-requires-in-Refused
unfolding shown
print-requires-in-Refused c = shows_room _ _ _ (ap (λ (n : ℕ). line_of 82 (n ∷ [])) (sym (c.from-in-Refused.ensures ∙ c.number_of.ensures))) _ _ (rw c.in-Refused.is at c.requires)

pub returns-in-Accepted : goal.returns-in-Accepted
returns-in-Accepted c = rw c.in-Accepted.is (shows_none _ _)

pub returns-in-Numbered : goal.returns-in-Numbered
returns-in-Numbered c = rw c.in-Numbered.is (shows_none _ _)

pub returns-in-GoesOn : goal.returns-in-GoesOn
returns-in-GoesOn c = rw c.in-GoesOn.is (shows_none _ _)

pub returns-in-Finished : goal.returns-in-Finished
unfolding shown
returns-in-Finished c = rw c.in-Finished.is (shows_one _ _ _ (ap (λ (n : ℕ). line_of 68 (n ∷ [])) (sym c.from.ensures)) _ _ _ _ c.print.ensures)

pub returns-in-HandedOut : goal.returns-in-HandedOut
unfolding shown
returns-in-HandedOut c = rw c.in-HandedOut.is (shows_one _ _ _ refl _ _ _ _ c.print_out.ensures)

pub returns-in-Empty : goal.returns-in-Empty
unfolding shown
returns-in-Empty c = rw c.in-Empty.is (shows_one _ _ _ (ap (λ (n : ℕ). line_of 69 (n ∷ [])) (sym c.from-in-Empty.ensures)) _ _ _ _ c.print-in-Empty.ensures)

pub returns-in-Full : goal.returns-in-Full
unfolding shown
returns-in-Full c = rw c.in-Full.is (shows_one _ _ _ (ap (λ (n : ℕ). line_of 70 (n ∷ [])) (sym c.from-in-Full.ensures)) _ _ _ _ c.print-in-Full.ensures)

pub returns-in-Grown : goal.returns-in-Grown
returns-in-Grown c = rw c.in-Grown.is (shows_none _ _)

pub returns-in-Refused : goal.returns-in-Refused
unfolding shown
returns-in-Refused c = rw c.in-Refused.is (shows_one _ _ _ (ap (λ (n : ℕ). line_of 82 (n ∷ [])) (sym (c.from-in-Refused.ensures ∙ c.number_of.ensures))) _ _ _ _ c.print-in-Refused.ensures)
