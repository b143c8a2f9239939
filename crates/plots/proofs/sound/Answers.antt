use Rattle.std.proofs.lemmas.Bool.{not_from_true, not_from_false}
use mathlib.Core.Bool.{Bool}
use mathlib.Core.Path.{sym, ap, ◌∙◌}
use borrow.Author.Tests.{le-leb, lt-leb}
use Rattle.model.specs.Tests.{◌and◌}
use Rattle.model.specs.Yard.{all_below}
use Rattle.model.proofs.Tests.{passed, refused, holds, fails, and_both, and_false}
use Rattle.plots.specs.Places.{keeps_at}
use Rattle.plots.proofs.Rooms.{place_parts, unplaced}
use Rattle.plots.proofs.sound.Goals.{then-yard-gt4-via-then-yard-gt4, then-yard-gt4-via-else-yard-gt4+then-not-all_keep}
use Rattle.plots.proofs.sound.Goals as goal

pub returns-then-yard-gt4 : goal.returns-then-yard-gt4
returns-then-yard-gt4 c = let Y = c.args.yard in
    elim c.then-yard-gt4.branch [
      | then-yard-gt4-via-then-yard-gt4 w ↦ sym (fails _ (lt-leb _ _ w.if-yard-gt4.true))
      | then-yard-gt4-via-else-yard-gt4+then-not-all_keep w ↦
          sym (unplaced _ _ (place_parts Y Y.made ∙ fails _ (refused w.all_keep.ensures (not_from_false _ w.if-not-all_keep.true))))
    ]

pub returns-then-all_lie : goal.returns-then-all_lie
returns-then-all_lie c = let Y = c.args.yard in
    let placed = place_parts Y Y.made ∙ and_both _ _ (passed c.all_keep.ensures (not_from_true _ c.if-not-all_keep.false)) (sym c.all_lie.ensures ∙ c.if-all_lie.true) in
    rw (c.claimed_words-claimed.ensures.value, c.aside_words.ensures.value, c.from.ensures, c.usable.ensures) (sym (holds (le-leb _ _ c.if-yard-gt4.false) ∙ holds placed))

pub returns-else-all_lie : goal.returns-else-all_lie
returns-else-all_lie c = let Y = c.args.yard in
    c.if-all_lie.false
    ∙ sym
    (unplaced _ _
    (place_parts Y Y.made
    ∙ ap (λ (x : Bool). all_below (keeps_at Y) Y.made and x) (sym c.all_lie.ensures ∙ c.if-all_lie.false) ∙ and_false _))
