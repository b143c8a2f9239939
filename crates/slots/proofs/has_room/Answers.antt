use mathlib.Core.Path.{sym, ◌∙◌}
use borrow.Author.Tests.{le-leb, lt-leb}
use Rattle.model.specs.Tests.{when◌then◌else◌, ◌and◌}
use Rattle.slots.proofs.has_room.Goals as goal

pub returns-then-size-le1024 : goal.returns-then-size-le1024
unfolding ◌and◌ when◌then◌else◌
returns-then-size-le1024 c ρ v e S = let size = c.size_at-size.ensures ∙ sym S.0 in
    let all = c.requires.claimed_value in
    simp (e, all, c.twice_as_long-more.ensures, le-leb _ _ (rw size at c.if-size-le1024.true))

pub returns-else-size-le1024 : goal.returns-else-size-le1024
unfolding ◌and◌ when◌then◌else◌
returns-else-size-le1024 c ρ v e S = let size = c.size_at-size.ensures ∙ sym S.0 in
    simp (size, lt-leb _ _ (rw size at c.if-size-le1024.false))
