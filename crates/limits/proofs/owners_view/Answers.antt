use Rattle.std.proofs.lemmas.Bool.{not_from_true}
use native.Mathlib.Omega.{arith}
use borrow.Author.Tests.{le-leb}
use Rattle.model.specs.Tests.{when◌then◌else◌}
use Rattle.model.proofs.Tests.{passed, and_both}
use Rattle.limits.proofs.Views.{none_told, told}
use Rattle.limits.proofs.owners_view.Goals as goal

pub returns-then-line-eq0 : goal.returns-then-line-eq0
returns-then-line-eq0 c = let a = c.args.bench in
    let p = none_told a c.if-line-eq0.true in record { held = p.0; seen = p.1 }

pub returns : goal.returns
returns c = let a = c.args.bench in
    let p =
    told a c.seen-queue.result
    (and_both _ _ (le-leb a.waiting.count (when a.delayed then 8 else 0) (omega (arith, c.most_waiting.ensures, c.if-most_waiting-line.false))) (passed c.notes_ok.ensures (not_from_true _ c.if-not-notes_ok.false)))
    (λ m. c.seen-queue.ensures a.words m) in record { held = p.0; seen = p.1 }
