use Rattle.std.proofs.lemmas.Bool.{not_from_true, not_from_false}
use mathlib.Core.Path.{sym, ap, subst, ◌∙◌}
use Prim.Native.Nat.{ℕ}
use lib.Dec.{eqb, ltb}
use borrow.Author.Tests.{eqb-false}
use Rattle.model.specs.Tests.{when◌then◌else◌}
use Rattle.model.specs.World.{stage}
use Rattle.model.proofs.Tests.{holds, fails, passed, refused}
use Rattle.limits.specs.declared.Reach.{Reach}
use Rattle.limits.specs.Parts.{Reached}
use Rattle.limits.proofs.Crew.{outside, inside, reached}
use Rattle.limits.proofs.busy_ok.Goals as goal

pub returns-then-scope-worker : goal.returns-then-scope-worker
returns-then-scope-worker c q p s = let a = c.args in
    let busy = eqb-false (stage a.own.line) 0 c.requires.line_value in
    sym (outside a.scope.kind a.scope.width a.scope.words q p a.scope.crew a.worker a.own.line busy c.requires.crew_nonzero c.if-scope-worker.true)

pub returns-then-not-own_line : goal.returns-then-not-own_line
returns-then-not-own_line c q p s = let a = c.args in
    let busy = eqb-false (stage a.own.line) 0 c.requires.line_value in
    let hand = c.own_line.ensures ∙ ap (λ (x : ℕ). when eqb a.worker 0 then ltb x 4 else ltb 3 x) c.stage-at.ensures in
    sym
    (inside a.scope.kind a.scope.width a.scope.words q p a.scope.crew a.worker a.own.line busy c.if-scope-worker.false
    ∙ fails _ (refused hand (not_from_false _ c.if-not-own_line.true)))

pub returns : goal.returns
returns c q p s = let a = c.args in
    let busy = eqb-false (stage a.own.line) 0 c.requires.line_value in
    let hand = c.own_line.ensures ∙ ap (λ (x : ℕ). when eqb a.worker 0 then ltb x 4 else ltb 3 x) c.stage-at.ensures in
    let own = when eqb a.worker 0 then p else q in
    let R = subst (λ (x : Reach). Reached x a.scope.words a.scope.first own) (sym c.reach_of-reach.ensures) (reached (eqb a.worker 0) a.scope q p s) in
    c.line_ok.ensures own R.0 R.1 R.2
    ∙ sym
    (inside a.scope.kind a.scope.width a.scope.words q p a.scope.crew a.worker a.own.line busy c.if-scope-worker.false
    ∙ holds (passed hand (not_from_true _ c.if-not-own_line.false)))
