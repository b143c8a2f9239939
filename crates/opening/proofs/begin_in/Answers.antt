use mathlib.Core.Path.{sym, subst, ◌∙◌}
use native.Mathlib.Omega.{arith}
use mathlib.Core.List.{[]}
use Rattle.model.specs.Calls.{lent}
use Rattle.opening.specs.Begins.{BeginStops}
use Rattle.opening.proofs.begin_in.Goals as goal

pub accept-requires : goal.accept-requires
accept-requires c = let a = c.args in
    let s = subst (BeginStops (lent a.bench [] []) a.worker a.operation) c.in_default.is (c.begin_stop-stop.ensures [] []) in
    record { worker_bound = omega (arith, s.0, c.requires.crew_bound); used_bound = c.requires.used_bound; words_nonzero = c.requires.words_nonzero }

pub returns : goal.returns
returns c = λ m l.
    let a = c.args in
    c.accept.ensures m l
    ∙ sym (subst (BeginStops (lent a.bench m l) a.worker a.operation) c.in_default.is (c.begin_stop-stop.ensures m l)).1
