use mathlib.Core.Path.{refl, sym, ap, ◌∙◌}
use Rattle.model.specs.declared.Refusal.{Refusal}
use Rattle.model.specs.declared.Bench.{Bench}
use Rattle.model.specs.declared.Answer.TheVariants.{Accepted}
use Rattle.model.specs.Memory.{zeros}
use Rattle.model.specs.World.{refuse}
use Rattle.model.specs.Calls.{lent, no_bench, new_bench, first_length, fresh_of}
use Rattle.state.specs.declared.Returned.{Returned}
use Rattle.state.specs.Outcomes.{returned}
use Rattle.state.proofs.Replies.{same_returned}
use Rattle.opening.proofs.Admits.{outcome_of, admitted_in}
use Rattle.opening.proofs.fresh.Goals as goal

pub returns-in-Err : goal.returns-in-Err
unfolding fresh_of
returns-in-Err c = λ l.
    let a = c.args in
    let m = a.store.now in
    ap (λ (r : Returned). returned r m l) c.unmade.ensures
    ∙ sym
    (outcome_of (λ (r : Refusal). refuse (lent no_bench m l) r) (record { world = lent (new_bench 0 a.setup) (zeros m 0 (first_length a.setup)) l; answer = Accepted }) a.setup _
    c.admission_stop-stop.ensures c.usable-left.ensures c.in-Err.is)

pub first_length-long-requires : goal.first_length-long-requires
first_length-long-requires c = let A = admitted_in c.args.setup c.usable-left.result (sym c.admission_stop-stop.ensures ∙ c.in_default.is) in (A.size, A.words)

pub new_bench-requires : goal.new_bench-requires
new_bench-requires c = let A = admitted_in c.args.setup c.usable-left.result (sym c.admission_stop-stop.ensures ∙ c.in_default.is) in (A.size, A.words)

pub returns : goal.returns
unfolding fresh_of
returns c = λ l.
    let a = c.args in
    let m = a.store.now in
    same_returned (ap (λ (b : Bench). record { bench = b; answer = Accepted }) c.new_bench.ensures)
    (c.zero.ensures ∙ ap (zeros m 0) c.first_length-long.ensures) refl
    ∙ sym
    (outcome_of (λ (r : Refusal). refuse (lent no_bench m l) r) (record { world = lent (new_bench 0 a.setup) (zeros m 0 (first_length a.setup)) l; answer = Accepted }) a.setup _
    c.admission_stop-stop.ensures c.usable-left.ensures c.in_default.is)
