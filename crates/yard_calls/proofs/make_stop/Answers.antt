use Rattle.std.proofs.Common.{rules, ◌≡◌, Ok, Err}
use Rattle.std.proofs.lemmas.Bool.{not_from_true}
use mathlib.Core.Path.{sym, ap, ◌∙◌}
use Prim.Native.Nat.{◌<◌, ◌≤◌}
use native.Mathlib.Omega.{arith}
use borrow.Author.Tests.{lt-ltb, le-leb, lt-leb}
use Rattle.model.specs.declared.Room.{Room}
use Rattle.model.specs.Calls.{first_length}
use Rattle.model.proofs.Tests.{passed, if_true, if_false}
use Rattle.opening.proofs.Admits.{outcome_of, admitted_in}
use Rattle.yard_calls.proofs.Making.{last}
use Rattle.yard_calls.proofs.make_stop.Goals as goal

pub returns-in_err-admission_stop : goal.returns-in_err-admission_stop
returns-in_err-admission_stop c = let stops : c.admission_stop.result ≡ Err c.in_err-admission_stop.field-0.0 = search rules in
    let gives : c.from_residual.result ≡ Err c.in_err-admission_stop.field-0.0 = search rules in
    let a = c.args in
    gives ∙ sym
    (if_true _ (passed c.sound.ensures (not_from_true _ c.if-not-sound.false)) ∙ if_true _ (lt-ltb _ _ c.if-yard-ge4.false)
    ∙ outcome_of (λ w. Err w) (last a.setup a.quota) a.setup (Err _) c.admission_stop.ensures (ap (λ (r : Room). r.left) c.room_left-room.ensures) stops)

pub first_length-requires : goal.first_length-requires
first_length-requires c = let goes : c.admission_stop.result ≡ Ok tt = search rules in let A = admitted_in c.args.setup _ (sym c.admission_stop.ensures ∙ goes) in
    (A.size, A.words)

pub returns-then-quota-first_length : goal.returns-then-quota-first_length
returns-then-quota-first_length c = let goes : c.admission_stop.result ≡ Ok tt = search rules in let a = c.args in
    let h : a.quota < first_length a.setup = omega (arith, c.if-quota-first_length.true, c.first_length.ensures) in
    sym
    (if_true _ (passed c.sound.ensures (not_from_true _ c.if-not-sound.false)) ∙ if_true _ (lt-ltb _ _ c.if-yard-ge4.false)
    ∙ outcome_of (λ w. Err w) (last a.setup a.quota) a.setup (Ok tt) c.admission_stop.ensures (ap (λ (r : Room). r.left) c.room_left-room.ensures) goes
    ∙ if_false _ (lt-leb _ _ h))

pub returns : goal.returns
returns c = let goes : c.admission_stop.result ≡ Ok tt = search rules in let a = c.args in
    let h : first_length a.setup ≤ a.quota = omega (arith, c.if-quota-first_length.false, c.first_length.ensures) in
    sym
    (if_true _ (passed c.sound.ensures (not_from_true _ c.if-not-sound.false)) ∙ if_true _ (lt-ltb _ _ c.if-yard-ge4.false)
    ∙ outcome_of (λ w. Err w) (last a.setup a.quota) a.setup (Ok tt) c.admission_stop.ensures (ap (λ (r : Room). r.left) c.room_left-room.ensures) goes
    ∙ if_true _ (le-leb _ _ h))
