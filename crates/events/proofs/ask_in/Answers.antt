use mathlib.Core.Bool.{not}
use mathlib.Core.List.{[]}
use mathlib.Core.Path.{refl, sym, ap, subst, ◌∙◌}
use Prim.Native.Nat.{ℕ, ◌-◌, ◌*◌}
use native.Mathlib.Omega.{arith}
use borrow.Author.Tests.{eq-eqb, ne_eqb}
use Rattle.model.specs.declared.Queue.{Queue}
use Rattle.model.specs.Memory.{length_at}
use Rattle.model.specs.Stores.{next_length}
use Rattle.model.specs.Lines.{fits}
use Rattle.model.specs.Calls.{lent, set_aside}
use Rattle.model.proofs.Tests.{if_true, if_false, passed, refused}
use Rattle.limits.proofs.Waits.{waits_few, waits_noted}
use Rattle.limits.proofs.Current.{current}
use Rattle.state.proofs.Replies.{same_returned}
use Rattle.events.specs.Idling.{OwnerStops}
use Rattle.events.proofs.ask_in.Goals as goal

pub returns-then-bench-ne0 : goal.returns-then-bench-ne0
returns-then-bench-ne0 c = λ m l.
    let a = c.args in
    let goes = (subst (OwnerStops (lent a.bench m l) a.worker) c.in_default.is (c.owner_stop-stop.ensures m l)).1 in
    same_returned c.refused-then-bench-ne0.ensures refl refl ∙ sym (goes _ ∙ if_false _ (ne_eqb a.bench.aside 0 c.if-bench-ne0.true))

pub seen-queue-requires : goal.seen-queue-requires
seen-queue-requires c = let W = lent c.args.bench c.requires.0 [] in record { count_bound = waits_few W c.requires.1; waiting_value = waits_noted W c.requires.1 }

pub has_room-requires : goal.has_room-requires
has_room-requires c = let a = c.args in
    let v = a.bench.words in
    let W = lent a.bench c.requires.0 [] in
    let C = current W c.requires.1 (subst (OwnerStops W a.worker) c.in_default.is (c.owner_stop-stop.ensures c.requires.0 [])).0 (c.seen-queue.ensures v c.requires.0) in record { published_nonzero = (C.some, C.few); published_bound = C.low; small = C.small _ (omega (arith, C.some, C.claimed)); claimed_value = C.claimed }

pub returns-then-not-has_room : goal.returns-then-not-has_room
returns-then-not-has_room c = λ m l.
    let a = c.args in
    let v = a.bench.words in
    let W = lent a.bench c.requires.0 [] in
    let C = current W c.requires.1 (subst (OwnerStops W a.worker) c.in_default.is (c.owner_stop-stop.ensures c.requires.0 [])).0 (c.seen-queue.ensures v c.requires.0) in
    let goes = (subst (OwnerStops (lent a.bench m l) a.worker) c.in_default.is (c.owner_stop-stop.ensures m l)).1 in
    let room = c.has_room.ensures a.room v refl C.sized ∙ ap (λ (q : Queue). fits a.room v q) (c.seen-queue.ensures v m) in
    same_returned c.refused-then-not-has_room.ensures refl refl
    ∙ sym (goes _ ∙ if_true _ (eq-eqb a.bench.aside 0 c.if-bench-ne0.false) ∙ if_false _ (refused room (ap not c.if-not-has_room.true)))

pub overflow_sub-here : goal.overflow_sub-here
overflow_sub-here c = let a = c.args in
    let v = a.bench.words in
    let W = lent a.bench c.requires.0 [] in
    let C = current W c.requires.1 (subst (OwnerStops W a.worker) c.in_default.is (c.owner_stop-stop.ensures c.requires.0 [])).0 (c.seen-queue.ensures v c.requires.0) in
    omega (arith, C.some)

pub twice_as_long-more-requires : goal.twice_as_long-more-requires
twice_as_long-more-requires c = let a = c.args in
    let v = a.bench.words in
    let W = lent a.bench c.requires.0 [] in
    let C = current W c.requires.1 (subst (OwnerStops W a.worker) c.in_default.is (c.owner_stop-stop.ensures c.requires.0 [])).0 (c.seen-queue.ensures v c.requires.0) in record { at_bound = omega (arith, C.some, C.few); small = C.small _ (omega (arith, C.some, C.claimed)) }

pub returns : goal.returns
returns c = λ m l.
    let a = c.args in
    let v = a.bench.words in
    let W = lent a.bench c.requires.0 [] in
    let C = current W c.requires.1 (subst (OwnerStops W a.worker) c.in_default.is (c.owner_stop-stop.ensures c.requires.0 [])).0 (c.seen-queue.ensures v c.requires.0) in
    let goes = (subst (OwnerStops (lent a.bench m l) a.worker) c.in_default.is (c.owner_stop-stop.ensures m l)).1 in
    let seen = c.seen-queue.ensures v m in
    let room = c.has_room.ensures a.room v refl C.sized ∙ ap (λ (q : Queue). fits a.room v q) seen in
    let q = c.seen-queue.result in
    let more =
    c.twice_as_long-more.ensures ∙ ap (λ (n : ℕ). 2 * length_at q.arrays (n - 1)) (sym C.claimed) ∙ ap next_length seen in
    c.set_aside.ensures m l
    ∙ ap (set_aside (lent a.bench m l)) more
    ∙ sym
    (goes _ ∙ if_true _ (eq-eqb a.bench.aside 0 c.if-bench-ne0.false)
    ∙ if_true _ (passed room (ap not c.if-not-has_room.false)))
