use mathlib.Core.Path.{ap}
use Rattle.model.specs.declared.Room.{Room}
use Rattle.model.specs.Calls.{lent, ask_in, ask_of}
use Rattle.model.proofs.Alone.{within_alone}
use Rattle.limits.proofs.Alone.{room_alone_lem}
use mathlib.Core.Path.{refl, sym, ◌∙◌}
use Rattle.model.proofs.Tests.{if_true, if_false}
use Rattle.state.proofs.Replies.{same_returned}
use Rattle.events.proofs.ask.Goals as goal

pub returns-then-not-valid : goal.returns-then-not-valid
unfolding ask_of
returns-then-not-valid c = same_returned c.refused.ensures refl refl ∙ sym (if_false _ (sym c.valid.ensures ∙ c.if-not-valid.true))

pub room_alone-room-requires : goal.room_alone-room-requires
room_alone-room-requires c = let a = c.args in let it = room_alone_lem (lent a.bench a.store.now a.log.now) (sym c.valid.ensures ∙ c.if-not-valid.false) in record { claimed_nonzero = it.0; queue_value = it.1.0; queue_bound = it.1.1 }

pub ask_in-requires : goal.ask_in-requires
ask_in-requires c = let a = c.args in
    let W = lent a.bench a.store.now a.log.now in
    (a.store.now, (within_alone W (sym c.valid.ensures ∙ c.if-not-valid.false)).limits)

pub returns : goal.returns
unfolding ask_of
returns c = let a = c.args in
    let W = lent a.bench a.store.now a.log.now in
    c.ask_in.ensures a.store.now a.log.now
    ∙ ap (λ (ρ : Room). ask_in ρ W a.worker) c.room_alone-room.ensures
    ∙ sym (if_true _ (sym c.valid.ensures ∙ c.if-not-valid.false))
