use mathlib.Core.Path.{◌≡◌, ap}
use native.Mathlib.Omega.{arith}
use Rattle.model.specs.declared.Room.{Room}
use Rattle.model.specs.Yard.{claimed_words}
use Rattle.yard_calls.proofs.Making.{free, not_made, one_made}
use Rattle.yard_calls.proofs.make.Goals as goal

pub returns-in-Err : goal.returns-in-Err
returns-in-Err c = let a = c.args in
    λ ls l. not_made a.yard a.setup a.quota a.store.now ls l c.make_stop-stop.ensures c.in-Err.is c.refused.ensures

pub first_length-long-requires : goal.first_length-long-requires
first_length-long-requires c = let F = free c.args.yard c.args.setup c.args.quota c.args.store.now c.make_stop-stop.ensures c.in_default.is in (F.size, F.words)

pub zero-requires : goal.zero-requires
zero-requires c = let next : c.room_left-room.result.next ≡ claimed_words c.args.yard = ap (λ (r : Room). r.next) c.room_left-room.ensures in
    omega (arith, next, c.first_length-long.ensures, (free c.args.yard c.args.setup c.args.quota c.args.store.now c.make_stop-stop.ensures c.in_default.is).inside)

pub new_bench-requires : goal.new_bench-requires
new_bench-requires c = let F = free c.args.yard c.args.setup c.args.quota c.args.store.now c.make_stop-stop.ensures c.in_default.is in (F.size, F.words)

pub returns : goal.returns
returns c = let a = c.args in
    λ ls l.
    one_made a.yard a.setup a.quota a.store.now ls l c.make_stop-stop.ensures c.in_default.is
    (ap (λ (r : Room). r.next) c.room_left-room.ensures) c.first_length-long.ensures c.zero.ensures c.new_bench.ensures c.add.ensures
