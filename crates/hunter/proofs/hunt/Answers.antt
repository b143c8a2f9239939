use mathlib.Core.Path.{refl}
use Rattle.hunter.proofs.Starting.{front_own}
use Rattle.hunter.proofs.hunt.Goals as goal

pub hunt_on-requires : goal.hunt_on-requires
hunt_on-requires c = record { store_value = front_own c.own_length-n.result c.args.long 10235 c.own_length-n.ensures.0 c.own_length-n.ensures.1; log_value = refl }
