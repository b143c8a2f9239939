use Rattle.plots.proofs.Rooms.{kept}
use Rattle.plots.proofs.room_left.Goals as goal

pub claimed_words-next-requires : goal.claimed_words-next-requires
claimed_words-next-requires c = kept c.args.yard c.args.store.now c.requires

pub aside_words-requires : goal.aside_words-requires
aside_words-requires c = kept c.args.yard c.args.store.now c.requires
