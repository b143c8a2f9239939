use Rattle.replies.proofs.Replies.{who_by}
use Rattle.replies.proofs.who.Goals as goal

pub returns : goal.returns
returns c = let a = c.args in
    who_by a.session a.worker _ a.store.now a.log.now c.tally-tally.result _ _ _ _ c.requires.1 c.span-n.ensures c.tally-tally.ensures c.show_tally-end.ensures
