use mathlib.Core.Path.{sym, ap, ◌∙◌}
use Rattle.model.specs.Listing.{bad}
use Rattle.replies.specs.Sessions.{world_of}
use Rattle.replies.proofs.Replies.{program_live, played_as, put_right, put_wrong}
use Rattle.replies.proofs.put.Goals as goal

pub returns-then-words-bench : goal.returns-then-words-bench
returns-then-words-bench c = let a = c.args in
    played_as (put_right (world_of a.session a.store.now a.log.now) a.words a.payload c.if-words-bench.true) c.begin.ensures

pub returns : goal.returns
returns c = let a = c.args in
    played_as (put_wrong (world_of a.session a.store.now a.log.now) a.words a.payload c.if-words-bench.false ∙ ap bad (sym (program_live a.session a.store.now a.log.now c.requires.1)))
    (c.refuse.ensures a.store.now a.log.now)
