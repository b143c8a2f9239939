use mathlib.Core.Path.{sym, ap, ◌∙◌}
use Rattle.model.specs.Listing.{bad, respond}
use Rattle.replies.proofs.Replies.{program_waits, played_as}
use Rattle.replies.proofs.Refusals.{waits_bad}
use Rattle.replies.proofs.play_waiting.Goals as goal

pub returns-in_default : goal.returns-in_default
returns-in_default c = let a = c.args in λ l.
    played_as (waits_bad a.store.now l a.command c.in_default.not-Open ∙ ap bad (sym (program_waits a.session a.store.now l c.requires.1)))
    (c.refuse.ensures a.store.now l)

pub returns : goal.returns
unfolding respond
returns c = λ l. rw c.in-Open.is (c.open_queue.ensures l)
