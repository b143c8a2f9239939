use mathlib.Core.Path.{sym, ap, ◌∙◌}
use Rattle.model.specs.Listing.{bad, respond}
use Rattle.replies.proofs.Replies.{program_live, played_as}
use Rattle.replies.proofs.Refusals.{plays_bad}
use Rattle.replies.proofs.play_live.Goals as goal

pub returns-in-BeginPut : goal.returns-in-BeginPut
unfolding respond
returns-in-BeginPut c = rw c.in-BeginPut.is c.put.ensures

pub returns-in-BeginTake : goal.returns-in-BeginTake
unfolding respond
returns-in-BeginTake c = rw c.in-BeginTake.is c.begin.ensures

pub returns-in-BeginSteal : goal.returns-in-BeginSteal
unfolding respond
returns-in-BeginSteal c = rw c.in-BeginSteal.is c.begin-in-BeginSteal.ensures

pub returns-in-Who : goal.returns-in-Who
unfolding respond
returns-in-Who c = rw c.in-Who.is c.who.ensures

pub returns-in-End : goal.returns-in-End
unfolding respond
returns-in-End c = rw c.in-End.is c.total.ensures

pub returns-in_default : goal.returns-in_default
returns-in_default c = let a = c.args in let d = c.in_default in
    played_as (plays_bad _ a.command c.requires.command_value d.not-BeginPut d.not-BeginTake d.not-BeginSteal d.not-Who d.not-End ∙ ap bad (sym (program_live a.session a.store.now a.log.now c.requires.at_in_bounds.1)))
    (c.refuse.ensures a.store.now a.log.now)
