use Rattle.replies.proofs.Replies.{program_live, program_waits}
use Rattle.replies.proofs.play.Goals as goal

pub returns-then-session : goal.returns-then-session
returns-then-session c = let a = c.args in rw (program_live a.session a.store.now a.log.now c.if-session.true) c.play_live.ensures

pub returns : goal.returns
returns c = let a = c.args in rw (program_waits a.session a.store.now a.log.now c.if-session.false) (c.play_waiting.ensures a.log.now)
