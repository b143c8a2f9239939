use mathlib.Core.Path.{sym}
use lib.Seq.{take_all}
use borrow.Author.Rules.{rules}
use Rattle.model.specs.Calls.{front_of}
use Rattle.memory.proofs.front.Goals as goal

pub returns-then-written-all : goal.returns-then-written-all
unfolding front_of
returns-then-written-all c = search rules

pub returns-else-written-all : goal.returns-else-written-all
unfolding front_of
returns-else-written-all c = sym (take_all _ _ c.if-written-all.false)
