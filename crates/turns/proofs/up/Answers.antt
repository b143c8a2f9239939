use Rattle.turns.proofs.up.Goals as goal
use mathlib.Core.Path.{sym, ◌∙◌}
use native.Mathlib.Omega.{arith}
use Rattle.turns.proofs.Busy.{busy_hit, busy_miss, busy_none}

pub returns-then-todo-i-gt0 : goal.returns-then-todo-i-gt0
returns-then-todo-i-gt0 c = sym (c.loop-i.invariant ∙ busy_hit c.args.todo.now c.loop-i.i (omega arith) (omega (arith, c.if-todo-i-gt0.true)))

pub loop-i-preserved : goal.loop-i-preserved
loop-i-preserved c = c.loop-i.invariant ∙ busy_miss c.args.todo.now c.loop-i.i (omega arith) (omega (arith, c.if-todo-i-gt0.false))

pub returns : goal.returns
returns c = sym (c.loop-i.invariant ∙ busy_none c.args.todo.now c.loop-i.i (omega arith))
