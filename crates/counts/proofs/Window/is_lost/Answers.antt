use mathlib.Core.List.{[]}
use mathlib.Core.Bool.{not}
use mathlib.Core.Path.{◌≡◌, ap, ◌∙◌}
use Prim.Native.Nat.{ℕ}
use Rattle.model.specs.Calls.{lent}
use Rattle.model.specs.Window.{window_size}
use Rattle.model.specs.declared.Task.{Task}
use Rattle.model.specs.Counts.{entry_at, is_kind, some_below, out_whole, stands_at}
use Rattle.handouts.proofs.Bools.{true_and, false_and, true_or, false_or}
use Rattle.counts.proofs.Window.is_lost.Goals as goal

pub returns-then-not-is_kind : goal.returns-then-not-is_kind
returns-then-not-is_kind c =
    let l = c.args.outs.now.log.memory.now in
    false_and _ (c.is_kind.ensures ∙ ap (λ (v : ℕ). is_kind v l 1 c.args.entry) c.requires) c.if-not-is_kind.true

pub returns-then-not-has : goal.returns-then-not-has
returns-then-not-has c =
    let b = c.args.self.now.bench.now in let m = c.args.self.now.store.now in let o = c.args.outs.now in let l = o.log.memory.now in let e = c.args.entry in
    let T : c.task_at-task.result ≡ (entry_at b.words l e).task = c.task_at-task.ensures ∙ ap (λ (v : ℕ). (entry_at v l e).task) c.requires in
    false_or (c.has.ensures ∙ ap (λ (v : ℕ). some_below (out_whole v l c.task_at-task.result) o.entries) c.requires ∙ ap (λ (t : Task). some_below (out_whole b.words l t) o.entries) T) c.if-not-has.true
    (c.holds.ensures ∙ ap (λ (t : Task). some_below (stands_at (lent b m []) t) (window_size (lent b m []))) T)
    ∙ true_and (c.is_kind.ensures ∙ ap (λ (v : ℕ). is_kind v l 1 e) c.requires) c.if-not-is_kind.false

pub returns-else-not-has : goal.returns-else-not-has
returns-else-not-has c =
    let b = c.args.self.now.bench.now in let o = c.args.outs.now in let l = o.log.memory.now in let e = c.args.entry in
    let T : c.task_at-task.result ≡ (entry_at b.words l e).task = c.task_at-task.ensures ∙ ap (λ (v : ℕ). (entry_at v l e).task) c.requires in
    ap not c.if-not-has.false
    ∙ true_or _ (c.has.ensures ∙ ap (λ (v : ℕ). some_below (out_whole v l c.task_at-task.result) o.entries) c.requires ∙ ap (λ (t : Task). some_below (out_whole b.words l t) o.entries) T) c.if-not-has.false
    ∙ true_and (c.is_kind.ensures ∙ ap (λ (v : ℕ). is_kind v l 1 e) c.requires) c.if-not-is_kind.false
