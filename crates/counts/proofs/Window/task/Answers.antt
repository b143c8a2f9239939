use mathlib.Core.Path.{◌≡◌, ap, subst, ◌∙◌}
use Prim.Native.Nat.{ℕ, ◌+◌, ◌/◌}
use native.Mathlib.Omega.{arith}
use lib.ListN.{get_or}
use Rattle.model.specs.Tasks.{gathered}
use Rattle.model.specs.Figures.{slot}
use Rattle.handouts.specs.Starts.{Starts}
use Rattle.counts.proofs.Places.{task_is}
use Rattle.counts.proofs.Window.task.Goals as goal

pub returns : goal.returns
returns c =
    let W = c.args.self.now in let b = W.bench.now in let m = W.store.now in let s = c.slot_of-slot.result in let r = c.start_of-start.result in let x = c.index.result in
    let S = subst (λ (n : ℕ). Starts (n + 1) s r) c.from-each.ensures c.start_of-start.ensures in
    let f : s ≡ slot b.kind (W.array.length / (b.words + 1)) x =
    c.slot_of-slot.ensures.is ∙ ap (λ (n : ℕ). slot b.kind (n / (c.from-each.result + 1)) x) c.from.ensures ∙ ap (λ (n : ℕ). slot b.kind (W.array.length / (n + 1)) x) c.from-each.ensures
    in
    c.task_from.ensures ∙ ap (λ (o : ℕ). gathered (b.words + 1) (λ k. get_or m (o + r + k) 0)) c.from-2.ensures
    ∙ task_is b.kind b.words b.queue.anchor W.array m c.args.i x s r c.index.ensures f (omega arith) S
