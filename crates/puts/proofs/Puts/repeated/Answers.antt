use Rattle.std.proofs.Common.{ℕ, length}
use Rattle.judgement.specs.Judgement.{words_of}
use Rattle.model.specs.Tasks.{same_task}
use Rattle.model.specs.Counts.{entry_at}
use Rattle.puts.specs.Puts.{FoundBy}
use Rattle.puts.proofs.Puts.repeated.Goals as goal
use Rattle.puts.proofs.Puts.repeated.Goals.{then-early-via-then-early, then-early-via-else-early+then-not-same_task}
use native.Mathlib.Omega.{arith}
use mathlib.Core.Path.{sym, ap, subst, ◌∙◌}
use Rattle.puts.proofs.Repeating.{no_such_number, not_before, other_task, this_put}

pub returns-in_err-k : goal.returns-in_err-k
returns-in_err-k c =
    let p = c.args.self.now in let v = p.log.words in let l = words_of p.log.bytes.now in let n = length p.places.now in
    rw c.from_residual.ensures (no_such_number v l p.log.entries p.places.now n p.gathered p.rising c.args.j c.requires (subst (λ (x : ℕ). FoundBy v l p.places.now n x n) c.number_at.ensures c.in_err-k.ensures))

pub returns-then-early : goal.returns-then-early
returns-then-early c =
    let p = c.args.self.now in let v = p.log.words in let l = words_of p.log.bytes.now in let n = length p.places.now in let k = c.in_ok-k.k in
    let F = subst (λ (x : ℕ). FoundBy v l p.places.now n x k) c.number_at.ensures c.in_ok-k.ensures.1 in
    let b = c.in_ok-k.ensures.0 in let e = c.entry-put.ensures.0 in
    elim c.then-early.branch [
      | then-early-via-then-early w ↦ not_before v l p.log.entries p.places.now n p.gathered p.rising c.args.j c.requires k b (F.found b) (let t = w.if-early.true in omega (arith, t, e))
      | then-early-via-else-early+then-not-same_task w ↦ other_task v l p.log.entries p.places.now n p.gathered p.rising c.args.j c.requires k b (F.found b) (ap (λ (x : ℕ). same_task (entry_at v l x).task (entry_at v l c.args.j).task) (sym e) ∙ sym w.same_task.ensures ∙ w.if-not-same_task.true)
    ]

pub returns : goal.returns
returns c =
    let p = c.args.self.now in let v = p.log.words in let l = words_of p.log.bytes.now in let n = length p.places.now in let k = c.in_ok-k.k in
    let F = subst (λ (x : ℕ). FoundBy v l p.places.now n x k) c.number_at.ensures c.in_ok-k.ensures.1 in
    let b = c.in_ok-k.ensures.0 in let e = c.entry-put.ensures.0 in
    (b, this_put v l p.log.entries p.places.now n p.gathered p.rising c.args.j c.requires k b (F.found b) (let t = c.if-early.false in omega (arith, t, e)) (ap (λ (x : ℕ). same_task (entry_at v l x).task (entry_at v l c.args.j).task) (sym e) ∙ sym c.same_task.ensures ∙ c.if-not-same_task.false))
