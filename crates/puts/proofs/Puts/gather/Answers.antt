use Rattle.std.proofs.Common.{ℕ}
use Rattle.judgement.specs.Judgement.{words_of}
use Rattle.puts.specs.Puts.{Gathered}
use Rattle.puts.proofs.Puts.gather.Goals as goal
use Rattle.puts.proofs.Puts.gather.Goals.{then-is_kind, else-is_kind}
use mathlib.Core.Path.{sym, subst, ◌∙◌}
use native.Mathlib.Omega.{arith}
use lib.ListN.{length-set}
use Rattle.puts.proofs.Gathering.{gathered_skip, gathered_put, gathered_whole, rising_by}

pub loop-j-preserved : goal.loop-j-preserved
loop-j-preserved c =
    let v = c.args.ordered.log.words in let l = words_of c.args.ordered.log.bytes.now in let i = c.loop-j.invariant in
    elim c.if-is_kind.branch [
      | then-is_kind w ↦
          (let f = i.1.few in let e = i.0 in
          let p = sym c.is_kind.ensures ∙ w.if-is_kind.true in
          rw (w.room-is, w.count-is) (length-set c.loop-j.room c.loop-j.count c.loop-j.j ∙ e, gathered_put v l _ _ _ i.1 p (omega (arith, f, e))))
      | else-is_kind w ↦ rw (w.room-is, w.count-is) (i.0, gathered_skip v l _ _ _ i.1 (sym c.is_kind.ensures ∙ w.if-is_kind.false))
    ]

pub invariant_of-result : goal.invariant_of-result
invariant_of-result c =
    let v = c.args.ordered.log.words in let l = words_of c.args.ordered.log.bytes.now in let i = c.loop-j.invariant in
    let G : Gathered v l c.args.ordered.log.entries c.loop-j.room c.loop-j.count = subst (λ (n : ℕ). Gathered v l n c.loop-j.room c.loop-j.count) (omega arith) i.1 in
    let f = G.few in let e = i.0 in
    let W = gathered_whole v l _ _ _ G (omega (arith, f, e)) in
    record { gathered = W; rising = rising_by v l _ _ _ W c.args.ordered.rising }
