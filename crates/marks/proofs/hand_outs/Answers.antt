use Rattle.std.proofs.Common.{length, true}
use Rattle.judgement.specs.Judgement.{words_of}
use Rattle.marks.proofs.hand_outs.Goals as goal
use Rattle.marks.proofs.hand_outs.Goals.{then-is_kind+in_ok-k+then-not-seen-k, then-is_kind+in_ok-k+else-not-seen-k, else-is_kind}
use native.Mathlib.Omega.{arith}
use mathlib.Core.Path.{refl, sym, ◌∙◌}
use lib.ListN.{length-set}
use Rattle.model.specs.Counts.{is_kind, out_first}
use Rattle.model.proofs.Below.{count_le}
use Rattle.marks.proofs.Marking.{told_start, told_skip, told_again, told_first, not_justified}

pub loop-j-init : goal.loop-j-init
loop-j-init c = let p = c.args.puts.now in (refl, told_start p.log.words (words_of p.log.bytes.now) _ _ _ c.requires.by_index)

pub returns-in_err-k : goal.returns-in_err-k
returns-in_err-k c =
    let p = c.args.puts.now in let v = p.log.words in let l = words_of p.log.bytes.now in
    rw c.from_residual.ensures (not_justified v l p.log.entries p.places.now (length p.places.now) p.gathered p.rising c.loop-j.j c.loop-j-test.true (sym c.is_kind.ensures ∙ c.if-is_kind.true) c.in_err-k.ensures)

pub overflow_add-handouts : goal.overflow_add-handouts
overflow_add-handouts c =
    let p = c.args.puts.now in let e = c.loop-j.invariant.1.outs_are in let f = p.log.few in let t = c.loop-j-test.true in
    let m = count_le (is_kind p.log.words (words_of p.log.bytes.now) 2) c.loop-j.j in omega (arith, e, m, f, t)

pub overflow_add-different : goal.overflow_add-different
overflow_add-different c =
    let p = c.args.puts.now in let e = c.loop-j.invariant.1.firsts_are in let f = p.log.few in let t = c.loop-j-test.true in
    let m = count_le (out_first p.log.words (words_of p.log.bytes.now)) c.loop-j.j in omega (arith, e, m, f, t)

pub loop-j-preserved : goal.loop-j-preserved
loop-j-preserved c =
    let p = c.args.puts.now in let v = p.log.words in let l = words_of p.log.bytes.now in let n = length p.places.now in
    let I = c.loop-j.invariant in
    elim c.if-is_kind.branch [
      | then-is_kind+in_ok-k+then-not-seen-k w ↦
          (let b = w.in_ok-k.ensures.0 in let q = I.0 in let z = c.requires.room in
          rw (w.seen-is, w.handouts-is, w.different-is)
          (length-set c.loop-j.seen w.in_ok-k.k true ∙ q, told_first v l p.log.entries p.places.now n p.gathered p.rising _ _ _ _ I.1 w.in_ok-k.k c.loop-j-test.true (sym c.is_kind.ensures ∙ w.if-is_kind.true) w.in_ok-k.ensures.1 b w.if-not-seen-k.true (omega (arith, b, q, z))))
      | then-is_kind+in_ok-k+else-not-seen-k w ↦
          rw (w.seen-is, w.handouts-is, w.different-is)
          (I.0, told_again v l p.log.entries p.places.now n p.gathered p.rising _ _ _ _ I.1 w.in_ok-k.k c.loop-j-test.true (sym c.is_kind.ensures ∙ w.if-is_kind.true) w.in_ok-k.ensures.1 w.in_ok-k.ensures.0 w.if-not-seen-k.false)
      | else-is_kind w ↦ rw (w.seen-is, w.handouts-is, w.different-is) (I.0, told_skip v l p.log.entries p.places.now n p.gathered p.rising _ _ _ _ I.1 (sym c.is_kind.ensures ∙ w.if-is_kind.false))
    ]
