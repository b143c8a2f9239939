use Rattle.std.proofs.Common.{ℕ, length, true}
use Rattle.judgement.specs.Judgement.{words_of}
use Rattle.marks.proofs.mark_listed.Goals as goal
use Rattle.marks.proofs.mark_listed.Goals.{in-Some, in_default}
use native.Mathlib.Omega.{arith}
use mathlib.Core.Path.{subst, ◌∙◌}
use lib.ListN.{length-set}
use Rattle.puts.specs.Puts.{FoundBy}
use Rattle.puts.proofs.Repeating.{one_place}
use Rattle.marks.proofs.Listed.{lists_none, lists_one}

pub loop-i-preserved : goal.loop-i-preserved
loop-i-preserved c =
    let p = c.args.puts.now in let v = p.log.words in let l = words_of p.log.bytes.now in let n = length p.places.now in let s = words_of c.args.list.now in
    let I = c.loop-i.invariant in
    elim c.match-look_up.branch [
      | in-Some w ↦
          (let k = w.in-Some.k in let b = w.in-Some.ensures.0 in let q = I.0 in let z = c.requires.room in
          let F = subst (λ (x : ℕ). FoundBy v l p.places.now n x k) c.word.ensures w.in-Some.ensures.1 in
          rw w.seen-is
          (length-set c.loop-i.seen k true ∙ q, lists_one v l p.log.entries s c.loop-i.i p.places.now n c.loop-i.seen I.1 p.rising k b (F.found b) (omega (arith, b, q, z)) (λ x h e. one_place v l p.log.entries p.places.now n p.gathered p.rising x k h b e)))
      | in_default w ↦ rw w.seen-is (I.0, lists_none v l p.log.entries s c.loop-i.i p.places.now n c.loop-i.seen I.1 (subst (λ (x : ℕ). FoundBy v l p.places.now n x n) c.word.ensures w.in_default.ensures))
    ]
