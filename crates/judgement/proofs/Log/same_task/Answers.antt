use Rattle.judgement.specs.Judgement.{words_of}
use Rattle.judgement.proofs.Log.same_task.Goals as goal
use mathlib.Core.Path.{sym, ap, subst, ◌∙◌}
use Prim.Native.Nat.{ℕ}
use lib.ListN.{get_or}
use native.Mathlib.Omega.{arith}
use Rattle.judgement.proofs.Entries.{Alike, alike, unlike}

pub returns-then-word_of : goal.returns-then-word_of
returns-then-word_of c =
    let s = c.args.self.now in let l = words_of s.bytes.now in
    sym (unlike s.words l c.args.entry c.args.other c.loop-k.k (omega arith) s.narrow (λ e. c.if-word_of.true (c.word_of.ensures ∙ ap (λ n. get_or l n 0) (omega arith) ∙ e ∙ ap (λ n. get_or l n 0) (omega arith) ∙ sym c.word_of-in-loop-k.ensures)))

pub returns : goal.returns
returns c =
    let s = c.args.self.now in let l = words_of s.bytes.now in
    sym (alike s.words l c.args.entry c.args.other (subst (λ (n : ℕ). Alike s.words l c.args.entry c.args.other n) (omega arith) c.loop-k.invariant))
