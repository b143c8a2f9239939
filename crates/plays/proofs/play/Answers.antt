use mathlib.Core.Path.{◌≡◌}
use Prim.Native.Nat.{◌*◌}
use lib.ListN.{length}
use Rattle.std.proofs.lemmas.Slice.{put_mid-paste}
use native.Mathlib.Omega.{arith}
use borrow.Author.Rules.{rules}
use Rattle.model.specs.Run.{played, after}
use Rattle.plays.specs.Words.{calls_from, answer_words, all_as_words}
use Rattle.plays.proofs.Turns.{next_world, next_words}
use Rattle.plays.proofs.play.Goals as goal

pub loop-made-init : goal.loop-made-init
unfolding after calls_from all_as_words played
loop-made-init c = search rules

pub loop-made-preserved : goal.loop-made-preserved
loop-made-preserved c = let l = c.loop-made in
    let v = l.invariant in
    let s = c.args.calls.now in
    let words = c.words_of.result in
    let long : answer_words ≡ length words = search rules in (
      next_world s l.made _ _ _ v.0 c.call-reply.ensures,
      next_words s l.made _ _ _ v.0 c.call-reply.ensures _ _ _ _ v.1 c.words_of.ensures
          (put_mid-paste (l.made * answer_words) _ l.answers _ words answer_words c.copy_from_slice.ensures.after (omega arith) long),
    )
