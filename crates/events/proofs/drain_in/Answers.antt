use mathlib.Core.List.{[]}
use mathlib.Core.Path.{◌≡◌, refl, sym, ap, ◌∙◌}
use Prim.Native.Nat.{◌<◌}
use native.Mathlib.Omega.{arith}
use lib.ListN.{length}
use borrow.Author.Tests.{lt-ltb, le-ltb}
use Rattle.model.specs.declared.Answer.TheVariants.{Accepted}
use Rattle.model.specs.World.{World}
use Rattle.model.specs.Calls.{lent}
use Rattle.model.proofs.Arrays.{mapped_length}
use Rattle.model.proofs.Tests.{if_true, if_false}
use Rattle.limits.proofs.Bounds.{bounds_of}
use Rattle.state.proofs.Replies.{same_returned}
use Rattle.events.proofs.Drained.{oldest_placed, oldest_noted, drains}
use borrow.Author.Rules.{rules}
use Rattle.events.proofs.drain_in.Goals as goal

pub returns-then-line-eq0 : goal.returns-then-line-eq0
returns-then-line-eq0 c = λ l.
    let a = c.args in
    same_returned c.refused.ensures refl refl ∙ sym (if_false _ (le-ltb 0 a.bench.waiting.count (omega (arith, c.if-line-eq0.true))))

pub write-requires : goal.write-requires
write-requires c = let a = c.args in
    let W = lent a.bench a.store.now [] in
    let eight : length a.bench.waiting.stores ≡ 8 = search (rules, mapped_length) in
    let some : 0 < a.bench.waiting.count = omega (arith, c.if-line-eq0.false) in record { wide = (bounds_of W c.requires.store_value).wide; placed = oldest_placed W c.requires.store_value c.requires.queue_in_bounds some eight c.oldest-landing.ensures }

pub after-next-requires : goal.after-next-requires
after-next-requires c = let a = c.args in
    let W = lent a.bench a.store.now [] in
    let eight : length a.bench.waiting.stores ≡ 8 = search (rules, mapped_length) in
    let some : 0 < a.bench.waiting.count = omega (arith, c.if-line-eq0.false) in
    oldest_noted W c.requires.store_value c.requires.queue_in_bounds some eight c.oldest-landing.ensures

pub returns : goal.returns
returns c = λ l.
    let a = c.args in
    let some : 0 < a.bench.waiting.count = omega (arith, c.if-line-eq0.false) in
    ap (λ (x : World). record { world = x; answer = Accepted }) (drains (lent a.bench a.store.now l) c.oldest-landing.ensures c.after-next.ensures c.write.ensures c.one_less-next.ensures)
    ∙ sym (if_true _ (lt-ltb 0 a.bench.waiting.count some))
