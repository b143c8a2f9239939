use mathlib.Core.Path.{◌≡◌, sym, ap, subst, ◌∙◌}
use Prim.Native.Nat.{ℕ, suc, ◌-◌}
use native.Mathlib.Omega.{arith}
use lib.ListN.{length}
use Rattle.model.proofs.Arrays.{mapped_length}
use Rattle.model.specs.Stores.{landed_all}
use Rattle.waiting.specs.Places.{KeptBy, Placed}
use Rattle.waiting.proofs.Line.{store_at, placed_at}
use Rattle.waiting.proofs.Words.{down, placed_valued, lift_one}
use borrow.Author.Rules.{rules}
use Rattle.waiting.proofs.lift.Goals as goal

pub write-requires-clause-placed : goal.write-requires-clause-placed
write-requires-clause-placed c =
    let a = c.args in
    let l = c.loop-i in
    let s = store_at a.waiting.stores (l.i - 1) in
    let eight : length a.waiting.stores ≡ 8 = search (rules, mapped_length) in
    subst (λ (n : ℕ). Placed a.words a.queue n c.with_value-lifting.result) (sym l.invariant.0)
    (subst (Placed a.words a.queue (length a.store.now)) (sym c.with_value-lifting.ensures)
    (placed_valued a.words a.queue (length a.store.now) s _
    (placed_at a.words a.queue (length a.store.now) a.waiting.stores (l.i - 1) a.waiting.count (omega (arith, l.auto.i, c.loop-i-test.true))
    (omega (arith, eight, l.auto.i, c.loop-i-test.true, c.requires.count_bound)) c.requires.all_placed)))

pub loop-i-preserved : goal.loop-i-preserved
unfolding KeptBy
loop-i-preserved c =
    let a = c.args in
    let l = c.loop-i in
    let s = a.waiting.stores in
    let eight : length a.waiting.stores ≡ 8 = search (rules, mapped_length) in (
      search rules,
      λ m e k.
          let up : l.i ≡ suc (l.i - 1) = omega (arith, c.loop-i-test.true) in
          lift_one a.words a.queue m s (l.i - 1) (omega (arith, eight, l.auto.i, c.loop-i-test.true, c.requires.count_bound))
          (l.invariant.1 m e k ∙ ap (down a.words a.queue m s) up) (k (l.i - 1) (omega (arith, l.auto.i, c.loop-i-test.true)))
          c.with_value-lifting.ensures c.write.ensures,
    )

pub returns : goal.returns
unfolding landed_all
returns c =
    let a = c.args in
    let l = c.loop-i in
    let none : l.i ≡ 0 = omega (arith, c.loop-i-test.false) in
    λ m e k. l.invariant.1 m e k ∙ ap (down a.words a.queue m a.waiting.stores) none
