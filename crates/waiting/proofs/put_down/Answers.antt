use mathlib.Core.Path.{◌≡◌, refl, sym, ap, subst, ◌∙◌}
use Prim.Native.Nat.{ℕ}
use native.Mathlib.Numerals.{add-one}
use native.Mathlib.Omega.{arith}
use lib.ListN.{length}
use Rattle.model.proofs.Arrays.{mapped_length}
use mathlib.Core.List.{List}
use Rattle.model.specs.Stores.{shared, landed, landed_all}
use Rattle.waiting.specs.Places.{covered_by, Placed}
use Rattle.waiting.proofs.Line.{store_at, placed_at}
use Rattle.waiting.proofs.Words.{next_word, kept_none, kept_more}
use borrow.Author.Rules.{rules}
use Rattle.waiting.proofs.put_down.Goals as goal

pub loop-i-init : goal.loop-i-init
unfolding landed_all
loop-i-init c = let a = c.args in (refl, refl, refl, kept_none a.words a.queue a.store.now a.waiting.stores _)

pub covered-requires-clause-placed : goal.covered-requires-clause-placed
covered-requires-clause-placed c =
    let a = c.args in
    let l = c.loop-i in
    let eight : length a.waiting.stores ≡ 8 = search (rules, mapped_length) in
    subst (λ (n : ℕ). Placed a.words a.queue n (store_at a.waiting.stores l.i)) (sym l.invariant.0)
    (placed_at a.words a.queue (length a.store.now) a.waiting.stores l.i a.waiting.count (omega (arith, c.loop-i-test.true))
    (omega (arith, eight, c.loop-i-test.true, c.requires.count_bound)) c.requires.all_placed)

pub write-requires-clause-placed : goal.write-requires-clause-placed
write-requires-clause-placed c =
    let a = c.args in
    let l = c.loop-i in
    let eight : length a.waiting.stores ≡ 8 = search (rules, mapped_length) in
    subst (λ (n : ℕ). Placed a.words a.queue n (store_at a.waiting.stores l.i)) (sym l.invariant.0)
    (placed_at a.words a.queue (length a.store.now) a.waiting.stores l.i a.waiting.count (omega (arith, c.loop-i-test.true))
    (omega (arith, eight, c.loop-i-test.true, c.requires.count_bound)) c.requires.all_placed)

pub loop-i-preserved : goal.loop-i-preserved
loop-i-preserved c =
    let a = c.args in
    let l = c.loop-i in
    let s = a.waiting.stores in
    let m = a.store.now in
    let eight : length a.waiting.stores ≡ 8 = search (rules, mapped_length) in (
      search rules,
      search rules,
      rw add-one
          (c.write.ensures ∙ ap (λ (x : List ℕ). (landed a.words (shared a.queue x) (store_at s l.i)).store) l.invariant.2
          ∙ sym (next_word a.words a.queue m s l.i (omega (arith, eight, c.loop-i-test.true, c.requires.count_bound)))),
      kept_more a.words a.queue m s l.kept l.i _ (omega (arith, l.invariant.1, c.loop-i-test.true, c.requires.count_bound)) l.invariant.3
          (c.covered.ensures ∙ ap (λ (x : List ℕ). covered_by a.words a.queue x (store_at s l.i)) l.invariant.2),
    )
