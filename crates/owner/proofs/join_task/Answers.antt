use mathlib.Core.List.{[], ◌∷◌}
use mathlib.Core.Path.{◌≡◌, sym, ap, ◌∙◌}
use Prim.Native.Nat.{ℕ, ◌+◌}
use native.Mathlib.Numerals.{add-one}
use native.Mathlib.Omega.{arith}
use lib.ListN.{length}
use borrow.Author.Rules.{rules}
use Rattle.model.specs.declared.Store.TheVariants.{StoreWord}
use Rattle.model.specs.declared.Waiting.{Waiting}
use Rattle.model.specs.Tasks.{word_in}
use Rattle.model.specs.Stores.{joined}
use Rattle.model.proofs.Arrays.{mapped_length}
use Rattle.lines.specs.Actions.{word_stores}
use Rattle.model.proofs.Landing.{joined_none}
use Rattle.owner.proofs.Joining.{words_long, joined_more}
use Rattle.owner.proofs.join_task.Goals as goal

pub loop-word-init : goal.loop-word-init
unfolding word_stores
loop-word-init c = sym (joined_none c.args.waiting)

pub join-next-requires : goal.join-next-requires
join-next-requires c = let a = c.args in
    let l = c.loop-word in
    let count : l.next.count ≡ a.waiting.count + length (word_stores a.place a.slot a.task l.word) = ap (λ (s : Waiting). s.count) l.invariant in
    omega (arith, count, words_long a.place a.slot a.task l.word, c.loop-word-test.true, c.requires.words_bound_2)

pub loop-word-preserved : goal.loop-word-preserved
unfolding word_stores
loop-word-preserved c = let a = c.args in
    let l = c.loop-word in
    let s = a.waiting in
    let eight : length s.stores ≡ 8 = search (rules, mapped_length) in
    rw add-one
    (c.join-next.ensures
    ∙ ap (λ (x : ℕ). joined l.next (StoreWord a.place a.slot l.word x ∷ [])) c.word_in-value.ensures
    ∙ ap (λ (t : Waiting). joined t (StoreWord a.place a.slot l.word (word_in a.task l.word) ∷ [])) l.invariant
    ∙ joined_more s (word_stores a.place a.slot a.task l.word) (StoreWord a.place a.slot l.word (word_in a.task l.word)) (omega (arith, eight, c.requires.words_bound_2)))
