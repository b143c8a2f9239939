use native.Mathlib.Omega.{arith}
use mathlib.Core.Path.{refl, sym, ap, ◌∙◌}
use Prim.Native.Nat.{ℕ, ◌+◌}
use lib.Dec.{leb}
use borrow.Author.Tests.{le-leb, lt-leb}
use Rattle.model.specs.Stores.{taken, words_taken}
use Rattle.model.proofs.Tests.{holds, fails}
use Rattle.slots.proofs.Room.{last_ends}
use Rattle.limits.proofs.Taken.{first_fits, words_are, last_short}
use Rattle.limits.proofs.alone_ok.Goals as goal

pub all_words-words-requires : goal.all_words-words-requires
all_words-words-requires c = record { length_bound = last_short c.args.bench.queue c.requires refl c.region_at-last.ensures; length_bound_2 = first_fits c.args.bench.queue c.requires refl c.region_at-last.ensures }

pub returns-then-words-end : goal.returns-then-words-end
returns-then-words-end c = let q = c.args.bench.queue in
    let end = last_ends q c.region_at-last.ensures in
    let words = c.all_words-words.ensures ∙ words_are q c.requires refl c.region_at-last.ensures in
    sym (fails _ (lt-leb (taken q) (words_taken q) (omega (arith, c.if-words-end.true, end, words))))

pub returns : goal.returns
returns c = let q = c.args.bench.queue in
    let end = last_ends q c.region_at-last.ensures in
    let words = c.all_words-words.ensures ∙ words_are q c.requires refl c.region_at-last.ensures in
    ap (λ (n : ℕ). leb (n + c.args.bench.aside) c.usable.result) words
    ∙ ap (λ (n : ℕ). leb (words_taken q + c.args.bench.aside) n) c.usable.ensures
    ∙ sym (holds (le-leb (taken q) (words_taken q) (omega (arith, c.if-words-end.false, end, words))))
