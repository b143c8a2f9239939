use Rattle.std.proofs.lemmas.Bool.{not_from_true, not_from_false}
use Rattle.std.proofs.lemmas.List.{take_all}
use mathlib.Core.Bool.{Bool}
use mathlib.Core.Path.{refl, sym, ap, ◌∙◌}
use Prim.Native.Nat.{ℕ, ◌-◌, ◌*◌, ◌^◌, ◌%◌}
use native.Mathlib.Numerals.{add-one}
use Rattle.model.specs.declared.Anchor.{Anchor}
use Rattle.model.specs.Tests.{◌and◌}
use Rattle.model.specs.Lines.{size}
use Rattle.model.specs.Stores.{in_line}
use Rattle.model.specs.World.{tag_bits}
use Rattle.model.specs.Limits.{anchor_ok, store_ok, stores_ok}
use Rattle.model.proofs.Tests.{and_both, and_false, fails, passed, refused}
use Rattle.ranges.specs.Doubles.{Doubled}
use Rattle.waiting.proofs.Line.{test_fails, tests_next}
use Rattle.limits.proofs.Contents.{in_view}
use Rattle.limits.proofs.waits_ok.Goals as goal

pub returns-then-not-anchor_ok : goal.returns-then-not-anchor_ok
returns-then-not-anchor_ok c = λ p S.
    let b = c.args.bench in
    let v = c.args.view in
    let z = in_view b c.requires.doubled v.published p S.published S.arrays c.requires.published_nonzero.0 c.requires.published_nonzero.1 in
    let now =
    c.anchor_ok.ensures
    ∙ ap (λ (w : ℕ). anchor_ok b.kind w (b.queue.initial * 2 ^ (v.published - 1) % 2 ^ 32) v.anchor) c.tag_bits-bits.ensures
    ∙ ap (λ (n : ℕ). anchor_ok b.kind (tag_bits b) n v.anchor) z
    ∙ ap (λ (a : Anchor). anchor_ok b.kind (tag_bits b) (size b.words p) a) (sym S.anchor) in
    sym (fails _ (refused now (not_from_false _ c.if-not-anchor_ok.true)))

pub returns-then-not-store_ok : goal.returns-then-not-store_ok
returns-then-not-store_ok c = λ p S.
    let b = c.args.bench in
    let v = c.args.view in
    let w = c.tag_bits-bits.result in
    let L = in_line b.waiting in
    let z = in_view b c.requires.doubled v.published p S.published S.arrays c.requires.published_nonzero.0 c.requires.published_nonzero.1 in
    let D : Doubled b.words p.arrays b.queue.claimed b.queue.initial = rw S.arrays c.requires.doubled in
    let one = c.store_ok.ensures p S.published S.claimed (ap (λ (a : Anchor). a.count) S.anchor) D z in
    let all =
    test_fails (store_ok b.kind w b.words p) (stores_ok b.kind w b.words p) refl (λ x l. refl) L c.loop-store.store-index c.loop-store-test.true
    (refused one (not_from_false _ c.if-not-store_ok.true)) in
    sym
    (ap (λ (x : Bool). anchor_ok b.kind (tag_bits b) (size b.words p) p.anchor and x)
    (ap (λ (n : ℕ). stores_ok b.kind n b.words p L) (sym c.tag_bits-bits.ensures) ∙ all)
    ∙ and_false _)

pub loop-store-preserved : goal.loop-store-preserved
loop-store-preserved c = λ p o n m d t.
    let b = c.args.bench in
    let w = c.tag_bits-bits.result in
    rw add-one
    (tests_next (store_ok b.kind w b.words p) (stores_ok b.kind w b.words p) refl (λ x l. refl) (in_line b.waiting) c.loop-store.store-index
    c.loop-store-test.true (c.loop-store.invariant p o n m d t) (passed (c.store_ok.ensures p o n m d t) (not_from_true _ c.if-not-store_ok.false)))

pub returns : goal.returns
returns c = λ p S.
    let b = c.args.bench in
    let v = c.args.view in
    let L = in_line b.waiting in
    let z = in_view b c.requires.doubled v.published p S.published S.arrays c.requires.published_nonzero.0 c.requires.published_nonzero.1 in
    let D : Doubled b.words p.arrays b.queue.claimed b.queue.initial = rw S.arrays c.requires.doubled in
    let now =
    c.anchor_ok.ensures
    ∙ ap (λ (w : ℕ). anchor_ok b.kind w (b.queue.initial * 2 ^ (v.published - 1) % 2 ^ 32) v.anchor) c.tag_bits-bits.ensures
    ∙ ap (λ (n : ℕ). anchor_ok b.kind (tag_bits b) n v.anchor) z
    ∙ ap (λ (a : Anchor). anchor_ok b.kind (tag_bits b) (size b.words p) a) (sym S.anchor) in
    sym
    (and_both _ _ (passed now (not_from_true _ c.if-not-anchor_ok.false))
    (ap (λ (n : ℕ). stores_ok b.kind n b.words p L) (sym c.tag_bits-bits.ensures)
    ∙ ap (stores_ok b.kind c.tag_bits-bits.result b.words p) (sym (take_all c.loop-store.store-index L c.loop-store-test.false))
    ∙ c.loop-store.invariant p S.published S.claimed (ap (λ (a : Anchor). a.count) S.anchor) D z))
