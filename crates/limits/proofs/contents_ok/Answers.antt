use Rattle.std.proofs.lemmas.Bool.{not_from_true, not_from_false}
use mathlib.Core.Path.{sym, ap, ◌∙◌}
use Prim.Native.Nat.{ℕ, ◌-◌, ◌*◌, ◌^◌, ◌%◌, ◌<◌}
use native.Mathlib.Omega.{arith}
use Rattle.model.specs.Tests.{◌and◌}
use Rattle.model.specs.World.{tag_bits}
use Rattle.model.specs.Limits.{anchor_ok, links_ok}
use Rattle.model.proofs.Tests.{holds, fails, passed, refused}
use Rattle.limits.specs.Parts.{workers_ok}
use Rattle.limits.proofs.Contents.{in_memory, in_view, doubles_view}
use Rattle.limits.proofs.contents_ok.Goals as goal

pub returns-then-not-anchor_ok : goal.returns-then-not-anchor_ok
returns-then-not-anchor_ok c = λ p e f g.
    let b = c.args.bench in
    let D = c.requires.doubled in
    let bits = c.tag_bits-bits.ensures in
    let z = in_memory b D c.requires.published_nonzero.0 (omega (arith, c.requires.published_nonzero.1, c.requires.seen_le_claimed.0)) in
    let now =
    c.anchor_ok.ensures
    ∙ ap (λ (w : ℕ). anchor_ok b.kind w (b.queue.initial * 2 ^ (b.queue.published - 1) % 2 ^ 32) b.queue.anchor) bits
    ∙ ap (λ (z : ℕ). anchor_ok b.kind (tag_bits b) z b.queue.anchor) z in
    sym (fails _ (refused now (not_from_false _ c.if-not-anchor_ok.true)))

pub returns-then-not-number_ok : goal.returns-then-not-number_ok
returns-then-not-number_ok c = λ p e f g.
    let b = c.args.bench in
    let D = c.requires.doubled in
    let bits = c.tag_bits-bits.ensures in
    let z = in_memory b D c.requires.published_nonzero.0 (omega (arith, c.requires.published_nonzero.1, c.requires.seen_le_claimed.0)) in
    let now =
    c.anchor_ok.ensures
    ∙ ap (λ (w : ℕ). anchor_ok b.kind w (b.queue.initial * 2 ^ (b.queue.published - 1) % 2 ^ 32) b.queue.anchor) bits
    ∙ ap (λ (z : ℕ). anchor_ok b.kind (tag_bits b) z b.queue.anchor) z in
    sym (holds (passed now (not_from_true _ c.if-not-anchor_ok.false)) ∙ fails _ (refused c.number_ok.ensures (not_from_false _ c.if-not-number_ok.true)))

pub returns-then-not-aside_ok : goal.returns-then-not-aside_ok
returns-then-not-aside_ok c = λ p e f g.
    let b = c.args.bench in
    let D = c.requires.doubled in
    let bits = c.tag_bits-bits.ensures in
    let z = in_memory b D c.requires.published_nonzero.0 (omega (arith, c.requires.published_nonzero.1, c.requires.seen_le_claimed.0)) in
    let now =
    c.anchor_ok.ensures
    ∙ ap (λ (w : ℕ). anchor_ok b.kind w (b.queue.initial * 2 ^ (b.queue.published - 1) % 2 ^ 32) b.queue.anchor) bits
    ∙ ap (λ (z : ℕ). anchor_ok b.kind (tag_bits b) z b.queue.anchor) z in
    let n = c.args.seen in
    let some : 0 < n = omega (arith, c.requires.published_nonzero) in
    let most = in_view b D n p e f some c.requires.seen_le_claimed.0 in
    sym
    (holds (passed now (not_from_true _ c.if-not-anchor_ok.false)) ∙ holds (passed c.number_ok.ensures (not_from_true _ c.if-not-number_ok.false))
    ∙ fails _ (refused (c.aside_ok.ensures p most f g) (not_from_false _ c.if-not-aside_ok.true)))

pub returns : goal.returns
returns c = λ p e f g.
    let b = c.args.bench in
    let D = c.requires.doubled in
    let bits = c.tag_bits-bits.ensures in
    let z = in_memory b D c.requires.published_nonzero.0 (omega (arith, c.requires.published_nonzero.1, c.requires.seen_le_claimed.0)) in
    let now =
    c.anchor_ok.ensures
    ∙ ap (λ (w : ℕ). anchor_ok b.kind w (b.queue.initial * 2 ^ (b.queue.published - 1) % 2 ^ 32) b.queue.anchor) bits
    ∙ ap (λ (z : ℕ). anchor_ok b.kind (tag_bits b) z b.queue.anchor) z in
    let n = c.args.seen in
    let some : 0 < n = omega (arith, c.requires.published_nonzero) in
    let most = in_view b D n p e f some c.requires.seen_le_claimed.0 in
    c.workers_ok.ensures p (e, doubles_view b D n p e f some c.requires.seen_le_claimed.0, most)
    ∙ ap (λ (w : ℕ). links_ok b.kind b.queue b.workers 8 and workers_ok b.kind w b.words b.queue p b.crew b.workers 8) bits
    ∙ sym
    (holds (passed now (not_from_true _ c.if-not-anchor_ok.false)) ∙ holds (passed c.number_ok.ensures (not_from_true _ c.if-not-number_ok.false))
    ∙ holds (passed (c.aside_ok.ensures p most f g) (not_from_true _ c.if-not-aside_ok.false)))
