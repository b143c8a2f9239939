use Rattle.std.proofs.lemmas.Bool.{not_from_true, not_from_false}
use mathlib.Core.List.{[]}
use mathlib.Core.Path.{sym, ◌∙◌}
use native.Mathlib.Omega.{arith}
use Rattle.model.specs.World.{owners_view}
use Rattle.model.specs.Calls.{lent}
use Rattle.model.proofs.Tests.{passed, refused, and_left}
use Rattle.limits.specs.Parts.{Seen}
use Rattle.limits.proofs.Contents.{none_waits}
use Rattle.limits.proofs.Waits.{at_most}
use Rattle.limits.proofs.Whole.{frame_parts, frame_of, not_held, not_framed, not_filled, filled}
use Rattle.limits.proofs.bench_ok.Goals as goal

pub returns-in_default : goal.returns-in_default
returns-in_default c = λ m l. sym (not_held (lent c.args.bench m l) (sym c.in_default.ensures.held))

pub returns-then-not-frame_ok : goal.returns-then-not-frame_ok
returns-then-not-frame_ok c = λ m l.
    let a = c.args in
    let W = lent a.bench m l in
    let o = c.in-Some.view in
    let S : Seen o a.bench (owners_view W).queue = c.in-Some.ensures.seen m in
    sym (not_framed W o S (refused c.frame_ok.ensures (not_from_false _ c.if-not-frame_ok.true)))

pub contents_ok-requires : goal.contents_ok-requires
contents_ok-requires c = let a = c.args in
    let W = lent a.bench [] [] in
    let o = c.in-Some.view in
    let S : Seen o a.bench (owners_view W).queue = c.in-Some.ensures.seen [] in
    let framed = passed c.frame_ok.ensures (not_from_true _ c.if-not-frame_ok.false) in
    let whole = sym (frame_of W o S) ∙ framed in
    let F = frame_parts a.bench o.published framed in record { width_bound = (F.width, F.words); published_nonzero = (F.order.some, F.order.few); seen_le_claimed = (F.order.claimed, F.order.listed); doubled = F.doubled; crew_nonzero = F.crew }

pub returns-then-not-contents_ok : goal.returns-then-not-contents_ok
returns-then-not-contents_ok c = λ m l.
    let a = c.args in
    let W = lent a.bench m l in
    let o = c.in-Some.view in
    let S : Seen o a.bench (owners_view W).queue = c.in-Some.ensures.seen m in
    let framed = passed c.frame_ok.ensures (not_from_true _ c.if-not-frame_ok.false) in
    let whole = sym (frame_of W o S) ∙ framed in
    sym (not_filled W whole (refused (c.contents_ok.ensures (owners_view W).queue S.published S.arrays S.claimed) (not_from_false _ c.if-not-contents_ok.true)))

pub returns-then-bench-eq0 : goal.returns-then-bench-eq0
returns-then-bench-eq0 c = λ m l.
    let a = c.args in
    let W = lent a.bench m l in
    let o = c.in-Some.view in
    let S : Seen o a.bench (owners_view W).queue = c.in-Some.ensures.seen m in
    let framed = passed c.frame_ok.ensures (not_from_true _ c.if-not-frame_ok.false) in
    let whole = sym (frame_of W o S) ∙ framed in
    let FilledIn = passed (c.contents_ok.ensures (owners_view W).queue S.published S.arrays S.claimed) (not_from_true _ c.if-not-contents_ok.false) in
    sym
    (filled W whole (sym c.in-Some.ensures.held) FilledIn
    ∙ none_waits a.bench (owners_view W).queue c.if-bench-eq0.true (S.same c.if-bench-eq0.true) (and_left _ _ FilledIn))

pub waits_ok-requires : goal.waits_ok-requires
waits_ok-requires c = let a = c.args in
    let W = lent a.bench [] [] in
    let o = c.in-Some.view in
    let S : Seen o a.bench (owners_view W).queue = c.in-Some.ensures.seen [] in
    let framed = passed c.frame_ok.ensures (not_from_true _ c.if-not-frame_ok.false) in
    let whole = sym (frame_of W o S) ∙ framed in
    let F = frame_parts a.bench o.published framed in record { width_bound = F.width; published_nonzero = (omega (arith, F.order.some, F.order.few), F.order.claimed); claimed_bound = F.order.listed; doubled = F.doubled; count_bound = at_most a.bench.delayed a.bench.waiting.count (and_left _ _ (sym c.in-Some.ensures.held)) }

pub returns : goal.returns
returns c = λ m l.
    let a = c.args in
    let W = lent a.bench m l in
    let o = c.in-Some.view in
    let S : Seen o a.bench (owners_view W).queue = c.in-Some.ensures.seen m in
    let framed = passed c.frame_ok.ensures (not_from_true _ c.if-not-frame_ok.false) in
    let whole = sym (frame_of W o S) ∙ framed in
    let FilledIn = passed (c.contents_ok.ensures (owners_view W).queue S.published S.arrays S.claimed) (not_from_true _ c.if-not-contents_ok.false) in
    c.waits_ok.ensures (owners_view W).queue S ∙ sym (filled W whole (sym c.in-Some.ensures.held) FilledIn)
