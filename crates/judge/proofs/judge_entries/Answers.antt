use Rattle.std.proofs.Common.{rules, ◌≡◌, true, false, length, ◌/◌, ◌-◌}
use Rattle.model.specs.Tests.{◌and◌}
use Rattle.judgement.specs.declared.Log.{Log}
use Rattle.judgement.specs.declared.Verdict.TheVariants.{No, Accepted}
use Rattle.judgement.specs.Judgement.{words_of, all_below, known, rises, justified, judged_words}
use Rattle.marks.specs.Marks.{is_marked}
use Rattle.judge.proofs.judge_entries.Goals as goal
use native.Mathlib.Omega.{arith}
use mathlib.Core.Path.{sym, ap, subst, ◌∙◌}
use Rattle.model.proofs.Tests.{and_right}
use Rattle.judge.proofs.Keeping.{kept_whole, firsts_fewer}
use Rattle.judge.proofs.Lengths.{falses_at}
use Rattle.judge.proofs.Whole.{not_in_order, not_all_justified, not_all_kept, all_accepted}

pub returns-then-not-in_order : goal.returns-then-not-in_order
returns-then-not-in_order c =
    let g = c.args.log in not_in_order g.words (words_of g.bytes.now) g.entries (words_of c.args.list.now) (length c.args.list.now / 4) (sym c.in_order.ensures ∙ c.if-not-in_order.true)

pub invariant_of-ordered : goal.invariant_of-ordered
invariant_of-ordered c = record { rising = and_right _ _ (sym c.in_order.ensures ∙ c.if-not-in_order.false) }

pub hand_outs-requires-clause-by_index : goal.hand_outs-requires-clause-by_index
hand_outs-requires-clause-by_index c = λ k. falses_at (length c.gather-puts.result.places.now) 4096 k

pub returns-in_default : goal.returns-in_default
returns-in_default c =
    let g = c.args.log in
    not_all_justified g.words (words_of g.bytes.now) g.entries (words_of c.args.list.now) (length c.args.list.now / 4)
    (subst (λ (g : Log). all_below (justified g.words (words_of g.bytes.now)) g.entries ≡ false) c.gather-puts.ensures c.in_default.ensures)

pub returns-then-not-all_marked : goal.returns-then-not-all_marked
returns-then-not-all_marked c =
    let s = words_of c.args.list.now in let m = length c.args.list.now / 4 in let P = c.gather-puts.result in let g = P.log in let seen = c.mark_listed.new.seen in
    let z : length seen ≡ length P.places.now = search rules in
    subst (λ (g : Log). No ≡ judged_words g.words (words_of g.bytes.now) g.entries s m) c.gather-puts.ensures
    (not_all_kept g.words (words_of g.bytes.now) g.entries s m
    (sym (kept_whole g.words (words_of g.bytes.now) g.entries s m P.places.now (length P.places.now) seen P.gathered c.mark_listed.ensures false (ap (all_below (is_marked seen)) (sym z) ∙ sym c.if-not-all_marked.ensures))))

pub overflow_sub-result : goal.overflow_sub-result
overflow_sub-result c =
    let g = c.gather-puts.result.log in let a = c.in-Some.ensures.handouts in let b = c.in-Some.ensures.different in
    let f = firsts_fewer g.words (words_of g.bytes.now) g.entries in omega (arith, a, b, f)

pub returns : goal.returns
returns c =
    let s = words_of c.args.list.now in let m = length c.args.list.now / 4 in let P = c.gather-puts.result in let g = P.log in let seen = c.mark_listed.new.seen in
    let z : length seen ≡ length P.places.now = search rules in
    let o = subst (λ (g : Log). (all_below (known g.words (words_of g.bytes.now)) g.entries and all_below (rises g.words (words_of g.bytes.now)) g.entries) ≡ true) (sym c.gather-puts.ensures) (sym c.in_order.ensures ∙ c.if-not-in_order.false) in
    subst (λ (g : Log). Accepted c.in-Some.outs.handouts (c.in-Some.outs.handouts - c.in-Some.outs.different) ≡ judged_words g.words (words_of g.bytes.now) g.entries s m) c.gather-puts.ensures
    (all_accepted g.words (words_of g.bytes.now) g.entries s m _ _ o c.in-Some.ensures.fine
    (sym (kept_whole g.words (words_of g.bytes.now) g.entries s m P.places.now (length P.places.now) seen P.gathered c.mark_listed.ensures true (ap (all_below (is_marked seen)) (sym z) ∙ sym c.if-not-all_marked.ensures)))
    c.in-Some.ensures.handouts c.in-Some.ensures.different)
