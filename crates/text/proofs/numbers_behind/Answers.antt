use Rattle.std.proofs.Common.{arith, sym, ap, ◌∙◌, ◌≡◌, ◌<◌, ◌≤◌, length, take, length-take-le}
use Rattle.std.proofs.Math.Seq.{take-suc-set}
use native.Mathlib.Numerals.{add-one}
use Rattle.text.specs.Numbers.{value_of}
use Rattle.text.proofs.Split.{first_fits}
use Rattle.text.proofs.Fields.{part_is, read_first, read_on_lem, read_fits, read_all, read_none, none_these, read_more}
use Rattle.text.proofs.numbers_behind.Goals as goal

pub loop-n-init : goal.loop-n-init
loop-n-init c = let line = c.args.line.now in
    (omega (arith, c.requires, first_fits line), rw c.requires (read_first line))

pub returns-then-at-line-clause-some : goal.returns-then-at-line-clause-some
returns-then-at-line-clause-some c = let l = c.loop-n in
    (omega (arith, c.loop-n-test.true, l.auto.v), read_all c.args.line.now l.at (take l.n l.v) (omega (arith, c.if-at-line.true)) l.invariant.1)

pub slice_bounds-number-end : goal.slice_bounds-number-end
slice_bounds-number-end c = let l = c.loop-n in let line = c.args.line.now in
    let h : l.at < length line = omega (arith, c.if-at-line.false, l.invariant.0) in
    omega (arith, c.word_end-at.ensures.word, read_fits line l.at h)

pub returns-in_err-v-clause-none : goal.returns-in_err-v-clause-none
returns-in_err-v-clause-none c = let l = c.loop-n in let line = c.args.line.now in
    let h : l.at < length line = omega (arith, c.if-at-line.false, l.invariant.0) in
    λ e ns f. absurd (none_these _ ns (read_none line l.at (take l.n l.v) h l.invariant.1
    (ap value_of (sym (part_is line l.at _ c.word_end-at.ensures.word)) ∙ sym c.number.ensures ∙ c.in_err-v.was)) f)

pub loop-n-preserved : goal.loop-n-preserved
loop-n-preserved c = let l = c.loop-n in let line = c.args.line.now in
    let h : l.at < length line = omega (arith, c.if-at-line.false, l.invariant.0) in
    let n : l.n < length l.v = omega (arith, c.loop-n-test.true, l.auto.v) in (
      omega (arith, c.word_end-at.ensures.word, read_fits line l.at h),
      rw (add-one, take-suc-set l.v l.n c.in_ok-v.field-0 n, c.word_end-at.ensures.word)
          (read_on_lem line l.at (take l.n l.v) _ h l.invariant.1
          (ap value_of (sym (part_is line l.at _ c.word_end-at.ensures.word)) ∙ sym c.number.ensures ∙ c.in_ok-v.was)),
    )

pub returns-then-at-line-2-clause-some : goal.returns-then-at-line-2-clause-some
returns-then-at-line-2-clause-some c = let l = c.loop-n in
    let n : l.n ≡ length l.v = omega (arith, c.loop-n-test.false, l.auto.v, l.auto.n-end) in
    (omega arith, rw n at (read_all c.args.line.now l.at (take l.n l.v) (omega (arith, c.if-at-line-2.true)) l.invariant.1))

pub returns-clause-none : goal.returns-clause-none
returns-clause-none c = let l = c.loop-n in let line = c.args.line.now in
    let h : l.at < length line = omega (arith, c.if-at-line-2.false, l.invariant.0) in
    let n : l.n ≤ length l.v = omega (arith, l.auto.v, l.auto.n-end) in
    λ e ns f. omega (arith, read_more line l.at (take l.n l.v) ns h l.invariant.1 f, length-take-le l.n l.v n, c.loop-n-test.false)
