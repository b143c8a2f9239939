use Rattle.std.proofs.Common.{arith, sym, ap, ◌∙◌, refl, length-take-le, take}
use Rattle.text.specs.Commands.{formed, key_of}
use Rattle.text.proofs.Split.{first_fits}
use Rattle.text.proofs.Fields.{front_is, command_these, command_none}
use Rattle.text.proofs.parse.Goals as goal

pub slice_bounds-keyword-end : goal.slice_bounds-keyword-end
slice_bounds-keyword-end c = let line = c.args.line.now in
    sym (length-take-le _ line (omega (arith, c.word_end-end.ensures.word, first_fits line)))

pub returns : goal.returns
returns c = let line = c.args.line.now in
    c.form.ensures ∙ ap (λ k. formed k (take c.in-Some.n c.numbers_behind.new.v)) (c.keyword-key.ensures ∙ ap key_of (front_is line _ c.word_end-end.ensures.word))
    ∙ sym (command_these line _ c.in-Some.ensures.some.1)

pub returns-in_default : goal.returns-in_default
returns-in_default c = sym (command_none c.args.line.now (c.in_default.ensures.none refl))
