use Rattle.std.proofs.Common.{ℕ, ◌+◌, ◌%◌, ◌^◌, ap, ◌∙◌, arith}
use Rattle.model.proofs.Masks.{masked, tags_shifted}
use Rattle.anchors.proofs.TagLaws.{tag_wraps}
use Rattle.anchors.proofs.next_tag.Goals as goal

pub returns : goal.returns
returns c = let w = c.args.width in
    let n = tags_shifted w c.requires in
    let up = (c.args.tag + 1) % 2 ^ 32 in
    rw c.wrapping_add_u32.ensures.value (masked w up n ∙ ap (λ (n : ℕ). up % n) n ∙ tag_wraps 32 w (c.args.tag + 1) (omega arith))
