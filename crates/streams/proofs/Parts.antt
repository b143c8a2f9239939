-- What a write to a part of a list leaves in front of its end.
use Rattle.std.specs.Prelude.{ℕ, ◌≡◌, ◌≤◌, ◌+◌, List, ◌++◌, length, take, drop}
use Rattle.std.proofs.Common.{ap, sym, ◌∙◌, length-take-le}
use Rattle.std.proofs.Math.Seq.{take-append-add}
use Rattle.std.proofs.lemmas.List.{take-append-le}
use borrow.Rule.Slice.PartMut.{put_mid}

pub take-put_mid_in : {X : Type 0} (a m k : ℕ) (xs ys : List X) → a ≤ length xs → m ≤ length ys → take (a + m) (put_mid a k xs ys) ≡ take a xs ++ take m ys
take-put_mid_in a m k xs ys p q = ap (λ n. take (n + m) (put_mid a k xs ys)) (sym (length-take-le a xs p)) ∙ take-append-add (take a xs) (ys ++ drop k (drop a xs)) m ∙ ap (λ l. take a xs ++ l) (take-append-le m ys _ q)
