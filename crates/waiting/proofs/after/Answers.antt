use mathlib.Core.Bool.{true}
use mathlib.Core.Path.{◌≡◌, subst}
use Rattle.model.specs.declared.Store.{Store}
use Rattle.waiting.specs.Places.{note_ok}
use Rattle.waiting.proofs.Line.{its_note}
use native.Mathlib.Omega.{arith}
use borrow.Author.Tests.{leb-true}
use Rattle.waiting.proofs.after.Goals as goal

pub publish-requires : goal.publish-requires
publish-requires c = let e = subst (λ (s : Store). note_ok s ≡ true) c.in-StoreNote.is (its_note _ c.requires) in omega (arith, leb-true c.in-StoreNote.place 10 e)
