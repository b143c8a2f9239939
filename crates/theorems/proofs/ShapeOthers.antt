-- What others write outside the queue's arrays keeps its shape.
use mathlib.Core.List.{List}
use Prim.Native.Nat.{ℕ}
use Rattle.model.specs.declared.Kind.{Kind}
use Rattle.model.specs.declared.Line.{Line}
use Rattle.model.specs.declared.Queue.{Queue}
use Rattle.model.specs.declared.Store.{Store}
use Rattle.theorems.proofs.Directory.{Others, arrays_others}
use Rattle.theorems.proofs.Shape.{Shape}

pub shape_others : {κ : Kind} {w ω used low : ℕ} {q : Queue} {m m' : List ℕ} {ss : List Store} {o : Line} {φ : ℕ → Line} → Others q m m' → Shape κ w ω used low q m ss o φ → Shape κ w ω used low q m' ss o φ
shape_others O S = record { anchor = S.anchor; arrays = arrays_others S.arrays O; path = S.path; own = S.own; th = S.th }
