-- The words past the known ones, as the code asks for them: word by word.
use mathlib.Core.Bool.{Bool, true, false}
use mathlib.Core.Path.{◌≡◌, refl}
use Prim.Native.Nat.{ℕ, zero, suc}
use native.Mathlib.Omega.{arith}
use lib.Dec.{eqb, ltb}
use borrow.Author.Tests.{lt-ltb}
use Rattle.model.specs.declared.Task.{Task}
use Rattle.model.specs.Tests.{◌and◌, ◌or◌}
use Rattle.model.specs.Tasks.{none_from}

last : (a : Bool) → (a and true) ≡ a
unfolding ◌and◌
last true = refl
last false = refl

pub none_is : (n : ℕ) (t : Task) → none_from n t ≡
    ((ltb 0 n or eqb t.number 0)
    and (ltb 1 n or eqb t.payload.first 0)
    and (ltb 2 n or eqb t.payload.second 0)
    and (ltb 3 n or eqb t.payload.third 0) and (ltb 4 n or eqb t.payload.fourth 0))
unfolding ◌and◌ ◌or◌
none_is zero t = rw (last (eqb t.payload.fourth 0))
none_is (suc zero) t = rw (last (eqb t.payload.fourth 0))
none_is (suc (suc zero)) t = rw (last (eqb t.payload.fourth 0))
none_is (suc (suc (suc zero))) t = rw (last (eqb t.payload.fourth 0))
none_is (suc (suc (suc (suc zero)))) t = rw (last (eqb t.payload.fourth 0))
none_is (suc (suc (suc (suc (suc zero))))) t = refl
none_is (suc (suc (suc (suc (suc (suc n)))))) t =
    rw (
      lt-ltb 0 (suc (suc (suc (suc (suc (suc n)))))) (omega arith),
      lt-ltb 1 (suc (suc (suc (suc (suc (suc n)))))) (omega arith),
      lt-ltb 2 (suc (suc (suc (suc (suc (suc n)))))) (omega arith),
      lt-ltb 3 (suc (suc (suc (suc (suc (suc n)))))) (omega arith),
      lt-ltb 4 (suc (suc (suc (suc (suc (suc n)))))) (omega arith),
    )
