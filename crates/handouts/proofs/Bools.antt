-- Tests of an entry in the order in which the code makes them.
use mathlib.Core.Path.{◌≡◌, refl, sym, ap, ◌∙◌}
use mathlib.Core.Bool.{Bool, true, false, not, ◌&&◌}
use lib.Dec.{eqb}
use Rattle.model.specs.declared.Task.{Task}
use Rattle.model.specs.Tasks.{same_task}
use Prim.Native.Nat.{ℕ, ◌+◌, ◌≤◌}
use native.Mathlib.Omega.{arith}
use mir.Val.{bool_byte}
use native.Mathlib.Numerals.{add-one}
use Rattle.model.specs.Tests.{when◌then◌else◌, ◌and◌, ◌or◌}
use Rattle.model.specs.Counts.{count_below}

pub true_and : {x a b : Bool} → x ≡ a → x ≡ true → b ≡ (a and b)
unfolding ◌and◌
true_and {x} {a} {b} e t = sym (ap (λ (z : Bool). z and b) (sym e ∙ t))

pub false_and : {x a : Bool} (b : Bool) → x ≡ a → x ≡ false → false ≡ (a and b)
unfolding ◌and◌
false_and b e f = sym (ap (λ (z : Bool). z and b) (sym e ∙ f))

pub true_or : {x a : Bool} (b : Bool) → x ≡ a → x ≡ true → false ≡ not (a or b)
unfolding ◌or◌
true_or b e t = sym (ap (λ (z : Bool). not (z or b)) (sym e ∙ t))

pub false_or : {x y a b : Bool} → x ≡ a → x ≡ false → y ≡ b → not y ≡ not (a or b)
unfolding ◌or◌
false_or {x} {y} {a} {b} e f g = ap not g ∙ sym (ap (λ (z : Bool). not (z or b)) (sym e ∙ f))

-- what is false stays so with one test more
pub and_more : (x y z : Bool) → (x and y) ≡ false → (x and (y and z)) ≡ false
unfolding ◌and◌
and_more true y z e = rw e
and_more false y z e = refl

-- equality of tasks, as it is derived
and_is : (x y : Bool) → (x && y) ≡ (x and y)
unfolding ◌and◌
and_is true y = refl
and_is false y = refl

pub tasks_equal : (t u : Task) → (eqb t.number u.number && (eqb t.payload.first u.payload.first && (eqb t.payload.second u.payload.second && (eqb t.payload.third u.payload.third && eqb t.payload.fourth u.payload.fourth)))) ≡ same_task t u
tasks_equal t u =
    and_is _ _
    ∙ ap (λ (y : Bool). eqb t.number u.number and y)
    (and_is _ _
    ∙ ap (λ (y : Bool). eqb t.payload.first u.payload.first and y)
    (and_is _ _ ∙ ap (λ (y : Bool). eqb t.payload.second u.payload.second and y) (and_is _ _)))

-- a count, after one place more
module _ (p : ℕ → Bool) where
  pub count_hit : {m : ℕ} (j : ℕ) → m ≡ count_below p j → p j ≡ true → m + 1 ≡ count_below p (j + 1)
  unfolding count_below when◌then◌else◌
  count_hit j e h = rw (add-one j, h, e)

  pub count_miss : {m : ℕ} (j : ℕ) → m ≡ count_below p j → p j ≡ false → m ≡ count_below p (j + 1)
  unfolding count_below when◌then◌else◌
  count_miss j e h = e ∙ rw (add-one j, h)

-- how many first hand-outs there are, after one entry more that is a hand-out
pub byte_le : (y : Bool) → bool_byte y ≤ 1
byte_le true = omega arith
byte_le false = omega arith

pub first_counted : (p : ℕ → Bool) (m j : ℕ) (y : Bool) → m ≡ count_below p j → p j ≡ y → m + bool_byte y ≡ count_below p (j + 1)
first_counted p m j true e h = count_hit p j e h
first_counted p m j false e h = (let z : m + 0 ≡ m = omega arith in z) ∙ count_miss p j e h
