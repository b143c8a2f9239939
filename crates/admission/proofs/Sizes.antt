-- The powers of two, as the code lists them: 1 and 2 as a range, the others one by one.
use mathlib.Core.Bool.{Bool, true, false}
use mathlib.Core.List.{List, [], ◌∷◌}
use mathlib.Core.Logic.{inl, inr, ⊎_elim}
use mathlib.Core.Path.{◌≡◌, refl, sym, ◌∙◌}
use Prim.Native.Nat.{ℕ, ◌<◌, ◌≤◌}
use native.Mathlib.Omega.{arith}
use lib.Dec.{leb}
use borrow.Author.Tests.{leb-true, leb-false, ne_eqb}
use types.Run.{OneOf}
use Rattle.model.specs.Tests.{◌or◌}
use Rattle.model.specs.Limits.{is_size}

abbrev pub listed : List ℕ
listed = 4 ∷ 8 ∷ 16 ∷ 32 ∷ 64 ∷ 128 ∷ 256 ∷ 512 ∷ 1024 ∷ []

pub not_listed : (c : ℕ) → (OneOf listed c → ⊥) → (c ≡ 1 → ⊥) → (c ≡ 2 → ⊥) → is_size 10 c ≡ false
unfolding ◌or◌
not_listed c h h1 h2 =
    rw (
      ne_eqb c 1024 (λ e. h (inr (inr (inr (inr (inr (inr (inr (inr e))))))))),
      ne_eqb c 512 (λ e. h (inr (inr (inr (inr (inr (inr (inr (inl e))))))))),
      ne_eqb c 256 (λ e. h (inr (inr (inr (inr (inr (inr (inl e)))))))),
      ne_eqb c 128 (λ e. h (inr (inr (inr (inr (inr (inl e))))))),
      ne_eqb c 64 (λ e. h (inr (inr (inr (inr (inl e)))))),
      ne_eqb c 32 (λ e. h (inr (inr (inr (inl e))))),
      ne_eqb c 16 (λ e. h (inr (inr (inl e)))),
      ne_eqb c 8 (λ e. h (inr (inl e))),
      ne_eqb c 4 (λ e. h (inl e)),
      ne_eqb c 2 h2,
      ne_eqb c 1 h1,
    )

-- a size is at most 1,024
above : (c : ℕ) → 1024 < c → OneOf listed c → ⊥
above c h o =
    ⊎_elim (λ e. omega arith)
    (⊎_elim (λ e. omega arith)
    (⊎_elim (λ e. omega arith)
    (⊎_elim (λ e. omega arith)
    (⊎_elim (λ e. omega arith)
    (⊎_elim (λ e. omega arith) (⊎_elim (λ e. omega arith) (⊎_elim (λ e. omega arith) (λ e. omega arith))))))))
    o

pub size_in : (c : ℕ) → is_size 10 c ≡ true → c ≤ 1024
size_in c e = by (leb c 1024) refl
  where
    never : 1024 < c → true ≡ false
    never h = sym e ∙ not_listed c (above c h) (λ g. omega arith) (λ g. omega arith)

    by : (x : Bool) → leb c 1024 ≡ x → c ≤ 1024
    by true f = leb-true c 1024 f
    by false f = let z : true ≡ false = never (leb-false c 1024 f) in let n : ◌≡◌ {A = ℕ} 0 1 = cc in omega arith
