-- What is decided before a bench is made, of any outcome that begins with the same refusals.
use Rattle.std.specs.Prelude.{Result, Ok, Err, ⊤}
use mathlib.Core.Bool.{Bool, true, false}
use mathlib.Core.Path.{◌≡◌, refl, sym, ap, ◌∙◌}
use Prim.Native.Nat.{ℕ, ◌≤◌}
use lib.Dec.{ltb, leb}
use borrow.Author.Tests.{leb-true}
use Rattle.model.specs.declared.Setup.{Setup}
use Rattle.model.specs.declared.Refusal.{Refusal}
use Rattle.model.specs.Tests.{when◌then◌else◌, unless◌then◌else◌, ◌and◌}
use Rattle.model.specs.Limits.{is_size, width_ok, crew_ok, words_ok}
use Rattle.model.specs.Calls.{first_length, admitted}
use Rattle.model.proofs.Tests.{and_right}
use Rattle.admission.proofs.Sizes.{size_in}

-- it is refused, or goes on
abbrev pub decided : {A : Type 0} → (Refusal → A) → A → Result ⊤ Refusal → A
decided R x (Ok tt) = x
decided R x (Err r) = R r

abbrev stopped : Setup → ℕ → Result ⊤ Refusal
stopped s n = admitted s n (λ w. Err w) (Ok tt)

-- a refusal more in front
pub one : {A : Type 0} (R : Refusal → A) (x : A) (t : Bool) (r : Refusal) (S : Result ⊤ Refusal) {y : A} → y ≡ decided R x S
    → (unless t then R r else y) ≡ decided R x (unless t then Err r else S)
unfolding when◌then◌else◌
one R x true r S e = e
one R x false r S e = refl

pub outcome : {A : Type 0} (R : Refusal → A) (x : A) (s : Setup) (n : ℕ) → admitted s n R x ≡ decided R x (stopped s n)
outcome R x s n = one R x _ _ _ (one R x _ _ _ (one R x _ _ _ (one R x _ _ _ (one R x _ _ _ (one R x _ _ _ refl)))))

-- of the answer r, where k words were left
pub outcome_of : {A : Type 0} (R : Refusal → A) (x : A) (s : Setup) {n k : ℕ} {r : Result ⊤ Refusal} (t : Result ⊤ Refusal) → r ≡ stopped s k → k ≡ n → r ≡ t
    → admitted s n R x ≡ decided R x t
outcome_of R x s {n} {k} t e f g = outcome R x s n ∙ ap (λ (S : Result ⊤ Refusal). decided R x S) (ap (stopped s) (sym f) ∙ sym e ∙ g)

-- where it goes on, the tests have been passed
pub past : (t : Bool) (r : Refusal) (S : Result ⊤ Refusal) → (unless t then Err r else S) ≡ Ok tt → (t ≡ true) × (S ≡ Ok tt)
unfolding when◌then◌else◌
past true r S e = (refl, e)
past false r S e = (cc, cc)

pub record Admitted (s : Setup) (n : ℕ) : Type 0 where
  pub size : s.size ≤ 1024
  pub words : s.words ≤ 4
  pub fits : first_length s ≤ n

pub admitted_in : (s : Setup) (n : ℕ) → stopped s n ≡ Ok tt → Admitted s n
admitted_in s n e =
    let e1 = (past (ltb 0 s.kind and leb s.kind 5) _ _ e).1 in
    let e2 = past (is_size 10 s.size) _ _ (past (width_ok s.width) _ _ e1).1 in
    let e3 = past (words_ok s.words) _ _ (past (crew_ok s.crew) _ _ e2.1).1 in
    record {
      size = size_in s.size e2.0;
      words = leb-true _ _ (and_right _ _ e3.0);
      fits = leb-true _ _ (past (leb (first_length s) n) _ _ e3.1).0;
    }
