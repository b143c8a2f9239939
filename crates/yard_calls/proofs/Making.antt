-- A making: what its stop says of the yard and of the outcome.
use Rattle.std.specs.Prelude.{Result, Ok, Err, ⊤}
use mathlib.Core.Bool.{true}
use mathlib.Core.List.{List, []}
use mathlib.Core.Path.{◌≡◌, refl, sym, ap, subst, ◌∙◌}
use Prim.Native.Nat.{ℕ, ◌+◌, ◌≤◌, ◌<◌}
use native.Mathlib.Omega.{arith}
use lib.Dec.{ltb, leb}
use lib.ListN.{length}
use borrow.Author.Tests.{ltb-true}
use Rattle.model.specs.declared.Bench.{Bench}
use Rattle.model.specs.declared.Setup.{Setup}
use Rattle.model.specs.declared.Yard.{Yard}
use Rattle.model.specs.declared.Refusal.{Refusal}
use Rattle.model.specs.declared.Refusal.TheVariants.{ShortQuota}
use Rattle.model.specs.declared.Answer.TheVariants.{Accepted}
use Rattle.model.specs.Tests.{unless◌then◌else◌}
use Rattle.model.specs.Memory.{zeros}
use Rattle.model.specs.Calls.{new_bench, first_length}
use Rattle.model.specs.Yard.{claimed_words, words_left, yard_ok, sound_yard, Yields, refuse_all, making, make_of}
use Rattle.model.proofs.Alone.{at_most_usable}
use Rattle.opening.proofs.Admits.{decided, one, past, outcome, admitted_in}
use Rattle.plots.specs.Places.{the_ground}
use Rattle.plots.proofs.Rooms.{fits}
use Rattle.yard_calls.specs.declared.Yielded.{Yielded}
use Rattle.yard_calls.specs.Yielding.{yielded, with_one, refused_in, makes}

-- refusal 23, past all others
abbrev pub last : Setup → ℕ → Result ⊤ Refusal
last s quota = unless leb (first_length s) quota then Err ShortQuota else (Ok tt)

-- past the stop
pub record Free (Y : Yard) (s : Setup) (m : List ℕ) : Type 0 where
  pub sound : yard_ok Y m ≡ true
  pub made : Y.made < 4
  pub size : s.size ≤ 1024
  pub words : s.words ≤ 4
  pub inside : claimed_words Y + first_length s ≤ length m

both_go : (x t : Result ⊤ Refusal) → decided (λ w. Err w) x t ≡ Ok tt → t ≡ Ok tt
both_go x (Ok tt) e = refl
both_go x (Err r) e = e

module _ (Y : Yard) (s : Setup) (quota : ℕ) (m : List ℕ) where
  pub free : {t : Result ⊤ Refusal} → t ≡ makes Y s quota m (λ w. Err w) (Ok tt) → t ≡ Ok tt → Free Y s m
  free e n =
      let left = words_left (the_ground Y m []) in
      let a = past (yard_ok Y m) _ _ (sym e ∙ n) in
      let b = past (ltb Y.made 4) _ _ a.1 in
      let A = admitted_in s left (both_go (last s quota) _ (sym (outcome (λ w. Err w) (last s quota) s left) ∙ b.1)) in
      record {
        sound = a.0;
        made = ltb-true _ _ b.0;
        size = A.size;
        words = A.words;
        inside = omega (arith, A.fits, fits Y m a.0, at_most_usable m);
      }

  module _ (ls : List (List ℕ)) (l : List ℕ) where
    abbrev made : Yields
    made = record { the_ground = making (the_ground Y m ls) s quota l; answer = Accepted }

    makes_is : (t : Result ⊤ Refusal) {r : Result ⊤ Refusal} → r ≡ makes Y s quota m (λ w. Err w) (Ok tt) → r ≡ t → make_of (the_ground Y m ls) s quota l ≡ decided (refuse_all (the_ground Y m ls)) made t
    unfolding make_of sound_yard
    makes_is t e g =
        let R : Refusal → Yields = refuse_all (the_ground Y m ls) in
        one R made _ _ _ (one R made _ _ _ (one R made _ _ _ (one R made _ _ _ (one R made _ _ _ (one R made _ _ _ (one R made _ _ _ (one R made _ _ _ (one R made _ _ _ refl))))))))
        ∙ ap (λ (S : Result ⊤ Refusal). decided R made S) (sym e ∙ g)

    -- the logs are the caller's, so those of the definition
    as_made : {r : Yielded} {k : List ℕ} {D E : Yields} → D ≡ E → yielded r k E.the_ground.logs ≡ E → yielded r k D.the_ground.logs ≡ D
    as_made {r} {k} e f = subst (λ (X : Yields). yielded r k X.the_ground.logs ≡ X) (sym e) f

    pub not_made : {r : Yielded} {t : Result ⊤ Refusal} {w : Refusal} → t ≡ makes Y s quota m (λ w. Err w) (Ok tt) → t ≡ Err w → r ≡ refused_in Y w
        → yielded r m (make_of (the_ground Y m ls) s quota l).the_ground.logs ≡ make_of (the_ground Y m ls) s quota l
    not_made {w = w} e g f = as_made (makes_is (Err w) e g) (ap (λ (x : Yielded). yielded x m ls) f)

    pub one_made : {r : Yielded} {t : Result ⊤ Refusal} {k : List ℕ} {b : Bench} {o n : ℕ} → t ≡ makes Y s quota m (λ w. Err w) (Ok tt) → t ≡ Ok tt → o ≡ claimed_words Y
        → n ≡ first_length s → k ≡ zeros m o n → b ≡ new_bench o s → r ≡ with_one Y b quota
        → yielded r k (make_of (the_ground Y m ls) s quota l).the_ground.logs ≡ make_of (the_ground Y m ls) s quota l
    one_made {k = k} {n = n} e g at long z b f =
        let logs = made.the_ground.logs in
        let next = with_one Y (new_bench (claimed_words Y) s) quota in
        as_made (makes_is (Ok tt) e g)
        (ap (λ (x : Yielded). yielded x k logs) (f ∙ ap (λ (x : Bench). with_one Y x quota) (b ∙ ap (λ (x : ℕ). new_bench x s) at))
        ∙ ap (λ (x : List ℕ). yielded next x logs) (z ∙ ap (λ (x : ℕ). zeros m x n) at ∙ ap (zeros m (claimed_words Y)) long))
