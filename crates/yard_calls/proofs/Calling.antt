-- A call of queue q, with the store m and the log l: what its stop says of the yard and of the outcome.
use Rattle.std.specs.Prelude.{Result, Ok, Err, ⊤}
use mathlib.Core.Bool.{true}
use mathlib.Core.List.{List, []}
use mathlib.Core.Path.{◌≡◌, refl, sym, ap, subst, ◌∙◌}
use Prim.Native.Nat.{ℕ, ◌<◌}
use native.Mathlib.Omega.{arith}
use lib.Dec.{ltb}
use lib.ListN.{get_or, set}
use lib.Seq.{set-get_or}
use borrow.Author.Tests.{leb-true, ltb-true}
use Rattle.model.specs.declared.Bench.{Bench}
use Rattle.model.specs.declared.Room.{Room}
use Rattle.model.specs.declared.Yard.{Yard}
use Rattle.model.specs.declared.Refusal.{Refusal}
use Rattle.model.specs.World.{Outcome}
use Rattle.model.specs.Limits.{Within}
use Rattle.model.specs.Calls.{lent, who_in, Call, call_in}
use Rattle.model.specs.Yard.{bench_at, room_of, yard_ok, sound_yard, Yields, refuse_all, leaves, on_of, who_at}
use Rattle.model.proofs.Tests.{if_true, and_left, and_right}
use Rattle.state.specs.declared.Returned.{Returned}
use Rattle.state.specs.Outcomes.{returned}
use Rattle.opening.proofs.Admits.{decided, one, past}
use Rattle.plots.specs.Places.{the_ground, fit_for, called}
use Rattle.plots.proofs.Rooms.{kept, within}
use Rattle.yard_calls.specs.declared.Yielded.{Yielded}
use Rattle.yard_calls.specs.Yielding.{yielded, stopped, back_in, refused_in}

-- past the stop the yard is sound and has the queue, whose own call can count on its limits
pub record Past (Y : Yard) (q : ℕ) (m l : List ℕ) : Type 0 where
  pub sound : yard_ok Y m ≡ true
  pub made : q < Y.made
  pub place : q < 4
  pub inside : Within (room_of (the_ground Y m []) q) (lent (bench_at Y q) m l)

pub past_stop : (Y : Yard) (q : ℕ) (m l : List ℕ) {s : Result ⊤ Refusal} → s ≡ called Y q m l (λ w. Err w) (Ok tt) → s ≡ Ok tt → Past Y q m l
past_stop Y q m l e n =
    let a = past (fit_for Y q m l) _ _ (sym e ∙ n) in
    let some = (past (ltb q Y.made) _ _ a.1).0 in
    let sound = and_left (yard_ok Y m) _ a.0 in
    let made : q < Y.made = ltb-true _ _ some in
    let most = (kept Y m sound).0 in
    record {
      sound = sound;
      made = made;
      place = omega (arith, made, most);
      inside = within Y m sound q made l (leb-true _ _ (sym (if_true true some) ∙ and_right (yard_ok Y m) _ a.0));
    }

-- of the bench that was read from its place, and of the room that was worked out for it
pub inside_of : (Y : Yard) (q : ℕ) (m l : List ℕ) {b : Bench} {ρ : Room} → Past Y q m l → b ≡ bench_at Y q → ρ ≡ room_of (the_ground Y m []) q
    → Within ρ (lent b m l)
inside_of Y q m l {b} {ρ} P e f =
    subst (λ (x : Bench). Within ρ (lent x m l)) (sym e)
    (subst (λ (x : Room). Within x (lent (bench_at Y q) m l)) (sym f) P.inside)

-- among other queues' logs
module _ (Y : Yard) (q : ℕ) (m l : List ℕ) (ls : List (List ℕ)) (lies : get_or ls q [] ≡ l) where
  -- any outcome that begins with refusals 12 and 24
  outcome : {A : Type 0} {s : Result ⊤ Refusal} (R : Refusal → A) (f : List ℕ → A) (t : Result ⊤ Refusal) → s ≡ stopped Y q m l → s ≡ t
      → called Y q m (get_or ls q []) R (f (get_or ls q [])) ≡ decided R (f l) t
  outcome R f t e g =
      ap (λ (x : List ℕ). called Y q m x R (f x)) lies
      ∙ one R (f l) _ _ _ (one R (f l) _ _ _ refl)
      ∙ ap (λ (S : Result ⊤ Refusal). decided R (f l) S) (sym e ∙ g)

  abbrev own : Call → List ℕ → Yields
  own c x = leaves (the_ground Y m ls) q (call_in (room_of (the_ground Y m ls) q) (lent (bench_at Y q) m x) c)

  -- a call that is refused there
  pub refuses : (c : Call) {r : Yielded} {s : Result ⊤ Refusal} {w : Refusal} → s ≡ called Y q m l (λ w. Err w) (Ok tt) → s ≡ Err w → r ≡ refused_in Y w
      → yielded r m (set ls q l) ≡ on_of (the_ground Y m ls) q c
  unfolding on_of sound_yard
  refuses c {w = w} e g f =
      ap (λ (x : Yielded). yielded x m (set ls q l)) f
      ∙ ap (λ (x : List (List ℕ)). yielded (refused_in Y w) m x) (ap (set ls q) (sym lies) ∙ set-get_or ls q [])
      ∙ sym (outcome (refuse_all (the_ground Y m ls)) (own c) (Err w) e g)

  -- one that is the queue's own, and leaves the store m2 and the log l2
  pub goes_on_lem : (c : Call) {r : Yielded} {s : Result ⊤ Refusal} {d : Returned} {b : Bench} {ρ : Room} (m2 l2 : List ℕ) → s ≡ called Y q m l (λ w. Err w) (Ok tt) → s ≡ Ok tt
      → b ≡ bench_at Y q → ρ ≡ room_of (the_ground Y m []) q → r ≡ back_in Y q d → returned d m2 l2 ≡ call_in ρ (lent b m l) c
      → yielded r m2 (set ls q l2) ≡ on_of (the_ground Y m ls) q c
  unfolding on_of sound_yard
  goes_on_lem c {b = b} {ρ = ρ} m2 l2 e g here room f did =
      ap (λ (x : Yielded). yielded x m2 (set ls q l2)) f
      ∙ ap (λ (D : Outcome). leaves (the_ground Y m ls) q D)
      (did ∙ ap (λ (x : Bench). call_in ρ (lent x m l) c) here ∙ ap (λ (x : Room). call_in x (lent (bench_at Y q) m l) c) room)
      ∙ sym (outcome (refuse_all (the_ground Y m ls)) (own c) (Ok tt) e g)

  -- either, where no memory is written
  pub calls : (c : Call) {r : Yielded} (s : Result ⊤ Refusal) → s ≡ stopped Y q m l → ((w : Refusal) → s ≡ Err w → r ≡ refused_in Y w)
      → (s ≡ Ok tt → (d : Returned) × (returned d m l ≡ call_in (room_of (the_ground Y m []) q) (lent (bench_at Y q) m l) c) × (r ≡ back_in Y q d))
      → yielded r m (set ls q l) ≡ on_of (the_ground Y m ls) q c
  calls c (Err w) e f g = refuses c e refl (f w refl)
  calls c (Ok tt) e f g = let d = g refl in goes_on_lem c m l e refl refl refl d.2 d.1

  -- who
  pub tallies : (i : ℕ) {s : Result ⊤ Refusal} (t : Result ⊤ Refusal) → s ≡ called Y q m l (λ w. Err w) (Ok tt) → s ≡ t
      → decided Err (who_in (lent (bench_at Y q) m l) i) t ≡ who_at (the_ground Y m ls) q i
  unfolding who_at sound_yard
  tallies i t e g = sym (outcome Err (λ x. who_in (lent (bench_at Y q) m x) i) t e g)
