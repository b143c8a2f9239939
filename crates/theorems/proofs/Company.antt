-- One queue in company: a list of its own calls, each of which finds some room that it admits, and of what others write outside
-- its arrays. A lone queue's list is such a list (Alone).
use mathlib.Core.Path.{◌≡◌, refl, ap, subst₂}
use mathlib.Core.List.{List, [], ◌∷◌}
use Prim.Native.Nat.{ℕ}
use Rattle.model.specs.declared.Room.{Room}
use Rattle.model.specs.World.{World}
use Rattle.model.specs.Calls.{Call, call_in}
use Rattle.model.specs.Run.{Played}
use Rattle.theorems.proofs.Directory.{Admits, Others}
use Rattle.theorems.proofs.Valid.{Whole}
use Rattle.theorems.proofs.WholeRun.{storing, call_whole, others_whole}

pub data Turn : Type 0 where
  others : List ℕ → Turn
  own : Room → Call → Turn

-- the queue's calls, and what the last turn left
unfoldable pub played_in : World → List Turn → List Played
played_in W [] = []
played_in W (others m ∷ ts) = played_in (storing W m) ts
played_in W (own ρ c ∷ ts) = record { before = W; call = c; answer = (call_in ρ W c).answer } ∷ played_in (call_in ρ W c).world ts

unfoldable pub after_in : World → List Turn → World
after_in W [] = W
after_in W (others m ∷ ts) = after_in (storing W m) ts
after_in W (own ρ c ∷ ts) = after_in (call_in ρ W c).world ts

-- each turn is admitted
unfoldable pub InCompany : World → List Turn → Type 0
InCompany W [] = Unit {0}
InCompany W (others m ∷ ts) = Others W.bench.queue W.store m × InCompany (storing W m) ts
InCompany W (own ρ c ∷ ts) = Admits ρ W.bench W.store × InCompany (call_in ρ W c).world ts

pub whole_run : (ts : List Turn) (W : World) → Whole W → InCompany W ts → Whole (after_in W ts)
unfolding after_in InCompany
whole_run [] W H C = H
whole_run (others m ∷ ts) W H (O, C) = whole_run ts (storing W m) (others_whole H O) C
whole_run (own ρ c ∷ ts) W H (R, C) = whole_run ts (call_in ρ W c).world (call_whole ρ H R c) C

-- and finds a room of which E holds
unfoldable pub Each : (Room → World → Type 0) → World → List Turn → Type 0
Each E W [] = Unit {0}
Each E W (others m ∷ ts) = Each E (storing W m) ts
Each E W (own ρ c ∷ ts) = E ρ W × Each E (call_in ρ W c).world ts

abbrev pub Any : Room → World → Type 0
Any ρ W = Unit {0}

-- from U to X the queue's calls are T
pub record Accompanied (E : Room → World → Type 0) (U : World) (T : List Played) (X : World) : Type 0 where
  pub turns : List Turn
  pub admitted : InCompany U turns
  pub each : Each E U turns
  pub plays : played_in U turns ≡ T
  pub leaves : after_in U turns ≡ X

module _ {E : Room → World → Type 0} where
  pub nobody : (U : World) → Accompanied E U [] U
  unfolding played_in after_in InCompany Each
  nobody U = record { turns = []; admitted = tt; each = tt; plays = refl; leaves = refl }

  pub passing : {U X : World} {T : List Played} (m : List ℕ) → Others U.bench.queue U.store m → Accompanied E (storing U m) T X → Accompanied E U T X
  unfolding played_in after_in InCompany Each
  passing m O A = record { turns = others m ∷ A.turns; admitted = (O, A.admitted); each = A.each; plays = A.plays; leaves = A.leaves }

  pub calling : {U X : World} {T : List Played} (ρ : Room) (c : Call) → Admits ρ U.bench U.store → E ρ U → Accompanied E (call_in ρ U c).world T X
      → Accompanied E U (record { before = U; call = c; answer = (call_in ρ U c).answer } ∷ T) X
  unfolding played_in after_in InCompany Each
  calling {U} ρ c R e A =
      record {
        turns = own ρ c ∷ A.turns;
        admitted = (R, A.admitted);
        each = (e, A.each);
        plays = ap (λ (T : List Played). record { before = U; call = c; answer = (call_in ρ U c).answer } ∷ T) A.plays;
        leaves = A.leaves;
      }

  -- what holds of all lists in company holds of it
  pub of_company : (P : List Played → World → Type 0) {U X : World} {T : List Played} → Accompanied E U T X → ((ts : List Turn) → InCompany U ts → P (played_in U ts) (after_in U ts)) → P T X
  of_company P A f = subst₂ P A.plays A.leaves (f A.turns A.admitted)

  pub of_each : (P : List Played → World → Type 0) {U X : World} {T : List Played} → Accompanied E U T X → ((ts : List Turn) → InCompany U ts → Each E U ts → P (played_in U ts) (after_in U ts)) → P T X
  of_each P A f = subst₂ P A.plays A.leaves (f A.turns A.admitted A.each)
