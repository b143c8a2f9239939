-- Delayed stores, tried by computation: what the claims say of drains, and that they are false of puts that have only finished.
use mathlib.Core.Path.{◌≡◌, refl}
use mathlib.Core.Bool.{true, false}
use mathlib.Core.Logic.{inr}
use mathlib.Core.List.{List, [], ◌∷◌, ◌++◌}
use Prim.Native.Nat.{ℕ}
use native.Mathlib.Omega.{arith}
use lib.ListN.{replicate}
use Rattle.model.specs.declared.Operation.TheVariants.{Put, Take, Steal}
use Rattle.model.specs.Tests.{when◌then◌else◌, ◌and◌, ◌or◌}
use Rattle.model.specs.Memory.{zeros, word_at, set_word, offset_at, length_at, size_at, words_to}
use Rattle.model.specs.Tasks.{word_in, with_word, gathered}
use Rattle.model.proofs.Runs.{one}
use Rattle.model.specs.Figures.{anchor}
use Rattle.model.specs.Stores.{landed_all}
use Rattle.model.specs.Lines.{line_step}
use Rattle.model.specs.World.{World}
use Rattle.model.specs.Limits.{valid_of}
use Rattle.model.specs.Calls.{fresh_of, setup_in, begin_of, step_of, drain_of, Call, begin, step, drain}
use Rattle.model.specs.Run.{played, after}
use Rattle.model.specs.Window.{window_size}
use Rattle.theorems.specs.Demand3.{At, Empties, DrainedBy, Stands, between}
use Rattle.theorems.specs.AsBefore.{finished}
use Rattle.premise.specs.Premise.{Loses}
use Rattle.premise.proofs.Rounds.{short}
use Rattle.examples.proofs.Examples.{any_out, is_out, none_out, is_step, starts_attempt, any_start, newest_by, does}

-- the bench of P1, with delayed stores
unfoldable pub delayed : World
delayed = (fresh_of (setup_in 1 1 2 2 1 true) (replicate 12 0) (replicate 64 0)).world

-- A PUT THAT WAITS: put 1 finishes at place 5 and is not drained by the thief's line 1 at place 7
unfoldable pub unseen : List Call
unseen = does (begin 0 (Put (one 65))) ++ begin 1 Steal ∷ step 1 ∷ step 1 ∷ []

-- the thief is answered EMPTY at place 8, the put's task stands in the window, and it was not handed out
pub put_unseen : At (played delayed unseen) 8 (Empties 1) × Stands (after delayed unseen) (short 1 65) × (any_out (short 1 65) (played delayed unseen) ≡ false)
unfolding delayed unseen does any_out is_out played after fresh_of begin_of step_of drain_of valid_of words_to line_step landed_all zeros word_at set_word offset_at length_at size_at gathered word_in with_word when◌then◌else◌ ◌and◌ ◌or◌
put_unseen = (refl, (0, omega arith, refl), refl)

-- its store is the last of three: the third drain brings it to memory
unfoldable pub drained_put : List Call
drained_put = does (begin 0 (Put (one 65))) ++ replicate 3 drain ++ begin 1 Steal ∷ []

pub three_drains : DrainedBy (played delayed drained_put) 5 9 × (DrainedBy (played delayed drained_put) 5 8 → ⊥)
unfolding delayed drained_put does played after fresh_of begin_of step_of drain_of valid_of words_to line_step landed_all zeros word_at set_word offset_at length_at size_at gathered word_in with_word when◌then◌else◌ ◌and◌ ◌or◌
three_drains = (omega arith, λ h. omega arith)

-- A TAG OF ONE BIT: put 1 is drained; a take, put 2, a take and put 3 fill the line; the thief's line 1 at place 34 reads put 1's
-- anchor; eight drains; its compare is at place 47
unfoldable pub wrapped : List Call
wrapped =
    does (begin 0 (Put (one 65))) ++ replicate 3 drain ++ does (begin 0 Take) ++ does (begin 0 (Put (one 66))) ++ does (begin 0 Take)
    ++ does (begin 0 (Put (one 67))) ++ does (begin 1 Steal) ++ replicate 8 drain ++ step 1 ∷ []

-- two puts are drained between, and put 3 is lost
pub wrapped_loses : Loses delayed wrapped 2
unfolding delayed wrapped does any_out is_out any_start starts_attempt is_step played after fresh_of begin_of step_of drain_of valid_of words_to line_step landed_all zeros word_at set_word offset_at length_at size_at gathered word_in with_word when◌then◌else◌ ◌and◌ ◌or◌
wrapped_loses =
    record {
      thief = 1;
      line1 = 34;
      compare = 47;
      compares = (anchor 0 1 1, 0, short 1 65, (refl, refl, λ r e. let z : ◌≡◌ {A = ℕ} 0 1 = cc in omega arith));
      attempt =
          record {
            before = omega arith;
            line1 = inr (refl, refl, λ r e. let z : ◌≡◌ {A = ℕ} 0 1 = cc in omega arith);
            newest = newest_by (played delayed wrapped) 1 34 47 refl;
          };
      puts_between = refl;
      begun = 27;
      finished = 32;
      task = short 3 67;
      done = record { begun = (3, one 67, refl, refl, refl); later = omega arith; finished = (0, refl) };
      not_handed_out = none_out (short 3 67) (played delayed wrapped) refl;
      not_standing = λ s. let z : window_size (after delayed wrapped) ≡ 0 = refl in omega (arith, s.1);
    }

-- though none finishes there: a premise by finished puts would be false
pub none_finishes : finished (between 34 47 (played delayed wrapped)) ≡ 0
unfolding delayed wrapped does played after fresh_of begin_of step_of drain_of valid_of words_to line_step landed_all zeros word_at set_word offset_at length_at size_at gathered word_in with_word when◌then◌else◌ ◌and◌ ◌or◌
none_finishes = refl
