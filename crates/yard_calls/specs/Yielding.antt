-- What a call of a yard leaves: its reply, with the store m and the logs ls as they are then; and a making's refusals.
use Rattle.std.specs.Prelude.{Result, Ok, Err, ⊤, List, [], ℕ, ◌+◌, ltb, leb, set}
use Rattle.model.specs.declared.Bench.{Bench}
use Rattle.model.specs.declared.Setup.{Setup}
use Rattle.model.specs.declared.Yard.{Yard}
use Rattle.model.specs.declared.Refusal.{Refusal}
use Rattle.model.specs.declared.Refusal.TheVariants.{ForeignState, ShortQuota, NoSuchQueue}
use Rattle.model.specs.declared.Answer.TheVariants.{Accepted, Refused}
use Rattle.model.specs.Tests.{unless◌then◌else◌}
use Rattle.model.specs.Calls.{first_length, admitted}
use Rattle.model.specs.Yard.{with_bench, words_left, yard_ok, Yields}
use Rattle.state.specs.declared.Returned.{Returned}
use Rattle.plots.specs.Places.{the_ground, called}
use Rattle.yard_calls.specs.declared.Yielded.{Yielded}

abbrev pub yielded : Yielded → List ℕ → List (List ℕ) → Yields
yielded r m ls = record { the_ground = the_ground r.yard m ls; answer = r.answer }

-- what stops a call of queue q, if anything does
abbrev pub stopped : Yard → ℕ → List ℕ → List ℕ → Result ⊤ Refusal
stopped Y q m l = called Y q m l (λ w. Err w) (Ok tt)

-- the yard with queue q as its own call left it
abbrev pub back_in : Yard → ℕ → Returned → Yielded
back_in Y q d =
    record {
      yard = with_bench Y q d.bench;
      answer = d.answer;
    }

-- with one queue more
abbrev pub with_one : Yard → Bench → ℕ → Yielded
with_one Y b n =
    record {
      yard = record { plots = set Y.plots Y.made (record { bench = b; quota = n }); made = Y.made + 1 };
      answer = Accepted;
    }

-- as it came in
abbrev pub refused_in : Yard → Refusal → Yielded
refused_in Y w = record { yard = Y; answer = Refused w }

-- a making's refusals, each answered by R; else x
abbrev pub makes : {A : Type 0} → Yard → Setup → ℕ → List ℕ → (Refusal → A) → A → A
makes Y s quota m R x =
    unless yard_ok Y m then R ForeignState
    else unless ltb Y.made 4 then R NoSuchQueue
    else admitted s (words_left (the_ground Y m [])) R
    (unless leb (first_length s) quota then R ShortQuota
    else x)
