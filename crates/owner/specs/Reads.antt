-- What lifting the waiting words needs, and what of an action is not delayed.
use Rattle.std.specs.Prelude.{◌≡◌, ℕ, ◌≤◌}
use Rattle.model.specs.declared.Waiting.{Waiting}
use Rattle.model.specs.declared.Bench.{Bench}
use Rattle.model.specs.Stores.{in_line}
use Rattle.lines.specs.declared.Action.{Action}
use Rattle.lines.specs.declared.Action.TheVariants.{Nothing, Fails, Stores, Copies, Claims, Stops, Ends}
use Rattle.lines.specs.Actions.{Doable}
use Rattle.slots.specs.Bounds.{Wide}
use Rattle.machine.specs.declared.Made.{Made}
use Rattle.machine.specs.declared.Made.TheVariants.{Waits}
use Rattle.waiting.specs.Places.{AllPlaced}

-- the waiting words can be lifted from a store of n words
pub record Lifts (b : Bench) (n : ℕ) : Type 0 where
  pub wide : Wide b.words
  pub few : b.waiting.count ≤ 8
  pub placed : AllPlaced b.words b.queue n (in_line b.waiting)

-- an action without its stores
unfoldable pub at_once : Action → Action
at_once Nothing = Nothing
at_once Fails = Nothing
at_once (Stores s) = Nothing
at_once (Copies k t u) = Nothing
at_once (Claims a z) = Claims a z
at_once (Stops x) = Stops x
at_once (Ends s x) = Stops x

-- of an action that waits, what is done at once can be done in a store of n words
abbrev pub Finishable : Bench → ℕ → Made → Type 0
Finishable b n x = (d : Action) → x ≡ Waits d → Doable b.words b.queue n (at_once d)

-- a state with the waiting line s
abbrev pub waits : Bench → Waiting → Bench
waits b s =
    record {
      kind = b.kind;
      width = b.width;
      words = b.words;
      delayed = b.delayed;
      crew = b.crew;
      queue = b.queue;
      waiting = s;
      aside = b.aside;
      used = b.used;
      restarts = b.restarts;
      written = b.written;
      workers = b.workers;
    }
