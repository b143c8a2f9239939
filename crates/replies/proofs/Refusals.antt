-- Lines that are refused 13 whatever the bench is.
use mathlib.Core.Bool.{true}
use mathlib.Core.List.{List}
use mathlib.Core.Path.{◌≡◌, refl}
use Prim.Native.Nat.{ℕ}
use Rattle.model.specs.declared.Payload.{Payload}
use Rattle.model.specs.declared.Command.{Command}
use Rattle.model.specs.declared.Command.TheVariants.{Open, BeginPut, BeginTake, BeginSteal, Steps, Who, End, Bad}
use Rattle.model.specs.World.{World}
use Rattle.model.specs.Listing.{waiting, playing, respond, bad}
use Rattle.std.specs.declared.option.Option.TheVariants.{None}
use Rattle.replies.specs.Choices.{asked_of}
use Rattle.replies.proofs.Replies.{asks_steps}

-- while the program waits, all but a `queue`
pub waits_bad : (m l : List ℕ) (x : Command) → ((k w z n s v : ℕ) → x ≡ Open k w z n s v → ⊥) → respond (waiting m l) x ≡ bad (waiting m l)
unfolding respond
waits_bad m l (Open k w z n s v) h = absurd (h k w z n s v refl)
waits_bad m l (BeginPut v p) h = refl
waits_bad m l BeginTake h = refl
waits_bad m l (BeginSteal i) h = refl
waits_bad m l (Steps i n) h = refl
waits_bad m l (Who i) h = refl
waits_bad m l End h = refl
waits_bad m l Bad h = refl

-- while a bench is played, a `queue` and what is no line of the form; a `step` is asked elsewhere
pub plays_bad : (W : World) (x : Command) → asked_of true x ≡ None → ((v : ℕ) (p : Payload) → x ≡ BeginPut v p → ⊥) → (x ≡ BeginTake → ⊥)
    → ((i : ℕ) → x ≡ BeginSteal i → ⊥) → ((i : ℕ) → x ≡ Who i → ⊥) → (x ≡ End → ⊥) → respond (playing W) x ≡ bad (playing W)
unfolding respond
plays_bad W (Open k w z n s v) q put take steal who end = refl
plays_bad W (BeginPut v p) q put take steal who end = absurd (put v p refl)
plays_bad W BeginTake q put take steal who end = absurd (take refl)
plays_bad W (BeginSteal i) q put take steal who end = absurd (steal i refl)
plays_bad W (Steps i n) q put take steal who end = absurd (asks_steps _ _ _ refl q)
plays_bad W (Who i) q put take steal who end = absurd (who i refl)
plays_bad W End q put take steal who end = absurd (end refl)
plays_bad W Bad q put take steal who end = refl
