-- Lines lead on to where the program can stand.
use Prim.Native.Nat.{ℕ, zero, suc}
use mathlib.Core.Path.{◌≡◌, refl, ◌∙◌}
use mathlib.Core.Bool.{Bool, true, false}
use mathlib.Core.List.{List}
use lib.Dec.{eqb}
use lib.ListN.{take}
use Rattle.model.specs.declared.Setup.{Setup}
use Rattle.model.specs.declared.Operation.TheVariants.{Put, Take, Steal}
use Rattle.model.specs.declared.Command.{Command}
use Rattle.model.specs.declared.Command.TheVariants.{Open, BeginPut, BeginTake, BeginSteal, Steps, Who, End, Bad}
use Rattle.model.specs.declared.Answer.TheVariants.{Accepted}
use Rattle.model.specs.Tests.{when◌then◌else◌}
use Rattle.model.specs.World.{World, Outcome}
use Rattle.model.specs.Limits.{valid_of}
use Rattle.model.specs.Calls.{fresh_of, setup, Call, call_of, begin, step, step_of}
use Rattle.model.specs.Listing.{Program, waiting, playing, ended, Response, is_refused, opened, respond, steps_of}
use Rattle.theorems.proofs.Reached.{reached_fresh, reached_call, reached_valid}
use Rattle.theorems.proofs.SoundRun.{lone_like}
use Rattle.listing.specs.Consuming.{Live, Reachable}
use Rattle.replies.proofs.Ways.{either, never}

-- a fresh that is not refused is accepted
abbrev Accepts : Outcome → Type 0
Accepts d = is_refused d.answer ≡ false → d.answer ≡ Accepted

fresh_accepts : (s : Setup) (m l : List ℕ) → Accepts (fresh_of s m l)
unfolding fresh_of
fresh_accepts s m l =
    either Accepts _ _ _ (either Accepts _ _ _ (either Accepts _ _ _ (either Accepts _ _ _ (either Accepts _ _ _ (either Accepts _ _ _
    (λ e. refl) (λ e. never e)) (λ e. never e)) (λ e. never e)) (λ e. never e)) (λ e. never e)) (λ e. never e)

-- the program's benches have no delayed stores, and every call keeps it so
abbrev Prompt : Outcome → Type 0
Prompt d = d.world.bench.delayed ≡ false

fresh_prompt : (k w c n v : ℕ) (m l : List ℕ) → Prompt (fresh_of (setup k w c n v) m l)
unfolding fresh_of
fresh_prompt k w c n v m l =
    either Prompt _ _ _ (either Prompt _ _ _ (either Prompt _ _ _ (either Prompt _ _ _ (either Prompt _ _ _ (either Prompt _ _ _ refl refl) refl) refl) refl) refl) refl

live_fresh : (k w c n v : ℕ) (m l : List ℕ) → is_refused (fresh_of (setup k w c n v) m l).answer ≡ false → Live (fresh_of (setup k w c n v) m l).world
live_fresh k w c n v m l e = record {
  reached = reached_fresh (setup k w c n v) m l (fresh_accepts (setup k w c n v) m l e);
  prompt = fresh_prompt k w c n v m l;
}

pub live_call : {W : World} → Live W → (c : Call) → Live (call_of W c).world
live_call {W} r c = record { reached = reached_call r.reached c; prompt = (lone_like W c).delayed ∙ r.prompt }

pub live_valid : {W : World} → Live W → valid_of W ≡ true
live_valid r = reached_valid r.reached

opened_reach : (m l : List ℕ) (d : Outcome) → (is_refused d.answer ≡ false → Live d.world) → Reachable (opened (waiting m l) d).program
unfolding when◌then◌else◌
opened_reach m l d h = go (is_refused d.answer) refl
  where
    go : (b : Bool) → is_refused d.answer ≡ b → Reachable (when b then waiting m l else playing d.world)
    go true e = tt
    go false e = h e

steps_reach : (m : ℕ) (W : World) (i : ℕ) → Live W → Reachable (steps_of W i m).program
unfolding steps_of
steps_reach zero W i r = r
steps_reach (suc m) W i r =
    let next : Live (step_of W i).world = live_call r (step i) in
    either (λ (x : Response). Reachable x.program) (is_refused (step_of W i).answer) _ _ next (steps_reach m (step_of W i).world i next)

pub respond_reach : (P : Program) (c : Command) → Reachable P → Reachable (respond P c).program
unfolding respond
respond_reach (waiting m l) (Open k w c n s v) r = opened_reach m l (fresh_of (setup k w c n v) (take s m) l) (live_fresh k w c n v (take s m) l)
respond_reach (waiting m l) (BeginPut v p) r = tt
respond_reach (waiting m l) BeginTake r = tt
respond_reach (waiting m l) (BeginSteal i) r = tt
respond_reach (waiting m l) (Steps i n) r = tt
respond_reach (waiting m l) (Who i) r = tt
respond_reach (waiting m l) End r = tt
respond_reach (waiting m l) Bad r = tt
respond_reach (playing W) (Open k w c n s v) r = r
respond_reach (playing W) (BeginPut v p) r =
    either (λ (x : Response). Reachable x.program) (eqb v W.bench.words) _ _ (live_call r (begin 0 (Put p))) r
respond_reach (playing W) BeginTake r = live_call r (begin 0 Take)
respond_reach (playing W) (BeginSteal i) r = live_call r (begin i Steal)
respond_reach (playing W) (Steps i n) r = steps_reach n W i r
respond_reach (playing W) (Who i) r = r
respond_reach (playing W) End r = tt
respond_reach (playing W) Bad r = r
respond_reach ended (Open k w c n s v) r = tt
respond_reach ended (BeginPut v p) r = tt
respond_reach ended BeginTake r = tt
respond_reach ended (BeginSteal i) r = tt
respond_reach ended (Steps i n) r = tt
respond_reach ended (Who i) r = tt
respond_reach ended End r = tt
respond_reach ended Bad r = tt
