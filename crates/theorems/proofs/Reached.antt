-- What is reached from fresh is within the limits, and a call leads on to what is reached.
use mathlib.Core.Path.{◌≡◌, refl, ap, subst, ◌∙◌}
use mathlib.Core.Bool.{true}
use mathlib.Core.List.{List, [], ◌∷◌, ◌++◌}
use Prim.Native.Nat.{ℕ}
use Rattle.model.specs.declared.Setup.{Setup}
use Rattle.model.specs.declared.Answer.TheVariants.{Accepted}
use Rattle.model.specs.World.{World}
use Rattle.model.specs.Limits.{valid_of}
use Rattle.model.specs.Calls.{fresh_of, Call, call_of}
use Rattle.model.specs.Run.{after}
use Rattle.theorems.specs.Reached.{Reached}
use Rattle.theorems.proofs.NeverForeign.{never_foreign}

after_one : (W : World) (cs : List Call) (c : Call) → after W (cs ++ c ∷ []) ≡ (call_of (after W cs) c).world
unfolding after
after_one W [] c = refl
after_one W (d ∷ cs) c = after_one (call_of W d).world cs c

pub reached_fresh : (s : Setup) (m l : List ℕ) → (fresh_of s m l).answer ≡ Accepted → Reached (fresh_of s m l).world
unfolding after
reached_fresh s m l e = record { setup = s; store = m; log = l; accepted = e; calls = []; reaches = refl }

pub reached_call : {W : World} → Reached W → (c : Call) → Reached (call_of W c).world
reached_call {W = W} r c = record {
  setup = r.setup;
  store = r.store;
  log = r.log;
  accepted = r.accepted;
  calls = r.calls ++ c ∷ [];
  reaches = after_one _ r.calls c ∙ ap (λ (X : World). (call_of X c).world) r.reaches;
}

pub reached_valid : {W : World} → Reached W → valid_of W ≡ true
reached_valid {W = W} r = subst (λ (X : World). valid_of X ≡ true) r.reaches (never_foreign r.setup r.store r.log r.accepted r.calls).valid
