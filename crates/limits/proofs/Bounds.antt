-- What the limits on one queue say of a state's numbers.
use mathlib.Core.Bool.{true}
use mathlib.Core.Path.{◌≡◌}
use Prim.Native.Nat.{◌≤◌, ◌<◌}
use borrow.Author.Tests.{ltb-true, leb-true}
use Rattle.model.specs.declared.Bench.{Bench}
use Rattle.model.specs.World.{World, owners_view}
use Rattle.model.specs.Limits.{bench_ok}
use Rattle.model.proofs.Tests.{and_left, and_right}

pub record Bounds (b : Bench) : Type 0 where
  pub wide : (0 < b.words) × (b.words ≤ 4)
  pub crew : b.crew ≤ 8
  pub used : b.used ≤ 65535

pub bounds_of : (W : World) → bench_ok W.bench W.bench.queue (owners_view W).queue ≡ true → Bounds W.bench
bounds_of W v =
    let words = and_right _ _ (and_right _ _ v) in
    let crew = and_right _ _ words in
    let anchors = and_right _ _ (and_right _ _ crew) in
    let used = and_right _ _ (and_right _ _ anchors) in
    record {
      wide = (ltb-true _ _ (and_left _ _ (and_left _ _ words)), leb-true _ _ (and_right _ _ (and_left _ _ words)));
      crew = leb-true _ _ (and_right _ _ (and_left _ _ crew));
      used = leb-true _ _ (and_left _ _ used);
    }
