-- What the limits on a queue alone say for X1's room: something is claimed, and its words lie end to end in the store's usable ones.
use mathlib.Core.Bool.{true}
use mathlib.Core.Path.{◌≡◌}
use Prim.Native.Nat.{◌+◌, ◌≤◌, ◌<◌}
use native.Mathlib.Omega.{arith}
use lib.Dec.{leb}
use borrow.Author.Tests.{leb-true}
use Rattle.model.specs.Memory.{usable}
use Rattle.model.specs.Stores.{taken, words_taken}
use Rattle.model.specs.World.{World, owners_view}
use Rattle.model.specs.Limits.{bench_ok, log_ok, valid_of}
use Rattle.model.proofs.Tests.{and_right}
use Rattle.model.proofs.Alone.{words_alone, within_alone}
use Rattle.limits.proofs.Waits.{laid}

-- those set aside counted
pub fits_alone : (W : World) → valid_of W ≡ true → words_taken W.bench.queue + W.bench.aside ≤ usable W.store
unfolding valid_of
fits_alone W v =
    leb-true _ _
    (and_right (leb (taken W.bench.queue) (words_taken W.bench.queue)) _
    (and_right (log_ok W.bench W.log) _ (and_right (bench_ok W.bench W.bench.queue (owners_view W).queue) _ v)))

-- the premises of `slots::room_alone`
pub room_alone_lem : (W : World) → valid_of W ≡ true
    → ((0 < W.bench.queue.claimed) × (W.bench.queue.claimed ≤ 11))
    × ((words_taken W.bench.queue ≡ taken W.bench.queue) × (taken W.bench.queue ≤ usable W.store))
room_alone_lem W v =
    let L = laid W (within_alone W v).limits in
    let e = words_alone W v in
    let f = fits_alone W v in
    ((L.some, L.listed), (e, omega (arith, e, f)))
