use mathlib.Core.Path.{◌≡◌, ap, ◌∙◌}
use Prim.Native.Nat.{ℕ, ◌+◌, ◌-◌}
use native.Mathlib.Omega.{arith}
use lib.ListN.{length}
use Rattle.model.specs.declared.Room.{Room}
use Rattle.model.specs.Tests.{least}
use Rattle.model.specs.Memory.{usable}
use Rattle.model.specs.Stores.{words_taken}
use Rattle.model.specs.Yard.{bench_at, queue_at, quota_at, claimed_by, held_by, claimed_words, aside_words}
use Rattle.model.proofs.Alone.{least_right}
use Rattle.plots.proofs.Kept.{laid_at, within_quota}
use Rattle.plots.proofs.Rooms.{kept, fits, own_aside, same_room, min_least}
use Rattle.plots.proofs.room_of.Goals as goal

pub words_taken-own-requires : goal.words_taken-own-requires
words_taken-own-requires c = laid_at c.args.yard (kept c.args.yard c.args.store.now c.requires.store_value) c.args.queue c.requires.queue_lt_made c.bench_at-bench.ensures

pub overflow_add-free : goal.overflow_add-free
overflow_add-free c = let Y = c.args.yard in
    let left : c.room_left-room.result.left ≡ usable c.args.store.now - (claimed_words Y + aside_words Y) = ap (λ (r : Room). r.left) c.room_left-room.ensures in
    let aside : c.bench_at-bench.result.aside ≡ (bench_at Y c.args.queue).aside = ap held_by c.bench_at-bench.ensures in
    omega (arith, left, aside, own_aside Y c.args.store.now c.requires.store_value c.args.queue c.requires.queue_lt_made, least_right (length c.args.store.now) 10235, fits Y c.args.store.now c.requires.store_value)

pub overflow_sub-rest : goal.overflow_sub-rest
overflow_sub-rest c = let Y = c.args.yard in
    omega (arith, c.quota_at.ensures, c.words_taken-own.ensures, within_quota Y (kept Y c.args.store.now c.requires.store_value) c.args.queue c.requires.queue_lt_made c.bench_at-bench.ensures)

pub returns : goal.returns
returns c = let Y = c.args.yard in
    let m = c.args.store.now in
    let q = c.args.queue in
    let next : c.room_left-room.result.next ≡ claimed_words Y = ap (λ (r : Room). r.next) c.room_left-room.ensures in
    let left : c.room_left-room.result.left ≡ usable m - (claimed_words Y + aside_words Y) = ap (λ (r : Room). r.left) c.room_left-room.ensures in
    let aside : c.bench_at-bench.result.aside ≡ (bench_at Y q).aside = ap held_by c.bench_at-bench.ensures in
    let free : c.room_left-room.result.left + c.bench_at-bench.result.aside ≡ usable m - (claimed_words Y + (aside_words Y - (bench_at Y q).aside)) = omega (arith, left, aside, own_aside Y m c.requires.store_value q c.requires.queue_lt_made, fits Y m c.requires.store_value) in
    let words : c.words_taken-own.result ≡ words_taken (queue_at Y q) = c.words_taken-own.ensures ∙ ap claimed_by c.bench_at-bench.ensures in
    let rest : c.quota_at.result - c.words_taken-own.result ≡ quota_at Y q - words_taken (queue_at Y q) = omega (arith, c.quota_at.ensures, words) in
    same_room next (c.min.ensures ∙ min_least _ _ ∙ ap (λ (x : ℕ). least x (c.quota_at.result - c.words_taken-own.result)) free ∙ ap (least (usable m - (claimed_words Y + (aside_words Y - (bench_at Y q).aside)))) rest)
