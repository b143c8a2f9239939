-- A lone queue's list is a list in company: each call finds the room behind its own arrays, and nobody else writes.
use mathlib.Core.Path.{◌≡◌, refl, sym, ◌∙◌, ap, subst}
use mathlib.Core.Bool.{Bool, true, false, true≢false}
use mathlib.Core.List.{List, [], ◌∷◌}
use Prim.Native.Nat.{ℕ, zero, suc, ◌+◌, ◌-◌, ◌≤◌, ◌<◌}
use native.Mathlib.Omega.{arith}
use lib.ListN.{length}
use Rattle.model.specs.declared.Region.{Region}
use Rattle.model.specs.declared.Queue.{Queue}
use Rattle.model.specs.declared.Room.{Room}
use Rattle.model.specs.Tests.{least, when◌then◌else◌}
use Rattle.model.specs.Memory.{offset_at, length_at, size_at, end_at, words_to, usable}
use Rattle.model.specs.Stores.{taken, words_taken, next_length, claiming, in_line, oldest}
use Rattle.model.specs.Limits.{valid_of}
use Rattle.model.specs.World.{World, Outcome, room_alone, line_at, tag_bits}
use Rattle.model.specs.Calls.{Call, call_in, call_of, landing, set_aside}
use Rattle.model.specs.Run.{Played, played, after}
use Rattle.theorems.specs.Demand3.{At}
use Rattle.model.proofs.Alone.{at_most_usable, left_alone}
use Rattle.theorems.proofs.Folds.{laid, arrays_after, claimed_after, store_after}
use Rattle.theorems.proofs.Words.{set_place, set_here, zeros_length}
use Rattle.theorems.proofs.Directory.{Admits, fits_left}
use Rattle.theorems.proofs.ShapeClaim.{words_length}
use Rattle.theorems.proofs.ShapeStep.{claim_only}
use Rattle.theorems.proofs.Valid.{Whole, Snug, valid}
use Rattle.theorems.proofs.Cases.{effect_of, step_to, drain_to, MayStep, MayAside, call_by, alone_is}
use Rattle.theorems.proofs.WholeRun.{thief_calm, call_whole}
use Rattle.theorems.proofs.Company.{Turn, played_in, after_in, InCompany, Any, Accompanied, nobody, calling, of_company}

pub alone_admits : (W : World) → Snug W.bench W.store → Admits (room_alone W) W.bench W.store
alone_admits W s =
    let l = left_alone W in
    let u = at_most_usable W.store in
    record {
      free = record { behind = s.close; inside = omega (arith, l, u, s.fitting) };
      aside = omega (arith, l, s.fitting);
    }

-- the words of arrays in front of the one that is set
pub words_front : (l l' : List Region) (n : ℕ) → ((k : ℕ) → k < n → length_at l' k ≡ length_at l k) → words_to l' n ≡ words_to l n
unfolding words_to
words_front l l' zero f = refl
words_front l l' (suc n) f = omega (arith, words_front l l' n (λ k h. f k (omega arith)), f n (omega arith))

-- what X1 adds
pub record Added (ρ : Room) (q : Queue) : Type 0 where
  pub words_is : words_taken (claiming ρ q) ≡ words_taken q + next_length q
  pub taken_is : taken (claiming ρ q) ≡ ρ.next + next_length q

pub added : (ρ : Room) (q : Queue) → q.claimed < length q.arrays → Added ρ q
unfolding words_to
added ρ q h =
    record {
      words_is = ap (words_to l') {x = q.claimed + 1} {y = suc q.claimed} (omega arith) ∙ omega (arith, words_front q.arrays l' q.claimed (λ k g. (set_place 0 q.arrays q.claimed k ρ.next (next_length q) (omega arith)).1), here.1);
      taken_is = ap (end_at l') {x = q.claimed + 1 - 1} {y = q.claimed} (omega arith) ∙ omega (arith, here.0, here.1);
    }
  where
    l' : List Region
    l' = (claiming ρ q).arrays

    here : (offset_at l' q.claimed ≡ ρ.next) × (length_at l' q.claimed ≡ next_length q) × (size_at 0 l' q.claimed ≡ next_length q)
    here = set_here 0 q.arrays q.claimed ρ.next (next_length q) (next_length q) h (omega arith)

-- a step that claims or not; what it claims is left in the room
record SnugAfter (ρ : Room) (x : Bool) (q : Queue) (n : ℕ) (m : List ℕ) : Type 0 where
  close : end_at (arrays_after ρ x q) (claimed_after x q - 1) ≤ words_to (arrays_after ρ x q) (claimed_after x q)
  fitting : words_to (arrays_after ρ x q) (claimed_after x q) + (when x then 0 else n) ≤ usable m
  long : length (store_after ρ x q m) ≡ length m

snug_after : (W : World) (x : Bool) → Snug W.bench W.store → length W.bench.queue.arrays ≡ 11 → claimed_after x W.bench.queue ≤ 11 → (x ≡ true → next_length W.bench.queue ≤ (room_alone W).left)
    → SnugAfter (room_alone W) x W.bench.queue W.bench.aside W.store
unfolding when◌then◌else◌
snug_after W true s l h fit =
    let q = W.bench.queue in
    let A = added (room_alone W) q (omega (arith, l, h)) in
    let e = left_alone W in
    let f = fit refl in
    let u = at_most_usable W.store in
    record {
      close = omega (arith, A.words_is, A.taken_is, s.close);
      fitting = omega (arith, A.words_is, e, f, s.fitting);
      long = zeros_length W.store (room_alone W).next (next_length q) (omega (arith, e, f, u, s.fitting));
    }
snug_after W false s l h fit = record { close = s.close; fitting = s.fitting; long = refl }

-- only a room that has the array is claimed in
claim_fits : (ρ : Room) {W : World} → Whole W → (i : ℕ) → (effect_of ρ W i).claims ≡ true → next_length W.bench.queue ≤ ρ.left
claim_fits ρ {W} H zero f =
    let ss = in_line W.bench.waiting in
    let C = claim_only ρ W.bench.kind (tag_bits W.bench) W.bench.words (laid ss W.bench.queue) _ 0 (line_at W.bench.workers 0) f in
    fits_left ρ W.bench.words (laid ss W.bench.queue) C.2
claim_fits ρ {W} H (suc k) f = absurd (true≢false (sym f ∙ thief_calm ρ H k))

same_usable : (m m' : List ℕ) → length m' ≡ length m → usable m' ≡ usable m
same_usable m m' e = ap (λ (n : ℕ). least n 10235) e

pub call_snug : (W : World) → Whole W → Snug W.bench W.store → (c : Call) → let U = (call_in (room_alone W) W c).world in Snug U.bench U.store
call_snug W H s c =
    call_by (λ (D : Outcome). Whole D.world → Snug D.world.bench D.world.store) W (λ r l J. s) (room_alone W) (λ i op B J. record { close = s.close; fitting = s.fitting }) stepped (λ i J. record { close = s.close; fitting = s.fitting })
    (λ some J. record { close = s.close; fitting = omega (arith, s.fitting, same_usable W.store (drain_to W).store (words_length W.bench.words W.bench.queue.arrays (oldest W.bench.waiting ∷ []) W.store)) }) asided c
    (call_whole (room_alone W) H (alone_admits W s) c)
  where
    stepped : (i : ℕ) → MayStep (room_alone W) W i → Whole (step_to (room_alone W) W i).world → Snug (step_to (room_alone W) W i).world.bench (step_to (room_alone W) W i).world.store
    stepped i M J =
        let E = effect_of (room_alone W) W i in
        let A = snug_after W E.claims s H.shape.arrays.slots J.shape.arrays.few (claim_fits (room_alone W) H i) in
        record {
          close = A.close;
          fitting =
              omega (
                arith,
                A.fitting,
                same_usable W.store (step_to (room_alone W) W i).world.store (words_length W.bench.words (arrays_after (room_alone W) E.claims W.bench.queue) (landing W.bench.delayed i E.stores) (store_after (room_alone W) E.claims W.bench.queue W.store) ∙ A.long),
              );
        }

    asided : (n : ℕ) → MayAside (room_alone W) W n → Whole (set_aside W n).world → Snug (set_aside W n).world.bench (set_aside W n).world.store
    asided zero A J = record { close = s.close; fitting = omega (arith, s.fitting) }
    asided (suc n) A J =
        let F = A.words (omega arith) in
        let l = fits_left (room_alone W) W.bench.words (laid (in_line W.bench.waiting) W.bench.queue) F.1 in
        record { close = s.close; fitting = omega (arith, F.0, l, left_alone W, s.fitting) }

-- a lone queue that calls reach
pub record Lone (W : World) : Type 0 where
  pub whole : Whole W
  pub snug : Snug W.bench W.store

pub lone_valid : {W : World} → Lone W → valid_of W ≡ true
lone_valid {W} H = valid W H.whole H.snug

lone_next : {W : World} → Lone W → (c : Call) → Lone (call_in (room_alone W) W c).world
lone_next {W} H c = record { whole = call_whole (room_alone W) H.whole (alone_admits W H.snug) c; snug = call_snug W H.whole H.snug c }

pub lone_call : {W : World} → Lone W → (c : Call) → Lone (call_of W c).world
lone_call {W} H c = subst (λ (D : Outcome). Lone D.world) (sym (alone_is W c (lone_valid H))) (lone_next H c)

pub lone_run : (cs : List Call) (W : World) → Lone W → Lone (after W cs)
unfolding after
lone_run [] W H = H
lone_run (c ∷ cs) W H = lone_run cs (call_of W c).world (lone_call H c)

-- what its calls have at a place of the list
pub lone_at : (cs : List Call) (W : World) → Lone W → (j : ℕ) (P Q : Played → Type 0) → ((s : Played) → Lone s.before → P s → Q s) → At (played W cs) j P → At (played W cs) j Q
unfolding played
lone_at [] W H j P Q f a = a
lone_at (c ∷ cs) W H zero P Q f a = f _ H a
lone_at (c ∷ cs) W H (suc j) P Q f a = lone_at cs (call_of W c).world (lone_call H c) j P Q f a

-- its list is one in company, so that what holds of all lists in company holds of it
alone : (cs : List Call) (W : World) → Lone W → Accompanied Any W (played W cs) (after W cs)
unfolding played after
alone [] W H = nobody W
alone (c ∷ cs) W H =
    subst (λ (D : Outcome). Accompanied Any W (record { before = W; call = c; answer = D.answer } ∷ played D.world cs) (after D.world cs))
    (sym (alone_is W c (lone_valid H))) (calling (room_alone W) c (alone_admits W H.snug) tt (alone cs (call_in (room_alone W) W c).world (lone_next H c)))

pub lone_company : (P : List Played → World → Type 0) {W : World} → Lone W → ((ts : List Turn) → InCompany W ts → P (played_in W ts) (after_in W ts)) → (cs : List Call) → P (played W cs) (after W cs)
lone_company P {W} H f cs = of_company P (alone cs W H) f
