-- What a sound yard says: of its queues' limits, of its words, and of the room that X1 finds for one of them.
use mathlib.Core.Bool.{Bool, true, false}
use mathlib.Core.List.{List, [], ◌∷◌}
use mathlib.Core.Path.{◌≡◌, refl, sym, ap, subst, ◌∙◌}
use Prim.Native.Nat.{ℕ, ◌+◌, ◌-◌, ◌≤◌, ◌<◌}
use native.Mathlib.Omega.{arith}
use lib.Dec.{leb}
use lib.ListN.{length}
use Rattle.std.proofs.Common.{min}
use native.Mathlib.Nat.{min-eq_left, min-eq_right}
use borrow.Author.Tests.{leb-true, leb-false}
use Rattle.model.specs.declared.Room.{Room}
use Rattle.model.specs.declared.Queue.{Queue}
use Rattle.model.specs.declared.Yard.{Yard}
use Rattle.model.specs.declared.Store.{Store}
use Rattle.model.specs.declared.Store.TheVariants.{StoreWord, StoreNote, StorePut, StoreOut, StoreHead, StoreTail}
use Rattle.model.specs.Tests.{◌and◌, least}
use Rattle.model.specs.Memory.{usable}
use Rattle.model.specs.Stores.{Shared, shared, landed, landed_all, in_line, words_taken}
use Rattle.model.specs.Limits.{bench_ok, Within}
use Rattle.model.specs.Calls.{lent}
use Rattle.model.specs.Yard.{bench_at, quota_at, owners_queue, held_by, claimed_words, aside_words, room_of, all_below, place_ok, yard_ok}
use Rattle.model.proofs.Tests.{if_true, if_false, fails, and_left, and_right, and_assoc, and_false}
use Rattle.model.proofs.Alone.{least_left, least_right, at_most_usable}
use Rattle.plots.specs.Places.{keeps_at, Kept, lies_at, the_ground}
use Rattle.plots.proofs.Every.{each, by_parts, part_of}

-- a place's limits are those that do not look at other queues, and those that do
pub place_parts : (Y : Yard) (n : ℕ) → all_below (place_ok Y) n ≡ (all_below (keeps_at Y) n and all_below (lies_at Y) n)
place_parts Y n = by_parts (place_ok Y) (keeps_at Y) (lies_at Y) (λ q. and_assoc _ _ _) n

-- a yard one of whose places is not in order
pub unplaced : (a : Bool) {b : Bool} (d : Bool) → b ≡ false → (a and b and d) ≡ false
unplaced a d e = ap (λ (x : Bool). a and x) (fails d e) ∙ and_false a

-- what the owner reads of its queue does not depend on the store's words
one_store : (v : ℕ) (q : Queue) (m k : List ℕ) (s : Store) → landed v (shared q m) s ≡ shared (landed v (shared q k) s).queue (landed v (shared q m) s).store
one_store v q m k (StoreWord i t j x) = refl
one_store v q m k (StoreNote i) = refl
one_store v q m k (StorePut a) = refl
one_store v q m k (StoreOut a) = refl
one_store v q m k (StoreHead h) = refl
one_store v q m k (StoreTail t) = refl

any_store : (v : ℕ) (q : Queue) (m k : List ℕ) (l : List Store) → (landed_all v (shared q m) l).queue ≡ (landed_all v (shared q k) l).queue
unfolding landed_all
any_store v q m k [] = refl
any_store v q m k (s ∷ l) =
    let n = landed v (shared q k) s in
    ap (λ (S : Shared). (landed_all v S l).queue) (one_store v q m k s)
    ∙ any_store v n.queue (landed v (shared q m) s).store n.store l

module _ (Y : Yard) (m : List ℕ) (sound : yard_ok Y m ≡ true) where
  places : all_below (place_ok Y) Y.made ≡ true
  places = and_left _ _ (and_right (leb Y.made 4) _ sound)

  pub kept : Kept Y
  kept = (leb-true _ _ (and_left _ _ sound), and_left _ _ (sym (place_parts Y Y.made) ∙ places))

  pub fits : claimed_words Y + aside_words Y ≤ usable m
  fits = leb-true _ _ (and_right (all_below (place_ok Y) Y.made) _ (and_right (leb Y.made 4) _ sound))

  pub few : claimed_words Y + aside_words Y ≤ 10235
  few = omega (arith, fits, least_right (length m) 10235)

  module _ (q : ℕ) (h : q < Y.made) where
    pub own_aside : (bench_at Y q).aside ≤ aside_words Y
    own_aside = part_of held_by Y.plots Y.made q h

    -- a call of the queue can count on what one past refusal 12 counts on
    pub within : (l : List ℕ) → (bench_at Y q).written ≤ length l → Within (room_of (the_ground Y m []) q) (lent (bench_at Y q) m l)
    within l w =
        let b = bench_at Y q in
        let place = each (place_ok Y) Y.made q places h in
        let gapless = and_left _ _ (and_right (leb (words_taken b.queue + b.aside) (quota_at Y q)) _ (and_right (bench_ok b b.queue (owners_queue b)) _ place)) in
        let n = usable m - (claimed_words Y + (aside_words Y - b.aside)) in
        record {
          limits =
              subst (λ (p : Queue). bench_ok b b.queue p ≡ true) (any_store b.words b.queue [] m (in_line b.waiting))
              (and_left (bench_ok b b.queue (owners_queue b)) _ place);
          logs = w;
          behind = leb-true _ _ gapless;
          inside = omega (arith, fits, at_most_usable m, least_left n (quota_at Y q - words_taken b.queue));
        }

pub same_room : {a b n k : ℕ} → a ≡ b → n ≡ k → ◌≡◌ {A = Room} (record { next = a; left = n }) (record { next = b; left = k })
same_room {b = b} {n = n} e f = ap (λ (x : ℕ). record { next = x; left = n }) e ∙ ap (λ (x : ℕ). record { next = b; left = x }) f

pub min_least : (a b : ℕ) → min a b ≡ least a b
min_least a b = go (leb a b) refl
  where
    go : (x : Bool) → leb a b ≡ x → min a b ≡ least a b
    go true e = min-eq_left (leb-true a b e) ∙ sym (if_true b e)
    go false e = let h : b < a = leb-false a b e in min-eq_right (let g : b ≤ a = omega arith in g) ∙ sym (if_false a e)
