-- What the limits say of the waiting line: its length, its notes, and the places of its words.
use mathlib.Core.Bool.{Bool, true, false}
use mathlib.Core.List.{List, [], ◌∷◌}
use mathlib.Core.Path.{◌≡◌, refl, subst}
use Prim.Native.Nat.{ℕ, suc, ◌+◌, ◌-◌, ◌*◌, ◌≤◌, ◌<◌}
use native.Mathlib.Omega.{arith}
use lib.Dec.{leb}
use lib.ListN.{length}
use borrow.Author.Tests.{ltb-true, leb-true, le-leb}
use Rattle.model.specs.declared.Kind.{Kind}
use Rattle.model.specs.declared.Queue.{Queue}
use Rattle.model.specs.declared.Store.{Store}
use Rattle.model.specs.declared.Store.TheVariants.{StoreWord, StoreNote, StorePut, StoreOut, StoreHead, StoreTail}
use Rattle.model.specs.declared.Region.{Region}
use Rattle.model.specs.Tests.{when◌then◌else◌}
use Rattle.model.specs.Memory.{offset_at, length_at, size_at}
use Rattle.model.specs.Stores.{in_line, taken}
use Rattle.model.specs.World.{World, memory, owners_view, tag_bits, line_at}
use Rattle.model.specs.Limits.{directory_ok, store_ok, stores_ok, waiting_ok, tidy, bench_ok}
use Rattle.model.proofs.Tests.{and_left, and_right, and_both}
use Rattle.model.proofs.Directory.{size_le, tidy_front, tidy_long, tidy_size}
use Rattle.model.proofs.Alone.{directory_of}
use Rattle.slots.proofs.Places.{in_array}
use Rattle.waiting.specs.Places.{note_ok, notes_ok, Placed, AllPlaced}
use Rattle.waiting.proofs.Words.{arrays_stay, claimed_stays}
use Rattle.limits.specs.Parts.{line_held, Laid}
use Rattle.limits.proofs.Bounds.{bounds_of}
use Rattle.limits.proofs.Directory.{Ordered, ordered, ends_before}

-- eight with the mode, none without it
pub most_eight : (d : Bool) → (when d then 8 else 0) ≤ 8
unfolding when◌then◌else◌
most_eight true = omega arith
most_eight false = omega arith

pub at_most : (d : Bool) (n : ℕ) → leb n (when d then 8 else 0) ≡ true → n ≤ 8
at_most d n e = let h : n ≤ (when d then 8 else 0) = leb-true _ _ e in omega (arith, h, most_eight d)

-- notes
note_in : (κ : Kind) (w v : ℕ) (p : Queue) (s : Store) → p.published ≤ 11 → store_ok κ w v p s ≡ true → note_ok s ≡ true
note_in κ w v p (StoreWord k t j x) h e = refl
note_in κ w v p (StoreNote k) h e = let l : k < p.published = ltb-true _ _ e in le-leb k 10 (omega arith)
note_in κ w v p (StorePut a) h e = refl
note_in κ w v p (StoreOut a) h e = refl
note_in κ w v p (StoreHead a) h e = refl
note_in κ w v p (StoreTail a) h e = refl

notes_in : (κ : Kind) (w v : ℕ) (p : Queue) (l : List Store) → p.published ≤ 11 → stores_ok κ w v p l ≡ true → notes_ok l ≡ true
unfolding notes_ok
notes_in κ w v p [] h e = refl
notes_in κ w v p (s ∷ l) h e =
    and_both (note_ok s) (notes_ok l) (note_in κ w v p s h (and_left (store_ok κ w v p s) (stores_ok κ w v p l) e))
    (notes_in κ w v p l h (and_right (store_ok κ w v p s) (stores_ok κ w v p l) e))

-- words; the owner reads p, and memory's directory is q's
module _ (κ : Kind) (w v : ℕ) (q p : Queue) (m : List ℕ) (fits : taken q ≤ length m) (O : Ordered v q p.published) (arrays : p.arrays ≡ q.arrays) (claimed : p.claimed ≡ q.claimed) where
  placed : (s : Store) → store_ok κ w v p s ≡ true → Placed v q (length m) s
  placed (StoreWord k t j x) e =
      let e1 = and_right _ _ e in
      let k_in : k < p.claimed = ltb-true _ _ (and_left _ _ e) in
      let here : k < q.claimed = omega (arith, k_in, claimed) in
      let t_in : t < size_at v q.arrays k = subst (λ (l : List Region). t < size_at v l k) arrays (ltb-true _ _ (and_left _ _ e1)) in
      let j_in : j ≤ v = leb-true _ _ (and_left _ _ (and_right _ _ e1)) in
      let front = tidy_front v q.arrays q.claimed k O.tidied here in
      let last : q.claimed ≡ suc (q.claimed - 1) = omega (arith, here) in
      let end : offset_at q.arrays k + length_at q.arrays k ≤ offset_at q.arrays (q.claimed - 1) + length_at q.arrays (q.claimed - 1) =
      ends_before v q.arrays (q.claimed - 1) k (subst (λ (n : ℕ). tidy v q.arrays n ≡ true) last O.tidied) (omega (arith, here)) in
      let inside : offset_at q.arrays k + (v + 1) * size_at v q.arrays k ≤ length m = omega (arith, end, fits, tidy_long v q.arrays k front) in (
        omega (arith, here, O.listed),
        omega (arith, t_in, size_le (tidy_size v q.arrays k front)),
        j_in,
        in_array v t (size_at v q.arrays k) (offset_at q.arrays k) (length m) j t_in j_in inside,
      )
  placed (StoreNote k) e = tt
  placed (StorePut a) e = tt
  placed (StoreOut a) e = tt
  placed (StoreHead a) e = tt
  placed (StoreTail a) e = tt

  all_placed : (l : List Store) → stores_ok κ w v p l ≡ true → AllPlaced v q (length m) l
  all_placed [] e = tt
  all_placed (s ∷ l) e =
      (placed s (and_left (store_ok κ w v p s) (stores_ok κ w v p l) e), all_placed l (and_right (store_ok κ w v p s) (stores_ok κ w v p l) e))

-- the limits of the directory and of the waiting line
module _ (W : World) (v : bench_ok W.bench W.bench.queue (owners_view W).queue ≡ true) where
  pub directory : directory_ok W.bench.words W.bench.queue (owners_view W).queue.published (line_at W.bench.workers 0) ≡ true
  directory = directory_of W.bench W.bench.queue (owners_view W).queue v

  line : waiting_ok W.bench.kind (tag_bits W.bench) W.bench.words (owners_view W).queue W.bench.delayed W.bench.waiting ≡ true
  line = and_left _ _ (and_right _ _ (and_right _ _ (and_right _ _ (and_right _ _ (and_right _ _ (and_right _ _ (and_right _ _ (and_right _ _ v))))))))

  pub in_order : Ordered W.bench.words W.bench.queue (owners_view W).queue.published
  in_order = ordered W.bench.words W.bench.queue (owners_view W).queue.published (line_at W.bench.workers 0) directory

  -- so the words that the arrays take can be told from two of them
  pub laid : Laid W.bench.queue
  laid =
      let O = in_order in
      record {
        words = W.bench.words;
        few = (bounds_of W v).wide.1;
        some = omega (arith, O.some, O.few, O.claimed);
        listed = O.listed;
        tidied = O.tidied;
      }

  pub waits_few : W.bench.waiting.count ≤ 8
  waits_few = at_most W.bench.delayed W.bench.waiting.count (and_left _ _ line)

  pub waits_noted : notes_ok (in_line W.bench.waiting) ≡ true
  waits_noted =
      let O = in_order in
      notes_in W.bench.kind (tag_bits W.bench) W.bench.words (owners_view W).queue (in_line W.bench.waiting)
      (omega (arith, O.claimed, O.listed)) (and_right _ _ line)

  pub line_held_lem : line_held W.bench.delayed W.bench.waiting ≡ true
  line_held_lem = and_both _ _ (and_left _ _ line) waits_noted

  -- in a store that has the arrays
  pub waits_placed : taken W.bench.queue ≤ length W.store → AllPlaced W.bench.words W.bench.queue (length W.store) (in_line W.bench.waiting)
  waits_placed fits =
      all_placed W.bench.kind (tag_bits W.bench) W.bench.words W.bench.queue (owners_view W).queue W.store fits in_order
      (arrays_stay W.bench.words (memory W) (in_line W.bench.waiting))
      (claimed_stays W.bench.words (memory W) (in_line W.bench.waiting))
      (in_line W.bench.waiting) (and_right _ _ line)
