-- The places of the finished puts, entry by entry; and that their numbers rise where the log's do.
use mathlib.Core.Path.{◌≡◌, refl, sym, ap, ◌∙◌, subst}
use mathlib.Core.Bool.{Bool, true, false, not}
use mathlib.Core.List.{List}
use Prim.Native.Nat.{ℕ, ◌+◌, ◌≤◌, ◌<◌}
use native.Mathlib.Omega.{arith}
use lib.Dec.{eqb, ltb}
use lib.ListN.{length, get_or, set, take}
use Rattle.std.proofs.lemmas.List.{get_or-take, length-take-le}
use lib.Seq.{get_or-set_same, get_or-set_other}
use borrow.Author.Tests.{ltb-true, ltb-false, eqb-true, eq-eqb}
use Rattle.model.specs.Tests.{◌or◌}
use Rattle.model.specs.Counts.{entry_at, is_kind, some_below}
use Rattle.model.proofs.Below.{some_at}
use Rattle.judgement.specs.Judgement.{all_below, numbered, rises}
use Rattle.puts.specs.Puts.{Rising, Gathered}
use Rattle.judgement.proofs.All.{all_at, some_found}

pub clash : true ≡ false → ⊥
clash e = let z : ◌≡◌ {A = ℕ} 0 1 = cc in omega (arith, z)

module _ (v : ℕ) (l : List ℕ) where
  pub gathered_start : (puts : List ℕ) → Gathered v l 0 puts 0
  gathered_start puts =
      record {
        few = omega arith;
        placed = λ k h. absurd (omega (arith, h));
        put = λ k h. absurd (omega (arith, h));
        rowed = λ i k h g. absurd (omega (arith, g));
        all = λ i h e. absurd (omega (arith, h));
      }

  module _ (j : ℕ) (puts : List ℕ) (c : ℕ) (G : Gathered v l j puts c) where
    -- the finished put at place i is one of them
    pub place_of : (i : ℕ) → i < j → is_kind v l 1 i ≡ true → (k : ℕ) × (k < c) × (get_or puts k 0 ≡ i)
    place_of i h e = let g = some_found (λ (k : ℕ). eqb (get_or puts k 0) i) c (G.all i h e) in (g.0, g.1, eqb-true _ _ g.2)

    old : (i : ℕ) (y : Bool) → ltb i j ≡ y → i < j + 1 → is_kind v l 1 j ≡ false → is_kind v l 1 i ≡ true → some_below (λ k. eqb (get_or puts k 0) i) c ≡ true
    old i true e h n p = G.all i (ltb-true i j e) p
    old i false e h n p =
        let d = ltb-false i j e in
        let q : i ≡ j = omega (arith, d, h) in absurd (clash (sym p ∙ ap (is_kind v l 1) q ∙ n))

    pub gathered_skip : is_kind v l 1 j ≡ false → Gathered v l (j + 1) puts c
    gathered_skip n =
        record {
          few = let f = G.few in omega (arith, f);
          placed = λ k h. let p = G.placed k h in omega (arith, p);
          put = G.put;
          rowed = G.rowed;
          all = λ i h e. old i (ltb i j) refl h n e;
        }

    module _ (p : is_kind v l 1 j ≡ true) (room : c < length puts) where
      before : (k : ℕ) → k < c → get_or (set puts c j) k 0 ≡ get_or puts k 0
      before k h = get_or-set_other puts c k j 0 (λ e. omega (arith, h, e))

      here : get_or (set puts c j) c 0 ≡ j
      here = get_or-set_same puts c j 0 room

      placed_next : (k : ℕ) (y : Bool) → ltb k c ≡ y → k < c + 1 → get_or (set puts c j) k 0 < j + 1
      placed_next k true e h = let r = G.placed k (ltb-true k c e) in let q = before k (ltb-true k c e) in omega (arith, r, q)
      placed_next k false e h =
          let d = ltb-false k c e in
          subst (λ (x : ℕ). get_or (set puts c j) x 0 < j + 1) {x = c} {y = k} (omega (arith, d, h)) (let q = here in omega (arith, q))

      put_next : (k : ℕ) (y : Bool) → ltb k c ≡ y → k < c + 1 → is_kind v l 1 (get_or (set puts c j) k 0) ≡ true
      put_next k true e h = ap (is_kind v l 1) (before k (ltb-true k c e)) ∙ G.put k (ltb-true k c e)
      put_next k false e h =
          let d = ltb-false k c e in
          subst (λ (x : ℕ). is_kind v l 1 (get_or (set puts c j) x 0) ≡ true) {x = c} {y = k} (omega (arith, d, h)) (ap (is_kind v l 1) here ∙ p)

      rowed_next : (i k : ℕ) (y : Bool) → ltb k c ≡ y → i < k → k < c + 1 → get_or (set puts c j) i 0 < get_or (set puts c j) k 0
      rowed_next i k true e h g =
          let t = ltb-true k c e in
          let r = G.rowed i k h t in
          let a = before i (omega (arith, h, t)) in let b = before k t in omega (arith, r, a, b)
      rowed_next i k false e h g =
          let d = ltb-false k c e in
          let q : c ≡ k = omega (arith, d, g) in
          subst (λ (x : ℕ). get_or (set puts c j) i 0 < get_or (set puts c j) x 0) q
          (let t : i < c = omega (arith, h, q) in
          let a = before i t in let b = here in let r = G.placed i t in omega (arith, a, b, r))

      at_place : (i k : ℕ) → k < c + 1 → get_or (set puts c j) k 0 ≡ i → some_below (λ k. eqb (get_or (set puts c j) k 0) i) (c + 1) ≡ true
      at_place i k h e = sym (some_at (λ (k : ℕ). eqb (get_or (set puts c j) k 0) i) (c + 1) k h refl (eq-eqb _ _ e))

      new : (i : ℕ) (y : Bool) → ltb i j ≡ y → i < j + 1 → is_kind v l 1 i ≡ true → some_below (λ k. eqb (get_or (set puts c j) k 0) i) (c + 1) ≡ true
      new i true e h n =
          let g = place_of i (ltb-true i j e) n in at_place i g.0 (let a = g.1 in omega (arith, a)) (before g.0 g.1 ∙ g.2)
      new i false e h n =
          let d = ltb-false i j e in
          let q : j ≡ i = omega (arith, d, h) in at_place i c (omega arith) (here ∙ q)

      pub gathered_put : Gathered v l (j + 1) (set puts c j) (c + 1)
      gathered_put =
          record {
            few = let f = G.few in omega (arith, f);
            placed = λ k h. placed_next k (ltb k c) refl h;
            put = λ k h. put_next k (ltb k c) refl h;
            rowed = λ i k h g. rowed_next i k (ltb k c) refl h g;
            all = λ i h e. new i (ltb i j) refl h e;
          }

  -- a finished put takes a number
  numbers_a_put : (j : ℕ) → is_kind v l 1 j ≡ true → numbered v l j ≡ true
  unfolding ◌or◌
  numbers_a_put j e = rw e

  rise : (i k : ℕ) → numbered v l i ≡ true → numbered v l k ≡ true → i < k → rises v l k ≡ true → (entry_at v l i).task.number < (entry_at v l k).task.number
  unfolding ◌or◌
  rise i k a b h e =
      let r : all_below (λ (x : ℕ). not (numbered v l x) or ltb (entry_at v l x).task.number (entry_at v l k).task.number) k ≡ true = rw b at e in
      let s = all_at (λ (x : ℕ). not (numbered v l x) or ltb (entry_at v l x).task.number (entry_at v l k).task.number) k i r h in
      ltb-true _ _ (let t : ltb (entry_at v l i).task.number (entry_at v l k).task.number ≡ true = rw a at s in t)

  pub rising_by : (n : ℕ) (puts : List ℕ) (c : ℕ) → Gathered v l n puts c → all_below (rises v l) n ≡ true → Rising v l puts c
  rising_by n puts c G R i k h g =
      let t : i < c = omega (arith, h, g) in
      rise (get_or puts i 0) (get_or puts k 0) (numbers_a_put _ (G.put i t)) (numbers_a_put _ (G.put k g)) (G.rowed i k h g)
      (all_at (rises v l) n (get_or puts k 0) R (G.placed k g))

  -- the part of the room that was filled
  module _ (n : ℕ) (room : List ℕ) (c : ℕ) (G : Gathered v l n room c) where
    taken : (k : ℕ) → k < c → get_or (take c room) k 0 ≡ get_or room k 0
    taken k h = get_or-take c room k 0 h

    found_in : (i : ℕ) → (k : ℕ) × (k < c) × (get_or room k 0 ≡ i) → some_below (λ k. eqb (get_or (take c room) k 0) i) c ≡ true
    found_in i g = sym (some_at (λ (k : ℕ). eqb (get_or (take c room) k 0) i) c g.0 g.1 refl (eq-eqb _ _ (taken g.0 g.1 ∙ g.2)))

    gathered_taken : Gathered v l n (take c room) c
    gathered_taken =
        record {
          few = G.few;
          placed = λ k h. subst (λ (x : ℕ). x < n) (sym (taken k h)) (G.placed k h);
          put = λ k h. ap (is_kind v l 1) (taken k h) ∙ G.put k h;
          rowed = λ i k h g. let a = taken i (omega (arith, h, g)) in let b = taken k g in let r = G.rowed i k h g in omega (arith, a, b, r);
          all = λ i h e. found_in i (place_of n room c G i h e);
        }

    pub gathered_whole : c ≤ length room → Gathered v l n (take c room) (length (take c room))
    gathered_whole h = subst (λ (m : ℕ). Gathered v l n (take c room) m) (sym (length-take-le c room h)) gathered_taken
