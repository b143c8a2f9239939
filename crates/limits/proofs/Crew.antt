-- The first k workers are in order as far as each is.
use mathlib.Core.Bool.{Bool, true, false}
use mathlib.Core.List.{List}
use mathlib.Core.Path.{◌≡◌, refl, sym, ◌∙◌, ap}
use Prim.Native.Nat.{ℕ, zero, suc, ◌≤◌, ◌<◌}
use native.Mathlib.Omega.{arith}
use lib.Dec.{eqb, ltb}
use borrow.Author.Tests.{eqb-true, ne_eqb, lt-ltb, le-ltb}
use Rattle.model.specs.declared.Kind.{Kind}
use Rattle.model.specs.declared.Growth.TheVariants.{ForPut, ForCommit}
use Rattle.model.specs.declared.Line.{Line}
use Rattle.model.specs.declared.Line.TheVariants.{
  Idle,
  PutRead,
  PutTail,
  PutTest,
  PutWord,
  PutFinish,
  Claim,
  Note,
  Copy,
  Publish,
  TakeRead,
  TakeTail,
  TakeTest,
  TakeWord,
  TakeFinish,
  StealRead,
  StealTail,
  StealTest,
  StealNote,
  StealWord,
  StealNext,
  StealCompare,
}
use Rattle.model.specs.declared.Queue.{Queue}
use Rattle.model.specs.declared.Worker.{Worker}
use Rattle.model.specs.Tests.{when◌then◌else◌, ◌and◌, ◌or◌}
use Rattle.model.specs.World.{line_at, stage, is_idle}
use Rattle.model.specs.Limits.{line_ok, owner_ok, thieves_ok}
use Rattle.limits.specs.declared.Scope.{Scope}
use Rattle.limits.specs.Parts.{member_ok, workers_ok, Reached, Scoped}
use Rattle.model.proofs.Tests.{holds, if_false, and_true, and_assoc}
use Rattle.limits.proofs.Scan.{fails_by_lem}

-- only an idle worker's stage is 0
idle : (l : Line) → stage l ≡ 0 → l ≡ Idle
idle Idle e = refl
idle (PutRead t) e = cc
idle (PutTail t h) e = cc
idle (PutTest t r) e = cc
idle (PutWord t r j) e = cc
idle (PutFinish t r) e = cc
idle (Claim (ForPut t)) e = cc
idle (Claim ForCommit) e = cc
idle (Note t) e = cc
idle (Copy t h n k) e = cc
idle (Publish t) e = cc
idle TakeRead e = cc
idle (TakeTail h) e = cc
idle (TakeTest r) e = cc
idle (TakeWord r t j) e = cc
idle (TakeFinish r t) e = cc
idle StealRead e = cc
idle (StealTail h) e = cc
idle (StealTest r) e = cc
idle (StealNote r) e = cc
idle (StealWord r k t j) e = cc
idle (StealNext r t) e = cc
idle (StealCompare r x t) e = cc

-- the tests of one worker, whatever each says
same : {z : Bool} (t : Bool) {x y : Bool} → x ≡ z → y ≡ z → (when t then x else y) ≡ z
unfolding when◌then◌else◌
same true e f = e
same false e f = f

by_hand : (t u b a c l m d : Bool) → u ≡ true → b ≡ false
    → (when t then a and l else when u then (b or c) and m else d) ≡ ((when t then a else c) and (when t then l else m))
unfolding when◌then◌else◌ ◌or◌
by_hand true u b a c l m d e f = refl
by_hand false u b a c l m d e f = rw (e, f)

-- the owner reads p, a thief q
pub by_reader : {A : Type 0} (t : Bool) (f : Queue → A) (q p : Queue) → f (when t then p else q) ≡ (when t then f p else f q)
unfolding when◌then◌else◌
by_reader true f q p = refl
by_reader false f q p = refl

pub reached : (t : Bool) (S : Scope) (q p : Queue) → Scoped S q p
    → Reached (when t then S.owner else S.memory) S.words S.first (when t then p else q)
unfolding when◌then◌else◌
reached true S q p (m, o) = o
reached false S q p (m, o) = m

module _ (κ : Kind) (w v : ℕ) (q p : Queue) (n i : ℕ) where
  rests : member_ok κ w v q p n i Idle ≡ true
  unfolding ◌and◌ ◌or◌
  rests = same (eqb i 0) refl (same (ltb i n) refl refl)

  idle_in : (l : Line) → stage l ≡ 0 → member_ok κ w v q p n i l ≡ true
  idle_in l e = ap (member_ok κ w v q p n i) (idle l e) ∙ rests

  -- a busy worker
  module _ (l : Line) (busy : stage l ≡ 0 → ⊥) where
    pub outside : 0 < n → n ≤ i → member_ok κ w v q p n i l ≡ false
    outside h k = if_false _ (ne_eqb i 0 (λ e. omega arith)) ∙ if_false _ (le-ltb i n k) ∙ ne_eqb (stage l) 0 busy

    pub inside : i < n
        → member_ok κ w v q p n i l ≡ ((when eqb i 0 then ltb (stage l) 4 else ltb 3 (stage l)) and line_ok κ w v (when eqb i 0 then p else q) l)
    inside h =
        by_hand (eqb i 0) (ltb i n) (eqb (stage l) 0) (ltb (stage l) 4) (ltb 3 (stage l)) _ _ _ (lt-ltb i n h) (ne_eqb (stage l) 0 busy)
        ∙ ap (λ (x : Bool). (when eqb i 0 then ltb (stage l) 4 else ltb 3 (stage l)) and x)
        (sym (by_reader (eqb i 0) (λ (r : Queue). line_ok κ w v r l) q p))

module _ (κ : Kind) (w v : ℕ) (q p : Queue) (n : ℕ) (l : List Worker) where
  abbrev pub member : ℕ → Bool
  member k = member_ok κ w v q p n k (line_at l k)

  pub turn : (k : ℕ) → workers_ok κ w v q p n l (suc k) ≡ (workers_ok κ w v q p n l k and member k)
  unfolding when◌then◌else◌
  turn zero = and_true (owner_ok κ w v p (line_at l 0))
  turn (suc k) =
      and_assoc (owner_ok κ w v p (line_at l 0)) (thieves_ok κ w v q n l k) _
      ∙ ap (λ (x : Bool). (owner_ok κ w v p (line_at l 0) and thieves_ok κ w v q n l k) and x)
      (sym (if_false (owner_ok κ w v p (line_at l (suc k))) (ne_eqb (suc k) 0 (λ e. omega arith))))

  pub idle_passes : (k : ℕ) → is_idle (line_at l k) ≡ true → member k ≡ true
  idle_passes k e = idle_in κ w v q p n k (line_at l k) (eqb-true (stage (line_at l k)) 0 e)

  pub next_worker : (x : Bool) (k : ℕ) → workers_ok κ w v q p n l k ≡ true → member k ≡ x → workers_ok κ w v q p n l (suc k) ≡ x
  next_worker x k e f = turn k ∙ holds e ∙ f

  pub no_workers : (k m : ℕ) → k ≤ m → workers_ok κ w v q p n l k ≡ false → workers_ok κ w v q p n l m ≡ false
  no_workers k m h e = fails_by_lem (workers_ok κ w v q p n l) member turn k m h e
