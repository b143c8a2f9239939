-- The owner's step with stores that wait: the line is done on what the owner reads, and its stores join.
use mathlib.Core.Path.{◌≡◌, refl, sym, ap, subst}
use mathlib.Core.Bool.{Bool, true, false}
use mathlib.Core.List.{List, [], ◌∷◌, ◌++◌}
use Prim.Native.Nat.{ℕ, ◌≤◌}
use native.Mathlib.Omega.{arith}
use Rattle.model.specs.declared.Room.{Room}
use Rattle.model.specs.declared.Growth.{Growth}
use Rattle.model.specs.declared.Growth.TheVariants.{ForPut, ForCommit}
use Rattle.model.specs.declared.Kind.{Kind}
use Rattle.model.specs.declared.Line.{Line}
use Rattle.model.specs.declared.Line.TheVariants.{Idle, PutRead, PutTail, PutTest, PutWord, PutFinish, Claim, Note, Copy, Publish, TakeRead, TakeTail, TakeTest, TakeWord, TakeFinish, StealRead, StealTail, StealTest, StealNote, StealWord, StealNext, StealCompare}
use Rattle.model.specs.declared.Queue.{Queue}
use Rattle.model.specs.declared.Answer.TheVariants.{GoesOn, Full}
use Rattle.model.specs.declared.Store.{Store}
use Rattle.theorems.proofs.Folds.{places, anchor_after, laid, words, queue_after, store_after}
use Rattle.model.specs.Tests.{when◌then◌else◌}
use Rattle.model.specs.Memory.{zeros}
use Rattle.model.specs.Figures.{is_empty}
use Rattle.model.specs.Lines.{task_for, Effect, eff, succeeds, fits, line_step}
use Rattle.model.specs.Stores.{next_length, claiming}
use Rattle.theorems.proofs.Directory.{Free}
use Rattle.theorems.proofs.Shape.{tail, tails, lows, Path, OwnEnd, Shape}
use Rattle.theorems.proofs.ShapeLay.{shape_join, shape_settle, tails_is}
use Rattle.theorems.proofs.ShapeOwner.{Ends, Exact, Reading, own_ends}
use Rattle.theorems.proofs.ShapeClaim.{shape_refresh, shape_claim}

-- only X1 claims
neither : (x : Bool) (E E' : Effect) → E.claims ≡ false → E'.claims ≡ false → (when x then E else E').claims ≡ false
unfolding when◌then◌else◌
neither true E E' p q = p
neither false E E' p q = q

pub not_both : {A : Type 0} (x : Bool) → x ≡ false → x ≡ true → A
not_both x p q = absurd (let z : ◌≡◌ {A = ℕ} 0 1 = cc in omega arith)

claim_fits : (ρ : Room) (ω : ℕ) (q : Queue) (i : ℕ) (t : Growth) (x : Bool) → fits ρ ω q ≡ x → (when x then record { claims = true; stores = []; line = Note t; answer = GoesOn } else eff [] Idle (Full i (task_for t))).claims ≡ true → fits ρ ω q ≡ true
unfolding when◌then◌else◌
claim_fits ρ ω q i t true e f = e
claim_fits ρ ω q i t false e f = not_both false refl f

pub claim_only : (ρ : Room) (κ : Kind) (w ω : ℕ) (q : Queue) (m : List ℕ) (i : ℕ) (o : Line) → (line_step ρ κ w ω q m i o).claims ≡ true → (t : Growth) × (o ≡ Claim t) × (fits ρ ω q ≡ true)
unfolding line_step
claim_only ρ κ w ω q m i Idle f = not_both false refl f
claim_only ρ κ w ω q m i (PutRead t) f = not_both false refl f
claim_only ρ κ w ω q m i (PutTail t h) f = not_both false refl f
claim_only ρ κ w ω q m i (PutTest t r) f = not_both false refl f
claim_only ρ κ w ω q m i (PutWord t r j) f = not_both false refl f
claim_only ρ κ w ω q m i (PutFinish t r) f = not_both false refl f
claim_only ρ κ w ω q m i (Claim t) f = (t, refl, claim_fits ρ ω q i t (fits ρ ω q) refl f)
claim_only ρ κ w ω q m i (Note t) f = not_both false refl f
claim_only ρ κ w ω q m i (Copy t h j k) f = not_both false refl f
claim_only ρ κ w ω q m i (Publish (ForPut t)) f = not_both false refl f
claim_only ρ κ w ω q m i (Publish ForCommit) f = not_both false refl f
claim_only ρ κ w ω q m i TakeRead f = not_both false refl f
claim_only ρ κ w ω q m i (TakeTail h) f = not_both false refl f
claim_only ρ κ w ω q m i (TakeTest r) f = not_both _ (neither (is_empty κ r) _ _ refl refl) f
claim_only ρ κ w ω q m i (TakeWord r t j) f = not_both false refl f
claim_only ρ κ w ω q m i (TakeFinish r t) f = not_both false refl f
claim_only ρ κ w ω q m i StealRead f = not_both false refl f
claim_only ρ κ w ω q m i (StealTail h) f = not_both false refl f
claim_only ρ κ w ω q m i (StealTest r) f = not_both _ (neither (is_empty κ r) _ _ refl refl) f
claim_only ρ κ w ω q m i (StealNote r) f = not_both false refl f
claim_only ρ κ w ω q m i (StealWord r k t j) f = not_both false refl f
claim_only ρ κ w ω q m i (StealNext r t) f = not_both false refl f
claim_only ρ κ w ω q m i (StealCompare r e t) f = not_both _ (neither (succeeds κ q i r) _ _ refl refl) f

-- what the owner is about to read
refresh_any : (κ : Kind) (w ω used low : ℕ) (q : Queue) (m : List ℕ) (ss : List Store) (o : Line) (φ : ℕ → Line) → Shape κ w ω used low q m ss o φ
    → (low' : ℕ) × Shape κ w ω used low' q m ss o φ × (Reading o → Exact κ (lows ss low') (anchor_after ss q.anchor))
refresh_any κ w ω used low q m ss Idle φ S = (low, S, λ y. absurd y)
refresh_any κ w ω used low q m ss (PutRead t) φ S = let R = shape_refresh κ w ω used low q m ss (PutRead t) φ tt S in (R.0, R.1, λ y. R.2)
refresh_any κ w ω used low q m ss (PutTail t h) φ S = (low, S, λ y. absurd y)
refresh_any κ w ω used low q m ss (PutTest t r) φ S = (low, S, λ y. absurd y)
refresh_any κ w ω used low q m ss (PutWord t r j) φ S = (low, S, λ y. absurd y)
refresh_any κ w ω used low q m ss (PutFinish t r) φ S = (low, S, λ y. absurd y)
refresh_any κ w ω used low q m ss (Claim t) φ S = (low, S, λ y. absurd y)
refresh_any κ w ω used low q m ss (Note t) φ S = (low, S, λ y. absurd y)
refresh_any κ w ω used low q m ss (Copy t h j k) φ S = (low, S, λ y. absurd y)
refresh_any κ w ω used low q m ss (Publish t) φ S = (low, S, λ y. absurd y)
refresh_any κ w ω used low q m ss TakeRead φ S = let R = shape_refresh κ w ω used low q m ss TakeRead φ tt S in (R.0, R.1, λ y. R.2)
refresh_any κ w ω used low q m ss (TakeTail h) φ S = (low, S, λ y. absurd y)
refresh_any κ w ω used low q m ss (TakeTest r) φ S = (low, S, λ y. absurd y)
refresh_any κ w ω used low q m ss (TakeWord r t j) φ S = (low, S, λ y. absurd y)
refresh_any κ w ω used low q m ss (TakeFinish r t) φ S = (low, S, λ y. absurd y)
refresh_any κ w ω used low q m ss StealRead φ S = (low, S, λ y. absurd y)
refresh_any κ w ω used low q m ss (StealTail h) φ S = (low, S, λ y. absurd y)
refresh_any κ w ω used low q m ss (StealTest r) φ S = (low, S, λ y. absurd y)
refresh_any κ w ω used low q m ss (StealNote r) φ S = (low, S, λ y. absurd y)
refresh_any κ w ω used low q m ss (StealWord r k t j) φ S = (low, S, λ y. absurd y)
refresh_any κ w ω used low q m ss (StealNext r t) φ S = (low, S, λ y. absurd y)
refresh_any κ w ω used low q m ss (StealCompare r e t) φ S = (low, S, λ y. absurd y)

-- X1 that claims
pub no_more : (ss : List Store) → ss ++ [] ≡ ss
no_more [] = refl
no_more (s ∷ ss) = ap (λ (l : List Store). s ∷ l) (no_more ss)

claim_step : (ρ : Room) (κ : Kind) (w ω used low : ℕ) (q : Queue) (m : List ℕ) (ss : List Store) (φ : ℕ → Line) (t : Growth) (x : Bool) → x ≡ true → fits ρ ω (laid ss q) ≡ true → Free ρ q m → Shape κ w ω used low q m ss (Claim t) φ
    → let E : Effect = (when x then record { claims = true; stores = []; line = Note t; answer = GoesOn } else eff [] Idle (Full 0 (task_for t))) in
    (low' : ℕ) × Shape κ w ω used low' (queue_after ρ E.claims q) (store_after ρ E.claims q m) (ss ++ E.stores) E.line φ
unfolding when◌then◌else◌
claim_step ρ κ w ω used low q m ss φ t false e f R S = not_both false refl e
claim_step ρ κ w ω used low q m ss φ t true e f R S =
    (low, subst (λ (l : List Store). Shape κ w ω used low (claiming ρ q) (zeros m ρ.next (next_length q)) l (Note t) φ) (sym (no_more ss)) (shape_claim ρ κ w ω used low q m ss t φ f R S))

claim_shaped : (ρ : Room) (κ : Kind) (w ω used low : ℕ) (q : Queue) (m : List ℕ) (ss : List Store) (o : Line) (φ : ℕ → Line) (t : Growth) → o ≡ Claim t → fits ρ ω (laid ss q) ≡ true → Free ρ q m → Shape κ w ω used low q m ss o φ
    → let E = line_step ρ κ w ω (laid ss q) (words ω q.arrays ss m) 0 o in
    (low' : ℕ) × Shape κ w ω used low' (queue_after ρ E.claims q) (store_after ρ E.claims q m) (ss ++ E.stores) E.line φ
unfolding line_step
claim_shaped ρ κ w ω used low q m ss o φ t is f R S = subst P (sym is) (here (fits ρ ω v) f)
  where
    v : Queue
    v = laid ss q

    P : Line → Type 0
    P o = let E = line_step ρ κ w ω (laid ss q) (words ω q.arrays ss m) 0 o in
        (low' : ℕ) × Shape κ w ω used low' (queue_after ρ E.claims q) (store_after ρ E.claims q m) (ss ++ E.stores) E.line φ

    S' : Shape κ w ω used low q m ss (Claim t) φ
    S' = subst (λ (o : Line). Shape κ w ω used low q m ss o φ) is S

    here : (x : Bool) → x ≡ true
        → let E : Effect = (when x then record { claims = true; stores = []; line = Note t; answer = GoesOn } else eff [] Idle (Full 0 (task_for t))) in
        (low' : ℕ) × Shape κ w ω used low' (queue_after ρ E.claims q) (store_after ρ E.claims q m) (ss ++ E.stores) E.line φ
    here x e = claim_step ρ κ w ω used low q m ss φ t x e f R S'

-- the owner's line o, done on what it reads: its stores join
pub own_shaped : (ρ : Room) (κ : Kind) (w ω used low : ℕ) (q : Queue) (m : List ℕ) (ss : List Store) (o : Line) (φ : ℕ → Line) → ω ≤ 4 → Free ρ q m → Shape κ w ω used low q m ss o φ
    → let E = line_step ρ κ w ω (laid ss q) (words ω q.arrays ss m) 0 o in
    (low' : ℕ) × Shape κ w ω used low' (queue_after ρ E.claims q) (store_after ρ E.claims q m) (ss ++ E.stores) E.line φ
own_shaped ρ κ w ω used low q m ss o φ wide Z S = go E.claims refl
  where
    v : Queue
    v = laid ss q

    E : Effect
    E = line_step ρ κ w ω (laid ss q) (words ω q.arrays ss m) 0 o

    Goal : Bool → Type 0
    Goal x = (low' : ℕ) × Shape κ w ω used low' (queue_after ρ x q) (store_after ρ x q m) (ss ++ E.stores) E.line φ

    go : (x : Bool) → E.claims ≡ x → Goal E.claims
    go false e = subst Goal (sym e) (R.0, shape_join R.1 E.stores E.line (subst PathAt (sym te) K.0) (subst EndAt (sym te) K.1))
      where
        R : (low' : ℕ) × Shape κ w ω used low' q m ss o φ × (Reading o → Exact κ (lows ss low') (anchor_after ss q.anchor))
        R = refresh_any κ w ω used low q m ss o φ S

        te : tails ss (tail κ q.anchor) ≡ tail κ v.anchor
        te = tails_is κ w ω _ _ R.0 _ ss q.anchor R.1.path

        K : Ends κ w ω used (lows ss R.0) v E
        K = own_ends ρ w ω used (lows ss R.0) v (words ω q.arrays ss m) φ κ o wide (shape_settle κ ss R.1) R.2 false e refl

        PathAt : ℕ → Type 0
        PathAt τ = Path κ w ω q.arrays q.claimed (lows ss R.0) (places ss q.published) τ E.stores

        EndAt : ℕ → Type 0
        EndAt τ = OwnEnd κ w ω used q.arrays q.claimed (lows E.stores (lows ss R.0)) (places E.stores (places ss q.published)) (tails E.stores τ) E.line
    go true e = claimed (claim_only ρ κ w ω v (words ω q.arrays ss m) 0 o e)
      where
        claimed : (t : Growth) × (o ≡ Claim t) × (fits ρ ω v ≡ true) → Goal E.claims
        claimed (t, is, f) = claim_shaped ρ κ w ω used low q m ss o φ t is f Z S
