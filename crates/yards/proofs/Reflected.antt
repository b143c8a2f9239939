-- A call of a queue and the same call of the queue alone, its arrays elsewhere: the same answer, and again the same queue elsewhere.
use mathlib.Core.Path.{◌≡◌, refl, sym, ◌∙◌, ap, subst}
use mathlib.Core.Bool.{Bool, true, false}
use mathlib.Core.List.{List, [], ◌∷◌}
use Prim.Native.Nat.{ℕ, zero, suc, ◌-◌, ◌*◌, ◌≤◌, ◌<◌}
use native.Mathlib.Omega.{arith}
use lib.Dec.{eqb, ltb}
use lib.ListN.{length, set}
use borrow.Author.Tests.{ltb-true}
use Rattle.model.specs.declared.Kind.{Kind}
use Rattle.model.specs.declared.Line.{Line}
use Rattle.model.specs.declared.Line.TheVariants.{
  Idle,
  PutRead,
  PutTail,
  PutTest,
  PutWord,
  PutFinish,
  Claim,
  Note,
  Copy,
  Publish,
  TakeRead,
  TakeTail,
  TakeTest,
  TakeWord,
  TakeFinish,
  StealRead,
  StealTail,
  StealTest,
  StealNote,
  StealWord,
  StealNext,
  StealCompare,
}
use Rattle.model.specs.declared.Queue.{Queue}
use Rattle.model.specs.declared.Region.{Region}
use Rattle.model.specs.declared.Room.{Room}
use Rattle.model.specs.declared.Store.{Store}
use Rattle.model.specs.declared.Operation.{Operation}
use Rattle.model.specs.declared.Refusal.{Refusal}
use Rattle.model.specs.declared.Refusal.TheVariants.{NoSuchWorker, BusyWorker, WrongHand, NumbersSpent, NoSpace, AskStands, NoAsk}
use Rattle.model.specs.declared.Answer.TheVariants.{Accepted}
use Rattle.model.specs.Tests.{when◌then◌else◌, unless◌then◌else◌}
use Rattle.model.specs.Memory.{zeros, length_at, size_at}
use Rattle.model.specs.Stores.{Shared, shared, next_length, claiming, in_line, oldest}
use Rattle.model.specs.Lines.{Effect, fits, holds_link, fails_compare}
use Rattle.model.specs.World.{World, Outcome, refuse, owners_view, tag_bits, line_at, is_idle}
use Rattle.model.specs.Calls.{right_hand, numbers_left, asked, begun, begin_in, raised, landing, stepped, crowded, no_room, commit, next_effect, step_in, drop_link_in, drain_in, drained, of_idle_owner, set_aside, Call, begin, step, drop_link, drain, ask, drop_ask, call_in}
use Rattle.theorems.proofs.Folds.{laid, words, arrays_after, queue_after, store_after, landed_is}
use Rattle.theorems.proofs.Directory.{Arrays, Admits, end, long_at}
use Rattle.theorems.proofs.Shape.{Path}
use Rattle.theorems.proofs.ShapeLay.{shape_settle}
use Rattle.theorems.proofs.Valid.{Whole}
use Rattle.theorems.proofs.Cases.{effect_of, effect_is, queue_then, store_then, world_with, step_to, stepped_is, drain_to, drained_is, dropped}
use Rattle.theorems.proofs.WholeRun.{thief_calm}
use Rattle.yards.proofs.Writes.{own_shape, own_path, own_left, thief_stores, oldest_path}
use Rattle.yards.proofs.Mirror.{redirect, Like, fits_both, thief_same, own_same}
use Rattle.yards.proofs.Likes.{Placed, like_stores, claim_like}

-- the queue of W alone: its directory is d, its store m
abbrev pub lonely : World → List Region → List ℕ → World
lonely W d m =
    record {
      bench =
          record {
            kind = W.bench.kind;
            width = W.bench.width;
            words = W.bench.words;
            delayed = W.bench.delayed;
            crew = W.bench.crew;
            queue = redirect W.bench.queue d;
            waiting = W.bench.waiting;
            aside = W.bench.aside;
            used = W.bench.used;
            restarts = W.bench.restarts;
            written = W.bench.written;
            workers = W.bench.workers;
          };
      store = m;
      log = W.log;
    }

-- the outcome D' is D with other places
abbrev pub Reflects : Outcome → Outcome → Type 0
Reflects D D' =
    (d : List Region) × (m : List ℕ) × Like D.world.bench.words D.world.bench.queue D.world.store d m × (D' ≡ record { world = lonely D.world d m; answer = D.answer })

reflects_if : (x : Bool) (D F D' F' : Outcome) → (x ≡ true → Reflects D D') → (x ≡ false → Reflects F F') → Reflects (when x then D else F) (when x then D' else F')
unfolding when◌then◌else◌
reflects_if true D F D' F' a b = a refl
reflects_if false D F D' F' a b = b refl

-- what is alike is so by the directory and the store alone
like_as : {ω : ℕ} {q : Queue} (p : Queue) {m : List ℕ} {d : List Region} {m' : List ℕ} → p.arrays ≡ q.arrays → p.claimed ≡ q.claimed → Like ω q m d m' → Like ω p m d m'
like_as {ω} {q} p {m} {d} {m'} a c L =
    record {
      long = L.long ∙ ap length (sym a);
      lengths = λ k. L.lengths k ∙ ap (λ (l : List Region). length_at l k) (sym a);
      words = λ k t j h g hj. rw a (L.words k t j (rw c at h) (rw a at g) hj);
    }

placed : {ω : ℕ} {q : Queue} {m : List ℕ} → Arrays ω q m → Placed ω q.arrays q.claimed m
placed {ω} {q} {m} A = record { tidied = A.tidied; inside = λ k h. omega (arith, end A k h, A.room) }

-- a compare that fails looks at the anchor and the links
fails_both : (κ : Kind) (q : Queue) (d : List Region) (i : ℕ) (l : Line) → fails_compare κ (redirect q d) i l ≡ fails_compare κ q i l
fails_both κ q d i Idle = refl
fails_both κ q d i (PutRead t) = refl
fails_both κ q d i (PutTail t h) = refl
fails_both κ q d i (PutTest t r) = refl
fails_both κ q d i (PutWord t r j) = refl
fails_both κ q d i (PutFinish t r) = refl
fails_both κ q d i (Claim g) = refl
fails_both κ q d i (Note g) = refl
fails_both κ q d i (Copy g h n k) = refl
fails_both κ q d i (Publish g) = refl
fails_both κ q d i TakeRead = refl
fails_both κ q d i (TakeTail h) = refl
fails_both κ q d i (TakeTest r) = refl
fails_both κ q d i (TakeWord r t j) = refl
fails_both κ q d i (TakeFinish r t) = refl
fails_both κ q d i StealRead = refl
fails_both κ q d i (StealTail h) = refl
fails_both κ q d i (StealTest r) = refl
fails_both κ q d i (StealNote r) = refl
fails_both κ q d i (StealWord r k t j) = refl
fails_both κ q d i (StealNext r t) = refl
fails_both κ q d i (StealCompare r e t) = refl

-- X1's claim, where there is one
claimed_both : (ρ ρ' : Room) (x : Bool) (q : Queue) (d : List Region) → queue_after ρ' x (redirect q d) ≡ redirect (queue_after ρ x q) (arrays_after ρ' x (redirect q d))
claimed_both ρ ρ' true q d = refl
claimed_both ρ ρ' false q d = refl

-- A CALL
module _ (W : World) (d : List Region) (m : List ℕ) (H : Whole W) (K : Whole (lonely W d m)) (L : Like W.bench.words W.bench.queue W.store d m)
    (ρ ρ' : Room) (R : Admits ρ W.bench W.store) (R' : Admits ρ' (lonely W d m).bench m) (same_left : ρ'.left ≡ ρ.left) where
  abbrev U : World
  U = lonely W d m

  abbrev κ : Kind
  κ = W.bench.kind

  abbrev ω : ℕ
  ω = W.bench.words

  abbrev q : Queue
  q = W.bench.queue

  abbrev ss : List Store
  ss = in_line W.bench.waiting

  -- a refusal in both, or what F does
  unless_reflects : (x : Bool) (r : Refusal) (F : World → Outcome) → Reflects (F W) (F U) → Reflects (unless x then refuse W r else F W) (unless x then refuse U r else F U)
  unless_reflects x r F f = reflects_if x (F W) (refuse W r) (F U) (refuse U r) (λ e. f) (λ e. (d, m, L, refl))

  -- begin
  abbrev asks : ℕ → Operation → World → Outcome
  asks i op X = unless asked op W.bench.aside then refuse X NoAsk else begun X i op

  abbrev numbered : ℕ → Operation → World → Outcome
  numbered i op X = unless numbers_left op W.bench.used then refuse X NumbersSpent else asks i op X

  abbrev unbusy : ℕ → Operation → World → Outcome
  unbusy i op X = unless is_idle (line_at W.bench.workers i) then refuse X BusyWorker else numbered i op X

  abbrev handed : ℕ → Operation → World → Outcome
  handed i op X = unless right_hand i op then refuse X WrongHand else unbusy i op X

  begin_reflects : (i : ℕ) (op : Operation) → Reflects (begin_in W i op) (begin_in U i op)
  begin_reflects i op =
      unless_reflects (ltb i W.bench.crew) NoSuchWorker (handed i op)
      (unless_reflects (right_hand i op) WrongHand (unbusy i op)
      (unless_reflects (is_idle (line_at W.bench.workers i)) BusyWorker (numbered i op)
      (unless_reflects (numbers_left op W.bench.used) NumbersSpent (asks i op)
      (unless_reflects (asked op W.bench.aside) NoAsk (λ X. begun X i op) (d, m, L, refl)))))

  -- what the owner reads
  like_view : Like ω (laid ss q) (words ω q.arrays ss W.store) d (words ω d ss m)
  like_view =
      like_as (laid ss q) refl refl
      (like_stores κ _ ω q H.low q.published _ ss W.store d m (placed H.shape.arrays) (placed K.shape.arrays) L H.shape.path)

  -- a worker's line
  effect_both : (i : ℕ) → effect_of ρ' U i ≡ effect_of ρ W i
  effect_both zero = own_same like_view ρ ρ' κ _ W.bench.used _ _ (line_at W.bench.workers 0) same_left (shape_settle κ ss H.shape)
  effect_both (suc k) = thief_same L ρ ρ' κ _ (suc k) _ (line_at W.bench.workers (suc k)) H.shape.arrays (H.shape.th k)

  next_both : (i : ℕ) → next_effect ρ' U i ≡ next_effect ρ W i
  next_both i = effect_is ρ' U i ∙ effect_both i ∙ sym (effect_is ρ W i)

  -- memory after it: X1's claim, then the stores that land
  claim_both : (x : Bool) → (x ≡ true → (q.claimed < length q.arrays) × (next_length q ≤ ρ.left))
      → Like ω (queue_after ρ x q) (store_after ρ x q W.store) (arrays_after ρ' x (redirect q d)) (store_after ρ' x (redirect q d) m)
  claim_both false f = like_as (queue_after ρ false q) refl refl L
  claim_both true f =
      let (h, l) = f refl in
      let A = H.shape.arrays in
      let last : q.claimed - 1 < q.claimed = omega (arith, A.some, A.below) in
      let long = long_at A (q.claimed - 1) last in
      subst (λ (n : ℕ). Like ω (claiming ρ q) (zeros W.store ρ.next (next_length q)) (set d q.claimed (record { offset = ρ'.next; length = n })) (zeros m ρ'.next n))
      (ap (λ (n : ℕ). 2 * n) (sym (L.lengths (q.claimed - 1))))
      (claim_like ρ ρ' A K.shape.arrays L R.free R'.free h (2 * size_at ω q.arrays (q.claimed - 1)) (omega (arith, long)) l (omega (arith, l, same_left)))

  landed_like : (δ : Bool) (p : Queue) (μ : List ℕ) (e : List Region) (μ' : List ℕ) (low k τ : ℕ) (rr : List Store) → Placed ω p.arrays p.claimed μ → Placed ω e p.claimed μ' → Like ω p μ e μ'
      → Path κ (tag_bits W.bench) ω p.arrays p.claimed low k τ rr → Like ω p (words ω p.arrays (landing δ 0 rr) μ) e (words ω e (landing δ 0 rr) μ')
  landed_like true p μ e μ' low k τ rr P P' X Y = X
  landed_like false p μ e μ' low k τ rr P P' X Y = like_stores κ _ ω p low k τ rr μ e μ' P P' X Y

  abbrev E : ℕ → Effect
  E i = effect_of ρ W i

  abbrev d₁ : ℕ → List Region
  d₁ i = arrays_after ρ' (E i).claims (redirect q d)

  abbrev m₁ : ℕ → List ℕ
  m₁ i = words ω (d₁ i) (landing W.bench.delayed i (E i).stores) (store_after ρ' (E i).claims (redirect q d) m)

  like_after : (i : ℕ) → Like ω (step_to ρ W i).world.bench.queue (step_to ρ W i).world.store (d₁ i) (m₁ i)
  like_after zero =
      let P = own_path H ρ R in
      let Z = (own_shape H ρ R).1.arrays in
      let Z' = subst (λ (x : Bool). Arrays ω (queue_after ρ' x (redirect q d)) (store_after ρ' x (redirect q d) m)) (ap (λ (F : Effect). F.claims) (effect_both 0)) (own_shape K ρ' R').1.arrays in
      let Y' = subst (λ (p : Queue). Placed ω (d₁ 0) p.claimed (store_after ρ' (E 0).claims (redirect q d) m)) (claimed_both ρ ρ' (E 0).claims q d) (placed Z') in
      like_as (step_to ρ W 0).world.bench.queue refl refl
      (landed_like W.bench.delayed (queue_after ρ (E 0).claims q) _ (d₁ 0) _ P.0 P.1 P.2 (E 0).stores (placed Z) Y' (claim_both (E 0).claims (own_left H ρ R)) P.3)
  like_after (suc k) =
      subst (λ (μ : List ℕ). Like ω (step_to ρ W (suc k)).world.bench.queue μ (d₁ (suc k)) (m₁ (suc k))) (sym (thief_stores H ρ R k))
      (subst (λ (μ : List ℕ). Like ω (step_to ρ W (suc k)).world.bench.queue W.store (d₁ (suc k)) μ)
      (sym (ap (store_then ρ' U (suc k)) (sym (effect_both (suc k))) ∙ thief_stores K ρ' R' k))
      (subst (λ (x : Bool). Like ω (queue_after ρ x q) W.store (arrays_after ρ' x (redirect q d)) m → Like ω (step_to ρ W (suc k)).world.bench.queue W.store (d₁ (suc k)) m)
      (thief_calm ρ H k) (like_as (step_to ρ W (suc k)).world.bench.queue refl refl) (like_as (queue_after ρ false q) refl refl L)))

  -- the same state with other counts of restarts
  abbrev with_restarts : World → List ℕ → World
  with_restarts X ns =
      record {
        bench =
            record {
              kind = X.bench.kind;
              width = X.bench.width;
              words = X.bench.words;
              delayed = X.bench.delayed;
              crew = X.bench.crew;
              queue = X.bench.queue;
              waiting = X.bench.waiting;
              aside = X.bench.aside;
              used = X.bench.used;
              restarts = ns;
              written = X.bench.written;
              workers = X.bench.workers;
            };
        store = X.store;
        log = X.log;
      }

  to_both : (i : ℕ) → step_to ρ' U i ≡ record { world = lonely (step_to ρ W i).world (d₁ i) (m₁ i); answer = (E i).answer }
  to_both i =
      ap (λ (F : Effect). record { world = world_with U i F (shared (queue_then ρ' U i F) (store_then ρ' U i F)); answer = F.answer }) (effect_both i)
      ∙ ap (λ (p : Queue). record { world = world_with U i (E i) (shared (laid (landing W.bench.delayed i (E i).stores) p) (m₁ i)); answer = (E i).answer }) (claimed_both ρ ρ' (E i).claims q d)
      ∙ ap (λ (x : Bool). record { world = with_restarts (lonely (step_to ρ W i).world (d₁ i) (m₁ i)) (when x then raised W.bench.restarts i else W.bench.restarts); answer = (E i).answer })
      (fails_both κ q d i (line_at W.bench.workers i))

  stepped_reflects : (i : ℕ) → Reflects (stepped ρ W i (next_effect ρ W i)) (stepped ρ' U i (next_effect ρ' U i))
  stepped_reflects i =
      subst (λ (D : Outcome). Reflects D (stepped ρ' U i (next_effect ρ' U i))) (sym (stepped_is ρ W i)) (d₁ i, m₁ i, like_after i, stepped_is ρ' U i ∙ to_both i)

  -- the two tests of a commit are on the same effect
  commit_reflects : (i : ℕ) → Reflects (commit ρ W i (next_effect ρ W i)) (commit ρ' U i (next_effect ρ' U i))
  commit_reflects i =
      subst (λ (F : Effect). Reflects (stepped ρ W i (next_effect ρ W i)) (stepped ρ' U i F) → Reflects (commit ρ W i (next_effect ρ W i)) (commit ρ' U i F)) (sym (next_both i))
      (λ X. reflects_if (crowded W i (next_effect ρ W i)) _ _ _ _ (λ x. (d, m, L, refl)) (λ x. reflects_if (no_room W (next_effect ρ W i)) _ _ _ _ (λ y. (d, m, L, refl)) (λ y. X))) (stepped_reflects i)

  step_reflects : (i : ℕ) → Reflects (step_in ρ W i) (step_in ρ' U i)
  step_reflects i =
      reflects_if (ltb i W.bench.crew) _ _ _ _
      (λ a. reflects_if (is_idle (line_at W.bench.workers i)) _ _ _ _ (λ b. (d, m, L, refl)) (λ b. commit_reflects i))
      (λ a. (d, m, L, refl))

  -- a link that fails; a drain
  drop_reflects : (i : ℕ) → Reflects (drop_link_in W i) (drop_link_in U i)
  drop_reflects i =
      reflects_if (ltb i W.bench.crew) _ _ _ _
      (λ a. reflects_if (holds_link q i) _ _ _ _ (λ b. (d, m, like_as (dropped W i).bench.queue refl refl L, refl)) (λ b. (d, m, L, refl))) (λ a. (d, m, L, refl))

  drain_reflects : Reflects (drain_in W) (drain_in U)
  drain_reflects = reflects_if (ltb 0 W.bench.waiting.count) _ _ _ _ (λ a. lands (ltb-true 0 W.bench.waiting.count a)) (λ a. (d, m, L, refl))
    where
      lands : 0 < W.bench.waiting.count → Reflects (record { world = drained W; answer = Accepted }) (record { world = drained U; answer = Accepted })
      lands some =
          subst (λ (X : World). Reflects (record { world = X; answer = Accepted }) (record { world = drained U; answer = Accepted })) (sym (drained_is W)) (
            d,
            (drain_to U).store,
            like_as (drain_to W).bench.queue refl refl
                (like_stores κ _ ω q H.low q.published _ (oldest W.bench.waiting ∷ []) W.store d m (placed H.shape.arrays) (placed K.shape.arrays) L (oldest_path H ρ R some)),
            ap (λ (X : World). record { world = X; answer = Accepted }) (drained_is U),
          )

  -- an ask and its drop
  seen_both : (owners_view U).queue ≡ redirect (owners_view W).queue d
  seen_both =
      ap (λ (S : Shared). S.queue) (landed_is ω (redirect q d) m ss) ∙ ap (λ (S : Shared). redirect S.queue d) (sym (landed_is ω q W.store ss))

  set_both : (n : ℕ) → Reflects (set_aside W n) (set_aside U n)
  set_both n = (d, m, L, refl)

  seen_like : Like ω (owners_view W).queue (words ω q.arrays ss W.store) d (words ω d ss m)
  seen_like = subst (λ (S : Shared). Like ω S.queue (words ω q.arrays ss W.store) d (words ω d ss m)) (sym (landed_is ω q W.store ss)) like_view

  abbrev asking : Room → World → Queue → Outcome
  asking r X p = unless eqb X.bench.aside 0 then refuse X AskStands else unless fits r ω p then refuse X NoSpace else set_aside X (next_length p)

  asking_both : Reflects (asking ρ W (owners_view W).queue) (asking ρ' U (owners_view U).queue)
  asking_both =
      subst (λ (p : Queue). Reflects (asking ρ W (owners_view W).queue) (asking ρ' U p)) (sym seen_both)
      (subst (λ (x : Bool). Reflects (asking ρ W (owners_view W).queue) (unless eqb W.bench.aside 0 then refuse U AskStands else unless x then refuse U NoSpace else set_aside U (next_length (redirect (owners_view W).queue d))))
      (sym (fits_both seen_like ρ ρ' same_left))
      (reflects_if (eqb W.bench.aside 0) _ _ _ _
      (λ a. reflects_if (fits ρ ω (owners_view W).queue) _ _ _ _
      (λ b. subst (λ (n : ℕ). Reflects (set_aside W (next_length (owners_view W).queue)) (set_aside U n)) (ap (λ (n : ℕ). 2 * n) (sym (seen_like.lengths ((owners_view W).queue.claimed - 1)))) (set_both (next_length (owners_view W).queue)))
      (λ b. (d, m, L, refl)))
      (λ a. (d, m, L, refl))))

  of_owner : (i : ℕ) (D D' : Outcome) → Reflects D D' → Reflects (of_idle_owner W i D) (of_idle_owner U i D')
  of_owner i D D' f =
      reflects_if (ltb i W.bench.crew) _ _ _ _
      (λ a. reflects_if (eqb i 0) _ _ _ _ (λ b. reflects_if (is_idle (line_at W.bench.workers i)) _ _ _ _ (λ e. f) (λ e. (d, m, L, refl))) (λ b. (d, m, L, refl))) (λ a. (d, m, L, refl))

  pub call_reflects : (c : Call) → Reflects (call_in ρ W c) (call_in ρ' U c)
  call_reflects (begin i op) = begin_reflects i op
  call_reflects (step i) = step_reflects i
  call_reflects (drop_link i) = drop_reflects i
  call_reflects drain = drain_reflects
  call_reflects (ask i) = of_owner i _ _ asking_both
  call_reflects (drop_ask i) = of_owner i _ _ (reflects_if (ltb 0 W.bench.aside) _ _ _ _ (λ a. set_both 0) (λ a. (d, m, L, refl)))
