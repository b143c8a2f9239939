-- Every call keeps a whole state whole.
use mathlib.Core.Path.{◌≡◌, refl, sym, ◌∙◌, ap, subst, subst₂, fun_ext}
use mathlib.Core.Bool.{Bool, true, false, true≢false}
use mathlib.Core.Logic.{◌≢◌, ◌⊎◌, inl, inr}
use mathlib.Core.List.{List, [], ◌∷◌, ◌++◌, map}
use Prim.Native.Nat.{ℕ, zero, suc, ◌+◌, ◌≤◌, ◌<◌}
use native.Mathlib.Omega.{arith}
use lib.Dec.{eqb, ltb}
use lib.ListN.{length, set, take, length-set}
use lib.Seq.{get_or-set_other, get_or-set_same}
use borrow.Author.Tests.{ltb-true, ltb-false, eqb-true}
use Rattle.model.specs.declared.Room.{Room}
use Rattle.model.specs.declared.Kind.{Kind}
use Rattle.model.specs.declared.Kind.TheVariants.{Lifo, Fifo, Deque}
use Rattle.model.specs.declared.Growth.TheVariants.{ForPut, ForCommit}
use Rattle.model.specs.declared.Line.{Line}
use Rattle.model.specs.declared.Line.TheVariants.{Idle, PutRead, PutTail, PutTest, PutWord, PutFinish, Claim, Note, Copy, Publish, TakeRead, TakeTail, TakeTest, TakeWord, TakeFinish, StealRead, StealTail, StealTest, StealNote, StealWord, StealNext, StealCompare}
use Rattle.model.specs.declared.Queue.{Queue}
use Rattle.model.specs.declared.Store.{Store}
use Rattle.model.specs.declared.Waiting.{Waiting}
use Rattle.model.specs.declared.Worker.{Worker}
use Rattle.model.specs.declared.Operation.{Operation}
use Rattle.model.specs.declared.Operation.TheVariants.{Put, Take, Steal, Commit}
use Rattle.model.specs.declared.Payload.{Payload}
use Rattle.model.specs.Tests.{when◌then◌else◌, ◌and◌, ◌or◌}
use Rattle.model.specs.Tasks.{task, first_words}
use Rattle.model.specs.Answers.{entry_of, ends, entry_length, entry_words, logged}
use Rattle.model.specs.Stores.{in_line, joined, oldest, one_less}
use Rattle.model.specs.Lines.{Effect, holds_link}
use Rattle.model.specs.World.{World, Outcome, tag_bits, resting, line_at, is_idle, is_steal1, is_past1, is_expanding, is_commit1}
use Rattle.model.specs.Limits.{link_ok}
use Rattle.model.specs.Calls.{link_set, relinked, joining, landing, log_full, used_by, first_line, begun, Call, set_aside, call_in, lent}
use Rattle.model.proofs.Tests.{or_false, and_left}
use Rattle.model.proofs.Tasks.{gathered_again, first_number}
use Rattle.theorems.proofs.Remainders.{le_or_lt}
use Rattle.theorems.proofs.Folds.{laid, words, places, arrays_after, queue_after}
use Rattle.theorems.proofs.Words.{set_all_length}
use Rattle.theorems.proofs.Directory.{arrays_anchor, Admits, Others}
use Rattle.theorems.proofs.Cases.{dropped, effect_of, queue_then, store_then, step_to, drain_to, MayBegin, MayStep, MayAside, call_by}
use Rattle.theorems.proofs.Asides.{Aside, none_aside, aside_move, at_rest, line_next}
use Rattle.theorems.proofs.ShapeOthers.{shape_others}
use Rattle.theorems.proofs.Shape.{tail, Spent, Known, low_of, lows, ThiefShape, thief_keep, Shape}
use Rattle.theorems.proofs.ShapeLay.{shape_lay, shape_settle}
use Rattle.theorems.proofs.ShapeOwner.{spent_put}
use Rattle.theorems.proofs.ShapeThief.{thief_shaped, thief_stay}
use Rattle.theorems.proofs.ShapeStep.{no_more, not_both, claim_only, own_shaped}
use Rattle.theorems.proofs.Held.{line_join, joined_length, line_drain, drained_length}
use Rattle.theorems.proofs.Links.{held_set, links_held, own_unlinked, link_parts, link_as, linked_now}
use Rattle.theorems.proofs.Valid.{thieves, LinksOk, Whole}

pub idle_is : (o : Line) → is_idle o ≡ true → o ≡ Idle
idle_is Idle e = refl
idle_is (PutRead t) e = cc
idle_is (PutTail t h) e = cc
idle_is (PutTest t r) e = cc
idle_is (PutWord t r j) e = cc
idle_is (PutFinish t r) e = cc
idle_is (Claim (ForPut t)) e = cc
idle_is (Claim ForCommit) e = cc
idle_is (Note t) e = cc
idle_is (Copy t h j i) e = cc
idle_is (Publish t) e = cc
idle_is TakeRead e = cc
idle_is (TakeTail h) e = cc
idle_is (TakeTest r) e = cc
idle_is (TakeWord r t j) e = cc
idle_is (TakeFinish r t) e = cc
idle_is StealRead e = cc
idle_is (StealTail h) e = cc
idle_is (StealTest r) e = cc
idle_is (StealNote r) e = cc
idle_is (StealWord r k t j) e = cc
idle_is (StealNext r t) e = cc
idle_is (StealCompare r i t) e = cc

-- the lines after worker i's is replaced
pub line_same : (l : List Worker) (i : ℕ) (x : Line) → i < length l → line_at (set l i (record { line = x })) i ≡ x
line_same l i x h = ap (λ (u : Worker). u.line) (get_or-set_same l i (record { line = x }) resting h)

pub line_other : (l : List Worker) (i j : ℕ) (x : Line) → j ≢ i → line_at (set l i (record { line = x })) j ≡ line_at l j
line_other l i j x ne = ap (λ (u : Worker). u.line) (get_or-set_other l i j (record { line = x }) resting ne)

-- a property of the owner's and the thieves' lines, after the owner's is put back, after a thief's is
pub own_back : (P : Line → (ℕ → Line) → Type 0) (l : List Worker) (x : Line) → 0 < length l → P x (thieves l)
    → P (line_at (set l 0 (record { line = x })) 0) (thieves (set l 0 (record { line = x })))
own_back P l x p I =
    subst₂ P (sym (line_same l 0 x p)) (fun_ext (λ k. sym (line_other l 0 (suc k) x (omega arith)))) I

pub thief_back : (P : Line → (ℕ → Line) → Type 0) (l : List Worker) (k : ℕ) (x : Line) → suc k < length l
    → ((φ' : ℕ → Line) → φ' k ≡ x → ((i : ℕ) → i ≢ k → φ' i ≡ thieves l i) → P (line_at l 0) φ')
    → P (line_at (set l (suc k) (record { line = x })) 0) (thieves (set l (suc k) (record { line = x })))
thief_back P l k x p f =
    subst (λ (o : Line). P o (thieves (set l (suc k) (record { line = x })))) (sym (line_other l (suc k) 0 x (omega arith)))
    (f (thieves (set l (suc k) (record { line = x }))) (line_same l (suc k) x p) (λ i ne. line_other l (suc k) (suc i) x (omega arith)))

-- the owner's operations and the thieves'
pub not_thief : (k : ℕ) {A : Type 0} → eqb (suc k) 0 ≡ true → A
not_thief k e = absurd (omega (arith, eqb-true (suc k) 0 e))

pub not_owner : {A : Type 0} → ltb 0 0 ≡ true → A
not_owner e = absurd (omega (arith, ltb-true 0 0 e))

-- another worker's link
pub shape_relink : {κ : Kind} {w ω used low : ℕ} {q : Queue} {m : List ℕ} {ss : List Store} {o : Line} {φ : ℕ → Line} (i : ℕ) (x : Bool) → Shape κ w ω used low q m ss o φ → Shape κ w ω used low (link_set q i x) m ss o φ
shape_relink {κ} {w} {ω} {used} {low} {q} {m} {ss} {o} {φ} i x S =
    record {
      anchor = S.anchor;
      arrays = arrays_anchor _ _ S.arrays;
      path = S.path;
      own = S.own;
      th = λ k. thief_keep κ w ω q (link_set q i x) (record { sized = omega arith; later = omega arith; more = omega arith; same = λ j h. refl }) (φ k) (S.th k);
    }

-- a step's stores: those that join, those that are put down at once
own_landed : (κ : Kind) (w ω used low : ℕ) (q : Queue) (m : List ℕ) (o : Line) (φ : ℕ → Line) (δ : Bool) (l : Waiting) (rr : List Store) → (δ ≡ false → l.count ≡ 0) → l.count ≤ length l.stores
    → Shape κ w ω used low q m (in_line l ++ rr) o φ
    → (low' : ℕ) × Shape κ w ω used low' (laid (landing δ 0 rr) q) (words ω q.arrays (landing δ 0 rr) m) (in_line (joined l (joining δ 0 rr))) o φ
own_landed κ w ω used low q m o φ true l rr none h S = (low, subst (λ (ss : List Store). Shape κ w ω used low q m ss o φ) (sym (line_join l rr h)) S)
own_landed κ w ω used low q m o φ false l rr none h S =
    (lows rr low, subst (λ (ss : List Store). Shape κ w ω used (lows rr low) (laid rr q) (words ω q.arrays rr m) ss o φ) (sym empty') (shape_settle κ rr S'))
  where
    empty : in_line l ≡ []
    empty = ap (λ (k : ℕ). take k l.stores) (none refl)

    empty' : in_line (joined l []) ≡ []
    empty' = line_join l [] h ∙ ap (λ (y : List Store). y ++ []) empty

    S' : Shape κ w ω used low q m rr o φ
    S' = subst (λ (y : List Store). Shape κ w ω used low q m (y ++ rr) o φ) empty S

pub none_join : (l : Waiting) (k : ℕ) (δ : Bool) (rr : List Store) → l.count ≤ length l.stores
    → (in_line (joined l (joining δ (suc k) rr)) ≡ in_line l) × (landing δ (suc k) rr ≡ rr) × (length (joining δ (suc k) rr) ≡ 0)
none_join l k true rr h = (line_join l [] h ∙ no_more (in_line l), refl, refl)
none_join l k false rr h = (line_join l [] h ∙ no_more (in_line l), refl, refl)

none_now : (δ : Bool) (i : ℕ) (rr : List Store) → δ ≡ false → length (joining δ i rr) ≡ 0
none_now true i rr e = not_both true e refl
none_now false i rr e = refl

module _ {W : World} (H : Whole W) where
  pub in_crew : (i : ℕ) → i < W.bench.crew → i < length W.bench.workers
  in_crew i l = omega (arith, H.workers, H.crew.1)

  pub in_line_lem : W.bench.waiting.count ≤ length W.bench.waiting.stores
  in_line_lem = omega (arith, H.line, H.stores)

  rested : (i : ℕ) (x : Line) → i < W.bench.crew → (k : ℕ) → W.bench.crew ≤ k → is_idle (line_at (set W.bench.workers i (record { line = x })) k) ≡ true
  rested i x l k h = rw (line_other W.bench.workers i k x (omega arith)) (H.rest k h)

  -- BEGIN
  abbrev ShapeOf : ℕ → Line → (ℕ → Line) → Type 0
  ShapeOf n o φ = Shape W.bench.kind (tag_bits W.bench) W.bench.words n H.low W.bench.queue W.store (in_line W.bench.waiting) o φ

  idle_shape : is_idle (line_at W.bench.workers 0) ≡ true → ShapeOf W.bench.used Idle (thieves W.bench.workers)
  idle_shape e = subst (λ (o : Line). ShapeOf W.bench.used o (thieves W.bench.workers)) (idle_is _ e) H.shape

  -- a put takes a number
  put_shape : (p : Payload) (κ : Kind) (w ω used low : ℕ) (q : Queue) (m : List ℕ) (ss : List Store) (φ : ℕ → Line) → used < 65535 → ω ≤ 4 → Shape κ w ω used low q m ss Idle φ
      → Shape κ w ω (used + 1) low q m ss (PutRead (first_words (ω + 1) (task (used + 1) p))) φ
  put_shape p κ w ω used low q m ss φ l wide S =
      record { anchor = S.anchor; arrays = S.arrays; path = S.path; own = record { claims = S.own.claims; spent = go κ _ S.own.spent; shape = known }; th = S.th }
    where
      go : (κ : Kind) (c : ℕ) → Spent κ c Idle used → Spent κ c (PutRead (first_words (ω + 1) (task (used + 1) p))) (used + 1)
      go Lifo c s = tt
      go Fifo c s = omega arith
      go Deque c s = tt

      known : Known (ω + 1) (first_words (ω + 1) (task (used + 1) p))
      known = (omega (arith, first_number ω (task (used + 1) p)), gathered_again (ω + 1) _ (omega arith))

  take_shape : (κ : Kind) (w ω used low : ℕ) (q : Queue) (m : List ℕ) (ss : List Store) (φ : ℕ → Line) → Shape κ w ω used low q m ss Idle φ → Shape κ w ω used low q m ss TakeRead φ
  take_shape κ w ω used low q m ss φ S =
      record { anchor = S.anchor; arrays = S.arrays; path = S.path; own = record { claims = S.own.claims; spent = spent_put κ _ used Idle TakeRead refl S.own.spent; shape = tt }; th = S.th }

  commit_shape : (κ : Kind) (w ω used low : ℕ) (q : Queue) (m : List ℕ) (ss : List Store) (φ : ℕ → Line) → Shape κ w ω used low q m ss Idle φ → Shape κ w ω used low q m ss (Claim ForCommit) φ
  commit_shape κ w ω used low q m ss φ S =
      record { anchor = S.anchor; arrays = S.arrays; path = S.path; own = record { claims = S.own.claims; spent = spent_put κ _ used Idle (Claim ForCommit) refl S.own.spent; shape = tt }; th = S.th }

  first_shape : (i : ℕ) (op : Operation) → MayBegin W i op → let x = first_line op W.bench.words W.bench.used in
      ShapeOf (used_by op W.bench.used) (line_at (set W.bench.workers i (record { line = x })) 0) (thieves (set W.bench.workers i (record { line = x })))
  first_shape zero (Put p) B =
      own_back (ShapeOf (W.bench.used + 1)) W.bench.workers _ (in_crew 0 B.member)
      (put_shape p _ _ _ _ _ _ _ _ _ (ltb-true W.bench.used 65535 B.number) H.words.1 (idle_shape B.idle))
  first_shape (suc k) (Put p) B = not_thief k B.hand
  first_shape zero Commit B = own_back (ShapeOf W.bench.used) W.bench.workers _ (in_crew 0 B.member) (commit_shape _ _ _ _ _ _ _ _ _ (idle_shape B.idle))
  first_shape (suc k) Commit B = not_thief k B.hand
  first_shape zero Take B = own_back (ShapeOf W.bench.used) W.bench.workers TakeRead (in_crew 0 B.member) (take_shape _ _ _ _ _ _ _ _ _ (idle_shape B.idle))
  first_shape (suc k) Take B = not_thief k B.hand
  first_shape zero Steal B = not_owner B.hand
  first_shape (suc k) Steal B =
      thief_back (ShapeOf W.bench.used) W.bench.workers k StealRead (in_crew (suc k) B.member) (thief_stay H.shape k StealRead tt)

  used_in : (op : Operation) (i : ℕ) → MayBegin W i op → used_by op W.bench.used ≤ 65535
  used_in (Put p) i B = omega (arith, ltb-true W.bench.used 65535 B.number)
  used_in Take i B = H.used
  used_in Steal i B = H.used
  used_in Commit i B = H.used

  -- worker i's line becomes x, and worker k holds a link
  link_line : (κ : Kind) (q : Queue) (i k : ℕ) (x : Line) → i < W.bench.crew → (k ≡ i → link_ok κ q x ≡ true) → (k ≢ i → link_ok κ q (line_at W.bench.workers k) ≡ true)
      → link_ok κ q (line_at (set W.bench.workers i (record { line = x })) k) ≡ true
  link_line κ q i k x l f g = go (le_or_lt i k) (le_or_lt k i)
    where
      other : k ≢ i → link_ok κ q (line_at (set W.bench.workers i (record { line = x })) k) ≡ true
      other ne = subst (λ (θ : Line). link_ok κ q θ ≡ true) (sym (line_other W.bench.workers i k x ne)) (g ne)

      go : (i ≤ k) ⊎ (k < i) → (k ≤ i) ⊎ (i < k) → link_ok κ q (line_at (set W.bench.workers i (record { line = x })) k) ≡ true
      go (inr a) b = other (omega arith)
      go (inl a) (inr b) = other (omega arith)
      go (inl a) (inl b) =
          let e : k ≡ i = omega arith in
          subst (λ (θ : Line). link_ok κ q θ ≡ true) (sym (ap (line_at (set W.bench.workers i (record { line = x }))) e ∙ line_same W.bench.workers i x (in_crew i l))) (f e)

  begun_links : (i : ℕ) (x : Line) → i < W.bench.crew → is_idle (line_at W.bench.workers i) ≡ true
      → LinksOk W.bench.kind W.bench.queue (set W.bench.workers i (record { line = x }))
  begun_links i x l e k h =
      link_line W.bench.kind W.bench.queue i k x l
      (λ q.
      let idle : line_at W.bench.workers k ≡ Idle = ap (line_at W.bench.workers) q ∙ idle_is (line_at W.bench.workers i) e in
      absurd (true≢false (sym (link_parts W.bench.kind W.bench.queue (line_at W.bench.workers k) (H.links k h)).1 ∙ ap is_past1 idle)))
      (λ ne. H.links k h)

  -- the words set aside, while worker i's line becomes x
  abbrev AsideAt : Line → Type 0
  AsideAt o = Aside W.bench.words (laid (in_line W.bench.waiting) W.bench.queue) o W.bench.aside

  first_aside : (o : Line) → (is_commit1 o ≡ true → 0 < W.bench.aside) → is_expanding o ≡ false → AsideAt o
  first_aside o some calm = aside_move W.bench.words (laid (in_line W.bench.waiting) W.bench.queue) (laid (in_line W.bench.waiting) W.bench.queue) (line_at W.bench.workers 0) o W.bench.aside refl refl (λ e. refl) some (λ e. calm) H.aside

  thief_aside : (k : ℕ) (x : Line) → AsideAt (line_at (set W.bench.workers (suc k) (record { line = x })) 0)
  thief_aside k x = subst AsideAt (sym (line_other W.bench.workers (suc k) 0 x (omega arith))) H.aside

  own_aside : (x : Line) → 0 < W.bench.crew → AsideAt x → AsideAt (line_at (set W.bench.workers 0 (record { line = x })) 0)
  own_aside x l A = subst AsideAt (sym (line_same W.bench.workers 0 x (in_crew 0 l))) A

  begun_aside : (i : ℕ) (op : Operation) → MayBegin W i op → AsideAt (line_at (set W.bench.workers i (record { line = first_line op W.bench.words W.bench.used })) 0)
  begun_aside zero (Put p) B = let x = first_line (Put p) W.bench.words W.bench.used in own_aside x B.member (first_aside x (λ c. absurd (true≢false (sym c))) refl)
  begun_aside zero Take B = own_aside TakeRead B.member (first_aside TakeRead (λ c. absurd (true≢false (sym c))) refl)
  begun_aside zero Steal B = not_owner B.hand
  begun_aside zero Commit B = own_aside (Claim ForCommit) B.member (first_aside (Claim ForCommit) (λ c. ltb-true 0 W.bench.aside B.ask) refl)
  begun_aside (suc k) op B = thief_aside k _

  begun_whole : (i : ℕ) (op : Operation) → MayBegin W i op → Whole (begun W i op).world
  begun_whole i op B =
      record {
        kinds = H.kinds;
        links = begun_links i (first_line op W.bench.words W.bench.used) B.member B.idle;
        width = H.width;
        words = H.words;
        crew = H.crew;
        workers = length-set W.bench.workers i _ ∙ H.workers;
        rest = rested i (first_line op W.bench.words W.bench.used) B.member;
        used = used_in op i B;
        logged = H.logged;
        stores = H.stores;
        line = H.line;
        mode = H.mode;
        aside = begun_aside i op B;
        low = H.low;
        shape = first_shape i op B;
      }

-- STEP: X1 finds the room ρ
module _ (ρ : Room) {W : World} (H : Whole W) where
  abbrev ShapeAfter : ℕ → ℕ → Line → (ℕ → Line) → Type 0
  ShapeAfter i low o φ =
      Shape W.bench.kind (tag_bits W.bench) W.bench.words W.bench.used low (queue_then ρ W i (effect_of ρ W i)) (store_then ρ W i (effect_of ρ W i)) (in_line (step_to ρ W i).world.bench.waiting) o φ

  own_after : Admits ρ W.bench W.store → (low : ℕ) × ShapeAfter 0 low (effect_of ρ W 0).line (thieves W.bench.workers)
  own_after R =
      let E = effect_of ρ W 0 in
      let S = own_shaped ρ W.bench.kind (tag_bits W.bench) W.bench.words W.bench.used H.low W.bench.queue W.store (in_line W.bench.waiting) (line_at W.bench.workers 0) (thieves W.bench.workers) H.words.1 R.free H.shape in
      own_landed W.bench.kind (tag_bits W.bench) W.bench.words W.bench.used S.0 _ _ E.line (thieves W.bench.workers) W.bench.delayed W.bench.waiting E.stores H.mode (in_line_lem H) S.1

  -- a thief claims nothing, and its stores are put down
  pub thief_calm : (k : ℕ) → (effect_of ρ W (suc k)).claims ≡ false
  thief_calm k = go (effect_of ρ W (suc k)).claims refl
    where
      go : (x : Bool) → (effect_of ρ W (suc k)).claims ≡ x → (effect_of ρ W (suc k)).claims ≡ false
      go false e = e
      go true e =
          let C = claim_only ρ W.bench.kind (tag_bits W.bench) W.bench.words W.bench.queue W.store (suc k) (line_at W.bench.workers (suc k)) e in
          absurd (subst (λ (θ : Line). ThiefShape W.bench.kind (tag_bits W.bench) W.bench.words W.bench.queue (tail W.bench.kind W.bench.queue.anchor) θ) C.1 (H.shape.th k))

  pub thief_lands : (k : ℕ) → (in_line (step_to ρ W (suc k)).world.bench.waiting ≡ in_line W.bench.waiting) × (landing W.bench.delayed (suc k) (effect_of ρ W (suc k)).stores ≡ (effect_of ρ W (suc k)).stores)
  thief_lands k = let N = none_join W.bench.waiting k W.bench.delayed (effect_of ρ W (suc k)).stores (in_line_lem H) in (N.0, N.1)

  line_shape : Admits ρ W.bench W.store → (i : ℕ) → i < W.bench.crew → (low : ℕ) × ShapeAfter i low (line_at (step_to ρ W i).world.bench.workers 0) (thieves (step_to ρ W i).world.bench.workers)
  line_shape R zero l = ((own_after R).0, own_back (ShapeAfter 0 (own_after R).0) W.bench.workers (effect_of ρ W 0).line (in_crew H 0 l) (own_after R).1)
  line_shape R (suc k) l =
      (H.low, thief_back (ShapeAfter (suc k) H.low) W.bench.workers k E.line (in_crew H (suc k) l) (λ φ' is rest. kept (T φ' is rest)))
    where
      E : Effect
      E = effect_of ρ W (suc k)

      T : (φ' : ℕ → Line) → φ' k ≡ E.line → ((i : ℕ) → i ≢ k → φ' i ≡ thieves W.bench.workers i)
          → Shape W.bench.kind (tag_bits W.bench) W.bench.words W.bench.used H.low (laid E.stores W.bench.queue) (words W.bench.words W.bench.queue.arrays E.stores W.store) (in_line W.bench.waiting) (line_at W.bench.workers 0) φ'
      T = thief_shaped ρ _ _ _ _ _ _ _ _ _ _ k (line_at W.bench.workers (suc k)) H.words.1 H.kinds H.shape (H.shape.th k)

      kept : {φ' : ℕ → Line}
          → Shape W.bench.kind (tag_bits W.bench) W.bench.words W.bench.used H.low (laid E.stores W.bench.queue) (words W.bench.words W.bench.queue.arrays E.stores W.store) (in_line W.bench.waiting) (line_at W.bench.workers 0) φ'
          → ShapeAfter (suc k) H.low (line_at W.bench.workers 0) φ'
      kept S = rw (thief_calm k, (thief_lands k).0, (thief_lands k).1) S

  -- the words set aside after it
  abbrev AsideAfter : ℕ → Line → ℕ → Type 0
  AsideAfter i o n = Aside W.bench.words (laid (in_line (step_to ρ W i).world.bench.waiting) (step_to ρ W i).world.bench.queue) o n

  next_line : (i : ℕ) → (is_commit1 (effect_of ρ W i).line ≡ false) × ((effect_of ρ W i).claims ≡ false → is_expanding (line_at W.bench.workers i) ≡ false → is_expanding (effect_of ρ W i).line ≡ false)
  next_line zero = line_next ρ W.bench.kind (tag_bits W.bench) W.bench.words _ _ 0 (line_at W.bench.workers 0)
  next_line (suc k) = line_next ρ W.bench.kind (tag_bits W.bench) W.bench.words W.bench.queue W.store (suc k) (line_at W.bench.workers (suc k))

  -- the owner's line then
  owner_next : (i : ℕ) → i < W.bench.crew → (effect_of ρ W i).claims ≡ false → let o = line_at (step_to ρ W i).world.bench.workers 0 in
      (is_commit1 o ≡ true → 0 < W.bench.aside) × (is_expanding (line_at W.bench.workers 0) ≡ false → is_expanding o ≡ false)
  owner_next zero l f =
      subst (λ (o : Line). (is_commit1 o ≡ true → 0 < W.bench.aside) × (is_expanding (line_at W.bench.workers 0) ≡ false → is_expanding o ≡ false)) (sym (line_same W.bench.workers 0 _ (in_crew H 0 l)))
      ((λ c. absurd (true≢false (sym c ∙ (next_line 0).0))), (next_line 0).1 f)
  owner_next (suc k) l f =
      subst (λ (o : Line). (is_commit1 o ≡ true → 0 < W.bench.aside) × (is_expanding (line_at W.bench.workers 0) ≡ false → is_expanding o ≡ false)) (sym (line_other W.bench.workers (suc k) 0 _ (omega arith)))
      (H.aside.0, λ e. e)

  stepped_aside : Admits ρ W.bench W.store → (i : ℕ) → i < W.bench.crew → AsideAfter i (line_at (step_to ρ W i).world.bench.workers 0) (step_to ρ W i).world.bench.aside
  unfolding when◌then◌else◌
  stepped_aside R i l = go i l (effect_of ρ W i).claims refl
    where
      go : (i : ℕ) → i < W.bench.crew → (x : Bool) → (effect_of ρ W i).claims ≡ x → AsideAfter i (line_at (step_to ρ W i).world.bench.workers 0) (step_to ρ W i).world.bench.aside
      go i l false f =
          subst (λ (x : Bool). AsideAfter i (line_at (step_to ρ W i).world.bench.workers 0) (when x then 0 else W.bench.aside)) (sym f)
          (aside_move W.bench.words (laid (in_line W.bench.waiting) W.bench.queue) (laid (in_line (step_to ρ W i).world.bench.waiting) (step_to ρ W i).world.bench.queue) (line_at W.bench.workers 0) (line_at (step_to ρ W i).world.bench.workers 0) W.bench.aside (ap (λ (x : Bool). arrays_after ρ x W.bench.queue) f) same
          (λ e. at_rest _ _ _ (line_shape R i l).1.own.claims ((owner_next i l f).1 e) ∙ same ∙ sym (at_rest _ _ _ H.shape.own.claims e))
          (owner_next i l f).0 (owner_next i l f).1 H.aside)
        where
          same : (queue_after ρ (effect_of ρ W i).claims W.bench.queue).claimed ≡ W.bench.queue.claimed
          same = ap (λ (x : Bool). (queue_after ρ x W.bench.queue).claimed) f
      go zero l true f =
          subst (λ (x : Bool). AsideAfter 0 (line_at (step_to ρ W 0).world.bench.workers 0) (when x then 0 else W.bench.aside)) (sym f)
          (none_aside W.bench.words (laid (in_line (step_to ρ W 0).world.bench.waiting) (step_to ρ W 0).world.bench.queue) (line_at (step_to ρ W 0).world.bench.workers 0) (ap is_commit1 (line_same W.bench.workers 0 _ (in_crew H 0 l)) ∙ (next_line 0).0))
      go (suc k) l true f = absurd (true≢false (sym f ∙ thief_calm k))

  -- worker i holds a link after its step
  abbrev Linked : ℕ → Type 0
  Linked i =
      (is_past1 (effect_of ρ W i).line and ((W.bench.queue.linked and is_steal1 (line_at W.bench.workers i)) or holds_link (queue_then ρ W i (effect_of ρ W i)) i)) ≡ true

  pub linked_step : Admits ρ W.bench W.store → (i : ℕ) → Linked i
      → ((line_at W.bench.workers i ≡ StealRead) ⊎ (holds_link (queue_then ρ W i (effect_of ρ W i)) i ≡ true))
      × (link_ok W.bench.kind (relinked (queue_then ρ W i (effect_of ρ W i)) i (line_at W.bench.workers i) (effect_of ρ W i).line) (effect_of ρ W i).line ≡ true)
  linked_step R zero x = absurd (own_unlinked W.bench.kind _ _ _ _ _ (effect_of ρ W 0).line _ (own_after R).1.own.shape x)
  linked_step R (suc k) x = go x
    where
      E : Effect
      E = effect_of ρ W (suc k)

      Now : Queue → Type 0
      Now Q =
          (is_past1 E.line and ((W.bench.queue.linked and is_steal1 (line_at W.bench.workers (suc k))) or holds_link Q (suc k))) ≡ true
          → ((line_at W.bench.workers (suc k) ≡ StealRead) ⊎ (holds_link Q (suc k) ≡ true))
          × (link_ok W.bench.kind (relinked Q (suc k) (line_at W.bench.workers (suc k)) E.line) E.line ≡ true)

      here : Now (laid E.stores W.bench.queue)
      here = linked_now ρ W.bench.kind (tag_bits W.bench) W.bench.words W.bench.queue W.store (suc k) H.low _ (line_at W.bench.workers (suc k)) H.kinds (inr (H.shape.th k)) (H.links (suc k))

      go : Now (queue_then ρ W (suc k) E)
      go =
          subst (λ (x : Bool). Now (laid (landing W.bench.delayed (suc k) E.stores) (queue_after ρ x W.bench.queue))) (sym (thief_calm k))
          (subst (λ (ss : List Store). Now (laid ss W.bench.queue)) (sym (thief_lands k).1) here)

  stepped_links : Admits ρ W.bench W.store → (i : ℕ) → i < W.bench.crew → LinksOk W.bench.kind (step_to ρ W i).world.bench.queue (step_to ρ W i).world.bench.workers
  stepped_links R i l k h = go (held_set (queue_then ρ W i (effect_of ρ W i)).links i k _ h)
    where
      E : Effect
      E = effect_of ρ W i

      q' : Queue
      q' = relinked (queue_then ρ W i (effect_of ρ W i)) i (line_at W.bench.workers i) (effect_of ρ W i).line

      go : ((k ≡ i) × Linked i) ⊎ ((k ≢ i) × (holds_link (queue_then ρ W i (effect_of ρ W i)) k ≡ true))
          → link_ok W.bench.kind q' (line_at (set W.bench.workers i (record { line = (effect_of ρ W i).line })) k) ≡ true
      go (inl (e, x)) = link_line H W.bench.kind q' i k (effect_of ρ W i).line l (λ q. (linked_step R i x).1) (λ ne. absurd (ne e))
      go (inr (ne, x)) =
          link_line H W.bench.kind q' i k (effect_of ρ W i).line l (λ q. absurd (ne q))
          (λ n. let (a, b, c) = links_held (landing W.bench.delayed i (effect_of ρ W i).stores) W.bench.queue.links W.bench.queue.anchor k x in
          let θ = line_at W.bench.workers k in
          let o = H.links k a in
          link_as W.bench.kind W.bench.queue q' θ θ refl b (link_parts W.bench.kind W.bench.queue θ o).1 refl o)

  -- the log's length stays within the slice
  written_in : (i : ℕ) (x y : Bool) → ends (effect_of ρ W i).answer ≡ x → log_full W.bench.words W.log W.bench.written ≡ y → x and y ≡ false
      → (step_to ρ W i).world.bench.written ≤ length (logged W.bench.words W.log W.bench.written (effect_of ρ W i).answer)
  unfolding ◌and◌ when◌then◌else◌
  written_in i true true ex ey nb = absurd (let z : ◌≡◌ {A = ℕ} 0 1 = cc in omega arith)
  written_in i true false ex ey nb =
      rw ex
      (omega (
        arith,
        ltb-false (length W.log) (W.bench.written + entry_length W.bench.words) (or_false (ltb (length W.log) (W.bench.written + entry_length W.bench.words)) _ ey).0,
        set_all_length W.log W.bench.written (entry_words W.bench.words (entry_of (effect_of ρ W i).answer)),
      ))
  written_in i false y ex ey nb = rw ex H.logged

  stepped_whole : Admits ρ W.bench W.store → (i : ℕ) → MayStep ρ W i → Whole (step_to ρ W i).world
  stepped_whole R i M =
      record {
        kinds = H.kinds;
        links = stepped_links R i M.member;
        width = H.width;
        words = H.words;
        crew = H.crew;
        workers = length-set W.bench.workers i _ ∙ H.workers;
        rest = rested H i (effect_of ρ W i).line M.member;
        used = H.used;
        logged = written_in i _ _ refl refl M.room;
        stores = joined_length W.bench.waiting (joining W.bench.delayed i (effect_of ρ W i).stores) (omega (arith, room, H.stores)) ∙ H.stores;
        line = room;
        mode = λ e. omega (arith, H.mode e, none_now W.bench.delayed i (effect_of ρ W i).stores e);
        aside = stepped_aside R i M.member;
        low = (line_shape R i M.member).0;
        shape = shape_relink i _ (line_shape R i M.member).1;
      }
    where
      room : W.bench.waiting.count + length (joining W.bench.delayed i (effect_of ρ W i).stores) ≤ 8
      room = ltb-false 8 _ M.line

  -- LINK DROPPED
  dropped_whole : (i : ℕ) → Whole (dropped W i)
  dropped_whole i =
      record {
        kinds = H.kinds;
        links = λ k h. go k (held_set W.bench.queue.links i k false h);
        width = H.width;
        words = H.words;
        crew = H.crew;
        workers = H.workers;
        rest = H.rest;
        used = H.used;
        logged = H.logged;
        stores = H.stores;
        line = H.line;
        mode = H.mode;
        aside = H.aside;
        low = H.low;
        shape = shape_relink i false H.shape;
      }
    where
      go : (k : ℕ) → ((k ≡ i) × (false ≡ true)) ⊎ ((k ≢ i) × (holds_link W.bench.queue k ≡ true))
          → link_ok W.bench.kind (link_set W.bench.queue i false) (line_at W.bench.workers k) ≡ true
      go k (inl (e, x)) = absurd (true≢false (sym x))
      go k (inr (ne, x)) = H.links k x

  -- ASK, DROP
  aside_whole : (n : ℕ) → MayAside ρ W n → Whole (set_aside W n).world
  aside_whole n A =
      record {
        kinds = H.kinds;
        links = H.links;
        width = H.width;
        words = H.words;
        crew = H.crew;
        workers = H.workers;
        rest = H.rest;
        used = H.used;
        logged = H.logged;
        stores = H.stores;
        line = H.line;
        mode = H.mode;
        aside = subst (λ (o : Line). Aside W.bench.words (laid (in_line W.bench.waiting) W.bench.queue) o n) (sym (idle_is (line_at W.bench.workers 0) A.idle)) ((λ c. absurd (true≢false (sym c))), λ l. let S = A.words l in (S.0, and_left _ _ S.1, refl));
        low = H.low;
        shape = H.shape;
      }

  -- DRAIN
  drained_aside : 0 < W.bench.waiting.count → Aside W.bench.words (laid (in_line (one_less W.bench.waiting)) (drain_to W).bench.queue) (line_at W.bench.workers 0) W.bench.aside
  drained_aside some =
      aside_move W.bench.words (laid (in_line W.bench.waiting) W.bench.queue) (laid (in_line (one_less W.bench.waiting)) (drain_to W).bench.queue) (line_at W.bench.workers 0) (line_at W.bench.workers 0) W.bench.aside refl refl
      (λ e. ap (λ (ss : List Store). places ss W.bench.queue.published) (sym (line_drain W.bench.waiting some (in_line_lem H)))) H.aside.0 (λ e. e) H.aside

  drained_whole : 0 < W.bench.waiting.count → Whole (drain_to W)
  drained_whole some =
      record {
        kinds = H.kinds;
        links = links;
        width = H.width;
        words = H.words;
        crew = H.crew;
        workers = H.workers;
        rest = H.rest;
        used = H.used;
        logged = H.logged;
        stores = drained_length W.bench.waiting.stores (omega (arith, H.stores)) ∙ H.stores;
        line = omega (arith, H.line);
        mode = λ e. omega (arith, H.mode e);
        aside = drained_aside some;
        low = low_of (oldest W.bench.waiting) H.low;
        shape =
            shape_lay W.bench.kind (oldest W.bench.waiting)
            (subst (λ (ss : List Store). Shape W.bench.kind (tag_bits W.bench) W.bench.words W.bench.used H.low W.bench.queue W.store ss (line_at W.bench.workers 0) (thieves W.bench.workers))
            (line_drain W.bench.waiting some (in_line_lem H)) H.shape);
      }
    where
      links : LinksOk W.bench.kind (drain_to W).bench.queue W.bench.workers
      links k h =
          let (a, b, c) = links_held (oldest W.bench.waiting ∷ []) W.bench.queue.links W.bench.queue.anchor k h in
          let θ = line_at W.bench.workers k in
          let o = H.links k a in
          link_as W.bench.kind W.bench.queue (drain_to W).bench.queue θ θ refl b (link_parts W.bench.kind W.bench.queue θ o).1 refl o

  pub call_whole : Admits ρ W.bench W.store → (c : Call) → Whole (call_in ρ W c).world
  call_whole R c = call_by (λ (D : Outcome). Whole D.world) W (λ r l. H) ρ (begun_whole H) (stepped_whole R) dropped_whole drained_whole aside_whole c

-- others wrote
abbrev pub storing : World → List ℕ → World
storing W m = lent W.bench m W.log

pub others_whole : {W : World} {m : List ℕ} → Whole W → Others W.bench.queue W.store m → Whole (storing W m)
others_whole H O =
    record {
      kinds = H.kinds;
      links = H.links;
      width = H.width;
      words = H.words;
      crew = H.crew;
      workers = H.workers;
      rest = H.rest;
      used = H.used;
      logged = H.logged;
      stores = H.stores;
      line = H.line;
      mode = H.mode;
      aside = H.aside;
      low = H.low;
      shape = shape_others O H.shape;
    }
