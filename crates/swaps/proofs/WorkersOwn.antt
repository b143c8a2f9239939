-- A quiet step replaces what is its worker's own, and nothing else: its record, its link, its count of restarts and, the owner's, the
-- waiting line. No other worker's line looks at these.
use mathlib.Core.Path.{◌≡◌, refl, sym, ◌∙◌, ap}
use mathlib.Core.Bool.{Bool, true, false, not, true≢false}
use mathlib.Core.Logic.{◌≢◌, ◌⊎◌, inl, inr}
use mathlib.Core.List.{List, [], ◌∷◌, ◌++◌}
use Prim.Native.Nat.{ℕ, zero, suc, ◌+◌, ◌-◌, ◌≤◌, ◌<◌}
use native.Mathlib.Omega.{arith}
use lib.Dec.{ltb}
use lib.ListN.{length, get_or, set}
use lib.Seq.{get_or-set_other}
use borrow.Author.Tests.{lt-ltb, ltb-true, ltb-false, le-ltb}
use Rattle.model.specs.declared.Kind.{Kind}
use Rattle.model.specs.declared.Line.{Line}
use Rattle.model.specs.declared.Line.TheVariants.{Idle, PutRead, PutTail, PutTest, PutWord, PutFinish, Claim, Note, Copy, Publish, TakeRead, TakeTail, TakeTest, TakeWord, TakeFinish, StealRead, StealTail, StealTest, StealNote, StealWord, StealNext, StealCompare}
use Rattle.model.specs.declared.Queue.{Queue}
use Rattle.model.specs.declared.Room.{Room}
use Rattle.model.specs.declared.Store.{Store}
use Rattle.model.specs.declared.Store.TheVariants.{StoreWord, StoreNote, StorePut, StoreOut, StoreHead, StoreTail}
use Rattle.model.specs.declared.Waiting.{Waiting}
use Rattle.model.specs.declared.Worker.{Worker}
use Rattle.model.specs.declared.Answer.TheVariants.{GoesOn, HandedOut}
use Rattle.model.specs.Tests.{when◌then◌else◌}
use Rattle.model.proofs.Landing.{joined_none}
use Rattle.model.proofs.Tests.{if_true, if_false, fails}
use Rattle.model.specs.Figures.{is_same, steal_store}
use Rattle.model.specs.Answers.{entry_of, ends, entry_length, entry_words}
use Rattle.model.specs.Memory.{set_all}
use Rattle.model.specs.Stores.{Shared, shared, publishing, landed_all, claimed_by, in_line, joined}
use Rattle.model.specs.Lines.{Effect, eff, goes, word_of, write_word, copy_words, copy_on, line_step, fails_compare}
use Rattle.model.specs.World.{World, Outcome, memory, tag_bits, line_at, is_idle, room_alone}
use Rattle.model.specs.Limits.{valid_of}
use Rattle.model.specs.Listing.{is_refused}
use Rattle.model.specs.Calls.{restarted, relinked, joining, landing, line_after, stepped, crowded, no_room, next_effect, step_in, step_of, step}
use Rattle.theorems.proofs.Cases.{pick, alone_is, lone_cases}
use Rattle.theorems.proofs.WholeRun.{line_other}
use Rattle.swaps.specs.Swaps.{Quiet}

-- another queue, waiting line, counts and workers
abbrev pub moved_with : World → Queue → Waiting → List ℕ → List Worker → World
moved_with W q l n x =
    record {
      bench =
          record {
            kind = W.bench.kind;
            width = W.bench.width;
            words = W.bench.words;
            delayed = W.bench.delayed;
            crew = W.bench.crew;
            queue = q;
            waiting = l;
            aside = W.bench.aside;
            used = W.bench.used;
            restarts = n;
            written = W.bench.written;
            workers = x;
          };
      store = W.store;
      log = W.log;
    }

abbrev pub moved : World → ℕ → Effect → World
moved W i E =
    let l = line_at W.bench.workers i in
    moved_with W (relinked W.bench.queue i l E.line) (line_after W i E)
    (restarted W.bench.kind W.bench.queue i l W.bench.restarts) (set W.bench.workers i (record { line = E.line }))

abbrev pub moved_out : World → ℕ → Effect → Outcome
moved_out W i E = record { world = moved W i E; answer = E.answer }

-- WHAT A QUIET STEP IS, of a state within the limits: its line does E. It claims nothing, so it does not matter where X1 finds room
pub record QuietAs (W : World) (i : ℕ) (E : Effect) : Type 0 where
  pub member : i < W.bench.crew
  pub busy : is_idle (line_at W.bench.workers i) ≡ false
  pub line : crowded W i E ≡ false
  pub accepted : is_refused E.answer ≡ false
  pub ends_none : ends E.answer ≡ false
  pub claims_none : E.claims ≡ false
  pub lands_none : landing W.bench.delayed i E.stores ≡ []

-- a step that leaves the shared words S; it claims, and ends an operation, or not
stepped_with : World → ℕ → Effect → Shared → Bool → Bool → Outcome
stepped_with W i E S c x =
    let l = line_at W.bench.workers i in
    record {
      world =
          record {
            bench =
                record {
                  kind = W.bench.kind;
                  width = W.bench.width;
                  words = W.bench.words;
                  delayed = W.bench.delayed;
                  crew = W.bench.crew;
                  queue = relinked S.queue i l E.line;
                  waiting = line_after W i E;
                  aside = when c then 0 else W.bench.aside;
                  used = W.bench.used;
                  restarts = restarted W.bench.kind W.bench.queue i l W.bench.restarts;
                  written = when x then W.bench.written + entry_length W.bench.words else W.bench.written;
                  workers = set W.bench.workers i (record { line = E.line });
                };
            store = S.store;
            log = when x then set_all W.log W.bench.written (entry_words W.bench.words (entry_of E.answer)) else W.log;
          };
      answer = E.answer;
    }

stepped_quietly : (ρ : Room) (W : World) (i : ℕ) (E : Effect) → QuietAs W i E → stepped ρ W i E ≡ moved_out W i E
unfolding stepped_with when◌then◌else◌ landed_all
stepped_quietly ρ W i E Q =
    ap (λ (c : Bool). stepped_with W i E (landed_all W.bench.words (claimed_by ρ c (memory W)) (landing W.bench.delayed i E.stores)) c (ends E.answer)) Q.claims_none
    ∙ ap (λ (ss : List Store). stepped_with W i E (landed_all W.bench.words (memory W) ss) false (ends E.answer)) Q.lands_none
    ∙ ap (stepped_with W i E (memory W) false) Q.ends_none

pub quiet_in : (ρ : Room) (W : World) (i : ℕ) → QuietAs W i (next_effect ρ W i) → step_in ρ W i ≡ moved_out W i (next_effect ρ W i)
quiet_in ρ W i Q =
    if_true _ (lt-ltb i W.bench.crew Q.member) ∙ if_false _ Q.busy ∙ if_false _ Q.line ∙ if_false _ (fails _ Q.ends_none)
    ∙ stepped_quietly ρ W i (next_effect ρ W i) Q

-- and such a step has passed the tests
abbrev QuietBy : Room → World → ℕ → Outcome → Type 0
QuietBy ρ W i D = is_refused D.answer ≡ false → ends D.answer ≡ false → QuietAs W i (next_effect ρ W i)

pub quiet_by : (ρ : Room) (W : World) (i : ℕ) → (next_effect ρ W i).claims ≡ false → landing W.bench.delayed i (next_effect ρ W i).stores ≡ [] → QuietBy ρ W i (step_in ρ W i)
quiet_by ρ W i c l =
    let P = QuietBy ρ W i in
    pick P (ltb i W.bench.crew) _ _
    (λ u. pick P (is_idle (line_at W.bench.workers i)) _ _ (λ e a. absurd (true≢false a))
    (λ b. pick P (crowded W i (next_effect ρ W i)) _ _ (λ e a. absurd (true≢false a))
    (λ k. pick P (no_room W (next_effect ρ W i)) _ _ (λ e a. absurd (true≢false a))
    (λ n a e. record {
      member = ltb-true i W.bench.crew u;
      busy = b;
      line = k;
      accepted = a;
      ends_none = e;
      claims_none = c;
      lands_none = l;
    }))))
    (λ u a. absurd (true≢false a))

-- alone
pub quiet_at : (W : World) (i : ℕ) → Quiet W i → QuietAs W i (next_effect (room_alone W) W i)
quiet_at W i Q =
    lone_cases (QuietBy (room_alone W) W i) W (λ a. absurd (true≢false a)) (step i) (quiet_by (room_alone W) W i Q.claims_none Q.lands_none) Q.accepted Q.ends_none

pub at_quiet : (W : World) (i : ℕ) → valid_of W ≡ true → QuietAs W i (next_effect (room_alone W) W i) → Quiet W i
at_quiet W i v Q =
    let is : (step_of W i).answer ≡ (next_effect (room_alone W) W i).answer = ap (λ (D : Outcome). D.answer) (alone_is W (step i) v ∙ quiet_in (room_alone W) W i Q) in
    record { accepted = ap is_refused is ∙ Q.accepted; ends_none = ap ends is ∙ Q.ends_none; claims_none = Q.claims_none; lands_none = Q.lands_none }

-- LINKS. Worker i looks at its own alone
abbrev pub with_links : Queue → List Bool → Queue
with_links q L =
    record {
      linked = q.linked;
      anchor = q.anchor;
      arrays = q.arrays;
      published = q.published;
      claimed = q.claimed;
      initial = q.initial;
      links = L;
    }

same_copies : (κ : Kind) (v : ℕ) (q : Queue) (L : List Bool) (m : List ℕ) (i n : ℕ) → copy_words κ v (with_links q L) m i n ≡ copy_words κ v q m i n
same_copies κ v q L m i zero = refl
same_copies κ v q L m i (suc n) =
    ap (λ (ss : List Store). ss ++ write_word κ v q q.published i n (word_of κ v q m (q.published - 1) i n) ∷ []) (same_copies κ v q L m i n)

own_link : (ρ : Room) (κ : Kind) (w v : ℕ) (q : Queue) (L : List Bool) (m : List ℕ) (i : ℕ) (l : Line) → get_or L i false ≡ get_or q.links i false
    → (line_step ρ κ w v (with_links q L) m i l ≡ line_step ρ κ w v q m i l) × (fails_compare κ (with_links q L) i l ≡ fails_compare κ q i l)
unfolding line_step
own_link ρ κ w v q L m i Idle e = (refl, refl)
own_link ρ κ w v q L m i (PutRead t) e = (refl, refl)
own_link ρ κ w v q L m i (PutTail t h) e = (refl, refl)
own_link ρ κ w v q L m i (PutTest t r) e = (refl, refl)
own_link ρ κ w v q L m i (PutWord t r j) e = (refl, refl)
own_link ρ κ w v q L m i (PutFinish t r) e = (refl, refl)
own_link ρ κ w v q L m i (Claim g) e = (refl, refl)
own_link ρ κ w v q L m i (Note g) e = (refl, refl)
own_link ρ κ w v q L m i (Copy g h n k) e = (ap (λ (ss : List Store). eff ss (copy_on g h n k) GoesOn) (same_copies κ v q L m (h + k) (v + 1)), refl)
own_link ρ κ w v q L m i (Publish g) e = (refl, refl)
own_link ρ κ w v q L m i TakeRead e = (refl, refl)
own_link ρ κ w v q L m i (TakeTail h) e = (refl, refl)
own_link ρ κ w v q L m i (TakeTest r) e = (refl, refl)
own_link ρ κ w v q L m i (TakeWord r t j) e = (refl, refl)
own_link ρ κ w v q L m i (TakeFinish r t) e = (refl, refl)
own_link ρ κ w v q L m i StealRead e = (refl, refl)
own_link ρ κ w v q L m i (StealTail h) e = (refl, refl)
own_link ρ κ w v q L m i (StealTest r) e = (refl, refl)
own_link ρ κ w v q L m i (StealNote r) e = (refl, refl)
own_link ρ κ w v q L m i (StealWord r k t j) e = (refl, refl)
own_link ρ κ w v q L m i (StealNext r t) e = (refl, refl)
own_link ρ κ w v q L m i (StealCompare r f t) e = (
  ap (λ (x : Bool). when (when q.linked then x else is_same κ q.anchor r) then eff (steal_store κ r f ∷ []) Idle (HandedOut i t) else goes StealRead) e,
  ap (λ (x : Bool). not (when q.linked then x else is_same κ q.anchor r)) e,
)

-- also with stores put down before it looks
own_view : (ρ : Room) (κ : Kind) (w v i : ℕ) (l : Line) (ss : List Store) (q : Queue) (L : List Bool) (m : List ℕ) → get_or L i false ≡ get_or q.links i false
    → let S = landed_all v (shared (with_links q L) m) ss in let S' = landed_all v (shared q m) ss in
    line_step ρ κ w v S.queue S.store i l ≡ line_step ρ κ w v S'.queue S'.store i l
unfolding landed_all
own_view ρ κ w v i l [] q L m e = (own_link ρ κ w v q L m i l e).0
own_view ρ κ w v i l (StoreWord k s j x ∷ ss) q L m e = own_view ρ κ w v i l ss q L _ e
own_view ρ κ w v i l (StoreNote k ∷ ss) q L m e = own_view ρ κ w v i l ss (publishing q k) L m e
own_view ρ κ w v i l (StorePut a ∷ ss) q L m e = refl
own_view ρ κ w v i l (StoreOut a ∷ ss) q L m e = refl
own_view ρ κ w v i l (StoreHead h ∷ ss) q L m e = refl
own_view ρ κ w v i l (StoreTail t ∷ ss) q L m e = refl

-- THE WAITING LINE is the owner's: of two workers' stores one's do not join
one_joins : (δ : Bool) (i j : ℕ) (S T : List Store) → i ≢ j → (joining δ i S ≡ []) ⊎ (joining δ j T ≡ [])
one_joins true zero zero S T ne = absurd (ne refl)
one_joins true zero (suc j) S T ne = inr refl
one_joins true (suc i) j S T ne = inl refl
one_joins false i j S T ne = inl refl

thief_joins : (δ : Bool) (k : ℕ) (l : Waiting) (S : List Store) → joined l (joining δ (suc k) S) ≡ l
thief_joins true k l S = joined_none l
thief_joins false k l S = joined_none l

pub join_swap : (δ : Bool) (l : Waiting) (i j : ℕ) (S T : List Store) → i ≢ j → joined (joined l (joining δ j T)) (joining δ i S) ≡ joined (joined l (joining δ i S)) (joining δ j T)
join_swap δ l i j S T ne = go (joining δ i S) (joining δ j T) (one_joins δ i j S T ne)
  where
    go : (A B : List Store) → (A ≡ []) ⊎ (B ≡ []) → joined (joined l B) A ≡ joined (joined l A) B
    go A B (inl e) = ap (joined (joined l B)) e ∙ joined_none (joined l B) ∙ sym (ap (λ (x : List Store). joined (joined l x) B) e ∙ ap (λ (x : Waiting). joined x B) (joined_none l))
    go A B (inr e) = ap (λ (x : List Store). joined (joined l x) A) e ∙ ap (λ (x : Waiting). joined x A) (joined_none l) ∙ sym (ap (joined (joined l A)) e ∙ joined_none (joined l A))

crowd : (δ : Bool) (c i j : ℕ) (S T : List Store) → i ≢ j → c + length (joining δ i S) ≤ 8 → c + length (joining δ j T) ≤ 8 → (c + length (joining δ j T)) + length (joining δ i S) ≤ 8
crowd δ c i j S T ne h g = go (one_joins δ i j S T ne)
  where
    go : (joining δ i S ≡ []) ⊎ (joining δ j T ≡ []) → (c + length (joining δ j T)) + length (joining δ i S) ≤ 8
    go (inl e) = omega (arith, h, g, ap length e)
    go (inr e) = omega (arith, h, g, ap length e)

fewer : (c b a : ℕ) → (c + b) + a ≤ 8 → c + a ≤ 8
fewer c b a h = omega arith

-- WORKER i AFTER WORKER j's quiet step, whose line did F
module _ (W : World) (i j : ℕ) (F : Effect) (ne : i ≢ j) where
  own_kept : get_or (moved W j F).bench.queue.links i false ≡ get_or W.bench.queue.links i false
  own_kept = get_or-set_other W.bench.queue.links j i _ false ne

  line_kept : line_at (moved W j F).bench.workers i ≡ line_at W.bench.workers i
  line_kept = line_other W.bench.workers j i F.line ne

  -- its compare fails or not as before
  pub fails_kept : fails_compare W.bench.kind (moved W j F).bench.queue i (line_at (moved W j F).bench.workers i) ≡ fails_compare W.bench.kind W.bench.queue i (line_at W.bench.workers i)
  fails_kept =
      ap (fails_compare W.bench.kind (moved W j F).bench.queue i) line_kept
      ∙ (own_link (room_alone W) W.bench.kind (tag_bits W.bench) W.bench.words W.bench.queue (moved W j F).bench.queue.links W.store i (line_at W.bench.workers i) own_kept).1

-- its line does the same
pub same_effect : (ρ : Room) (W : World) (i j : ℕ) (F : Effect) → i ≢ j → next_effect ρ (moved W j F) i ≡ next_effect ρ W i
same_effect ρ W zero zero F ne = absurd (ne refl)
same_effect ρ W zero (suc k) F ne =
    let b = W.bench in
    let L = (moved W (suc k) F).bench.queue.links in
    ap (λ (u : Waiting).
    let S = landed_all b.words (shared (with_links b.queue L) W.store) (in_line u) in
    line_step ρ b.kind (tag_bits b) b.words S.queue S.store 0 (line_at (moved W (suc k) F).bench.workers 0)) (thief_joins b.delayed k b.waiting F.stores)
    ∙ own_view ρ b.kind (tag_bits b) b.words 0 _ (in_line b.waiting) b.queue L W.store (own_kept W 0 (suc k) F ne)
    ∙ ap (λ (l : Line). let S = landed_all b.words (memory W) (in_line b.waiting) in line_step ρ b.kind (tag_bits b) b.words S.queue S.store 0 l) (line_kept W 0 (suc k) F ne)
same_effect ρ W (suc i) j F ne =
    let b = W.bench in
    let L = (moved W j F).bench.queue.links in
    (own_link ρ b.kind (tag_bits b) b.words b.queue L W.store (suc i) _ (own_kept W (suc i) j F ne)).0
    ∙ ap (line_step ρ b.kind (tag_bits b) b.words b.queue W.store (suc i)) (line_kept W (suc i) j F ne)

-- and it is quiet as before
module _ (W : World) (i j : ℕ) (E F : Effect) (ne : i ≢ j) where
  pub stays : crowded W j F ≡ false → QuietAs W i E → QuietAs (moved W j F) i E
  stays g Q =
      record {
        member = Q.member;
        busy = ap is_idle (line_kept W i j F ne) ∙ Q.busy;
        line = le-ltb 8 _ (crowd W.bench.delayed W.bench.waiting.count i j E.stores F.stores ne (ltb-false 8 _ Q.line) (ltb-false 8 _ g));
        accepted = Q.accepted;
        ends_none = Q.ends_none;
        claims_none = Q.claims_none;
        lands_none = Q.lands_none;
      }

  pub stayed : QuietAs (moved W j F) i E → QuietAs W i E
  stayed Q =
      record {
        member = Q.member;
        busy = ap is_idle (sym (line_kept W i j F ne)) ∙ Q.busy;
        line = le-ltb 8 (W.bench.waiting.count + length (joining W.bench.delayed i E.stores)) (fewer W.bench.waiting.count (length (joining W.bench.delayed j F.stores)) _ (ltb-false 8 _ Q.line));
        accepted = Q.accepted;
        ends_none = Q.ends_none;
        claims_none = Q.claims_none;
        lands_none = Q.lands_none;
      }
