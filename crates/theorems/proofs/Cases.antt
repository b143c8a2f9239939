-- A call's outcome: a refusal, which leaves all as it was, or what the call does once every test is passed.
use mathlib.Core.Path.{◌≡◌, refl, sym, ◌∙◌, ap, subst}
use mathlib.Core.Bool.{Bool, true, false}
use mathlib.Core.Logic.{◌≢◌}
use mathlib.Core.List.{List, [], ◌∷◌}
use Prim.Native.Nat.{ℕ, zero, suc, ◌+◌, ◌<◌}
use native.Mathlib.Omega.{arith}
use lib.Dec.{eqb, ltb}
use lib.ListN.{set}
use borrow.Author.Tests.{ltb-true, eqb-true}
use Rattle.model.specs.declared.Room.{Room}
use Rattle.model.specs.declared.Queue.{Queue}
use Rattle.model.specs.declared.Operation.{Operation}
use Rattle.model.specs.declared.Refusal.{Refusal}
use Rattle.model.specs.declared.Refusal.TheVariants.{NoSuchWorker, BusyWorker, IdleWorker, WrongHand, NumbersSpent, LogFull, ForeignState, NoLink, WaitingFull, NoneWaiting, NoSpace, AskStands, NoAsk}
use Rattle.model.specs.declared.Answer.TheVariants.{Accepted}
use Rattle.model.specs.Tests.{when◌then◌else◌}
use Rattle.model.specs.Answers.{number_of, ends, logged, entry_length}
use Rattle.model.specs.Stores.{Shared, shared, landed_all, in_line, oldest, one_less, next_length}
use Rattle.model.specs.Lines.{Effect, line_step, holds_link, fits}
use Rattle.model.specs.World.{World, Outcome, refuse, remembered, tag_bits, line_at, is_idle, owners_view, room_alone}
use Rattle.model.specs.Limits.{valid_of}
use Rattle.model.specs.Calls.{right_hand, numbers_left, begun, begin_of, restarted, relinked, landing, stored, line_after, stepped, crowded, no_room, next_effect, step_of, link_set, drop_link_of, drained, drain_of, Call, begin, step, drop_link, drain, call_of, asked, of_idle_owner, set_aside, ask_of, drop_ask_of, ask, drop_ask, begin_in, step_in, drop_link_in, drain_in, ask_in, drop_ask_in, call_in}
use Rattle.model.proofs.Tests.{if_true, if_false}
use Rattle.theorems.proofs.Folds.{laid, words, words_of, landed_one, landed_is, arrays_after, queue_after, store_after, claimed_is}

-- a property of both branches
pub pick : (P : Outcome → Type 0) (x : Bool) (D D' : Outcome) → (x ≡ true → P D) → (x ≡ false → P D') → P (when x then D else D')
unfolding when◌then◌else◌
pick P true D D' f g = f refl
pick P false D D' f g = g refl

-- what the event leaves
abbrev pub dropped : World → ℕ → World
dropped W i = remembered W (shared (link_set W.bench.queue i false) W.store) W.bench.waiting W.bench.aside

-- what worker i's line does, on what it reads
abbrev pub effect_of : Room → World → ℕ → Effect
effect_of ρ W zero =
    let ss = in_line W.bench.waiting in
    let q = W.bench.queue in
    line_step ρ W.bench.kind (tag_bits W.bench) W.bench.words (laid ss q) (words W.bench.words q.arrays ss W.store) 0 (line_at W.bench.workers 0)
effect_of ρ W (suc i) =
    line_step ρ W.bench.kind (tag_bits W.bench) W.bench.words W.bench.queue W.store (suc i) (line_at W.bench.workers (suc i))

pub effect_is : (ρ : Room) (W : World) (i : ℕ) → next_effect ρ W i ≡ effect_of ρ W i
effect_is ρ W zero =
    ap (λ (S : Shared). line_step ρ W.bench.kind (tag_bits W.bench) W.bench.words S.queue S.store 0 (line_at W.bench.workers 0))
    (landed_is W.bench.words W.bench.queue W.store (in_line W.bench.waiting))
effect_is ρ W (suc i) = refl

-- memory after it, and the world
abbrev pub queue_then : Room → World → ℕ → Effect → Queue
queue_then ρ W i E = laid (landing W.bench.delayed i E.stores) (queue_after ρ E.claims W.bench.queue)

abbrev pub store_then : Room → World → ℕ → Effect → List ℕ
store_then ρ W i E =
    words W.bench.words (arrays_after ρ E.claims W.bench.queue) (landing W.bench.delayed i E.stores) (store_after ρ E.claims W.bench.queue W.store)

stored_is : (ρ : Room) (W : World) (i : ℕ) (E : Effect) → stored ρ W i E ≡ shared (queue_then ρ W i E) (store_then ρ W i E)
stored_is ρ W i E =
    ap (λ (S : Shared). landed_all W.bench.words S (landing W.bench.delayed i E.stores)) (claimed_is ρ E.claims W.bench.queue W.store)
    ∙ landed_is W.bench.words (queue_after ρ E.claims W.bench.queue) (store_after ρ E.claims W.bench.queue W.store) (landing W.bench.delayed i E.stores)

abbrev pub world_with : World → ℕ → Effect → Shared → World
world_with W i E S =
    record {
      bench =
          record {
            kind = W.bench.kind;
            width = W.bench.width;
            words = W.bench.words;
            delayed = W.bench.delayed;
            crew = W.bench.crew;
            queue = relinked S.queue i (line_at W.bench.workers i) E.line;
            waiting = line_after W i E;
            aside = when E.claims then 0 else W.bench.aside;
            used = W.bench.used;
            restarts = restarted W.bench.kind W.bench.queue i (line_at W.bench.workers i) W.bench.restarts;
            written = when ends E.answer then W.bench.written + entry_length W.bench.words else W.bench.written;
            workers = set W.bench.workers i (record { line = E.line });
          };
      store = S.store;
      log = logged W.bench.words W.log W.bench.written E.answer;
    }

abbrev pub step_to : Room → World → ℕ → Outcome
step_to ρ W i = record { world = world_with W i (effect_of ρ W i) (shared (queue_then ρ W i (effect_of ρ W i)) (store_then ρ W i (effect_of ρ W i))); answer = (effect_of ρ W i).answer }

pub stepped_is : (ρ : Room) (W : World) (i : ℕ) → stepped ρ W i (next_effect ρ W i) ≡ step_to ρ W i
stepped_is ρ W i =
    ap (stepped ρ W i) (effect_is ρ W i)
    ∙ ap (λ (S : Shared). record { world = world_with W i (effect_of ρ W i) S; answer = (effect_of ρ W i).answer }) (stored_is ρ W i (effect_of ρ W i))

-- a drain
abbrev pub drain_to : World → World
drain_to W =
    remembered W
    (shared (laid (oldest W.bench.waiting ∷ []) W.bench.queue) (words_of W.bench.words W.bench.queue.arrays (oldest W.bench.waiting) W.store))
    (one_less W.bench.waiting) W.bench.aside

pub drained_is : (W : World) → drained W ≡ drain_to W
drained_is W = ap (λ (S : Shared). remembered W S (one_less W.bench.waiting) W.bench.aside) (landed_one W.bench.words W.bench.queue W.store (oldest W.bench.waiting))

-- a begin passed its tests; a step did
pub record MayBegin (W : World) (i : ℕ) (op : Operation) : Type 0 where
  pub member : i < W.bench.crew
  pub hand : right_hand i op ≡ true
  pub idle : is_idle (line_at W.bench.workers i) ≡ true
  pub number : numbers_left op W.bench.used ≡ true
  pub ask : asked op W.bench.aside ≡ true

pub record MayStep (ρ : Room) (W : World) (i : ℕ) : Type 0 where
  pub member : i < W.bench.crew
  pub busy : is_idle (line_at W.bench.workers i) ≡ false
  pub line : crowded W i (effect_of ρ W i) ≡ false
  pub room : no_room W (effect_of ρ W i) ≡ false

-- n words are set aside: an ask's, which the room ρ has, or none, by a drop
pub record MayAside (ρ : Room) (W : World) (n : ℕ) : Type 0 where
  pub idle : is_idle (line_at W.bench.workers 0) ≡ true
  pub words : 0 < n → (n ≡ next_length W.bench.queue) × (fits ρ W.bench.words (laid (in_line W.bench.waiting) W.bench.queue) ≡ true)

abbrev pub Asides : (Outcome → Type 0) → World → Room → Type 0
Asides P W ρ = (n : ℕ) → MayAside ρ W n → P (set_aside W n)

module _ (P : Outcome → Type 0) (W : World) (refused : (r : Refusal) → (r ≡ ForeignState → ⊥) → P (refuse W r)) (ρ : Room) where
  other : (r : Refusal) → number_of r ≢ 12 → P (refuse W r)
  other r l = refused r (λ q. omega (arith, ap number_of q))

  pub begin_by : (i : ℕ) (op : Operation) → (MayBegin W i op → P (begun W i op)) → P (begin_in W i op)
  begin_by i op f =
      pick P (ltb i W.bench.crew) _ _
      (λ u. pick P (right_hand i op) _ _
      (λ h. pick P (is_idle (line_at W.bench.workers i)) _ _
      (λ e. pick P (numbers_left op W.bench.used) _ _
      (λ n. pick P (asked op W.bench.aside) _ _
      (λ a. f (record { member = ltb-true i W.bench.crew u; hand = h; idle = e; number = n; ask = a })) (λ a. other NoAsk (omega arith)))
      (λ n. other NumbersSpent (omega arith)))
      (λ e. other BusyWorker (omega arith)))
      (λ h. other WrongHand (omega arith)))
      (λ u. other NoSuchWorker (omega arith))

  pub step_by : (i : ℕ) → (MayStep ρ W i → P (step_to ρ W i)) → P (step_in ρ W i)
  step_by i f =
      pick P (ltb i W.bench.crew) _ _
      (λ u. pick P (is_idle (line_at W.bench.workers i)) _ _ (λ e. other IdleWorker (omega arith))
      (λ e. pick P (crowded W i (next_effect ρ W i)) _ _ (λ n. other WaitingFull (omega arith))
      (λ k. pick P (no_room W (next_effect ρ W i)) _ _ (λ n. other LogFull (omega arith))
      (λ n. subst P (sym (stepped_is ρ W i)) (f (record {
        member = ltb-true i W.bench.crew u;
        busy = e;
        line = subst (λ (E : Effect). crowded W i E ≡ false) (effect_is ρ W i) k;
        room = subst (λ (E : Effect). no_room W E ≡ false) (effect_is ρ W i) n;
      }))))))
      (λ u. other NoSuchWorker (omega arith))

  pub drop_by : (i : ℕ) → P (record { world = dropped W i; answer = Accepted }) → P (drop_link_in W i)
  drop_by i f =
      pick P (ltb i W.bench.crew) _ _
      (λ u. pick P (holds_link W.bench.queue i) _ _ (λ e. f) (λ e. other NoLink (omega arith)))
      (λ u. other NoSuchWorker (omega arith))

  pub drain_by : (0 < W.bench.waiting.count → P (record { world = drain_to W; answer = Accepted })) → P (drain_in W)
  drain_by f =
      pick P (ltb 0 W.bench.waiting.count) _ _ (λ u. subst (λ (U : World). P (record { world = U; answer = Accepted })) (sym (drained_is W)) (f (ltb-true 0 W.bench.waiting.count u))) (λ u. other NoneWaiting (omega arith))

  -- an idle owner's call that has no line of its own
  idle_owner : (i : ℕ) (D : Outcome) → (is_idle (line_at W.bench.workers 0) ≡ true → P D) → P (of_idle_owner W i D)
  idle_owner i D f =
      pick P (ltb i W.bench.crew) _ _
      (λ u. pick P (eqb i 0) _ _
      (λ o. pick P (is_idle (line_at W.bench.workers i)) _ _
      (λ e. f (subst (λ (k : ℕ). is_idle (line_at W.bench.workers k) ≡ true) (eqb-true i 0 o) e))
      (λ e. other BusyWorker (omega arith)))
      (λ o. other WrongHand (omega arith)))
      (λ u. other NoSuchWorker (omega arith))

  pub ask_by : (i : ℕ) → Asides P W ρ → P (ask_in ρ W i)
  ask_by i f =
      idle_owner i _
      (λ e. pick P (eqb W.bench.aside 0) _ _
      (λ a. pick P (fits ρ W.bench.words (owners_view W).queue) _ _
      (λ t. f (next_length (owners_view W).queue) (record {
        idle = e;
        words = λ l. (ap (λ (S : Shared). next_length S.queue) view_is, subst (λ (S : Shared). fits ρ W.bench.words S.queue ≡ true) view_is t);
      }))
      (λ t. other NoSpace (omega arith)))
      (λ a. other AskStands (omega arith)))
    where
      view_is : owners_view W ≡ shared (laid (in_line W.bench.waiting) W.bench.queue) (words W.bench.words W.bench.queue.arrays (in_line W.bench.waiting) W.store)
      view_is = landed_is W.bench.words W.bench.queue W.store (in_line W.bench.waiting)

  pub drop_ask_by : (i : ℕ) → Asides P W ρ → P (drop_ask_in W i)
  drop_ask_by i f =
      idle_owner i _ (λ e. pick P (ltb 0 W.bench.aside) _ _ (λ a. f 0 (record { idle = e; words = λ l. absurd (omega arith) })) (λ a. other NoAsk (omega arith)))

  pub call_by : ((i : ℕ) (op : Operation) → MayBegin W i op → P (begun W i op)) → ((i : ℕ) → MayStep ρ W i → P (step_to ρ W i))
      → ((i : ℕ) → P (record { world = dropped W i; answer = Accepted })) → (0 < W.bench.waiting.count → P (record { world = drain_to W; answer = Accepted }))
      → Asides P W ρ → (c : Call) → P (call_in ρ W c)
  call_by b s d x a (begin i op) = begin_by i op (b i op)
  call_by b s d x a (step i) = step_by i (s i)
  call_by b s d x a (drop_link i) = drop_by i (d i)
  call_by b s d x a drain = drain_by x
  call_by b s d x a (ask i) = ask_by i a
  call_by b s d x a (drop_ask i) = drop_ask_by i a

-- a lone queue's call: the room is its own
pub alone_is : (W : World) (c : Call) → valid_of W ≡ true → call_of W c ≡ call_in (room_alone W) W c
unfolding begin_of step_of drop_link_of drain_of ask_of drop_ask_of
alone_is W (begin i op) v = if_true _ v
alone_is W (step i) v = if_true _ v
alone_is W (drop_link i) v = if_true _ v
alone_is W drain v = if_true _ v
alone_is W (ask i) v = if_true _ v
alone_is W (drop_ask i) v = if_true _ v

-- or refused 12
foreign_is : (W : World) (c : Call) → valid_of W ≡ false → call_of W c ≡ refuse W ForeignState
unfolding begin_of step_of drop_link_of drain_of ask_of drop_ask_of
foreign_is W (begin i op) v = if_false _ v
foreign_is W (step i) v = if_false _ v
foreign_is W (drop_link i) v = if_false _ v
foreign_is W drain v = if_false _ v
foreign_is W (ask i) v = if_false _ v
foreign_is W (drop_ask i) v = if_false _ v

pub lone_cases : (P : Outcome → Type 0) (W : World) → P (refuse W ForeignState) → (c : Call) → P (call_in (room_alone W) W c) → P (call_of W c)
lone_cases P W refused c x = go (valid_of W) refl
  where
    go : (v : Bool) → valid_of W ≡ v → P (call_of W c)
    go true v = subst P (sym (alone_is W c v)) x
    go false v = subst P (sym (foreign_is W c v)) refused
