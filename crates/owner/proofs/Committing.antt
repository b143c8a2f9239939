-- A line of the owner committed while its stores are delayed: the stores join the waiting line, and the rest is done at once.
use mathlib.Core.Bool.{Bool, true, false, true≢false}
use mathlib.Core.List.{List, []}
use mathlib.Core.Path.{◌≡◌, refl, sym, ap, ◌∙◌}
use Prim.Native.Nat.{ℕ, ◌+◌, ◌≤◌, ◌<◌}
use native.Mathlib.Omega.{arith}
use lib.Dec.{ltb}
use lib.ListN.{length, set}
use borrow.Author.Tests.{ltb-true, eqb-true, ne_eqb, lt-ltb, le-ltb}
use Rattle.model.specs.declared.Kind.{Kind}
use Rattle.model.specs.declared.Store.{Store}
use Rattle.model.specs.declared.Line.{Line}
use Rattle.model.specs.declared.Line.TheVariants.{
  Idle,
  PutRead,
  PutTail,
  PutTest,
  PutWord,
  PutFinish,
  Claim,
  Note,
  Copy,
  Publish,
  TakeRead,
  TakeTail,
  TakeTest,
  TakeWord,
  TakeFinish,
  StealRead,
  StealTail,
  StealTest,
  StealNote,
  StealWord,
  StealNext,
  StealCompare,
}
use Rattle.model.specs.declared.Queue.{Queue}
use Rattle.model.specs.declared.Room.{Room}
use Rattle.model.specs.declared.Waiting.{Waiting}
use Rattle.model.specs.declared.Bench.{Bench}
use Rattle.model.specs.declared.Answer.{Answer}
use Rattle.model.specs.declared.Refusal.TheVariants.{WaitingFull, LogFull}
use Rattle.model.specs.Tests.{when◌then◌else◌, ◌and◌}
use Rattle.model.specs.Answers.{ends, entry_length, logged}
use Rattle.model.specs.Stores.{Shared, shared, landed_all, joined, claimed_by}
use Rattle.model.specs.Lines.{Effect, holds_link, fails_compare}
use Rattle.model.specs.World.{Outcome, refuse, line_at, stage, is_idle, is_past1, is_owners}
use Rattle.model.specs.Calls.{lent, restarted, relinked, joining, landing, stored, line_after, stepped, no_room, crowded, commit}
use Rattle.model.proofs.Tests.{if_true, if_false, and_false}
use Rattle.model.proofs.Landing.{joined_none}
use Rattle.model.proofs.Attempts.{idle_not}
use Rattle.lines.specs.declared.Action.{Action}
use Rattle.lines.specs.declared.Action.TheVariants as action
use Rattle.lines.specs.Actions.{stores_by, claims_by, PlacedIn, answer_by, fails_by, Does, Doable}
use Rattle.lines.proofs.Views.{Same}
use Rattle.machine.specs.Steps.{moved_by, left_by, acted_by, log_after}
use Rattle.machine.proofs.Moves.{Leads, acted}
use Rattle.owner.specs.Reads.{waits, at_once}

-- the owner's stores join the line, and none lands
all_join : (d : Bool) (s : List Store) → d ≡ true → joining d 0 s ≡ s
all_join true s e = refl
all_join false s e = absurd (true≢false (sym e))

none_land : (d : Bool) (s : List Store) → d ≡ true → landing d 0 s ≡ []
none_land true s e = refl
none_land false s e = absurd (true≢false (sym e))

-- an effect without its stores
abbrev pub bare : Effect → Effect
bare E = record { claims = E.claims; stores = []; line = E.line; answer = E.answer }

-- an action without its stores does an effect without its stores, and can be done on memory
pub bare_does : (ρ : Room) (v : ℕ) (E : Effect) (d : Action) → Does ρ v E d → Does ρ v (bare E) (at_once d)
unfolding stores_by claims_by PlacedIn answer_by at_once
bare_does ρ v E action.Nothing D = record { claims = D.claims; place = tt; stores = refl; answer = D.answer }
bare_does ρ v E action.Fails D = record { claims = D.claims; place = tt; stores = refl; answer = D.answer }
bare_does ρ v E (action.Stores s) D = record { claims = D.claims; place = tt; stores = refl; answer = D.answer }
bare_does ρ v E (action.Copies k t u) D = record { claims = D.claims; place = tt; stores = refl; answer = D.answer }
bare_does ρ v E (action.Claims a z) D = record { claims = D.claims; place = D.place; stores = refl; answer = D.answer }
bare_does ρ v E (action.Stops x) D = record { claims = D.claims; place = tt; stores = refl; answer = D.answer }
bare_does ρ v E (action.Ends s x) D = record { claims = D.claims; place = tt; stores = refl; answer = D.answer }

pub bare_doable : (v : ℕ) (p q : Queue) (n : ℕ) (d : Action) → Same p q → Doable v p n d → Doable v q n (at_once d)
unfolding Doable at_once
bare_doable v p q n action.Nothing S h = tt
bare_doable v p q n action.Fails S h = tt
bare_doable v p q n (action.Stores s) S h = tt
bare_doable v p q n (action.Copies k t u) S h = tt
bare_doable v p q n (action.Claims a z) S h =
    record {
      long = rw (sym S.arrays, sym S.claimed) h.long;
      inside = h.inside;
      listed = let few = h.listed in omega (arith, few, S.claimed);
    }
bare_doable v p q n (action.Stops x) S h = h
bare_doable v p q n (action.Ends s x) S h = h.1

never_fails : (d : Action) → fails_by (at_once d) ≡ false
unfolding fails_by at_once
never_fails action.Nothing = refl
never_fails action.Fails = refl
never_fails (action.Stores s) = refl
never_fails (action.Copies k t u) = refl
never_fails (action.Claims a z) = refl
never_fails (action.Stops x) = refl
never_fails (action.Ends s x) = refl

-- it answers the same
pub answers_same : (d : Action) → answer_by (at_once d) ≡ answer_by d
unfolding answer_by at_once
answers_same action.Nothing = refl
answers_same action.Fails = refl
answers_same (action.Stores s) = refl
answers_same (action.Copies k t u) = refl
answers_same (action.Claims a z) = refl
answers_same (action.Stops x) = refl
answers_same (action.Ends s x) = refl

-- where it neither claims nor stops, it is nothing
pub is_nothing : (d : Action) → ((a z : ℕ) → at_once d ≡ action.Claims a z → ⊥) → ((x : Answer) → at_once d ≡ action.Stops x → ⊥) → at_once d ≡ action.Nothing
unfolding at_once
is_nothing action.Nothing p q = refl
is_nothing action.Fails p q = refl
is_nothing (action.Stores s) p q = refl
is_nothing (action.Copies k t u) p q = refl
is_nothing (action.Claims a z) p q = absurd (p a z refl)
is_nothing (action.Stops x) p q = absurd (q x refl)
is_nothing (action.Ends s x) p q = absurd (q x refl)

-- no line of the owner compares or links
no_compare : (κ : Kind) (q : Queue) (i : ℕ) (y : Line) → is_owners y ≡ true → fails_compare κ q i y ≡ false
no_compare κ q i Idle e = refl
no_compare κ q i (PutRead t) e = refl
no_compare κ q i (PutTail t h) e = refl
no_compare κ q i (PutTest t r) e = refl
no_compare κ q i (PutWord t r j) e = refl
no_compare κ q i (PutFinish t r) e = refl
no_compare κ q i (Claim g) e = refl
no_compare κ q i (Note g) e = refl
no_compare κ q i (Copy g h n k) e = refl
no_compare κ q i (Publish g) e = refl
no_compare κ q i TakeRead e = refl
no_compare κ q i (TakeTail h) e = refl
no_compare κ q i (TakeTest r) e = refl
no_compare κ q i (TakeWord r t j) e = refl
no_compare κ q i (TakeFinish r t) e = refl
no_compare κ q i StealRead e = refl
no_compare κ q i (StealTail h) e = refl
no_compare κ q i (StealTest r) e = refl
no_compare κ q i (StealNote r) e = refl
no_compare κ q i (StealWord r k t j) e = refl
no_compare κ q i (StealNext r t) e = refl
no_compare κ q i (StealCompare r x t) e = absurd (true≢false (sym e))

module _ (ρ : Room) (b : Bench) (m l : List ℕ) (mode : b.delayed ≡ true) where
  -- what a step leaves, by the shared words and the waiting line
  abbrev laid : Effect → Shared → Waiting → Outcome
  laid E S s =
      record {
        world =
            record {
              bench =
                  record {
                    kind = b.kind;
                    width = b.width;
                    words = b.words;
                    delayed = b.delayed;
                    crew = b.crew;
                    queue = relinked S.queue 0 (line_at b.workers 0) E.line;
                    waiting = s;
                    aside = when E.claims then 0 else b.aside;
                    used = b.used;
                    restarts = restarted b.kind b.queue 0 (line_at b.workers 0) b.restarts;
                    written = when ends E.answer then b.written + entry_length b.words else b.written;
                    workers = set b.workers 0 (record { line = E.line });
                  };
              store = S.store;
              log = logged b.words l b.written E.answer;
            };
        answer = E.answer;
      }

  abbrev longer : Effect → Bench
  longer E = waits b (joined b.waiting E.stores)

  steps_same : (E : Effect) → stepped ρ (lent (longer E) m l) 0 (bare E) ≡ stepped ρ (lent b m l) 0 E
  steps_same E =
      let s = joined b.waiting E.stores in
      let S : List Store → Shared = landed_all b.words (claimed_by ρ E.claims (shared b.queue m)) in
      ap (λ (x : List Store). laid E (S x) (line_after (lent (longer E) m l) 0 (bare E)))
      (none_land b.delayed [] mode ∙ sym (none_land b.delayed E.stores mode))
      ∙ ap (laid E (stored ρ (lent b m l) 0 E))
      (ap (joined s) (all_join b.delayed [] mode) ∙ joined_none s ∙ sym (ap (joined b.waiting) (all_join b.delayed E.stores mode)))

  joins : (c : ℕ) (s : List Store) → ltb 8 (c + length (joining b.delayed 0 s)) ≡ ltb 8 (c + length s)
  joins c s = ap (λ (x : List Store). ltb 8 (c + length x)) (all_join b.delayed s mode)

  -- refusal 18
  pub crowds : (E : Effect) → 8 < b.waiting.count + length E.stores → refuse (lent b m l) WaitingFull ≡ commit ρ (lent b m l) 0 E
  crowds E h = sym (if_true _ (joins b.waiting.count E.stores ∙ lt-ltb _ _ h))

  module _ (E : Effect) (few : b.waiting.count + length E.stores ≤ 8) where
    roomy : crowded (lent b m l) 0 E ≡ false
    roomy = joins b.waiting.count E.stores ∙ le-ltb _ _ few

    -- refusal 11
    pub log_full_lem : no_room (lent b m l) E ≡ true → refuse (lent b m l) LogFull ≡ commit ρ (lent b m l) 0 E
    log_full_lem h = sym (if_false _ roomy ∙ if_true _ h)

    commits : no_room (lent b m l) E ≡ false → commit ρ (lent (longer E) m l) 0 (bare E) ≡ commit ρ (lent b m l) 0 E
    commits h =
        let n = b.waiting.count + length E.stores in
        if_false _ (joins n [] ∙ le-ltb 8 (n + 0) (omega (arith, few))) ∙ if_false _ h ∙ steps_same E ∙ sym (if_false _ roomy ∙ if_false _ h)

    -- the line done: to is the line that follows, d the action, in a view of the queue p
    module _ (d : Action) (to : Line) (p : Queue) (n : ℕ) (D : Does ρ b.words E d) (e : to ≡ E.line) (S : Same p b.queue) (h : Doable b.words p n d)
        (own : is_owners (line_at b.workers 0) ≡ true) (held : holds_link b.queue 0 ≡ true → is_past1 (line_at b.workers 0) ≡ true)
        (rests : ends E.answer ≡ true → is_idle E.line ≡ true) where
      near : stage (line_at b.workers 0) < 4
      near = ltb-true _ _ own

      leads : Leads b.queue 0 (line_at b.workers 0) to (at_once d)
      leads =
          record {
            held = held;
            plain =
                ap (λ (x : Bool). b.queue.linked and x) (ne_eqb (stage (line_at b.workers 0)) 4 (λ z. omega (arith, near, z)))
                ∙ and_false b.queue.linked;
            stays = λ x a f. let five : stage (line_at b.workers 0) ≡ 5 = eqb-true _ _ x in absurd (omega (arith, near, five));
            rests = λ a. ap is_past1 e ∙ idle_not E.line (rests (ap ends (sym (bare_does ρ b.words E d D).answer) ∙ a));
            fails = λ f. absurd (true≢false (sym f ∙ never_fails d));
          }

      pub done : no_room (lent b m l) E ≡ false
          → moved_by (longer E) 0 to (acted_by b.words b.written l b.queue (at_once d)) (left_by ρ b.words (shared b.queue m) (at_once d)).store (log_after b.words b.written l (at_once d))
          ≡ commit ρ (lent b m l) 0 E
      done room =
          acted ρ (longer E) 0 (line_at b.workers 0) to m l refl (bare E)
          (record { few = few; none = all_join b.delayed [] mode; all = none_land b.delayed [] mode })
          (sym e) (at_once d) n (bare_does ρ b.words E d D) (bare_doable b.words p b.queue n d S h)
          (never_fails d ∙ sym (no_compare b.kind b.queue 0 (line_at b.workers 0) own)) leads
          ∙ commits room
