-- What carrying an action out comes to.
use mathlib.Core.Bool.{Bool, true, false}
use mathlib.Core.List.{List, [], ◌∷◌}
use mathlib.Core.Path.{◌≡◌, refl, sym, ap, ◌∙◌}
use Prim.Native.Nat.{ℕ, zero, suc, ◌+◌, ◌≤◌}
use native.Mathlib.Omega.{arith}
use lib.Dec.{ltb}
use lib.ListN.{length, get_or, set}
use borrow.Author.Tests.{ltb-false, le-ltb}
use Rattle.model.specs.declared.Anchor.{Anchor}
use Rattle.model.specs.declared.Store.{Store}
use Rattle.model.specs.declared.Store.TheVariants.{StoreWord, StoreNote, StorePut, StoreOut, StoreHead, StoreTail}
use Rattle.model.specs.declared.Line.{Line}
use Rattle.model.specs.declared.Queue.{Queue}
use Rattle.model.specs.declared.Room.{Room}
use Rattle.model.specs.declared.Waiting.{Waiting}
use Rattle.model.specs.declared.Bench.{Bench}
use Rattle.model.specs.declared.Answer.{Answer}
use Rattle.model.specs.declared.Refusal.TheVariants.{LogFull}
use Rattle.model.specs.Tests.{when◌then◌else◌, ◌and◌, ◌or◌}
use Rattle.model.specs.Memory.{set_all}
use Rattle.model.specs.Answers.{ends, entry_of, entry_length, entry_words, logged}
use Rattle.model.specs.Stores.{Shared, shared, anchored, publishing, landed, landed_all, joined, claimed_by}
use Rattle.model.specs.Lines.{Effect, goes, left_of, holds_link, fails_compare}
use Rattle.model.specs.World.{World, Outcome, refuse, line_at, is_steal1, is_past1}
use Rattle.model.specs.Calls.{lent, raised, log_full, link_set, relinked, restarted, joining, landing, stored, crowded, commit}
use Rattle.model.proofs.Landing.{joined_none, none_held}
use Rattle.model.proofs.Tests.{if_false, fails, and_false}
use Rattle.anchors.specs.After.{after_store, of_anchor}
use Rattle.lines.specs.declared.Action.{Action}
use Rattle.lines.specs.declared.Action.TheVariants as action
use Rattle.lines.specs.Actions.{claims_by, PlacedIn, stores_by, answer_by, fails_by, Does, Lands, Concludes, Doable}
use Rattle.machine.specs.declared.Made.{Made}
use Rattle.machine.specs.declared.Made.TheVariants as made
use Rattle.machine.specs.Steps.{bench_of, with_array, bench_after, answer_after, moved_by, left_by, made_by, concluded_by, acted_by, log_after, Fits}
use Rattle.machine.proofs.Landing.{copies_leave, claims_land, anchor_lands}

-- an entry that has room is counted in 32 bits
pub room_counts : (v k : ℕ) (l : List ℕ) → log_full v l k ≡ false → k + entry_length v ≤ 4294967295
unfolding ◌or◌
room_counts v k l e = by (ltb (length l) (k + entry_length v)) (ltb 4294967295 (k + entry_length v)) refl e
  where
    by : (y z : Bool) → ltb 4294967295 (k + entry_length v) ≡ z → (y or z) ≡ false → k + entry_length v ≤ 4294967295
    by true z f g = let z : ◌≡◌ {A = ℕ} 0 1 = cc g in omega arith
    by false true f g = let z : ◌≡◌ {A = ℕ} 0 1 = cc g in omega arith
    by false false f g = ltb-false _ _ f

-- a link written as it is
set_self : (l : List Bool) (i : ℕ) → set l i (get_or l i false) ≡ l
set_self [] i = refl
set_self (x ∷ l) zero = refl
set_self (x ∷ l) (suc i) = ap (λ (t : List Bool). x ∷ t) (set_self l i)

pub link_kept : (q : Queue) (i : ℕ) (x : Bool) → holds_link q i ≡ x → link_set q i x ≡ q
link_kept q i x e =
    ap (link_set q i) (sym e)
    ∙ ap (λ (l : List Bool).
    record {
      linked = q.linked;
      anchor = q.anchor;
      arrays = q.arrays;
      published = q.published;
      claimed = q.claimed;
      initial = q.initial;
      links = l;
    })
    (set_self q.links i)

-- worker i came from one line to another: its link stays as it is, or its attempt is over
module _ (q : Queue) (i : ℕ) (from to : Line) where
  relink : (q.linked and is_steal1 from) ≡ false → (holds_link q i ≡ true → is_past1 to ≡ true) → relinked q i from to ≡ q
  unfolding ◌and◌ ◌or◌
  relink plain on = go (holds_link q i) refl
    where
      go : (x : Bool) → holds_link q i ≡ x → relinked q i from to ≡ q
      go true e = rw (plain, e, on e) (link_kept q i true e)
      go false e = rw (plain, e) (ap (link_set q i) (and_false (is_past1 to)) ∙ link_kept q i false e)

  link : (q.linked and is_steal1 from) ≡ true → is_past1 to ≡ true → relinked q i from to ≡ link_set q i true
  unfolding ◌and◌ ◌or◌
  link e p = rw (e, p)

  unlink : is_past1 to ≡ false → relinked q i from to ≡ link_set q i false
  unlink e = ap (link_set q i) (fails _ e)

-- what is known of links where worker i does an action that is not the linking line
pub record Leads (q : Queue) (i : ℕ) (from to : Line) (d : Action) : Type 0 where
  pub held : holds_link q i ≡ true → is_past1 from ≡ true
  pub plain : (q.linked and is_steal1 from) ≡ false
  pub stays : is_past1 from ≡ true → ends (answer_by d) ≡ false → fails_by d ≡ false → is_past1 to ≡ true
  pub rests : ends (answer_by d) ≡ true → is_past1 to ≡ false
  pub fails : fails_by d ≡ true → holds_link q i ≡ true → is_past1 to ≡ true

-- the effect E of worker i's line is whole once it is committed: no store of it joins the waiting line
pub record Prompt (b : Bench) (i : ℕ) (E : Effect) : Type 0 where
  pub few : b.waiting.count ≤ 8
  pub none : joining b.delayed i E.stores ≡ []
  pub all : landing b.delayed i E.stores ≡ E.stores

-- a step of worker i that comes to the line x and answers a, committed with the counts n of restarts, the queue q, the waiting
-- line s, o words set aside and the store m
abbrev counted : World → ℕ → Line → Answer → List ℕ → Queue → Waiting → ℕ → List ℕ → Outcome
counted W i x a n q s o m =
    let b = W.bench in
    when ends a and log_full b.words W.log b.written then refuse W LogFull
    else record {
      world =
          lent
          (bench_of b.kind b.width b.words b.crew q (when ends a then b.written + entry_length b.words else b.written) b.delayed s o b.used n
          (set b.workers i (record { line = x }))) m
          (logged b.words W.log b.written a);
      answer = a;
    }

module _ (ρ : Room) (b : Bench) (i : ℕ) (from to : Line) (m l : List ℕ) (at : line_at b.workers i ≡ from) where
  -- what the action leaves
  abbrev left : Action → Shared
  left d = left_by ρ b.words (shared b.queue m) d

  -- the words set aside are gone exactly if the line claims
  abbrev unclaimed : Bool → ℕ
  unclaimed x = when x then 0 else b.aside

  abbrev kept_aside : Action → ℕ
  kept_aside d = unclaimed (claims_by d)

  left_is : (E : Effect) (d : Action) → Does ρ b.words E d → left_of ρ b.words (shared b.queue m) E ≡ left d
  left_is E d D =
      sym
      (ap (λ (x : Bool). landed_all b.words (claimed_by ρ x (shared b.queue m)) (stores_by b.words d)) D.claims
      ∙ ap (landed_all b.words (claimed_by ρ E.claims (shared b.queue m))) D.stores)

  -- the line has room, as none joins it
  pub roomy : (E : Effect) → Prompt b i E → crowded (lent b m l) i E ≡ false
  roomy E P =
      ap (λ (s : List Store). ltb 8 (b.waiting.count + length s)) P.none
      ∙ le-ltb 8 (b.waiting.count + 0) (let h = P.few in omega (arith, h))

  -- the line, by what it leaves of the shared words and answers
  by_stores : (E : Effect) (d : Action) → Prompt b i E → Does ρ b.words E d → E.line ≡ to
      → commit ρ (lent b m l) i E
      ≡ counted (lent b m l) i to (answer_by d) (restarted b.kind b.queue i (line_at b.workers i) b.restarts) (relinked (left d).queue i (line_at b.workers i) to) b.waiting (kept_aside d) (left d).store
  by_stores E d P D e =
      let n = restarted b.kind b.queue i (line_at b.workers i) b.restarts in
      if_false _ (roomy E P)
      ∙ ap (λ (s : Waiting). counted (lent b m l) i E.line E.answer n (relinked (stored ρ (lent b m l) i E).queue i (line_at b.workers i) E.line) s (unclaimed E.claims) (stored ρ (lent b m l) i E).store)
      (ap (joined b.waiting) P.none ∙ joined_none b.waiting)
      ∙ ap (λ (S : Shared). counted (lent b m l) i E.line E.answer n (relinked S.queue i (line_at b.workers i) E.line) b.waiting (unclaimed E.claims) S.store)
      (ap (landed_all b.words (claimed_by ρ E.claims (shared b.queue m))) P.all ∙ left_is E d D)
      ∙ ap (λ (a : Answer). counted (lent b m l) i E.line a n (relinked (left d).queue i (line_at b.workers i) E.line) b.waiting (unclaimed E.claims) (left d).store) (sym D.answer)
      ∙ ap (λ (x : Line). counted (lent b m l) i x (answer_by d) n (relinked (left d).queue i (line_at b.workers i) x) b.waiting (unclaimed E.claims) (left d).store) e
      ∙ ap (λ (z : Bool). counted (lent b m l) i to (answer_by d) n (relinked (left d).queue i (line_at b.workers i) to) b.waiting (unclaimed z) (left d).store) (sym D.claims)

  -- the action counts a restart exactly if the compare fails
  commits : (E : Effect) (d : Action) {p q : Queue} → Prompt b i E → Does ρ b.words E d → E.line ≡ to → fails_by d ≡ fails_compare b.kind b.queue i from
      → (left d).queue ≡ p → relinked p i from to ≡ q
      → commit ρ (lent b m l) i E ≡ counted (lent b m l) i to (answer_by d) (when fails_by d then raised b.restarts i else b.restarts) q b.waiting (kept_aside d) (left d).store
  commits E d {q = q} P D e f p g =
      by_stores E d P D e
      ∙ ap (λ (x : Bool). counted (lent b m l) i to (answer_by d) (when x then raised b.restarts i else b.restarts) (relinked (left d).queue i (line_at b.workers i) to) b.waiting (kept_aside d) (left d).store)
      (ap (fails_compare b.kind b.queue i) at ∙ sym f)
      ∙ ap (λ (q : Queue). counted (lent b m l) i to (answer_by d) (when fails_by d then raised b.restarts i else b.restarts) q b.waiting (kept_aside d) (left d).store)
      (ap (λ (y : Line). relinked (left d).queue i y to) at ∙ ap (λ (x : Queue). relinked x i from to) p ∙ g)

  -- an action carried out is the line committed that it does
  module _ (E : Effect) (P : Prompt b i E) (e : E.line ≡ to) where
    -- a last line that stores the anchor
    ended : (s : Store) (y : Answer) → Does ρ b.words E (action.Ends s y) → of_anchor s ≡ true → ends y ≡ true
        → fails_by (action.Ends s y) ≡ fails_compare b.kind b.queue i from → Leads b.queue i from to (action.Ends s y)
        → moved_by b i to (when log_full b.words l b.written then made.Refused LogFull else made.Ends (after_store b.queue.anchor s) y) (left (action.Ends s y)).store (log_after b.words b.written l (action.Ends s y))
        ≡ commit ρ (lent b m l) i E
    unfolding log_after bench_after answer_after claims_by stores_by landed_all answer_by fails_by when◌then◌else◌ ◌and◌
    ended s y D o h f L =
        ap (λ (x : List ℕ). moved_by b i to (when log_full b.words l b.written then made.Refused LogFull else made.Ends (after_store b.queue.anchor s) y) x (log_after b.words b.written l (action.Ends s y))) kept
        ∙ sym
        (commits E (action.Ends s y) P D e f (ap (λ (S : Shared). S.queue) lands)
        (unlink (anchored b.queue a) i from to (L.rests h) ∙ link_kept (anchored b.queue a) i false (none_held 8 i))
        ∙ ap (counted (lent b m l) i to y b.restarts (anchored b.queue a) b.waiting b.aside) kept
        ∙ full (log_full b.words l b.written) refl)
      where
        a : Anchor
        a = after_store b.queue.anchor s

        lands : landed b.words (shared b.queue m) s ≡ shared (anchored b.queue a) m
        lands = anchor_lands b.words b.queue m s o

        kept : (landed b.words (shared b.queue m) s).store ≡ m
        kept = ap (λ (S : Shared). S.store) lands

        full : (z : Bool) → log_full b.words l b.written ≡ z
            → counted (lent b m l) i to y b.restarts (anchored b.queue a) b.waiting b.aside m
            ≡ moved_by b i to (when z then made.Refused LogFull else made.Ends a y) m (when z then l else set_all l b.written (entry_words b.words (entry_of y)))
        full true q = rw (h, q)
        full false q = rw (h, q)

    pub acted : (d : Action) (n : ℕ) → Does ρ b.words E d → Doable b.words b.queue n d
        → fails_by d ≡ fails_compare b.kind b.queue i from → Leads b.queue i from to d
        → moved_by b i to (acted_by b.words b.written l b.queue d) (left d).store (log_after b.words b.written l d) ≡ commit ρ (lent b m l) i E
    unfolding acted_by made_by concluded_by log_after bench_after answer_after claims_by PlacedIn stores_by landed_all answer_by fails_by Doable Lands Concludes when◌then◌else◌ ◌and◌
    acted action.Nothing n D h f L = sym (commits E action.Nothing P D e f refl (relink b.queue i from to L.plain (λ e. L.stays (L.held e) refl refl)))
    acted action.Fails n D h f L = sym (commits E action.Fails P D e f refl (relink b.queue i from to L.plain (L.fails refl)))
    acted (action.Stores (StoreWord k t j x)) n D h f L =
        sym (commits E (action.Stores (StoreWord k t j x)) P D e f refl (relink b.queue i from to L.plain (λ e. L.stays (L.held e) refl refl)))
    acted (action.Stores (StoreNote k)) n D h f L =
        sym
        (commits E (action.Stores (StoreNote k)) P D e f (ap (publishing b.queue) h)
        (relink (publishing b.queue b.queue.published) i from to L.plain (λ e. L.stays (L.held e) refl refl)))
    acted (action.Stores (StorePut a)) n D h f L = absurd h
    acted (action.Stores (StoreOut a)) n D h f L = absurd h
    acted (action.Stores (StoreHead a)) n D h f L = absurd h
    acted (action.Stores (StoreTail a)) n D h f L = absurd h
    acted (action.Copies k t u) n D h f L =
        sym
        (commits E (action.Copies k t u) P D e f (copies_leave b.words b.queue m k t u (b.words + 1))
        (relink b.queue i from to L.plain (λ e. L.stays (L.held e) refl refl)))
    acted (action.Claims a z) n D h f L =
        sym
        (commits E (action.Claims a z) P D e f (ap (λ (S : Shared). S.queue) (claims_land ρ b.queue m n a z D.place h))
        (relink (with_array b.queue a z) i from to L.plain (λ e. L.stays (L.held e) refl refl)))
    acted (action.Stops y) n D h f L = sym (commits E (action.Stops y) P D e f refl (unlink b.queue i from to (L.rests h)) ∙ full (log_full b.words l b.written) refl)
      where
        full : (z : Bool) → log_full b.words l b.written ≡ z
            → counted (lent b m l) i to y b.restarts (link_set b.queue i false) b.waiting b.aside m
            ≡ moved_by b i to (when z then made.Refused LogFull else made.Stops y) m (when z then l else set_all l b.written (entry_words b.words (entry_of y)))
        full true q = rw (h, q)
        full false q = rw (h, q)
    acted (action.Ends (StoreWord k t j x) y) n D h f L = absurd h.0
    acted (action.Ends (StoreNote k) y) n D h f L =
        sym
        (commits E (action.Ends (StoreNote k) y) P D e f (ap (publishing b.queue) h.0)
        (unlink (publishing b.queue b.queue.published) i from to (L.rests h.1))
        ∙ full (log_full b.words l b.written) refl)
      where
        full : (z : Bool) → log_full b.words l b.written ≡ z
            → counted (lent b m l) i to y b.restarts (link_set (publishing b.queue b.queue.published) i false) b.waiting b.aside m
            ≡ moved_by b i to (when z then made.Refused LogFull else made.Grows y) m (when z then l else set_all l b.written (entry_words b.words (entry_of y)))
        full true q = rw (h.1, q)
        full false q = rw (h.1, q)
    acted (action.Ends (StorePut a) y) n D h f L = ended (StorePut a) y D refl h.1 f L
    acted (action.Ends (StoreOut a) y) n D h f L = ended (StoreOut a) y D refl h.1 f L
    acted (action.Ends (StoreHead a) y) n D h f L = ended (StoreHead a) y D refl h.1 f L
    acted (action.Ends (StoreTail a) y) n D h f L = ended (StoreTail a) y D refl h.1 f L

  -- and the line that links
  pub linked_line : Prompt b i (goes to) → (b.queue.linked and is_steal1 from) ≡ true → fails_compare b.kind b.queue i from ≡ false → is_past1 to ≡ true
      → moved_by b i to made.Links m l ≡ commit ρ (lent b m l) i (goes to)
  unfolding bench_after answer_after claims_by PlacedIn stores_by answer_by fails_by landed_all when◌then◌else◌ ◌and◌
  linked_line P e f p = sym (commits (goes to) action.Nothing P (record { claims = refl; place = tt; stores = refl; answer = refl }) refl (sym f) refl (link b.queue i from to e p))

-- what ends an operation fits where its entry is logged
logged_fits : (v : ℕ) (q : Queue) (k : ℕ) (l : List ℕ) (d : Made) → (k + entry_length v ≤ 4294967295 → Fits v q k d) → Fits v q k (when log_full v l k then made.Refused LogFull else d)
unfolding when◌then◌else◌ Fits
logged_fits v q k l d f = go (log_full v l k) refl
  where
    go : (z : Bool) → log_full v l k ≡ z → Fits v q k (when z then made.Refused LogFull else d)
    go true e = tt
    go false e = f (room_counts v k l e)

pub fits : (v : ℕ) (q : Queue) (k n : ℕ) (l : List ℕ) (d : Action) → q.published ≤ 11 → Doable v q n d → Fits v q k (acted_by v k l q d)
unfolding acted_by made_by concluded_by Fits Doable Lands
fits v q k n l action.Nothing p h = tt
fits v q k n l action.Fails p h = tt
fits v q k n l (action.Stores (StoreWord a t j x)) p h = tt
fits v q k n l (action.Stores (StoreNote a)) p h = p
fits v q k n l (action.Stores (StorePut a)) p h = tt
fits v q k n l (action.Stores (StoreOut a)) p h = tt
fits v q k n l (action.Stores (StoreHead a)) p h = tt
fits v q k n l (action.Stores (StoreTail a)) p h = tt
fits v q k n l (action.Copies a t u) p h = tt
fits v q k n l (action.Claims a z) p h = h.listed
fits v q k n l (action.Stops y) p h = logged_fits v q k l (made.Stops y) (λ r. (r, h))
fits v q k n l (action.Ends s y) p h = logged_fits v q k l (concluded_by q.anchor s y) (λ r. last_fits s r)
  where
    last_fits : (s : Store) → k + entry_length v ≤ 4294967295 → Fits v q k (concluded_by q.anchor s y)
    last_fits (StoreWord a t j x) r = (r, h.1)
    last_fits (StoreNote a) r = (p, r, h.1)
    last_fits (StorePut a) r = (r, h.1)
    last_fits (StoreOut a) r = (r, h.1)
    last_fits (StoreHead a) r = (r, h.1)
    last_fits (StoreTail a) r = (r, h.1)
