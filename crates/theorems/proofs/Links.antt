-- Links: a line breaks them by writing the anchor, or leaves them; a worker that holds one has read the anchor as it is.
use mathlib.Core.Path.{◌≡◌, refl, sym, ◌∙◌, ap, subst}
use mathlib.Core.Bool.{Bool, true, false, true≢false}
use mathlib.Core.Logic.{◌≢◌, ◌⊎◌, inl, inr}
use mathlib.Core.List.{List, [], ◌∷◌}
use Prim.Native.Nat.{ℕ, zero, suc, ◌+◌, ◌-◌}
use native.Mathlib.Omega.{arith}
use lib.Dec.{eqb}
use lib.ListN.{get_or, set, replicate}
use borrow.Author.Tests.{eqb-true, eq-eqb}
use Rattle.model.specs.declared.Room.{Room}
use Rattle.model.specs.declared.Growth.{Growth}
use Rattle.model.specs.declared.Growth.TheVariants.{ForPut, ForCommit}
use Rattle.model.specs.declared.Kind.{Kind}
use Rattle.model.specs.declared.Kind.TheVariants.{Lifo, Fifo, Deque}
use Rattle.model.specs.declared.Line.{Line}
use Rattle.model.specs.declared.Line.TheVariants.{Idle, PutRead, PutTail, PutTest, PutWord, PutFinish, Claim, Note, Copy, Publish, TakeRead, TakeTail, TakeTest, TakeWord, TakeFinish, StealRead, StealTail, StealTest, StealNote, StealWord, StealNext, StealCompare}
use Rattle.model.specs.declared.Queue.{Queue}
use Rattle.model.specs.declared.Task.{Task}
use Rattle.model.specs.declared.Anchor.{Anchor}
use Rattle.model.specs.declared.Store.{Store}
use Rattle.model.specs.declared.Store.TheVariants.{StoreWord, StoreNote, StorePut, StoreOut, StoreHead, StoreTail}
use Rattle.model.specs.Tests.{when◌then◌else◌, ◌and◌, ◌or◌}
use Rattle.model.proofs.Tests.{and_left, and_right, and_both, or_cases}
use Rattle.model.specs.Figures.{is_full, is_empty, is_same, put_read, take_read, steal_read, note_all, note, steal_last}
use Rattle.model.specs.Lines.{Effect, size, fits, succeeds, line_step, holds_link}
use Rattle.model.specs.World.{stage, is_steal1, is_past1}
use Rattle.model.specs.Limits.{kind_ok, read_by, link_ok}
use Rattle.model.specs.Calls.{relinked}
use Rattle.model.proofs.Landing.{none_held}
use Rattle.theorems.proofs.Folds.{anchor_after, links_after, laid, NonePut}
use Rattle.theorems.proofs.Shape.{OwnShape, ThiefShape}

-- held after worker i's link comes to be x; after all are cleared
pub held_set : (l : List Bool) (i k : ℕ) (x : Bool) → get_or (set l i x) k false ≡ true → ((k ≡ i) × (x ≡ true)) ⊎ ((k ≢ i) × (get_or l k false ≡ true))
held_set [] i k x e = absurd (true≢false (sym e))
held_set (y ∷ l) zero zero x e = inl (refl, e)
held_set (y ∷ l) zero (suc k) x e = inr (omega arith, e)
held_set (y ∷ l) (suc i) zero x e = inr (omega arith, e)
held_set (y ∷ l) (suc i) (suc k) x e = go (held_set l i k x e)
  where
    go : ((k ≡ i) × (x ≡ true)) ⊎ ((k ≢ i) × (get_or l k false ≡ true)) → ((suc k ≡ suc i) × (x ≡ true)) ⊎ ((suc k ≢ suc i) × (get_or l k false ≡ true))
    go (inl (q, z)) = inl (ap suc q, z)
    go (inr (ne, z)) = inr (omega arith, z)

pub never_held : (n k : ℕ) → get_or (replicate n false) k false ≡ true → ⊥
never_held n k e = true≢false (sym e ∙ none_held n k)

-- a link that is held after stores was held before them, and none of them wrote the anchor
pub links_held : (ss : List Store) (l : List Bool) (a : Anchor) (k : ℕ) → get_or (links_after ss l) k false ≡ true → (get_or l k false ≡ true) × (anchor_after ss a ≡ a) × NonePut ss
links_held [] l a k e = (e, refl, tt)
links_held (StoreWord b s j x ∷ ss) l a k e = let (u, v, n) = links_held ss l a k e in (u, v, (tt, n))
links_held (StoreNote c ∷ ss) l a k e = let (u, v, n) = links_held ss l a k e in (u, v, (tt, n))
links_held (StorePut r ∷ ss) l a k e = absurd (never_held 8 k (links_held ss (replicate 8 false) r k e).0)
links_held (StoreOut r ∷ ss) l a k e = absurd (never_held 8 k (links_held ss (replicate 8 false) r k e).0)
links_held (StoreHead i ∷ ss) l a k e = absurd (never_held 8 k (links_held ss (replicate 8 false) a k e).0)
links_held (StoreTail i ∷ ss) l a k e = absurd (never_held 8 k (links_held ss (replicate 8 false) a k e).0)

-- what a thief past its line 1 has read: now, or as before
abbrev Leads : Queue → Line → Line → Type 0
Leads q l l' = is_past1 l' ≡ true → ((l ≡ StealRead) × (read_by l' ≡ q.anchor)) ⊎ ((is_past1 l ≡ true) × (read_by l' ≡ read_by l))

-- the owner's line, or a thief's, of a queue that may be linked
abbrev pub Held : Kind → ℕ → ℕ → Queue → ℕ → ℕ → Line → Type 0
Held κ w ω q low τ l = OwnShape κ w ω (size ω q) low τ l ⊎ ThiefShape κ w ω q τ l

never : {A : Type 0} → false ≡ true → A
never e = absurd (true≢false (sym e))

module _ (q : Queue) (l : Line) where
  either_line : (x : Bool) (a b : Line) → Leads q l a → Leads q l b → Leads q l (when x then a else b)
  unfolding when◌then◌else◌
  either_line true a b f g = f
  either_line false a b f g = g

  either_end : (x : Bool) (E E' : Effect) → Leads q l E.line → Leads q l E'.line → Leads q l (when x then E else E').line
  unfolding when◌then◌else◌
  either_end true E E' f g = f
  either_end false E E' f g = g

  put_read_lem : (κ : Kind) (t : Task) → Leads q l (put_read κ q.anchor t)
  put_read_lem Lifo t = never
  put_read_lem Fifo t = never
  put_read_lem Deque t = never

  take_read_lem : (κ : Kind) → Leads q l (take_read κ q.anchor)
  take_read_lem Lifo = never
  take_read_lem Fifo = never
  take_read_lem Deque = never

  note_all_lem : (t : Growth) (h k : ℕ) → Leads q l (note_all t h k)
  note_all_lem t h k = either_line (eqb k 0) (Publish t) (Copy t h k 0) never never

  noted : (κ : Kind) (z : ℕ) (t : Growth) → Leads q l (note κ z q.anchor t)
  noted Lifo z t = note_all_lem t 0 z
  noted Fifo z t = note_all_lem t q.anchor.head (q.anchor.count - q.anchor.head)
  noted Deque z t = note_all_lem t q.anchor.head q.anchor.count

read_now : (κ : Kind) (q : Queue) → kind_ok κ true ≡ true → Leads q StealRead (steal_read κ q.anchor)
read_now Lifo q k p = inl (refl, refl)
read_now Fifo q k p = absurd (true≢false (sym k))
read_now Deque q k p = inl (refl, refl)

tail_none : (κ : Kind) (w ω : ℕ) (q : Queue) (τ h : ℕ) {A : Type 0} → kind_ok κ true ≡ true → ThiefShape κ w ω q τ (StealTail h) → A
tail_none Lifo w ω q τ h k s = absurd s
tail_none Fifo w ω q τ h k s = absurd (true≢false (sym k))
tail_none Deque w ω q τ h k s = absurd s

read_last : (κ : Kind) (q : Queue) (r : Anchor) (k : ℕ) (t u : Task) (j : ℕ) → Leads q (StealWord r k t j) (steal_last κ r u)
read_last Lifo q r k t u j p = inr (refl, refl)
read_last Fifo q r k t u j p = inr (refl, refl)
read_last Deque q r k t u j p = inr (refl, refl)

pub line_leads : (ρ : Room) (κ : Kind) (w ω : ℕ) (q : Queue) (m : List ℕ) (i low τ : ℕ) (l : Line) → Held κ w ω q low τ l → kind_ok κ true ≡ true → Leads q l (line_step ρ κ w ω q m i l).line
unfolding line_step
line_leads ρ κ w ω q m i low τ Idle s n = never
line_leads ρ κ w ω q m i low τ (PutRead t) s n = put_read_lem q (PutRead t) κ t
line_leads ρ κ w ω q m i low τ (PutTail t h) s n = never
line_leads ρ κ w ω q m i low τ (PutTest t r) s n = either_line q (PutTest t r) (is_full κ (size ω q) r) _ _ never never
line_leads ρ κ w ω q m i low τ (PutWord t r j) s n = either_line q (PutWord t r j) (eqb j ω) _ _ never never
line_leads ρ κ w ω q m i low τ (PutFinish t r) s n = never
line_leads ρ κ w ω q m i low τ (Claim t) s n = either_end q (Claim t) (fits ρ ω q) _ _ never never
line_leads ρ κ w ω q m i low τ (Note t) s n = noted q (Note t) κ (size ω q) t
line_leads ρ κ w ω q m i low τ (Copy t h j k) s n = either_line q (Copy t h j k) (eqb (k + 1) j) _ _ never never
line_leads ρ κ w ω q m i low τ (Publish (ForPut t)) s n = never
line_leads ρ κ w ω q m i low τ (Publish ForCommit) s n = never
line_leads ρ κ w ω q m i low τ TakeRead s n = take_read_lem q TakeRead κ
line_leads ρ κ w ω q m i low τ (TakeTail h) s n = never
line_leads ρ κ w ω q m i low τ (TakeTest r) s n = either_end q (TakeTest r) (is_empty κ r) _ _ never never
line_leads ρ κ w ω q m i low τ (TakeWord r t j) s n = either_line q (TakeWord r t j) (eqb j ω) _ _ never never
line_leads ρ κ w ω q m i low τ (TakeFinish r t) s n = never
line_leads ρ κ w ω q m i low τ StealRead s n = read_now κ q n
line_leads ρ κ w ω q m i low τ (StealTail h) (inl s) n = absurd s
line_leads ρ κ w ω q m i low τ (StealTail h) (inr s) n = tail_none κ w ω q τ h n s
line_leads ρ κ w ω q m i low τ (StealTest r) s n = either_end q (StealTest r) (is_empty κ r) _ _ never (λ p. inr (refl, refl))
line_leads ρ κ w ω q m i low τ (StealNote r) s n = λ p. inr (refl, refl)
line_leads ρ κ w ω q m i low τ (StealWord r k t j) s n = either_line q (StealWord r k t j) (eqb j ω) _ _ (read_last κ q r k t _ j) (λ p. inr (refl, refl))
line_leads ρ κ w ω q m i low τ (StealNext r t) s n = λ p. inr (refl, refl)
line_leads ρ κ w ω q m i low τ (StealCompare r e t) s n = either_end q (StealCompare r e t) (succeeds κ q i r) _ _ never never

-- the limit on a link, by its parts
pub link_parts : (κ : Kind) (q : Queue) (l : Line) → link_ok κ q l ≡ true → (q.linked ≡ true) × (is_past1 l ≡ true) × (is_same κ q.anchor (read_by l) ≡ true)
link_parts κ q l e = let f = and_right q.linked _ e in (and_left _ _ e, and_left _ _ f, and_right (is_past1 l) _ f)

pub link_as : (κ : Kind) (q q' : Queue) (l l' : Line) → q'.linked ≡ q.linked → q'.anchor ≡ q.anchor → is_past1 l' ≡ true → read_by l' ≡ read_by l
    → link_ok κ q l ≡ true → link_ok κ q' l' ≡ true
link_as κ q q' l l' el ea p er e =
    let (a, b, c) = link_parts κ q l e in
    and_both _ _ (el ∙ a) (and_both _ _ p (ap (λ (x : Anchor). is_same κ x (read_by l')) ea ∙ ap (is_same κ q.anchor) er ∙ c))

same_number : (n : ℕ) → eqb n n ≡ true
same_number n = eq-eqb n n refl

same_anchor : (κ : Kind) (a : Anchor) → is_same κ a a ≡ true
same_anchor Lifo a = and_both _ _ (same_number a.count) (same_number a.tag)
same_anchor Fifo a = same_number a.head
same_anchor Deque a = and_both _ _ (same_number a.head) (and_both _ _ (same_number a.count) (same_number a.tag))

-- the owner never is past a steal's line 1
own_past : (κ : Kind) (w ω z low τ : ℕ) (l : Line) → OwnShape κ w ω z low τ l → is_past1 l ≡ true → ⊥
own_past κ w ω z low τ Idle s e = true≢false (sym e)
own_past κ w ω z low τ (PutRead t) s e = true≢false (sym e)
own_past κ w ω z low τ (PutTail t h) s e = true≢false (sym e)
own_past κ w ω z low τ (PutTest t r) s e = true≢false (sym e)
own_past κ w ω z low τ (PutWord t r j) s e = true≢false (sym e)
own_past κ w ω z low τ (PutFinish t r) s e = true≢false (sym e)
own_past κ w ω z low τ (Claim (ForPut t)) s e = true≢false (sym e)
own_past κ w ω z low τ (Claim ForCommit) s e = true≢false (sym e)
own_past κ w ω z low τ (Note t) s e = true≢false (sym e)
own_past κ w ω z low τ (Copy t h n k) s e = true≢false (sym e)
own_past κ w ω z low τ (Publish t) s e = true≢false (sym e)
own_past κ w ω z low τ TakeRead s e = true≢false (sym e)
own_past κ w ω z low τ (TakeTail h) s e = true≢false (sym e)
own_past κ w ω z low τ (TakeTest r) s e = true≢false (sym e)
own_past κ w ω z low τ (TakeWord r t j) s e = true≢false (sym e)
own_past κ w ω z low τ (TakeFinish r t) s e = true≢false (sym e)
own_past κ w ω z low τ StealRead s e = s
own_past κ w ω z low τ (StealTail h) s e = s
own_past κ w ω z low τ (StealTest r) s e = s
own_past κ w ω z low τ (StealNote r) s e = s
own_past κ w ω z low τ (StealWord r k t j) s e = s
own_past κ w ω z low τ (StealNext r t) s e = s
own_past κ w ω z low τ (StealCompare r i t) s e = s

-- so it comes to hold no link
pub own_unlinked : (κ : Kind) (w ω z low τ : ℕ) (l : Line) (x : Bool) → OwnShape κ w ω z low τ l → (is_past1 l and x) ≡ true → ⊥
own_unlinked κ w ω z low τ l x s e = own_past κ w ω z low τ l s (and_left _ _ e)

-- a thief, worker i at the line l, steps, and holds a link then: it was line 1, or the link was held before
module _ (ρ : Room) (κ : Kind) (w ω : ℕ) (q : Queue) (m : List ℕ) (i low τ : ℕ) (l : Line) (kinds : kind_ok κ q.linked ≡ true) (s : Held κ w ω q low τ l)
    (ok : holds_link q i ≡ true → link_ok κ q l ≡ true) where
  abbrev E : Effect
  E = line_step ρ κ w ω q m i l

  abbrev Q : Queue
  Q = laid (line_step ρ κ w ω q m i l).stores q

  leads : q.linked ≡ true → Leads q l (line_step ρ κ w ω q m i l).line
  leads e = line_leads ρ κ w ω q m i low τ l s (subst (λ (x : Bool). kind_ok κ x ≡ true) e kinds)

  read_same : l ≡ StealRead → (laid (line_step ρ κ w ω q m i l).stores q).anchor ≡ q.anchor
  unfolding line_step
  read_same e = ap (λ (x : Line). anchor_after (line_step ρ κ w ω q m i x).stores q.anchor) e

  pub linked_now : (is_past1 E.line and ((q.linked and is_steal1 l) or holds_link Q i)) ≡ true
      → ((l ≡ StealRead) ⊎ (holds_link Q i ≡ true)) × (link_ok κ (relinked Q i l E.line) E.line ≡ true)
  linked_now x = go (or_cases (q.linked and is_steal1 l) _ (and_right (is_past1 E.line) _ x))
    where
      past : is_past1 E.line ≡ true
      past = and_left _ _ x

      go : (q.linked and is_steal1 l ≡ true) ⊎ (holds_link Q i ≡ true)
          → ((l ≡ StealRead) ⊎ (holds_link Q i ≡ true)) × (link_ok κ (relinked Q i l E.line) E.line ≡ true)
      go (inl a) = now (leads (and_left _ _ a) past)
        where
          now : ((l ≡ StealRead) × (read_by E.line ≡ q.anchor)) ⊎ ((is_past1 l ≡ true) × (read_by E.line ≡ read_by l))
              → ((l ≡ StealRead) ⊎ (holds_link Q i ≡ true)) × (link_ok κ (relinked Q i l E.line) E.line ≡ true)
          now (inl (e, r)) = (
            inl e,
            and_both _ _ (and_left _ _ a)
                (and_both _ _ past (ap (λ (x : Anchor). is_same κ x (read_by E.line)) (read_same e ∙ sym r) ∙ same_anchor κ (read_by E.line))),
          )
          now (inr (p, r)) = absurd (omega (arith, eqb-true (stage l) 4 (and_right q.linked _ a), eqb-true (stage l) 5 p))
      go (inr h) = (inr h, before (leads (link_parts κ q l old).0 past))
        where
          K : (holds_link q i ≡ true) × (anchor_after E.stores q.anchor ≡ q.anchor) × NonePut E.stores
          K = links_held E.stores q.links q.anchor i h

          old : link_ok κ q l ≡ true
          old = ok K.0

          before : ((l ≡ StealRead) × (read_by E.line ≡ q.anchor)) ⊎ ((is_past1 l ≡ true) × (read_by E.line ≡ read_by l))
              → link_ok κ (relinked Q i l E.line) E.line ≡ true
          before (inl (e, r)) = absurd (true≢false (sym (link_parts κ q l old).1 ∙ ap is_past1 e))
          before (inr (p, r)) = link_as κ q (relinked Q i l E.line) l E.line refl K.1 past r old
