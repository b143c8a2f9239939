-- FIFO in order. From fresh on each call keeps the invariant, whose `order` says of the whole history that a hand-out repeats a
-- number or has a larger one than all before it; the places of the list tell the same.
use mathlib.Core.Path.{◌≡◌, refl, sym, ◌∙◌, ap, subst}
use mathlib.Core.Logic.{◌⊎◌, inl, inr}
use mathlib.Core.List.Memᴰ
use mathlib.Core.List.{List, [], ◌∷◌, Memᴰ}
use Prim.Native.Nat.{ℕ, zero, suc, ◌<◌}
use native.Mathlib.Omega.{arith}
use lib.ListN.{take}
use Rattle.model.specs.declared.Setup.{Setup}
use Rattle.model.specs.declared.Kind.{Kind}
use Rattle.model.specs.declared.Kind.TheVariants.{Fifo}
use Rattle.model.specs.declared.Task.{Task}
use Rattle.model.specs.declared.Store.{Store}
use Rattle.model.specs.Tests.{when◌then◌else◌, ◌or◌}
use Rattle.model.specs.World.{World, tag_bits}
use Rattle.model.specs.declared.Answer.TheVariants.{Accepted}
use Rattle.model.specs.Calls.{fresh_of, kind_of, call_in}
use Rattle.model.specs.Run.{Played}
use Rattle.theorems.specs.Demand3.{At, HandsOut}
use Rattle.order.specs.Order.{Gives, InOrder, FifoInOrder, log_front, LogInOrder, FifoLogInOrder}
use Rattle.theorems.proofs.Events.{Event, quiet, line_1, finished_put, handed_out, failed_compare, found_empty, began_put, found_full, waiting_put, drained, History, Premise, PremiseAt, GoodHistory}
use Rattle.theorems.proofs.Window.{View}
use Rattle.theorems.proofs.Order.{Given, InTurn, Rises, Order}
use Rattle.theorems.proofs.Places.{EventAt, rev, said_rev, mem_rev, at_mem}
use Rattle.theorems.proofs.SoundRun.{event_at, events, InvOf, Runs, run_kept, call_like}
use Rattle.theorems.proofs.Company.{Turn, others, own, played_in, after_in, InCompany}
use Rattle.theorems.proofs.WholeRun.{storing}
use Rattle.theorems.proofs.Fresh.{Started, fresh_runs, fresh_started, fresh_is, from_company}
use Rattle.order.proofs.LogFront.{log_in}
use Rattle.order.proofs.CutAnswers.{run_cut}
use Rattle.order.proofs.LogOrder.{log_in_order}
use Rattle.theorems.proofs.Translate.{at_map, at_true, True, from_ev, out_ev, ev_out}

-- FIFO has no premise
no_premise_at : (w : ℕ) (h : History) (e : Event) → PremiseAt Fifo w e h
no_premise_at w h quiet = tt
no_premise_at w h (line_1 j) = tt
no_premise_at w h (finished_put t) = tt
no_premise_at w h (handed_out zero t) = tt
no_premise_at w h (handed_out (suc k) t) = λ m. tt
no_premise_at w h (failed_compare j) = λ m. tt
no_premise_at w h (found_empty j) = tt
no_premise_at w h (began_put t) = tt
no_premise_at w h (found_full t) = tt
no_premise_at w h (waiting_put t y) = tt
no_premise_at w h drained = tt

no_premise : (w : ℕ) (h : History) → Premise Fifo w h
no_premise w [] = tt
no_premise w (e ∷ h) = (no_premise_at w h e, no_premise w h)

-- the call at a place, and its event
at_the : (T : List Played) (j : ℕ) (P : Played → Type 0) → At T j P → (s : Played) × P s × At T j (λ x. x ≡ s)
at_the [] j P a = absurd a
at_the (s ∷ T) zero P a = (s, a, refl)
at_the (s ∷ T) (suc j) P a = at_the T j P a

event_the : (T : List Played) (j : ℕ) (s : Played) → At T j (λ x. x ≡ s) → EventAt (events T) j (event_at s)
event_the [] j s a = absurd a
event_the (x ∷ T) zero s a = ap event_at a
event_the (x ∷ T) (suc j) s a = event_the T j s a

gives_event : (ts : List Turn) (W : World) (j n : ℕ) → At (played_in W ts) j (Gives n) → (i : ℕ) × (t : Task) × EventAt (events (played_in W ts)) j (handed_out i t) × (t.number ≡ n)
gives_event ts W j n a =
    let T = played_in W ts in
    let (s, (r, (i, t, q, e)), x) = at_the T j (λ s. True s × Gives n s) (at_true ts W j (Gives n) (λ s. True s × Gives n s) (λ s r g. (r, g)) a) in
    let (k, p) = out_ev t s r (i, q) in
    (k, t, subst (EventAt (events T) j) p (event_the T j s x), e)

event_gives : (T : List Played) (j n i : ℕ) (t : Task) → t.number ≡ n → EventAt (events T) j (handed_out i t) → At T j (Gives n)
event_gives T j n i t e a =
    at_map T j (HandsOut t) (Gives n) (λ s (k, q). (k, t, q, e))
    (at_map T j (λ s. event_at s ≡ handed_out i t) (HandsOut t) (ev_out i t) (from_ev T j (handed_out i t) a))

-- a list whose history rises is in order
in_order : (ts : List Turn) (W : World) → Rises (rev (events (played_in W ts)) []) → InOrder (played_in W ts)
in_order ts W R j k m n F G l = go (said_rev InTurn Rises (λ e h G. G) (events (played_in W ts)) [] k (handed_out b.0 b.1) b.2 R)
  where
    T : List Played
    T = played_in W ts

    a : (i : ℕ) × (t : Task) × EventAt (events T) j (handed_out i t) × (t.number ≡ m)
    a = gives_event ts W j m F.here

    b : (i : ℕ) × (t : Task) × EventAt (events T) k (handed_out i t) × (t.number ≡ n)
    b = gives_event ts W k n G.here

    again : Given b.1.number (rev (take k (events T)) []) → ⊥
    again (i, t, d, q) = place (mem_rev (events T) [] k (handed_out i t) d)
      where
        place : ((p : ℕ) × (p < k) × EventAt (events T) p (handed_out i t)) ⊎ Memᴰ (handed_out i t) [] → ⊥
        place (inl (p, x, y)) = G.none_before p x (event_gives T p n i t (q ∙ b.3) y)
        place (inr x) = Memᴰ.not-nil x

    go : InTurn (handed_out b.0 b.1) (rev (take k (events T)) []) → m < n
    go (inl g) = absurd (again g)
    go (inr f) = omega (arith, b.3, f m (a.0, a.1, at_mem (events T) [] k j (handed_out a.0 a.1) a.2 l, a.3))

-- a run keeps its kind
kind_kept : (ts : List Turn) (W : World) → (after_in W ts).bench.kind ≡ W.bench.kind
unfolding after_in
kind_kept [] W = refl
kind_kept (others m ∷ ts) W = kind_kept ts (storing W m)
kind_kept (own ρ c ∷ ts) W = kind_kept ts (call_in ρ W c).world ∙ (call_like ρ W c).kind

rises_of : (κ : Kind) (v : View) (a : ℕ) (ss : List Store) (h : History) → κ ≡ Fifo → Order κ v a ss h → Rises h
rises_of κ v a ss h e O = (subst (λ (x : Kind). Order x v a ss h) e O).climb.rises

-- of a queue in company
pub fifo_in : (ts : List Turn) (U : World) → Started U → U.bench.kind ≡ Fifo → InCompany U ts → InOrder (played_in U ts)
fifo_in ts U F fifo C = in_order ts U (rises_of _ _ _ _ _ (kind_kept ts U ∙ fifo) R.0.order)
  where
    R : InvOf (after_in U ts) (rev (events (played_in U ts)) []) × GoodHistory U.bench.delayed (rev (events (played_in U ts)) [])
    R =
        run_kept Fifo (tag_bits U.bench) U.bench.delayed ts U [] C (subst (λ (κ : Kind). Runs κ (tag_bits U.bench) U.bench.delayed U []) fifo (fresh_runs U F))
        (no_premise (tag_bits U.bench) (rev (events (played_in U ts)) []))

pub fifo_log_in : (ts : List Turn) (U : World) → Started U → U.bench.kind ≡ Fifo → InCompany U ts → LogInOrder U.bench.words (log_front (after_in U ts))
fifo_log_in ts U F fifo C =
    subst (LogInOrder _) (sym (log_in ts U F)) (log_in_order _ _ F.whole.words.1 (run_cut _ ts U refl F.whole C) (fifo_in ts U F fifo C))

-- and alone
fresh_fifo : (s : Setup) (m l : List ℕ) → s.kind ≡ 2 → (fresh_of s m l).answer ≡ Accepted → (fresh_of s m l).world.bench.kind ≡ Fifo
unfolding when◌then◌else◌ ◌or◌
fresh_fifo s m l is e = ap (λ (W : World). W.bench.kind) (fresh_is s m l e).0 ∙ ap kind_of is

pub fifo_in_order : FifoInOrder
fifo_in_order s m l is e = from_company (λ (T : List Played) (X : World). InOrder T) s m l e (λ ts C. fifo_in ts _ (fresh_started s m l e) (fresh_fifo s m l is e) C)

pub fifo_log_in_order : FifoLogInOrder
fifo_log_in_order s m l is e =
    from_company (λ (T : List Played) (X : World). LogInOrder (fresh_of s m l).world.bench.words (log_front X)) s m l e
    (λ ts C. fifo_log_in ts _ (fresh_started s m l e) (fresh_fifo s m l is e) C)
