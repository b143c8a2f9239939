-- From the order of the answers to the order of the entries: where the answers' first hand-outs rise, those of their entries do.
use mathlib.Core.Path.{◌≡◌, refl, sym, ◌∙◌, ap}
use mathlib.Core.Bool.{true, true≢false}
use mathlib.Core.List.{List}
use Prim.Native.Nat.{ℕ, ◌≤◌, ◌<◌}
use native.Mathlib.Omega.{arith}
use borrow.Author.Tests.{not-true, eqb-true, eq-eqb}
use Rattle.model.specs.declared.Answer.{Answer}
use Rattle.model.specs.Answers.{Entry, entry_of, ends}
use Rattle.model.specs.Run.{Played}
use Rattle.model.specs.Counts.{entry_at, out_as, out_first, some_below}
use Rattle.model.proofs.Tests.{and_left, and_right, and_both}
use Rattle.model.proofs.Below.{some_at}
use Rattle.theorems.specs.Demand3.{At}
use Rattle.order.specs.Order.{Gives, First, InOrder, entries, LogInOrder}
use Rattle.theorems.proofs.Translate.{at_map}
use Rattle.order.proofs.Entries.{AllCut, kind_2, place, place_rises, placed, earlier}

-- the first entry of a put number has the place of its first hand-out
first : (ω : ℕ) (T : List Played) → ω ≤ 4 → AllCut ω T → (j : ℕ) → out_first ω (entries ω T) j ≡ true → First T (place T j) (entry_at ω (entries ω T) j).task.number
first ω T g c j e = record { here = at_map T (place T j) _ (Gives n) gives (placed ω T g c j (omega (arith, kind))); none_before = none }
  where
    l : List ℕ
    l = entries ω T

    n : ℕ
    n = (entry_at ω l j).task.number

    kind : (entry_at ω l j).kind ≡ 2
    kind = eqb-true _ _ (and_left _ _ e)

    gives : (s : Played) → entry_of s.answer ≡ entry_at ω l j → Gives n s
    gives s q =
        let (i, t, a) = kind_2 s.answer (ap (λ (x : Entry). x.kind) q ∙ kind) in
        (i, t, a, ap (λ (x : Answer). (entry_of x).task.number) (sym a) ∙ ap (λ (x : Entry). x.task.number) q)

    none : (p : ℕ) → p < place T j → At T p (Gives n) → ⊥
    none p h a =
        let (i, f, (s, (w, t, b, m), q)) = earlier ω T g c j p (Gives n) (λ s (w, t, b, m). ap ends b) h a in
        let x = q ∙ ap entry_of b in
        let out : out_as ω l n i ≡ true = and_both _ _ (eq-eqb _ _ (ap (λ (x : Entry). x.kind) x)) (eq-eqb _ _ (ap (λ (x : Entry). x.task.number) x ∙ m)) in
        true≢false (some_at (out_as ω l n) j i f refl out ∙ not-true (some_below (out_as ω l n) j) (and_right _ _ e))

pub log_in_order : (ω : ℕ) (T : List Played) → ω ≤ 4 → AllCut ω T → InOrder T → LogInOrder ω (entries ω T)
log_in_order ω T g c I j k h a b =
    I (place T j) (place T k) (entry_at ω (entries ω T) j).task.number (entry_at ω (entries ω T) k).task.number (first ω T g c j a) (first ω T g c k b) (place_rises T j k h)
