-- What the entries of a list's log say of its calls: which finished a put, which handed out; and by demand 3, that a finished put's
-- task is among the hand-outs or stands in the window.
use mathlib.Core.Path.{◌≡◌, refl, sym, ◌∙◌, ap}
use mathlib.Core.Bool.{true}
use mathlib.Core.Logic.{◌⊎◌, inl, inr}
use mathlib.Core.List.{List}
use Prim.Native.Nat.{ℕ, ◌≤◌, ◌<◌}
use native.Mathlib.Omega.{arith}
use borrow.Author.Tests.{eqb-true, eq-eqb}
use Rattle.model.specs.declared.Task.{Task}
use Rattle.model.specs.declared.Answer.TheVariants.{Finished, HandedOut}
use Rattle.model.specs.Tests.{◌and◌}
use Rattle.model.specs.Tasks.{same_task}
use Rattle.model.proofs.Tasks.{task_same}
use Rattle.model.specs.Answers.{Entry, entry, entry_of, ends}
use Rattle.model.specs.World.{World}
use Rattle.model.specs.Run.{Played}
use Rattle.model.specs.Counts.{entry_at, is_kind, some_below, out_whole}
use Rattle.model.proofs.Tests.{and_both}
use Rattle.model.proofs.Below.{some_at}
use Rattle.theorems.specs.Demand3.{Sound, At, Finishes, HandsOut, Out, Stands}
use Rattle.theorems.proofs.Translate.{at_map}
use Rattle.order.specs.Order.{entries}
use Rattle.order.proofs.Entries.{AllCut, kind_1, kind_2, place, placed, entered, count, entries_inside}

-- the words of equal entries
pub kind_of_lem : {e f : Entry} → e ≡ f → e.kind ≡ f.kind
kind_of_lem q = ap (λ (x : Entry). x.kind) q

pub task_of_lem : {e f : Entry} → e ≡ f → e.task ≡ f.task
task_of_lem q = ap (λ (x : Entry). x.task) q

-- entry i of a log has kind k and the task t
pub is_entry : (ω : ℕ) (l : List ℕ) (i k w : ℕ) (t : Task) → entry_at ω l i ≡ entry k w t → (is_kind ω l k i and same_task (entry_at ω l i).task t) ≡ true
is_entry ω l i k w t q = and_both _ _ (eq-eqb _ _ (kind_of_lem q)) (task_same _ t (task_of_lem q))

module _ (ω : ℕ) (T : List Played) (g : ω ≤ 4) (c : AllCut ω T) where
  abbrev l : List ℕ
  l = entries ω T

  -- the call that wrote an entry of kind k
  pub wrote : (k j : ℕ) → 0 < k → is_kind ω l k j ≡ true
      → At T (place T j) (λ s. (entry_of s.answer ≡ entry_at ω l j) × ((entry_of s.answer).kind ≡ k))
  wrote k j h e =
      let q : (entry_at ω l j).kind ≡ k = eqb-true (entry_at ω l j).kind k e in
      at_map T (place T j) _ _ (λ s a. (a, kind_of_lem a ∙ q)) (placed ω T g c j (omega (arith, q)))

  pub hands_out : (j : ℕ) → is_kind ω l 2 j ≡ true → Out T (place T j) (entry_at ω l j).task
  hands_out j e =
      at_map T (place T j) _ _
      (λ s (a, k). let (i, t, q) = kind_2 s.answer k in (i, q ∙ ap (HandedOut i) (task_of_lem (sym (ap entry_of q) ∙ a))))
      (wrote 2 j (omega arith) e)

  finished : (j : ℕ) → is_kind ω l 1 j ≡ true → At T (place T j) (Finishes (entry_at ω l j).task)
  finished j e =
      at_map T (place T j) _ _
      (λ s (a, k). let (i, t, q) = kind_1 s.answer k in (i, q ∙ ap (Finished i) (task_of_lem (sym (ap entry_of q) ∙ a))))
      (wrote 1 j (omega arith) e)

pub kept_of : (ω : ℕ) (T : List Played) (X : World) → ω ≤ 4 → AllCut ω T → Sound T X → (j : ℕ) → is_kind ω (entries ω T) 1 j ≡ true
    → (some_below (out_whole ω (entries ω T) (entry_at ω (entries ω T) j).task) (count T) ≡ true)
    ⊎ Stands X (entry_at ω (entries ω T) j).task
kept_of ω T X g c D j e = go (D.kept _ (place T j) t (D.ended (place T j) t (finished ω T g c j e)).1)
  where
    t : Task
    t = (entry_at ω (entries ω T) j).task

    go : ((k : ℕ) × Out T k t) ⊎ Stands X t → (some_below (out_whole ω (entries ω T) t) (count T) ≡ true) ⊎ Stands X t
    go (inl (k, a)) =
        let (i, _, (s, (w, q), x)) = entered ω T g c k (HandsOut t) (λ s (w, q). ap ends q) a in
        let y = x ∙ ap entry_of q in
        inl (sym (some_at (out_whole ω (entries ω T) t) (count T) i (entries_inside ω T g i (omega (arith, kind_of_lem y))) refl (is_entry ω (entries ω T) i 2 w t y)))
    go (inr s) = inr s
