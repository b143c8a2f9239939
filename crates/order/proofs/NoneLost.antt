-- Under demand 3's premise the sixth count of `T` is 0: a finished put's entry is among the hand-outs, or its task in the window.
use mathlib.Core.Path.{◌≡◌, refl, sym, ◌∙◌, ap, subst, subst₂}
use mathlib.Core.Bool.{Bool, true, false, not}
use mathlib.Core.Logic.{◌⊎◌, inl, inr}
use mathlib.Core.List.{List}
use Prim.Native.Nat.{◌≤◌, ℕ, ◌<◌}
use lib.Dec.{eqb}
use Rattle.model.specs.declared.Task.{Task}
use Rattle.model.specs.Tests.{◌and◌}
use Rattle.model.specs.Answers.{Entry}
use Rattle.model.specs.World.{World, tag_bits}
use Rattle.model.specs.Calls.{fresh_of}
use Rattle.model.specs.Run.{Played}
use Rattle.model.specs.Window.{window_size}
use Rattle.model.specs.Counts.{entry_at, is_kind, some_below, out_whole, stands_at, is_lost, entries_in, counts_of}
use Rattle.model.proofs.Tests.{or_either}
use Rattle.model.proofs.Tasks.{task_same}
use Rattle.model.proofs.Below.{some_at, count_zero}
use Rattle.theorems.specs.Demand3.{Stands, Sound, FewPutsIn}
use Rattle.theorems.proofs.NothingLost.{sound_in}
use Rattle.theorems.proofs.Company.{Turn, played_in, after_in, InCompany}
use Rattle.theorems.proofs.Fresh.{Started, fresh_started, from_company}
use Rattle.order.specs.Order.{log_front, entries}
use Rattle.order.specs.Totals.{NoneLost}
use Rattle.order.proofs.LogFront.{log_in}
use Rattle.order.proofs.FrontEntries.{entry_same, out_same, words_kept, many_in}
use Rattle.order.proofs.CutAnswers.{run_cut}
use Rattle.order.proofs.KeptEntries.{kept_of}
use Rattle.order.proofs.Entries.{AllCut, count}

stands_some : (W : World) (t : Task) → Stands W t → some_below (stands_at W t) (window_size W) ≡ true
stands_some W t (i, h, x) = sym (some_at (stands_at W t) (window_size W) i h refl (task_same _ t x))

-- a test of entry j: not a finished put, or one that is found
not_lost : (x y : Bool) → (x ≡ true → y ≡ true) → (x and not y) ≡ false
unfolding ◌and◌
not_lost true y f = rw (f refl)
not_lost false y f = refl

-- of any list of one queue's calls whose log is its answers
pub none_lost_of : (T : List Played) (U : World) → U.bench.words ≤ 4 → AllCut U.bench.words T → Sound T U → log_front U ≡ entries U.bench.words T → count T ≡ entries_in U → (counts_of U).lost ≡ 0
unfolding counts_of
none_lost_of T U g c D log many = count_zero (is_lost U (entries_in U)) (entries_in U) (λ j h. not_lost _ _ (λ q. or_either _ _ (there j h q)))
  where
    v : ℕ
    v = U.bench.words

    kept_at : (j : ℕ) → is_kind v (log_front U) 1 j ≡ true
        → (some_below (out_whole v (log_front U) (entry_at v (log_front U) j).task) (entries_in U) ≡ true) ⊎ Stands U (entry_at v (log_front U) j).task
    kept_at =
        subst₂
        (λ (l : List ℕ) (n : ℕ). (j : ℕ) → is_kind v l 1 j ≡ true → (some_below (out_whole v l (entry_at v l j).task) n ≡ true) ⊎ Stands U (entry_at v l j).task)
        (sym log) many (kept_of v T U g c D)

    there : (j : ℕ) → j < entries_in U → is_kind v U.log 1 j ≡ true
        → (some_below (out_whole v U.log (entry_at v U.log j).task) (entries_in U) ≡ true) ⊎ (some_below (stands_at U (entry_at v U.log j).task) (window_size U) ≡ true)
    there j h q =
        go
        (subst (λ (t : Task). (some_below (out_whole v (log_front U) t) (entries_in U) ≡ true) ⊎ Stands U t) (ap (λ (x : Entry). x.task) (entry_same U j h))
        (kept_at j (ap (λ (x : Entry). eqb x.kind 1) (entry_same U j h) ∙ q)))
      where
        go : (some_below (out_whole v (log_front U) (entry_at v U.log j).task) (entries_in U) ≡ true) ⊎ Stands U (entry_at v U.log j).task
            → (some_below (out_whole v U.log (entry_at v U.log j).task) (entries_in U) ≡ true) ⊎ (some_below (stands_at U (entry_at v U.log j).task) (window_size U) ≡ true)
        go (inl x) = inl (sym (out_same U (entry_at v U.log j).task) ∙ x)
        go (inr x) = inr (stands_some U _ x)

-- in company, and alone
pub none_lost_in : (ts : List Turn) (U : World) → Started U → InCompany U ts → FewPutsIn U.bench.kind (tag_bits U.bench) (played_in U ts) → (counts_of (after_in U ts)).lost ≡ 0
none_lost_in ts U F C f =
    let is = words_kept ts U in
    let T = played_in U ts in
    none_lost_of T (after_in U ts) (subst (λ (v : ℕ). v ≤ 4) (sym is) F.whole.words.1) (subst (λ (v : ℕ). AllCut v T) (sym is) (run_cut _ ts U refl F.whole C)) (sound_in ts U F C f)
    (log_in ts U F ∙ ap (λ (v : ℕ). entries v T) (sym is)) (many_in ts U F C)

pub none_lost : NoneLost
none_lost s m l e =
    let U = (fresh_of s m l).world in
    from_company (λ (T : List Played) (X : World). FewPutsIn U.bench.kind (tag_bits U.bench) T → (counts_of X).lost ≡ 0) s m l e (λ ts C. none_lost_in ts U (fresh_started s m l e) C)
