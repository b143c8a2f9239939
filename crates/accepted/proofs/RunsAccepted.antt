-- The judge accepts what a list of calls wrote. Each entry has the place of its answer (Entries), and of places demand 3 and the
-- rise of the ended puts' numbers say what the judge asks.
use mathlib.Core.Path.{◌≡◌, refl, sym, ◌∙◌, ap, subst₂}
use mathlib.Core.Bool.{Bool, true, false, not}
use mathlib.Core.Logic.{◌⊎◌, inl, inr, ⊎_elim}
use mathlib.Core.List.{List, [], ◌∷◌}
use Prim.Native.Nat.{ℕ, zero, suc, ◌≤◌, ◌<◌}
use native.Mathlib.Omega.{arith}
use native.Mathlib.Nat.{eq-or-lt_of_le}
use lib.ListN.{length, get_or, length-append, get_or-append}
use lib.Seq.{get_or-append_seam}
use borrow.Author.Tests.{eq-eqb, le-leb, lt-ltb}
use Rattle.model.specs.declared.Task.{Task}
use Rattle.model.proofs.Tasks.{number_gathered}
use Rattle.model.specs.Tests.{◌or◌}
use Rattle.model.specs.Answers.{entry_of, ends}
use Rattle.model.specs.World.{World, tag_bits}
use Rattle.model.specs.Calls.{fresh_of}
use Rattle.model.specs.Run.{Played}
use Rattle.model.specs.Window.{window_size, window_word}
use Rattle.model.specs.Counts.{entry_at, is_kind, some_below, out_whole, entries_in}
use Rattle.model.proofs.Tests.{and_both, or_cases, or_either}
use Rattle.model.proofs.Below.{some_at}
use Rattle.theorems.specs.Demand3.{At, Finishes, Stands, FewPutsIn, Sound}
use Rattle.order.specs.Order.{entries, log_front}
use Rattle.theorems.proofs.Translate.{at_map}
use Rattle.order.proofs.Entries.{AllCut, place, place_rises, earlier, count, entries_known}
use Rattle.order.proofs.EndedPuts.{EndsPut, ended_rise, started_open}
use Rattle.order.proofs.FrontEntries.{many_in}
use Rattle.order.proofs.KeptEntries.{task_of_lem, is_entry, wrote, hands_out, kept_of}
use Rattle.theorems.proofs.NothingLost.{sound_in}
use Rattle.theorems.proofs.Company.{Turn, played_in, after_in, InCompany}
use Rattle.theorems.proofs.Fresh.{Started, fresh_started, from_company}
use Rattle.order.proofs.LogFront.{log_in}
use Rattle.order.proofs.CutAnswers.{run_cut}
use Rattle.judgement.specs.Judgement.{all_below, known, numbered, rises, finished_as, justified, listed, kept, accepts}
use Rattle.judgement.proofs.All.{all_true}
use Rattle.accepted.specs.Runs.{window_numbers, stored, RunsAccepted}

-- a test that is asked only where another holds
only_if : (x y : Bool) → (x ≡ true → y ≡ true) → (not x or y) ≡ true
unfolding ◌or◌
only_if true y f = f refl
only_if false y f = refl

-- the i-th of the window's numbers is that of its i-th task
pub window_long : (W : World) (n : ℕ) → length (window_numbers W n) ≡ n
window_long W zero = refl
window_long W (suc n) = omega (arith, length-append (window_numbers W n) (window_word W n 0 ∷ []), window_long W n)

window_number : (W : World) (n i : ℕ) → i < n → get_or (window_numbers W n) i 0 ≡ window_word W i 0
window_number W zero i h = absurd (omega arith)
window_number W (suc n) i h =
    ⊎_elim
    (λ q. ap (λ (k : ℕ). get_or (window_numbers W (suc n)) k 0) (q ∙ sym (window_long W n))
    ∙ get_or-append_seam (window_numbers W n) (window_word W n 0) [] 0 ∙ ap (λ (k : ℕ). window_word W k 0) (sym q))
    (λ q. get_or-append (window_numbers W n) (window_word W n 0 ∷ []) 0 i (omega (arith, q, window_long W n)) ∙ window_number W n i q)
    (eq-or-lt_of_le (let le : i ≤ n = omega arith in le))

-- the calls T of one queue left the world U
module _ (ω : ℕ) (T : List Played) (U : World) (g : ω ≤ 4) (C : AllCut ω T) (D : Sound T U)
    (R : (i j m n : ℕ) → i < j → At T i (EndsPut m) → At T j (EndsPut n) → m < n) where
  abbrev l : List ℕ
  l = entries ω T

  known_all : all_below (known ω l) (count T) ≡ true
  known_all = all_true (known ω l) (count T) (λ j h. let (a, b) = entries_known ω T g j h in and_both _ _ (le-leb 1 _ a) (le-leb _ 5 b))

  -- numbers of ended puts rise
  ends_put : (j : ℕ) → numbered ω l j ≡ true → At T (place T j) (EndsPut (entry_at ω l j).task.number)
  ends_put j e = go (or_cases (is_kind ω l 1 j) (is_kind ω l 4 j) e)
    where
      go : (is_kind ω l 1 j ≡ true) ⊎ (is_kind ω l 4 j ≡ true) → At T (place T j) (EndsPut (entry_at ω l j).task.number)
      go (inl q) = at_map T (place T j) _ _ (λ s (a, k). (inl k, ap (λ (t : Task). t.number) (task_of_lem a))) (wrote ω T g C 1 j (omega arith) q)
      go (inr q) = at_map T (place T j) _ _ (λ s (a, k). (inr k, ap (λ (t : Task). t.number) (task_of_lem a))) (wrote ω T g C 4 j (omega arith) q)

  rises_all : all_below (rises ω l) (count T) ≡ true
  rises_all =
      all_true (rises ω l) (count T)
      (λ j h. only_if (numbered ω l j) _ (λ e. all_true _ j (λ i f. only_if (numbered ω l i) _ (λ d.
      lt-ltb _ _ (R (place T i) (place T j) _ _ (place_rises T i j f) (ends_put i d) (ends_put j e))))))

  -- a hand-out repeats a put finished before it
  justified_all : all_below (justified ω l) (count T) ≡ true
  justified_all = all_true (justified ω l) (count T) (λ j h. only_if (is_kind ω l 2 j) _ (repeats j))
    where
      repeats : (j : ℕ) → is_kind ω l 2 j ≡ true → some_below (finished_as ω l j) j ≡ true
      repeats j e =
          let t = (entry_at ω l j).task in
          let (b, k, h, d) = D.belongs (place T j) t (hands_out ω T g C j e) in
          let (i, f, (s, (w, a), q)) = earlier ω T g C j k (Finishes t) (λ s (w, a). ap ends a) h d.finished in
          sym (some_at (finished_as ω l j) j i f refl (is_entry ω l i 1 w t (q ∙ ap entry_of a)))

  abbrev size : ℕ
  size = window_size U

  -- a finished put is handed out, or stands in the window
  kept_all : all_below (kept ω l (count T) (stored U) size) (count T) ≡ true
  kept_all = all_true (kept ω l (count T) (stored U) size) (count T) (λ j h. only_if (is_kind ω l 1 j) _ (λ e. or_either _ _ (go j (kept_of ω T U g C D j e))))
    where
      go : (j : ℕ) → (some_below (out_whole ω l (entry_at ω l j).task) (count T) ≡ true) ⊎ Stands U (entry_at ω l j).task
          → (some_below (out_whole ω l (entry_at ω l j).task) (count T) ≡ true) ⊎ (some_below (listed (stored U) (entry_at ω l j).task.number) size ≡ true)
      go j (inl x) = inl x
      go j (inr (i, h, x)) =
          inr (sym (some_at (listed (stored U) (entry_at ω l j).task.number) size i h refl
          (eq-eqb _ _ (window_number U size i h ∙ sym (number_gathered U.bench.words (window_word U i)) ∙ ap (λ (t : Task). t.number) x))))

  all_accepted : accepts ω l (count T) (stored U) size ≡ true
  all_accepted = and_both _ _ known_all (and_both _ _ rises_all (and_both _ _ justified_all kept_all))

-- in company, and alone
pub accepted_in : (ts : List Turn) (U : World) → Started U → InCompany U ts → FewPutsIn U.bench.kind (tag_bits U.bench) (played_in U ts)
    → let X = after_in U ts in accepts U.bench.words (log_front X) (entries_in X) (stored X) (window_size X) ≡ true
accepted_in ts U F C f =
    let X = after_in U ts in
    subst₂ (λ (l : List ℕ) (n : ℕ). accepts U.bench.words l n (stored X) (window_size X) ≡ true) (sym (log_in ts U F)) (many_in ts U F C)
    (all_accepted U.bench.words (played_in U ts) X F.whole.words.1 (run_cut _ ts U refl F.whole C) (sound_in ts U F C f) (ended_rise ts U F.whole C (started_open U F)))

pub runs_accepted : RunsAccepted
runs_accepted s m l e =
    let U = (fresh_of s m l).world in
    from_company
    (λ (T : List Played) (X : World). FewPutsIn U.bench.kind (tag_bits U.bench) T → accepts U.bench.words (log_front X) (entries_in X) (stored X) (window_size X) ≡ true)
    s m l e (λ ts C. accepted_in ts U (fresh_started s m l e) C)
