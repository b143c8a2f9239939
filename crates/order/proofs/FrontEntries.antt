-- The entries of the log's written front: they are the log's own, and as many as the list's answers wrote.
use mathlib.Core.Path.{◌≡◌, refl, sym, ap, ◌∙◌}
use mathlib.Core.Bool.{Bool, not}
use mathlib.Core.List.{List, [], ◌∷◌}
use Prim.Native.Nat.{ℕ, suc, ◌+◌, ◌*◌, ◌/◌, ◌≤◌, ◌<◌}
use native.Mathlib.Nat.{le_trans, mul-le-mul_left, mul-div-le, mul-div_cancel_left}
use native.Mathlib.Omega.{arith}
use lib.Dec.{eqb}
use lib.ListN.{get_or, take}
use lib.Seq.{get_or-take}
use Rattle.model.specs.declared.Task.{Task}
use Rattle.model.specs.Tests.{◌and◌}
use Rattle.model.specs.Tasks.{same_task}
use Rattle.model.proofs.Tasks.{same_words}
use Rattle.model.specs.Answers.{Entry, entry_length}
use Rattle.model.specs.World.{World}
use Rattle.model.specs.Calls.{call_in, front_of}
use Rattle.model.specs.Counts.{entry_at, is_kind, some_below, count_below, out_as, out_whole, out_first, entries_in}
use Rattle.model.proofs.Below.{some_same, count_same}
use Rattle.order.specs.Order.{log_front}
use Rattle.order.proofs.Entries.{count, entries_long}
use Rattle.order.proofs.LogFront.{written_in}
use Rattle.theorems.proofs.WholeRun.{storing}
use Rattle.theorems.proofs.Company.{Turn, others, own, played_in, after_in, InCompany}
use Rattle.theorems.proofs.SoundRun.{call_like}
use Rattle.theorems.proofs.Fresh.{Started}

entry_front : (ω w : ℕ) (l : List ℕ) (j : ℕ) → entry_length ω * suc j ≤ w → entry_at ω (take w l) j ≡ entry_at ω l j
entry_front ω w l j h =
    rw (
      get_or-take w l (entry_length ω * j) 0 (omega (arith, h)),
      get_or-take w l (entry_length ω * j + 1) 0 (omega (arith, h)),
      same_words (ω + 1) (λ k. get_or (take w l) (entry_length ω * j + 2 + k) 0) (λ k. get_or l (entry_length ω * j + 2 + k) 0)
          (λ k g. get_or-take w l (entry_length ω * j + 2 + k) 0 (omega (arith, g, h))),
    )

module _ (W : World) where
  abbrev v : ℕ
  v = W.bench.words

  pub entry_same : (j : ℕ) → j < entries_in W → entry_at v (log_front W) j ≡ entry_at v W.log j
  unfolding front_of
  entry_same j h =
      entry_front v W.bench.written W.log j
      (le_trans (mul-le-mul_left (entry_length v) (let u : suc j ≤ entries_in W = h in u)) (mul-div-le W.bench.written (entry_length v)))

  kind_same : (k j : ℕ) → j < entries_in W → is_kind v (log_front W) k j ≡ is_kind v W.log k j
  kind_same k j h = ap (λ (e : Entry). eqb e.kind k) (entry_same j h)

  pub handouts_same : count_below (is_kind v (log_front W) 2) (entries_in W) ≡ count_below (is_kind v W.log 2) (entries_in W)
  handouts_same = count_same _ _ (entries_in W) (kind_same 2)

  as_same : (x j : ℕ) → j < entries_in W → out_as v (log_front W) x j ≡ out_as v W.log x j
  as_same x j h = ap (λ (e : Entry). eqb e.kind 2 and eqb e.task.number x) (entry_same j h)

  first_same : (j : ℕ) → j < entries_in W → out_first v (log_front W) j ≡ out_first v W.log j
  first_same j h =
      ap (λ (e : Entry). eqb e.kind 2 and not (some_below (out_as v (log_front W) e.task.number) j)) (entry_same j h)
      ∙ ap (λ (x : Bool). is_kind v W.log 2 j and not x) (some_same _ _ j (λ i g. as_same (entry_at v W.log j).task.number i (omega (arith, g, h))))

  pub different_same : count_below (out_first v (log_front W)) (entries_in W) ≡ count_below (out_first v W.log) (entries_in W)
  different_same = count_same _ _ (entries_in W) first_same

  pub out_same : (t : Task) → some_below (out_whole v (log_front W) t) (entries_in W) ≡ some_below (out_whole v W.log t) (entries_in W)
  out_same t = some_same _ _ (entries_in W) (λ j h. ap (λ (e : Entry). eqb e.kind 2 and same_task e.task t) (entry_same j h))

pub words_kept : (ts : List Turn) (W : World) → (after_in W ts).bench.words ≡ W.bench.words
unfolding after_in
words_kept [] W = refl
words_kept (others m ∷ ts) W = words_kept ts (storing W m)
words_kept (own ρ c ∷ ts) W = words_kept ts (call_in ρ W c).world ∙ (call_like ρ W c).words

pub many_in : (ts : List Turn) (U : World) → Started U → InCompany U ts → count (played_in U ts) ≡ entries_in (after_in U ts)
many_in ts U F C =
    sym
    (ap (λ (x : ℕ). x / entry_length (after_in U ts).bench.words) (written_in ts U F C ∙ entries_long U.bench.words (played_in U ts) F.whole.words.1)
    ∙ ap (λ (v : ℕ). entry_length U.bench.words * count (played_in U ts) / entry_length v) (words_kept ts U)
    ∙ mul-div_cancel_left (count (played_in U ts)) (let z : 0 < entry_length U.bench.words = omega arith in z))
