-- From the words to the bytes: the lengths are such as the judge takes, and the entries of the front are the log's.
use mathlib.Core.Path.{◌≡◌, sym, ◌∙◌, ap}
use mathlib.Core.Bool.{true}
use mathlib.Core.List.{List}
use Prim.Native.Nat.{ℕ, ◌-◌, ◌*◌, ◌/◌, ◌%◌, ◌≤◌, ◌<◌}
use native.Mathlib.Nat.{mul-mod_right, mul-div_cancel_left}
use native.Mathlib.Omega.{arith}
use lib.ListN.{length}
use borrow.Author.Tests.{eq-eqb, le-leb, lt-ltb}
use Rattle.model.specs.declared.Kind.{Kind}
use Rattle.model.specs.declared.Kind.TheVariants.{Lifo, Fifo, Deque}
use Rattle.model.specs.declared.Anchor.{Anchor}
use Rattle.model.specs.Stores.{Shared, in_line}
use Rattle.model.specs.World.{World, tag_bits}
use Rattle.model.specs.Calls.{fresh_of}
use Rattle.model.specs.Answers.{entry_length}
use Rattle.model.specs.Limits.{words_ok}
use Rattle.model.specs.Run.{Played}
use Rattle.model.specs.Window.{tasks, window_size}
use Rattle.model.specs.Counts.{count_below, out_first, entries_in, counts_of}
use Rattle.model.proofs.Directory.{size_le}
use Rattle.model.proofs.Tests.{if_true, and_both}
use Rattle.theorems.proofs.Shape.{Bounded}
use Rattle.theorems.proofs.Folds.{landed_is}
use Rattle.theorems.proofs.ShapeLay.{shape_settle}
use Rattle.theorems.proofs.Directory.{now}
use Rattle.theorems.proofs.Valid.{Whole}
use Rattle.theorems.proofs.Company.{Turn, played_in, after_in, InCompany, whole_run}
use Rattle.theorems.proofs.Fresh.{Started, fresh_started, from_company}
use Rattle.theorems.specs.Demand3.{FewPutsIn}
use Rattle.order.specs.Order.{log_front}
use Rattle.order.proofs.Entries.{entries_long}
use Rattle.order.proofs.LogFront.{log_in}
use Rattle.order.proofs.FrontEntries.{words_kept, handouts_same, different_same, many_in}
use Rattle.judgement.specs.declared.Verdict.TheVariants.{Accepted}
use Rattle.judgement.specs.Judgement.{words_of, entry_bytes, handouts, repeats, judged_words, judged}
use Rattle.accepted.specs.Bytes.{JudgedAs, RunsJudged}
use Rattle.accepted.proofs.RunsAccepted.{window_long, accepted_in}

-- a window has at most 1,024 tasks
tasks_le : (κ : Kind) (w z low : ℕ) (a : Anchor) → Bounded κ w z low a → tasks κ a ≤ z
tasks_le Lifo w z low a (h, c, t) = c
tasks_le Fifo w z low a (h, i, c, t) = omega (arith, h, i, c)
tasks_le Deque w z low a (h, c, t) = c

window_small : (W : World) → Whole W → window_size W ≤ 1024
window_small W H =
    let ss = in_line W.bench.waiting in
    let S = shape_settle W.bench.kind ss H.shape in
    let t = tasks_le W.bench.kind (tag_bits W.bench) _ _ _ S.anchor in
    let e = ap (λ (U : Shared). tasks W.bench.kind U.queue.anchor) (landed_is W.bench.words W.bench.queue W.store ss) in
    let z = size_le (now S.arrays) in omega (arith, t, e, z)

-- what is judged where the lengths are right
judged_words_lem : (v : ℕ) (log list : List ℕ) (n m : ℕ) → words_ok v ≡ true → length log ≡ entry_bytes v * n → length list ≡ 4 * m → length log ≤ 65536 → length list ≤ 65536
    → judged v log list ≡ judged_words v (words_of log) n (words_of list) m
unfolding judged
judged_words_lem v log list n m o e f g h =
    if_true _ o ∙ if_true _ (and_both _ _ (le-leb _ _ g) (le-leb _ _ h))
    ∙ if_true _ (and_both _ _ (eq-eqb (length log % entry_bytes v) 0 (ap (λ (x : ℕ). x % entry_bytes v) e ∙ mul-mod_right (entry_bytes v) n)) (eq-eqb (length list % 4) 0 (omega (arith, f))))
    ∙ ap (λ (k : ℕ). judged_words v (words_of log) k (words_of list) (length list / 4)) (ap (λ (x : ℕ). x / entry_bytes v) e ∙ mul-div_cancel_left n (let z : 0 < entry_bytes v = omega arith in z))
    ∙ ap (λ (k : ℕ). judged_words v (words_of log) n (words_of list) k) (let z : length list / 4 ≡ m = omega (arith, f) in z)

-- in company, and alone
pub judged_in : (ts : List Turn) (W : World) → Started W → InCompany W ts → FewPutsIn W.bench.kind (tag_bits W.bench) (played_in W ts) → JudgedAs W.bench.words (after_in W ts)
unfolding counts_of
judged_in ts W F C f log list (a, b) (x, y) short =
    judged_words_lem v log list N size fine whole stored short (omega (arith, stored, window_small U (whole_run ts W F.whole C)))
    ∙ ap (λ (z : List ℕ). judged_words v z N (words_of list) size) b
    ∙ ap (λ (z : List ℕ). judged_words v (log_front U) N z size) y
    ∙ if_true _ (accepted_in ts W F C f)
    ∙ ap (λ (u : ℕ). Accepted (handouts u (log_front U) N) (repeats u (log_front U) N)) (sym (words_kept ts W))
    ∙ ap (λ (h : ℕ). Accepted h (repeats U.bench.words (log_front U) N)) (handouts_same U)
    ∙ ap (λ (r : ℕ). Accepted (counts_of U).handouts r) same
  where
    v : ℕ
    v = W.bench.words

    fine : words_ok v ≡ true
    fine = and_both _ _ (lt-ltb _ _ F.whole.words.0) (le-leb _ _ F.whole.words.1)

    U : World
    U = after_in W ts

    N : ℕ
    N = entries_in U

    size : ℕ
    size = window_size U

    whole : length log ≡ entry_bytes v * N
    whole =
        a
        ∙ ap (λ (x : ℕ). 4 * x) (ap length (log_in ts W F) ∙ entries_long v (played_in W ts) F.whole.words.1 ∙ ap (λ (x : ℕ). entry_length v * x) (many_in ts W F C))
        ∙ omega arith

    stored : length list ≡ 4 * size
    stored = omega (arith, x, window_long U size)

    same : repeats U.bench.words (log_front U) N ≡ (counts_of U).handouts - (counts_of U).different
    same = ap (λ (h : ℕ). h - count_below (out_first U.bench.words (log_front U)) N) (handouts_same U) ∙ ap (λ (d : ℕ). (counts_of U).handouts - d) (different_same U)

pub runs_judged : RunsJudged
runs_judged s m l e =
    let U = (fresh_of s m l).world in
    from_company (λ (T : List Played) (X : World). FewPutsIn U.bench.kind (tag_bits U.bench) T → JudgedAs U.bench.words X) s m l e (λ ts C. judged_in ts U (fresh_started s m l e) C)
