-- Where the window's tasks lie.
use mathlib.Core.Path.{◌≡◌, sym, ap, ◌∙◌}
use mathlib.Core.List.{List, []}
use Prim.Native.Nat.{ℕ, ◌+◌, ◌-◌, ◌*◌, ◌/◌, ◌≤◌}
use native.Mathlib.Omega.{arith}
use lib.ListN.{length, get_or}
use Rattle.model.specs.declared.Kind.{Kind}
use Rattle.model.specs.declared.Anchor.{Anchor}
use Rattle.model.specs.declared.Region.{Region}
use Rattle.model.specs.declared.Bench.{Bench}
use Rattle.model.specs.declared.Task.{Task}
use Rattle.model.specs.Tasks.{gathered}
use Rattle.model.specs.Memory.{word_at, offset_at, length_at, size_at, nowhere}
use Rattle.model.specs.Figures.{slot}
use Rattle.model.specs.Stores.{Shared}
use Rattle.model.specs.Window.{tasks, window_index, window_size}
use Rattle.model.specs.Calls.{lent}
use Rattle.model.specs.Counts.{some_below, stands_at}
use Rattle.model.proofs.Landing.{reads_memory}
use Rattle.model.proofs.Tasks.{same_words}
use Rattle.handouts.specs.Starts.{Starts}
use Rattle.handouts.proofs.Starts.{from_start}
use Rattle.counts.specs.Places.{window_task, stands}

-- a task's words, read from the start of the slot that was worked out
pub task_is : (κ : Kind) (v : ℕ) (a : Anchor) (g : Region) (m : List ℕ) (i x s r : ℕ) → x ≡ window_index κ a i → s ≡ slot κ (g.length / (v + 1)) x
    → length m ≤ 2305843009213693952 → Starts (v + 1) s r → gathered (v + 1) (λ k. get_or m (g.offset + r + k) 0) ≡ window_task κ v a g m i
unfolding word_at
task_is κ v a g m i x s r e f h S =
    let q : s ≡ slot κ (g.length / (v + 1)) (window_index κ a i) = f ∙ ap (slot κ (g.length / (v + 1))) e in
    same_words (v + 1) _ _ (λ k _.
    ap (λ (n : ℕ). get_or m n 0) (let z : g.offset + r + k ≡ r + (g.offset + k) = omega arith in z)
    ∙ from_start m (v + 1) s r (g.offset + k) h S
    ∙ ap (λ (n : ℕ). get_or m n 0) (let z : (v + 1) * s + (g.offset + k) ≡ g.offset + (v + 1) * s + k = omega arith in z)
    ∙ ap (λ (n : ℕ). get_or m (g.offset + (v + 1) * n + k) 0) q)

-- the current array's pair is all that the window asks of the directory
pub stands_is : (b : Bench) (m : List ℕ) (t : Task) (g : Region) (n : ℕ) → b.waiting.count ≡ 0 → g ≡ get_or b.queue.arrays (b.queue.published - 1) nowhere → n ≡ tasks b.kind b.queue.anchor →
    some_below (stands b.kind b.words b.queue.anchor g m t) n ≡ some_below (stands_at (lent b m []) t) (window_size (lent b m []))
unfolding offset_at length_at size_at
stands_is b m t g n none e f =
    ap (some_below (stands b.kind b.words b.queue.anchor g m t)) f
    ∙ ap (λ (h : Region). some_below (stands b.kind b.words b.queue.anchor h m t) (tasks b.kind b.queue.anchor)) e
    ∙ ap (λ (S : Shared). some_below (stands b.kind b.words S.queue.anchor (get_or S.queue.arrays (S.queue.published - 1) nowhere) S.store t) (tasks b.kind S.queue.anchor))
    (sym (reads_memory (lent b m []) none))
