-- The queue's window, in the current array, as the owner reads both: LIFO slots 0 to t-1, FIFO head to tail-1, double-ended s tasks
-- from h.
use Rattle.std.specs.Prelude.{ℕ, ◌+◌, ◌-◌}
use Rattle.model.specs.declared.Kind.{Kind}
use Rattle.model.specs.declared.Kind.TheVariants.{Lifo, Fifo, Deque}
use Rattle.model.specs.declared.Task.{Task}
use Rattle.model.specs.declared.Anchor.{Anchor}
use Rattle.model.specs.Tasks.{gathered}
use Rattle.model.specs.Lines.{word_of}
use Rattle.model.specs.World.{World, owners_view}

-- how many tasks it has, and the index of the i-th
abbrev pub tasks : Kind → Anchor → ℕ
tasks Lifo a = a.count
tasks Fifo a = a.count - a.head
tasks Deque a = a.count

abbrev pub window_index : Kind → Anchor → ℕ → ℕ
window_index Lifo a i = i
window_index Fifo a i = a.head + i
window_index Deque a i = a.head + i

abbrev pub window_size : World → ℕ
window_size W = tasks W.bench.kind (owners_view W).queue.anchor

-- word j of its i-th task; and the task
abbrev pub window_word : World → ℕ → ℕ → ℕ
window_word W i j =
    let S = owners_view W in
    word_of W.bench.kind W.bench.words S.queue S.store (S.queue.published - 1)
    (window_index W.bench.kind S.queue.anchor i) j

abbrev pub window_task : World → ℕ → Task
window_task W i = gathered (W.bench.words + 1) (window_word W i)
