-- The six counts of `T`, from the log, the store and the state. With v payload words an entry has 3+v words: entry j has those
-- from (3+v)j on.
use Rattle.std.specs.Prelude.{Bool, false, not, List, ℕ, zero, suc, ◌+◌, ◌*◌, ◌/◌, eqb, get_or}
use Rattle.model.specs.declared.Task.{Task}
use Rattle.model.specs.declared.Counts.{Counts}
use Rattle.model.specs.Tests.{when◌then◌else◌, ◌and◌, ◌or◌}
use Rattle.model.specs.Tasks.{same_task, gathered}
use Rattle.model.specs.Answers.{Entry, entry_length}
use Rattle.model.specs.World.{World}
use Rattle.model.specs.Calls.{restarts_of}
use Rattle.model.specs.Window.{window_size, window_task}

abbrev pub entry_at : ℕ → List ℕ → ℕ → Entry
entry_at v l j =
    record {
      kind = get_or l (entry_length v * j) 0;
      worker = get_or l (entry_length v * j + 1) 0;
      task = gathered (v + 1) (λ k. get_or l (entry_length v * j + 2 + k) 0);
    }

-- entry j has kind k
abbrev pub is_kind : ℕ → List ℕ → ℕ → ℕ → Bool
is_kind v l k j = eqb (entry_at v l j).kind k

-- one of 0 to n-1 passes the test; how many do
unfoldable pub some_below : (ℕ → Bool) → ℕ → Bool
some_below p zero = false
some_below p (suc j) = p j or some_below p j

unfoldable pub count_below : (ℕ → Bool) → ℕ → ℕ
count_below p zero = 0
count_below p (suc j) = when p j then count_below p j + 1 else count_below p j

-- f 0 to f (n-1) added up
unfoldable pub sum_below : (ℕ → ℕ) → ℕ → ℕ
sum_below f zero = 0
sum_below f (suc j) = sum_below f j + f j

-- entry j hands out put number x; hands out the task, all words of it
abbrev pub out_as : ℕ → List ℕ → ℕ → ℕ → Bool
out_as v l x j = is_kind v l 2 j and eqb (entry_at v l j).task.number x

abbrev pub out_whole : ℕ → List ℕ → Task → ℕ → Bool
out_whole v l t j = is_kind v l 2 j and same_task (entry_at v l j).task t

-- entry j hands out a put number that no entry before it does
abbrev pub out_first : ℕ → List ℕ → ℕ → Bool
out_first v l j = is_kind v l 2 j and not (some_below (out_as v l (entry_at v l j).task.number) j)

-- the i-th task of the window is this one
abbrev pub stands_at : World → Task → ℕ → Bool
stands_at W t i = same_task (window_task W i) t

-- of n entries, entry j is a finished put that none hands out and no slot of the window holds
abbrev pub is_lost : World → ℕ → ℕ → Bool
is_lost W n j =
    let v = W.bench.words in
    let t = (entry_at v W.log j).task in
    is_kind v W.log 1 j and not (some_below (out_whole v W.log t) n or some_below (stands_at W t) (window_size W))

abbrev pub entries_in : World → ℕ
entries_in W = W.bench.written / entry_length W.bench.words

unfoldable pub counts_of : World → Counts
counts_of W =
    let v = W.bench.words in
    record {
      finished = count_below (is_kind v W.log 1) (entries_in W);
      handouts = count_below (is_kind v W.log 2) (entries_in W);
      different = count_below (out_first v W.log) (entries_in W);
      restarts = sum_below (restarts_of W.bench.restarts) 8;
      window = window_size W;
      lost = count_below (is_lost W (entries_in W)) (entries_in W);
    }
