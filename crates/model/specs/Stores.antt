-- The shared words, the stores that change them, and the stores that wait.
use Rattle.std.specs.Prelude.{Bool, true, false, List, [], ◌∷◌, ◌++◌, ℕ, ◌+◌, ◌-◌, ◌*◌, length, get_or, set, replicate, take, drop}
use Rattle.model.specs.declared.Anchor.{Anchor}
use Rattle.model.specs.declared.Queue.{Queue}
use Rattle.model.specs.declared.Room.{Room}
use Rattle.model.specs.declared.Store.{Store}
use Rattle.model.specs.declared.Store.TheVariants.{StoreWord, StoreNote, StorePut, StoreOut, StoreHead, StoreTail}
use Rattle.model.specs.declared.Waiting.{Waiting}
use Rattle.model.specs.Tests.{least}
use Rattle.model.specs.Memory.{set_word, zeros, offset_at, length_at, end_at, words_to}
use Rattle.model.specs.Figures.{anchor}

-- the queue and the store
pub record Shared : Type 0 where
  pub queue : Queue
  pub store : List ℕ

abbrev pub shared : Queue → List ℕ → Shared
shared q m = record { queue = q; store = m }

-- a write of the anchor, which breaks every link, even if the value is equal
abbrev pub anchored : Queue → Anchor → Queue
anchored q a =
    record {
      linked = q.linked;
      anchor = a;
      arrays = q.arrays;
      published = q.published;
      claimed = q.claimed;
      initial = q.initial;
      links = replicate 8 false;
    }

-- the array at place k of the directory becomes the current one
abbrev pub publishing : Queue → ℕ → Queue
publishing q k =
    record {
      linked = q.linked;
      anchor = q.anchor;
      arrays = q.arrays;
      published = k + 1;
      claimed = q.claimed;
      initial = q.initial;
      links = q.links;
    }

-- a store has reached its place, where tasks have v payload words
abbrev pub landed : ℕ → Shared → Store → Shared
landed v S (StoreWord k t j x) = shared S.queue (set_word S.store v (offset_at S.queue.arrays k) t j x)
landed v S (StoreNote k) = shared (publishing S.queue k) S.store
landed v S (StorePut a) = shared (anchored S.queue a) S.store
landed v S (StoreOut a) = shared (anchored S.queue a) S.store
landed v S (StoreHead h) =
    shared (anchored S.queue (anchor h S.queue.anchor.count S.queue.anchor.tag)) S.store
landed v S (StoreTail t) =
    shared (anchored S.queue (anchor S.queue.anchor.head t S.queue.anchor.tag)) S.store

-- all of these have, in order
unfoldable pub landed_all : ℕ → Shared → List Store → Shared
landed_all v S [] = S
landed_all v S (x ∷ xs) = landed_all v (landed v S x) xs

-- THE WAITING LINE. Its stores, oldest first; stores join its end; the oldest leaves it
abbrev pub none_pending : Store
none_pending = StoreWord 0 0 0 0

abbrev pub in_line : Waiting → List Store
in_line l = take l.count l.stores

abbrev pub joined : Waiting → List Store → Waiting
joined l s =
    record {
      stores = take l.count l.stores ++ (s ++ drop (l.count + length s) l.stores);
      count = l.count + length s;
    }

abbrev pub oldest : Waiting → Store
oldest l = get_or l.stores 0 none_pending

abbrev pub one_less : Waiting → Waiting
one_less l = record { stores = drop 1 l.stores ++ none_pending ∷ []; count = l.count - 1 }

-- where the last array ends, claimed ones included; and the words that its arrays take
abbrev pub taken : Queue → ℕ
taken q = end_at q.arrays (q.claimed - 1)

abbrev pub words_taken : Queue → ℕ
words_taken q = words_to q.arrays q.claimed

-- ROOM. What X1 finds, where of n words `all` are claimed, `own` of them by this queue, and other queues have set `held` aside: the
-- next free word, for arrays are never given back; and the words left for this queue, by the store and by its quota
abbrev pub room_in : ℕ → ℕ → ℕ → ℕ → ℕ → Room
room_in n all held own quota = record { next = all; left = least (n - (all + held)) (quota - own) }

-- CLAIM. X1: the next free words become an array of twice the last one's length, and are zeroed
abbrev pub next_length : Queue → ℕ
next_length q = 2 * length_at q.arrays (q.claimed - 1)

abbrev pub claiming : Room → Queue → Queue
claiming ρ q =
    record {
      linked = q.linked;
      anchor = q.anchor;
      arrays = set q.arrays q.claimed (record { offset = ρ.next; length = next_length q });
      published = q.published;
      claimed = q.claimed + 1;
      initial = q.initial;
      links = q.links;
    }

abbrev pub claim : Room → Shared → Shared
claim ρ S = shared (claiming ρ S.queue) (zeros S.store ρ.next (next_length S.queue))

-- where a line claims
abbrev pub claimed_by : Room → Bool → Shared → Shared
claimed_by ρ true S = claim ρ S
claimed_by ρ false S = S
