-- Parts of the limits that a function of its own tests.
use Rattle.std.specs.Prelude.{Bool, true, List, ◌≡◌, ℕ, zero, suc, ◌+◌, ◌*◌, ◌/◌, ◌≤◌, ◌<◌, eqb, ltb, leb}
use Rattle.model.specs.declared.Kind.{Kind}
use Rattle.model.specs.declared.Line.{Line}
use Rattle.model.specs.declared.Queue.{Queue}
use Rattle.model.specs.declared.Region.{Region}
use Rattle.model.specs.declared.Waiting.{Waiting}
use Rattle.model.specs.declared.Worker.{Worker}
use Rattle.model.specs.declared.Bench.{Bench}
use Rattle.model.specs.Tests.{when◌then◌else◌, ◌and◌}
use Rattle.model.specs.Lines.{size}
use Rattle.model.specs.Stores.{in_line}
use Rattle.model.specs.World.{tag_bits, line_at, is_idle}
use Rattle.model.specs.Limits.{
  is_size,
  kind_ok,
  width_ok,
  words_ok,
  crew_ok,
  directory_ok,
  anchor_ok,
  number_ok,
  stores_ok,
  tidy,
  aside_ok,
  links_ok,
  owner_ok,
  thief_ok,
  thieves_ok,
}
use Rattle.ranges.specs.Doubles.{Doubles}
use Rattle.waiting.specs.Places.{notes_ok}
use Rattle.limits.specs.declared.Reach.{Reach}
use Rattle.limits.specs.declared.Scope.{Scope}
use Rattle.limits.specs.declared.View.{View}

-- an array's size in tasks of v payload words
abbrev pub tasks_in : ℕ → Region → ℕ
tasks_in v p = p.length / (v + 1)

-- the directory's first pair
abbrev pub starts_ok : ℕ → Region → Bool
starts_ok v p = eqb p.length ((v + 1) * tasks_in v p) and is_size 10 (tasks_in v p)

-- a pair, and the one behind it
abbrev pub follows_ok : ℕ → Region → Region → Bool
follows_ok v p n =
    leb (p.offset + p.length) n.offset and eqb n.length (2 * p.length) and leb (2 * tasks_in v p) 1024

-- worker i at line l, in a crew of n; thieves read q, the owner p
abbrev pub member_ok : Kind → ℕ → ℕ → Queue → Queue → ℕ → ℕ → Line → Bool
member_ok κ w v q p n i l =
    when eqb i 0 then owner_ok κ w v p l else when ltb i n then thief_ok κ w v q l else is_idle l

-- the first k workers: the owner, and the thieves below k
abbrev pub workers_ok : Kind → ℕ → ℕ → Queue → Queue → ℕ → List Worker → ℕ → Bool
workers_ok κ w v q p n l zero = true
workers_ok κ w v q p n l (suc k) = owner_ok κ w v p (line_at l 0) and thieves_ok κ w v q n l k

-- a line whose stores can be put down: of a length that the mode allows, with notes that name places of the directory
abbrev pub line_held : Bool → Waiting → Bool
line_held d l = leb l.count (when d then 8 else 0) and notes_ok (in_line l)

-- the limits on fresh's numbers, and on the directory, of which the owner reads n arrays as published
abbrev pub frame_ok : Bench → ℕ → Bool
frame_ok b n =
    kind_ok b.kind b.queue.linked
    and width_ok b.width
    and words_ok b.words
    and crew_ok b.crew
    and directory_ok b.words b.queue n (line_at b.workers 0)

-- the limits that follow those, where the owner reads p: those of what it reads and stores,
-- and the others
abbrev pub waits_ok : Bench → Queue → Bool
waits_ok b p =
    anchor_ok b.kind (tag_bits b) (size b.words p) p.anchor
    and stores_ok b.kind (tag_bits b) b.words p (in_line b.waiting)

abbrev pub contents_ok : Bench → Queue → Bool
contents_ok b p =
    anchor_ok b.kind (tag_bits b) (size b.words b.queue) b.queue.anchor
    and number_ok b.used
    and aside_ok b.words p (line_at b.workers 0) b.aside
    and links_ok b.kind b.queue b.workers 8
    and workers_ok b.kind (tag_bits b) b.words b.queue p b.crew b.workers 8

-- a directory in order, of tasks of at most 4 payload words: some of its 11 places are claimed, and tidy
pub record Laid (q : Queue) : Type 0 where
  pub words : ℕ
  pub few : words ≤ 4
  pub some : 0 < q.claimed
  pub listed : q.claimed ≤ 11
  pub tidied : tidy words q.arrays q.claimed ≡ true

-- R tells of the queue q what a line's limits ask; tasks have v payload words, and f is the first array's size
abbrev pub Reached : Reach → ℕ → ℕ → Queue → Type 0
Reached R v f q = (q.published ≡ R.published) × Doubles v q f × (R.tasks ≡ size v q)

-- and S of the queues q and p
abbrev pub Scoped : Scope → Queue → Queue → Type 0
Scoped S q p = Reached S.memory S.words S.first q × Reached S.owner S.words S.first p

-- the view o tells of the queue p, b's with its waiting stores put down
pub record Seen (o : View) (b : Bench) (p : Queue) : Type 0 where
  pub published : p.published ≡ o.published
  pub anchor : p.anchor ≡ o.anchor
  pub arrays : p.arrays ≡ b.queue.arrays
  pub claimed : p.claimed ≡ b.queue.claimed
  pub same : b.waiting.count ≡ 0 → p ≡ b.queue
