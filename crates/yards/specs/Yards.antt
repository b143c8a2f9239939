-- Several queues over one store: each keeps what it has alone, in lists that mix all queues' calls and makings.
use Rattle.std.specs.Prelude.{◌≡◌, true, false, ◌⊎◌, ◌≢◌, List, [], map, ℕ, zero, suc, ◌+◌, ◌≤◌, ◌<◌, length, get_or, replicate, Ok}
use Rattle.model.specs.declared.Kind.TheVariants.{Fifo}
use Rattle.model.specs.declared.Growth.TheVariants.{ForCommit}
use Rattle.model.specs.declared.Line.TheVariants.{Claim}
use Rattle.model.specs.declared.Queue.{Queue}
use Rattle.model.specs.declared.Room.{Room}
use Rattle.model.specs.declared.Setup.{Setup}
use Rattle.model.specs.declared.Yard.{Yard}
use Rattle.model.specs.declared.Refusal.TheVariants.{ForeignState}
use Rattle.model.specs.declared.Answer.{Answer}
use Rattle.model.specs.declared.Answer.TheVariants.{Accepted, GoesOn, Refused}
use Rattle.model.specs.Memory.{offset_at, end_at, usable}
use Rattle.model.specs.World.{World, tag_bits}
use Rattle.model.specs.Limits.{Within}
use Rattle.model.specs.Calls.{fresh_of, Call, call_in}
use Rattle.model.specs.Run.{Played, played, after}
use Rattle.model.specs.Counts.{counts_of}
use Rattle.model.specs.Yard.{Ground, bare, queue_at, log_at, world_of, sound_yard, claimed_words, make_of, who_at, YardCall, yields, ground_after, part}
use Rattle.theorems.specs.Demand3.{At, Does, puts, FewPutsIn, Sound}
use Rattle.theorems.specs.AsBefore.{Undelayed}
use Rattle.theorems.specs.Growth.{SameWindow, GrowthKeeps}
use Rattle.theorems.specs.Corollaries.{landed}
use Rattle.theorems.specs.Restarts.{beaten, up_to}
use Rattle.accepted.specs.Bytes.{JudgedAs}
use Rattle.order.specs.Order.{InOrder, LogInOrder, log_front, entries}

-- a yard without queues, over the store m
abbrev pub opened : List ℕ → Ground
opened m = record { yard = bare; store = m; logs = replicate 4 [] }

-- from any accepted making, in any yard that calls reach: G is what it left, q the queue's number
abbrev pub FromMaking : (Setup → Ground → ℕ → Type 0) → Type 0
FromMaking P =
    (store : List ℕ) (before : List YardCall) (setup : Setup) (quota : ℕ) (log : List ℕ)
    → let G = ground_after (opened store) before in
    (make_of G setup quota log).answer ≡ Accepted → P setup (make_of G setup quota log).the_ground G.yard.made

-- and any list of calls and makings from there: of the queue as it was made, its own calls in the list, and what the list left of it
abbrev pub InYards : (World → List Played → World → Type 0) → Type 0
InYards P = FromMaking (λ s G q. (cs : List YardCall) → P (world_of G q) (part q G cs) (world_of (ground_after G cs) q))

-- demand 3, for every queue of a yard: of its own calls in the list, under its own premise
abbrev pub NothingLostInYards : Type 0
NothingLostInYards = InYards (λ U T X. FewPutsIn U.bench.kind (tag_bits U.bench) T → Sound T X)

-- and none is needed of a linked queue or with a tag of 16 bits
abbrev pub LinkedInYards : Type 0
LinkedInYards = InYards (λ U T X. U.bench.queue.linked ≡ true → Sound T X)

abbrev pub WidestTagInYards : Type 0
WidestTagInYards = InYards (λ U T X. U.bench.width ≡ 16 → Sound T X)

-- its log is its answers; FIFO hands out in order, by its answers and by its log; where its premise holds, the sixth count of its
-- own `T` is 0
abbrev pub LogIsAnswersInYards : Type 0
LogIsAnswersInYards = InYards (λ U T X. log_front X ≡ entries U.bench.words T)

abbrev pub FifoInOrderInYards : Type 0
FifoInOrderInYards = InYards (λ U T X. U.bench.kind ≡ Fifo → InOrder T × LogInOrder U.bench.words (log_front X))

abbrev pub NoneLostInYards : Type 0
NoneLostInYards = InYards (λ U T X. FewPutsIn U.bench.kind (tag_bits U.bench) T → (counts_of X).lost ≡ 0)

-- and the judge accepts the bytes of its log, with the window's put numbers as the list
abbrev pub RunsJudgedInYards : Type 0
RunsJudgedInYards = InYards (λ U T X. FewPutsIn U.bench.kind (tag_bits U.bench) T → JudgedAs U.bench.words X)

-- `who` answers how often a worker was beaten
abbrev pub WhoCountsInYards : Type 0
WhoCountsInYards =
    FromMaking
    (λ s G q. (cs : List YardCall) (k : ℕ) → k < s.crew → who_at (ground_after G cs) q k ≡ Ok (up_to (beaten k (part q G cs))))

-- a commit's X1 claims
abbrev pub CommitsGrowInYards : Type 0
CommitsGrowInYards = InYards (λ U T X. (j i : ℕ) → At T j (Does i (Claim ForCommit)) → At T j (λ s. s.answer ≡ GoesOn))

-- X1 to X4 move no window, in whatever room X1 finds
abbrev pub KeepsWindowIn : Played → Type 0
KeepsWindowIn s =
    (ρ : Room) → Within ρ s.before → s.before.bench.aside ≤ ρ.left → SameWindow s.before (call_in ρ s.before s.call).world

abbrev pub GrowthMovesNothingInYards : Type 0
GrowthMovesNothingInYards = InYards (λ U T X. GrowthKeeps KeepsWindowIn T)

-- without delayed stores nothing waits; the puts that drain are those that come to memory
abbrev pub NothingDelayedInYards : Type 0
NothingDelayedInYards = InYards (λ U T X. U.bench.delayed ≡ false → Undelayed T X)

abbrev pub SamePutsInYards : Type 0
SamePutsInYards = InYards (λ U T X. puts T ≡ landed T)

-- no yard that calls reach is refused 12
abbrev pub NoYardForeign : Type 0
NoYardForeign =
    (store : List ℕ) (cs : List YardCall)
    → let G = ground_after (opened store) cs in
    (sound_yard G ≡ true) × ((c : YardCall) → (yields G c).answer ≡ Refused ForeignState → ⊥)

-- arrays of different queues never overlap
abbrev pub Apart : Queue → Queue → Type 0
Apart q r =
    (k j : ℕ) → k < q.claimed → j < r.claimed → (end_at q.arrays k ≤ offset_at r.arrays j) ⊎ (end_at r.arrays j ≤ offset_at q.arrays k)

abbrev pub NoneOverlap : Type 0
NoneOverlap =
    (store : List ℕ) (cs : List YardCall)
    → let Y = (ground_after (opened store) cs).yard in
    (q r : ℕ) → q < Y.made → r < Y.made → q ≢ r → Apart (queue_at Y q) (queue_at Y r)

-- what the test of a yard says of gaps, also of a foreign one: each word below the next free one lies in an array
abbrev pub NoGaps : Type 0
NoGaps =
    (G : Ground) → sound_yard G ≡ true → (a : ℕ) → a < claimed_words G.yard
    → (q : ℕ) × (k : ℕ) × (q < G.yard.made) × (k < (queue_at G.yard q).claimed) × (offset_at (queue_at G.yard q).arrays k ≤ a) × (a < end_at (queue_at G.yard q).arrays k)

-- ISOLATION. The quotas of the first n queues; those of all queues made in the list fit the store, of which 10,235 words are used
unfoldable pub quotas_of : List ℕ → ℕ → ℕ
quotas_of l zero = 0
quotas_of l (suc q) = quotas_of l q + get_or l q 0

abbrev pub quotas : Yard → List ℕ
quotas Y = map (λ p. p.quota) Y.plots

abbrev pub QuotasFit : Ground → Type 0
QuotasFit G = quotas_of (quotas G.yard) G.yard.made ≤ usable G.store

-- what a queue was asked, and what it answered
abbrev pub calls_of : List Played → List Call
calls_of T = map (λ s. s.call) T

abbrev pub answers_of : List Played → List Answer
answers_of T = map (λ s. s.answer) T

-- where they fit, a queue answers and logs as a lone queue does that is told the same, over any store as long as its quota: so by its
-- making, its own calls and its log as lent alone
abbrev pub Isolation : Type 0
Isolation =
    (store : List ℕ) (before : List YardCall) (setup : Setup) (quota : ℕ) (log : List ℕ)
    → let G = ground_after (opened store) before in
    let H = (make_of G setup quota log).the_ground in
    (make_of G setup quota log).answer ≡ Accepted → (cs : List YardCall) → QuotasFit (ground_after H cs)
    → (lone : List ℕ) → length lone ≡ quota
    → let F = fresh_of setup lone log in
    let T = part G.yard.made H cs in
    (F.answer ≡ Accepted)
    × (answers_of T ≡ answers_of (played F.world (calls_of T)))
    × (log_at (ground_after H cs) G.yard.made ≡ (after F.world (calls_of T)).log)
