-- What an action is: a line's claim, its stores and its answer; and what a line needs to be done.
use Rattle.std.specs.Prelude.{◌≡◌, Bool, true, false, List, [], ◌∷◌, ◌++◌, ℕ, zero, suc, ◌+◌, ◌-◌, ◌*◌, ◌^◌, ◌≤◌, ◌<◌}
use Rattle.model.specs.declared.Kind.{Kind}
use Rattle.model.specs.declared.Task.{Task}
use Rattle.model.specs.declared.Anchor.{Anchor}
use Rattle.model.specs.declared.Store.{Store}
use Rattle.model.specs.declared.Store.TheVariants.{StoreWord, StoreNote, StorePut, StoreOut, StoreHead, StoreTail}
use Rattle.model.specs.declared.Line.{Line}
use Rattle.model.specs.declared.Line.TheVariants.{
  Idle,
  PutRead,
  PutTail,
  PutTest,
  PutWord,
  PutFinish,
  Claim,
  Note,
  Copy,
  Publish,
  TakeRead,
  TakeTail,
  TakeTest,
  TakeWord,
  TakeFinish,
  StealRead,
  StealTail,
  StealTest,
  StealNote,
  StealWord,
  StealNext,
  StealCompare,
}
use Rattle.model.specs.declared.Queue.{Queue}
use Rattle.model.specs.declared.Room.{Room}
use Rattle.model.specs.declared.Answer.{Answer}
use Rattle.model.specs.declared.Answer.TheVariants.{GoesOn}
use Rattle.model.specs.Tasks.{word_in}
use Rattle.model.specs.Memory.{offset_at, length_at}
use Rattle.model.specs.Answers.{ends}
use Rattle.model.specs.Figures.{put_index, take_index, steal_index}
use Rattle.model.specs.Stores.{next_length}
use Rattle.model.specs.Lines.{Effect, size}
use Rattle.model.specs.Limits.{some_ok}
use Rattle.figures.specs.Bounds.{Ordered}
use Rattle.slots.specs.Bounds.{Wide, Slotted, Inside}
use Rattle.lines.specs.declared.Action.{Action}
use Rattle.lines.specs.declared.Action.TheVariants.{Nothing, Fails, Stores, Copies, Claims, Stops, Ends}

-- word j of the task u, for the first n words, stored in slot t of the array at place k of the directory
unfoldable pub word_stores : ℕ → ℕ → Task → ℕ → List Store
word_stores k t u zero = []
word_stores k t u (suc j) = word_stores k t u j ++ StoreWord k t j (word_in u j) ∷ []

-- an action's stores, where tasks have v payload words
unfoldable pub stores_by : ℕ → Action → List Store
stores_by v Nothing = []
stores_by v Fails = []
stores_by v (Stores s) = s ∷ []
stores_by v (Copies k t u) = word_stores k t u (v + 1)
stores_by v (Claims a z) = []
stores_by v (Stops x) = []
stores_by v (Ends s x) = s ∷ []

-- whether it claims an array
unfoldable pub claims_by : Action → Bool
claims_by Nothing = false
claims_by Fails = false
claims_by (Stores s) = false
claims_by (Copies k t u) = false
claims_by (Claims a z) = true
claims_by (Stops x) = false
claims_by (Ends s x) = false

-- and what its step answers
unfoldable pub answer_by : Action → Answer
answer_by Nothing = GoesOn
answer_by Fails = GoesOn
answer_by (Stores s) = GoesOn
answer_by (Copies k t u) = GoesOn
answer_by (Claims a z) = GoesOn
answer_by (Stops x) = x
answer_by (Ends s x) = x

-- an array that it claims lies at the room's next free word
unfoldable pub PlacedIn : Room → Action → Type 0
PlacedIn ρ Nothing = Unit {0}
PlacedIn ρ Fails = Unit {0}
PlacedIn ρ (Stores s) = Unit {0}
PlacedIn ρ (Copies k t u) = Unit {0}
PlacedIn ρ (Claims a z) = a ≡ ρ.next
PlacedIn ρ (Stops x) = Unit {0}
PlacedIn ρ (Ends s x) = Unit {0}

-- the action is what the line does, where X1 finds the room ρ
pub record Does (ρ : Room) (v : ℕ) (E : Effect) (d : Action) : Type 0 where
  pub claims : claims_by d ≡ E.claims
  pub place : PlacedIn ρ d
  pub stores : stores_by v d ≡ E.stores
  pub answer : answer_by d ≡ E.answer

-- it is a compare that fails
unfoldable pub fails_by : Action → Bool
fails_by Nothing = false
fails_by Fails = true
fails_by (Stores s) = false
fails_by (Copies k t u) = false
fails_by (Claims a z) = false
fails_by (Stops x) = false
fails_by (Ends s x) = false

-- a store that ends nothing has a place in the queue q and a store of n words: it writes a word, or notes the array behind the
-- published ones
unfoldable pub Lands : ℕ → Queue → ℕ → Store → Type 0
Lands v q n (StoreWord k t j x) = (k < 11) × (t ≤ 1024) × (j ≤ v) × (offset_at q.arrays k + (v + 1) * t + j < n)
Lands v q n (StoreNote k) = k ≡ q.published
Lands v q n (StorePut a) = ⊥
Lands v q n (StoreOut a) = ⊥
Lands v q n (StoreHead h) = ⊥
Lands v q n (StoreTail t) = ⊥

-- a claimed range is as long as X1's, it lies in a store of n words, and its pair in the directory
pub record Claimable (q : Queue) (n a z : ℕ) : Type 0 where
  pub long : z ≡ next_length q
  pub inside : a + z ≤ n
  pub listed : q.claimed < 11

-- a store that ends an operation in the queue q writes the anchor, or notes the array behind the published ones
unfoldable pub Concludes : Queue → Store → Type 0
Concludes q (StoreWord k t j x) = ⊥
Concludes q (StoreNote k) = k ≡ q.published
Concludes q (StorePut a) = Unit {0}
Concludes q (StoreOut a) = Unit {0}
Concludes q (StoreHead h) = Unit {0}
Concludes q (StoreTail t) = Unit {0}

-- the action can be done on the queue q and a store of n words; what ends an operation has an answer with an entry
unfoldable pub Doable : ℕ → Queue → ℕ → Action → Type 0
Doable v q n Nothing = Unit {0}
Doable v q n Fails = Unit {0}
Doable v q n (Stores s) = Lands v q n s
Doable v q n (Copies k t u) = (k < 11) × (t ≤ 1024) × (offset_at q.arrays k + (v + 1) * t + (v + 1) ≤ n)
Doable v q n (Claims a z) = Claimable q n a z
Doable v q n (Stops x) = ends x ≡ true
Doable v q n (Ends s x) = Concludes q s × (ends x ≡ true)

-- the current array's offset and length, in words
abbrev pub off : Queue → ℕ
off q = offset_at q.arrays (q.published - 1)

abbrev pub len : Queue → ℕ
len q = length_at q.arrays (q.published - 1)

-- what every line needs: a current array inside a store of n words
pub record Ground (v : ℕ) (q : Queue) (n : ℕ) : Type 0 where
  pub wide : Wide v
  pub some : 0 < q.published
  pub listed : q.published ≤ 11
  pub head : q.anchor.head ≤ 65535
  pub count : q.anchor.count ≤ 65535
  pub small : size v q ≤ 1024
  pub doubled : size v q ≡ q.initial * 2 ^ (q.published - 1)
  pub brief : len q ≤ 5120
  pub inside : off q + len q ≤ n

-- an anchor read, in range
abbrev pub Range : Anchor → Type 0
Range r = (r.head ≤ 65535) × (r.count ≤ 65535)

-- index i of the array at place k has a slot, and the array lies in a store of n words
abbrev pub Lies : Kind → ℕ → Queue → ℕ → ℕ → ℕ → Type 0
Lies κ v q n k i = (k < 11) × Slotted κ v q k i × Inside v q n k

-- X1: all that is claimed is published, and an array that may be doubled leaves a pair of the directory free
abbrev pub Free : ℕ → Queue → Type 0
Free v q = (q.claimed ≡ q.published) × (2 * size v q ≤ 1024 → q.published < 11)

-- what the line needs
unfoldable pub Ready : Kind → ℕ → Queue → ℕ → Line → Type 0
Ready κ v q n Idle = Unit {0}
Ready κ v q n (PutRead t) = Unit {0}
Ready κ v q n (PutTail t h) = Unit {0}
Ready κ v q n (PutTest t r) = Range r
Ready κ v q n (PutWord t r j) = Range r × Lies κ v q n (q.published - 1) (put_index κ r) × (j ≤ v)
Ready κ v q n (PutFinish t r) = Range r
Ready κ v q n (Claim g) = Free v q
Ready κ v q n (Note g) = Ordered κ q.anchor
Ready κ v q n (Copy g h j k) =
    (h ≤ 65535) × (k ≤ 1024) × Lies κ v q n (q.published - 1) (h + k) × Lies κ v q n q.published (h + k)
Ready κ v q n (Publish g) = Unit {0}
Ready κ v q n TakeRead = Unit {0}
Ready κ v q n (TakeTail h) = Unit {0}
Ready κ v q n (TakeTest r) = Unit {0}
Ready κ v q n (TakeWord r t j) = Range r × (some_ok κ r ≡ true) × Lies κ v q n (q.published - 1) (take_index κ r) × (j ≤ v)
Ready κ v q n (TakeFinish r t) = Range r × (some_ok κ r ≡ true)
Ready κ v q n StealRead = Unit {0}
Ready κ v q n (StealTail h) = Unit {0}
Ready κ v q n (StealTest r) = Unit {0}
Ready κ v q n (StealNote r) = Unit {0}
Ready κ v q n (StealWord r k t j) = Range r × (some_ok κ r ≡ true) × Lies κ v q n k (steal_index κ r) × (j ≤ v)
Ready κ v q n (StealNext r t) = Range r
Ready κ v q n (StealCompare r e t) = Range r × (some_ok κ r ≡ true)
