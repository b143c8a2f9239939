-- Words set aside: those of an ask, and a commit's X1 has them.
use mathlib.Core.Path.{◌≡◌, refl, sym, ◌∙◌, ap}
use mathlib.Core.Bool.{Bool, true, false, true≢false}
use mathlib.Core.List.{List}
use Prim.Native.Nat.{ℕ, ◌+◌, ◌-◌, ◌*◌, ◌≤◌, ◌<◌}
use native.Mathlib.Omega.{arith}
use lib.Dec.{eqb, leb}
use borrow.Author.Tests.{eqb-true, eqb-false, eq-eqb, le-leb}
use Rattle.model.specs.declared.Kind.{Kind}
use Rattle.model.specs.declared.Kind.TheVariants.{Lifo, Fifo, Deque}
use Rattle.model.specs.declared.Task.{Task}
use Rattle.model.specs.declared.Anchor.{Anchor}
use Rattle.model.specs.declared.Growth.{Growth}
use Rattle.model.specs.declared.Growth.TheVariants.{ForPut, ForCommit}
use Rattle.model.specs.declared.Line.{Line}
use Rattle.model.specs.declared.Line.TheVariants.{Idle, PutRead, PutTail, PutTest, PutWord, PutFinish, Claim, Note, Copy, Publish, TakeRead, TakeTail, TakeTest, TakeWord, TakeFinish, StealRead, StealTail, StealTest, StealNote, StealWord, StealNext, StealCompare}
use Rattle.model.specs.declared.Queue.{Queue}
use Rattle.model.specs.declared.Room.{Room}
use Rattle.model.specs.declared.Region.{Region}
use Rattle.model.specs.Tests.{when◌then◌else◌}
use Rattle.model.specs.Memory.{length_at, size_at}
use Rattle.model.specs.Tasks.{with_word}
use Rattle.model.specs.Figures.{take_index, steal_index, is_full, is_empty, put_read, take_read, steal_read, note, steal_last}
use Rattle.model.specs.Stores.{next_length}
use Rattle.model.specs.Lines.{Effect, size, word_of, fits, succeeds, line_step}
use Rattle.model.specs.World.{is_expanding, is_commit1}
use Rattle.model.specs.Limits.{aside_ok}
use Rattle.model.proofs.Tests.{and_both}

-- the owner is at line o, reads the queue v, and n words are set aside
abbrev pub Aside : ℕ → Queue → Line → ℕ → Type 0
Aside ω v o n =
    (is_commit1 o ≡ true → 0 < n) × (0 < n → (n ≡ next_length v) × (leb (2 * size ω v) 1024 ≡ true) × (is_expanding o ≡ false))

pub none_aside : (ω : ℕ) (v : Queue) (o : Line) → is_commit1 o ≡ false → Aside ω v o 0
none_aside ω v o e = ((λ c. absurd (true≢false (sym c ∙ e))), λ l. absurd (omega arith))

pub ok_aside : (ω : ℕ) (v : Queue) (o : Line) (n : ℕ) → Aside ω v o n → aside_ok ω v o n ≡ true
unfolding when◌then◌else◌
ok_aside ω v o n A = go (eqb n 0) refl (is_commit1 o) refl
  where
    go : (x : Bool) → eqb n 0 ≡ x → (y : Bool) → is_commit1 o ≡ y → aside_ok ω v o n ≡ true
    go true e true c = absurd (omega (arith, A.0 c, eqb-true n 0 e))
    go true e false c = rw (e, c)
    go false e y c =
        let S = A.1 (omega (arith, eqb-false n 0 e)) in
        rw e (and_both _ _ (eq-eqb n (next_length v) S.0) (and_both _ _ S.1 (rw S.2)))

-- a room that has the words set aside has the array that they are for
pub aside_fits : (ρ : Room) (ω : ℕ) (v : Queue) (o : Line) (n : ℕ) → Aside ω v o n → n ≤ ρ.left → is_commit1 o ≡ true → fits ρ ω v ≡ true
aside_fits ρ ω v o n A l c =
    let S = A.1 (A.0 c) in
    and_both _ _ S.1 (le-leb (next_length v) ρ.left (omega (arith, S.0, l)))

pub aside_move : (ω : ℕ) (v v' : Queue) (o o' : Line) (n : ℕ) → v'.arrays ≡ v.arrays → v'.claimed ≡ v.claimed
    → (is_expanding o ≡ false → v'.published ≡ v.published) → (is_commit1 o' ≡ true → 0 < n) → (is_expanding o ≡ false → is_expanding o' ≡ false) → Aside ω v o n → Aside ω v' o' n
aside_move ω v v' o o' n a c p some calm A = (
  some,
  λ h.
      let S = A.1 h in (
        S.0 ∙ sym (ap (λ (x : List Region). 2 * length_at x (v'.claimed - 1)) a ∙ ap (λ (x : ℕ). 2 * length_at v.arrays (x - 1)) c),
        ap (λ (x : List Region). leb (2 * size_at ω x (v'.published - 1)) 1024) a ∙ ap (λ (x : ℕ). leb (2 * size_at ω v.arrays (x - 1)) 1024) (p S.2) ∙ S.1,
        calm S.2,
      ),
)

-- a queue that is not expanding has published what is claimed
pub at_rest : (x : Bool) (c p : ℕ) → c ≡ (when x then p + 1 else p) → x ≡ false → p ≡ c
unfolding when◌then◌else◌
at_rest true c p e f = absurd (true≢false f)
at_rest false c p e f = sym e

-- THE NEXT LINE is no commit's X1, and none of X2 to X4 without a claim
abbrev Rests : Line → Type 0
Rests l = (is_commit1 l ≡ false) × (is_expanding l ≡ false)

either : (x : Bool) (a b : Line) → Rests a → Rests b → Rests (when x then a else b)
unfolding when◌then◌else◌
either true a b p q = p
either false a b p q = q

either_end : (x : Bool) (a b : Effect) → Rests a.line → Rests b.line → Rests (when x then a else b).line
unfolding when◌then◌else◌
either_end true a b p q = p
either_end false a b p q = q

commit_not : (x : Bool) (a b : Line) → is_commit1 a ≡ false → is_commit1 b ≡ false → is_commit1 (when x then a else b) ≡ false
unfolding when◌then◌else◌
commit_not true a b p q = p
commit_not false a b p q = q

commit_end : (x : Bool) (a b : Effect) → is_commit1 a.line ≡ false → is_commit1 b.line ≡ false → is_commit1 (when x then a else b).line ≡ false
unfolding when◌then◌else◌
commit_end true a b p q = p
commit_end false a b p q = q

-- X1 without a claim
unclaimed : (x : Bool) (a b : Effect) → a.claims ≡ true → is_expanding b.line ≡ false → (when x then a else b).claims ≡ false → is_expanding (when x then a else b).line ≡ false
unfolding when◌then◌else◌
unclaimed true a b p q f = absurd (true≢false (sym p ∙ f))
unclaimed false a b p q f = q

put_1 : (κ : Kind) (a : Anchor) (t : Task) → Rests (put_read κ a t)
put_1 Lifo a t = (refl, refl)
put_1 Fifo a t = (refl, refl)
put_1 Deque a t = (refl, refl)

take_1 : (κ : Kind) (a : Anchor) → Rests (take_read κ a)
take_1 Lifo a = (refl, refl)
take_1 Fifo a = (refl, refl)
take_1 Deque a = (refl, refl)

steal_1 : (κ : Kind) (a : Anchor) → Rests (steal_read κ a)
steal_1 Lifo a = (refl, refl)
steal_1 Fifo a = (refl, refl)
steal_1 Deque a = (refl, refl)

last : (κ : Kind) (r : Anchor) (t : Task) → Rests (steal_last κ r t)
last Lifo r t = (refl, refl)
last Fifo r t = (refl, refl)
last Deque r t = (refl, refl)

noted : (κ : Kind) (z : ℕ) (a : Anchor) (g : Growth) → is_commit1 (note κ z a g) ≡ false
noted Lifo z a g = commit_not (eqb z 0) (Publish g) (Copy g 0 z 0) refl refl
noted Fifo z a g = commit_not (eqb (a.count - a.head) 0) (Publish g) (Copy g a.head (a.count - a.head) 0) refl refl
noted Deque z a g = commit_not (eqb a.count 0) (Publish g) (Copy g a.head a.count 0) refl refl

-- the lines outside X1 to X4
abbrev Next : Room → Kind → ℕ → ℕ → Queue → List ℕ → ℕ → Line → Type 0
Next ρ κ w ω q m i o = (is_commit1 (line_step ρ κ w ω q m i o).line ≡ false) × ((line_step ρ κ w ω q m i o).claims ≡ false → is_expanding o ≡ false → is_expanding (line_step ρ κ w ω q m i o).line ≡ false)

pub line_next : (ρ : Room) (κ : Kind) (w ω : ℕ) (q : Queue) (m : List ℕ) (i : ℕ) (o : Line) → Next ρ κ w ω q m i o
unfolding line_step
line_next ρ κ w ω q m i Idle = (refl, λ f e. refl)
line_next ρ κ w ω q m i (PutRead t) = let r = put_1 κ q.anchor t in (r.0, λ f e. r.1)
line_next ρ κ w ω q m i (PutTail t h) = (refl, λ f e. refl)
line_next ρ κ w ω q m i (PutTest t r) = let x = either (is_full κ (size ω q) r) (Claim (ForPut t)) (PutWord t r 0) (refl, refl) (refl, refl) in (x.0, λ f e. x.1)
line_next ρ κ w ω q m i (PutWord t r j) = let x = either (eqb j ω) (PutFinish t r) (PutWord t r (j + 1)) (refl, refl) (refl, refl) in (x.0, λ f e. x.1)
line_next ρ κ w ω q m i (PutFinish t r) = (refl, λ f e. refl)
line_next ρ κ w ω q m i (Claim g) = (commit_end (fits ρ ω q) _ _ refl refl, λ f e. unclaimed (fits ρ ω q) _ _ refl refl f)
line_next ρ κ w ω q m i (Note g) = (noted κ (size ω q) q.anchor g, λ f e. absurd (true≢false e))
line_next ρ κ w ω q m i (Copy g h n k) = (commit_not (eqb (k + 1) n) (Publish g) (Copy g h n (k + 1)) refl refl, λ f e. absurd (true≢false e))
line_next ρ κ w ω q m i (Publish (ForPut t)) = (refl, λ f e. refl)
line_next ρ κ w ω q m i (Publish ForCommit) = (refl, λ f e. refl)
line_next ρ κ w ω q m i TakeRead = let r = take_1 κ q.anchor in (r.0, λ f e. r.1)
line_next ρ κ w ω q m i (TakeTail h) = (refl, λ f e. refl)
line_next ρ κ w ω q m i (TakeTest r) = (commit_end (is_empty κ r) _ _ refl refl, λ f e. (either_end (is_empty κ r) _ _ (refl, refl) (refl, refl)).1)
line_next ρ κ w ω q m i (TakeWord r t j) =
    let u = with_word t j (word_of κ ω q m (q.published - 1) (take_index κ r) j) in
    let x = either (eqb j ω) (TakeFinish r u) (TakeWord r u (j + 1)) (refl, refl) (refl, refl) in (x.0, λ f e. x.1)
line_next ρ κ w ω q m i (TakeFinish r t) = (refl, λ f e. refl)
line_next ρ κ w ω q m i StealRead = let r = steal_1 κ q.anchor in (r.0, λ f e. r.1)
line_next ρ κ w ω q m i (StealTail h) = (refl, λ f e. refl)
line_next ρ κ w ω q m i (StealTest r) = (commit_end (is_empty κ r) _ _ refl refl, λ f e. (either_end (is_empty κ r) _ _ (refl, refl) (refl, refl)).1)
line_next ρ κ w ω q m i (StealNote r) = (refl, λ f e. refl)
line_next ρ κ w ω q m i (StealWord r k t j) =
    let u = with_word t j (word_of κ ω q m k (steal_index κ r) j) in
    let x = either (eqb j ω) (steal_last κ r u) (StealWord r k u (j + 1)) (last κ r u) (refl, refl) in (x.0, λ f e. x.1)
line_next ρ κ w ω q m i (StealNext r t) = (refl, λ f e. refl)
line_next ρ κ w ω q m i (StealCompare r e' t) = (commit_end (succeeds κ q i r) _ _ refl refl, λ f e. (either_end (succeeds κ q i r) _ _ (refl, refl) (refl, refl)).1)
