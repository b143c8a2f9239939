-- What an action's stores leave once they have landed, as the code writes it.
use mathlib.Core.Bool.{true}
use mathlib.Core.Path.{◌≡◌, refl, sym, ap, subst, ◌∙◌}
use mathlib.Core.List.{List, [], ◌∷◌}
use Prim.Native.Nat.{ℕ, zero, suc, ◌+◌, ◌*◌, ◌≤◌}
use native.Mathlib.Nat.{add-zero}
use native.Mathlib.Omega.{arith}
use lib.ListN.{set, take}
use Rattle.model.specs.declared.Task.{Task}
use Rattle.model.specs.declared.Queue.{Queue}
use Rattle.model.specs.declared.Room.{Room}
use Rattle.model.specs.declared.Store.{Store}
use Rattle.model.specs.declared.Store.TheVariants.{StoreWord, StoreNote, StorePut, StoreOut, StoreHead, StoreTail}
use Rattle.model.specs.declared.Answer.{Answer}
use Rattle.model.specs.Tasks.{words_in, word_in}
use Rattle.model.specs.Memory.{set_all, set_word, zeros, offset_at}
use Rattle.model.specs.Stores.{Shared, shared, anchored, landed, landed_all, claim}
use Rattle.model.proofs.Landing.{landed_more}
use Rattle.anchors.specs.After.{after_store, of_anchor}
use Rattle.lines.specs.declared.Action.{Action}
use Rattle.lines.specs.declared.Action.TheVariants.{Ends}
use Rattle.lines.specs.Actions.{word_stores, claims_by, stores_by, Claimable, Concludes, Doable}
use Rattle.machine.specs.Steps.{with_array, left_by}

-- the words f 0, f 1 .., n of them
abbrev firsts : ℕ → (ℕ → ℕ) → List ℕ
firsts zero f = []
firsts (suc n) f = f 0 ∷ firsts n (λ j. f (suc j))

-- written one by one, from word b on
abbrev writes : List ℕ → ℕ → (ℕ → ℕ) → ℕ → List ℕ
writes m b f zero = m
writes m b f (suc n) = set (writes m b f n) (b + n) (f n)

set_at : {m n : List ℕ} {a b : ℕ} (x : ℕ) → m ≡ n → a ≡ b → set m a x ≡ set n b x
set_at x e f = rw (e, f)

writes_on : (m : List ℕ) (b : ℕ) (f : ℕ → ℕ) (n : ℕ)
    → writes (set m b (f 0)) (b + 1) (λ j. f (suc j)) n ≡ writes m b f (suc n)
writes_on m b f zero = set_at {m = m} (f 0) refl (sym (add-zero b))
writes_on m b f (suc n) = set_at (f (suc n)) (writes_on m b f n) (let e : b + 1 + n ≡ b + suc n = omega arith in e)

all_writes : (n : ℕ) (m : List ℕ) (b : ℕ) (f : ℕ → ℕ) → set_all m b (firsts n f) ≡ writes m b f n
all_writes zero m b f = refl
all_writes (suc n) m b f = all_writes n (set m b (f 0)) (b + 1) (λ j. f (suc j)) ∙ writes_on m b f n

-- a task's stores write so
stores_write : (v : ℕ) (q : Queue) (m : List ℕ) (k t : ℕ) (u : Task) (n : ℕ)
    → landed_all v (shared q m) (word_stores k t u n) ≡ shared q (writes m (offset_at q.arrays k + (v + 1) * t) (word_in u) n)
unfolding set_word landed_all word_stores
stores_write v q m k t u zero = refl
stores_write v q m k t u (suc n) =
    landed_more v (shared q m) (word_stores k t u n) (StoreWord k t n (word_in u n) ∷ [])
    ∙ ap (λ (S : Shared). landed_all v S (StoreWord k t n (word_in u n) ∷ [])) (stores_write v q m k t u n)

-- a task has no other words
task_firsts : (v : ℕ) (u : Task) → v ≤ 4 → take (v + 1) (words_in u) ≡ firsts (v + 1) (word_in u)
unfolding word_in
task_firsts zero u l = refl
task_firsts (suc zero) u l = refl
task_firsts (suc (suc zero)) u l = refl
task_firsts (suc (suc (suc zero))) u l = refl
task_firsts (suc (suc (suc (suc zero)))) u l = refl
task_firsts (suc (suc (suc (suc (suc v))))) u l = absurd (omega arith)

-- X3: a task is written whole
pub copies_land : {a : ℕ} (v : ℕ) (q : Queue) (m : List ℕ) (k t : ℕ) (u : Task) → v ≤ 4
    → a ≡ offset_at q.arrays k + (v + 1) * t + 0
    → set_all m a (take (v + 1) (words_in u)) ≡ (landed_all v (shared q m) (word_stores k t u (v + 1))).store
copies_land {a} v q m k t u l e =
    let b = offset_at q.arrays k + (v + 1) * t in
    ap (λ (x : List ℕ). set_all m a x) (task_firsts v u l)
    ∙ ap (λ (x : ℕ). set_all m x (firsts (v + 1) (word_in u))) (e ∙ add-zero b)
    ∙ all_writes (v + 1) m b (word_in u)
    ∙ sym (ap (λ (S : Shared). S.store) (stores_write v q m k t u (v + 1)))

pub copies_leave : (v : ℕ) (q : Queue) (m : List ℕ) (k t : ℕ) (u : Task) (n : ℕ) → (landed_all v (shared q m) (word_stores k t u n)).queue ≡ q
copies_leave v q m k t u n = ap (λ (S : Shared). S.queue) (stores_write v q m k t u n)

-- X1
pub claims_land : (ρ : Room) (q : Queue) (m : List ℕ) (n a z : ℕ) → a ≡ ρ.next → Claimable q n a z
    → claim ρ (shared q m) ≡ shared (with_array q a z) (zeros m a z)
claims_land ρ q m n a z e C = rw (e, C.long)

-- a last line
pub anchor_lands : (v : ℕ) (q : Queue) (m : List ℕ) (s : Store) → of_anchor s ≡ true
    → landed v (shared q m) s ≡ shared (anchored q (after_store q.anchor s)) m
anchor_lands v q m (StoreWord k t j x) e = cc e
anchor_lands v q m (StoreNote k) e = cc e
anchor_lands v q m (StorePut a) e = refl
anchor_lands v q m (StoreOut a) e = refl
anchor_lands v q m (StoreHead h) e = refl
anchor_lands v q m (StoreTail t) e = refl

-- and X4 of a commit; a last line writes no task's word
last_keeps : (v : ℕ) (q : Queue) (m : List ℕ) (s : Store) → Concludes q s → (landed v (shared q m) s).store ≡ m
unfolding Concludes
last_keeps v q m (StoreWord k t j x) h = absurd h
last_keeps v q m (StoreNote k) h = refl
last_keeps v q m (StorePut a) h = refl
last_keeps v q m (StoreOut a) h = refl
last_keeps v q m (StoreHead a) h = refl
last_keeps v q m (StoreTail a) h = refl

pub ends_leave : {d : Action} {s : Store} {y : Answer} (ρ : Room) (v : ℕ) (q : Queue) (m : List ℕ) (n : ℕ) → d ≡ Ends s y → Doable v q n d
    → m ≡ (left_by ρ v (shared q m) d).store
unfolding claims_by stores_by landed_all Doable
ends_leave {d} {s} {y} ρ v q m n e h =
    let k = subst (Doable v q n) e h in
    sym
    (ap (λ (x : Action). (left_by ρ v (shared q m) x).store) e
    ∙ last_keeps v q m s k.0)
