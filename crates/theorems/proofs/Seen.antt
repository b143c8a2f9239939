-- What a thief has read stays true while its index stays in the owner's window.
use mathlib.Core.Path.{◌≡◌, refl, sym, ◌∙◌, ap}
use mathlib.Core.Logic.{◌⊎◌, inl, inr}
use mathlib.Core.List.{List}
use Prim.Native.Nat.{ℕ, suc, ◌+◌, ◌*◌, ◌≤◌, ◌<◌}
use native.Mathlib.Omega.{arith}
use lib.ListN.{get_or}
use Rattle.model.specs.declared.Region.{Region}
use Rattle.model.specs.declared.Task.{Task}
use Rattle.model.specs.Tasks.{gathered}
use Rattle.model.proofs.Tasks.{same_words}
use Rattle.model.specs.Memory.{offset_at, size_at}
use Rattle.theorems.proofs.Words.{cell, addr_in}
use Rattle.theorems.proofs.Window.{View, word}

-- the array (b, z) is a published one, but not the current; it is the current one or such a one
abbrev pub Older : View → ℕ → ℕ → Type 0
Older v b z = (k : ℕ) × (suc k < v.published) × (offset_at v.directory k ≡ b) × (size_at v.words v.directory k ≡ z)

abbrev pub Dir : View → ℕ → ℕ → Type 0
Dir v b z = (0 < z) × (((b ≡ v.base) × (z ≡ v.slots)) ⊎ Older v b z)

-- t has the first j words of index i, if i stays in the owner's window; st: what came since that may have broken it
abbrev pub Got : ℕ → View → ℕ → ℕ → Task → Type 0
Got st v i j t = st ≡ 0 → v.own_lo ≤ i → i < v.own_hi → t ≡ gathered j (word v i)

-- so has the array (b, z)
abbrev pub Noted : ℕ → View → ℕ → ℕ → ℕ → Type 0
Noted st v b z i = (j : ℕ) → j < v.words + 1 → st ≡ 0 → v.own_lo ≤ i → i < v.own_hi → cell v.words v.store b z i j ≡ word v i j

-- from v to v': the owner's window moves up at its lower end, and keeps its words; older arrays keep theirs
abbrev pub Places : View → View → Type 0
Places v v' =
    (k : ℕ) → k < v.published → (k < v'.published) × (offset_at v'.directory k ≡ offset_at v.directory k) × (size_at v'.words v'.directory k ≡ size_at v.words v.directory k)

pub record Frame (v v' : View) : Type 0 where
  pub width : v'.words ≡ v.words
  pub up : v.own_lo ≤ v'.own_lo
  pub larger : v.slots ≤ v'.slots
  pub cur : (i j : ℕ) → v'.own_lo ≤ i → i < v.own_hi → j < v.words + 1 → word v' i j ≡ word v i j
  pub old : (i j : ℕ) → v'.own_lo ≤ i → i < v.own_hi → j < v.words + 1 → cell v.words v'.store v.base v.slots i j ≡ word v i j
  pub low : (b z a : ℕ) → Older v b z → b ≤ a → a < b + (v.words + 1) * z → get_or v'.store a 0 ≡ get_or v.store a 0
  pub more : v.published ≤ v'.published
  pub places : Places v v'
  pub dir : ((v'.base ≡ v.base) × (v'.slots ≡ v.slots)) ⊎ Older v' v.base v.slots

-- the top did not move up, unless a put came since
abbrev pub Still : ℕ → ℕ → View → View → ℕ → Type 0
Still st st' v v' i = st' ≡ 0 → (st ≡ 0) × (i < v'.own_hi → i < v.own_hi)

older_keep : {v v' : View} {b z : ℕ} → Frame v v' → Older v b z → Older v' b z
older_keep F (k, h, p, q) = let P = F.places k (omega arith) in (k, omega (arith, F.more), P.1 ∙ p, P.2 ∙ q)

pub dir_keep : {v v' : View} {b z : ℕ} → Frame v v' → Dir v b z → Dir v' b z
dir_keep {v} {v'} {b} {z} F d = (d.0, go F.dir d.1)
  where
    go : ((v'.base ≡ v.base) × (v'.slots ≡ v.slots)) ⊎ Older v' v.base v.slots → ((b ≡ v.base) × (z ≡ v.slots)) ⊎ Older v b z
        → ((b ≡ v'.base) × (z ≡ v'.slots)) ⊎ Older v' b z
    go (inl (p, q)) (inl (r, s)) = inl (omega arith, omega arith)
    go (inr (k, h, p, q)) (inl (r, s)) = inr (k, h, p ∙ sym r, q ∙ sym s)
    go x (inr r) = inr (older_keep F r)

pub got_keep : {v v' : View} {st st' i j : ℕ} {t : Task} → Frame v v' → Still st st' v v' i → j ≤ v.words + 1 → Got st v i j t → Got st' v' i j t
got_keep {v} {v'} {st} {st'} {i} {j} {t} F S hj G e l h =
    let s = S e in
    G s.0 (omega (arith, F.up)) (s.1 h) ∙ sym (same_words j (word v' i) (word v i) (λ k p. F.cur i k l (s.1 h) (omega arith)))

-- the words of an older array do not change
arr_keep : {v v' : View} {b z i : ℕ} (j : ℕ) → Frame v v' → Dir v b z → v'.own_lo ≤ i → i < v.own_hi → j < v.words + 1
    → cell v.words v'.store b z i j ≡ cell v.words v.store b z i j
unfolding cell
arr_keep {v} {v'} {b} {z} {i} j F d l h hj = go d.1
  where
    go : ((b ≡ v.base) × (z ≡ v.slots)) ⊎ Older v b z → cell v.words v'.store b z i j ≡ cell v.words v.store b z i j
    go (inl (p, q)) = rw (p, q) (F.old i j l h hj)
    go (inr p) = F.low b z _ p (omega arith) (addr_in v.words b z i j d.0 hj)

pub noted_keep : {v v' : View} {st st' b z i : ℕ} → Frame v v' → Still st st' v v' i → Dir v b z → Noted st v b z i → Noted st' v' b z i
noted_keep {v} {v'} {st} {st'} {b} {z} {i} F S d N j hj e l h =
    let s = S e in
    let g : j < v.words + 1 = omega (arith, F.width) in
    ap (λ (x : ℕ). cell x v'.store b z i j) F.width
    ∙ arr_keep j F d l (s.1 h) g ∙ N j g s.0 (omega (arith, F.up)) (s.1 h) ∙ sym (F.cur i j l (s.1 h) g)

-- the same store and array, and an owner's window whose lower end is no lower
pub frame_same : (v : View) (own_lo own_hi : ℕ) → v.own_lo ≤ own_lo → Frame v (record { words = v.words; store = v.store; directory = v.directory; published = v.published; base = v.base; slots = v.slots; own_lo = own_lo; own_hi = own_hi })
frame_same v own_lo own_hi h =
    record { width = refl; up = h; larger = omega arith; cur = λ i j a b c. refl; old = λ i j a b c. refl; low = λ b z a p q r. refl; more = omega arith; places = λ k l. (l, refl, refl); dir = inl (refl, refl) }

-- another store
pub frame_store : (v : View) (m : List ℕ) → ((i j : ℕ) → v.own_lo ≤ i → i < v.own_hi → j < v.words + 1 → cell v.words m v.base v.slots i j ≡ word v i j)
    → ((b z a : ℕ) → Older v b z → b ≤ a → a < b + (v.words + 1) * z → get_or m a 0 ≡ get_or v.store a 0)
    → (own_hi : ℕ) → Frame v (record { words = v.words; store = m; directory = v.directory; published = v.published; base = v.base; slots = v.slots; own_lo = v.own_lo; own_hi = own_hi })
frame_store v m same low own_hi = record { width = refl; up = omega arith; larger = omega arith; cur = same; old = same; low = low; more = omega arith; places = λ k l. (l, refl, refl); dir = inl (refl, refl) }

-- another array, above
pub frame_pub : (v : View) (n b z : ℕ) → v.slots ≤ z
    → Older (record { words = v.words; store = v.store; directory = v.directory; published = n; base = b; slots = z; own_lo = v.own_lo; own_hi = v.own_hi }) v.base v.slots
    → v.published ≤ n
    → ((i j : ℕ) → v.own_lo ≤ i → i < v.own_hi → j < v.words + 1 → cell v.words v.store b z i j ≡ word v i j)
    → (own_hi : ℕ) → Frame v (record { words = v.words; store = v.store; directory = v.directory; published = n; base = b; slots = z; own_lo = v.own_lo; own_hi = own_hi })
frame_pub v n b z l h u same own_hi =
    record {
      width = refl;
      up = omega arith;
      larger = l;
      cur = same;
      old = λ i j p q r. refl;
      low = λ b z a p q r. refl;
      more = omega arith;
      places = λ k p. (omega arith, refl, refl);
      dir = inr h;
    }

-- another directory, with the same arrays in front
pub frame_dir : (v : View) (d : List Region) (b z : ℕ) → b ≡ v.base → z ≡ v.slots
    → ((k : ℕ) → k < v.published → (offset_at d k ≡ offset_at v.directory k) × (size_at v.words d k ≡ size_at v.words v.directory k))
    → Frame v (record { words = v.words; store = v.store; directory = d; published = v.published; base = b; slots = z; own_lo = v.own_lo; own_hi = v.own_hi })
frame_dir v d b z eb ez same =
    record {
      width = refl;
      up = omega arith;
      larger = omega arith;
      cur = λ i j p q r. rw (eb, ez);
      old = λ i j p q r. refl;
      low = λ b z a p q r. refl;
      more = omega arith;
      places = λ k l. (l, (same k l).0, (same k l).1);
      dir = inl (eb, ez);
    }
