-- X3: the words of a task that is read whole are those that are copied one by one.
use mathlib.Core.Path.{◌≡◌, refl, ap, ◌∙◌}
use mathlib.Core.List.{List, [], ◌∷◌, ◌++◌}
use Prim.Native.Nat.{ℕ, zero, suc, ◌+◌, ◌-◌, ◌≤◌, ◌<◌}
use native.Mathlib.Omega.{arith}
use lib.ListN.{get_or, take}
use Rattle.model.specs.declared.Kind.{Kind}
use Rattle.model.specs.declared.Task.{Task}
use Rattle.model.specs.declared.Queue.{Queue}
use Rattle.model.specs.declared.Store.{Store}
use Rattle.model.specs.declared.Store.TheVariants.{StoreWord}
use Rattle.model.specs.Tasks.{word_in, gathered}
use Rattle.model.specs.Memory.{size_at}
use Rattle.model.specs.Figures.{slot}
use Rattle.model.specs.Lines.{word_of, copy_words}
use Rattle.lines.specs.Actions.{word_stores}

-- a task's word is the one that was read
front : (n j : ℕ) (l : List ℕ) → j < n → get_or (take n l) j 0 ≡ get_or l j 0
front zero j l h = absurd (omega arith)
front (suc n) j [] h = refl
front (suc n) zero (x ∷ l) h = refl
front (suc n) (suc j) (x ∷ l) h = front n j l (omega arith)

word_gathered : (v j : ℕ) (f : ℕ → ℕ) → v ≤ 4 → j ≤ v → word_in (gathered (v + 1) f) j ≡ f j
unfolding gathered word_in
word_gathered v zero f l h = front (v + 1) 0 (f 0 ∷ f 1 ∷ f 2 ∷ f 3 ∷ f 4 ∷ []) (omega arith)
word_gathered v (suc zero) f l h = front (v + 1) 1 (f 0 ∷ f 1 ∷ f 2 ∷ f 3 ∷ f 4 ∷ []) (omega arith)
word_gathered v (suc (suc zero)) f l h = front (v + 1) 2 (f 0 ∷ f 1 ∷ f 2 ∷ f 3 ∷ f 4 ∷ []) (omega arith)
word_gathered v (suc (suc (suc zero))) f l h = front (v + 1) 3 (f 0 ∷ f 1 ∷ f 2 ∷ f 3 ∷ f 4 ∷ []) (omega arith)
word_gathered v (suc (suc (suc (suc zero)))) f l h = front (v + 1) 4 (f 0 ∷ f 1 ∷ f 2 ∷ f 3 ∷ f 4 ∷ []) (omega arith)
word_gathered v (suc (suc (suc (suc (suc j))))) f l h = absurd (omega arith)

more : {xs ys : List Store} {x y : Store} → xs ≡ ys → x ≡ y → (xs ++ x ∷ []) ≡ (ys ++ y ∷ [])
more e f = rw (e, f)

copies_first : (κ : Kind) (v : ℕ) (q : Queue) (m : List ℕ) (i n : ℕ) → v ≤ 4 → n ≤ v + 1
    → word_stores q.published (slot κ (size_at v q.arrays q.published) i) (gathered (v + 1) (word_of κ v q m (q.published - 1) i)) n
    ≡ copy_words κ v q m i n
unfolding word_stores
copies_first κ v q m i zero l h = refl
copies_first κ v q m i (suc n) l h =
    more (copies_first κ v q m i n l (omega arith))
    (ap (StoreWord q.published (slot κ (size_at v q.arrays q.published) i) n) (word_gathered v n (word_of κ v q m (q.published - 1) i) l (omega arith)))

pub copies_are : {t : Task} {s : ℕ} (κ : Kind) (v : ℕ) (q : Queue) (m : List ℕ) (i : ℕ) → v ≤ 4
    → s ≡ slot κ (size_at v q.arrays q.published) i
    → t ≡ gathered (v + 1) (word_of κ v q m (q.published - 1) i)
    → word_stores q.published s t (v + 1) ≡ copy_words κ v q m i (v + 1)
copies_are {t} {s} κ v q m i l e g =
    ap (λ (x : ℕ). word_stores q.published x t (v + 1)) e
    ∙ ap (λ (u : Task). word_stores q.published (slot κ (size_at v q.arrays q.published) i) u (v + 1)) g
    ∙ copies_first κ v q m i (v + 1) l (omega arith)
