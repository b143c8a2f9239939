-- All waiting stores put down: what the owner reads is a queue with none waiting, and the invariant holds of it.
use mathlib.Core.Path.{◌≡◌, refl, sym, subst}
use mathlib.Core.Bool.{Bool, true, false}
use mathlib.Core.Logic.{◌⊎◌, inl, inr}
use mathlib.Core.List.Memᴰ
use mathlib.Core.List.{List, [], ◌∷◌, Memᴰ}
use Prim.Native.Nat.{ℕ, zero, suc}
use native.Mathlib.Omega.{arith}
use Rattle.model.specs.declared.Kind.{Kind}
use Rattle.model.specs.declared.Line.{Line}
use Rattle.model.specs.declared.Queue.{Queue}
use Rattle.model.specs.declared.Task.{Task}
use Rattle.model.specs.declared.Store.{Store}
use Rattle.model.specs.declared.Store.TheVariants.{StoreWord, StoreNote, StorePut, StoreOut, StoreHead, StoreTail}
use Rattle.theorems.proofs.Folds.{laid, words_of, words}
use Rattle.theorems.proofs.Events.{finished_put, handed_out, began_put, waiting_put, History, Out, Answered}
use Rattle.theorems.proofs.Window.{View, task_at}
use Rattle.theorems.proofs.Owed.{view, lo_of, hi_of, los, his, IsPut, Label}
use Rattle.theorems.proofs.Invariant.{Base}
use Rattle.theorems.proofs.Laying.{base_lay, base_lay_put}

pub record Settled (κ : Kind) (w ω : ℕ) (δ : Bool) (Q : Queue) (μ : List ℕ) (ol oh : ℕ) (ss : List Store) (φ : ℕ → Line) (h : History) : Type 0 where
  pub past : History
  pub base : Base κ w ω δ (laid ss Q) (words ω Q.arrays ss μ) (los ss ol) (his κ ss ol oh) [] φ past
  pub outs : (t : Task) → Out t past → Out t h
  pub done : (t : Task) → Memᴰ (finished_put t) h → Memᴰ (finished_put t) past
  pub labels : (m : ℕ) (t : Task) → Label κ (view ω Q μ ol oh) ss m t → Memᴰ (finished_put t) past
  pub answers : (t : Task) → Memᴰ (finished_put t) past → Memᴰ (finished_put t) h ⊎ Answered δ t h

-- what a put's end is not
fresh_out : {t u : Task} {h : History} → Out t (finished_put u ∷ h) → Out t h
fresh_out {t} {u} {h} (i, d) = (i, go (Memᴰ.cases_cons d))
  where
    go : (handed_out i t ≡ finished_put u) ⊎ Memᴰ (handed_out i t) h → Memᴰ (handed_out i t) h
    go (inl q) = absurd (let z : ◌≡◌ {A = ℕ} 0 1 = cc in omega arith)
    go (inr x) = x

fresh_answer : (δ : Bool) (t u : Task) (h : History) → Answered δ t (finished_put u ∷ h) → Answered δ t h
fresh_answer true t u h (n, d) = (n, go (Memᴰ.cases_cons d))
  where
    go : (waiting_put t n ≡ finished_put u) ⊎ Memᴰ (waiting_put t n) h → Memᴰ (waiting_put t n) h
    go (inl q) = absurd (let z : ◌≡◌ {A = ℕ} 0 1 = cc in omega arith)
    go (inr x) = x
fresh_answer false t u h d = go (Memᴰ.cases_cons d)
  where
    go : (began_put t ≡ finished_put u) ⊎ Memᴰ (began_put t) h → Memᴰ (began_put t) h
    go (inl q) = absurd (let z : ◌≡◌ {A = ℕ} 0 1 = cc in omega arith)
    go (inr x) = x

module _ (κ : Kind) (w ω : ℕ) (δ : Bool) (Q : Queue) (μ : List ℕ) (ol oh : ℕ) (s : Store) (ss : List Store) (φ : ℕ → Line) (h : History) where
  abbrev Rest : History → Type 0
  Rest h' = Settled κ w ω δ (laid (s ∷ []) Q) (words_of ω Q.arrays s μ) (lo_of s ol) (hi_of κ s ol oh) ss φ h'

  -- where the labels behind s are the rest's
  quiet_settle : ((m : ℕ) (t : Task) → Label κ (view ω Q μ ol oh) (s ∷ ss) m t → (n : ℕ) × Label κ (view ω (laid (s ∷ []) Q) (words_of ω Q.arrays s μ) (lo_of s ol) (hi_of κ s ol oh)) ss n t)
      → Rest h → Settled κ w ω δ Q μ ol oh (s ∷ ss) φ h
  quiet_settle move R =
      record { past = R.past; base = R.base; outs = R.outs; done = R.done; labels = λ m t l. let p = move m t l in R.labels p.0 t p.1; answers = R.answers }

  put_settle : Answered δ (task_at (view ω Q μ ol oh) oh) h
      → ((m : ℕ) (t : Task) → Label κ (view ω Q μ ol oh) (s ∷ ss) m t → (task_at (view ω Q μ ol oh) oh ≡ t) ⊎ ((n : ℕ) × Label κ (view ω (laid (s ∷ []) Q) (words_of ω Q.arrays s μ) (lo_of s ol) (hi_of κ s ol oh)) ss n t))
      → Rest (finished_put (task_at (view ω Q μ ol oh) oh) ∷ h) → Settled κ w ω δ Q μ ol oh (s ∷ ss) φ h
  put_settle A move R =
      record {
        past = R.past;
        base = R.base;
        outs = λ t o. fresh_out (R.outs t o);
        done = λ t d. R.done t (Memᴰ.tail d);
        labels = λ m t l. go t (move m t l);
        answers = λ t d. old t (R.answers t d);
      }
    where
      u : Task
      u = task_at (view ω Q μ ol oh) oh

      go : (t : Task) → (task_at (view ω Q μ ol oh) oh ≡ t) ⊎ ((n : ℕ) × Label κ (view ω (laid (s ∷ []) Q) (words_of ω Q.arrays s μ) (lo_of s ol) (hi_of κ s ol oh)) ss n t) → Memᴰ (finished_put t) R.past
      go t (inl e) = subst (λ (t : Task). Memᴰ (finished_put t) R.past) e (R.done u (Memᴰ.head refl))
      go t (inr (n, l)) = R.labels n t l

      old : (t : Task) → Memᴰ (finished_put t) (finished_put u ∷ h) ⊎ Answered δ t (finished_put u ∷ h) → Memᴰ (finished_put t) h ⊎ Answered δ t h
      old t (inr a) = inr (fresh_answer δ t u h a)
      old t (inl d) = pick (Memᴰ.cases_cons d)
        where
          pick : (finished_put t ≡ finished_put u) ⊎ Memᴰ (finished_put t) h → Memᴰ (finished_put t) h ⊎ Answered δ t h
          pick (inl q) = let e : t ≡ u = cc in inr (subst (λ (t : Task). Answered δ t h) (sym e) A)
          pick (inr x) = inl x

-- a label behind a store that is no put's, behind a put's
quiet_move : (κ : Kind) (v : View) (s : Store) (ss : List Store) (v' : View) → (IsPut s → ⊥) → ((m : ℕ) (t : Task) → Label κ v (s ∷ ss) (suc m) t → Label κ v' ss m t)
    → (m : ℕ) (t : Task) → Label κ v (s ∷ ss) m t → (n : ℕ) × Label κ v' ss n t
quiet_move κ v s ss v' n f zero t l = absurd (n l.0)
quiet_move κ v s ss v' n f (suc m) t l = (m, f m t l)

put_move : (κ : Kind) (v : View) (s : Store) (ss : List Store) (v' : View) → ((m : ℕ) (t : Task) → Label κ v (s ∷ ss) (suc m) t → Label κ v' ss m t)
    → (m : ℕ) (t : Task) → Label κ v (s ∷ ss) m t → (task_at v v.own_hi ≡ t) ⊎ ((n : ℕ) × Label κ v' ss n t)
put_move κ v s ss v' f zero t l = inl l.1
put_move κ v s ss v' f (suc m) t l = inr (m, f m t l)

pub settle : (κ : Kind) (w ω : ℕ) (δ : Bool) (Q : Queue) (μ : List ℕ) (ol oh : ℕ) (ss : List Store) (φ : ℕ → Line) (h : History) → Base κ w ω δ Q μ ol oh ss φ h → Settled κ w ω δ Q μ ol oh ss φ h
settle κ w ω δ Q μ ol oh [] φ h B = record { past = h; base = B; outs = λ t o. o; done = λ t d. d; labels = λ m t l. absurd l; answers = λ t d. inl d }
settle κ w ω δ Q μ ol oh (StoreWord b s j x ∷ ss) φ h B =
    quiet_settle κ w ω δ Q μ ol oh (StoreWord b s j x) ss φ h (quiet_move κ (view ω Q μ ol oh) (StoreWord b s j x) ss _ (λ p. p) (λ m t l. l)) (settle κ w ω δ (laid (StoreWord b s j x ∷ []) Q) (words_of ω Q.arrays (StoreWord b s j x) μ) (lo_of (StoreWord b s j x) ol) (hi_of κ (StoreWord b s j x) ol oh) ss φ h (base_lay κ w ω δ Q μ ol oh (StoreWord b s j x) ss φ h tt B))
settle κ w ω δ Q μ ol oh (StoreNote k ∷ ss) φ h B =
    quiet_settle κ w ω δ Q μ ol oh (StoreNote k) ss φ h (quiet_move κ (view ω Q μ ol oh) (StoreNote k) ss _ (λ p. p) (λ m t l. l)) (settle κ w ω δ (laid (StoreNote k ∷ []) Q) (words_of ω Q.arrays (StoreNote k) μ) (lo_of (StoreNote k) ol) (hi_of κ (StoreNote k) ol oh) ss φ h (base_lay κ w ω δ Q μ ol oh (StoreNote k) ss φ h tt B))
settle κ w ω δ Q μ ol oh (StorePut r ∷ ss) φ h B =
    let L = base_lay_put κ w ω δ Q μ ol oh (StorePut r) ss φ h tt B in
    put_settle κ w ω δ Q μ ol oh (StorePut r) ss φ h L.1 (put_move κ (view ω Q μ ol oh) (StorePut r) ss _ (λ m t l. l)) (settle κ w ω δ (laid (StorePut r ∷ []) Q) (words_of ω Q.arrays (StorePut r) μ) (lo_of (StorePut r) ol) (hi_of κ (StorePut r) ol oh) ss φ _ L.0)
settle κ w ω δ Q μ ol oh (StoreOut r ∷ ss) φ h B =
    quiet_settle κ w ω δ Q μ ol oh (StoreOut r) ss φ h (quiet_move κ (view ω Q μ ol oh) (StoreOut r) ss _ (λ p. p) (λ m t l. l)) (settle κ w ω δ (laid (StoreOut r ∷ []) Q) (words_of ω Q.arrays (StoreOut r) μ) (lo_of (StoreOut r) ol) (hi_of κ (StoreOut r) ol oh) ss φ h (base_lay κ w ω δ Q μ ol oh (StoreOut r) ss φ h tt B))
settle κ w ω δ Q μ ol oh (StoreHead i ∷ ss) φ h B =
    quiet_settle κ w ω δ Q μ ol oh (StoreHead i) ss φ h (quiet_move κ (view ω Q μ ol oh) (StoreHead i) ss _ (λ p. p) (λ m t l. l)) (settle κ w ω δ (laid (StoreHead i ∷ []) Q) (words_of ω Q.arrays (StoreHead i) μ) (lo_of (StoreHead i) ol) (hi_of κ (StoreHead i) ol oh) ss φ h (base_lay κ w ω δ Q μ ol oh (StoreHead i) ss φ h tt B))
settle κ w ω δ Q μ ol oh (StoreTail i ∷ ss) φ h B =
    let L = base_lay_put κ w ω δ Q μ ol oh (StoreTail i) ss φ h tt B in
    put_settle κ w ω δ Q μ ol oh (StoreTail i) ss φ h L.1 (put_move κ (view ω Q μ ol oh) (StoreTail i) ss _ (λ m t l. l)) (settle κ w ω δ (laid (StoreTail i ∷ []) Q) (words_of ω Q.arrays (StoreTail i) μ) (lo_of (StoreTail i) ol) (hi_of κ (StoreTail i) ol oh) ss φ _ L.0)
