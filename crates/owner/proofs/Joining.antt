-- Stores that join the waiting line one after another.
use mathlib.Core.List.{List, [], ◌∷◌, ◌++◌, append_assoc}
use mathlib.Core.Path.{◌≡◌, refl, sym, ap, subst, ◌∙◌}
use Prim.Native.Nat.{ℕ, zero, suc, ◌+◌, ◌≤◌}
use native.Mathlib.Omega.{arith}
use lib.ListN.{length, take, drop, length-append}
use lib.Seq.{length-take-le, take_at, drop-append-add, drop-drop}
use Rattle.model.specs.declared.Task.{Task}
use Rattle.model.specs.declared.Store.{Store}
use Rattle.model.specs.declared.Waiting.{Waiting}
use Rattle.model.specs.Stores.{joined}
use Rattle.model.proofs.Landing.{joined_none}
use Rattle.lines.specs.declared.Action.{Action}
use Rattle.lines.specs.declared.Action.TheVariants.{Nothing, Fails, Stores, Copies, Claims, Stops, Ends}
use Rattle.lines.specs.Actions.{word_stores, stores_by}

-- a store for each word
pub words_long : (k t : ℕ) (u : Task) (n : ℕ) → length (word_stores k t u n) ≡ n
unfolding word_stores
words_long k t u zero = refl
words_long k t u (suc n) =
    let more : length (word_stores k t u (suc n)) ≡ length (word_stores k t u n) + 1 = length-append (word_stores k t u n) _ in
    omega (arith, more, words_long k t u n)

pub copies_long : {d : Action} {k t : ℕ} {u : Task} (v : ℕ) → d ≡ Copies k t u → v + 1 ≡ length (stores_by v d)
unfolding stores_by
copies_long {d} {k} {t} {u} v e = sym (ap (λ (x : Action). length (stores_by v x)) e ∙ words_long k t u (v + 1))

pub few_stores : (v : ℕ) (d : Action) → v ≤ 4 → length (stores_by v d) ≤ 5
unfolding stores_by
few_stores v Nothing h = omega arith
few_stores v Fails h = omega arith
few_stores v (Stores s) h = omega arith
few_stores v (Copies k t u) h = omega (arith, h, words_long k t u (v + 1))
few_stores v (Claims a z) h = omega arith
few_stores v (Stops x) h = omega arith
few_stores v (Ends s x) h = omega arith

-- none joins
pub kept : {l : List Store} (s : Waiting) → l ≡ [] → s ≡ joined s l
kept s e = sym (ap (joined s) e ∙ joined_none s)

abbrev line : List Store → ℕ → Waiting
line l n = record { stores = l; count = n }

-- one more
pub joined_more : (s : Waiting) (a : List Store) (x : Store) → s.count ≤ length s.stores
    → joined (joined s a) (x ∷ []) ≡ joined s (a ++ x ∷ [])
joined_more s a x h =
    let l = s.stores in
    let n = s.count + length a in
    let F = take s.count l in
    let A = a in
    let D = drop n l in
    let long : length (F ++ A) ≡ n = length-append F A ∙ sums (length-take-le s.count l h) refl in
    ap (λ (t : List Store). line (take n t ++ x ∷ drop (n + 1) t) (n + 1)) (sym (append_assoc F A D))
    ∙ ap (λ (t : List Store). line (t ++ x ∷ drop (n + 1) (F ++ A ++ D)) (n + 1)) (take_at (F ++ A) D n long)
    ∙ ap (λ (t : List Store). line (F ++ A ++ x ∷ t) (n + 1))
    (subst (λ (k : ℕ). drop (k + 1) (F ++ A ++ D) ≡ drop 1 D) long (drop-append-add (F ++ A) D 1) ∙ drop-drop 1 n l)
    ∙ ap (λ (t : List Store). line t (n + 1))
    (append_assoc F A (x ∷ drop (n + 1) l)
    ∙ ap (λ (t : List Store). F ++ t) (sym (append_assoc A (x ∷ []) (drop (n + 1) l))))
    ∙ ap (λ (k : ℕ). line (F ++ ((a ++ x ∷ []) ++ drop k l)) k) counts
  where
    sums : {i j k m : ℕ} → i ≡ j → k ≡ m → i + k ≡ j + m
    sums e f = rw (e, f)

    counts : s.count + length a + 1 ≡ s.count + length (a ++ x ∷ [])
    counts = let e : length (a ++ x ∷ []) ≡ length a + 1 = length-append a (x ∷ []) in omega (arith, e)
