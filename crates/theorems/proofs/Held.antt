-- The waiting line as a list: stores join its end, the oldest leaves.
use mathlib.Core.Path.{◌≡◌, refl, sym, ◌∙◌, ap}
use mathlib.Core.List.{List, [], ◌∷◌, ◌++◌, map}
use Prim.Native.Nat.{ℕ, zero, suc, ◌+◌, ◌-◌, ◌≤◌, ◌<◌}
use native.Mathlib.Omega.{arith}
use lib.ListN.{length, get_or, take, drop, length-append, length-take, length-drop}
use lib.Seq.{length-take-le}
use Rattle.model.specs.declared.Store.{Store}
use Rattle.model.specs.declared.Waiting.{Waiting}
use Rattle.model.specs.Stores.{none_pending, in_line, joined, oldest, one_less}

take_all : (js l : List Store) → take (length js) (js ++ l) ≡ js
take_all [] l = refl
take_all (j ∷ js) l = ap (λ (x : List Store). j ∷ x) (take_all js l)

take_join : (l js rest : List Store) (n : ℕ) → n ≤ length l → take (n + length js) (take n l ++ (js ++ rest)) ≡ take n l ++ js
take_join l js rest zero h = ap (λ (k : ℕ). take k (js ++ rest)) {x = 0 + length js} {y = length js} (omega arith) ∙ take_all js rest
take_join [] js rest (suc n) h = absurd (omega arith)
take_join (x ∷ l) js rest (suc n) h =
    ap (λ (k : ℕ). take k (x ∷ (take n l ++ (js ++ rest)))) {x = suc n + length js} {y = suc (n + length js)} (omega arith) ∙ ap (λ (y : List Store). x ∷ y) (take_join l js rest n (omega arith))

pub line_join : (l : Waiting) (ss : List Store) → l.count ≤ length l.stores → in_line (joined l ss) ≡ in_line l ++ ss
line_join l ss h = take_join l.stores ss (drop (l.count + length ss) l.stores) l.count h

pub joined_length : (l : Waiting) (ss : List Store) → l.count + length ss ≤ length l.stores → length (joined l ss).stores ≡ length l.stores
joined_length l ss h = simp (length-append, length-take, length-drop) (omega arith)

take_front : (l rest : List Store) (n : ℕ) → n ≤ length l → take n (l ++ rest) ≡ take n l
take_front l rest zero h = refl
take_front [] rest (suc n) h = absurd (omega arith)
take_front (x ∷ l) rest (suc n) h = ap (λ (y : List Store). x ∷ y) (take_front l rest n (omega arith))

held_drain : (l : List Store) (n : ℕ) → 0 < n → n ≤ length l → take n l ≡ get_or l 0 none_pending ∷ take (n - 1) (drop 1 l ++ none_pending ∷ [])
held_drain l zero p h = absurd (omega arith)
held_drain [] (suc n) p h = absurd (omega arith)
held_drain (x ∷ l) (suc n) p h =
    ap (λ (y : List Store). x ∷ y) (sym (take_front l (none_pending ∷ []) n (omega arith)) ∙ ap (λ (k : ℕ). take k (l ++ (none_pending ∷ []))) {x = n} {y = suc n - 1} (omega arith))

pub line_drain : (l : Waiting) → 0 < l.count → l.count ≤ length l.stores → in_line l ≡ oldest l ∷ in_line (one_less l)
line_drain l p h = held_drain l.stores l.count p h

pub drained_length : (l : List Store) → 0 < length l → length (drop 1 l ++ none_pending ∷ []) ≡ length l
drained_length [] h = absurd (omega arith)
drained_length (x ∷ l) h = length-append l (none_pending ∷ []) ∙ omega arith

pub line_length : (l : Waiting) → l.count ≤ length l.stores → length (in_line l) ≡ l.count
line_length l h = length-take-le l.count l.stores h
