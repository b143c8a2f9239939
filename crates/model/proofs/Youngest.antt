-- 'The owner reads its own youngest waiting store to a place before memory': so it is with the words of `owners_view`.
use mathlib.Core.Path.{◌≡◌, refl, sym, ◌∙◌, ap}
use mathlib.Core.Bool.{Bool, true, false}
use mathlib.Core.List.{List, [], ◌∷◌}
use Prim.Native.Nat.{ℕ, ◌+◌, ◌*◌, ◌<◌}
use native.Mathlib.Omega.{arith}
use lib.Dec.{eqb}
use lib.ListN.{length, get_or, set, length-set}
use lib.Seq.{get_or-set_other, get_or-set_same}
use borrow.Author.Tests.{eqb-true, eqb-false}
use Rattle.model.specs.declared.Region.{Region}
use Rattle.model.specs.declared.Store.{Store}
use Rattle.model.specs.declared.Store.TheVariants.{StoreWord, StoreNote, StorePut, StoreOut, StoreHead, StoreTail}
use Rattle.model.specs.Tests.{when◌then◌else◌}
use Rattle.model.specs.Memory.{set_word, offset_at}
use Rattle.model.specs.Stores.{Shared, landed, landed_all, in_line}
use Rattle.model.specs.World.{World, owners_view}

-- of the stores, oldest first, the value of the youngest to the word a, in the arrays l, where tasks have v payload words; d if there
-- is none
abbrev pub youngest : ℕ → List Region → List Store → ℕ → ℕ → ℕ
youngest v l [] a d = d
youngest v l (StoreWord k t j x ∷ ss) a d = youngest v l ss a (when eqb (offset_at l k + (v + 1) * t + j) a then x else d)
youngest v l (StoreNote k ∷ ss) a d = youngest v l ss a d
youngest v l (StorePut r ∷ ss) a d = youngest v l ss a d
youngest v l (StoreOut r ∷ ss) a d = youngest v l ss a d
youngest v l (StoreHead h ∷ ss) a d = youngest v l ss a d
youngest v l (StoreTail t ∷ ss) a d = youngest v l ss a d

one_word : (m : List ℕ) (b x a : ℕ) → a < length m → (t : Bool) → eqb b a ≡ t → get_or (set m b x) a 0 ≡ (when t then x else get_or m a 0)
unfolding when◌then◌else◌
one_word m b x a h true e = let q : b ≡ a = eqb-true b a e in rw q (get_or-set_same m a x 0 h)
one_word m b x a h false e = get_or-set_other m b a x 0 (λ q. eqb-false b a e (sym q))

all_down : (v : ℕ) (ss : List Store) (S : Shared) (a : ℕ) → a < length S.store
    → get_or (landed_all v S ss).store a 0 ≡ youngest v S.queue.arrays ss a (get_or S.store a 0)
unfolding landed_all set_word
all_down v [] S a h = refl
all_down v (StoreWord k t j x ∷ ss) S a h =
    let b = offset_at S.queue.arrays k + (v + 1) * t + j in
    all_down v ss (landed v S (StoreWord k t j x)) a (omega (arith, h, length-set S.store b x))
    ∙ ap (youngest v S.queue.arrays ss a) (one_word S.store b x a h (eqb b a) refl)
all_down v (StoreNote k ∷ ss) S a h = all_down v ss (landed v S (StoreNote k)) a h
all_down v (StorePut r ∷ ss) S a h = all_down v ss (landed v S (StorePut r)) a h
all_down v (StoreOut r ∷ ss) S a h = all_down v ss (landed v S (StoreOut r)) a h
all_down v (StoreHead i ∷ ss) S a h = all_down v ss (landed v S (StoreHead i)) a h
all_down v (StoreTail i ∷ ss) S a h = all_down v ss (landed v S (StoreTail i)) a h

pub reads_youngest : (W : World) (a : ℕ) → a < length W.store
    → get_or (owners_view W).store a 0
    ≡ youngest W.bench.words W.bench.queue.arrays (in_line W.bench.waiting) a (get_or W.store a 0)
reads_youngest W a h = all_down W.bench.words (in_line W.bench.waiting) _ a h
