-- Two stores with the same words of a queue keep them so, where the same stores are put down on both.
use mathlib.Core.Path.{◌≡◌, sym, ◌∙◌, ap}
use mathlib.Core.Bool.{true}
use mathlib.Core.Logic.{◌≢◌, ◌⊎◌, inl, inr}
use mathlib.Core.List.{List, [], ◌∷◌}
use Prim.Native.Nat.{ℕ, ◌+◌, ◌*◌, ◌≤◌, ◌<◌}
use native.Mathlib.Omega.{arith}
use lib.ListN.{length, set, length-set}
use lib.Seq.{get_or-set_other, get_or-set_same}
use Rattle.model.specs.declared.Kind.{Kind}
use Rattle.model.specs.declared.Queue.{Queue}
use Rattle.model.specs.declared.Room.{Room}
use Rattle.model.specs.declared.Region.{Region}
use Rattle.model.specs.declared.Store.{Store}
use Rattle.model.specs.declared.Store.TheVariants.{StoreWord, StoreNote, StorePut, StoreOut, StoreHead, StoreTail}
use Rattle.model.specs.Memory.{word_at, zeros, offset_at, length_at, size_at, end_at}
use Rattle.model.specs.Stores.{next_length, claiming}
use Rattle.model.specs.Limits.{tidy}
use Rattle.model.proofs.Directory.{tidy_front, tidy_long}
use Rattle.theorems.proofs.Folds.{words}
use Rattle.theorems.proofs.Words.{earlier_slot, slots_apart, set_place, set_here, zeros_low}
use Rattle.theorems.proofs.Remainders.{le_or_lt}
use Rattle.theorems.proofs.Directory.{tidy_sorted, Arrays, Free, end, long_at, zeros_new}
use Rattle.theorems.proofs.Shape.{Path}
use Rattle.yards.proofs.Grounds.{same_or}
use Rattle.yards.proofs.Mirror.{redirect, Like, sizes}

-- a word that is written, and another one
word_same : (m : List ℕ) (ω b t j x : ℕ) → b + (ω + 1) * t + j < length m → word_at (set m (b + (ω + 1) * t + j) x) ω b t j ≡ x
unfolding word_at
word_same m ω b t j x h = get_or-set_same m (b + (ω + 1) * t + j) x 0 h

word_other : (ω : ℕ) (l : List Region) (n : ℕ) (m : List ℕ) (k t j k' t' j' x : ℕ) → tidy ω l n ≡ true → k < n → k' < n → t < size_at ω l k → t' < size_at ω l k' → j ≤ ω → j' ≤ ω
    → (k' ≢ k) ⊎ ((t' ≢ t) ⊎ ((t' ≡ t) × (j' ≢ j))) → word_at (set m (offset_at l k + (ω + 1) * t + j) x) ω (offset_at l k') t' j' ≡ word_at m ω (offset_at l k') t' j'
unfolding word_at
word_other ω l n m k t j k' t' j' x T hk hk' ht ht' hj hj' ne = get_or-set_other m (offset_at l k + (ω + 1) * t + j) (offset_at l k' + (ω + 1) * t' + j') x 0 (go (same_or k' k) ne)
  where
    long : (i : ℕ) → i < n → length_at l i ≡ (ω + 1) * size_at ω l i
    long i hi = tidy_long ω l i (tidy_front ω l n i T hi)

    far : k' ≢ k → offset_at l k' + (ω + 1) * t' + j' ≢ offset_at l k + (ω + 1) * t + j
    far d = pick (le_or_lt k' k)
      where
        pick : (k' ≤ k) ⊎ (k < k') → offset_at l k' + (ω + 1) * t' + j' ≢ offset_at l k + (ω + 1) * t + j
        pick (inl a) = omega (arith, tidy_sorted ω l n k' k T (omega arith) hk, long k' hk', earlier_slot (ω + 1) t' (size_at ω l k') j' ht' (omega arith))
        pick (inr a) = omega (arith, tidy_sorted ω l n k k' T a hk', long k hk, earlier_slot (ω + 1) t (size_at ω l k) j ht (omega arith))

    near : k' ≡ k → (t' ≢ t) ⊎ ((t' ≡ t) × (j' ≢ j)) → offset_at l k' + (ω + 1) * t' + j' ≢ offset_at l k + (ω + 1) * t + j
    near e (inl a) = omega (arith, ap (offset_at l) e, slots_apart (ω + 1) t' t j' j a (omega arith) (omega arith))
    near e (inr (f, a)) = omega (arith, ap (offset_at l) e, ap (λ (z : ℕ). (ω + 1) * z) f)

    go : (k' ≡ k) ⊎ (k' ≢ k) → (k' ≢ k) ⊎ ((t' ≢ t) ⊎ ((t' ≡ t) × (j' ≢ j))) → offset_at l k' + (ω + 1) * t' + j' ≢ offset_at l k + (ω + 1) * t + j
    go (inr d) x = far d
    go (inl e) (inl d) = absurd (d e)
    go (inl e) (inr y) = near e y

-- both directories are tidy, and lie in their stores
pub record Placed (ω : ℕ) (l : List Region) (n : ℕ) (m : List ℕ) : Type 0 where
  pub tidied : tidy ω l n ≡ true
  pub inside : (k : ℕ) → k < n → end_at l k ≤ length m

module _ {ω : ℕ} {q : Queue} {m : List ℕ} {d : List Region} {m' : List ℕ} (P : Placed ω q.arrays q.claimed m) (P' : Placed ω d q.claimed m') (L : Like ω q m d m')
    (k t j x : ℕ) (hk : k < q.claimed) (ht : t < size_at ω q.arrays k) (hj : j ≤ ω) where
  abbrev w₁ : List ℕ
  w₁ = set m (offset_at q.arrays k + (ω + 1) * t + j) x

  abbrev w₂ : List ℕ
  w₂ = set m' (offset_at d k + (ω + 1) * t + j) x

  long_of : (l : List Region) (n : List ℕ) → Placed ω l q.claimed n → t < size_at ω l k → offset_at l k + (ω + 1) * t + j < length n
  long_of l n Q g = omega (arith, Q.inside k hk, tidy_long ω l k (tidy_front ω l q.claimed k Q.tidied hk), earlier_slot (ω + 1) t (size_at ω l k) j g (omega arith))

  write_both : Like ω q w₁ d w₂
  write_both = record { long = L.long; lengths = L.lengths; words = λ k' t' j' a b c. go k' t' j' a b c (same_or k' k) (same_or t' t) (same_or j' j) }
    where
      other : (k' t' j' : ℕ) → k' < q.claimed → t' < size_at ω q.arrays k' → j' ≤ ω → (k' ≢ k) ⊎ ((t' ≢ t) ⊎ ((t' ≡ t) × (j' ≢ j)))
          → word_at w₂ ω (offset_at d k') t' j' ≡ word_at w₁ ω (offset_at q.arrays k') t' j'
      other k' t' j' a b c ne =
          word_other ω d q.claimed m' k t j k' t' j' x P'.tidied hk a (omega (arith, sizes L k)) (omega (arith, sizes L k')) hj c ne
          ∙ L.words k' t' j' a b c ∙ sym (word_other ω q.arrays q.claimed m k t j k' t' j' x P.tidied hk a ht b hj c ne)

      here : word_at w₂ ω (offset_at d k) t j ≡ word_at w₁ ω (offset_at q.arrays k) t j
      here = word_same m' ω (offset_at d k) t j x (long_of d m' P' (omega (arith, sizes L k))) ∙ sym (word_same m ω (offset_at q.arrays k) t j x (long_of q.arrays m P ht))

      go : (k' t' j' : ℕ) → k' < q.claimed → t' < size_at ω q.arrays k' → j' ≤ ω → (k' ≡ k) ⊎ (k' ≢ k) → (t' ≡ t) ⊎ (t' ≢ t) → (j' ≡ j) ⊎ (j' ≢ j)
          → word_at w₂ ω (offset_at d k') t' j' ≡ word_at w₁ ω (offset_at q.arrays k') t' j'
      go k' t' j' a b c (inr ne) y z = other k' t' j' a b c (inl ne)
      go k' t' j' a b c (inl e) (inr ne) z = other k' t' j' a b c (inr (inl ne))
      go k' t' j' a b c (inl e) (inl f) (inr ne) = other k' t' j' a b c (inr (inr (f, ne)))
      go k' t' j' a b c (inl e) (inl f) (inl g) = rw (e, f, g) here

placed_set : {ω : ℕ} {l : List Region} {n : ℕ} {m : List ℕ} (a x : ℕ) → Placed ω l n m → Placed ω l n (set m a x)
placed_set {ω} {l} {n} {m} a x P = record { tidied = P.tidied; inside = λ k h. omega (arith, P.inside k h, length-set m a x) }

-- stores that fit, put down on both
pub like_stores : (κ : Kind) (w ω : ℕ) (q : Queue) (low p τ : ℕ) (ss : List Store) (m : List ℕ) (d : List Region) (m' : List ℕ) → Placed ω q.arrays q.claimed m → Placed ω d q.claimed m' → Like ω q m d m'
    → Path κ w ω q.arrays q.claimed low p τ ss → Like ω q (words ω q.arrays ss m) d (words ω d ss m')
like_stores κ w ω q low p τ [] m d m' P P' L Y = L
like_stores κ w ω q low p τ (StoreWord b s j x ∷ ss) m d m' P P' L ((f, g, h, i), Y) =
    like_stores κ w ω q low p τ ss _ d _ (placed_set _ x P) (placed_set _ x P') (write_both P P' L b s j x f g h) Y
like_stores κ w ω q low p τ (StoreNote k ∷ ss) m d m' P P' L (f, Y) = like_stores κ w ω q low (k + 1) τ ss m d m' P P' L Y
like_stores κ w ω q low p τ (StorePut r ∷ ss) m d m' P P' L (f, Y) = like_stores κ w ω q low p τ ss m d m' P P' L Y
like_stores κ w ω q low p τ (StoreOut r ∷ ss) m d m' P P' L (f, Y) = like_stores κ w ω q low p τ ss m d m' P P' L Y
like_stores κ w ω q low p τ (StoreHead i ∷ ss) m d m' P P' L (f, Y) = like_stores κ w ω q i p τ ss m d m' P P' L Y
like_stores κ w ω q low p τ (StoreTail i ∷ ss) m d m' P P' L (f, Y) = like_stores κ w ω q low p i ss m d m' P P' L Y

-- X1 ON BOTH: words that are zeroed, and words below
pub zeroed : (μ : List ℕ) (ω a n t j : ℕ) → (ω + 1) * t + j < n → a ≤ length μ → word_at (zeros μ a n) ω a t j ≡ 0
unfolding word_at
zeroed μ ω a n t j h l = zeros_new μ a n (a + (ω + 1) * t + j) (omega arith) (omega arith) l

below : (μ : List ℕ) (ω a n b t j : ℕ) → b + (ω + 1) * t + j < a → a ≤ length μ → word_at (zeros μ a n) ω b t j ≡ word_at μ ω b t j
unfolding word_at
below μ ω a n b t j h l = zeros_low μ a n (b + (ω + 1) * t + j) h l

module _ (ρ ρ' : Room) {ω : ℕ} {q : Queue} {m : List ℕ} {d : List Region} {m' : List ℕ} (A : Arrays ω q m) (B : Arrays ω (redirect q d) m') (L : Like ω q m d m')
    (R : Free ρ q m) (R' : Free ρ' (redirect q d) m') (h : q.claimed < length q.arrays) (z : ℕ) (zl : next_length q ≡ (ω + 1) * z) (l : next_length q ≤ ρ.left) (l' : next_length q ≤ ρ'.left) where
  abbrev e₁ : List Region
  e₁ = (claiming ρ q).arrays

  abbrev e₂ : List Region
  e₂ = set d q.claimed (record { offset = ρ'.next; length = next_length q })

  pub claim_like : Like ω (claiming ρ q) (zeros m ρ.next (next_length q)) e₂ (zeros m' ρ'.next (next_length q))
  claim_like = record { long = length-set d q.claimed _ ∙ L.long ∙ sym (length-set q.arrays q.claimed _); lengths = λ k. lens k (same_or k q.claimed); words = λ k t j a b c. wds k t j a b c (same_or k q.claimed) }
    where
      new : (offset_at e₁ q.claimed ≡ ρ.next) × (length_at e₁ q.claimed ≡ next_length q) × (size_at ω e₁ q.claimed ≡ z)
      new = set_here ω q.arrays q.claimed ρ.next z (next_length q) h zl

      new' : (offset_at e₂ q.claimed ≡ ρ'.next) × (length_at e₂ q.claimed ≡ next_length q) × (size_at ω e₂ q.claimed ≡ z)
      new' = set_here ω d q.claimed ρ'.next z (next_length q) (omega (arith, h, L.long)) zl

      lens : (k : ℕ) → (k ≡ q.claimed) ⊎ (k ≢ q.claimed) → length_at e₂ k ≡ length_at e₁ k
      lens k (inl e) = rw e (new'.1 ∙ sym new.1)
      lens k (inr ne) = (set_place ω d q.claimed k ρ'.next (next_length q) ne).1 ∙ L.lengths k ∙ sym (set_place ω q.arrays q.claimed k ρ.next (next_length q) ne).1

      wds : (k t j : ℕ) → k < q.claimed + 1 → t < size_at ω e₁ k → j ≤ ω → (k ≡ q.claimed) ⊎ (k ≢ q.claimed)
          → word_at (zeros m' ρ'.next (next_length q)) ω (offset_at e₂ k) t j ≡ word_at (zeros m ρ.next (next_length q)) ω (offset_at e₁ k) t j
      wds k t j a b c (inl e) =
          ap (λ (x : ℕ). word_at (zeros m' ρ'.next (next_length q)) ω x t j) (ap (offset_at e₂) e ∙ new'.0)
          ∙ zeroed m' ω ρ'.next (next_length q) t j in_new (omega (arith, R'.inside))
          ∙ sym (ap (λ (x : ℕ). word_at (zeros m ρ.next (next_length q)) ω x t j) (ap (offset_at e₁) e ∙ new.0) ∙ zeroed m ω ρ.next (next_length q) t j in_new (omega (arith, R.inside)))
        where
          in_new : (ω + 1) * t + j < next_length q
          in_new = omega (arith, zl, earlier_slot (ω + 1) t z j (omega (arith, ap (size_at ω e₁) e, new.2)) (omega arith))
      wds k t j a b c (inr ne) =
          ap (λ (x : ℕ). word_at (zeros m' ρ'.next (next_length q)) ω x t j) old'.0
          ∙ below m' ω ρ'.next (next_length q) (offset_at d k) t j (omega (arith, end B k kc, R'.behind, long_at B k kc, earlier_slot (ω + 1) t (size_at ω d k) j (omega (arith, sizes L k, in_old)) (omega arith))) (omega (arith, R'.inside))
          ∙ L.words k t j kc in_old c
          ∙ sym (ap (λ (x : ℕ). word_at (zeros m ρ.next (next_length q)) ω x t j) old.0
          ∙ below m ω ρ.next (next_length q) (offset_at q.arrays k) t j (omega (arith, end A k kc, R.behind, long_at A k kc, earlier_slot (ω + 1) t (size_at ω q.arrays k) j in_old (omega arith))) (omega (arith, R.inside)))
        where
          kc : k < q.claimed
          kc = omega arith

          old : (offset_at e₁ k ≡ offset_at q.arrays k) × (length_at e₁ k ≡ length_at q.arrays k) × (size_at ω e₁ k ≡ size_at ω q.arrays k)
          old = set_place ω q.arrays q.claimed k ρ.next (next_length q) ne

          old' : (offset_at e₂ k ≡ offset_at d k) × (length_at e₂ k ≡ length_at d k) × (size_at ω e₂ k ≡ size_at ω d k)
          old' = set_place ω d q.claimed k ρ'.next (next_length q) ne

          in_old : t < size_at ω q.arrays k
          in_old = omega (arith, old.2)
