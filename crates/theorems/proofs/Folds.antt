-- Stores put down, place by place: the words, the published arrays, the anchor, the links. And that this is what they do.
use mathlib.Core.Path.{◌≡◌, refl, ◌∙◌, ap}
use mathlib.Core.Bool.{Bool, true, false}
use mathlib.Core.List.{List, [], ◌∷◌, ◌++◌}
use Prim.Native.Nat.{ℕ, zero, suc, ◌+◌, ◌*◌}
use lib.ListN.{set, replicate}
use Rattle.model.specs.declared.Room.{Room}
use Rattle.model.specs.declared.Kind.{Kind}
use Rattle.model.specs.declared.Anchor.{Anchor}
use Rattle.model.specs.declared.Region.{Region}
use Rattle.model.specs.declared.Queue.{Queue}
use Rattle.model.specs.declared.Store.{Store}
use Rattle.model.specs.declared.Store.TheVariants.{StoreWord, StoreNote, StorePut, StoreOut, StoreHead, StoreTail}
use Rattle.model.specs.Memory.{set_word, zeros, offset_at}
use Rattle.model.specs.Figures.{anchor}
use Rattle.model.specs.Lines.{copy_words}
use Rattle.model.specs.Stores.{Shared, shared, landed, landed_all, next_length, claiming, claimed_by}

-- one store put down; with ω payload words, l is the directory
abbrev pub words_of : ℕ → List Region → Store → List ℕ → List ℕ
words_of ω l (StoreWord b s j x) m = set m (offset_at l b + (ω + 1) * s + j) x
words_of ω l (StoreNote k) m = m
words_of ω l (StorePut r) m = m
words_of ω l (StoreOut r) m = m
words_of ω l (StoreHead i) m = m
words_of ω l (StoreTail i) m = m

abbrev pub places_of : Store → ℕ → ℕ
places_of (StoreWord b s j x) p = p
places_of (StoreNote k) p = k + 1
places_of (StorePut r) p = p
places_of (StoreOut r) p = p
places_of (StoreHead i) p = p
places_of (StoreTail i) p = p

abbrev pub anchor_of : Store → Anchor → Anchor
anchor_of (StoreWord b s j x) r = r
anchor_of (StoreNote k) r = r
anchor_of (StorePut r') r = r'
anchor_of (StoreOut r') r = r'
anchor_of (StoreHead i) r = anchor i r.count r.tag
anchor_of (StoreTail i) r = anchor r.head i r.tag

abbrev pub links_of : Store → List Bool → List Bool
links_of (StoreWord b s j x) l = l
links_of (StoreNote k) l = l
links_of (StorePut r) l = replicate 8 false
links_of (StoreOut r) l = replicate 8 false
links_of (StoreHead i) l = replicate 8 false
links_of (StoreTail i) l = replicate 8 false

-- all of them, the oldest first
abbrev pub words : ℕ → List Region → List Store → List ℕ → List ℕ
words ω l [] m = m
words ω l (s ∷ ss) m = words ω l ss (words_of ω l s m)

abbrev pub places : List Store → ℕ → ℕ
places [] p = p
places (s ∷ ss) p = places ss (places_of s p)

abbrev pub anchor_after : List Store → Anchor → Anchor
anchor_after [] r = r
anchor_after (s ∷ ss) r = anchor_after ss (anchor_of s r)

abbrev pub links_after : List Store → List Bool → List Bool
links_after [] l = l
links_after (s ∷ ss) l = links_after ss (links_of s l)

abbrev pub laid : List Store → Queue → Queue
laid ss q =
    record {
      linked = q.linked;
      anchor = anchor_after ss q.anchor;
      arrays = q.arrays;
      published = places ss q.published;
      claimed = q.claimed;
      initial = q.initial;
      links = links_after ss q.links;
    }

pub landed_one : (ω : ℕ) (q : Queue) (m : List ℕ) (s : Store) → landed ω (shared q m) s ≡ shared (laid (s ∷ []) q) (words_of ω q.arrays s m)
unfolding set_word
landed_one ω q m (StoreWord b s j x) = refl
landed_one ω q m (StoreNote k) = refl
landed_one ω q m (StorePut r) = refl
landed_one ω q m (StoreOut r) = refl
landed_one ω q m (StoreHead i) = refl
landed_one ω q m (StoreTail i) = refl

pub landed_is : (ω : ℕ) (q : Queue) (m : List ℕ) (ss : List Store) → landed_all ω (shared q m) ss ≡ shared (laid ss q) (words ω q.arrays ss m)
unfolding landed_all
landed_is ω q m [] = refl
landed_is ω q m (s ∷ ss) = ap (λ (S : Shared). landed_all ω S ss) (landed_one ω q m s) ∙ landed_is ω (laid (s ∷ []) q) (words_of ω q.arrays s m) ss

-- stores of words alone
abbrev pub AllWords : List Store → Type 0
AllWords [] = Unit {0}
AllWords (StoreWord b s j x ∷ ss) = AllWords ss
AllWords (StoreNote k ∷ ss) = ⊥
AllWords (StorePut r ∷ ss) = ⊥
AllWords (StoreOut r ∷ ss) = ⊥
AllWords (StoreHead i ∷ ss) = ⊥
AllWords (StoreTail i ∷ ss) = ⊥

pub words_more : (ss rr : List Store) → AllWords ss → AllWords rr → AllWords (ss ++ rr)
words_more [] rr a b = b
words_more (StoreWord b s j x ∷ ss) rr a c = words_more ss rr a c
words_more (StoreNote k ∷ ss) rr a b = absurd a
words_more (StorePut r ∷ ss) rr a b = absurd a
words_more (StoreOut r ∷ ss) rr a b = absurd a
words_more (StoreHead i ∷ ss) rr a b = absurd a
words_more (StoreTail i ∷ ss) rr a b = absurd a

-- what they leave: any function of the line that words do not change
pub words_keep : {A : Type 0} (f : List Store → A) → ((b s j x : ℕ) (ss : List Store) → f (StoreWord b s j x ∷ ss) ≡ f ss) → (ss : List Store) → AllWords ss → f ss ≡ f []
words_keep f e [] a = refl
words_keep f e (StoreWord b s j x ∷ ss) a = e b s j x ss ∙ words_keep f e ss a
words_keep f e (StoreNote k ∷ ss) a = absurd a
words_keep f e (StorePut r ∷ ss) a = absurd a
words_keep f e (StoreOut r ∷ ss) a = absurd a
words_keep f e (StoreHead i ∷ ss) a = absurd a
words_keep f e (StoreTail i ∷ ss) a = absurd a

pub copy_words_lem : (κ : Kind) (ω : ℕ) (q : Queue) (m : List ℕ) (i n : ℕ) → AllWords (copy_words κ ω q m i n)
copy_words_lem κ ω q m i zero = tt
copy_words_lem κ ω q m i (suc n) = words_more (copy_words κ ω q m i n) _ (copy_words_lem κ ω q m i n) tt

-- stores that are no put's
abbrev pub NotPut : Store → Type 0
NotPut (StoreWord b s j x) = Unit {0}
NotPut (StoreNote k) = Unit {0}
NotPut (StorePut r) = ⊥
NotPut (StoreOut r) = Unit {0}
NotPut (StoreHead i) = Unit {0}
NotPut (StoreTail i) = ⊥

abbrev pub NonePut : List Store → Type 0
NonePut [] = Unit {0}
NonePut (s ∷ ss) = NotPut s × NonePut ss

-- what X1 does to memory
abbrev pub arrays_after : Room → Bool → Queue → List Region
arrays_after ρ true q = (claiming ρ q).arrays
arrays_after ρ false q = q.arrays

abbrev pub claimed_after : Bool → Queue → ℕ
claimed_after true q = q.claimed + 1
claimed_after false q = q.claimed

abbrev pub queue_after : Room → Bool → Queue → Queue
queue_after ρ x q =
    record {
      linked = q.linked;
      anchor = q.anchor;
      arrays = arrays_after ρ x q;
      published = q.published;
      claimed = claimed_after x q;
      initial = q.initial;
      links = q.links;
    }

abbrev pub store_after : Room → Bool → Queue → List ℕ → List ℕ
store_after ρ true q m = zeros m ρ.next (next_length q)
store_after ρ false q m = m

pub claimed_is : (ρ : Room) (x : Bool) (q : Queue) (m : List ℕ) → claimed_by ρ x (shared q m) ≡ shared (queue_after ρ x q) (store_after ρ x q m)
claimed_is ρ true q m = refl
claimed_is ρ false q m = refl
