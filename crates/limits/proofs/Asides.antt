-- The limit on the words set aside, from the tests of it one after the other.
use mathlib.Core.Bool.{Bool, false, not}
use mathlib.Core.List.{List}
use mathlib.Core.Path.{◌≡◌, sym, ap, ◌∙◌}
use Prim.Native.Nat.{ℕ, ◌-◌, ◌*◌}
use lib.Dec.{eqb, leb}
use lib.ListN.{get_or}
use borrow.Author.Tests.{eq-eqb, ne_eqb}
use Rattle.model.specs.declared.Line.{Line}
use Rattle.model.specs.declared.Queue.{Queue}
use Rattle.model.specs.declared.Region.{Region}
use Rattle.model.specs.Tests.{◌and◌}
use Rattle.model.specs.Memory.{nowhere, length_at}
use Rattle.model.specs.Stores.{next_length}
use Rattle.model.specs.Lines.{size}
use Rattle.model.specs.World.{stage, is_commit1}
use Rattle.model.specs.Limits.{aside_ok}
use Rattle.model.proofs.Tests.{if_true, if_false, holds, fails, and_false, last_holds}

-- the last claimed array's pair r, in a queue p with q's arrays
module _ (q p : Queue) (arrays : p.arrays ≡ q.arrays) (claimed : p.claimed ≡ q.claimed) {r : Region} (at : r ≡ get_or q.arrays (q.claimed - 1) nowhere) where
  same_pair : r ≡ get_or p.arrays (p.claimed - 1) nowhere
  same_pair = at ∙ ap (λ (n : ℕ). get_or q.arrays (n - 1) nowhere) (sym claimed) ∙ ap (λ (l : List Region). get_or l (p.claimed - 1) nowhere) (sym arrays)

  pub twice_that : 2 * r.length ≡ next_length p
  unfolding length_at
  twice_that = ap (λ (x : Region). 2 * x.length) same_pair

module _ (v : ℕ) (p : Queue) (o : Line) (n : ℕ) where
  abbrev small : Bool
  small = leb (2 * size v p) 1024

  pub none_aside : n ≡ 0 → aside_ok v p o n ≡ not (is_commit1 o)
  none_aside e = if_true _ (eq-eqb n 0 e)

  module _ (some : n ≡ 0 → ⊥) where
    rest : aside_ok v p o n ≡ (eqb n (next_length p) and small and not (eqb (stage o) 2))
    rest = if_false _ (ne_eqb n 0 some)

    pub while_growing : stage o ≡ 2 → aside_ok v p o n ≡ false
    while_growing e =
        rest
        ∙ ap (λ (x : Bool). eqb n (next_length p) and small and not x) (eq-eqb (stage o) 2 e)
        ∙ ap (λ (x : Bool). eqb n (next_length p) and x) (and_false small)
        ∙ and_false (eqb n (next_length p))

    pub another_length : (n ≡ next_length p → ⊥) → aside_ok v p o n ≡ false
    another_length h = rest ∙ fails _ (ne_eqb n (next_length p) h)

    pub that_length : n ≡ next_length p → (stage o ≡ 2 → ⊥) → aside_ok v p o n ≡ small
    that_length same g =
        rest ∙ holds (eq-eqb n (next_length p) same)
        ∙ last_holds small (not (eqb (stage o) 2)) (ap not (ne_eqb (stage o) 2 g))
