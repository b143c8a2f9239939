-- A last line of put, take and steal stores the anchor.
use mathlib.Core.Path.{◌≡◌, sym, subst}
use Prim.Native.Nat.{ℕ}
use Rattle.model.specs.declared.Kind.{Kind}
use Rattle.model.specs.declared.Kind.TheVariants.{Lifo, Fifo, Deque}
use Rattle.model.specs.declared.Anchor.{Anchor}
use Rattle.model.specs.declared.Queue.{Queue}
use Rattle.model.specs.declared.Store.{Store}
use Rattle.model.specs.Figures.{put_store, take_store, steal_store}
use Rattle.lines.specs.Actions.{Concludes}

module _ {s : Store} (q : Queue) (r : Anchor) where
  pub put_concludes : (κ : Kind) (w : ℕ) → s ≡ put_store κ w r → Concludes q s
  unfolding Concludes
  put_concludes κ w e = subst (Concludes q) (sym e) (go κ)
    where
      go : (κ : Kind) → Concludes q (put_store κ w r)
      go Lifo = tt
      go Fifo = tt
      go Deque = tt

  pub take_concludes : (κ : Kind) → s ≡ take_store κ r → Concludes q s
  unfolding Concludes
  take_concludes κ e = subst (Concludes q) (sym e) (go κ)
    where
      go : (κ : Kind) → Concludes q (take_store κ r)
      go Lifo = tt
      go Fifo = tt
      go Deque = tt

  pub steal_concludes : (κ : Kind) (n : ℕ) → s ≡ steal_store κ r n → Concludes q s
  unfolding Concludes
  steal_concludes κ n e = subst (Concludes q) (sym e) (go κ)
    where
      go : (κ : Kind) → Concludes q (steal_store κ r n)
      go Lifo = tt
      go Fifo = tt
      go Deque = tt
