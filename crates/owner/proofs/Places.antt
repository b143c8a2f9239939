-- What the owner reads with its waiting stores put down, in a state within the limits.
use mathlib.Core.Bool.{true, true≢false}
use mathlib.Core.List.{List, [], ◌∷◌}
use mathlib.Core.Path.{◌≡◌, refl, sym, ap, subst, ◌∙◌}
use Prim.Native.Nat.{ℕ}
use native.Mathlib.Omega.{arith}
use lib.ListN.{length, length-set}
use Rattle.model.specs.declared.Queue.{Queue}
use Rattle.model.specs.declared.Room.{Room}
use Rattle.model.specs.declared.Store.{Store}
use Rattle.model.specs.declared.Store.TheVariants.{StoreWord, StoreNote, StorePut, StoreOut, StoreHead, StoreTail}
use Rattle.model.specs.Memory.{set_word}
use Rattle.model.specs.Stores.{Shared, landed, landed_all, in_line}
use Rattle.model.specs.Lines.{holds_link}
use Rattle.model.specs.Limits.{Within}
use Rattle.model.specs.World.{World, memory, owners_view, line_at}
use Rattle.lines.proofs.Views.{view_same}
use Rattle.lines.proofs.FromLimits.{narrow_within, crew_within, ground_within, ready_within, link_within, wide_within}
use Rattle.limits.proofs.Waits.{waits_few, waits_placed}
use Rattle.machine.specs.Steps.{Steppable}
use Rattle.model.proofs.Landing.{none_held}
use Rattle.waiting.specs.Places.{AllPlaced}
use Rattle.owner.specs.Reads.{Lifts}

-- landed stores leave the store as long as it is
landed_long : (v : ℕ) (S : Shared) (s : Store) → length (landed v S s).store ≡ length S.store
unfolding set_word
landed_long v S (StoreWord k t j x) = length-set S.store _ x
landed_long v S (StoreNote k) = refl
landed_long v S (StorePut a) = refl
landed_long v S (StoreOut a) = refl
landed_long v S (StoreHead h) = refl
landed_long v S (StoreTail t) = refl

pub view_long : (v : ℕ) (S : Shared) (l : List Store) → length (landed_all v S l).store ≡ length S.store
unfolding landed_all
view_long v S [] = refl
view_long v S (s ∷ l) = view_long v (landed v S s) l ∙ landed_long v S s

-- and set no link
landed_links : (v : ℕ) (S : Shared) (s : Store) (i : ℕ) → holds_link (landed v S s).queue i ≡ true → holds_link S.queue i ≡ true
landed_links v S (StoreWord k t j x) i e = e
landed_links v S (StoreNote k) i e = e
landed_links v S (StorePut a) i e = absurd (true≢false (sym e ∙ none_held 8 i))
landed_links v S (StoreOut a) i e = absurd (true≢false (sym e ∙ none_held 8 i))
landed_links v S (StoreHead h) i e = absurd (true≢false (sym e ∙ none_held 8 i))
landed_links v S (StoreTail t) i e = absurd (true≢false (sym e ∙ none_held 8 i))

view_links : (v : ℕ) (S : Shared) (l : List Store) (i : ℕ) → holds_link (landed_all v S l).queue i ≡ true → holds_link S.queue i ≡ true
unfolding landed_all
view_links v S [] i e = e
view_links v S (s ∷ l) i e = landed_links v S s i (view_links v (landed v S s) l i e)

module _ {ρ : Room} (W : World) (v : Within ρ W) {x : List ℕ} (f : x ≡ (owners_view W).store) where
  pub long : length x ≡ length W.store
  long = ap length f ∙ view_long W.bench.words (memory W) (in_line W.bench.waiting)

  pub lifts : Lifts W.bench (length x)
  lifts =
      record {
        wide = wide_within W v;
        few = waits_few W v.limits;
        placed =
            subst (λ (n : ℕ). AllPlaced W.bench.words W.bench.queue n (in_line W.bench.waiting)) (sym long)
            (waits_placed W v.limits (omega (arith, v.behind, v.inside)));
      }

  -- p is the queue as the owner reads it
  pub steps_on : {p : Queue} → p ≡ (owners_view W).queue
      → Steppable ρ W.bench.kind W.bench.width W.bench.words W.bench.crew p (length x) 0 (line_at W.bench.workers 0)
  steps_on {p} e =
      subst (λ (n : ℕ). Steppable ρ W.bench.kind W.bench.width W.bench.words W.bench.crew p n 0 (line_at W.bench.workers 0)) (sym long)
      (subst (λ (q : Queue). Steppable ρ W.bench.kind W.bench.width W.bench.words W.bench.crew q (length W.store) 0 (line_at W.bench.workers 0)) (sym e)
      record {
        narrow = narrow_within W v;
        crew = (crew_within W v).1;
        room = v.inside;
        the_ground = ground_within W v 0;
        ready = λ h. ready_within W v 0 h;
        held = λ h g.
            let L = link_within W v 0 (omega arith) (view_links W.bench.words (memory W) (in_line W.bench.waiting) 0 g) in
            ((view_same W.bench.words (memory W) (in_line W.bench.waiting)).linked ∙ L.0, L.1);
      })
