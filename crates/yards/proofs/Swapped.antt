-- Quiet steps of a yard are swapped: a quiet step changes its own queue's state alone, and leaves every queue's room as it was.
use mathlib.Core.Path.{◌≡◌, refl, sym, ◌∙◌, ap, subst}
use mathlib.Core.Logic.{◌≢◌, ◌⊎◌, inl, inr}
use mathlib.Core.List.{List, []}
use Prim.Native.Nat.{ℕ, ◌<◌}
use native.Mathlib.Omega.{arith}
use lib.ListN.{length, set}
use lib.Seq.{get_or-set_other, get_or-set_same, set-get_or, set-set, set_comm}
use Rattle.model.specs.declared.Room.{Room}
use Rattle.model.specs.declared.Bench.{Bench}
use Rattle.model.specs.declared.Plot.{Plot}
use Rattle.model.specs.declared.Answer.{Answer}
use Rattle.model.specs.Stores.{words_taken}
use Rattle.model.specs.Lines.{Effect}
use Rattle.model.specs.World.{World, Outcome}
use Rattle.model.specs.Calls.{lent, next_effect, step_in, step}
use Rattle.model.specs.Yard.{Ground, Yields, no_plot, with_bench, quota_at, bench_at, queue_at, log_at, world_of, total_of, claimed_by, held_by, room_of, put_back, leaves, on, ground_after}
use Rattle.swaps.proofs.WorkersOwn.{moved, QuietAs, quiet_by, quiet_in}
use Rattle.swaps.proofs.Swaps.{swap_in}
use Rattle.yards.specs.Yards.{opened}
use Rattle.yards.specs.Swaps.{step_at, QuietAt, SwappedAt, SwapQuietInYards}
use Rattle.yards.proofs.Grounds.{Tended, same_or, total_set, call_is, yields_tended, tended_after, opened_tended}

-- the ground with another state of queue q
abbrev with_state : Ground → ℕ → Bench → Ground
with_state G q b = record { yard = with_bench G.yard q b; store = G.store; logs = G.logs }

abbrev plot : Ground → ℕ → Bench → Plot
plot G q b = record { bench = b; quota = quota_at G.yard q }

module _ {G : Ground} (T : Tended G) (q : ℕ) (h : q < G.yard.made) where
  inside : q < length G.yard.plots
  inside = omega (arith, T.plots, T.made)

  -- where it has claimed and set aside as much, all rooms are as they were
  module _ (b : Bench) (c : words_taken b.queue ≡ words_taken (queue_at G.yard q)) (a : b.aside ≡ (bench_at G.yard q).aside) where
    of_each : (f : Bench → ℕ) → f b ≡ f (bench_at G.yard q) → (r : ℕ) → f (bench_at (with_state G q b).yard r) ≡ f (bench_at G.yard r)
    of_each f e r = go (same_or r q)
      where
        go : (r ≡ q) ⊎ (r ≢ q) → f (bench_at (with_state G q b).yard r) ≡ f (bench_at G.yard r)
        go (inl is) = rw is (ap (λ (p : Plot). f p.bench) (get_or-set_same G.yard.plots q (plot G q b) no_plot inside) ∙ e)
        go (inr ne) = ap (λ (p : Plot). f p.bench) (get_or-set_other G.yard.plots q r (plot G q b) no_plot ne)

    of_all : (f : Bench → ℕ) → f b ≡ f (bench_at G.yard q) → total_of f (set G.yard.plots q (plot G q b)) G.yard.made ≡ total_of f G.yard.plots G.yard.made
    of_all f e = omega (arith, total_set f G.yard.plots G.yard.made q (plot G q b) inside h, e)

    quota_kept : (r : ℕ) → quota_at (with_bench G.yard q b) r ≡ quota_at G.yard r
    quota_kept r = go (same_or r q)
      where
        go : (r ≡ q) ⊎ (r ≢ q) → quota_at (with_bench G.yard q b) r ≡ quota_at G.yard r
        go (inl is) = rw is (ap (λ (p : Plot). p.quota) (get_or-set_same G.yard.plots q (plot G q b) no_plot inside))
        go (inr ne) = ap (λ (p : Plot). p.quota) (get_or-set_other G.yard.plots q r (plot G q b) no_plot ne)

    room_kept : (r : ℕ) → room_of (with_state G q b) r ≡ room_of G r
    room_kept r = rw (of_all claimed_by c, of_all held_by a, of_each held_by a r, of_each claimed_by c r, quota_kept r)

  -- A QUIET STEP of the queue
  abbrev ρ : Room
  ρ = room_of G q

  abbrev W : World
  W = world_of G q

  abbrev E : ℕ → Effect
  E i = next_effect ρ W i

  quiet_as : (i : ℕ) → QuietAt G q i → QuietAs W i (E i)
  quiet_as i Q =
      let e = ap (λ (Y : Yields). Y.answer) (call_is G T q (step i) h) in
      quiet_by ρ W i Q.claims_none Q.lands_none (rw e at Q.accepted) (rw e at Q.ends_none)

  abbrev left : ℕ → Ground
  left i = with_state G q (moved W i (E i)).bench

  step_is : (i : ℕ) → QuietAt G q i → step_at G q i ≡ record { the_ground = left i; answer = (E i).answer }
  step_is i Q =
      call_is G T q (step i) h ∙ ap (leaves G q) (quiet_in ρ W i (quiet_as i Q))
      ∙ ap (λ (l : List (List ℕ)). record { the_ground = record { yard = (left i).yard; store = G.store; logs = l }; answer = (E i).answer }) (set-get_or G.logs q [])

  left_tended : (i : ℕ) → QuietAt G q i → Tended (left i)
  left_tended i Q = subst (λ (Y : Yields). Tended Y.the_ground) (step_is i Q) (yields_tended T (on q (step i)))

  left_room : (i r : ℕ) → room_of (left i) r ≡ room_of G r
  left_room i r = room_kept (moved W i (E i)).bench refl refl r

  -- ANOTHER STEP behind it: of the same queue
  left_here : (i : ℕ) → world_of (left i) q ≡ moved W i (E i)
  left_here i = ap (λ (p : Plot). lent p.bench G.store (log_at G q)) (get_or-set_same G.yard.plots q (plot G q (moved W i (E i)).bench) no_plot inside)

  again : (i j : ℕ) → QuietAt G q i → step_at (left i) q j ≡ leaves (left i) q (step_in ρ (step_in ρ W i).world j)
  again i j Q =
      call_is (left i) (left_tended i Q) q (step j) h
      ∙ ap (λ (r : Room). leaves (left i) q (step_in r (world_of (left i) q) j)) (left_room i q)
      ∙ ap (λ (X : World). leaves (left i) q (step_in ρ X j)) (left_here i ∙ sym (ap (λ (D : Outcome). D.world) (quiet_in ρ W i (quiet_as i Q))))

  back : (i : ℕ) (X : World) → put_back (left i) q X ≡ put_back G q X
  back i X =
      let b = (moved W i (E i)).bench in
      ap (λ (ps : List Plot). record { yard = record { plots = ps; made = G.yard.made }; store = X.store; logs = set G.logs q X.log })
      (ap (λ (p : Plot). set (set G.yard.plots q (plot G q b)) q (record { bench = X.bench; quota = p.quota })) (get_or-set_same G.yard.plots q (plot G q b) no_plot inside)
      ∙ set-set G.yard.plots q (plot G q b) (plot G q X.bench))

  behind : (i j : ℕ) → QuietAt G q i → step_at (step_at G q i).the_ground q j ≡ leaves G q (step_in ρ (step_in ρ W i).world j)
  behind i j Q =
      ap (λ (Y : Yields). step_at Y.the_ground q j) (step_is i Q) ∙ again i j Q
      ∙ ap (λ (H : Ground). record { the_ground = H; answer = (step_in ρ (step_in ρ W i).world j).answer }) (back i (step_in ρ (step_in ρ W i).world j).world)

  swap_one : (i j : ℕ) → i ≢ j → QuietAt G q i → QuietAt G q j → SwappedAt G q i q j
  swap_one i j ne Q P =
      let S = swap_in ρ W i j ne (quiet_as i Q) (quiet_as j P) in
      let a = behind j i P in
      let b = behind i j Q in
      record {
        grounds = ap (λ (Y : Yields). Y.the_ground) a ∙ ap (put_back G q) S.worlds ∙ sym (ap (λ (Y : Yields). Y.the_ground) b);
        first = ap (λ (Y : Yields). Y.answer) a ∙ S.first ∙ sym (ap (λ (Y : Yields). Y.answer) (call_is G T q (step i) h));
        second = ap (λ (Y : Yields). Y.answer) b ∙ S.second ∙ sym (ap (λ (Y : Yields). Y.answer) (call_is G T q (step j) h));
      }

-- of another queue
module _ {G : Ground} (T : Tended G) (q r : ℕ) (h : q < G.yard.made) (g : r < G.yard.made) (ne : q ≢ r) where
  left_there : (i : ℕ) → world_of (left T q h i) r ≡ world_of G r
  left_there i = ap (λ (p : Plot). lent p.bench G.store (log_at G r)) (get_or-set_other G.yard.plots q r (plot G q (moved (world_of G q) i (next_effect (room_of G q) (world_of G q) i)).bench) no_plot (λ e. ne (sym e)))

  abbrev mine : ℕ → Bench
  mine i = (moved (world_of G q) i (next_effect (room_of G q) (world_of G q) i)).bench

  abbrev theirs : ℕ → Bench
  theirs j = (moved (world_of G r) j (next_effect (room_of G r) (world_of G r) j)).bench

  as_sets : (i j : ℕ) → with_state (left T q h i) r (theirs j) ≡ record { yard = record { plots = set (set G.yard.plots q (plot G q (mine i))) r (plot G r (theirs j)); made = G.yard.made }; store = G.store; logs = G.logs }
  as_sets i j =
      ap (λ (p : Plot). record { yard = record { plots = set (set G.yard.plots q (plot G q (mine i))) r (record { bench = theirs j; quota = p.quota }); made = G.yard.made }; store = G.store; logs = G.logs })
      (get_or-set_other G.yard.plots q r (plot G q (mine i)) no_plot (λ e. ne (sym e)))

  beside : (i j : ℕ) → QuietAt G q i → QuietAt G r j → step_at (step_at G q i).the_ground r j ≡ record { the_ground = with_state (left T q h i) r (theirs j); answer = (step_at G r j).answer }
  beside i j Q P =
      ap (λ (Y : Yields). step_at Y.the_ground r j) (step_is T q h i Q)
      ∙ call_is (left T q h i) (left_tended T q h i Q) r (step j) g
      ∙ ap (λ (ρ : Room). leaves (left T q h i) r (step_in ρ (world_of (left T q h i) r) j)) (left_room T q h i r)
      ∙ ap (λ (X : World). leaves (left T q h i) r (step_in (room_of G r) X j)) (left_there i)
      ∙ ap (leaves (left T q h i) r) (quiet_in (room_of G r) (world_of G r) j (quiet_as T r g j P))
      ∙ ap (λ (l : List (List ℕ)). record { the_ground = record { yard = (with_state (left T q h i) r (theirs j)).yard; store = G.store; logs = l }; answer = (next_effect (room_of G r) (world_of G r) j).answer }) (set-get_or G.logs r [])
      ∙ ap (λ (a : Answer). record { the_ground = with_state (left T q h i) r (theirs j); answer = a }) (sym (ap (λ (Y : Yields). Y.answer) (step_is T r g j P)))

swap_two : {G : Ground} → Tended G → (q i r j : ℕ) → q < G.yard.made → r < G.yard.made → q ≢ r → QuietAt G q i → QuietAt G r j → SwappedAt G q i r j
swap_two {G} T q i r j h g ne Q P =
    let a = beside T r q g h (λ e. ne (sym e)) j i P Q in
    let b = beside T q r h g ne i j Q P in
    record {
      grounds =
          ap (λ (Y : Yields). Y.the_ground) a
          ∙ as_sets T r q g h (λ e. ne (sym e)) j i
          ∙ ap (λ (ps : List Plot). record { yard = record { plots = ps; made = G.yard.made }; store = G.store; logs = G.logs })
          (set_comm G.yard.plots r q (plot G r (theirs T q r h g ne j)) (plot G q (mine T q r h g ne i)) (λ e. ne (sym e)))
          ∙ sym (as_sets T q r h g ne i j)
          ∙ sym (ap (λ (Y : Yields). Y.the_ground) b);
      first = ap (λ (Y : Yields). Y.answer) a;
      second = ap (λ (Y : Yields). Y.answer) b;
    }

pub swap_quiet_in_yards : SwapQuietInYards
swap_quiet_in_yards m cs q i r j h g other Q P = go (same_or q r) other
  where
    T : Tended (ground_after (opened m) cs)
    T = tended_after cs (opened m) (opened_tended m)

    go : (q ≡ r) ⊎ (q ≢ r) → (q ≢ r) ⊎ (i ≢ j) → SwappedAt (ground_after (opened m) cs) q i r j
    go (inr ne) o = swap_two T q i r j h g ne Q P
    go (inl is) (inl ne) = absurd (ne is)
    go (inl is) (inr ne) =
        subst (λ (x : ℕ). QuietAt (ground_after (opened m) cs) x j → SwappedAt (ground_after (opened m) cs) q i x j) is (λ X. swap_one T q h i j ne Q X) P
