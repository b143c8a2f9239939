-- A queue's part in a yard's list is a list in company: what the other queues' calls and the makings write lies outside its arrays.
use mathlib.Core.Path.{◌≡◌, refl, sym, subst}
use mathlib.Core.Logic.{◌≢◌, ◌⊎◌, inl, inr}
use mathlib.Core.List.{List, [], ◌∷◌}
use Prim.Native.Nat.{ℕ, ◌<◌}
use native.Mathlib.Omega.{arith}
use lib.Dec.{eqb}
use borrow.Author.Tests.{eq-eqb, ne_eqb}
use Rattle.model.specs.declared.Room.{Room}
use Rattle.model.specs.declared.Setup.{Setup}
use Rattle.model.specs.declared.Refusal.{Refusal}
use Rattle.model.specs.declared.Answer.TheVariants.{Accepted, Refused}
use Rattle.model.specs.Tests.{when◌then◌else◌}
use Rattle.model.proofs.Tests.{if_true, if_false}
use Rattle.model.specs.World.{World}
use Rattle.model.specs.Calls.{Call}
use Rattle.model.specs.Run.{Played}
use Rattle.model.specs.Yard.{Ground, queue_at, world_of, claimed_words, room_of, Yields, on_of, make_of, YardCall, make, on, yields, ground_after, part}
use Rattle.theorems.proofs.Directory.{Others}
use Rattle.theorems.proofs.WholeRun.{storing}
use Rattle.theorems.proofs.Company.{Any, Turn, played_in, after_in, InCompany, Accompanied, nobody, passing, calling, of_company}
use Rattle.theorems.proofs.Fresh.{start_of, Started}
use Rattle.yards.specs.Yards.{opened, InYards}
use Rattle.yards.proofs.Grounds.{Tended, same_or, world_here, world_there, others_there, yard_admits, call_replaces, MayMake, make_cases, made_started, make_replaces, tended_replaced, call_is, on_cases, yields_tended, tended_after, opened_tended}

-- queue q sees a call pass
pub record Passes (G G' : Ground) (q : ℕ) : Type 0 where
  pub still : q < G'.yard.made
  pub world : world_of G' q ≡ storing (world_of G q) G'.store
  pub others : Others (queue_at G.yard q) G.store G'.store

idle : (G : Ground) (q : ℕ) → q < G.yard.made → Passes G G q
idle G q h = record { still = h; world = refl; others = record { long = refl; same = λ k a x y z. refl } }

pub make_passes : {G : Ground} → Tended G → (q : ℕ) → q < G.yard.made → (s : Setup) (quota : ℕ) (l : List ℕ) → Passes G (make_of G s quota l).the_ground q
make_passes {G} T q h s quota l =
    make_cases (λ (Y : Yields). Passes G Y.the_ground q) T (λ r x. idle G q h) s quota l
    (λ M. let R = make_replaces T s quota l M in record { still = omega arith; world = world_there T R q (omega arith); others = others_there T R q h (omega arith) })

pub on_passes : {G : Ground} → Tended G → (q : ℕ) → q < G.yard.made → (r : ℕ) (c : Call) → q ≢ r → Passes G (on_of G r c).the_ground q
on_passes {G} T q h r c ne =
    on_cases (λ (Y : Yields). Passes G Y.the_ground q) T (λ r x. idle G q h) r c
    (λ g. let R = call_replaces T r g c in record { still = h; world = world_there T R q ne; others = others_there T R q h ne })

module _ {E : Room → World → Type 0} where
  passed : {G G' : Ground} {q : ℕ} {T : List Played} {X : World} → Passes G G' q → Accompanied E (world_of G' q) T X → Accompanied E (world_of G q) T X
  passed {G} {G'} {q} {T} {X} P A = passing G'.store P.others (subst (λ (U : World). Accompanied E U T X) P.world A)

  -- queue q's own call
  own_call : {G : Ground} → Tended G → (q : ℕ) → q < G.yard.made → E (room_of G q) (world_of G q) → (c : Call) (T : List Played) (X : World) → Accompanied E (world_of (on_of G q c).the_ground q) T X
      → Accompanied E (world_of G q) (record { before = world_of G q; call = c; answer = (on_of G q c).answer } ∷ T) X
  own_call {G} K q h e c T X =
      subst (λ (Y : Yields). Accompanied E (world_of Y.the_ground q) T X → Accompanied E (world_of G q) (record { before = world_of G q; call = c; answer = Y.answer } ∷ T) X)
      (sym (call_is G K q c h)) (λ A. calling (room_of G q) c (yard_admits K q h) e (subst (λ (U : World). Accompanied E U T X) (world_here K (call_replaces K q h c)) A))

on_made : {G : Ground} → Tended G → (q r : ℕ) (c : Call) → q < G.yard.made → q < (on_of G r c).the_ground.yard.made
on_made {G} T q r c h = on_cases (λ (Y : Yields). q < Y.the_ground.yard.made) T (λ r x. h) r c (λ g. h)

-- THE PART of queue q. Where F holds of the yard at the list's end it holds all along, and gives E of the rooms
module _ (E : Room → World → Type 0) (q : ℕ) (F : Ground → Type 0)
    (back : (G : Ground) → Tended G → q < G.yard.made → (c : YardCall) → F (yields G c).the_ground → F G)
    (gives : (G : Ground) → Tended G → q < G.yard.made → F G → E (room_of G q) (world_of G q)) where
  pub made_on : {G : Ground} → Tended G → (c : YardCall) → q < G.yard.made → q < (yields G c).the_ground.yard.made
  made_on T (make s quota l) h = (make_passes T q h s quota l).still
  made_on T (on r c) h = on_made T q r c h

  pub all_along : (cs : List YardCall) (G : Ground) → Tended G → q < G.yard.made → F (ground_after G cs) → F G
  unfolding ground_after
  all_along [] G T h f = f
  all_along (c ∷ cs) G T h f = back G T h c (all_along cs (yields G c).the_ground (yields_tended T c) (made_on T c h) f)

  pub projected_with : (cs : List YardCall) (G : Ground) → Tended G → q < G.yard.made → F (ground_after G cs) → Accompanied E (world_of G q) (part q G cs) (world_of (ground_after G cs) q)
  unfolding part ground_after
  projected_with [] G T h f = nobody (world_of G q)
  projected_with (make s quota l ∷ cs) G T h f =
      let P = make_passes T q h s quota l in
      passed P (projected_with cs (make_of G s quota l).the_ground (yields_tended T (make s quota l)) P.still f)
  projected_with (on r c ∷ cs) G T h f = go (same_or r q) (projected_with cs (on_of G r c).the_ground (yields_tended T (on r c)) (on_made T q r c h) f)
    where
      rest : List Played
      rest = part q (on_of G r c).the_ground cs

      end : World
      end = world_of (ground_after (on_of G r c).the_ground cs) q

      e : E (room_of G q) (world_of G q)
      e = gives G T h (back G T h (on r c) (all_along cs (on_of G r c).the_ground (yields_tended T (on r c)) (on_made T q r c h) f))

      go : (r ≡ q) ⊎ (r ≢ q) → Accompanied E (world_of (on_of G r c).the_ground q) rest end
          → Accompanied E (world_of G q) (when eqb r q then record { before = world_of G q; call = c; answer = (on_of G r c).answer } ∷ rest else rest) end
      go (inl is) A =
          subst (λ (T : List Played). Accompanied E (world_of G q) T end) (sym (if_true _ (eq-eqb r q is)))
          (subst (λ (x : ℕ). Accompanied E (world_of (on_of G x c).the_ground q) rest end → Accompanied E (world_of G q) (record { before = world_of G q; call = c; answer = (on_of G x c).answer } ∷ rest) end)
          (sym is) (own_call T q h e c rest end) A)
      go (inr ne) A =
          subst (λ (T : List Played). Accompanied E (world_of G q) T end) (sym (if_false _ (ne_eqb r q ne))) (passed (on_passes T q h r c (λ e. ne (sym e))) A)

pub projected : (cs : List YardCall) (G : Ground) → Tended G → (q : ℕ) → q < G.yard.made → Accompanied Any (world_of G q) (part q G cs) (world_of (ground_after G cs) q)
projected cs G T q h = projected_with Any q (λ (G : Ground). Unit {0}) (λ G T h c f. tt) (λ G T h f. tt) cs G T h tt

-- and it stays made
pub made_after : (cs : List YardCall) (G : Ground) → Tended G → (q : ℕ) → q < G.yard.made → q < (ground_after G cs).yard.made
unfolding ground_after
made_after [] G T q h = h
made_after (c ∷ cs) G T q h = made_after cs (yields G c).the_ground (yields_tended T c) q (made_on Any q (λ (G : Ground). Unit {0}) (λ G T h c f. tt) (λ G T h f. tt) T c h)

-- AN ACCEPTED MAKING leaves a queue that is started
pub record Made (G : Ground) (q o : ℕ) (s : Setup) (m l : List ℕ) : Type 0 where
  pub tended : Tended G
  pub inside : q < G.yard.made
  pub world : world_of G q ≡ start_of o s m l
  pub started : Started (world_of G q)

pub refused_not : (r : Refusal) → Refused r ≡ Accepted → ⊥
refused_not r e = let z : ◌≡◌ {A = ℕ} 0 1 = cc in omega arith

pub made_well : (G : Ground) → Tended G → (s : Setup) (quota : ℕ) (l : List ℕ) → (make_of G s quota l).answer ≡ Accepted
    → Made (make_of G s quota l).the_ground G.yard.made (claimed_words G.yard) s G.store l × MayMake G s quota
made_well G T s quota l =
    make_cases (λ (Y : Yields). Y.answer ≡ Accepted → Made Y.the_ground G.yard.made (claimed_words G.yard) s G.store l × MayMake G s quota) T (λ r x e. absurd (refused_not r e)) s quota l
    (λ M e.
    let R = make_replaces T s quota l M in
    let W = world_here T R in
    (record { tended = tended_replaced T R; inside = omega arith; world = W; started = subst Started (sym W) (made_started T s quota l M) }, M))

-- so what holds of every list in company from such a queue holds in yards
pub in_yards : (P : World → List Played → World → Type 0) → ((U : World) → Started U → (ts : List Turn) → InCompany U ts → P U (played_in U ts) (after_in U ts)) → InYards P
in_yards P f m before s quota l e cs =
    let G = ground_after (opened m) before in
    let M = (made_well G (tended_after before (opened m) (opened_tended m)) s quota l e).0 in
    let H = (make_of G s quota l).the_ground in
    let U = world_of H G.yard.made in
    of_company (P U) (projected cs H M.tended G.yard.made M.inside) (f U M.started)
