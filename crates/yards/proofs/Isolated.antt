-- Isolation: where the quotas fit the store, a queue of a yard answers and logs as a lone one does.
use mathlib.Core.Path.{◌≡◌, refl, sym, ◌∙◌, ap, subst}
use mathlib.Core.Bool.{true}
use mathlib.Core.Logic.{◌≢◌, ◌⊎◌, inl, inr}
use mathlib.Core.List.{List, [], ◌∷◌, map}
use Prim.Native.Nat.{ℕ, zero, suc, ◌+◌, ◌-◌, ◌*◌, ◌≤◌, ◌<◌}
use native.Mathlib.Omega.{arith}
use native.Mathlib.Nat.{mul-div_cancel_left}
use lib.Dec.{ltb, leb}
use lib.ListN.{length, get_or, set}
use lib.Seq.{get_or-set_other, get_or-set_same}
use borrow.Author.Tests.{le-leb, lt-ltb}
use Rattle.model.specs.declared.Queue.{Queue}
use Rattle.model.specs.declared.Region.{Region}
use Rattle.model.specs.declared.Room.{Room}
use Rattle.model.specs.declared.Bench.{Bench}
use Rattle.model.specs.declared.Plot.{Plot}
use Rattle.model.specs.declared.Setup.{Setup}
use Rattle.model.specs.declared.Refusal.{Refusal}
use Rattle.model.specs.declared.Answer.{Answer}
use Rattle.model.specs.declared.Answer.TheVariants.{Accepted}
use Rattle.model.specs.Tests.{least, ◌and◌}
use Rattle.model.specs.Memory.{word_at, zeros, offset_at, length_at, size_at, usable}
use Rattle.model.specs.Stores.{words_taken}
use Rattle.model.specs.World.{World, Outcome, refuse, room_alone}
use Rattle.model.specs.Calls.{no_bench, lent, new_bench, first_length, admitted, fresh_of, Call, call_in, call_of}
use Rattle.model.specs.Run.{Played, played, after}
use Rattle.model.specs.Yard.{Ground, no_plot, bench_at, queue_at, quota_at, world_of, total_of, claimed_by, held_by, claimed_words, aside_words, room_of, Yields, make_of, YardCall, make, on, yields, ground_after, part}
use Rattle.model.proofs.Tests.{if_true, and_both}
use Rattle.model.proofs.Alone.{least_is_left, least_is_right, least_right, left_alone, at_most_usable}
use Rattle.theorems.proofs.Words.{earlier_slot, zeros_length}
use Rattle.theorems.proofs.Directory.{Admits, Others, long_at}
use Rattle.theorems.proofs.Valid.{Whole, Snug, valid}
use Rattle.theorems.proofs.Cases.{alone_is}
use Rattle.theorems.proofs.WholeRun.{storing, call_whole, others_whole}
use Rattle.theorems.proofs.Company.{Any, Turn, others, own, played_in, after_in, InCompany, Each, of_each}
use Rattle.theorems.proofs.Fresh.{Admitted, start_of, Started, started, fresh_snug}
use Rattle.theorems.proofs.Alone.{alone_admits, call_snug, words_front}
use Rattle.yards.specs.Yards.{opened, quotas_of, QuotasFit, answers_of, calls_of, Isolation}
use Rattle.yards.proofs.Writes.{call_changes}
use Rattle.yards.proofs.Grounds.{Tended, same_or, part_of, yields_tended, tended_after, opened_tended, MayMake, make_cases, made_started, make_replaces, call_replaces, on_cases}
use Rattle.yards.proofs.Parts.{refused_not, Made, made_well, made_on, all_along, projected_with}
use Rattle.yards.proofs.Mirror.{redirect, Like}
use Rattle.yards.proofs.Likes.{zeroed}
use Rattle.yards.proofs.Reflected.{lonely, Reflects, call_reflects}

-- A LIST, where each call finds left what its quota leaves
abbrev Quota : ℕ → Room → World → Type 0
Quota quota ρ W = ρ.left ≡ quota - words_taken W.bench.queue

-- alone, in a store as long as the quota
alone_left : (W : World) (quota : ℕ) → quota ≤ 10235 → length W.store ≡ quota → (room_alone W).left ≡ quota - words_taken W.bench.queue
alone_left W quota h e = left_alone W ∙ ap (λ (x : ℕ). x - words_taken W.bench.queue) (ap (λ (n : ℕ). least n 10235) e ∙ least_is_left quota 10235 h)

like_words : (ω : ℕ) (q : Queue) (m : List ℕ) (d : List Region) (m' : List ℕ) → Like ω q m d m' → words_taken (redirect q d) ≡ words_taken q
like_words ω q m d m' L = words_front q.arrays d q.claimed (λ k h. L.lengths k)

like_others : (ω : ℕ) (q : Queue) (m : List ℕ) (d : List Region) (m' m₁ : List ℕ) → ((k : ℕ) → k < q.claimed → length_at q.arrays k ≡ (ω + 1) * size_at ω q.arrays k) → Like ω q m d m' → Others q m m₁ → Like ω q m₁ d m'
unfolding word_at
like_others ω q m d m' m₁ long L O =
    record {
      long = L.long;
      lengths = L.lengths;
      words = λ k t j h g hj.
          L.words k t j h g hj
          ∙ sym (O.same k (offset_at q.arrays k + (ω + 1) * t + j) h (omega arith) (omega (arith, long k h, earlier_slot (ω + 1) t (size_at ω q.arrays k) j g (omega arith))));
    }

-- T ends in X, and the lone queue U answers and logs alike
abbrev Equals : World → List Played → World → Type 0
Equals U T X = (answers_of T ≡ answers_of (played U (calls_of T))) × (X.log ≡ (after U (calls_of T)).log)

-- a lone queue's call leaves X
lone_next : (U : World) → Whole U → Snug U.bench U.store → (c : Call) (X : Outcome) → call_in (room_alone U) U c ≡ X
    → Whole X.world × Snug X.world.bench X.world.store × (length X.world.store ≡ length U.store) × (call_of U c ≡ X)
lone_next U K s c X e =
    let R = alone_admits U s in (
      subst (λ (X : Outcome). Whole X.world) e (call_whole (room_alone U) K R c),
      subst (λ (X : Outcome). Snug X.world.bench X.world.store) e (call_snug U K s c),
      subst (λ (X : Outcome). length X.world.store ≡ length U.store) e (call_changes K (room_alone U) R c).untouched.long,
      alone_is U c (valid U K s) ∙ e,
    )

reflected : (W : World) (d : List Region) (m : List ℕ) → Whole W → Whole (lonely W d m) → Like W.bench.words W.bench.queue W.store d m → (quota : ℕ) → quota ≤ 10235 → Snug (lonely W d m).bench m
    → length m ≡ quota → (ρ : Room) → Admits ρ W.bench W.store → Quota quota ρ W → (c : Call) → Reflects (call_in ρ W c) (call_in (room_alone (lonely W d m)) (lonely W d m) c)
reflected W d m H K L quota small s n ρ R e c =
    call_reflects W d m H K L ρ (room_alone (lonely W d m)) R (alone_admits (lonely W d m) s)
    (alone_left (lonely W d m) quota small n ∙ ap (λ (x : ℕ). quota - x) (like_words W.bench.words W.bench.queue W.store d m L) ∙ sym e) c

-- one call more
equals_next : (U : World) (c : Call) (X : Outcome) → call_of U c ≡ X → (a : Answer) (B : World) (T : List Played) (Z : World) → X.answer ≡ a → Equals X.world T Z → Equals U (record { before = B; call = c; answer = a } ∷ T) Z
unfolding played after
equals_next U c X e a B T Z f (p, r) = (rw (sym f) (subst (λ (Y : Outcome). X.answer ∷ answers_of T ≡ Y.answer ∷ answers_of (played Y.world (calls_of T))) (sym e) (ap (λ (A : List Answer). X.answer ∷ A) p)), subst (λ (Y : Outcome). Z.log ≡ (after Y.world (calls_of T)).log) (sym e) r)

isolated : (quota : ℕ) → quota ≤ 10235 → (ts : List Turn) (W : World) (d : List Region) (m : List ℕ) → Whole W → Whole (lonely W d m) → Snug (lonely W d m).bench m → length m ≡ quota
    → Like W.bench.words W.bench.queue W.store d m → InCompany W ts → Each (Quota quota) W ts → Equals (lonely W d m) (played_in W ts) (after_in W ts)
unfolding played_in after_in InCompany Each played after
isolated quota small [] W d m H K s n L C E = (refl, refl)
isolated quota small (others m₁ ∷ ts) W d m H K s n L (O, C) E =
    isolated quota small ts (storing W m₁) d m (others_whole H O) K s n (like_others W.bench.words W.bench.queue W.store d m m₁ (long_at H.shape.arrays) L O) C E
isolated quota small (own ρ c ∷ ts) W d m H K s n L (R, C) (e, E) =
    let (d₁, m₁, L₁, is) = reflected W d m H K L quota small s n ρ R e c in
    let N = lone_next (lonely W d m) K s c _ is in
    let I = isolated quota small ts (call_in ρ W c).world d₁ m₁ (call_whole ρ H R c) N.0 N.1 (N.2 ∙ n) L₁ C E in
    equals_next (lonely W d m) c _ N.3 (call_in ρ W c).answer W (played_in (call_in ρ W c).world ts) (after_in (call_in ρ W c).world ts) refl I

-- QUOTAS. Each queue keeps within its own, words set aside counted
abbrev spent : Bench → ℕ
spent b = words_taken b.queue + b.aside

-- the sum of the plots' own
abbrev sums : List Plot → ℕ → ℕ
sums ps n = quotas_of (map (λ (p : Plot). p.quota) ps) n

quota_in : (ps : List Plot) (n : ℕ) → get_or (map (λ (p : Plot). p.quota) ps) n 0 ≡ (get_or ps n no_plot).quota
quota_in [] n = refl
quota_in (p ∷ ps) zero = refl
quota_in (p ∷ ps) (suc n) = quota_in ps n

quotas_cover : (ps : List Plot) (n : ℕ) → ((r : ℕ) → r < n → spent (get_or ps r no_plot).bench ≤ (get_or ps r no_plot).quota) → total_of claimed_by ps n + total_of held_by ps n ≤ sums ps n
unfolding total_of quotas_of
quotas_cover ps zero f = omega arith
quotas_cover ps (suc n) f = omega (arith, quotas_cover ps n (λ r h. f r (omega arith)), f n (omega arith), quota_in ps n)

-- so what the others have claimed and set aside leaves q its quota
quotas_leave : (ps : List Plot) (n q : ℕ) → ((r : ℕ) → r < n → spent (get_or ps r no_plot).bench ≤ (get_or ps r no_plot).quota) → q < n
    → (total_of claimed_by ps n + total_of held_by ps n + (get_or ps q no_plot).quota ≤ sums ps n + spent (get_or ps q no_plot).bench) × ((get_or ps q no_plot).quota ≤ sums ps n)
unfolding total_of quotas_of
quotas_leave ps zero q f h = absurd (omega arith)
quotas_leave ps (suc n) q f h = go (same_or q n) (λ a. quotas_leave ps n q (λ r h. f r (omega arith)) a)
  where
    before : ℕ
    before = total_of claimed_by ps n + total_of held_by ps n

    go : (q ≡ n) ⊎ (q ≢ n) → (q < n → (before + (get_or ps q no_plot).quota ≤ sums ps n + spent (get_or ps q no_plot).bench) × ((get_or ps q no_plot).quota ≤ sums ps n))
        → (total_of claimed_by ps n + words_taken (get_or ps n no_plot).bench.queue + (total_of held_by ps n + (get_or ps n no_plot).bench.aside) + (get_or ps q no_plot).quota ≤ sums ps n + get_or (map (λ (p : Plot). p.quota) ps) n 0 + spent (get_or ps q no_plot).bench) × ((get_or ps q no_plot).quota ≤ sums ps n + get_or (map (λ (p : Plot). p.quota) ps) n 0)
    go (inl e) k = (
      omega (arith, quotas_cover ps n (λ r h. f r (omega arith)), quota_in ps n, ap (λ (x : ℕ). (get_or ps x no_plot).quota) e, ap (λ (x : ℕ). spent (get_or ps x no_plot).bench) e),
      omega (arith, quota_in ps n, ap (λ (x : ℕ). (get_or ps x no_plot).quota) e),
    )
    go (inr ne) k = let r = k (omega arith) in (omega (arith, r.0, f n (omega arith), quota_in ps n), omega (arith, r.1))

-- the quotas fit, and queue q's is this
abbrev Fair : ℕ → ℕ → Ground → Type 0
Fair q quota G = QuotasFit G × (quota_at G.yard q ≡ quota)

fair_left : (q quota : ℕ) (G : Ground) → Tended G → q < G.yard.made → Fair q quota G → Quota quota (room_of G q) (world_of G q)
fair_left q quota G T h (fit, is) =
    let Y = G.yard in
    let leave = (quotas_leave Y.plots Y.made q T.quota h).0 in
    least_is_right (usable G.store - (claimed_words Y + (aside_words Y - (bench_at Y q).aside))) (quota_at Y q - words_taken (queue_at Y q)) (omega (arith, leave, fit, T.fits, part_of held_by Y.plots Y.made q h))
    ∙ ap (λ (x : ℕ). x - words_taken (queue_at Y q)) is

-- a call keeps queue q's quota, and the sum does not fall
record Dearer (q : ℕ) (G G' : Ground) : Type 0 where
  sum : sums G.yard.plots G.yard.made ≤ sums G'.yard.plots G'.yard.made
  own : quota_at G'.yard q ≡ quota_at G.yard q
  long : length G'.store ≡ length G.store

quotas_keep : (ps : List Plot) (n r : ℕ) (x : Plot) → n ≤ r → sums (set ps r x) n ≡ sums ps n
unfolding quotas_of
quotas_keep ps zero r x h = refl
quotas_keep ps (suc n) r x h =
    omega (arith, quotas_keep ps n r x (omega arith), quota_in (set ps r x) n, quota_in ps n, ap (λ (p : Plot). p.quota) (get_or-set_other ps r n x no_plot (omega arith)))

-- a plot whose bench alone is another
same_quota : (ps : List Plot) (r : ℕ) (b : Bench) → r < length ps → (k : ℕ) → (get_or (set ps r (record { bench = b; quota = (get_or ps r no_plot).quota })) k no_plot).quota ≡ (get_or ps k no_plot).quota
same_quota ps r b h k = go (same_or k r)
  where
    x : Plot
    x = record { bench = b; quota = (get_or ps r no_plot).quota }

    go : (k ≡ r) ⊎ (k ≢ r) → (get_or (set ps r x) k no_plot).quota ≡ (get_or ps k no_plot).quota
    go (inl e) = rw e (ap (λ (p : Plot). p.quota) (get_or-set_same ps r x no_plot h))
    go (inr ne) = ap (λ (p : Plot). p.quota) (get_or-set_other ps r k x no_plot ne)

quotas_same : (ps : List Plot) (r : ℕ) (b : Bench) → r < length ps → (n : ℕ) → sums (set ps r (record { bench = b; quota = (get_or ps r no_plot).quota })) n ≡ sums ps n
unfolding quotas_of
quotas_same ps r b h zero = refl
quotas_same ps r b h (suc n) =
    omega (arith, quotas_same ps r b h n, quota_in (set ps r (record { bench = b; quota = (get_or ps r no_plot).quota })) n, quota_in ps n, same_quota ps r b h n)

as_dear : (q : ℕ) (G : Ground) → Dearer q G G
as_dear q G = record { sum = omega arith; own = refl; long = refl }

dearer : {G : Ground} → Tended G → (q : ℕ) → q < G.yard.made → (c : YardCall) → Dearer q G (yields G c).the_ground
unfolding quotas_of
dearer {G} T q h (make s quota l) =
    make_cases (λ (Y : Yields). Dearer q G Y.the_ground) T (λ r x. as_dear q G) s quota l
    (λ M.
    let x : Plot = record { bench = new_bench (claimed_words G.yard) s; quota = quota } in
    record {
      sum =
          subst (λ (n : ℕ). sums G.yard.plots G.yard.made ≤ sums (set G.yard.plots G.yard.made x) n) {x = suc G.yard.made} {y = G.yard.made + 1} (omega arith)
          (omega (arith, quotas_keep G.yard.plots G.yard.made G.yard.made x (omega arith)));
      own = ap (λ (p : Plot). p.quota) (get_or-set_other G.yard.plots G.yard.made q x no_plot (omega arith));
      long = (make_replaces T s quota l M).untouched.long;
    })
dearer {G} T q h (on r c) =
    on_cases (λ (Y : Yields). Dearer q G Y.the_ground) T (λ r x. as_dear q G) r c
    (λ g.
    let b = (call_in (room_of G r) (world_of G r) c).world.bench in
    record {
      sum = omega (arith, quotas_same G.yard.plots r b (omega (arith, g, T.plots, T.made)) G.yard.made);
      own = same_quota G.yard.plots r b (omega (arith, g, T.plots, T.made)) q;
      long = (call_replaces T r g c).untouched.long;
    })

back : (q quota : ℕ) (G : Ground) → Tended G → q < G.yard.made → (c : YardCall) → Fair q quota (yields G c).the_ground → Fair q quota G
back q quota G T h c (fit, is) =
    let B = dearer T q h c in
    let u : usable (yields G c).the_ground.store ≡ usable G.store = ap (λ (n : ℕ). least n 10235) B.long in
    (omega (arith, B.sum, u, fit), sym B.own ∙ is)

quota_after : (cs : List YardCall) (G : Ground) → Tended G → (q : ℕ) → q < G.yard.made → quota_at (ground_after G cs).yard q ≡ quota_at G.yard q
unfolding ground_after
quota_after [] G T q h = refl
quota_after (c ∷ cs) G T q h =
    quota_after cs (yields G c).the_ground (yields_tended T c) q (made_on Any q (λ (G : Ground). Unit {0}) (λ G T h c f. tt) (λ G T h f. tt) T c h) ∙ (dearer T q h c).own

-- THE CLAIM
first_like : (o : ℕ) (s : Setup) (m m' : List ℕ) → o + first_length s ≤ length m → first_length s ≤ length m'
    → Like s.words (new_bench o s).queue (zeros m o (first_length s)) (new_bench 0 s).queue.arrays (zeros m' 0 (first_length s))
unfolding size_at length_at offset_at
first_like o s m m' h h' = record { long = refl; lengths = lens; words = wds }
  where
    lens : (k : ℕ) → length_at (new_bench 0 s).queue.arrays k ≡ length_at (new_bench o s).queue.arrays k
    lens zero = refl
    lens (suc k) = refl

    wds : (k t j : ℕ) → k < 1 → t < size_at s.words (new_bench o s).queue.arrays k → j ≤ s.words
        → word_at (zeros m' 0 (first_length s)) s.words (offset_at (new_bench 0 s).queue.arrays k) t j ≡ word_at (zeros m o (first_length s)) s.words (offset_at (new_bench o s).queue.arrays k) t j
    wds zero t j a b hj =
        let g : t < s.size = omega (arith, b, mul-div_cancel_left s.size (let z : 0 < s.words + 1 = omega arith in z)) in
        let i = earlier_slot (s.words + 1) t s.size j g (omega arith) in
        zeroed m' s.words 0 (first_length s) t j i (omega arith) ∙ sym (zeroed m s.words o (first_length s) t j i (omega arith))
    wds (suc k) t j a b hj = absurd (omega arith)

-- all tests of a fresh are passed
admits_it : {A : Type 0} (R : Refusal → A) (s : Setup) (n : ℕ) (x : A) → Admitted s n → admitted s n R x ≡ x
admits_it R s n x A =
    if_true _ A.kind ∙ if_true _ (ranged 16 s.width A.width) ∙ if_true _ A.test ∙ if_true _ (ranged 8 s.crew A.crew) ∙ if_true _ (ranged 4 s.words A.words) ∙ if_true _ (le-leb (first_length s) n A.room)
  where
    ranged : (most k : ℕ) → (0 < k) × (k ≤ most) → (ltb 0 k and leb k most) ≡ true
    ranged most k (a, b) = and_both _ _ (lt-ltb 0 k a) (le-leb k most b)

fresh_accepted : (s : Setup) (m l : List ℕ) → Admitted s (usable m) → fresh_of s m l ≡ record { world = start_of 0 s m l; answer = Accepted }
unfolding fresh_of
fresh_accepted s m l A = admits_it (λ r. refuse (lent no_bench m l) r) s (usable m) _ A

made_quota : (G : Ground) → Tended G → (s : Setup) (quota : ℕ) (l : List ℕ) → (make_of G s quota l).answer ≡ Accepted → quota_at (make_of G s quota l).the_ground.yard G.yard.made ≡ quota
made_quota G T s quota l =
    make_cases (λ (Y : Yields). Y.answer ≡ Accepted → quota_at Y.the_ground.yard G.yard.made ≡ quota) T (λ r x e. absurd (refused_not r e)) s quota l
    (λ M e. ap (λ (p : Plot). p.quota) (get_or-set_same G.yard.plots G.yard.made (record { bench = new_bench (claimed_words G.yard) s; quota = quota }) no_plot (omega (arith, T.plots, M.free))))

pub isolation : Isolation
isolation m before s quota l e cs fit lone long = (ap (λ (D : Outcome). D.answer) fresh, both.0, both.1)
  where
    G : Ground
    G = ground_after (opened m) before

    T : Tended G
    T = tended_after before (opened m) (opened_tended m)

    G₁ : Ground
    G₁ = (make_of G s quota l).the_ground

    q : ℕ
    q = G.yard.made

    M : Made G₁ q (claimed_words G.yard) s G.store l × MayMake G s quota
    M = made_well G T s quota l e

    fair : Fair q quota (ground_after G₁ cs)
    fair = (fit, quota_after cs G₁ M.0.tended q M.0.inside ∙ made_quota G T s quota l e)

    fair₁ : Fair q quota G₁
    fair₁ = all_along (Quota quota) q (Fair q quota) (back q quota) (fair_left q quota) cs G₁ M.0.tended M.0.inside fair

    small : quota ≤ 10235
    small =
        let own = (quotas_leave G₁.yard.plots G₁.yard.made q M.0.tended.quota M.0.inside).1 in
        omega (arith, fair₁.0, fair₁.1, own, least_right (length G₁.store) 10235)

    all_usable : usable lone ≡ quota
    all_usable = ap (λ (n : ℕ). least n 10235) long ∙ least_is_left quota 10235 small

    alone : Admitted s (usable lone)
    alone =
        let A = M.1.admitted in
        record { kind = A.kind; width = A.width; test = A.test; crew = A.crew; words = A.words; room = omega (arith, M.1.enough, all_usable) }

    fresh : fresh_of s lone l ≡ record { world = start_of 0 s lone l; answer = Accepted }
    fresh = fresh_accepted s lone l alone

    here : Started (start_of (claimed_words G.yard) s G.store l)
    here = made_started T s quota l M.1

    there : Started (start_of 0 s lone l)
    there = started 0 s (usable lone) lone l alone (omega (arith, at_most_usable lone))

    in_store : claimed_words G.yard + first_length s ≤ length G.store
    in_store = let u = at_most_usable G.store in omega (arith, u, T.fits, M.1.admitted.room)

    both : Equals (fresh_of s lone l).world (part q G₁ cs) (world_of (ground_after G₁ cs) q)
    both =
        subst (λ (D : Outcome). Equals D.world (part q G₁ cs) (world_of (ground_after G₁ cs) q)) (sym fresh)
        (of_each (Equals (start_of 0 s lone l)) (projected_with (Quota quota) q (Fair q quota) (back q quota) (fair_left q quota) cs G₁ M.0.tended M.0.inside fair)
        (λ ts.
        subst (λ (U : World). InCompany U ts → Each (Quota quota) U ts → Equals (start_of 0 s lone l) (played_in U ts) (after_in U ts)) (sym M.0.world)
        (isolated quota small ts (start_of (claimed_words G.yard) s G.store l) (new_bench 0 s).queue.arrays (zeros lone 0 (first_length s)) here.whole there.whole (fresh_snug s lone l alone)
        (zeros_length lone 0 (first_length s) (omega (arith, M.1.enough, long)) ∙ long) (first_like (claimed_words G.yard) s G.store lone in_store (omega (arith, M.1.enough, long))))))
