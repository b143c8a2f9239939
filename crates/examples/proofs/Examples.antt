-- Lists tried against the statement by computation: P1 breaks the premise and loses a task, P2 keeps it; and for each
-- sentence of the claim a list past the premise that meets a weaker sentence and not this one.
use mathlib.Core.Path.{◌≡◌, refl, sym, ◌∙◌, ap, subst}
use mathlib.Core.Bool.{Bool, true, false, true≢false}
use mathlib.Core.Logic.{◌⊎◌, inl, inr}
use mathlib.Core.List.{List, [], ◌∷◌, ◌++◌}
use Prim.Native.Nat.{ℕ, zero, suc, ◌-◌, ◌≤◌, ◌<◌}
use native.Mathlib.Omega.{arith}
use native.Mathlib.Nat.{sub-zero, suc-sub-suc}
use lib.Dec.{eqb}
use lib.ListN.{take, drop, replicate}
use borrow.Author.Tests.{eq-eqb}
use Rattle.model.specs.declared.Payload.{Payload}
use Rattle.model.specs.declared.Task.{Task}
use Rattle.model.specs.declared.Operation.TheVariants.{Put, Take, Steal}
use Rattle.model.specs.declared.Answer.{Answer}
use Rattle.model.specs.declared.Answer.TheVariants.{Accepted, Numbered, GoesOn, Finished, HandedOut, Empty, Full, Grown, Refused}
use Rattle.model.proofs.Tests.{and_both, or_false}
use Rattle.model.specs.Tests.{when◌then◌else◌, ◌and◌, ◌or◌}
use Rattle.model.specs.Memory.{zeros, word_at, set_word, offset_at, length_at, size_at, words_to}
use Rattle.model.specs.Tasks.{payload, task, word_in, with_word, gathered, first_words, same_task}
use Rattle.model.proofs.Tasks.{task_same}
use Rattle.model.proofs.Runs.{one}
use Rattle.model.specs.Figures.{anchor}
use Rattle.model.specs.Stores.{landed_all}
use Rattle.model.specs.Lines.{line_step}
use Rattle.model.specs.World.{World, tag_bits, line_at}
use Rattle.model.specs.Limits.{valid_of}
use Rattle.model.specs.Calls.{fresh_of, setup, begin_of, step_of, Call, begin, step, drop_link, drain, ask, drop_ask}
use Rattle.model.specs.Run.{Played, played, after}
use Rattle.model.specs.Window.{window_size}
use Rattle.theorems.specs.Demand3.{At, Begins, Line1, Attempt, Out, AllOut, Stands, puts, between, Few, FewPuts, Demand3}
use Rattle.premise.specs.Premise.{Loses}
use Rattle.premise.proofs.Rounds.{short}
use Rattle.premise.proofs.WidestTag.{puts_drop, puts_take}
use Rattle.theorems.proofs.Events.{is_line_1}
use Rattle.theorems.proofs.NothingLost.{demand3}
use Rattle.theorems.proofs.Remainders.{le_or_lt}

-- TESTS over places. A task is handed out nowhere
unfoldable pub is_out : Task → Answer → Bool
is_out t Accepted = false
is_out t (Numbered n) = false
is_out t GoesOn = false
is_out t (Finished i u) = false
is_out t (HandedOut i u) = same_task u t
is_out t (Empty i) = false
is_out t (Full i u) = false
is_out t (Grown i) = false
is_out t (Refused r) = false

unfoldable pub any_out : Task → List Played → Bool
any_out t [] = false
any_out t (s ∷ T) = is_out t s.answer or any_out t T

not_both : {a : Bool} → a ≡ true → a ≡ false → ⊥
not_both p q = true≢false (sym p ∙ q)

out_yes : (t : Task) (a : Answer) (i : ℕ) → a ≡ HandedOut i t → is_out t a ≡ true
unfolding is_out
out_yes t a i e = ap (is_out t) e ∙ task_same t t refl

pub none_out : (t : Task) (T : List Played) → any_out t T ≡ false → (k : ℕ) → Out T k t → ⊥
unfolding any_out
none_out t [] f k a = a
none_out t (s ∷ T) f zero (i, e) = not_both (out_yes t s.answer i e) (or_false (is_out t s.answer) _ f).0
none_out t (s ∷ T) f (suc k) a = none_out t T (or_false (is_out t s.answer) _ f).1 k a

-- no call of a part is a line 1 of worker i
unfoldable pub is_step : ℕ → Call → Bool
is_step i (begin j op) = false
is_step i (step j) = eqb j i
is_step i (drop_link j) = false
is_step i drain = false
is_step i (ask j) = false
is_step i (drop_ask j) = false

unfoldable pub starts_attempt : ℕ → Played → Bool
starts_attempt i s = is_step i s.call and is_line_1 (line_at s.before.bench.workers i)

unfoldable pub any_start : ℕ → List Played → Bool
any_start i [] = false
any_start i (s ∷ T) = starts_attempt i s or any_start i T

start_yes : (i : ℕ) (s : Played) → Line1 i s → starts_attempt i s ≡ true
unfolding starts_attempt is_step ◌or◌
start_yes i s (inl (c, l, n)) = and_both _ _ (ap (is_step i) c ∙ eq-eqb i i refl) (ap is_line_1 l)
start_yes i s (inr (c, l, n)) = and_both _ _ (ap (is_step i) c ∙ eq-eqb i i refl) (ap is_line_1 l)

none_starts : (i : ℕ) (T : List Played) → any_start i T ≡ false → (k : ℕ) → At T k (Line1 i) → ⊥
unfolding any_start
none_starts i [] f k a = a
none_starts i (s ∷ T) f zero a = not_both (start_yes i s a) (or_false (starts_attempt i s) _ f).0
none_starts i (s ∷ T) f (suc k) a = none_starts i T (or_false (starts_attempt i s) _ f).1 k a

at_drop : (T : List Played) (l k : ℕ) (P : Played → Type 0) → l ≤ k → At T k P → At (drop l T) (k - l) P
at_drop T zero k P h a = rw (sub-zero k) a
at_drop [] (suc l) k P h a = absurd a
at_drop (s ∷ T) (suc l) zero P h a = absurd (omega arith)
at_drop (s ∷ T) (suc l) (suc k) P h a = rw (suc-sub-suc k l) (at_drop T l k P (omega arith) a)

at_take : (T : List Played) (n k : ℕ) (P : Played → Type 0) → k < n → At T k P → At (take n T) k P
at_take [] n k P h a = absurd a
at_take (s ∷ T) zero k P h a = absurd (omega arith)
at_take (s ∷ T) (suc n) zero P h a = a
at_take (s ∷ T) (suc n) (suc k) P h a = at_take T n k P (omega arith) a

pub newest_by : (T : List Played) (i l j : ℕ) → any_start i (between l j T) ≡ false → (k : ℕ) → l < k → k < j → At T k (Line1 i) → ⊥
newest_by T i l j f k a b x =
    none_starts i (between l j T) f (k - suc l)
    (at_take (drop (suc l) T) (j - suc l) (k - suc l) (Line1 i) (omega arith) (at_drop T (suc l) k (Line1 i) (omega arith) x))

-- THE LISTS. An operation and five of its steps; P1; its bench, with a tag of w bits and n workers
unfoldable pub does : Call → List Call
does (begin i op) = begin i op ∷ replicate 5 (step i)
does (step i) = step i ∷ []
does (drop_link i) = drop_link i ∷ []
does drain = drain ∷ []
does (ask i) = ask i ∷ []
does (drop_ask i) = drop_ask i ∷ []

unfoldable pub p1 : List Call
p1 = does (begin 0 (Put (one 65))) ++ does (begin 1 Steal) ++ does (begin 0 Take) ++ does (begin 0 (Put (one 66))) ++ does (begin 0 Take) ++ does (begin 0 (Put (one 67))) ++ step 1 ∷ []

unfoldable pub bench : ℕ → ℕ → World
bench w n = (fresh_of (setup 1 w 2 n 1) (replicate 12 0) (replicate 64 0)).world

-- the same of kind k, with a tag width of 1 and a thief
unfoldable pub bench_of : ℕ → World
bench_of k = (fresh_of (setup k 1 2 2 1) (replicate 12 0) (replicate 64 0)).world

-- P1: the thief's line 1 is at place 7, its compare at place 36; 2 = 2^1 puts finish between, and put 3 is lost
pub p1_loses : Loses (bench 1 2) p1 2
unfolding bench p1 does any_out is_out any_start starts_attempt is_step played after fresh_of begin_of step_of valid_of words_to line_step landed_all zeros word_at set_word offset_at length_at size_at gathered word_in with_word when◌then◌else◌ ◌and◌ ◌or◌
p1_loses =
    record {
      thief = 1;
      line1 = 7;
      compare = 36;
      compares = (anchor 0 1 1, 0, short 1 65, (refl, refl, λ r e. let z : ◌≡◌ {A = ℕ} 0 1 = cc in omega arith));
      attempt =
          record {
            before = omega arith;
            line1 = inr (refl, refl, λ r e. let z : ◌≡◌ {A = ℕ} 0 1 = cc in omega arith);
            newest = newest_by (played (bench 1 2) p1) 1 7 36 refl;
          };
      puts_between = refl;
      begun = 30;
      finished = 35;
      task = short 3 67;
      done = record { begun = (3, one 67, refl, refl, refl); later = omega arith; finished = (0, refl) };
      not_handed_out = none_out (short 3 67) (played (bench 1 2) p1) refl;
      not_standing = λ s. let z : window_size (after (bench 1 2) p1) ≡ 0 = refl in omega (arith, s.1);
    }

pub p1_breaks_premise : FewPuts (bench 1 2) p1 → ⊥
unfolding p1_loses bench p1 does played fresh_of begin_of step_of valid_of words_to line_step landed_all zeros word_at set_word offset_at length_at size_at gathered word_in with_word when◌then◌else◌ ◌and◌ ◌or◌
p1_breaks_premise f = let z : 2 < 2 = f 1 7 36 p1_loses.compares p1_loses.attempt (omega arith) in omega arith

-- P2: with a tag of 2 bits the compare fails, and put 3 stands in the window
pub p2_stands : Stands (after (bench 2 2) p1) (short 3 67)
unfolding bench p1 does after fresh_of begin_of step_of valid_of words_to line_step landed_all zeros word_at set_word offset_at length_at size_at gathered word_in with_word when◌then◌else◌ ◌and◌ ◌or◌
p2_stands = (0, omega arith, refl)

-- P2 keeps the premise: three puts finish in all, and it takes four to break it
p2_puts : puts (played (bench 2 2) p1) ≡ 3
unfolding bench p1 does played fresh_of begin_of step_of valid_of words_to line_step landed_all zeros word_at set_word offset_at length_at size_at gathered word_in with_word when◌then◌else◌ ◌and◌ ◌or◌
p2_puts = refl

p2_few : (d : ℕ) → d ≤ 3 → Few (bench 2 2).bench.kind (tag_bits (bench 2 2).bench) d
unfolding bench fresh_of zeros when◌then◌else◌ ◌and◌ ◌or◌
p2_few d h = λ some. let z : d < 4 = omega arith in z

pub p2_keeps_premise : FewPuts (bench 2 2) p1
p2_keeps_premise i l j x a =
    p2_few _ (omega (
      arith,
      p2_puts,
      puts_take (drop (suc l) (played (bench 2 2) p1)) (j - suc l),
      puts_drop (played (bench 2 2) p1) (suc l),
    ))

-- so demand 3 holds of it, not emptily
p2_accepted : (fresh_of (setup 1 2 2 2 1) (replicate 12 0) (replicate 64 0)).answer ≡ Accepted
unfolding fresh_of when◌then◌else◌ ◌and◌ ◌or◌
p2_accepted = refl

pub p2_holds : Demand3 (bench 2 2) p1
unfolding bench
p2_holds = demand3 (setup 1 2 2 2 1) (replicate 12 0) (replicate 64 0) p2_accepted p1 p2_keeps_premise

-- thief 2 reads put 3's number before thief 1's compare loses it, and put 5's payload after two more puts
unfoldable pub mixed : List Call
mixed =
    does (begin 0 (Put (one 65))) ++ does (begin 1 Steal) ++ does (begin 0 Take) ++ does (begin 0 (Put (one 66))) ++ does (begin 0 Take) ++ does (begin 0 (Put (one 67)))
    ++ (begin 2 Steal ∷ step 2 ∷ step 2 ∷ step 2 ∷ step 2 ∷ step 1 ∷ [])
    ++ does (begin 0 (Put (one 68))) ++ does (begin 0 Take) ++ does (begin 0 (Put (one 69))) ++ step 2 ∷ step 2 ∷ []

-- KEPT speaks of all words: number 3 is handed out at place 61, put 3's task nowhere
pub three_out : At (played (bench 1 3) mixed) 61 (λ s. s.answer ≡ HandedOut 2 (short 3 69))
unfolding bench mixed does played fresh_of begin_of step_of valid_of words_to line_step landed_all zeros word_at set_word offset_at length_at size_at gathered word_in with_word when◌then◌else◌ ◌and◌ ◌or◌
three_out = refl

pub not_kept : Demand3 (bench 1 3) mixed → ⊥
unfolding bench mixed does any_out is_out played after fresh_of begin_of step_of valid_of words_to line_step landed_all zeros word_at set_word offset_at length_at size_at gathered word_in with_word when◌then◌else◌ ◌and◌ ◌or◌
not_kept D = go (D.kept 30 35 (short 3 67) (record { begun = (3, one 67, refl, refl, refl); later = omega arith; finished = (0, refl) }))
  where
    go : ((k : ℕ) × Out (played (bench 1 3) mixed) k (short 3 67)) ⊎ Stands (after (bench 1 3) mixed) (short 3 67) → ⊥
    go (inl (k, o)) = none_out (short 3 67) (played (bench 1 3) mixed) refl k o
    go (inr s) = let z : window_size (after (bench 1 3) mixed) ≡ 0 = refl in omega (arith, s.1)

-- what a begin of a put with one payload word says of its payload
payload_is : (n x p' : ℕ) (p : Payload) → begin 0 (Put (one x)) ≡ begin 0 (Put p) → first_words 2 (task n p) ≡ short 3 p' → x ≡ p'
unfolding gathered word_in
payload_is n x p' p e q = let z : one x ≡ p = cc in ap (λ (y : Payload). y.first) z ∙ ap (λ (t : Task). t.payload.first) q

-- BELONGS speaks of all words: the task 3, 69 has the number of one put and the payload of another
pub not_belongs : Demand3 (bench 1 3) mixed → ⊥
unfolding bench mixed does played fresh_of begin_of step_of valid_of words_to line_step landed_all zeros word_at set_word offset_at length_at size_at gathered word_in with_word when◌then◌else◌ ◌and◌ ◌or◌
not_belongs D =
    let F = D.belongs 61 (short 3 69) (2, refl) in
    let same = D.numbers 30 F.0 (short 3 67) (short 3 69) (3, one 67, refl, refl, refl) F.3.begun refl in
    let there : At (played (bench 1 3) mixed) 30 (Begins (short 3 69)) = subst (λ (b : ℕ). At (played (bench 1 3) mixed) b (Begins (short 3 69))) (sym same) F.3.begun in
    omega (arith, payload_is there.0 67 69 there.1 there.2 there.4)

-- EMPTY speaks of the puts finished by line 1, not of the window: after P1 the window is empty, and put 3 was not handed out
unfoldable pub p1_take : List Call
p1_take = p1 ++ begin 0 Take ∷ step 0 ∷ step 0 ∷ []

pub false_empty : Demand3 (bench 1 2) p1_take → ⊥
unfolding bench p1_take p1 does any_out is_out played fresh_of begin_of step_of valid_of words_to line_step landed_all zeros word_at set_word offset_at length_at size_at gathered word_in with_word when◌then◌else◌ ◌and◌ ◌or◌
false_empty D = go (D.none_left 39 0 refl)
  where
    T : List Played
    T = played (bench 1 2) p1_take

    -- the attempt's line 1 is at place 38, so put 3 was finished by it
    first : (l : ℕ) → Attempt T 0 l 39 → 35 ≤ l
    first l A = late (le_or_lt 38 l)
      where
        late : (38 ≤ l) ⊎ (l < 38) → 35 ≤ l
        late (inl h) = omega arith
        late (inr h) = absurd (A.newest 38 h (omega arith) (inl (refl, refl, λ r e. let z : ◌≡◌ {A = ℕ} 0 1 = cc in omega arith)))

    go : (l : ℕ) × Attempt T 0 l 39 × AllOut T 0 l 39 → ⊥
    go (l, A, all) =
        let o = all 30 35 (short 3 67) (record { begun = (3, one 67, refl, refl, refl); later = omega arith; finished = (0, refl) }) (first l A) tt in
        none_out (short 3 67) T refl o.0 o.2

-- TWO PAYLOAD WORDS. Word by word an operation has one step more, and a payload's third and fourth word are not used
unfoldable pub does2 : Call → List Call
does2 (begin i op) = begin i op ∷ replicate 6 (step i)
does2 (step i) = step i ∷ []
does2 (drop_link i) = drop_link i ∷ []
does2 drain = drain ∷ []
does2 (ask i) = ask i ∷ []
does2 (drop_ask i) = drop_ask i ∷ []

unfoldable pub bench2 : World
bench2 = (fresh_of (setup 1 1 2 3 2) (replicate 18 0) (replicate 64 0)).world

pub cut_stands : Stands (after bench2 (does2 (begin 0 (Put (payload 65 1 8 9))))) (task 1 (payload 65 1 0 0))
unfolding bench2 does2 played after fresh_of begin_of step_of valid_of words_to line_step landed_all zeros word_at set_word offset_at length_at size_at gathered word_in with_word when◌then◌else◌ ◌and◌ ◌or◌
cut_stands = (0, omega arith, refl)

-- as above, and thief 2 has read put 3's first payload word too: it is that of put 5, and the second is not
unfoldable pub mixed2 : List Call
mixed2 =
    does2 (begin 0 (Put (payload 65 1 0 0))) ++ does2 (begin 1 Steal) ++ does2 (begin 0 Take) ++ does2 (begin 0 (Put (payload 65 2 0 0)))
    ++ does2 (begin 0 Take) ++ does2 (begin 0 (Put (payload 65 3 0 0)))
    ++ (begin 2 Steal ∷ step 2 ∷ step 2 ∷ step 2 ∷ step 2 ∷ step 2 ∷ step 1 ∷ [])
    ++ does2 (begin 0 (Put (payload 65 4 0 0))) ++ does2 (begin 0 Take) ++ does2 (begin 0 (Put (payload 65 5 0 0))) ++ step 2 ∷ step 2 ∷ []

-- KEPT speaks of the last word too: number 3 and its first payload word are handed out at place 71, put 3's task nowhere
pub most_out : At (played bench2 mixed2) 71 (λ s. s.answer ≡ HandedOut 2 (task 3 (payload 65 5 0 0)))
unfolding bench2 mixed2 does2 played after fresh_of begin_of step_of valid_of words_to line_step landed_all zeros word_at set_word offset_at length_at size_at gathered word_in with_word when◌then◌else◌ ◌and◌ ◌or◌
most_out = refl

pub not_kept2 : Demand3 bench2 mixed2 → ⊥
unfolding bench2 mixed2 does2 any_out is_out played after fresh_of begin_of step_of valid_of words_to line_step landed_all zeros word_at set_word offset_at length_at size_at gathered word_in with_word when◌then◌else◌ ◌and◌ ◌or◌
not_kept2 D = go (D.kept 35 41 third (record { begun = (3, payload 65 3 0 0, refl, refl, refl); later = omega arith; finished = (0, refl) }))
  where
    third : Task
    third = task 3 (payload 65 3 0 0)

    go : ((k : ℕ) × Out (played bench2 mixed2) k third) ⊎ Stands (after bench2 mixed2) third → ⊥
    go (inl (k, o)) = none_out third (played bench2 mixed2) refl k o
    go (inr s) = let z : window_size (after bench2 mixed2) ≡ 0 = refl in omega (arith, s.1)
