-- The premise is tight: of both queues with a tag, for each width from 1 to 15 and each count of payload words a list with exactly
-- 2^w puts in one attempt loses a task.
use mathlib.Core.Path.{◌≡◌, refl, sym, ◌∙◌, ap, subst}
use mathlib.Core.Bool.{true, false}
use mathlib.Core.Logic.{◌⊎◌, inl, inr}
use mathlib.Core.List.{List, [], ◌∷◌, ◌++◌, append_assoc, append-nil}
use Prim.Native.Nat.{ℕ, zero, suc, ◌+◌, ◌-◌, ◌*◌, ◌%◌, ◌^◌, ◌≤◌, ◌<◌}
use native.Mathlib.Omega.{arith}
use native.Mathlib.Nat.{mod-add-mod, add-mod_right, mul-le-mul, mul-le-mul_left}
use lib.Dec.{eqb, ltb}
use lib.Pow.{pow_pos, pow_mono}
use lib.ListN.{length, take, drop, replicate, length-append, length-replicate}
use lib.Seq.{take_at, drop_at}
use borrow.Author.Tests.{lt-ltb, le-ltb, le-leb, eq-eqb}
use Rattle.model.specs.declared.Task.{Task}
use Rattle.model.specs.declared.Line.{Line}
use Rattle.model.specs.declared.Line.TheVariants.{Idle, StealCompare}
use Rattle.model.specs.declared.Operation.TheVariants.{Put, Steal}
use Rattle.model.specs.declared.Answer.{Answer}
use Rattle.model.specs.declared.Answer.TheVariants.{Accepted, Numbered, GoesOn, Finished, HandedOut, Refused}
use Rattle.model.specs.declared.Refusal.{Refusal}
use Rattle.model.specs.Tests.{when◌then◌else◌, ◌and◌, ◌or◌}
use Rattle.model.specs.Lines.{line_step}
use Rattle.model.specs.Stores.{landed_all}
use Rattle.model.specs.World.{World, Outcome, line_at}
use Rattle.model.specs.Calls.{log_full, fresh_of, setup, Call, begin, step, call_of}
use Rattle.model.specs.Tasks.{payload, word_in, gathered, first_words}
use Rattle.model.specs.Answers.{entry, entry_length, entry_words}
use Rattle.model.specs.Memory.{usable, zeros, offset_at, length_at, words_to}
use Rattle.model.specs.Run.{Played, played, after}
use Rattle.model.specs.Figures.{anchor}
use Rattle.model.specs.Limits.{kind_ok}
use Rattle.model.specs.Window.{tasks}
use Rattle.theorems.specs.Demand3.{At, Begins, Finishes, Line1, Compares, Attempt, puts, between, Stands}
use Rattle.premise.specs.Premise.{Loses, Tight}
use Rattle.model.proofs.Alone.{least_above}
use Rattle.theorems.proofs.Alone.{Lone, lone_company, lone_call, lone_run}
use Rattle.theorems.proofs.Words.{set_all_length, zeros_length}
use Rattle.theorems.proofs.Fresh.{start, fresh_whole}
use Rattle.theorems.specs.AsBefore.{Undelayed}
use Rattle.theorems.proofs.AsBefore.{as_before}
use Rattle.theorems.proofs.Translate.{at_map}
use Rattle.order.proofs.FrontEntries.{words_kept}
use Rattle.premise.proofs.Rounds.{
  raw_is,
  raw_of,
  raw_after,
  raw_answers,
  answers,
  after_raw,
  answers_raw,
  after_append,
  answers_append,
  Tagged,
  lifo,
  deque,
  the_kind,
  Wide,
  one,
  two,
  three,
  four,
  many,
  h2,
  short,
  holding,
  write_entry,
  here,
  own_steps,
  putting,
  taking,
  waits,
  stealing,
  goes_on,
  put_answers,
  take_answers,
  past,
  Runs,
  put_runs,
  take_runs,
  steal_runs,
  steal_past,
  win_run,
}
use Rattle.premise.proofs.TightList.{
  at_split,
  at_past,
  at_answer,
  total,
  total_is,
  total_append,
  answers_drop,
  answers_take,
  AllUnder,
  under_append,
  under_not,
  goes_total,
  goes_under,
  rounds,
  first,
  tight_list,
  script,
  first_answers,
  put_length,
  put_many,
  take_many,
  script_length,
  script_total,
  put_under,
  script_under,
  waits_not,
}

-- there is room for an entry
has_room : (v : ℕ) (l : List ℕ) (n : ℕ) → n + entry_length v ≤ length l → n + entry_length v ≤ 4294967295 → log_full v l n ≡ false
unfolding ◌or◌
has_room v l n h k = rw (le-ltb (length l) (n + entry_length v) h, le-ltb 4294967295 (n + entry_length v) k)

-- 1 to 4 payload words
many_in : (v : Wide) → (0 < many v) × (many v ≤ 4)
many_in one = (omega arith, omega arith)
many_in two = (omega arith, omega arith)
many_in three = (omega arith, omega arith)
many_in four = (omega arith, omega arith)

wide : (v : ℕ) → 0 < v → v ≤ 4 → (x : Wide) × (v ≡ many x)
wide zero a b = absurd (omega arith)
wide (suc zero) a b = (one, refl)
wide (suc (suc zero)) a b = (two, refl)
wide (suc (suc (suc zero))) a b = (three, refl)
wide (suc (suc (suc (suc zero)))) a b = (four, refl)
wide (suc (suc (suc (suc (suc v))))) a b = absurd (omega arith)

-- a task with one payload word that is not 0 keeps it
whole_task : {n p : ℕ} (v : Wide) (k : ℕ) → k ≡ many v → first_words (k + 1) (short n p) ≡ short n p
unfolding gathered word_in
whole_task {n} {p} v k e = ap (λ (x : ℕ). first_words (x + 1) (short n p)) e ∙ cut v
  where
    cut : (v : Wide) → first_words (many v + 1) (short n p) ≡ short n p
    cut one = refl
    cut two = refl
    cut three = refl
    cut four = refl

-- the store that fresh leaves
emptied : (v : Wide) (m : List ℕ) → zeros m 0 ((many v + 1) * 1) ≡ holding v 0 0 (drop (many v + 1) m)
unfolding zeros
emptied one m = refl
emptied two m = refl
emptied three m = refl
emptied four m = refl

regroup : (a b c d e f : List Answer) → (a ++ (b ++ (c ++ (d ++ e)))) ++ f ≡ (((a ++ b) ++ c) ++ d) ++ (e ++ f)
regroup a b c d e f = simp append_assoc

-- neither is linked
tagged_kind : (κ : Tagged) → kind_ok (the_kind κ) false ≡ true
tagged_kind lifo = refl
tagged_kind deque = refl

-- a count of 0 leaves no window
no_tasks : (κ : Tagged) (h g : ℕ) → tasks (the_kind κ) (anchor h 0 g) ≡ 0
no_tasks lifo h g = refl
no_tasks deque h g = refl

-- the store has the one slot's words, among those that are used
roomy : (v : Wide) (m : List ℕ) → many v + 1 ≤ length m → (many v + 1) * 1 ≤ usable m
roomy v m c = least_above (length m) 10235 ((many v + 1) * 1) (omega (arith, c)) (omega (arith, (many_in v).1))

module _ (κ : Tagged) (v : Wide) (w : ℕ) (m l : List ℕ) (low : 0 < w) (high : w ≤ 15) (slot : many v + 1 ≤ length m) (long : 2 * entry_length (many v) * (2 ^ w + 1) ≤ length l) where
  abbrev B : World
  B = start 0 (the_kind κ) false w 1 2 (many v) false m l

  abbrev rest : List ℕ
  rest = drop (many v + 1) m

  -- the words of an entry
  abbrev d : ℕ
  d = entry_length (many v)

  H : Lone (start 0 (the_kind κ) false w 1 2 (many v) false m l)
  unfolding when◌then◌else◌ ◌or◌ words_to offset_at length_at
  H =
      record {
        whole = fresh_whole 0 (the_kind κ) false w 1 2 (many v) false m l (record { width = (low, omega arith); test = refl; crew = (omega arith, omega arith); words = many_in v; room = omega (arith, slot) }) (tagged_kind κ);
        snug =
            record {
              close = omega arith;
              fitting = omega (arith, roomy v (zeros m 0 ((many v + 1) * 1)) (omega (arith, slot, zeros_length m 0 ((many v + 1) * 1) (omega (arith, slot)))));
            };
      }

  few : 2 ^ w ≤ 32768
  few = omega (arith, pow_mono high)

  -- room for j entries
  fits : (j : ℕ) → j ≤ 2 * (2 ^ w + 1) → (d * j ≤ length l) × (d * j ≤ 4294967295)
  fits j h = (
    omega (arith, long, mul-le-mul_left d h),
    omega (arith, mul-le-mul {n₁ = d} {m₁ = j} {n₂ = 7} {m₂ = 65538} (omega (arith, (many_in v).1)) (omega (arith, h, few))),
  )

  room_for : (lg : List ℕ) (wr j : ℕ) → length lg ≡ length l → wr ≡ d * j → suc j ≤ 2 * (2 ^ w + 1) → log_full (many v) lg wr ≡ false
  room_for lg wr j e q h = has_room (many v) lg wr (omega (arith, e, q, (fits (suc j) h).0)) (omega (arith, q, (fits (suc j) h).1))

  blank_is : start 0 (the_kind κ) false w 1 2 (many v) false m l ≡ here κ v w (anchor 0 0 0) 0 0 Idle Idle (holding v 0 0 rest) l
  blank_is = ap (λ (s : List ℕ). here κ v w (anchor 0 0 0) 0 0 Idle Idle s l) (emptied v m)

  abbrev g0 : ℕ
  g0 = 1 % 2 ^ w

  abbrev log0 : List ℕ
  log0 = write_entry v l 0 (entry 1 0 (short 1 7))

  abbrev θ : Line
  θ = StealCompare (anchor 0 1 g0) (h2 κ) (short 1 7)

  lone_at : (cs : List Call) (U : World) → after B cs ≡ U → Lone U
  lone_at cs U e = subst Lone e (lone_run cs B H)

  -- on from a state that is known
  on : (xs ys : List Call) (U U' : World) → after B xs ≡ U → raw_after U ys ≡ U' → after B (xs ++ ys) ≡ U'
  on xs ys U U' e r =
      after_append xs ys B ∙ ap (λ (U : World). after U ys) e ∙ after_raw ys U (lone_at xs U e) ∙ r

  says_on : (xs ys : List Call) (U : World) (ps bs : List Answer) → after B xs ≡ U → answers (played B xs) ≡ ps → raw_answers U ys ≡ bs
      → answers (played B (xs ++ ys)) ≡ ps ++ bs
  says_on xs ys U ps bs e p q =
      answers_append xs ys B ∙ ap (λ (a : List Answer). a ++ answers (played (after B xs) ys)) p
      ∙ ap (λ (b : List Answer). ps ++ b) (ap (λ (U : World). answers (played U ys)) e ∙ answers_raw ys U (lone_at xs U e) ∙ q)

  nil_after : after B [] ≡ here κ v w (anchor 0 0 0) 0 0 Idle Idle (holding v 0 0 rest) l
  unfolding after
  nil_after = blank_is

  nil_says : answers (played B []) ≡ []
  unfolding played
  nil_says = refl

  room0 : log_full (many v) l 0 ≡ false
  room0 = room_for l 0 0 refl (omega arith) (omega arith)

  -- the thief is idle yet
  abbrev put1 : World
  put1 = here κ v w (anchor 0 1 g0) 1 (0 + d) Idle Idle (holding v 1 7 rest) log0

  put_after : after B (putting v) ≡ put1
  put_after = on [] (putting v) _ _ nil_after (put_runs w 0 0 0 Idle 0 rest l κ v 0 refl room0).0

  log0_length : length log0 ≡ length l
  log0_length = set_all_length l 0 (entry_words (many v) (entry 1 0 (short 1 7)))

  first_after : after B (first v κ) ≡ here κ v w (anchor 0 1 g0) 1 (0 + d) Idle θ (holding v 1 7 rest) log0
  first_after = on (putting v) (stealing κ v) _ _ put_after (steal_runs w 1 g0 (0 + d) Idle 1 rest log0 κ v).0

  first_says : answers (played B (first v κ)) ≡ first_answers v κ
  first_says =
      says_on (putting v) (stealing κ v) _ _ _ put_after (says_on [] (putting v) _ _ _ nil_after nil_says (put_runs w 0 0 0 Idle 0 rest l κ v 0 refl room0).1)
      (steal_runs w 1 g0 (0 + d) Idle 1 rest log0 κ v).1

  -- after r rounds
  abbrev prefix : ℕ → List Call
  prefix r = first v κ ++ rounds v r

  prefix_next : (r : ℕ) → prefix (suc r) ≡ (prefix r ++ taking v) ++ putting v
  prefix_next r = sym (append_assoc (first v κ) (rounds v r) (taking v ++ putting v)) ∙ sym (append_assoc (prefix r) (taking v) (putting v))

  record Stage (r : ℕ) : Type 0 where
    g : ℕ
    wr : ℕ
    lg : List ℕ
    state : after B (prefix r) ≡ here κ v w (anchor 0 1 g) (suc r) wr Idle θ (holding v (suc r) 7 rest) lg
    tag : g ≡ (1 + r) % 2 ^ w
    written : wr ≡ d * (1 + 2 * r)
    kept : length lg ≡ length l
    said : answers (played B (prefix r)) ≡ first_answers v κ ++ script v r

  module _ (r : ℕ) (S : Stage r) (less : r < 2 ^ w) where
    abbrev lg1 : List ℕ
    lg1 = write_entry v S.lg S.wr (entry 2 0 (short (suc r) 7))

    lg1_length : length lg1 ≡ length l
    lg1_length = set_all_length S.lg S.wr (entry_words (many v) (entry 2 0 (short (suc r) 7))) ∙ S.kept

    room_t : log_full (many v) S.lg S.wr ≡ false
    room_t = room_for S.lg S.wr (1 + 2 * r) S.kept S.written (omega arith)

    room_p : log_full (many v) lg1 (S.wr + d) ≡ false
    room_p = room_for lg1 (S.wr + d) (2 + 2 * r) lg1_length (omega (arith, S.written)) (omega arith)

    small : ltb (suc r) 65535 ≡ true
    small = lt-ltb (suc r) 65535 (omega (arith, few))

    -- the owner has taken the task
    taken_after : after B (prefix r ++ taking v) ≡ here κ v w (anchor 0 0 S.g) (suc r) (S.wr + d) Idle θ (holding v (suc r) 7 rest) lg1
    taken_after = on (prefix r) (taking v) _ _ S.state (take_runs w (suc r) S.g S.wr θ (suc r) rest S.lg κ v room_t).0

    taken_says : answers (played B (prefix r ++ taking v)) ≡ (first_answers v κ ++ script v r) ++ take_answers v (suc r)
    taken_says = says_on (prefix r) (taking v) _ _ _ S.state S.said (take_runs w (suc r) S.g S.wr θ (suc r) rest S.lg κ v room_t).1

    -- and puts the next
    put_next : Runs (here κ v w (anchor 0 0 S.g) (suc r) (S.wr + d) Idle θ (holding v (suc r) 7 rest) lg1) (putting v)
        (here κ v w (anchor 0 1 ((S.g + 1) % 2 ^ w)) (suc (suc r)) (S.wr + d + d) Idle θ (holding v (suc (suc r)) 7 rest) (write_entry v lg1 (S.wr + d) (entry 1 0 (short (suc (suc r)) 7))))
        (put_answers v (suc (suc r)))
    put_next = put_runs w (suc r) S.g (S.wr + d) θ (suc r) rest lg1 κ v 7 small room_p

    next : Stage (suc r)
    next =
        record {
          g = (S.g + 1) % 2 ^ w;
          wr = S.wr + d + d;
          lg = write_entry v lg1 (S.wr + d) (entry 1 0 (short (suc (suc r)) 7));
          state = ap (after B) (prefix_next r) ∙ on (prefix r ++ taking v) (putting v) _ _ taken_after put_next.0;
          tag = ap (λ (z : ℕ). (z + 1) % 2 ^ w) S.tag ∙ mod-add-mod (1 + r) (2 ^ w) 1 ∙ ap (λ (z : ℕ). z % 2 ^ w) (omega arith);
          written = omega (arith, S.written);
          kept = set_all_length lg1 (S.wr + d) (entry_words (many v) (entry 1 0 (short (suc (suc r)) 7))) ∙ lg1_length;
          said =
              ap (λ (cs : List Call). answers (played B cs)) (prefix_next r)
              ∙ says_on (prefix r ++ taking v) (putting v) _ _ _ taken_after taken_says put_next.1
              ∙ append_assoc (first_answers v κ ++ script v r) (take_answers v (suc r)) (put_answers v (suc (suc r)))
              ∙ append_assoc (first_answers v κ) (script v r) (take_answers v (suc r) ++ put_answers v (suc (suc r)));
        }

  stage : (r : ℕ) → r ≤ 2 ^ w → Stage r
  stage zero h =
      record {
        g = g0;
        wr = 0 + d;
        lg = log0;
        state = ap (after B) (append-nil (first v κ)) ∙ first_after;
        tag = refl;
        written = omega arith;
        kept = log0_length;
        said = ap (λ (cs : List Call). answers (played B cs)) (append-nil (first v κ)) ∙ first_says ∙ sym (append-nil (first_answers v κ));
      }
  stage (suc r) h = next r (stage r (omega arith)) (omega arith)

  -- the compare finds its anchor again
  S : Stage (2 ^ w)
  S = stage (2 ^ w) (omega arith)

  again : eqb S.g g0 ≡ true
  again = eq-eqb S.g g0 (S.tag ∙ add-mod_right 1 (2 ^ w))

  abbrev taken : Answer
  taken = HandedOut 1 (short 1 7)

  abbrev emptied_at : World
  emptied_at = here κ v w (anchor (h2 κ) 0 g0) (suc (2 ^ w)) (S.wr + d) Idle Idle (holding v (suc (2 ^ w)) 7 rest) (write_entry v S.lg S.wr (entry 2 1 (short 1 7)))

  last_raw : raw_of (here κ v w (anchor 0 1 S.g) (suc (2 ^ w)) S.wr Idle θ (holding v (suc (2 ^ w)) 7 rest) S.lg) (step 1) ≡ record { world = emptied_at; answer = taken }
  last_raw =
      win_run w (suc (2 ^ w)) S.g S.wr Idle (suc (2 ^ w)) rest S.lg κ v g0 (short 1 7) again
      (room_for S.lg S.wr (1 + 2 * 2 ^ w) S.kept S.written (omega arith))

  last_call : (call_of (after B (prefix (2 ^ w))) (step 1)).answer ≡ taken
  last_call =
      ap (λ (U : World). (call_of U (step 1)).answer) S.state
      ∙ ap (λ (D : Outcome). D.answer) (raw_is _ (step 1) (lone_at (prefix (2 ^ w)) _ S.state) ∙ last_raw)

  abbrev T : List Played
  T = played B (tight_list v κ w)

  all_says : answers T ≡ (first_answers v κ ++ script v (2 ^ w)) ++ (taken ∷ [])
  all_says = says_on (prefix (2 ^ w)) (step 1 ∷ []) _ _ _ S.state S.said (ap (λ (D : Outcome). D.answer ∷ []) last_raw)

  all_after : after B (tight_list v κ w) ≡ emptied_at
  all_after = on (prefix (2 ^ w)) (step 1 ∷ []) _ _ S.state (ap (λ (D : Outcome). D.world) last_raw)

  -- THE ATTEMPT. The calls before its line 1, and those past it
  abbrev begun1 : List Call
  begun1 = putting v ++ (begin 1 Steal ∷ [])

  abbrev more : List Call
  more = replicate (waits κ v) (step 1) ++ (rounds v (2 ^ w) ++ (step 1 ∷ []))

  list_splits : tight_list v κ w ≡ begun1 ++ step 1 ∷ more
  list_splits = simp append_assoc

  begun1_length : length begun1 ≡ many v + 6
  begun1_length = length-append (putting v) (begin 1 Steal ∷ []) ∙ omega (arith, put_length v)

  prefix_length : (r : ℕ) → length (prefix r) ≡ many v + 7 + waits κ v + length (rounds v r)
  prefix_length r =
      length-append (first v κ) (rounds v r)
      ∙ omega (arith, length-append (putting v) (stealing κ v), put_length v, length-replicate (waits κ v) (step 1))

  begun1_after : after B begun1 ≡ raw_after put1 (begin 1 Steal ∷ [])
  begun1_after = on (putting v) (begin 1 Steal ∷ []) _ _ put_after refl

  line1_done : call_of (after B begun1) (step 1) ≡ raw_of (raw_after put1 (begin 1 Steal ∷ [])) (step 1)
  line1_done = ap (λ (U : World). call_of U (step 1)) begun1_after ∙ raw_is _ (step 1) (lone_at begun1 _ begun1_after)

  goes : (call_of (after B begun1) (step 1)).answer ≡ GoesOn
  unfolding line_step ◌and◌ when◌then◌else◌
  goes = ap (λ (D : Outcome). D.answer) line1_done

  goes_not : (a : Answer) → a ≡ GoesOn → (r : Refusal) → a ≡ Refused r → ⊥
  goes_not a e r q = let z : ◌≡◌ {A = ℕ} 0 1 = cc in omega arith

  out_not : (a : Answer) → a ≡ taken → (r : Refusal) → a ≡ Refused r → ⊥
  out_not a e r q = let z : ◌≡◌ {A = ℕ} 0 1 = cc in omega arith

  line1_at : At T (length begun1) (Line1 1)
  unfolding when◌then◌else◌
  line1_at =
      subst (λ (cs : List Call). At (played B cs) (length begun1) (Line1 1)) (sym list_splits)
      (at_split begun1 (step 1) more B (Line1 1) (inr (refl, ap (λ (U : World). line_at U.bench.workers 1) begun1_after, goes_not _ goes)))

  -- no other line 1 before the compare
  past1 : past (waits κ v) (call_of (after B begun1) (step 1)).world ≡ true
  past1 = subst (λ (D : Outcome). past (waits κ v) D.world ≡ true) (sym line1_done) (steal_past w 1 g0 (0 + d) Idle 1 rest log0 κ v)

  newest : (k : ℕ) → length begun1 < k → k < length (prefix (2 ^ w)) → At T k (Line1 1) → ⊥
  newest k a b x =
      waits_not v (waits κ v) (2 ^ w) _ (lone_call (lone_run begun1 B H) (step 1)) past1 (k - suc (length begun1))
      (omega (arith, a, b, begun1_length, prefix_length (2 ^ w)))
      (at_past begun1 (step 1) more B (Line1 1) (k - suc (length begun1)) k (omega (arith, a))
      (subst (λ (cs : List Call). At (played B cs) k (Line1 1)) list_splits x))

  attempt : Attempt T 1 (length begun1) (length (prefix (2 ^ w)))
  attempt = record { before = omega (arith, begun1_length, prefix_length (2 ^ w)); line1 = line1_at; newest = newest }

  compares : At T (length (prefix (2 ^ w))) (Compares 1)
  compares =
      at_split (prefix (2 ^ w)) (step 1) [] B (Compares 1)
      (anchor 0 1 g0, h2 κ, short 1 7, (refl, ap (λ (U : World). line_at U.bench.workers 1) S.state, out_not _ last_call))

  -- the puts between
  abbrev answers1 : List Answer
  answers1 = put_answers v 1 ++ (Accepted ∷ GoesOn ∷ [])

  abbrev waited : List Answer
  waited = goes_on (waits κ v) ++ script v (2 ^ w)

  says_splits : answers T ≡ answers1 ++ (waited ++ (taken ∷ []))
  says_splits = all_says ∙ simp append_assoc

  counted : puts (between (length begun1) (length (prefix (2 ^ w))) T) ≡ 2 ^ w
  counted =
      (lone_company Undelayed H (λ ts C. as_before ts B H.whole C refl) (tight_list v κ w)).counted (length begun1) (length (prefix (2 ^ w)))
      ∙ total_is (between (length begun1) (length (prefix (2 ^ w))) T)
      ∙ ap total
      (answers_take (drop (suc (length begun1)) T) (length (prefix (2 ^ w)) - suc (length begun1))
      ∙ ap (take (length (prefix (2 ^ w)) - suc (length begun1)))
      (answers_drop T (suc (length begun1)) ∙ ap (drop (suc (length begun1))) says_splits ∙ drop_at answers1 (waited ++ (taken ∷ [])) (suc (length begun1)) before)
      ∙ take_at waited (taken ∷ []) _ until_compare)
      ∙ omega (arith, total_append (goes_on (waits κ v)) (script v (2 ^ w)), goes_total (waits κ v), script_total v (2 ^ w))
    where
      before : length answers1 ≡ suc (length begun1)
      before = length-append (put_answers v 1) (Accepted ∷ GoesOn ∷ []) ∙ omega (arith, put_many v 1, begun1_length)

      until_compare : length waited ≡ length (prefix (2 ^ w)) - suc (length begun1)
      until_compare =
          length-append (goes_on (waits κ v)) (script v (2 ^ w))
          ∙ omega (arith, length-replicate (waits κ v) GoesOn, script_length v (2 ^ w), prefix_length (2 ^ w), begun1_length)

  -- THE PUT THAT IS LOST, the last one
  abbrev r' : ℕ
  r' = 2 ^ w - 1

  is_suc : 2 ^ w ≡ suc r'
  is_suc = omega (arith, pow_pos w)

  S' : Stage r'
  S' = stage r' (omega arith)

  less : r' < 2 ^ w
  less = omega (arith, pow_pos w)

  list_is : tight_list v κ w ≡ (prefix r' ++ taking v) ++ (putting v ++ (step 1 ∷ []))
  list_is =
      ap (λ (n : ℕ). prefix n ++ (step 1 ∷ [])) is_suc ∙ ap (λ (xs : List Call). xs ++ (step 1 ∷ [])) (prefix_next r')
      ∙ append_assoc (prefix r' ++ taking v) (putting v) (step 1 ∷ [])

  abbrev lost_task : Task
  lost_task = short (suc (suc r')) 7

  abbrev head_of : List Answer → Answer
  head_of [] = GoesOn
  head_of (a ∷ l) = a

  begins : At T (length (prefix r' ++ taking v)) (Begins lost_task)
  begins =
      subst (λ (cs : List Call). At (played B cs) (length (prefix r' ++ taking v)) (Begins lost_task)) (sym list_is)
      (at_split (prefix r' ++ taking v) (begin 0 (Put (payload 7 0 0 0))) (own_steps v ++ (step 1 ∷ [])) B (Begins lost_task)
      (suc (suc r'), payload 7 0 0 0, refl, numbered, whole_task v _ (lone_company (λ (T : List Played) (X : World). X.bench.words ≡ many v) H (λ ts C. words_kept ts B) (prefix r' ++ taking v))))
    where
      numbered : (call_of (after B (prefix r' ++ taking v)) (begin 0 (Put (payload 7 0 0 0)))).answer ≡ Numbered (suc (suc r'))
      numbered =
          ap (λ (U : World). (call_of U (begin 0 (Put (payload 7 0 0 0)))).answer) (taken_after r' S' less)
          ∙ ap (λ (D : Outcome). D.answer) (raw_is _ (begin 0 (Put (payload 7 0 0 0))) (lone_at (prefix r' ++ taking v) _ (taken_after r' S' less)))
          ∙ ap head_of (put_next r' S' less).1

  abbrev until : List Answer
  until = ((first_answers v κ ++ script v r') ++ take_answers v (suc r')) ++ (Numbered (suc (suc r')) ∷ goes_on (many v + 3))

  says_until : answers T ≡ until ++ (Finished 0 lost_task ∷ (taken ∷ []))
  says_until =
      all_says ∙ ap (λ (n : ℕ). (first_answers v κ ++ script v n) ++ (taken ∷ [])) is_suc
      ∙ regroup (first_answers v κ) (script v r') (take_answers v (suc r')) (Numbered (suc (suc r')) ∷ goes_on (many v + 3)) (Finished 0 lost_task ∷ []) (taken ∷ [])

  begun_first : length (prefix r' ++ taking v) < length until
  begun_first =
      omega (
        arith,
        length-append (prefix r') (taking v),
        prefix_length r',
        put_length v,
        length-append ((first_answers v κ ++ script v r') ++ take_answers v (suc r')) (Numbered (suc (suc r')) ∷ goes_on (many v + 3)),
        length-append (first_answers v κ ++ script v r') (take_answers v (suc r')),
        length-append (first_answers v κ) (script v r'),
        length-append (put_answers v 1) (Accepted ∷ GoesOn ∷ goes_on (waits κ v)),
        length-replicate (waits κ v) GoesOn,
        length-replicate (many v + 3) GoesOn,
        put_many v 1,
        take_many v (suc r'),
        script_length v r',
      )

  finishes_at : At T (length until) (Finishes lost_task)
  finishes_at =
      at_map T (length until) (λ s. s.answer ≡ Finished 0 lost_task) (Finishes lost_task) (λ s e. (0, e))
      (at_answer T until (taken ∷ []) (Finished 0 lost_task) says_until)

  under : AllUnder (suc (suc r')) (answers T)
  under =
      rw all_says
      (under_append (suc (suc r')) (first_answers v κ ++ script v (2 ^ w)) (taken ∷ [])
      (under_append (suc (suc r')) (first_answers v κ) (script v (2 ^ w))
      (under_append (suc (suc r')) (put_answers v 1) (Accepted ∷ GoesOn ∷ goes_on (waits κ v)) (put_under v (suc (suc r')) 1) (tt, (tt, goes_under (suc (suc r')) (waits κ v))))
      (script_under v (2 ^ w) (suc (suc r')) (omega (arith, is_suc))))
      (omega arith, tt))

  gone : Stands (after B (tight_list v κ w)) lost_task → ⊥
  unfolding landed_all
  gone s = absurd (none (subst (λ (U : World). Stands U lost_task) all_after s))
    where
      none : Stands emptied_at lost_task → ⊥
      none (i, l, a) = omega (arith, no_tasks κ (h2 κ) g0)

  pub loses : Loses (start 0 (the_kind κ) false w 1 2 (many v) false m l) (tight_list v κ w) (2 ^ w)
  loses =
      record {
        thief = 1;
        line1 = length begun1;
        compare = length (prefix (2 ^ w));
        compares = compares;
        attempt = attempt;
        puts_between = counted;
        begun = length (prefix r' ++ taking v);
        finished = length until;
        task = lost_task;
        done = record { begun = begins; later = begun_first; finished = finishes_at };
        not_handed_out = λ k. under_not lost_task T k under;
        not_standing = gone;
      }

-- the kinds by their numbers
abbrev number : Tagged → ℕ
number lifo = 1
number deque = 3

tagged : (k : ℕ) → (k ≡ 1) ⊎ (k ≡ 3) → (κ : Tagged) × (k ≡ number κ)
tagged k (inl e) = (lifo, e)
tagged k (inr e) = (deque, e)

accepted : (κ : Tagged) (v : Wide) (w : ℕ) (m l : List ℕ) → 0 < w → w ≤ 15 → many v + 1 ≤ length m
    → fresh_of (setup (number κ) w 1 2 (many v)) m l ≡ record { world = start 0 (the_kind κ) false w 1 2 (many v) false m l; answer = Accepted }
unfolding fresh_of ◌and◌ when◌then◌else◌ ◌or◌
accepted lifo v w m l a b c =
    rw (lt-ltb 0 w a, le-leb w 16 (omega arith), lt-ltb 0 (many v) (many_in v).0, le-leb (many v) 4 (many_in v).1, le-leb ((many v + 1) * 1) (usable m) (roomy v m c))
accepted deque v w m l a b c =
    rw (lt-ltb 0 w a, le-leb w 16 (omega arith), lt-ltb 0 (many v) (many_in v).0, le-leb (many v) 4 (many_in v).1, le-leb ((many v + 1) * 1) (usable m) (roomy v m c))

-- for both, each width from 1 to 15 and each count of payload words
pub tight : Tight
tight k w v m l h a b c d e f = go (tagged k h) (wide v c d)
  where
    go : (κ : Tagged) × (k ≡ number κ) → (x : Wide) × (v ≡ many x)
        → ((fresh_of (setup k w 1 2 v) m l).answer ≡ Accepted) × ((cs : List Call) × Loses (fresh_of (setup k w 1 2 v) m l).world cs (2 ^ w))
    go (κ, q) (x, y) =
        let slot : many x + 1 ≤ length m = omega (arith, e, y) in
        let z =
        ap (λ (n : ℕ). fresh_of (setup n w 1 2 v) m l) q ∙ ap (λ (n : ℕ). fresh_of (setup (number κ) w 1 2 n) m l) y
        ∙ accepted κ x w m l a b slot in (
          ap (λ (D : Outcome). D.answer) z,
          (
            tight_list x κ w,
            subst (λ (D : Outcome). Loses D.world (tight_list x κ w) (2 ^ w)) (sym z)
                (loses κ x w m l a b slot (subst (λ (n : ℕ). 2 * entry_length n * (2 ^ w + 1) ≤ length l) y f)),
          ),
        )
