-- The tightness list, its places and its answers.
use mathlib.Core.Path.{◌≡◌, refl, sym, ◌∙◌, ap, subst}
use mathlib.Core.Bool.{true, false}
use mathlib.Core.Logic.{inl, inr}
use mathlib.Core.List.{List, [], ◌∷◌, ◌++◌}
use Prim.Native.Nat.{ℕ, zero, suc, ◌+◌, ◌^◌, ◌<◌}
use native.Mathlib.Omega.{arith}
use borrow.Author.Tests.{not-true}
use lib.ListN.{length, take, drop, replicate, length-append, length-replicate}
use Rattle.model.specs.declared.Answer.{Answer}
use Rattle.model.specs.declared.Answer.TheVariants.{Accepted, Numbered, GoesOn, Finished, HandedOut, Empty, Full, Refused, Grown}
use Rattle.model.specs.declared.Task.{Task}
use Rattle.model.specs.World.{World, Outcome, line_at}
use Rattle.model.specs.Calls.{Call, begin, step, drop_link, drain, call_of, ask, drop_ask}
use Rattle.model.proofs.Tests.{and_left, and_right}
use Rattle.model.specs.Run.{Played, played, after}
use Rattle.theorems.specs.Demand3.{At, HandsOut, Line1, finishes}
use Rattle.theorems.specs.AsBefore.{finished}
use Rattle.theorems.proofs.Alone.{Lone, lone_call}
use Rattle.theorems.proofs.Events.{is_line_1}
use Rattle.theorems.proofs.Translate.{at_map}
use Rattle.premise.proofs.Rounds.{answers, raw_is, Tagged, Wide, many, short, putting, taking, stealing, goes_on, put_answers, take_answers, steal_answers, past}

-- places in a list of calls, and of answers
abbrev pub played1 : World → Call → Played
played1 U c = record { before = U; call = c; answer = (call_of U c).answer }

pub at_split : (xs : List Call) (c : Call) (ys : List Call) (U : World) (P : Played → Type 0) → P (played1 (after U xs) c) → At (played U (xs ++ c ∷ ys)) (length xs) P
unfolding played after
at_split [] c ys U P p = p
at_split (x ∷ xs) c ys U P p = at_split xs c ys (call_of U x).world P p

-- past the call at such a place
pub at_past : (xs : List Call) (c : Call) (ys : List Call) (U : World) (P : Played → Type 0) (k i : ℕ) → i ≡ suc (length xs + k)
    → At (played U (xs ++ c ∷ ys)) i P → At (played (call_of (after U xs) c).world ys) k P
unfolding played after
at_past xs c ys U P k zero e p = absurd (omega arith)
at_past [] c ys U P k (suc i) e p = subst (λ (j : ℕ). At (played (call_of U c).world ys) j P) {x = i} {y = k} (omega arith) p
at_past (x ∷ xs) c ys U P k (suc i) e p = at_past xs c ys (call_of U x).world P k i (omega arith) p

pub at_answer : (T : List Played) (ps bs : List Answer) (a : Answer) → answers T ≡ ps ++ a ∷ bs → At T (length ps) (λ s. s.answer ≡ a)
at_answer [] [] bs a e = absurd (let z : ◌≡◌ {A = ℕ} 0 1 = cc in omega arith)
at_answer [] (x ∷ ps) bs a e = absurd (let z : ◌≡◌ {A = ℕ} 0 1 = cc in omega arith)
at_answer (s ∷ T) [] bs a e = cc
at_answer (s ∷ T) (x ∷ ps) bs a e = at_answer T ps bs a (cc)

-- only the owner is called
abbrev pub OwnOnly : List Call → Type 0
OwnOnly [] = Unit {0}
OwnOnly (begin i op ∷ cs) = OwnOnly cs
OwnOnly (drop_link i ∷ cs) = ⊥
OwnOnly (ask i ∷ cs) = ⊥
OwnOnly (drop_ask i ∷ cs) = ⊥
OwnOnly (drain ∷ cs) = ⊥
OwnOnly (step zero ∷ cs) = OwnOnly cs
OwnOnly (step (suc i) ∷ cs) = ⊥

pub own_append : (xs ys : List Call) → OwnOnly xs → OwnOnly ys → OwnOnly (xs ++ ys)
own_append [] ys a b = b
own_append (begin i op ∷ xs) ys a b = own_append xs ys a b
own_append (drop_link i ∷ xs) ys a b = absurd a
own_append (ask i ∷ xs) ys a b = absurd a
own_append (drop_ask i ∷ xs) ys a b = absurd a
own_append (drain ∷ xs) ys a b = absurd a
own_append (step zero ∷ xs) ys a b = own_append xs ys a b
own_append (step (suc i) ∷ xs) ys a b = absurd a

pub no_thief : (xs ys : List Call) (U : World) (k : ℕ) → OwnOnly xs → k < length xs → At (played U (xs ++ ys)) k (λ s. s.call ≡ step 1) → ⊥
unfolding played
no_thief [] ys U k o l a = omega arith
no_thief (begin i op ∷ xs) ys U zero o l a = let z : ◌≡◌ {A = ℕ} 0 1 = cc in omega arith
no_thief (step zero ∷ xs) ys U zero o l a = let z : ◌≡◌ {A = ℕ} 0 1 = cc in omega arith
no_thief (step (suc i) ∷ xs) ys U k o l a = absurd o
no_thief (drop_link i ∷ xs) ys U k o l a = absurd o
no_thief (ask i ∷ xs) ys U k o l a = absurd o
no_thief (drop_ask i ∷ xs) ys U k o l a = absurd o
no_thief (drain ∷ xs) ys U k o l a = absurd o
no_thief (begin i op ∷ xs) ys U (suc k) o l a = no_thief xs ys (call_of U (begin i op)).world k o (omega arith) a
no_thief (step zero ∷ xs) ys U (suc k) o l a = no_thief xs ys (call_of U (step 0)).world k o (omega arith) a

-- the thief's line 1 is a call of it
past_not : (s : Played) → is_line_1 (line_at s.before.bench.workers 1) ≡ false → Line1 1 s → ⊥
past_not s p (inl (c, l, n)) = let z : ◌≡◌ {A = ℕ} 0 1 = cc in omega arith
past_not s p (inr (c, l, n)) = let z : ◌≡◌ {A = ℕ} 0 1 = cc in omega arith

line1_call : (s : Played) → Line1 1 s → s.call ≡ step 1
line1_call s (inl (c, l, n)) = c
line1_call s (inr (c, l, n)) = c

-- how many puts the answers finish
abbrev pub total : List Answer → ℕ
total [] = 0
total (a ∷ l) = total l + finishes a

pub total_is : (T : List Played) → finished T ≡ total (answers T)
total_is [] = refl
total_is (s ∷ T) = omega (arith, total_is T)

pub answers_drop : (T : List Played) (n : ℕ) → answers (drop n T) ≡ drop n (answers T)
answers_drop T zero = refl
answers_drop [] (suc n) = refl
answers_drop (s ∷ T) (suc n) = answers_drop T n

pub answers_take : (T : List Played) (n : ℕ) → answers (take n T) ≡ take n (answers T)
answers_take T zero = refl
answers_take [] (suc n) = refl
answers_take (s ∷ T) (suc n) = ap (λ (l : List Answer). s.answer ∷ l) (answers_take T n)

pub total_append : (a b : List Answer) → total (a ++ b) ≡ total a + total b
total_append [] b = omega arith
total_append (x ∷ a) b = omega (arith, total_append a b)

-- the numbers handed out
abbrev pub Under : ℕ → Answer → Type 0
Under N Accepted = Unit {0}
Under N (Numbered n) = Unit {0}
Under N GoesOn = Unit {0}
Under N (Finished i t) = Unit {0}
Under N (HandedOut i t) = t.number < N
Under N (Empty i) = Unit {0}
Under N (Full i t) = Unit {0}
Under N (Grown i) = Unit {0}
Under N (Refused r) = Unit {0}

abbrev pub AllUnder : ℕ → List Answer → Type 0
AllUnder N [] = Unit {0}
AllUnder N (a ∷ l) = Under N a × AllUnder N l

pub under_append : (N : ℕ) (a b : List Answer) → AllUnder N a → AllUnder N b → AllUnder N (a ++ b)
under_append N [] b p q = q
under_append N (x ∷ a) b (u, p) q = (u, under_append N a b p q)

pub under_not : (t : Task) (T : List Played) (k : ℕ) → AllUnder t.number (answers T) → At T k (HandsOut t) → ⊥
under_not t [] k u a = a
under_not t (s ∷ T) zero (u, v) (i, e) = let z : Under t.number (HandedOut i t) = subst (Under t.number) e u in omega arith
under_not t (s ∷ T) (suc k) (u, v) a = under_not t T k v a

-- answers that go on finish no put and hand out no task
pub goes_total : (n : ℕ) → total (goes_on n) ≡ 0
goes_total zero = refl
goes_total (suc n) = omega (arith, goes_total n)

pub goes_under : (N n : ℕ) → AllUnder N (goes_on n)
goes_under N zero = tt
goes_under N (suc n) = (tt, goes_under N n)

-- the list
module _ (v : Wide) where
  abbrev pub rounds : ℕ → List Call
  rounds zero = []
  rounds (suc r) = rounds r ++ (taking v ++ putting v)

  abbrev pub first : Tagged → List Call
  first κ = putting v ++ stealing κ v

  abbrev pub tight_list : Tagged → ℕ → List Call
  tight_list κ w = (first κ ++ rounds (2 ^ w)) ++ (step 1 ∷ [])

  abbrev pub script : ℕ → List Answer
  script zero = []
  script (suc r) = script r ++ (take_answers v (suc r) ++ put_answers v (suc (suc r)))

  abbrev pub first_answers : Tagged → List Answer
  first_answers κ = put_answers v 1 ++ steal_answers κ v

  steps_own : (n : ℕ) → OwnOnly (replicate n (step 0))
  steps_own zero = tt
  steps_own (suc n) = steps_own n

  rounds_own : (r : ℕ) → OwnOnly (rounds r)
  rounds_own zero = tt
  rounds_own (suc r) =
      own_append (rounds r) (taking v ++ putting v) (rounds_own r) (own_append (taking v) (putting v) (steps_own (many v + 4)) (steps_own (many v + 4)))

  -- a put and a take have as many calls
  pub put_length : length (putting v) ≡ many v + 5
  put_length = omega (arith, length-replicate (many v + 4) (step 0))

  pub put_many : (n : ℕ) → length (put_answers v n) ≡ many v + 5
  put_many n = omega (arith, length-append (goes_on (many v + 3)) (Finished 0 (short n 7) ∷ []), length-replicate (many v + 3) GoesOn)

  pub take_many : (n : ℕ) → length (take_answers v n) ≡ many v + 5
  take_many n = omega (arith, length-append (goes_on (many v + 3)) (HandedOut 0 (short n 7) ∷ []), length-replicate (many v + 3) GoesOn)

  pub script_length : (r : ℕ) → length (script r) ≡ length (rounds r)
  script_length zero = refl
  script_length (suc r) =
      length-append (script r) (take_answers v (suc r) ++ put_answers v (suc (suc r)))
      ∙ omega (
        arith,
        length-append (take_answers v (suc r)) (put_answers v (suc (suc r))),
        take_many (suc r),
        put_many (suc (suc r)),
        script_length r,
        length-append (rounds r) (taking v ++ putting v),
        length-append (taking v) (putting v),
        put_length,
      )

  pub script_total : (r : ℕ) → total (script r) ≡ r
  script_total zero = refl
  script_total (suc r) =
      total_append (script r) (take_answers v (suc r) ++ put_answers v (suc (suc r)))
      ∙ omega (
        arith,
        script_total r,
        total_append (take_answers v (suc r)) (put_answers v (suc (suc r))),
        total_append (goes_on (many v + 3)) (HandedOut 0 (short (suc r) 7) ∷ []),
        total_append (goes_on (many v + 3)) (Finished 0 (short (suc (suc r)) 7) ∷ []),
        goes_total (many v + 3),
      )

  pub put_under : (N n : ℕ) → AllUnder N (put_answers v n)
  put_under N n = (tt, under_append N (goes_on (many v + 3)) (Finished 0 (short n 7) ∷ []) (goes_under N (many v + 3)) (tt, tt))

  pub script_under : (r N : ℕ) → r < N → AllUnder N (script r)
  script_under zero N l = tt
  script_under (suc r) N l =
      under_append N (script r) (take_answers v (suc r) ++ put_answers v (suc (suc r))) (script_under r N (omega arith))
      (under_append N (take_answers v (suc r)) (put_answers v (suc (suc r)))
      (tt, under_append N (goes_on (many v + 3)) (HandedOut 0 (short (suc r) 7) ∷ []) (goes_under N (many v + 3)) (l, tt))
      (put_under N (suc (suc r))))

  -- the thief does no other line 1 before its compare
  rounds_not : (r : ℕ) (U : World) (k : ℕ) → k < length (rounds r) → At (played U (rounds r ++ (step 1 ∷ []))) k (Line1 1) → ⊥
  rounds_not r U k h a =
      no_thief (rounds r) (step 1 ∷ []) U k (rounds_own r) h
      (at_map (played U (rounds r ++ (step 1 ∷ []))) k (Line1 1) (λ s. s.call ≡ step 1) line1_call a)

  pub waits_not : (n r : ℕ) (U : World) → Lone U → past n U ≡ true → (k : ℕ) → k < n + length (rounds r)
      → At (played U (replicate n (step 1) ++ (rounds r ++ (step 1 ∷ [])))) k (Line1 1) → ⊥
  unfolding played
  waits_not zero r U H p k h a = rounds_not r U k (omega arith) a
  waits_not (suc n) r U H p zero h a = past_not (played1 U (step 1)) (not-true _ (and_left _ _ p)) a
  waits_not (suc n) r U H p (suc k) h a =
      waits_not n r (call_of U (step 1)).world (lone_call H (step 1))
      (subst (λ (D : Outcome). past n D.world ≡ true) (sym (raw_is U (step 1) H)) (and_right _ _ p)) k (omega arith) a
