-- The log's written front is the entries that the steps answered, in order.
use mathlib.Core.Path.{◌≡◌, refl, sym, ◌∙◌, ap, subst}
use mathlib.Core.Bool.{Bool, true, false}
use mathlib.Core.List.{List, [], ◌∷◌, ◌++◌, append-nil, append_assoc}
use Prim.Native.Nat.{ℕ, zero, suc, ◌+◌, ◌≤◌, ◌<◌}
use native.Mathlib.Omega.{arith}
use native.Mathlib.Nat.{add-zero}
use lib.Dec.{ltb}
use lib.ListN.{length, set, take, length-set}
use lib.Seq.{length-take-le}
use borrow.Author.Tests.{ltb-false}
use Rattle.model.specs.declared.Room.{Room}
use Rattle.model.specs.declared.Operation.{Operation}
use Rattle.model.specs.declared.Operation.TheVariants.{Put, Take, Steal, Commit}
use Rattle.model.specs.declared.Answer.{Answer}
use Rattle.model.specs.declared.Answer.TheVariants.{Accepted, Refused}
use Rattle.model.specs.Tests.{when◌then◌else◌, ◌and◌}
use Rattle.model.specs.Memory.{set_all}
use Rattle.model.specs.Answers.{entry_of, ends, entry_length, entry_words}
use Rattle.model.specs.World.{World, Outcome}
use Rattle.model.specs.Calls.{begin_answer, log_full, front_of, fresh_of, Call, call_in}
use Rattle.model.specs.Run.{Played}
use Rattle.model.proofs.Tests.{or_false}
use Rattle.order.specs.Order.{entries, log_front, LogIsAnswers}
use Rattle.theorems.proofs.Cases.{effect_of, call_by}
use Rattle.theorems.proofs.WholeRun.{storing}
use Rattle.theorems.proofs.Company.{Turn, others, own, played_in, after_in, InCompany, whole_run}
use Rattle.theorems.proofs.SoundRun.{call_like}
use Rattle.order.proofs.Entries.{words_long}
use Rattle.theorems.proofs.Fresh.{Started, fresh_started, from_company}

-- a word written right behind a front makes the front one word longer; so the words of an entry make it as much longer
take_next : (l : List ℕ) (n m x : ℕ) → m ≡ suc n → n < length l → take m (set l n x) ≡ take n l ++ (x ∷ [])
take_next l n zero x e h = absurd (omega arith)
take_next [] n (suc m) x e h = absurd (omega arith)
take_next (y ∷ l) zero (suc zero) x e h = refl
take_next (y ∷ l) zero (suc (suc m)) x e h = absurd (omega arith)
take_next (y ∷ l) (suc n) (suc m) x e h = ap (λ (r : List ℕ). y ∷ r) (take_next l n m x (omega arith) (omega arith))

all_written : (xs l : List ℕ) (n : ℕ) → n + length xs ≤ length l
    → (length (set_all l n xs) ≡ length l) × (take (n + length xs) (set_all l n xs) ≡ take n l ++ xs)
all_written [] l n h = (refl, rw add-zero (sym (append-nil (take n l))))
all_written (x ∷ xs) l n h =
    let long : length (set l n x) ≡ length l = length-set l n x in
    let w = all_written xs (set l n x) (n + 1) (omega (arith, long)) in (
      w.0 ∙ long,
      ap (λ (k : ℕ). take k (set_all (set l n x) (n + 1) xs)) (let e : n + suc (length xs) ≡ n + 1 + length xs = omega arith in e)
          ∙ w.1 ∙ ap (λ (r : List ℕ). r ++ xs) (take_next l n (n + 1) x (omega arith) (omega arith)) ∙ append_assoc (take n l) (x ∷ []) xs,
    )

-- the words that an answer adds to the front
abbrev words : ℕ → Answer → List ℕ
words ω a = when ends a then entry_words ω (entry_of a) else []

-- a call adds its answer's words, and the front still lies in the log: a refusal and a begin have none, and a step that ends an
-- operation had room
abbrev Adds : World → Outcome → Type 0
Adds W D =
    (D.world.bench.written ≤ length D.world.log)
    × (take D.world.bench.written D.world.log ≡ take W.bench.written W.log ++ words W.bench.words D.answer)

begin_ends_none : (op : Operation) (u : ℕ) → ends (begin_answer op u) ≡ false
begin_ends_none (Put p) u = refl
begin_ends_none Take u = refl
begin_ends_none Steal u = refl
begin_ends_none Commit u = refl

adds_none : (ω : ℕ) (l : List ℕ) (a : Answer) → ends a ≡ false → l ≡ l ++ words ω a
unfolding when◌then◌else◌
adds_none ω l a e = rw e (sym (append-nil l))

step_adds : (ω : ℕ) (l : List ℕ) (n : ℕ) (a : Answer) (x : Bool) → ω ≤ 4 → n ≤ length l → (x and log_full ω l n) ≡ false
    → ((when x then n + entry_length ω else n) ≤ length (when x then set_all l n (entry_words ω (entry_of a)) else l))
    × (take (when x then n + entry_length ω else n) (when x then set_all l n (entry_words ω (entry_of a)) else l) ≡ take n l ++ (when x then entry_words ω (entry_of a) else []))
unfolding when◌then◌else◌ ◌and◌
step_adds ω l n a true g h r =
    let f : n + entry_length ω ≤ length l = ltb-false (length l) (n + entry_length ω) (or_false (ltb (length l) (n + entry_length ω)) _ r).0 in
    let e = words_long ω (entry_of a) g in
    let w = all_written (entry_words ω (entry_of a)) l n (omega (arith, e)) in
    (omega (arith, w.0), subst (λ (k : ℕ). take (n + k) (set_all l n (entry_words ω (entry_of a))) ≡ take n l ++ entry_words ω (entry_of a)) e w.1)
step_adds ω l n a false g h r = (h, sym (append-nil (take n l)))

call_adds : (ρ : Room) (W : World) → W.bench.words ≤ 4 → W.bench.written ≤ length W.log → (c : Call) → Adds W (call_in ρ W c)
call_adds ρ W g h c =
    call_by (Adds W) W (λ r l. (h, adds_none W.bench.words front (Refused r) refl)) ρ
    (λ i op B. (h, adds_none W.bench.words front (begin_answer op W.bench.used) (begin_ends_none op W.bench.used)))
    (λ i M. step_adds W.bench.words W.log W.bench.written (effect_of ρ W i).answer (ends (effect_of ρ W i).answer) g h M.room) (λ i. (h, adds_none W.bench.words front Accepted refl)) (λ some. (h, adds_none W.bench.words front Accepted refl)) (λ n A. (h, adds_none W.bench.words front Accepted refl)) c
  where
    front : List ℕ
    front = take W.bench.written W.log

-- so does a list of calls
pub front_grows : (ω : ℕ) (ts : List Turn) (W : World) → W.bench.words ≡ ω → ω ≤ 4 → W.bench.written ≤ length W.log
    → log_front (after_in W ts) ≡ take W.bench.written W.log ++ entries ω (played_in W ts)
unfolding played_in after_in front_of
front_grows ω [] W e g h = sym (append-nil (take W.bench.written W.log))
front_grows ω (others m ∷ ts) W e g h = front_grows ω ts (storing W m) e g h
front_grows ω (own ρ c ∷ ts) W e g h =
    let A = call_adds ρ W (omega arith) h c in
    front_grows ω ts (call_in ρ W c).world ((call_like ρ W c).words ∙ e) g A.0 ∙ ap (λ (r : List ℕ). r ++ entries ω (played_in (call_in ρ W c).world ts)) A.1
    ∙ ap (λ (v : ℕ). take W.bench.written W.log ++ words v (call_in ρ W c).answer ++ entries ω (played_in (call_in ρ W c).world ts)) e
    ∙ append_assoc (take W.bench.written W.log) (words ω (call_in ρ W c).answer) (entries ω (played_in (call_in ρ W c).world ts))

-- and a fresh bench has written nothing: in company, and alone
pub log_in : (ts : List Turn) (U : World) → Started U → log_front (after_in U ts) ≡ entries U.bench.words (played_in U ts)
log_in ts U F =
    front_grows _ ts U refl F.whole.words.1 F.whole.logged
    ∙ ap (λ (n : ℕ). take n U.log ++ entries U.bench.words (played_in U ts)) F.written

pub log_is_answers : LogIsAnswers
log_is_answers s m l e =
    from_company (λ (T : List Played) (X : World). log_front X ≡ entries (fresh_of s m l).world.bench.words T) s m l e (λ ts C. log_in ts _ (fresh_started s m l e))

-- which lies in the log, so that the front has as many words as are written
pub written_in : (ts : List Turn) (U : World) → Started U → InCompany U ts → (after_in U ts).bench.written ≡ length (entries U.bench.words (played_in U ts))
unfolding front_of
written_in ts U F C = sym (length-take-le _ _ (whole_run ts U F.whole C).logged) ∙ ap length (log_in ts U F)
