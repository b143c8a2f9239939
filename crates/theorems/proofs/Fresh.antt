-- An accepted fresh.
use mathlib.Core.Path.{◌≡◌, refl, sym, ◌∙◌, ap, subst}
use mathlib.Core.Bool.{Bool, true, false}
use mathlib.Core.List.Memᴰ
use mathlib.Core.List.{List, []}
use Prim.Native.Nat.{ℕ, zero, suc, ◌+◌, ◌*◌, ◌≤◌, ◌<◌}
use native.Mathlib.Omega.{arith}
use native.Mathlib.Nat.{mul-div_cancel_left}
use lib.Dec.{ltb, leb}
use lib.Pow.{pow_pos}
use lib.ListN.{length, replicate}
use borrow.Author.Tests.{ltb-true, leb-true, eq-eqb}
use Rattle.model.specs.declared.Setup.{Setup}
use Rattle.model.specs.declared.Kind.{Kind}
use Rattle.model.specs.declared.Kind.TheVariants.{Lifo, Fifo, Deque}
use Rattle.model.specs.declared.Line.TheVariants.{Idle}
use Rattle.model.specs.declared.Refusal.{Refusal}
use Rattle.model.specs.declared.Refusal.TheVariants.{UnknownQueue, TagWidth, ArraySize, Crew, ShortStore, PayloadWords}
use Rattle.model.specs.declared.Answer.TheVariants.{Accepted}
use Rattle.model.specs.Tests.{least, when◌then◌else◌, ◌and◌, ◌or◌}
use Rattle.model.proofs.Tests.{and_both}
use Rattle.model.proofs.Alone.{at_most_usable}
use Rattle.model.specs.World.{World, Outcome, refuse, tag_bits, resting, line_at}
use Rattle.model.specs.Stores.{in_line}
use Rattle.model.specs.Memory.{word_at, zeros, offset_at, length_at, size_at, words_to, usable}
use Rattle.model.specs.Limits.{is_size, kind_ok, width_ok, crew_ok, words_ok}
use Rattle.model.specs.Calls.{blank_at, no_bench, lent, kind_of, linked_of, admitted, first_length, fresh_of, Call}
use Rattle.model.specs.Run.{Played, played, after}
use Rattle.model.specs.Figures.{anchor}
use Rattle.model.proofs.Directory.{Size, size_pos, size_yes}
use Rattle.theorems.proofs.Words.{zeros_length, earlier_slot}
use Rattle.theorems.proofs.Indices.{StandsFor}
use Rattle.theorems.proofs.Invariant.{tops_refl, DueIf}
use Rattle.theorems.proofs.Owed.{view}
use Rattle.theorems.proofs.Order.{order_fresh}
use Rattle.theorems.proofs.Directory.{both, Arrays, zeros_new}
use Rattle.theorems.proofs.Asides.{none_aside}
use Rattle.theorems.proofs.Shape.{tail, Bounded, Spent}
use Rattle.theorems.proofs.Valid.{Whole, Snug}
use Rattle.theorems.proofs.Company.{Turn, played_in, after_in, InCompany}
use Rattle.theorems.proofs.Alone.{Lone, lone_company}
use Rattle.theorems.proofs.SoundRun.{InvOf, LinkedSince, Runs}
use Rattle.theorems.proofs.Links.{never_held}

-- what an accepted fresh was handed; its array lies at offset o, 0 for a lone queue
pub record Given (o w c n ω : ℕ) (m : List ℕ) : Type 0 where
  pub width : (0 < w) × (w ≤ 16)
  pub test : is_size 10 c ≡ true
  pub crew : (0 < n) × (n ≤ 8)
  pub words : (0 < ω) × (ω ≤ 4)
  pub room : o + (ω + 1) * c ≤ length m

-- the bench that it hands back, with the memory lent to it
abbrev pub start : ℕ → Kind → Bool → ℕ → ℕ → ℕ → ℕ → Bool → List ℕ → List ℕ → World
start o κ x w c n ω δ m l = lent (blank_at o κ x w c n ω δ) (zeros m o ((ω + 1) * c)) l

-- as it is told
abbrev pub start_of : ℕ → Setup → List ℕ → List ℕ → World
start_of o s m l = start o (kind_of s.kind) (linked_of s.kind) s.width s.size s.crew s.words s.delayed m l

-- the tests that an accepted one passed, with n words left
pub record Admitted (s : Setup) (n : ℕ) : Type 0 where
  pub kind : (ltb 0 s.kind and leb s.kind 5) ≡ true
  pub width : (0 < s.width) × (s.width ≤ 16)
  pub test : is_size 10 s.size ≡ true
  pub crew : (0 < s.crew) × (s.crew ≤ 8)
  pub words : (0 < s.words) × (s.words ≤ 4)
  pub room : (s.words + 1) * s.size ≤ n

-- what is asked of what comes out holds of no refusal: so it is x
module _ {A : Type 0} (P : A → Type 0) (R : Refusal → A) (never : (r : Refusal) → P (R r) → ⊥) where
  passed : (t : Bool) (x : A) (r : Refusal) → P (when t then x else R r) → (t ≡ true) × ((when t then x else R r) ≡ x) × P x
  unfolding when◌then◌else◌
  passed true x r e = (refl, refl, e)
  passed false x r e = absurd (never r e)

  pub admitted_is : (s : Setup) (n : ℕ) (x : A) → P (admitted s n R x) → (admitted s n R x ≡ x) × Admitted s n × P x
  admitted_is s n x e =
      let a = passed (ltb 0 s.kind and leb s.kind 5) _ UnknownQueue e in
      let b = passed (width_ok s.width) _ TagWidth a.2 in
      let d = passed (is_size 10 s.size) _ ArraySize b.2 in
      let f = passed (crew_ok s.crew) _ Crew d.2 in
      let h = passed (words_ok s.words) _ PayloadWords f.2 in
      let g = passed (leb (first_length s) n) _ ShortStore h.2 in
      let u = both (ltb 0 s.width) (leb s.width 16) b.0 in
      let v = both (ltb 0 s.crew) (leb s.crew 8) f.0 in
      let y = both (ltb 0 s.words) (leb s.words 4) h.0 in (
        a.1 ∙ b.1 ∙ d.1 ∙ f.1 ∙ h.1 ∙ g.1,
        record {
          kind = a.0;
          width = (ltb-true 0 s.width u.0, leb-true s.width 16 u.1);
          test = d.0;
          crew = (ltb-true 0 s.crew v.0, leb-true s.crew 8 v.1);
          words = (ltb-true 0 s.words y.0, leb-true s.words 4 y.1);
          room = leb-true (first_length s) n g.0;
        },
        g.2,
      )

-- kinds 0 to 5: the FIFO queue is not linked
known_kind : (k : ℕ) → k ≤ 5 → kind_ok (kind_of k) (linked_of k) ≡ true
unfolding when◌then◌else◌ ◌or◌
known_kind zero h = refl
known_kind (suc zero) h = refl
known_kind (suc (suc zero)) h = refl
known_kind (suc (suc (suc zero))) h = refl
known_kind (suc (suc (suc (suc zero)))) h = refl
known_kind (suc (suc (suc (suc (suc zero))))) h = refl
known_kind (suc (suc (suc (suc (suc (suc k)))))) h = absurd (omega arith)

pub known_admitted : (s : Setup) (n : ℕ) → Admitted s n → kind_ok (kind_of s.kind) (linked_of s.kind) ≡ true
known_admitted s n M = known_kind s.kind (leb-true s.kind 5 (both (ltb 0 s.kind) (leb s.kind 5) M.kind).1)

-- with its array at word o, where the store has the words from there on
pub given : (o : ℕ) (s : Setup) (n : ℕ) (m : List ℕ) → Admitted s n → o + n ≤ length m → Given o s.width s.size s.crew s.words m
given o s n m M h = record { width = M.width; test = M.test; crew = M.crew; words = M.words; room = omega (arith, M.room, h) }

pub fresh_is : (s : Setup) (m l : List ℕ) → (fresh_of s m l).answer ≡ Accepted → ((fresh_of s m l).world ≡ start_of 0 s m l) × Admitted s (usable m)
unfolding fresh_of
fresh_is s m l e =
    let F = admitted_is (λ (D : Outcome). D.answer ≡ Accepted) (λ r. refuse (lent no_bench m l) r) (λ r q. let z : ◌≡◌ {A = ℕ} 0 1 = cc in omega arith) s (usable m) _ e in
    (ap (λ (D : Outcome). D.world) F.0, F.1)

rests : (q k : ℕ) → line_at (replicate q resting) k ≡ Idle
rests zero k = refl
rests (suc q) zero = refl
rests (suc q) (suc k) = rests q k

module _ (o : ℕ) (κ : Kind) (x : Bool) (w c n ω : ℕ) (δ : Bool) (m l : List ℕ) (A : Given o w c n ω m) (F : kind_ok κ x ≡ true) where
  first_size : size_at ω (blank_at o κ x w c n ω δ).queue.arrays 0 ≡ c
  unfolding length_at size_at
  first_size = mul-div_cancel_left c (omega arith)

  first_long : length_at (blank_at o κ x w c n ω δ).queue.arrays 0 ≡ (ω + 1) * c
  unfolding length_at
  first_long = refl

  first_off : offset_at (blank_at o κ x w c n ω δ).queue.arrays 0 ≡ o
  unfolding offset_at
  first_off = refl

  sized : Size c
  sized = size_yes 10 c (omega arith) A.test

  zero_length : length (zeros m o ((ω + 1) * c)) ≡ length m
  zero_length = zeros_length m o ((ω + 1) * c) (omega (arith, A.room))

  zero_anchor : (κ : Kind) (w z : ℕ) → Bounded κ w z 0 (anchor 0 0 0)
  zero_anchor Lifo w z = (refl, omega arith, pow_pos w)
  zero_anchor Fifo w z = (omega arith, omega arith, omega arith, refl)
  zero_anchor Deque w z = (omega arith, omega arith, pow_pos w)

  zero_spent : (κ : Kind) → Spent κ (tail κ (anchor 0 0 0)) Idle 0
  zero_spent Lifo = tt
  zero_spent Fifo = omega arith
  zero_spent Deque = tt

  first_numbers : (k t : ℕ) → k < 1 → t < size_at ω (blank_at o κ x w c n ω δ).queue.arrays k → word_at (zeros m o ((ω + 1) * c)) ω (offset_at (blank_at o κ x w c n ω δ).queue.arrays k) t 0 ≤ 65535
  unfolding word_at
  first_numbers zero t h g =
      rw (first_off, zeros_new m o ((ω + 1) * c) (o + (ω + 1) * t + 0) (omega arith) (omega (arith, earlier_slot (ω + 1) t c 0 (omega (arith, first_size)) (omega arith))) (omega (arith, A.room))) (omega arith)
  first_numbers (suc k) t h g = absurd (omega arith)

  arrays_ok : Arrays ω (blank_at o κ x w c n ω δ).queue (zeros m o ((ω + 1) * c))
  arrays_ok =
      record {
        some = omega arith;
        below = omega arith;
        few = omega arith;
        slots = refl;
        tidied = and_both _ _ (eq-eqb _ _ long) (rw first_size A.test);
        kept = sym first_size;
        power = omega (arith, first_size, size_pos sized);
        room = omega (arith, first_off, first_long, zero_length, A.room);
        numbers = λ k t h g. first_numbers k t h g;
      }
    where
      long : length_at (blank_at o κ x w c n ω δ).queue.arrays 0 ≡ (ω + 1) * size_at ω (blank_at o κ x w c n ω δ).queue.arrays 0
      long = first_long ∙ sym (ap (λ (x : ℕ). (ω + 1) * x) first_size)

  pub fresh_whole : Whole (start o κ x w c n ω δ m l)
  unfolding when◌then◌else◌
  fresh_whole =
      record {
        kinds = F;
        links = λ k h. absurd (never_held 8 k h);
        width = A.width;
        words = A.words;
        crew = A.crew;
        workers = refl;
        rest = λ k h. rw (rests 8 k);
        used = omega arith;
        logged = omega arith;
        stores = refl;
        line = omega arith;
        mode = λ e. refl;
        aside = none_aside ω (blank_at o κ x w c n ω δ).queue Idle refl;
        low = 0;
        shape =
            record {
              anchor = zero_anchor κ _ _;
              arrays = arrays_ok;
              path = tt;
              own = record { claims = refl; spent = zero_spent κ; shape = tt };
              th = λ k. rw (rests 8 (suc k)) tt;
            };
      }

  rep_zero : (κ : Kind) → StandsFor κ (anchor 0 0 0) 0 0
  rep_zero Lifo = (refl, refl, refl)
  rep_zero Fifo = (refl, refl)
  rep_zero Deque = (refl, refl)

  pub fresh_inv : InvOf (start o κ x w c n ω δ m l) []
  fresh_inv =
      record {
        own_lo = 0;
        own_hi = 0;
        base =
            record {
              lo = 0;
              hi = 0;
              rep = rep_zero κ;
              tops = tops_refl κ 0;
              core =
                  record {
                    low = omega arith;
                    mid = omega arith;
                    high = omega arith;
                    fit = omega arith;
                    whole = λ i a b. absurd (omega arith);
                    out_l = λ i a b. absurd (omega arith);
                    out_h = λ i a b. absurd (omega arith);
                    all = λ t d. absurd (Memᴰ.not-nil d);
                  };
              sized = rw first_size sized;
              sorted = λ k l. absurd (omega arith);
              room = rw (first_off, first_size) (omega (arith, zero_length, A.room));
              tag = pow_pos _;
              owed = tt;
              th = λ k. rw (rests 8 (suc k)) tt;
            };
        own = tt;
        due = nothing_due δ;
        order = order_fresh κ _ refl refl;
      }
    where
      nothing_due : (δ : Bool) → DueIf δ κ (view ω (blank_at o κ x w c n ω δ).queue (zeros m o ((ω + 1) * c)) 0 0) [] []
      nothing_due true = λ t n d s. absurd s
      nothing_due false = λ t n d. Memᴰ.not-nil d

-- what is needed of an accepted fresh
pub record Started (W : World) : Type 0 where
  pub whole : Whole W
  pub inv : InvOf W []
  pub idle : line_at W.bench.workers 0 ≡ Idle
  pub since : LinkedSince W []
  pub line : in_line W.bench.waiting ≡ []
  pub counts : W.bench.restarts ≡ replicate 8 0
  pub written : W.bench.written ≡ 0

pub started : (o : ℕ) (s : Setup) (n : ℕ) (m l : List ℕ) → Admitted s n → o + n ≤ length m → Started (start_of o s m l)
started o s n m l M h =
    let A = given o s n m M h in
    let F = known_admitted s n M in
    record {
      whole = fresh_whole o (kind_of s.kind) (linked_of s.kind) s.width s.size s.crew s.words s.delayed m l A F;
      inv = fresh_inv o (kind_of s.kind) (linked_of s.kind) s.width s.size s.crew s.words s.delayed m l A F;
      idle = refl;
      since = λ i h. absurd (never_held 8 (suc i) h);
      line = refl;
      counts = refl;
      written = refl;
    }

-- a lone one: no gap
pub fresh_snug : (s : Setup) (m l : List ℕ) → Admitted s (usable m) → Snug (start_of 0 s m l).bench (start_of 0 s m l).store
unfolding words_to offset_at length_at
fresh_snug s m l M =
    let u = at_most_usable m in
    let z = zeros_length m 0 ((s.words + 1) * s.size) (omega (arith, u, M.room)) in
    record { close = omega arith; fitting = omega (arith, M.room, ap (λ (n : ℕ). least n 10235) z) }

pub fresh_started : (s : Setup) (m l : List ℕ) → (fresh_of s m l).answer ≡ Accepted → Started (fresh_of s m l).world
fresh_started s m l e = let F = fresh_is s m l e in subst Started (sym F.0) (started 0 s (usable m) m l F.1 (omega (arith, at_most_usable m)))

pub fresh_lone : (s : Setup) (m l : List ℕ) → (fresh_of s m l).answer ≡ Accepted → Lone (fresh_of s m l).world
fresh_lone s m l e =
    let F = fresh_is s m l e in
    record { whole = (fresh_started s m l e).whole; snug = subst (λ (W : World). Snug W.bench W.store) (sym F.0) (fresh_snug s m l F.1) }

-- what holds of all lists in company from an accepted fresh holds of a lone queue's lists
pub from_company : (P : List Played → World → Type 0) (s : Setup) (m l : List ℕ) → (fresh_of s m l).answer ≡ Accepted
    → let U = (fresh_of s m l).world in
    ((ts : List Turn) → InCompany U ts → P (played_in U ts) (after_in U ts)) → (cs : List Call) → P (played U cs) (after U cs)
from_company P s m l e f cs = lone_company P (fresh_lone s m l e) f cs

pub fresh_runs : (W : World) → Started W → Runs W.bench.kind (tag_bits W.bench) W.bench.delayed W []
fresh_runs W F =
    record {
      kind = refl;
      bits = refl;
      delayed = refl;
      whole = F.whole;
      inv = F.inv;
      since = F.since;
      good = tt;
      numbers = λ u d. absurd (Memᴰ.not-nil d);
    }
