-- One more call of a list: what it leaves, and its answer's words behind the others.
use mathlib.Core.Path.{◌≡◌, refl, sym, ap, ◌∙◌}
use mathlib.Core.List.{List, [], ◌∷◌, ◌++◌, append_assoc, append-nil}
use Prim.Native.Nat.{ℕ, zero, suc, ◌+◌, ◌*◌}
use native.Mathlib.Numerals.{add-one}
use native.Mathlib.Omega.{arith}
use lib.ListN.{length, take, drop, length-append}
use lib.Seq.{paste, take_at, drop_at, drop-drop, take_all}
use Rattle.model.specs.declared.Answer.{Answer}
use Rattle.model.specs.declared.Answer.TheVariants.{Accepted, Numbered, GoesOn, Finished, HandedOut, Empty, Full, Grown, Refused}
use Rattle.model.specs.World.{World, Outcome}
use Rattle.model.specs.Calls.{Call, call_of}
use Rattle.model.specs.Run.{played, after}
use Rattle.plays.specs.Words.{call_at, calls_from, answer_words, as_words, all_as_words}

after_one : (cs : List Call) (c : Call) (W : World) → after W (cs ++ (c ∷ [])) ≡ (call_of (after W cs) c).world
unfolding after
after_one [] c W = refl
after_one (d ∷ cs) c W = after_one cs c (call_of W d).world

words_one : (cs : List Call) (c : Call) (W : World)
    → all_as_words (played W (cs ++ (c ∷ []))) ≡ all_as_words (played W cs) ++ as_words (call_of (after W cs) c).answer
unfolding all_as_words played after
words_one [] c W = append-nil _
words_one (d ∷ cs) c W =
    ap (λ (l : List ℕ). as_words (call_of W d).answer ++ l) (words_one cs c (call_of W d).world)
    ∙ sym (append_assoc (as_words (call_of W d).answer) _ _)

-- how many words there are
pub words_each : (a : Answer) → length (as_words a) ≡ answer_words
words_each Accepted = refl
words_each (Numbered n) = refl
words_each GoesOn = refl
words_each (Finished i t) = refl
words_each (HandedOut i t) = refl
words_each (Empty i) = refl
words_each (Full i t) = refl
words_each (Grown i) = refl
words_each (Refused r) = refl

words_many : (s : List ℕ) (W : World) (n : ℕ) → length (all_as_words (played W (calls_from s n))) ≡ n * answer_words
unfolding calls_from all_as_words played
words_many s W zero = refl
words_many s W (suc n) =
    ap length (words_one (calls_from s n) (call_at s n) W)
    ∙ length-append (all_as_words (played W (calls_from s n))) _
    ∙ omega (arith, words_many s W n, words_each (call_of (after W (calls_from s n)) (call_at s n)).answer)

-- the k words ws behind those of p, over the words that are left of d
behind : (p d ws : List ℕ) (at k : ℕ) → length p ≡ at → length ws ≡ k → paste (p ++ drop at d) at ws k ≡ p ++ ws ++ drop (at + k) d
behind p d ws at k e f =
    let rest : drop (at + k) (p ++ drop at d) ≡ drop (at + k) d =
    sym (drop-drop k at (p ++ drop at d)) ∙ ap (drop k) (drop_at p (drop at d) at e) ∙ drop-drop k at d in
    ap (λ (l : List ℕ). l ++ take k ws ++ drop (at + k) (p ++ drop at d)) (take_at p (drop at d) at e)
    ∙ ap (λ (l : List ℕ). p ++ l ++ drop (at + k) (p ++ drop at d)) (take_all k ws (omega arith))
    ∙ ap (λ (l : List ℕ). p ++ ws ++ l) rest

calls_one : (s : List ℕ) (n : ℕ) → calls_from s (n + 1) ≡ calls_from s n ++ (call_at s n ∷ [])
unfolding calls_from
calls_one s n = rw add-one

module _ (s : List ℕ) (n : ℕ) (U W : World) (o : Outcome) (here : W ≡ after U (calls_from s n)) (made : o ≡ call_of W (call_at s n)) where
  pub next_world : o.world ≡ after U (calls_from s (n + 1))
  next_world =
      ap (λ (d : Outcome). d.world) made
      ∙ ap (λ (w : World). (call_of w (call_at s n)).world) here
      ∙ sym (after_one (calls_from s n) (call_at s n) U)
      ∙ ap (after U) (sym (calls_one s n))

  next_answer : all_as_words (played U (calls_from s (n + 1))) ≡ all_as_words (played U (calls_from s n)) ++ as_words o.answer
  next_answer =
      ap (λ (cs : List Call). all_as_words (played U cs)) (calls_one s n)
      ∙ words_one (calls_from s n) (call_at s n) U
      ∙ ap (λ (d : Outcome). all_as_words (played U (calls_from s n)) ++ as_words d.answer) (sym (made ∙ ap (λ (w : World). call_of w (call_at s n)) here))

  -- the answer's words, written at its place among the answers
  module _ (a b rest ws : List ℕ) where
    pub next_words : a ≡ all_as_words (played U (calls_from s n)) ++ drop (n * answer_words) rest → ws ≡ as_words o.answer
        → b ≡ paste a (n * answer_words) ws answer_words
        → b ≡ all_as_words (played U (calls_from s (n + 1))) ++ drop ((n + 1) * answer_words) rest
    next_words e f g =
        let up : n * answer_words + answer_words ≡ (n + 1) * answer_words = omega arith in
        g
        ∙ ap (λ (l : List ℕ). paste l (n * answer_words) ws answer_words) e
        ∙ behind (all_as_words (played U (calls_from s n))) rest ws (n * answer_words) answer_words (words_many s U n) (ap length f ∙ words_each o.answer)
        ∙ ap (λ (l : List ℕ). all_as_words (played U (calls_from s n)) ++ l ++ drop (n * answer_words + answer_words) rest) f
        ∙ ap (λ (l : List ℕ). l ++ drop (n * answer_words + answer_words) rest) (sym next_answer)
        ∙ ap (λ (k : ℕ). all_as_words (played U (calls_from s (n + 1))) ++ drop k rest) up
