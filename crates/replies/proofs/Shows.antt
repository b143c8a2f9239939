-- The text of what is printed, and its length.
use Rattle.std.specs.Prelude.{Result, Ok, Err}
use Prim.Native.Nat.{ℕ, ◌+◌, ◌*◌, ◌≤◌}
use native.Mathlib.Omega.{arith}
use mathlib.Core.Path.{◌≡◌, refl, ap, sym, ◌∙◌}
use mathlib.Core.List.{List, [], ◌∷◌, ◌++◌, append_assoc, append-nil}
use lib.ListN.{length, take, drop, length-take}
use Rattle.model.specs.declared.Refusal.{Refusal}
use Rattle.model.specs.declared.Answer.{Answer}
use Rattle.model.specs.declared.Answer.TheVariants.{Accepted, Numbered, GoesOn, Finished, HandedOut, Empty, Full, Grown, Refused}
use Rattle.model.specs.declared.Counts.{Counts}
use Rattle.model.specs.Tasks.{words_in}
use Rattle.model.specs.Answers.{number_of}
use Rattle.model.specs.Listing.{Print, D, H, E, F, R, Wi, printed, printed_tally, totals}
use Rattle.text.specs.Numbers.{line_of, Placed}
use Rattle.text.proofs.Spell.{line_most}
use Rattle.replies.specs.Shown.{shown, shown_all}

pub show_none : shown_all [] ≡ []
unfolding shown_all
show_none = refl

pub show_one : (p : Print) → shown_all (p ∷ []) ≡ shown p
unfolding shown_all
show_one p = append-nil (shown p)

pub show_append : (ps qs : List Print) → shown_all (ps ++ qs) ≡ shown_all ps ++ shown_all qs
unfolding shown_all
show_append [] qs = refl
show_append (p ∷ ps) qs = ap (λ (l : List ℕ). shown p ++ l) (show_append ps qs) ∙ sym (append_assoc (shown p) (shown_all ps) (shown_all qs))

most : (x k : ℕ) (p : Print) (ns : List ℕ) → shown p ≡ line_of x ns → 2 + 21 * length ns ≤ k → length (shown_all (p ∷ [])) ≤ k
most x k p ns e h = rw (show_one p, e) (omega (arith, line_most x ns))

-- an answer prints at most one line, of at most six numbers
pub answer_most : (v : ℕ) (a : Answer) → length (shown_all (printed v a)) ≤ 128
unfolding shown
answer_most v Accepted = rw show_none (omega arith)
answer_most v (Numbered n) = rw show_none (omega arith)
answer_most v GoesOn = rw show_none (omega arith)
answer_most v (Finished i t) = most _ 128 (D t.number) (t.number ∷ []) refl (omega arith)
answer_most v (HandedOut i t) =
    let words = take v (drop 1 (words_in t)) in
    most _ 128 (H i t.number words) (i ∷ t.number ∷ words) refl (omega (arith, length-take v (drop 1 (words_in t))))
answer_most v (Empty i) = most _ 128 (E i) (i ∷ []) refl (omega arith)
answer_most v (Full i t) = most _ 128 (F t.number) (t.number ∷ []) refl (omega arith)
answer_most v (Grown i) = rw show_none (omega arith)
answer_most v (Refused r) = most _ 128 (R (number_of r)) (number_of r ∷ []) refl (omega arith)

pub tally_most : (i : ℕ) (t : Result ℕ Refusal) → length (shown_all (printed_tally i t)) ≤ 128
unfolding shown
tally_most i (Ok n) = most _ 128 (Wi i n) (i ∷ n ∷ []) refl (omega arith)
tally_most i (Err r) = most _ 128 (R (number_of r)) (number_of r ∷ []) refl (omega arith)

pub totals_most : (c : Counts) → length (shown_all (totals c ∷ [])) ≤ 128
unfolding shown
totals_most c =
    most _ 128 (totals c) (c.finished ∷ c.handouts ∷ c.different ∷ c.restarts ∷ c.window ∷ c.lost ∷ []) refl (omega arith)

-- what an answer prints, as the code puts it into the output: nothing, or one line
pub shows_none : (b : List ℕ) (at : ℕ) → Placed b at (shown_all []) at b
shows_none b at = rw show_none (record { ends = omega arith; put = refl })

module _ (x : ℕ) (p : Print) (ns : List ℕ) (is : shown p ≡ line_of x ns) where
  pub shows_room : (at n : ℕ) → at + length (shown_all (p ∷ [])) ≤ n → at + length (line_of x ns) ≤ n
  shows_room at n h = omega (arith, ap length (show_one p ∙ is))

  pub shows_one : (b : List ℕ) (at e : ℕ) (a : List ℕ) → Placed b at (line_of x ns) e a → Placed b at (shown_all (p ∷ [])) e a
  shows_one b at e a h = rw (show_one p, is) h
