-- The values of a line, one after the other.
use Prim.Native.Nat.{ℕ, ◌+◌, ◌-◌, ◌≤◌, ◌<◌}
use native.Mathlib.Omega.{arith}
use mathlib.Core.Path.{◌≡◌, refl, sym, ap, ◌∙◌}
use mathlib.Core.List.{List, [], ◌∷◌, ◌++◌, append_assoc, append-nil}
use lib.ListN.{length, get_or, take, drop, length-append}
use lib.Seq.{drop-drop, get_or-drop}
use borrow.Author.Tests.{ne_eqb, le-leb, lt-leb}
use Rattle.model.specs.Tests.{◌and◌, when◌then◌else◌}
use Rattle.text.specs.Numbers.{value_of}
use Rattle.text.specs.Words.{words, head, tail}
use Rattle.text.specs.Commands.{Values, wrong, these, joined, values, formed, formed_of, key_of, command_of}
use Rattle.std.specs.declared.option.Option.{Option}
use Rattle.std.specs.declared.option.Option.TheVariants.{None, Some}
use Rattle.text.specs.declared.Key as key
use Rattle.text.specs.declared.Key.{Key}
use Rattle.model.specs.declared.Command.TheVariants.{Bad}
use Rattle.text.proofs.Lists.{next, done, if_false}
use Rattle.text.proofs.Split.{split, rest_space, rest_none, rest_at, space_at, first_fits}

unfoldable pub prefixed : List ℕ → Values → Values
prefixed l wrong = wrong
prefixed l (these v) = these (l ++ v)

prefixed_one : (l : List ℕ) (x : ℕ) (vs : Values) → prefixed l (joined (Some x) vs) ≡ prefixed (l ++ (x ∷ [])) vs
unfolding prefixed joined
prefixed_one l x wrong = refl
prefixed_one l x (these v) = rw append_assoc

prefixed_nil : (vs : Values) → prefixed [] vs ≡ vs
unfolding prefixed
prefixed_nil wrong = refl
prefixed_nil (these v) = refl

-- six values are the most that any keyword takes
pub long : (k : Key) (v : List ℕ) → 6 < length v → formed k v ≡ Bad
unfolding formed ◌and◌ when◌then◌else◌
long key.TheVariants.Other v h = refl
long key.TheVariants.Queue v h = rw (le-leb 5 (length v) (omega arith), lt-leb (length v) 6 h)
long key.TheVariants.Put v h = rw (le-leb 1 (length v) (omega arith), lt-leb (length v) 4 (omega arith))
long key.TheVariants.Take v h = rw (ne_eqb (length v) 0 (λ e. omega arith))
long key.TheVariants.Steal v h = rw (ne_eqb (length v) 1 (λ e. omega arith))
long key.TheVariants.Step v h = rw (ne_eqb (length v) 2 (λ e. omega arith))
long key.TheVariants.Who v h = if_false _ _ _ (ne_eqb (length v) _ (λ e. omega arith))
long key.TheVariants.End v h = rw (ne_eqb (length v) 0 (λ e. omega arith))

-- where the loop stands: the values so far, and those that are still to come
abbrev pub Read : List ℕ → ℕ → List ℕ → Type 0
Read line at l = (prefixed l (values (tail (words (drop at line)))) ≡ values (tail (words line))) × (at < length line → get_or line at 0 ≡ 32)

pub read_first : (line : List ℕ) → Read line (length (head (words line))) []
read_first line = (rw (rest_at line) (prefixed_nil _), space_at line)

open_word : (line : List ℕ) (at : ℕ) (l : List ℕ) → at < length line → Read line at l → prefixed l (joined (value_of (head (words (drop (at + 1) line)))) (values (tail (words (drop (at + 1) line))))) ≡ values (tail (words line))
unfolding values
open_word line at l h r = rw (next line at h, rest_space (drop (at + 1) line) (get_or line at 0) (r.1 h), split (drop (at + 1) line)) at r.0

abbrev pub end_of : List ℕ → ℕ → ℕ
end_of line at = at + 1 + length (head (words (drop (at + 1) line)))

pub read_on_lem : (line : List ℕ) (at : ℕ) (l : List ℕ) (x : ℕ) → at < length line → Read line at l → value_of (head (words (drop (at + 1) line))) ≡ Some x → Read line (end_of line at) (l ++ (x ∷ []))
read_on_lem line at l x h r e = (
  rw (← prefixed_one l x, ← drop-drop (length (head (words (drop (at + 1) line)))) (at + 1) line, rest_at (drop (at + 1) line), ← e) (open_word line at l h r),
  λ k. rw (← get_or-drop (at + 1) line (length (head (words (drop (at + 1) line)))) 0) (space_at (drop (at + 1) line) (rw lib.ListN.length-drop (omega arith))),
)

pub read_fits : (line : List ℕ) (at : ℕ) → at < length line → end_of line at ≤ length line
read_fits line at h = let k = first_fits (drop (at + 1) line) in omega (arith, rw lib.ListN.length-drop at k)

-- the loop ends: no word is left, one is no number, or there are more than fit
pub read_all : (line : List ℕ) (at : ℕ) (l : List ℕ) → length line ≤ at → Read line at l → values (tail (words line)) ≡ these l
unfolding prefixed values
read_all line at l h r = sym (rw (done line at h, rest_none, append-nil) at r.0)

pub read_none : (line : List ℕ) (at : ℕ) (l : List ℕ) → at < length line → Read line at l → value_of (head (words (drop (at + 1) line))) ≡ None → values (tail (words line)) ≡ wrong
unfolding joined prefixed
read_none line at l h r e = sym (open_word line at l h r) ∙ ap (λ x. prefixed l (joined x (values (tail (words (drop (at + 1) line)))))) e

pub none_these : (vs : Values) (ns : List ℕ) → vs ≡ wrong → vs ≡ these ns → ⊥
none_these vs ns e f = let z : ◌≡◌ {A = ℕ} 0 1 = cc in let y : ⊥ = omega arith in y

longer : (l ns : List ℕ) (x : Option ℕ) (vs : Values) → prefixed l (joined x vs) ≡ these ns → length l < length ns
unfolding joined prefixed
longer l ns None vs e = absurd (none_these wrong ns refl e)
longer l ns (Some x) wrong e = absurd (none_these wrong ns refl e)
longer l ns (Some x) (these v) e =
    let f : l ++ (x ∷ v) ≡ ns = cc in
    let g : length (l ++ (x ∷ v)) ≡ length ns = ap length f in
    omega (arith, length-append l (x ∷ v))

pub read_more : (line : List ℕ) (at : ℕ) (l ns : List ℕ) → at < length line → Read line at l → values (tail (words line)) ≡ these ns → length l < length ns
read_more line at l ns h r e = longer l ns _ _ (open_word line at l h r ∙ e)

-- the line is read from its numbers
pub command_these : (line l : List ℕ) → values (tail (words line)) ≡ these l → command_of line ≡ formed (key_of (head (words line))) l
unfolding command_of formed_of
command_these line l e = rw e

pub command_none : (line : List ℕ) → ((ns : List ℕ) → values (tail (words line)) ≡ these ns → 6 < length ns) → command_of line ≡ Bad
unfolding command_of
command_none line f = go (values (tail (words line))) refl
  where
    go : (vs : Values) → values (tail (words line)) ≡ vs → formed_of (key_of (head (words line))) vs ≡ Bad
    go wrong e = unfold formed_of in refl
    go (these ns) e = unfold formed_of in long (key_of (head (words line))) ns (f ns e)

-- the part of the line that the loop hands on is the word
pub part_is : (line : List ℕ) (at to : ℕ) → to ≡ end_of line at → take (to - (at + 1)) (drop (at + 1) line) ≡ head (words (drop (at + 1) line))
part_is line at to e =
    let k : to - (at + 1) ≡ length (head (words (drop (at + 1) line))) = omega arith in
    rw k (Rattle.text.proofs.Split.first_front (drop (at + 1) line))

pub front_is : (line : List ℕ) (to : ℕ) → to ≡ 0 + length (head (words line)) → take to line ≡ head (words line)
front_is line to e =
    let k : to ≡ length (head (words line)) = omega arith in
    rw k (Rattle.text.proofs.Split.first_front line)
