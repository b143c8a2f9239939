-- A line that says a command is read as that command.
use Prim.Native.Nat.{ℕ, zero, suc, ◌≤◌}
use native.Mathlib.Omega.{arith}
use mathlib.Core.Path.{◌≡◌, refl, sym, ap, ◌∙◌}
use mathlib.Core.Bool.{true}
use mathlib.Core.List.{List, [], ◌∷◌, ◌++◌, append-nil}
use lib.Dec.{eqb}
use borrow.Author.Tests.{le-leb, leb-true, ne_eqb}
use Rattle.model.specs.Tests.{◌and◌, when◌then◌else◌}
use Rattle.text.specs.Same.{same}
use Rattle.text.specs.Numbers.{all_digits, decimal_of, spaced_of}
use Rattle.text.specs.Words.{onto, words, head, tail}
use Rattle.text.specs.Commands.{these, joined, values, formed, formed_of, key_of, command_of, Small, text_of, short_text, payload_of, first_of, InRange}
use Rattle.text.specs.declared.Key as key
use Rattle.model.specs.declared.Payload.{Payload}
use Rattle.model.specs.declared.Command.TheVariants.{Bad, BeginPut, BeginSteal, BeginTake, End, Open, Steps, Who}
use Rattle.model.specs.declared.Command.{Command}
use Rattle.text.proofs.Lists.{if_false, and_left, and_right}
use Rattle.text.proofs.Split.{split}
use Rattle.text.proofs.Spell.{read_back, decimal_digits}

-- the numbers, each as text
unfoldable pub texts : List ℕ → List (List ℕ)
texts [] = []
texts (n ∷ ns) = decimal_of n ∷ texts ns

onto_cons : (b : ℕ) (p : List ℕ) (ps : List (List ℕ)) → onto b (p ∷ ps) ≡ (b ∷ p) ∷ ps
unfolding onto
onto_cons b p ps = refl

words_more : (b : ℕ) (s : List ℕ) → (b ≡ 32 → ⊥) → words (b ∷ s) ≡ onto b (words s)
unfolding words
words_more b s h = if_false (eqb b 32) _ _ (ne_eqb b 32 h)

words_space : (s : List ℕ) → words (32 ∷ s) ≡ [] ∷ words s
unfolding words when◌then◌else◌
words_space s = refl

-- digits in front belong to the first word
digits_words : (s z : List ℕ) → all_digits s ≡ true → words (s ++ z) ≡ (s ++ head (words z)) ∷ tail (words z)
digits_words [] z e = split z
digits_words (b ∷ s) z e =
    words_more b (s ++ z) (λ q. absurd (let k : 48 ≤ b = first b s e in let y : ⊥ = omega arith in y))
    ∙ ap (onto b) (digits_words s z (others b s e)) ∙ onto_cons b _ _
  where
    first : (x : ℕ) (l : List ℕ) → all_digits (x ∷ l) ≡ true → 48 ≤ x
    first x l q = unfold all_digits in leb-true 48 x (and_left _ _ q)

    others : (x : ℕ) (l : List ℕ) → all_digits (x ∷ l) ≡ true → all_digits l ≡ true
    others x l q = unfold all_digits in and_right _ _ (and_right _ _ q)

spaced_words : (ns : List ℕ) → Small ns → words (spaced_of ns) ≡ [] ∷ texts ns
unfolding spaced_of texts words head tail
spaced_words [] h = refl
spaced_words (n ∷ ns) h =
    words_space (decimal_of n ++ spaced_of ns) ∙ ap (λ (l : List (List ℕ)). [] ∷ l)
    (digits_words (decimal_of n) (spaced_of ns) (decimal_digits n (omega (arith, h.0)))
    ∙ ap (λ (l : List (List ℕ)). (decimal_of n ++ head l) ∷ tail l) (spaced_words ns h.1) ∙ ap (λ (l : List ℕ). l ∷ texts ns) (append-nil (decimal_of n)))

texts_values : (ns : List ℕ) → Small ns → values (texts ns) ≡ these ns
unfolding texts values joined
texts_values [] h = refl
texts_values (n ∷ ns) h = rw (read_back n h.0, texts_values ns h.1)

read_words : (line k : List ℕ) (ns : List ℕ) → words line ≡ k ∷ texts ns → Small ns → command_of line ≡ formed (key_of k) ns
unfolding command_of formed_of head tail
read_words line k ns e h = rw (e, texts_values ns h)

put_formed : (v : ℕ) (p : Payload) → 1 ≤ v → v ≤ 4 → p ≡ payload_of (first_of v p) → formed key.TheVariants.Put (first_of v p) ≡ BeginPut v p
unfolding formed ◌and◌ when◌then◌else◌
put_formed zero p a b e = absurd (omega (arith, a))
put_formed (suc zero) p a b e = ap (λ (q : Payload). BeginPut 1 q) (sym e)
put_formed (suc (suc zero)) p a b e = ap (λ (q : Payload). BeginPut 2 q) (sym e)
put_formed (suc (suc (suc zero))) p a b e = ap (λ (q : Payload). BeginPut 3 q) (sym e)
put_formed (suc (suc (suc (suc zero)))) p a b e = ap (λ (q : Payload). BeginPut 4 q) (sym e)
put_formed (suc (suc (suc (suc (suc v))))) p a b e = absurd (omega (arith, b))

-- Reading the line that says a command gives the command.
pub read_text : (c : Command) → InRange c → command_of (text_of c) ≡ c
unfolding text_of texts words onto key_of formed same ◌and◌ when◌then◌else◌
read_text Bad h = read_words [] [] [] refl tt
read_text (Open k w c n s v) h =
    let small : Small (k ∷ w ∷ c ∷ n ∷ s ∷ v ∷ []) = (h.0, (h.1, (h.2, (h.3, (omega (arith, h.4), (h.5, tt)))))) in
    read_words _ (113 ∷ 117 ∷ 101 ∷ 117 ∷ 101 ∷ []) (k ∷ w ∷ c ∷ n ∷ s ∷ v ∷ []) (rw (spaced_words (k ∷ w ∷ c ∷ n ∷ s ∷ v ∷ []) small)) small
    ∙ rw (le-leb s 10235 h.4)
read_text (BeginPut v p) h =
    read_words _ (112 ∷ 117 ∷ 116 ∷ []) (first_of v p) (rw (spaced_words (first_of v p) h.3)) h.3 ∙ put_formed v p h.0 h.1 h.2
read_text BeginTake h = read_words _ (116 ∷ 97 ∷ 107 ∷ 101 ∷ []) [] refl tt
read_text (BeginSteal i) h = read_words _ (115 ∷ 116 ∷ 101 ∷ 97 ∷ 108 ∷ []) (i ∷ []) (rw (spaced_words (i ∷ []) (h, tt))) (h, tt)
read_text (Steps i m) h =
    let small : Small (i ∷ m ∷ []) = (h.0, (omega (arith, h.1), tt)) in
    read_words _ (115 ∷ 116 ∷ 101 ∷ 112 ∷ []) (i ∷ m ∷ []) (rw (spaced_words (i ∷ m ∷ []) small)) small ∙ rw (le-leb m 65535 h.1)
read_text (Who i) h = read_words _ (119 ∷ 104 ∷ 111 ∷ []) (i ∷ []) (rw (spaced_words (i ∷ []) (h, tt))) (h, tt)
read_text End h = read_words _ (101 ∷ 110 ∷ 100 ∷ []) [] refl tt

-- So does the shorter line of a queue with one payload word.
pub read_short : (k w c n s : ℕ) → InRange (Open k w c n s 1) → command_of (short_text k w c n s) ≡ Open k w c n s 1
unfolding short_text texts words onto key_of formed same ◌and◌ when◌then◌else◌
read_short k w c n s h =
    let small : Small (k ∷ w ∷ c ∷ n ∷ s ∷ []) = (h.0, (h.1, (h.2, (h.3, (omega (arith, h.4), tt))))) in
    read_words _ (113 ∷ 117 ∷ 101 ∷ 117 ∷ 101 ∷ []) (k ∷ w ∷ c ∷ n ∷ s ∷ []) (rw (spaced_words (k ∷ w ∷ c ∷ n ∷ s ∷ []) small)) small
    ∙ rw (le-leb s 10235 h.4)
