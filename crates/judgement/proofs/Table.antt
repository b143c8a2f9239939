-- The definition tried by computation: one row for each part of the request's sentence, from both sides. A row has the payload
-- words, the words of a log, the put numbers listed, and the verdict on their bytes.
use mathlib.Core.Path.{◌≡◌, refl}
use mathlib.Core.List.{List, [], ◌∷◌, ◌++◌, map}
use Prim.Native.Nat.{ℕ, ◌/◌, ◌%◌}
use lib.ListN.{replicate}
use Rattle.model.specs.Tests.{when◌then◌else◌, ◌and◌, ◌or◌}
use Rattle.model.specs.Tasks.{gathered}
use Rattle.model.specs.Counts.{some_below, count_below}
use Rattle.judgement.specs.declared.Verdict.{Verdict}
use Rattle.judgement.specs.declared.Verdict.TheVariants.{PayloadWords, TooLong, BadLength, No, Accepted}
use Rattle.judgement.specs.Judgement.{words_of, all_below, judged, verdict_number, counts_in}

abbrev pub bytes_of : List ℕ → List ℕ
bytes_of [] = []
bytes_of (w ∷ s) = w % 256 ∷ w / 256 % 256 ∷ w / 65536 % 256 ∷ w / 16777216 ∷ bytes_of s

-- entries: put n with payload p is finished, is handed out to worker i, found FULL; worker i found EMPTY; a commit ended,
-- with n and p where its zeros belong
abbrev put : ℕ → ℕ → List ℕ
put n p = 1 ∷ 0 ∷ n ∷ p ∷ []

abbrev out : ℕ → ℕ → ℕ → List ℕ
out i n p = 2 ∷ i ∷ n ∷ p ∷ []

abbrev empty : ℕ → List ℕ
empty i = 3 ∷ i ∷ 0 ∷ 0 ∷ []

abbrev full : ℕ → ℕ → List ℕ
full n p = 4 ∷ 0 ∷ n ∷ p ∷ []

abbrev grown : ℕ → ℕ → List ℕ
grown n p = 5 ∷ 0 ∷ n ∷ p ∷ []

pub record Row : Type 0 where
  pub words : ℕ
  pub log : List ℕ
  pub stored : List ℕ
  pub verdict : Verdict

abbrev wide : ℕ → List ℕ → List ℕ → Verdict → Row
wide v l s x = record { words = v; log = l; stored = s; verdict = x }

abbrev row : List ℕ → List ℕ → Verdict → Row
row l s x = wide 1 l s x

abbrev pub table : List Row
table =
    row [] [] (Accepted 0 0)
    -- a finished put is handed out or listed
    ∷ row (put 1 65) [] No
    ∷ row (put 1 65) (1 ∷ []) (Accepted 0 0)
    ∷ row (put 1 65 ++ out 0 1 65) [] (Accepted 1 0)
    ∷ row (put 1 65 ++ put 2 66 ++ out 0 2 66) [] No
    ∷ row (put 1 65 ++ put 2 66 ++ out 0 2 66) (7 ∷ 1 ∷ 1 ∷ []) (Accepted 1 0)
    -- handed out twice, by any worker: a repeat
    ∷ row (put 1 65 ++ out 0 1 65 ++ put 3 66 ++ out 4294967295 1 65 ++ out 2 3 66 ++ out 2 1 65) [] (Accepted 4 2)
    -- a hand-out has number and payload of an earlier finished put
    ∷ row (put 1 65 ++ out 0 1 66) (1 ∷ []) No
    ∷ row (put 1 65 ++ out 0 2 65) (1 ∷ []) No
    ∷ row (out 0 1 65 ++ put 1 65) [] No
    ∷ row (full 1 65 ++ out 0 1 65) [] No
    -- the numbers of kinds 1 and 4 rise; the first may be 0, and a FULL put need not be listed
    ∷ row (put 0 65 ++ full 1 65 ++ put 4294967295 9) (0 ∷ 4294967295 ∷ []) (Accepted 0 0)
    ∷ row (put 2 65 ++ put 2 65) (2 ∷ []) No
    ∷ row (put 2 65 ++ full 2 66) (2 ∷ []) No
    ∷ row (full 3 66 ++ put 2 65) (2 ∷ []) No
    ∷ row (put 2 65 ++ out 0 2 65 ++ put 1 65) (1 ∷ []) No
    -- kinds are 1 to 5; of EMPTY nothing else is judged
    ∷ row (0 ∷ 0 ∷ 0 ∷ 0 ∷ []) [] No
    ∷ row (6 ∷ 0 ∷ 1 ∷ 65 ∷ []) (1 ∷ []) No
    ∷ row (257 ∷ 0 ∷ 1 ∷ 65 ∷ []) (1 ∷ []) No
    ∷ row (empty 1 ++ 3 ∷ 9 ∷ 9 ∷ 9 ∷ []) [] (Accepted 0 0)
    -- a commit is passed over, whatever its words: no rise is broken by it, none needs it, and it finishes no put
    ∷ row (put 1 65 ++ grown 0 0 ++ put 2 66) (1 ∷ 2 ∷ []) (Accepted 0 0)
    ∷ row (put 1 65 ++ grown 9 9 ++ put 2 66 ++ out 0 2 66) (1 ∷ []) (Accepted 1 0)
    ∷ row (put 2 65 ++ grown 3 0 ++ put 2 66) (2 ∷ []) No
    ∷ row (grown 1 65 ++ out 0 1 65) [] No
    ∷ row (put 1 65 ++ grown 1 65) [] No
    ∷ row (grown 1 65) [] (Accepted 0 0)
    ∷ wide 2 (1 ∷ 0 ∷ 1 ∷ 65 ∷ 66 ∷ 5 ∷ 7 ∷ 1 ∷ 65 ∷ 66 ∷ 4 ∷ 0 ∷ 2 ∷ 0 ∷ 0 ∷ []) (1 ∷ []) (Accepted 0 0)
    -- wider payloads: all words count
    ∷ wide 2 (1 ∷ 0 ∷ 1 ∷ 65 ∷ 66 ∷ 2 ∷ 1 ∷ 1 ∷ 65 ∷ 66 ∷ []) [] (Accepted 1 0)
    ∷ wide 2 (1 ∷ 0 ∷ 1 ∷ 65 ∷ 66 ∷ 2 ∷ 1 ∷ 1 ∷ 65 ∷ 67 ∷ []) (1 ∷ []) No
    ∷ wide 4 (1 ∷ 0 ∷ 1 ∷ 5 ∷ 6 ∷ 7 ∷ 8 ∷ 2 ∷ 1 ∷ 1 ∷ 5 ∷ 6 ∷ 7 ∷ 8 ∷ 2 ∷ 3 ∷ 1 ∷ 5 ∷ 6 ∷ 7 ∷ 8 ∷ []) [] (Accepted 2 1)
    ∷ wide 4 (1 ∷ 0 ∷ 1 ∷ 5 ∷ 6 ∷ 7 ∷ 8 ∷ 2 ∷ 1 ∷ 1 ∷ 5 ∷ 6 ∷ 7 ∷ 9 ∷ []) (1 ∷ []) No
    -- 8 words: two entries of one payload word, none of two or three; 0 and 5 payload words
    ∷ wide 1 (put 1 65 ++ put 2 66) (1 ∷ 2 ∷ []) (Accepted 0 0)
    ∷ wide 2 (put 1 65 ++ put 2 66) (1 ∷ 2 ∷ []) BadLength
    ∷ wide 0 (put 1 65) (1 ∷ []) PayloadWords
    ∷ wide 5 [] [] PayloadWords
    ∷ []

pub judgements : map (λ (r : Row). judged r.words (bytes_of r.log) (bytes_of r.stored)) table ≡ map (λ (r : Row). r.verdict) table
unfolding judged words_of all_below some_below count_below when◌then◌else◌ ◌and◌ ◌or◌ gathered
judgements = refl

-- lengths: 16 before 15 before 14, and 65,536 bytes are not too many
pub lengths :
    map (λ (p : List ℕ × List ℕ). judged 1 p.0 p.1)
    ((replicate 15 1, [])
    ∷ (replicate 17 1, [])
    ∷ ([], replicate 3 1)
    ∷ ([], replicate 5 1)
    ∷ (replicate 65537 0, [])
    ∷ ([], replicate 65537 0)
    ∷ (replicate 65537 0, replicate 3 0)
    ∷ (replicate 15 0, replicate 65537 0)
    ∷ (replicate 15 0, replicate 65536 0)
    ∷ [])
    ≡ BadLength ∷ BadLength ∷ BadLength ∷ BadLength ∷ TooLong ∷ TooLong ∷ TooLong ∷ TooLong ∷ BadLength ∷ []
unfolding judged when◌then◌else◌ ◌and◌
lengths = refl

pub width_first : judged 0 (replicate 65537 0) (replicate 3 0) ≡ PayloadWords
unfolding judged when◌then◌else◌ ◌and◌
width_first = refl

pub numbers :
    map verdict_number (PayloadWords ∷ TooLong ∷ BadLength ∷ No ∷ Accepted 0 0 ∷ Accepted 3 1 ∷ Accepted 4096 4095 ∷ [])
    ≡ 16 ∷ 15 ∷ 14 ∷ 0 ∷ 4294967296 ∷ 4295163905 ∷ 4563406847 ∷ []
numbers = refl

-- the counts of a log that is accepted, of one that is not though it has a hand-out, and of bytes that are not judged
pub counts :
    map counts_in
    (judged 1 (bytes_of (put 1 65 ++ out 0 1 65 ++ out 2 1 65)) []
    ∷ judged 1 (bytes_of (put 1 65 ++ out 0 1 65 ++ out 2 1 66)) []
    ∷ judged 1 (replicate 15 1) []
    ∷ judged 1 (replicate 65537 0) []
    ∷ [])
    ≡ (2, 1) ∷ (0, 0) ∷ (0, 0) ∷ (0, 0) ∷ []
unfolding judged words_of all_below some_below count_below when◌then◌else◌ ◌and◌ ◌or◌ gathered
counts = refl
