-- Words of the store, and the directory of arrays.
use Rattle.std.specs.Prelude.{List, [], ◌∷◌, ◌++◌, ℕ, zero, suc, ◌+◌, ◌*◌, ◌/◌, length, get_or, set, take, drop, replicate}
use Rattle.model.specs.declared.Region.{Region}
use Rattle.model.specs.Tests.{least}

-- word j of slot t of the array at offset b: a task is its number and v payload words
unfoldable pub word_at : List ℕ → ℕ → ℕ → ℕ → ℕ → ℕ
word_at m v b t j = get_or m (b + (v + 1) * t + j) 0

unfoldable pub set_word : List ℕ → ℕ → ℕ → ℕ → ℕ → ℕ → List ℕ
set_word m v b t j x = set m (b + (v + 1) * t + j) x

-- these words, from word a on
abbrev pub set_all : List ℕ → ℕ → List ℕ → List ℕ
set_all m a [] = m
set_all m a (x ∷ xs) = set_all (set m a x) (a + 1) xs

-- n words from word a on become 0
unfoldable pub zeros : List ℕ → ℕ → ℕ → List ℕ
zeros m a n = take a m ++ (replicate n 0 ++ drop (a + n) m)

-- a pair of the directory that stands for no array
abbrev pub nowhere : Region
nowhere = record { offset = 0; length = 0 }

-- the array at place k of the directory: its offset and length in words, its size in tasks
unfoldable pub offset_at : List Region → ℕ → ℕ
offset_at l k = (get_or l k nowhere).offset

unfoldable pub length_at : List Region → ℕ → ℕ
length_at l k = (get_or l k nowhere).length

unfoldable pub size_at : ℕ → List Region → ℕ → ℕ
size_at v l k = length_at l k / (v + 1)

-- the word behind it; and the words that the first n arrays take together
abbrev pub end_at : List Region → ℕ → ℕ
end_at l k = offset_at l k + length_at l k

unfoldable pub words_to : List Region → ℕ → ℕ
words_to l zero = 0
words_to l (suc k) = words_to l k + length_at l k

-- of a store only the first 10,235 words are ever used
abbrev pub usable : List ℕ → ℕ
usable m = least (length m) 10235
