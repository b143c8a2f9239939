-- The words of a task: word 0 is its put number, words 1 to 4 are the payload's. With v payload words those past word v are 0.
use Rattle.std.specs.Prelude.{Bool, true, List, [], ◌∷◌, ℕ, eqb, get_or, set, take, drop}
use Rattle.model.specs.declared.Payload.{Payload}
use Rattle.model.specs.declared.Task.{Task}
use Rattle.model.specs.Tests.{◌and◌}

abbrev pub payload : ℕ → ℕ → ℕ → ℕ → Payload
payload a b c d = record { first = a; second = b; third = c; fourth = d }

abbrev pub task : ℕ → Payload → Task
task n p = record { number = n; payload = p }

-- no word read yet
abbrev pub no_task : Task
no_task = task 0 (payload 0 0 0 0)

abbrev pub words_in : Task → List ℕ
words_in t = t.number ∷ t.payload.first ∷ t.payload.second ∷ t.payload.third ∷ t.payload.fourth ∷ []

-- the task of these words; where there are none, 0
abbrev pub task_of : List ℕ → Task
task_of l = task (get_or l 0 0) (payload (get_or l 1 0) (get_or l 2 0) (get_or l 3 0) (get_or l 4 0))

-- its word j; and with another word j
unfoldable pub word_in : Task → ℕ → ℕ
word_in t j = get_or (words_in t) j 0

unfoldable pub with_word : Task → ℕ → ℕ → Task
with_word t j x = task_of (set (words_in t) j x)

-- the task whose word j is f j for the first n words; the others are 0
unfoldable pub gathered : ℕ → (ℕ → ℕ) → Task
gathered n f = task_of (take n (f 0 ∷ f 1 ∷ f 2 ∷ f 3 ∷ f 4 ∷ []))

-- the first n of its words; the others are 0
abbrev pub first_words : ℕ → Task → Task
first_words n t = gathered n (word_in t)

-- its words from word n on are 0
abbrev pub all_zero : List ℕ → Bool
all_zero [] = true
all_zero (x ∷ l) = eqb x 0 and all_zero l

abbrev pub none_from : ℕ → Task → Bool
none_from n t = all_zero (drop n (words_in t))

abbrev pub same_payload : Payload → Payload → Bool
same_payload p q =
    eqb p.first q.first and eqb p.second q.second and eqb p.third q.third and eqb p.fourth q.fourth

abbrev pub same_task : Task → Task → Bool
same_task t u = eqb t.number u.number and same_payload t.payload u.payload
