-- A list of calls, and its answers, as words.
use Rattle.std.specs.Prelude.{List, [], ◌∷◌, ◌++◌, ℕ, zero, suc, ◌+◌, ◌*◌, eqb, get_or}
use Rattle.model.specs.declared.Payload.{Payload}
use Rattle.model.specs.declared.Operation.TheVariants.{Put, Take, Steal, Commit}
use Rattle.model.specs.declared.Answer.{Answer}
use Rattle.model.specs.declared.Answer.TheVariants.{Accepted, Numbered, GoesOn, Finished, HandedOut, Empty, Full, Grown, Refused}
use Rattle.model.specs.Tests.{when◌then◌else◌}
use Rattle.model.specs.Tasks.{payload}
use Rattle.model.specs.Answers.{number_of, entry_of, entry_words}
use Rattle.model.specs.Calls.{Call, begin, step, drop_link, drain, ask, drop_ask}
use Rattle.model.specs.Run.{Played}

-- CALLS. How many words one has: operation, worker, and a payload of four words
abbrev pub call_words : ℕ
call_words = 6

-- operation 1 is put, 2 take, 3 steal, 4 a link that fails, 5 a drain, 6 commit, 7 an ask, 8 an ask dropped, and any other number a
-- step; the payload is a put's
abbrev pub call_by : ℕ → ℕ → Payload → Call
call_by o i p =
    when eqb o 1 then begin i (Put p)
    else when eqb o 2 then begin i Take
    else when eqb o 3 then begin i Steal
    else when eqb o 4 then drop_link i
    else when eqb o 5 then drain
    else when eqb o 6 then begin i Commit
    else when eqb o 7 then ask i
    else when eqb o 8 then drop_ask i
    else step i

-- call k of the words s; the first n calls
abbrev pub call_at : List ℕ → ℕ → Call
call_at s k =
    call_by (get_or s (k * call_words) 0) (get_or s (k * call_words + 1) 0)
    (payload (get_or s (k * call_words + 2) 0) (get_or s (k * call_words + 3) 0) (get_or s (k * call_words + 4) 0)
    (get_or s (k * call_words + 5) 0))

unfoldable pub calls_from : List ℕ → ℕ → List Call
calls_from s zero = []
calls_from s (suc n) = calls_from s n ++ (call_at s n ∷ [])

-- ANSWERS. How many words one has
abbrev pub answer_words : ℕ
answer_words = 7

-- of an answer that ends an operation its log entry, with four payload words; of another 0, which one it is, and its number
abbrev pub entered : Answer → List ℕ
entered a = entry_words 4 (entry_of a)

abbrev pub as_words : Answer → List ℕ
as_words GoesOn = 0 ∷ 0 ∷ 0 ∷ 0 ∷ 0 ∷ 0 ∷ 0 ∷ []
as_words Accepted = 0 ∷ 1 ∷ 0 ∷ 0 ∷ 0 ∷ 0 ∷ 0 ∷ []
as_words (Numbered n) = 0 ∷ 2 ∷ n ∷ 0 ∷ 0 ∷ 0 ∷ 0 ∷ []
as_words (Refused r) = 0 ∷ 3 ∷ number_of r ∷ 0 ∷ 0 ∷ 0 ∷ 0 ∷ []
as_words (Finished i t) = entered (Finished i t)
as_words (HandedOut i t) = entered (HandedOut i t)
as_words (Empty i) = entered (Empty i)
as_words (Full i t) = entered (Full i t)
as_words (Grown i) = entered (Grown i)

-- those of a list, in order
unfoldable pub all_as_words : List Played → List ℕ
all_as_words [] = []
all_as_words (p ∷ ps) = as_words p.answer ++ all_as_words ps
