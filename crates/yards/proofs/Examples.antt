-- Isolation tried by computation: without its premise it is false, and with it the same calls are answered as alone.
use mathlib.Core.Path.{◌≡◌, refl}
use mathlib.Core.List.{List, [], ◌∷◌}
use Prim.Native.Nat.{ℕ}
use lib.ListN.{replicate}
use Rattle.model.specs.declared.Refusal.TheVariants.{NoSpace, AskStands}
use Rattle.model.specs.declared.Answer.{Answer}
use Rattle.model.specs.declared.Answer.TheVariants.{Accepted, Refused}
use Rattle.model.specs.Tests.{when◌then◌else◌, ◌and◌, ◌or◌}
use Rattle.model.specs.Memory.{zeros, word_at, set_word, offset_at, length_at, size_at, words_to}
use Rattle.model.specs.Stores.{landed_all}
use Rattle.model.specs.Lines.{line_step}
use Rattle.model.specs.Limits.{valid_of}
use Rattle.model.specs.Calls.{setup, fresh_of, ask_of, ask, drop_ask}
use Rattle.model.specs.Run.{Played, played}
use Rattle.model.specs.Yard.{total_of, all_below, sound_yard, make_of, on_of, YardCall, make, on, ground_after, part}
use Rattle.yards.specs.Yards.{opened, quotas_of, calls_of, answers_of}

-- a LIFO queue of size 1 with one payload word, and a quota
abbrev made : ℕ → YardCall
made quota = make (setup 1 1 1 1 1) quota []

-- two of them over 8 words: queue 1 asks, queue 0 asks, and once more when queue 1 has dropped its ask
abbrev together : ℕ → ℕ → List Played
together a b = part 0 (ground_after (opened (replicate 8 9)) (made a ∷ made b ∷ [])) (on 1 (ask 0) ∷ on 0 (ask 0) ∷ on 1 (drop_ask 0) ∷ on 0 (ask 0) ∷ [])

-- queue 0's own calls, alone in a store of so many words
abbrev alone : ℕ → List Played → List Answer
alone n T = answers_of (played (fresh_of (setup 1 1 1 1 1) (replicate n 9) []).world (calls_of T))

-- quotas of 6 and 6 do not fit: the ask is answered 20 in company, and alone it is accepted
pub cramped : (answers_of (together 6 6) ≡ Refused NoSpace ∷ Accepted ∷ []) × (quotas_of (6 ∷ 6 ∷ []) 2 ≡ 12)
unfolding quotas_of part ground_after make_of on_of sound_yard all_below total_of words_to line_step landed_all zeros word_at set_word offset_at length_at size_at when◌then◌else◌ ◌and◌ ◌or◌
cramped = (refl, refl)

pub cramped_alone : alone 6 (together 6 6) ≡ Accepted ∷ Refused AskStands ∷ []
unfolding played fresh_of ask_of valid_of part ground_after make_of on_of sound_yard all_below total_of words_to line_step landed_all zeros word_at set_word offset_at length_at size_at when◌then◌else◌ ◌and◌ ◌or◌
cramped_alone = refl

-- quotas of 6 and 2 fit: queue 1 is refused, and queue 0 is answered as alone
pub fitting : (answers_of (together 6 2) ≡ Accepted ∷ Refused AskStands ∷ []) × (alone 6 (together 6 2) ≡ answers_of (together 6 2)) × (quotas_of (6 ∷ 2 ∷ []) 2 ≡ 8)
unfolding quotas_of played fresh_of ask_of valid_of part ground_after make_of on_of sound_yard all_below total_of words_to line_step landed_all zeros word_at set_word offset_at length_at size_at when◌then◌else◌ ◌and◌ ◌or◌
fitting = (refl, refl, refl)
