-- The judgement of a matcher's log, from its bytes: document 02, Wishes 1, 5 and 9. The entries are those of the bench's own log
-- (model/specs/Counts): kind, worker, put number, and v payload words.
use Rattle.std.specs.Prelude.{Bool, true, not, List, [], ◌∷◌, ℕ, zero, suc, ◌+◌, ◌-◌, ◌*◌, ◌/◌, ◌%◌, eqb, ltb, leb, length, get_or}
use Rattle.model.specs.Tests.{when◌then◌else◌, ◌and◌, ◌or◌, unless◌then◌else◌}
use Rattle.model.specs.Tasks.{same_task}
use Rattle.model.specs.Answers.{entry_length}
use Rattle.model.specs.Limits.{words_ok}
use Rattle.model.specs.Counts.{entry_at, is_kind, some_below, count_below, out_whole, out_first}
use Rattle.judgement.specs.declared.Verdict.{Verdict}
use Rattle.judgement.specs.declared.Verdict.TheVariants.{PayloadWords, TooLong, BadLength, No, Accepted}

-- 'each word four bytes, lowest first'; bytes too few for a word are none
unfoldable pub words_of : List ℕ → List ℕ
words_of [] = []
words_of (a ∷ []) = []
words_of (a ∷ b ∷ []) = []
words_of (a ∷ b ∷ c ∷ []) = []
words_of (a ∷ b ∷ c ∷ d ∷ s) = (a + 256 * b + 65536 * c + 16777216 * d) ∷ words_of s

-- all of 0 to n-1 pass the test
unfoldable pub all_below : (ℕ → Bool) → ℕ → Bool
all_below p zero = true
all_below p (suc j) = p j and all_below p j

-- 'kinds are 1 to 4', and 'the judge passes over kind 5', a commit's: nothing else below asks for it
abbrev pub known : ℕ → List ℕ → ℕ → Bool
known v l j = leb 1 (entry_at v l j).kind and leb (entry_at v l j).kind 5

-- 'numbers of kinds 1 and 4 together strictly rise': entry j's is above each before it
abbrev pub numbered : ℕ → List ℕ → ℕ → Bool
numbered v l j = is_kind v l 1 j or is_kind v l 4 j

abbrev pub rises : ℕ → List ℕ → ℕ → Bool
rises v l j =
    not (numbered v l j)
    or all_below (λ i. not (numbered v l i) or ltb (entry_at v l i).task.number (entry_at v l j).task.number) j

-- 'each hand-out repeats the number and payload of an earlier finished put'
abbrev pub finished_as : ℕ → List ℕ → ℕ → ℕ → Bool
finished_as v l j i = is_kind v l 1 i and same_task (entry_at v l i).task (entry_at v l j).task

abbrev pub justified : ℕ → List ℕ → ℕ → Bool
justified v l j = not (is_kind v l 2 j) or some_below (finished_as v l j) j

-- 'each finished put is handed out or listed', in a log of n entries and a list of m numbers
abbrev pub listed : List ℕ → ℕ → ℕ → Bool
listed stored x i = eqb (get_or stored i 0) x

abbrev pub kept : ℕ → List ℕ → ℕ → List ℕ → ℕ → ℕ → Bool
kept v l n stored m j =
    not (is_kind v l 1 j)
    or (some_below (out_whole v l (entry_at v l j).task) n or some_below (listed stored (entry_at v l j).task.number) m)

-- what is accepted; nothing else is judged
abbrev pub accepts : ℕ → List ℕ → ℕ → List ℕ → ℕ → Bool
accepts v l n stored m =
    all_below (known v l) n and all_below (rises v l) n and all_below (justified v l) n and all_below (kept v l n stored m) n

-- hand-outs, and the repeats: 'hand-outs less different numbers'
abbrev pub handouts : ℕ → List ℕ → ℕ → ℕ
handouts v l n = count_below (is_kind v l 2) n

abbrev pub repeats : ℕ → List ℕ → ℕ → ℕ
repeats v l n = handouts v l n - count_below (out_first v l) n

-- of the words of a log with n entries, and of a list of m numbers
abbrev pub judged_words : ℕ → List ℕ → ℕ → List ℕ → ℕ → Verdict
judged_words v l n stored m = when accepts v l n stored m then Accepted (handouts v l n) (repeats v l n) else No

-- the bytes of an entry
abbrev pub entry_bytes : ℕ → ℕ
entry_bytes v = 4 * entry_length v

-- 16 before 15 before 14; then the judgement
unfoldable pub judged : ℕ → List ℕ → List ℕ → Verdict
judged v log list =
    unless words_ok v then PayloadWords else
    unless leb (length log) 65536 and leb (length list) 65536 then TooLong else
    unless eqb (length log % entry_bytes v) 0 and eqb (length list % 4) 0 then BadLength else
    judged_words v (words_of log) (length log / entry_bytes v) (words_of list) (length list / 4)

-- the one number that a caller in C gets
abbrev pub verdict_number : Verdict → ℕ
verdict_number PayloadWords = 16
verdict_number TooLong = 15
verdict_number BadLength = 14
verdict_number No = 0
verdict_number (Accepted h r) = 4294967296 + 65536 * h + r

-- the hand-outs and the repeats of a verdict: 'An accepting answer carries' them, and 'A log not accepted answers no, with both
-- counts 0'. The enum's case for no has no fields; its two zeros stand here
abbrev pub counts_in : Verdict → ℕ × ℕ
counts_in PayloadWords = (0, 0)
counts_in TooLong = (0, 0)
counts_in BadLength = (0, 0)
counts_in No = (0, 0)
counts_in (Accepted h r) = (h, r)
