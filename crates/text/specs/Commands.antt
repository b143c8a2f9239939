-- What a line of input says.
use Rattle.std.specs.Prelude.{◌≡◌, ◌⊎◌, ℕ, ◌≤◌, List, [], ◌∷◌, ◌++◌, length, get_or, take, leb, eqb}
use Rattle.text.specs.Quoted.{bytes}
use Rattle.model.specs.declared.Payload.{Payload}
use Rattle.model.specs.Tests.{◌and◌, when◌then◌else◌}
use Rattle.model.specs.Tasks.{payload}
use Rattle.text.specs.Same.{same}
use Rattle.text.specs.Numbers.{value_of, spaced_of}
use Rattle.text.specs.Words.{words, head, tail}
use Rattle.std.specs.declared.option.Option.{Option}
use Rattle.std.specs.declared.option.Option.TheVariants.{None, Some}
use Rattle.text.specs.declared.Key as key
use Rattle.text.specs.declared.Key.{Key}
use Rattle.model.specs.declared.Command.TheVariants.{Bad, BeginPut, BeginSteal, BeginTake, End, Open, Steps, Who}
use Rattle.model.specs.declared.Command.{Command}

-- the word that a line begins with: queue, put, take, steal, step, who or end
unfoldable pub key_of : List ℕ → Key
key_of w =
    when same w (bytes "queue") then key.TheVariants.Queue else
    (when same w (bytes "put") then key.TheVariants.Put else
    (when same w (bytes "take") then key.TheVariants.Take else
    (when same w (bytes "steal") then key.TheVariants.Steal else
    (when same w (bytes "step") then key.TheVariants.Step else
    (when same w (bytes "who") then key.TheVariants.Who else
    (when same w (bytes "end") then key.TheVariants.End else key.TheVariants.Other))))))

-- the words after it: a list of numbers, or not
pub data Values : Type 0 where
  wrong : Values
  these : List ℕ → Values

unfoldable pub joined : Option ℕ → Values → Values
joined None vs = wrong
joined (Some x) wrong = wrong
joined (Some x) (these v) = these (x ∷ v)

unfoldable pub values : List (List ℕ) → Values
values [] = these []
values (w ∷ ws) = joined (value_of w) (values ws)

-- the payload of these words, and the first n words of a payload
abbrev pub payload_of : List ℕ → Payload
payload_of v = payload (get_or v 0 0) (get_or v 1 0) (get_or v 2 0) (get_or v 3 0)

abbrev pub first_of : ℕ → Payload → List ℕ
first_of n p = take n (p.first ∷ p.second ∷ p.third ∷ p.fourth ∷ [])

-- the keyword with as many numbers as it takes, those with a range within it; the sixth of `queue` is 1 if it is not there
unfoldable pub formed : Key → List ℕ → Command
formed key.TheVariants.Other v = Bad
formed key.TheVariants.Queue v =
    when leb 5 (length v) and leb (length v) 6 and leb (get_or v 4 0) 10235
    then Open (get_or v 0 0) (get_or v 1 0) (get_or v 2 0) (get_or v 3 0) (get_or v 4 0) (get_or v 5 1)
    else Bad
formed key.TheVariants.Put v =
    when leb 1 (length v) and leb (length v) 4
    then BeginPut (length v) (payload_of v)
    else Bad
formed key.TheVariants.Take v = when eqb (length v) 0 then BeginTake else Bad
formed key.TheVariants.Steal v = when eqb (length v) 1 then BeginSteal (get_or v 0 0) else Bad
formed key.TheVariants.Step v =
    when eqb (length v) 2 and leb (get_or v 1 0) 65535
    then Steps (get_or v 0 0) (get_or v 1 0)
    else Bad
formed key.TheVariants.Who v = when eqb (length v) 1 then Who (get_or v 0 0) else Bad
formed key.TheVariants.End v = when eqb (length v) 0 then End else Bad

unfoldable pub formed_of : Key → Values → Command
formed_of k wrong = Bad
formed_of k (these v) = formed k v

unfoldable pub command_of : List ℕ → Command
command_of line = formed_of (key_of (head (words line))) (values (tail (words line)))

-- each fits 32 bits
abbrev pub Small : List ℕ → Type 0
Small [] = Unit {0}
Small (n ∷ ns) = (n ≤ 4294967295) × Small ns

-- the line that says it
unfoldable pub text_of : Command → List ℕ
text_of Bad = []
text_of (Open k w c n s v) = bytes "queue" ++ spaced_of (k ∷ w ∷ c ∷ n ∷ s ∷ v ∷ [])
text_of (BeginPut v p) = bytes "put" ++ spaced_of (first_of v p)
text_of BeginTake = bytes "take"
text_of (BeginSteal i) = bytes "steal" ++ spaced_of (i ∷ [])
text_of (Steps i m) = bytes "step" ++ spaced_of (i ∷ m ∷ [])
text_of (Who i) = bytes "who" ++ spaced_of (i ∷ [])
text_of End = bytes "end"

-- `queue` with one payload word, which need not be said
unfoldable pub short_text : ℕ → ℕ → ℕ → ℕ → ℕ → List ℕ
short_text k w c n s = bytes "queue" ++ spaced_of (k ∷ w ∷ c ∷ n ∷ s ∷ [])

-- its values are within their ranges, and the words that a payload has not are 0
abbrev pub InRange : Command → Type 0
InRange Bad = Unit {0}
InRange (Open k w c n s v) =
    (k ≤ 4294967295) × (w ≤ 4294967295) × (c ≤ 4294967295) × (n ≤ 4294967295) × (s ≤ 10235) × (v ≤ 4294967295)
InRange (BeginPut v p) = (1 ≤ v) × (v ≤ 4) × (p ≡ payload_of (first_of v p)) × Small (first_of v p)
InRange BeginTake = Unit {0}
InRange (BeginSteal i) = i ≤ 4294967295
InRange (Steps i m) = (i ≤ 4294967295) × (m ≤ 65535)
InRange (Who i) = i ≤ 4294967295
InRange End = Unit {0}

-- the line l says the command; nothing is said of a bad line
abbrev pub Says : List ℕ → Command → Type 0
Says l Bad = Unit {0}
Says l (Open k w c n s v) =
    ((l ≡ text_of (Open k w c n s v)) ⊎ ((v ≡ 1) × (l ≡ short_text k w c n s))) × InRange (Open k w c n s v)
Says l (BeginPut v p) = (l ≡ text_of (BeginPut v p)) × InRange (BeginPut v p)
Says l BeginTake = (l ≡ text_of BeginTake) × InRange BeginTake
Says l (BeginSteal i) = (l ≡ text_of (BeginSteal i)) × InRange (BeginSteal i)
Says l (Steps i m) = (l ≡ text_of (Steps i m)) × InRange (Steps i m)
Says l (Who i) = (l ≡ text_of (Who i)) × InRange (Who i)
Says l End = (l ≡ text_of End) × InRange End
