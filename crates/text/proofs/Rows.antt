-- Lines read and numbers printed by computation. Lines: `queue` with five and with six numbers, `put` with none to five, `who` with
-- none to two, and the largest store.
use mathlib.Core.Path.{◌≡◌, refl}
use mathlib.Core.List.{[], ◌∷◌, map}
use Rattle.model.specs.declared.Command.TheVariants.{Bad, BeginPut, Open, Who}
use Rattle.model.specs.Tests.{◌and◌, when◌then◌else◌}
use Rattle.model.specs.Tasks.{payload}
use Rattle.text.specs.Quoted.{bytes}
use Rattle.text.specs.Same.{same}
use Rattle.text.specs.Numbers.{all_digits, plain, onward, value_of, spelled, decimal_of}
use Rattle.text.specs.Words.{onto, words, head, tail}
use Rattle.text.specs.Commands.{joined, values, formed, formed_of, key_of, command_of}

pub rows :
    map command_of
    (bytes "queue 1 2 4 3 10235"
    ∷ bytes "queue 1 2 4 3 10236"
    ∷ bytes "queue 1 2 4 3 10235 1"
    ∷ bytes "queue 1 2 4 3 10236 1"
    ∷ bytes "queue 1 2 4 3 12 4"
    ∷ bytes "queue 1 2 4 3 12 0"
    ∷ bytes "queue 1 2 4 3 12 4294967295"
    ∷ bytes "queue 1 2 4 3 12 01"
    ∷ bytes "queue 1 2 4 3"
    ∷ bytes "queue 1 2 4 3 12 1 1"
    ∷ bytes "put"
    ∷ bytes "put 5"
    ∷ bytes "put 5 6"
    ∷ bytes "put 5 6 7"
    ∷ bytes "put 5 6 7 8"
    ∷ bytes "put 5 6 7 8 9"
    ∷ bytes "put 5  6"
    ∷ bytes "who"
    ∷ bytes "who 7"
    ∷ bytes "who 4294967295"
    ∷ bytes "who 07"
    ∷ bytes "who 7 7"
    ∷ [])
    ≡ Open 1 2 4 3 10235 1
    ∷ Bad
    ∷ Open 1 2 4 3 10235 1
    ∷ Bad
    ∷ Open 1 2 4 3 12 4
    ∷ Open 1 2 4 3 12 0
    ∷ Open 1 2 4 3 12 4294967295
    ∷ Bad
    ∷ Bad
    ∷ Bad
    ∷ Bad
    ∷ BeginPut 1 (payload 5 0 0 0)
    ∷ BeginPut 2 (payload 5 6 0 0)
    ∷ BeginPut 3 (payload 5 6 7 0)
    ∷ BeginPut 4 (payload 5 6 7 8)
    ∷ Bad
    ∷ Bad
    ∷ Bad
    ∷ Who 7
    ∷ Who 4294967295
    ∷ Bad
    ∷ Bad
    ∷ []
unfolding command_of formed_of formed key_of values joined value_of plain all_digits onward words onto head tail same ◌and◌ when◌then◌else◌
rows = refl

-- numbers: the largest that is read, the next, the largest sum of eight counts, and the largest of 64 bits
pub numbers :
    map decimal_of (0 ∷ 4294967295 ∷ 4294967296 ∷ 34359738360 ∷ 18446744073709551615 ∷ [])
    ≡ bytes "0" ∷ bytes "4294967295" ∷ bytes "4294967296" ∷ bytes "34359738360" ∷ bytes "18446744073709551615" ∷ []
unfolding decimal_of spelled when◌then◌else◌
numbers = refl
