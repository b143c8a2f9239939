-- The log's entries, tried by computation: in each kind of queue all four kinds of entries, with the worker's number in each.
use mathlib.Core.Path.{◌≡◌, refl}
use mathlib.Core.List.{List, [], ◌∷◌, ◌++◌}
use Prim.Native.Nat.{ℕ, ◌+◌}
use lib.ListN.{replicate}
use Rattle.model.specs.declared.Operation.{Operation}
use Rattle.model.specs.declared.Operation.TheVariants.{Put, Take, Steal}
use Rattle.model.specs.Tests.{when◌then◌else◌, ◌and◌, ◌or◌}
use Rattle.model.specs.Memory.{zeros, word_at, set_word, offset_at, length_at, size_at, words_to}
use Rattle.model.specs.Tasks.{payload, word_in, with_word, gathered}
use Rattle.model.specs.Stores.{landed_all}
use Rattle.model.specs.Lines.{line_step}
use Rattle.model.specs.World.{World}
use Rattle.model.specs.Limits.{valid_of}
use Rattle.model.specs.Calls.{fresh_of, setup, begin_of, step_of, front_of, Call, begin, step}
use Rattle.model.specs.Run.{after}
use Rattle.model.proofs.Runs.{one}

-- worker i begins an operation and does n steps
abbrev does : ℕ → Operation → ℕ → List Call
does i op n = begin i op ∷ replicate n (step i)

-- a queue of kind k and v payload words with one slot, no room for a second array and a crew of 8; its log has 28 words, each 9 at the start
abbrev front_after : ℕ → ℕ → List Call → List ℕ
front_after v k cs =
    let W : World = after (fresh_of (setup k 1 1 8 v) (replicate (v + 1) 0) (replicate 28 9)).world cs in
    front_of W.bench W.log

-- LIFO: put 1 is finished, put 2 found FULL, thief 3 was handed put 1, thief 2 and the owner found EMPTY
abbrev lifo : List Call
lifo = does 0 (Put (one 7)) 5 ++ does 0 (Put (one 8)) 3 ++ does 3 Steal 6 ++ does 2 Steal 2 ++ does 0 Take 2

-- FIFO: thief 7 was handed put 1, thief 1 found EMPTY, and thief 5 is not done
abbrev fifo : List Call
fifo = does 0 (Put (one 7)) 6 ++ does 0 (Put (one 8)) 4 ++ does 7 Steal 7 ++ does 1 Steal 3 ++ does 5 Steal 2

-- double-ended: the owner is handed put 1, and thief 6 put 2
abbrev deque : List Call
deque = does 0 (Put (one 7)) 5 ++ does 0 Take 5 ++ does 0 (Put (one 8)) 5 ++ does 0 (Put (one 9)) 3 ++ does 6 Steal 7 ++ does 4 Steal 2

-- two and four payload words: a put of four words, FULL, a hand-out and EMPTY; what is past the width is not looked at
abbrev wide : ℕ → List Call
wide v =
    does 0 (Put (payload 7 8 9 6)) (4 + v) ++ does 0 (Put (payload 1 2 3 4)) 3 ++ does 3 Steal (5 + v) ++ does 2 Steal 2

pub entries_written :
    front_after 1 1 lifo ∷ front_after 1 2 fifo ∷ front_after 1 3 deque ∷ front_after 2 1 (wide 2) ∷ front_after 4 1 (wide 4) ∷ []
    ≡ (1 ∷ 0 ∷ 1 ∷ 7 ∷ 4 ∷ 0 ∷ 2 ∷ 8 ∷ 2 ∷ 3 ∷ 1 ∷ 7 ∷ 3 ∷ 2 ∷ 0 ∷ 0 ∷ 3 ∷ 0 ∷ 0 ∷ 0 ∷ [])
    ∷ (1 ∷ 0 ∷ 1 ∷ 7 ∷ 4 ∷ 0 ∷ 2 ∷ 8 ∷ 2 ∷ 7 ∷ 1 ∷ 7 ∷ 3 ∷ 1 ∷ 0 ∷ 0 ∷ [])
    ∷ (1 ∷ 0 ∷ 1 ∷ 7 ∷ 2 ∷ 0 ∷ 1 ∷ 7 ∷ 1 ∷ 0 ∷ 2 ∷ 8 ∷ 4 ∷ 0 ∷ 3 ∷ 9 ∷ 2 ∷ 6 ∷ 2 ∷ 8 ∷ 3 ∷ 4 ∷ 0 ∷ 0 ∷ [])
    ∷ (1 ∷ 0 ∷ 1 ∷ 7 ∷ 8 ∷ 4 ∷ 0 ∷ 2 ∷ 1 ∷ 2 ∷ 2 ∷ 3 ∷ 1 ∷ 7 ∷ 8 ∷ 3 ∷ 2 ∷ 0 ∷ 0 ∷ 0 ∷ [])
    ∷ (1 ∷ 0 ∷ 1 ∷ 7 ∷ 8 ∷ 9 ∷ 6 ∷ 4 ∷ 0 ∷ 2 ∷ 1 ∷ 2 ∷ 3 ∷ 4 ∷ 2 ∷ 3 ∷ 1 ∷ 7 ∷ 8 ∷ 9 ∷ 6 ∷ 3 ∷ 2 ∷ 0 ∷ 0 ∷ 0 ∷ 0 ∷ 0 ∷ [])
    ∷ []
unfolding after front_of fresh_of begin_of step_of valid_of words_to line_step landed_all zeros word_at set_word offset_at length_at size_at when◌then◌else◌ ◌and◌ ◌or◌ word_in with_word gathered
entries_written = refl
