-- The judge and demand 3, of the bytes: what the judge says of the bench's own log is what the bench's `T` says.
use Rattle.std.specs.Prelude.{◌≡◌, List, ℕ, ◌-◌, ◌*◌, ◌≤◌, length}
use Rattle.model.specs.World.{World}
use Rattle.model.specs.Calls.{Call}
use Rattle.model.specs.Run.{after}
use Rattle.model.specs.Counts.{counts_of}
use Rattle.theorems.specs.Demand3.{FewPuts, FromFresh}
use Rattle.order.specs.Order.{log_front}
use Rattle.judgement.specs.declared.Verdict.TheVariants.{Accepted}
use Rattle.judgement.specs.Judgement.{words_of, judged}
use Rattle.accepted.specs.Runs.{stored}

-- bytes that are the words l: four for each, lowest first
abbrev pub Encodes : List ℕ → List ℕ → Type 0
Encodes bytes l = (length bytes ≡ 4 * length l) × (words_of bytes ≡ l)

-- The world W, of a queue with v payload words, where its log's front is not too long for the judge: accepted, with the hand-outs that `T`
-- counts, and for repeats those less the different numbers
abbrev pub JudgedAs : ℕ → World → Type 0
JudgedAs v W =
    (log list : List ℕ) → Encodes log (log_front W) → Encodes list (stored W) → length log ≤ 65536
    → judged v log list ≡ Accepted (counts_of W).handouts ((counts_of W).handouts - (counts_of W).different)

-- For every list from a fresh bench under demand 3's premise
abbrev pub RunsJudged : Type 0
RunsJudged = FromFresh (λ W. (cs : List Call) → FewPuts W cs → JudgedAs W.bench.words (after W cs))
