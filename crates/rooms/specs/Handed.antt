-- The room that a step is handed.
use Rattle.std.specs.Prelude.{List, ℕ}
use Rattle.model.specs.declared.Line.{Line}
use Rattle.model.specs.declared.Line.TheVariants.{Idle, PutRead, PutTail, PutTest, PutWord, PutFinish, Claim, Note, Copy, Publish, TakeRead, TakeTail, TakeTest, TakeWord, TakeFinish, StealRead, StealTail, StealTest, StealNote, StealWord, StealNext, StealCompare}
use Rattle.model.specs.declared.Room.{Room}
use Rattle.model.specs.Memory.{usable}

-- at X1 the first room, at any other line the second
unfoldable pub at_claim : Line → Room → Room → Room
at_claim Idle ρ σ = σ
at_claim (PutRead t) ρ σ = σ
at_claim (PutTail t h) ρ σ = σ
at_claim (PutTest t r) ρ σ = σ
at_claim (PutWord t r j) ρ σ = σ
at_claim (PutFinish t r) ρ σ = σ
at_claim (Claim g) ρ σ = ρ
at_claim (Note g) ρ σ = σ
at_claim (Copy g h n k) ρ σ = σ
at_claim (Publish g) ρ σ = σ
at_claim TakeRead ρ σ = σ
at_claim (TakeTail h) ρ σ = σ
at_claim (TakeTest r) ρ σ = σ
at_claim (TakeWord r t j) ρ σ = σ
at_claim (TakeFinish r t) ρ σ = σ
at_claim StealRead ρ σ = σ
at_claim (StealTail h) ρ σ = σ
at_claim (StealTest r) ρ σ = σ
at_claim (StealNote r) ρ σ = σ
at_claim (StealWord r k t j) ρ σ = σ
at_claim (StealNext r t) ρ σ = σ
at_claim (StealCompare r e t) ρ σ = σ

-- behind all words that a queue may claim, and none left
abbrev pub no_room : List ℕ → Room
no_room m = record { next = usable m; left = 0 }
