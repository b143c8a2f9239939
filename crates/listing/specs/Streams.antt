-- What a program writes whose input comes in chunks.
use Rattle.std.specs.Prelude.{◌≡◌, true, false, List, [], ◌∷◌, ◌++◌, ℕ, length, take, drop}
use Rattle.model.specs.Listing.{Program}
use Rattle.replies.specs.Sessions.{program_of}
use Rattle.listing.specs.declared.Consumed.{Consumed}
use Rattle.listing.specs.Listing.{Open}
use Rattle.listing.specs.Consuming.{ConsumedBy}

-- What a program does with an input that comes in chunks: it reads one behind what it has, consumes what it has, drops what it need not
-- keep, until an `end` is accepted or the input is over; a last line without a newline gets one. P is where it stands, buf what it has,
-- the chunks are still to come; the last argument is what it writes.
pub data Stream : Program → List ℕ → List (List ℕ) → List ℕ → Type 0 where
  reads : {P : Program} {buf c text : List ℕ} {cs : List (List ℕ)} → Stream P (buf ++ c) cs text → Stream P buf (c ∷ cs) text
  consumes : {P : Program} {buf text : List ℕ} {cs : List (List ℕ)} (f : Consumed) (m l out : List ℕ)
      → ConsumedBy P buf f m l out → f.stops ≡ false → Stream (program_of f.session m l) (drop f.used buf) cs text
      → Stream P buf cs (take f.wrote out ++ text)
  stops : {P : Program} {buf : List ℕ} {cs : List (List ℕ)} (f : Consumed) (m l out : List ℕ)
      → ConsumedBy P buf f m l out → f.stops ≡ true → Stream P buf cs (take f.wrote out)
  carries : {P : Program} {buf text : List ℕ} {cs : List (List ℕ)} → Open buf → Stream P (take 72 buf) cs text → Stream P buf cs text
  closes : {P : Program} {buf text : List ℕ} → (length buf ≡ 0 → ⊥) → Open buf → Stream P (buf ++ 10 ∷ []) [] text → Stream P buf [] text
  over : {P : Program} → Stream P [] [] []

-- the chunks as one input
unfoldable pub whole : List (List ℕ) → List ℕ
whole [] = []
whole (c ∷ cs) = c ++ whole cs
