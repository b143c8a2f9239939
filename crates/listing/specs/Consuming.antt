-- What consuming a buffer leaves, and what moving its rest to the front. m and l are the store and the log as consuming left them.
use Rattle.std.specs.Prelude.{◌≡◌, false, List, ◌++◌, ℕ, ◌+◌, ◌≤◌, length, take, drop}
use Rattle.model.specs.World.{World}
use Rattle.model.specs.Listing.{Program, waiting, playing, ended}
use Rattle.theorems.specs.Reached.{Reached}
use Rattle.replies.specs.Sessions.{left_by}
use Rattle.listing.specs.declared.Consumed.{Consumed}
use Rattle.listing.specs.Listing.{listing_of}
use Rattle.listing.specs.Listing as lines

-- a world that the program plays: calls reach it from an accepted fresh, and its stores are not delayed
pub record Live (W : World) : Type 0 where
  pub reached : Reached W
  pub prompt : W.bench.delayed ≡ false

-- where lines can bring the program
abbrev pub Reachable : Program → Type 0
Reachable (waiting m l) = Unit {0}
Reachable (playing W) = Live W
Reachable ended = Unit {0}

-- A buffer was consumed to a program at P: whatever bytes z come after it, the listing of all is what was written and then the listing of what is
-- left of the buffer and z. So it does not matter how an input is cut into buffers. Consuming stops before a line's end only for want of room
-- for one line's text.
pub record ConsumedBy (P : Program) (buf : List ℕ) (f : Consumed) (m l out : List ℕ) : Type 0 where
  pub within : f.used ≤ length buf
  pub room : f.wrote ≤ length out
  pub shows : (z : List ℕ) → listing_of P (buf ++ z) ≡ take f.wrote out ++ listing_of (left_by f.stops f.session m l) (drop f.used buf ++ z)
  pub rest : f.stops ≡ false → f.wrote + 256 ≤ length out → lines.Open (drop f.used buf)

-- the bytes from `from` to n stand in front now, of more than 72 the first 72
pub record CarriedBy (buf : List ℕ) (from n r : ℕ) (after : List ℕ) : Type 0 where
  pub count : r ≡ length (take 72 (drop from (take n buf)))
  pub moved : take r after ≡ take 72 (drop from (take n buf))
