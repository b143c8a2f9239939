use native.Mathlib.Omega.{arith}
use Rattle.model.specs.Memory.{set_word}
use Rattle.lines.specs.Actions.{Lands}
use Rattle.machine.specs.Steps.{made_by}
use Rattle.machine.proofs.land.Goals as goal

pub address-at-requires : goal.address-at-requires
unfolding Lands
address-at-requires c = let h = rw c.in-StoreWord.is at c.requires.lands in record { wide = c.requires.wide; at_bound = h.0; slot_bound = h.1; word_le_words = h.2 }

pub offset_bounds-store-at : goal.offset_bounds-store-at
unfolding Lands
offset_bounds-store-at c = let h = rw c.in-StoreWord.is at c.requires.lands in
    omega (arith, h.3, c.address-at.ensures)

pub bounds-store-at : goal.bounds-store-at
unfolding Lands
bounds-store-at c = let h = rw c.in-StoreWord.is at c.requires.lands in
    omega (arith, h.3, c.address-at.ensures)

pub returns-in-StoreWord : goal.returns-in-StoreWord
unfolding made_by set_word
returns-in-StoreWord c = let e = c.in-StoreWord.is in record { value = simp e; store_after = simp (e, c.address-at.ensures) }

pub returns-in-StoreNote : goal.returns-in-StoreNote
unfolding made_by
returns-in-StoreNote c = let e = c.in-StoreNote.is in record { value = simp e; store_after = simp e }

pub returns-in-StorePut : goal.returns-in-StorePut
unfolding made_by
returns-in-StorePut c = let e = c.in-StorePut.is in record { value = simp e; store_after = simp e }

pub returns-in-StoreOut : goal.returns-in-StoreOut
unfolding made_by
returns-in-StoreOut c = let e = c.in-StoreOut.is in record { value = simp e; store_after = simp e }

pub returns-in-StoreHead : goal.returns-in-StoreHead
unfolding made_by
returns-in-StoreHead c = let e = c.in-StoreHead.is in record { value = simp e; store_after = simp e }

pub returns-in-StoreTail : goal.returns-in-StoreTail
unfolding made_by
returns-in-StoreTail c = let e = c.in-StoreTail.is in record { value = simp e; store_after = simp e }
