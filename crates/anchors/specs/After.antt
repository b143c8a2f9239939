-- What a store leaves of the anchor.
use Rattle.std.specs.Prelude.{Bool, true, false}
use Rattle.model.specs.declared.Anchor.{Anchor}
use Rattle.model.specs.declared.Store.{Store}
use Rattle.model.specs.declared.Store.TheVariants.{StoreWord, StoreNote, StorePut, StoreOut, StoreHead, StoreTail}
use Rattle.model.specs.Figures.{anchor}

abbrev pub after_store : Anchor → Store → Anchor
after_store a (StoreWord k t j x) = a
after_store a (StoreNote k) = a
after_store a (StorePut b) = b
after_store a (StoreOut b) = b
after_store a (StoreHead h) = anchor h a.count a.tag
after_store a (StoreTail t) = anchor a.head t a.tag

-- it writes the anchor, or a part of it
abbrev pub of_anchor : Store → Bool
of_anchor (StoreWord k t j x) = false
of_anchor (StoreNote k) = false
of_anchor (StorePut b) = true
of_anchor (StoreOut b) = true
of_anchor (StoreHead h) = true
of_anchor (StoreTail t) = true
