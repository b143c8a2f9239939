use native.Mathlib.Omega.{arith}
use lib.ListN.{length-set}
use Rattle.text.proofs.Spell.{decimal_most}
use Rattle.call_text.proofs.show_word.Goals as goal

pub decimal-requires : goal.decimal-requires
decimal-requires c = simp length-set (omega (arith, decimal_most c.from.result))

pub returns : goal.returns
returns c = omega (arith, decimal_most c.from.result, c.decimal.ensures.ends)
