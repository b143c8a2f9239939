use Rattle.std.proofs.Common.{rules, arith, take}
use Rattle.streams.proofs.Parts.{take-put_mid_in}
use Rattle.streams.proofs.read_more.Goals as goal

pub returns-then-got-gt0-clause-holds : goal.returns-then-got-gt0-clause-holds
returns-then-got-gt0-clause-holds g c = (search rules, (take c.in_ok-got.got c.read.new.buf, search rules, search rules, take-put_mid_in c.args.have c.in_ok-got.got _ c.args.buf.now c.read.new.buf (omega arith) (search rules), search rules))
