use Rattle.text.proofs.Outs.{first_values}
use Rattle.text.proofs.print_out.Goals as goal

pub print-requires : goal.print-requires
print-requires c = rw (c.min.ensures, c.from.ensures, c.from-2.ensures, c.from-3.ensures, c.from-4.ensures, c.from-5.ensures, c.from-6.ensures, first_values c.args.words c.args.worker c.args.task) c.requires

pub returns : goal.returns
returns c = rw (c.min.ensures, c.from.ensures, c.from-2.ensures, c.from-3.ensures, c.from-4.ensures, c.from-5.ensures, c.from-6.ensures, first_values c.args.words c.args.worker c.args.task) at c.print.ensures
