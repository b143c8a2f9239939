-- An entry of the log, as the definitions have it.
use Rattle.model.specs.Answers.{Entry as Defined}
use Rattle.answers.specs.declared.Entry.{Entry}

abbrev pub as_defined : Entry → Defined
as_defined e = record { kind = e.kind; worker = e.worker; task = e.task }
