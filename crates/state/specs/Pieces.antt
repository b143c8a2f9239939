-- What the pieces are, as the definitions say it: short names for the contracts.
use Rattle.std.specs.Prelude.{ℕ, set}
use Rattle.model.specs.declared.Line.{Line}
use Rattle.model.specs.declared.Bench.{Bench}

-- worker i begins at the line l; u put numbers are used
abbrev pub opened : Bench → ℕ → ℕ → Line → Bench
opened b i u l =
    record {
      kind = b.kind;
      width = b.width;
      words = b.words;
      delayed = b.delayed;
      crew = b.crew;
      queue = b.queue;
      waiting = b.waiting;
      aside = b.aside;
      used = u;
      restarts = b.restarts;
      written = b.written;
      workers = set b.workers i (record { line = l });
    }
