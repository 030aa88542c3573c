-- What a run of a load is stopped by.
use Rattle.std.specs.Prelude.{⊤}
use Rattle.std.specs.declared.io.Error.{Error}
use Rattle.fdb_print.specs.declared.stop.Stop.{Stop}
use Rattle.fdb_print.specs.declared.stop.Stop.TheVariants.{BadLine, Refused, NoMemory, Io}

-- A refusal, want of memory, or one of these errors. It has no lines, so none is bad.
abbrev pub StopsWith : (Error → Type 0) → Stop → Type 0
StopsWith errors (BadLine number) = ⊥
StopsWith errors (Refused refusal) = ⊤
StopsWith errors NoMemory = ⊤
StopsWith errors (Io error) = errors error
