-- Which errors a run answers, where the reads of its input and the writes of its output may answer these.
use Rattle.std.specs.Prelude.{◌≡◌, ◌<◌, ◌≤◌, ◌⊎◌, ⊤, ℕ}
use Rattle.std.specs.IoError.{error_kind}
use Rattle.std.specs.declared.io.Error.{Error}
use Rattle.std.specs.declared.io.ErrorKind.TheVariants.{Other}
use Rattle.fdb_print.specs.declared.stop.Stop.{Stop}
use Rattle.fdb_print.specs.declared.stop.Stop.TheVariants.{BadLine, Refused, NoMemory, Io}

-- a read answered the error, or a write did
abbrev pub IsStreamError : (Error → Type 0) → (Error → Type 0) → Error → Type 0
IsStreamError read_errors write_errors error = read_errors error ⊎ write_errors error

-- a stop that is an error is one of these
abbrev pub FailsWith : (Error → Type 0) → Stop → Type 0
FailsWith errors (BadLine number) = ⊤
FailsWith errors (Refused refusal) = ⊤
FailsWith errors NoMemory = ⊤
FailsWith errors (Io error) = errors error

-- a read answered the error, or it says that the input did not end
abbrev pub IsLimitedError : (Error → Type 0) → Error → Type 0
IsLimitedError read_errors error = read_errors error ⊎ (error_kind error ≡ Other)

-- how many reads an input may take
abbrev pub read_limit : ℕ
read_limit = 4294967296

-- After so many reads the reader's own read answered the error, as long as there are fewer than the limit; from the
-- limit on the error says that the input did not end.
abbrev pub IsLimitedErrorAfter : ℕ → (Error → Type 0) → Error → Type 0
IsLimitedErrorAfter reads read_errors error =
    ((reads < read_limit) × read_errors error) ⊎ ((read_limit ≤ reads) × (error_kind error ≡ Other))
