use Rattle.std.proofs.Common.{◌≢◌, ℕ, ◌<◌, get_or}
use Rattle.fdb_play.specs.declared.script.operation.Operation.TheVariants.{Set}
use Rattle.fdb_play.specs.script.Operations.{operation_name}
use Rattle.fdb_play.proofs.script.operation.operation_named.Given as goal

-- the word names none of the operations so far
abbrev pub invariant-loop-operation : goal.invariant-loop-operation
invariant-loop-operation l = (k : ℕ) → k < l.operation-index → l.word ≢ operation_name (get_or l.operation-items k Set)
