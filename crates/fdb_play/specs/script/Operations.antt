-- The kinds of mutations that a key and one more byte text make.
use Rattle.std.specs.Prelude.{ℕ, List, codes}
use Rattle.fdb_mutations.specs.declared.mutation.Mutation.{Mutation}
use Rattle.fdb_mutations.specs.declared.mutation.Mutation.TheVariants as made
use Rattle.fdb_play.specs.declared.script.operation.Operation.{Operation}
use Rattle.fdb_play.specs.declared.script.operation.Operation.TheVariants.{Set, Add, And, Or, Xor, Max, Min, ByteMin}
use Rattle.fdb_play.specs.declared.script.operation.Operation.TheVariants.{ByteMax, CompareAndClear}

-- the word that names the kind
abbrev pub operation_name : Operation → List ℕ
operation_name Set = codes "set"
operation_name Add = codes "add"
operation_name And = codes "and"
operation_name Or = codes "or"
operation_name Xor = codes "xor"
operation_name Max = codes "max"
operation_name Min = codes "min"
operation_name ByteMin = codes "bytemin"
operation_name ByteMax = codes "bytemax"
operation_name CompareAndClear = codes "cac"

-- the mutation of the key with the value or operand
abbrev pub operation_on : Operation → List ℕ → List ℕ → Mutation
operation_on Set key operand = made.Set key operand
operation_on Add key operand = made.Add key operand
operation_on And key operand = made.And key operand
operation_on Or key operand = made.Or key operand
operation_on Xor key operand = made.Xor key operand
operation_on Max key operand = made.Max key operand
operation_on Min key operand = made.Min key operand
operation_on ByteMin key operand = made.ByteMin key operand
operation_on ByteMax key operand = made.ByteMax key operand
operation_on CompareAndClear key operand = made.CompareAndClear key operand
