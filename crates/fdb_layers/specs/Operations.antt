-- What the transactions of layers are made of.
use Rattle.std.specs.Prelude.{◌≡◌, ◌++◌, ℕ, false, List, [], Option, Some, None}
use Rattle.fdb_keys.specs.Points.{Point}
use Rattle.fdb_keys.specs.Ranges.{Range}
use Rattle.fdb_mutations.specs.declared.mutation.Mutation.{Mutation}
use Rattle.fdb_client.specs.declared.program.Op.{Op}
use Rattle.fdb_client.specs.declared.program.Op.TheVariants as op
use Rattle.fdb_client.specs.declared.program.Reply.{Reply}
use Rattle.fdb_client.specs.declared.program.Reply.TheVariants as reply
use Rattle.fdb_client.specs.declared.program.Transcript.{Transcript}
use Rattle.fdb_client.specs.Programs.{program, mutations_of}

-- the key is read, by no snapshot, and this stood there
abbrev pub reading : Point → Option (List ℕ) → Op × Reply
reading key value = (op.Get key false, reply.Value value)

-- all pairs of the range are read in the order of their keys, by no snapshot, and these stood there
abbrev pub reading_range : Range → List (Point × List ℕ) → Op × Reply
reading_range range pairs = (op.Range range 0 false false, reply.Pairs pairs)

-- the mutation is buffered, and that is answered
abbrev pub writing : Mutation → Op × Reply
writing mutation = (op.Write mutation, reply.Done)

-- the transaction writes no value: it reads keys and ranges, whatever it was answered, and adds ranges
abbrev pub WritesNoValue : Transcript → Type 0
WritesNoValue transcript = mutations_of (program transcript.ops) ≡ []

-- the open transaction did just these
abbrev pub HasDone : Option Transcript → List (Op × Reply) → Type 0
HasDone None done = ⊥
HasDone (Some transcript) done = transcript.ops ≡ done

-- it did these after what it had done before
abbrev pub DoesMore : Option Transcript → List (Op × Reply) → Option Transcript → Type 0
DoesMore old more new = (before : List (Op × Reply)) → HasDone old before → HasDone new (before ++ more)
