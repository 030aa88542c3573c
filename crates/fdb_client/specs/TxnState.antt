-- How what a transaction keeps is tied to its operations.
use Rattle.std.specs.Prelude.{◌≡◌, ◌==◌, Bool, false, not, List, [], ◌∷◌, ◌++◌, length, None}
use Rattle.std.specs.List.{AllByRecursion}
use Rattle.fdb_keys.specs.Points.{Point}
use Rattle.fdb_keys.specs.Ranges.{Range}
use Rattle.fdb_mutations.specs.declared.mutation.Mutation.{Mutation}
use Rattle.fdb_mutations.specs.Mutations.{mutation_fault}
use Rattle.fdb_client.specs.declared.left.Left.{Left}
use Rattle.fdb_client.specs.declared.own_writes.OwnWrites.{OwnWrites}
use Rattle.fdb_client.specs.declared.txn_state.TxnState.{TxnState}
use Rattle.fdb_client.specs.declared.program.Op.{Op}
use Rattle.fdb_client.specs.declared.program.Reply.{Reply}
use Rattle.fdb_client.specs.declared.program.Transcript.{Transcript}
use Rattle.fdb_client.specs.LeftAt.{left_at, AreClearedDecided, HasLegalKeys}
use Rattle.fdb_client.specs.OwnWrites.{left_by_ops, left_by}
use Rattle.fdb_client.specs.Programs.{program, replies_of, add_writes, add_mutation, read_ranges, write_ranges}
use Rattle.fdb_client.specs.Programs.{mutations_of}
use Rattle.fdb_client.specs.Unreadable.{add_stamped, stamped_keys}

-- the transcript with one operation more, and the reply to it
abbrev pub with_op : Transcript → Op → Reply → Transcript
with_op transcript op reply = record transcript { ops = transcript.ops ++ (op, reply) ∷ [] }

-- the operation writes nothing
abbrev pub WritesNothing : Op → Type 0
WritesNothing op =
    ((x : Point) (left : Left) → left_by x left op ≡ left)
    × ((ranges : List Range) → add_writes op ranges ≡ ranges)
    × ((mutations : List Mutation) → add_mutation op mutations ≡ mutations)
    × ((keys : List Point) → add_stamped op keys ≡ keys)

-- what is kept of a program's writes: what they leave at each point, under legal keys alone and decided where a range
-- was cleared, and the write set
pub record AreWritesOf (ops : List Op) (own : OwnWrites) (writes : List Range) : Type 0 where
  pub left_there : (x : Point) → left_at own x ≡ left_by_ops ops x
  pub legal_keys : HasLegalKeys own
  pub cleared_decided : AreClearedDecided own
  pub are_written : writes ≡ write_ranges ops

-- what is kept of the operations: what is kept of their writes, the read set, whether they have a mutation, and whether
-- they have a Stamped; each mutation is a legal one
pub record AreOf (ops : List (Op × Reply)) (own : OwnWrites) (reads writes : List Range) (mutates stamps : Bool)
    : Type 0 where
  pub written : AreWritesOf (program ops) own writes
  pub are_read : reads ≡ read_ranges (program ops) (replies_of ops)
  pub unless_mutates : not mutates ≡ (length (mutations_of (program ops)) == 0)
  pub unless_stamps : stamps ≡ false → stamped_keys (program ops) ≡ []
  pub legal : AllByRecursion (λ (mutation : Mutation). mutation_fault mutation ≡ None) (mutations_of (program ops))

abbrev pub AreKept : TxnState → Type 0
AreKept state = AreOf state.transcript.ops state.own state.reads state.writes state.mutates state.stamps
