-- What the machine answers reads of keys that a transaction's own Stamped wrote, and what it doesn't.
use Rattle.std.specs.Prelude.{◌≡◌, ℕ, true, false, [], ◌∷◌, Some, None, codes}
use Rattle.fdb_keys.specs.declared.refusal.Refusal.TheVariants.{AccessedUnreadable, FutureVersion}
use Rattle.fdb_keys.specs.Ranges.{Range}
use Rattle.fdb_mutations.specs.declared.mutation.Mutation.TheVariants.{Set, Stamped}
use Rattle.fdb_client.specs.declared.program.Op.TheVariants as op
use Rattle.fdb_client.specs.declared.program.Reply.TheVariants as reply
use Rattle.fdb_client.specs.declared.program.Transcript.{Transcript}
use Rattle.fdb_roles.specs.SmallBooks.{from_to, plain}
use Rattle.fdb_machine.specs.headline.AnswerExamples.{IsNoAnswer}
use Rattle.fdb_machine.specs.headline.ScriptExamples.{versionstamps}
use Rattle.fdb_machine.specs.machine.ClientSteps.{fault_after, reply_after}
use Rattle.fdb_machine.specs.machine.Failures.{Failures, asks_failed, none_failed}
use Rattle.fdb_machine.specs.machine.Machine.{Machine}
use Rattle.fdb_machine.specs.machine.Worlds.{start}
use Rattle.fdb_machine.specs.declared.step.Answered.TheVariants as answered
use Rattle.fdb_machine.specs.declared.step.AnyStep.TheVariants as step

-- a transaction that reads at the version stamped the key a, and set the key A
abbrev pub stamps_and_sets : ℕ → Transcript
stamps_and_sets version = record {
  id = record { session = 0; number = 0 };
  read_version = version;
  ops = (op.Write (Stamped (codes "a") (codes "x0123456789y") 1), reply.Done)
      ∷ (op.Write (Set (codes "A") (codes "1")), reply.Done) ∷ [];
}

-- from the one key through the other
abbrev pub both_keys : Range
both_keys = from_to (codes "A") (codes "z")

abbrev pub at_first : Machine
at_first = start plain

-- the one shard has failed
abbrev pub shard_failed : Failures
shard_failed = record (none_failed plain) { shards = true ∷ [] }

-- A get of the stamped key is refused, also as a snapshot read, and before any refusal of its shard; it asks no shard.
-- A get of another key isn't. A read of a range is refused so after its shards' refusals, where what it scans has the
-- key: with no limit, or from its end; not where it ends before the key.
abbrev pub UnreadableReadsAreRefused : Type 0
UnreadableReadsAreRefused =
    (fault_after at_first (stamps_and_sets 0) (op.Get (codes "a") false) ≡ Some AccessedUnreadable)
    × (fault_after at_first (stamps_and_sets 0) (op.Get (codes "a") true) ≡ Some AccessedUnreadable)
    × (fault_after at_first (stamps_and_sets 0) (op.Get (codes "A") false) ≡ None)
    × (fault_after at_first (stamps_and_sets 1) (op.Get (codes "a") false) ≡ Some AccessedUnreadable)
    × (fault_after at_first (stamps_and_sets 1) (op.Get (codes "b") false) ≡ Some FutureVersion)
    × (asks_failed at_first shard_failed (stamps_and_sets 0) (op.Get (codes "a") false) ≡ false)
    × (asks_failed at_first shard_failed (stamps_and_sets 0) (op.Get (codes "b") false) ≡ true)
    × (fault_after at_first (stamps_and_sets 1) (op.Range both_keys 0 false false) ≡ Some FutureVersion)
    × (fault_after at_first (stamps_and_sets 0) (op.Range both_keys 0 false false) ≡ Some AccessedUnreadable)
    × (fault_after at_first (stamps_and_sets 0) (op.Range both_keys 1 true false) ≡ Some AccessedUnreadable)
    × (fault_after at_first (stamps_and_sets 0) (op.Range both_keys 1 false false) ≡ None)
    × (reply_after at_first (stamps_and_sets 0) (op.Range both_keys 1 false false)
    ≡ reply.Pairs ((codes "A", codes "1") ∷ []))

-- After the script's first lines no read of the stamped key is answered: neither with its bare operand nor that nothing
-- stands there; and no read of the range passes over it.
abbrev pub PlaceholdersAreNoAnswers : Type 0
PlaceholdersAreNoAnswers =
    IsNoAnswer versionstamps 6 (step.Get 0 (codes "a") false) (answered.Value (Some (codes "x0123456789y")))
    × IsNoAnswer versionstamps 6 (step.Get 0 (codes "a") false) (answered.Value None)
    × IsNoAnswer versionstamps 6 (step.Get 0 (codes "a") true) (answered.Value None)
    × IsNoAnswer versionstamps 6 (step.GetRange 0 both_keys 0 false false)
    (answered.Pairs ((codes "A", codes "1") ∷ []))
    × IsNoAnswer versionstamps 6 (step.GetRange 0 both_keys 0 false false)
    (answered.Pairs ((codes "A", codes "1") ∷ (codes "a", codes "x0123456789y") ∷ []))
