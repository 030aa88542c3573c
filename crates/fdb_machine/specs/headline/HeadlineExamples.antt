-- What the headline's own words refuse, each example for one thing: of spots, of real time, of what is logged and what
-- clients are told, of sessions, and of shards.
use Rattle.std.specs.Prelude.{◌≡◌, ℕ, false, List, [], ◌∷◌, ◌++◌, Some, None, Ok, codes}
use Rattle.fdb_mutations.specs.declared.mutation.Mutation.TheVariants.{Set}
use Rattle.fdb_txn.specs.declared.spot.Spot.TheVariants as spot
use Rattle.fdb_txn.specs.rules.Splits.{piece}
use Rattle.fdb_storage.specs.Shards.{Shard}
use Rattle.fdb_storage.specs.VersionMaps.{VersionedKeys}
use Rattle.fdb_proxy.specs.declared.outcome.Outcome.TheVariants as outcome
use Rattle.fdb_client.specs.declared.program.Op.{Op}
use Rattle.fdb_client.specs.declared.program.Op.TheVariants as op
use Rattle.fdb_client.specs.declared.program.Reply.{Reply}
use Rattle.fdb_client.specs.declared.program.Reply.TheVariants as reply
use Rattle.fdb_client.specs.declared.program.Transcript.{Transcript}
use Rattle.fdb_roles.specs.SmallBooks.{alone_at, does_nothing, from_to, reads_and_sets, two_in_one_entry}
use Rattle.fdb_roles.specs.Spots.{IsSerializedAtSpot}
use Rattle.fdb_roles.specs.declared.placed.Placed.{Placed}
use Rattle.fdb_machine.specs.headline.Books.{AnswersOnce}
use Rattle.fdb_machine.specs.headline.Examples.{read_alone, two_sessions, one_commits}
use Rattle.fdb_machine.specs.headline.FailureExamples.{parted}
use Rattle.fdb_machine.specs.headline.Headline.{IsStrictlySerializable}
use Rattle.fdb_machine.specs.headline.Promises.{IsTakenByAll}
use Rattle.fdb_machine.specs.headline.Readings.{Readings, nothing_read, readings_of}
use Rattle.fdb_machine.specs.headline.RealTime.{AreAfterEarlier}
use Rattle.fdb_machine.specs.headline.Serving.{System, AllServe}
use Rattle.fdb_machine.specs.headline.Sessions.{IsWhereItsStateSays}
use Rattle.fdb_machine.specs.machine.Roles.{CommitProxy}
use Rattle.fdb_machine.specs.machine.Sessions.{Idle, Asking, Waiting}
use Rattle.fdb_machine.specs.machine.Worlds.{idle_proxy}
use Rattle.fdb_machine.specs.declared.step.Answered.TheVariants as answered
use Rattle.fdb_machine.specs.declared.step.AnyStep.TheVariants as step

-- A transaction that read five million versions before its entry, and was answered as on the run, is serialized there.
-- One version later it is too old to be committed, and so isn't, though its read was right.
abbrev pub OnlyTheCommittedAreSerialized : Type 0
OnlyTheCommittedAreSerialized =
    IsSerializedAtSpot [] (alone_at 5000000) (reads_and_sets 0 None) (spot.Entry 0 0 5000000)
    × (IsSerializedAtSpot [] (alone_at 5000001) (reads_and_sets 0 None) (spot.Entry 0 0 5000001) → ⊥)

-- the session's first transaction with other operations, which read nothing that is there
abbrev pub which_does : List (Op × Reply) → Transcript
which_does ops = record (reads_and_sets 0 None) { ops = ops }

abbrev pub reads_none : List ℕ → Op × Reply
reads_none key = (op.Get key false, reply.Value None)

abbrev pub sets : List ℕ → Op × Reply
sets value = (op.Write (Set (codes "a") value), reply.Done)

-- At the place of the first transaction none is serialized that differs from it in one thing: in the value that it
-- sets, in the key that it read, in a range more that it adds to its write set, or in its read version.
abbrev pub OnlyTheAskedForIsSerialized : Type 0
OnlyTheAskedForIsSerialized =
    IsThere (which_does (reads_none (codes "a") ∷ sets (codes "1") ∷ []))
    × (IsThere (which_does (reads_none (codes "a") ∷ sets (codes "2") ∷ [])) → ⊥)
    × (IsThere (which_does (reads_none (codes "b") ∷ sets (codes "1") ∷ [])) → ⊥)
    × (IsThere (which_does (reads_none (codes "a") ∷ adds ∷ sets (codes "1") ∷ [])) → ⊥)
    × (IsThere (record (reads_and_sets 0 None) { read_version = 1 }) → ⊥)
  where
    IsThere : Transcript → Type 0
    IsThere transcript = IsSerializedAtSpot [] two_in_one_entry transcript (spot.Entry 0 0 100)

    adds : Op × Reply
    adds = (op.AddWrite (from_to (codes "b") (codes "c")), reply.Done)

-- a session that read at a version set a key, and was acknowledged in entry 1 at another version
abbrev pub wrote : (session read_version version : ℕ) → Placed
wrote session read_version version = record {
  spot = spot.Entry 1 0 version;
  transcript = record {
    id = record { session = session; number = 0 };
    read_version = read_version;
    ops = sets (codes "1") ∷ [];
  };
}

-- A writer that begins after somebody was acknowledged at version 100 reads at that version and stands at a greater
-- one; not where it read below it, and not where it stands at it.
abbrev pub LaterWritersAreAfter : Type 0
LaterWritersAreAfter =
    AreAfterEarlier (acknowledged []) (acknowledged (wrote 6 100 200 ∷ []))
    × (AreAfterEarlier (acknowledged []) (acknowledged (wrote 6 99 200 ∷ [])) → ⊥)
    × (AreAfterEarlier (acknowledged []) (acknowledged (wrote 6 100 100 ∷ [])) → ⊥)
  where
    acknowledged : List Placed → Readings
    acknowledged others = record nothing_read { acknowledged = read_alone 5 100 ∷ others }

-- An entry that one log lacks isn't taken by all, whichever log it is; an entry that all took is, and who reads alone
-- has none.
abbrev pub EachLogCounts : Type 0
EachLogCounts =
    IsTakenByAll (1 ∷ 2 ∷ []) (spot.Entry 0 0 100)
    × (IsTakenByAll (1 ∷ 0 ∷ []) (spot.Entry 0 0 100) → ⊥)
    × (IsTakenByAll (0 ∷ 1 ∷ []) (spot.Entry 0 0 100) → ⊥)
    × (IsTakenByAll (1 ∷ 1 ∷ []) (spot.Entry 1 0 200) → ⊥)
    × IsTakenByAll (0 ∷ []) (spot.ReadOnly 100)

-- The clients of the entry are told once, and not once more.
abbrev pub NobodyIsToldTwice : Type 0
NobodyIsToldTwice =
    AnswersOnce (readings_of two_sessions one_commits)
    × (AnswersOnce (readings_of (two_sessions ++ step.Answer 0 ∷ [])
    (one_commits ++ Ok (answered.Answers ((0, outcome.Commit 100 0) ∷ (1, outcome.Conflict) ∷ [])) ∷ [])) → ⊥)
    × AnswersOnce (record nothing_read { answered = 1 ∷ 0 ∷ [] })
    × (AnswersOnce (record nothing_read { answered = 1 ∷ 0 ∷ 1 ∷ [] }) → ⊥)

-- A session asks at one proxy, or one of its transactions waits at one or is in flight there, or neither. It isn't at
-- two places at once, and none where its state doesn't say so.
abbrev pub SessionsAreAtOnePlace : Type 0
SessionsAreAtOnePlace =
    IsWhereItsStateSays 0 Asking ((0 ∷ []) ∷ (1 ∷ []) ∷ []) (idle_proxy ∷ [])
    × IsWhereItsStateSays 0 Waiting [] (waiting ∷ idle_proxy ∷ [])
    × IsWhereItsStateSays 0 Waiting [] (in_flight ∷ [])
    × IsWhereItsStateSays 0 Idle ((1 ∷ []) ∷ []) (idle_proxy ∷ [])
    × (IsWhereItsStateSays 0 Asking ((0 ∷ []) ∷ (0 ∷ []) ∷ []) [] → ⊥)
    × (IsWhereItsStateSays 0 Asking ((0 ∷ 0 ∷ []) ∷ []) [] → ⊥)
    × (IsWhereItsStateSays 0 Waiting [] (waiting ∷ in_flight ∷ []) → ⊥)
    × (IsWhereItsStateSays 0 Waiting [] (record in_flight { waiting = does_nothing ∷ [] } ∷ []) → ⊥)
    × (IsWhereItsStateSays 0 Asking ((0 ∷ []) ∷ []) (waiting ∷ []) → ⊥)
    × (IsWhereItsStateSays 0 Idle ((0 ∷ []) ∷ []) [] → ⊥)
    × (IsWhereItsStateSays 0 Idle [] (waiting ∷ []) → ⊥)
    × (IsWhereItsStateSays 0 Asking ((1 ∷ []) ∷ []) [] → ⊥)
    × (IsWhereItsStateSays 0 Waiting [] (idle_proxy ∷ []) → ⊥)
  where
    waiting : CommitProxy
    waiting = record idle_proxy { waiting = does_nothing ∷ [] }

    in_flight : CommitProxy
    in_flight = record idle_proxy { in_flight = does_nothing ∷ [] }

-- shard i of two, which part the keys at m, before any entry and with such keys
abbrev pub shard_with : ℕ → VersionedKeys → Shard
shard_with i keys = record
    { tag = i; range = piece parted.shard_splits i; version = 0; floor = 0; is_failed = false; keys = keys }

-- the key z has a value, which nobody wrote
abbrev pub something_at_z : VersionedKeys
something_at_z = (codes "z", record { version = 0; value = Some (codes "1") } ∷ []) ∷ []

-- Before any entry two shards that have nothing answer from the run. They don't where the second one has something, or
-- isn't there, and then no world that shows them is strictly serializable.
abbrev pub EachShardServes : Type 0
EachShardServes =
    AllServe parted [] (shard_with 0 [] ∷ shard_with 1 [] ∷ [])
    × (AllServe parted [] (shard_with 0 [] ∷ shard_with 1 something_at_z ∷ []) → ⊥)
    × (AllServe parted [] (shard_with 0 [] ∷ []) → ⊥)
    × ((system : System) → system.shards ≡ shard_with 0 [] ∷ shard_with 1 something_at_z ∷ []
    → IsStrictlySerializable parted [] [] system → ⊥)
