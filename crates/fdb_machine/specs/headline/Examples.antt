-- What the headline says of small worlds: who stands where, what a shard has to answer, and which answers a trace has.
use Rattle.std.specs.Prelude.{◌≡◌, ℕ, Bool, true, false, List, [], ◌∷◌, Option, Some, None, Result, Ok, Err, codes}
use Rattle.std.specs.FinMap.{get, empty, insert}
use Rattle.fdb_keys.specs.declared.refusal.Refusal.{Refusal}
use Rattle.fdb_keys.specs.declared.refusal.Refusal.TheVariants.{Unknown, Stale, FutureVersion}
use Rattle.fdb_keys.specs.Points.{Point}
use Rattle.fdb_mutations.specs.declared.mutation.Mutation.TheVariants.{Set}
use Rattle.fdb_txn.specs.declared.spot.Spot.TheVariants as spot
use Rattle.fdb_txn.specs.book.Book.{seen_of}
use Rattle.fdb_txn.specs.rules.Resolvers.{IsStateOf}
use Rattle.fdb_txn.specs.rules.SerialMap.{serial_map_at}
use Rattle.fdb_txn.specs.rules.Splits.{piece}
use Rattle.fdb_resolver.specs.declared.part.Part.{Part}
use Rattle.fdb_storage.specs.Shards.{Shard, value_at}
use Rattle.fdb_proxy.specs.declared.outcome.Outcome.TheVariants as outcome
use Rattle.fdb_client.specs.declared.program.Op.TheVariants as op
use Rattle.fdb_client.specs.declared.program.Reply.TheVariants as reply
use Rattle.fdb_client.specs.declared.program.Transcript.{Transcript}
use Rattle.fdb_roles.specs.Spots.{AnsweredOn, IsSerializedAtSpot, IsAfterVersion}
use Rattle.fdb_roles.specs.SmallBooks.{from_to, reads_and_sets, two_in_one_entry, does_nothing, plain, set_and_cleared}
use Rattle.fdb_roles.specs.SmallBooks.{empty_message_taken}
use Rattle.fdb_roles.specs.Serving.{ShardServes}
use Rattle.fdb_roles.specs.declared.placed.Placed.{Placed}
use Rattle.fdb_machine.specs.headline.Headline.{AllSerialized}
use Rattle.fdb_machine.specs.headline.Readings.{Readings, nothing_read, readings_of}
use Rattle.fdb_machine.specs.machine.Failures.{State, none_failed}
use Rattle.fdb_machine.specs.machine.Machine.{Machine}
use Rattle.fdb_machine.specs.headline.RealTime.{HasBegun, AreAfterEarlier}
use Rattle.fdb_machine.specs.headline.Serving.{PartsKeep, LogKeeps}
use Rattle.fdb_machine.specs.headline.Traces.{machine_of_trace, IsTraceOf}
use Rattle.fdb_machine.specs.machine.Sessions.{Asking}
use Rattle.fdb_machine.specs.machine.Steps.{next}
use Rattle.fdb_machine.specs.machine.Worlds.{start}
use Rattle.fdb_machine.specs.declared.step.Answered.{Answered}
use Rattle.fdb_machine.specs.declared.step.Answered.TheVariants as answered
use Rattle.fdb_machine.specs.machine.AnyStep.{Step}
use Rattle.fdb_machine.specs.declared.step.AnyStep.TheVariants as step

-- The first one is serialized at its place, under the entry's version; not at the other place or under another version,
-- and not if it had been answered otherwise. The second one read what the first one wrote, so it isn't committed, and
-- is serialized nowhere.
abbrev pub OnlyTheFirstIsSerialized : Type 0
OnlyTheFirstIsSerialized =
    IsSerializedAtSpot [] two_in_one_entry (reads_and_sets 0 None) (spot.Entry 0 0 100)
    × (IsSerializedAtSpot [] two_in_one_entry (reads_and_sets 0 None) (spot.Entry 0 1 100) → ⊥)
    × (IsSerializedAtSpot [] two_in_one_entry (reads_and_sets 0 None) (spot.Entry 0 0 101) → ⊥)
    × (IsSerializedAtSpot [] two_in_one_entry (reads_and_sets 0 (Some (codes "1"))) (spot.Entry 0 0 100) → ⊥)
    × (IsSerializedAtSpot [] two_in_one_entry (reads_and_sets 1 None) (spot.Entry 0 1 100) → ⊥)

-- of session 0, which added a range to its write set and wrote nothing else
abbrev pub adds_a_write_range : Transcript
adds_a_write_range = record does_nothing
    { ops = (op.AddWrite (record { begin = codes "a"; end = codes "b" }), reply.Done) ∷ [] }

-- of session 0, which read the key a, and was answered so
abbrev pub reads_only : Bool → Option (List ℕ) → Transcript
reads_only snapshot answer = record does_nothing { ops = (op.Get (codes "a") snapshot, reply.Value answer) ∷ [] }

-- A transaction that wrote nothing is serialized at its read version alone; at one to which the book hasn't come, too,
-- but none is acknowledged there. It isn't if it had been answered otherwise. One that wrote is serialized at no such
-- spot, and neither is one that added a range to its write set.
abbrev pub ReadOnlyAtItsVersion : Type 0
ReadOnlyAtItsVersion =
    IsSerializedAtSpot [] two_in_one_entry does_nothing (spot.ReadOnly 0)
    × (IsSerializedAtSpot [] two_in_one_entry does_nothing (spot.ReadOnly 1) → ⊥)
    × IsSerializedAtSpot [] two_in_one_entry (record does_nothing { read_version = 101 }) (spot.ReadOnly 101)
    × (AllSerialized [] (record nothing_read { book = two_in_one_entry; acknowledged = at_101 ∷ [] }) → ⊥)
    × (IsSerializedAtSpot [] two_in_one_entry (reads_and_sets 0 None) (spot.ReadOnly 0) → ⊥)
    × (IsSerializedAtSpot [] two_in_one_entry adds_a_write_range (spot.ReadOnly 0) → ⊥)
    × (IsSerializedAtSpot [] two_in_one_entry (record does_nothing { read_version = 1 }) (spot.ReadOnly 0) → ⊥)
    × IsSerializedAtSpot [] two_in_one_entry (reads_only false None) (spot.ReadOnly 0)
    × (IsSerializedAtSpot [] two_in_one_entry (reads_only false (Some (codes "1"))) (spot.ReadOnly 0) → ⊥)
  where
    at_101 : Placed
    at_101 = record { spot = spot.ReadOnly 101; transcript = record does_nothing { read_version = 101 } }

-- of session 0, which read the keys from a up to c, and was answered so
abbrev pub reads_range : Bool → List (Point × List ℕ) → Transcript
reads_range snapshot pairs =
    record does_nothing { ops = (op.Range (from_to (codes "a") (codes "c")) 9 false snapshot, reply.Pairs pairs) ∷ [] }

-- A snapshot read may be answered otherwise than the run answers, an ordinary one may not; of a key or of a range.
abbrev pub OnlyOrdinaryReadsCount : Type 0
OnlyOrdinaryReadsCount =
    AnsweredOn empty (reads_only true (Some (codes "1"))) × AnsweredOn empty (reads_only false None)
    × (AnsweredOn empty (reads_only false (Some (codes "1"))) → ⊥)
    × AnsweredOn empty (reads_range true ((codes "b", codes "1") ∷ [])) × AnsweredOn empty (reads_range false [])
    × (AnsweredOn empty (reads_range false ((codes "b", codes "1") ∷ [])) → ⊥)

-- A session's first transaction has begun where the session was served once, and neither its second one nor another
-- session's.
abbrev pub BegunByServing : Type 0
BegunByServing =
    HasBegun served (record { session = 5; number = 0 })
    × (HasBegun served (record { session = 5; number = 1 }) → ⊥)
    × (HasBegun served (record { session = 6; number = 0 }) → ⊥)
  where
    served : Readings
    served = record nothing_read { begun = 5 ∷ [] }

-- a session read at a version alone, and was acknowledged there
abbrev pub read_alone : ℕ → ℕ → Placed
read_alone session version = record {
  spot = spot.ReadOnly version;
  transcript = record { id = record { session = session; number = 0 }; read_version = version; ops = [] };
}

-- An entry at a version isn't after that version, but who reads at it alone is. Who begins after somebody was
-- acknowledged who read at version 100 alone reads at that version, and not at one below.
abbrev pub AfterAVersion : Type 0
AfterAVersion =
    (IsAfterVersion 100 (spot.Entry 0 0 100) → ⊥) × IsAfterVersion 100 (spot.Entry 0 0 101)
    × (IsAfterVersion 100 (spot.ReadOnly 99) → ⊥) × IsAfterVersion 100 (spot.ReadOnly 100)
    × AreAfterEarlier one_acknowledged (two_acknowledged 100)
    × (AreAfterEarlier one_acknowledged (two_acknowledged 99) → ⊥)
  where
    one_acknowledged : Readings
    one_acknowledged = record nothing_read { acknowledged = read_alone 5 100 ∷ [] }

    two_acknowledged : ℕ → Readings
    two_acknowledged version =
        record nothing_read { acknowledged = read_alone 5 100 ∷ read_alone 6 version ∷ [] }

-- the entry is in the book, and two logs took none and one of the entries; the shard of the first applied nothing, and
-- that of the second serves from 40 on
abbrev pub two_shards : (applied floor popped : ℕ) → Machine
two_shards applied floor popped = record (start plain) {
  book = two_in_one_entry;
  logs = 0 ∷ 1 ∷ [];
  shards = record { applied = 0; floor = 0; popped = 0 }
      ∷ record { applied = applied; floor = floor; popped = popped } ∷ [];
}

-- A shard pulls what its own log has, raises its floor up to its version and never lowers it, and pops through its
-- version.
abbrev pub ShardsGoOnAndForget : Type 0
ShardsGoOnAndForget =
    (next (two_shards 0 0 0) (step.Pull 0 9) ≡ Ok (record { answer = answered.Version 0; next = two_shards 0 0 0 }))
    × (next (two_shards 0 0 0) (step.Pull 1 9) ≡ Ok (record { answer = answered.Version 100; next = two_shards 1 0 0 }))
    × (next (two_shards 0 0 0) (step.Pull 1 0) ≡ Ok (record { answer = answered.Version 0; next = two_shards 0 0 0 }))
    × (next (two_shards 0 0 0) (step.Pull 2 9) ≡ Err Unknown)
    × (next (two_shards 1 40 0) (step.Forget 1 100)
    ≡ Ok (record { answer = answered.Version 100; next = two_shards 1 100 0 }))
    × (next (two_shards 1 40 0) (step.Forget 1 30) ≡ Ok
    (record { answer = answered.Version 40; next = two_shards 1 40 0 }))
    × (next (two_shards 1 40 0) (step.Forget 1 101) ≡ Err FutureVersion)
    × (next (two_shards 1 40 0) (step.Pop 1) ≡ Ok (record
    { answer = answered.Version 100; next = two_shards 1 40 100 }))

-- A shard that has nothing at the key answers from the run at version 200, but not if it still serves version 100.
abbrev pub EachServedVersionCounts : Type 0
EachServedVersionCounts =
    (value_at (empty_from 100) 200 (codes "a") ≡ get (serial_map_at [] 200 (seen_of set_and_cleared).places)
    (codes "a"))
    × (ShardServes plain set_and_cleared 0 (empty_from 100) → ⊥)
  where
    empty_from : ℕ → Shard
    empty_from floor = record {
      tag = 0;
      range = piece [] 0;
      version = 200;
      floor = floor;
      is_failed = false;
      keys = [];
    }

-- the one resolver's part of the entry, which asks it about no place
abbrev pub empty_part : Part
empty_part = record { resolver = 0; index = 0; version = 100; prev = 0; horizon = 0; items = [] }

-- A resolver that took the entry and knows of no write, a pool without its parts or with one that asks the resolver
-- about no place of it, and a log that took it and has an empty message of it, keep something else than the book says.
abbrev pub ForgetfulRolesDoNotKeep : Type 0
ForgetfulRolesDoNotKeep =
    (IsStateOf [] 0 (seen_of two_in_one_entry).places 0 (λ x. 0) → ⊥)
    × (PartsKeep (record (start plain) { book = two_in_one_entry }) [] → ⊥)
    × (PartsKeep (record (start plain) { book = two_in_one_entry }) ((empty_part ∷ []) ∷ []) → ⊥)
    × (LogKeeps (record (start plain) { book = two_in_one_entry }) 0 1 empty_message_taken → ⊥)

-- both sessions ask and are served, read the key a, set it and submit; their batch is sealed, and they are told
abbrev pub two_sessions : List Step
two_sessions =
    step.Ask 0 0 ∷ step.Ask 1 0 ∷ step.Grant 0
    ∷ step.Get 0 (codes "a") false ∷ step.Write 0 (Set (codes "a") (codes "1"))
    ∷ step.Get 1 (codes "a") false ∷ step.Write 1 (Set (codes "a") (codes "1")) ∷ step.Submit 0 0 ∷ step.Submit 1 0
    ∷ step.Seal 0 100 ∷ step.Report 0 ∷ step.Answer 0 ∷ []

-- the second one of a conflict
abbrev pub one_commits : List (Result Answered Refusal)
one_commits =
    Ok answered.Done ∷ Ok answered.Done ∷ Ok (answered.Granted ((0, 0) ∷ (1, 0) ∷ []))
    ∷ Ok (answered.Value None) ∷ Ok answered.Done ∷ Ok (answered.Value None) ∷ Ok answered.Done
    ∷ Ok answered.Done ∷ Ok answered.Done ∷ Ok (answered.Issued 0 100 0 2) ∷ Ok (answered.Version 100)
    ∷ Ok (answered.Answers ((0, outcome.Commit 100 0) ∷ (1, outcome.Conflict) ∷ [])) ∷ []

-- one session is served, asks again, which drops its transaction, and is served again
abbrev pub asks_again : List Step
asks_again = step.Ask 5 0 ∷ step.Grant 0 ∷ step.Ask 5 0 ∷ step.Grant 0 ∷ []

abbrev pub served_twice : List (Result Answered Refusal)
served_twice =
    Ok answered.Done ∷ Ok (answered.Granted ((5, 0) ∷ []))
    ∷ Ok answered.Done ∷ Ok (answered.Granted ((5, 100) ∷ [])) ∷ []

-- From these answers alone are read the entry with both, the version that was reported, and that the first one alone is
-- acknowledged, at its place. The session that was served twice has its second transaction open.
abbrev pub ReadOffTheTrace : Type 0
ReadOffTheTrace =
    ((readings_of two_sessions one_commits).book ≡ two_in_one_entry)
    × ((readings_of two_sessions one_commits).acknowledged ≡ record
    { spot = spot.Entry 0 0 100; transcript = reads_and_sets 0 None } ∷ [])
    × ((readings_of two_sessions one_commits).reported ≡ 100)
    × ((readings_of two_sessions one_commits).answered ≡ 0 ∷ [])
    × ((readings_of two_sessions one_commits).opened ≡ [])
    × ((readings_of asks_again served_twice).opened ≡ record
    { id = record { session = 5; number = 1 }; read_version = 100; ops = [] } ∷ [])

-- the machine in which session 5 asks, which began nothing yet
abbrev pub one_asks : Machine
one_asks = record (start plain) {
  sessions = insert empty 5 (record { last_number = None; state = Asking });
  grv_proxies = (5 ∷ []) ∷ [];
}

-- A refused step leaves the machine, and no world stands for a trace with another answer than the machine's, or with
-- another refusal.
abbrev pub Traced : Type 0
Traced =
    (machine_of_trace plain (step.Grant 7 ∷ []) (Err Unknown ∷ []) ≡ start plain)
    × (machine_of_trace plain (step.Ask 5 0 ∷ []) (Ok answered.Done ∷ []) ≡ one_asks)
    × IsTraceOf plain (step.Ask 5 0 ∷ []) (Ok answered.Done ∷ [])
    (record { machine = one_asks; failed = none_failed plain })
    × ((world : State) → IsTraceOf plain (step.Grant 0 ∷ []) (Ok answered.Done ∷ []) world → ⊥)
    × ((world : State) → IsTraceOf plain (step.Grant 7 ∷ []) (Err Stale ∷ []) world → ⊥)
