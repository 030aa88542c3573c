-- What the roles of a small world keep, and what they keep in no such world, each for one thing.
use Rattle.std.specs.Prelude.{true, false, [], ◌∷◌, Some, None, codes}
use Rattle.fdb_txn.specs.rules.Splits.{piece}
use Rattle.fdb_resolver.specs.declared.part.Part.{Part}
use Rattle.fdb_resolver.specs.Resolvers.{Resolver}
use Rattle.fdb_sequencer.specs.declared.dated.Dated.{Dated}
use Rattle.fdb_sequencer.specs.Sequencer.{Sequencer, fresh}
use Rattle.fdb_log.specs.declared.message.LogMsg.{LogMsg}
use Rattle.fdb_log.specs.Logs.{Log}
use Rattle.fdb_storage.specs.Shards.{Shard}
use Rattle.fdb_roles.specs.RoleExamples.{to_one, popped_to}
use Rattle.fdb_roles.specs.SmallBooks.{empty_message_taken, plain, two_in_one_entry}
use Rattle.fdb_machine.specs.headline.Examples.{empty_part}
use Rattle.fdb_machine.specs.headline.HeadlineExamples.{something_at_z}
use Rattle.fdb_machine.specs.headline.Serving.{System, RolesKeep, ResolverKeeps}
use Rattle.fdb_machine.specs.machine.Failures.{Failures, none_failed}
use Rattle.fdb_machine.specs.machine.Machine.{Machine}
use Rattle.fdb_machine.specs.machine.Worlds.{start}

-- one entry of nobody, at version 100, which is decided, and which all roles took; the shard serves from 40 on
abbrev pub taken_by_all : Machine
taken_by_all = record (start plain) {
  book = record { version = 100; prev = 0; horizon = 0; moves = []; batch = [] } ∷ [];
  entry_proxies = 0 ∷ [];
  decided = true ∷ [];
  resolvers = 1 ∷ [];
  logs = 1 ∷ [];
  shards = record { applied = 1; floor = 40; popped = 0 } ∷ [];
  committed = 100;
}

-- what its roles keep
abbrev pub sequencer : Sequencer
sequencer = record (fresh 1 1 100) { accepted = 1; committed = 100 }

abbrev pub resolver : Resolver
resolver = record { index = 0; last = 100; is_failed = false; versions = record { floor = 0; breaks = [] } }

abbrev pub message : LogMsg
message = record { log = 0; index = 0; version = 100; prev = 0; body = [] }

abbrev pub shard : Shard
shard = record { tag = 0; range = piece [] 0; version = 100; floor = 40; is_failed = false; keys = [] }

abbrev pub world : System
world = record {
  state = record { machine = taken_by_all; failed = none_failed plain };
  sequencer = sequencer;
  resolvers = resolver ∷ [];
  parts = (empty_part ∷ []) ∷ [];
  messages = Some (message ∷ []) ∷ [];
  logs = empty_message_taken ∷ [];
  shards = shard ∷ [];
}

-- with such failures shown, and with such a role in the place of the one that keeps what it should
abbrev pub with_failed : System → Failures → System
with_failed system failed = record system { state = record { machine = taken_by_all; failed = failed } }

abbrev pub with_sequencer : Sequencer → System
with_sequencer other = record world { sequencer = other }

abbrev pub with_resolver : Resolver → System
with_resolver other = record world { resolvers = other ∷ [] }

abbrev pub with_part : Part → System
with_part other = record world { parts = (other ∷ []) ∷ [] }

abbrev pub with_log : Log → System
with_log other = record world { logs = other ∷ [] }

abbrev pub with_shard : Shard → System
with_shard other = record world { shards = other ∷ [] }

-- the roles of this one don't keep what the book says
abbrev pub IsNoWorld : System → Type 0
IsNoWorld system = RolesKeep system → ⊥

-- The roles of the world keep what the book says. Which ones have failed is shown, and one that has failed may keep
-- anything.
abbrev pub FailuresAreShown : Type 0
FailuresAreShown =
    RolesKeep world
    × RolesKeep (with_failed (with_shard failed_shard) (record (none_failed plain) { shards = true ∷ [] }))
    × IsNoWorld (with_shard failed_shard)
    × IsNoWorld (with_failed world (record (none_failed plain) { shards = true ∷ [] }))
    × IsNoWorld (with_resolver (record resolver { is_failed = true }))
    × IsNoWorld (with_failed world (record (none_failed plain) { resolvers = true ∷ [] }))
    × IsNoWorld (with_log (record empty_message_taken { is_failed = true }))
    × IsNoWorld (with_failed world (record (none_failed plain) { logs = true ∷ [] }))
  where
    failed_shard : Shard
    failed_shard = record shard { version = 7; floor = 9; is_failed = true }

-- The sequencer accepted a ticket for each entry, gave it its version, keeps the greatest version that was reported,
-- which is none above that, and the moves that wait, has yet to tell its proxy of no move but the last ones of the
-- entries, and keeps the window and the last horizon.
abbrev pub OtherSequencersAreInNoWorld : Type 0
OtherSequencersAreInNoWorld =
    IsNoWorld (with_sequencer (record sequencer { accepted = 2 }))
    × IsNoWorld (with_sequencer (record sequencer { last = 101 }))
    × IsNoWorld (with_sequencer (record sequencer { committed = 99 }))
    × IsNoWorld (record (with_sequencer (record sequencer { committed = 101 })) {
      state = record { machine = record taken_by_all { committed = 101 }; failed = none_failed plain };
    })
    × IsNoWorld (with_sequencer (record sequencer { pending = record to_one { to = 0 } ∷ [] }))
    × IsNoWorld (with_sequencer (record sequencer { unlearnt = (one_dated ∷ []) ∷ [] }))
    × IsNoWorld (with_sequencer (record sequencer { window = 1 }))
    × IsNoWorld (with_sequencer (record sequencer { horizon = 1 }))
  where
    one_dated : Dated
    one_dated = record { version = 100; moves = record to_one { to = 0 } ∷ [] }

-- A resolver has its number, the version of the last entry that it took, and the versions of those that it admitted and
-- of nobody else; and each is there.
abbrev pub OtherResolversAreInNoWorld : Type 0
OtherResolversAreInNoWorld =
    IsNoWorld (with_resolver (record resolver { index = 1 }))
    × IsNoWorld (with_resolver (record resolver { last = 0 }))
    × IsNoWorld (with_resolver (record resolver { versions = record { floor = 0; breaks = (codes "a", 1) ∷ [] } }))
    × IsNoWorld (record (with_failed world (record (none_failed plain) { resolvers = [] })) { resolvers = [] })
    × (ResolverKeeps (record (start plain) { book = two_in_one_entry }) 0 1 resolver → ⊥)

-- An entry has its parts, one for each resolver, and its messages exactly where it is decided.
abbrev pub OtherMessagesAreInNoWorld : Type 0
OtherMessagesAreInNoWorld =
    IsNoWorld (record world { parts = [] })
    × IsNoWorld (record world { parts = [] ∷ [] })
    × IsNoWorld (with_part (record empty_part { resolver = 1 }))
    × IsNoWorld (with_part (record empty_part { index = 1 }))
    × IsNoWorld (with_part (record empty_part { version = 101 }))
    × IsNoWorld (with_part (record empty_part { prev = 1 }))
    × IsNoWorld (with_part (record empty_part { horizon = 1 }))
    × IsNoWorld (record world { messages = Some (message ∷ []) ∷ None ∷ [] })
    × IsNoWorld (record world { messages = None ∷ [] })
    × IsNoWorld (record world { messages = Some [] ∷ [] })
    × IsNoWorld (record world { state = record { machine = undecided; failed = none_failed plain } })
  where
    undecided : Machine
    undecided = record taken_by_all { decided = false ∷ [] }

-- A log has its number, the version of the last entry that it took, what its shards popped, and its messages above
-- that; and each is there.
abbrev pub OtherLogsAreInNoWorld : Type 0
OtherLogsAreInNoWorld =
    IsNoWorld (with_log (record empty_message_taken { log = 1 }))
    × IsNoWorld (with_log (record empty_message_taken { logs = 2 }))
    × IsNoWorld (with_log (record empty_message_taken { tags = 0 }))
    × IsNoWorld (with_log (record empty_message_taken { last = 0 }))
    × IsNoWorld (with_log (record empty_message_taken { queues = [] ∷ [] }))
    × IsNoWorld (with_log (popped_to 100))
    × IsNoWorld (record (with_failed world (record (none_failed plain) { logs = [] })) { logs = [] })

-- A shard has its number and its piece of the keys, serves from its floor through the version of the last entry that it
-- applied, and has what the run left and nothing else; what its log dropped it has applied; and each is there.
abbrev pub OtherShardsAreInNoWorld : Type 0
OtherShardsAreInNoWorld =
    IsNoWorld (with_shard (record shard { tag = 1 }))
    × IsNoWorld (with_shard (record shard { range = piece (codes "m" ∷ []) 0 }))
    × IsNoWorld (with_shard (record shard { floor = 41 }))
    × IsNoWorld (with_shard (record shard { version = 99 }))
    × IsNoWorld (with_shard (record shard { keys = something_at_z }))
    × IsNoWorld (record world { shards = [] })
    × IsNoWorld (record (with_log (popped_to 101)) {
      state = record { machine = popped_later; failed = none_failed plain };
    })
  where
    popped_later : Machine
    popped_later = record taken_by_all { shards = record { applied = 1; floor = 40; popped = 101 } ∷ [] }
