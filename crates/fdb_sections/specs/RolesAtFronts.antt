-- The roles of running threads: each is its state with the front of the book that it has seen.
use Rattle.std.specs.Prelude.{List}
use Rattle.fdb_txn.specs.declared.entry.Entry.{Entry}
use Rattle.fdb_log.specs.Logs.{Log}
use Rattle.fdb_resolver.specs.Resolvers.{Resolver}
use Rattle.fdb_sequencer.specs.Sequencer.{Sequencer}

pub record ResolverAtFront : Type 0 where
  pub front : List Entry
  pub state : Resolver

pub record SequencerAtFront : Type 0 where
  pub front : List Entry
  pub state : Sequencer

pub record LogAtFront : Type 0 where
  pub front : List Entry
  pub state : Log
