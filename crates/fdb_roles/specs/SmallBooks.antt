-- Small books, the transactions in them and roles at them, of which the examples speak.
use Rattle.std.specs.Prelude.{[], ℕ, ◌-◌, false, List, ◌∷◌, Option, codes, None, ◌++◌}
use Rattle.fdb_keys.specs.Points.{Point}
use Rattle.fdb_keys.specs.Ranges.{Range}
use Rattle.fdb_mutations.specs.declared.mutation.Mutation.TheVariants.{Set, Clear}
use Rattle.fdb_txn.specs.Limits.{window}
use Rattle.fdb_txn.specs.declared.entry.Entry.{Entry}
use Rattle.fdb_log.specs.Logs.{Log}
use Rattle.fdb_proxy.specs.declared.config.Config.{Config}
use Rattle.fdb_client.specs.declared.program.Op.TheVariants as op
use Rattle.fdb_client.specs.declared.program.Reply.TheVariants as reply
use Rattle.fdb_client.specs.declared.program.Transcript.{Transcript}
use Rattle.fdb_client.specs.Programs.{commit_request_of}

-- one of each role
abbrev pub plain : Config
plain = record { proxies = 1; logs = 1; resolver_splits = []; shard_splits = []; book = 100 }

-- of session `number`: at version 0 the key a was read and answered so, and then set
abbrev pub reads_and_sets : ℕ → Option (List ℕ) → Transcript
reads_and_sets number answer =
    record {
      id = record { session = number; number = 0 };
      read_version = 0;
      ops = (op.Get (codes "a") false, reply.Value answer) ∷ (op.Write (Set (codes "a") (codes "1")), reply.Done) ∷ [];
    }

-- of session 0, which read nothing and wrote nothing
abbrev pub does_nothing : Transcript
does_nothing = record { id = record { session = 0; number = 0 }; read_version = 0; ops = [] }

-- both sessions' transactions are the places of one entry at version 100
abbrev pub two_in_one_entry : List Entry
two_in_one_entry = record {
  version = 100;
  prev = 0;
  horizon = 0;
  moves = [];
  batch = commit_request_of (reads_and_sets 0 None) ∷ commit_request_of (reads_and_sets 1 None) ∷ [];
} ∷ []

-- session 0's transaction alone in an entry at the version, with the horizon that this has by the first window
abbrev pub alone_at : ℕ → List Entry
alone_at version = record {
  version = version;
  prev = 0;
  horizon = version - window;
  moves = [];
  batch = commit_request_of (reads_and_sets 0 None) ∷ [];
} ∷ []

-- the key a is set at version 100, and cleared at 200
abbrev pub set_and_cleared : List Entry
set_and_cleared = two_in_one_entry ++ record {
  version = 200;
  prev = 100;
  horizon = 0;
  moves = [];
  batch = commit_request_of (record does_nothing { ops = (op.Write (Clear (codes "a")), reply.Done) ∷ [] }) ∷ [];
} ∷ []

-- the one log after it took the entry's message, which has nothing for any tag
abbrev pub empty_message_taken : Log
empty_message_taken = record {
  log = 0;
  logs = 1;
  tags = 1;
  last = 100;
  is_failed = false;
  popped = 0 ∷ [];
  queues = (record { version = 100; prev = 0; body = [] } ∷ []) ∷ [];
  waiting = [];
}

abbrev pub from_to : Point → Point → Range
from_to begin end = record { begin = begin; end = end }
