-- What the machine says of each role.
use Rattle.std.specs.Prelude.{ℕ, Bool, List}
use Rattle.fdb_client.specs.declared.program.Transcript.{Transcript}

-- how far a commit proxy is with its batch: it has none; the batch has an entry; it is decided; its version is reported
pub data Stage : Type 0 where
  Idle : Stage
  Resolving : Stage
  Logging : Stage
  Reported : Stage

-- a commit proxy: the transcripts of those who wait there, in order, and of the batch in flight, by place, with its
-- entry
pub record CommitProxy : Type 0 where
  pub waiting : List Transcript
  pub in_flight : List Transcript
  pub stage : Stage
  pub entry : ℕ
  -- for each resolver whether its verdicts came, while the batch waits for them, and else none
  pub verdicts_received : List Bool
  -- for each log whether its acknowledgement came, once the batch is decided, and before that none
  pub acknowledgements_received : List Bool

-- who tells a commit proxy something of an entry: a resolver its verdicts, a log its acknowledgement
pub data Sender : Type 0 where
  FromResolver : (resolver : ℕ) → Sender
  FromLog : (log : ℕ) → Sender

-- a shard: how many entries it applied, the least version that it serves, and the version through which its log was
-- told to drop its messages
pub record ShardProgress : Type 0 where
  pub applied : ℕ
  pub floor : ℕ
  pub popped : ℕ
