-- What a commit proxy makes for the logs once its batch is decided.
use Rattle.std.specs.Prelude.{ℕ, suc, Bool, true, false, ◌==◌, ◌&&◌, not, nat_lt, List, [], ◌∷◌, ◌++◌, map, filter}
use Rattle.std.specs.Prelude.{length, slice_set}
use Rattle.std.specs.List.{range_with_len}
use Rattle.fdb_keys.specs.Points.{Point}
use Rattle.fdb_txn.specs.declared.txn_id.TxnId.{TxnId}
use Rattle.fdb_txn.specs.book.Transactions.{Transaction}
use Rattle.fdb_txn.specs.rules.Messages.{Body, at_place}
use Rattle.fdb_txn.specs.rules.Stamped.{stamped_by}
use Rattle.fdb_log.specs.declared.message.LogAck.{LogAck}
use Rattle.fdb_log.specs.declared.message.LogMsg.{LogMsg}
use Rattle.fdb_log.specs.declared.message.Tagged.{Tagged}
use Rattle.fdb_storage.specs.LogMessages.{tagged, is_for_log}
use Rattle.fdb_proxy.specs.declared.outcome.Outcome.{Outcome}
use Rattle.fdb_proxy.specs.declared.outcome.Outcome.TheVariants as outcome
use Rattle.fdb_proxy.specs.declared.position.Position.{Position}
use Rattle.fdb_proxy.specs.declared.logging.Logging.{Logging}
use Rattle.fdb_proxy.specs.Flags.{is_set}

abbrev pub is_commit : Outcome → Bool
is_commit (outcome.Commit version place) = true
is_commit outcome.Conflict = false
is_commit outcome.Old = false

-- the id of each transaction of a batch, with what becomes of it
abbrev pub answers_by : List Transaction → List Outcome → List (TxnId × Outcome)
answers_by [] outcomes = []
answers_by (t ∷ ts) [] = []
answers_by (t ∷ ts) (outcome ∷ outcomes) = (t.id, outcome) ∷ answers_by ts outcomes

-- what a transaction at place p writes by what becomes of it: its mutations with the stamp of its commit, and nothing
-- where it doesn't commit
abbrev pub written : Outcome → ℕ → Transaction → Body
written (outcome.Commit version place) p t = at_place p (stamped_by version place t.mutations)
written outcome.Conflict p t = []
written outcome.Old p t = []

-- the stamped mutations of those transactions, from place p on, that commit: by place, and then in the transaction's
-- order
abbrev pub body_by : ℕ → List Transaction → List (TxnId × Outcome) → Body
body_by p [] answers = []
body_by p (t ∷ ts) [] = []
body_by p (t ∷ ts) (answer ∷ answers) =
    written answer.1 p t ++ body_by (suc p) ts answers

-- the message for a log, of so many, with those of these mutations of which it keeps a tag
abbrev pub message_with : ℕ → Position → List Tagged → ℕ → LogMsg
message_with logs position body log =
    record {
      log = log;
      index = position.index;
      version = position.version;
      prev = position.prev;
      body = filter (is_for_log logs log) body;
    }

-- the message for each log
abbrev pub messages_by : List Point → ℕ → List Transaction → Logging → List LogMsg
messages_by shard_splits logs batch decided =
    map (message_with logs decided.position (map (tagged shard_splits) (body_by 0 batch decided.answers)))
    (range_with_len 0 logs)

-- the batch waits for this acknowledgement: it is of its entry, and the log's first
abbrev pub is_awaited : Logging → LogAck → Bool
is_awaited decided ack =
    (ack.index == decided.position.index) && nat_lt ack.log (length decided.acknowledged)
    && not (is_set decided.acknowledged ack.log)

-- once it came
abbrev pub with_acknowledgement : Logging → LogAck → Logging
with_acknowledgement decided ack = record decided { acknowledged = slice_set decided.acknowledged ack.log true }
