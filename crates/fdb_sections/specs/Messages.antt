-- What roles that run in threads tell each other. A message carries a front of the book, and what it holds is about the
-- front's last entry.
use Rattle.std.specs.Prelude.{◌≡◌, ◌<◌, ◌++◌, ℕ, suc, List, [], ◌∷◌, length, None}
use Rattle.fdb_keys.specs.Points.{Point}
use Rattle.fdb_txn.specs.declared.entry.Entry.{Entry}
use Rattle.fdb_txn.specs.book.Book.{seen_of}
use Rattle.fdb_resolver.specs.declared.part.Part.{Part}
use Rattle.fdb_resolver.specs.declared.verdict.Verdicts.{Verdicts}
use Rattle.fdb_log.specs.declared.message.LogAck.{LogAck}
use Rattle.fdb_log.specs.declared.message.LogMsg.{LogMsg}
use Rattle.fdb_log.specs.declared.peek.Peek.{Peek}
use Rattle.fdb_log.specs.Logs.{Log, peek_fault, peek_of}
use Rattle.fdb_log.specs.Peeks.{IsPeek}
use Rattle.fdb_storage.specs.LogMessages.{log_message}
use Rattle.fdb_proxy.specs.declared.config.Config.{Config}
use Rattle.fdb_proxy.specs.declared.position.Position.{Position}
use Rattle.fdb_proxy.specs.Parting.{IsPartOf}
use Rattle.fdb_proxy.specs.Verdicts.{moves_through, verdicts_on}
use Rattle.fdb_roles.specs.AtBook.{IsLogAt}
use Rattle.fdb_roles.specs.ProxyStages.{AreFindsOn, position_in}

-- the position of an entry behind others
abbrev pub position_after : List Entry → Entry → Position
position_after before entry = position_in (length before) entry

-- a part with the front that it was sent with
pub record PartAtFront : Type 0 where
  pub front : List Entry
  pub part : Part

-- it is its resolver's part of the front's last entry
pub record IsLastPart (splits : List Point) (sent : PartAtFront) : Type 0 where
  pub before : List Entry
  pub entry : Entry
  pub front_is : sent.front ≡ before ++ entry ∷ []
  pub part_is : IsPartOf splits (moves_through (seen_of before) entry) (position_after before entry) entry.batch
      sent.part.resolver sent.part

-- verdicts with the front that they were sent with
pub record VerdictsAtFront : Type 0 where
  pub front : List Entry
  pub verdicts : Verdicts

-- they are what the rule says of their resolver's part of the front's last entry, with what it finds there
pub record AreLastVerdicts (splits : List Point) (sent : VerdictsAtFront) : Type 0 where
  pub before : List Entry
  pub entry : Entry
  pub front_is : sent.front ≡ before ++ entry ∷ []
  pub index : sent.verdicts.index ≡ length before
  pub resolver : sent.verdicts.resolver < suc (length splits)
  pub answers : sent.verdicts.answers ≡ verdicts_on splits sent.verdicts.resolver (seen_of before) entry
  pub found : AreFindsOn splits sent.verdicts.resolver (seen_of before) entry sent.verdicts.conflicts

-- a log's message with the front that it was sent with
pub record LogMsgAtFront : Type 0 where
  pub front : List Entry
  pub message : LogMsg

-- it is its log's message of the front's last entry
pub record IsLastMessage (config : Config) (sent : LogMsgAtFront) : Type 0 where
  pub before : List Entry
  pub entry : Entry
  pub front_is : sent.front ≡ before ++ entry ∷ []
  pub message_is : sent.message
      ≡ log_message config.resolver_splits config.shard_splits config.logs sent.message.log (length before)
      (seen_of before) entry

-- an acknowledgement with the front of the log that gave it
pub record AckAtFront : Type 0 where
  pub front : List Entry
  pub ack : LogAck

-- it is of the front's last entry, and a log of its number took that one and all before it
pub record IsLastAck (config : Config) (sent : AckAtFront) : Type 0 where
  pub before : List Entry
  pub entry : Entry
  pub front_is : sent.front ≡ before ++ entry ∷ []
  pub index : sent.ack.index ≡ length before
  pub within : sent.ack.log < config.logs
  pub log : Log
  pub at : IsLogAt config sent.front sent.ack.log log

-- a peek with the front of the log that gave it
pub record PeekAtFront : Type 0 where
  pub front : List Entry
  pub peek : Peek

-- a log at the front gives it, and its messages rise
pub record IsGivenAt (config : Config) (given : PeekAtFront) : Type 0 where
  pub number : ℕ
  pub log : Log
  pub limit : ℕ
  pub at : IsLogAt config given.front number log
  pub may : peek_fault log given.peek.tag given.peek.after ≡ None
  pub gives : given.peek ≡ peek_of log given.peek.tag given.peek.after limit
  pub chained : IsPeek given.peek
