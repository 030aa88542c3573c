-- A commit proxy, what each call answers, and what it leaves.
use Rattle.std.specs.Prelude.{◌≡◌, ◌<◌, ◌≤◌, ⊤, ℕ, min, Bool, true, false, not, ◌||◌, ◌++◌, nat_le, List, []}
use Rattle.std.specs.Prelude.{◌∷◌, fold, length, replicate, take, drop, Option, Some, None, if◌then◌else◌}
use Rattle.std.specs.List.{AllByRecursion, list_any}
use Rattle.std.specs.Option.{option_or, is_none}
use Rattle.fdb_keys.specs.Points.{Point}
use Rattle.fdb_keys.specs.Ranges.{Range}
use Rattle.fdb_keys.specs.declared.refusal.Refusal.{Refusal}
use Rattle.fdb_keys.specs.declared.refusal.Refusal.TheVariants.{NotYet, Stale, Failed, Repeated, WrongState, BadConfig}
use Rattle.fdb_txn.specs.declared.txn_id.TxnId.{TxnId}
use Rattle.fdb_txn.specs.book.Book.{DatedMove, add_moves}
use Rattle.fdb_txn.specs.book.Transactions.{Transaction}
use Rattle.fdb_txn.specs.Limits.{place_limit}
use Rattle.fdb_owners.specs.Ownership.{Ownership, resolvers_of, IsNew}
use Rattle.fdb_owners.specs.OwnersLaws.{AgreesWith}
use Rattle.fdb_resolver.specs.declared.part.Part.{Part}
use Rattle.fdb_resolver.specs.declared.verdict.Verdicts.{Verdicts}
use Rattle.fdb_sequencer.specs.declared.dated.Dated.{Dated}
use Rattle.fdb_sequencer.specs.declared.ticket.Ticket.{Ticket}
use Rattle.fdb_sequencer.specs.TicketLaws.{AreRisingUpTo, GoToResolvers}
use Rattle.fdb_log.specs.declared.message.LogAck.{LogAck}
use Rattle.fdb_log.specs.declared.message.LogMsg.{LogMsg}
use Rattle.fdb_proxy.specs.declared.config.Config.{Config}
use Rattle.fdb_proxy.specs.declared.decision.Decision.{Decision}
use Rattle.fdb_proxy.specs.declared.outcome.Outcome.{Outcome}
use Rattle.fdb_proxy.specs.declared.position.Position.{Position}
use Rattle.fdb_proxy.specs.declared.resolving.Resolving.{Resolving}
use Rattle.fdb_proxy.specs.declared.stage.Stage.{Stage}
use Rattle.fdb_proxy.specs.declared.stage.Stage.TheVariants as stage
use Rattle.fdb_proxy.specs.Configs.{config_fault}
use Rattle.fdb_proxy.specs.Conflicts.{conflicts_by}
use Rattle.fdb_proxy.specs.Deciding.{outcomes_by}
use Rattle.fdb_proxy.specs.Flags.{first_unset}
use Rattle.fdb_proxy.specs.Logging.{answers_by, messages_by, with_acknowledgement}
use Rattle.fdb_proxy.specs.Logging as logging
use Rattle.fdb_proxy.specs.Parting.{AreParts}
use Rattle.fdb_proxy.specs.Requests.{place_of}
use Rattle.fdb_proxy.specs.Resolving.{with_verdicts, first_missing}
use Rattle.fdb_proxy.specs.Resolving as resolving

-- its number, the number of logs, the shards' splits, the owners by what it learnt, the version of its last ticket,
-- those that wait in order, the batch in flight by place, how far that is, and whether the proxy failed
pub record CommitProxy : Type 0 where
  pub index : ℕ
  pub logs : ℕ
  pub shard_splits : List Point
  pub owners : Ownership
  pub last : ℕ
  pub waiting : List Transaction
  pub batch : List Transaction
  pub stage : Stage
  pub is_failed : Bool

-- a commit proxy, and how many more may be submitted without memory
pub record ProxyWithRoom : Type 0 where
  pub proxy : CommitProxy
  pub spare : ℕ

abbrev pub is_idle : Stage → Bool
is_idle stage.Idle = true
is_idle stage.Sealed = false
is_idle stage.Entered = false
is_idle (stage.Resolving batch) = false
is_idle (stage.Logging decided) = false

abbrev pub is_sealed : Stage → Bool
is_sealed stage.Idle = false
is_sealed stage.Sealed = true
is_sealed stage.Entered = false
is_sealed (stage.Resolving batch) = false
is_sealed (stage.Logging decided) = false

-- what is known of the batch at each stage; who has a batch with an entry but without its ticket failed
abbrev pub IsStage : CommitProxy → Stage → Type 0
IsStage p stage.Idle = p.batch ≡ []
IsStage p stage.Sealed = ⊤
IsStage p stage.Entered = p.is_failed ≡ true
IsStage p (stage.Resolving batch) = length batch.verdicts ≡ length batch.parts
IsStage p (stage.Logging decided) = length p.batch ≡ length decided.answers

-- what holds of every commit proxy
pub record IsCommitProxy (p : CommitProxy) : Type 0 where
  pub some_log : 0 < p.logs
  pub stage : IsStage p p.stage
  pub learnt : p.owners.last ≤ p.last

-- why there is no such proxy
abbrev pub new_fault : ℕ → Config → Option Refusal
new_fault index config =
    option_or (config_fault config) (if nat_le config.proxies index then Some BadConfig else None)

-- nobody waits, no batch is in flight, and nothing was learnt
pub record IsNewProxy (index : ℕ) (config : Config) (p : CommitProxy) : Type 0 where
  pub owners : IsNew config.resolver_splits p.owners
  pub rest : p ≡ record {
    index = index;
    logs = config.logs;
    shard_splits = config.shard_splits;
    owners = p.owners;
    last = 0;
    waiting = [];
    batch = [];
    stage = stage.Idle;
    is_failed = false;
  }

-- why a proxy answers nothing any more
abbrev pub failed_fault : CommitProxy → Option Refusal
failed_fault p = if p.is_failed then Some Failed else None

-- why a proxy that works refuses to go on
abbrev pub fault_of : CommitProxy → Option Refusal → Option Refusal
fault_of p fault = if p.is_failed then Some Failed else fault

-- the place of the first request with the id, as far as numbers of places go
abbrev pub repeated : Option ℕ → Option Refusal
repeated None = None
repeated (Some place) = Some (Repeated (min place greatest_place))
  where
    greatest_place : ℕ
    greatest_place = 4294967295

-- why a request isn't taken: one of its id is in flight or waits, at a place that is counted from the batch's first
abbrev pub id_fault : CommitProxy → TxnId → Option Refusal
id_fault p id = fault_of p (repeated (place_of id (p.batch ++ p.waiting)))

abbrev pub submit_fault : CommitProxy → Transaction → Option Refusal
submit_fault p t = id_fault p t.id

-- one more waits
abbrev pub submitting : CommitProxy → Transaction → CommitProxy
submitting p t = record p { waiting = p.waiting ++ t ∷ [] }

-- why no batch is taken
abbrev pub seal_fault : CommitProxy → Option Refusal
seal_fault p = fault_of p (if is_idle p.stage then None else Some WrongState)

-- the first of those who wait, at most as many as a batch may have, are the batch
abbrev pub sealing : CommitProxy → CommitProxy
sealing p =
    record p { batch = take place_limit p.waiting; waiting = drop place_limit p.waiting; stage = stage.Sealed }

-- a batch without an entry waits again, before all others
abbrev pub unsealing : CommitProxy → CommitProxy
unsealing p =
    if is_sealed p.stage then record p { batch = []; waiting = p.batch ++ p.waiting; stage = stage.Idle } else p

-- the moves of a list by versions, after older ones
abbrev pub moves_with : List Dated → List DatedMove → List DatedMove
moves_with dated older =
    fold (λ (moves : List DatedMove) (one : Dated). add_moves one.version one.moves moves) older dated

-- The ticket may be learnt: its moves go to resolvers that exist, at versions that rise up to the ticket's, which lies
-- above what the batch read at. Its horizon lies below its version, and the owners have forgotten none from it on.
pub record IsTicketFor (p : CommitProxy) (ticket : Ticket) : Type 0 where
  pub targets : GoToResolvers (resolvers_of p.owners) ticket.moves
  pub rising : AreRisingUpTo ticket.version ticket.moves
  pub later : AllByRecursion (λ (t : Transaction). t.read < ticket.version) p.batch
  pub horizon : p.owners.floor ≤ ticket.horizon
  pub below : ticket.horizon < ticket.version

-- its version, or that of one of its moves, isn't above that of the last ticket
abbrev pub is_stale : ℕ → Ticket → Bool
is_stale last ticket = nat_le ticket.version last || list_any (λ (one : Dated). nat_le one.version last) ticket.moves

-- why a ticket isn't learnt
abbrev pub learn_fault : CommitProxy → Ticket → Option Refusal
learn_fault p ticket =
    fault_of p (if not (is_sealed p.stage) then Some WrongState else
    (if is_stale p.last ticket then Some Stale else None))

abbrev pub position_of : Ticket → Position
position_of ticket =
    record { index = ticket.index; version = ticket.version; prev = ticket.prev; horizon = ticket.horizon }

-- before any verdicts came
abbrev pub without_verdicts : Position → List Part → Resolving
without_verdicts position parts = record {
  position = position;
  parts = parts;
  verdicts = replicate (length parts) None;
  conflicts = replicate (length parts) [];
}

-- owners that learnt the ticket's moves, and forgot what lies below its horizon
pub record HaveLearnt (old : Ownership) (ticket : Ticket) (new : Ownership) : Type 0 where
  pub splits : new.splits ≡ old.splits
  pub floor : new.floor ≡ ticket.horizon
  pub moves : (moves : List DatedMove) → AgreesWith old moves → AgreesWith new (moves_with ticket.moves moves)

-- a batch at the position of a ticket, before any verdicts came, with a part for each resolver by whatever moves the
-- owners agree with
pub record IsWithoutVerdicts (owners : Ownership) (ticket : Ticket) (batch : List Transaction)
    (resolving : Resolving) : Type 0
  where
    pub rest : resolving ≡ without_verdicts (position_of ticket) resolving.parts
    pub parts : (moves : List DatedMove) → AgreesWith owners moves
        → AreParts owners.splits moves (position_of ticket) batch resolving.parts

-- once it learnt a ticket, it waits for verdicts
pub record HasLearntTicket (old : CommitProxy) (ticket : Ticket) (new : CommitProxy) : Type 0 where
  pub resolving : Resolving
  pub rest : new ≡ record old { owners = new.owners; last = ticket.version; stage = stage.Resolving resolving }
  pub learnt : HaveLearnt old.owners ticket new.owners
  pub without_verdicts : IsWithoutVerdicts new.owners ticket old.batch resolving

-- It holds the batch as one with an entry, whose ticket it didn't learn, and refuses whatever comes. The ticket's
-- version is its last one, and the owners may have learnt some of the moves, and forgotten what lies below its horizon;
-- all else is as it was.
pub record HasFailed (old : CommitProxy) (ticket : Ticket) (new : CommitProxy) : Type 0 where
  pub rest : new ≡ record old {
    owners = new.owners;
    last = ticket.version;
    stage = stage.Entered;
    is_failed = true;
  }
  pub splits : new.owners.splits ≡ old.owners.splits
  pub floor : new.owners.floor ≤ ticket.horizon

-- the parts of the batch that waits for verdicts
abbrev pub parts_in : Stage → List Part
parts_in (stage.Resolving batch) = batch.parts
parts_in other = []

-- why there are no parts
abbrev pub parts_fault : CommitProxy → Option Refusal
parts_fault p = fault_of p (at_resolving p.stage)
  where
    at_resolving : Stage → Option Refusal
    at_resolving (stage.Resolving batch) = None
    at_resolving other = Some WrongState

-- why verdicts aren't taken: the batch doesn't wait for them
abbrev pub verdict_fault : CommitProxy → Verdicts → Option Refusal
verdict_fault p verdicts = fault_of p (at_resolving p.stage)
  where
    at_resolving : Stage → Option Refusal
    at_resolving (stage.Resolving batch) = if resolving.is_awaited batch verdicts then None else Some Stale
    at_resolving other = Some Stale

-- once they were taken
abbrev pub with_verdict : CommitProxy → Verdicts → CommitProxy
with_verdict p verdicts = record p { stage = next p.stage }
  where
    next : Stage → Stage
    next (stage.Resolving batch) = stage.Resolving (with_verdicts batch verdicts)
    next other = other

-- waits for the one with the number, if any
abbrev pub waiting_for : Option ℕ → Option Refusal
waiting_for None = None
waiting_for (Some number) = Some (NotYet number)

-- why the batch isn't decided: it waits for no verdicts, or a resolver that is asked hasn't said its own
abbrev pub decide_fault : CommitProxy → Option Refusal
decide_fault p = fault_of p (at_resolving p.stage)
  where
    at_resolving : Stage → Option Refusal
    at_resolving (stage.Resolving batch) = waiting_for (first_missing 0 batch.parts batch.verdicts)
    at_resolving other = Some WrongState

-- what becomes of the batch, by the verdicts that came
abbrev pub outcomes_in : CommitProxy → List Outcome
outcomes_in p = at_resolving p.stage
  where
    at_resolving : Stage → List Outcome
    at_resolving (stage.Resolving batch) = outcomes_by batch.position.version batch.verdicts (length p.batch)
    at_resolving other = []

-- and the conflict set of each place, by what the resolvers found; no place at all where none found anything
abbrev pub conflicts_in : CommitProxy → List (List Range)
conflicts_in p = at_resolving p.stage
  where
    at_resolving : Stage → List (List Range)
    at_resolving (stage.Resolving batch) = conflicts_by batch.conflicts (length p.batch)
    at_resolving other = []

-- what is decided
abbrev pub decision_in : CommitProxy → Decision
decision_in p = record { outcomes = outcomes_in p; conflicts = conflicts_in p }

-- once it is decided, it waits for every log
abbrev pub deciding : CommitProxy → CommitProxy
deciding p = record p { stage = decided p.stage }
  where
    decided : Stage → Stage
    decided (stage.Resolving batch) = stage.Logging (record {
      position = batch.position;
      answers = answers_by p.batch (outcomes_in p);
      acknowledged = replicate p.logs false;
    })
    decided other = other

-- why there are no messages for the logs
abbrev pub messages_fault : CommitProxy → Option Refusal
messages_fault p = fault_of p (at_logging p.stage)
  where
    at_logging : Stage → Option Refusal
    at_logging (stage.Logging decided) = None
    at_logging other = Some WrongState

-- the message of the batch for each log
abbrev pub messages_of : CommitProxy → List LogMsg
messages_of p = at_logging p.stage
  where
    at_logging : Stage → List LogMsg
    at_logging (stage.Logging decided) = messages_by p.shard_splits p.logs p.batch decided
    at_logging other = []

-- why an acknowledgement isn't taken: the batch doesn't wait for it
abbrev pub logged_fault : CommitProxy → LogAck → Option Refusal
logged_fault p ack = fault_of p (at_logging p.stage)
  where
    at_logging : Stage → Option Refusal
    at_logging (stage.Logging decided) = if logging.is_awaited decided ack then None else Some Stale
    at_logging other = Some Stale

-- once it was taken
abbrev pub with_logged : CommitProxy → LogAck → CommitProxy
with_logged p ack = record p { stage = next p.stage }
  where
    next : Stage → Stage
    next (stage.Logging decided) = stage.Logging (with_acknowledgement decided ack)
    next other = other

-- why not all logs have acknowledged the batch
abbrev pub all_logged_fault : CommitProxy → Option Refusal
all_logged_fault p = fault_of p (at_logging p.stage)
  where
    at_logging : Stage → Option Refusal
    at_logging (stage.Logging decided) = waiting_for (first_unset 0 decided.acknowledged)
    at_logging other = Some WrongState

-- every log has acknowledged the batch
abbrev pub is_logged : Stage → Bool
is_logged (stage.Logging decided) = is_none (first_unset 0 decided.acknowledged)
is_logged other = false

-- why the batch isn't done
abbrev pub done_fault : CommitProxy → Option Refusal
done_fault p = fault_of p (if is_logged p.stage then None else Some WrongState)

-- the id of each transaction of a decided batch, with what becomes of it
abbrev pub answers_in : Stage → List (TxnId × Outcome)
answers_in (stage.Logging decided) = decided.answers
answers_in other = []

-- once the batch is done
abbrev pub finishing : CommitProxy → CommitProxy
finishing p = record p { batch = []; stage = stage.Idle }
