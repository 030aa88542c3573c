-- What ties a commit proxy of the world to the machine's and to the book.
use Rattle.std.specs.Prelude.{◌≡◌, ◌≤◌, ◌<◌, ℕ, suc, Bool, true, false, List, [], ◌∷◌, ◌++◌, take, map, length}
use Rattle.std.specs.Prelude.{replicate, Option, None, ◌⊎◌, if◌then◌else◌}
use Rattle.std.specs.List.{AllByRecursion}
use Rattle.std.specs.Option.{is_some}
use Rattle.fdb_txn.specs.declared.entry.Entry.{Entry}
use Rattle.fdb_txn.specs.declared.entry.Move.{Move}
use Rattle.fdb_txn.specs.declared.txn_id.TxnId.{TxnId}
use Rattle.fdb_txn.specs.book.Transactions.{Transaction}
use Rattle.fdb_txn.specs.book.Book.{seen_of, seen_before, last_version, last_horizon}
use Rattle.fdb_txn.specs.Limits.{place_limit}
use Rattle.fdb_resolver.specs.declared.part.Part.{Part}
use Rattle.fdb_sequencer.specs.declared.ticket.Ticket.{Ticket}
use Rattle.fdb_sequencer.specs.declared.dated.Dated.{Dated}
use Rattle.fdb_sequencer.specs.Moves.{dated}
use Rattle.fdb_sequencer.specs.Sequencer.{Sequencer, unlearnt_by}
use Rattle.fdb_proxy.specs.declared.config.Config.{Config}
use Rattle.fdb_proxy.specs.declared.decision.Decision.{Decision}
use Rattle.fdb_proxy.specs.declared.outcome.Outcome.{Outcome}
use Rattle.fdb_proxy.specs.declared.stage.Stage.{Stage as CoreStage}
use Rattle.fdb_proxy.specs.declared.stage.Stage.TheVariants as stages
use Rattle.fdb_proxy.specs.CommitProxies.{CommitProxy as Core, position_of, sealing, parts_in, HasLearntTicket}
use Rattle.fdb_proxy.specs.CommitProxies.{HasFailed}
use Rattle.fdb_proxy.specs.Deciding.{Said}
use Rattle.fdb_proxy.specs.Flags.{first_unset}
use Rattle.fdb_proxy.specs.Logging.{answers_by}
use Rattle.fdb_proxy.specs.Parting.{AreParts}
use Rattle.fdb_proxy.specs.Verdicts.{moves_through, outcomes_on}
use Rattle.fdb_client.specs.declared.program.Transcript.{Transcript}
use Rattle.fdb_client.specs.Programs.{commit_request_of}
use Rattle.fdb_roles.specs.ProxyStages.{AreConflictsOn, IsCommitProxyAt}
use Rattle.fdb_roles.specs.Entries.{dated_moves, entry_of}
use Rattle.fdb_core.specs.declared.roles.commit_proxy.CommitProxyRole.{CommitProxyRole}
use Rattle.fdb_machine.specs.machine.CommitProxySteps.{with_batch}
use Rattle.fdb_machine.specs.machine.Roles.{CommitProxy, Stage, Idle, Resolving, Logging, Reported}
use Rattle.fdb_machine.specs.machine.Worlds.{idle_proxy}

-- How far the machine's commit proxy is, by the state's stage and whether the batch's version is reported. Between two
-- steps no batch of a proxy that works is without an entry, and none has a ticket that it didn't learn. One that failed
-- while it learnt a ticket is as it was before: the machine's book has no entry of that ticket.
abbrev pub stage_of : Bool → CoreStage → Stage
stage_of is_reported stages.Idle = Idle
stage_of is_reported stages.Sealed = Idle
stage_of is_reported stages.Entered = Idle
stage_of is_reported (stages.Resolving batch) = Resolving
stage_of is_reported (stages.Logging decided) = if is_reported then Reported else Logging

-- for each resolver whether its verdicts came, while the batch waits for them
abbrev pub received_at : CoreStage → List Bool
received_at (stages.Resolving batch) = map (λ (of : Option Said). is_some of) batch.verdicts
received_at other = []

-- for each log whether its acknowledgement came, once the batch is decided
abbrev pub acknowledged_at : CoreStage → List Bool
acknowledged_at (stages.Logging decided) = decided.acknowledged
acknowledged_at other = []

-- the machine's commit proxy
abbrev pub seen_as : CommitProxyRole → CommitProxy
seen_as role =
    record {
      waiting = role.waiting;
      in_flight = role.in_flight;
      stage = stage_of role.is_reported role.state.proxy.stage;
      entry = role.entry;
      verdicts_received = received_at role.state.proxy.stage;
      acknowledgements_received = acknowledged_at role.state.proxy.stage;
    }

-- How the world has the batch in flight, if there is one: as that of entry i, and once its version is reported it waits
-- for no log.
abbrev pub StageRefines : Bool → ℕ → CoreStage → Type 0
StageRefines is_reported i stages.Idle = is_reported ≡ false
StageRefines is_reported i stages.Sealed = ⊥
StageRefines is_reported i stages.Entered = ⊥
StageRefines is_reported i (stages.Resolving resolving) = (resolving.position.index ≡ i) × (is_reported ≡ false)
StageRefines is_reported i (stages.Logging decided) =
    (decided.position.index ≡ i) × (is_reported ≡ true → first_unset 0 decided.acknowledged ≡ None)

-- What the sequencer has for a commit proxy: the greatest version that was reported, and the moves that the proxy
-- hasn't had, by version.
pub record Known : Type 0 where
  pub committed : ℕ
  pub unlearnt : List Dated

abbrev pub known_to : Sequencer → ℕ → Known
known_to sequencer proxy =
    record { committed = sequencer.committed; unlearnt = unlearnt_by sequencer proxy }

-- a transaction reads at most at the committed version
abbrev pub ReadsWithin : ℕ → Transcript → Type 0
ReadsWithin committed transcript = transcript.read_version ≤ committed

-- The state has the first entries of the book, through that of its last ticket, and the sequencer has for it the moves
-- of the others. What waits there and what is in flight is what is judged of the transcripts.
pub record CommitProxyRefines (config : Config) (book : List Entry) (known : Known) (role : CommitProxyRole) : Type 0
  where
    pub front : List Entry
    pub behind : List Entry
    pub whole : front ++ behind ≡ book
    pub state : IsCommitProxyAt config front role.state.proxy
    pub unlearnt : known.unlearnt ≡ dated_moves behind
    pub waiting : role.state.proxy.waiting ≡ map commit_request_of role.waiting
    pub in_flight : role.state.proxy.batch ≡ map commit_request_of role.in_flight
    pub reads : AllByRecursion (ReadsWithin known.committed) role.waiting
    pub stage : StageRefines role.is_reported role.entry role.state.proxy.stage

-- a commit proxy before its first batch
pub record IsNewCommitProxy (config : Config) (role : CommitProxyRole) : Type 0 where
  pub machine : seen_as role ≡ idle_proxy
  pub refines : CommitProxyRefines config [] (record { committed = 0; unlearnt = [] }) role

-- The ticket is that of the next entry, with the moves that the proxy hasn't had and those that take effect there, and
-- with a horizon that hasn't fallen.
pub record IsNextTicket (config : Config) (book : List Entry) (known : Known) (ticket : Ticket) : Type 0 where
  pub index : ticket.index ≡ length book
  pub prev : ticket.prev ≡ last_version book
  pub later : last_version book < ticket.version
  pub moves : ticket.moves ≡ known.unlearnt ++ dated ticket.version ticket.pending
  pub targets : AllByRecursion (λ (move : Move). move.to < suc (length config.resolver_splits)) ticket.pending
  pub horizon : last_horizon book ≤ ticket.horizon
  pub below : ticket.horizon < ticket.version

-- The first of those who wait became the batch of the ticket's entry, and the parts of it are given.
pub record Seals (config : Config) (book : List Entry) (known : Known) (ticket : Ticket) (old : CommitProxyRole)
    (batch : List Transaction) (parts : List Part) (new : CommitProxyRole) : Type 0 where
  pub batch_is : batch ≡ map commit_request_of (take place_limit old.waiting)
  pub parts_are : AreParts config.resolver_splits (moves_through (seen_of book) (entry_of ticket batch))
      (position_of ticket) batch parts
  pub machine : seen_as new ≡ with_batch (seen_as old) ticket.index (suc (length config.resolver_splits))
  pub refines : CommitProxyRefines config (book ++ entry_of ticket batch ∷ []) (record known { unlearnt = [] }) new

-- The state's first requests became the batch of the ticket's entry, which is given, with the part of each resolver.
pub record HasBatch (old : Core) (ticket : Ticket) (batch : List Transaction) (parts : List Part) (new : Core) : Type 0
  where
    pub batch_is : batch ≡ take place_limit old.waiting
    pub learnt : HasLearntTicket (sealing old) ticket new
    pub parts_are : parts ≡ parts_in new.stage

-- The state is as before, or it failed while it learnt the ticket.
abbrev pub HasNoBatch : Core → Ticket → Core → Type 0
HasNoBatch old ticket new = (new ≡ old) ⊎ HasFailed (sealing old) ticket new

-- What a seal leaves in which memory ran out.
pub record IsLeftUnsealed (ticket : Ticket) (old new : CommitProxyRole) : Type 0 where
  pub state : HasNoBatch old.state.proxy ticket new.state.proxy
  pub rest : new ≡ record old { state = new.state }

-- The batch of the entry is decided by the rule, with the conflict sets of its places.
pub record Decides (config : Config) (book : List Entry) (known : Known) (entry : Entry) (old : CommitProxyRole)
    (decision : Decision) (new : CommitProxyRole) : Type 0 where
  pub outcomes_are : decision.outcomes ≡ outcomes_on config.resolver_splits (seen_before book old.entry) entry
  pub conflicts_are : AreConflictsOn config.resolver_splits (seen_before book old.entry) entry decision.conflicts
  pub machine : seen_as new ≡ record (seen_as old) {
    stage = Logging;
    verdicts_received = [];
    acknowledgements_received = replicate config.logs false;
  }
  pub refines : CommitProxyRefines config book known new

-- The batch is done, and its transcripts are given, with each one's id and what became of it.
pub record IsDone (config : Config) (book : List Entry) (known : Known) (entry : Entry) (old : CommitProxyRole)
    (transcripts : List Transcript) (answers : List (TxnId × Outcome)) (new : CommitProxyRole) : Type 0 where
  pub transcripts_are : transcripts ≡ old.in_flight
  pub answers_are : answers ≡ answers_by (map commit_request_of old.in_flight)
      (outcomes_on config.resolver_splits (seen_before book old.entry) entry)
  pub batch : entry.batch ≡ map commit_request_of old.in_flight
  pub machine : seen_as new ≡ record (seen_as old) { in_flight = []; stage = Idle; acknowledgements_received = [] }
  pub refines : CommitProxyRefines config book known new
