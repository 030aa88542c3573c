-- What each call leaves of a commit proxy that has the entries of a book through that of its last ticket.
use Rattle.std.specs.Prelude.{◌≡◌, ℕ, suc, false, List, [], ◌∷◌, ◌++◌, length, Some, None, slice_get, if◌then◌else◌}
use Rattle.fdb_keys.specs.Points.{Point}
use Rattle.fdb_keys.specs.declared.refusal.Refusal.TheVariants.{WrongState}
use Rattle.fdb_txn.specs.declared.entry.Entry.{Entry}
use Rattle.fdb_txn.specs.declared.txn_id.TxnId.{TxnId}
use Rattle.fdb_txn.specs.book.Book.{Place, seen_of, seen_before}
use Rattle.fdb_txn.specs.book.History.{AreEntries, HorizonsRise}
use Rattle.fdb_txn.specs.book.Places.{place_at}
use Rattle.fdb_txn.specs.book.Transactions.{Transaction}
use Rattle.fdb_resolver.specs.declared.verdict.Verdicts.{Verdicts}
use Rattle.fdb_sequencer.specs.declared.ticket.Ticket.{Ticket}
use Rattle.fdb_log.specs.declared.message.LogAck.{LogAck}
use Rattle.fdb_storage.specs.LogMessages.{log_messages}
use Rattle.fdb_proxy.specs.declared.config.Config.{Config}
use Rattle.fdb_proxy.specs.declared.outcome.Outcome.{Outcome}
use Rattle.fdb_proxy.specs.declared.stage.Stage.TheVariants as stage
use Rattle.fdb_proxy.specs.CommitProxies.{CommitProxy, IsNewProxy, is_idle, is_sealed, submitting, sealing, unsealing}
use Rattle.fdb_proxy.specs.CommitProxies.{IsTicketFor, learn_fault, HasLearntTicket, position_of, without_verdicts}
use Rattle.fdb_proxy.specs.CommitProxies.{parts_in, verdict_fault, with_verdict, decide_fault, outcomes_in}
use Rattle.fdb_proxy.specs.CommitProxies.{conflicts_in, deciding, messages_fault, messages_of, with_logged, done_fault}
use Rattle.fdb_proxy.specs.CommitProxies.{answers_in, finishing}
use Rattle.fdb_proxy.specs.Logging.{answers_by}
use Rattle.fdb_proxy.specs.Parting.{AreParts}
use Rattle.fdb_proxy.specs.Verdicts.{moves_through, outcomes_on}
use Rattle.fdb_roles.specs.Outcomes.{IsByRule}
use Rattle.fdb_roles.specs.ProxyStages.{AreConflictsOn, IsCommitProxyAt, IsSaid, position_in}
use Rattle.fdb_roles.specs.Entries.{dated_moves, entry_of}

-- entry i is the last one
pub record IsLastEntry (front : List Entry) (i : ℕ) (entry : Entry) : Type 0 where
  pub count : length front ≡ suc i
  pub there : slice_get front i ≡ Some entry

-- a new commit proxy has no entry
abbrev pub NewProxiesHaveNoEntry : Type 0
NewProxiesHaveNoEntry =
    (config : Config) (index : ℕ) (proxy : CommitProxy) → IsNewProxy index config proxy
    → IsCommitProxyAt config [] proxy

-- Requests may be taken, become a batch, wait again, and be dropped: the proxy's entries stay.
abbrev pub RequestsComeAndGo : Type 0
RequestsComeAndGo =
    (config : Config) (front : List Entry) (proxy : CommitProxy) → IsCommitProxyAt config front proxy
    → ((t : Transaction) → IsCommitProxyAt config front (submitting proxy t))
    × IsCommitProxyAt config front (sealing proxy) × IsCommitProxyAt config front (unsealing proxy)
    × IsCommitProxyAt config front (record proxy { waiting = [] })

-- A ticket for the batch, of an entry that comes at once or after some others, and with the moves of these and of its
-- own, may be learnt, and isn't refused where the batch is sealed. Once it is learnt the proxy has these entries too,
-- nothing is heard of the batch yet, and its parts are those of the entry, as resolvers take them.
abbrev pub ProxiesLearnTheirTickets : Type 0
ProxiesLearnTheirTickets =
    (config : Config) (front between : List Entry) (old : CommitProxy) (ticket : Ticket) →
    let before = front ++ between in
    let entry = entry_of ticket old.batch in
    IsCommitProxyAt config front old
    → AreEntries (suc (length config.resolver_splits)) 0 (before ++ entry ∷ []) → HorizonsRise 0 (before ++ entry ∷ [])
    → ticket.index ≡ length before → ticket.moves ≡ dated_moves (between ++ entry ∷ [])
    → IsTicketFor old ticket × (learn_fault old ticket ≡ (if is_sealed old.stage then None else Some WrongState))
    × ((new : CommitProxy) → HasLearntTicket old ticket new
    → IsCommitProxyAt config (before ++ entry ∷ []) new
    × (new.stage ≡ stage.Resolving (without_verdicts (position_of ticket) (parts_in new.stage)))
    × AreParts config.resolver_splits (moves_through (seen_of before) entry)
    (position_in (length before) entry) entry.batch (parts_in new.stage))

-- a batch in flight that has an entry is that of the last one
abbrev pub BatchesAreOfTheLastEntry : Type 0
BatchesAreOfTheLastEntry =
    (config : Config) (front : List Entry) (proxy : CommitProxy) → IsCommitProxyAt config front proxy
    → is_idle proxy.stage ≡ false → is_sealed proxy.stage ≡ false
    → (i : ℕ) × (entry : Entry) × IsLastEntry front i entry × (proxy.batch ≡ entry.batch)

-- a resolver's verdicts by the rule, which are taken
abbrev pub ProxiesHearVerdicts : Type 0
ProxiesHearVerdicts =
    (config : Config) (front : List Entry) (entry : Entry) (proxy : CommitProxy) (verdicts : Verdicts)
    → IsCommitProxyAt config front proxy → IsSaid config.resolver_splits front verdicts entry
    → verdict_fault proxy verdicts ≡ None
    → IsCommitProxyAt config front (with_verdict proxy verdicts)

-- What is decided of the batch is what becomes of the last entry's places by the rule, with their conflict sets. It has
-- messages then.
abbrev pub ProxiesDecideByTheRule : Type 0
ProxiesDecideByTheRule =
    (config : Config) (front : List Entry) (i : ℕ) (entry : Entry) (proxy : CommitProxy)
    → IsCommitProxyAt config front proxy → AreEntries (suc (length config.resolver_splits)) 0 front
    → IsLastEntry front i entry → decide_fault proxy ≡ None
    → (outcomes_in proxy ≡ outcomes_on config.resolver_splits (seen_before front i) entry)
    × (messages_fault (deciding proxy) ≡ None) × IsCommitProxyAt config front (deciding proxy)
    × AreConflictsOn config.resolver_splits (seen_before front i) entry (conflicts_in proxy)

-- the messages of a decided batch are those of the last entry, one for each log
abbrev pub MessagesAreOfTheEntry : Type 0
MessagesAreOfTheEntry =
    (config : Config) (front : List Entry) (i : ℕ) (entry : Entry) (proxy : CommitProxy)
    → IsCommitProxyAt config front proxy → IsLastEntry front i entry → messages_fault proxy ≡ None
    → messages_of proxy
    ≡ log_messages config.resolver_splits config.shard_splits config.logs i (seen_before front i) entry

-- logs may acknowledge the batch
abbrev pub ProxiesHearLogs : Type 0
ProxiesHearLogs =
    (config : Config) (front : List Entry) (proxy : CommitProxy) (ack : LogAck) → IsCommitProxyAt config front proxy
    → IsCommitProxyAt config front (with_logged proxy ack)

-- What a batch that is done is answered is what becomes of the last entry's places by the rule.
abbrev pub ProxiesAnswerByTheRule : Type 0
ProxiesAnswerByTheRule =
    (config : Config) (front : List Entry) (i : ℕ) (entry : Entry) (proxy : CommitProxy)
    → IsCommitProxyAt config front proxy → IsLastEntry front i entry → done_fault proxy ≡ None
    → (answers_in proxy.stage
    ≡ answers_by entry.batch (outcomes_on config.resolver_splits (seen_before front i) entry))
    × IsCommitProxyAt config front (finishing proxy)

-- What becomes of an entry's places, told by id: of each one what the rule says, and of no other.
pub record AreAnswersByRule (splits : List Point) (book : List Entry) (n : ℕ) (entry : Entry)
    (answers : List (TxnId × Outcome)) : Type 0 where
  pub each_once : length answers ≡ length entry.batch
  pub by_rule : (p : ℕ) (there : Place × List Place) → place_at book n p ≡ Some there
      → (became : Outcome) × (slice_get answers p ≡ Some (there.0.transaction.id, became))
      × IsByRule splits there p became

-- so is answered who waits for the outcomes by the rule
abbrev pub AnswersAreByTheRule : Type 0
AnswersAreByTheRule =
    (splits : List Point) (book : List Entry) (n : ℕ) (entry : Entry) → slice_get book n ≡ Some entry
    → AreAnswersByRule splits book n entry (answers_by entry.batch (outcomes_on splits (seen_before book n) entry))
