-- Commit proxies of running threads: each is its state with the front of the book through its last ticket's entry.
use Rattle.std.specs.Prelude.{◌≡◌, ◌==◌, ⊤, ℕ, false, List, length, Option, Some, slice_get, if◌then◌else◌, All}
use Rattle.fdb_keys.specs.Ranges.{Range}
use Rattle.fdb_keys.specs.declared.refusal.Refusal.{Refusal}
use Rattle.fdb_keys.specs.declared.refusal.Refusal.TheVariants.{Stale}
use Rattle.fdb_txn.specs.declared.entry.Entry.{Entry}
use Rattle.fdb_txn.specs.declared.txn_id.TxnId.{TxnId}
use Rattle.fdb_txn.specs.book.Book.{seen_before}
use Rattle.fdb_resolver.specs.declared.part.Part.{Part}
use Rattle.fdb_log.specs.declared.message.LogMsg.{LogMsg}
use Rattle.fdb_proxy.specs.declared.config.Config.{Config}
use Rattle.fdb_proxy.specs.declared.outcome.Outcome.{Outcome}
use Rattle.fdb_proxy.specs.declared.stage.Stage.{Stage}
use Rattle.fdb_proxy.specs.declared.stage.Stage.TheVariants as stage
use Rattle.fdb_proxy.specs.CommitProxies as proxies
use Rattle.fdb_proxy.specs.CommitProxies.{CommitProxy, ProxyWithRoom}
use Rattle.fdb_proxy.specs.Conflicts.{set_at}
use Rattle.fdb_roles.specs.ProxyLaws.{IsLastEntry}
use Rattle.fdb_roles.specs.ProxyStages.{AreConflictsOn, IsCommitProxyAt}
use Rattle.fdb_sections.specs.Messages.{AckAtFront, IsLastPart, IsLastMessage, VerdictsAtFront}
use Rattle.fdb_sections.specs.Receipts.{IsOutcome}

-- the proxy with the entries that it has, and the conflict sets of a decided batch's places
pub record CommitProxyAtFront : Type 0 where
  pub front : List Entry
  pub state : ProxyWithRoom
  pub conflicts : List (List Range)

-- one that works is where its front leaves it
abbrev pub IsThere : Config → List Entry → CommitProxy → Type 0
IsThere config front proxy = proxy.is_failed ≡ false → IsCommitProxyAt config front proxy

-- of a batch that is decided the sets have just the points at which the places of the front's last entry conflict
abbrev pub AreSetsOf : Config → List Entry → Stage → List (List Range) → Type 0
AreSetsOf config front (stage.Logging decided) conflicts =
    (i : ℕ) (entry : Entry) → IsLastEntry front i entry
    → AreConflictsOn config.resolver_splits (seen_before front i) entry conflicts
AreSetsOf config front other conflicts = ⊤

-- each is its resolver's part of the front's last entry
abbrev pub AreLastParts : Config → List Entry → List Part → Type 0
AreLastParts config front parts =
    All (λ (part : Part). IsLastPart config.resolver_splits (record { front = front; part = part })) parts

-- why verdicts that come with a front aren't taken: it is another one, or the batch doesn't wait for them
abbrev pub verdict_fault : List Entry → CommitProxy → VerdictsAtFront → Option Refusal
verdict_fault own proxy sent =
    if length sent.front == length own then proxies.verdict_fault proxy sent.verdicts else Some Stale

-- why an acknowledgement that comes with a front isn't taken: it is of another one, or the batch doesn't wait for it
abbrev pub ack_fault : List Entry → CommitProxy → AckAtFront → Option Refusal
ack_fault own proxy sent =
    if length sent.front == length own then proxies.logged_fault proxy sent.ack else Some Stale

-- each is its log's message of the front's last entry
abbrev pub AreLastMessages : Config → List Entry → List LogMsg → Type 0
AreLastMessages config front messages =
    All (λ (message : LogMsg). IsLastMessage config (record { front = front; message = message })) messages

-- each, at its place, is what the rule says of that place of the front's last entry, with the points at which it
-- conflicts
abbrev pub AreOutcomes : Config → List Entry → List (List Range) → List (TxnId × Outcome) → Type 0
AreOutcomes config front conflicts answers =
    (p : ℕ) (answer : TxnId × Outcome) → slice_get answers p ≡ Some answer
    → IsOutcome config.resolver_splits (record {
      front = front;
      place = p;
      outcome = answer.1;
      conflict = set_at p conflicts;
    })
