-- Which ticket a commit proxy learns beside its front: that of the last entry of a longer front.
use Rattle.std.specs.Prelude.{◌≡◌, ◌==◌, ◌≤◌, ◌&&◌, ℕ, Bool, true, false, List, drop, length, Option, Some, None}
use Rattle.std.specs.Prelude.{Result, Ok, Err}
use Rattle.std.specs.Cmp.Lexicographic.{pointwise}
use Rattle.fdb_keys.specs.declared.refusal.Refusal.{Refusal}
use Rattle.fdb_keys.specs.declared.refusal.Refusal.TheVariants.{NoMemory, Unknown, Failed, WrongState}
use Rattle.fdb_txn.specs.Equality.{sealed_eq}
use Rattle.fdb_txn.specs.declared.entry.Entry.{Entry}
use Rattle.fdb_txn.specs.book.Transactions.{Transaction}
use Rattle.fdb_sequencer.specs.declared.ticket.Ticket.{Ticket}
use Rattle.fdb_sequencer.specs.Equality.{dated_eq}
use Rattle.fdb_sequencer.specs.declared.dated.Dated.{Dated}
use Rattle.fdb_proxy.specs.CommitProxies.{CommitProxy, is_sealed, learn_fault, HasLearntTicket, HasFailed}
use Rattle.fdb_roles.specs.ProxyLaws.{IsLastEntry}
use Rattle.fdb_roles.specs.Entries.{dated_moves}
use Rattle.fdb_sections.specs.CommitProxiesAtFronts.{CommitProxyAtFront}

-- the ticket is that of the entry with the number, which has the batch
pub record IsOfEntry (number : ℕ) (entry : Entry) (batch : List Transaction) (ticket : Ticket) : Type 0 where
  pub index : ticket.index ≡ number
  pub version : ticket.version ≡ entry.version
  pub prev : ticket.prev ≡ entry.prev
  pub places : entry.batch ≡ batch
  pub horizon : ticket.horizon ≡ entry.horizon

-- whether it is
abbrev pub is_of_entry : ℕ → Entry → List Transaction → Ticket → Bool
is_of_entry number entry batch ticket =
    (ticket.index == number) && (ticket.version == entry.version) && (ticket.prev == entry.prev)
    && (ticket.horizon == entry.horizon)
    && pointwise sealed_eq entry.batch batch

-- The ticket is that of the front's last entry, which lies behind the own front and has the batch, and it tells the
-- moves of all entries behind the own front.
pub record IsTicketOf (own front : List Entry) (batch : List Transaction) (ticket : Ticket) : Type 0 where
  pub entry : Entry
  pub last : IsLastEntry front ticket.index entry
  pub behind : length own ≤ ticket.index
  pub its : IsOfEntry ticket.index entry batch ticket
  pub moves : ticket.moves ≡ dated_moves (drop (length own) front)

-- something is left of dated moves, and that is these
abbrev pub are_left : Option (List Dated) → List Dated → Bool
are_left None more = false
are_left (Some left) more = pointwise dated_eq left more

-- Whether a ticket is learnt that came with a front: a proxy that works, and has sealed the batch, learns its ticket
-- unless memory runs out; it refuses every other ticket as unknown.
abbrev pub AnswersTicket : {T : Type 0} → Result T Refusal → (own front : List Entry) → CommitProxy → Ticket → Type 0
AnswersTicket (Ok given) own front proxy ticket =
    (learn_fault proxy ticket ≡ None) × IsTicketOf own front proxy.batch ticket
AnswersTicket (Err Failed) own front proxy ticket = proxy.is_failed ≡ true
AnswersTicket (Err Unknown) own front proxy ticket =
    (proxy.is_failed ≡ false) × (IsTicketOf own front proxy.batch ticket → ⊥)
AnswersTicket (Err WrongState) own front proxy ticket =
    (proxy.is_failed ≡ false) × IsTicketOf own front proxy.batch ticket × (is_sealed proxy.stage ≡ false)
AnswersTicket (Err NoMemory) own front proxy ticket =
    (learn_fault proxy ticket ≡ None) × IsTicketOf own front proxy.batch ticket
AnswersTicket (Err why) own front proxy ticket = ⊥

-- What is left where a ticket came with a front: the proxy has learnt it at that front; or memory ran out, and it has
-- failed; or nothing has changed.
abbrev pub LeftByTicket : {T : Type 0} → Result T Refusal → CommitProxyAtFront → Ticket → List Entry
    → CommitProxyAtFront → Type 0
LeftByTicket (Ok given) old ticket front new =
    (new.front ≡ front) × HasLearntTicket old.state.proxy ticket new.state.proxy
LeftByTicket (Err NoMemory) old ticket front new =
    (new.front ≡ old.front) × HasFailed old.state.proxy ticket new.state.proxy
LeftByTicket (Err why) old ticket front new =
    (new.front ≡ old.front) × (new.state.proxy ≡ old.state.proxy)
