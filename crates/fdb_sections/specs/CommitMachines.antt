-- Commit proxies that run: what each call of one takes, hands out and leaves.
use Rattle.std.specs.Prelude.{◌≡◌, ◌⊎◌, ◌==◌, ◌-◌, ◌&&◌, ◌||◌, ◌∷◌, ⊤, ℕ, suc, Bool, true, false, not, List, []}
use Rattle.std.specs.Prelude.{length, map}
use Rattle.std.specs.Prelude.{drop, Option, Some, None, if◌then◌else◌}
use Rattle.fdb_keys.specs.declared.refusal.Refusal.{Refusal}
use Rattle.fdb_keys.specs.declared.refusal.Refusal.TheVariants.{Stale, WrongState, Failed, NoMemory}
use Rattle.fdb_keys.specs.declared.refusal.Refusal.TheVariants.{CommitUnknownResult}
use Rattle.fdb_txn.specs.declared.entry.Entry.{Entry}
use Rattle.fdb_txn.specs.declared.txn_id.TxnId.{TxnId}
use Rattle.fdb_txn.specs.book.Transactions.{Transaction}
use Rattle.fdb_keys.specs.Ranges.{Range}
use Rattle.fdb_resolver.specs.declared.part.Part.{Part}
use Rattle.fdb_sequencer.specs.declared.ticket.Ticket.{Ticket}
use Rattle.fdb_log.specs.declared.message.LogMsg.{LogMsg}
use Rattle.fdb_proxy.specs.declared.outcome.Outcome.{Outcome}
use Rattle.fdb_proxy.specs.CommitProxies as proxies
use Rattle.fdb_proxy.specs.CommitProxies.{CommitProxy, HasLearntTicket, parts_in, with_logged, unsealing}
use Rattle.fdb_proxy.specs.CommitProxies.{deciding, messages_of, done_fault}
use Rattle.fdb_sections.specs.declared.machines.commit_proxy.Next.{Next}
use Rattle.fdb_sections.specs.declared.machines.commit_proxy.Next.TheVariants as next
use Rattle.fdb_sections.specs.declared.machines.commit_proxy.Phase.{Phase}
use Rattle.fdb_sections.specs.declared.machines.commit_proxy.Phase.TheVariants as phase
use Rattle.fdb_sections.specs.declared.messages.reply.CommitReply.{CommitReply}
use Rattle.fdb_sections.specs.declared.messages.reply.CommitReply.TheVariants as reply
use Rattle.fdb_sections.specs.Messages.{PartAtFront, LogMsgAtFront, AckAtFront}

-- What it has seen of the book, and the proxy; how far the batch in flight is, and how many verdicts or
-- acknowledgements it waits for; who waits, in order, and how many of the first of them are of a batch that has an
-- entry or may have one; what is ready for resolvers, logs and clients; and, where all who wait are refused since the
-- book is full, a front that shows it.
pub record CommitMachine (B W : Type 0) : Type 0 where
  pub front : List Entry
  pub proxy : CommitProxy
  pub resolvers : ℕ
  pub logs : ℕ
  pub phase : Phase
  pub left : ℕ
  pub waiting : List W
  pub entered : ℕ
  pub parts : List PartAtFront
  pub messages : List LogMsgAtFront
  pub replies : List (CommitReply B)
  pub full : Option (List Entry)

abbrev pub is_idle : Phase → Bool
is_idle phase.Idle = true
is_idle other = false

abbrev pub is_refusing : Phase → Bool
is_refusing (phase.Refusing why) = true
is_refusing other = false

abbrev pub is_failed : Phase → Bool
is_failed phase.Failed = true
is_failed other = false

-- no batch is in flight, and everybody has the answers of the one before
abbrev pub is_at_rest : {B W : Type 0} → CommitMachine B W → Bool
is_at_rest it = is_idle it.phase && (length it.replies == 0)

-- what it waits for, or what is to be done with what it hands out; answers go first
abbrev pub next_of : {B W : Type 0} → CommitMachine B W → Next
next_of it = if not (length it.replies == 0) then next.Answer else in_phase it.phase
  where
    in_phase : Phase → Next
    in_phase phase.Idle = if length it.proxy.waiting == 0 then next.Request else next.Seal
    in_phase phase.Sealed = next.Entry
    in_phase phase.Resolving = if length it.parts == 0 then next.Verdicts (it.resolvers - it.left) else next.Part
    in_phase phase.Logging = if length it.messages == 0 then next.Acknowledgement (it.logs - it.left) else next.Message
    in_phase phase.Logged = next.Report
    in_phase phase.Reporting = next.Reported
    in_phase (phase.Refusing why) = next.Answer
    in_phase phase.Failed = if length it.waiting == 0 then next.End else next.Answer

-- Why a request isn't taken. While all who wait are refused, one more waits for that.
abbrev pub submit_fault : Phase → CommitProxy → Transaction → Option Refusal
submit_fault (phase.Refusing why) proxy t = None
submit_fault other proxy t = proxies.submit_fault proxy t

abbrev pub submitting : Phase → CommitProxy → Transaction → CommitProxy
submitting (phase.Refusing why) proxy t = proxy
submitting other proxy t = proxies.submitting proxy t

-- why no batch is sealed
abbrev pub seal_fault : {B W : Type 0} → CommitMachine B W → Option Refusal
seal_fault it = if is_at_rest it then proxies.seal_fault it.proxy else Some WrongState

-- what each resolver is sent, and each log
abbrev pub sent_parts : List Entry → List Part → List PartAtFront
sent_parts front parts = map (λ (part : Part). record { front = front; part = part }) parts

abbrev pub sent_messages : List Entry → List LogMsg → List LogMsgAtFront
sent_messages front messages = map (λ (message : LogMsg). record { front = front; message = message }) messages

-- The batch has the entry of the ticket: each resolver's part is ready, and it waits for their verdicts.
pub record HasEntered {B W : Type 0} (old : CommitMachine B W) (ticket : Ticket) (front : List Entry)
    (new : CommitMachine B W) : Type 0 where
  pub learnt : HasLearntTicket old.proxy ticket new.proxy
  pub rest : new ≡ record old {
    front = front;
    proxy = new.proxy;
    parts = sent_parts front (parts_in new.proxy.stage);
    left = old.resolvers;
    phase = phase.Resolving;
  }

-- a batch without an entry waits again
abbrev pub unissuing : {B W : Type 0} → CommitMachine B W → CommitMachine B W
unissuing {B = B} {W = W} it = by_phase it.phase
  where
    by_phase : Phase → CommitMachine B W
    by_phase phase.Sealed = record it { proxy = unsealing it.proxy; entered = 0; phase = phase.Idle }
    by_phase other = record it { proxy = unsealing it.proxy }

-- where nobody is left to be refused, it goes on
abbrev pub rested : {B W : Type 0} → CommitMachine B W → CommitMachine B W
rested it =
    if is_refusing it.phase && (length it.waiting == 0) then record it { full = None; phase = phase.Idle } else it

-- all who wait are refused, for the reason
abbrev pub refusing : {B W : Type 0} → CommitMachine B W → Refusal → Option (List Entry) → CommitMachine B W
refusing it why full =
    rested (record it { proxy = record it.proxy { waiting = [] }; full = full; phase = phase.Refusing why })

-- the batch is decided: each log's message is ready, and it waits for their acknowledgements
abbrev pub decided : {B W : Type 0} → CommitMachine B W → CommitMachine B W
decided it = record it {
  proxy = deciding it.proxy;
  messages = sent_messages it.front (messages_of (deciding it.proxy));
  left = it.logs;
  phase = phase.Logging;
}

-- one more resolver's verdicts are there, with which the batch is decided if they are the last ones
abbrev pub judged : {B W : Type 0} → CommitMachine B W → CommitProxy → CommitMachine B W
judged it proxy =
    if it.left - 1 == 0 then decided (record it { proxy = proxy; left = it.left - 1 })
    else record it { proxy = proxy; left = it.left - 1 }

-- one more log has the batch
abbrev pub acknowledged : {B W : Type 0} → CommitMachine B W → AckAtFront → CommitMachine B W
acknowledged it sent = record it {
  proxy = with_logged it.proxy sent.ack;
  left = it.left - 1;
  phase = if it.left - 1 == 0 then phase.Logged else it.phase;
}

-- why a report isn't taken: it is of another front, or the batch isn't logged
abbrev pub report_fault : List Entry → CommitProxy → List Entry → Option Refusal
report_fault own proxy reported = if length reported == length own then done_fault proxy else Some Stale

-- What the client of a place is told: what became of it, with the points at which it conflicts, or, where memory ran
-- out for that, that it isn't known.
abbrev pub IsReplyTo : {B : Type 0} → List Entry → ℕ → Outcome → CommitReply B → Type 0
IsReplyTo front place outcome told =
    ((conflict : List Range) × (told ≡ reply.Outcome (record {
      front = front;
      place = place;
      outcome = outcome;
      conflict = conflict;
    })))
    ⊎ (told ≡ reply.Refused CommitUnknownResult)

-- each, from the place on
abbrev pub AreRepliesFrom : {B : Type 0} → List Entry → ℕ → List (TxnId × Outcome) → List (CommitReply B) → Type 0
AreRepliesFrom front place [] [] = ⊤
AreRepliesFrom front place (answer ∷ answers) (told ∷ replies) =
    IsReplyTo front place answer.1 told × AreRepliesFrom front (suc place) answers replies
AreRepliesFrom front place answers replies = ⊥

-- who is refused is told why, with the front that shows it where there is one, unless memory ran out for that
abbrev pub IsRefusal : {B : Type 0} → Refusal → Option (List Entry) → CommitReply B → Type 0
IsRefusal why None told = told ≡ reply.Refused why
IsRefusal why (Some front) told = (told ≡ reply.Full front) ⊎ (told ≡ reply.Refused NoMemory)

-- The one who waits first is told what is ready for it; else why all are refused; and of a proxy that failed, that
-- nothing is known where its batch has an entry or may have one.
abbrev pub IsAnswer : {B W : Type 0} → CommitMachine B W → CommitReply B → Type 0
IsAnswer {B = B} it told = by_replies it.replies
  where
    by_phase : Phase → Type 0
    by_phase (phase.Refusing why) = IsRefusal why it.full told
    by_phase phase.Failed = told ≡ reply.Refused (if it.entered == 0 then Failed else CommitUnknownResult)
    by_phase other = ⊥

    by_replies : List (CommitReply B) → Type 0
    by_replies [] = by_phase it.phase
    by_replies (first ∷ replies) = told ≡ first

-- whether an answer is ready for who waits first, if anybody waits
abbrev pub has_answer : {B W : Type 0} → CommitMachine B W → Bool
has_answer it = not (length it.replies == 0) || is_refusing it.phase || is_failed it.phase

-- what is left once the one who waits first is told
abbrev pub without_answer : {B W : Type 0} → CommitMachine B W → CommitMachine B W
without_answer {B = B} {W = W} it = by_replies it.replies
  where
    by_replies : List (CommitReply B) → CommitMachine B W
    by_replies [] = record it { entered = if is_failed it.phase then it.entered - 1 else it.entered }
    by_replies (first ∷ replies) = record it { replies = replies }

abbrev pub answered : {B W : Type 0} → CommitMachine B W → CommitMachine B W
answered it = rested (record (without_answer it) { waiting = drop 1 it.waiting })

-- it has failed, and drops what has no entry
abbrev pub failing : {B W : Type 0} → CommitMachine B W → CommitMachine B W
failing it = record it { proxy = record it.proxy { waiting = []; is_failed = true }; phase = phase.Failed }
