-- Which tickets are accepted, that they make a book, which moves they tell their proxies, and what is committed.
use Rattle.std.specs.Prelude.{◌≡◌, ◌+◌, ◌-◌, ◌<◌, ◌≤◌, ◌++◌, ◌==◌, ⊤, ℕ, List, [], ◌∷◌, map, filter, flat_map, fold}
use Rattle.std.specs.Prelude.{length, slice_get, Some, None, true, if◌then◌else◌}
use Rattle.std.specs.List.{AllByRecursion, list_any}
use Rattle.fdb_keys.specs.declared.refusal.Refusal.TheVariants.{Stale}
use Rattle.fdb_txn.specs.declared.entry.Entry.{Entry}
use Rattle.fdb_txn.specs.declared.entry.Move.{Move}
use Rattle.fdb_txn.specs.book.Transactions.{Transaction, NamesWrites}
use Rattle.fdb_txn.specs.book.Once.{NoIdTwice}
use Rattle.fdb_txn.specs.book.History.{AreEntries, HorizonsRise, IsBook}
use Rattle.fdb_sequencer.specs.declared.ticket.Ticket.{Ticket}
use Rattle.fdb_txn.specs.Limits.{greatest_advance}
use Rattle.fdb_sequencer.specs.declared.dated.Dated.{Dated}
use Rattle.fdb_sequencer.specs.Moves.{dated}
use Rattle.fdb_sequencer.specs.Sequencer.{Sequencer, IsSequencer, fresh, unlearnt_by, planned, plan_fault, accept_fault}
use Rattle.fdb_sequencer.specs.Sequencer.{accepting, move_fault, moving, set_window_fault, windowing, reporting}

-- what changes which tickets may come: a move is made, a ticket is accepted, or the window is set
pub data Act : Type 0 where
  Moves : (move : Move) → Act
  Takes : (ticket : Ticket) → Act
  Windows : (window : ℕ) → Act

abbrev pub after : Sequencer → Act → Sequencer
after s (Moves move) = moving s move
after s (Takes ticket) = accepting s ticket
after s (Windows window) = windowing s window

-- each of the acts is taken in its turn
abbrev pub AreTaken : Sequencer → List Act → Type 0
AreTaken s [] = ⊤
AreTaken s (Moves move ∷ acts) = (move_fault s move ≡ None) × AreTaken (moving s move) acts
AreTaken s (Takes ticket ∷ acts) = (accept_fault s ticket ≡ None) × AreTaken (accepting s ticket) acts
AreTaken s (Windows window ∷ acts) = (set_window_fault window ≡ None) × AreTaken (windowing s window) acts

-- the tickets that are accepted, in order
abbrev pub tickets_in : List Act → List Ticket
tickets_in [] = []
tickets_in (Moves move ∷ acts) = tickets_in acts
tickets_in (Takes ticket ∷ acts) = ticket ∷ tickets_in acts
tickets_in (Windows window ∷ acts) = tickets_in acts

-- the moves that are made, in order
abbrev pub moves_made : List Act → List Move
moves_made [] = []
moves_made (Moves move ∷ acts) = move ∷ moves_made acts
moves_made (Takes ticket ∷ acts) = moves_made acts
moves_made (Windows window ∷ acts) = moves_made acts

-- what a proxy gets for an advance is accepted
abbrev pub PlannedAreAccepted : Type 0
PlannedAreAccepted =
    (s : Sequencer) (proxy advance : ℕ) → plan_fault s proxy advance ≡ None
    → accept_fault s (planned s proxy advance) ≡ None

-- what is accepted is what its proxy gets for some advance
abbrev pub AcceptedArePlanned : Type 0
AcceptedArePlanned =
    (s : Sequencer) (ticket : Ticket) → accept_fault s ticket ≡ None
    → (advance : ℕ)
    × ((advance ≤ greatest_advance) × (plan_fault s ticket.proxy advance ≡ None)
    × (ticket ≡ planned s ticket.proxy advance))

-- once a ticket was accepted, one of its index or a lower one is stale, whatever is done in between
abbrev pub AcceptedOnce : Type 0
AcceptedOnce =
    (s : Sequencer) (ticket other : Ticket) (between : List Act) → accept_fault s ticket ≡ None
    → other.index ≤ ticket.index
    → accept_fault (fold after (accepting s ticket) between) other ≡ Some Stale

-- the indices of tickets that are accepted one after another count up
abbrev pub IndicesCountUp : Type 0
IndicesCountUp =
    (s : Sequencer) (acts : List Act) → AreTaken s acts
    → (k : ℕ) (ticket : Ticket) → slice_get (tickets_in acts) k ≡ Some ticket → ticket.index ≡ s.accepted + k

-- a ticket with the batch that it is for
abbrev pub Issued : Type 0
Issued = Ticket × List Transaction

-- each transaction read below the ticket's version, and all that its mutations name is in its write set
abbrev pub ReadsBelow : Issued → Type 0
ReadsBelow issued = AllByRecursion (λ (t : Transaction). (t.read < issued.0.version) × NamesWrites t) issued.1

abbrev pub entry_of : Issued → Entry
entry_of issued = record {
  version = issued.0.version;
  prev = issued.0.prev;
  horizon = issued.0.horizon;
  moves = issued.0.pending;
  batch = issued.1;
}

-- the tickets that are accepted, with their batches
abbrev pub AreIssued : Sequencer → List Act → List Issued → Type 0
AreIssued s acts issued = AreTaken s acts × (map (λ (one : Issued). one.0) issued ≡ tickets_in acts)

-- batches at tickets that are accepted one after another are entries of a book, after the last version, and their
-- horizons never fall
abbrev pub TicketsMakeABook : Type 0
TicketsMakeABook =
    (s : Sequencer) (acts : List Act) (issued : List Issued) → IsSequencer s → AreIssued s acts issued
    → AllByRecursion ReadsBelow issued
    → AreEntries s.resolvers s.last (map entry_of issued) × HorizonsRise s.horizon (map entry_of issued)

-- the horizon never falls, whatever is done, also where the window grows
abbrev pub HorizonNeverFalls : Type 0
HorizonNeverFalls =
    (s : Sequencer) (acts : List Act) → AreTaken s acts → s.horizon ≤ (fold after s acts).horizon

-- from version 0 on they are a book, where no id is that of two of the transactions
abbrev pub FirstTicketsAreABook : Type 0
FirstTicketsAreABook =
    (s : Sequencer) (acts : List Act) (issued : List Issued) → IsSequencer s → s.last ≡ 0 → AreIssued s acts issued
    → AllByRecursion ReadsBelow issued → NoIdTwice (map entry_of issued)
    → IsBook s.resolvers (map entry_of issued)

-- the moves that take effect at the tickets' versions
abbrev pub taking_effect : List Ticket → List Dated
taking_effect tickets = flat_map (λ (ticket : Ticket). dated ticket.version ticket.pending) tickets

-- the moves that the tickets of a proxy tell it
abbrev pub told : ℕ → List Ticket → List Dated
told proxy tickets =
    flat_map (λ (ticket : Ticket). ticket.moves) (filter (λ (ticket : Ticket). ticket.proxy == proxy) tickets)

-- Each move takes effect once, with the first ticket that is accepted after it was made, in the order of the moves.
abbrev pub EachMoveTakesEffectOnce : Type 0
EachMoveTakesEffectOnce =
    (s : Sequencer) (acts : List Act) → AreTaken s acts
    → flat_map (λ (ticket : Ticket). ticket.pending) (tickets_in acts) ++ (fold after s acts).pending
    ≡ s.pending ++ moves_made acts

-- What a proxy's tickets tell it, and then what it hasn't had yet, is what it hadn't had before, and then all moves
-- that took effect since: so it gets each of them once, in order, and none before it takes effect.
abbrev pub EachProxyGetsEachMoveOnce : Type 0
EachProxyGetsEachMoveOnce =
    (s : Sequencer) (acts : List Act) (proxy : ℕ) → length s.unlearnt ≡ s.proxies → proxy < s.proxies → AreTaken s acts
    → told proxy (tickets_in acts) ++ unlearnt_by (fold after s acts) proxy
    ≡ unlearnt_by s proxy ++ taking_effect (tickets_in acts)

-- the version of the proxy's last ticket, or the one given where it had none
abbrev pub last_of : ℕ → ℕ → List Ticket → ℕ
last_of proxy last [] = last
last_of proxy last (ticket ∷ tickets) = last_of proxy (if ticket.proxy == proxy then ticket.version else last) tickets

-- the horizon of the proxy's last ticket, or the one given where it had none
abbrev pub last_horizon_of : ℕ → ℕ → List Ticket → ℕ
last_horizon_of proxy last [] = last
last_horizon_of proxy last (ticket ∷ tickets) =
    last_horizon_of proxy (if ticket.proxy == proxy then ticket.horizon else last) tickets

-- the versions rise, up to this one
abbrev pub AreRisingUpTo : ℕ → List Dated → Type 0
AreRisingUpTo version [] = ⊤
AreRisingUpTo version (of ∷ later) =
    (of.version ≤ version) × AllByRecursion (λ (other : Dated). of.version < other.version) later
    × AreRisingUpTo version later

-- the moves go to resolvers of which there are so many
abbrev pub GoToResolvers : ℕ → List Dated → Type 0
GoToResolvers resolvers moves =
    AllByRecursion (λ (of : Dated). AllByRecursion (λ (move : Move). move.to < resolvers) of.moves) moves

-- The ticket may be learnt by a proxy whose last ticket was of this version, with this horizon: its version and those
-- of its moves are above that version, its moves are of versions that rise up to its own, they go to resolvers that
-- exist, and its horizon is no less than that one, and below its version.
pub record MayBeLearnt (resolvers last floor : ℕ) (ticket : Ticket) : Type 0 where
  pub later : last < ticket.version
  pub above : AllByRecursion (λ (of : Dated). last < of.version) ticket.moves
  pub rising : AreRisingUpTo ticket.version ticket.moves
  pub targets : GoToResolvers resolvers ticket.moves
  pub horizon : floor ≤ ticket.horizon
  pub below : ticket.horizon < ticket.version

-- every ticket that a sequencer plans may be learnt by its proxy, whose last version and horizon are 0 at first
abbrev pub PlannedMayBeLearnt : Type 0
PlannedMayBeLearnt =
    (proxies resolvers last : ℕ) (acts : List Act) → AreTaken (fresh proxies resolvers last) acts
    → (proxy advance : ℕ) → plan_fault (fold after (fresh proxies resolvers last) acts) proxy advance ≡ None
    → MayBeLearnt resolvers (last_of proxy 0 (tickets_in acts)) (last_horizon_of proxy 0 (tickets_in acts))
    (planned (fold after (fresh proxies resolvers last) acts) proxy advance)

-- what else is done to a sequencer: an act, or a report
pub data Call : Type 0 where
  Acts : (act : Act) → Call
  Reports : (version : ℕ) → Call

abbrev pub after_call : Sequencer → Call → Sequencer
after_call s (Acts act) = after s act
after_call s (Reports version) = reporting s version

-- the versions that are reported, in order
abbrev pub reported_in : List Call → List ℕ
reported_in [] = []
reported_in (Acts act ∷ calls) = reported_in calls
reported_in (Reports version ∷ calls) = version ∷ reported_in calls

-- one of the numbers is this one, and none is greater
abbrev pub IsGreatest : ℕ → List ℕ → Type 0
IsGreatest greatest numbers =
    AllByRecursion (λ (one : ℕ). one ≤ greatest) numbers × (list_any (λ (one : ℕ). one == greatest) numbers ≡ true)

-- at first no version is committed: 0 is
abbrev pub NothingIsCommittedFirst : Type 0
NothingIsCommittedFirst = (proxies resolvers last : ℕ) → (fresh proxies resolvers last).committed ≡ 0

-- Whatever is done, the committed version is the greatest one of those that were reported and of the one before.
abbrev pub CommittedIsTheGreatestReported : Type 0
CommittedIsTheGreatestReported =
    (s : Sequencer) (calls : List Call)
    → IsGreatest (fold after_call s calls).committed (s.committed ∷ reported_in calls)

-- the begins of the windows of the tickets, each by the window of its time, which is this one at first
abbrev pub begins_in : ℕ → List Act → List ℕ
begins_in window [] = []
begins_in window (Moves move ∷ acts) = begins_in window acts
begins_in window (Takes ticket ∷ acts) = (ticket.version - window) ∷ begins_in window acts
begins_in window (Windows other ∷ acts) = begins_in other acts

-- Whatever is done, the horizon is the greatest one of the begins of all tickets' windows and of the one before.
abbrev pub HorizonIsTheGreatestBegin : Type 0
HorizonIsTheGreatestBegin =
    (s : Sequencer) (acts : List Act) → AreTaken s acts
    → IsGreatest (fold after s acts).horizon (s.horizon ∷ begins_in s.window acts)
