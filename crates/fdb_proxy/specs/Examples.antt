-- Refusals of a commit proxy and what verdicts decide, computed.
use Rattle.std.specs.Prelude.{◌≡◌, ℕ, Bool, true, false, List, [], ◌∷◌, map, Option, Some, None}
use Rattle.std.specs.List.{range_with_len}
use Rattle.fdb_keys.specs.declared.refusal.Refusal.TheVariants.{NotYet, Stale, Failed, Repeated, WrongState}
use Rattle.fdb_txn.specs.book.Transactions.{Transaction}
use Rattle.fdb_txn.specs.Limits.{place_limit}
use Rattle.fdb_resolver.specs.declared.part.Item.{Item}
use Rattle.fdb_resolver.specs.declared.part.Part.{Part}
use Rattle.fdb_resolver.specs.declared.verdict.Verdict.{Verdict}
use Rattle.fdb_resolver.specs.declared.verdict.Verdict.TheVariants as verdict
use Rattle.fdb_resolver.specs.declared.verdict.Verdicts.{Verdicts}
use Rattle.fdb_resolver.specs.Rule.{Found}
use Rattle.fdb_sequencer.specs.declared.ticket.Ticket.{Ticket}
use Rattle.fdb_log.specs.declared.message.LogAck.{LogAck}
use Rattle.fdb_owners.specs.Ownership.{one_owner}
use Rattle.fdb_proxy.specs.declared.outcome.Outcome.TheVariants as outcome
use Rattle.fdb_proxy.specs.declared.position.Position.{Position}
use Rattle.fdb_proxy.specs.declared.stage.Stage.{Stage}
use Rattle.fdb_proxy.specs.declared.stage.Stage.TheVariants as stage
use Rattle.fdb_proxy.specs.CommitProxies.{CommitProxy, submit_fault, seal_fault, is_idle, unsealing, learn_fault}
use Rattle.fdb_proxy.specs.CommitProxies.{parts_fault, verdict_fault, decide_fault, messages_fault, logged_fault}
use Rattle.fdb_proxy.specs.CommitProxies.{all_logged_fault, done_fault}
use Rattle.fdb_proxy.specs.Deciding.{Said, outcomes_by}

-- the first transaction of a session, which reads and writes nothing
abbrev pub first_of : ℕ → Transaction
first_of session =
    record { id = record { session = session; number = 0 }; read = 0; reads = []; writes = []; mutations = [] }

-- A proxy whose last ticket was of version 100, with the transaction of session 0 in flight at the stage and that of
-- session 1 waiting.
abbrev pub proxy : Stage → Bool → CommitProxy
proxy at is_failed =
    record {
      index = 0;
      logs = 1;
      shard_splits = [];
      owners = one_owner 100;
      last = 100;
      waiting = first_of 1 ∷ [];
      batch = first_of 0 ∷ [];
      stage = at;
      is_failed = is_failed;
    }

-- entry 4 of version 200
abbrev pub here : Position
here = record { index = 4; version = 200; prev = 100; horizon = 50 }

abbrev pub ticket : ℕ → Ticket
ticket version = record { proxy = 0; index = 4; version = version; prev = 100; horizon = 50; moves = []; pending = [] }

-- the part of a resolver, which is asked about the first place or about none
abbrev pub part : ℕ → Bool → Part
part resolver is_asked =
    record { resolver = resolver; index = 4; version = 200; prev = 100; horizon = 50; items = items is_asked }
  where
    items : Bool → List Item
    items true = record { place = 0; read_version = 0; has_reads = true; reads = []; writes = [] } ∷ []
    items false = []

-- the verdict of the resolver on the first place of an entry
abbrev pub says : ℕ → ℕ → Verdicts
says resolver index = record { resolver = resolver; index = index; answers = (0, verdict.Yes) ∷ []; conflicts = [] }

-- resolvers 0 and 2 are asked, and these verdicts came, with what each one found
abbrev pub resolving_with : List (Option Said) → List Found → Stage
resolving_with verdicts found =
    stage.Resolving (record {
      position = here;
      parts = part 0 true ∷ part 1 false ∷ part 2 true ∷ [];
      verdicts = verdicts;
      conflicts = found;
    })

-- the same, where nobody found anything
abbrev pub resolving : List (Option Said) → Stage
resolving verdicts = resolving_with verdicts ([] ∷ [] ∷ [] ∷ [])

-- the verdict of resolver 0 on each of these places of entry 4
abbrev pub says_on : List ℕ → Verdicts
says_on places =
    record {
      resolver = 0;
      index = 4;
      answers = map (λ (place : ℕ). (place, verdict.Yes)) places;
      conflicts = [];
    }

-- it is decided, and each log hasn't acknowledged it, or has
abbrev pub logging_by : List Bool → Stage
logging_by acknowledged =
    stage.Logging (record {
      position = here;
      answers = ((first_of 0).id, outcome.Commit 200 0) ∷ [];
      acknowledged = acknowledged;
    })

-- there is one log
abbrev pub logging : Bool → Stage
logging is_logged = logging_by (is_logged ∷ [])

abbrev pub said : Verdict → Option Said
said one = Some ((0, one) ∷ [])

-- so many transactions, each the first one of its session
abbrev pub firsts : ℕ → List Transaction
firsts count = map first_of (range_with_len 0 count)

-- a proxy with the greatest batch in flight, and one request that waits
abbrev pub full_proxy : CommitProxy
full_proxy = record (proxy stage.Sealed false) { batch = firsts place_limit; waiting = first_of place_limit ∷ [] }

-- That the proxy failed comes first. A request whose id is in flight or waits is refused with its place, also in the
-- greatest batch.
abbrev pub WorkedSubmits : Type 0
WorkedSubmits =
    (submit_fault (proxy stage.Sealed true) (first_of 0) ≡ Some Failed)
    × (submit_fault (proxy stage.Sealed false) (first_of 0) ≡ Some (Repeated 0))
    × (submit_fault (proxy stage.Sealed false) (first_of 1) ≡ Some (Repeated 1))
    × (submit_fault (proxy stage.Sealed false) (first_of 2) ≡ None)
    × (submit_fault full_proxy (first_of 4095) ≡ Some (Repeated 4095))
    × (submit_fault full_proxy (first_of 4096) ≡ Some (Repeated 4096))
    × (submit_fault full_proxy (first_of 4097) ≡ None)

-- A batch is sealed by an idle proxy alone, and one that is unsealed waits before those who wait. One that has an entry
-- isn't unsealed, whether its ticket was learnt or memory ran out then.
abbrev pub WorkedSeals : Type 0
WorkedSeals =
    (seal_fault (proxy stage.Sealed true) ≡ Some Failed)
    × (seal_fault (proxy stage.Sealed false) ≡ Some WrongState)
    × (seal_fault (proxy (logging true) false) ≡ Some WrongState)
    × (seal_fault (proxy stage.Idle false) ≡ None)
    × ((unsealing (proxy stage.Sealed false)).waiting ≡ first_of 0 ∷ first_of 1 ∷ [])
    × ((unsealing (proxy (logging false) false)).waiting ≡ first_of 1 ∷ [])
    × (unsealing (proxy stage.Entered true) ≡ proxy stage.Entered true)

-- No batch is in flight at one stage alone.
abbrev pub WorkedStages : Type 0
WorkedStages =
    (is_idle stage.Idle ≡ true)
    × (is_idle stage.Sealed ≡ false)
    × (is_idle stage.Entered ≡ false)
    × (is_idle (resolving []) ≡ false)
    × (is_idle (logging false) ≡ false)

-- A ticket comes at the wrong stage before it comes again, and once it was learnt it comes again. A proxy that didn't
-- learn one, since memory ran out, says that it failed.
abbrev pub WorkedTickets : Type 0
WorkedTickets =
    (learn_fault (proxy stage.Sealed true) (ticket 100) ≡ Some Failed)
    × (learn_fault (proxy stage.Idle false) (ticket 100) ≡ Some WrongState)
    × (learn_fault (proxy stage.Sealed false) (ticket 100) ≡ Some Stale)
    × (learn_fault (proxy stage.Sealed false) (ticket 101) ≡ None)
    × (learn_fault (proxy stage.Entered true) (ticket 101) ≡ Some Failed)
    × (parts_fault (proxy stage.Sealed false) ≡ Some WrongState)
    × (parts_fault (proxy (resolving (None ∷ None ∷ None ∷ [])) false) ≡ None)

-- Verdicts are stale that came before, that are on another entry or of a resolver that isn't there, that are on another
-- place than the one that was asked about, on one more or on none, and all after the decision. Who is asked about no
-- place may say just that.
abbrev pub WorkedVerdicts : Type 0
WorkedVerdicts =
    (verdict_fault (proxy (logging false) true) (says 0 4) ≡ Some Failed)
    × (verdict_fault (proxy (resolving (None ∷ None ∷ None ∷ [])) false) (says 0 4) ≡ None)
    × (verdict_fault (proxy (resolving (said verdict.Yes ∷ None ∷ None ∷ [])) false) (says 0 4) ≡ Some Stale)
    × (verdict_fault (proxy (resolving (None ∷ None ∷ None ∷ [])) false) (says 0 3) ≡ Some Stale)
    × (verdict_fault (proxy (resolving (None ∷ None ∷ None ∷ [])) false) (says 1 4) ≡ Some Stale)
    × (verdict_fault (proxy (resolving (None ∷ None ∷ None ∷ [])) false) (says 3 4) ≡ Some Stale)
    × (verdict_fault (proxy (resolving (None ∷ None ∷ None ∷ [])) false) (says_on (0 ∷ [])) ≡ None)
    × (verdict_fault (proxy (resolving (None ∷ None ∷ None ∷ [])) false) (says_on (1 ∷ [])) ≡ Some Stale)
    × (verdict_fault (proxy (resolving (None ∷ None ∷ None ∷ [])) false) (says_on (0 ∷ 1 ∷ [])) ≡ Some Stale)
    × (verdict_fault (proxy (resolving (None ∷ None ∷ None ∷ [])) false) (says_on []) ≡ Some Stale)
    × (verdict_fault (proxy (resolving (None ∷ None ∷ None ∷ [])) false)
    (record { resolver = 1; index = 4; answers = []; conflicts = [] }) ≡ None)
    × (verdict_fault (proxy (logging false) false) (says 0 4) ≡ Some Stale)
    × (verdict_fault (proxy stage.Idle false) (says 0 4) ≡ Some Stale)

-- The decision waits for the least resolver that is asked. Verdicts that mix a conflict and an old one are old, and one
-- conflict is a conflict, in either order.
abbrev pub WorkedDecisions : Type 0
WorkedDecisions =
    (decide_fault (proxy stage.Sealed true) ≡ Some Failed)
    × (decide_fault (proxy stage.Sealed false) ≡ Some WrongState)
    × (decide_fault (proxy (resolving (None ∷ None ∷ None ∷ [])) false) ≡ Some (NotYet 0))
    × (decide_fault (proxy (resolving (said verdict.Yes ∷ None ∷ None ∷ [])) false) ≡ Some (NotYet 2))
    × (decide_fault (proxy (resolving (said verdict.Yes ∷ None ∷ said verdict.Yes ∷ [])) false) ≡ None)
    × (outcomes_by 200 (said verdict.Yes ∷ None ∷ said verdict.Yes ∷ []) 1 ≡ outcome.Commit 200 0 ∷ [])
    × (outcomes_by 200 (said verdict.Conflict ∷ None ∷ said verdict.Yes ∷ []) 1 ≡ outcome.Conflict ∷ [])
    × (outcomes_by 200 (said verdict.Yes ∷ None ∷ said verdict.Conflict ∷ []) 1 ≡ outcome.Conflict ∷ [])
    × (outcomes_by 200 (said verdict.Conflict ∷ None ∷ said verdict.Old ∷ []) 1 ≡ outcome.Old ∷ [])
    × (outcomes_by 200 (said verdict.Old ∷ None ∷ said verdict.Conflict ∷ []) 1 ≡ outcome.Old ∷ [])

-- the log's acknowledgement of an entry
abbrev pub acknowledges : ℕ → ℕ → LogAck
acknowledges log index = record { log = log; index = index }

-- An acknowledgement is stale that came before, that is of another entry or of a log that isn't there. The batch waits
-- for the least log that hasn't acknowledged it, and is done once every log has.
abbrev pub WorkedLogging : Type 0
WorkedLogging =
    (messages_fault (proxy (resolving []) false) ≡ Some WrongState)
    × (messages_fault (proxy (logging false) false) ≡ None)
    × (logged_fault (proxy (logging false) true) (acknowledges 0 4) ≡ Some Failed)
    × (logged_fault (proxy (logging false) false) (acknowledges 0 4) ≡ None)
    × (logged_fault (proxy (logging true) false) (acknowledges 0 4) ≡ Some Stale)
    × (logged_fault (proxy (logging false) false) (acknowledges 0 3) ≡ Some Stale)
    × (logged_fault (proxy (logging false) false) (acknowledges 1 4) ≡ Some Stale)
    × (logged_fault (proxy (resolving []) false) (acknowledges 0 4) ≡ Some Stale)
    × (all_logged_fault (proxy (logging false) false) ≡ Some (NotYet 0))
    × (all_logged_fault (proxy (logging true) false) ≡ None)
    × (all_logged_fault (proxy (logging_by (false ∷ false ∷ [])) false) ≡ Some (NotYet 0))
    × (all_logged_fault (proxy (logging_by (true ∷ false ∷ [])) false) ≡ Some (NotYet 1))
    × (all_logged_fault (proxy (logging_by (false ∷ true ∷ [])) false) ≡ Some (NotYet 0))
    × (all_logged_fault (proxy (logging_by (true ∷ true ∷ [])) false) ≡ None)
    × (logged_fault (proxy (logging_by (true ∷ false ∷ [])) false) (acknowledges 1 4) ≡ None)
    × (logged_fault (proxy (logging_by (false ∷ true ∷ [])) false) (acknowledges 1 4) ≡ Some Stale)
    × (all_logged_fault (proxy stage.Idle false) ≡ Some WrongState)
    × (done_fault (proxy (logging_by (true ∷ false ∷ [])) false) ≡ Some WrongState)
    × (done_fault (proxy (logging_by (false ∷ true ∷ [])) false) ≡ Some WrongState)
    × (done_fault (proxy (logging false) false) ≡ Some WrongState)
    × (done_fault (proxy (logging true) false) ≡ None)
    × (done_fault (proxy (logging true) true) ≡ Some Failed)
