-- What a commit proxy is after a call, computed.
use Rattle.std.specs.Prelude.{◌≡◌, ℕ, true, false, List, [], ◌∷◌, length, Option, Some, None}
use Rattle.fdb_keys.specs.Ranges.{single_range}
use Rattle.fdb_keys.specs.declared.refusal.Refusal.TheVariants.{NotYet}
use Rattle.fdb_resolver.specs.declared.verdict.Verdict.TheVariants as verdict
use Rattle.fdb_resolver.specs.Rule.{Found}
use Rattle.fdb_proxy.specs.declared.outcome.Outcome.TheVariants as outcome
use Rattle.fdb_proxy.specs.declared.stage.Stage.TheVariants as stage
use Rattle.fdb_proxy.specs.CommitProxies.{CommitProxy, submitting, sealing, with_verdict, deciding, answers_in}
use Rattle.fdb_proxy.specs.CommitProxies.{with_logged, all_logged_fault, finishing, conflicts_in, decision_in}
use Rattle.fdb_proxy.specs.Deciding.{Said}
use Rattle.fdb_proxy.specs.Examples.{acknowledges, first_of, firsts, logging, logging_by, proxy, resolving}
use Rattle.fdb_proxy.specs.Examples.{resolving_with, said, says}

-- A request waits behind those who wait, whatever the batch in flight.
abbrev pub WorkedSubmitting : Type 0
WorkedSubmitting =
    (submitting (proxy stage.Sealed false) (first_of 2)
    ≡ record (proxy stage.Sealed false) { waiting = first_of 1 ∷ first_of 2 ∷ [] })
    × (submitting (record (proxy stage.Idle false) { waiting = [] }) (first_of 2)
    ≡ record (proxy stage.Idle false) { waiting = first_of 2 ∷ [] })

-- a proxy without a batch, for which so many wait
abbrev pub with_waiting : ℕ → CommitProxy
with_waiting count = record (proxy stage.Idle false) { batch = []; waiting = firsts count }

-- All who wait are the batch, up to the greatest number; who is one too many waits on. There may be nobody.
abbrev pub WorkedSealing : Type 0
WorkedSealing =
    (sealing (with_waiting 2)
    ≡ record (proxy stage.Sealed false) { batch = first_of 0 ∷ first_of 1 ∷ []; waiting = [] })
    × (sealing (with_waiting 0) ≡ record (proxy stage.Sealed false) { batch = []; waiting = [] })
    × ((sealing (with_waiting 4096)).waiting ≡ [])
    × (length (sealing (with_waiting 4096)).batch ≡ 4096)
    × ((sealing (with_waiting 4097)).waiting ≡ first_of 4096 ∷ [])
    × (length (sealing (with_waiting 4097)).batch ≡ 4096)

-- Verdicts stand at their resolver, beside those that came before. A batch that is decided stays as it is.
abbrev pub WorkedVerdict : Type 0
WorkedVerdict =
    (with_verdict (proxy (resolving (None ∷ None ∷ None ∷ [])) false) (says 2 4)
    ≡ proxy (resolving (None ∷ None ∷ said verdict.Yes ∷ [])) false)
    × (with_verdict (proxy (resolving (said verdict.Conflict ∷ None ∷ None ∷ [])) false) (says 2 4)
    ≡ proxy (resolving (said verdict.Conflict ∷ None ∷ said verdict.Yes ∷ [])) false)
    × (with_verdict (proxy (logging false) false) (says 0 4) ≡ proxy (logging false) false)

-- A batch that is decided has an answer for each id, by place, and no log has acknowledged it.
abbrev pub WorkedDeciding : Type 0
WorkedDeciding =
    (deciding (record (proxy (resolving (said verdict.Yes ∷ None ∷ said verdict.Yes ∷ [])) false) { logs = 2 })
    ≡ record (proxy (logging_by (false ∷ false ∷ [])) false) { logs = 2 })
    × (answers_in
    (deciding (record (proxy (resolving (Some ((0, verdict.Yes) ∷ (1, verdict.Conflict) ∷ []) ∷ None ∷ [])) false) {
      batch = first_of 0 ∷ first_of 2 ∷ [];
    })).stage
    ≡ ((first_of 0).id, outcome.Commit 200 0) ∷ ((first_of 2).id, outcome.Conflict) ∷ [])
    × (deciding (proxy (logging true) false) ≡ proxy (logging true) false)

-- what a resolver found at a place: the key of one letter
abbrev pub finds_key : ℕ → ℕ → Found
finds_key place letter = (place, single_range (letter ∷ []) ∷ []) ∷ []

-- a proxy with two transactions in flight, of which resolvers 0 and 2 refuse the second one
abbrev pub refusing : List Found → CommitProxy
refusing found =
    record (proxy (resolving_with verdicts found) false) { batch = first_of 0 ∷ first_of 2 ∷ [] }
  where
    verdicts : List (Option Said)
    verdicts = Some ((0, verdict.Yes) ∷ (1, verdict.Conflict) ∷ []) ∷ None ∷ Some ((1, verdict.Conflict) ∷ []) ∷ []

-- Of a place in conflict all is known that some resolver found there, and of no other place anything. Where nobody
-- found anything no place has a set, and what was found at a place beyond the batch means nothing. What a resolver
-- found stands at it, beside what others did.
abbrev pub WorkedConflicts : Type 0
WorkedConflicts =
    (decision_in (refusing (finds_key 1 97 ∷ [] ∷ finds_key 1 99 ∷ []))
    ≡ record {
      outcomes = outcome.Commit 200 0 ∷ outcome.Conflict ∷ [];
      conflicts = [] ∷ (single_range (97 ∷ []) ∷ single_range (99 ∷ []) ∷ []) ∷ [];
    })
    × (conflicts_in (refusing (finds_key 1 97 ∷ [] ∷ finds_key 1 97 ∷ []))
    ≡ [] ∷ (single_range (97 ∷ []) ∷ []) ∷ [])
    × (conflicts_in (refusing ([] ∷ [] ∷ [] ∷ [])) ≡ [])
    × (conflicts_in (refusing (finds_key 2 97 ∷ [] ∷ [] ∷ [])) ≡ [] ∷ [] ∷ [])
    × (conflicts_in (proxy (logging false) false) ≡ [])
    × (with_verdict (proxy (resolving_with (None ∷ None ∷ None ∷ []) (finds_key 0 97 ∷ [] ∷ [] ∷ [])) false)
    (record { resolver = 2; index = 4; answers = (0, verdict.Conflict) ∷ []; conflicts = finds_key 0 99 })
    ≡ proxy (resolving_with (None ∷ None ∷ said verdict.Conflict ∷ [])
    (finds_key 0 97 ∷ [] ∷ finds_key 0 99 ∷ [])) false)

-- An acknowledgement stands at its log, beside those that came before: after the first one of two the other log is
-- still missing. A batch that isn't decided stays as it is.
abbrev pub WorkedLogged : Type 0
WorkedLogged =
    (with_logged (proxy (logging_by (false ∷ false ∷ [])) false) (acknowledges 0 4)
    ≡ proxy (logging_by (true ∷ false ∷ [])) false)
    × (with_logged (proxy (logging_by (false ∷ false ∷ [])) false) (acknowledges 1 4)
    ≡ proxy (logging_by (false ∷ true ∷ [])) false)
    × (with_logged (proxy (logging_by (true ∷ false ∷ [])) false) (acknowledges 1 4)
    ≡ proxy (logging_by (true ∷ true ∷ [])) false)
    × (all_logged_fault (with_logged (proxy (logging_by (false ∷ false ∷ [])) false) (acknowledges 0 4))
    ≡ Some (NotYet 1))
    × (all_logged_fault (with_logged (proxy (logging_by (false ∷ false ∷ [])) false) (acknowledges 1 4))
    ≡ Some (NotYet 0))
    × (with_logged (proxy (resolving []) false) (acknowledges 0 4) ≡ proxy (resolving []) false)

-- Once the batch is done, those who wait do so still.
abbrev pub WorkedFinishing : Type 0
WorkedFinishing = finishing (proxy (logging true) false) ≡ record (proxy stage.Idle false) { batch = [] }
