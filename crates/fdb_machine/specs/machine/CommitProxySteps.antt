-- The steps of the commit proxies.
use Rattle.std.specs.Prelude.{ℕ, max, Bool, true, false, not, ◌&&◌, ◌==◌, nat_lt, nat_le, List, [], ◌∷◌, ◌++◌, take}
use Rattle.std.specs.Prelude.{drop, map, length, replicate, Result, Ok, slice_get, slice_set, Option}
use Rattle.fdb_keys.specs.declared.refusal.Refusal.{Refusal}
use Rattle.fdb_keys.specs.declared.refusal.Refusal.TheVariants.{Unknown, Stale, NotYet, Exhausted, BookFull, WrongState}
use Rattle.fdb_txn.specs.Limits.{place_limit, version_limit}
use Rattle.fdb_txn.specs.declared.spot.Spot.TheVariants as spot
use Rattle.fdb_txn.specs.book.Book.{last_version, last_horizon, next_horizon, seen_before}
use Rattle.fdb_sequencer.specs.Sequencer.{next_version}
use Rattle.fdb_proxy.specs.declared.outcome.Outcome.{Outcome}
use Rattle.fdb_proxy.specs.declared.outcome.Outcome.TheVariants as outcome
use Rattle.fdb_proxy.specs.Verdicts.{is_needed, outcomes_on}
use Rattle.fdb_client.specs.declared.program.Transcript.{Transcript}
use Rattle.fdb_client.specs.Programs.{commit_request_of}
use Rattle.fdb_roles.specs.declared.placed.Placed.{Placed}
use Rattle.fdb_machine.specs.machine.Roles.{CommitProxy, Sender, FromResolver, FromLog, Stage, Idle, Resolving, Logging}
use Rattle.fdb_machine.specs.machine.Roles.{Reported}
use Rattle.fdb_machine.specs.machine.Machine.{Machine, Transition, found, refused_where, waits_for, is_set}
use Rattle.fdb_machine.specs.machine.Machine.{first_missing}
use Rattle.fdb_machine.specs.machine.Sessions.{tell_all}
use Rattle.fdb_machine.specs.declared.step.Answered.TheVariants as answered

abbrev pub is_idle : Stage → Bool
is_idle Idle = true
is_idle Resolving = false
is_idle Logging = false
is_idle Reported = false

abbrev pub is_resolving : Stage → Bool
is_resolving Idle = false
is_resolving Resolving = true
is_resolving Logging = false
is_resolving Reported = false

abbrev pub is_logging : Stage → Bool
is_logging Idle = false
is_logging Resolving = false
is_logging Logging = true
is_logging Reported = false

abbrev pub is_reported : Stage → Bool
is_reported Idle = false
is_reported Resolving = false
is_reported Logging = false
is_reported Reported = true

-- the commit proxy whose first requests, at most as many as a batch may have, became the batch of the entry
abbrev pub with_batch : CommitProxy → ℕ → ℕ → CommitProxy
with_batch commit_proxy entry resolvers =
    record {
      waiting = drop place_limit commit_proxy.waiting;
      in_flight = take place_limit commit_proxy.waiting;
      stage = Resolving;
      entry = entry;
      verdicts_received = replicate resolvers false;
      acknowledgements_received = [];
    }

-- Seal: the first of those who wait, in order, become the batch of the next entry.
unfoldable pub seals : Machine → ℕ → ℕ → Result Transition Refusal
seals m proxy advance = found (slice_get m.commit_proxies proxy) (λ commit_proxy.
    let prev = last_version m.book in
    let version = next_version prev advance in
    let index = length m.book in
    let sealing = take place_limit commit_proxy.waiting in
    refused_where (not (is_idle commit_proxy.stage)) WrongState
    (refused_where (nat_lt version_limit version) Exhausted
    (refused_where (nat_le m.config.book index) BookFull
    (Ok (record {
      answer = answered.Issued index version prev (length sealing);
      next = record m {
        book = m.book ++ record {
          version = version;
          prev = prev;
          horizon = next_horizon (last_horizon m.book) m.window version;
          moves = m.pending;
          batch = map commit_request_of sealing;
        } ∷ [];
        entry_proxies = m.entry_proxies ++ proxy ∷ [];
        decided = m.decided ++ false ∷ [];
        pending = [];
        commit_proxies = slice_set m.commit_proxies proxy (with_batch commit_proxy index (length m.resolvers));
      };
    })))))

-- how many entries the sender took
abbrev pub taken_by_sender : Machine → Sender → Option ℕ
taken_by_sender m (FromResolver resolver) = slice_get m.resolvers resolver
taken_by_sender m (FromLog log) = slice_get m.logs log

-- the commit proxy waits for what the sender says of the entry: not where it isn't its entry, not at another stage, and
-- not twice
abbrev pub awaits : CommitProxy → ℕ → Sender → Bool
awaits commit_proxy entry (FromResolver resolver) =
    is_resolving commit_proxy.stage && (commit_proxy.entry == entry) && not
    (is_set commit_proxy.verdicts_received resolver)
awaits commit_proxy entry (FromLog log) =
    is_logging commit_proxy.stage && (commit_proxy.entry == entry) && not
    (is_set commit_proxy.acknowledgements_received log)

-- the commit proxy to which it came
abbrev pub with_received : CommitProxy → Sender → CommitProxy
with_received commit_proxy (FromResolver resolver) =
    record commit_proxy { verdicts_received = slice_set commit_proxy.verdicts_received resolver true }
with_received commit_proxy (FromLog log) =
    record commit_proxy { acknowledgements_received = slice_set commit_proxy.acknowledgements_received log true }

-- Verdict and Logged: refused where the sender has not taken the entry, and where the entry's proxy doesn't wait for
-- it.
unfoldable pub receives : Machine → ℕ → Sender → Result Transition Refusal
receives m entry sender = found (taken_by_sender m sender) (λ taken.
    refused_where (nat_le taken entry) Unknown
    (found (slice_get m.entry_proxies entry) (λ proxy. found (slice_get m.commit_proxies proxy) (λ commit_proxy.
    refused_where (not (awaits commit_proxy entry sender)) Stale
    (Ok (record {
      answer = answered.Done;
      next = record m { commit_proxies = slice_set m.commit_proxies proxy (with_received commit_proxy sender) };
    }))))))

-- Decide: waits for each resolver that is asked about some place of the batch.
unfoldable pub decides : Machine → ℕ → Result Transition Refusal
decides m proxy = found (slice_get m.commit_proxies proxy) (λ commit_proxy.
    refused_where (not (is_resolving commit_proxy.stage)) WrongState
    (found (slice_get m.book commit_proxy.entry) (λ entry.
    let before = seen_before m.book commit_proxy.entry in
    waits_for (first_missing (λ resolver. is_needed m.config.resolver_splits resolver before entry) 0
    commit_proxy.verdicts_received)
    (Ok (record {
      answer = answered.Decided (outcomes_on m.config.resolver_splits before entry);
      next = record m {
        decided = slice_set m.decided commit_proxy.entry true;
        commit_proxies = slice_set m.commit_proxies proxy (record commit_proxy {
          stage = Logging;
          verdicts_received = [];
          acknowledgements_received = replicate (length m.logs) false;
        });
      };
    })))))

-- Report: waits for every log, and raises the committed version.
unfoldable pub reports : Machine → ℕ → Result Transition Refusal
reports m proxy = found (slice_get m.commit_proxies proxy) (λ commit_proxy.
    refused_where (not (is_logging commit_proxy.stage)) WrongState
    (found (slice_get m.book commit_proxy.entry) (λ entry.
    waits_for (first_missing (λ log. true) 0 commit_proxy.acknowledgements_received)
    (let committed = max m.committed entry.version in
    Ok (record {
      answer = answered.Version committed;
      next = record m {
        committed = committed;
        commit_proxies = slice_set m.commit_proxies proxy
            (record commit_proxy { stage = Reported });
      };
    })))))

-- those of the batch that are committed, each at its spot
abbrev pub placed_from : ℕ → List Transcript → List Outcome → List Placed
placed_from index [] outcomes = []
placed_from index (transcript ∷ transcripts) [] = []
placed_from index (transcript ∷ transcripts) (outcome.Commit version place ∷ outcomes) =
    record { spot = spot.Entry index place version; transcript = transcript } ∷ placed_from index transcripts outcomes
placed_from index (transcript ∷ transcripts) (outcome.Conflict ∷ outcomes) = placed_from index transcripts outcomes
placed_from index (transcript ∷ transcripts) (outcome.Old ∷ outcomes) = placed_from index transcripts outcomes

-- what each client is told, with its session
abbrev pub replies_from : List Transcript → List Outcome → List (ℕ × Outcome)
replies_from [] outcomes = []
replies_from (transcript ∷ transcripts) [] = []
replies_from (transcript ∷ transcripts) (outcome ∷ outcomes) = (transcript.id.session, outcome) ∷ replies_from
    transcripts outcomes

-- Answer: the clients of a batch whose version was reported are told what became of their transactions.
unfoldable pub answers : Machine → ℕ → Result Transition Refusal
answers m proxy = found (slice_get m.commit_proxies proxy) (λ commit_proxy.
    refused_where (is_idle commit_proxy.stage) WrongState
    (found (slice_get m.book commit_proxy.entry) (λ entry.
    let outcomes = outcomes_on m.config.resolver_splits (seen_before m.book commit_proxy.entry) entry in
    refused_where (not (is_reported commit_proxy.stage)) (NotYet entry.version)
    (Ok (record {
      answer = answered.Answers (replies_from commit_proxy.in_flight outcomes);
      next = record m {
        acknowledged = m.acknowledged ++ placed_from commit_proxy.entry commit_proxy.in_flight outcomes;
        sessions = tell_all commit_proxy.in_flight m.sessions;
        commit_proxies = slice_set m.commit_proxies proxy
            (record commit_proxy { in_flight = []; stage = Idle; acknowledgements_received = [] });
      };
    })))))
