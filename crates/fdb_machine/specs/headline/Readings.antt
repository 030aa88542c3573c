-- What a trace tells: it is read off the steps and their answers, one after another, and off nothing else. No role is
-- looked at, no machine, and not what a read should have been answered.
use Rattle.std.specs.Prelude.{ℕ, suc, max, Bool, true, false, ◌==◌, List, [], ◌∷◌, ◌++◌, fold, map, take, drop, Option}
use Rattle.std.specs.Prelude.{Some, None, Result, Ok, Err, if◌then◌else◌}
use Rattle.std.specs.List.{count_by}
use Rattle.fdb_keys.specs.declared.refusal.Refusal.{Refusal}
use Rattle.fdb_txn.specs.Limits.{place_limit, window}
use Rattle.fdb_txn.specs.declared.entry.Entry.{Entry}
use Rattle.fdb_txn.specs.declared.entry.Move.{Move}
use Rattle.fdb_txn.specs.book.Book.{last_horizon, next_horizon}
use Rattle.fdb_txn.specs.declared.spot.Spot.TheVariants as spot
use Rattle.fdb_proxy.specs.declared.outcome.Outcome.{Outcome}
use Rattle.fdb_proxy.specs.declared.outcome.Outcome.TheVariants as outcome
use Rattle.fdb_client.specs.declared.program.Op.{Op}
use Rattle.fdb_client.specs.declared.program.Op.TheVariants as op
use Rattle.fdb_client.specs.declared.program.Reply.{Reply}
use Rattle.fdb_client.specs.declared.program.Reply.TheVariants as reply
use Rattle.fdb_client.specs.declared.program.Transcript.{Transcript}
use Rattle.fdb_client.specs.TxnState.{with_op}
use Rattle.fdb_client.specs.Programs.{commit_request_of}
use Rattle.fdb_roles.specs.declared.placed.Placed.{Placed}
use Rattle.fdb_machine.specs.declared.step.Answered.{Answered}
use Rattle.fdb_machine.specs.declared.step.Answered.TheVariants as answered
use Rattle.fdb_machine.specs.machine.AnyStep.{Step}
use Rattle.fdb_machine.specs.declared.step.AnyStep.TheVariants as step

-- the batch of a proxy's last Seal: the number and the version of its entry, and the transactions by place
pub record SealedBatch : Type 0 where
  pub entry : ℕ
  pub version : ℕ
  pub transcripts : List Transcript

-- How far the roles are.
pub record Progress : Type 0 where
  -- for the number of a resolver, and for that of a log, how many entries it took
  pub resolved : ℕ → ℕ
  pub logged : ℕ → ℕ
  -- for the number of a commit proxy the entry on which it waits for verdicts, and the one on which it waits for
  -- acknowledgements
  pub resolving : ℕ → Option ℕ
  pub logging : ℕ → Option ℕ
  -- for the number of an entry, and that of a resolver or of a log, whether its verdicts on the entry, or its
  -- acknowledgement of it, reached the entry's proxy
  pub verdicts_came : ℕ → ℕ → Bool
  pub acknowledgements_came : ℕ → ℕ → Bool
  -- for the number of an entry whether it is decided
  pub decided : ℕ → Bool
  -- for the number of a shard the greatest version that it serves, and the least one
  pub reached : ℕ → ℕ
  pub floor : ℕ → ℕ

pub record Readings : Type 0 where
  -- the session of each transaction that began, the first one first
  pub begun : List ℕ
  -- the open transactions, with their operations so far and the replies to them
  pub opened : List Transcript
  -- for the number of a commit proxy: those who wait there, in order, and the batch of its last Seal
  pub waiting : ℕ → List Transcript
  pub sealed : ℕ → SealedBatch
  -- the entries, the first one first
  pub book : List Entry
  -- the moves since the last entry, the first one first
  pub pending : List Move
  -- the window that was set last
  pub window : ℕ
  -- the acknowledged transactions with their spots
  pub acknowledged : List Placed
  -- the entries whose clients were told, the first one first
  pub answered : List ℕ
  -- the greatest version that was reported, 0 where there is none
  pub reported : ℕ
  -- how far the roles are
  pub progress : Progress

-- where the roles begin
abbrev pub no_progress : Progress
no_progress =
    record {
      resolved = λ resolver. 0;
      logged = λ log. 0;
      resolving = λ proxy. None;
      logging = λ proxy. None;
      verdicts_came = λ entry resolver. false;
      acknowledgements_came = λ entry log. false;
      decided = λ entry. false;
      reached = λ shard. 0;
      floor = λ shard. 0;
    }

-- before the first step
abbrev pub nothing_read : Readings
nothing_read =
    record {
      begun = [];
      opened = [];
      waiting = λ proxy. [];
      sealed = λ proxy. record { entry = 0; version = 0; transcripts = [] };
      book = [];
      pending = [];
      window = window;
      acknowledged = [];
      answered = [];
      reported = 0;
      progress = no_progress;
    }

-- by number, with another value at one of them
abbrev pub with_at : {A : Type 0} → ℕ → A → (ℕ → A) → ℕ → A
with_at number value values other = if other == number then value else values other

-- the transaction is the session's
abbrev pub is_of_session : ℕ → Transcript → Bool
is_of_session session transcript = transcript.id.session == session

-- the session's transaction among others, alone in a list, which is empty where there is none
abbrev pub of_session : ℕ → List Transcript → List Transcript
of_session session [] = []
of_session session (transcript ∷ others) =
    if is_of_session session transcript then transcript ∷ [] else of_session session others

-- the others without the session's
abbrev pub others_than : ℕ → List Transcript → List Transcript
others_than session [] = []
others_than session (transcript ∷ others) =
    if is_of_session session transcript then others else transcript ∷ others_than session others

-- the session's transaction with one more operation and its reply, among the others
abbrev pub with_one_more : ℕ → Op → Reply → List Transcript → List Transcript
with_one_more session operation reply [] = []
with_one_more session operation reply (transcript ∷ others) =
    if is_of_session session transcript
    then with_op transcript operation reply ∷ others
    else transcript ∷ with_one_more session operation reply others

-- how many transactions the session began
abbrev pub times_begun : ℕ → List ℕ → ℕ
times_begun session begun = count_by (λ (other : ℕ). other == session) begun

-- a session begins a transaction at the version that it was granted, with the number of those that it began before
abbrev pub begins : Readings → ℕ × ℕ → Readings
begins r (session, version) = record r {
  begun = r.begun ++ session ∷ [];
  opened = r.opened ++ record {
    id = record { session = session; number = times_begun session r.begun };
    read_version = version;
    ops = [];
  } ∷ [];
}

-- the session's open transaction has one more operation, with its reply
abbrev pub has_done : Readings → ℕ → Op → Reply → Readings
has_done r session operation reply = record r { opened = with_one_more session operation reply r.opened }

-- the session's open transaction waits at the proxy, behind those who wait there
abbrev pub waits_at : Readings → ℕ → ℕ → Readings
waits_at r session proxy = record r {
  opened = others_than session r.opened;
  waiting = with_at proxy (r.waiting proxy ++ of_session session r.opened) r.waiting;
}

-- the session's open transaction wrote nothing, and is acknowledged behind the entries up to a version
abbrev pub is_done_at : Readings → ℕ → ℕ → Readings
is_done_at r session version = record r {
  opened = others_than session r.opened;
  acknowledged = r.acknowledged ++ map
      (λ (transcript : Transcript). record { spot = spot.ReadOnly version; transcript = transcript })
      (of_session session r.opened);
}

-- The first of those who wait at the proxy, as many as a batch may have, are the batch of an entry, each with what its
-- program reads and writes. The moves since the entry before take effect with it, and its horizon is by the window that
-- was set last.
abbrev pub seals_entry : Readings → ℕ → ℕ → ℕ → ℕ → Readings
seals_entry r proxy index version prev =
    let batch = take place_limit (r.waiting proxy) in
    record r {
      book = r.book ++ record {
        version = version;
        prev = prev;
        horizon = next_horizon (last_horizon r.book) r.window version;
        moves = r.pending;
        batch = map commit_request_of batch;
      } ∷ [];
      pending = [];
      waiting = with_at proxy (drop place_limit (r.waiting proxy)) r.waiting;
      sealed = with_at proxy (record { entry = index; version = version; transcripts = batch }) r.sealed;
      progress = record r.progress { resolving = with_at proxy (Some index) r.progress.resolving };
    }

-- a proxy that waits for verdicts on an entry decides it, and waits for acknowledgements from then on
abbrev pub decides_entry : Progress → ℕ → Option ℕ → Progress
decides_entry p proxy None = p
decides_entry p proxy (Some entry) = record p {
  resolving = with_at proxy None p.resolving;
  logging = with_at proxy (Some entry) p.logging;
  decided = with_at entry true p.decided;
}

-- of two numbers, also there where it was so before
abbrev pub with_came : ℕ → ℕ → (ℕ → ℕ → Bool) → ℕ → ℕ → Bool
with_came entry number came = with_at entry (with_at number true (came entry)) came

-- the roles went on
abbrev pub goes_on : Readings → Progress → Readings
goes_on r progress = record r { progress = progress }

-- a session that is told of a commit has the transaction acknowledged that it had in the batch, at the entry of that,
-- at the place and the version that it is told
abbrev pub acknowledged_by : SealedBatch → ℕ × Outcome → List Placed
acknowledged_by batch (session, outcome.Commit version place) =
    map (λ (transcript : Transcript). record
    { spot = spot.Entry batch.entry place version; transcript = transcript }) (of_session session batch.transcripts)
acknowledged_by batch (session, outcome.Conflict) = []
acknowledged_by batch (session, outcome.Old) = []

abbrev pub all_acknowledged_by : SealedBatch → List (ℕ × Outcome) → List Placed
all_acknowledged_by batch [] = []
all_acknowledged_by batch (told ∷ others) = acknowledged_by batch told ++ all_acknowledged_by batch others

-- What an accepted step tells with its answer. One whose answer isn't of its kind tells nothing.
abbrev pub read : Readings → Step → Answered → Readings
read r (step.Ask session proxy) answer = record r { opened = others_than session r.opened }
read r (step.Grant proxy) (answered.Granted served) = fold begins r served
read r (step.Grant proxy) answer = r
read r (step.Get session key snapshot) (answered.Value value) =
    has_done r session (op.Get key snapshot) (reply.Value value)
read r (step.Get session key snapshot) answer = r
read r (step.GetRange session range limit is_reverse snapshot) (answered.Pairs pairs) =
    has_done r session (op.Range range limit is_reverse snapshot) (reply.Pairs pairs)
read r (step.GetRange session range limit is_reverse snapshot) answer = r
read r (step.Write session mutation) answer = has_done r session (op.Write mutation) reply.Done
read r (step.AddRead session range) answer = has_done r session (op.AddRead range) reply.Done
read r (step.AddWrite session range) answer = has_done r session (op.AddWrite range) reply.Done
read r (step.Submit session proxy) answered.Done = waits_at r session proxy
read r (step.Submit session proxy) (answered.ReadOnly version) = is_done_at r session version
read r (step.Submit session proxy) answer = r
read r (step.Seal proxy advance) (answered.Issued index version prev places) = seals_entry r proxy index version prev
read r (step.Seal proxy advance) answer = r
read r (step.Resolve entry resolver) answer =
    goes_on r (record r.progress { resolved = with_at resolver (suc entry) r.progress.resolved })
read r (step.Verdict entry resolver) answer =
    goes_on r (record r.progress { verdicts_came = with_came entry resolver r.progress.verdicts_came })
read r (step.Decide proxy) answer = goes_on r (decides_entry r.progress proxy (r.progress.resolving proxy))
read r (step.Push entry log) answer =
    goes_on r (record r.progress { logged = with_at log (suc entry) r.progress.logged })
read r (step.Logged entry log) answer =
    goes_on r (record r.progress { acknowledgements_came = with_came entry log r.progress.acknowledgements_came })
read r (step.Report proxy) answer = record r {
  reported = max r.reported (r.sealed proxy).version;
  progress = record r.progress { logging = with_at proxy None r.progress.logging };
}
read r (step.Answer proxy) (answered.Answers told) = record r {
  acknowledged = r.acknowledged ++ all_acknowledged_by (r.sealed proxy) told;
  answered = r.answered ++ (r.sealed proxy).entry ∷ [];
}
read r (step.Answer proxy) answer = r
read r (step.Pull shard limit) (answered.Version version) =
    goes_on r (record r.progress { reached = with_at shard version r.progress.reached })
read r (step.Pull shard limit) answer = r
read r (step.Forget shard version) (answered.Version least) =
    goes_on r (record r.progress { floor = with_at shard least r.progress.floor })
read r (step.Forget shard version) answer = r
read r (step.Pop shard) answer = r
read r (step.Move range to) answer = record r { pending = r.pending ++ record { range = range; to = to } ∷ [] }
read r (step.Window width) answer = record r { window = width }

-- a refused step tells nothing
abbrev pub read_step : Readings → Step → Result Answered Refusal → Readings
read_step r one_step (Ok answer) = read r one_step answer
read_step r one_step (Err refusal) = r

-- what steps with their answers tell, one after another
abbrev pub read_steps : Readings → List Step → List (Result Answered Refusal) → Readings
read_steps r [] answers = r
read_steps r (one_step ∷ steps) [] = r
read_steps r (one_step ∷ steps) (answer ∷ answers) = read_steps (read_step r one_step answer) steps answers

-- what a trace tells
abbrev pub readings_of : List Step → List (Result Answered Refusal) → Readings
readings_of steps answers = read_steps nothing_read steps answers
