-- A script is a trace where its answers compute. What is looked up in a map of sessions doesn't compute, so the
-- sessions are read off the answers as a list, and a step is taken by what stands there.
use Rattle.std.proofs.Common.{◌≡◌, ◌∙◌, sym, ap, ap₂, refl, subst, inl, arith, ℕ, suc, Bool, true, false, cond, fold}
use Rattle.std.proofs.Common.{map, length, List, [], ◌∷◌, ◌++◌, Option, Some, None, Result, Ok, Err, slice_get}
use Rattle.std.specs.Prelude.{not, ◌==◌, ◌||◌, slice_set, if◌then◌else◌}
use Rattle.std.specs.List.{list_any}
use Rattle.std.specs.FinMap.{get, insert, empty, get-empty}
use Rattle.std.specs.Cmp.Lexicographic.{slice_cmp}
use Rattle.std.specs.Ordering.{nat_cmp}
use Rattle.fdb_keys.specs.declared.refusal.Refusal.{Refusal}
use Rattle.fdb_keys.specs.declared.refusal.Refusal.TheVariants.{Exhausted, WrongState, NotYet}
use Rattle.fdb_keys.specs.Points.{Point}
use Rattle.fdb_mutations.specs.declared.mutation.Mutation.{Mutation}
use Rattle.fdb_mutations.specs.Mutations.{effects, value_after, mutation_fault}
use Rattle.fdb_txn.specs.declared.entry.Entry.{Entry}
use Rattle.fdb_txn.specs.declared.spot.Spot.TheVariants as spot
use Rattle.fdb_txn.specs.book.Book.{Place, seen_of, seen_before}
use Rattle.fdb_txn.specs.book.Size.{size_fault}
use Rattle.fdb_txn.specs.rules.Admission.{committed}
use Rattle.fdb_txn.specs.rules.SerialMap.{serial_map, up_to}
use Rattle.fdb_txn.specs.rules.Stamped.{stamped_at}
use Rattle.fdb_txn.proofs.Exports.{get-effects}
use Rattle.fdb_proxy.specs.Verdicts.{outcomes_on}
use Rattle.fdb_proxy.specs.declared.config.Config.{Config}
use Rattle.fdb_proxy.specs.declared.outcome.Outcome.{Outcome}
use Rattle.fdb_client.specs.Programs.{commit_request_of, is_read_only}
use Rattle.fdb_client.specs.TxnState.{with_op}
use Rattle.fdb_client.specs.declared.program.Op.{Op}
use Rattle.fdb_client.specs.declared.program.Op.TheVariants as op
use Rattle.fdb_client.specs.declared.program.Reply.{Reply}
use Rattle.fdb_client.specs.declared.program.Reply.TheVariants as reply
use Rattle.fdb_client.specs.declared.program.Transcript.{Transcript}
use Rattle.fdb_roles.proofs.Exports.{get-copy, value_after_op}
use Rattle.fdb_machine.specs.headline.ScriptExamples.{Line, IsScript, steps_of, answers_of}
use Rattle.fdb_machine.specs.headline.Traces.{after_step, after_steps}
use Rattle.fdb_machine.specs.machine.ClientSteps.{answered_by, reads, writes, submits, fault_after, reply_after}
use Rattle.fdb_machine.specs.machine.CommitProxySteps.{answers, is_idle, is_reported, replies_from, placed_from}
use Rattle.fdb_machine.specs.machine.GrvProxySteps.{asks, grants}
use Rattle.fdb_machine.specs.machine.Machine.{Machine, Transition, found, refused_where, refused_by, with_open}
use Rattle.fdb_machine.specs.machine.Roles as roles
use Rattle.fdb_machine.specs.machine.Sessions.{Session, SessionState, Sessions, Idle, Asking, Open, Waiting}
use Rattle.fdb_machine.specs.machine.Sessions.{new_session, session_of, is_busy, has_used_up, begins_next, open_of}
use Rattle.fdb_machine.specs.machine.Sessions.{serve, tell_all}
use Rattle.fdb_machine.specs.machine.Steps.{next, answer_of, after}
use Rattle.fdb_machine.specs.machine.Failures.{State, none_failed}
use Rattle.fdb_machine.specs.machine.Worlds.{taken_of, start, IsRun}
use Rattle.fdb_machine.proofs.headline.FailureLemmas.{none-taken}
use Rattle.fdb_machine.proofs.machine.SessionMaps.{session-put, session-new}
use Rattle.fdb_machine.specs.declared.step.Answered.{Answered}
use Rattle.fdb_machine.specs.declared.step.Answered.TheVariants as answered
use Rattle.fdb_machine.specs.machine.AnyStep.{Step}
use Rattle.fdb_machine.specs.declared.step.AnyStep.TheVariants as step

-- sessions with their numbers, the last one that changed first
abbrev Known : Type 0
Known = List (ℕ × Session)

-- the session with the number
abbrev among : Known → ℕ → Session
among [] number = new_session
among (one ∷ others) number = cond (number == one.0) one.1 (among others number)

-- the map of them
abbrev sessions_of : Known → Sessions
sessions_of [] = empty
sessions_of (one ∷ others) = insert (sessions_of others) one.0 one.1

among-is : (known : Known) (number : ℕ) → session_of (sessions_of known) number ≡ among known number
among-is [] number = session-new number
among-is (one ∷ others) number =
    session-put (sessions_of others) one.0 one.1 number ∙ ap (cond (number == one.0) one.1) (among-is others number)

-- one of them at another state
abbrev at : Known → ℕ → SessionState → Known
at known number state = (number, record { last_number = (among known number).last_number; state = state }) ∷ known

-- some of them are served
abbrev serves : ℕ → Known → List ℕ → Known
serves version known [] = known
serves version known (number ∷ numbers) =
    serves version ((number, begins_next version number (among known number)) ∷ known) numbers

serves-is : (version : ℕ) (known : Known) (numbers : List ℕ)
    → fold (serve version) (sessions_of known) numbers ≡ sessions_of (serves version known numbers)
serves-is version known [] = refl
serves-is version known (number ∷ numbers) =
    ap (λ (session : Session). fold (serve version)
    (insert (sessions_of known) number (begins_next version number session)) numbers) (among-is known number)
    ∙ serves-is version ((number, begins_next version number (among known number)) ∷ known) numbers

-- some of them are told
abbrev tells : Known → List ℕ → Known
tells known [] = known
tells known (number ∷ numbers) = tells (at known number Idle) numbers

-- whose the transcripts are
abbrev whose : List Transcript → List ℕ
whose transcripts = map (λ (transcript : Transcript). transcript.id.session) transcripts

tells-is : (known : Known) (transcripts : List Transcript)
    → tell_all transcripts (sessions_of known) ≡ sessions_of (tells known (whose transcripts))
tells-is known [] = refl
tells-is known (transcript ∷ transcripts) =
    ap (λ (session : Session). tell_all transcripts
    (insert (sessions_of known) transcript.id.session (record { last_number = session.last_number; state = Idle })))
    (among-is known transcript.id.session)
    ∙ tells-is (at known transcript.id.session Idle) transcripts

-- some of them have no number left
abbrev none_left : Known → List ℕ → Bool
none_left known numbers = list_any (λ (number : ℕ). has_used_up (among known number).last_number) numbers

none_left-is : (known : Known) (numbers : List ℕ)
    → list_any (λ (number : ℕ). has_used_up (session_of (sessions_of known) number).last_number) numbers
    ≡ none_left known numbers
none_left-is known [] = refl
none_left-is known (number ∷ numbers) =
    ap₂ (λ (session : Session) (others : Bool). has_used_up session.last_number || others) (among-is known number)
    (none_left-is known numbers)

-- what stands at a point after the run's places
abbrev value_in_run : List Point → Point → List Place → Option (List ℕ)
value_in_run splits x [] = None
value_in_run splits x (place ∷ earlier) =
    if committed splits earlier place then fold (value_after x) (value_in_run splits x earlier) (stamped_at place)
    else value_in_run splits x earlier

value_in_run-is : (splits : List Point) (x : Point) (places : List Place)
    → get (serial_map splits places) x ≡ value_in_run splits x places
value_in_run-is splits x [] = get-empty {X = List ℕ} (slice_cmp nat_cmp) x
value_in_run-is splits x (place ∷ earlier) =
    by_commit (committed splits earlier place) (value_in_run-is splits x earlier)
  where
    by_commit : (commits : Bool) → get (serial_map splits earlier) x ≡ value_in_run splits x earlier
        → get (if commits then effects (serial_map splits earlier) (stamped_at place)
        else serial_map splits earlier) x
        ≡ (if commits then fold (value_after x) (value_in_run splits x earlier) (stamped_at place)
        else value_in_run splits x earlier)
    by_commit true same =
        get-effects (serial_map splits earlier) (stamped_at place) x
        ∙ ap (λ (value : Option (List ℕ)). fold (value_after x) value (stamped_at place)) same
    by_commit false same = same

-- the reply to a read of a key by an open transaction
abbrev value_read : Machine → Transcript → Point → Reply
value_read m transcript x = reply.Value (fold (value_after_op x)
    (value_in_run m.config.resolver_splits x (up_to transcript.read_version (seen_of m.book).places)) transcript.ops)

value_read-is : (m : Machine) (transcript : Transcript) (key : Point) (snapshot : Bool)
    → reply_after m transcript (op.Get key snapshot) ≡ value_read m transcript key
value_read-is m transcript key snapshot =
    ap reply.Value (get-copy _ transcript.ops key
    ∙ ap (λ (value : Option (List ℕ)). fold (value_after_op key) value transcript.ops)
    (value_in_run-is m.config.resolver_splits key (up_to transcript.read_version (seen_of m.book).places)))

-- Each step that looks up sessions, with them looked up in another way: by what stands there, which doesn't change
-- what the step does where it is what the map has.
module _ (known : Known) (m : Machine) where
  abbrev there : ℕ → Session
  there number = among known number

  -- the machine with other sessions
  abbrev with_sessions : Known → Machine
  with_sessions others = record m { sessions = sessions_of others }

  abbrev asks_by : ℕ → ℕ → Result Transition Refusal
  asks_by session proxy = found (slice_get m.grv_proxies proxy) (λ asking.
      refused_where (is_busy (there session).state) WrongState
      (Ok (record {
        answer = answered.Done;
        next = record m {
          sessions = sessions_of (at known session Asking);
          grv_proxies = slice_set m.grv_proxies proxy (asking ++ session ∷ []);
        };
      })))

  abbrev grants_by : ℕ → Result Transition Refusal
  grants_by proxy = found (slice_get m.grv_proxies proxy) (λ asking.
      refused_where (none_left known asking) Exhausted
      (Ok (record {
        answer = answered.Granted (map (λ session. (session, m.committed)) asking);
        next = record m {
          sessions = sessions_of (serves m.committed known asking);
          grv_proxies = slice_set m.grv_proxies proxy [];
        };
      })))

  -- the open transaction gets one operation more
  abbrev notes_by : ℕ → Transcript → Op → Reply → Machine
  notes_by session transcript operation said =
      with_sessions (at known session (Open (with_op transcript operation said)))

  abbrev gets_by : ℕ → Point → Bool → Result Transition Refusal
  gets_by session key snapshot = with_open (open_of (there session).state) (λ transcript.
      refused_by (fault_after m transcript (op.Get key snapshot))
      (Ok (record {
        answer = answered_by (value_read m transcript key);
        next = notes_by session transcript (op.Get key snapshot) (value_read m transcript key);
      })))

  abbrev writes_by : ℕ → Mutation → Result Transition Refusal
  writes_by session mutation = with_open (open_of (there session).state) (λ transcript.
      refused_by (mutation_fault mutation)
      (Ok (record {
        answer = answered.Done;
        next = notes_by session transcript (op.Write mutation) reply.Done;
      })))

  abbrev submits_by : ℕ → ℕ → Result Transition Refusal
  submits_by session proxy = found (slice_get m.commit_proxies proxy) (λ commit_proxy.
      with_open (open_of (there session).state) (λ transcript.
      if is_read_only transcript
      then Ok (record {
        answer = answered.ReadOnly transcript.read_version;
        next = record m {
          sessions = sessions_of (at known session Idle);
          acknowledged = m.acknowledged ++ record
              { spot = spot.ReadOnly transcript.read_version; transcript = transcript } ∷ [];
        };
      })
      else refused_by (size_fault (commit_request_of transcript)) (Ok (record {
        answer = answered.Done;
        next = record m {
          sessions = sessions_of (at known session Waiting);
          commit_proxies = slice_set m.commit_proxies proxy
              (record commit_proxy { waiting = commit_proxy.waiting ++ transcript ∷ [] });
        };
      }))))

  -- the clients are told, and these are the sessions after it
  abbrev answers_with : ℕ → (List Transcript → Sessions) → Result Transition Refusal
  answers_with proxy sessions = found (slice_get m.commit_proxies proxy) (λ commit_proxy.
      refused_where (is_idle commit_proxy.stage) WrongState
      (found (slice_get m.book commit_proxy.entry) (λ entry.
      let outcomes = outcomes_on m.config.resolver_splits (seen_before m.book commit_proxy.entry) entry in
      refused_where (not (is_reported commit_proxy.stage)) (NotYet entry.version)
      (Ok (record {
        answer = answered.Answers (replies_from commit_proxy.in_flight outcomes);
        next = record m {
          acknowledged = m.acknowledged ++ placed_from commit_proxy.entry commit_proxy.in_flight outcomes;
          sessions = sessions commit_proxy.in_flight;
          commit_proxies = slice_set m.commit_proxies proxy
              (record commit_proxy { in_flight = []; stage = roles.Idle; acknowledgements_received = [] });
        };
      })))))

  abbrev next_by : Step → Result Transition Refusal
  next_by (step.Ask session proxy) = asks_by session proxy
  next_by (step.Grant proxy) = grants_by proxy
  next_by (step.Get session key snapshot) = gets_by session key snapshot
  next_by (step.Write session mutation) = writes_by session mutation
  next_by (step.Submit session proxy) = submits_by session proxy
  next_by (step.Answer proxy) = answers_with proxy
      (λ transcripts. sessions_of (tells known (whose transcripts)))
  next_by (step.GetRange session range limit is_reverse snapshot) =
      next m (step.GetRange session range limit is_reverse snapshot)
  next_by (step.AddRead session range) = next m (step.AddRead session range)
  next_by (step.AddWrite session range) = next m (step.AddWrite session range)
  next_by (step.Seal proxy advance) = next m (step.Seal proxy advance)
  next_by (step.Resolve entry resolver) = next m (step.Resolve entry resolver)
  next_by (step.Verdict entry resolver) = next m (step.Verdict entry resolver)
  next_by (step.Decide proxy) = next m (step.Decide proxy)
  next_by (step.Push entry log) = next m (step.Push entry log)
  next_by (step.Logged entry log) = next m (step.Logged entry log)
  next_by (step.Report proxy) = next m (step.Report proxy)
  next_by (step.Pull shard limit) = next m (step.Pull shard limit)
  next_by (step.Forget shard version) = next m (step.Forget shard version)
  next_by (step.Pop shard) = next m (step.Pop shard)
  next_by (step.Move range to) = next m (step.Move range to)
  next_by (step.Window window) = next m (step.Window window)

same_found : {A : Type 0} (there : Option A) (one other : A → Result Transition Refusal)
    → ((x : A) → one x ≡ other x) → found there one ≡ found there other
same_found None one other same = refl
same_found (Some x) one other same = same x

same_open : (there : Option Transcript) (one other : Transcript → Result Transition Refusal)
    → ((x : Transcript) → one x ≡ other x) → with_open there one ≡ with_open there other
same_open None one other same = refl
same_open (Some x) one other same = same x

module _ (known : Known) (before : Machine) where
  abbrev m : Machine
  m = record before { sessions = sessions_of known }

  -- a result that hangs on what is looked up of a session is that by what stands there
  looked_up : (result : Session → Result Transition Refusal) (number : ℕ)
      → result (session_of (sessions_of known) number) ≡ result (among known number)
  looked_up result number = ap result (among-is known number)

  ask-is : (session proxy : ℕ) → asks m session proxy ≡ asks_by known m session proxy
  unfolding asks
  ask-is session proxy = looked_up (λ (there : Session). found (slice_get m.grv_proxies proxy) (λ asking.
      refused_where (is_busy there.state) WrongState
      (Ok (record {
        answer = answered.Done;
        next = record m {
          sessions = insert (sessions_of known) session
              (record { last_number = there.last_number; state = Asking });
          grv_proxies = slice_set m.grv_proxies proxy (asking ++ session ∷ []);
        };
      })))) session

  grant-is : (proxy : ℕ) → grants m proxy ≡ grants_by known m proxy
  unfolding grants
  grant-is proxy = same_found (slice_get m.grv_proxies proxy) _ _ (λ asking.
      ap₂ (λ (used_up : Bool) (sessions : Sessions). refused_where used_up Exhausted
      (Ok (record {
        answer = answered.Granted (map (λ session. (session, m.committed)) asking);
        next = record m { sessions = sessions; grv_proxies = slice_set m.grv_proxies proxy [] };
      })))
      (none_left-is known asking) (serves-is m.committed known asking))

  -- the session's state by which its last number stays and what is open is known
  module _ (session : ℕ) where
    abbrev noted : Session → SessionState → Machine
    noted there state = record m {
      sessions = insert (sessions_of known) session (record { last_number = there.last_number; state = state });
    }

    get-is : (key : Point) (snapshot : Bool)
        → reads m session (op.Get key snapshot) ≡ gets_by known m session key snapshot
    unfolding reads
    get-is key snapshot =
        looked_up (λ (there : Session). with_open (open_of there.state) (λ transcript.
        refused_by (fault_after m transcript (op.Get key snapshot))
        (Ok (record {
          answer = answered_by (reply_after m transcript (op.Get key snapshot));
          next = noted there (Open
              (with_op transcript (op.Get key snapshot) (reply_after m transcript (op.Get key snapshot))));
        })))) session
        ∙ same_open (open_of (among known session).state) _ _ (λ transcript. ap (λ (said : Reply).
        refused_by (fault_after m transcript (op.Get key snapshot))
        (Ok (record {
          answer = answered_by said;
          next = noted (among known session) (Open (with_op transcript (op.Get key snapshot) said));
        }))) (value_read-is m transcript key snapshot))

    write-is : (mutation : Mutation) → writes m session mutation ≡ writes_by known m session mutation
    unfolding writes
    write-is mutation = looked_up (λ (there : Session). with_open (open_of there.state) (λ transcript.
        refused_by (mutation_fault mutation)
        (Ok (record {
          answer = answered.Done;
          next = noted there (Open (with_op transcript (op.Write mutation) reply.Done));
        })))) session

    submit-is : (proxy : ℕ) → submits m session proxy ≡ submits_by known m session proxy
    unfolding submits
    submit-is proxy = looked_up (λ (there : Session). found (slice_get m.commit_proxies proxy) (λ commit_proxy.
        with_open (open_of there.state) (λ transcript.
        if is_read_only transcript
        then Ok (record {
          answer = answered.ReadOnly transcript.read_version;
          next = record (noted there Idle) {
            acknowledged = m.acknowledged ++ record
                { spot = spot.ReadOnly transcript.read_version; transcript = transcript } ∷ [];
          };
        })
        else refused_by (size_fault (commit_request_of transcript)) (Ok (record {
          answer = answered.Done;
          next = record (noted there Waiting) {
            commit_proxies = slice_set m.commit_proxies proxy
                (record commit_proxy { waiting = commit_proxy.waiting ++ transcript ∷ [] });
          };
        }))))) session

  answer-is : (proxy : ℕ) → answers m proxy
      ≡ answers_with known m proxy (λ transcripts. sessions_of (tells known (whose transcripts)))
  unfolding answers
  answer-is proxy = same_found (slice_get m.commit_proxies proxy) _ _ (λ commit_proxy.
      ap (λ (sessions : Sessions).
      refused_where (is_idle commit_proxy.stage) WrongState
      (found (slice_get m.book commit_proxy.entry) (λ entry.
      refused_where (not (is_reported commit_proxy.stage)) (NotYet entry.version)
      (Ok (record {
        answer = answered.Answers (replies_from commit_proxy.in_flight (outcomes_of commit_proxy.entry entry));
        next = record m {
          acknowledged = m.acknowledged ++ placed_from commit_proxy.entry commit_proxy.in_flight
              (outcomes_of commit_proxy.entry entry);
          sessions = sessions;
          commit_proxies = slice_set m.commit_proxies proxy
              (record commit_proxy { in_flight = []; stage = roles.Idle; acknowledgements_received = [] });
        };
      }))))) (tells-is known commit_proxy.in_flight))
    where
      outcomes_of : ℕ → Entry → List Outcome
      outcomes_of index entry = outcomes_on before.config.resolver_splits (seen_before before.book index) entry

  next-is : (step : Step) → next m step ≡ next_by known m step
  next-is (step.Ask session proxy) = ask-is session proxy
  next-is (step.Grant proxy) = grant-is proxy
  next-is (step.Get session key snapshot) = get-is session key snapshot
  next-is (step.Write session mutation) = write-is session mutation
  next-is (step.Submit session proxy) = submit-is session proxy
  next-is (step.Answer proxy) = answer-is proxy
  next-is (step.GetRange session range limit is_reverse snapshot) = refl
  next-is (step.AddRead session range) = refl
  next-is (step.AddWrite session range) = refl
  next-is (step.Seal proxy advance) = refl
  next-is (step.Resolve entry resolver) = refl
  next-is (step.Verdict entry resolver) = refl
  next-is (step.Decide proxy) = refl
  next-is (step.Push entry log) = refl
  next-is (step.Logged entry log) = refl
  next-is (step.Report proxy) = refl
  next-is (step.Pull shard limit) = refl
  next-is (step.Forget shard version) = refl
  next-is (step.Pop shard) = refl
  next-is (step.Move range to) = refl
  next-is (step.Window window) = refl

-- the same of a machine that has these sessions
next-known : (known : Known) (m : Machine) (step : Step) → m.sessions ≡ sessions_of known
    → next m step ≡ next_by known m step
next-known known m step has =
    subst (λ (sessions : Sessions). next (record m { sessions = sessions }) step
    ≡ next_by known (record m { sessions = sessions }) step) (sym has) (next-is known m step)

-- The sessions after a step, by its answer. Of the steps that no script here has nothing is read.
abbrev open_after : Known → ℕ → Op → Reply → Known
open_after known session operation said = by_open (open_of (among known session).state)
  where
    by_open : Option Transcript → Known
    by_open None = known
    by_open (Some transcript) = at known session (Open (with_op transcript operation said))

abbrev after_told : Known → Step → Answered → Known
after_told known (step.Ask session proxy) said = at known session Asking
after_told known (step.Grant proxy) (answered.Granted served) = granted known served
  where
    granted : Known → List (ℕ × ℕ) → Known
    granted known [] = known
    granted known (one ∷ others) =
        granted ((one.0, begins_next one.1 one.0 (among known one.0)) ∷ known) others
after_told known (step.Get session key snapshot) (answered.Value value) =
    open_after known session (op.Get key snapshot) (reply.Value value)
after_told known (step.Write session mutation) said = open_after known session (op.Write mutation) reply.Done
after_told known (step.Submit session proxy) (answered.ReadOnly version) = at known session Idle
after_told known (step.Submit session proxy) answered.Done = at known session Waiting
after_told known (step.Answer proxy) (answered.Answers replies) =
    tells known (map (λ (one : ℕ × Outcome). one.0) replies)
after_told known step said = known

abbrev after_line : Known → Step → Result Answered Refusal → Known
after_line known step (Ok said) = after_told known step said
after_line known step (Err why) = known

-- what each step of a list answers, and the sessions that it leaves
abbrev shown : Known → Machine → List Step → List (Result Answered Refusal)
    → List (Result Answered Refusal × Sessions)
shown known m [] answers = []
shown known m (step ∷ steps) [] = []
shown known m (step ∷ steps) (answer ∷ answers) =
    let result = next_by known m step in
    (answer_of result, (after m result).sessions)
    ∷ shown (after_line known step answer) (after m result) steps answers

-- what a list tells of it
abbrev listed : Known → List Step → List (Result Answered Refusal) → List (Result Answered Refusal × Sessions)
listed known [] answers = []
listed known (step ∷ steps) [] = []
listed known (step ∷ steps) (answer ∷ answers) =
    let later = after_line known step answer in
    (answer, sessions_of later) ∷ listed later steps answers

-- a step that answered so left the machine after it
after-is : (m : Machine) (step : Step) (answer : Result Answered Refusal) → answer_of (next m step) ≡ answer
    → after m (next m step) ≡ after_step m step answer
after-is m step (Ok said) answers = refl
after-is m step (Err why) answers = unchanged (next m step) answers
  where
    unchanged : (result : Result Transition Refusal) → answer_of result ≡ Err why → after m result ≡ m
    unchanged (Ok transition) said = cc
    unchanged (Err refusal) said = refl

-- the first state after which the machine is this one, where no role has failed
abbrev at_start : Config → Machine → State
at_start config m = record { machine = m; failed = none_failed config }

-- where these agree, the list is a run
follows : (config : Config) (known : Known) (m : Machine) (steps : List Step) (answers : List (Result Answered Refusal))
    → m.sessions ≡ sessions_of known → length steps ≡ length answers
    → shown known m steps answers ≡ listed known steps answers
    → IsRun (at_start config m) steps answers (at_start config (after_steps m steps answers))
follows config known m [] [] has even agree = refl
follows config known m [] (answer ∷ answers) has even agree = absurd (omega (arith, even))
follows config known m (step ∷ steps) [] has even agree = absurd (omega (arith, even))
follows config known m (step ∷ steps) (answer ∷ answers) has even agree =
    let taken : next m step ≡ next_by known m step = next-known known m step has in
    let later : Known = after_line known step answer in
    let result : Result Transition Refusal = next_by known m step in
    let firsts : (answer_of result, (after m result).sessions) ≡ (answer, sessions_of later) = heads agree in
    let answered : answer_of (next m step) ≡ answer = ap answer_of taken ∙ ap (λ p. p.0) firsts in
    let unused : taken_of (at_start config m) step ≡ next m step = none-taken config m step in (
      at_start config (after m result),
      inl (
        sym answered ∙ ap answer_of (sym unused),
        ap (λ (r : Result Transition Refusal). at_start config (after m r)) (sym (unused ∙ taken)),
      ),
      subst (λ (last : Machine). IsRun (at_start config (after m result)) steps answers
          (at_start config (after_steps last steps answers)))
          (ap (after m) (sym taken) ∙ after-is m step answer answered)
          (follows config later (after m result) steps answers (ap (λ p. p.1) firsts) (omega (arith, even))
          (tails agree)),
    )
  where
    heads : {A : Type 0} {x y : A} {xs ys : List A} → x ∷ xs ≡ y ∷ ys → x ≡ y
    heads same = cc

    tails : {A : Type 0} {x y : A} {xs ys : List A} → x ∷ xs ≡ y ∷ ys → xs ≡ ys
    tails same = cc

as_many : (lines : List Line) → length (steps_of lines) ≡ length (answers_of lines)
as_many [] = refl
as_many (line ∷ lines) = ap suc (as_many lines)

-- a script that computes is a trace
pub computes : (config : Config) (lines : List Line)
    → shown [] (start config) (steps_of lines) (answers_of lines) ≡ listed [] (steps_of lines) (answers_of lines)
    → IsScript config lines
computes config lines agree =
    follows config [] (start config) (steps_of lines) (answers_of lines) refl (as_many lines) agree
