-- What an accepted step answers, by what the trace told before it.
use Rattle.std.specs.Prelude.{◌≡◌, ◌↔◌, ◌<◌, ◌≤◌, ℕ, suc, ◌+◌, Bool, true, false, min, max, nat_le, List, [], ◌∷◌, ◌++◌}
use Rattle.std.specs.Prelude.{length, map, take, Option, Some, Result, Ok, slice_get}
use Rattle.std.specs.List.{AllByRecursion, Contains, count_by}
use Rattle.std.specs.FinMap.{get}
use Rattle.fdb_keys.specs.declared.refusal.Refusal.{Refusal}
use Rattle.fdb_keys.specs.Points.{Point}
use Rattle.fdb_keys.specs.Ranges.{Range}
use Rattle.fdb_mutations.specs.PairLaws.{given_of, scanned_of}
use Rattle.fdb_txn.specs.Limits.{place_limit, window}
use Rattle.fdb_txn.specs.declared.entry.Entry.{Entry}
use Rattle.fdb_txn.specs.declared.spot.Spot.TheVariants as spot
use Rattle.fdb_txn.specs.book.Book.{Place, seen_of, last_version}
use Rattle.fdb_txn.specs.book.Places.{place_at}
use Rattle.fdb_txn.specs.rules.Admission.{is_fresh, admits, committed}
use Rattle.fdb_txn.specs.rules.Owners.{is_asked}
use Rattle.fdb_txn.specs.rules.SerialMap.{serial_map_at}
use Rattle.fdb_resolver.specs.declared.verdict.Verdict.{Verdict}
use Rattle.fdb_resolver.specs.declared.verdict.Verdict.TheVariants as verdict
use Rattle.fdb_sequencer.specs.Sequencer.{next_version}
use Rattle.fdb_log.specs.Messages.{log_of}
use Rattle.fdb_proxy.specs.declared.config.Config.{Config}
use Rattle.fdb_proxy.specs.declared.outcome.Outcome.{Outcome}
use Rattle.fdb_client.specs.declared.program.Transcript.{Transcript}
use Rattle.fdb_client.specs.Programs.{program, copy, commit_request_of}
use Rattle.fdb_client.specs.Unreadable.{unreadable, unreadable_in}
use Rattle.fdb_roles.specs.Spots.{WroteNothing}
use Rattle.fdb_roles.specs.Outcomes.{IsByRule}
use Rattle.fdb_roles.specs.declared.placed.Placed.{Placed}
use Rattle.fdb_machine.specs.headline.Readings.{Readings, SealedBatch, read, readings_of, is_of_session, of_session}
use Rattle.fdb_machine.specs.headline.Traces.{IsTraceOf}
use Rattle.fdb_machine.specs.machine.Failures.{State}
use Rattle.fdb_machine.specs.declared.step.Answered.{Answered}
use Rattle.fdb_machine.specs.declared.step.Answered.TheVariants as answered
use Rattle.fdb_machine.specs.machine.AnyStep.{Step}
use Rattle.fdb_machine.specs.declared.step.AnyStep.TheVariants as step

-- The client of place p of a batch is told, by its session, what became of its transaction by the rule, and the
-- transaction is acknowledged there exactly where it is committed.
pub record IsReply (splits : List Point) (book : List Entry) (batch : SealedBatch) (told : List (ℕ × Outcome))
    (acknowledged : List Placed) (p : ℕ) (transcript : Transcript) : Type 0 where
  pub there : Place × List Place
  pub there_is : place_at book batch.entry p ≡ Some there
  pub asked : there.0.transaction ≡ commit_request_of transcript
  pub became : Outcome
  pub by_rule : IsByRule splits there p became
  pub told_so : slice_get told p ≡ Some (transcript.id.session, became)
  pub acknowledged_there : Contains acknowledged
      (record { spot = spot.Entry batch.entry p there.0.version; transcript = transcript })
      ↔ (committed splits there.1 there.0 ≡ true)

-- A batch has the transactions of its entry, of each session one at most. Each client is told once, by place, and then
-- these are acknowledged.
pub record AreReplies (splits : List Point) (book : List Entry) (batch : SealedBatch) (told : List (ℕ × Outcome))
    (acknowledged : List Placed) : Type 0 where
  pub entry : Entry
  pub entry_is : slice_get book batch.entry ≡ Some entry
  pub all_places : entry.batch ≡ map commit_request_of batch.transcripts
  pub one_each : (session : ℕ) → count_by (is_of_session session) batch.transcripts ≤ 1
  pub each_once : length told ≡ length batch.transcripts
  pub replies : (p : ℕ) (transcript : Transcript) → slice_get batch.transcripts p ≡ Some transcript
      → IsReply splits book batch told acknowledged p transcript

-- the session has this transaction open
abbrev pub HasOpened : Readings → ℕ → Transcript → Type 0
HasOpened r session transcript = of_session session r.opened ≡ transcript ∷ []

-- What a resolver says of a place after the places before it by the rule: that it is old exactly where it isn't fresh,
-- yes exactly where the resolver admits it, and else that it conflicts.
pub record IsVerdictByRule (splits : List Point) (resolver : ℕ) (there : Place × List Place) (said : Verdict) : Type 0
  where
    pub is_old : (said ≡ verdict.Old) ↔ (is_fresh there.0 ≡ false)
    pub admits_it : (said ≡ verdict.Yes)
        ↔ ((is_fresh there.0 ≡ true) × (admits splits resolver there.1 there.0 ≡ true))
    pub conflicts : (said ≡ verdict.Conflict)
        ↔ ((is_fresh there.0 ≡ true) × (admits splits resolver there.1 there.0 ≡ false))

module _ (config : Config) (r : Readings) where
  abbrev splits : List Point
  splits = config.resolver_splits

  -- the resolver is asked about a place of the entry
  abbrev pub IsAskedAt : ℕ → ℕ → ℕ → Place × List Place → Type 0
  IsAskedAt entry resolver p there =
      (place_at r.book entry p ≡ Some there) × (is_asked splits resolver there.0 ≡ true)

  -- A resolver takes the entry that comes after those that it took. By place it says of each that it is asked about
  -- what the rule says, and nothing of another one.
  pub record IsResolved (entry resolver : ℕ) (given : List (ℕ × Verdict)) : Type 0 where
    pub is_there : entry < length r.book
    pub exists : resolver < suc (length splits)
    pub its_turn : r.progress.resolved resolver ≡ entry
    pub by_place : (i j : ℕ) (one other : ℕ × Verdict) → i < j → slice_get given i ≡ Some one
        → slice_get given j ≡ Some other → one.0 < other.0
    pub by_rule : (p : ℕ) (said : Verdict) → Contains given (p, said)
        → (there : Place × List Place) × IsAskedAt entry resolver p there × IsVerdictByRule splits resolver there said
    pub of_each : (p : ℕ) (there : Place × List Place) → IsAskedAt entry resolver p there
        → (said : Verdict) × Contains given (p, said)

  -- The verdicts of a resolver that took the entry reach the proxy that waits for verdicts on it, which hadn't them.
  pub record IsVerdictDue (entry resolver : ℕ) : Type 0 where
    pub took : entry < r.progress.resolved resolver
    pub proxy : ℕ
    pub waits : r.progress.resolving proxy ≡ Some entry
    pub once : r.progress.verdicts_came entry resolver ≡ false

  -- A proxy decides the entry on which it waits for verdicts, once those came of each resolver that is asked about a
  -- place. Of each place it says what became of it by the rule.
  pub record IsDecided (proxy : ℕ) (outcomes : List Outcome) : Type 0 where
    pub number : ℕ
    pub waits : r.progress.resolving proxy ≡ Some number
    pub entry : Entry
    pub entry_is : slice_get r.book number ≡ Some entry
    pub came : (resolver p : ℕ) (there : Place × List Place) → resolver < suc (length splits)
        → IsAskedAt number resolver p there → r.progress.verdicts_came number resolver ≡ true
    pub all_places : length outcomes ≡ length entry.batch
    pub by_rule : (p : ℕ) (there : Place × List Place) → place_at r.book number p ≡ Some there
        → (became : Outcome) × (slice_get outcomes p ≡ Some became) × IsByRule splits there p became

  -- a log takes the entry that comes after those that it took, once that is decided
  pub record IsPushed (entry log : ℕ) : Type 0 where
    pub is_there : entry < length r.book
    pub exists : log < config.logs
    pub its_turn : r.progress.logged log ≡ entry
    pub decided : r.progress.decided entry ≡ true

  -- The acknowledgement of a log that took the entry reaches the proxy that waits for acknowledgements of it, which
  -- hadn't it.
  pub record IsAcknowledgementDue (entry log : ℕ) : Type 0 where
    pub took : entry < r.progress.logged log
    pub proxy : ℕ
    pub waits : r.progress.logging proxy ≡ Some entry
    pub once : r.progress.acknowledgements_came entry log ≡ false

  -- how many entries the shard has: those up to the version that it reached
  abbrev pub entries_of_shard : ℕ → ℕ
  entries_of_shard shard = count_by (λ (entry : Entry). nat_le entry.version (r.progress.reached shard)) r.book

  -- a shard has the next entries that its log took, as many as the limit at most, and answers the version of the last
  abbrev pub IsPulled : ℕ → ℕ → ℕ → Type 0
  IsPulled shard limit version =
      let has = r.progress.logged (log_of config.logs shard) in
      version ≡ last_version (take (min has (entries_of_shard shard + limit)) r.book)

  -- A read answers what stands at the key after the transaction's own operations, executed on the serial map at its
  -- read version. These don't leave the key unreadable.
  abbrev pub IsRead : ℕ → List ℕ → Option (List ℕ) → Type 0
  IsRead session key value =
      (transcript : Transcript) × HasOpened r session transcript
      × (unreadable (program transcript.ops) key ≡ false) × (value ≡ get
      (copy (serial_map_at splits transcript.read_version (seen_of r.book).places) (program transcript.ops)) key)

  -- A read of a range answers its pairs after the transaction's own operations, executed on the serial map at its read
  -- version. These leave no key unreadable of what it scans there.
  abbrev pub IsReadRange : ℕ → Range → ℕ → Bool → List (Point × List ℕ) → Type 0
  IsReadRange session range limit is_reverse pairs =
      (transcript : Transcript) × HasOpened r session transcript
      × (let copied = copy (serial_map_at splits transcript.read_version (seen_of r.book).places)
      (program transcript.ops) in
      (unreadable_in (program transcript.ops) (scanned_of copied range limit is_reverse) ≡ false)
      × (pairs ≡ given_of copied range limit is_reverse))

  -- a transaction that is done when it is submitted wrote nothing, and is told its read version
  abbrev pub IsReadOnly : ℕ → ℕ → Type 0
  IsReadOnly session version =
      (transcript : Transcript) × HasOpened r session transcript × (version ≡ transcript.read_version)
      × WroteNothing transcript

  -- an entry has the number of those before it, the version of the last of them as the previous one, the next version,
  -- and as many places as wait at the proxy, or as a batch may have
  abbrev pub IsIssued : ℕ → ℕ → ℕ → ℕ → ℕ → ℕ → Type 0
  IsIssued proxy advance index version prev places =
      (index ≡ length r.book) × (prev ≡ last_version r.book) × (version ≡ next_version prev advance)
      × (places ≡ length (take place_limit (r.waiting proxy)))

  abbrev pub IsAnswered : Step → Answered → Type 0
  IsAnswered (step.Ask session proxy) answer = answer ≡ answered.Done
  -- whom a grant serves, it gives the greatest version that was reported
  IsAnswered (step.Grant proxy) (answered.Granted served) =
      AllByRecursion (λ (grant : ℕ × ℕ). grant.1 ≡ r.reported) served
  IsAnswered (step.Grant proxy) answer = ⊥
  IsAnswered (step.Get session key snapshot) (answered.Value value) = IsRead session key value
  IsAnswered (step.Get session key snapshot) answer = ⊥
  IsAnswered (step.GetRange session range limit is_reverse snapshot) (answered.Pairs pairs) =
      IsReadRange session range limit is_reverse pairs
  IsAnswered (step.GetRange session range limit is_reverse snapshot) answer = ⊥
  IsAnswered (step.Write session mutation) answer = answer ≡ answered.Done
  IsAnswered (step.AddRead session range) answer = answer ≡ answered.Done
  IsAnswered (step.AddWrite session range) answer = answer ≡ answered.Done
  IsAnswered (step.Submit session proxy) (answered.ReadOnly version) = IsReadOnly session version
  IsAnswered (step.Submit session proxy) answer = answer ≡ answered.Done
  IsAnswered (step.Seal proxy advance) (answered.Issued index version prev places) =
      IsIssued proxy advance index version prev places
  IsAnswered (step.Seal proxy advance) answer = ⊥
  IsAnswered (step.Resolve entry resolver) (answered.Verdicts given) = IsResolved entry resolver given
  IsAnswered (step.Resolve entry resolver) answer = ⊥
  IsAnswered (step.Verdict entry resolver) answer = (answer ≡ answered.Done) × IsVerdictDue entry resolver
  IsAnswered (step.Decide proxy) (answered.Decided outcomes) = IsDecided proxy outcomes
  IsAnswered (step.Decide proxy) answer = ⊥
  IsAnswered (step.Push entry log) answer = (answer ≡ answered.Done) × IsPushed entry log
  IsAnswered (step.Logged entry log) answer = (answer ≡ answered.Done) × IsAcknowledgementDue entry log
  -- a report answers the greatest version that was reported, with its own
  IsAnswered (step.Report proxy) answer = answer ≡ answered.Version (max r.reported (r.sealed proxy).version)
  IsAnswered (step.Answer proxy) (answered.Answers told) =
      AreReplies splits r.book (r.sealed proxy) told (read r (step.Answer proxy) (answered.Answers told)).acknowledged
  IsAnswered (step.Answer proxy) answer = ⊥
  IsAnswered (step.Pull shard limit) (answered.Version version) = IsPulled shard limit version
  IsAnswered (step.Pull shard limit) answer = ⊥
  -- a floor is raised to a version that the shard serves, and never sinks
  IsAnswered (step.Forget shard version) answer =
      (answer ≡ answered.Version (max (r.progress.floor shard) version)) × (version ≤ r.progress.reached shard)
  -- the log drops what the shard has
  IsAnswered (step.Pop shard) answer = answer ≡ answered.Version (r.progress.reached shard)
  IsAnswered (step.Move range to) answer = answer ≡ answered.Done
  IsAnswered (step.Window width) answer = (answer ≡ answered.Done) × (1 ≤ width) × (width ≤ window)

-- over every trace each accepted step is answered so
abbrev pub AnsweredByTheTrace : Type 0
AnsweredByTheTrace =
    (config : Config) (steps : List Step) (answers : List (Result Answered Refusal)) (one_step : Step)
    (answer : Answered)
    (world : State)
    → IsTraceOf config (steps ++ one_step ∷ []) (answers ++ Ok answer ∷ []) world
    → IsAnswered config (readings_of steps answers) one_step answer
