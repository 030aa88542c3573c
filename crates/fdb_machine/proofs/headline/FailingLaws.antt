-- When roles fail and which ones, and which steps are refused for it.
use Rattle.std.proofs.Common.{◌≡◌, ◌⊎◌, ◌∙◌, refl, sym, ap, ap₂, subst, inl, inr, ⊎_elim, ℕ, zero, suc}
use Rattle.std.proofs.Common.{Bool, true, false, not, ◌&&◌, List, [], ◌∷◌, length, Option, Some, None, Result, Ok, Err}
use Rattle.std.specs.Prelude.{◌==◌, unwrap_or}
use Rattle.std.specs.List.{AllByRecursion, slice_get, slice_set}
use Rattle.std.proofs.lemmas.Bool.{cases_Bool, and_parts, and_from, or_cases, or_left, or_right, not-true}
use Rattle.std.proofs.lemmas.Bool.{true≢false}
use Rattle.fdb_keys.specs.declared.refusal.Refusal.{Refusal}
use Rattle.fdb_keys.specs.declared.refusal.Refusal.TheVariants.{Unknown, Failed}
use Rattle.fdb_keys.specs.Ranges.{Range}
use Rattle.fdb_mutations.specs.declared.mutation.Mutation.{Mutation}
use Rattle.fdb_txn.specs.rules.Owners.{first_owner}
use Rattle.fdb_log.specs.Messages.{log_of}
use Rattle.fdb_proxy.specs.declared.config.Config.{Config}
use Rattle.fdb_client.specs.declared.program.Transcript.{Transcript}
use Rattle.fdb_client.specs.declared.program.Op.{Op}
use Rattle.fdb_client.specs.declared.program.Op.TheVariants as op
use Rattle.fdb_client.specs.Programs.{program, decided, is_read_only}
use Rattle.fdb_roles.specs.Spots.{WroteNothing}
use Rattle.fdb_machine.specs.headline.Failing.{Role, ACommitProxy, AResolver, ALog, AShard, flag_of, HasFailed}
use Rattle.fdb_machine.specs.headline.Failing.{HadMemory, RolesFailForMemory, FailedRolesStayFailed}
use Rattle.fdb_machine.specs.headline.Failing.{NoneFailsWithMemory}
use Rattle.fdb_machine.specs.headline.Failing.{IsTakenBy, OnlyTheTakerFails, IsProxyOf, IsShardOrItsLog, ComesTo}
use Rattle.fdb_machine.specs.headline.Failing.{WorkingRolesAnswer, FailedRolesAnswer, AnswersAreTheMachines}
use Rattle.fdb_machine.specs.headline.Failing.{RefusedStepsLeaveTheMachine}
use Rattle.fdb_machine.specs.machine.Failures.{Failures, State, FailsIn, none_failed, has_failed_at, uses_failed}
use Rattle.fdb_machine.specs.machine.Failures.{asks_failed, reads_failed, submits_failed, tells_failed, pulls_failed}
use Rattle.fdb_machine.specs.machine.Failures.{unless_failed}
use Rattle.fdb_machine.specs.machine.Machine.{Machine, Transition, is_set}
use Rattle.fdb_machine.specs.machine.Sessions.{open_at}
use Rattle.fdb_machine.specs.machine.Steps.{next, answer_of, after}
use Rattle.fdb_machine.specs.machine.Worlds.{IsStep, IsRun, first_state, taken_of}
use Rattle.fdb_machine.proofs.headline.FailureLemmas.{none-set}
use Rattle.fdb_machine.proofs.headline.RunsLemmas.{machine-step}
use Rattle.fdb_machine.proofs.invariant.SerializedLemmas.{wrote_nothing}
use Rattle.fdb_machine.proofs.machine.RangeFaultLemmas.{begin-point, point-begin}
use Rattle.fdb_machine.specs.declared.step.Answered.{Answered}
use Rattle.fdb_machine.specs.machine.AnyStep.{Step}
use Rattle.fdb_machine.specs.declared.step.AnyStep.TheVariants as step

-- a flag that is set is there, and the other way round
set-is : (flags : List Bool) (i : ℕ) → is_set flags i ≡ true → slice_get flags i ≡ Some true
set-is [] i set = cc
set-is (true ∷ flags) zero set = refl
set-is (false ∷ flags) zero set = cc
set-is (flag ∷ flags) (suc i) set = set-is flags i set

is-set : (flags : List Bool) (i : ℕ) → slice_get flags i ≡ Some true → is_set flags i ≡ true
is-set flags i there = ap (λ (flag : Option Bool). unwrap_or flag false) there

-- a flag that isn't set isn't there as set
unset : (flags : List Bool) (i : ℕ) → is_set flags i ≡ false → slice_get flags i ≡ Some true → ⊥
unset flags i is there = true≢false (sym (is-set flags i there) ∙ is)

-- a transaction that wrote nothing is read-only
read-only : (transcript : Transcript) → WroteNothing transcript → is_read_only transcript ≡ true
read-only transcript nothing =
    ap₂ (λ (mutations : List Mutation) (writes : List Range). (length mutations == 0) && (length writes == 0))
    nothing.0 nothing.1

-- and one that wrote something isn't
writes-something : (transcript : Transcript) → (WroteNothing transcript → ⊥) → not (is_read_only transcript) ≡ true
writes-something transcript something = ⊎_elim
    (λ only. absurd (something (wrote_nothing transcript only)))
    (λ writes. ap not writes)
    (cases_Bool (is_read_only transcript))

-- setting a flag changes that one alone
set-at : (flags : List Bool) (i j : ℕ) → (slice_get (slice_set flags i true) j ≡ slice_get flags j)
    ⊎ ((j ≡ i) × (slice_get (slice_set flags i true) j ≡ Some true))
set-at [] zero j = inl refl
set-at [] (suc i) j = inl refl
set-at (flag ∷ flags) zero zero = inr (refl, refl)
set-at (flag ∷ flags) zero (suc j) = inl refl
set-at (flag ∷ flags) (suc i) zero = inl refl
set-at (flag ∷ flags) (suc i) (suc j) =
    ⊎_elim (λ same. inl same) (λ here. inr (ap suc here.0, here.1)) (set-at flags i j)

-- where a role that takes the step fails, each role is as it was, but for that one
taker-fails : (one_step : Step) (old new : Failures) → FailsIn one_step old new → (role : Role)
    → (flag_of new role ≡ flag_of old role) ⊎ (IsTakenBy one_step role × HasFailed new role)
taker-fails (step.Seal proxy advance) old new is (ACommitProxy n) = ⊎_elim
    (λ same. inl (ap (λ (f : Failures). slice_get f.commit_proxies n) is ∙ same))
    (λ here. inr (ap ACommitProxy here.0, ap (λ (f : Failures). slice_get f.commit_proxies n) is ∙ here.1))
    (set-at old.commit_proxies proxy n)
taker-fails (step.Seal proxy advance) old new is (AResolver n) =
    inl (ap (λ (f : Failures). slice_get f.resolvers n) is)
taker-fails (step.Seal proxy advance) old new is (ALog n) = inl (ap (λ (f : Failures). slice_get f.logs n) is)
taker-fails (step.Seal proxy advance) old new is (AShard n) = inl (ap (λ (f : Failures). slice_get f.shards n) is)
taker-fails (step.Resolve entry resolver) old new is (ACommitProxy n) =
    inl (ap (λ (f : Failures). slice_get f.commit_proxies n) is)
taker-fails (step.Resolve entry resolver) old new is (AResolver n) = ⊎_elim
    (λ same. inl (ap (λ (f : Failures). slice_get f.resolvers n) is ∙ same))
    (λ here. inr (ap AResolver here.0, ap (λ (f : Failures). slice_get f.resolvers n) is ∙ here.1))
    (set-at old.resolvers resolver n)
taker-fails (step.Resolve entry resolver) old new is (ALog n) = inl (ap (λ (f : Failures). slice_get f.logs n) is)
taker-fails (step.Resolve entry resolver) old new is (AShard n) = inl (ap (λ (f : Failures). slice_get f.shards n) is)
taker-fails (step.Push entry log) old new is (ACommitProxy n) =
    inl (ap (λ (f : Failures). slice_get f.commit_proxies n) is)
taker-fails (step.Push entry log) old new is (AResolver n) = inl (ap (λ (f : Failures). slice_get f.resolvers n) is)
taker-fails (step.Push entry log) old new is (ALog n) = ⊎_elim
    (λ same. inl (ap (λ (f : Failures). slice_get f.logs n) is ∙ same))
    (λ here. inr (ap ALog here.0, ap (λ (f : Failures). slice_get f.logs n) is ∙ here.1))
    (set-at old.logs log n)
taker-fails (step.Push entry log) old new is (AShard n) = inl (ap (λ (f : Failures). slice_get f.shards n) is)
taker-fails (step.Pull shard limit) old new is (ACommitProxy n) =
    inl (ap (λ (f : Failures). slice_get f.commit_proxies n) is)
taker-fails (step.Pull shard limit) old new is (AResolver n) = inl (ap (λ (f : Failures). slice_get f.resolvers n) is)
taker-fails (step.Pull shard limit) old new is (ALog n) = inl (ap (λ (f : Failures). slice_get f.logs n) is)
taker-fails (step.Pull shard limit) old new is (AShard n) = ⊎_elim
    (λ same. inl (ap (λ (f : Failures). slice_get f.shards n) is ∙ same))
    (λ here. inr (ap AShard here.0, ap (λ (f : Failures). slice_get f.shards n) is ∙ here.1))
    (set-at old.shards shard n)
taker-fails (step.Ask session proxy) old new is role = absurd is
taker-fails (step.Grant proxy) old new is role = absurd is
taker-fails (step.Get session key snapshot) old new is role = absurd is
taker-fails (step.GetRange session range limit is_reverse snapshot) old new is role = absurd is
taker-fails (step.Write session mutation) old new is role = absurd is
taker-fails (step.AddRead session range) old new is role = absurd is
taker-fails (step.AddWrite session range) old new is role = absurd is
taker-fails (step.Submit session proxy) old new is role = absurd is
taker-fails (step.Verdict entry resolver) old new is role = absurd is
taker-fails (step.Decide proxy) old new is role = absurd is
taker-fails (step.Logged entry log) old new is role = absurd is
taker-fails (step.Report proxy) old new is role = absurd is
taker-fails (step.Answer proxy) old new is role = absurd is
taker-fails (step.Forget shard version) old new is role = absurd is
taker-fails (step.Pop shard) old new is role = absurd is
taker-fails (step.Move range to) old new is role = absurd is
taker-fails (step.Window window) old new is role = absurd is

pub only_the_taker_fails : OnlyTheTakerFails
only_the_taker_fails old new one_step result stepped role = ⊎_elim
    (λ went. inl (ap (λ (state : State). flag_of state.failed role) went.1))
    (λ lacked. ⊎_elim
    (λ same. inl (ap (λ (failed : Failures). flag_of failed role) same))
    (λ fails. taker-fails one_step old.failed new.failed fails role)
    lacked.1.1)
    stepped

pub roles_fail_for_memory : RolesFailForMemory
roles_fail_for_memory old new one_step result stepped = (
  (λ had. ⊎_elim
      (λ went. ap (λ (state : State). state.failed) went.1)
      (λ lacked. absurd (had lacked.0))
      stepped),
  (λ role failed. ⊎_elim (λ same. same ∙ failed) (λ own. own.1)
      (only_the_taker_fails old new one_step result stepped role)),
)

pub failed_roles_stay_failed : FailedRolesStayFailed
failed_roles_stay_failed old new [] [] ran role failed =
    subst (λ (state : State). HasFailed state.failed role) (sym ran) failed
failed_roles_stay_failed old new [] (answer ∷ answers) ran role failed = absurd ran
failed_roles_stay_failed old new (one_step ∷ steps) [] ran role failed = absurd ran
failed_roles_stay_failed old new (one_step ∷ steps) (answer ∷ answers) ran role failed =
    failed_roles_stay_failed ran.0 new steps answers ran.2 role
    ((roles_fail_for_memory old ran.0 one_step answer ran.1).1 role failed)

-- steps in which memory never ran out leave what has failed
with-memory : (old new : State) (steps : List Step) (answers : List (Result Answered Refusal))
    → IsRun old steps answers new → AllByRecursion HadMemory answers → new.failed ≡ old.failed
with-memory old new [] [] ran had = ap (λ (state : State). state.failed) ran
with-memory old new [] (answer ∷ answers) ran had = absurd ran
with-memory old new (one_step ∷ steps) [] ran had = absurd ran
with-memory old new (one_step ∷ steps) (answer ∷ answers) ran had =
    with-memory ran.0 new steps answers ran.2 had.1
    ∙ (roles_fail_for_memory old ran.0 one_step answer ran.1).0 had.0

-- no role has failed at first
none-at-first : (config : Config) (role : Role) → HasFailed (none_failed config) role → ⊥
none-at-first config (ACommitProxy n) failed =
    unset (none_failed config).commit_proxies n (none-set config.proxies n) failed
none-at-first config (AResolver n) failed =
    unset (none_failed config).resolvers n (none-set (suc (length config.resolver_splits)) n) failed
none-at-first config (ALog n) failed =
    unset (none_failed config).logs n (none-set config.logs n) failed
none-at-first config (AShard n) failed =
    unset (none_failed config).shards n (none-set (suc (length config.shard_splits)) n) failed

pub none_fails_with_memory : NoneFailsWithMemory
none_fails_with_memory config steps answers world ran had role failed =
    none-at-first config role (subst (λ (f : Failures). HasFailed f role)
    (with-memory (first_state config) world steps answers ran had) failed)

module _ (m : Machine) (failed : Failures) where
  -- a role that the step comes to has failed
  abbrev HasOne : Step → Type 0
  HasOne one_step = (role : Role) × ComesTo m one_step role × HasFailed failed role

  -- a role that is the same has failed, too
  same-failed : (role other : Role) → role ≡ other → HasFailed failed role → HasFailed failed other
  same-failed role other same has = subst (λ (r : Role). HasFailed failed r) same has

  opened-reads : (opened : Option Transcript) (operation : Op) → reads_failed m failed opened operation ≡ true
      → (transcript : Transcript) × (opened ≡ Some transcript) × (asks_failed m failed transcript operation ≡ true)
  opened-reads None operation used = cc
  opened-reads (Some transcript) operation used = (transcript, refl, used)

  opened-submits : (opened : Option Transcript) (proxy : ℕ) → submits_failed m failed opened proxy ≡ true
      → (transcript : Transcript) × (opened ≡ Some transcript)
      × ((WroteNothing transcript → ⊥) × HasFailed failed (ACommitProxy proxy))
  opened-submits None proxy used = cc
  opened-submits (Some transcript) proxy used =
      let parts = and_parts (not (is_read_only transcript)) (is_set failed.commit_proxies proxy) used in (
        transcript,
        refl,
        (
          (λ nothing. true≢false (sym (read-only transcript nothing) ∙ not-true _ parts.0)),
          set-is failed.commit_proxies proxy parts.1,
        ),
      )

  told : (entry : ℕ) (to : Option ℕ) → slice_get m.entry_proxies entry ≡ to → tells_failed m failed to ≡ true
      → (role : Role) × IsProxyOf m entry role × HasFailed failed role
  told entry None at used = cc
  told entry (Some proxy) at used =
      (ACommitProxy proxy, (proxy, at, refl), set-is failed.commit_proxies proxy used)

  pulled : (shard : ℕ) → pulls_failed m failed shard ≡ true
      → (role : Role) × IsShardOrItsLog m shard role × HasFailed failed role
  pulled shard used = ⊎_elim
      (λ of_shard. (AShard shard, inl refl, set-is failed.shards shard of_shard))
      (λ of_log. (ALog (log_of (length m.logs) shard), inr refl, set-is failed.logs _ of_log))
      (or_cases (is_set failed.shards shard) (is_set failed.logs (log_of (length m.logs) shard)) used)

  -- a step that uses a role that has failed comes to one
  used-role : (one_step : Step) → uses_failed m failed one_step ≡ true → HasOne one_step
  used-role (step.Ask session proxy) used = cc
  used-role (step.Grant proxy) used = cc
  used-role (step.Get session key snapshot) used =
      let read = opened-reads (open_at m.sessions session) (op.Get key snapshot) used in
      let parts = and_parts (not (decided (program read.0.ops) key)) (has_failed_at m failed key) read.2 in (
        AShard (first_owner m.config.shard_splits key),
        (read.0, read.1, (not-true _ parts.0, refl)),
        set-is failed.shards _ parts.1,
      )
  used-role (step.GetRange session range limit is_reverse snapshot) used =
      let read = opened-reads (open_at m.sessions session) (op.Range range limit is_reverse snapshot) used in
      let point = begin-point m.config.shard_splits range (has_failed_at m failed) read.2 in (
        AShard (first_owner m.config.shard_splits point.0),
        (read.0, read.1, (point.0, point.1, refl)),
        set-is failed.shards _ point.2,
      )
  used-role (step.Write session mutation) used = cc
  used-role (step.AddRead session range) used = cc
  used-role (step.AddWrite session range) used = cc
  used-role (step.Submit session proxy) used =
      let submitted = opened-submits (open_at m.sessions session) proxy used in
      (ACommitProxy proxy, (submitted.0, submitted.1, (submitted.2.0, refl)), submitted.2.1)
  used-role (step.Seal proxy advance) used = (ACommitProxy proxy, refl, set-is failed.commit_proxies proxy used)
  used-role (step.Resolve entry resolver) used = (AResolver resolver, refl, set-is failed.resolvers resolver used)
  used-role (step.Verdict entry resolver) used = told entry (slice_get m.entry_proxies entry) refl used
  used-role (step.Decide proxy) used = (ACommitProxy proxy, refl, set-is failed.commit_proxies proxy used)
  used-role (step.Push entry log) used = (ALog log, refl, set-is failed.logs log used)
  used-role (step.Logged entry log) used = told entry (slice_get m.entry_proxies entry) refl used
  used-role (step.Report proxy) used = (ACommitProxy proxy, refl, set-is failed.commit_proxies proxy used)
  used-role (step.Answer proxy) used = (ACommitProxy proxy, refl, set-is failed.commit_proxies proxy used)
  used-role (step.Pull shard limit) used = pulled shard used
  used-role (step.Forget shard version) used = (AShard shard, refl, set-is failed.shards shard used)
  used-role (step.Pop shard) used = pulled shard used
  used-role (step.Move range to) used = cc
  used-role (step.Window window) used = cc

  own-proxy : (proxy : ℕ) (role : Role) → role ≡ ACommitProxy proxy → HasFailed failed role
      → is_set failed.commit_proxies proxy ≡ true
  own-proxy proxy role is has = is-set failed.commit_proxies proxy (same-failed role (ACommitProxy proxy) is has)

  own-shard : (shard : ℕ) (role : Role) → role ≡ AShard shard → HasFailed failed role
      → is_set failed.shards shard ≡ true
  own-shard shard role is has = is-set failed.shards shard (same-failed role (AShard shard) is has)

  tells : (entry : ℕ) (role : Role) → IsProxyOf m entry role → HasFailed failed role
      → tells_failed m failed (slice_get m.entry_proxies entry) ≡ true
  tells entry role of has = ap (tells_failed m failed) of.1 ∙ own-proxy of.0 role of.2 has

  pulls : (shard : ℕ) (role : Role) → IsShardOrItsLog m shard role → HasFailed failed role
      → pulls_failed m failed shard ≡ true
  pulls shard role of has =
      let log = log_of (length m.logs) shard in ⊎_elim
      (λ is. or_left (is_set failed.shards shard) (is_set failed.logs log) (own-shard shard role is has))
      (λ is. or_right (is_set failed.shards shard) (is_set failed.logs log)
      (is-set failed.logs log (same-failed role (ALog log) is has)))
      of

  -- and one that comes to such a role uses it
  role-used : (one_step : Step) (role : Role) → ComesTo m one_step role → HasFailed failed role
      → uses_failed m failed one_step ≡ true
  role-used (step.Ask session proxy) role comes has = absurd comes
  role-used (step.Grant proxy) role comes has = absurd comes
  role-used (step.Get session key snapshot) role comes has =
      ap (λ (opened : Option Transcript). reads_failed m failed opened (op.Get key snapshot)) comes.1
      ∙ and_from (not (decided (program comes.0.ops) key)) (has_failed_at m failed key) (ap not comes.2.0)
      (own-shard (first_owner m.config.shard_splits key) role comes.2.1 has)
  role-used (step.GetRange session range limit is_reverse snapshot) role comes has =
      ap (λ (opened : Option Transcript). reads_failed m failed opened (op.Range range limit is_reverse snapshot))
      comes.1
      ∙ point-begin m.config.shard_splits range (has_failed_at m failed)
      (λ x y same. ap (λ (owner : ℕ). is_set failed.shards owner) same) comes.2.0 comes.2.1
      (own-shard (first_owner m.config.shard_splits comes.2.0) role comes.2.2 has)
  role-used (step.Write session mutation) role comes has = absurd comes
  role-used (step.AddRead session range) role comes has = absurd comes
  role-used (step.AddWrite session range) role comes has = absurd comes
  role-used (step.Submit session proxy) role comes has =
      ap (λ (opened : Option Transcript). submits_failed m failed opened proxy) comes.1
      ∙ and_from (not (is_read_only comes.0)) (is_set failed.commit_proxies proxy)
      (writes-something comes.0 comes.2.0) (own-proxy proxy role comes.2.1 has)
  role-used (step.Seal proxy advance) role comes has = own-proxy proxy role comes has
  role-used (step.Resolve entry resolver) role comes has =
      is-set failed.resolvers resolver (same-failed role (AResolver resolver) comes has)
  role-used (step.Verdict entry resolver) role comes has = tells entry role comes has
  role-used (step.Decide proxy) role comes has = own-proxy proxy role comes has
  role-used (step.Push entry log) role comes has = is-set failed.logs log (same-failed role (ALog log) comes has)
  role-used (step.Logged entry log) role comes has = tells entry role comes has
  role-used (step.Report proxy) role comes has = own-proxy proxy role comes has
  role-used (step.Answer proxy) role comes has = own-proxy proxy role comes has
  role-used (step.Pull shard limit) role comes has = pulls shard role comes has
  role-used (step.Forget shard version) role comes has = own-shard shard role comes has
  role-used (step.Pop shard) role comes has = pulls shard role comes has
  role-used (step.Move range to) role comes has = absurd comes
  role-used (step.Window window) role comes has = absurd comes

-- what a step comes to that memory didn't run out in
had-taken : (old new : State) (one_step : Step) (result : Result Answered Refusal) → IsStep old one_step result new
    → HadMemory result
    → (result ≡ answer_of (taken_of old one_step)) × (new.machine ≡ after old.machine (taken_of old one_step))
had-taken old new one_step result stepped had = ⊎_elim
    (λ went. (went.0, ap (λ (state : State). state.machine) went.1))
    (λ lacked. absurd (had lacked.0))
    stepped

-- by whether it uses a role that has failed
taken-by : (old : State) (one_step : Step) (used : Bool) → uses_failed old.machine old.failed one_step ≡ used
    → taken_of old one_step ≡ unless_failed used (next old.machine one_step)
taken-by old one_step used is = ap (λ (uses : Bool). unless_failed uses (next old.machine one_step)) is

pub working_roles_answer : WorkingRolesAnswer
working_roles_answer old new one_step result stepped had none =
    let took = had-taken old new one_step result stepped had in
    let same = taken-by old one_step false unused in
    (took.0 ∙ ap answer_of same, took.1 ∙ ap (after old.machine) same)
  where
    unused : uses_failed old.machine old.failed one_step ≡ false
    unused = ⊎_elim
        (λ used. let one = used-role old.machine old.failed one_step used in absurd (none one.0 one.1 one.2))
        (λ free. free)
        (cases_Bool (uses_failed old.machine old.failed one_step))

-- what a step that uses a failed role is answered
failed-answer : (transition : Result Transition Refusal)
    → (transition ≡ Err Unknown → answer_of (unless_failed true transition) ≡ Err Unknown)
    × ((transition ≡ Err Unknown → ⊥) → answer_of (unless_failed true transition) ≡ Err Failed)
failed-answer (Ok transition) = ((λ is. cc), (λ other. refl))
failed-answer (Err Unknown) = ((λ is. refl), (λ other. absurd (other refl)))
failed-answer (Err why) = ((λ is. cc), (λ other. refl))

pub failed_roles_answer : FailedRolesAnswer
failed_roles_answer old new one_step result stepped had role comes failed =
    let took = had-taken old new one_step result stepped had in
    let used = role-used old.machine old.failed one_step role comes failed in
    let is = took.0 ∙ ap answer_of (taken-by old one_step true used) in
    let answer = failed-answer (next old.machine one_step) in
    ((λ unknown. is ∙ answer.0 unknown), (λ other. is ∙ answer.1 other))

-- what is refused as unknown is so by the machine, and else as failed
refused-by : (transition : Result Transition Refusal)
    → (answer_of (unless_failed true transition) ≡ answer_of transition)
    ⊎ (answer_of (unless_failed true transition) ≡ Err Failed)
refused-by (Ok transition) = inr refl
refused-by (Err Unknown) = inl refl
refused-by (Err why) = inr refl

pub answers_are_the_machines : AnswersAreTheMachines
answers_are_the_machines old new one_step result stepped = ⊎_elim
    (λ went. ⊎_elim
    (λ used. ⊎_elim
    (λ same. inl (went.0 ∙ ap answer_of (taken-by old one_step true used) ∙ same))
    (λ refused. inr (inr (
      went.0 ∙ ap answer_of (taken-by old one_step true used) ∙ refused,
      used-role old.machine old.failed one_step used,
    )))
    (refused-by (next old.machine one_step)))
    (λ free. inl (went.0 ∙ ap answer_of (taken-by old one_step false free)))
    (cases_Bool (uses_failed old.machine old.failed one_step)))
    (λ lacked. inr (inl lacked.0))
    stepped

pub refused_steps_leave_the_machine : RefusedStepsLeaveTheMachine
refused_steps_leave_the_machine old new one_step why stepped = ⊎_elim
    (λ went. went.1 ∙ left (next old.machine one_step) went.0)
    (λ refused. refused.2)
    (machine-step old one_step (Err why) new stepped)
  where
    left : (transition : Result Transition Refusal) → Err why ≡ answer_of transition
        → after old.machine transition ≡ old.machine
    left (Ok transition) answer = cc
    left (Err other) answer = refl
