-- After every trace the machine is what the trace tells, and so what holds of the machine holds of what is read off.
use Rattle.std.proofs.Common.{◌≡◌, ◌∙◌, ◌<◌, ◌≤◌, le_refl, le_trans, refl, sym, ap, subst, arith, ⊎_elim, ℕ, zero, suc}
use Rattle.std.proofs.Common.{min, Bool, true, false, cond, List, [], ◌∷◌, length, take, Some, Result, Ok, Err}
use Rattle.std.specs.Prelude.{nat_lt}
use Rattle.std.specs.List.{AllByRecursion, slice_get}
use Rattle.std.proofs.lemmas.List.Folds.{sum_by-replicate}
use Rattle.fdb_keys.specs.declared.refusal.Refusal.{Refusal}
use Rattle.fdb_keys.specs.Points.{Point}
use Rattle.fdb_txn.specs.declared.entry.Entry.{Entry}
use Rattle.fdb_txn.specs.book.Book.{last_version}
use Rattle.fdb_txn.specs.book.History.{AreEntries, IsBook, IsSealed}
use Rattle.fdb_txn.specs.declared.txn_id.TxnId.{TxnId}
use Rattle.fdb_txn.proofs.Exports.{books_are_entries}
use Rattle.fdb_proxy.specs.declared.config.Config.{Config}
use Rattle.fdb_roles.specs.declared.placed.Placed.{Placed}
use Rattle.fdb_roles.specs.Spots.{IsSerialized, spot_version}
use Rattle.fdb_roles.proofs.Exports.{all-at, all-both, all-replicate}
use Rattle.fdb_machine.specs.headline.Headline.{AcknowledgedAreSerialized}
use Rattle.fdb_machine.specs.headline.Books.{TracesTellBooks, EntriesAreAnsweredOnce}
use Rattle.fdb_machine.specs.headline.Promises.{CommittedIsGreatestReported}
use Rattle.fdb_machine.specs.headline.Readings.{Readings, nothing_read, no_progress, read_step, read_steps, readings_of}
use Rattle.fdb_machine.specs.headline.Readings.{times_begun}
use Rattle.fdb_machine.specs.headline.RealTime.{RealTime, HasBegun}
use Rattle.fdb_machine.specs.headline.Traces.{after_step, after_steps, machine_of_trace, alone, IsTraceOf}
use Rattle.fdb_machine.specs.headline.Traces.{WorldsShowWhatIsTold}
use Rattle.fdb_machine.specs.invariant.Invariant.{Invariant, IsSerializedIn, IsReported}
use Rattle.fdb_machine.specs.machine.Sessions.{Session, open_of, next_number, greatest_number}
use Rattle.fdb_machine.specs.machine.Failures.{State}
use Rattle.fdb_machine.specs.machine.Machine.{Machine, Transition}
use Rattle.fdb_machine.specs.machine.Roles.{CommitProxy, ShardProgress}
use Rattle.fdb_machine.specs.machine.Steps.{next, answer_of, after}
use Rattle.fdb_machine.specs.machine.Worlds.{start, first_state, idle_proxy, IsRun}
use Rattle.fdb_machine.proofs.headline.RunsLemmas.{IsMachineStep, run-next}
use Rattle.fdb_machine.proofs.headline.TraceLaws.{after_step-answered, traces_tell}
use Rattle.fdb_machine.proofs.invariant.OnceLaws.{machine-once}
use Rattle.fdb_machine.proofs.invariant.RealTimeLaws.{MachineHasBegun, after-first}
use Rattle.fdb_machine.proofs.invariant.SoundLaws.{sound_steps, sound-start, sound-trace}
use Rattle.fdb_machine.proofs.machine.AcceptedTransitions.{IfAccepted}
use Rattle.fdb_machine.proofs.machine.SessionMaps.{session-new}
use Rattle.fdb_machine.proofs.machine.Steps.{KeptBySteps, holds-next, kept-next, kept-by_trace}
use Rattle.fdb_machine.proofs.readings.Agreement.{AtProxy, flies, TellsMachine, TellsOn}
use Rattle.fdb_machine.proofs.readings.GrantLemmas.{last_of, next-begun}
use Rattle.fdb_machine.proofs.readings.RoleAgreement.{ProxyTold, ShardTold, TellsRoles, replicate-default}
use Rattle.fdb_machine.proofs.readings.RoleReadings.{RolesTellOn, roles_tell_steps}
use Rattle.fdb_machine.proofs.readings.StepReadings.{tells_steps}
use Rattle.fdb_machine.specs.declared.step.Answered.{Answered}
use Rattle.fdb_machine.specs.machine.AnyStep.{Step}

-- a step that is answered as the machine answers it tells what the machine goes on to
step-tells : (m : Machine) (r : Readings) (one_step : Step) → Invariant m → TellsMachine r m
    → TellsMachine (read_step r one_step (answer_of (next m one_step))) (after m (next m one_step))
step-tells m r one_step sound tells = by_result (next m one_step) (holds-next TellsOn tells_steps m one_step)
  where
    by_result : (result : Result Transition Refusal)
        → IfAccepted (λ transition. TellsOn m one_step transition.answer transition.next) result
        → TellsMachine (read_step r one_step (answer_of result)) (after m result)
    by_result (Ok transition) leads = leads r sound tells
    by_result (Err refusal) leads = tells

-- what is told of the machine, and stays so with each step, is told after the steps of a run
module _ (T : Readings → Machine → Type 0)
    (goes : (m : Machine) (r : Readings) (one_step : Step) → Invariant m → T r m
    → T (read_step r one_step (answer_of (next m one_step))) (after m (next m one_step))) where
  run-tells : (old : State) (r : Readings) (steps : List Step) (given : List (Result Answered Refusal)) (world : State)
      → Invariant old.machine → T r old.machine → IsRun old steps given world
      → T (read_steps r steps given) (after_steps old.machine steps given)
  run-tells old r [] [] world sound tells ran = tells
  run-tells old r [] (answer ∷ given) world sound tells ran = absurd ran
  run-tells old r (one_step ∷ steps) [] world sound tells ran = absurd ran
  run-tells old r (one_step ∷ steps) (answer ∷ given) world sound tells ran =
      let first = run-next old world one_step answer steps given ran in
      let one = went first.0.machine first.1 in
      subst (λ (m : Machine). T (read_steps (read_step r one_step answer) steps given)
      (after_steps m steps given)) one.2
      (run-tells first.0 (read_step r one_step answer) steps given world one.0 one.1 first.2)
    where
      m : Machine
      m = old.machine

      -- the machine after the step is sound and told, and is the one to which the answer takes it
      went : (mid : Machine) → IsMachineStep m one_step answer mid
          → Invariant mid × T (read_step r one_step answer) mid × (mid ≡ after_step m one_step answer)
      went mid step = ⊎_elim
          (λ goes_on. (
            subst Invariant (sym goes_on.1) (kept-next Invariant sound_steps m one_step sound),
            subst (T (read_step r one_step answer)) (sym goes_on.1)
                (subst (λ (a : Result Answered Refusal). T (read_step r one_step a) (after m (next m one_step)))
                (sym goes_on.0) (goes m r one_step sound tells)),
            goes_on.1 ∙ sym (ap (after_step m one_step) goes_on.0
                ∙ after_step-answered m one_step (next m one_step) refl),
          ))
          (λ refused. (
            subst Invariant (sym refused.2) sound,
            subst (T (read_step r one_step answer)) (sym refused.2)
                (subst (λ (a : Result Answered Refusal). T (read_step r one_step a) m) (sym refused.1) tells),
            refused.2 ∙ ap (after_step m one_step) (sym refused.1),
          ))
          step

-- the machine is told with how far its roles are
abbrev TellsAll : Readings → Machine → Type 0
TellsAll r m = TellsMachine r m × TellsRoles r m

all-tells : (m : Machine) (r : Readings) (one_step : Step) → Invariant m → TellsAll r m
    → TellsAll (read_step r one_step (answer_of (next m one_step))) (after m (next m one_step))
all-tells m r one_step sound told = (
  step-tells m r one_step sound told.0,
  by_result (next m one_step) (holds-next RolesTellOn roles_tell_steps m one_step),
)
  where
    by_result : (result : Result Transition Refusal)
        → IfAccepted (λ transition. RolesTellOn m one_step transition.answer transition.next) result
        → TellsRoles (read_step r one_step (answer_of result)) (after m result)
    by_result (Ok transition) leads = leads r sound told.0 told.1
    by_result (Err refusal) leads = told.1

-- before the first step nothing is told
start-tells : (config : Config) → TellsMachine nothing_read (start config)
start-tells config = record {
  book_told = refl;
  opened_told = λ session. ap (λ (found : Session). alone (open_of found.state)) (sym (session-new session));
  acknowledged_told = refl;
  reported_told = refl;
  moves_told = refl;
  window_told = refl;
  begun_told = λ session. ap (λ (found : Session). found.last_number) (session-new session);
  proxies_told = λ proxy commit_proxy there. all-at Idle (start config).commit_proxies proxy commit_proxy
      (all-replicate Idle idle_proxy config.proxies (record { waiting_told = refl; batch_told = λ busy. cc })) there;
  once_told = λ entry. omega (arith, sum_by-replicate (flies entry) config.proxies idle_proxy);
}
  where
    Idle : CommitProxy → Type 0
    Idle commit_proxy = AtProxy [] [] (record { entry = 0; version = 0; transcripts = [] }) commit_proxy

-- and every role is where it begins
start-roles : (config : Config) → TellsRoles nothing_read (start config)
start-roles config = record {
  each_has_proxy = refl;
  each_has_flag = refl;
  resolved_told = λ resolver. sym (replicate-default 0 (suc (length config.resolver_splits)) resolver);
  logged_told = λ log. sym (replicate-default 0 config.logs log);
  logged_within = λ log taken there.
      all-at (λ (n : ℕ). n ≤ 0) (start config).logs log taken
      (all-replicate (λ (n : ℕ). n ≤ 0) 0 config.logs (le_refl 0)) there;
  decided_told = λ entry. refl;
  proxies_told = λ proxy commit_proxy there.
      subst (λ (it : CommitProxy). ProxyTold no_progress [] (length (start config).resolvers)
      (length (start config).logs) proxy it)
      (all-at (λ (it : CommitProxy). idle_proxy ≡ it) (start config).commit_proxies proxy commit_proxy
      (all-replicate (λ (it : CommitProxy). idle_proxy ≡ it) idle_proxy config.proxies refl) there)
      ((refl, refl), λ busy. cc);
  others_wait = λ proxy none. (refl, refl);
  nothing_later = λ entry n behind. (refl, refl);
  shards_told = λ shard progress there.
      subst (λ (it : ShardProgress). ShardTold no_progress [] (start config).logs shard it)
      (all-at (λ (it : ShardProgress). at_start ≡ it) (start config).shards shard progress
      (all-replicate (λ (it : ShardProgress). at_start ≡ it) at_start (suc (length config.shard_splits)) refl) there)
      (refl, refl, le_refl 0, λ has at. omega arith);
}
  where
    at_start : ShardProgress
    at_start = record { applied = 0; floor = 0; popped = 0 }

-- a trace tells its machine
pub trace-tells : (config : Config) (steps : List Step) (given : List (Result Answered Refusal))
    (world : State)
    → IsTraceOf config steps given world
    → TellsMachine (readings_of steps given) (machine_of_trace config steps given)
trace-tells config steps given world stands =
    run-tells TellsMachine step-tells (first_state config) nothing_read steps given world
    (sound-start config) (start-tells config) stands

-- and how far its roles are
pub trace-tells-roles : (config : Config) (steps : List Step) (given : List (Result Answered Refusal))
    (world : State)
    → IsTraceOf config steps given world
    → TellsRoles (readings_of steps given) (machine_of_trace config steps given)
trace-tells-roles config steps given world stands =
    (run-tells TellsAll all-tells (first_state config) nothing_read steps given world
    (sound-start config) (start-tells config, start-roles config) stands).1

-- the configuration stays
config_steps : (config : Config) → KeptBySteps (λ m. m.config ≡ config)
config_steps config = record {
  roles = λ m one_step answer resolvers logs shards quiet grew went same. same;
  asked = λ m session proxy there at free same. same;
  granted = λ m proxy there at left same. same;
  operated = λ m one_step session transcript operation does opened allowed same. same;
  read_only = λ m session proxy transcript opened empty same. same;
  submitted = λ m session proxy commit_proxy transcript at opened writes same. same;
  sealed = λ m proxy advance commit_proxy at idle few room same. same;
  went_on = λ m one_step answer proxy commit_proxy stage decided verdicts acknowledgements quiet came at busy goes_on
      unreported went same. same;
  reported_version = λ m proxy commit_proxy entry at logging there whole same. same;
  moved = λ m range to exists same. same;
  windowed = λ m width within same. same;
  told = λ m proxy commit_proxy entry at reported there same. same;
}

pub config-after : (m : Machine) (one_step : Step) → (after m (next m one_step)).config ≡ m.config
config-after m one_step = kept-next (λ n. n.config ≡ m.config) (config_steps m.config) m one_step refl

pub config-kept : (config : Config) (steps : List Step) (given : List (Result Answered Refusal))
    → (machine_of_trace config steps given).config ≡ config
config-kept config steps given = kept-by_trace (λ m. m.config ≡ config)
    (config_steps config) (start config) steps given refl

-- the committed version is the greatest one that was reported
pub committed_is_greatest_reported : CommittedIsGreatestReported
committed_is_greatest_reported config steps given world stands =
    ap (λ (n : Machine). n.committed) (traces_tell config steps given world stands)
    ∙ sym (trace-tells config steps given world stands).reported_told

-- a world shows what its trace tells
pub worlds_show_what_is_told : WorldsShowWhatIsTold
worlds_show_what_is_told config steps given world stands =
    let tells : TellsMachine (readings_of steps given) world.machine = subst (TellsMachine (readings_of steps given))
    (sym (traces_tell config steps given world stands)) (trace-tells config steps given world stands) in
    record {
      book = sym tells.book_told;
      pending = sym tells.moves_told;
      opened = tells.opened_told;
      begun = λ session. ap next_number (tells.begun_told session)
          ∙ next-begun (times_begun session (readings_of steps given).begun);
      waiting = λ proxy commit_proxy at. sym (tells.proxies_told proxy commit_proxy at).waiting_told;
      in_flight = λ proxy commit_proxy at busy.
          let batch = ((tells.proxies_told proxy commit_proxy at).batch_told busy).2 in
          (λ i. (sym batch i).entry, λ i. (sym batch i).transcripts);
      acknowledged = sym tells.acknowledged_told;
      committed = sym tells.reported_told;
      window = sym tells.window_told;
    }

-- the entries are a book
pub traces_tell_books : TracesTellBooks
traces_tell_books config steps given world stands =
    let m = machine_of_trace config steps given in
    let resolvers = suc (length config.resolver_splits) in
    let sound = sound-trace config steps given in
    let entries : AreEntries resolvers 0 m.book = subst (λ (c : Config). AreEntries (suc (length c.resolver_splits)) 0
    m.book) (config-kept config steps given) sound.entries in
    subst (λ (book : List Entry). IsBook resolvers book × AllByRecursion IsSealed book)
    (sym (trace-tells config steps given world stands).book_told)
    ((books_are_entries resolvers m.book).1 (entries, machine-once config steps given, sound.horizons))

-- and no entry is answered twice
pub entries_answered_once : EntriesAreAnsweredOnce
entries_answered_once config steps given world stands entry =
    let m = machine_of_trace config steps given in
    let once = (trace-tells config steps given world stands).once_told entry in
    omega (arith, once, one (nat_lt entry (length m.book)))
  where
    one : (test : Bool) → cond {A = ℕ} test 1 0 ≤ 1
    one true = omega arith
    one false = omega arith

-- each acknowledged transaction is serialized at its spot
pub acknowledged_serialized : AcknowledgedAreSerialized
acknowledged_serialized config steps given world stands =
    let m = machine_of_trace config steps given in
    let told = trace-tells config steps given world stands in
    let sound = sound-trace config steps given in
    subst (λ (acknowledged : List Placed). AllByRecursion
    (Reached config.resolver_splits (readings_of steps given).book) acknowledged)
    (sym told.acknowledged_told)
    (subst (λ (book : List Entry). AllByRecursion (Reached config.resolver_splits book) m.acknowledged)
    (sym told.book_told)
    (subst (λ (splits : List Point). AllByRecursion (Reached splits m.book) m.acknowledged)
    (ap (λ (c : Config). c.resolver_splits) (config-kept config steps given))
    (all-both (IsSerializedIn m) (IsReported m) (Reached m.config.resolver_splits m.book)
    (λ placed serialized reported. (serialized, le_trans reported.0 sound.committed))
    m.acknowledged sound.acknowledged sound.reported)))
  where
    Reached : List Point → List Entry → Placed → Type 0
    Reached splits book placed = IsSerialized splits book placed × (spot_version placed.spot ≤ last_version book)

-- the first steps of a run are one
run-first : (n : ℕ) (old : State) (steps : List Step) (given : List (Result Answered Refusal))
    (world : State) → IsRun old steps given world
    → (mid : State) × IsRun old (take n steps) (take n given) mid
run-first zero old steps given world ran = (old, refl)
run-first (suc n) old [] [] world ran = (old, refl)
run-first (suc n) old [] (answer ∷ given) world ran = absurd ran
run-first (suc n) old (one_step ∷ steps) [] world ran = absurd ran
run-first (suc n) old (one_step ∷ steps) (answer ∷ given) world ran =
    let rest = run-first n ran.0 steps given world ran.2 in (rest.0, (ran.0, ran.1, rest.1))

-- the number of the last of those that began is below how many they are
last-below : (times last : ℕ) → last_of times ≡ Some last → last < times
last-below zero last is = cc
last-below (suc n) last is =
    let same : min n greatest_number ≡ last = cc in below n last greatest_number same
  where
    below : (n last greatest : ℕ) → min n greatest ≡ last → last < suc n
    below n last greatest same = omega (arith, same)

-- what has begun in the machine is told to have begun
begun-told : (r : Readings) (m : Machine) (id : TxnId) → TellsMachine r m → MachineHasBegun m id → HasBegun r id
begun-told r m id tells begun =
    let below = last-below (times_begun id.session r.begun) begun.0 (sym (tells.begun_told id.session) ∙ begun.1) in
    omega (arith, below, begun.2)

-- who begins after an acknowledgement is ordered after it
pub real_time : RealTime
real_time config steps given world stands n i j one other at_one at_other fresh =
    let first = run-first n (first_state config) steps given world stands in
    let earlier = trace-tells config (take n steps) (take n given) first.0 first.1 in
    let later = trace-tells config steps given world stands in
    let m = machine_of_trace config (take n steps) (take n given) in
    after-first config steps given n i j one other
    (ap (λ (placed : List Placed). slice_get placed i) (sym earlier.acknowledged_told) ∙ at_one)
    (ap (λ (placed : List Placed). slice_get placed j) (sym later.acknowledged_told) ∙ at_other)
    (λ begun. fresh (begun-told (readings_of (take n steps) (take n given)) m other.transcript.id earlier begun))
