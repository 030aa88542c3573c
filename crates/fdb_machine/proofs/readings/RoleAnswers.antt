-- What roles that tell clients nothing answer is by what the trace told before.
use Rattle.std.proofs.Common.{◌≡◌, ◌∙◌, ◌<◌, ◌≤◌, refl, sym, ap, subst, arith, ℕ, suc, ◌+◌, min, max, Bool, List}
use Rattle.std.proofs.Common.{length, take, Option, Some}
use Rattle.std.specs.Prelude.{unwrap_or, nat_le}
use Rattle.std.specs.List.{slice_get, count_by}
use Rattle.std.proofs.lemmas.List.{length-replicate, length-set}
use Rattle.std.proofs.lemmas.Option.{slice_get_within}
use Rattle.fdb_keys.specs.Points.{Point}
use Rattle.fdb_txn.specs.declared.entry.Entry.{Entry}
use Rattle.fdb_txn.specs.book.Book.{Place, Seen, head_of, last_version, seen_before}
use Rattle.fdb_txn.specs.book.Places.{place_in, place_of, place_at}
use Rattle.fdb_log.specs.Messages.{log_of}
use Rattle.fdb_proxy.specs.declared.config.Config.{Config}
use Rattle.fdb_proxy.specs.declared.outcome.Outcome.{Outcome}
use Rattle.fdb_proxy.specs.Verdicts.{verdict_at, verdicts_on, is_needed, outcomes_on}
use Rattle.fdb_roles.specs.Outcomes.{IsByRule}
use Rattle.fdb_roles.proofs.Exports.{length-outcomes_on, contains-item, item-contained, place-by-rule}
use Rattle.fdb_machine.specs.headline.Answers.{IsAnswered, IsResolved, IsVerdictByRule, entries_of_shard}
use Rattle.fdb_machine.specs.headline.Readings.{Readings}
use Rattle.fdb_machine.specs.invariant.Invariant.{Invariant}
use Rattle.fdb_machine.specs.machine.Machine.{Machine}
use Rattle.fdb_machine.specs.machine.RoleSteps.{version_of_shard}
use Rattle.fdb_machine.specs.machine.Roles.{CommitProxy, Stage, Resolving, Logging, ShardProgress}
use Rattle.fdb_machine.specs.machine.Worlds.{start}
use Rattle.fdb_machine.proofs.machine.RoleChanges.{RoleWent, ProxyWent, ShardPulled, applied_after, VerdictsReached}
use Rattle.fdb_machine.proofs.machine.RoleChanges.{BatchDecided, AcknowledgementReached}
use Rattle.fdb_machine.proofs.machine.Steps.{KeptBySteps}
use Rattle.fdb_machine.proofs.readings.Agreement.{TellsMachine}
use Rattle.fdb_machine.proofs.readings.RoleAgreement.{StageTold, TellsRoles}
use Rattle.fdb_machine.proofs.readings.RoleReadings.{stage-at, awaits-verdicts, awaits-acknowledgement}
use Rattle.fdb_machine.proofs.readings.RoleReplies.{verdict-by-rule, said-at, said-of, said-rises, asked-about}
use Rattle.fdb_machine.proofs.readings.RoleReplies.{none-missing, count-up-to}
use Rattle.fdb_machine.specs.declared.step.Answered.{Answered}
use Rattle.fdb_machine.specs.declared.step.Answered.TheVariants as answered
use Rattle.fdb_machine.specs.machine.AnyStep.{Step}
use Rattle.fdb_machine.specs.declared.step.AnyStep.TheVariants as step

-- there are as many resolvers and logs as the configuration says
pub record HasRoles (m : Machine) : Type 0 where
  pub resolvers : length m.resolvers ≡ suc (length m.config.resolver_splits)
  pub logs : length m.logs ≡ m.config.logs

-- a role that goes on adds none
went-counts : (m : Machine) (one_step : Step) (answer : Answered) (resolvers logs : List ℕ)
    (shards : List ShardProgress)
    → RoleWent m one_step answer resolvers logs shards
    → (length resolvers ≡ length m.resolvers) × (length logs ≡ length m.logs)
went-counts m (step.Resolve i resolver) answer resolvers logs shards went = (
  ap (λ (rs : List ℕ). length rs) went.resolvers_are ∙ length-set m.resolvers resolver (suc i),
  ap (λ (ls : List ℕ). length ls) went.logs_are,
)
went-counts m (step.Push i log) answer resolvers logs shards went = (
  ap (λ (rs : List ℕ). length rs) went.resolvers_are,
  ap (λ (ls : List ℕ). length ls) went.logs_are ∙ length-set m.logs log (suc i),
)
went-counts m (step.Pull shard limit) answer resolvers logs shards went =
    (ap (λ (rs : List ℕ). length rs) went.resolvers_are, ap (λ (ls : List ℕ). length ls) went.logs_are)
went-counts m (step.Forget shard version) answer resolvers logs shards went =
    (ap (λ (rs : List ℕ). length rs) went.resolvers_are, ap (λ (ls : List ℕ). length ls) went.logs_are)
went-counts m (step.Pop shard) answer resolvers logs shards went =
    (ap (λ (rs : List ℕ). length rs) went.resolvers_are, ap (λ (ls : List ℕ). length ls) went.logs_are)
went-counts m (step.Ask session proxy) answer resolvers logs shards went = absurd went
went-counts m (step.Grant proxy) answer resolvers logs shards went = absurd went
went-counts m (step.Get session key snapshot) answer resolvers logs shards went = absurd went
went-counts m (step.GetRange session range limit is_reverse snapshot) answer resolvers logs shards went = absurd went
went-counts m (step.Write session mutation) answer resolvers logs shards went = absurd went
went-counts m (step.AddRead session range) answer resolvers logs shards went = absurd went
went-counts m (step.AddWrite session range) answer resolvers logs shards went = absurd went
went-counts m (step.Submit session proxy) answer resolvers logs shards went = absurd went
went-counts m (step.Seal proxy advance) answer resolvers logs shards went = absurd went
went-counts m (step.Verdict i resolver) answer resolvers logs shards went = absurd went
went-counts m (step.Decide proxy) answer resolvers logs shards went = absurd went
went-counts m (step.Logged i log) answer resolvers logs shards went = absurd went
went-counts m (step.Report proxy) answer resolvers logs shards went = absurd went
went-counts m (step.Answer proxy) answer resolvers logs shards went = absurd went
went-counts m (step.Move range to) answer resolvers logs shards went = absurd went
went-counts m (step.Window window) answer resolvers logs shards went = absurd went

same-roles : {m after : Machine} → after.config ≡ m.config → after.resolvers ≡ m.resolvers → after.logs ≡ m.logs
    → HasRoles m → HasRoles after
same-roles {m = m} {after = after} config resolvers logs has = record
    { resolvers = combined_resolvers; logs = combined_logs }
  where
    combined_resolvers : length after.resolvers ≡ suc (length after.config.resolver_splits)
    combined_resolvers = ap (λ (rs : List ℕ). length rs) resolvers ∙ has.resolvers
        ∙ sym (ap (λ (c : Config). suc (length c.resolver_splits)) config)

    combined_logs : length after.logs ≡ after.config.logs
    combined_logs = ap (λ (ls : List ℕ). length ls) logs ∙ has.logs ∙ sym (ap (λ (c : Config). c.logs) config)

pub roles_stay : KeptBySteps HasRoles
roles_stay = record {
  roles = λ m one_step answer resolvers logs shards quiet grew went has.
      let counts = went-counts m one_step answer resolvers logs shards went in
      record { resolvers = counts.0 ∙ has.resolvers; logs = counts.1 ∙ has.logs };
  asked = λ m session proxy there at free has. same-roles refl refl refl has;
  granted = λ m proxy there at left has. same-roles refl refl refl has;
  operated = λ m one_step session transcript operation does opened allowed has. same-roles refl refl refl has;
  read_only = λ m session proxy transcript opened empty has. same-roles refl refl refl has;
  submitted = λ m session proxy commit_proxy transcript at opened writes has. same-roles refl refl refl has;
  sealed = λ m proxy advance commit_proxy at idle few room has. same-roles refl refl refl has;
  went_on = λ m one_step answer proxy commit_proxy stage decided verdicts acknowledgements quiet came at busy goes_on
      unreported went has. same-roles refl refl refl has;
  reported_version = λ m proxy commit_proxy entry at logging there whole has. same-roles refl refl refl has;
  moved = λ m range to exists has. same-roles refl refl refl has;
  windowed = λ m width within has. same-roles refl refl refl has;
  told = λ m proxy commit_proxy entry at reported there has. same-roles refl refl refl has;
}

pub roles-start : (config : Config) → HasRoles (start config)
roles-start config = record
    { resolvers = length-replicate (suc (length config.resolver_splits)) 0; logs = length-replicate config.logs 0 }

module _ (m : Machine) (r : Readings) (has : HasRoles m) (sound : Invariant m) (tells : TellsMachine r m)
    (told : TellsRoles r m) where
  abbrev splits : List Point
  splits = m.config.resolver_splits

  -- an entry of the book is one that is told
  entry-told : (i : ℕ) (entry : Entry) → slice_get m.book i ≡ Some entry → slice_get r.book i ≡ Some entry
  entry-told i entry is = ap (λ (book : List Entry). slice_get book i) tells.book_told ∙ is

  entry-below : (i : ℕ) (entry : Entry) → slice_get m.book i ≡ Some entry → i < length r.book
  entry-below i entry is = slice_get_within r.book i entry (entry-told i entry is)

  -- numbers that are counted from 0
  first : (n : ℕ) → 0 + n ≡ n
  first n = omega arith

  module _ (i : ℕ) (entry : Entry) (is : slice_get m.book i ≡ Some entry) where
    abbrev before : Seen
    before = seen_before m.book i

    -- a place that is told is one of the entry
    pub place-told : (p : ℕ)
        → place_at r.book i p
        ≡ place_in (head_of before entry) 0 entry.batch before.places p
    place-told p = ap (λ (book : List Entry). place_at book i p) tells.book_told ∙ ap (place_of before p) is

    -- what a resolver says of the entry is by the rule
    said-by-rule : (resolver : ℕ) → slice_get m.resolvers resolver ≡ Some i
        → IsResolved m.config r i resolver (verdicts_on splits resolver before entry)
    said-by-rule resolver its = record {
      is_there = entry-below i entry is;
      exists =
          let within = slice_get_within m.resolvers resolver i its in omega (arith, within, has.resolvers);
      its_turn = told.resolved_told resolver ∙ ap (λ (found : Option ℕ). unwrap_or found 0) its;
      by_place = said-rises splits (head_of before entry) resolver entry.batch before.places 0;
      by_rule = λ p said contains.
          let item = item-contained (verdicts_on splits resolver before entry) (p, said) contains in
          let found = said-at splits (head_of before entry) resolver entry.batch before.places 0
          item.0 p said item.1 in
          let number : p ≡ found.0 = omega (arith, found.1) in (
            found.2,
            (ap (place_at r.book i) number ∙ place-told found.0 ∙ found.3, found.4),
            subst (IsVerdictByRule splits resolver found.2) (sym found.5)
                (verdict-by-rule splits resolver found.2.1 found.2.0),
          );
      of_each = λ p there asked.
          let found = said-of splits (head_of before entry) resolver entry.batch before.places 0 p
          there (sym (place-told p) ∙ asked.0) asked.1 in (
            verdict_at splits resolver there.1 there.0,
            contains-item (verdicts_on splits resolver before entry) found.0
                (p, verdict_at splits resolver there.1 there.0)
                (found.1 ∙ ap (λ (k : ℕ). Some (k, verdict_at splits resolver there.1 there.0)) (first p)),
          );
    }

    -- what becomes of its places is by the rule
    became-by-rule : (p : ℕ) (there : Place × List Place) → place_at r.book i p ≡ Some there
        → (became : Outcome) × (slice_get (outcomes_on splits before entry) p ≡ Some became)
        × IsByRule splits there p became
    became-by-rule p there at =
        let found = place-by-rule splits before entry p there (sym (place-told p) ∙ at) in
        (found.0, found.1, found.3)

  -- a decision
  decided-by-rule : (own proxy : ℕ) (answer : Answered) (commit_proxy : CommitProxy) (stage : Stage)
      (decided verdicts acknowledgements : List Bool)
      → slice_get m.commit_proxies proxy ≡ Some commit_proxy
      → BatchDecided m own answer proxy commit_proxy stage decided verdicts acknowledgements
      → IsAnswered m.config r (step.Decide own) answer
  decided-by-rule own proxy answer commit_proxy stage decided verdicts acknowledgements at by =
      subst (IsAnswered m.config r (step.Decide own)) (sym by.answer_is) (record {
        number = commit_proxy.entry;
        waits = ap r.progress.resolving by.own_is ∙ was.0;
        entry = by.entry;
        entry_is = entry-told commit_proxy.entry by.entry by.entry_is;
        came = λ resolver p there exists asked.
            was.3 resolver
            ∙ none-missing (λ resolver. is_needed splits resolver before by.entry) 0 commit_proxy.verdicts_received
            resolver by.whole (omega (arith, exists, has.resolvers, was.2))
            (ap (λ (n : ℕ). is_needed splits n before by.entry) (first resolver)
            ∙ asked-about splits (head_of before by.entry) resolver by.entry.batch before.places 0 p
            there (sym (place-told commit_proxy.entry by.entry by.entry_is p) ∙ asked.0) asked.1);
        all_places = length-outcomes_on splits before by.entry;
        by_rule = became-by-rule commit_proxy.entry by.entry by.entry_is;
      })
    where
      before : Seen
      before = seen_before m.book commit_proxy.entry

      was : StageTold r.progress (length m.resolvers) (length m.logs) proxy Resolving commit_proxy.entry
          commit_proxy.verdicts_received commit_proxy.acknowledgements_received
      was = stage-at m r.progress proxy commit_proxy Resolving told at by.was_resolving

  -- verdicts that reach their proxy
  verdicts-due : (i resolver proxy : ℕ) (answer : Answered) (commit_proxy : CommitProxy) (stage : Stage)
      (decided verdicts acknowledgements : List Bool)
      → slice_get m.commit_proxies proxy ≡ Some commit_proxy
      → VerdictsReached m i resolver answer proxy commit_proxy stage decided verdicts acknowledgements
      → IsAnswered m.config r (step.Verdict i resolver) answer
  verdicts-due i resolver proxy answer commit_proxy stage decided verdicts acknowledgements at reached = (
    reached.answer_is,
    record {
      took =
          let taken = told.resolved_told resolver ∙ ap (λ (found : Option ℕ). unwrap_or found 0) reached.taken_is in
          let above = reached.took in omega (arith, taken, above);
      proxy = proxy;
      waits = was.0 ∙ ap Some its_entry;
      once = ap (λ (entry : ℕ). r.progress.verdicts_came entry resolver) (sym its_entry) ∙ was.3 resolver
          ∙ (awaits-verdicts commit_proxy i resolver reached.awaited).2;
    },
  )
    where
      its_entry : commit_proxy.entry ≡ i
      its_entry = (awaits-verdicts commit_proxy i resolver reached.awaited).1

      was : StageTold r.progress (length m.resolvers) (length m.logs) proxy Resolving commit_proxy.entry
          commit_proxy.verdicts_received commit_proxy.acknowledgements_received
      was = stage-at m r.progress proxy commit_proxy Resolving told at
          (awaits-verdicts commit_proxy i resolver reached.awaited).0

  -- an acknowledgement that reaches its proxy
  acknowledgement-due : (i log proxy : ℕ) (answer : Answered) (commit_proxy : CommitProxy) (stage : Stage)
      (decided verdicts acknowledgements : List Bool)
      → slice_get m.commit_proxies proxy ≡ Some commit_proxy
      → AcknowledgementReached m i log answer proxy commit_proxy stage decided verdicts acknowledgements
      → IsAnswered m.config r (step.Logged i log) answer
  acknowledgement-due i log proxy answer commit_proxy stage decided verdicts acknowledgements at reached = (
    reached.answer_is,
    record {
      took =
          let taken = told.logged_told log ∙ ap (λ (found : Option ℕ). unwrap_or found 0) reached.taken_is in
          let above = reached.took in omega (arith, taken, above);
      proxy = proxy;
      waits = was.1 ∙ ap Some its_entry;
      once = ap (λ (entry : ℕ). r.progress.acknowledgements_came entry log) (sym its_entry) ∙ was.3 log
          ∙ (awaits-acknowledgement commit_proxy i log reached.awaited).2;
    },
  )
    where
      its_entry : commit_proxy.entry ≡ i
      its_entry = (awaits-acknowledgement commit_proxy i log reached.awaited).1

      was : StageTold r.progress (length m.resolvers) (length m.logs) proxy Logging commit_proxy.entry
          commit_proxy.verdicts_received commit_proxy.acknowledgements_received
      was = stage-at m r.progress proxy commit_proxy Logging told at
          (awaits-acknowledgement commit_proxy i log reached.awaited).0

  -- a shard
  version-told : (shard : ℕ) (progress : ShardProgress) → slice_get m.shards shard ≡ Some progress
      → r.progress.reached shard ≡ version_of_shard m.book progress
  version-told shard progress at = (told.shards_told shard progress at).0

  -- a shard has the entries up to the version that it reached
  has-entries : (shard : ℕ) (progress : ShardProgress) → slice_get m.shards shard ≡ Some progress
      → entries_of_shard m.config r shard ≡ progress.applied
  has-entries shard progress at =
      ap (λ (book : List Entry). count_by (λ (entry : Entry). nat_le entry.version (r.progress.reached shard)) book)
      tells.book_told
      ∙ ap (λ (version : ℕ). count_by (λ (entry : Entry). nat_le entry.version version) m.book)
      (version-told shard progress at)
      ∙ count-up-to (suc (length splits)) 0 m.book progress.applied sound.entries (told.shards_told shard progress at).2

  pulled-by-rule : (shard limit : ℕ) (answer : Answered) (resolvers logs : List ℕ) (shards : List ShardProgress)
      → ShardPulled m shard limit answer resolvers logs shards
      → IsAnswered m.config r (step.Pull shard limit) answer
  pulled-by-rule shard limit answer resolvers logs shards pulled =
      subst (IsAnswered m.config r (step.Pull shard limit)) (sym pulled.answer_is)
      (ap (λ (n : ℕ). last_version (take n m.book)) same
      ∙ ap (λ (book : List Entry). last_version (take (min own (entries_of_shard m.config r shard + limit)) book))
      (sym tells.book_told))
    where
      own : ℕ
      own = r.progress.logged (log_of m.config.logs shard)

      own-is : own ≡ pulled.has
      own-is = ap (λ (count : ℕ). r.progress.logged (log_of count shard)) (sym has.logs)
          ∙ told.logged_told (log_of (length m.logs) shard)
          ∙ ap (λ (found : Option ℕ). unwrap_or found 0) pulled.has_is

      same : applied_after pulled.progress pulled.has limit ≡ min own (entries_of_shard m.config r shard + limit)
      same =
          let below : pulled.progress.applied ≤ pulled.has =
          (told.shards_told shard pulled.progress pulled.progress_is).3 pulled.has pulled.has_is in
          omega (arith, below, own-is, has-entries shard pulled.progress pulled.progress_is)

  pub role-answered : (one_step : Step) (answer : Answered) (resolvers logs : List ℕ) (shards : List ShardProgress)
      → RoleWent m one_step answer resolvers logs shards → IsAnswered m.config r one_step answer
  role-answered (step.Resolve i resolver) answer resolvers logs shards went =
      subst (IsAnswered m.config r (step.Resolve i resolver)) (sym went.answer_is)
      (said-by-rule i went.entry went.entry_is resolver went.its_turn)
  role-answered (step.Push i log) answer resolvers logs shards went = (
    went.answer_is,
    record {
      is_there = entry-below i went.entry went.entry_is;
      exists = let within = slice_get_within m.logs log i went.its_turn in omega (arith, within, has.logs);
      its_turn = told.logged_told log ∙ ap (λ (found : Option ℕ). unwrap_or found 0) went.its_turn;
      decided = told.decided_told i ∙ went.decided_is;
    },
  )
  role-answered (step.Pull shard limit) answer resolvers logs shards went =
      pulled-by-rule shard limit answer resolvers logs shards went
  role-answered (step.Forget shard version) answer resolvers logs shards went = (
    went.answer_is ∙ ap (λ (floor : ℕ). answered.Version (max floor version))
        (sym (told.shards_told shard went.progress went.progress_is).1),
    (let served = went.served in omega (arith, served, version-told shard went.progress went.progress_is)),
  )
  role-answered (step.Pop shard) answer resolvers logs shards went =
      went.answer_is ∙ ap answered.Version (sym (version-told shard went.progress went.progress_is))
  role-answered (step.Ask session proxy) answer resolvers logs shards went = absurd went
  role-answered (step.Grant proxy) answer resolvers logs shards went = absurd went
  role-answered (step.Get session key snapshot) answer resolvers logs shards went = absurd went
  role-answered (step.GetRange session range limit is_reverse snapshot) answer resolvers logs shards went = absurd went
  role-answered (step.Write session mutation) answer resolvers logs shards went = absurd went
  role-answered (step.AddRead session range) answer resolvers logs shards went = absurd went
  role-answered (step.AddWrite session range) answer resolvers logs shards went = absurd went
  role-answered (step.Submit session proxy) answer resolvers logs shards went = absurd went
  role-answered (step.Seal proxy advance) answer resolvers logs shards went = absurd went
  role-answered (step.Verdict i resolver) answer resolvers logs shards went = absurd went
  role-answered (step.Decide proxy) answer resolvers logs shards went = absurd went
  role-answered (step.Logged i log) answer resolvers logs shards went = absurd went
  role-answered (step.Report proxy) answer resolvers logs shards went = absurd went
  role-answered (step.Answer proxy) answer resolvers logs shards went = absurd went
  role-answered (step.Move range to) answer resolvers logs shards went = absurd went
  role-answered (step.Window window) answer resolvers logs shards went = absurd went

  pub proxy-answered : (one_step : Step) (answer : Answered) (proxy : ℕ) (commit_proxy : CommitProxy) (stage : Stage)
      (decided verdicts acknowledgements : List Bool)
      → slice_get m.commit_proxies proxy ≡ Some commit_proxy
      → ProxyWent m one_step answer proxy commit_proxy stage decided verdicts acknowledgements
      → IsAnswered m.config r one_step answer
  proxy-answered (step.Verdict i resolver) answer proxy commit_proxy stage decided verdicts acknowledgements at went =
      verdicts-due i resolver proxy answer commit_proxy stage decided verdicts acknowledgements at went
  proxy-answered (step.Decide own) answer proxy commit_proxy stage decided verdicts acknowledgements at went =
      decided-by-rule own proxy answer commit_proxy stage decided verdicts acknowledgements at went
  proxy-answered (step.Logged i log) answer proxy commit_proxy stage decided verdicts acknowledgements at went =
      acknowledgement-due i log proxy answer commit_proxy stage decided verdicts acknowledgements at went
  proxy-answered (step.Ask session own) answer proxy commit_proxy
      stage decided verdicts acknowledgements at went = absurd went
  proxy-answered (step.Grant own) answer proxy commit_proxy stage
      decided verdicts acknowledgements at went = absurd went
  proxy-answered (step.Get session key snapshot) answer proxy commit_proxy stage decided verdicts acknowledgements at
      went =
      absurd went
  proxy-answered (step.GetRange session range limit is_reverse snapshot) answer proxy commit_proxy stage decided
      verdicts acknowledgements at went =
      absurd went
  proxy-answered (step.Write session mutation) answer proxy commit_proxy stage decided verdicts acknowledgements at
      went =
      absurd went
  proxy-answered (step.AddRead session range) answer proxy commit_proxy stage decided verdicts acknowledgements at
      went =
      absurd went
  proxy-answered (step.AddWrite session range) answer proxy commit_proxy stage decided verdicts acknowledgements at
      went =
      absurd went
  proxy-answered (step.Submit session own) answer proxy commit_proxy
      stage decided verdicts acknowledgements at went = absurd went
  proxy-answered (step.Seal own advance) answer proxy commit_proxy
      stage decided verdicts acknowledgements at went = absurd went
  proxy-answered (step.Resolve i resolver) answer proxy commit_proxy
      stage decided verdicts acknowledgements at went = absurd went
  proxy-answered (step.Push i log) answer proxy commit_proxy stage
      decided verdicts acknowledgements at went = absurd went
  proxy-answered (step.Report own) answer proxy commit_proxy stage
      decided verdicts acknowledgements at went = absurd went
  proxy-answered (step.Answer own) answer proxy commit_proxy stage
      decided verdicts acknowledgements at went = absurd went
  proxy-answered (step.Pull shard limit) answer proxy commit_proxy
      stage decided verdicts acknowledgements at went = absurd went
  proxy-answered (step.Forget shard version) answer proxy commit_proxy
      stage decided verdicts acknowledgements at went = absurd went
  proxy-answered (step.Pop shard) answer proxy commit_proxy stage
      decided verdicts acknowledgements at went = absurd went
  proxy-answered (step.Move range to) answer proxy commit_proxy
      stage decided verdicts acknowledgements at went = absurd went
  proxy-answered (step.Window window) answer proxy commit_proxy
      stage decided verdicts acknowledgements at went = absurd went
