-- Every accepted step tells, with its answer, how far it takes the roles.
use Rattle.std.proofs.Common.{◌≡◌, ◌≢◌, ◌∙◌, ◌<◌, ◌≤◌, le_trans, refl, sym, ap, subst, arith, ⊎_elim, ℕ, suc, max, Bool}
use Rattle.std.proofs.Common.{true, false, List, [], ◌∷◌, ◌++◌, length, take, map, fold, Some, None}
use Rattle.std.specs.List.{slice_get, slice_set}
use Rattle.std.proofs.lemmas.Bool.{and_parts, eqb-true, not-true}
use Rattle.std.proofs.lemmas.List.{length-append, length-replicate, length-set, take-append-le}
use Rattle.std.proofs.lemmas.Option.{same_Some, slice_get_within}
use Rattle.fdb_txn.specs.declared.entry.Entry.{Entry}
use Rattle.fdb_txn.specs.book.Book.{last_version}
use Rattle.fdb_log.specs.Messages.{log_of}
use Rattle.fdb_roles.proofs.Exports.{within-item}
use Rattle.fdb_machine.specs.headline.Readings.{Readings, Progress, read, begins, decides_entry, with_at, with_came}
use Rattle.fdb_machine.specs.invariant.Invariant.{Invariant}
use Rattle.fdb_machine.specs.machine.CommitProxySteps.{is_idle, awaits}
use Rattle.fdb_machine.specs.machine.Machine.{Machine, is_set}
use Rattle.fdb_machine.specs.machine.Roles.{CommitProxy, Stage, Idle, Resolving, Logging, Reported, ShardProgress}
use Rattle.fdb_machine.specs.machine.Roles.{FromResolver, FromLog}
use Rattle.fdb_machine.proofs.invariant.SoundLemmas.{found-front}
use Rattle.fdb_machine.proofs.machine.RoleChanges.{RoleWent, ProxyWent, ResolverTook, LogTook, ShardPulled, ShardForgot}
use Rattle.fdb_machine.proofs.machine.RoleChanges.{ShardPopped, applied_after, VerdictsReached, BatchDecided}
use Rattle.fdb_machine.proofs.machine.RoleChanges.{AcknowledgementReached}
use Rattle.fdb_machine.proofs.machine.Sealing.{last-at, sealed_entry, sealed_proxy, sealed_machine}
use Rattle.fdb_machine.proofs.machine.Steps.{HoldsOfSteps, stage-is}
use Rattle.fdb_machine.proofs.readings.Agreement.{TellsMachine, changed-there, changed-elsewhere, operation-tells}
use Rattle.fdb_machine.proofs.readings.RoleAgreement.{StageTold, ProxyTold, ProxiesTold, ShardTold, ShardsTold}
use Rattle.fdb_machine.proofs.readings.RoleAgreement.{RolesTold, TellsRoles, set-told, push-default, replicate-default}
use Rattle.fdb_machine.proofs.readings.RoleAgreement.{none-before, there-not_none, came-there, came-elsewhere}
use Rattle.fdb_machine.proofs.readings.RoleAgreement.{stage-stays, one-told}
use Rattle.fdb_machine.proofs.readings.SessionLists.{item-after-set}
use Rattle.fdb_machine.specs.declared.step.Answered.{Answered}
use Rattle.fdb_machine.specs.machine.AnyStep.{Step}
use Rattle.fdb_machine.specs.declared.step.AnyStep.TheVariants as step

-- what a step tells beside what was told before is how far the machine's roles go
abbrev pub RolesTellOn : Machine → Step → Answered → Machine → Type 0
RolesTellOn m one_step answer after =
    (r : Readings) → Invariant m → TellsMachine r m → TellsRoles r m → TellsRoles (read r one_step answer) after

-- ---- resolvers, logs and shards

-- one shard changes
one-shard : (p q : Progress) (book : List Entry) (logs : List ℕ) (shards : List ShardProgress) (shard : ℕ)
    (new : ShardProgress) → ShardsTold p book logs shards
    → ((other : ℕ) → other ≢ shard
    → (p.reached other ≡ q.reached other) × (p.floor other ≡ q.floor other))
    → ShardTold q book logs shard new → ShardsTold q book logs (slice_set shards shard new)
one-shard p q book logs shards shard new told others has other progress there = ⊎_elim
    (λ (here : (other ≡ shard) × (new ≡ progress)).
    subst (λ (n : ℕ). ShardTold q book logs n progress) (sym here.0)
    (subst (ShardTold q book logs shard) here.1 has))
    (λ (elsewhere : (other ≢ shard) × (slice_get shards other ≡ Some progress)).
    let was = told other progress elsewhere.1 in
    let same = others other elsewhere.0 in
    (sym same.0 ∙ was.0, sym same.1 ∙ was.1, was.2, was.3))
    (item-after-set shards shard new other progress there)

-- a resolver took one entry more
resolver-told : (m : Machine) (i resolver : ℕ) (answer : Answered) (resolvers logs : List ℕ)
    (shards : List ShardProgress) (p : Progress) → ResolverTook m i resolver answer resolvers logs shards
    → RolesTold p m.book m.entry_proxies m.decided m.commit_proxies m.resolvers m.logs m.shards
    → RolesTold (record p { resolved = with_at resolver (suc i) p.resolved }) m.book m.entry_proxies m.decided
    m.commit_proxies resolvers logs shards
resolver-told m i resolver answer resolvers logs shards p took told =
    subst (λ (rs : List ℕ). RolesTold q m.book m.entry_proxies m.decided m.commit_proxies rs logs shards)
    (sym took.resolvers_are)
    (subst (λ (ls : List ℕ). RolesTold q m.book m.entry_proxies m.decided m.commit_proxies after ls shards)
    (sym took.logs_are)
    (subst (λ (ss : List ShardProgress). RolesTold q m.book m.entry_proxies m.decided m.commit_proxies after m.logs ss)
    (sym took.shards_are) (record {
      each_has_proxy = told.each_has_proxy;
      each_has_flag = told.each_has_flag;
      resolved_told = set-told p.resolved 0 m.resolvers resolver i (suc i) took.its_turn told.resolved_told;
      logged_told = told.logged_told;
      logged_within = told.logged_within;
      decided_told = told.decided_told;
      proxies_told = subst (λ (count : ℕ). ProxiesTold q m.entry_proxies count (length m.logs) m.commit_proxies)
          (sym (length-set m.resolvers resolver (suc i))) told.proxies_told;
      others_wait = told.others_wait;
      nothing_later = told.nothing_later;
      shards_told = told.shards_told;
    })))
  where
    q : Progress
    q = record p { resolved = with_at resolver (suc i) p.resolved }

    after : List ℕ
    after = slice_set m.resolvers resolver (suc i)

-- a log took one entry more
log-told : (m : Machine) (i log : ℕ) (answer : Answered) (resolvers logs : List ℕ) (shards : List ShardProgress)
    (p : Progress) → LogTook m i log answer resolvers logs shards
    → RolesTold p m.book m.entry_proxies m.decided m.commit_proxies m.resolvers m.logs m.shards
    → RolesTold (record p { logged = with_at log (suc i) p.logged }) m.book m.entry_proxies m.decided
    m.commit_proxies resolvers logs shards
log-told m i log answer resolvers logs shards p took told =
    subst (λ (rs : List ℕ). RolesTold q m.book m.entry_proxies m.decided m.commit_proxies rs logs shards)
    (sym took.resolvers_are)
    (subst (λ (ls : List ℕ). RolesTold q m.book m.entry_proxies m.decided m.commit_proxies m.resolvers ls shards)
    (sym took.logs_are)
    (subst (λ (ss : List ShardProgress). RolesTold q m.book m.entry_proxies m.decided m.commit_proxies m.resolvers
    after ss)
    (sym took.shards_are) (record {
      each_has_proxy = told.each_has_proxy;
      each_has_flag = told.each_has_flag;
      resolved_told = told.resolved_told;
      logged_told = set-told p.logged 0 m.logs log i (suc i) took.its_turn told.logged_told;
      logged_within = within;
      decided_told = told.decided_told;
      proxies_told = subst (λ (count : ℕ). ProxiesTold q m.entry_proxies (length m.resolvers) count m.commit_proxies)
          (sym counted) told.proxies_told;
      others_wait = told.others_wait;
      nothing_later = told.nothing_later;
      shards_told = λ shard progress there.
          let was = told.shards_told shard progress there in
          (was.0, was.1, was.2, applied shard progress was.3);
    })))
  where
    q : Progress
    q = record p { logged = with_at log (suc i) p.logged }

    after : List ℕ
    after = slice_set m.logs log (suc i)

    counted : length after ≡ length m.logs
    counted = length-set m.logs log (suc i)

    its_entry : i < length m.book
    its_entry = slice_get_within m.book i took.entry took.entry_is

    within : (other taken : ℕ) → slice_get after other ≡ Some taken → taken ≤ length m.book
    within other taken there = ⊎_elim
        (λ (here : (other ≡ log) × (suc i ≡ taken)). omega (arith, here.1, its_entry))
        (λ (elsewhere : (other ≢ log) × (slice_get m.logs other ≡ Some taken)).
        told.logged_within other taken elsewhere.1)
        (item-after-set m.logs log (suc i) other taken there)

    applied : (shard : ℕ) (progress : ShardProgress)
        → ((has : ℕ) → slice_get m.logs (log_of (length m.logs) shard) ≡ Some has → progress.applied ≤ has)
        → (has : ℕ) → slice_get after (log_of (length after) shard) ≡ Some has → progress.applied ≤ has
    applied shard progress below has there =
        let own = subst (λ (count : ℕ). slice_get after (log_of count shard) ≡ Some has) counted there in
        ⊎_elim
        (λ (here : (log_of (length m.logs) shard ≡ log) × (suc i ≡ has)).
        let before : progress.applied ≤ i =
        below i (ap (slice_get m.logs) here.0 ∙ took.its_turn) in omega (arith, before, here.1))
        (λ (elsewhere : (log_of (length m.logs) shard ≢ log)
        × (slice_get m.logs (log_of (length m.logs) shard) ≡ Some has)). below has elsewhere.1)
        (item-after-set m.logs log (suc i) (log_of (length m.logs) shard) has own)

-- of shards alone there is something else
shards-told : (m : Machine) (p q : Progress) (resolvers logs : List ℕ) (shards after : List ShardProgress)
    → resolvers ≡ m.resolvers → logs ≡ m.logs → shards ≡ after
    → RolesTold p m.book m.entry_proxies m.decided m.commit_proxies m.resolvers m.logs m.shards
    → q ≡ record p { reached = q.reached; floor = q.floor }
    → ShardsTold (record p { reached = q.reached; floor = q.floor }) m.book m.logs after
    → RolesTold q m.book m.entry_proxies m.decided m.commit_proxies resolvers logs shards
shards-told m p q resolvers logs shards after resolvers_are logs_are shards_are told same has =
    subst (λ (now : Progress). RolesTold now m.book m.entry_proxies m.decided m.commit_proxies resolvers logs shards)
    (sym same)
    (subst (λ (rs : List ℕ). RolesTold there m.book m.entry_proxies m.decided m.commit_proxies rs logs shards)
    (sym resolvers_are)
    (subst (λ (ls : List ℕ). RolesTold there m.book m.entry_proxies m.decided m.commit_proxies m.resolvers ls shards)
    (sym logs_are)
    (subst (λ (ss : List ShardProgress). RolesTold there m.book m.entry_proxies m.decided m.commit_proxies m.resolvers
    m.logs ss) (sym shards_are) (record {
      each_has_proxy = told.each_has_proxy;
      each_has_flag = told.each_has_flag;
      resolved_told = told.resolved_told;
      logged_told = told.logged_told;
      logged_within = told.logged_within;
      decided_told = told.decided_told;
      proxies_told = told.proxies_told;
      others_wait = told.others_wait;
      nothing_later = told.nothing_later;
      shards_told = has;
    }))))
  where
    there : Progress
    there = record p { reached = q.reached; floor = q.floor }

-- how many entries a shard has after a pull: more than before, and at most as many as its log took
applied-within : (progress : ShardProgress) (has limit : ℕ) → progress.applied ≤ has
    → applied_after progress has limit ≤ has
applied-within progress has limit below = omega (arith, below)

pulled-told : (m : Machine) (shard limit : ℕ) (answer : Answered) (resolvers logs : List ℕ)
    (shards : List ShardProgress) (r : Readings) → ShardPulled m shard limit answer resolvers logs shards
    → TellsRoles r m
    → RolesTold (read r (step.Pull shard limit) answer).progress m.book m.entry_proxies m.decided m.commit_proxies
    resolvers logs shards
pulled-told m shard limit answer resolvers logs shards r pulled told =
    subst (λ (a : Answered). RolesTold (read r (step.Pull shard limit) a).progress m.book m.entry_proxies m.decided
    m.commit_proxies resolvers logs shards) (sym pulled.answer_is)
    (shards-told m r.progress (record r.progress { reached = with_at shard version r.progress.reached }) resolvers logs
    shards _ pulled.resolvers_are pulled.logs_are pulled.shards_are told refl
    (one-shard r.progress (record r.progress { reached = with_at shard version r.progress.reached }) m.book m.logs
    m.shards shard _ told.shards_told
    (λ other differs. (sym (changed-elsewhere shard version r.progress.reached other differs), refl)) (
      changed-there shard version r.progress.reached,
      was.1,
      le_trans (applied-within pulled.progress pulled.has limit (was.3 pulled.has pulled.has_is))
          (told.logged_within (log_of (length m.logs) shard) pulled.has pulled.has_is),
      (λ has there.
          let same : pulled.has ≡ has = same_Some pulled.has has (sym pulled.has_is ∙ there) in
          subst (λ (n : ℕ). applied_after pulled.progress pulled.has limit ≤ n) same
          (applied-within pulled.progress pulled.has limit (was.3 pulled.has pulled.has_is))),
    )))
  where
    version : ℕ
    version = last_version (take (applied_after pulled.progress pulled.has limit) m.book)

    was : ShardTold r.progress m.book m.logs shard pulled.progress
    was = told.shards_told shard pulled.progress pulled.progress_is

forgot-told : (m : Machine) (shard version : ℕ) (answer : Answered) (resolvers logs : List ℕ)
    (shards : List ShardProgress) (r : Readings) → ShardForgot m shard version answer resolvers logs shards
    → TellsRoles r m
    → RolesTold (read r (step.Forget shard version) answer).progress m.book m.entry_proxies m.decided
    m.commit_proxies resolvers logs shards
forgot-told m shard version answer resolvers logs shards r forgot told =
    subst (λ (a : Answered). RolesTold (read r (step.Forget shard version) a).progress m.book m.entry_proxies m.decided
    m.commit_proxies resolvers logs shards) (sym forgot.answer_is)
    (shards-told m r.progress (record r.progress { floor = with_at shard least r.progress.floor }) resolvers logs
    shards _ forgot.resolvers_are forgot.logs_are forgot.shards_are told refl
    (one-shard r.progress (record r.progress { floor = with_at shard least r.progress.floor }) m.book m.logs
    m.shards shard _ told.shards_told
    (λ other differs. (refl, sym (changed-elsewhere shard least r.progress.floor other differs)))
    (was.0, changed-there shard least r.progress.floor, was.2, was.3)))
  where
    least : ℕ
    least = max forgot.progress.floor version

    was : ShardTold r.progress m.book m.logs shard forgot.progress
    was = told.shards_told shard forgot.progress forgot.progress_is

popped-told : (m : Machine) (shard : ℕ) (answer : Answered) (resolvers logs : List ℕ)
    (shards : List ShardProgress) (r : Readings) → ShardPopped m shard answer resolvers logs shards
    → TellsRoles r m
    → RolesTold r.progress m.book m.entry_proxies m.decided m.commit_proxies resolvers logs shards
popped-told m shard answer resolvers logs shards r popped told =
    shards-told m r.progress r.progress resolvers logs
    shards _ popped.resolvers_are popped.logs_are popped.shards_are told refl
    (one-shard r.progress r.progress m.book m.logs m.shards shard _ told.shards_told (λ other differs. (refl, refl))
    (was.0, was.1, was.2, was.3))
  where
    was : ShardTold r.progress m.book m.logs shard popped.progress
    was = told.shards_told shard popped.progress popped.progress_is

roles-tell : (m : Machine) (one_step : Step) (answer : Answered) (resolvers logs : List ℕ) (shards : List ShardProgress)
    (r : Readings) → RoleWent m one_step answer resolvers logs shards → TellsRoles r m
    → RolesTold (read r one_step answer).progress m.book m.entry_proxies m.decided m.commit_proxies resolvers logs
    shards
roles-tell m (step.Resolve i resolver) answer resolvers logs shards r went told =
    resolver-told m i resolver answer resolvers logs shards r.progress went told
roles-tell m (step.Push i log) answer resolvers logs shards r went told =
    log-told m i log answer resolvers logs shards r.progress went told
roles-tell m (step.Pull shard limit) answer resolvers logs shards r went told =
    pulled-told m shard limit answer resolvers logs shards r went told
roles-tell m (step.Forget shard version) answer resolvers logs shards r went told =
    forgot-told m shard version answer resolvers logs shards r went told
roles-tell m (step.Pop shard) answer resolvers logs shards r went told =
    popped-told m shard answer resolvers logs shards r went told
roles-tell m (step.Ask session proxy) answer resolvers logs shards r went told = absurd went
roles-tell m (step.Grant proxy) answer resolvers logs shards r went told = absurd went
roles-tell m (step.Get session key snapshot) answer resolvers logs shards r went told = absurd went
roles-tell m (step.GetRange session range limit is_reverse snapshot)
    answer resolvers logs shards r went told = absurd went
roles-tell m (step.Write session mutation) answer resolvers logs shards r went told = absurd went
roles-tell m (step.AddRead session range) answer resolvers logs shards r went told = absurd went
roles-tell m (step.AddWrite session range) answer resolvers logs shards r went told = absurd went
roles-tell m (step.Submit session proxy) answer resolvers logs shards r went told = absurd went
roles-tell m (step.Seal proxy advance) answer resolvers logs shards r went told = absurd went
roles-tell m (step.Verdict i resolver) answer resolvers logs shards r went told = absurd went
roles-tell m (step.Decide proxy) answer resolvers logs shards r went told = absurd went
roles-tell m (step.Logged i log) answer resolvers logs shards r went told = absurd went
roles-tell m (step.Report proxy) answer resolvers logs shards r went told = absurd went
roles-tell m (step.Answer proxy) answer resolvers logs shards r went told = absurd went
roles-tell m (step.Move range to) answer resolvers logs shards r went told = absurd went
roles-tell m (step.Window window) answer resolvers logs shards r went told = absurd went

-- ---- commit proxies

-- what it means that a proxy waits for verdicts, and for an acknowledgement
pub awaits-verdicts : (commit_proxy : CommitProxy) (i resolver : ℕ)
    → awaits commit_proxy i (FromResolver resolver) ≡ true
    → (commit_proxy.stage ≡ Resolving) × (commit_proxy.entry ≡ i)
    × (is_set commit_proxy.verdicts_received resolver ≡ false)
awaits-verdicts commit_proxy i resolver awaited =
    let whole = and_parts _ _ awaited in
    let parts = and_parts _ _ whole.0 in (
      (stage-is commit_proxy.stage).1 parts.0,
      eqb-true commit_proxy.entry i parts.1,
      not-true _ whole.1,
    )

pub awaits-acknowledgement : (commit_proxy : CommitProxy) (i log : ℕ) → awaits commit_proxy i (FromLog log) ≡ true
    → (commit_proxy.stage ≡ Logging) × (commit_proxy.entry ≡ i)
    × (is_set commit_proxy.acknowledgements_received log ≡ false)
awaits-acknowledgement commit_proxy i log awaited =
    let whole = and_parts _ _ awaited in
    let parts = and_parts _ _ whole.0 in (
      (stage-is commit_proxy.stage).2 parts.0,
      eqb-true commit_proxy.entry i parts.1,
      not-true _ whole.1,
    )

-- a proxy goes on with its batch to another stage, and nothing else changes but what is told of it
with-proxy : (m : Machine) (p q : Progress) (decided : List Bool) (proxy : ℕ) (old new : CommitProxy)
    → RolesTold p m.book m.entry_proxies m.decided m.commit_proxies m.resolvers m.logs m.shards
    → slice_get m.commit_proxies proxy ≡ Some old
    → q ≡ record p {
      resolving = q.resolving;
      logging = q.logging;
      verdicts_came = q.verdicts_came;
      acknowledgements_came = q.acknowledgements_came;
      decided = q.decided;
    }
    → length decided ≡ length m.decided → ((entry : ℕ) → q.decided entry ≡ is_set decided entry)
    → ((other : ℕ) → other ≢ proxy
    → (p.resolving other ≡ q.resolving other) × (p.logging other ≡ q.logging other))
    → ((other on n : ℕ) → other ≢ proxy → slice_get m.entry_proxies on ≡ Some other
    → (p.verdicts_came on n ≡ q.verdicts_came on n) × (p.acknowledgements_came on n ≡ q.acknowledgements_came on n))
    → ((on n : ℕ) → length m.book ≤ on
    → (p.verdicts_came on n ≡ q.verdicts_came on n) × (p.acknowledgements_came on n ≡ q.acknowledgements_came on n))
    → ProxyTold q m.entry_proxies (length m.resolvers) (length m.logs) proxy new
    → RolesTold q m.book m.entry_proxies decided (slice_set m.commit_proxies proxy new) m.resolvers m.logs m.shards
with-proxy m p q decided proxy old new told at same flags flags_told others came later has =
    subst (λ (now : Progress). RolesTold now m.book m.entry_proxies decided (slice_set m.commit_proxies proxy new)
    m.resolvers m.logs m.shards) (sym same) (record {
      each_has_proxy = told.each_has_proxy;
      each_has_flag = flags ∙ told.each_has_flag;
      resolved_told = told.resolved_told;
      logged_told = told.logged_told;
      logged_within = told.logged_within;
      decided_told = flags_told;
      proxies_told = one-told p there m.entry_proxies (length m.resolvers) (length m.logs) m.commit_proxies proxy new
          told.proxies_told
          (λ other commit_proxy differs was. (
            stage-stays p there (length m.resolvers) (length m.logs) other commit_proxy.stage commit_proxy.entry
                commit_proxy.verdicts_received commit_proxy.acknowledgements_received (others other differs).0
                (others other differs).1 (λ busy n. came other commit_proxy.entry n differs (was.1 busy)) was.0,
            was.1,
          ))
          (has.0, has.1);
      others_wait = λ other none.
          let before = none-before m.commit_proxies proxy new other none in
          let differs = there-not_none m.commit_proxies proxy old other at before in
          let was = told.others_wait other before in
          let goes = others other differs in (sym goes.0 ∙ was.0, sym goes.1 ∙ was.1);
      nothing_later = λ on n behind.
          let was = told.nothing_later on n behind in
          let goes = later on n behind in (sym goes.0 ∙ was.0, sym goes.1 ∙ was.1);
      shards_told = told.shards_told;
    })
  where
    there : Progress
    there = record p {
      resolving = q.resolving;
      logging = q.logging;
      verdicts_came = q.verdicts_came;
      acknowledgements_came = q.acknowledgements_came;
      decided = q.decided;
    }

-- an entry with a proxy is one of the book
pub entry-within : (m : Machine) (p : Progress) (i proxy : ℕ)
    → RolesTold p m.book m.entry_proxies m.decided m.commit_proxies m.resolvers m.logs m.shards
    → slice_get m.entry_proxies i ≡ Some proxy → i < length m.book
entry-within m p i proxy told its =
    let within = slice_get_within m.entry_proxies i proxy its in omega (arith, within, told.each_has_proxy)

-- two proxies have two entries
other-entry : (entry_proxies : List ℕ) (i proxy other on : ℕ) → slice_get entry_proxies i ≡ Some proxy → other ≢ proxy
    → slice_get entry_proxies on ≡ Some other → on ≢ i
other-entry entry_proxies i proxy other on its differs others same =
    differs (same_Some other proxy (sym others ∙ ap (slice_get entry_proxies) same ∙ its))

-- verdicts reach a proxy that waits for them
verdicts-told : (m : Machine) (i resolver : ℕ) (answer : Answered) (proxy : ℕ) (commit_proxy : CommitProxy)
    (stage : Stage) (decided verdicts acknowledgements : List Bool) (p : Progress)
    → VerdictsReached m i resolver answer proxy commit_proxy stage decided verdicts acknowledgements
    → slice_get m.commit_proxies proxy ≡ Some commit_proxy
    → RolesTold p m.book m.entry_proxies m.decided m.commit_proxies m.resolvers m.logs m.shards
    → RolesTold (record p { verdicts_came = with_came i resolver p.verdicts_came }) m.book m.entry_proxies decided
    (slice_set m.commit_proxies proxy (record commit_proxy
    { stage = stage; verdicts_received = verdicts; acknowledgements_received = acknowledgements }))
    m.resolvers m.logs m.shards
verdicts-told m i resolver answer proxy commit_proxy stage decided verdicts acknowledgements p reached at told =
    with-proxy m p q decided proxy commit_proxy (record commit_proxy
    { stage = stage; verdicts_received = verdicts; acknowledgements_received = acknowledgements })
    told at refl (ap (λ (flags : List Bool). length flags) reached.decided_is)
    (λ entry. told.decided_told entry ∙ sym (ap (λ (flags : List Bool). is_set flags entry) reached.decided_is))
    (λ other differs. (refl, refl))
    (λ other on n differs others. (
      sym (came-elsewhere i resolver p.verdicts_came on n
          (other-entry m.entry_proxies i proxy other on reached.proxy_is differs others)),
      refl,
    ))
    (λ on n behind.
    let its = entry-within m p i proxy told reached.proxy_is in
    (sym (came-elsewhere i resolver p.verdicts_came on n (λ same. omega (arith, its, behind, same))), refl)) (
      subst (λ (s : Stage). StageTold q (length m.resolvers) (length m.logs) proxy s commit_proxy.entry verdicts
          acknowledgements) (sym (reached.stage_is ∙ resolving))
          (subst (λ (flags : List Bool). StageTold q (length m.resolvers) (length m.logs) proxy Resolving
          commit_proxy.entry flags acknowledgements) (sym reached.verdicts_are) (
            was.0,
            was.1,
            length-set commit_proxy.verdicts_received resolver true ∙ was.2,
            (λ n. came-there i resolver p.verdicts_came commit_proxy.entry n its_entry
                ∙ set-told (p.verdicts_came commit_proxy.entry) false commit_proxy.verdicts_received resolver flag.0
                true flag.1 was.3 n),
            was.4,
          )),
      λ busy. (told.proxies_told proxy commit_proxy at).1 (ap is_idle resolving),
    )
  where
    q : Progress
    q = record p { verdicts_came = with_came i resolver p.verdicts_came }

    resolving : commit_proxy.stage ≡ Resolving
    resolving = (awaits-verdicts commit_proxy i resolver reached.awaited).0

    its_entry : commit_proxy.entry ≡ i
    its_entry = (awaits-verdicts commit_proxy i resolver reached.awaited).1

    was : StageTold p (length m.resolvers) (length m.logs) proxy Resolving commit_proxy.entry
        commit_proxy.verdicts_received commit_proxy.acknowledgements_received
    was = subst (λ (s : Stage). StageTold p (length m.resolvers) (length m.logs) proxy s commit_proxy.entry
        commit_proxy.verdicts_received commit_proxy.acknowledgements_received) resolving
        (told.proxies_told proxy commit_proxy at).0

    -- there is a flag of the resolver
    flag : (old : Bool) × (slice_get commit_proxy.verdicts_received resolver ≡ Some old)
    flag =
        let within = slice_get_within m.resolvers resolver reached.taken reached.taken_is in
        within-item commit_proxy.verdicts_received resolver (omega (arith, within, was.2))

-- an acknowledgement reaches a proxy that waits for it
acknowledgement-told : (m : Machine) (i log : ℕ) (answer : Answered) (proxy : ℕ) (commit_proxy : CommitProxy)
    (stage : Stage) (decided verdicts acknowledgements : List Bool) (p : Progress)
    → AcknowledgementReached m i log answer proxy commit_proxy stage decided verdicts acknowledgements
    → slice_get m.commit_proxies proxy ≡ Some commit_proxy
    → RolesTold p m.book m.entry_proxies m.decided m.commit_proxies m.resolvers m.logs m.shards
    → RolesTold (record p { acknowledgements_came = with_came i log p.acknowledgements_came }) m.book m.entry_proxies
    decided
    (slice_set m.commit_proxies proxy (record commit_proxy
    { stage = stage; verdicts_received = verdicts; acknowledgements_received = acknowledgements }))
    m.resolvers m.logs m.shards
acknowledgement-told m i log answer proxy commit_proxy stage decided verdicts acknowledgements p reached at told =
    with-proxy m p q decided proxy commit_proxy (record commit_proxy
    { stage = stage; verdicts_received = verdicts; acknowledgements_received = acknowledgements })
    told at refl (ap (λ (flags : List Bool). length flags) reached.decided_is)
    (λ entry. told.decided_told entry ∙ sym (ap (λ (flags : List Bool). is_set flags entry) reached.decided_is))
    (λ other differs. (refl, refl))
    (λ other on n differs others. (
      refl,
      sym (came-elsewhere i log p.acknowledgements_came on n
          (other-entry m.entry_proxies i proxy other on reached.proxy_is differs others)),
    ))
    (λ on n behind.
    let its = entry-within m p i proxy told reached.proxy_is in
    (refl, sym (came-elsewhere i log p.acknowledgements_came on n (λ same. omega (arith, its, behind, same))))) (
      subst (λ (s : Stage). StageTold q (length m.resolvers) (length m.logs) proxy s commit_proxy.entry verdicts
          acknowledgements) (sym (reached.stage_is ∙ logging))
          (subst (λ (flags : List Bool). StageTold q (length m.resolvers) (length m.logs) proxy Logging
          commit_proxy.entry verdicts flags) (sym reached.acknowledgements_are) (
            was.0,
            was.1,
            length-set commit_proxy.acknowledgements_received log true ∙ was.2,
            (λ n. came-there i log p.acknowledgements_came commit_proxy.entry n its_entry
                ∙ set-told (p.acknowledgements_came commit_proxy.entry) false commit_proxy.acknowledgements_received log
                flag.0 true flag.1 was.3 n),
          )),
      λ busy. (told.proxies_told proxy commit_proxy at).1 (ap is_idle logging),
    )
  where
    q : Progress
    q = record p { acknowledgements_came = with_came i log p.acknowledgements_came }

    logging : commit_proxy.stage ≡ Logging
    logging = (awaits-acknowledgement commit_proxy i log reached.awaited).0

    its_entry : commit_proxy.entry ≡ i
    its_entry = (awaits-acknowledgement commit_proxy i log reached.awaited).1

    was : StageTold p (length m.resolvers) (length m.logs) proxy Logging commit_proxy.entry
        commit_proxy.verdicts_received commit_proxy.acknowledgements_received
    was = subst (λ (s : Stage). StageTold p (length m.resolvers) (length m.logs) proxy s commit_proxy.entry
        commit_proxy.verdicts_received commit_proxy.acknowledgements_received) logging
        (told.proxies_told proxy commit_proxy at).0

    -- there is a flag of the log
    flag : (old : Bool) × (slice_get commit_proxy.acknowledgements_received log ≡ Some old)
    flag =
        let within = slice_get_within m.logs log reached.taken reached.taken_is in
        within-item commit_proxy.acknowledgements_received log (omega (arith, within, was.2))

-- a proxy decides its batch
decided-told : (m : Machine) (own : ℕ) (answer : Answered) (proxy : ℕ) (commit_proxy : CommitProxy)
    (stage : Stage) (decided verdicts acknowledgements : List Bool) (p : Progress)
    → BatchDecided m own answer proxy commit_proxy stage decided verdicts acknowledgements
    → slice_get m.commit_proxies proxy ≡ Some commit_proxy
    → RolesTold p m.book m.entry_proxies m.decided m.commit_proxies m.resolvers m.logs m.shards
    → RolesTold (decides_entry p own (p.resolving own)) m.book m.entry_proxies decided
    (slice_set m.commit_proxies proxy (record commit_proxy
    { stage = stage; verdicts_received = verdicts; acknowledgements_received = acknowledgements }))
    m.resolvers m.logs m.shards
decided-told m own answer proxy commit_proxy stage decided verdicts acknowledgements p by at told =
    subst (λ (now : Progress). RolesTold now m.book m.entry_proxies decided
    (slice_set m.commit_proxies proxy (record commit_proxy
    { stage = stage; verdicts_received = verdicts; acknowledgements_received = acknowledgements }))
    m.resolvers m.logs m.shards) (sym tells)
    (with-proxy m p q decided proxy commit_proxy (record commit_proxy
    { stage = stage; verdicts_received = verdicts; acknowledgements_received = acknowledgements })
    told at refl
    (ap (λ (flags : List Bool). length flags) by.decided_is ∙ length-set m.decided commit_proxy.entry true)
    (λ entry. set-told p.decided false m.decided commit_proxy.entry flag.0 true flag.1 told.decided_told entry
    ∙ sym (ap (λ (flags : List Bool). is_set flags entry) by.decided_is))
    (λ other differs. (
      sym (changed-elsewhere proxy None p.resolving other differs),
      sym (changed-elsewhere proxy (Some commit_proxy.entry) p.logging other differs),
    ))
    (λ other on n differs others. (refl, refl))
    (λ on n behind. (refl, refl)) (
      subst (λ (s : Stage). StageTold q (length m.resolvers) (length m.logs) proxy s commit_proxy.entry verdicts
          acknowledgements) (sym by.stage_is)
          (subst (λ (flags : List Bool). StageTold q (length m.resolvers) (length m.logs) proxy Logging
          commit_proxy.entry verdicts flags) (sym by.acknowledgements_are) (
            changed-there proxy None p.resolving,
            changed-there proxy (Some commit_proxy.entry) p.logging,
            length-replicate (length m.logs) false,
            (λ n. was.4 n ∙ sym (replicate-default false (length m.logs) n)),
          )),
      λ busy. own_entry,
    ))
  where
    q : Progress
    q = record p {
      resolving = with_at proxy None p.resolving;
      logging = with_at proxy (Some commit_proxy.entry) p.logging;
      decided = with_at commit_proxy.entry true p.decided;
    }

    was : StageTold p (length m.resolvers) (length m.logs) proxy Resolving commit_proxy.entry
        commit_proxy.verdicts_received commit_proxy.acknowledgements_received
    was = subst (λ (s : Stage). StageTold p (length m.resolvers) (length m.logs) proxy s commit_proxy.entry
        commit_proxy.verdicts_received commit_proxy.acknowledgements_received) by.was_resolving
        (told.proxies_told proxy commit_proxy at).0

    own_entry : slice_get m.entry_proxies commit_proxy.entry ≡ Some proxy
    own_entry = (told.proxies_told proxy commit_proxy at).1 (ap is_idle by.was_resolving)

    tells : decides_entry p own (p.resolving own) ≡ q
    tells = ap (λ (n : ℕ). decides_entry p n (p.resolving n)) by.own_is ∙ ap (decides_entry p proxy) was.0

    flag : (old : Bool) × (slice_get m.decided commit_proxy.entry ≡ Some old)
    flag =
        let within = entry-within m p commit_proxy.entry proxy told own_entry in
        within-item m.decided commit_proxy.entry (omega (arith, within, told.each_has_flag))

proxies-tell : (m : Machine) (one_step : Step) (answer : Answered) (proxy : ℕ) (commit_proxy : CommitProxy)
    (stage : Stage) (decided verdicts acknowledgements : List Bool) (r : Readings)
    → ProxyWent m one_step answer proxy commit_proxy stage decided verdicts acknowledgements
    → slice_get m.commit_proxies proxy ≡ Some commit_proxy → TellsRoles r m
    → RolesTold (read r one_step answer).progress m.book m.entry_proxies decided
    (slice_set m.commit_proxies proxy (record commit_proxy
    { stage = stage; verdicts_received = verdicts; acknowledgements_received = acknowledgements }))
    m.resolvers m.logs m.shards
proxies-tell m (step.Verdict i resolver) answer proxy commit_proxy stage decided verdicts acknowledgements r went at
    told =
    verdicts-told m i resolver answer proxy commit_proxy stage decided verdicts acknowledgements r.progress went at told
proxies-tell m (step.Decide own) answer proxy commit_proxy stage decided verdicts acknowledgements r went at told =
    decided-told m own answer proxy commit_proxy stage decided verdicts acknowledgements r.progress went at told
proxies-tell m (step.Logged i log) answer proxy commit_proxy stage decided verdicts acknowledgements r went at told =
    acknowledgement-told m i log answer proxy commit_proxy stage decided verdicts acknowledgements r.progress went at
    told
proxies-tell m (step.Ask session own) answer proxy commit_proxy stage
    decided verdicts acknowledgements r went at told = absurd went
proxies-tell m (step.Grant own) answer proxy commit_proxy stage
    decided verdicts acknowledgements r went at told = absurd went
proxies-tell m (step.Get session key snapshot) answer proxy commit_proxy stage decided verdicts acknowledgements r
    went at told =
    absurd went
proxies-tell m (step.GetRange session range limit is_reverse snapshot) answer proxy commit_proxy stage decided
    verdicts acknowledgements r went at told =
    absurd went
proxies-tell m (step.Write session mutation) answer proxy commit_proxy stage decided verdicts acknowledgements r went
    at told =
    absurd went
proxies-tell m (step.AddRead session range) answer proxy commit_proxy stage decided verdicts acknowledgements r went
    at told =
    absurd went
proxies-tell m (step.AddWrite session range) answer proxy commit_proxy stage decided verdicts acknowledgements r went
    at told =
    absurd went
proxies-tell m (step.Submit session own) answer proxy commit_proxy stage decided verdicts acknowledgements r went at
    told =
    absurd went
proxies-tell m (step.Seal own advance) answer proxy commit_proxy stage decided verdicts acknowledgements r went at
    told =
    absurd went
proxies-tell m (step.Resolve i resolver) answer proxy commit_proxy stage decided verdicts acknowledgements r went at
    told =
    absurd went
proxies-tell m (step.Push i log) answer proxy commit_proxy stage
    decided verdicts acknowledgements r went at told = absurd went
proxies-tell m (step.Report own) answer proxy commit_proxy stage
    decided verdicts acknowledgements r went at told = absurd went
proxies-tell m (step.Answer own) answer proxy commit_proxy stage
    decided verdicts acknowledgements r went at told = absurd went
proxies-tell m (step.Pull shard limit) answer proxy commit_proxy stage decided verdicts acknowledgements r went at
    told =
    absurd went
proxies-tell m (step.Forget shard version) answer proxy commit_proxy stage decided verdicts acknowledgements r went at
    told =
    absurd went
proxies-tell m (step.Pop shard) answer proxy commit_proxy stage
    decided verdicts acknowledgements r went at told = absurd went
proxies-tell m (step.Move range to) answer proxy commit_proxy stage
    decided verdicts acknowledgements r went at told = absurd went
proxies-tell m (step.Window window) answer proxy commit_proxy stage
    decided verdicts acknowledgements r went at told = absurd went

-- a proxy seals its batch
sealed-tells : (m : Machine) (proxy advance version : ℕ) (commit_proxy : CommitProxy) (p : Progress)
    → slice_get m.commit_proxies proxy ≡ Some commit_proxy → commit_proxy.stage ≡ Idle
    → RolesTold p m.book m.entry_proxies m.decided m.commit_proxies m.resolvers m.logs m.shards
    → let after = sealed_machine m proxy advance commit_proxy in
    RolesTold (record p { resolving = with_at proxy (Some (length m.book)) p.resolving }) after.book
    after.entry_proxies after.decided after.commit_proxies after.resolvers after.logs after.shards
sealed-tells m proxy advance version commit_proxy p at idle told = record {
  each_has_proxy = omega (arith, length-append m.entry_proxies (proxy ∷ []), longer, told.each_has_proxy);
  each_has_flag = omega (arith, length-append m.decided (false ∷ []), longer, told.each_has_flag);
  resolved_told = told.resolved_told;
  logged_told = told.logged_told;
  logged_within = λ log taken there.
      let within = told.logged_within log taken there in omega (arith, within, longer);
  decided_told = λ i. told.decided_told i ∙ sym (push-default false m.decided i);
  proxies_told = one-told p q (m.entry_proxies ++ proxy ∷ []) (length m.resolvers) (length m.logs) m.commit_proxies
      proxy (sealed_proxy m commit_proxy)
      (λ other it there.
      let had = told.proxies_told other it there in
      (had.0, λ busy. found-front m.entry_proxies (proxy ∷ []) it.entry other (had.1 busy)))
      (λ other it differs had. (
        stage-stays p q (length m.resolvers) (length m.logs) other it.stage it.entry it.verdicts_received
            it.acknowledgements_received
            (sym (changed-elsewhere proxy (Some (length m.book)) p.resolving other differs)) refl
            (λ busy n. (refl, refl)) had.0,
        had.1,
      )) (
        (
          changed-there proxy (Some (length m.book)) p.resolving,
          was.1,
          length-replicate (length m.resolvers) false,
          (λ n. (told.nothing_later (length m.book) n (omega arith)).0
              ∙ sym (replicate-default false (length m.resolvers) n)),
          (λ n. (told.nothing_later (length m.book) n (omega arith)).1),
        ),
        λ busy. subst (λ (i : ℕ). slice_get (m.entry_proxies ++ proxy ∷ []) i ≡ Some proxy) told.each_has_proxy
            (last-at m.entry_proxies proxy),
      );
  others_wait = λ other none.
      let before = none-before m.commit_proxies proxy (sealed_proxy m commit_proxy) other none in
      let differs = there-not_none m.commit_proxies proxy commit_proxy other at before in
      let had = told.others_wait other before in
      (changed-elsewhere proxy (Some (length m.book)) p.resolving other differs ∙ had.0, had.1);
  nothing_later = λ on n behind. told.nothing_later on n (omega (arith, behind, longer));
  shards_told = λ shard progress there.
      let had = told.shards_told shard progress there in (
        had.0 ∙ sym (ap last_version (take-append-le progress.applied m.book (entry ∷ []) had.2)),
        had.1,
        omega (arith, had.2, longer),
        had.3,
      );
}
  where
    q : Progress
    q = record p { resolving = with_at proxy (Some (length m.book)) p.resolving }

    entry : Entry
    entry = sealed_entry m advance commit_proxy

    longer : length (m.book ++ entry ∷ []) ≡ suc (length m.book)
    longer = omega (arith, length-append m.book (entry ∷ []))

    was : StageTold p (length m.resolvers) (length m.logs) proxy Idle commit_proxy.entry
        commit_proxy.verdicts_received commit_proxy.acknowledgements_received
    was = subst (λ (s : Stage). StageTold p (length m.resolvers) (length m.logs) proxy s commit_proxy.entry
        commit_proxy.verdicts_received commit_proxy.acknowledgements_received) idle
        (told.proxies_told proxy commit_proxy at).0

-- those who are granted change no role
pub begins-progress : (served : List (ℕ × ℕ)) (r : Readings) → (fold begins r served).progress ≡ r.progress
begins-progress [] r = refl
begins-progress (grant ∷ served) r = begins-progress served (begins r grant)

-- a commit proxy stays at its stage, or goes from one at which it waits for nothing, or for what it has, to another one
same-flags : (m : Machine) (p q : Progress) (proxy : ℕ) (old new : CommitProxy)
    → RolesTold p m.book m.entry_proxies m.decided m.commit_proxies m.resolvers m.logs m.shards
    → slice_get m.commit_proxies proxy ≡ Some old → q ≡ record p { logging = q.logging }
    → ((other : ℕ) → other ≢ proxy → p.logging other ≡ q.logging other)
    → ProxyTold q m.entry_proxies (length m.resolvers) (length m.logs) proxy new
    → RolesTold q m.book m.entry_proxies m.decided (slice_set m.commit_proxies proxy new) m.resolvers m.logs m.shards
same-flags m p q proxy old new told at same others has =
    with-proxy m p q m.decided proxy old new told at (same ∙ eta) refl
    (λ entry. ap (λ (now : Progress). now.decided entry) same ∙ told.decided_told entry)
    (λ other differs. (ap (λ (now : Progress). now.resolving other) (sym same), others other differs))
    (λ other on n differs elsewhere. came on n) (λ on n behind. came on n) has
  where
    eta : Path Progress (record p { logging = q.logging }) (record p {
      resolving = q.resolving;
      logging = q.logging;
      verdicts_came = q.verdicts_came;
      acknowledgements_came = q.acknowledgements_came;
      decided = q.decided;
    })
    eta = λ k. record p {
      resolving = (sym same k).resolving;
      logging = q.logging;
      verdicts_came = (sym same k).verdicts_came;
      acknowledgements_came = (sym same k).acknowledgements_came;
      decided = (sym same k).decided;
    }

    came : (on n : ℕ) → (p.verdicts_came on n ≡ q.verdicts_came on n)
        × (p.acknowledgements_came on n ≡ q.acknowledgements_came on n)
    came on n = (
      ap (λ (now : Progress). now.verdicts_came on n) (sym same),
      ap (λ (now : Progress). now.acknowledgements_came on n) (sym same),
    )

-- a proxy at a stage
pub stage-at : (m : Machine) (p : Progress) (proxy : ℕ) (commit_proxy : CommitProxy) (stage : Stage)
    → RolesTold p m.book m.entry_proxies m.decided m.commit_proxies m.resolvers m.logs m.shards
    → slice_get m.commit_proxies proxy ≡ Some commit_proxy → commit_proxy.stage ≡ stage
    → StageTold p (length m.resolvers) (length m.logs) proxy stage commit_proxy.entry
    commit_proxy.verdicts_received commit_proxy.acknowledgements_received
stage-at m p proxy commit_proxy stage told at is =
    subst (λ (s : Stage). StageTold p (length m.resolvers) (length m.logs) proxy s commit_proxy.entry
    commit_proxy.verdicts_received commit_proxy.acknowledgements_received) is
    (told.proxies_told proxy commit_proxy at).0

pub roles_tell_steps : HoldsOfSteps RolesTellOn
roles_tell_steps = record {
  roles = λ m one_step answer resolvers logs shards quiet grew went r sound tells told.
      roles-tell m one_step answer resolvers logs shards r went told;
  asked = λ m session proxy there at free r sound tells told. told;
  granted = λ m proxy there at left r sound tells told.
      subst (λ (p : Progress). RolesTold p m.book m.entry_proxies m.decided m.commit_proxies m.resolvers m.logs
      m.shards)
      (sym (begins-progress (map (λ (session : ℕ). (session, m.committed)) there) r)) told;
  operated = λ m one_step session transcript operation does opened allowed r sound tells told.
      subst (λ (p : Progress). RolesTold p m.book m.entry_proxies m.decided m.commit_proxies m.resolvers m.logs
      m.shards)
      (ap (λ (now : Readings). now.progress) (operation-tells r one_step session operation _ does)) told;
  read_only = λ m session proxy transcript opened empty r sound tells told. told;
  submitted = λ m session proxy commit_proxy transcript at opened writes r sound tells told.
      same-flags m r.progress r.progress proxy commit_proxy _ told at refl (λ other differs. refl)
      (told.proxies_told proxy commit_proxy at);
  sealed = λ m proxy advance commit_proxy at idle few room r sound tells told.
      sealed-tells m proxy advance 0 commit_proxy r.progress at idle told;
  went_on = λ m one_step answer proxy commit_proxy stage decided verdicts acknowledgements quiet came at busy goes_on
      unreported went r sound tells told.
      proxies-tell m one_step answer proxy commit_proxy stage decided verdicts acknowledgements r went at told;
  reported_version = λ m proxy commit_proxy entry at logging there whole r sound tells told.
      let was = stage-at m r.progress proxy commit_proxy Logging told at logging in
      same-flags m r.progress (record r.progress { logging = with_at proxy None r.progress.logging }) proxy
      commit_proxy _
      told at refl (λ other differs. sym (changed-elsewhere proxy None r.progress.logging other differs)) (
        (was.0, changed-there proxy None r.progress.logging),
        λ busy. (told.proxies_told proxy commit_proxy at).1 (ap is_idle logging),
      );
  moved = λ m range to exists r sound tells told. told;
  windowed = λ m width within r sound tells told. told;
  told = λ m proxy commit_proxy entry at reported there r sound tells told.
      same-flags m r.progress r.progress proxy commit_proxy _ told at refl (λ other differs. refl)
      (stage-at m r.progress proxy commit_proxy Reported told at reported, λ busy. cc);
}
