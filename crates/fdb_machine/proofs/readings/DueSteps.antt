-- What is due is accepted.
use Rattle.std.proofs.Common.{◌≡◌, ◌∙◌, ◌<◌, refl, sym, ap, subst, arith, ⊎_elim, ℕ, zero, suc, ◌+◌, Bool, true, false}
use Rattle.std.proofs.Common.{List, [], ◌∷◌, length, Option, Some, None, Result, Ok, Err, if◌then◌else◌}
use Rattle.std.specs.Prelude.{unwrap_or, not, ◌&&◌, ◌||◌}
use Rattle.std.specs.List.{slice_get}
use Rattle.std.proofs.lemmas.Bool.{eq-eqb, lt-leb}
use Rattle.std.proofs.lemmas.Option.{same_Some}
use Rattle.fdb_keys.specs.Points.{Point}
use Rattle.fdb_keys.specs.declared.refusal.Refusal.{Refusal}
use Rattle.fdb_keys.specs.declared.refusal.Refusal.TheVariants.{NotYet}
use Rattle.fdb_txn.specs.declared.entry.Entry.{Entry}
use Rattle.fdb_txn.specs.book.Book.{Head, Place, head_of, placed, seen_before}
use Rattle.fdb_txn.specs.book.Places.{place_in, place_at}
use Rattle.fdb_txn.specs.book.Transactions.{Transaction}
use Rattle.fdb_txn.specs.rules.Owners.{is_asked}
use Rattle.fdb_proxy.specs.Verdicts.{asks_about, is_needed}
use Rattle.fdb_proxy.specs.declared.config.Config.{Config}
use Rattle.fdb_roles.proofs.Exports.{within-item}
use Rattle.fdb_machine.specs.headline.Answers.{IsAskedAt, IsVerdictDue, IsPushed, IsAcknowledgementDue}
use Rattle.fdb_machine.specs.headline.Due.{IsResolverDue, CameBelow, IsDue, IsLeastMissing, WhatIsDueIsAccepted}
use Rattle.fdb_machine.specs.headline.Due.{DecisionsWait}
use Rattle.fdb_machine.specs.headline.Readings.{Readings, readings_of}
use Rattle.fdb_machine.specs.headline.Traces.{IsTraceOf, machine_of_trace}
use Rattle.fdb_machine.specs.invariant.Invariant.{Invariant}
use Rattle.fdb_machine.specs.machine.CommitProxySteps.{receives, decides, awaits, is_idle, is_resolving, is_logging}
use Rattle.fdb_machine.specs.machine.Failures.{State, uses_failed, unless_failed}
use Rattle.fdb_machine.specs.machine.Machine.{Machine, Transition, is_set, first_missing}
use Rattle.fdb_machine.specs.machine.RoleSteps.{resolves, pushes}
use Rattle.fdb_machine.specs.machine.Roles.{CommitProxy, Stage, Idle, Resolving, Logging, Reported, FromResolver}
use Rattle.fdb_machine.specs.machine.Roles.{FromLog}
use Rattle.fdb_machine.specs.machine.Steps.{next, answer_of, ran_out}
use Rattle.fdb_machine.specs.machine.Worlds.{start, IsStep}
use Rattle.fdb_machine.proofs.headline.TraceLaws.{traces_tell}
use Rattle.fdb_machine.proofs.invariant.SoundLaws.{sound-trace}
use Rattle.fdb_machine.proofs.machine.Steps.{kept-by_trace}
use Rattle.fdb_machine.proofs.machine.Transitions.{resolves-transition, pushes-transition}
use Rattle.fdb_machine.proofs.readings.Agreement.{TellsMachine}
use Rattle.fdb_machine.proofs.readings.RoleAgreement.{StageTold, TellsRoles}
use Rattle.fdb_machine.proofs.readings.RoleAnswers.{HasRoles, place-told, roles_stay, roles-start}
use Rattle.fdb_machine.proofs.readings.RoleReadings.{entry-within}
use Rattle.fdb_machine.proofs.readings.RoleReplies.{asked-about}
use Rattle.fdb_machine.proofs.readings.TraceReadings.{config-kept, trace-tells, trace-tells-roles}
use Rattle.fdb_machine.specs.declared.step.Answered.{Answered}
use Rattle.fdb_machine.specs.machine.AnyStep.{Step}
use Rattle.fdb_machine.specs.declared.step.AnyStep.TheVariants as step

-- ---- what is missing

-- who is asked is asked about a place
place-asked : (splits : List Point) (head : Head) (resolver n : ℕ) (batch : List Transaction) (earlier : List Place)
    → asks_about splits head resolver n batch ≡ true
    → (q : ℕ) × (there : Place × List Place) × (place_in head n batch earlier q ≡ Some there)
    × (is_asked splits resolver there.0 ≡ true)
place-asked splits head resolver n [] earlier asked = cc
place-asked splits head resolver n (t ∷ batch) earlier asked =
    either (is_asked splits resolver (placed head n t)) refl asked
    (place-asked splits head resolver (suc n) batch (placed head n t ∷ earlier))
  where
    Found : Type 0
    Found = (q : ℕ) × (there : Place × List Place) × (place_in head n (t ∷ batch) earlier q ≡ Some there)
        × (is_asked splits resolver there.0 ≡ true)

    either : (own : Bool) → is_asked splits resolver (placed head n t) ≡ own
        → (own || asks_about splits head resolver (suc n) batch) ≡ true
        → (asks_about splits head resolver (suc n) batch ≡ true
        → (q : ℕ) × (there : Place × List Place)
        × (place_in head (suc n) batch (placed head n t ∷ earlier) q ≡ Some there)
        × (is_asked splits resolver there.0 ≡ true)) → Found
    either true is asks later = (0, (placed head n t, earlier), refl, is)
    either false is asks later = let found = later asks in (suc found.0, found.1, found.2, found.3)

-- none is missing where all that is needed is there
none-is-missing : (needed : ℕ → Bool) (n : ℕ) (flags : List Bool)
    → ((k : ℕ) → k < length flags → needed (n + k) ≡ true → is_set flags k ≡ true) → first_missing needed n flags ≡ None
none-is-missing needed n [] came = refl
none-is-missing needed n (flag ∷ flags) came =
    let number : n + 0 ≡ n = omega arith in
    first (needed n) flag refl
    (λ is. came 0 (omega arith) (ap needed number ∙ is))
    (none-is-missing needed (suc n) flags
    (λ k within is. let next : n + suc k ≡ suc n + k = omega arith in
    came (suc k) (omega (arith, within)) (ap needed next ∙ is)))
  where
    first : (own flag : Bool) → needed n ≡ own → (needed n ≡ true → flag ≡ true)
        → first_missing needed (suc n) flags ≡ None
        → (if own && not flag then Some n else first_missing needed (suc n) flags) ≡ None
    first false flag is there rest = rest
    first true true is there rest = rest
    first true false is there rest = let wrong : false ≡ true = there is in cc

-- and else the least one
least-is-missing : (needed : ℕ → Bool) (n : ℕ) (flags : List Bool) (k : ℕ) → k < length flags
    → needed (n + k) ≡ true → is_set flags k ≡ false
    → ((l : ℕ) → l < k → needed (n + l) ≡ true → is_set flags l ≡ true) → first_missing needed n flags ≡ Some (n + k)
least-is-missing needed n [] k within is missing others = absurd (omega (arith, within))
least-is-missing needed n (flag ∷ flags) zero within is missing others =
    let number : n + 0 ≡ n = omega arith in
    rw (ap needed (sym number) ∙ is, missing) (ap Some (sym number))
least-is-missing needed n (flag ∷ flags) (suc k) within is missing others =
    let number : n + suc k ≡ suc n + k = omega arith in
    let first : n + 0 ≡ n = omega arith in
    past (needed n) flag refl
    (λ own. others 0 (omega arith) (ap needed first ∙ own))
    (least-is-missing needed (suc n) flags k (omega (arith, within)) (ap needed (sym number) ∙ is) missing
    (λ l below own. let next : n + suc l ≡ suc n + l = omega arith in
    others (suc l) (omega (arith, below)) (ap needed next ∙ own)) ∙ ap Some (sym number))
  where
    past : (own flag : Bool) → needed n ≡ own → (needed n ≡ true → flag ≡ true)
        → first_missing needed (suc n) flags ≡ Some (n + suc k)
        → (if own && not flag then Some n else first_missing needed (suc n) flags) ≡ Some (n + suc k)
    past false flag own there rest = rest
    past true true own there rest = rest
    past true false own there rest = let wrong : false ≡ true = there own in cc

-- a number that isn't 0 by default is there
item-there : (xs : List ℕ) (i n : ℕ) → n < unwrap_or (slice_get xs i) 0
    → (taken : ℕ) × (slice_get xs i ≡ Some taken) × (n < taken)
item-there xs i n above = by (slice_get xs i) refl above
  where
    by : (found : Option ℕ) → slice_get xs i ≡ found → n < unwrap_or found 0
        → (taken : ℕ) × (slice_get xs i ≡ Some taken) × (n < taken)
    by None is above = absurd (omega (arith, above))
    by (Some taken) is above = (taken, is, above)

module _ (m : Machine) (r : Readings) (has : HasRoles m) (sound : Invariant m) (tells : TellsMachine r m)
    (told : TellsRoles r m) where
  -- an entry that is told is one of the book
  entry-there : (i : ℕ) → i < length r.book → (entry : Entry) × (slice_get m.book i ≡ Some entry)
  entry-there i within =
      let longer = ap (λ (book : List Entry). length book) tells.book_told in
      within-item m.book i (omega (arith, within, longer))

  -- a proxy that is told to wait for verdicts on an entry waits for them, and so of acknowledgements
  proxy-waits : (proxy entry : ℕ) → r.progress.resolving proxy ≡ Some entry
      → (commit_proxy : CommitProxy) × (slice_get m.commit_proxies proxy ≡ Some commit_proxy)
      × (commit_proxy.stage ≡ Resolving) × (commit_proxy.entry ≡ entry)
      × StageTold r.progress (length m.resolvers) (length m.logs) proxy Resolving commit_proxy.entry
      commit_proxy.verdicts_received commit_proxy.acknowledgements_received
  proxy-waits proxy entry waits = by (slice_get m.commit_proxies proxy) refl
    where
      Waits : Type 0
      Waits = (commit_proxy : CommitProxy) × (slice_get m.commit_proxies proxy ≡ Some commit_proxy)
          × (commit_proxy.stage ≡ Resolving) × (commit_proxy.entry ≡ entry)
          × StageTold r.progress (length m.resolvers) (length m.logs) proxy Resolving commit_proxy.entry
          commit_proxy.verdicts_received commit_proxy.acknowledgements_received

      never : r.progress.resolving proxy ≡ None → Waits
      never none = let wrong : Some entry ≡ None = sym waits ∙ none in cc

      at_stage : (commit_proxy : CommitProxy) (stage : Stage)
          → slice_get m.commit_proxies proxy ≡ Some commit_proxy → commit_proxy.stage ≡ stage
          → StageTold r.progress (length m.resolvers) (length m.logs) proxy stage commit_proxy.entry
          commit_proxy.verdicts_received commit_proxy.acknowledgements_received → Waits
      at_stage commit_proxy Idle at is was = never was.0
      at_stage commit_proxy Resolving at is was =
          (commit_proxy, at, is, same_Some commit_proxy.entry entry (sym was.0 ∙ waits), was)
      at_stage commit_proxy Logging at is was = never was.0
      at_stage commit_proxy Reported at is was = never was.0

      by : (found : Option CommitProxy) → slice_get m.commit_proxies proxy ≡ found → Waits
      by None none = never (told.others_wait proxy none).0
      by (Some commit_proxy) at =
          at_stage commit_proxy commit_proxy.stage at refl (told.proxies_told proxy commit_proxy at).0

  proxy-logs : (proxy entry : ℕ) → r.progress.logging proxy ≡ Some entry
      → (commit_proxy : CommitProxy) × (slice_get m.commit_proxies proxy ≡ Some commit_proxy)
      × (commit_proxy.stage ≡ Logging) × (commit_proxy.entry ≡ entry)
      × StageTold r.progress (length m.resolvers) (length m.logs) proxy Logging commit_proxy.entry
      commit_proxy.verdicts_received commit_proxy.acknowledgements_received
  proxy-logs proxy entry waits = by (slice_get m.commit_proxies proxy) refl
    where
      Waits : Type 0
      Waits = (commit_proxy : CommitProxy) × (slice_get m.commit_proxies proxy ≡ Some commit_proxy)
          × (commit_proxy.stage ≡ Logging) × (commit_proxy.entry ≡ entry)
          × StageTold r.progress (length m.resolvers) (length m.logs) proxy Logging commit_proxy.entry
          commit_proxy.verdicts_received commit_proxy.acknowledgements_received

      never : r.progress.logging proxy ≡ None → Waits
      never none = let wrong : Some entry ≡ None = sym waits ∙ none in cc

      at_stage : (commit_proxy : CommitProxy) (stage : Stage)
          → slice_get m.commit_proxies proxy ≡ Some commit_proxy → commit_proxy.stage ≡ stage
          → StageTold r.progress (length m.resolvers) (length m.logs) proxy stage commit_proxy.entry
          commit_proxy.verdicts_received commit_proxy.acknowledgements_received → Waits
      at_stage commit_proxy Idle at is was = never was.1
      at_stage commit_proxy Resolving at is was = never was.1
      at_stage commit_proxy Logging at is was =
          (commit_proxy, at, is, same_Some commit_proxy.entry entry (sym was.1 ∙ waits), was)
      at_stage commit_proxy Reported at is was = never was.1

      by : (found : Option CommitProxy) → slice_get m.commit_proxies proxy ≡ found → Waits
      by None none = never (told.others_wait proxy none).1
      by (Some commit_proxy) at =
          at_stage commit_proxy commit_proxy.stage at refl (told.proxies_told proxy commit_proxy at).0

  -- the entry's proxy is the one that waits
  own-entry : (proxy entry : ℕ) (commit_proxy : CommitProxy) → slice_get m.commit_proxies proxy ≡ Some commit_proxy
      → is_idle commit_proxy.stage ≡ false → commit_proxy.entry ≡ entry → slice_get m.entry_proxies entry ≡ Some proxy
  own-entry proxy entry commit_proxy at busy same =
      subst (λ (i : ℕ). slice_get m.entry_proxies i ≡ Some proxy) same
      ((told.proxies_told proxy commit_proxy at).1 busy)

  -- an accepted step answers something
  abbrev Accepts : Result Transition Refusal → Type 0
  Accepts result = (transition : Transition) × (result ≡ Ok transition)

  resolver-accepts : (i resolver : ℕ) → IsResolverDue m.config r i resolver → Accepts (resolves m i resolver)
  resolver-accepts i resolver due =
      let entry = entry-there i due.is_there in
      let exists = due.exists in
      let taken = within-item m.resolvers resolver (omega (arith, exists, has.resolvers)) in
      let its : taken.0 ≡ i =
      sym (told.resolved_told resolver ∙ ap (λ (found : Option ℕ). unwrap_or found 0) taken.1) ∙ due.its_turn in
      (_, resolves-transition m i resolver entry.0 entry.1 (taken.1 ∙ ap Some its))

  log-accepts : (i log : ℕ) → IsPushed m.config r i log → Accepts (pushes m i log)
  log-accepts i log due =
      let entry = entry-there i due.is_there in
      let exists = due.exists in
      let taken = within-item m.logs log (omega (arith, exists, has.logs)) in
      let its : taken.0 ≡ i =
      sym (told.logged_told log ∙ ap (λ (found : Option ℕ). unwrap_or found 0) taken.1) ∙ due.its_turn in
      (_, pushes-transition m i log entry.0 entry.1 (taken.1 ∙ ap Some its) (sym (told.decided_told i) ∙ due.decided))

  -- what waits for verdicts on the entry awaits those that didn't come
  awaits-them : (commit_proxy : CommitProxy) (i resolver : ℕ) → commit_proxy.stage ≡ Resolving → commit_proxy.entry ≡ i
      → is_set commit_proxy.verdicts_received resolver ≡ false → awaits commit_proxy i (FromResolver resolver) ≡ true
  awaits-them commit_proxy i resolver resolving its unset =
      rw (ap is_resolving resolving, eq-eqb commit_proxy.entry i its, unset) refl

  verdict-accepts : (i resolver : ℕ) → IsVerdictDue m.config r i resolver
      → Accepts (receives m i (FromResolver resolver))
  unfolding receives
  verdict-accepts i resolver due =
      let it = proxy-waits due.proxy i due.waits in
      let above = due.took in
      let taken = item-there m.resolvers resolver i (omega (arith, above, told.resolved_told resolver)) in
      let unset : is_set it.0.verdicts_received resolver ≡ false =
      sym (it.4.3 resolver) ∙ ap (λ (entry : ℕ). r.progress.verdicts_came entry resolver) it.3 ∙ due.once in
      rw (
        taken.1,
        lt-leb taken.0 i taken.2,
        own-entry due.proxy i it.0 it.1 (ap is_idle it.2) it.3,
        it.1,
        awaits-them it.0 i resolver it.2 it.3 unset,
      ) (_, refl)

  awaits-it : (commit_proxy : CommitProxy) (i log : ℕ) → commit_proxy.stage ≡ Logging → commit_proxy.entry ≡ i
      → is_set commit_proxy.acknowledgements_received log ≡ false → awaits commit_proxy i (FromLog log) ≡ true
  awaits-it commit_proxy i log logging its unset =
      rw (ap is_logging logging, eq-eqb commit_proxy.entry i its, unset) refl

  acknowledgement-accepts : (i log : ℕ) → IsAcknowledgementDue m.config r i log
      → Accepts (receives m i (FromLog log))
  unfolding receives
  acknowledgement-accepts i log due =
      let it = proxy-logs due.proxy i due.waits in
      let above = due.took in
      let taken = item-there m.logs log i (omega (arith, above, told.logged_told log)) in
      let unset : is_set it.0.acknowledgements_received log ≡ false =
      sym (it.4.3 log) ∙ ap (λ (entry : ℕ). r.progress.acknowledgements_came entry log) it.3 ∙ due.once in
      rw (
        taken.1,
        lt-leb taken.0 i taken.2,
        own-entry due.proxy i it.0 it.1 (ap is_idle it.2) it.3,
        it.1,
        awaits-it it.0 i log it.2 it.3 unset,
      ) (_, refl)

  -- a proxy that waits for verdicts on an entry of the book
  module _ (proxy number : ℕ) (waits : r.progress.resolving proxy ≡ Some number) where
    waiting : (commit_proxy : CommitProxy) × (slice_get m.commit_proxies proxy ≡ Some commit_proxy)
        × (commit_proxy.stage ≡ Resolving) × (commit_proxy.entry ≡ number)
        × StageTold r.progress (length m.resolvers) (length m.logs) proxy Resolving commit_proxy.entry
        commit_proxy.verdicts_received commit_proxy.acknowledgements_received
    waiting = proxy-waits proxy number waits

    abbrev own : CommitProxy
    own = waiting.0

    its-entry : (entry : Entry) × (slice_get m.book own.entry ≡ Some entry)
    its-entry = within-item m.book own.entry (entry-within m r.progress own.entry proxy told
        ((told.proxies_told proxy own waiting.1).1 (ap is_idle waiting.2)))

    abbrev needed : ℕ → Bool
    needed resolver = is_needed m.config.resolver_splits resolver (seen_before m.book own.entry) its-entry.0

    -- who is needed is asked about a place
    needed-asked : (resolver : ℕ) → needed resolver ≡ true
        → (p : ℕ) × (there : Place × List Place) × IsAskedAt m.config r number resolver p there
    needed-asked resolver is =
        let found = place-asked m.config.resolver_splits (head_of (seen_before m.book own.entry) its-entry.0) resolver 0
        its-entry.0.batch (seen_before m.book own.entry).places is in (
          found.0,
          found.1,
          (
            ap (λ (i : ℕ). place_at r.book i found.0) (sym waiting.3)
                ∙ place-told m r has sound tells told own.entry its-entry.0 its-entry.1 found.0 ∙ found.2,
            found.3,
          ),
        )

    -- and who is asked about a place is needed
    asked-needed : (resolver p : ℕ) (there : Place × List Place) → IsAskedAt m.config r number resolver p there
        → needed resolver ≡ true
    asked-needed resolver p there asked =
        asked-about m.config.resolver_splits (head_of (seen_before m.book own.entry) its-entry.0) resolver
        its-entry.0.batch (seen_before m.book own.entry).places 0 p there
        (sym (place-told m r has sound tells told own.entry its-entry.0 its-entry.1 p)
        ∙ ap (λ (i : ℕ). place_at r.book i p) waiting.3 ∙ asked.0)
        asked.1

    -- of whom verdicts came, the flag is set
    came-set : (resolver : ℕ) (came : Bool) → r.progress.verdicts_came number resolver ≡ came
        → is_set own.verdicts_received resolver ≡ came
    came-set resolver came is =
        sym (waiting.4.3 resolver) ∙ ap (λ (i : ℕ). r.progress.verdicts_came i resolver) waiting.3 ∙ is

    decision-accepts : CameBelow m.config r number (suc (length m.config.resolver_splits)) → Accepts (decides m proxy)
    unfolding decides
    decision-accepts came =
        let whole : first_missing needed 0 own.verdicts_received ≡ None =
        none-is-missing needed 0 own.verdicts_received
        (λ k within is.
        let first : 0 + k ≡ k = omega arith in
        let asked = needed-asked k (ap needed (sym first) ∙ is) in
        came-set k true (came k asked.0 asked.1 (omega (arith, within, waiting.4.2, has.resolvers)) asked.2)) in
        rw (waiting.1, ap is_resolving waiting.2, its-entry.1, whole) (_, refl)

    decision-waits : (resolver p : ℕ) (there : Place × List Place) → resolver < suc (length m.config.resolver_splits)
        → IsAskedAt m.config r number resolver p there → r.progress.verdicts_came number resolver ≡ false
        → CameBelow m.config r number resolver → decides m proxy ≡ Err (NotYet resolver)
    unfolding decides
    decision-waits resolver p there exists asked missing others =
        let first : 0 + resolver ≡ resolver = omega arith in
        let least : first_missing needed 0 own.verdicts_received ≡ Some resolver =
        least-is-missing needed 0 own.verdicts_received resolver (omega (arith, exists, waiting.4.2, has.resolvers))
        (ap needed first ∙ asked-needed resolver p there asked) (came-set resolver false missing)
        (λ l below is.
        let number_of : 0 + l ≡ l = omega arith in
        let lower = needed-asked l (ap needed (sym number_of) ∙ is) in
        came-set l true (others l lower.0 lower.1 below lower.2))
        ∙ ap Some first in
        rw (waiting.1, ap is_resolving waiting.2, its-entry.1, least) refl

  due-accepts : (one_step : Step) → IsDue m.config r one_step → Accepts (next m one_step)
  due-accepts (step.Resolve i resolver) due = resolver-accepts i resolver due
  due-accepts (step.Verdict i resolver) due = verdict-accepts i resolver due
  due-accepts (step.Decide proxy) due = decision-accepts proxy due.0 due.1 due.2
  due-accepts (step.Push i log) due = log-accepts i log due
  due-accepts (step.Logged i log) due = acknowledgement-accepts i log due
  due-accepts (step.Ask session proxy) due = absurd due
  due-accepts (step.Grant proxy) due = absurd due
  due-accepts (step.Get session key snapshot) due = absurd due
  due-accepts (step.GetRange session range limit is_reverse snapshot) due = absurd due
  due-accepts (step.Write session mutation) due = absurd due
  due-accepts (step.AddRead session range) due = absurd due
  due-accepts (step.AddWrite session range) due = absurd due
  due-accepts (step.Submit session proxy) due = absurd due
  due-accepts (step.Seal proxy advance) due = absurd due
  due-accepts (step.Report proxy) due = absurd due
  due-accepts (step.Answer proxy) due = absurd due
  due-accepts (step.Pull shard limit) due = absurd due
  due-accepts (step.Forget shard version) due = absurd due
  due-accepts (step.Pop shard) due = absurd due
  due-accepts (step.Move range to) due = absurd due
  due-accepts (step.Window window) due = absurd due

-- what holds of the machine and of what is told after a trace, where memory doesn't run out in the next step, and that
-- uses no role that has failed
module _ (config : Config) (steps : List Step) (given : List (Result Answered Refusal)) (one_step : Step)
    (result : Result Answered Refusal) (world later : State) (stands : IsTraceOf config steps given world)
    (stepped : IsStep world one_step result later) (ample : ran_out result ≡ false)
    (works : uses_failed world.machine world.failed one_step ≡ false) where
  abbrev before : Machine
  before = machine_of_trace config steps given

  abbrev told_before : Readings
  told_before = readings_of steps given

  -- it answers what the machine answers
  answers-so : result ≡ answer_of (next before one_step)
  answers-so = ⊎_elim
      (λ went. went.0 ∙ ap (λ (uses : Bool). answer_of (unless_failed uses (next world.machine one_step))) works
      ∙ ap (λ (n : Machine). answer_of (next n one_step)) (traces_tell config steps given world stands))
      (λ lacked. let both : true ≡ false = sym (ap ran_out lacked.0) ∙ ample in cc) stepped

  config-is : before.config ≡ config
  config-is = config-kept config steps given

  has-roles : HasRoles before
  has-roles = kept-by_trace HasRoles roles_stay (start config) steps given (roles-start config)

  tells-before : TellsMachine told_before before
  tells-before = trace-tells config steps given world stands

  tells-roles : TellsRoles told_before before
  tells-roles = trace-tells-roles config steps given world stands

  accepted-where-due : IsDue config told_before one_step → (answer : Answered) × (result ≡ Ok answer)
  accepted-where-due due =
      let accepts = due-accepts before told_before has-roles (sound-trace config steps given) tells-before tells-roles
      one_step
      (subst (λ (c : Config). IsDue c told_before one_step) (sym config-is) due) in
      (accepts.0.answer, answers-so ∙ ap answer_of accepts.1)

pub what_is_due_is_accepted : WhatIsDueIsAccepted
what_is_due_is_accepted config steps given one_step result world later stands stepped ample works due =
    accepted-where-due config steps given one_step result world later stands stepped ample works due

pub decisions_wait : DecisionsWait
decisions_wait config steps given proxy resolver result world later stands stepped ample works least =
    let decide = step.Decide proxy in
    let own = config-is config steps given decide result world later stands stepped ample works in
    let machine = machine_of_trace config steps given in
    let r = readings_of steps given in
    let missing = subst (λ (c : Config). IsLeastMissing c r proxy resolver) (sym own) least in
    answers-so config steps given decide result world later stands stepped ample works
    ∙ ap answer_of (decision-waits machine r
    (has-roles config steps given decide result world later stands stepped ample works)
    (sound-trace config steps given)
    (tells-before config steps given decide result world later stands stepped ample works)
    (tells-roles config steps given decide result world later stands stepped ample works) proxy missing.entry
    missing.waits resolver missing.p missing.there missing.exists missing.asked missing.missing missing.others)
