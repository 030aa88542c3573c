-- The commit proxies, kept tied to the book where one of them changes.
use Rattle.std.proofs.Common.{◌≡◌, ◌≢◌, ◌∙◌, refl, sym, ap, subst, ⊎_elim, ℕ, suc, ◌≤◌, Bool, true, false, List, []}
use Rattle.std.proofs.Common.{◌∷◌, map, Some, None, slice_get, slice_set, if◌then◌else◌}
use Rattle.std.specs.List.{AllByRecursion}
use Rattle.std.proofs.lemmas.Bool.{true≢false}
use Rattle.std.proofs.Math.Nat.{le_trans}
use Rattle.std.proofs.lemmas.List.{length-set}
use Rattle.fdb_keys.proofs.Exports.{all-weaken}
use Rattle.fdb_txn.specs.declared.entry.Entry.{Entry}
use Rattle.fdb_client.specs.Programs.{commit_request_of}
use Rattle.fdb_sequencer.specs.declared.ticket.Ticket.{Ticket}
use Rattle.fdb_proxy.specs.declared.config.Config.{Config}
use Rattle.fdb_proxy.specs.declared.stage.Stage.{Stage as CoreStage}
use Rattle.fdb_proxy.specs.declared.stage.Stage.TheVariants as stages
use Rattle.fdb_proxy.specs.CommitProxies.{CommitProxy as Core, HasFailed, sealing, is_idle as has_no_batch}
use Rattle.fdb_proxy.specs.Flags.{first_unset}
use Rattle.fdb_core.specs.declared.roles.commit_proxy.CommitProxyRole.{CommitProxyRole}
use Rattle.fdb_machine.specs.machine.CommitProxySteps.{is_idle, is_logging, is_reported}
use Rattle.fdb_machine.specs.machine.Machine.{first_missing}
use Rattle.fdb_machine.specs.machine.Roles.{Stage, Idle, Logging, Reported}
use Rattle.fdb_core.specs.refinement.Cluster.{CommitProxiesRefine}
use Rattle.fdb_core.specs.refinement.commit_proxy.Ties.{CommitProxyRefines, Known, StageRefines, ReadsWithin}
use Rattle.fdb_core.specs.refinement.commit_proxy.Ties.{IsLeftUnsealed, acknowledged_at, received_at, seen_as, stage_of}
use Rattle.fdb_machine.proofs.Exports.{item-after-set}
use Rattle.fdb_core.proofs.refinement.commit_proxy.Fronts.{StageTold, stage-told}

-- another one stands at a number, and the others go on
pub commit_proxies-set : (config : Config) (book later : List Entry) (known raised : ℕ → Known)
    (roles : List CommitProxyRole) (i : ℕ) (next : CommitProxyRole)
    → CommitProxiesRefine config book known roles → CommitProxyRefines config later (raised i) next
    → ((n : ℕ) (role : CommitProxyRole) → n ≢ i → slice_get roles n ≡ Some role
    → CommitProxyRefines config book (known n) role → CommitProxyRefines config later (raised n) role)
    → CommitProxiesRefine config later raised (slice_set roles i next)
commit_proxies-set config book later known raised roles i next ok tied goes_on = record {
  count = length-set roles i next ∙ ok.count;
  each = λ n role at. ⊎_elim
      (λ (here : (n ≡ i) × (next ≡ role)). subst (λ (m : ℕ). CommitProxyRefines config later (raised m) role)
      (sym here.0) (subst (CommitProxyRefines config later (raised i)) here.1 tied))
      (λ (elsewhere : (n ≢ i) × (slice_get roles n ≡ Some role)).
      goes_on n role elsewhere.0 elsewhere.1 (ok.each n role elsewhere.1))
      (item-after-set roles i next n role at);
}

-- in the place of another, where nothing else changes
pub commit_proxies-put : (config : Config) (book : List Entry)
    (known : ℕ → Known) (roles : List CommitProxyRole) (i : ℕ)
    (next : CommitProxyRole) → CommitProxiesRefine config book known roles
    → CommitProxyRefines config book (known i) next → CommitProxiesRefine config book known (slice_set roles i next)
commit_proxies-put config book known roles i next ok tied =
    commit_proxies-set config book book known known roles i next ok tied (λ n role differs at its. its)

module _ (config : Config) (book : List Entry) (known : Known) (role : CommitProxyRole)
    (ok : CommitProxyRefines config book known role) where
  -- it is idle where its state has no batch
  pub idle-seen : has_no_batch role.state.proxy.stage ≡ is_idle (seen_as role).stage
  idle-seen = by_stage role.state.proxy.stage refl ok.stage
    where
      by_flag : (flag : Bool) → false ≡ is_idle (if flag then Reported else Logging)
      by_flag true = refl
      by_flag false = refl

      by_stage : (stage : CoreStage) → role.state.proxy.stage ≡ stage
          → StageRefines role.is_reported role.entry stage
          → has_no_batch role.state.proxy.stage ≡ is_idle (seen_as role).stage
      by_stage stages.Idle is refines = rw is refl
      by_stage stages.Sealed is refines = absurd refines
      by_stage stages.Entered is refines = absurd refines
      by_stage (stages.Resolving batch) is refines = rw is refl
      by_stage (stages.Logging decided) is refines = rw is (by_flag role.is_reported)

  -- a busy proxy's entry is in the book, with the batch that is in flight
  pub busy-entry : is_idle (seen_as role).stage ≡ false
      → (entry : Entry) × (slice_get book role.entry ≡ Some entry)
      × (entry.batch ≡ map commit_request_of role.in_flight)
  busy-entry busy = by_stage role.state.proxy.stage refl (stage-told config book known role ok)
    where
      by_stage : (stage : CoreStage) → role.state.proxy.stage ≡ stage
          → StageTold config book role.is_reported role.entry role.state.proxy.batch stage
          → (entry : Entry) × (slice_get book role.entry ≡ Some entry)
          × (entry.batch ≡ map commit_request_of role.in_flight)
      by_stage stages.Idle is refines = absurd (true≢false (rw is at busy))
      by_stage stages.Sealed is refines = absurd refines
      by_stage stages.Entered is refines = absurd refines
      by_stage (stages.Resolving batch) is refines =
          (refines.0, refines.1.there, sym refines.1.places ∙ ok.in_flight)
      by_stage (stages.Logging decided) is refines =
          (refines.0, refines.1.there, sym refines.1.places ∙ ok.in_flight)

  -- its machine's one is reported where it says so
  pub reported-is : is_idle (seen_as role).stage ≡ false → is_reported (seen_as role).stage ≡ role.is_reported
  reported-is busy = by_stage role.state.proxy.stage refl (stage-told config book known role ok)
    where
      by_flag : (flag : Bool) → is_reported (if flag then Reported else Logging) ≡ flag
      by_flag true = refl
      by_flag false = refl

      by_stage : (stage : CoreStage) → role.state.proxy.stage ≡ stage
          → StageTold config book role.is_reported role.entry role.state.proxy.batch stage
          → is_reported (seen_as role).stage ≡ role.is_reported
      by_stage stages.Idle is refines = absurd (true≢false (rw is at busy))
      by_stage stages.Sealed is refines = absurd refines
      by_stage stages.Entered is refines = absurd refines
      by_stage (stages.Resolving batch) is refines = rw is (sym refines.3)
      by_stage (stages.Logging decided) is refines = rw is (by_flag role.is_reported)

  -- a greater committed version leaves a proxy tied
  module _ (raised : ℕ) (above : known.committed ≤ raised) where
    reads-raised : AllByRecursion (ReadsWithin raised) role.waiting
    reads-raised = all-weaken (ReadsWithin known.committed) (ReadsWithin raised)
        (λ transcript within. le_trans within above) role.waiting ok.reads

    pub commit_proxy-raised : CommitProxyRefines config book (record known { committed = raised }) role
    commit_proxy-raised = record {
      front = ok.front;
      behind = ok.behind;
      whole = ok.whole;
      state = ok.state;
      unlearnt = ok.unlearnt;
      waiting = ok.waiting;
      in_flight = ok.in_flight;
      reads = reads-raised;
      stage = ok.stage;
    }

    -- and so does the report of a batch that every log acknowledged
    pub commit_proxy-reported : is_logging (seen_as role).stage ≡ true
        → first_missing (λ log. true) 0 (seen_as role).acknowledgements_received ≡ None
        → CommitProxyRefines config book (record known { committed = raised }) (record role { is_reported = true })
    commit_proxy-reported logging none = record {
      front = ok.front;
      behind = ok.behind;
      whole = ok.whole;
      state = ok.state;
      unlearnt = ok.unlearnt;
      waiting = ok.waiting;
      in_flight = ok.in_flight;
      reads = reads-raised;
      stage = by_stage role.state.proxy.stage refl ok.stage;
    }
      where
        unset-missing : (n : ℕ) (flags : List Bool) → first_missing (λ log. true) n flags ≡ first_unset n flags
        unset-missing n [] = refl
        unset-missing n (true ∷ flags) = unset-missing (suc n) flags
        unset-missing n (false ∷ flags) = refl

        by_stage : (stage : CoreStage) → role.state.proxy.stage ≡ stage
            → StageRefines role.is_reported role.entry stage → StageRefines true role.entry role.state.proxy.stage
        by_stage stages.Idle is refines = absurd (true≢false (sym (rw is at logging)))
        by_stage stages.Sealed is refines = absurd refines
        by_stage stages.Entered is refines = absurd refines
        by_stage (stages.Resolving batch) is refines = absurd (true≢false (sym (rw is at logging)))
        by_stage (stages.Logging decided) is refines =
            subst (StageRefines true role.entry) (sym is)
            (refines.0, λ reported. sym (unset-missing 0 decided.acknowledged) ∙ all_came)
          where
            all_came : first_missing (λ log. true) 0 decided.acknowledged ≡ None
            all_came = sym (ap (λ (stage : CoreStage). first_missing (λ log. true) 0 (acknowledged_at stage)) is) ∙ none

-- the machine's one whose version is reported
pub seen-reported : (role : CommitProxyRole) → is_logging (seen_as role).stage ≡ true
    → seen_as (record role { is_reported = true }) ≡ record (seen_as role) { stage = Reported }
seen-reported role logging = by_stage role.state.proxy.stage refl
  where
    by_stage : (stage : CoreStage) → role.state.proxy.stage ≡ stage
        → seen_as (record role { is_reported = true }) ≡ record (seen_as role) { stage = Reported }
    by_stage stages.Idle is = absurd (true≢false (sym (rw is at logging)))
    by_stage stages.Sealed is = absurd (true≢false (sym (rw is at logging)))
    by_stage stages.Entered is = absurd (true≢false (sym (rw is at logging)))
    by_stage (stages.Resolving batch) is = absurd (true≢false (sym (rw is at logging)))
    by_stage (stages.Logging decided) is = rw is refl

-- what the machine sees of a state's stage where the batch isn't reported or is
abbrev Staged : Type 0
Staged = Stage × List Bool × List Bool

abbrev staged : Bool → CoreStage → Staged
staged is_reported stage = (stage_of is_reported stage, received_at stage, acknowledged_at stage)

-- a proxy whose batch wasn't sealed is seen as it was, also where its state failed while it learnt the ticket
pub seen-unsealed : (role later : CommitProxyRole) (ticket : Ticket) → has_no_batch role.state.proxy.stage ≡ true
    → IsLeftUnsealed ticket role later → seen_as later ≡ seen_as role
seen-unsealed role later ticket idle left =
    ap seen_as left.rest
    ∙ ap (λ (at : Staged). record (seen_as role) {
      stage = at.0;
      verdicts_received = at.1;
      acknowledgements_received = at.2;
    })
    (⊎_elim
    (λ (same : later.state.proxy ≡ role.state.proxy). ap (λ (p : Core). staged role.is_reported p.stage) same)
    (λ (failed : HasFailed (sealing role.state.proxy) ticket later.state.proxy).
    ap (λ (p : Core). staged role.is_reported p.stage) failed.rest ∙ sym (by_stage role.state.proxy.stage idle))
    left.state)
  where
    by_stage : (stage : CoreStage) → has_no_batch stage ≡ true → staged role.is_reported stage ≡ (Idle, [], [])
    by_stage stages.Idle none = refl
    by_stage stages.Sealed none = cc
    by_stage stages.Entered none = cc
    by_stage (stages.Resolving batch) none = cc
    by_stage (stages.Logging decided) none = cc
