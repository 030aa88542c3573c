-- Steps where a role has failed, computed.
use Rattle.std.proofs.Common.{◌≡◌, refl, ap, inl, inr, ⊎_elim, true, false, [], ◌∷◌, length}
use Rattle.fdb_keys.specs.Points.{point_lt}
use Rattle.fdb_machine.specs.headline.FailureExamples.{FailedRolesRefuse, ReadsAskTheirShards, ReadersUseNoProxy}
use Rattle.fdb_machine.specs.headline.FailureExamples.{TheStepsOwnRoleFails, WhoAnswersHasNotFailed}
use Rattle.fdb_machine.specs.headline.FailureExamples.{FailedProxiesTellNothing}
use Rattle.fdb_machine.specs.machine.CommitProxySteps.{decides, seals, receives}
use Rattle.fdb_machine.specs.machine.Failures.{Failures, State}
use Rattle.fdb_machine.specs.machine.Machine.{Machine}
use Rattle.fdb_machine.specs.machine.RoleSteps.{resolves, pushes, pulls}

pub failed_roles_refuse : FailedRolesRefuse
unfolding resolves pushes pulls decides seals
failed_roles_refuse = (refl, refl, refl, refl, refl, refl, refl, refl)

pub reads_ask_their_shards : ReadsAskTheirShards
unfolding point_lt
reads_ask_their_shards = (refl, refl, refl, refl, refl)

pub readers_use_no_proxy : ReadersUseNoProxy
readers_use_no_proxy = (refl, refl, refl)

-- flags that differ
logs-differ : {A : Type 0} → (true ∷ []) ≡ (false ∷ []) → A
logs-differ same = cc

pub the_steps_own_role_fails : TheStepsOwnRoleFails
unfolding resolves receives
the_steps_own_role_fails = (
  inr (refl, (refl, inr refl)),
  inr (refl, (refl, inl refl)),
  (λ stepped. ⊎_elim (λ went. let wrong = went.0 in cc)
      (λ lacked. ⊎_elim (λ kept. logs-differ (ap (λ (failed : Failures). failed.logs) kept))
      (λ own. logs-differ (ap (λ (failed : Failures). failed.logs) own)) lacked.1.1) stepped),
  (λ stepped. ⊎_elim (λ went. let wrong = went.0 in cc)
      (λ lacked. ⊎_elim (λ kept. logs-differ (ap (λ (failed : Failures). failed.commit_proxies) kept))
      (λ own. absurd own) lacked.1.1) stepped),
  (λ stepped. ⊎_elim (λ went. let wrong = went.0 in cc)
      (λ lacked. let wrong = ap (λ (m : Machine). length m.book) lacked.1.0 in cc) stepped),
  (λ stepped. ⊎_elim (λ went. let wrong = went.0 in cc) (λ lacked. let wrong = lacked.0 in cc) stepped),
)

pub who_answers_has_not_failed : WhoAnswersHasNotFailed
unfolding resolves
who_answers_has_not_failed = (
  inl (refl, refl),
  (λ stepped. ⊎_elim (λ went. logs-differ (ap (λ (state : State). state.failed.resolvers) went.1))
      (λ lacked. let wrong = lacked.0 in cc) stepped),
  inl (refl, refl),
  (λ stepped. ⊎_elim (λ went. let wrong = went.0 in cc) (λ lacked. let wrong = lacked.0 in cc) stepped),
  (λ stepped. ⊎_elim (λ went. others-differ (ap (λ (state : State). state.failed.resolvers) went.1))
      (λ lacked. let wrong = lacked.0 in cc) stepped),
  (λ stepped. ⊎_elim (λ went. let wrong = went.0 in cc)
      (λ lacked. ⊎_elim (λ kept. others-differ (ap (λ (failed : Failures). failed.resolvers) kept))
      (λ own. others-differ (ap (λ (failed : Failures). failed.resolvers) own)) lacked.1.1) stepped),
)
  where
    others-differ : (false ∷ []) ≡ (true ∷ []) → ⊥
    others-differ same = cc

pub failed_proxies_tell_nothing : FailedProxiesTellNothing
failed_proxies_tell_nothing = (refl, refl, refl, refl, refl, refl)
