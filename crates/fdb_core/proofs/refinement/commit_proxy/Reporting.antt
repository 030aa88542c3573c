-- A commit proxy reports the version of its batch, once every log acknowledged the batch.
use Rattle.std.proofs.Common.{◌≡◌, ◌∙◌, refl, sym, ap, ⊎_elim, ℕ, max, ◌<◌, ◌≤◌, true, false, map, Option, Some, None}
use Rattle.std.proofs.Common.{Result, Ok, Err, length, slice_get, slice_set, subst}
use Rattle.std.proofs.lemmas.Bool.{cases_Bool}
use Rattle.std.proofs.lemmas.Option.{slice_get_within}
use Rattle.fdb_keys.specs.Answers.{AnswersExactly}
use Rattle.fdb_keys.specs.declared.refusal.Refusal.{Refusal}
use Rattle.fdb_keys.specs.declared.refusal.Refusal.TheVariants.{NotYet, WrongState}
use Rattle.fdb_txn.specs.declared.entry.Entry.{Entry}
use Rattle.fdb_proxy.specs.CommitProxies.{waiting_for}
use Rattle.fdb_core.specs.declared.cluster.Cluster.{Cluster}
use Rattle.fdb_core.specs.declared.roles.commit_proxy.CommitProxyRole.{CommitProxyRole}
use Rattle.fdb_machine.specs.declared.step.Answered.TheVariants as answered
use Rattle.fdb_machine.specs.machine.CommitProxySteps.{reports, is_idle, is_logging}
use Rattle.fdb_machine.specs.machine.Machine.{Machine, first_missing}
use Rattle.fdb_machine.specs.machine.Roles.{CommitProxy, Stage, Idle, Resolving, Logging, Reported}
use Rattle.fdb_core.specs.refinement.Cluster.{machine_of, CommitProxiesRefine, Refines}
use Rattle.fdb_core.specs.refinement.commit_proxy.Ties.{CommitProxyRefines, known_to, seen_as}
use Rattle.fdb_roles.proofs.Exports.{map-at, map-set}
use Rattle.fdb_core.proofs.refinement.commit_proxy.Ties.{busy-entry, commit_proxies-set, commit_proxy-raised}
use Rattle.fdb_core.proofs.refinement.commit_proxy.Ties.{commit_proxy-reported, seen-reported}

-- whose batch is being logged isn't idle
logging-busy : (stage : Stage) → is_logging stage ≡ true → is_idle stage ≡ false
logging-busy Idle is = cc
logging-busy Resolving is = cc
logging-busy Logging is = refl
logging-busy Reported is = cc

-- what the machine does, once it knows the proxy
module _ (m : Machine) (proxy : ℕ) (commit_proxy : CommitProxy)
    (there : slice_get m.commit_proxies proxy ≡ Some commit_proxy) where
  -- the least log whose acknowledgement hasn't come
  abbrev pub missing : Option ℕ
  missing = first_missing (λ log. true) 0 commit_proxy.acknowledgements_received

  reports-wrong : is_logging commit_proxy.stage ≡ false → reports m proxy ≡ Err WrongState
  unfolding reports
  reports-wrong other = rw (there, other) refl

  module _ (logging : is_logging commit_proxy.stage ≡ true) (entry : Entry)
      (in_book : slice_get m.book commit_proxy.entry ≡ Some entry) where
    reports-early : (log : ℕ) → missing ≡ Some log → reports m proxy ≡ Err (NotYet log)
    unfolding reports
    reports-early log some = rw (there, logging, in_book, some) refl

    reports-transition : missing ≡ None → reports m proxy ≡ Ok (record {
      answer = answered.Version (max m.committed entry.version);
      next = record m {
        committed = max m.committed entry.version;
        commit_proxies = slice_set m.commit_proxies proxy (record commit_proxy { stage = Reported });
      };
    })
    unfolding reports
    reports-transition none = rw (there, logging, in_book, none) refl

-- The batch of the proxy has an entry, and the proxy may report it.
pub record IsReporting (k : Cluster) (proxy : ℕ) (role : CommitProxyRole) : Type 0 where
  pub inside : role.entry < length k.book.items
  pub goes_on : (entry : Entry) → slice_get k.book.items role.entry ≡ Some entry
      → reports (machine_of k) proxy ≡ Ok (record {
        answer = answered.Version (max k.sequencer.committed entry.version);
        next = record (machine_of k) {
          committed = max k.sequencer.committed entry.version;
          commit_proxies = map seen_as
              (slice_set k.commit_proxies.items proxy (record role { is_reported = true }));
        };
      })
  pub tied : (raised : ℕ) → k.sequencer.committed ≤ raised
      → CommitProxiesRefine k.config k.book.items (λ (n : ℕ). record (known_to k.sequencer n) { committed = raised })
      (slice_set k.commit_proxies.items proxy (record role { is_reported = true }))

module _ (k : Cluster) (before : Refines k) (proxy : ℕ) (role : CommitProxyRole)
    (there : slice_get k.commit_proxies.items proxy ≡ Some role) where
  pub its : CommitProxyRefines k.config k.book.items (known_to k.sequencer proxy) role
  its = before.commit_proxies.each proxy role there

  seen_there : slice_get (map seen_as k.commit_proxies.items) proxy ≡ Some (seen_as role)
  seen_there = map-at seen_as k.commit_proxies.items proxy role there

  abbrev missing_there : Option ℕ
  missing_there = first_missing (λ log. true) 0 (seen_as role).acknowledgements_received

  module _ {T : Type 0} (result : Result T Refusal) (P : T → Type 0)
      (wrong : is_logging (seen_as role).stage ≡ false → result ≡ Err WrongState)
      (says : is_logging (seen_as role).stage ≡ true → AnswersExactly result (waiting_for missing_there) P) where
    -- where the test refuses, so does the machine
    pub refuses : (why : Refusal) → result ≡ Err why → reports (machine_of k) proxy ≡ Err why
    refuses why is = ⊎_elim
        (λ logging.
        let own = busy-entry k.config k.book.items (known_to k.sequencer proxy) role its
        (logging-busy (seen_as role).stage logging) in
        by_missing logging own.0 own.1 missing_there refl
        (subst (λ (given : Result T Refusal). AnswersExactly given (waiting_for missing_there) P) is (says logging)))
        (λ other.
        reports-wrong (machine_of k) proxy (seen_as role) seen_there other
        ∙ ap (λ (it : Refusal). Err it) (same_Err WrongState why (sym (wrong other) ∙ is)))
        (cases_Bool (is_logging (seen_as role).stage))
      where
        same_Err : (one other : Refusal) → ◌≡◌ {A = Result T Refusal} (Err one) (Err other) → one ≡ other
        same_Err one other same = cc

        by_missing : is_logging (seen_as role).stage ≡ true → (entry : Entry)
            → slice_get k.book.items role.entry ≡ Some entry → (missing : Option ℕ) → missing_there ≡ missing
            → AnswersExactly {T = T} (Err why) (waiting_for missing) P → reports (machine_of k) proxy ≡ Err why
        by_missing logging entry in_book None none says = absurd says
        by_missing logging entry in_book (Some log) some says =
            reports-early (machine_of k) proxy (seen_as role) seen_there logging entry in_book log some
            ∙ ap (λ (it : Refusal). Err it) (sym says)

    -- where it passes, the proxy may report
    pub passes : (given : T) → result ≡ Ok given → IsReporting k proxy role
    passes given is = ⊎_elim
        (λ logging. reporting logging (by_missing missing_there
        (subst (λ (it : Result T Refusal). AnswersExactly it (waiting_for missing_there) P) is (says logging))))
        (λ other. absurd (apart (sym (wrong other) ∙ is)))
        (cases_Bool (is_logging (seen_as role).stage))
      where
        apart : ◌≡◌ {A = Result T Refusal} (Err WrongState) (Ok given) → ⊥
        apart same = cc

        by_missing : (missing : Option ℕ) → AnswersExactly (Ok given) (waiting_for missing) P → missing ≡ None
        by_missing None says = refl
        by_missing (Some log) says = absurd says

        reporting : is_logging (seen_as role).stage ≡ true → missing_there ≡ None → IsReporting k proxy role
        reporting logging none =
            let own = busy-entry k.config k.book.items (known_to k.sequencer proxy) role its
            (logging-busy (seen_as role).stage logging) in
            record {
              inside = slice_get_within k.book.items role.entry own.0 own.1;
              goes_on = λ entry in_book.
                  reports-transition (machine_of k) proxy (seen_as role) seen_there logging entry in_book none
                  ∙ (λ i. Ok (record {
                    answer = answered.Version (max k.sequencer.committed entry.version);
                    next = record (machine_of k) {
                      committed = max k.sequencer.committed entry.version;
                      commit_proxies = sym seen i;
                    };
                  }));
              tied = λ raised above.
                  commit_proxies-set k.config k.book.items k.book.items (known_to k.sequencer)
                  (λ (n : ℕ). record (known_to k.sequencer n) { committed = raised })
                  k.commit_proxies.items proxy (record role { is_reported = true }) before.commit_proxies
                  (commit_proxy-reported k.config k.book.items (known_to k.sequencer proxy) role its raised above
                  logging none) (λ n other differs at ok.
                  commit_proxy-raised k.config k.book.items (known_to k.sequencer n) other ok raised above);
            }
          where
            seen : map seen_as (slice_set k.commit_proxies.items proxy (record role { is_reported = true }))
                ≡ slice_set (map seen_as k.commit_proxies.items) proxy (record (seen_as role) { stage = Reported })
            seen = map-set seen_as k.commit_proxies.items proxy (record role { is_reported = true })
                ∙ ap (slice_set (map seen_as k.commit_proxies.items) proxy) (seen-reported role logging)
