-- Steps of a commit proxy that works, where others may have failed.
use Rattle.std.proofs.Common.{◌≡◌, ◌∙◌, refl, sym, ap, subst, ℕ, Bool, true, false, not, List, map, Option, Some, None}
use Rattle.std.proofs.Common.{Ok, Err, slice_get, get_or}
use Rattle.std.specs.Global.{Vec}
use Rattle.std.specs.Vec.{with_item}
use Rattle.std.proofs.lemmas.Option.{slice_get_within}
use Rattle.fdb_keys.specs.declared.refusal.Refusal.{Refusal}
use Rattle.fdb_keys.specs.declared.refusal.Refusal.TheVariants.{Failed, NotYet, WrongState, Exhausted, BookFull}
use Rattle.fdb_txn.specs.declared.entry.Entry.{Entry}
use Rattle.fdb_core.specs.declared.cluster.Cluster.{Cluster}
use Rattle.fdb_core.specs.declared.roles.commit_proxy.CommitProxyRole.{CommitProxyRole}
use Rattle.fdb_core.specs.declared.roles.log.LogRole.{LogRole}
use Rattle.fdb_core.specs.declared.roles.resolver.ResolverRole.{ResolverRole}
use Rattle.fdb_core.specs.declared.roles.shard.ShardRole.{ShardRole}
use Rattle.fdb_machine.specs.declared.step.Answered.{Answered}
use Rattle.fdb_machine.specs.machine.AnyStep.{Step}
use Rattle.fdb_machine.specs.machine.CommitProxySteps.{seals, decides, reports, answers, is_idle, is_resolving}
use Rattle.fdb_machine.specs.machine.CommitProxySteps.{is_logging, is_reported}
use Rattle.fdb_machine.specs.machine.Failures.{tells_failed, uses_failed, unless_failed}
use Rattle.fdb_machine.specs.machine.Machine.{Machine, Transition, refused_where, waits_for}
use Rattle.fdb_machine.specs.machine.Roles.{CommitProxy, Sender, Stage, Idle, Resolving, Logging, Reported}
use Rattle.fdb_machine.specs.machine.Steps.{next}
use Rattle.fdb_core.specs.refinement.Cluster.{machine_of, Refines}
use Rattle.fdb_core.specs.refinement.Restoring.{Tied, Roles, Restores, SameProxy, SameResolver, SameLog, SameShard}
use Rattle.fdb_core.specs.refinement.Restoring.{failures_of, proxy_failed, resolver_failed, log_failed, shard_failed}
use Rattle.fdb_core.specs.refinement.Restoring.{with_roles}
use Rattle.fdb_core.specs.refinement.Steps.{Takes}
use Rattle.fdb_core.specs.refinement.commit_proxy.Receiving.{IsReceiver}
use Rattle.fdb_core.specs.refinement.commit_proxy.Ties.{known_to, seen_as}
use Rattle.fdb_roles.proofs.Exports.{map-at, one-item, set-here}
use Rattle.fdb_core.proofs.refinement.commit_proxy.Receiving.{proxy-same, receiver-there}
use Rattle.fdb_core.proofs.refinement.commit_proxy.Ties.{busy-entry}
use Rattle.fdb_core.proofs.refinement.RestoringLemmas.{flag-at, restored, restores-at, restores-like, restores-set}
use Rattle.fdb_core.proofs.refinement.RestoringLemmas.{flags-same, same-machine}
use Rattle.fdb_core.proofs.refinement.StepLemmas.{IsKept, NamesWhatIsThere, accepted-restored}

-- a proxy that works is what it was
pub proxy-was : (k : Cluster) (tied : Tied k) (proxy : ℕ) (role : CommitProxyRole)
    → slice_get k.commit_proxies.items proxy ≡ Some role → proxy_failed role ≡ false
    → slice_get tied.roles.commit_proxies.items proxy ≡ Some role
proxy-was k tied proxy role at works =
    restores-at _ _ k.commit_proxies.items tied.roles.commit_proxies.items tied.commit_proxies proxy role at works

-- the roles as they were, with another value of the proxy
abbrev pub roles-with : {k : Cluster} → Tied k → ℕ → CommitProxyRole → Roles
roles-with tied proxy later = record tied.roles {
  commit_proxies = with_item tied.roles.commit_proxies proxy later;
}

-- a cluster that has another value of the proxy is tied, where it is so with the roles as they were
abbrev pub proxy-tied : (k : Cluster) (tied : Tied k) (proxy : ℕ) (later : CommitProxyRole) (new : Cluster)
    → new.commit_proxies ≡ with_item k.commit_proxies proxy later → new.resolvers ≡ k.resolvers → new.logs ≡ k.logs
    → new.shards ≡ k.shards → Refines (with_roles new (roles-with tied proxy later)) → Tied new
proxy-tied k tied proxy later new proxies resolvers logs shards refines =
    record {
      roles = roles-with tied proxy later;
      commit_proxies = subst (λ (list : Vec CommitProxyRole).
          Restores proxy_failed SameProxy list.items (roles-with tied proxy later).commit_proxies.items) (sym proxies)
          (restores-set _ _ k.commit_proxies.items tied.roles.commit_proxies.items tied.commit_proxies proxy later);
      resolvers = subst (λ (list : Vec ResolverRole).
          Restores resolver_failed SameResolver list.items tied.roles.resolvers.items) (sym resolvers) tied.resolvers;
      logs = subst (λ (list : Vec LogRole). Restores log_failed SameLog list.items tied.roles.logs.items) (sym logs)
          tied.logs;
      shards = subst (λ (list : Vec ShardRole).
          Restores shard_failed SameShard list.items tied.roles.shards.items) (sym shards) tied.shards;
      refines = refines;
    }

-- where the proxy works before and after, no role has failed
pub proxy-flags : (k new : Cluster) (proxy : ℕ) (role later : CommitProxyRole)
    → slice_get k.commit_proxies.items proxy ≡ Some role
    → new.commit_proxies ≡ with_item k.commit_proxies proxy later → new.resolvers ≡ k.resolvers → new.logs ≡ k.logs
    → new.shards ≡ k.shards → proxy_failed later ≡ proxy_failed role → failures_of new ≡ failures_of k
proxy-flags k new proxy role later at proxies resolvers logs shards same = λ i. record {
  commit_proxies = (ap (λ (list : Vec CommitProxyRole). map proxy_failed list.items) proxies
      ∙ flags-same proxy_failed k.commit_proxies.items proxy role later at same) i;
  resolvers = map resolver_failed (resolvers i).items;
  logs = map log_failed (logs i).items;
  shards = map shard_failed (shards i).items;
}

-- what the step does of the cluster as it was before roles failed, it does of the cluster
pub proxy-goes_on : (k : Cluster) (tied : Tied k) (taken : Step) (proxy : ℕ) (role later : CommitProxyRole)
    (new : Cluster) (given : Answered)
    → slice_get k.commit_proxies.items proxy ≡ Some role → proxy_failed role ≡ false
    → new.commit_proxies ≡ with_item k.commit_proxies proxy later → new.resolvers ≡ k.resolvers → new.logs ≡ k.logs
    → new.shards ≡ k.shards → uses_failed (machine_of k) (failures_of k) taken ≡ false
    → (next (machine_of (restored k tied)) taken ≡ Ok (record {
      answer = given;
      next = machine_of (with_roles new (roles-with tied proxy later));
    })) × Refines (with_roles new (roles-with tied proxy later))
    → Takes k taken (Ok given) new
proxy-goes_on k tied taken proxy role later new given at works proxies resolvers logs shards unused went =
    accepted-restored k new taken tied (proxy-tied k tied proxy later new proxies resolvers logs shards went.1) unused
    went.0 refl refl
    (proxy-flags k new proxy role later at proxies resolvers logs shards (working ∙ sym works))
  where
    was : slice_get tied.roles.commit_proxies.items proxy ≡ Some role
    was = proxy-was k tied proxy role at works

    working : later.state.proxy.is_failed ≡ false
    working = (went.1.commit_proxies.each proxy later (set-here tied.roles.commit_proxies.items proxy later
        (slice_get_within tied.roles.commit_proxies.items proxy role was))).state.works

-- a proxy that is what it was leaves the world as it was
pub proxy-kept : (k : Cluster) (tied : Tied k) (proxy : ℕ) (role later : CommitProxyRole)
    → slice_get k.commit_proxies.items proxy ≡ Some role → proxy_failed role ≡ false → later ≡ role
    → IsKept k (record k { commit_proxies = with_item k.commit_proxies proxy later })
proxy-kept k tied proxy role later at works same =
    let new : Cluster = record k { commit_proxies = with_item k.commit_proxies proxy later } in record {
      machine = ap (λ (proxies : List CommitProxy). record (machine_of k) { commit_proxies = proxies })
          (flags-same seen_as k.commit_proxies.items proxy role later at (ap seen_as same));
      failed = proxy-flags k new proxy role later at refl refl refl refl (ap proxy_failed same);
      tied = proxy-tied k tied proxy later new refl refl refl refl
          (proxy-same (restored k tied) tied.refines proxy role later (proxy-was k tied proxy role at works) same).1;
    }

-- The batch that the machine has in flight at a proxy is that of an entry of the book, also where the proxy has failed.
book-has : (k : Cluster) (tied : Tied k) (proxy : ℕ) (role : CommitProxyRole)
    → slice_get k.commit_proxies.items proxy ≡ Some role → is_idle (seen_as role).stage ≡ false
    → (entry : Entry) × (slice_get k.book.items (seen_as role).entry ≡ Some entry)
book-has k tied proxy role at busy =
    let was = restores-like _ _ (λ x. refl) k.commit_proxies.items tied.roles.commit_proxies.items tied.commit_proxies
    proxy role at in
    let own = busy-entry k.config k.book.items (known_to k.sequencer proxy) was.0
    (tied.refines.commit_proxies.each proxy was.0 was.1)
    (ap (λ (seen : CommitProxy). is_idle seen.stage) (sym was.2) ∙ busy) in
    (own.0, ap (λ (seen : CommitProxy). slice_get k.book.items seen.entry) was.2 ∙ own.1)

-- which isn't idle where it resolves, or logs
resolving-busy : (stage : Stage) → is_resolving stage ≡ true → is_idle stage ≡ false
resolving-busy Idle is = cc
resolving-busy Resolving is = refl
resolving-busy Logging is = cc
resolving-busy Reported is = cc

logging-busy : (stage : Stage) → is_logging stage ≡ true → is_idle stage ≡ false
logging-busy Idle is = cc
logging-busy Resolving is = cc
logging-busy Logging is = refl
logging-busy Reported is = cc

-- a step that waits for something names what is there
waits-there : (missing : Option ℕ) (to : Transition) → unless_failed true (waits_for missing (Ok to)) ≡ Err Failed
waits-there None to = refl
waits-there (Some i) to = refl

module _ (k : Cluster) (tied : Tied k) (proxy : ℕ) (role : CommitProxyRole)
    (at : slice_get k.commit_proxies.items proxy ≡ Some role) where
  there : slice_get (map seen_as k.commit_proxies.items) proxy ≡ Some (seen_as role)
  there = map-at seen_as k.commit_proxies.items proxy role at

  -- each step of a proxy that is there names what is there
  pub decides-there : NamesWhatIsThere (decides (machine_of k) proxy)
  unfolding decides
  decides-there = by_test (is_resolving (seen_as role).stage) refl
    where
      by_test : (test : Bool) → is_resolving (seen_as role).stage ≡ test
          → NamesWhatIsThere (decides (machine_of k) proxy)
      by_test true is =
          let entry = book-has k tied proxy role at (resolving-busy (seen_as role).stage is) in
          record { refused = rw (there, is, entry.1) (waits-there _ _) }
      by_test false is = record { refused = rw (there, is) refl }

  pub reports-there : NamesWhatIsThere (reports (machine_of k) proxy)
  unfolding reports
  reports-there = by_test (is_logging (seen_as role).stage) refl
    where
      by_test : (test : Bool) → is_logging (seen_as role).stage ≡ test
          → NamesWhatIsThere (reports (machine_of k) proxy)
      by_test true is =
          let entry = book-has k tied proxy role at (logging-busy (seen_as role).stage is) in
          record { refused = rw (there, is, entry.1) (waits-there _ _) }
      by_test false is = record { refused = rw (there, is) refl }

  pub answers-there : NamesWhatIsThere (answers (machine_of k) proxy)
  unfolding answers
  answers-there = by_test (is_idle (seen_as role).stage) refl
    where
      by_report : (reported : Bool) (why : Refusal) (to : Transition) → unless_failed true (Err why) ≡ Err Failed
          → unless_failed true (refused_where (not reported) why (Ok to)) ≡ Err Failed
      by_report true why to fails = refl
      by_report false why to fails = fails

      by_test : (test : Bool) → is_idle (seen_as role).stage ≡ test → NamesWhatIsThere (answers (machine_of k) proxy)
      by_test true is = record { refused = rw (there, is) refl }
      by_test false is =
          let entry = book-has k tied proxy role at is in
          record {
            refused = rw (there, is, entry.1)
                (by_report (is_reported (seen_as role).stage) (NotYet entry.0.version) _ refl);
          }

  pub seals-there : (advance : ℕ) → NamesWhatIsThere (seals (machine_of k) proxy advance)
  unfolding seals
  seals-there advance = record { refused = rw there (by_tests _ _ _ _) }
    where
      by_tests : (busy used_up full : Bool) (to : Transition)
          → unless_failed true (refused_where busy WrongState (refused_where used_up Exhausted
          (refused_where full BookFull (Ok to)))) ≡ Err Failed
      by_tests true used_up full to = refl
      by_tests false true full to = refl
      by_tests false false true to = refl
      by_tests false false false to = refl

-- what is told of an entry comes to the proxy that was found, by its flag
pub told-flag : (k : Cluster) (entry : ℕ) (sender : Sender) (proxy : ℕ)
    → IsReceiver (machine_of k) entry sender proxy → (role : CommitProxyRole)
    → slice_get k.commit_proxies.items proxy ≡ Some role
    → tells_failed (machine_of k) (failures_of k) (slice_get k.entry_proxies.items entry) ≡ proxy_failed role
told-flag k entry sender proxy found role at =
    ap (tells_failed (machine_of k) (failures_of k)) found.its
    ∙ flag-at proxy_failed k.commit_proxies.items proxy role at

-- who was found is found with the roles as they were before some failed
pub still-found : (k : Cluster) (tied : Tied k) (entry : ℕ) (sender : Sender) (proxy : ℕ)
    → IsReceiver (machine_of k) entry sender proxy → IsReceiver (machine_of (restored k tied)) entry sender proxy
still-found k tied entry sender proxy found =
    subst (λ (m : Machine). IsReceiver m entry sender proxy) (sym (same-machine k tied)) found

-- What holds where something of an entry comes to its proxy, which works: of the cluster as it is, and as it was before
-- roles failed.
pub record ComesTo (k : Cluster) (tied : Tied k) (entry : ℕ) (sender : Sender) (proxy : ℕ) (role : CommitProxyRole)
    : Type 0 where
  pub here : slice_get k.commit_proxies.items proxy ≡ Some role
  pub works : proxy_failed role ≡ false
  pub unused : tells_failed (machine_of k) (failures_of k) (slice_get k.entry_proxies.items entry) ≡ false
  pub was : slice_get tied.roles.commit_proxies.items proxy ≡ Some role
  pub found : IsReceiver (machine_of (restored k tied)) entry sender proxy

-- it holds where the proxy that was found is tested, and then read once more
pub comes-to : (k : Cluster) (tied : Tied k) (entry : ℕ) (sender : Sender) (proxy : ℕ) (tested role : CommitProxyRole)
    → IsReceiver (machine_of k) entry sender proxy → tested ≡ get_or k.commit_proxies.items proxy tested
    → role ≡ get_or k.commit_proxies.items proxy role → proxy_failed tested ≡ false
    → ComesTo k tied entry sender proxy role
comes-to k tied entry sender proxy tested role found tests reads works = record {
  here = here;
  works = working;
  unused = told-flag k entry sender proxy found role here ∙ working;
  was = proxy-was k tied proxy role here working;
  found = still-found k tied entry sender proxy found;
}
  where
    here : slice_get k.commit_proxies.items proxy ≡ Some role
    here = receiver-there k entry sender proxy role found reads

    working : proxy_failed role ≡ false
    working = ap proxy_failed (sym (one-item k.commit_proxies.items proxy tested role
        (slice_get_within k.commit_proxies.items proxy role here) tests here)) ∙ works
