use Rattle.std.proofs.Common.{◌≡◌, ◌∙◌, refl, sym, true, false, length, Some, Ok, slice_get, arith, rules}
use Rattle.std.proofs.lemmas.List.{length-map}
use Rattle.fdb_core.specs.declared.cluster.Cluster.{Cluster}
use Rattle.fdb_core.specs.declared.roles.log.LogRole.{LogRole}
use Rattle.fdb_core.specs.declared.roles.resolver.ResolverRole.{ResolverRole}
use Rattle.fdb_machine.specs.machine.CommitProxySteps.{is_idle}
use Rattle.fdb_machine.specs.machine.Machine.{is_set}
use Rattle.fdb_core.specs.refinement.Restoring.{Tied, failures_of, proxy_failed}
use Rattle.fdb_core.specs.refinement.commit_proxy.Ties.{known_to, seen_as}
use Rattle.fdb_roles.proofs.Exports.{map-at, read-there}
use Rattle.fdb_core.proofs.refinement.RestoringLemmas.{flag-at, restores-count}
use Rattle.fdb_core.proofs.refinement.commit_proxy.Failing.{proxy-was}
use Rattle.fdb_core.proofs.refinement.commit_proxy.Ties.{idle-seen}
use Rattle.fdb_core.proofs.cluster.Cluster.in_flight.Goals as goal
use Rattle.fdb_core.proofs.cluster.Cluster.in_flight.Goals.{After-is_idle}

-- there are as many resolvers and logs as there were before some failed
resolver-count : (k : Cluster) (tied : Tied k) → length k.resolvers.items ≡ length tied.roles.resolvers.items
resolver-count k tied = restores-count _ _ k.resolvers.items tied.roles.resolvers.items tied.resolvers

log-count : (k : Cluster) (tied : Tied k) → length k.logs.items ≡ length tied.roles.logs.items
log-count k tied = restores-count _ _ k.logs.items tied.roles.logs.items tied.logs

pub overflow_cast-result : goal.overflow_cast-result
overflow_cast-result c =
    let k = c.args.self.now in
    let count = resolver-count k c.requires ∙ c.requires.refines.resolvers.count in
    let few = c.requires.refines.legal.few_resolvers in
    search (rules, arith)

pub overflow_cast-result-2 : goal.overflow_cast-result-2
overflow_cast-result-2 c =
    let k = c.args.self.now in
    let count = log-count k c.requires ∙ c.requires.refines.logs.log_count in
    let few = c.requires.refines.legal.few_logs in
    search (rules, arith)

-- the commit proxy, which works, and which the machine sees as idle where the call says so
module _ (c : After-is_idle) where
  there : slice_get c.args.self.now.commit_proxies.items c.args.proxy ≡ Some c.index-commit_proxy.result.now
  there = read-there c.args.self.now.commit_proxies.items c.args.proxy c.index-commit_proxy.result.now (search rules)
      c.index-commit_proxy.ensures

  working : proxy_failed c.index-commit_proxy.result.now ≡ false
  working = sym c.if-is_failed.ensures

  unused : is_set (failures_of c.args.self.now).commit_proxies c.args.proxy ≡ false
  unused = flag-at proxy_failed c.args.self.now.commit_proxies.items c.args.proxy c.index-commit_proxy.result.now there
      ∙ working

  seen : c.is_idle.result ≡ is_idle (seen_as c.index-commit_proxy.result.now).stage
  seen =
      let k = c.args.self.now in
      let role = c.index-commit_proxy.result.now in
      c.is_idle.ensures
      ∙ idle-seen k.config k.book.items (known_to k.sequencer c.args.proxy) role
      (c.requires.refines.commit_proxies.each c.args.proxy role
      (proxy-was k c.requires c.args.proxy role there working))

pub returns-then-is_idle : goal.returns-then-is_idle
returns-then-is_idle c =
    let found = (goal.at.returns-then-is_idle c).After-is_idle in
    let idle : is_idle (seen_as c.index-commit_proxy.result.now).stage ≡ true = sym (seen found) ∙ search rules in
    rw (
      unused found,
      map-at seen_as c.args.self.now.commit_proxies.items c.args.proxy c.index-commit_proxy.result.now (there found),
      idle,
    ) refl

pub returns : goal.returns
returns c =
    let k = c.args.self.now in
    let found = (goal.at.returns c).After-is_idle in
    let busy : is_idle (seen_as c.index-commit_proxy.result.now).stage ≡ false = sym (seen found) ∙ search rules in
    let resolvers : c.len-2.result ≡ length k.resolvers.items = search rules in
    let logs : c.len-3.result ≡ length k.logs.items = search rules in
    rw (
      unused found,
      map-at seen_as k.commit_proxies.items c.args.proxy c.index-commit_proxy.result.now (there found),
      busy,
    )
    (λ i. Ok (record {
      entry = c.index-commit_proxy.result.now.entry;
      resolvers = (resolvers ∙ sym (length-map k.resolvers.items (λ (role : ResolverRole). role.taken))) i;
      logs = (logs ∙ sym (length-map k.logs.items (λ (role : LogRole). role.taken))) i;
    }))
