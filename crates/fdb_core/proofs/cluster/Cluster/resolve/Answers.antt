use Rattle.std.specs.Vec.{with_item}
use Rattle.std.proofs.Common.{◌≡◌, ◌∙◌, sym, ap, refl, Bool, List, ◌<◌, length, Some, slice_get, arith, rules}
use Rattle.fdb_core.specs.declared.roles.resolver.ResolverRole.{ResolverRole}
use Rattle.fdb_machine.specs.declared.step.AnyStep.TheVariants as step
use Rattle.fdb_core.specs.refinement.Cluster.{machine_of}
use Rattle.fdb_core.specs.refinement.Restoring.{failures_of, resolver_failed}
use Rattle.fdb_roles.proofs.Exports.{within-item, read-there, map-at}
use Rattle.fdb_core.proofs.refinement.resolver.Failing.{FoundHere, find-here, resolver-left, resolves-there}
use Rattle.fdb_core.proofs.refinement.resolver.Failing.{works-now}
use Rattle.fdb_core.proofs.refinement.resolver.Resolving.{found-within, found-part, found-lacks, found-resolved}
use Rattle.fdb_core.proofs.refinement.RestoringLemmas.{restored, restores-set, flag-at, flags-same}
use Rattle.fdb_core.proofs.refinement.StepLemmas.{accepted-restored, fails, kept, lacked, refuses}
use Rattle.fdb_core.proofs.cluster.Cluster.resolve.Goals as goal
use Rattle.fdb_core.proofs.cluster.Cluster.resolve.Goals.{After-as_slice}

-- a resolver that has failed takes nothing
pub returns-then-is_failed : goal.returns-then-is_failed
returns-then-is_failed c =
    let k = c.args.self.now in
    let role = c.index.result.now in
    let entry = within-item k.book.items c.args.entry (search rules) in
    let at : slice_get k.resolvers.items c.args.resolver ≡ Some role =
    read-there k.resolvers.items c.args.resolver role (search rules) c.index.ensures in
    let resolve = step.Resolve c.args.entry c.args.resolver in
    refuses resolve
    (fails k resolve (flag-at resolver_failed k.resolvers.items c.args.resolver role at ∙ sym c.if-is_failed.ensures)
    (resolves-there (machine_of k) c.args.entry c.args.resolver entry.0 role.taken entry.1
    (map-at (λ (of : ResolverRole). of.taken) k.resolvers.items c.args.resolver role at))) (kept k c.requires)

-- the entry, the resolver, and the parts in the pool
found : (c : After-as_slice)
    → FoundHere c.args.self.now c.requires c.args.entry c.args.resolver c.index_mut-role.result.now
    c.as_slice.result.now
found c =
    let k = c.args.self.now in
    let within : c.args.entry < length k.book.items = search rules in
    let exists : c.args.resolver < length k.resolvers.items = search rules in
    find-here k c.requires c.args.entry c.args.resolver c.index.result.now c.index-2.result.now
    c.index_mut-role.result.now c.index-3.result.now c.as_slice.result.now within exists c.index.ensures
    c.index-2.ensures c.index_mut-role.ensures.value c.index-3.ensures c.as_slice.ensures (sym c.if-is_failed.ensures)
    (omega (arith, c.if-entry-taken.false, c.if-taken-entry.false))

pub bounds-as_slice-of : goal.bounds-as_slice-of
bounds-as_slice-of c =
    found-within (restored c.args.self.now c.requires) c.requires.refines c.args.entry c.args.resolver
    c.index_mut-role.result.now c.as_slice.result.now (found (goal.at.bounds-as_slice-of c).After-as_slice).found

pub take-requires-clause-part : goal.take-requires-clause-part
take-requires-clause-part c =
    found-part (restored c.args.self.now c.requires) c.requires.refines c.args.entry c.args.resolver
    c.index_mut-role.result.now c.as_slice.result.now
    (found (goal.at.take-requires-clause-part c).After-as_slice).found c.index-as_slice-of.result
    c.index-as_slice-of.is

-- it lacks memory alone, and has failed then or is as it was
pub returns-in_err-answer : goal.returns-in_err-answer
returns-in_err-answer c =
    let k = c.args.self.now in
    let role = c.index_mut-role.result.now in
    let is = found (goal.at.returns-in_err-answer c).After-as_slice in
    lacked k (step.Resolve c.args.entry c.args.resolver) c.from_residual.result _ c.in_err-answer.field-0.0
    (search rules)
    (found-lacks (restored k c.requires) c.requires.refines c.args.entry c.args.resolver role c.as_slice.result.now
    is.found c.index-as_slice-of.result c.index-as_slice-of.is c.in_err-answer.field-0.0 c.take.new.self
    c.in_err-answer.ensures.takes)
    (resolver-left k c.requires c.args.entry c.args.resolver role c.take.new.self is.here is.works
    c.in_err-answer.ensures.left)

-- it took its part
pub returns : goal.returns
returns c =
    let k = c.args.self.now in
    let tied = c.requires in
    let resolver = c.args.resolver in
    let role = c.index_mut-role.result.now in
    let is = found (goal.at.returns c).After-as_slice in
    let later = c.take.new.self in
    let resolved = found-resolved (restored k tied) tied.refines c.args.entry resolver role c.as_slice.result.now
    is.found c.index-as_slice-of.result c.index-as_slice-of.is c.in_ok-answer.answer later c.in_ok-answer.ensures.takes
    in
    accepted-restored k _ (step.Resolve c.args.entry resolver) tied (record {
      roles = record tied.roles { resolvers = with_item tied.roles.resolvers resolver later };
      commit_proxies = tied.commit_proxies;
      resolvers = restores-set _ _ k.resolvers.items tied.roles.resolvers.items tied.resolvers resolver later;
      logs = tied.logs;
      shards = tied.shards;
      refines = resolved.1;
    }) (flag-at resolver_failed k.resolvers.items resolver role is.here ∙ is.works) resolved.0 refl refl
    (ap (λ (flags : List Bool). record (failures_of k) { resolvers = flags })
    (flags-same resolver_failed k.resolvers.items resolver role later is.here
    (works-now (restored k tied) resolver role later is.found.at resolved.1 ∙ sym is.works)))
