use Rattle.fdb_core.specs.refinement.Starts.{IsNewResolver}
use Rattle.fdb_roles.proofs.Exports.{made-push}
use Rattle.fdb_core.proofs.roles.resolver.new_resolvers.Goals as goal

pub loop-index-preserved : goal.loop-index-preserved
loop-index-preserved c = made-push IsNewResolver
    c.loop-index.index c.loop-index.list.items c.push.new.self.items c.new.result c.in_ok-push.ensures.items
    c.loop-index.invariant.0 c.loop-index.invariant.1 (c.new.ensures.refines, c.new.ensures.taken)
