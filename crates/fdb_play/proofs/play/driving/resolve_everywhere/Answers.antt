use Rattle.std.proofs.Common.{◌<◌, add-one, rules}
use Rattle.std.proofs.lemmas.Result.{err_from_is_err_and}
use Rattle.fdb_play.specs.play.Driving.{resolver_steps}
use Rattle.fdb_play.proofs.lemmas.Driving.{accepted_both, refused_at}
use Rattle.fdb_play.proofs.play.driving.resolve_everywhere.Goals as goal

pub returns-in_err-resolve_at : goal.returns-in_err-resolve_at
returns-in_err-resolve_at c =
    let p = err_from_is_err_and c.from_residual.result c.from_residual.ensures.1 in
    let below : c.loop-resolver.resolver < c.args.flight.resolvers = search rules in
    rw (p.1, p.2)
    (refused_at (resolver_steps c.args.flight.entry) _ _ _ _ c.loop-resolver.resolver c.args.flight.resolvers below
    c.loop-resolver.invariant c.in_err-resolve_at.ensures)

pub loop-resolver-preserved : goal.loop-resolver-preserved
loop-resolver-preserved c =
    rw add-one (accepted_both _ _ _ _ _ c.loop-resolver.invariant c.in_ok-resolve_at.ensures)
