use Rattle.std.proofs.Common.{◌<◌, add-one, rules}
use Rattle.std.proofs.lemmas.Result.{err_from_is_err_and}
use Rattle.fdb_play.specs.play.Driving.{log_steps}
use Rattle.fdb_play.proofs.lemmas.Driving.{accepted_both, refused_at}
use Rattle.fdb_play.proofs.play.driving.log_everywhere.Goals as goal

pub returns-in_err-log_at : goal.returns-in_err-log_at
returns-in_err-log_at c =
    let p = err_from_is_err_and c.from_residual.result c.from_residual.ensures.1 in
    let below : c.loop-log.log < c.args.flight.logs = search rules in
    rw (p.1, p.2)
    (refused_at (log_steps c.args.flight.entry) _ _ _ _ c.loop-log.log c.args.flight.logs below c.loop-log.invariant
    c.in_err-log_at.ensures)

pub loop-log-preserved : goal.loop-log-preserved
loop-log-preserved c =
    rw add-one (accepted_both _ _ _ _ _ c.loop-log.invariant c.in_ok-log_at.ensures)
