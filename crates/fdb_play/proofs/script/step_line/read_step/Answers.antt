use Rattle.std.proofs.lemmas.Result.{err_from_is_err_and}
use Rattle.fdb_play.proofs.lemmas.Grammar.{step_of_rest}
use Rattle.fdb_play.proofs.script.step_line.read_step.Goals as goal

pub returns-in_err-step : goal.returns-in_err-step
returns-in_err-step c =
    let p = err_from_is_err_and c.from_residual-in_err-step.result c.from_residual-in_err-step.ensures.1 in
    rw (p.1, p.2) (step_of_rest c.args.first.now _ c.in_ok-kind.kind _ c.in_ok-kind.ensures c.in_err-step.ensures)
