use Rattle.std.proofs.lemmas.Result.{err_from_is_err_and}
use Rattle.fdb_machine.specs.declared.step.AnyStep.TheVariants.{Resolve, Verdict}
use Rattle.fdb_play.proofs.lemmas.Driving.{second_refused}
use Rattle.fdb_play.proofs.play.driving.resolve_at.Goals as goal

pub returns-in_err-step-2 : goal.returns-in_err-step-2
returns-in_err-step-2 c =
    let p = err_from_is_err_and c.from_residual-in_err-step-2.result c.from_residual-in_err-step-2.ensures.1 in
    rw (p.1, p.2)
    (second_refused _ _ _ (Resolve c.args.entry c.args.resolver) (Verdict c.args.entry c.args.resolver) _ _
    c.in_ok-step.ensures.step
    c.in_err-step-2.ensures.step)
