use Rattle.std.proofs.Common.{inl}
use Rattle.std.proofs.lemmas.Result.{err_from_is_err_and}
use Rattle.fdb_machine.specs.declared.step.AnyStep.TheVariants.{Decide, Report}
use Rattle.fdb_play.proofs.lemmas.Driving.{one_accepted, refused_first, refused_second, refused_third, refused_fourth}
use Rattle.fdb_play.proofs.lemmas.Driving.{answered_last}
use Rattle.fdb_play.proofs.play.driving.drive_whole.Goals as goal

pub returns-in_err-resolve_everywhere : goal.returns-in_err-resolve_everywhere
returns-in_err-resolve_everywhere c =
    let p = err_from_is_err_and c.from_residual.result c.from_residual.ensures.1 in
    rw (p.1, p.2) (refused_first _ _ _ _ _ _ _ _ c.in_err-resolve_everywhere.ensures)

pub returns-in_err-step : goal.returns-in_err-step
returns-in_err-step c =
    let p = err_from_is_err_and c.from_residual-in_err-step.result c.from_residual-in_err-step.ensures.1 in
    rw (p.1, p.2) (refused_second _ _ _ _ _ _ _ _ _ c.in_ok-resolve_everywhere.ensures (inl c.in_err-step.ensures.step))

pub returns-in_err-log_everywhere : goal.returns-in_err-log_everywhere
returns-in_err-log_everywhere c =
    let p = err_from_is_err_and c.from_residual-in_err-log_everywhere.result
    c.from_residual-in_err-log_everywhere.ensures.1 in
    rw (p.1, p.2)
    (refused_third _ _ _ _ _ _ _ _ _ _ c.in_ok-resolve_everywhere.ensures
    (one_accepted _ _ (Decide c.args.proxy) _ c.in_ok-step.ensures.step) c.in_err-log_everywhere.ensures)

pub returns-in_err-step-2 : goal.returns-in_err-step-2
returns-in_err-step-2 c =
    let p = err_from_is_err_and c.from_residual-in_err-step-2.result c.from_residual-in_err-step-2.ensures.1 in
    rw (p.1, p.2)
    (refused_fourth _ _ _ _ _ _ _ _ _ _ _ c.in_ok-resolve_everywhere.ensures
    (one_accepted _ _ (Decide c.args.proxy) _ c.in_ok-step.ensures.step) c.in_ok-log_everywhere.ensures
    (inl c.in_err-step-2.ensures.step))

pub returns : goal.returns
returns c =
    answered_last c.args.proxy c.args.flight _ _ _ _ _ _ c.step-3.result c.in_ok-resolve_everywhere.ensures
    (one_accepted _ _ (Decide c.args.proxy) _ c.in_ok-step.ensures.step) c.in_ok-log_everywhere.ensures
    (one_accepted _ _ (Report c.args.proxy) _ c.in_ok-step-2.ensures.step) c.step-3.ensures.step
