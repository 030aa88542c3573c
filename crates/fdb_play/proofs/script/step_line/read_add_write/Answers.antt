use Rattle.std.proofs.Common.{refl}
use Rattle.std.proofs.lemmas.Result.{err_from_is_err_and}
use Rattle.fdb_machine.specs.declared.step.AnyStep.TheVariants as made
use Rattle.fdb_play.specs.script.Grammar.{WritesBounds, bounds_fault, step_fault}
use Rattle.fdb_play.proofs.lemmas.Grammar.{number_fault}
use Rattle.fdb_play.proofs.script.step_line.read_add_write.Goals as goal

pub returns-in_err-range : goal.returns-in_err-range
returns-in_err-range c =
    let p = err_from_is_err_and c.from_residual-in_err-range.result c.from_residual-in_err-range.ensures.1 in
    rw (p.1, p.2)
    (number_fault (λ range rest. WritesBounds rest range) bounds_fault made.AddWrite
    step_fault _ _ _ _ c.in_ok-session.ensures.ok (λ range. refl) c.in_err-range.ensures)
